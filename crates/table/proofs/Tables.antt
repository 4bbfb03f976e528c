-- Laws of the tables: what the records of a table tell once they are read (`frame_all`, `RowIs`), and the table as `jobs_from` holds it:
-- one more job, and the end. What follows of a list of records is in proofs/Listed.antt. Assumes nothing.
use Prim.Native.Nat.{ℕ, ◌+◌, ◌≤◌, ◌<◌}
use mathlib.Core.Path.{◌≡◌, sym, ap, subst, ◌∙◌}
use mathlib.Core.Bool.{Bool, true, false, cond, ◌&&◌}
use mathlib.Core.List.{List, [], ◌∷◌, ◌++◌}
use lib.ListN.{length, get_or, set, length-append}
use lib.Dec.{ltb, leb}
use native.Mathlib.Omega.{arith}
use borrow.Author.Tests.{ltb-true, leb-true}
use Rattle.model.specs.declared.Job.{Job}
use Rattle.model.specs.Positions.{no_job}
use Rattle.std.specs.Prelude.{Result, Ok, Err}
use Rattle.model.proofs.Lists.{clash}
use Rattle.octets.specs.Numbers.{two_at}
use Rattle.model.proofs.Tests.{cond_all, both}
use Rattle.records.specs.declared.refusal.Place.{Place}
use Rattle.records.specs.declared.refusal.Refusal.{Refusal}
use Rattle.records.specs.declared.refusal.Refusal.TheVariants.{After}
use Rattle.records.specs.declared.kind.FrameKind.{FrameKind}
use Rattle.records.specs.declared.record.Record.{Record}
use Rattle.records.specs.declared.record.Whole.{Whole}
use Rattle.records.specs.declared.kind.RowKind.{RowKind}
use Rattle.records.specs.declared.kind.RowKind.TheVariants.{HereRow, EitherRow, EndRow}
use Rattle.table.specs.declared.Table.{Table}
use Rattle.records.specs.Limits.{most_jobs, largest_time}
use Rattle.records.specs.Refusals.{past, Outcome, accepted, refused}
use Rattle.records.specs.Kinds.{frame_kind, here_kind, either_kind, table_end}
use Rattle.records.specs.Records.{frame_only, row_only, opened, Parsed, one, last, bad, parsed, ended_at}
use Rattle.table.specs.Tables.{time_ok, deadline_at, frame_at, here_at, either_at, row_body, job_at}
use Rattle.table.specs.Tables.{JobTable, with_deadline, table_of, table_read}
use Rattle.records.proofs.Records.{row_byte, row_length, frame_kind_lem, row_kind, is_frame, is_row, judged_all, judged_opened, opened_whole}
use Rattle.records.proofs.Listed.{padded_more}

-- what holds of every refusal and of a whole frame record holds of the first record
pub frame_all :
    (s : List ℕ) (p : Place) (P : Result (ℕ × Place) Refusal → Type 0) → ((f : Refusal) → P (Err f)) →
    (get_or s p.at 0 ≡ frame_kind → (past p 2).at ≤ length s → 1 ≤ two_at s (p.at + 1) → two_at s (p.at + 1) ≤ largest_time →
    P (Ok (two_at s (p.at + 1), past p 2))) →
    P (frame_at s p)
unfolding frame_at
frame_all s p P out frame =
    let D = two_at s (p.at + 1) in
    judged_all Err (λ (next : Place) (k : FrameKind). deadline_at s p next) frame_only s p P out
    (λ k form there told may fits.
    let f = frame_kind_lem (get_or s p.at 0) form told (is_frame _ k may) in
    rw f.1
    (cond_all P (ltb 0 D && time_ok D)
    (λ e.
    let t = both _ _ e in
    frame f.0 (omega (arith, f.1)) (ltb-true _ _ t.0) (leb-true _ _ t.1))
    (λ e. out _)))

-- What `opened` answers of the first record, and what the record then is: its refusal; or the deadline's, and its bytes are there.
pub record FrameOpened (s : List ℕ) (p : Place) (a : Result (Whole FrameKind) Refusal) : Type 0 where
  pub out : (f : Refusal) → a ≡ Err f → frame_at s p ≡ Err f
  pub in_it : (w : Whole FrameKind) → a ≡ Ok w → frame_at s p ≡ deadline_at s p w.next
  pub long : (w : Whole FrameKind) → a ≡ Ok w → p.at + 3 ≤ length s

pub frame_opened : (s : List ℕ) (p : Place) {a : Result (Whole FrameKind) Refusal} → a ≡ opened frame_only s p → FrameOpened s p a
unfolding frame_at
frame_opened s p {a} e =
    let same = judged_opened Err (λ (next : Place) (k : FrameKind). deadline_at s p next) frame_only s p in
    record {
      out = λ f h. same.out f (sym e ∙ h);
      in_it = λ w h. same.in_it w (sym e ∙ h);
      long = λ w h.
          let is = opened_whole frame_only s p w e h in
          omega (arith, is.fits, (frame_kind_lem (get_or s p.at 0) is.form is.told (is_frame _ w.kind is.means)).1);
    }

-- The same of a record after the first: its refusal, or what its row's body is, and the body is there.
pub record RowOpened (s : List ℕ) (p : Place) (n : ℕ) (a : Result (Whole RowKind) Refusal) : Type 0 where
  pub out : (f : Refusal) → a ≡ Err f → job_at s p n ≡ Err f
  pub in_it : (w : Whole RowKind) → a ≡ Ok w → job_at s p n ≡ row_body s p n w.next w.kind
  pub long : (w : Whole RowKind) → a ≡ Ok w → p.at + 1 + row_length w.kind ≤ length s

pub row_opened : (s : List ℕ) (p : Place) (n : ℕ) {a : Result (Whole RowKind) Refusal} → a ≡ opened row_only s p → RowOpened s p n a
unfolding job_at
row_opened s p n {a} e =
    let same = judged_opened Err (row_body s p n) row_only s p in
    record {
      out = λ f h. same.out f (sym e ∙ h);
      in_it = λ w h. same.in_it w (sym e ∙ h);
      long = λ w h.
          let is = opened_whole row_only s p w e h in
          omega (arith, is.fits, (row_kind (get_or s p.at 0) w.kind is.form is.told (is_row _ w.kind is.means)).1);
    }

-- the reading of one record after the first
abbrev pub row_parsed : List ℕ → Place → ℕ → Parsed Job
row_parsed s p n = parsed (job_at s p n)

-- What it comes to, and what that tells: a job is whole, with its times in range, and there is room for it beside the n before.
pub data RowIs (s : List ℕ) (p : Place) (n : ℕ) : Parsed Job → Type 0 where
  row_here :
      get_or s p.at 0 ≡ here_kind → (past p 3).at ≤ length s → n < most_jobs →
      two_at s (p.at + 2) ≤ largest_time → RowIs s p n (one (here_at s p) (past p 3))
  row_either :
      get_or s p.at 0 ≡ either_kind → (past p 7).at ≤ length s → n < most_jobs →
      two_at s (p.at + 2) ≤ largest_time → two_at s (p.at + 4) ≤ largest_time → two_at s (p.at + 6) ≤ largest_time →
      RowIs s p n (one (either_at s p) (past p 7))
  row_end : get_or s p.at 0 ≡ table_end → (past p 0).at ≤ length s → RowIs s p n (last (past p 0))
  row_out : (f : Refusal) → RowIs s p n (bad f)

module _ (s : List ℕ) (p : Place) (n : ℕ) where
  abbrev Tells : Result (Record Job) Refusal → Type 0
  Tells a = RowIs s p n (parsed a)

  body_tells : (k : RowKind) → get_or s p.at 0 ≡ row_byte k → (past p (row_length k)).at ≤ length s → Tells (row_body s p n (past p (row_length k)) k)
  body_tells HereRow b h =
      cond_all Tells (ltb n most_jobs)
      (λ few. cond_all Tells (time_ok (two_at s (p.at + 2))) (λ t. row_here b h (ltb-true _ _ few) (leb-true _ _ t)) (λ o. row_out _))
      (λ o. row_out _)
  body_tells EitherRow b h =
      cond_all Tells (ltb n most_jobs)
      (λ few.
      cond_all Tells (time_ok (two_at s (p.at + 2)) && (time_ok (two_at s (p.at + 4)) && time_ok (two_at s (p.at + 6))))
      (λ t.
      let l = both _ _ t in
      let m = both _ _ l.1 in
      row_either b h (ltb-true _ _ few) (leb-true _ _ l.0) (leb-true _ _ m.0) (leb-true _ _ m.1))
      (λ o. row_out _))
      (λ o. row_out _)
  body_tells EndRow b h = row_end b h

  pub row_is : {a : Parsed Job} → row_parsed s p n ≡ a → RowIs s p n a
  unfolding job_at
  row_is e =
      subst (RowIs s p n) e
      (judged_all Err (row_body s p n) row_only s p Tells row_out
      (λ k form there told may fits.
      let row = row_kind (get_or s p.at 0) k form told (is_row _ k may) in
      rw row.1 (body_tells k row.0 (omega (arith, row.1)))))

-- a job is read only while there is room
pub row_few : {s : List ℕ} {p : Place} {n : ℕ} {j : Job} {next : Place} → RowIs s p n (one j next) → n < most_jobs
row_few (row_here b h few t) = few
row_few (row_either b h few t u v) = few

-- one more job in the array is one more job of the table
pub table_more :
    (t : Table) (D : ℕ) (js : List Job) (j : Job) → t ≡ table_of D js → length js < most_jobs →
    record { deadline = t.deadline; count = t.count + 1; jobs = set t.jobs t.count j } ≡ table_of D (js ++ (j ∷ []))
table_more t D js j held room = rw (held, padded_more js j no_job most_jobs room, length-append js (j ∷ []))

-- how the reader ends, at the end record of a file whose jobs it holds
pub record EndRead (s : List ℕ) (p : Place) (t : Table) (o : Outcome JobTable) : Type 0 where
  pub out : (f : Refusal) → ended_at s p ≡ Err f → Err f ≡ table_read o
  pub in_it : (u : Unit {0}) → ended_at s p ≡ Ok u → Ok t ≡ table_read o

pub end_read :
    {o : Outcome (List Job)} {t : Table} (D : ℕ) (js : List Job) (s : List ℕ) (p : Place) → t ≡ table_of D js →
    cond (leb (length s) p.at) (accepted js) (refused (After p)) ≡ o → EndRead s p t (with_deadline D o)
end_read {o} {t} D js s p held e =
    record {
      out = λ f h. (step (leb (length s) p.at) e).0 f h;
      in_it = λ u h. (step (leb (length s) p.at) e).1 u h;
    }
  where
    Out : Bool → Type 0
    Out b = (f : Refusal) → ◌≡◌ {A = Result (Unit {0}) Refusal} (cond b (Ok tt) (Err (After p))) (Err f) → Err f ≡ table_read (with_deadline D o)

    In : Bool → Type 0
    In b = (u : Unit {0}) → ◌≡◌ {A = Result (Unit {0}) Refusal} (cond b (Ok tt) (Err (After p))) (Ok u) → Ok t ≡ table_read (with_deadline D o)

    step : (b : Bool) → cond b (accepted js) (refused (After p)) ≡ o → Out b × In b
    step true x = (λ f k. clash (cc), λ u k. rw held (ap (λ (y : Outcome (List Job)). table_read (with_deadline D y)) x))
    step false x =
        (λ f k. let same : After p ≡ f = cc in rw (← same) (ap (λ (y : Outcome (List Job)). table_read (with_deadline D y)) x), λ u k. clash (cc))
