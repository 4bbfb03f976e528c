-- The first 267 bytes settle the text, whatever follows: the 33rd job's record begins at 259 at the latest, and eight bytes tell it whole or cut.
-- So a reader may stop at 267 bytes or at any number above. Assumes nothing.
use mathlib.Core.Path.{◌≡◌, refl, ap}
use mathlib.Core.Bool.{Bool, true, false, cond}
use mathlib.Core.List.{List, [], ◌∷◌, ◌++◌, map}
use Rattle.std.specs.Prelude.{Option, None, Some, Result, Err}
use Prim.Native.Nat.{ℕ, zero, suc, ◌+◌, ◌-◌, ◌≤◌, ◌<◌}
use native.Mathlib.Omega.{arith}
use lib.ListN.{length, take, get_or, length-take}
use lib.Seq.{get_or-take}
use lib.Dec.{ltb, leb}
use borrow.Author.Tests.{ltb-true, ltb-false, leb-true, leb-false, lt-ltb, le-ltb, le-leb, lt-leb}
use Rattle.model.specs.declared.Job.{Job}
use Rattle.model.proofs.Lists.{clash}
use Rattle.records.specs.declared.refusal.Refusal.{Refusal}
use Rattle.records.specs.declared.refusal.Refusal.TheVariants.{Short, Twice, After}
use Rattle.records.specs.declared.kind.FrameKind.{FrameKind}
use Rattle.records.specs.declared.kind.RowKind.{RowKind}
use Rattle.records.specs.declared.kind.RowKind.TheVariants.{HereRow, EitherRow, EndRow}
use Rattle.records.specs.declared.kind.StepKind.{StepKind}
use Rattle.records.specs.declared.kind.StepKind.TheVariants.{HereStep, AwayStep, EndStep}
use Rattle.records.specs.declared.kind.Meaning.{Meaning}
use Rattle.records.specs.declared.kind.Form.{Form}
use Rattle.records.specs.declared.refusal.Place.{Place}
use Rattle.records.specs.Limits.{most_jobs}
use Rattle.records.specs.Refusals.{start, past, Outcome, accepted, refused}
use Rattle.records.specs.Records.{form_of, frame_only, row_only, allowed, known, judged, parsed, Parsed, one, last, bad, used, follow, list_from}
use Rattle.table.specs.Tables.{deadline_at, frame_at, row_body, job_at, job_id, jobs_read, with_deadline, after_frame, read_table}
use Rattle.records.proofs.Records.{row_length, step_length, form_all}
use Rattle.table.proofs.Tables.{frame_all, row_parsed, row_is}
use Rattle.listing.specs.Listing.{outcome_text, text_of}
use Rattle.table.proofs.Written.{end_next}
use Rattle.listing.proofs.Places.{Near, near_first, near_next}

-- no body has more than seven bytes
row_short : (k : RowKind) → row_length k ≤ 7
row_short HereRow = omega arith
row_short EitherRow = omega arith
row_short EndRow = omega arith

step_short : (k : StepKind) → step_length k ≤ 7
step_short HereStep = omega arith
step_short AwayStep = omega arith
step_short EndStep = omega arith

body_short : (b : ℕ) (f : Form) → form_of b ≡ Some f → f.body ≤ 7
body_short =
    form_all (λ (n : ℕ) (o : Option Form). (f : Form) → o ≡ Some f → f.body ≤ 7)
    (λ f e. of_length 2 f (cc) (omega arith)) (λ k f e. of_length (row_length k) f (cc) (row_short k))
    (λ k f e. of_length (step_length k) f (cc) (step_short k)) (λ n f e. clash (cc))
  where
    of_length : (n : ℕ) (f : Form) → n ≡ f.body → n ≤ 7 → f.body ≤ 7
    of_length n f e h = rw e at h

module _ (s : List ℕ) (N : ℕ) (enough : 267 ≤ N) where
  abbrev front : List ℕ
  front = take N s

  byte : (i : ℕ) → i < N → get_or front i 0 ≡ get_or s i 0
  byte i h = get_or-take N s i 0 h

  -- the tests of the length come out alike: a byte is left, a body is whole, nothing stands after the end
  here_same : (at : ℕ) → at < N → ltb at (length front) ≡ ltb at (length s)
  here_same at h = go (ltb at (length s)) refl
    where
      go : (t : Bool) → ltb at (length s) ≡ t → ltb at (length front) ≡ t
      go true e = lt-ltb at (length front) (omega (arith, ltb-true at (length s) e, length-take N s))
      go false e = le-ltb at (length front) (omega (arith, ltb-false at (length s) e, length-take N s))

  whole_same : (at body : ℕ) → at + 1 + body ≤ N → leb body (length front - (at + 1)) ≡ leb body (length s - (at + 1))
  whole_same at body h = go (leb body (length s - (at + 1))) refl
    where
      go : (t : Bool) → leb body (length s - (at + 1)) ≡ t → leb body (length front - (at + 1)) ≡ t
      go true e = le-leb body (length front - (at + 1)) (omega (arith, leb-true body (length s - (at + 1)) e, length-take N s))
      go false e = lt-leb body (length front - (at + 1)) (omega (arith, leb-false body (length s - (at + 1)) e, length-take N s))

  end_same : (p : ℕ) → p < N → leb (length front) p ≡ leb (length s) p
  end_same p h = go (leb (length s) p) refl
    where
      go : (t : Bool) → leb (length s) p ≡ t → leb (length front) p ≡ t
      go true e = le-leb (length front) p (omega (arith, leb-true (length s) p e, length-take N s))
      go false e = lt-leb (length front) p (omega (arith, leb-false (length s) p e, length-take N s))

  -- a record that begins eight bytes before N is judged alike
  judged_same :
      {K R : Type 0} (refuse : Refusal → R) (read read' : Place → K → R) (may : Meaning → Option K) (p : Place) → p.at + 8 ≤ N →
      ((next : Place) (k : K) → read' next k ≡ read next k) → judged refuse read' may front p ≡ judged refuse read may s p
  unfolding judged
  judged_same {K} {R} refuse read read' may p h same =
      rw (byte p.at (omega arith), here_same p.at (omega arith))
      (ap (λ (r : R). cond (ltb p.at (length s)) r (refuse (Short p))) (known_same (form_of (get_or s p.at 0)) refl))
    where
      meant : (body : ℕ) (whole : Bool) (o : Option K) → allowed refuse read' p body whole o ≡ allowed refuse read p body whole o
      meant body whole None = refl
      meant body whole (Some k) = ap (λ (r : R). cond whole r (refuse (Short p))) (same (past p body) k)

      known_same : (o : Option Form) → form_of (get_or s p.at 0) ≡ o → known refuse read' may front p o ≡ known refuse read may s p o
      known_same None told = refl
      known_same (Some f) told =
          let short = body_short (get_or s p.at 0) f told in
          rw (whole_same p.at f.body (omega arith)) (meant f.body (leb f.body (length s - (p.at + 1))) (may f.meaning))

  frame_same : frame_at front start ≡ frame_at s start
  unfolding frame_at
  frame_same =
      judged_same Err (λ (next : Place) (k : FrameKind). deadline_at s start next) (λ (next : Place) (k : FrameKind). deadline_at front start next)
      frame_only start (omega arith)
      (λ next u. rw (byte 1 (omega arith), byte 2 (omega arith)))

  body_same : (p : Place) (n : ℕ) → p.at + 8 ≤ N → (next : Place) (k : RowKind) → row_body front p n next k ≡ row_body s p n next k
  body_same p n h next HereRow = simp (byte (p.at + 1) (omega arith), byte (p.at + 2) (omega arith), byte (p.at + 2 + 1) (omega arith))
  body_same p n h next EitherRow =
      simp (
        byte (p.at + 1) (omega arith),
        byte (p.at + 2) (omega arith),
        byte (p.at + 2 + 1) (omega arith),
        byte (p.at + 4) (omega arith),
        byte (p.at + 4 + 1) (omega arith),
        byte (p.at + 6) (omega arith),
        byte (p.at + 6 + 1) (omega arith),
      )
  body_same p n h next EndRow = refl

  row_same : (p : Place) (n : ℕ) → p.at + 8 ≤ N → row_parsed front p n ≡ row_parsed s p n
  unfolding job_at
  row_same p n h = ap parsed (judged_same Err (row_body s p n) (row_body front p n) row_only p h (body_same p n h))

  -- and so are all records
  list_same :
      (left : ℕ) (before : List Job) (p : Place) → Near before p →
      list_from job_id (row_parsed front) (length front) left before p ≡ list_from job_id (row_parsed s) (length s) left before p
  unfolding list_from
  list_same zero before p near = refl
  list_same (suc left) before p near =
      let few = near.few in
      let close = near.near in
      rw (row_same p (length before) (omega arith)) (go (row_parsed s p (length before)) refl (list_same left))
    where
      go :
          (a : Parsed Job) → row_parsed s p (length before) ≡ a →
          ((js : List Job) (q : Place) → Near js q →
          list_from job_id (row_parsed front) (length front) left js q ≡ list_from job_id (row_parsed s) (length s) left js q) →
          follow job_id (row_parsed front) (length front) (list_from job_id (row_parsed front) (length front) left) before p a ≡
          follow job_id (row_parsed s) (length s) (list_from job_id (row_parsed s) (length s) left) before p a
      go (one j next) e on =
          ap (λ (o : Outcome (List Job)). cond (used (map job_id before) (job_id j)) (refused (Twice p)) o)
          (on (before ++ (j ∷ [])) next (near_next near (row_is s p (length before) e)))
      go (last next) e on =
          let few = near.few in
          let close = near.near in
          let there : next.at ≡ p.at + 1 + 0 = ap (λ (q : Place). q.at) (end_next (row_is s p (length before) e)) in
          ap (λ (t : Bool). cond t (accepted before) (refused (After next))) (end_same next.at (omega arith))
      go (bad f) e on = refl

  pub read_settled : read_table front ≡ read_table s
  unfolding read_table jobs_read
  read_settled =
      rw frame_same
      (frame_all s start (λ (a : Result (ℕ × Place) Refusal). after_frame front a ≡ after_frame s a)
      (λ f. refl)
      (λ kind whole low high. ap (with_deadline _) (list_same (suc most_jobs) [] (past start 2) near_first)))

  pub settled_by : text_of front ≡ text_of s
  unfolding text_of
  settled_by = ap outcome_text read_settled
