-- Every byte string is the bytes of one good table or has one fault, and `read_table` says which (`table_is`). Assumes nothing.
use Prim.Native.Nat.{ℕ, ◌+◌, ◌*◌, ◌≤◌, ◌<◌}
use native.Mathlib.Omega.{arith}
use mathlib.Core.Path.{◌≡◌, refl, sym, ap, subst, ◌∙◌}
use mathlib.Core.Logic.{◌⊎◌, inl, inr, ◌↔◌}
use mathlib.Core.Bool.{Bool, true, false, cond, ◌&&◌}
use mathlib.Core.List.{List, [], ◌∷◌, ◌++◌, map, flat_map}
use Rattle.std.specs.Prelude.{None, Some, Ok, Err}
use lib.ListN.{length, drop}
use lib.Dec.{ltb}
use borrow.Author.Tests.{lt-ltb, le-ltb, le-leb, ltb-true, leb-true}
use Rattle.model.specs.declared.Sending.{Sending}
use Rattle.model.specs.declared.Sending.TheVariants.{HereOnly, Either}
use Rattle.model.specs.declared.Job.{Job}
use Rattle.model.specs.Lists.{All}
use Rattle.model.proofs.Lists.{clash, member_all}
use Rattle.octets.specs.Numbers.{two_bytes}
use Rattle.octets.proofs.Numbers.{two_from, two_whole, two_parts}
use Rattle.records.specs.declared.refusal.Place.{Place}
use Rattle.records.specs.declared.refusal.Refusal.{Refusal}
use Rattle.records.specs.declared.refusal.Refusal.TheVariants.{Range, Many}
use Rattle.records.specs.declared.kind.FrameKind.{FrameKind}
use Rattle.records.specs.declared.kind.RowKind.{RowKind}
use Rattle.records.specs.declared.kind.RowKind.TheVariants.{HereRow, EitherRow, EndRow}
use Rattle.records.specs.declared.kind.Meaning.{Meaning}
use Rattle.records.specs.declared.kind.Meaning.TheVariants as means
use Rattle.records.specs.declared.kind.Form.{Form}
use Rattle.records.specs.Limits.{most_jobs, largest_time}
use Rattle.records.specs.Refusals.{start, past, Outcome, accepted, refused}
use Rattle.records.specs.Records.{form, form_of, frame_only, row_only, bad, parsed}
use Rattle.table.specs.Tables.{JobTable, TimesOk, time_ok, deadline_at, frame_at, row_body, job_at}
use Rattle.table.specs.Tables.{job_id, jobs_read, after_frame, with_deadline, read_table}
use Rattle.table.specs.Tables.{sending_bytes, job_bytes, table_bytes}
use Rattle.records.proofs.Records.{row_byte, form_all, frame_form, whole}
use Rattle.model.proofs.Tests.{both}
use Rattle.table.proofs.Tables.{row_parsed}
use Rattle.table.proofs.Written.{jobs_flat}
use Rattle.table.proofs.ReadBack.{row_open, job_any, job_back, end_back, bytes_read}
use Rattle.faults.specs.Faults.{Byte, joined, behind, frame_kinds, row_kinds, Unread, ListFault, fault, GoodList, DeadlineOk, frame_bytes}
use Rattle.faults.specs.Faults.{TableFault, in_frame, deadline, in_row, TableIs}
use Rattle.faults.proofs.Files.{Others, Whole, unread_or_whole, listed_or_fault, unread_refused, fault_refused, exactly, exactly_one}

-- two bytes are a number's
word_is : (l : List ℕ) → 2 ≤ length l → All Byte l → (w : ℕ) × (more : List ℕ) × (l ≡ two_bytes w ++ more) × (length l ≡ 2 + length more) × All Byte more
word_is [] h bytes = absurd (omega arith)
word_is (a ∷ []) h bytes = absurd (omega arith)
word_is (a ∷ b ∷ more) h bytes = (a + 256 * b, more, ap (λ (l : List ℕ). l ++ more) (sym (two_parts a b bytes.0)), omega arith, bytes.1.1)

-- a whole record is a job, or the end
abbrev Row : List ℕ → Type 0
Row rest = ((j : Job) × (more : List ℕ) × (rest ≡ job_bytes j ++ more) × All Byte more) ⊎ ((more : List ℕ) × (rest ≡ 0x1F ∷ more))

here_is : (more : List ℕ) → All Byte more → 3 ≤ length more → Row (0x11 ∷ more)
here_is [] bytes h = absurd (omega arith)
here_is (id ∷ l) bytes h =
    let C = word_is l (omega arith) bytes.1 in
    inl (record { id = id; local = C.0; sending = HereOnly }, C.1, ap (λ (m : List ℕ). 0x11 ∷ id ∷ m) C.2, C.4)

either_bytes :
    (id C S I : ℕ) (l m n more : List ℕ) → l ≡ two_bytes C ++ m → m ≡ two_bytes S ++ n → n ≡ two_bytes I ++ more →
    0x12 ∷ id ∷ l ≡ sending_bytes id C (Either S I) ++ more
either_bytes id C S I l m n more e f g = rw (e, f, g)

either_is : (more : List ℕ) → All Byte more → 7 ≤ length more → Row (0x12 ∷ more)
either_is [] bytes h = absurd (omega arith)
either_is (id ∷ l) bytes h =
    let C = word_is l (omega arith) bytes.1 in
    let S = word_is C.1 (omega (arith, C.3)) C.4 in
    let I = word_is S.1 (omega (arith, C.3, S.3)) S.4 in
    inl (
      record { id = id; local = C.0; sending = Either S.0 I.0 },
      I.1,
      either_bytes id C.0 S.0 I.0 l C.1 S.1 I.1 C.2 S.2 I.2,
      I.4,
    )

record_is : (rest : List ℕ) → Whole row_kinds rest → All Byte rest → Row rest
record_is rest w bytes =
    let after : All Byte w.more = (subst (All Byte) w.is bytes).1 in
    subst Row (sym w.is)
    (member_all (λ (r : ℕ × ℕ). r.1 ≤ length w.more → Row (r.0 ∷ w.more))
    (here_is w.more after, (either_is w.more after, ((λ h. inr (w.more, refl)), tt))) w.allowed w.there)

-- a whole frame record holds a number
abbrev Frame : List ℕ → Type 0
Frame rest = (D : ℕ) × (more : List ℕ) × (rest ≡ frame_bytes D ++ more) × All Byte more

number_is : (more : List ℕ) → All Byte more → 2 ≤ length more → Frame (0x10 ∷ more)
number_is more bytes h = let D = word_is more h bytes in (D.0, D.1, ap (λ (m : List ℕ). 0x10 ∷ m) D.2, D.4)

frame_is : (rest : List ℕ) → Whole frame_kinds rest → All Byte rest → Frame rest
frame_is rest w bytes =
    subst Frame (sym w.is)
    (member_all (λ (r : ℕ × ℕ). r.1 ≤ length w.more → Frame (r.0 ∷ w.more))
    (number_is w.more (subst (All Byte) w.is bytes).1, tt) w.allowed w.there)

-- the kinds of a table's records
frame_others : (k : ℕ) → Others frame_only frame_kinds k (form_of k)
frame_others k =
    form_all (Others frame_only frame_kinds)
    (λ h f e. absurd (h.0 refl)) (λ j h f e. other (means.Row j) refl f e) (λ j h f e. other (means.Step j) refl f e) (λ b h f e. clash (cc)) k
  where
    other : (m : Meaning) {n : ℕ} → frame_only m ≡ None → (f : Form) → form m n ≡ Some f → frame_only f.meaning ≡ None
    other m q f e = let is : m ≡ f.meaning = cc in rw is at q

not_row : (k : RowKind) → All (λ (r : ℕ × ℕ). ¬ (row_byte k ≡ r.0)) row_kinds → ⊥
not_row HereRow h = h.0 refl
not_row EitherRow h = h.1.0 refl
not_row EndRow h = h.1.1.0 refl

row_others : (k : ℕ) → Others row_only row_kinds k (form_of k)
row_others k =
    form_all (Others row_only row_kinds)
    (λ h f e. other means.Frame refl f e) (λ j h f e. absurd (not_row j h)) (λ j h f e. other (means.Step j) refl f e) (λ b h f e. clash (cc)) k
  where
    other : (m : Meaning) {n : ℕ} → row_only m ≡ None → (f : Form) → form m n ≡ Some f → row_only f.meaning ≡ None
    other m q f e = let is : m ≡ f.meaning = cc in rw is at q

frame_these : All (λ (r : ℕ × ℕ). (f : Form) × (form_of r.0 ≡ Some f) × (j : FrameKind) × (frame_only f.meaning ≡ Some j) × (f.body ≡ r.1)) frame_kinds
unfolding form_of
frame_these = ((_, refl, record {}, refl, refl), tt)

row_these : All (λ (r : ℕ × ℕ). (f : Form) × (form_of r.0 ≡ Some f) × (j : RowKind) × (row_only f.meaning ≡ Some j) × (f.body ≡ r.1)) row_kinds
unfolding form_of
row_these = ((_, refl, HereRow, refl, refl), ((_, refl, EitherRow, refl, refl), ((_, refl, EndRow, refl, refl), tt)))

-- Times in range or not, and a deadline, as they are judged.
abbrev fine : ℕ → Sending → Bool
fine C HereOnly = time_ok C
fine C (Either S I) = time_ok C && (time_ok S && time_ok I)

fine_iff : (id C : ℕ) (d : Sending) → (fine C d ≡ true) ↔ TimesOk largest_time (record { id = id; local = C; sending = d })
fine_iff id C HereOnly = ((λ e. record { local = leb-true C largest_time e; setup = omega arith; back = omega arith }), (λ t. le-leb C largest_time t.local))
fine_iff id C (Either S I) = (
  (λ e.
      let c = both _ _ e in
      let d = both _ _ c.1 in
      record { local = leb-true C largest_time c.0; setup = leb-true S largest_time d.0; back = leb-true I largest_time d.1 }),
  (λ t. rw (le-leb C largest_time t.local, le-leb S largest_time t.setup, le-leb I largest_time t.back)),
)

deadline_iff : (D : ℕ) → ((ltb 0 D && time_ok D) ≡ true) ↔ DeadlineOk D
deadline_iff D = (
  (λ e. let c = both _ _ e in (ltb-true 0 D c.0, leb-true D largest_time c.1)),
  (λ d. rw (lt-ltb 0 D d.0, le-leb D largest_time d.1)),
)

-- what a test tells holds or not, and where it does not the test fails
decided : {P : Type 0} (b : Bool) → (b ≡ true) ↔ P → P ⊎ ¬ P
decided true h = inl (h.0 refl)
decided false h = inr (λ p. clash (cc (h.1 p)))

fails : {P : Type 0} (b : Bool) → (b ≡ true) ↔ P → ¬ P → b ≡ false
fails true h out = absurd (out (h.0 refl))
fails false h out = refl

module _ (s : List ℕ) (p : Place) (n : ℕ) where
  is_unread : (rest : List ℕ) (f : Refusal) → Unread row_kinds p rest f → drop p.at s ≡ rest → row_parsed s p n ≡ bad f
  unfolding job_at
  is_unread rest f u e = ap parsed (unread_refused Err (row_body s p n) row_only row_kinds row_others row_these s p u e)

  is_many : (id C : ℕ) (d : Sending) (more : List ℕ) → drop p.at s ≡ sending_bytes id C d ++ more → most_jobs ≤ n → row_parsed s p n ≡ bad (Many p)
  is_many id C HereOnly more e h = row_open s p _ e n HereRow refl (omega arith) ∙ simp (le-ltb n most_jobs h)
  is_many id C (Either S I) more e h = row_open s p _ e n EitherRow refl (omega arith) ∙ simp (le-ltb n most_jobs h)

  is_range :
      (id C : ℕ) (d : Sending) (more : List ℕ) → drop p.at s ≡ sending_bytes id C d ++ more → n < most_jobs → fine C d ≡ false →
      row_parsed s p n ≡ bad (Range p)
  is_range id C HereOnly more e h out =
      let l = sending_bytes id C HereOnly ++ more in
      row_open s p l e n HereRow refl (omega arith) ∙ simp (lt-ltb n most_jobs h, two_from s p.at l e 2, two_whole C, out)
  is_range id C (Either S I) more e h out =
      let l = sending_bytes id C (Either S I) ++ more in
      row_open s p l e n EitherRow refl (omega arith) ∙
      simp (lt-ltb n most_jobs h, two_from s p.at l e 2, two_from s p.at l e 4, two_from s p.at l e 6, two_whole C, two_whole S, two_whole I, out)

-- the places of a table's first record and of the next
first_place : behind [] ≡ start
unfolding flat_map
first_place = refl

next_place : (D : ℕ) → behind (frame_bytes D ∷ []) ≡ past start 2
unfolding flat_map
next_place D = refl

frame_reads :
    (D : ℕ) (more : List ℕ) →
    frame_at (frame_bytes D ++ more) start ≡ cond (ltb 0 D && time_ok D) (Ok (D, past start 2)) (Err (Range start))
unfolding frame_at
frame_reads D more =
    let s = frame_bytes D ++ more in
    whole Err (λ (next : Place) (k : FrameKind). deadline_at s start next) frame_only s start frame_form (omega arith) (record {}) refl (omega arith) ∙
    simp (two_whole D)

pub table_flat : (D : ℕ) (js : List Job) → table_bytes (record { deadline = D; jobs = js }) ≡ frame_bytes D ++ flat_map job_bytes js ++ (0x1F ∷ [])
unfolding table_bytes
table_flat D js = ap (λ (l : List ℕ). frame_bytes D ++ l) (jobs_flat js)

-- every byte string is a table's or has a fault
pub table_or_fault : (s : List ℕ) → All Byte s → (o : Outcome JobTable) × TableIs s o
unfolding flat_map
table_or_fault s bytes = step (unread_or_whole frame_kinds (behind []) s)
  where
    rows :
        (D : ℕ) → DeadlineOk D → ((js : List Job) × GoodList job_id (TimesOk largest_time) js × (s ≡ frame_bytes D ++ flat_map job_bytes js ++ (0x1F ∷ []))) ⊎
        ((f : Refusal) × ListFault job_id job_bytes (TimesOk largest_time) row_kinds 0x1F (frame_bytes D ∷ []) s f) → (o : Outcome JobTable) × TableIs s o
    rows D ok (inl t) = (
      accepted (record { deadline = D; jobs = t.0 }),
      (record { few = t.1.few; distinct = t.1.distinct; times = t.1.each; low = ok.0; high = ok.1 }, t.2 ∙ sym (table_flat D t.0)),
    )
    rows D ok (inr f) = (refused f.0, in_row D ok f.1)

    judged : (D : ℕ) (more : List ℕ) → s ≡ frame_bytes D ++ more → All Byte more → DeadlineOk D ⊎ ¬ DeadlineOk D → (o : Outcome JobTable) × TableIs s o
    judged D more e b (inl ok) =
        rows D ok
        (rw (← e) at (listed_or_fault job_id job_bytes (TimesOk largest_time) row_kinds 0x1F Byte
        (λ j. decided (fine j.local j.sending) (fine_iff j.id j.local j.sending)) record_is (frame_bytes D ∷ []) more b))
    judged D more e b (inr out) = (refused (Range (behind [])), rw e (deadline D more out))

    step : ((f : Refusal) × Unread frame_kinds (behind []) s f) ⊎ Whole frame_kinds s → (o : Outcome JobTable) × TableIs s o
    step (inl u) = (refused u.0, in_frame u.1)
    step (inr w) = let f = frame_is s w bytes in judged f.0 f.1 f.2 f.3 (decided (ltb 0 f.0 && time_ok f.0) (deadline_iff f.0))

-- and is read so
begins :
    (D : ℕ) {s : List ℕ} {f : Refusal} → ListFault job_id job_bytes (TimesOk largest_time) row_kinds 0x1F (frame_bytes D ∷ []) s f →
    (more : List ℕ) × (s ≡ frame_bytes D ++ more)
unfolding flat_map
begins D (fault js rest good y) = (joined (map job_bytes js) ++ rest, refl)

fault_read : {s : List ℕ} {f : Refusal} → TableFault s f → read_table s ≡ refused f
unfolding read_table frame_at jobs_read
fault_read {s} (in_frame u) =
    ap (after_frame s)
    (unread_refused Err (λ (next : Place) (k : FrameKind). deadline_at s start next) frame_only frame_kinds frame_others frame_these s start
    (rw first_place at u) refl)
fault_read (deadline D more out) =
    let first : frame_at (frame_bytes D ++ more) start ≡ Err (Range start) = frame_reads D more ∙ rw (fails _ (deadline_iff D) out) in
    rw first_place (ap (after_frame (frame_bytes D ++ more)) first)
fault_read {s} {f} (in_row D ok y) =
    let more = begins D y in
    let first : frame_at s start ≡ Ok (D, past start 2) =
    ap (λ (l : List ℕ). frame_at l start) more.1 ∙ (frame_reads D more.0 ∙ rw ((deadline_iff D).1 ok)) in
    let jobs : jobs_read s (past start 2) ≡ refused f =
    rw (← next_place D)
    (fault_refused job_id job_bytes (TimesOk largest_time) row_kinds 0x1F s (row_parsed s) job_any
    (is_unread s) (λ p n j m e h. is_many s p n j.id j.local j.sending m e h)
    (λ p n j m e h out. is_range s p n j.id j.local j.sending m e h (fails _ (fine_iff j.id j.local j.sending) out))
    (λ p n j m e h ok. job_back s p n m j.id j.local j.sending e ok h) (end_back s) y refl) in
    ap (after_frame s) first ∙ ap (with_deadline D) jobs

pub table_read_lem : (s : List ℕ) (o : Outcome JobTable) → TableIs s o → read_table s ≡ o
table_read_lem s (accepted t) p = rw p.1 (bytes_read t p.0)
table_read_lem s (refused f) y = fault_read y

pub table_is : (s : List ℕ) → All Byte s → (o : Outcome JobTable) → (read_table s ≡ o) ↔ TableIs s o
table_is s bytes = exactly (TableIs s) (read_table s) (table_or_fault s bytes) (table_read_lem s)

-- exactly one of all tables and refusals is it
pub table_one : (s : List ℕ) → All Byte s → (o : Outcome JobTable) × TableIs s o × ((p : Outcome JobTable) → TableIs s p → o ≡ p)
table_one s bytes = exactly_one (TableIs s) (read_table s) (table_or_fault s bytes) (table_read_lem s)
