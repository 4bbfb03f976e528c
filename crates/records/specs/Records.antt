-- Document 01, 'Bytes': the kinds of record, and what is judged of every record before its body.
-- Assumes nothing.
use Rattle.std.specs.Prelude.{ℕ, zero, suc, ◌+◌, ◌-◌, Bool, false, cond, ◌||◌, List, [], ◌∷◌, ◌++◌, map, length, get_or, ltb, leb, eqb}
use Rattle.std.specs.Prelude.{Option, None, Some, Result, Ok, Err}
use Rattle.records.specs.declared.refusal.Place.{Place}
use Rattle.records.specs.declared.refusal.Refusal.{Refusal}
use Rattle.records.specs.declared.refusal.Refusal.TheVariants.{Short, Kind, Many, Twice, After}
use Rattle.records.specs.declared.kind.FrameKind.{FrameKind}
use Rattle.records.specs.declared.kind.RowKind.{RowKind}
use Rattle.records.specs.declared.kind.RowKind.TheVariants.{HereRow, EitherRow, EndRow}
use Rattle.records.specs.declared.kind.StepKind.{StepKind}
use Rattle.records.specs.declared.kind.StepKind.TheVariants.{HereStep, AwayStep, EndStep}
use Rattle.records.specs.declared.kind.Meaning.{Meaning}
use Rattle.records.specs.declared.kind.Meaning.TheVariants.{Frame, Row, Step}
use Rattle.records.specs.declared.kind.Form.{Form}
use Rattle.records.specs.declared.record.Whole.{Whole}
use Rattle.records.specs.declared.record.Record.{Record}
use Rattle.records.specs.declared.record.Record.TheVariants.{Listed, Last}
use Rattle.records.specs.Refusals.{past, Outcome, accepted, refused}
use Rattle.records.specs.Kinds.{frame_kind, here_kind, either_kind, table_end, run_here, send_away, plan_end}

abbrev pub form : Meaning → ℕ → Option Form
form m n = Some (record { meaning = m; body = n })

-- "One byte of kind, then a body whose length the kind fixes." The table of kinds, line by line.
unfoldable pub form_of : ℕ → Option Form
form_of k =
    cond (eqb k frame_kind) (form Frame 2)
    (cond (eqb k here_kind) (form (Row HereRow) 3)
    (cond (eqb k either_kind) (form (Row EitherRow) 7)
    (cond (eqb k table_end) (form (Row EndRow) 0)
    (cond (eqb k run_here) (form (Step HereStep) 1)
    (cond (eqb k send_away) (form (Step AwayStep) 1)
    (cond (eqb k plan_end) (form (Step EndStep) 0)
    None))))))

-- what may stand at a place of a file: the frame record first, then rows; in a plan steps
abbrev pub frame_only : Meaning → Option FrameKind
frame_only Frame = Some (record {})
frame_only (Row k) = None
frame_only (Step k) = None

abbrev pub row_only : Meaning → Option RowKind
row_only Frame = None
row_only (Row k) = Some k
row_only (Step k) = None

abbrev pub step_only : Meaning → Option StepKind
step_only Frame = None
step_only (Row k) = None
step_only (Step k) = Some k

module _ {K R : Type 0} (refuse : Refusal → R) (read : Place → K → R) where
  -- kind not allowed here KIND; body cut SHORT; else the record is read, and the next one stands past its body
  abbrev pub allowed : Place → ℕ → Bool → Option K → R
  allowed p body whole None = refuse (Kind p)
  allowed p body whole (Some k) = cond whole (read (past p body) k) (refuse (Short p))

  -- kind unknown KIND
  abbrev pub known : (Meaning → Option K) → List ℕ → Place → Option Form → R
  known may s p None = refuse (Kind p)
  known may s p (Some f) = allowed p f.body (leb f.body (length s - (p.at + 1))) (may f.meaning)

  -- "within one: no byte left SHORT; kind unknown or not allowed here KIND; body cut SHORT"
  unfoldable pub judged : (Meaning → Option K) → List ℕ → Place → R
  judged may s p = cond (ltb p.at (length s)) (known may s p (form_of (get_or s p.at 0))) (refuse (Short p))

-- what `opened` answers: the record's kind and the place of the next one, or the refusal
abbrev pub opened : {K : Type 0} → (Meaning → Option K) → List ℕ → Place → Result (Whole K) Refusal
opened {K} may s p = judged Err (λ (next : Place) (k : K). Ok (record { kind = k; next = next })) may s p

-- what `ended_at` answers: "After the end record, AFTER"
abbrev pub ended_at : List ℕ → Place → Result (Unit {0}) Refusal
ended_at s p = cond (leb (length s) p.at) (Ok tt) (Err (After p))

-- A file is a list of records, each with an id of its own, and an end record.

-- what the reading of one record comes to: one more of what is listed, with the place after it; the end, with the place after it; or a refusal
pub data Parsed (A : Type 0) : Type 0 where
  one : A → Place → Parsed A
  last : Place → Parsed A
  bad : Refusal → Parsed A

-- "id used before in the same file"
unfoldable pub used : List ℕ → ℕ → Bool
used [] id = false
used (i ∷ is) id = eqb i id || used is id

-- a record's answer as the reading of one record
abbrev pub parsed : {A : Type 0} → Result (Record A) Refusal → Parsed A
parsed (Ok (Listed x next)) = one x next
parsed (Ok (Last next)) = last next
parsed (Err f) = bad f

module _ {A : Type 0} (id_of : A → ℕ) (entry_at : Place → ℕ → Parsed A) (size : ℕ) where
  -- what the record at `p` leads to, with what is listed before it: an id used before TWICE; "After the end record, AFTER"; `on` reads the records after it
  abbrev pub follow : (List A → Place → Outcome (List A)) → List A → Place → Parsed A → Outcome (List A)
  follow on before p (one x next) = cond (used (map id_of before) (id_of x)) (refused (Twice p)) (on (before ++ (x ∷ [])) next)
  follow on before p (last next) = cond (leb size next.at) (accepted before) (refused (After next))
  follow on before p (bad f) = refused f

  -- "Records are judged in file order": those from `p` on, of which `left` may still come, 32 that are listed and the end.
  -- `entry_at p n` reads the record at `p` with n listed before it, and refuses a 33rd, so `left` is never 0 before the end.
  unfoldable pub list_from : ℕ → List A → Place → Outcome (List A)
  list_from zero before p = refused (Many p)
  list_from (suc left) before p = follow (list_from left) before p (entry_at p (length before))
