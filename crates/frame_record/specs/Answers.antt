-- Document 01, 'The frame runner': what each answer says, a record before any frame, and what all calls share.
-- Assumes nothing.
use Rattle.std.specs.Prelude.{ℕ, cond, List, [], ◌∷◌, replicate, ltb, Float}
use Rattle.std.specs.Prelude.{Option, None, Some, Result, Ok, Err}
use Rattle.records.specs.Limits.{most_jobs}
use Rattle.records.specs.declared.refusal.Refusal.{Refusal}
use Rattle.records.specs.declared.refusal.Refusal.TheVariants as R
use Rattle.records.specs.Refusals.{refusal_says}
use Rattle.frame_record.specs.Sound as S
use Rattle.frame_record.specs.Sound.{open?}
use Rattle.frame_record.specs.declared.Phase.TheVariants.{Idle}
use Rattle.frame_record.specs.declared.Frame.{Frame}
use Rattle.frame_record.specs.declared.Reading.{Reading}
use Rattle.frame_record.specs.declared.Reading.TheVariants as reads
use Rattle.frame_record.specs.declared.Answer.{Answer}
use Rattle.frame_record.specs.declared.Answer.TheVariants.{Done, Panel, Rest, Read}
use Rattle.frame_record.specs.declared.Called.{Called}

-- What an answer says: a number and values, 0 for a call that is accepted; and a float, where there is one.
pub record Reply : Type 0 where
  pub numbers : List ℕ
  pub float : Option Float

abbrev pub says : List ℕ → Reply
says ns = record { numbers = ns; float = None }

-- "fresh with its value, pending, late, or missing", numbered in this order; a fresh one with the number of its frame
abbrev pub reading_says : Reading → Reply
reading_says (reads.Fresh x) = record { numbers = 0 ∷ 0 ∷ x.frame ∷ []; float = Some x.value }
reading_says reads.Pending = says (0 ∷ 1 ∷ [])
reading_says reads.Late = says (0 ∷ 2 ∷ [])
reading_says reads.Missing = says (0 ∷ 3 ∷ [])

-- "the job now on the panel with its choice": 1, its id, and 1 for away; "or none left": 0. No two answers say the same (proofs/Says.antt).
abbrev pub accepted_says : Answer → Reply
accepted_says Done = says (0 ∷ [])
accepted_says (Panel id away) = says (0 ∷ 1 ∷ id ∷ cond away 1 0 ∷ [])
accepted_says Rest = says (0 ∷ 0 ∷ [])
accepted_says (Read r) = reading_says r

abbrev pub answer_says : Result Answer Refusal → Reply
answer_says (Ok a) = accepted_says a
answer_says (Err r) = says (refusal_says r)

-- a record before any frame
abbrev pub idle : Frame
idle = record {
  phase = Idle;
  number = 0;
  clock = 0;
  deadline = 0;
  count = 0;
  next = 0;
  order = replicate most_jobs 0;
  entries = replicate most_jobs S.none;
}

-- "No refusal .. alters the frame's record."
abbrev pub refused : Refusal → Frame → Called
refused r f = record { answer = Err r; frame = f }

abbrev pub done : Frame → Called
done f = record { answer = Ok Done; frame = f }

-- a call that makes another record of f, or refuses to
abbrev pub answered : Frame → Result Frame Refusal → Called
answered f (Ok g) = done g
answered f (Err r) = refused r f

-- "PHASE unless open", and of an unsound record
abbrev pub in_open : Frame → Called → Called
in_open f s = cond (open? f) s (refused R.Phase f)

-- "CLOCK: time below that of the last accepted event"
abbrev pub on_clock : Frame → ℕ → Called → Called
on_clock f t s = cond (ltb t f.clock) (refused R.Clock f) s
