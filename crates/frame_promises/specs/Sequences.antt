-- Document 01, 'The frame runner', on whole sequences: two that differ in one job's values, and the numbers that one begins.
-- Assumes nothing.
use Rattle.std.specs.Prelude.{ℕ, ◌<◌, ◌≡◌, true, cond, List, [], ◌∷◌, ◌++◌, Float}
use Rattle.model.specs.Lists.{Pairwise}
use Rattle.frame_record.specs.Finite.{finite?}
use Rattle.frame_record.specs.Answers.{Reply}
use Rattle.frame_promises.specs.Call.{Call, begin, event}
use Rattle.frame_record.specs.declared.Event.TheVariants as E
use Rattle.frame_promises.specs.History.{Turn, fresh, is_accepted}

-- "two sequences of the same calls that differ only in one job's finite values"
pub data Alike (job : ℕ) : Call → Call → Type 0 where
  same_call : {c : Call} → Alike job c c
  other_span :
      {t : ℕ} {v w : Float} → finite? v ≡ true → finite? w ≡ true → Alike job (event (E.SpanEnd job t v)) (event (E.SpanEnd job t w))
  other_back :
      {n t : ℕ} {v w : Float} → finite? v ≡ true → finite? w ≡ true → Alike job (event (E.Return n job t v)) (event (E.Return n job t w))

-- "give the same answers but for that job's fresh readings", of which only the value may differ
pub data SameBut (job : ℕ) : Call → Reply → Reply → Type 0 where
  same_answer : {c : Call} {s : Reply} → SameBut job c s s
  other_value : {n : ℕ} {v w : Float} → SameBut job (event (E.Read job)) (fresh n v) (fresh n w)

pub data AllAlike (job : ℕ) : List Turn → List Turn → Type 0 where
  no_turns : AllAlike job [] []
  and_turn : {t u : Turn} {ts us : List Turn} → Alike job t.call u.call → AllAlike job ts us → AllAlike job (t ∷ ts) (u ∷ us)

pub data AllSameBut (job : ℕ) : List Turn → List Turn → Type 0 where
  no_turns : AllSameBut job [] []
  and_turn :
      {t u : Turn} {ts us : List Turn} → SameBut job t.call t.said u.said → AllSameBut job ts us →
      AllSameBut job (t ∷ ts) (u ∷ us)

-- the numbers of the begins that were accepted
abbrev pub number_of : Call → List ℕ
number_of (begin table plan number) = number ∷ []
number_of (event e) = []

unfoldable pub begun_in : List Turn → List ℕ
begun_in [] = []
begun_in (t ∷ ts) = cond (is_accepted t.said) (number_of t.call) [] ++ begun_in ts

abbrev pub Rising : List ℕ → Type 0
Rising = Pairwise (λ (m n : ℕ). m < n)
