-- Two answers that say the same are equal: an accepted call says 0 first, and no refusal does. Assumes nothing.
use Rattle.std.specs.Prelude.{Result, Ok, Err}
use Prim.Native.Nat.{ℕ}
use native.Mathlib.Omega.{arith}
use mathlib.Core.Path.{◌≡◌, refl, sym, ap}
use mathlib.Core.Bool.{Bool, true, false, cond}
use mathlib.Core.List.{List, [], ◌∷◌}
use lib.ListN.{get_or}
use Rattle.model.proofs.Lists.{clash}
use Rattle.records.specs.declared.refusal.Refusal.{Refusal}
use Rattle.records.proofs.Refusals.{says_injective, says_numbered}
use Rattle.records.specs.Refusals.{refusal_says}
use Rattle.frame_record.specs.Answers.{Reply, says, reading_says, accepted_says, answer_says}
use Rattle.frame_record.specs.declared.Sample.{Sample}
use Rattle.frame_record.specs.declared.Reading.{Reading}
use Rattle.frame_record.specs.declared.Reading.TheVariants as reads
use Rattle.frame_record.specs.declared.Answer.{Answer}
use Rattle.frame_record.specs.declared.Answer.TheVariants.{Done, Panel, Rest, Read}

abbrev numbers_of : Reply → List ℕ
numbers_of s = s.numbers

-- an accepted answer says 0 first
pub zero_read : (r : Reading) → get_or (reading_says r).numbers 0 0 ≡ 0
zero_read (reads.Fresh x) = refl
zero_read reads.Pending = refl
zero_read reads.Late = refl
zero_read reads.Missing = refl

pub zero_accepted : (a : Answer) → get_or (accepted_says a).numbers 0 0 ≡ 0
zero_accepted Done = refl
zero_accepted (Panel i b) = refl
zero_accepted Rest = refl
zero_accepted (Read r) = zero_read r

not_refused : {P : Type 0} (a : Answer) → (r : Refusal) → accepted_says a ≡ says (refusal_says r) → P
not_refused a r e = absurd (omega (arith, zero_accepted a, says_numbered r, ap (λ (s : Reply). get_or s.numbers 0 0) e))

-- the second number tells the readings apart, and from the panel's answers by how many numbers there are
same_away : (a b : Bool) → ◌≡◌ {A = ℕ} (cond a 1 0) (cond b 1 0) → a ≡ b
same_away true true e = refl
same_away true false e = clash (sym e)
same_away false true e = clash e
same_away false false e = refl

panel_same : (i k : ℕ) (a b : Bool) → 0 ∷ 1 ∷ i ∷ cond a 1 0 ∷ [] ≡ 0 ∷ 1 ∷ k ∷ cond b 1 0 ∷ [] → Panel i a ≡ Panel k b
panel_same i k a b e =
    let id : i ≡ k = cc in
    let away : a ≡ b = same_away a b (cc) in
    rw (id, away)

fresh_same : (x y : Sample) → x.frame ≡ y.frame → x.value ≡ y.value → x ≡ y
fresh_same x y p q = λ i. record { value = q i; frame = p i }

reading_same : (r q : Reading) → (reading_says r).numbers ≡ (reading_says q).numbers → (reading_says r).float ≡ (reading_says q).float → r ≡ q
reading_same (reads.Fresh x) (reads.Fresh y) e v = ap reads.Fresh (fresh_same x y (cc) (cc))
reading_same (reads.Fresh x) reads.Pending e v = clash (cc)
reading_same (reads.Fresh x) reads.Late e v = clash (cc)
reading_same (reads.Fresh x) reads.Missing e v = clash (cc)
reading_same reads.Pending (reads.Fresh y) e v = clash (cc)
reading_same reads.Pending reads.Pending e v = refl
reading_same reads.Pending reads.Late e v = clash (cc)
reading_same reads.Pending reads.Missing e v = clash (cc)
reading_same reads.Late (reads.Fresh y) e v = clash (cc)
reading_same reads.Late reads.Pending e v = clash (cc)
reading_same reads.Late reads.Late e v = refl
reading_same reads.Late reads.Missing e v = clash (cc)
reading_same reads.Missing (reads.Fresh y) e v = clash (cc)
reading_same reads.Missing reads.Pending e v = clash (cc)
reading_same reads.Missing reads.Late e v = clash (cc)
reading_same reads.Missing reads.Missing e v = refl

pub reading_says_injective : (r q : Reading) → reading_says r ≡ reading_says q → r ≡ q
reading_says_injective r q e = reading_same r q (ap numbers_of e) (ap (λ (s : Reply). s.float) e)

-- a reading is no answer of another call
not_done : {P : Type 0} (r : Reading) → (reading_says r).numbers ≡ 0 ∷ [] → P
not_done (reads.Fresh x) e = clash (cc)
not_done reads.Pending e = clash (cc)
not_done reads.Late e = clash (cc)
not_done reads.Missing e = clash (cc)

not_rest : {P : Type 0} (r : Reading) → (reading_says r).numbers ≡ 0 ∷ 0 ∷ [] → P
not_rest (reads.Fresh x) e = clash (cc)
not_rest reads.Pending e = clash (cc)
not_rest reads.Late e = clash (cc)
not_rest reads.Missing e = clash (cc)

not_panel : {P : Type 0} (r : Reading) (id b : ℕ) → (reading_says r).numbers ≡ 0 ∷ 1 ∷ id ∷ b ∷ [] → P
not_panel (reads.Fresh x) id b e = clash (cc)
not_panel reads.Pending id b e = clash (cc)
not_panel reads.Late id b e = clash (cc)
not_panel reads.Missing id b e = clash (cc)

-- two accepted answers
accepted_same : (a b : Answer) → accepted_says a ≡ accepted_says b → (accepted_says a).numbers ≡ (accepted_says b).numbers → a ≡ b
accepted_same Done Done e n = refl
accepted_same Done (Panel k b) e n = clash (cc)
accepted_same Done Rest e n = clash (cc)
accepted_same Done (Read q) e n = not_done q (sym n)
accepted_same (Panel i a) Done e n = clash (cc)
accepted_same (Panel i a) (Panel k b) e n = panel_same i k a b n
accepted_same (Panel i a) Rest e n = clash (cc)
accepted_same (Panel i a) (Read q) e n = not_panel q i (cond a 1 0) (sym n)
accepted_same Rest Done e n = clash (cc)
accepted_same Rest (Panel k b) e n = clash (cc)
accepted_same Rest Rest e n = refl
accepted_same Rest (Read q) e n = not_rest q (sym n)
accepted_same (Read r) Done e n = not_done r n
accepted_same (Read r) (Panel k b) e n = not_panel r k (cond b 1 0) n
accepted_same (Read r) Rest e n = not_rest r n
accepted_same (Read r) (Read q) e n = ap Read (reading_says_injective r q e)

pub answer_says_injective : (a b : Result Answer Refusal) → answer_says a ≡ answer_says b → a ≡ b
answer_says_injective (Ok a) (Ok b) e = ap Ok (accepted_same a b e (ap numbers_of e))
answer_says_injective (Ok a) (Err r) e = not_refused a r e
answer_says_injective (Err r) (Ok b) e = not_refused b r (sym e)
answer_says_injective (Err r) (Err q) e = ap Err (says_injective r q (ap numbers_of e))
