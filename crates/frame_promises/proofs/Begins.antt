-- "Begin: PHASE if open; the check's refusals; NUMBER (never from idle)", told of the turns before it: it is accepted exactly where no frame
-- is open, the check passes and the number is above the last one begun. Assumes nothing.
use Rattle.std.specs.Prelude.{Err, Ok}
use Prim.Native.Nat.{ℕ}
use native.Mathlib.Omega.{arith}
use mathlib.Core.Path.{◌≡◌, refl, sym, ◌∙◌, ap}
use mathlib.Core.Bool.{Bool, true, false, cond}
use mathlib.Core.Logic.{◌↔◌}
use mathlib.Core.List.{List, [], ◌∷◌, ◌++◌}
use borrow.Author.Tests.{ltb-true, lt-ltb}
use lib.Dec.{ltb}
use Rattle.records.specs.declared.refusal.Refusal.{Refusal}
use Rattle.records.specs.Refusals.{refusal_says}
use Rattle.records.proofs.Refusals.{says_not_zero}
use Rattle.judge.specs.Check.{Checked}
use Rattle.judge.specs.Check.{checked_says, check_plan}
use Rattle.frame_record.specs.Answers.{Reply, says}
use Rattle.frame_promises.specs.Call.{begin}
use Rattle.model.proofs.Tests.{false_true}
use Rattle.frame_promises.specs.History.{Turn, Last, History, idle, opened, closed, done, refuse, begins, reply, is_accepted, history}
use Rattle.frame_promises.specs.Runs.{FromIdle}
use Rattle.frame_promises.specs.Own.{NotOpen, none_begun, was_closed, AboveLast, Passes, MayBegin}
use Rattle.frame_promises.proofs.Laws.{refused_not}
use Rattle.frame_promises.proofs.Since.{Since, Traced, refused_else}
use Rattle.frame_promises.proofs.Readings.{never_and_last, same_begin}
use Rattle.frame_promises.proofs.Replies.{reply_told, traced}

-- ---- the history, by the turns

abbrev is_open : History → Bool
is_open idle = false
is_open (opened b) = true
is_open (closed b) = false

not_open : (ts : List Turn) (h : History) → Traced ts h → NotOpen ts → is_open h ≡ false
not_open ts idle w n = refl
not_open ts (opened b) w (none_begun all) = absurd (never_and_last all w.begun)
not_open ts (opened b) w (was_closed l c) = absurd (w.ended (rw (same_begin l w.begun).turns at c))
not_open ts (closed b) w n = refl

is_not_open : (ts : List Turn) (h : History) → Traced ts h → is_open h ≡ false → NotOpen ts
is_not_open ts idle w e = none_begun w
is_not_open ts (opened b) w e = absurd (false_true (sym e))
is_not_open ts (closed b) w e = was_closed w.begun w.ended

-- whether the number is above the last one
abbrev is_above : History → ℕ → Bool
is_above idle n = true
is_above (opened b) n = ltb b.number n
is_above (closed b) n = ltb b.number n

above : (ts : List Turn) (h : History) → Traced ts h → (n : ℕ) → AboveLast ts n → is_above h n ≡ true
above ts idle w n a = refl
above ts (opened b) w n a = lt-ltb b.number n (a b.number b.table w.steps w.later w.begun)
above ts (closed b) w n a = lt-ltb b.number n (a b.number b.table w.steps w.later w.begun)

since_above : {ts : List Turn} {b : Last} {shut : Bool} → Since ts b shut → (n : ℕ) → ltb b.number n ≡ true → AboveLast ts n
since_above {b = b} w n e number jobs steps since l = omega (arith, (same_begin l w.begun).numbers, ltb-true b.number n e)

is_above_lem : (ts : List Turn) (h : History) → Traced ts h → (n : ℕ) → is_above h n ≡ true → AboveLast ts n
is_above_lem ts idle w n e = λ number jobs steps since l. absurd (never_and_last w l)
is_above_lem ts (opened b) w n e = since_above w n e
is_above_lem ts (closed b) w n e = since_above w n e

-- ---- what is answered where no frame is open

shut_says : (h : History) → is_open h ≡ false → (table plan : List ℕ) (n : ℕ) → reply h (begin table plan n) ≡ begins (check_plan table plan) (is_above h n)
shut_says idle e table plan n = refl
shut_says (opened b) e table plan n = absurd (false_true (sym e))
shut_says (closed b) e table plan n = refl

open_says : (h : History) → is_open h ≡ true → (table plan : List ℕ) (n : ℕ) → reply h (begin table plan n) ≡ refuse 12
open_says idle e table plan n = absurd (false_true e)
open_says (opened b) e table plan n = refl
open_says (closed b) e table plan n = absurd (false_true e)

passing : (k : Checked) (up : Bool) → (last : ℕ) × (busy : ℕ) × (checked_says k ≡ 0 ∷ last ∷ busy ∷ []) → begins k up ≡ cond up done (refuse 13)
passing (Ok run) up w = refl
passing (Err r) up w = absurd (says_not_zero r (w.0 ∷ w.1 ∷ []) w.2)

failing : (k : Checked) (up : Bool) (r : Refusal) → checked_says k ≡ refusal_says r → begins k up ≡ says (refusal_says r)
failing (Ok run) up r e = absurd (says_not_zero r (run.last ∷ run.busy ∷ []) (sym e))
failing (Err q) up r e = ap says e

passed_then : (k : Checked) (up : Bool) → is_accepted (begins k up) ≡ true → ((last : ℕ) × (busy : ℕ) × (checked_says k ≡ 0 ∷ last ∷ busy ∷ [])) × (up ≡ true)
passed_then (Ok run) up a = ((run.last, run.busy, refl), (refused_else up _ _ refl a).0)
passed_then (Err r) up a = absurd (refused_not r a)

-- ---- the promises

module _ (before : List Turn) (table plan : List ℕ) (number : ℕ) (s : Reply) (after : List Turn)
    (run : FromIdle (before ++ (record { call = begin table plan number; said = s } ∷ after))) where
  abbrev turn : Turn
  turn = record { call = begin table plan number; said = s }

  abbrev h : History
  h = history idle before

  w : Traced before h
  w = traced before (turn ∷ after) run

  is : s ≡ reply h (begin table plan number)
  is = reply_told before turn after run

  shut_is : NotOpen before → s ≡ begins (check_plan table plan) (is_above h number)
  shut_is n = is ∙ shut_says h (not_open before h w n) table plan number

  accepted_then : is_accepted s ≡ true → MayBegin before table plan number
  accepted_then a = step (is_open h) refl
    where
      step : (q : Bool) → is_open h ≡ q → MayBegin before table plan number
      step true e = let z : refuse 12 ≡ s = sym (is ∙ open_says h e table plan number) in absurd (false_true (rw (← z) at a))
      step false e =
          let z = is ∙ shut_says h e table plan number in
          let p = passed_then (check_plan table plan) (is_above h number) (rw z at a) in
          record { not_open = is_not_open before h w e; passes = p.0; above = is_above_lem before h w number p.1 }

  pub begin_iff : (s ≡ done) ↔ MayBegin before table plan number
  begin_iff = (λ e. accepted_then (rw e), may_begin)
    where
      may_begin : MayBegin before table plan number → s ≡ done
      may_begin m =
          shut_is m.not_open ∙ passing (check_plan table plan) (is_above h number) m.passes ∙
          ap (λ (q : Bool). cond q done (refuse 13)) (above before h w number m.above)

  -- "PHASE if open; the check's refusals; NUMBER"
  pub begin_open : (NotOpen before → ⊥) → s ≡ refuse 12
  begin_open n = step (is_open h) refl
    where
      step : (q : Bool) → is_open h ≡ q → s ≡ refuse 12
      step true e = is ∙ open_says h e table plan number
      step false e = absurd (n (is_not_open before h w e))

  pub begin_fails : NotOpen before → (r : Refusal) → checked_says (check_plan table plan) ≡ refusal_says r → s ≡ says (refusal_says r)
  begin_fails n r e = shut_is n ∙ failing (check_plan table plan) (is_above h number) r e

  pub begin_number : NotOpen before → Passes table plan → (AboveLast before number → ⊥) → s ≡ refuse 13
  begin_number n p low = shut_is n ∙ passing (check_plan table plan) (is_above h number) p ∙ step (is_above h number) refl
    where
      step : (q : Bool) → is_above h number ≡ q → cond q done (refuse 13) ≡ refuse 13
      step true e = absurd (low (is_above_lem before h w number e))
      step false e = refl
