-- One law for each word of specs/History.antt that goes over a list. Assumes nothing.
use Prim.Native.Nat.{ℕ, zero, suc, ◌≤◌, ◌<◌}
use native.Mathlib.Omega.{arith}
use mathlib.Core.Path.{◌≡◌, refl, sym, ◌∙◌, ap}
use mathlib.Core.Bool.{Bool, true, false, cond, ◌||◌}
use mathlib.Core.List.{List, [], ◌∷◌}
use Rattle.std.specs.Prelude.{Some, None}
use borrow.Author.Tests.{eqb-true, eq-eqb, ne_eqb}
use lib.ListN.{length, get_or, drop}
use lib.Dec.{eqb}
use Rattle.model.specs.declared.Job.{Job}
use Rattle.model.specs.Positions.{no_job}
use Rattle.records.specs.Records.{used}
use Rattle.records.specs.declared.refusal.Refusal.{Refusal}
use Rattle.records.specs.Refusals.{refusal_says}
use Rattle.records.proofs.Refusals.{says_numbered}
use Rattle.lookup.specs.Lookup.{job_of, with_key}
use Rattle.frame_record.specs.Answers.{says}
use Rattle.frame_promises.specs.Call.{Call}
use Rattle.model.proofs.Tests.{false_true}
use Rattle.frame_promises.specs.History.{Report, History, is_accepted, told, report_of, without}

-- a refused call is not accepted, and changes nothing
not_zero : (r : Refusal) → is_accepted (says (refusal_says r)) ≡ false
not_zero r = ne_eqb (get_or (refusal_says r) 0 0) 0 (λ e. omega (arith, says_numbered r))

pub refused_not : (r : Refusal) → is_accepted (says (refusal_says r)) ≡ true → ⊥
refused_not r a = false_true (sym (not_zero r) ∙ a)

pub refused_told : (h : History) (c : Call) (r : Refusal) → told h c (says (refusal_says r)) ≡ h
refused_told h c r = rw (not_zero r)

-- ---- ids in a list

module _ (i : ℕ) (is : List ℕ) (id : ℕ) where
  pub used_head : i ≡ id → used (i ∷ is) id ≡ true
  unfolding used
  used_head e = rw (eq-eqb i id e)

  pub used_tail : (i ≡ id → ⊥) → used (i ∷ is) id ≡ used is id
  unfolding used
  used_tail other = rw (ne_eqb i id other)

pub without_gone : (is : List ℕ) (id : ℕ) → used (without is id) id ≡ false
unfolding without used
without_gone [] id = refl
without_gone (i ∷ is) id = step (eqb i id) refl (without_gone is id)
  where
    step : (b : Bool) → eqb i id ≡ b → used (without is id) id ≡ false → used (cond b (without is id) (i ∷ without is id)) id ≡ false
    step true e on = on
    step false e on = rw e on

pub without_other : (is : List ℕ) (id j : ℕ) → (id ≡ j → ⊥) → used (without is id) j ≡ used is j
unfolding without used
without_other [] id j other = refl
without_other (i ∷ is) id j other = step (eqb i id) refl (without_other is id j other)
  where
    step :
        (b : Bool) → eqb i id ≡ b → used (without is id) j ≡ used is j →
        used (cond b (without is id) (i ∷ without is id)) j ≡ (eqb i j || used is j)
    step true e on = rw (eqb-true i id e, ne_eqb id j other) on
    step false e on = ap (λ (w : Bool). eqb i j || w) on

-- ---- the latest report of a job

module _ (r : Report) (rs : List Report) (id : ℕ) where
  pub report_same : r.job ≡ id → report_of (r ∷ rs) id ≡ Some r
  unfolding report_of
  report_same e = rw (eq-eqb r.job id e)

  pub report_other : (r.job ≡ id → ⊥) → report_of (r ∷ rs) id ≡ report_of rs id
  unfolding report_of
  report_other other = rw (ne_eqb r.job id other)

-- ---- a table has the job at a position, and no job of an id that no position has

pub in_table : (js : List Job) (id i : ℕ) → i < length js → (get_or js i no_job).id ≡ id → (j : Job) × (job_of js id ≡ Some j)
unfolding with_key
in_table [] id i h e = absurd (omega arith)
in_table (x ∷ js) id zero h e = (x, rw (eq-eqb x.id id e))
in_table (x ∷ js) id (suc i) h e = step (eqb x.id id) (in_table js id i (omega arith) e)
  where
    step : (b : Bool) → (j : Job) × (job_of js id ≡ Some j) → (j : Job) × (cond b (Some x) (job_of js id) ≡ Some j)
    step true on = (x, refl)
    step false on = on

pub not_in_table : (js : List Job) (id : ℕ) → ((i : ℕ) → i < length js → (get_or js i no_job).id ≡ id → ⊥) → job_of js id ≡ None
unfolding with_key
not_in_table [] id others = refl
not_in_table (x ∷ js) id others =
    rw (ne_eqb x.id id (others 0 (omega arith))) (not_in_table js id (λ i h. others (suc i) (omega arith)))

-- ---- past the end nothing is left

pub drop_all : {A : Type 0} (xs : List A) (n : ℕ) → length xs ≤ n → drop n xs ≡ []
drop_all [] zero h = refl
drop_all [] (suc n) h = refl
drop_all (x ∷ xs) zero h = absurd (omega arith)
drop_all (x ∷ xs) (suc n) h = drop_all xs n (omega arith)
