-- Laws of a plan's records and bytes that the functions' proofs use: what a record tells that is read, what is read where a
-- record's bytes stand, the end of the loop, one more step, and the bytes of the steps from a place on. Assumes nothing.
use Prim.Native.Nat.{ℕ, ◌+◌, ◌-◌, ◌*◌, ◌≤◌, ◌<◌}
use mathlib.Core.Path.{◌≡◌, refl, sym, ap, ◌∙◌}
use mathlib.Core.Bool.{Bool, true, false, cond}
use mathlib.Core.List.{List, [], ◌∷◌, ◌++◌}
use lib.ListN.{length, get_or, drop, replicate, length-map, length-append, drop_of_length-le}
use lib.Seq.{take-append_seam, drop-cons}
use lib.Dec.{ltb, leb}
use native.Mathlib.Nat.{add-zero}
use native.Mathlib.Numerals.{add-one}
use native.Mathlib.Omega.{arith}
use borrow.Author.Tests.{ltb-true}
use Rattle.model.specs.Timetable.{Chosen}
use Rattle.model.proofs.Lists.{clash}
use Rattle.records.specs.declared.refusal.Place.{Place}
use Rattle.records.specs.declared.refusal.Refusal.{Refusal}
use Rattle.records.specs.declared.refusal.Refusal.TheVariants.{After}
use Rattle.records.specs.declared.kind.StepKind.TheVariants.{HereStep, AwayStep, EndStep}
use Rattle.records.specs.Limits.{most_jobs}
use Rattle.records.specs.Refusals.{past, accepted, refused}
use Rattle.records.specs.Kinds.{run_here, send_away, plan_end}
use Rattle.std.specs.Result.{result_and}
use Rattle.records.specs.Records.{step_only, opened, Parsed, one, last, parsed, ended_at}
use Rattle.model.proofs.Tests.{cond_all}
use Rattle.records.proofs.Records.{step_byte, step_length, step_kind, is_step, judged_all, judged_opened, opened_whole}
use Rattle.records.proofs.Listed.{padded_more}
use Rattle.std.specs.Prelude.{Result, Ok, Err}
use Rattle.records.specs.declared.kind.StepKind.{StepKind}
use Rattle.records.specs.declared.record.Whole.{Whole}
use Rattle.records.specs.declared.record.Record.{Record}
use Rattle.records.specs.declared.record.Record.TheVariants.{Listed, Last}
use Rattle.plan.specs.declared.Step.{Step}
use Rattle.plan.specs.Plans.{step_body, record_at, plan_read, step_bytes, plan_bytes, no_step}
use Rattle.plan.specs.Plans.{plan_of, steps_of, with_step, step_of, steps_for}

-- the reading of one record of a plan
abbrev pub plan_entry : List ℕ → Place → ℕ → Parsed Step
plan_entry s p n = parsed (record_at s p n)

-- What holds of every refusal, of each whole step and of the end holds of the record at a place.
module _
    (s : List ℕ) (p : Place) (n : ℕ) (P : Result (Record Step) Refusal → Type 0) (out : (f : Refusal) → P (Err f))
    (listed :
    (away : Bool) → get_or s p.at 0 ≡ cond away send_away run_here → (past p 1).at ≤ length s → n < most_jobs →
    P (Ok (Listed (record { id = get_or s (p.at + 1) 0; away = away }) (past p 1))))
    (end : get_or s p.at 0 ≡ plan_end → (past p 0).at ≤ length s → P (Ok (Last (past p 0)))) where
  body_all : (k : StepKind) → get_or s p.at 0 ≡ step_byte k → (past p (step_length k)).at ≤ length s → P (step_body s p n (past p (step_length k)) k)
  body_all HereStep b h = cond_all P (ltb n most_jobs) (λ few. listed false b h (ltb-true _ _ few)) (λ o. out _)
  body_all AwayStep b h = cond_all P (ltb n most_jobs) (λ few. listed true b h (ltb-true _ _ few)) (λ o. out _)
  body_all EndStep b h = end b h

  record_all : P (record_at s p n)
  unfolding record_at
  record_all =
      judged_all Err (step_body s p n) step_only s p P out
      (λ k form there told may fits.
      let step = step_kind (get_or s p.at 0) k form told (is_step _ k may) in
      rw step.1 (body_all k step.0 (omega (arith, step.1))))

-- What `opened` answers, and what the record then is: its refusal; or what its step's body is, and the body is there.
pub record StepOpened (s : List ℕ) (p : Place) (n : ℕ) (a : Result (Whole StepKind) Refusal) : Type 0 where
  pub out : (f : Refusal) → a ≡ Err f → record_at s p n ≡ Err f
  pub in_it : (w : Whole StepKind) → a ≡ Ok w → record_at s p n ≡ step_body s p n w.next w.kind
  pub long : (w : Whole StepKind) → a ≡ Ok w → p.at + 1 + step_length w.kind ≤ length s

pub step_opened : (s : List ℕ) (p : Place) (n : ℕ) {a : Result (Whole StepKind) Refusal} → a ≡ opened step_only s p → StepOpened s p n a
unfolding record_at
step_opened s p n {a} e =
    let same = judged_opened Err (step_body s p n) step_only s p in
    record {
      out = λ f h. same.out f (sym e ∙ h);
      in_it = λ w h. same.in_it w (sym e ∙ h);
      long = λ w h.
          let is = opened_whole step_only s p w e h in
          omega (arith, is.fits, (step_kind (get_or s p.at 0) w.kind is.form is.told (is_step _ w.kind is.means)).1);
    }

one_byte : (s : List ℕ) (at : ℕ) → at < length s → drop at s ≡ get_or s at 0 ∷ drop (at + 1) s
one_byte s at h = rw add-one (drop-cons s at 0 h)

two_bytes : (s : List ℕ) (at : ℕ) → at + 1 + 1 ≤ length s → drop at s ≡ get_or s at 0 ∷ get_or s (at + 1) 0 ∷ drop (at + 1 + 1) s
two_bytes s at h = rw (← one_byte s (at + 1) (omega arith)) (one_byte s at (omega arith))

-- a step is read only while there is room, and its bytes stand there
pub step_read :
    (s : List ℕ) (p : Place) (n : ℕ) (x : Step) (next : Place) → plan_entry s p n ≡ one x next →
    (n < most_jobs) × (drop p.at s ≡ step_bytes x ++ drop next.at s)
step_read s p n x next =
    record_all s p n (λ (a : Result (Record Step) Refusal). parsed a ≡ one x next → (n < most_jobs) × (drop p.at s ≡ step_bytes x ++ drop next.at s))
    (λ f e. clash (cc))
    (λ away b h few e.
    let is : record { id = get_or s (p.at + 1) 0; away = away } ≡ x = cc in
    let after : past p 1 ≡ next = cc in
    (few, rw (← is, ← after, ← b) (two_bytes s p.at h)))
    (λ b h e. clash (cc))

pub end_read :
    (s : List ℕ) (p : Place) (n : ℕ) (next : Place) → plan_entry s p n ≡ last next → drop p.at s ≡ (plan_end ∷ []) ++ drop next.at s
end_read s p n next =
    record_all s p n (λ (a : Result (Record Step) Refusal). parsed a ≡ last next → drop p.at s ≡ (plan_end ∷ []) ++ drop next.at s)
    (λ f e. clash (cc))
    (λ away b h few e. clash (cc))
    (λ b h e. let after : past p 0 ≡ next = cc in rw (← after, ← b, add-zero) (one_byte s p.at (omega arith)))

-- the end of the loop, told of the list and of the count
pub ended_count :
    (s : List ℕ) (xs : List Step) (p : Place) →
    result_and (ended_at s p) (Ok (length xs)) ≡ plan_read (cond (leb (length s) p.at) (accepted xs) (refused (After p)))
ended_count s xs p = go (leb (length s) p.at)
  where
    ended : Bool → Result (Unit {0}) Refusal
    ended b = cond b (Ok tt) (Err (After p))

    go : (b : Bool) → result_and (ended b) (Ok (length xs)) ≡ plan_read (cond b (accepted xs) (refused (After p)))
    go true = refl
    go false = refl

-- one more step in the array is one more step of the plan
pub with_step_of : (xs : List Step) (x : Step) → length xs < most_jobs → with_step (plan_of xs) x ≡ plan_of (xs ++ (x ∷ []))
with_step_of xs x h = rw (padded_more xs x no_step most_jobs h, length-append xs (x ∷ []))

pub steps_of_plan : (xs : List Step) → steps_of (plan_of xs) ≡ xs
steps_of_plan xs = take-append_seam xs (replicate (most_jobs - length xs) no_step)

-- "A plan is 0 to 32 of 0x20 and 0x21 .., one 0x2F": two bytes for each step and one for the end
pub plan_length : (xs : List Step) → length (plan_bytes xs) ≡ 2 * length xs + 1
unfolding plan_bytes
plan_length [] = refl
plan_length (x ∷ xs) = omega (arith, plan_length xs)

-- the bytes of the steps from the i-th on: one step more, or the end
pub bytes_more : (xs : List Step) (i : ℕ) → i < length xs → plan_bytes (drop i xs) ≡ step_bytes (get_or xs i no_step) ++ plan_bytes (drop (i + 1) xs)
unfolding plan_bytes
bytes_more xs i h = simp (drop-cons xs i no_step h, add-one)

pub bytes_done : (xs : List Step) (i : ℕ) → length xs ≤ i → plan_bytes (drop i xs) ≡ plan_end ∷ []
unfolding plan_bytes
bytes_done xs i h = rw (drop_of_length-le xs {i = i} h)

-- The lines of a plan of some jobs.

pub steps_append : (cs ds : List Chosen) → steps_for (cs ++ ds) ≡ steps_for cs ++ steps_for ds
steps_append [] ds = refl
steps_append (c ∷ cs) ds = ap (λ (l : List Step). step_of c ∷ l) (steps_append cs ds)

pub steps_length : (cs : List Chosen) → length (steps_for cs) ≡ length cs
steps_length cs = length-map cs step_of
