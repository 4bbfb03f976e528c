-- The planner's rows: for each setup total t that is reached exactly, the least (here total, mask) over the choices of the either jobs that can still meet D.
-- The jobs stand from the last in away order to the first, so a row of one job more has that job in front, and its bit is the highest.
-- Assumes nothing.
use mathlib.Core.Path.{◌≡◌, refl, sym, ap, ◌∙◌}
use mathlib.Core.Logic.{◌⊎◌, inl, inr}
use mathlib.Core.Bool.{Bool, true, false, cond, ◌&&◌}
use mathlib.Core.List.{List, [], ◌∷◌, map}
use Prim.Native.Nat.{ℕ, zero, suc, ◌+◌, ◌-◌, ◌^◌, ◌≤◌}
use native.Mathlib.Omega.{arith}
use borrow.Author.Tests.{leb-true, leb-false}
use lib.Dec.{T, leb}
use lib.ListN.{length, length-map}
use Rattle.model.specs.declared.Job.{Job}
use Rattle.model.specs.Lists.{total}
use Rattle.model.specs.Timetable.{setup_time, return_time, Chosen}
use Rattle.model.specs.FreeOrder.{back}
use Rattle.model.specs.Recurrence.{row, Cell, empty, shift, next, mask}
use Rattle.model.proofs.Lists.{clash}
use Rattle.model.proofs.Least.{LexLe, IsLeast, least_iff, pick_least, Shifted, shift_least, when_least}

-- what a job adds to the setup total, and to the here total
abbrev pub setup_part : Chosen → ℕ
setup_part c = cond c.away (setup_time c.job) 0

abbrev pub here_part : Chosen → ℕ
here_part c = cond c.away 0 c.job.local

-- the away jobs, back to back from tick 0, meet D
abbrev pub Feasible : ℕ → List Chosen → Type 0
Feasible D [] = Unit {0}
Feasible D (c ∷ cs) = (T c.away → setup_part c + total setup_part cs + back c ≤ D) × Feasible D cs

-- (h, m) is reached by a feasible choice of the jobs with setup total t
pub record Reach (D : ℕ) (os : List Job) (t h m : ℕ) : Type 0 where
  pub of : List Chosen
  pub jobs : map (λ (c : Chosen). c.job) of ≡ os
  pub feasible : Feasible D of
  pub setups : total setup_part of ≡ t
  pub heres : total here_part of ≡ h
  pub bits : mask of ≡ m

pub job_count : (xs : List Chosen) (os : List Job) → map (λ (c : Chosen). c.job) xs ≡ os → length xs ≡ length os
job_count xs os e = sym (length-map xs (λ (c : Chosen). c.job)) ∙ ap length e

module _ (D : ℕ) (o : Job) (os : List Job) (t : ℕ) where
  abbrev S : ℕ
  S = setup_time o

  abbrev I : ℕ
  I = return_time o

  abbrev Room : Type 0
  Room = (S ≤ t) × (t + I ≤ D)

  abbrev Kept : ℕ → ℕ → Type 0
  Kept = Shifted o.local 0 (Reach D os t)

  abbrev Sent : ℕ → ℕ → Type 0
  Sent a m = Room × Shifted 0 (2 ^ length os) (Reach D os (t - S)) a m

  keep : (a m : ℕ) → Kept a m → Reach D (o ∷ os) t a m
  keep a m k =
      let r = k.2 in
      record {
        of = record { job = o; away = false } ∷ r.of;
        jobs = ap (λ (l : List Job). o ∷ l) r.jobs;
        feasible = ((λ h. absurd h), r.feasible);
        setups = omega (arith, r.setups);
        heres = omega (arith, r.heres, k.3);
        bits = omega (arith, r.bits, k.4);
      }

  send : (a m : ℕ) → Sent a m → Reach D (o ∷ os) t a m
  send a m (room, k) =
      let r = k.2 in
      record {
        of = record { job = o; away = true } ∷ r.of;
        jobs = ap (λ (l : List Job). o ∷ l) r.jobs;
        feasible = ((λ h. omega (arith, room, r.setups)), r.feasible);
        setups = omega (arith, room, r.setups);
        heres = omega (arith, r.heres, k.3);
        bits = omega (arith, r.bits, k.4, ap (λ (n : ℕ). 2 ^ n) (job_count r.of os r.jobs));
      }

  split : (xs : List Chosen) (a m : ℕ) → map (λ (c : Chosen). c.job) xs ≡ o ∷ os → Feasible D xs
      → total setup_part xs ≡ t → total here_part xs ≡ a → mask xs ≡ m → Kept a m ⊎ Sent a m
  split [] a m e f s h b = clash (cc)
  split (x ∷ xs) a m e f s h b = side x.away f.0 s h b
    where
      same : x.job ≡ o
      same = cc

      rest : map (λ (c : Chosen). c.job) xs ≡ os
      rest = cc

      same_c : x.job.local ≡ o.local
      same_c = ap (λ (j : Job). j.local) same

      same_s : setup_time x.job ≡ S
      same_s = ap (λ (j : Job). setup_time j) same

      same_i : return_time x.job ≡ I
      same_i = ap (λ (j : Job). return_time j) same

      same_p : 2 ^ length xs ≡ 2 ^ length os
      same_p = ap (λ (n : ℕ). 2 ^ n) (job_count xs os rest)

      side : (w : Bool) → (T w → cond w (setup_time x.job) 0 + total setup_part xs + return_time x.job ≤ D)
          → cond w (setup_time x.job) 0 + total setup_part xs ≡ t
          → cond w 0 x.job.local + total here_part xs ≡ a → cond w (2 ^ length xs) 0 + mask xs ≡ m → Kept a m ⊎ Sent a m
      side false g s h b =
          inl (
            total here_part xs,
            mask xs,
            record { of = xs; jobs = rest; feasible = f.1; setups = omega arith; heres = refl; bits = refl },
            omega (arith, same_c),
            omega arith,
          )
      side true g s h b =
          inr (
            omega (arith, same_s, same_i, g tt),
            (
              total here_part xs,
              mask xs,
              record { of = xs; jobs = rest; feasible = f.1; setups = omega (arith, same_s); heres = refl; bits = refl },
              omega arith,
              omega (arith, same_p),
            ),
          )

  reach_cases : (a m : ℕ) → Reach D (o ∷ os) t a m → Kept a m ⊎ Sent a m
  reach_cases a m r = split r.of a m r.jobs r.feasible r.setups r.heres r.bits

  -- the step: from a row's cells at t and at t - S to the next row's cell at t
  pub next_least : (kept sent : Cell) → IsLeast (Reach D os t) kept → (S ≤ t → IsLeast (Reach D os (t - S)) sent)
      → IsLeast (Reach D (o ∷ os) t) (next D o (length os) t kept sent)
  next_least kept sent k s =
      least_iff (λ (a m : ℕ). Kept a m ⊎ Sent a m) (Reach D (o ∷ os) t) join reach_cases (next D o (length os) t kept sent)
      (pick_least Kept Sent (shift o.local 0 kept) (cond (leb S t && leb (t + I) D) (shift 0 (2 ^ length os) sent) empty)
      (shift_least o.local 0 (Reach D os t) kept k)
      (when_least (leb S t && leb (t + I) D) Room (Shifted 0 (2 ^ length os) (Reach D os (t - S))) (shift 0 (2 ^ length os) sent)
      (room (leb S t) (leb (t + I) D) refl refl) (no_room (leb S t) (leb (t + I) D) refl refl)
      (λ r. shift_least 0 (2 ^ length os) (Reach D os (t - S)) sent (s r.0))))
    where
      join : (a m : ℕ) → Kept a m ⊎ Sent a m → Reach D (o ∷ os) t a m
      join a m (inl h) = keep a m h
      join a m (inr h) = send a m h

      room : (x y : Bool) → leb S t ≡ x → leb (t + I) D ≡ y → (x && y) ≡ true → Room
      room true true e f g = (leb-true S t e, leb-true (t + I) D f)
      room true false e f g = clash (cc)
      room false y e f g = clash (cc)

      no_room : (x y : Bool) → leb S t ≡ x → leb (t + I) D ≡ y → (x && y) ≡ false → Room → ⊥
      no_room true true e f g r = clash (cc)
      no_room true false e f g r = omega (arith, leb-false (t + I) D f, r)
      no_room false y e f g r = omega (arith, leb-false S t e, r)

none_yet : (D t : ℕ) (xs : List Chosen) → map (λ (c : Chosen). c.job) xs ≡ [] → total setup_part xs ≡ suc t → ⊥
none_yet D t [] e s = omega arith
none_yet D t (x ∷ xs) e s = clash (cc)

pub row_least : (D : ℕ) (os : List Job) (t : ℕ) → IsLeast (Reach D os t) (row D os t)
row_least D [] zero =
    (record { of = []; jobs = refl; feasible = tt; setups = refl; heres = refl; bits = refl }, λ b n r. lex_zero b n)
  where
    lex_zero : (b n : ℕ) → LexLe 0 0 b n
    lex_zero zero n = inr (refl, omega arith)
    lex_zero (suc b) n = inl (omega arith)
row_least D [] (suc t) = λ a m r. none_yet D t r.of r.jobs r.setups
row_least D (o ∷ os) t = next_least D o os t (row D os t) (row D os (t - setup_time o)) (row_least D os t) (λ h. row_least D os (t - setup_time o))
