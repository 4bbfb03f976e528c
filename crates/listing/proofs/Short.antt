-- No text has more than 1,024 bytes: at most 32 job lines of at most 24 bytes, and two lines of at most 20; or one line of a refusal.
-- Assumes nothing.
use mathlib.Core.Path.{◌≡◌, refl, sym, ap, subst}
use mathlib.Core.Bool.{Bool, true, false}
use mathlib.Core.List.Permᴰ
use mathlib.Core.List.{List, [], ◌∷◌}
use Rattle.std.specs.Prelude.{Option, None, Some}
use Prim.Native.Nat.{ℕ, suc, ◌+◌, ◌*◌, ◌≤◌, ◌<◌}
use native.Mathlib.Omega.{arith}
use lib.ListN.{length, get_or, length-append}
use Rattle.model.specs.declared.Job.{Job}
use Rattle.model.specs.Lists.{All}
use Rattle.model.specs.Timetable.{Chosen, Placed, span, finish}
use Rattle.model.specs.FreeOrder.{laid, busy, last_from, Fits}
use Rattle.model.specs.Positions.{free}
use Rattle.model.proofs.Lists.{all_map, all_zip, all_of_map}
use Rattle.model.proofs.Permutations.{all_perm}
use Rattle.model.proofs.PlanOrder.{perm_plan}
use Rattle.model.proofs.Bounds.{fits_last}
use Rattle.model.proofs.Workable.{fits_sum}
use Rattle.model.proofs.Free.{free_best}
use Rattle.records.specs.declared.refusal.Refusal.TheVariants as R
use Rattle.records.specs.Limits.{most_jobs}
use Rattle.records.specs.Refusals.{refusal_says, Outcome, accepted, refused}
use Rattle.table.specs.Tables.{JobTable, read_table}
use Rattle.table.proofs.Accepted.{accepted_good}
use Rattle.planner.specs.Orders.{free_many}
use Rattle.octets.proofs.Decimals.{few_digits}
use Rattle.lines.specs.Lines.{refused_text}
use Rattle.lines.proofs.Lines.{pair_length}
use Rattle.listing.specs.Listing.{frame_word, jobs_word, busy_word, last_word, choice_word, job_line, job_lines, plan_text, found_text}
use Rattle.listing.specs.Listing.{outcome_text, text_of, room_for_text}
use Rattle.faults.specs.Faults.{Byte}
use Rattle.faults.proofs.Tables.{table_is}
use Rattle.faults.proofs.Numbers.{table_near}
use Rattle.listing.proofs.Places.{accepted_ids}

choice_length : (away : Bool) → length (choice_word away) ≡ 6
choice_length true = refl
choice_length false = refl

-- a job's line, where the id is a byte and the finish at most 4,000
abbrev Small : Placed → Type 0
Small p = (p.what.job.id < 256) × (finish p ≤ 4000)

line_length : (p : Placed) → Small p → length (job_line p) ≤ 24
unfolding job_line
line_length p h =
    simp length-append
    (omega (
      arith,
      choice_length p.what.away,
      few_digits 2 p.what.job.id (omega arith),
      few_digits 3 p.start (omega arith),
      few_digits 3 (p.start + span p.what) (omega arith),
      few_digits 3 (finish p) (omega arith),
    ))

lines_length : (ps : List Placed) → All Small ps → length (job_lines ps) ≤ 24 * length ps
unfolding job_lines
lines_length [] a = omega arith
lines_length (p ∷ ps) a = omega (arith, length-append (job_line p) (job_lines ps), line_length p a.0, lines_length ps a.1)

-- jobs back to back: as many as before, each with what holds of it; and the last span ends by the deadline
laid_length : (t : ℕ) (xs : List Chosen) → length (laid t xs) ≡ length xs
laid_length t [] = refl
laid_length t (x ∷ xs) = ap suc (laid_length (t + span x) xs)

laid_all : (P : Chosen → Type 0) (t : ℕ) (xs : List Chosen) → All P xs → All (λ (p : Placed). P p.what) (laid t xs)
laid_all P t [] a = tt
laid_all P t (x ∷ xs) a = (a.0, laid_all P (t + span x) xs a.1)

plan_short :
    (t : JobTable) (xs : List Chosen) → t.deadline ≤ 4000 → length t.jobs ≤ most_jobs → length xs ≡ length t.jobs →
    All (λ (x : Chosen). x.job.id < 256) xs → Fits t.deadline 0 xs → length (plan_text t xs) ≤ room_for_text
unfolding plan_text
plan_short t xs D few many ids fits =
    let by : last_from 0 xs ≤ t.deadline = (fits_last t.deadline 0 xs).0 fits in
    let busy_small = fits_sum t.deadline 0 xs (omega arith) fits in
    let small : All Small (laid 0 xs) =
    all_zip (λ (p : Placed). p.what.job.id < 256) (λ (p : Placed). finish p ≤ 4000) (laid 0 xs) (laid_all (λ (x : Chosen). x.job.id < 256) 0 xs ids)
    (all_map (λ (p : Placed) (h : finish p ≤ t.deadline). omega arith) (laid 0 xs) fits) in
    simp length-append
    (omega (
      arith,
      lines_length (laid 0 xs) small,
      laid_length 0 xs,
      pair_length frame_word t.deadline jobs_word (length t.jobs),
      pair_length busy_word (busy xs) last_word (last_from 0 xs),
      few_digits 3 t.deadline (omega arith),
      few_digits 1 (length t.jobs) (omega arith),
      few_digits 3 (busy xs) (omega arith),
      few_digits 3 (last_from 0 xs) (omega arith),
    ))

refused_short : (n p : ℕ) → n < 10 → p < 1000 → length (refused_text (n ∷ p ∷ [])) ≤ room_for_text
unfolding refused_text
refused_short n p h k = simp length-append (omega (arith, few_digits 0 n h, few_digits 2 p k))

none_short : length (refused_text (refusal_says R.None)) ≤ room_for_text
unfolding refused_text
none_short = simp length-append (omega (arith, few_digits 0 7 (omega arith)))

all_bytes : (s : List ℕ) → ((i : ℕ) → get_or s i 0 < 256) → All Byte s
all_bytes [] h = tt
all_bytes (b ∷ s) h = (h 0, all_bytes s (λ i. h (suc i)))

module _ (s : List ℕ) (bytes : (i : ℕ) → get_or s i 0 < 256) where
  found_short :
      (t : JobTable) → read_table s ≡ accepted t → (o : Option (List Chosen)) → free most_jobs t.deadline t.jobs ≡ o →
      length (found_text t o) ≤ room_for_text
  found_short t e None q = none_short
  found_short t e (Some xs) q =
      let good = accepted_good s t e in
      let b = free_best most_jobs t.jobs good.few t.deadline xs q in
      let cs = b.0 in
      let c = b.1.choice in
      let ids : All (λ (x : Chosen). x.job.id < 256) cs =
      all_of_map (λ (x : Chosen). x.job) (λ (j : Job). j.id < 256) cs (subst (All _) (sym c.each) (accepted_ids s t bytes e)) in
      plan_short t xs good.high good.few (free_many t xs b)
      (subst (All _) (sym b.2) (all_perm (λ (x : Chosen). x.job.id < 256) (Permᴰ.symm (perm_plan cs c.allowed)) ids))
      (subst (Fits t.deadline 0) (sym b.2) b.1.workable)

  pub text_short : length (text_of s) ≤ room_for_text
  unfolding text_of
  text_short = step (read_table s) refl
    where
      step : (o : Outcome JobTable) → read_table s ≡ o → length (outcome_text o) ≤ room_for_text
      step (accepted t) e = found_short t e (free most_jobs t.deadline t.jobs) refl
      step (refused f) e =
          let a = table_near ((table_is s (all_bytes s bytes) (refused f)).0 e) in
          rw a.says (refused_short a.number a.place (omega (arith, a.high)) (omega (arith, a.within)))
