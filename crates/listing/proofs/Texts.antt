-- From what the code reads and makes to the text of the table bytes, and from the text written at the front to what `list_plan` promises,
-- which settles the answer and the buffer, and tells a caller where the text stands. Assumes nothing.
use mathlib.Core.Path.{◌≡◌, refl, sym, ap, subst, ◌∙◌}
use mathlib.Core.List.{List, [], ◌∷◌, ◌++◌, Permᴰ}
use Rattle.std.specs.Prelude.{Option, None, Some, Result, Ok}
use Prim.Native.Nat.{ℕ, ◌≤◌}
use native.Mathlib.Omega.{arith}
use lib.ListN.{length, take, drop, length-take}
use lib.Seq.{take_at}
use Rattle.model.specs.Timetable.{Chosen}
use Rattle.model.specs.FreeOrder.{laid, busy, last_from}
use Rattle.model.specs.Positions.{free}
use Rattle.model.proofs.Lists.{clash}
use Rattle.model.proofs.PlanOrder.{perm_plan}
use Rattle.model.proofs.Free.{free_best}
use Rattle.records.specs.declared.refusal.Refusal.{Refusal}
use Rattle.records.specs.declared.refusal.Refusal.TheVariants.{Room}
use Rattle.table.specs.declared.Table.{Table}
use Rattle.records.specs.Limits.{most_jobs}
use Rattle.records.specs.Refusals.{refusal_says, Outcome, accepted, refused}
use Rattle.table.specs.Tables.{JobTable, job_table, table_of, table_read, read_table}
use Rattle.table.proofs.Accepted.{held_table}
use Rattle.plan.specs.Plans.{steps_of, steps_for}
use Rattle.plan.proofs.Steps.{steps_of_plan}
use Rattle.draft.specs.declared.Draft.{Draft}
use Rattle.draft.specs.Drafts.{draft_of, drafted_of}
use Rattle.table.proofs.Reading.{WholeRead}
use Rattle.octets.specs.Writing.{Wrote}
use Rattle.octets.proofs.Writing.{written_front}
use Rattle.lines.specs.Lines.{refused_text}
use Rattle.listing.specs.Listing.{first_line, job_lines, last_line, plan_text, found_text, outcome_text, text_of, room_for_text, listed_says}
use Rattle.listing.specs.Listing.{Lists, no_room, text_written}
use Rattle.listing.specs.Found.{chosen_for, draft_text, made_text}
use Rattle.listing.proofs.Found.{found_again}

pub refused_text_lem : (s : List ℕ) (f : Refusal) → read_table s ≡ refused f → refused_text (refusal_says f) ≡ text_of s
unfolding text_of
refused_text_lem s f e = ap outcome_text (sym e)

-- the table that is read has as many jobs as it counts
pub read_counted :
    (s : List ℕ) (r : Result Table Refusal) (u : Table) → r ≡ table_read (read_table s) → r ≡ Ok u → length (job_table u).jobs ≡ u.count
read_counted s r u e h = step (read_table s) (sym h ∙ e)
  where
    step : (o : Outcome JobTable) → Ok u ≡ table_read o → length (job_table u).jobs ≡ u.count
    step (accepted t) q = let is : u ≡ table_of t.deadline t.jobs = cc in rw is (ap (λ (u : JobTable). length u.jobs) (held_table t))
    step (refused f) q = clash (cc)

-- what the planner made of it has the text of the bytes
module _ (s : List ℕ) (u : Table) (w : WholeRead s u) (counted : length (job_table u).jobs ≡ u.count) where
  plan_text_lem : (xs : List Chosen) → free most_jobs u.deadline (job_table u).jobs ≡ Some xs → draft_text u (draft_of xs) ≡ plan_text (job_table u) xs
  unfolding draft_text plan_text
  plan_text_lem xs q =
      let good = w.sound.good in
      let b = free_best most_jobs (job_table u).jobs good.few u.deadline xs q in
      let p : Permᴰ b.0 xs = subst (Permᴰ b.0) (sym b.2) (mathlib.Core.List.Permᴰ.symm (perm_plan b.0 b.1.choice.allowed)) in
      let found = chosen_for (job_table u).jobs (steps_of (draft_of xs).plan) in
      let again : found ≡ xs =
      ap (chosen_for (job_table u).jobs) (steps_of_plan (steps_for xs)) ∙ found_again (job_table u).jobs good.distinct b.0 xs b.1.choice p in
      ap (λ (n : ℕ). first_line u.deadline n ++ job_lines (laid 0 found) ++ last_line (busy xs) (last_from 0 xs)) (sym counted) ∙
      ap (λ (ys : List Chosen). first_line u.deadline (length (job_table u).jobs) ++ job_lines (laid 0 ys) ++ last_line (busy xs) (last_from 0 xs)) again

  pub made_text_lem : (made : Option Draft) → made ≡ drafted_of (free most_jobs u.deadline (job_table u).jobs) → made_text u made ≡ text_of s
  unfolding text_of
  made_text_lem made e = ap (made_text u) e ∙ (step (free most_jobs u.deadline (job_table u).jobs) refl ∙ ap outcome_text (sym w.is))
    where
      step : (o : Option (List Chosen)) → free most_jobs u.deadline (job_table u).jobs ≡ o → made_text u (drafted_of o) ≡ found_text (job_table u) o
      step None q = refl
      step (Some xs) q = plan_text_lem xs q

-- the text written at the front is what is promised
pub lists_text :
    (s before after w : List ℕ) (n : ℕ) → room_for_text ≤ length before → w ≡ text_of s → Wrote before 0 w after n → Lists s before (Some n) after
lists_text s before after w n room e wrote =
    let size : n ≡ length (text_of s) = omega (arith, wrote.place, ap length e) in
    text_written room (rw size) (rw e at (wrote.area ∙ written_front before w))

-- what is promised settles the answer and the buffer
says_injective : (r q : Option ℕ) → listed_says r ≡ listed_says q → r ≡ q
says_injective (Some n) (Some m) e = let x : n ≡ m = cc in ap Some x
says_injective (Some n) None e = clash (cc)
says_injective None (Some m) e = clash (cc)
says_injective None None e = refl

pub lists_settled : (s before : List ℕ) (r q : Option ℕ) (a b : List ℕ) → Lists s before r a → Lists s before q b → (r ≡ q) × (a ≡ b)
lists_settled s before r q a b (no_room l h x) (no_room m k y) = (says_injective r q (h ∙ sym k), x ∙ sym y)
lists_settled s before r q a b (no_room l h x) (text_written m k y) = absurd (omega arith)
lists_settled s before r q a b (text_written l h x) (no_room m k y) = absurd (omega arith)
lists_settled s before r q a b (text_written l h x) (text_written m k y) = (says_injective r q (h ∙ sym k), x ∙ sym y)

-- and for a caller: where the answer is a length, so many bytes at the front are the text
module _ {s before after : List ℕ} {r : Option ℕ} (n : ℕ) where
  pub text_front : Lists s before r after → r ≡ Some n → take n after ≡ text_of s
  text_front (no_room short says left) e = let z : 0 ∷ n ∷ [] ≡ refusal_says Room = rw e at says in clash (cc)
  text_front (text_written room says front) e =
      let z : 0 ∷ n ∷ [] ≡ 0 ∷ length (text_of s) ∷ [] = rw e at says in
      let size : length (text_of s) ≡ n = cc in
      ap (take n) front ∙ take_at (text_of s) (drop (length (text_of s)) before) n size

  pub text_counts : Lists s before r after → r ≡ Some n → (n ≤ length after) × (n ≡ length (take n after))
  text_counts l e = (omega (arith, size l, length-take n after), size l)
    where
      size : Lists s before r after → n ≡ length (take n after)
      size (no_room short says left) = let z : 0 ∷ n ∷ [] ≡ refusal_says Room = rw e at says in clash (cc)
      size (text_written room says front) =
          let z : 0 ∷ n ∷ [] ≡ 0 ∷ length (text_of s) ∷ [] = rw e at says in
          let same : n ≡ length (text_of s) = cc in
          same ∙ sym (ap length (text_front (text_written room says front) e))
