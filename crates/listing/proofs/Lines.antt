-- A job's line in the parts that the code writes, and the job lines one after the other.
-- Assumes nothing.
use mathlib.Core.Path.{◌≡◌, sym, ap, ◌∙◌}
use mathlib.Core.List.{List, [], ◌++◌, append_assoc}
use Prim.Native.Nat.{ℕ, ◌+◌, ◌*◌, ◌≤◌, ◌<◌}
use native.Mathlib.Numerals.{add-one}
use native.Mathlib.Omega.{arith}
use lib.ListN.{length, drop, get_or, length-append, length-map, drop_of_length-le, get_or-map}
use lib.Seq.{drop-cons}
use Rattle.model.specs.declared.Job.{Job}
use Rattle.model.specs.Timetable.{Chosen, Placed, span, span_end, finish}
use Rattle.model.specs.FreeOrder.{laid}
use Rattle.model.specs.Laying.{chosen}
use Rattle.plan.specs.declared.Step.{Step}
use Rattle.plan.specs.Plans.{no_step}
use Rattle.octets.specs.Writing.{Wrote, written}
use Rattle.octets.specs.Decimals.{decimal}
use Rattle.octets.proofs.Writing.{written_length, written_append, written_nil, room_first}
use Rattle.lines.specs.Lines.{space, pair_line}
use Rattle.listing.specs.Listing.{choice_word, job_line, job_lines}
use Rattle.listing.specs.Found.{job_with, with_job, chosen_for, placed}

-- a job's line, as `put_job_line` writes it
pub job_parts :
    (p : Placed) →
    job_line p ≡ decimal p.what.job.id ++ (choice_word p.what.away ++ decimal p.start) ++ pair_line space (span_end p) space (finish p)
unfolding job_line pair_line
job_parts p = simp append_assoc

-- The job lines, one after the other.

module _ (js : List Job) (steps : List Step) where
  abbrev xs : List Chosen
  xs = chosen_for js steps

  -- what is still to write where i lines stand and the next span starts at `start`
  abbrev lines_left : ℕ → ℕ → List ℕ
  lines_left i start = job_lines (laid start (drop i xs))

  -- what `put_lines` keeps
  pub record Kept (out₀ : List ℕ) (from : ℕ) (out : List ℕ) (i at start : ℕ) : Type 0 where
    pub within : i ≤ length steps
    pub early : start ≤ 65535 * i
    pub size : length out ≡ length out₀
    pub rest : written out at (lines_left i start) ≡ written out₀ from (lines_left 0 0)
    pub place : at + length (lines_left i start) ≡ from + length (lines_left 0 0)

  pub kept_end :
      {out₀ out : List ℕ} {from i at start : ℕ} → length steps ≤ i → Kept out₀ from out i at start →
      Wrote out₀ from (lines_left 0 0) out at
  unfolding job_lines
  kept_end {out₀} {out} {from} {i} {at} h k =
      let none : drop i xs ≡ [] = drop_of_length-le xs {i = i} (omega (arith, length-map steps (with_job js))) in
      record {
        place = omega (arith, rw none at k.place);
        area = rw (none, written_nil) at k.rest;
      }

  module _ (i : ℕ) (more : i < length steps) (x : Step) (step : get_or steps i no_step ≡ x) (j : Job) (found : j ≡ job_with js x.id) (start : ℕ) where
    abbrev line : List ℕ
    line = job_line (placed j x.away start)

    abbrev left : List ℕ
    left = lines_left (i + 1) (start + span (chosen j x.away))

    next_line : lines_left i start ≡ line ++ left
    unfolding job_lines
    next_line =
        let there : i < length xs = omega (arith, length-map steps (with_job js)) in
        let next : get_or xs i (with_job js no_step) ≡ chosen j x.away = get_or-map (with_job js) steps i no_step ∙ rw (step, found) in
        rw (drop-cons xs i (with_job js no_step) there, next, add-one)

    module _ {out₀ out : List ℕ} {from at : ℕ} (room : from + length (lines_left 0 0) ≤ length out₀) (k : Kept out₀ from out i at start) where
      whole : at + length (line ++ left) ≤ length out
      whole = omega (arith, ap length next_line, k.place, k.size)

      pub line_room : at + length line ≤ length out
      line_room = room_first out at line left whole

      pub kept_more :
          {after : List ℕ} {end s : ℕ} → s ≡ span (chosen j x.away) → s ≤ 65535 → Wrote out at line after end →
          Kept out₀ from after (i + 1) end (start + s)
      kept_more {after} {end} e small w =
          let early = k.early in
          record {
            within = omega arith;
            early = omega arith;
            size = rw w.area (written_length out at line line_room ∙ k.size);
            rest =
                rw (e, w.area, w.place)
                (sym (written_append out at line left (omega (arith, line_room))) ∙ (ap (written out at) (sym next_line) ∙ k.rest));
            place = rw e (omega (arith, w.place, k.place, ap length next_line, length-append line left));
          }
