-- `free::free_plan` asks for the best choice, and lists its away jobs and then its here jobs; or there is none. Assumes nothing.
use mathlib.Core.Path.{sym, ◌∙◌}
use mathlib.Core.List.{List}
use Rattle.std.proofs.Common.{rules}
use Rattle.model.specs.declared.Job.{Job}
use Rattle.model.specs.FreeOrder.{is_away}
use Rattle.model.specs.Lists.{filter}
use Rattle.table.specs.declared.Table.{Table}
use Rattle.table.specs.Tables.{job_table, Sound}
use Rattle.choice.specs.Choices.{SoundJobs, flags_of}
use Rattle.free.specs.Parts.{in_away_order}
use Rattle.free.proofs.Plans.{found_room, found_plan}
use Rattle.free.proofs.free_plan.Goals as goal

-- the table's jobs, and that they are sound
abbrev jobs : Table → List Job
jobs t = (job_table t).jobs

sound : (t : Table) → Sound t → SoundJobs (jobs t)
sound t s = record { few = s.good.few; times = s.good.times }

pub here_part-requires : goal.here_part-requires
here_part-requires c =
    let t = c.args.t.now in
    let s = sound t c.requires in
    let m = sym c.in_ok-mask.was ∙ c.best_choice.ensures (jobs t) c.prepare-p.ensures in
    let flags = c.flags_of-flags.ensures (jobs t) c.prepare-p.ensures in (
      search rules,
      rw flags (found_room (jobs t) s t.deadline c.in_ok-mask.mask m _
          (rw flags at (c.away_part-front.ensures (jobs t) c.prepare-p.ensures s))),
    )

pub returns : goal.returns
returns c =
    let t = c.args.t.now in
    let s = sound t c.requires in
    let m = sym c.in_ok-mask.was ∙ c.best_choice.ensures (jobs t) c.prepare-p.ensures in
    let flags = c.flags_of-flags.ensures (jobs t) c.prepare-p.ensures in
    let sent = rw flags at (c.away_part-front.ensures (jobs t) c.prepare-p.ensures s) in
    found_plan (jobs t) s t.deadline c.in_ok-mask.mask m _
    ((rw flags at c.here_part.ensures)
    (filter is_away (in_away_order (jobs t) (flags_of (jobs t) c.in_ok-mask.mask)))
    (found_room (jobs t) s t.deadline c.in_ok-mask.mask m _ sent) sent)
