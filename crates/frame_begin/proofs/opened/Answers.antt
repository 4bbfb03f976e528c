-- `frame_begin::opened` meets its contract: a table that reads is sound, and a plan that passes has a step for each of its jobs. Assumes nothing.
use mathlib.Core.Path.{sym, ◌∙◌}
use borrow.Author.Rules.{rules}
use Rattle.table.proofs.Reading.{read_whole}
use Rattle.frame_begin.proofs.Passed.{steps_enough}
use Rattle.frame_begin.proofs.opened.Goals as goal

pub check_read-requires : goal.check_read-requires
check_read-requires c = (read_whole c.args.table.now _ c.read_table.ensures _ c.in_ok-t.was).sound

pub begun-requires : goal.begun-requires
begun-requires c =
    let sound = (read_whole c.args.table.now _ c.read_table.ensures _ c.in_ok-t.was).sound in
    (sound.few, steps_enough _ sound (search rules) _ _ (sym c.check_read.ensures ∙ c.in_ok-check_read.was))
