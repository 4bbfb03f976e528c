-- `frame_record::Frame::positions_ok` meets its contract; what its loop keeps stands in Invariants.antt. Assumes nothing.
use mathlib.Core.Path.{sym, ◌∙◌}
use native.Mathlib.Omega.{arith}
use borrow.Author.Rules.{rules}
use Rattle.frame_record.proofs.Marks.{going, gone, beyond, position_again, id_again, badly, onward}
use Rattle.frame_record.proofs.Frame.positions_ok.Goals.{then-self-position-via-then-self-position}
use Rattle.frame_record.proofs.Frame.positions_ok.Goals.{then-self-position-via-else-self-position+then-positions-position}
use Rattle.frame_record.proofs.Frame.positions_ok.Goals.{then-ids-id-via-then-ids-id, then-ids-id-via-else-ids-id+then-not-entry_ok}
use Rattle.frame_record.proofs.Frame.positions_ok.Goals as goal

pub loop-k-init : goal.loop-k-init
loop-k-init c = going _

pub returns-then-self-position : goal.returns-then-self-position
returns-then-self-position c =
    elim c.then-self-position.branch [
      | then-self-position-via-then-self-position w ↦ beyond c.requires c.loop-k.invariant c.loop-k-test.true w.if-self-position.true
      | then-self-position-via-else-self-position+then-positions-position w ↦
          position_again c.requires c.loop-k.invariant c.loop-k-test.true (omega arith) w.if-positions-position.true
    ]

pub returns-then-ids-id : goal.returns-then-ids-id
returns-then-ids-id c =
    elim c.then-ids-id.branch [
      | then-ids-id-via-then-ids-id w ↦
          id_again c.requires c.loop-k.invariant c.loop-k-test.true (omega arith) c.if-positions-position.false (search rules) w.if-ids-id.true
      | then-ids-id-via-else-ids-id+then-not-entry_ok w ↦
          badly c.requires c.loop-k.invariant c.loop-k-test.true (omega arith) c.if-positions-position.false (search rules) w.if-ids-id.false
          (sym w.entry_ok.ensures ∙ w.if-not-entry_ok.true)
    ]

pub loop-k-preserved : goal.loop-k-preserved
loop-k-preserved c =
    onward c.requires c.loop-k.invariant c.loop-k-test.true
    (omega arith) c.if-positions-position.false (search rules) c.if-ids-id.false (sym c.entry_ok.ensures ∙ c.if-not-entry_ok.false)

pub returns : goal.returns
returns c = gone c.loop-k.invariant (omega arith)
