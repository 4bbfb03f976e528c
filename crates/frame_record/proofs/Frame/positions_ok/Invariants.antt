-- `frame_record::Frame::positions_ok` meets its contract: `Going` of proofs/Marks.antt is kept, and each way out of a turn is one of its laws. Assumes nothing.
use Rattle.frame_record.proofs.Marks.{Going}
use Rattle.frame_record.proofs.Frame.positions_ok.Given as goal

abbrev pub invariant-loop-k : goal.invariant-loop-k
invariant-loop-k l = Going l.self l.positions l.ids l.k
