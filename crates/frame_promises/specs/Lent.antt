-- What the two contracts over a lent record tell a caller, as Rattle reads them of src/ (`Reads`' `Learnt`); and sequences of calls on a record
-- that is lent to each. Assumes nothing.
use Rattle.std.specs.Prelude.{List, []}
use Rattle.faults.specs.Allows.{Tells, to, to_mut}
use Rattle.frame_promises.specs.Call.{Call, begin, event}
use Rattle.frame_record.specs.declared.Frame.{Frame}
use Rattle.frame_record.specs.declared.Called.{Called}
use Rattle.frame_lent.proofs as frame_lent
use Rattle.frame_lent.specs.contracts
use Rattle.frame_promises.specs.History.{Turn}
use Rattle.frame_promises.specs.Runs.{Starts, Runs}

abbrev pub BeginIn : Tells contracts.begin_in.ended
BeginIn = frame_lent.begin_in.Reads.Learnt

abbrev pub CallIn : Tells contracts.call_in.ended
CallIn = frame_lent.call_in.Reads.Learnt

-- `begin_in` and `call_in` may answer so, and leave this record where it was lent
abbrev pub LentAllows : Frame → Call → Called → Type 0
LentAllows f (begin table plan n) s =
    BeginIn ([], ([], ([], tt))) (to_mut f, (to table, (to plan, (n, tt)))) s.answer (to_mut s.frame, (to table, (to plan, (n, tt))))
LentAllows f (event e) s = CallIn ([], tt) (to_mut f, (e, tt)) s.answer (to_mut s.frame, (e, tt))

abbrev pub LentFromIdle : List Turn → Type 0
LentFromIdle ts = (f : Frame) × Starts f × Runs LentAllows f ts
