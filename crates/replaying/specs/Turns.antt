-- docs/REPLAY.md, 'The log in bytes': the frame's record after a log, whose calls are made one after another from idle.
-- Assumes nothing.
use Rattle.std.specs.Prelude.{ℕ, zero, suc, cond, List, length, take, drop, eqb, Option, None, Some}
use Rattle.frame_record.specs.declared.Frame.{Frame}
use Rattle.frame_record.specs.Answers.{idle}
use Rattle.frame_log.specs.declared.Whole.{Whole}
use Rattle.frame_log.specs.Log.{call_of, record_at}

-- One turn, where s is what is left of the log: the frame's record after it, and how far it goes; where the run stops, to the log's end.
abbrev pub frame_after : Frame → List ℕ → Option Whole → Frame
frame_after f s (Some w) = (call_of f w.kind (take w.size s)).frame
frame_after f s None = f

abbrev pub gone_by : List ℕ → Option Whole → ℕ
gone_by s (Some w) = w.size
gone_by s None = length s

-- the frame's record after the turns that are left, of which there may be `most`
unfoldable pub frame_from : ℕ → Frame → List ℕ → Frame
frame_from zero f s = f
frame_from (suc most) f s = cond (eqb (length s) 0) f (frame_from most (frame_after f s (record_at s)) (drop (gone_by s (record_at s)) s))

-- the frame's record after a log from idle: a turn takes at least one byte
unfoldable pub replayed : List ℕ → Frame
replayed s = frame_from (length s) idle s
