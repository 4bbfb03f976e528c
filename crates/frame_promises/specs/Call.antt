-- Document 01, 'The frame runner': a call as a value, and the record that calls reach from idle. Assumes nothing.
use Rattle.std.specs.Prelude.{ℕ, List, [], ◌∷◌}
use Rattle.frame_record.specs.Answers.{idle}
use Rattle.frame_calls.specs.Calls.{event_step}
use Rattle.frame_begin.specs.Begin.{begin_step}
use Rattle.frame_record.specs.declared.Frame.{Frame}
use Rattle.frame_record.specs.declared.Event.{Event}
use Rattle.frame_record.specs.declared.Called.{Called}

-- a call: a begin with any bytes, or any other
pub data Call : Type 0 where
  begin : (table plan : List ℕ) (number : ℕ) → Call
  event : Event → Call

abbrev pub called_of : Call → Frame → Called
called_of (begin table plan number) f = begin_step f table plan number
called_of (event e) f = event_step f e

-- the record after calls, one after the other
unfoldable pub after : Frame → List Call → Frame
after f [] = f
after f (c ∷ cs) = after (called_of c f).frame cs

abbrev pub reached : List Call → Frame
reached cs = after idle cs
