-- docs/REPLAY.md, 'The log in bytes': "Numbers are low byte first; a value is the four bytes of its 32-bit float pattern." The record at the front of
-- a log, and the call that it is. Assumes nothing.
use Rattle.std.specs.Prelude.{ℕ, ◌+◌, cond, List, length, get_or, take, drop, leb, eqb, Float, Option, None, Some}
use Rattle.std.specs.Float.{nan, binary32}
use Rattle.std.specs.Float.Ieee.{nan_bits, of_bits}
use Rattle.octets.specs.Numbers.{two_at, four_at}
use Rattle.frame_record.specs.declared.Frame.{Frame}
use Rattle.frame_record.specs.declared.Called.{Called}
use Rattle.frame_record.specs.declared.Event.{Event}
use Rattle.frame_record.specs.declared.Event.TheVariants as E
use Rattle.frame_calls.specs.Calls.{event_step}
use Rattle.frame_begin.specs.Begin.{begin_step}
use Rattle.frame_log.specs.declared.EventKind.{EventKind}
use Rattle.frame_log.specs.declared.EventKind.TheVariants as K
use Rattle.frame_log.specs.declared.CallKind.{CallKind}
use Rattle.frame_log.specs.declared.CallKind.TheVariants.{Begin, Other}
use Rattle.frame_log.specs.declared.Whole.{Whole}

-- The table of kinds, line by line.
unfoldable pub kind_of : ℕ → Option CallKind
kind_of b =
    cond (eqb b 0x40) (Some Begin)
    (cond (eqb b 0x41) (Some (Other K.Next))
    (cond (eqb b 0x42) (Some (Other K.Span))
    (cond (eqb b 0x43) (Some (Other K.Return))
    (cond (eqb b 0x44) (Some (Other K.Close))
    (cond (eqb b 0x45) (Some (Other K.Read)) None)))))

-- how long a record is: its kind byte and the body, of which a begin's has the lengths of its table and its plan
abbrev pub event_size : EventKind → ℕ
event_size K.Next = 1
event_size K.Span = 8
event_size K.Return = 12
event_size K.Close = 3
event_size K.Read = 2

abbrev pub record_size : CallKind → List ℕ → ℕ
record_size Begin s = 9 + two_at s 5 + two_at s 7
record_size (Other k) s = event_size k

-- the record at the front of s; "an unknown kind or a cut body ends the run"
abbrev pub fitting : CallKind → ℕ → ℕ → Option Whole
fitting k size have = cond (leb size have) (Some (record { kind = k; size = size })) None

abbrev pub read_as : List ℕ → Option CallKind → Option Whole
read_as s (Some k) = fitting k (record_size k s) (length s)
read_as s None = None

unfoldable pub record_at : List ℕ → Option Whole
record_at s = read_as s (kind_of (get_or s 0 0))

-- there is one nan, whatever its pattern
unfoldable pub value_of : ℕ → Float
value_of bits = cond (nan_bits binary32 bits) nan (of_bits binary32 bits)

-- the call of a whole record
abbrev pub event_of : EventKind → List ℕ → Event
event_of K.Next s = E.Next
event_of K.Span s = E.SpanEnd (get_or s 1 0) (two_at s 2) (value_of (four_at s 4))
event_of K.Return s = E.Return (four_at s 1) (get_or s 5 0) (two_at s 6) (value_of (four_at s 8))
event_of K.Close s = E.Close (two_at s 1)
event_of K.Read s = E.Read (get_or s 1 0)

unfoldable pub begin_of : Frame → List ℕ → Called
begin_of f s = begin_step f (take (two_at s 5) (drop 9 s)) (drop (9 + two_at s 5) s) (four_at s 1)

abbrev pub call_of : Frame → CallKind → List ℕ → Called
call_of f Begin s = begin_of f s
call_of f (Other k) s = event_step f (event_of k s)
