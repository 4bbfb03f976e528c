-- Document 01, 'The frame runner': the rules of next, close and read, by cases and in the document's order, and every call but begin.
-- Assumes nothing.
use Rattle.std.specs.Prelude.{ℕ, cond, ltb, Option, None, Some, Result, Ok, Err}
use Rattle.records.specs.declared.refusal.Refusal.{Refusal}
use Rattle.records.specs.declared.refusal.Refusal.TheVariants as R
use Rattle.frame_record.specs.Sound.{entry_at, where_is, panel_entry, is_open, open?, begun?}
use Rattle.frame_record.specs.Answers.{refused, done, in_open, on_clock}
use Rattle.frame_record.specs.declared.Phase.{Phase}
use Rattle.frame_record.specs.declared.Phase.TheVariants.{Closed}
use Rattle.frame_record.specs.declared.Standing.{Standing}
use Rattle.frame_record.specs.declared.Standing.TheVariants.{Waiting, Out, Held, Late}
use Rattle.frame_record.specs.declared.Frame.{Frame}
use Rattle.frame_record.specs.declared.Reading.{Reading}
use Rattle.frame_record.specs.declared.Reading.TheVariants as reads
use Rattle.frame_record.specs.declared.Answer.{Answer}
use Rattle.frame_record.specs.declared.Answer.TheVariants.{Panel, Rest, Read}
use Rattle.frame_record.specs.declared.Event.{Event}
use Rattle.frame_record.specs.declared.Event.TheVariants as E
use Rattle.frame_record.specs.declared.Called.{Called}
use Rattle.frame_reports.specs.Reports.{span_step, back_step}

-- "Next: PHASE unless open; else the job now on the panel with its choice, or none left."
unfoldable pub next_of : Frame → Result Answer Refusal
next_of f =
    cond (open? f)
    (cond (ltb f.next f.count) (Ok (Panel (panel_entry f).id (panel_entry f).away)) (Ok Rest))
    (Err R.Phase)

-- "Close: PHASE unless open; CLOCK; EARLY if time < D."
abbrev pub closed : Frame → ℕ → Frame
closed f t = record {
  phase = Closed;
  number = f.number;
  clock = t;
  deadline = f.deadline;
  count = f.count;
  next = f.next;
  order = f.order;
  entries = f.entries;
}

unfoldable pub close_step : Frame → ℕ → Called
close_step f t = in_open f (on_clock f t (cond (ltb t f.deadline) (refused R.Early f) (done (closed f t))))

-- "Read: .. else fresh with its value, pending, late, or missing (closed, never reported)"
abbrev pub unreported : Phase → Reading
unreported p = cond (is_open p) reads.Pending reads.Missing

abbrev pub reading_of : Phase → Standing → Reading
reading_of p Waiting = unreported p
reading_of p Out = unreported p
reading_of p (Held s) = reads.Fresh s
reading_of p Late = reads.Late

abbrev pub read_at : Frame → Option ℕ → Result Answer Refusal
read_at f (Some i) = Ok (Read (reading_of f.phase (entry_at f.entries i).standing))
read_at f None = Err R.Who

-- "PHASE if idle; WHO if not in the table"
unfoldable pub read_of : Frame → ℕ → Result Answer Refusal
read_of f id = cond (begun? f) (read_at f (where_is f id)) (Err R.Phase)

-- every call but begin; next and read leave the record as it is
abbrev pub asked : Frame → Result Answer Refusal → Called
asked f a = record { answer = a; frame = f }

abbrev pub event_step : Frame → Event → Called
event_step f E.Next = asked f (next_of f)
event_step f (E.SpanEnd id t v) = span_step f id t v
event_step f (E.Return n id t v) = back_step f n id t v
event_step f (E.Close t) = close_step f t
event_step f (E.Read id) = asked f (read_of f id)
