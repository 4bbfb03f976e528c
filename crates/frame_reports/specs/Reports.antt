-- Document 01, 'The frame runner': the rules of a span's end and of a return, by cases and in the document's order.
-- Assumes nothing.
use Rattle.std.specs.Prelude.{ℕ, ◌+◌, Bool, true, false, cond, ◌&&◌, set, leb, ltb, eqb, Float, Option, None, Some, Result, Ok, Err}
use Rattle.records.specs.declared.refusal.Refusal.{Refusal}
use Rattle.records.specs.declared.refusal.Refusal.TheVariants as R
use Rattle.frame_record.specs.Finite.{finite?}
use Rattle.frame_record.specs.Sound.{entry_at, where_is, panel_position, panel_entry}
use Rattle.frame_record.specs.Answers.{refused, done, in_open, on_clock}
use Rattle.frame_record.specs.declared.Standing.{Standing}
use Rattle.frame_record.specs.declared.Standing.TheVariants.{Waiting, Out, Held, Late}
use Rattle.frame_record.specs.declared.Entry.{Entry}
use Rattle.frame_record.specs.declared.Frame.{Frame}
use Rattle.frame_record.specs.declared.Called.{Called}

-- "gets its value if time <= D, else is late"
abbrev pub judge : Float → ℕ → ℕ → ℕ → Standing
judge v number time deadline = cond (leb time deadline) (Held (record { value = v; frame = number })) Late

-- "VALUE", value not a number, or infinite
abbrev pub judged : Float → ℕ → ℕ → ℕ → Result Standing Refusal
judged v number time deadline = cond (finite? v) (Ok (judge v number time deadline)) (Err R.Value)

-- the job at a position of the table stands at s from now on; the time and how far the plan is are set
abbrev pub standing : Entry → Standing → Entry
standing e s = record { id = e.id; away = e.away; standing = s }

abbrev pub moved : Frame → ℕ → ℕ → ℕ → Standing → Frame
moved f at time next s = record {
  phase = f.phase;
  number = f.number;
  clock = time;
  deadline = f.deadline;
  count = f.count;
  next = next;
  order = f.order;
  entries = set f.entries at (standing (entry_at f.entries at) s);
}

-- "Span end: .. for a here job VALUE. A here job gets its value if time <= D, else is late. An away job is now out, its value argument
-- ignored. The next job starts at this time."
abbrev pub span_at : Frame → ℕ → Float → Bool → Called
span_at f t v true = done (moved f (panel_position f) t (f.next + 1) Out)
span_at f t v false =
    cond (finite? v)
    (done (moved f (panel_position f) t (f.next + 1) (judge v f.number t f.deadline)))
    (refused R.Value f)

-- "WHO unless it is the job now on the panel"
abbrev pub on_panel : Frame → ℕ → Bool
on_panel f id = ltb f.next f.count && eqb (panel_entry f).id id

-- "PHASE unless open; CLOCK; WHO; for a here job VALUE"
unfoldable pub span_step : Frame → ℕ → ℕ → Float → Called
span_step f id t v =
    in_open f (on_clock f t (cond (on_panel f id) (span_at f t v (panel_entry f).away) (refused R.Who f)))

-- "Return: .. WHO unless that job is out; VALUE. Value if time <= D, else late; no longer out."
abbrev pub return_at : Frame → ℕ → ℕ → Float → Standing → Called
return_at f at t v Waiting = refused R.Who f
return_at f at t v Out =
    cond (finite? v)
    (done (moved f at t f.next (judge v f.number t f.deadline)))
    (refused R.Value f)
return_at f at t v (Held s) = refused R.Who f
return_at f at t v Late = refused R.Who f

abbrev pub back_to : Frame → ℕ → Float → Option ℕ → Called
back_to f t v (Some i) = return_at f i t v (entry_at f.entries i).standing
back_to f t v None = refused R.Who f

-- "PHASE unless open; NUMBER; CLOCK; WHO; VALUE"
unfoldable pub back_step : Frame → ℕ → ℕ → ℕ → Float → Called
back_step f n id t v =
    in_open f (cond (eqb n f.number) (on_clock f t (back_to f t v (where_is f id))) (refused R.Number f))
