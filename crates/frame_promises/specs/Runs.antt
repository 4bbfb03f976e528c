-- "every sequence of calls from idle on one record that only the calls alter": each answer, with the record that goes to the next call, is one
-- that the called function's own contract allows, as Rattle reads it of the source (`Reads.Learnt`). Assumes nothing.
use Rattle.std.specs.Prelude.{◌≡◌, Bool, List, [], ◌∷◌, Result}
use Rattle.faults.specs.Allows.{to}
use Rattle.frame_record.specs.Answers.{answer_says}
use Rattle.frame_promises.specs.Call.{Call, begin, event}
use Rattle.records.specs.declared.refusal.Refusal.{Refusal}
use Rattle.frame_record.specs.declared.Answer.{Answer}
use Rattle.frame_record.specs.declared.Event.{Event}
use Rattle.frame_record.specs.declared.Event.TheVariants as E
use Rattle.frame_record.specs.declared.Frame.{Frame}
use Rattle.frame_record.specs.declared.Called.{Called}
use Rattle.frame_record.proofs as frame_record
use Rattle.frame_begin.proofs as frame_begin
use Rattle.frame_reports.proofs as frame_reports
use Rattle.frame_calls.proofs as frame_calls
use Rattle.frame_promises.specs.History.{Turn}

-- what `Frame::idle` may answer
abbrev pub Starts : Frame → Type 0
Starts f = frame_record.Frame.idle.Reads.Learnt tt tt f tt

-- and `frame_begin::begin` and `frame_calls::step`
abbrev pub Allows : Frame → Call → Called → Type 0
Allows f (begin table plan n) s =
    frame_begin.begin.Reads.Learnt ([], ([], tt)) (f, (to table, (to plan, (n, tt)))) s (f, (to table, (to plan, (n, tt))))
Allows f (event e) s = frame_calls.step.Reads.Learnt tt (f, (e, tt)) s (f, (e, tt))

-- the turns of calls on a record, one after the other, where each call may answer so
abbrev pub Runs : (Frame → Call → Called → Type 0) → Frame → List Turn → Type 0
Runs May f [] = Unit {0}
Runs May f (t ∷ ts) = (s : Called) × May f t.call s × (t.said ≡ answer_says s.answer) × Runs May s.frame ts

abbrev pub FromIdle : List Turn → Type 0
FromIdle ts = (f : Frame) × Starts f × Runs Allows f ts

-- the same turns, and the record that they come to
abbrev pub Reaches : Frame → List Turn → Frame → Type 0
Reaches f [] g = f ≡ g
Reaches f (t ∷ ts) g = (s : Called) × Allows f t.call s × (t.said ≡ answer_says s.answer) × Reaches s.frame ts g

-- what `Frame::sound` may answer
abbrev pub SoundAllows : Frame → Bool → Type 0
SoundAllows f r = frame_record.Frame.sound.Reads.Learnt ([], tt) (to f, tt) r (to f, tt)

-- what the functions for single calls may answer: those that only ask, and those that hand a record back
abbrev pub AskAllows : Frame → Event → Result Answer Refusal → Type 0
AskAllows f E.Next r = frame_calls.panel_job.Reads.Learnt tt (f, tt) r (f, tt)
AskAllows f (E.Read id) r = frame_calls.read.Reads.Learnt tt (f, (id, tt)) r (f, (id, tt))
AskAllows f (E.SpanEnd id t v) r = ⊥
AskAllows f (E.Return n id t v) r = ⊥
AskAllows f (E.Close t) r = ⊥

abbrev pub CallAllows : Frame → Event → Called → Type 0
CallAllows f E.Next s = ⊥
CallAllows f (E.Read id) s = ⊥
CallAllows f (E.SpanEnd id t v) s = frame_reports.span_end.Reads.Learnt tt (f, (id, (t, (v, tt)))) s (f, (id, (t, (v, tt))))
CallAllows f (E.Return n id t v) s = frame_reports.give_back.Reads.Learnt tt (f, (n, (id, (t, (v, tt))))) s (f, (n, (id, (t, (v, tt)))))
CallAllows f (E.Close t) s = frame_calls.close.Reads.Learnt tt (f, (t, tt)) s (f, (t, tt))
