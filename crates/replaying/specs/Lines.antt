-- docs/REPLAY.md, 'The log in bytes': the line of each call, by its kind and its answer, the line where a run stops, and the text of a whole log.
-- Assumes nothing.
use Rattle.std.specs.Prelude.{ℕ, zero, suc, ◌+◌, ◌≤◌, ◌≡◌, Bool, cond, List, [], ◌∷◌, ◌++◌, length, take, drop, eqb, Option, None, Some, Result, Ok, Err}
use Rattle.std.specs.Float.Ieee.{to_bits}
use Rattle.std.specs.Float.{binary32}
use Rattle.records.specs.declared.refusal.Refusal.{Refusal}
use Rattle.records.specs.Refusals.{refusal_says}
use Rattle.octets.specs.Writing.{Wrote}
use Rattle.octets.specs.Decimals.{decimal}
use Rattle.octets.specs.Hex.{hex_of}
use Rattle.lines.specs.Lines.{space, newline, refused_text}
use Rattle.frame_record.specs.declared.Frame.{Frame}
use Rattle.frame_record.specs.declared.Sample.{Sample}
use Rattle.frame_record.specs.declared.Reading.{Reading}
use Rattle.frame_record.specs.declared.Reading.TheVariants.{Fresh, Pending, Late, Missing}
use Rattle.frame_record.specs.declared.Answer.{Answer}
use Rattle.frame_record.specs.declared.Answer.TheVariants as A
use Rattle.frame_record.specs.Answers.{idle}
use Rattle.frame_log.specs.declared.EventKind.{EventKind}
use Rattle.frame_log.specs.declared.EventKind.TheVariants as K
use Rattle.frame_log.specs.declared.CallKind.{CallKind}
use Rattle.frame_log.specs.declared.CallKind.TheVariants.{Begin, Other}
use Rattle.frame_log.specs.declared.Whole.{Whole}
use Rattle.replaying.specs.declared.Turn.{Turn}
use Rattle.frame_log.specs.Log.{call_of, record_at}
use Rattle.replaying.specs.Turns.{frame_after, gone_by}

-- the call's word: `begin `, `next `, `span `, `return `, `close `, `read `
abbrev pub event_word : EventKind → List ℕ
event_word K.Next = 0x6E ∷ 0x65 ∷ 0x78 ∷ 0x74 ∷ 0x20 ∷ []
event_word K.Span = 0x73 ∷ 0x70 ∷ 0x61 ∷ 0x6E ∷ 0x20 ∷ []
event_word K.Return = 0x72 ∷ 0x65 ∷ 0x74 ∷ 0x75 ∷ 0x72 ∷ 0x6E ∷ 0x20 ∷ []
event_word K.Close = 0x63 ∷ 0x6C ∷ 0x6F ∷ 0x73 ∷ 0x65 ∷ 0x20 ∷ []
event_word K.Read = 0x72 ∷ 0x65 ∷ 0x61 ∷ 0x64 ∷ 0x20 ∷ []

abbrev pub call_word : CallKind → List ℕ
call_word Begin = 0x62 ∷ 0x65 ∷ 0x67 ∷ 0x69 ∷ 0x6E ∷ 0x20 ∷ []
call_word (Other k) = event_word k

-- a job for the panel: `1 away`, `3 here`
abbrev pub away_end : List ℕ
away_end = 0x20 ∷ 0x61 ∷ 0x77 ∷ 0x61 ∷ 0x79 ∷ 0x0A ∷ []

abbrev pub here_end : List ℕ
here_end = 0x20 ∷ 0x68 ∷ 0x65 ∷ 0x72 ∷ 0x65 ∷ 0x0A ∷ []

abbrev pub panel_text : ℕ → Bool → List ℕ
panel_text id away = decimal id ++ cond away away_end here_end

-- a value: `fresh 7 3f800000`, "frame number, pattern in 8 hex digits"
abbrev pub fresh_word : List ℕ
fresh_word = 0x66 ∷ 0x72 ∷ 0x65 ∷ 0x73 ∷ 0x68 ∷ 0x20 ∷ []

unfoldable pub pattern_text : ℕ → List ℕ
pattern_text bits = space ++ hex_of bits ++ newline

unfoldable pub fresh_text : Sample → List ℕ
fresh_text x = (fresh_word ++ decimal x.frame) ++ pattern_text (to_bits binary32 x.value)

-- b"pending\n", b"late\n", b"missing\n"
abbrev pub reading_text : Reading → List ℕ
reading_text (Fresh x) = fresh_text x
reading_text Pending = 0x70 ∷ 0x65 ∷ 0x6E ∷ 0x64 ∷ 0x69 ∷ 0x6E ∷ 0x67 ∷ 0x0A ∷ []
reading_text Late = 0x6C ∷ 0x61 ∷ 0x74 ∷ 0x65 ∷ 0x0A ∷ []
reading_text Missing = 0x6D ∷ 0x69 ∷ 0x73 ∷ 0x73 ∷ 0x69 ∷ 0x6E ∷ 0x67 ∷ 0x0A ∷ []

-- the answer's text: b"accepted\n", a job, b"none\n", a reading, or a refusal
abbrev pub accepted_text : Answer → List ℕ
accepted_text A.Done = 0x61 ∷ 0x63 ∷ 0x63 ∷ 0x65 ∷ 0x70 ∷ 0x74 ∷ 0x65 ∷ 0x64 ∷ 0x0A ∷ []
accepted_text (A.Panel id away) = panel_text id away
accepted_text A.Rest = 0x6E ∷ 0x6F ∷ 0x6E ∷ 0x65 ∷ 0x0A ∷ []
accepted_text (A.Read r) = reading_text r

abbrev pub answer_text : Result Answer Refusal → List ℕ
answer_text (Ok a) = accepted_text a
answer_text (Err r) = refused_text (refusal_says r)

-- the line of a call, and the line where a run stops: b"stopped at " and the place
unfoldable pub call_line : Frame → CallKind → List ℕ → List ℕ
call_line f k s = call_word k ++ answer_text (call_of f k s).answer

abbrev pub stopped_word : List ℕ
stopped_word = 0x73 ∷ 0x74 ∷ 0x6F ∷ 0x70 ∷ 0x70 ∷ 0x65 ∷ 0x64 ∷ 0x20 ∷ 0x61 ∷ 0x74 ∷ 0x20 ∷ []

unfoldable pub stopped_line : ℕ → List ℕ
stopped_line at = stopped_word ++ decimal at ++ newline

-- the line of one turn at a place, where s is what is left of the log
abbrev pub line_of : Frame → ℕ → List ℕ → Option Whole → List ℕ
line_of f at s (Some w) = call_line f w.kind (take w.size s)
line_of f at s None = stopped_line at

-- the text of the turns that are left, of which there may be `most`: their lines, one after the other
unfoldable pub text_from : ℕ → Frame → ℕ → List ℕ → List ℕ
text_from zero f at s = []
text_from (suc most) f at s =
    cond (eqb (length s) 0) []
    (line_of f at s (record_at s)
    ++ text_from most (frame_after f s (record_at s)) (at + gone_by s (record_at s)) (drop (gone_by s (record_at s)) s))

-- the text of a log
unfoldable pub replay_text : List ℕ → List ℕ
replay_text log = text_from (length log) idle 0 log

-- Every line has room in 64 bytes: at most 7 for the word and 53 for a refusal.
abbrev pub line_room : ℕ
line_room = 64

-- what a turn answers and leaves: the frame's record, how far it goes, and the line at the front of the area
pub record Turned (f : Frame) (far : ℕ) (text before : List ℕ) (r : Turn) (after : List ℕ) : Type 0 where
  pub frame : r.frame ≡ f
  pub gone : r.gone ≡ far
  pub line : Wrote before 0 text after r.size
  pub short : r.size ≤ line_room

-- the turn of a whole record, and any turn at a place, where s is what is left of the log
abbrev pub Shows : Frame → CallKind → List ℕ → List ℕ → Turn → List ℕ → Type 0
Shows f k s before r after = Turned (call_of f k s).frame (length s) (call_line f k s) before r after

abbrev pub TurnAt : Frame → ℕ → List ℕ → List ℕ → Turn → List ℕ → Type 0
TurnAt f at s before r after = Turned (frame_after f s (record_at s)) (gone_by s (record_at s)) (line_of f at s (record_at s)) before r after
