-- Document 01, 'The lister': the text that is printed for any table bytes, byte by byte, and what the library function does with a lent buffer.
-- Assumes nothing.
use Rattle.std.specs.Prelude.{◌≡◌, Bool, cond, List, [], ◌∷◌, ◌++◌, ℕ, ◌≤◌, ◌<◌, length, drop}
use Rattle.std.specs.Prelude.{Option, None, Some}
use Rattle.model.specs.Timetable.{Chosen, Placed, span_end, finish}
use Rattle.model.specs.FreeOrder.{laid, busy, last_from}
use Rattle.model.specs.Positions.{free}
use Rattle.records.specs.declared.refusal.Refusal.TheVariants as R
use Rattle.records.specs.Limits.{most_jobs}
use Rattle.records.specs.Refusals.{refusal_says, Outcome, accepted, refused}
use Rattle.table.specs.Tables.{JobTable, read_table}
use Rattle.octets.specs.Decimals.{decimal}
use Rattle.lines.specs.Lines.{space, newline, pair_line}
use Rattle.lines.specs.Lines.{refused_text}

-- "The fixed words are compared byte by byte in the tests": each with the spaces around it, as the code writes it.

-- b"frame "
abbrev pub frame_word : List ℕ
frame_word = 0x66 ∷ 0x72 ∷ 0x61 ∷ 0x6D ∷ 0x65 ∷ 0x20 ∷ []

-- b" jobs "
abbrev pub jobs_word : List ℕ
jobs_word = 0x20 ∷ 0x6A ∷ 0x6F ∷ 0x62 ∷ 0x73 ∷ 0x20 ∷ []

-- b" away "
abbrev pub away_word : List ℕ
away_word = 0x20 ∷ 0x61 ∷ 0x77 ∷ 0x61 ∷ 0x79 ∷ 0x20 ∷ []

-- b" here "
abbrev pub here_word : List ℕ
here_word = 0x20 ∷ 0x68 ∷ 0x65 ∷ 0x72 ∷ 0x65 ∷ 0x20 ∷ []

-- b"busy "
abbrev pub busy_word : List ℕ
busy_word = 0x62 ∷ 0x75 ∷ 0x73 ∷ 0x79 ∷ 0x20 ∷ []

-- b" last "
abbrev pub last_word : List ℕ
last_word = 0x20 ∷ 0x6C ∷ 0x61 ∷ 0x73 ∷ 0x74 ∷ 0x20 ∷ []

-- "Job lines: id, choice, start, span end, finish."
abbrev pub choice_word : Bool → List ℕ
choice_word away = cond away away_word here_word

unfoldable pub job_line : Placed → List ℕ
job_line p =
    decimal p.what.job.id ++ choice_word p.what.away ++ decimal p.start ++ space ++ decimal (span_end p) ++ space ++ decimal (finish p) ++ newline

-- "First line: D, number of jobs"
abbrev pub first_line : ℕ → ℕ → List ℕ
first_line D jobs = pair_line frame_word D jobs_word jobs

-- "last line: busy total, last finish"
abbrev pub last_line : ℕ → ℕ → List ℕ
last_line busy last = pair_line busy_word busy last_word last

-- "Job lines stand in plan order"
unfoldable pub job_lines : List Placed → List ℕ
job_lines [] = []
job_lines (p ∷ ps) = job_line p ++ job_lines ps

-- xs are the jobs in plan order, back to back from tick 0
unfoldable pub plan_text : JobTable → List Chosen → List ℕ
plan_text t xs = first_line t.deadline (length t.jobs) ++ job_lines (laid 0 xs) ++ last_line (busy xs) (last_from 0 xs)

-- "A program reads a table from standard input and prints the free-order plan"; NONE where the planner finds none
abbrev pub found_text : JobTable → Option (List Chosen) → List ℕ
found_text t None = refused_text (refusal_says R.None)
found_text t (Some xs) = plan_text t xs

abbrev pub outcome_text : Outcome JobTable → List ℕ
outcome_text (accepted t) = found_text t (free most_jobs t.deadline t.jobs)
outcome_text (refused f) = refused_text (refusal_says f)

unfoldable pub text_of : List ℕ → List ℕ
text_of s = outcome_text (read_table s)

-- How long a buffer has to be. A job line has at most 24 bytes (3 digits of the id, 6 of the choice, 4 digits and a byte for each of the
-- three times), the first and the last line 19 and 20: 807 for 32 jobs (proofs/Short.antt). 1,024 is the round number above it.
abbrev pub room_for_text : ℕ
room_for_text = 1024

-- The answer's number and values: 0 and the text's length, or ROOM's number.
abbrev pub listed_says : Option ℕ → List ℕ
listed_says (Some n) = 0 ∷ n ∷ []
listed_says None = refusal_says R.Room

-- the text stands at the front of the buffer and the rest is left; where there is no room for every text, all of it is left
pub data Lists (s before : List ℕ) (r : Option ℕ) (after : List ℕ) : Type 0 where
  no_room : length before < room_for_text → listed_says r ≡ refusal_says R.Room → after ≡ before → Lists s before r after
  text_written :
      room_for_text ≤ length before → listed_says r ≡ 0 ∷ length (text_of s) ∷ [] → after ≡ text_of s ++ drop (length (text_of s)) before →
      Lists s before r after
