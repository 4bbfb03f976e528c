-- Document 01, 'Bytes': the kind bytes of the table of kinds, stated once in code as constants of src/kind.rt.
-- `form_of` ties the two: it goes by the constants, and its contract by these. Assumes nothing.
use Rattle.std.specs.Prelude.{ℕ}

-- "frame", "here-only", "either", "end of table"
abbrev pub frame_kind : ℕ
frame_kind = 0x10

abbrev pub here_kind : ℕ
here_kind = 0x11

abbrev pub either_kind : ℕ
either_kind = 0x12

abbrev pub table_end : ℕ
table_end = 0x1F

-- "plan: run here", "plan: send away", "end of plan"
abbrev pub run_here : ℕ
run_here = 0x20

abbrev pub send_away : ℕ
send_away = 0x21

abbrev pub plan_end : ℕ
plan_end = 0x2F
