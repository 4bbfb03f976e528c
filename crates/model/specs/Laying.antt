-- Jobs laid back to back, as the code counts them: document 01's busy total and last finish, one job after the other.
-- Assumes nothing.
use Rattle.std.specs.Prelude.{Bool, List, ℕ, ◌+◌, max}
use Rattle.model.specs.declared.Job.{Job}
use Rattle.model.specs.declared.Laid.{Laid}
use Rattle.model.specs.Timetable.{Chosen, span, wait}
use Rattle.model.specs.FreeOrder.{busy, last_from}

abbrev pub chosen : Job → Bool → Chosen
chosen j w = record { job = j; away = w }

-- the jobs of the list, back to back from tick 0
abbrev pub laid_of : List Chosen → Laid
laid_of cs = record { busy = busy cs; last = last_from 0 cs }

-- one job more behind them
abbrev pub laid_with : Laid → Chosen → Laid
laid_with l c = record { busy = l.busy + span c; last = max l.last (l.busy + span c + wait c) }

-- a sum of spans up to here has room for one job more: its span and its return are two-byte numbers, and the sum is one of four bytes
abbrev pub most_busy : ℕ
most_busy = 4000000000
