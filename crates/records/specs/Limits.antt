-- Document 01, 'What the work covers': the four numbers, stated once in code as constants of `Table`.
-- Each name here is tied to its constant by a function of src/lib.rt whose contract says that they are equal. Assumes nothing.
use Rattle.std.specs.Prelude.{ℕ}

abbrev pub most_jobs : ℕ
most_jobs = 32

abbrev pub largest_time : ℕ
largest_time = 4000

abbrev pub longest_table : ℕ
longest_table = 260

abbrev pub longest_plan : ℕ
longest_plan = 65
