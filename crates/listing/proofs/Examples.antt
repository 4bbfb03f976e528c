-- Document 01's own examples of the text, worked out by computing the definitions: table E, E with D 44, the empty input, and `refused 2 at 3`.
-- Assumes nothing.
use mathlib.Core.Path.{◌≡◌, refl}
use mathlib.Core.List.{List, [], ◌∷◌, ◌++◌}
use Prim.Native.Nat.{ℕ}
use Rattle.records.specs.Records.{form_of, judged, used, list_from}
use Rattle.table.specs.Tables.{frame_at, job_at, jobs_read, read_table}
use Rattle.octets.specs.Decimals.{digits_in, decimal}
use Rattle.lines.specs.Lines.{pair_line, refused_text}
use Rattle.listing.specs.Listing.{job_line, job_lines, plan_text, text_of}

-- table E's jobs and end record
abbrev jobs_of_e : List ℕ
jobs_of_e =
    0x12 ∷ 0x01 ∷ 0x1E ∷ 0x00 ∷ 0x05 ∷ 0x00 ∷ 0x28 ∷ 0x00 ∷
    0x12 ∷ 0x02 ∷ 0x14 ∷ 0x00 ∷ 0x0A ∷ 0x00 ∷ 0x0A ∷ 0x00 ∷
    0x11 ∷ 0x03 ∷ 0x19 ∷ 0x00 ∷ 0x1F ∷ []

-- frame 45 jobs 3
abbrev first_of_e : List ℕ
first_of_e = 0x66 ∷ 0x72 ∷ 0x61 ∷ 0x6D ∷ 0x65 ∷ 0x20 ∷ 0x34 ∷ 0x35 ∷ 0x20 ∷ 0x6A ∷ 0x6F ∷ 0x62 ∷ 0x73 ∷ 0x20 ∷ 0x33 ∷ 0x0A ∷ []

-- 1 away 0 5 45
abbrev line_of1 : List ℕ
line_of1 = 0x31 ∷ 0x20 ∷ 0x61 ∷ 0x77 ∷ 0x61 ∷ 0x79 ∷ 0x20 ∷ 0x30 ∷ 0x20 ∷ 0x35 ∷ 0x20 ∷ 0x34 ∷ 0x35 ∷ 0x0A ∷ []

-- 2 away 5 15 25
abbrev line_of2 : List ℕ
line_of2 = 0x32 ∷ 0x20 ∷ 0x61 ∷ 0x77 ∷ 0x61 ∷ 0x79 ∷ 0x20 ∷ 0x35 ∷ 0x20 ∷ 0x31 ∷ 0x35 ∷ 0x20 ∷ 0x32 ∷ 0x35 ∷ 0x0A ∷ []

-- 3 here 15 40 40
abbrev line_of3 : List ℕ
line_of3 = 0x33 ∷ 0x20 ∷ 0x68 ∷ 0x65 ∷ 0x72 ∷ 0x65 ∷ 0x20 ∷ 0x31 ∷ 0x35 ∷ 0x20 ∷ 0x34 ∷ 0x30 ∷ 0x20 ∷ 0x34 ∷ 0x30 ∷ 0x0A ∷ []

-- busy 40 last 45
abbrev last_of_e : List ℕ
last_of_e = 0x62 ∷ 0x75 ∷ 0x73 ∷ 0x79 ∷ 0x20 ∷ 0x34 ∷ 0x30 ∷ 0x20 ∷ 0x6C ∷ 0x61 ∷ 0x73 ∷ 0x74 ∷ 0x20 ∷ 0x34 ∷ 0x35 ∷ 0x0A ∷ []

pub example_e : text_of (0x10 ∷ 0x2D ∷ 0x00 ∷ jobs_of_e) ≡ first_of_e ++ line_of1 ++ line_of2 ++ line_of3 ++ last_of_e
unfolding text_of read_table frame_at jobs_read job_at judged form_of used list_from plan_text job_lines job_line pair_line refused_text decimal digits_in
example_e = refl

-- refused 7
pub example_none : text_of (0x10 ∷ 0x2C ∷ 0x00 ∷ jobs_of_e) ≡ 0x72 ∷ 0x65 ∷ 0x66 ∷ 0x75 ∷ 0x73 ∷ 0x65 ∷ 0x64 ∷ 0x20 ∷ 0x37 ∷ 0x0A ∷ []
unfolding text_of read_table frame_at jobs_read job_at judged form_of used list_from plan_text job_lines job_line pair_line refused_text decimal digits_in
example_none = refl

-- refused 1 at 0
pub example_empty :
    text_of [] ≡ 0x72 ∷ 0x65 ∷ 0x66 ∷ 0x75 ∷ 0x73 ∷ 0x65 ∷ 0x64 ∷ 0x20 ∷ 0x31 ∷ 0x20 ∷ 0x61 ∷ 0x74 ∷ 0x20 ∷ 0x30 ∷ 0x0A ∷ []
unfolding text_of read_table frame_at jobs_read job_at judged form_of used list_from plan_text job_lines job_line pair_line refused_text decimal digits_in
example_empty = refl

-- refused 2 at 3: a plan's record in a table
pub example_kind :
    text_of (0x10 ∷ 0x2D ∷ 0x00 ∷ 0x21 ∷ 0x01 ∷ []) ≡
    0x72 ∷ 0x65 ∷ 0x66 ∷ 0x75 ∷ 0x73 ∷ 0x65 ∷ 0x64 ∷ 0x20 ∷ 0x32 ∷ 0x20 ∷ 0x61 ∷ 0x74 ∷ 0x20 ∷ 0x33 ∷ 0x0A ∷ []
unfolding text_of read_table frame_at jobs_read job_at judged form_of used list_from plan_text job_lines job_line pair_line refused_text decimal digits_in
example_kind = refl
