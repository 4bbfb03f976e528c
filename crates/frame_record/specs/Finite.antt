-- Document 01, 'Refusal numbers', VALUE: "value not a number, or infinite". What it is for a 32-bit float to be neither.
-- Assumes nothing.
use Rattle.std.specs.Prelude.{Bool, true, false, Float}
use Rattle.std.specs.Float.{nan, inf, fin}

abbrev pub finite? : Float → Bool
finite? nan = false
finite? (inf s) = false
finite? (fin s m e) = true
