-- Lines of docs/REPLAY.md, worked out by computing the definitions: a fresh value, and where a run stops.
-- Assumes nothing.
use mathlib.Core.Path.{◌≡◌, refl}
use mathlib.Core.List.{[], ◌∷◌}
use Rattle.octets.specs.Decimals.{digits_in, decimal}
use Rattle.octets.specs.Hex.{hex_digit, hex_in, hex_of}
use Rattle.frame_record.specs.declared.Sample.{Sample}
use Rattle.replaying.specs.Lines.{pattern_text, fresh_text, stopped_line}
use lib.Ieee.{of_bits, to_bits, binary32}

-- `fresh 7 c0200000`: the value -2.5 of frame 7
abbrev sample : Sample
sample = record { value = of_bits binary32 0xC0200000; frame = 7 }

pub example_fresh :
    fresh_text sample ≡ 0x66 ∷ 0x72 ∷ 0x65 ∷ 0x73 ∷ 0x68 ∷ 0x20 ∷ 0x37 ∷ 0x20 ∷ 0x63 ∷ 0x30 ∷ 0x32 ∷ 0x30 ∷ 0x30 ∷ 0x30 ∷ 0x30 ∷ 0x30 ∷ 0x0A ∷ []
unfolding fresh_text pattern_text decimal digits_in hex_digit hex_in hex_of of_bits to_bits
example_fresh = refl

-- `stopped at 300`
pub example_stopped : stopped_line 300 ≡ 0x73 ∷ 0x74 ∷ 0x6F ∷ 0x70 ∷ 0x70 ∷ 0x65 ∷ 0x64 ∷ 0x20 ∷ 0x61 ∷ 0x74 ∷ 0x20 ∷ 0x33 ∷ 0x30 ∷ 0x30 ∷ 0x0A ∷ []
unfolding stopped_line decimal digits_in
example_stopped = refl
