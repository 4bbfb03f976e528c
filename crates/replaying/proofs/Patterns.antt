-- The pattern that is written for a NaN is the one that the definition gives. Assumes nothing.
use mathlib.Core.Path.{◌≡◌, refl}
use mathlib.Core.Bool.{true}
use lib.Ieee.{Float, nan, inf, fin, is_nan, to_bits, binary32}

pub nan_pattern : (x : Float) → is_nan x ≡ true → 0x7fc00000 ≡ to_bits binary32 x
unfolding to_bits is_nan
nan_pattern nan e = refl
nan_pattern (inf s) e = cc
nan_pattern (fin s m k) e = cc
