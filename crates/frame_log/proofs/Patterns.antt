-- Which patterns are of a NaN: those whose magnitude is above that of infinity. Assumes nothing.
use Prim.Native.Nat.{ℕ, ◌/◌, ◌%◌, ◌<◌, ◌≤◌}
use native.Mathlib.Omega.{arith}
use mathlib.Core.Path.{◌≡◌, refl, ap}
use mathlib.Core.Bool.{Bool, true, false, not, ◌&&◌}
use lib.Dec.{eqb}
use lib.Ieee.{nan_bits, of_bits, binary32}
use Rattle.frame_log.specs.Log.{value_of}
use borrow.Author.Tests.{eqb-true, eq-eqb, ne_eqb}

pub nan_pattern : (b : ℕ) → 0x7f800000 < b % 0x80000000 → nan_bits binary32 b ≡ true
unfolding nan_bits
nan_pattern b h =
    let ones : b % 0x80000000 / 8388608 ≡ 255 = omega arith in
    let digits : ¬ (b % 8388608 ≡ 0) = λ e. omega arith in
    rw (eq-eqb _ _ ones) (ap not (ne_eqb _ _ digits))

pub number_pattern : (b : ℕ) → b % 0x80000000 ≤ 0x7f800000 → nan_bits binary32 b ≡ false
unfolding nan_bits
number_pattern b h = step (eqb (b % 0x80000000 / 8388608) 255) refl
  where
    step : (w : Bool) → eqb (b % 0x80000000 / 8388608) 255 ≡ w → (w && not (eqb (b % 8388608) 0)) ≡ false
    step true e =
        let ones : b % 0x80000000 / 8388608 ≡ 255 = eqb-true _ _ e in
        let digits : b % 8388608 ≡ 0 = omega arith in
        ap not (eq-eqb _ _ digits)
    step false e = refl

-- the NaN that the code names is the one NaN
pub nan_value : (b : ℕ) → 0x7f800000 < b % 0x80000000 → of_bits binary32 0x7fc00000 ≡ value_of b
unfolding value_of of_bits
nan_value b h = rw (nan_pattern b h)
