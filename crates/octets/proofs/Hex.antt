-- Eight hexadecimal digits: they read back as their number, and are digits alone (`hex_reads_back`, `hex_digits`). Assumes nothing.
use Prim.Native.Nat.{ℕ, zero, suc, ◌+◌, ◌-◌, ◌*◌, ◌/◌, ◌%◌, ◌≤◌, ◌<◌}
use mathlib.Core.Path.{◌≡◌, refl, ap, ◌∙◌}
use mathlib.Core.Bool.{Bool, true, false}
use mathlib.Core.List.{List, [], ◌∷◌, ◌++◌}
use mathlib.Core.Logic.{inl, inr}
use lib.ListN.{length, set, length-append}
use lib.Dec.{ltb}
use native.Mathlib.Numerals.{add-one}
use native.Mathlib.Omega.{arith}
use borrow.Author.Tests.{lt-ltb, le-ltb, ltb-true, ltb-false}
use Rattle.octets.specs.Writing.{written}
use Rattle.octets.specs.Hex.{hex_digit, hex_in, hex_of, hex_value, hex_from, hex_number, HexDigits}
use Rattle.octets.proofs.Writing.{written_last, written_nil}

pub digit_low : (d : ℕ) → d < 10 → hex_digit d ≡ 48 + d
unfolding hex_digit
digit_low d h = simp (lt-ltb d 10 h)

pub digit_high : (d : ℕ) → 10 ≤ d → hex_digit d ≡ 87 + d
unfolding hex_digit
digit_high d h = simp (le-ltb d 10 h)

-- what holds below ten and from ten on holds of every digit
low_or_high : (P : ℕ → Type 0) (d : ℕ) → (d < 10 → P d) → (10 ≤ d → P d) → P d
low_or_high P d low high = go (ltb d 10) refl
  where
    go : (t : Bool) → ltb d 10 ≡ t → P d
    go true e = low (ltb-true d 10 e)
    go false e = high (ltb-false d 10 e)

-- a digit stands for its number
digit_value : (d : ℕ) → d < 16 → hex_value (hex_digit d) ≡ d
unfolding hex_value
digit_value d h =
    low_or_high (λ (n : ℕ). hex_value (hex_digit n) ≡ n) d
    (λ l. rw (digit_low d l) (simp (lt-ltb (48 + d) 58 (omega arith)) (omega arith)))
    (λ l. rw (digit_high d l) (simp (le-ltb (87 + d) 58 (omega arith)) (omega arith)))

-- one digit more at the end
number_more : (k : ℕ) (bs : List ℕ) (b : ℕ) → hex_from k (bs ++ (b ∷ [])) ≡ 16 * hex_from k bs + hex_value b
number_more k [] b = refl
number_more k (c ∷ bs) b = number_more (16 * k + hex_value c) bs b

digits_more : (bs : List ℕ) (d : ℕ) → d < 16 → HexDigits bs → HexDigits (bs ++ (hex_digit d ∷ []))
digits_more [] d h a =
    low_or_high (λ (n : ℕ). HexDigits (hex_digit n ∷ [])) d (λ l. rw (digit_low d l) (inl (omega arith, omega arith), tt))
    (λ l. rw (digit_high d l) (inr (omega arith, omega arith), tt))
digits_more (b ∷ bs) d h a = (a.0, digits_more bs d h a.1)

-- sixteen to the k
abbrev sixteens : ℕ → ℕ
sixteens zero = 1
sixteens (suc k) = 16 * sixteens k

pub hex_length : (count n : ℕ) → length (hex_in count n) ≡ count
unfolding hex_in
hex_length zero n = refl
hex_length (suc count) n = rw (length-append, hex_length count (n / 16)) (add-one count)

in_back : (count n : ℕ) → n < sixteens count → hex_number (hex_in count n) ≡ n
unfolding hex_in
in_back zero n h = omega arith
in_back (suc count) n h =
    let tens : hex_number (hex_in count (n / 16)) ≡ n / 16 = in_back count (n / 16) (omega arith) in
    number_more 0 (hex_in count (n / 16)) (hex_digit (n % 16)) ∙ rw (tens, digit_value (n % 16) (omega arith)) (omega arith)

in_digits : (count n : ℕ) → HexDigits (hex_in count n)
unfolding hex_in
in_digits zero n = tt
in_digits (suc count) n = digits_more (hex_in count (n / 16)) (n % 16) (omega arith) (in_digits count (n / 16))

-- Writing them from the last to the first: one digit in front of those that stand, and none left.

pub one_more :
    (out : List ℕ) (at count n d : ℕ) → 0 < count → at + count ≤ length out → d ≡ hex_digit (n % 16) →
    written (set out (at + (count - 1)) d) at (hex_in (count - 1) (n / 16)) ≡ written out at (hex_in count n)
unfolding hex_in
one_more out at zero n d more room e = absurd (omega arith)
one_more out at (suc count) n d more room e =
    let size = hex_length count (n / 16) in
    let there : at + length (hex_in count (n / 16)) ≡ at + count = ap (λ (k : ℕ). at + k) size in
    let less : suc count - 1 ≡ count = omega arith in
    rw (e, less, ← there) (written_last out (hex_in count (n / 16)) at (hex_digit (n % 16)) (omega arith))

pub none_left : (out : List ℕ) (at count n : ℕ) → count ≤ 0 → written out at (hex_in count n) ≡ out
unfolding hex_in
none_left out at zero n h = written_nil out at
none_left out at (suc count) n h = absurd (omega arith)

-- the eight digits of a four-byte number read back as it
pub hex_reads_back : (n : ℕ) → n < 4294967296 → hex_number (hex_of n) ≡ n
unfolding hex_of
hex_reads_back n h = in_back 8 n h

-- there are eight, and no other byte stands among them
pub hex_digits : (n : ℕ) → (length (hex_of n) ≡ 8) × HexDigits (hex_of n)
unfolding hex_of
hex_digits n = (hex_length 8 n, in_digits 8 n)
