-- Two and four bytes: a number written and read again at its place is that number, bytes read and written again are those bytes, and what stands
-- behind a place says of it what it says of its own front. Assumes nothing.
use Prim.Native.Nat.{ℕ, suc, ◌+◌, ◌*◌, ◌/◌, ◌%◌, ◌≤◌, ◌<◌}
use mathlib.Core.Path.{◌≡◌, sym, ap, ◌∙◌}
use mathlib.Core.List.{List, [], ◌∷◌, ◌++◌}
use lib.ListN.{length, take, drop, get_or}
use lib.Seq.{get_or-drop, drop-cons, drop-drop, take-add}
use native.Mathlib.Numerals.{add-one}
use native.Mathlib.Nat.{add-zero}
use native.Mathlib.Omega.{arith}
use Rattle.octets.specs.Writing.{written}
use Rattle.octets.specs.Numbers.{two_bytes, two_at, four_bytes, four_at}
use Rattle.octets.proofs.Writing.{written_behind}

-- What the bytes `l` from a place on say of the whole: its bytes and numbers there.
module _ (s : List ℕ) (at : ℕ) (l : List ℕ) (from : drop at s ≡ l) where
  pub byte_from : (i : ℕ) → get_or s (at + i) 0 ≡ get_or l i 0
  byte_from i = sym (get_or-drop at s i 0) ∙ ap (λ (k : List ℕ). get_or k i 0) from

  pub two_from : (i : ℕ) → two_at s (at + i) ≡ two_at l i
  two_from i =
      let next : at + i + 1 ≡ at + (i + 1) = omega arith in
      rw (byte_from i, next, byte_from (i + 1))

  pub four_from : (i : ℕ) → four_at s (at + i) ≡ four_at l i
  unfolding four_at
  four_from i =
      let next : at + i + 2 ≡ at + (i + 2) = omega arith in
      let low : two_at s (at + i) ≡ two_at l i = two_from i in
      let high : two_at s (at + i + 2) ≡ two_at l (i + 2) = ap (two_at s) next ∙ two_from (i + 2) in
      omega arith

-- the bytes of a number make it again
pub two_whole : (n : ℕ) → n % 256 + 256 * (n / 256) ≡ n
two_whole n = omega arith

pub two_front : (n : ℕ) (more : List ℕ) → two_at (two_bytes n ++ more) 0 ≡ n
two_front n more = omega arith

pub four_front : (n : ℕ) (more : List ℕ) → four_at (four_bytes n ++ more) 0 ≡ n
unfolding four_at
four_front n more =
    let low : n % 65536 % 256 + 256 * (n % 65536 / 256) ≡ n % 65536 = two_whole (n % 65536) in
    let high : n / 65536 % 256 + 256 * (n / 65536 / 256) ≡ n / 65536 = two_whole (n / 65536) in
    let all : n % 65536 + 65536 * (n / 65536) ≡ n = omega arith in
    rw (low, high) all

-- the two bytes of a two-byte number
pub two_parts : (a b : ℕ) → a < 256 → two_bytes (a + 256 * b) ≡ a ∷ b ∷ []
two_parts a b h =
    let low : (a + 256 * b) % 256 ≡ a = omega arith in
    let high : (a + 256 * b) / 256 ≡ b = omega arith in
    rw (low, high)

-- the two halves of a four-byte number
halves_low : (a b : ℕ) → a < 65536 → (a + 65536 * b) % 65536 ≡ a
halves_low a b h = omega arith

halves_high : (a b : ℕ) → a < 65536 → (a + 65536 * b) / 65536 ≡ b
halves_high a b h = omega arith

-- A number written, and read again at its place, is that number.

module _ (out : List ℕ) (at n : ℕ) where
  pub two_back : at + 2 ≤ length out → two_at (written out at (two_bytes n)) at ≡ n
  two_back room =
      let there = two_from (written out at (two_bytes n)) at _ (written_behind out at (two_bytes n) (omega arith)) 0 in
      rw add-zero at there ∙ two_front n (drop (at + 2) out)

  pub four_back : at + 4 ≤ length out → four_at (written out at (four_bytes n)) at ≡ n
  four_back room =
      let there = four_from (written out at (four_bytes n)) at _ (written_behind out at (four_bytes n) (omega arith)) 0 in
      rw add-zero at there ∙ four_front n (drop (at + 4) out)

-- Bytes read, and written again, are those bytes.

taken_two : (s : List ℕ) (at : ℕ) → at + 2 ≤ length s → take 2 (drop at s) ≡ get_or s at 0 ∷ get_or s (at + 1) 0 ∷ []
taken_two s at h = rw (drop-cons s at 0 (omega arith), add-one, drop-cons s (suc at) 0 (omega arith))

pub two_again : (s : List ℕ) (at : ℕ) → at + 2 ≤ length s → get_or s at 0 < 256 → two_bytes (two_at s at) ≡ take 2 (drop at s)
two_again s at room low = two_parts (get_or s at 0) (get_or s (at + 1) 0) low ∙ sym (taken_two s at room)

pub four_again :
    (s : List ℕ) (at : ℕ) → at + 4 ≤ length s → get_or s at 0 < 256 → get_or s (at + 1) 0 < 256 → get_or s (at + 2) 0 < 256 →
    four_bytes (four_at s at) ≡ take 4 (drop at s)
unfolding four_at
four_again s at room first second third =
    let low : (two_at s at + 65536 * two_at s (at + 2)) % 65536 ≡ two_at s at = halves_low (two_at s at) (two_at s (at + 2)) (omega arith) in
    let high : (two_at s at + 65536 * two_at s (at + 2)) / 65536 ≡ two_at s (at + 2) = halves_high (two_at s at) (two_at s (at + 2)) (omega arith) in
    ap (λ (n : ℕ). two_bytes n ++ two_bytes ((two_at s at + 65536 * two_at s (at + 2)) / 65536)) low
    ∙ ap (λ (n : ℕ). two_bytes (two_at s at) ++ two_bytes n) high
    ∙ ap (λ (l : List ℕ). l ++ two_bytes (two_at s (at + 2))) (two_again s at (omega arith) first)
    ∙ ap (λ (l : List ℕ). take 2 (drop at s) ++ l) (two_again s (at + 2) (omega arith) third ∙ ap (take 2) (sym (drop-drop 2 at s)))
    ∙ sym (take-add 2 2 (drop at s))
