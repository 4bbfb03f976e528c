-- Numbers of two and of four bytes, "low byte first": the bytes of a number, and the number that stands at a place, 0 for a byte past the end.
-- That each undoes the other stands in proofs/Numbers.antt. Assumes nothing.
use Rattle.std.specs.Prelude.{ℕ, ◌+◌, ◌*◌, ◌%◌, ◌/◌, List, [], ◌∷◌, ◌++◌, get_or}

abbrev pub two_bytes : ℕ → List ℕ
two_bytes n = n % 256 ∷ n / 256 ∷ []

abbrev pub two_at : List ℕ → ℕ → ℕ
two_at s at = get_or s at 0 + 256 * get_or s (at + 1) 0

-- the low half, and the high half behind it
abbrev pub four_bytes : ℕ → List ℕ
four_bytes n = two_bytes (n % 65536) ++ two_bytes (n / 65536)

unfoldable pub four_at : List ℕ → ℕ → ℕ
four_at s at = two_at s at + 65536 * two_at s (at + 2)
