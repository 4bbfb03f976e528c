-- A four-byte number as eight hexadecimal digits, the highest first, 'a' to 'f' for ten to fifteen: how it is written, and what such text means.
-- That what is written means the number stands in proofs/Hex.antt. Assumes nothing.
use Rattle.std.specs.Prelude.{ℕ, zero, suc, ◌+◌, ◌-◌, ◌*◌, ◌/◌, ◌%◌, ◌≤◌, List, [], ◌∷◌, ◌++◌, cond, ◌⊎◌, ltb}

-- '0' is byte 48, 'a' byte 97
unfoldable pub hex_digit : ℕ → ℕ
hex_digit d = cond (ltb d 10) (48 + d) (87 + d)

-- the last `count` digits of n
unfoldable pub hex_in : ℕ → ℕ → List ℕ
hex_in zero n = []
hex_in (suc count) n = hex_in count (n / 16) ++ (hex_digit (n % 16) ∷ [])

unfoldable pub hex_of : ℕ → List ℕ
hex_of = hex_in 8

-- Reading such text, digit by digit from the left.
unfoldable pub hex_value : ℕ → ℕ
hex_value b = cond (ltb b 58) (b - 48) (b - 87)

abbrev pub hex_from : ℕ → List ℕ → ℕ
hex_from before [] = before
hex_from before (b ∷ bs) = hex_from (16 * before + hex_value b) bs

abbrev pub hex_number : List ℕ → ℕ
hex_number = hex_from 0

-- every byte is one of '0' to '9' and 'a' to 'f'
abbrev pub HexDigits : List ℕ → Type 0
HexDigits [] = Unit {0}
HexDigits (b ∷ bs) = (((48 ≤ b) × (b ≤ 57)) ⊎ ((97 ≤ b) × (b ≤ 102))) × HexDigits bs
