-- Document 01, 'The lister': "numbers are decimal without leading zeros", as bytes of text. `decimal` is how they are written; what decimal text
-- means is told by `number_in` and `Digits`, and that what is written means the number stands in proofs/Decimals.antt. Assumes nothing.
use Rattle.std.specs.Prelude.{ℕ, zero, suc, ◌+◌, ◌-◌, ◌*◌, ◌/◌, ◌%◌, ◌≤◌, List, [], ◌∷◌, ◌++◌, cond, ltb}

-- the digits of n, of which the last is its remainder by ten; `most` is how many there may be
unfoldable pub digits_in : ℕ → ℕ → List ℕ
digits_in zero n = []
digits_in (suc most) n = cond (ltb n 10) ((48 + n) ∷ []) (digits_in most (n / 10) ++ ((48 + n % 10) ∷ []))

-- a number as decimal text; n + 1 digits are always enough
unfoldable pub decimal : ℕ → List ℕ
decimal n = digits_in (suc n) n

-- Reading decimal text, digit by digit from the left: each makes what stands before it ten times as much, and adds what it stands for. '0' is byte 48.
abbrev pub number_from : ℕ → List ℕ → ℕ
number_from before [] = before
number_from before (b ∷ bs) = number_from (10 * before + (b - 48)) bs

abbrev pub number_in : List ℕ → ℕ
number_in = number_from 0

-- every byte is one of '0' to '9'
abbrev pub Digits : List ℕ → Type 0
Digits [] = Unit {0}
Digits (b ∷ bs) = (48 ≤ b) × (b ≤ 57) × Digits bs
