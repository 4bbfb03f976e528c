-- Bytes written at a place of an area, the rest of which is left: what every writer into a lent area says of it.
-- Assumes nothing.
use Rattle.std.specs.Prelude.{ℕ, ◌+◌, ◌≡◌, List, ◌++◌, length, take, drop}

-- the area with the bytes of `word` from `at` on, and the rest as it was
unfoldable pub written : List ℕ → ℕ → List ℕ → List ℕ
written out at word = take at out ++ (word ++ drop (at + length word) out)

-- `word` stands in the area from `at` on, and `end` is the place after it
pub record Wrote (before : List ℕ) (at : ℕ) (word after : List ℕ) (end : ℕ) : Type 0 where
  pub place : end ≡ at + length word
  pub area : after ≡ written before at word
