-- The orders of a list, by their numbers.
-- Assumes nothing.
use Rattle.std.specs.Prelude.{List, ℕ, zero, suc, ◌+◌, ◌/◌, ◌%◌, length}
use Rattle.std.specs.List.{swap}

-- from place k on, each place in turn gets one of the items that are left: the remainder by how many these are tells which one, and the
-- quotient tells the order of the others
unfoldable pub arranged_from : {X : Type 0} → ℕ → ℕ → List X → ℕ → List X
arranged_from k zero xs number = xs
arranged_from k (suc left) xs number = arranged_from (suc k) left (swap xs k (k + number % suc left)) (number / suc left)

-- the order with a number, of all items
abbrev pub arranged : {X : Type 0} → List X → ℕ → List X
arranged xs number = arranged_from 0 (length xs) xs number
