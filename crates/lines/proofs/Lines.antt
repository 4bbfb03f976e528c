-- The lines in the parts that the code writes, and how long they are.
-- Assumes nothing.
use mathlib.Core.Path.{◌≡◌, ap}
use mathlib.Core.List.{List, [], ◌∷◌, ◌++◌, append_assoc, append-nil}
use Rattle.std.specs.Prelude.{Some, None}
use Prim.Native.Nat.{ℕ, ◌+◌, ◌≤◌, ◌<◌}
use native.Mathlib.Omega.{arith}
use lib.ListN.{length, length-append}
use Rattle.model.proofs.Lists.{clash}
use Rattle.records.specs.declared.refusal.Said.{Said}
use Rattle.records.specs.Refusals.{said_by}
use Rattle.octets.specs.Decimals.{decimal}
use Rattle.octets.proofs.Decimals.{few_digits}
use Rattle.lines.specs.Lines.{newline, pair_line, refused_word, at_word, refused_text, refused_room}

-- a line of two numbers, as `put_pair` writes it
pub pair_parts :
    (first : List ℕ) (a : ℕ) (second : List ℕ) (b : ℕ) → pair_line first a second b ≡ (first ++ decimal a) ++ (second ++ decimal b) ++ newline
unfolding pair_line
pair_parts first a second b = simp append_assoc

pub pair_length :
    (first : List ℕ) (a : ℕ) (second : List ℕ) (b : ℕ) →
    length (pair_line first a second b) ≡ length first + length (decimal a) + length second + length (decimal b) + 1
unfolding pair_line
pair_length first a second b = simp length-append

-- a refusal's line with a place and without, by what `numbers_of` says of it
in_fours : (a b c d e : List ℕ) → ((a ++ b) ++ (c ++ d)) ++ e ≡ (((a ++ b) ++ c) ++ d) ++ e
in_fours a b c d e = simp append_assoc

pub refused_placed :
    (ns : List ℕ) (x : Said) (p : ℕ) → x ≡ said_by ns → x.place ≡ Some p → refused_text ns ≡ pair_line refused_word x.number at_word p
unfolding refused_text pair_line
refused_placed [] x q e h = clash (cc)
refused_placed (n ∷ []) x q e h = clash (cc)
refused_placed (n ∷ p ∷ rest) x q e h = let same : p ≡ q = cc in rw (e, ← same) (in_fours refused_word (decimal n) at_word (decimal p) newline)

pub refused_bare : (ns : List ℕ) (x : Said) → x ≡ said_by ns → x.place ≡ None → refused_text ns ≡ (refused_word ++ decimal x.number) ++ newline
unfolding refused_text
refused_bare [] x e h = rw e (ap (λ (l : List ℕ). l ++ newline) (append-nil (refused_word ++ decimal 0)))
refused_bare (n ∷ []) x e h = rw e (ap (λ (l : List ℕ). l ++ newline) (append-nil (refused_word ++ decimal n)))
refused_bare (n ∷ p ∷ rest) x e h = clash (cc)

-- a number of eight bytes has at most 20 digits, so a refusal's line finds room
pub eight_bytes : (n : ℕ) → n < 18446744073709551616 → length (decimal n) ≤ 20
eight_bytes n h = few_digits 19 n (omega arith)

pub refused_fits :
    (ns : List ℕ) (x : Said) → x ≡ said_by ns → x.number < 18446744073709551616 → ((p : ℕ) → x.place ≡ Some p → p < 18446744073709551616) →
    length (refused_text ns) ≤ refused_room
unfolding refused_text
refused_fits [] x e n p = simp length-append (omega (arith, eight_bytes 0 (omega arith)))
refused_fits (k ∷ []) x e n p = simp length-append (omega (arith, eight_bytes k (rw e at n)))
refused_fits (k ∷ q ∷ rest) x e n p = simp length-append (omega (arith, eight_bytes k (rw e at n), eight_bytes q (p q (ap (λ (y : Said). y.place) e))))
