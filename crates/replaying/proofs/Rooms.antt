-- The room for the parts of a line: a word and what stands behind it, by their lengths. Assumes nothing.
use Prim.Native.Nat.{ℕ, ◌+◌, ◌≤◌}
use native.Mathlib.Omega.{arith}
use mathlib.Core.List.{List, ◌++◌}
use lib.ListN.{length, length-append}
use Rattle.frame_log.specs.declared.EventKind.TheVariants as K
use Rattle.frame_log.specs.declared.CallKind.{CallKind}
use Rattle.frame_log.specs.declared.CallKind.TheVariants.{Begin, Other}
use Rattle.replaying.specs.Lines.{call_word}

pub word_short : (k : CallKind) → length (call_word k) ≤ 7
word_short Begin = omega arith
word_short (Other K.Next) = omega arith
word_short (Other K.Span) = omega arith
word_short (Other K.Return) = omega arith
word_short (Other K.Close) = omega arith
word_short (Other K.Read) = omega arith

-- two parts of which each has at most so many bytes find room for both
pub room_for : (out : List ℕ) (at a b : ℕ) (w v : List ℕ) → at + (a + b) ≤ length out → length w ≤ a → length v ≤ b → at + length (w ++ v) ≤ length out
room_for out at a b w v room h k = omega (arith, length-append w v)
