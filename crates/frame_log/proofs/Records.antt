-- The record at the front of a log: where there is none, what a whole one says of its length, and that it is whole once it is cut out.
-- Assumes nothing.
use Rattle.std.specs.Prelude.{Option, None, Some}
use Prim.Native.Nat.{ℕ, ◌+◌, ◌<◌, ◌≤◌}
use native.Mathlib.Omega.{arith}
use mathlib.Core.Path.{◌≡◌, refl, sym, ◌∙◌}
use mathlib.Core.Bool.{Bool, true, false, cond}
use mathlib.Core.List.{List}
use lib.ListN.{length, take, get_or}
use lib.Seq.{length-take-le, get_or-take}
use lib.Dec.{leb}
use borrow.Author.Tests.{leb-true}
use Rattle.model.proofs.Lists.{clash}
use Rattle.octets.specs.Numbers.{two_at}
use Rattle.frame_log.specs.declared.EventKind.TheVariants as K
use Rattle.frame_log.specs.declared.CallKind.{CallKind}
use Rattle.frame_log.specs.declared.CallKind.TheVariants.{Begin, Other}
use Rattle.frame_log.specs.declared.Whole.{Whole}
use Rattle.frame_log.specs.Log.{kind_of, record_size, read_as, record_at}

-- every record has a byte
some_byte : (k : CallKind) (s : List ℕ) → 0 < record_size k s
some_byte Begin s = omega arith
some_byte (Other K.Next) s = omega arith
some_byte (Other K.Span) s = omega arith
some_byte (Other K.Return) s = omega arith
some_byte (Other K.Close) s = omega arith
some_byte (Other K.Read) s = omega arith

-- what a whole record at the front of s says
pub record WholeIs (s : List ℕ) (w : Whole) : Type 0 where
  pub size : record_size w.kind s ≡ w.size
  pub within : w.size ≤ length s
  pub some : 0 < w.size

fitting_is :
    (s : List ℕ) (l : CallKind) (w : Whole) (b : Bool) → leb (record_size l s) (length s) ≡ b →
    cond b (Some (record { kind = l; size = record_size l s })) None ≡ Some w → WholeIs s w
fitting_is s l w true e h =
    let kind : l ≡ w.kind = cc in
    let size : record_size l s ≡ w.size = cc in
    let fits : record_size l s ≤ length s = leb-true (record_size l s) (length s) e in
    record { size = rw kind at size; within = omega arith; some = omega (arith, some_byte l s) }
fitting_is s l w false e h = clash (cc)

pub whole_is : (s : List ℕ) (w : Whole) → record_at s ≡ Some w → WholeIs s w
unfolding record_at
whole_is s w = step (kind_of (get_or s 0 0))
  where
    step : (m : Option CallKind) → read_as s m ≡ Some w → WholeIs s w
    step (Some l) h = fitting_is s l w (leb (record_size l s) (length s)) refl h
    step None h = clash (cc)

-- cut out, it is as long as its kind says
two_taken : (s : List ℕ) (n i : ℕ) → i + 1 < n → two_at (take n s) i ≡ two_at s i
two_taken s n i h = rw (get_or-take n s i 0 (omega arith), get_or-take n s (i + 1) 0 h)

size_taken : (k : CallKind) (s : List ℕ) (n : ℕ) → record_size k s ≡ n → record_size k (take n s) ≡ n
size_taken Begin s n e =
    let table : two_at (take n s) 5 ≡ two_at s 5 = two_taken s n 5 (omega arith) in
    let plan : two_at (take n s) 7 ≡ two_at s 7 = two_taken s n 7 (omega arith) in
    omega arith
size_taken (Other k) s n e = e

pub whole_taken : (s : List ℕ) (w : Whole) → WholeIs s w → record_size w.kind (take w.size s) ≡ length (take w.size s)
whole_taken s w is = size_taken w.kind s w.size is.size ∙ sym (length-take-le w.size s is.within)
