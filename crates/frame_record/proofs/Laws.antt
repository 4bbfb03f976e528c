-- Laws of the definitions that go position by position: a turn of each loop and its end; and what the tests of a record say.
-- Assumes nothing.
use Rattle.std.specs.Prelude.{Some}
use mathlib.Core.Path.{◌≡◌}
use mathlib.Core.Logic.{inl, inr}
use mathlib.Core.List.{List}
use native.Mathlib.Nat.{eq-or-lt_of_le}
use mathlib.Core.Bool.{true, not, ◌&&◌}
use borrow.Author.Tests.{leb-true, ltb-true}
use Prim.Native.Nat.{ℕ, zero, suc, ◌+◌, ◌-◌, ◌<◌, ◌≤◌}
use native.Mathlib.Omega.{arith}
use Rattle.model.proofs.Tests.{false_true, and_left, and_right}
use Rattle.lookup.proofs.Lookup.{first_below}
use Rattle.frame_record.specs.Sound.{none, position_at, entry_id, where_is, ok_order, ok_at, ok_from, ok_counts}
use Rattle.frame_record.specs.Sound.{ok_deadline, ok_begun, ok_in, is_open, is_idle, sound?, open?, begun?}
use Rattle.frame_record.specs.declared.Phase.{Phase}
use Rattle.frame_record.specs.declared.Phase.TheVariants.{Idle, Open, Closed}
use Rattle.frame_record.specs.declared.Frame.{Frame}

-- ---- the loops

less : (k c : ℕ) → k < c → c - k ≡ suc (c - (k + 1))
less k c h = omega arith

over : (k c : ℕ) → c ≤ k → c - k ≡ 0
over k c h = omega arith

module _ (f : Frame) (k c : ℕ) where
  pub ok_turn : k < c → ok_from f k (c - k) ≡ (ok_at f k && ok_from f (k + 1) (c - (k + 1)))
  unfolding ok_from
  ok_turn h = rw (less k c h)

  pub ok_end : c ≤ k → ok_from f k (c - k) ≡ true
  unfolding ok_from
  ok_end h = rw (over k c h)

-- a job that stands in the table stands below its end
pub where_below : (f : Frame) (id i : ℕ) → where_is f id ≡ Some i → i < f.count
unfolding where_is
where_below f id i e = omega (arith, first_below entry_id none f.entries id 0 f.count i e)

-- ---- what a sound record gives the calls

pub order_below : (order : List ℕ) (count k : ℕ) → ok_order order count k ≡ true → position_at order k < count
unfolding ok_order
order_below order count k e = ltb-true _ _ (and_left _ _ e)

module _ (f : Frame) where
  pub at_each : (k n : ℕ) → ok_from f k n ≡ true → (i : ℕ) → k ≤ i → i < k + n → ok_at f i ≡ true
  unfolding ok_from
  at_each k zero e i p q = absurd (omega arith)
  at_each k (suc n) e i p q =
      elim (eq-or-lt_of_le p) [
        | inl same ↦ rw (← same) (and_left _ _ e)
        | inr more ↦ at_each (k + 1) n (and_right (ok_at f k) _ e) i (omega arith) (omega arith)
      ]

  counts_fit : ok_begun f ≡ true → f.count ≤ 32
  unfolding ok_begun
  counts_fit e = leb-true _ _ (and_left _ _ (and_left _ _ e))

  positions_fit : ok_begun f ≡ true → (k : ℕ) → k < f.count → position_at f.order k < f.count
  unfolding ok_begun ok_at
  positions_fit e k h =
      order_below f.order f.count k
      (and_left _ _ (at_each 0 f.count (and_right (ok_deadline f.deadline) _ (and_right (ok_counts f) _ e)) k (omega arith) (omega arith)))

open_in : (p : Phase) (f : Frame) → (ok_in p f && is_open p) ≡ true → ok_begun f ≡ true
open_in Idle f e = absurd (false_true e)
open_in Open f e = and_left _ _ e
open_in Closed f e = absurd (false_true (and_right (ok_begun f) _ e))

begun_in : (p : Phase) (f : Frame) → (ok_in p f && not (is_idle p)) ≡ true → ok_begun f ≡ true
begun_in Idle f e = absurd (false_true e)
begun_in Open f e = and_left _ _ e
begun_in Closed f e = and_left _ _ e

pub open_begun : (f : Frame) → open? f ≡ true → ok_begun f ≡ true
unfolding open? sound?
open_begun f e = open_in f.phase f e

pub begun_begun : (f : Frame) → begun? f ≡ true → ok_begun f ≡ true
unfolding begun? sound?
begun_begun f e = begun_in f.phase f e

-- its jobs have room, and the job on the panel has a position
pub open_fits : (f : Frame) → open? f ≡ true → f.count ≤ 32
open_fits f e = counts_fit f (open_begun f e)

pub begun_fits : (f : Frame) → begun? f ≡ true → f.count ≤ 32
begun_fits f e = counts_fit f (begun_begun f e)

pub open_position : (f : Frame) → open? f ≡ true → f.next < f.count → position_at f.order f.next < 32
open_position f e h = omega (arith, open_fits f e, positions_fit f (open_begun f e) f.next h)
