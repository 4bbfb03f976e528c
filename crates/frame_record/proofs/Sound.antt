-- The test that every call makes first is the list of specs/Listed.antt: `sound_iff`. Assumes nothing.
use Rattle.std.specs.Prelude.{Option, None, Some}
use Prim.Native.Nat.{ℕ, zero, suc, ◌+◌, ◌≤◌, ◌<◌}
use native.Mathlib.Omega.{arith}
use mathlib.Core.Path.{◌≡◌, refl, ap}
use mathlib.Core.Bool.{Bool, true, not, ◌&&◌}
use mathlib.Core.Logic.{◌↔◌}
use mathlib.Core.List.{List}
use borrow.Author.Tests.{leb-true, ltb-true, ltb-false, eqb-true, le-leb, lt-ltb, le-ltb, eq-eqb, not-true}
use lib.ListN.{get_or}
use lib.Dec.{leb, ltb, eqb}
use Rattle.records.specs.Limits.{most_jobs}
use Rattle.lookup.specs.Lookup.{first}
use Rattle.frame_record.specs.Sound.{none, entry_at, position_at, entry_id, itself, is_at, ok_id, ok_standing, ok_entry, ok_order, ok_at, ok_from, ok_counts}
use Rattle.frame_record.specs.Sound.{ok_deadline, ok_begun, ok_in, is_open, sound?, open?}
use Rattle.frame_record.specs.Listed.{MayStand, plan_entry, Begun, SoundIn, SoundFrame}
use Rattle.frame_record.specs.declared.Phase.{Phase}
use Rattle.frame_record.specs.declared.Phase.TheVariants.{Idle, Open, Closed}
use Rattle.frame_record.specs.declared.Standing.{Standing}
use Rattle.frame_record.specs.declared.Standing.TheVariants.{Waiting, Out, Held, Late}
use Rattle.frame_record.specs.declared.Frame.{Frame}
use Rattle.lookup.proofs.Lookup.{first_least, first_found}
use Rattle.model.proofs.Tests.{false_true, and_left, and_right, and_both}
use Rattle.frame_record.proofs.Laws.{at_each, order_below, open_begun}

-- ---- no position before has the key

is_at_lem : (w : Option ℕ) (k : ℕ) → is_at w k ≡ true → w ≡ Some k
is_at_lem (Some i) k e = ap Some (eqb-true i k e)
is_at_lem None k e = absurd (false_true e)

module _ {A : Type 0} (key : A → ℕ) (d : A) (xs : List A) (n k : ℕ) where
  abbrev Own : Bool
  Own = is_at (first key d xs (key (get_or xs k d)) 0 n) k

  pub own_tells : Own ≡ true → (i : ℕ) → i < k → key (get_or xs i d) ≡ key (get_or xs k d) → ⊥
  own_tells e i h is = first_least key d xs (key (get_or xs k d)) 0 n k (is_at_lem _ k e) i (omega arith) h is

  pub own_made : k < n → ((i : ℕ) → i < k → key (get_or xs i d) ≡ key (get_or xs k d) → ⊥) → Own ≡ true
  own_made h differ = rw (first_found key d xs (key (get_or xs k d)) 0 n k (omega arith) (omega arith) refl (λ i _ q. differ i q)) (eq-eqb k k refl)

-- ---- where a job may stand

not_passed : (k next : ℕ) → not (ltb k next) ≡ true → next ≤ k
not_passed k next e = omega (arith, ltb-false k next (not-true _ e))

module _ (number k next : ℕ) (away : Bool) where
  stand_tells : (s : Standing) → ok_standing number (ltb k next) away s ≡ true → MayStand number k next away s
  stand_tells Waiting e = not_passed k next e
  stand_tells Out e = (ltb-true k next (and_left _ _ e), and_right (ltb k next) _ e)
  stand_tells (Held x) e =
      let r = and_right (ltb k next) _ e in
      (ltb-true k next (and_left _ _ e), eqb-true _ _ (and_left _ _ r), and_right (eqb x.frame number) _ r)
  stand_tells Late e = ltb-true k next e

  stand_made : (s : Standing) → MayStand number k next away s → ok_standing number (ltb k next) away s ≡ true
  stand_made Waiting h = rw (le-ltb k next h)
  stand_made Out h = and_both _ _ (lt-ltb k next h.0) h.1
  stand_made (Held x) h = and_both _ _ (lt-ltb k next h.0) (and_both _ _ (eq-eqb _ _ h.1) h.2)
  stand_made Late h = lt-ltb k next h

-- ---- the test and the list

module _ (f : Frame) where
  order_own : (k : ℕ) → ok_order f.order f.count k ≡ true → (i : ℕ) → i < k → position_at f.order i ≡ position_at f.order k → ⊥
  unfolding ok_order
  order_own k e = own_tells itself 0 f.order f.count k (and_right (ltb (position_at f.order k) f.count) _ e)

  id_own : (k : ℕ) → ok_id f.entries f.count k ≡ true → (i : ℕ) → i < k → (entry_at f.entries i).id ≡ (entry_at f.entries k).id → ⊥
  unfolding ok_id
  id_own k e = own_tells entry_id none f.entries f.count k e

  module _ (e : ok_begun f ≡ true) where
    counts : ok_counts f ≡ true
    unfolding ok_begun
    counts = and_left _ _ e

    in_range : ok_deadline f.deadline ≡ true
    unfolding ok_begun
    in_range = and_left _ _ (and_right (ok_counts f) _ e)

    at_position : (k : ℕ) → k < f.count → ok_at f k ≡ true
    unfolding ok_begun
    at_position k h = at_each f 0 f.count (and_right (ok_deadline f.deadline) _ (and_right (ok_counts f) _ e)) k (omega arith) (omega arith)

    order_at : (k : ℕ) → k < f.count → ok_order f.order f.count k ≡ true
    unfolding ok_at
    order_at k h = and_left _ _ (at_position k h)

    rest_at : (k : ℕ) → k < f.count → (ok_id f.entries f.count k && ok_entry f.number (ltb k f.next) (plan_entry f k)) ≡ true
    unfolding ok_at
    rest_at k h = and_right (ok_order f.order f.count k) _ (at_position k h)

    pub parts : Begun f
    parts = record {
      room = leb-true _ _ (and_left _ _ counts);
      reached = leb-true _ _ (and_right (leb f.count most_jobs) _ counts);
      low = leb-true _ _ (and_left _ _ in_range);
      high = leb-true _ _ (and_right (leb 1 f.deadline) _ in_range);
      positions = λ k h. order_below f.order f.count k (order_at k h);
      positions_differ = λ i k h b. order_own k (order_at k b) i h;
      ids_differ = λ i k h b. id_own k (and_left _ _ (rest_at k b)) i h;
      stands = λ k h.
          stand_tells f.number k f.next (plan_entry f k).away (plan_entry f k).standing
          (and_right (ok_id f.entries f.count k) _ (rest_at k h));
    }

  module _ (b : Begun f) where
    order_made : (k : ℕ) → k < f.count → ok_order f.order f.count k ≡ true
    unfolding ok_order
    order_made k h = and_both _ _ (lt-ltb _ _ (b.positions k h)) (own_made itself 0 f.order f.count k h (λ i q. b.positions_differ i k q h))

    id_made : (k : ℕ) → k < f.count → ok_id f.entries f.count k ≡ true
    unfolding ok_id
    id_made k h = own_made entry_id none f.entries f.count k h (λ i q. b.ids_differ i k q h)

    at_made : (k : ℕ) → k < f.count → ok_at f k ≡ true
    unfolding ok_at
    at_made k h =
        and_both _ _ (order_made k h)
        (and_both _ _ (id_made k h)
        (stand_made f.number k f.next (plan_entry f k).away (plan_entry f k).standing (b.stands k h)))

    from_made : (k n : ℕ) → k + n ≤ f.count → ok_from f k n ≡ true
    unfolding ok_from
    from_made k zero h = refl
    from_made k (suc n) h = and_both _ _ (at_made k (omega arith)) (from_made (k + 1) n (omega arith))

    pub made : ok_begun f ≡ true
    unfolding ok_begun
    made =
        and_both _ _ (and_both _ _ (le-leb _ _ b.room) (le-leb _ _ b.reached))
        (and_both _ _ (and_both _ _ (le-leb _ _ b.low) (le-leb _ _ b.high)) (from_made 0 f.count (omega arith)))

tells_in : (p : Phase) (f : Frame) → ok_in p f ≡ true → SoundIn p f
tells_in Idle f e = tt
tells_in Open f e = parts f e
tells_in Closed f e = parts f e

made_in : (p : Phase) (f : Frame) → SoundIn p f → ok_in p f ≡ true
made_in Idle f b = refl
made_in Open f b = made f b
made_in Closed f b = made f b

pub sound_made : (f : Frame) → SoundFrame f → sound? f ≡ true
unfolding sound?
sound_made f b = made_in f.phase f b

-- the promise
pub sound_iff : (f : Frame) → (sound? f ≡ true) ↔ SoundFrame f
unfolding sound?
sound_iff f = (tells_in f.phase f, sound_made f)

-- ---- a sound record that is open

open_is : (p : Phase) → is_open p ≡ true → p ≡ Open
open_is Idle e = absurd (false_true e)
open_is Open e = refl
open_is Closed e = absurd (false_true e)

pub open_phase : (f : Frame) → open? f ≡ true → f.phase ≡ Open
unfolding open?
open_phase f o = open_is f.phase (and_right (sound? f) _ o)

pub open_parts : (f : Frame) → open? f ≡ true → Begun f
open_parts f o = parts f (open_begun f o)
