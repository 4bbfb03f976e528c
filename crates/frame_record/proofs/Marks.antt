-- Flags for the keys that have come: a flag for each key below n, set where one of the first k elements has it. With them one pass tells
-- whether each element is the first with its key. Assumes nothing.
use Prim.Native.Nat.{ℕ, ◌+◌, ◌-◌, ◌<◌, ◌≤◌}
use native.Mathlib.Omega.{arith}
use native.Mathlib.Nat.{eq-or-lt_of_le, sub-zero}
use mathlib.Core.Path.{◌≡◌, refl, sym, subst, ◌∙◌}
use mathlib.Core.Bool.{Bool, true, false}
use mathlib.Core.Logic.{inl, inr}
use mathlib.Core.List.{List}
use lib.Dec.{eqb, ltb}
use lib.ListN.{length, get_or, set, replicate, length-set, length-replicate, get_or-replicate}
use lib.Seq.{get_or-set_same, get_or-set_other}
use borrow.Author.Tests.{eqb-true, eqb-false, lt-ltb, le-ltb}
use Rattle.lookup.specs.Lookup.{first}
use Rattle.frame_record.specs.Sound.{none, entry_at, position_at, entry_id, itself, is_at, ok_id, ok_entry, ok_order, ok_at, ok_from}
use Rattle.frame_record.specs.declared.Frame.{Frame}
use Rattle.model.proofs.Tests.{false_true}
use Rattle.frame_record.proofs.Laws.{ok_turn, ok_end}
use Rattle.frame_record.proofs.Sound.{own_tells, own_made}

module _ {A : Type 0} (key : A → ℕ) (d : A) (xs : List A) where
  abbrev key_at : ℕ → ℕ
  key_at i = key (get_or xs i d)

  pub record Marks (n : ℕ) (flags : List Bool) (k : ℕ) : Type 0 where
    pub size : length flags ≡ n
    pub came : (x : ℕ) → x < n → get_or flags x false ≡ true → (i : ℕ) × (i < k) × (key_at i ≡ x)
    pub unseen : (x : ℕ) → x < n → get_or flags x false ≡ false → (i : ℕ) → i < k → key_at i ≡ x → ⊥

  pub marks_none : (n : ℕ) → Marks n (replicate n false) 0
  marks_none n = record {
    size = length-replicate n false;
    came = λ x h e. absurd (false_true (sym (get_or-replicate n x false false h) ∙ e));
    unseen = λ x h e i q is. omega arith;
  }

  module _ {n : ℕ} {flags : List Bool} {k : ℕ} (m : Marks n flags k) (low : key_at k < n) where
    pub marks_more : Marks n (set flags (key_at k) true) (k + 1)
    marks_more = record {
      size = length-set flags (key_at k) true ∙ m.size;
      came = λ x h e. came x h (eqb (key_at k) x) refl e;
      unseen = λ x h e i q is. unseen x h (eqb (key_at k) x) refl e i q is;
    }
      where
        same : get_or (set flags (key_at k) true) (key_at k) false ≡ true
        same = get_or-set_same flags (key_at k) true false (rw m.size low)

        other : (x : ℕ) → eqb (key_at k) x ≡ false → get_or (set flags (key_at k) true) x false ≡ get_or flags x false
        other x b = get_or-set_other flags (key_at k) x true false (λ y. eqb-false (key_at k) x b (sym y))

        up_to : (i : ℕ) → i < k + 1 → i ≤ k
        up_to i q = omega arith

        came : (x : ℕ) → x < n → (b : Bool) → eqb (key_at k) x ≡ b → get_or (set flags (key_at k) true) x false ≡ true → (i : ℕ) × (i < k + 1) × (key_at i ≡ x)
        came x h true b e = (k, omega arith, eqb-true (key_at k) x b)
        came x h false b e = let r = m.came x h (sym (other x b) ∙ e) in (r.0, omega (arith, r.1), r.2)

        unseen : (x : ℕ) → x < n → (b : Bool) → eqb (key_at k) x ≡ b → get_or (set flags (key_at k) true) x false ≡ false → (i : ℕ) → i < k + 1 →
            key_at i ≡ x → ⊥
        unseen x h true b e i q is = false_true (sym e ∙ subst (λ (y : ℕ). get_or (set flags (key_at k) true) y false ≡ true) (eqb-true (key_at k) x b) same)
        unseen x h false b e i q is =
            elim (eq-or-lt_of_le (up_to i q)) [
              | inl at ↦ eqb-false (key_at k) x b (rw (← at) is)
              | inr before ↦ m.unseen x h (sym (other x b) ∙ e) i before is
            ]

    -- the k-th element's key has not come: it is the first with it
    pub is_first : (c : ℕ) → k < c → get_or flags (key_at k) false ≡ false → is_at (first key d xs (key_at k) 0 c) k ≡ true
    is_first c h e = own_made key d xs c k h (λ i q is. m.unseen (key_at k) low e i q is)

    -- it has come: it is not
    pub not_first : (c : ℕ) → get_or flags (key_at k) false ≡ true → is_at (first key d xs (key_at k) 0 c) k ≡ false
    not_first c e = step (is_at (first key d xs (key_at k) 0 c) k) refl
      where
        step : (b : Bool) → is_at (first key d xs (key_at k) 0 c) k ≡ b → b ≡ false
        step true q = let r = m.came (key_at k) low e in absurd (own_tells key d xs c k q r.0 r.1 r.2)
        step false q = refl

-- What `positions_ok` keeps: what is still to look at gives the same as the whole, and the flags are of the positions and the ids that have come.
pub record Going (f : Frame) (positions ids : List Bool) (k : ℕ) : Type 0 where
  pub inside : k ≤ f.count
  pub rest : ok_from f 0 f.count ≡ ok_from f k (f.count - k)
  pub taken : Marks itself 0 f.order 32 positions k
  pub used : Marks entry_id none f.entries 256 ids k

pub going : (f : Frame) → Going f (replicate 32 false) (replicate 256 false) 0
going f = record { inside = omega arith; rest = simp sub-zero; taken = marks_none itself 0 f.order 32; used = marks_none entry_id none f.entries 256 }

pub gone : {f : Frame} {positions ids : List Bool} {k : ℕ} → Going f positions ids k → f.count ≤ k → true ≡ ok_from f 0 f.count
gone {f} {positions} {ids} {k} g h = sym (g.rest ∙ ok_end f k f.count h)

module _ {f : Frame} (few : f.count ≤ 32) {positions ids : List Bool} {k : ℕ} (g : Going f positions ids k) (here : k < f.count) where
  abbrev position : ℕ
  position = position_at f.order k

  abbrev own : ℕ
  own = (entry_at f.entries k).id

  abbrev stands : Bool
  stands = ok_entry f.number (ltb k f.next) (entry_at f.entries position)

  stops : ok_at f k ≡ false → false ≡ ok_from f 0 f.count
  stops e = sym (g.rest ∙ (ok_turn f k f.count here ∙ rw e))

  pub beyond : f.count ≤ position → false ≡ ok_from f 0 f.count
  unfolding ok_at ok_order
  beyond h = stops (rw (le-ltb position f.count h))

  module _ (low : position < f.count) where
    pub position_again : get_or positions position false ≡ true → false ≡ ok_from f 0 f.count
    unfolding ok_at ok_order
    position_again e = stops (rw (lt-ltb position f.count low, not_first itself 0 f.order g.taken (omega arith) f.count e))

    module _ (new : get_or positions position false ≡ false) (byte : own < 256) where
      position_first : ok_order f.order f.count k ≡ true
      unfolding ok_order
      position_first = rw (lt-ltb position f.count low) (is_first itself 0 f.order g.taken (omega arith) f.count here new)

      pub id_again : get_or ids own false ≡ true → false ≡ ok_from f 0 f.count
      unfolding ok_at ok_id
      id_again e = stops (rw (position_first, not_first entry_id none f.entries g.used byte f.count e))

      module _ (unused : get_or ids own false ≡ false) where
        id_first : ok_id f.entries f.count k ≡ true
        unfolding ok_id
        id_first = is_first entry_id none f.entries g.used byte f.count here unused

        pub badly : stands ≡ false → false ≡ ok_from f 0 f.count
        unfolding ok_at
        badly e = stops (rw (position_first, id_first, e))

        pub onward : stands ≡ true → Going f (set positions position true) (set ids own true) (k + 1)
        unfolding ok_at
        onward e = record {
          inside = omega arith;
          rest = g.rest ∙ (ok_turn f k f.count here ∙ rw (position_first, id_first, e));
          taken = marks_more itself 0 f.order g.taken (omega arith);
          used = marks_more entry_id none f.entries g.used byte;
        }
