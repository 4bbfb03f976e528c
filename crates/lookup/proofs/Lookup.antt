-- Laws of the search: a turn of it, what the first position is, and that it is the position of the one with the key; an index grows from the last job
-- to the first, and there is one only. Assumes nothing.
use Prim.Native.Nat.{ℕ, zero, suc, ◌+◌, ◌-◌, ◌≤◌, ◌<◌}
use mathlib.Core.Path.{◌≡◌, refl, sym, ap, ◌∙◌}
use mathlib.Core.Logic.{inl, inr}
use mathlib.Core.Bool.{Bool, true, false, cond}
use mathlib.Core.List.{List, [], ◌∷◌, Memᴰ}
use Rattle.std.specs.Prelude.{None, Some, Option}
use lib.ListN.{length, get_or, set, replicate, length-set, length-replicate, get_or-replicate}
use lib.Seq.{get_or-set_same, get_or-set_other, ext_get_or}
use lib.Dec.{eqb}
use native.Mathlib.Nat.{eq-or-lt_of_le}
use native.Mathlib.Omega.{arith}
use borrow.Author.Tests.{eqb-true, eqb-false, eq-eqb, ne_eqb}
use Rattle.model.specs.declared.Job.{Job}
use Rattle.model.specs.Positions.{no_job}
use Rattle.model.proofs.Lists.{clash, member_all}
use Rattle.records.specs.Limits.{most_jobs}
use Rattle.table.specs.Tables.{job_id}
use Rattle.records.proofs.Listed.{Distinct}
use Rattle.lookup.specs.Lookup.{first, with_key, job_of, position_of, indexed, Indexes}

-- How many positions are left, and none.
less : (k c : ℕ) → k < c → c - k ≡ suc (c - (k + 1))
less k c h = omega arith

over : (k c : ℕ) → c ≤ k → c - k ≡ 0
over k c h = omega arith

module _ {A : Type 0} (key : A → ℕ) (d : A) (xs : List A) (x k c : ℕ) where
  pub first_turn : k < c → first key d xs x k (c - k) ≡ cond (eqb (key (get_or xs k d)) x) (Some k) (first key d xs x (k + 1) (c - (k + 1)))
  unfolding first
  first_turn h = rw (less k c h)

  pub first_end : c ≤ k → first key d xs x k (c - k) ≡ None
  unfolding first
  first_end h = rw (over k c h)

-- What the first position is.

at_same : (k i : ℕ) → Some k ≡ Some i → k ≡ i
at_same k i e = cc

nowhere_at : (i : ℕ) → None ≡ Some i → ⊥
nowhere_at i e = let z : ◌≡◌ {A = ℕ} 0 1 = cc in omega arith

below_step : (b : Bool) (k i n : ℕ) (rest : Option ℕ) → cond b (Some k) rest ≡ Some i → (rest ≡ Some i → i < k + 1 + n) → i < k + suc n
below_step true k i n rest e r = omega (arith, at_same k i e)
below_step false k i n rest e r = omega (arith, r e)

module _ {A : Type 0} (key : A → ℕ) (d : A) (xs : List A) (x : ℕ) where
  -- it is below the end
  pub first_below : (k n i : ℕ) → first key d xs x k n ≡ Some i → i < k + n
  unfolding first
  first_below k zero i e = absurd (nowhere_at i e)
  first_below k (suc n) i e = below_step (eqb (key (get_or xs k d)) x) k i n (first key d xs x (k + 1) n) e (first_below (k + 1) n i)

  has_step :
      (k i : ℕ) (rest : Option ℕ) (b : Bool) → eqb (key (get_or xs k d)) x ≡ b → cond b (Some k) rest ≡ Some i → (rest ≡ Some i → key (get_or xs i d) ≡ x) →
      key (get_or xs i d) ≡ x
  has_step k i rest true t e r = rw (← at_same k i e) (eqb-true _ _ t)
  has_step k i rest false t e r = r e

  -- and has the key
  pub first_has : (k n i : ℕ) → first key d xs x k n ≡ Some i → key (get_or xs i d) ≡ x
  unfolding first
  first_has k zero i e = absurd (nowhere_at i e)
  first_has k (suc n) i e = has_step k i (first key d xs x (k + 1) n) (eqb (key (get_or xs k d)) x) refl e (first_has (k + 1) n i)

  -- no position before it has the key
  least_step :
      (k i m : ℕ) (rest : Option ℕ) (b : Bool) → eqb (key (get_or xs k d)) x ≡ b → cond b (Some k) rest ≡ Some m →
      (k < i → rest ≡ Some m → key (get_or xs i d) ≡ x → ⊥) → k ≤ i → i < m → key (get_or xs i d) ≡ x → ⊥
  least_step k i m rest true t e on p q is = omega (arith, at_same k m e)
  least_step k i m rest false t e on p q is =
      elim (eq-or-lt_of_le p) [
        | inl same ↦ eqb-false (key (get_or xs k d)) x t (rw same is)
        | inr more ↦ on more e is
      ]

  pub first_least : (k n m : ℕ) → first key d xs x k n ≡ Some m → (i : ℕ) → k ≤ i → i < m → key (get_or xs i d) ≡ x → ⊥
  unfolding first
  first_least k zero m e i p q is = nowhere_at m e
  first_least k (suc n) m e i p q is =
      least_step k i m (first key d xs x (k + 1) n) (eqb (key (get_or xs k d)) x) refl e (λ more g. first_least (k + 1) n m g i (omega arith) q) p q is

  -- a position that has the key, and none before it has, is the first
  found_step :
      (k m : ℕ) (rest : Option ℕ) (b : Bool) → eqb (key (get_or xs k d)) x ≡ b → k ≤ m → key (get_or xs m d) ≡ x →
      ((i : ℕ) → k ≤ i → i < m → key (get_or xs i d) ≡ x → ⊥) → (k < m → rest ≡ Some m) → cond b (Some k) rest ≡ Some m
  found_step k m rest true t p is unless on =
      elim (eq-or-lt_of_le p) [
        | inl same ↦ ap Some same
        | inr more ↦ absurd (unless k (omega arith) more (eqb-true _ _ t))
      ]
  found_step k m rest false t p is unless on =
      elim (eq-or-lt_of_le p) [
        | inl same ↦ absurd (eqb-false (key (get_or xs k d)) x t (rw same is))
        | inr more ↦ on more
      ]

  pub first_found :
      (k n m : ℕ) → k ≤ m → m < k + n → key (get_or xs m d) ≡ x →
      ((i : ℕ) → k ≤ i → i < m → key (get_or xs i d) ≡ x → ⊥) → first key d xs x k n ≡ Some m
  unfolding first
  first_found k zero m p q is unless = absurd (omega arith)
  first_found k (suc n) m p q is unless =
      found_step k m (first key d xs x (k + 1) n) (eqb (key (get_or xs k d)) x) refl p is unless
      (λ more. first_found (k + 1) n m (omega arith) (omega arith) is (λ i a b. unless i (omega arith) b))

  -- where a position has the key, one is found
  pub first_some : (k n i : ℕ) → k ≤ i → i < k + n → key (get_or xs i d) ≡ x → (m : ℕ) × (first key d xs x k n ≡ Some m)
  unfolding first
  first_some k zero i p q is = absurd (omega arith)
  first_some k (suc n) i p q is = some_step (eqb (key (get_or xs k d)) x) refl (λ more. first_some (k + 1) n i more (omega arith) is)
    where
      some_step :
          (b : Bool) → eqb (key (get_or xs k d)) x ≡ b → (k + 1 ≤ i → (m : ℕ) × (first key d xs x (k + 1) n ≡ Some m)) →
          (m : ℕ) × (cond b (Some k) (first key d xs x (k + 1) n) ≡ Some m)
      some_step true t on = (k, refl)
      some_step false t on =
          elim (eq-or-lt_of_le p) [
            | inl same ↦ absurd (eqb-false (key (get_or xs k d)) x t (rw same is))
            | inr more ↦ on (omega arith)
          ]

-- The one with the key, and its position.
module _ {A : Type 0} (key : A → ℕ) where
  -- it is in the list and has the key; and where keys are distinct, each is the one with its key
  pub with_tells : (xs : List A) (x : ℕ) (y : A) → with_key key xs x ≡ Some y → Memᴰ y xs × (key y ≡ x)
  unfolding with_key
  with_tells [] x y e = clash (cc)
  with_tells (z ∷ xs) x y e = step (eqb (key z) x) refl e (with_tells xs x y)
    where
      step :
          (b : Bool) → eqb (key z) x ≡ b → cond b (Some z) (with_key key xs x) ≡ Some y →
          (with_key key xs x ≡ Some y → Memᴰ y xs × (key y ≡ x)) → Memᴰ y (z ∷ xs) × (key y ≡ x)
      step true q e on = let same : y ≡ z = cc in (Memᴰ.head same, rw same (eqb-true (key z) x q))
      step false q e on = let r = on e in (Memᴰ.tail r.0, r.1)

  pub with_own : (xs : List A) (y : A) → Distinct key xs → Memᴰ y xs → with_key key xs (key y) ≡ Some y
  unfolding with_key
  with_own [] y d m = elim m [ ]
  with_own (z ∷ xs) y d (Memᴰ.head e) = rw (e, eq-eqb (key z) (key z) refl)
  with_own (z ∷ xs) y d (Memᴰ.tail m) = rw (ne_eqb (key z) (key y) (member_all _ d.0 m)) (with_own xs y d.1 m)

  -- the first position that has the key is that of the one with the key
  pub with_at :
      (d : A) (xs : List A) (x m : ℕ) → m < length xs → key (get_or xs m d) ≡ x → ((i : ℕ) → i < m → key (get_or xs i d) ≡ x → ⊥) →
      with_key key xs x ≡ Some (get_or xs m d)
  unfolding with_key
  with_at d [] x m h is none_before = absurd (omega arith)
  with_at d (y ∷ ys) x zero h is none_before = rw (eq-eqb (key y) x is)
  with_at d (y ∷ ys) x (suc m) h is none_before =
      rw (ne_eqb (key y) x (none_before 0 (omega arith))) (with_at d ys x m (omega arith) is (λ i b. none_before (suc i) (omega arith)))

  -- and where no position has it, there is none
  pub with_none : (d : A) (xs : List A) (x : ℕ) → ((i : ℕ) → i < length xs → key (get_or xs i d) ≡ x → ⊥) → with_key key xs x ≡ None
  unfolding with_key
  with_none d [] x no_one = refl
  with_none d (y ∷ ys) x no_one = rw (ne_eqb (key y) x (no_one 0 (omega arith))) (with_none d ys x (λ i b. no_one (suc i) (omega arith)))

-- The index of the jobs from the i-th on: what `index_of` keeps while i goes down.
pub record Tail (js : List Job) (i : ℕ) (index : List ℕ) : Type 0 where
  pub size : length index ≡ 256
  pub tells : (id : ℕ) → id < 256 → get_or index id 0 ≡ indexed (first job_id no_job js id i (length js - i))

pub tail_begin : (js : List Job) (i : ℕ) → length js ≤ i → Tail js i (replicate 256 most_jobs)
tail_begin js i h =
    record {
      size = length-replicate 256 most_jobs;
      tells = λ id b. get_or-replicate 256 id most_jobs 0 b ∙ ap indexed (sym (first_end job_id no_job js id i _ h));
    }

-- one job more at the front, which counts before the others
module _ (js : List Job) (i : ℕ) (index : List ℕ) (more : i < length js) where
  abbrev own : ℕ
  own = (get_or js i no_job).id

  told :
      own < length index → (id rest : ℕ) (f : Option ℕ) → get_or index id 0 ≡ indexed f → (b : Bool) → eqb own id ≡ b →
      get_or (set index own i) id 0 ≡ indexed (cond b (Some i) f)
  told there id rest f before true e = rw (← eqb-true own id e) (get_or-set_same index own i 0 there)
  told there id rest f before false e = get_or-set_other index own id i 0 (λ q. eqb-false own id e (sym q)) ∙ before

  pub tail_more : own < 256 → Tail js (i + 1) index → Tail js i (set index own i)
  tail_more byte t =
      record {
        size = length-set index own i ∙ t.size;
        tells = λ id b. told (rw t.size byte) id 0 _ (t.tells id b) (eqb own id) refl ∙ ap indexed (sym (first_turn job_id no_job js id i _ more));
      }

-- What an index tells of an id: a number below that of the jobs is the position of its job, and any other means that there is none.
module _ (js : List Job) (index : List ℕ) (is : Indexes js index) (few : length js ≤ most_jobs) (id : ℕ) (byte : id < 256) where
  sought : (f : Option ℕ) → position_of js id ≡ f → get_or index id 0 ≡ indexed f
  sought f e = is.tells id byte ∙ ap indexed e

  pub index_tells : get_or index id 0 < length js → job_of js id ≡ Some (get_or js (get_or index id 0) no_job)
  index_tells h = step (position_of js id) refl
    where
      step : (f : Option ℕ) → position_of js id ≡ f → job_of js id ≡ Some (get_or js (get_or index id 0) no_job)
      step (Some i) e =
          rw (sought (Some i) e)
          (with_at job_id no_job js id i (omega (arith, first_below job_id no_job js id 0 (length js) i e)) (first_has job_id no_job js id 0 (length js) i e)
          (λ k b. first_least job_id no_job js id 0 (length js) i e k (omega arith) b))
      step None e = absurd (omega (arith, sought None e))

  pub index_none : length js ≤ get_or index id 0 → job_of js id ≡ None
  index_none h = step (position_of js id) refl
    where
      step : (f : Option ℕ) → position_of js id ≡ f → job_of js id ≡ None
      step (Some i) e = absurd (omega (arith, sought (Some i) e, first_below job_id no_job js id 0 (length js) i e))
      step None e =
          with_none job_id no_job js id
          (λ i b q.
          let m = first_some job_id no_job js id 0 (length js) i (omega arith) (omega arith) q in
          nowhere_at m.0 (sym e ∙ m.1))

-- two indexes of the same jobs are the same
pub indexes_one : (js : List Job) (a b : List ℕ) → Indexes js a → Indexes js b → a ≡ b
indexes_one js a b x y =
    ext_get_or 0 a b (x.size ∙ sym y.size) (λ i h. x.tells i (rw x.size at h) ∙ sym (y.tells i (rw x.size at h)))
