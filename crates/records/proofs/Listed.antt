-- Laws of a file as a list of records, told once for tables and plans: the ids seen, the padded array, the reader's loop,
-- what every accepted list is, and that an accepted list and its bytes tell each other. Assumes nothing.
use Prim.Native.Nat.{ℕ, zero, suc, ◌+◌, ◌-◌, ◌≤◌, ◌<◌}
use mathlib.Core.Path.{◌≡◌, refl, sym, ap, subst, ◌∙◌}
use mathlib.Core.Bool.{Bool, true, false, cond, ◌||◌, or-true, or-false, or_assoc}
use mathlib.Core.List.{List, [], ◌∷◌, ◌++◌, map, flat_map, Memᴰ, append-nil, append_assoc}
use lib.ListN.{length, get_or, set, drop, replicate, length-append, length-set, length-replicate, length-drop, get_or-replicate, drop_of_length-le}
use lib.Seq.{append_snoc, set-append_seam, get_or-set_same, get_or-set_other, drop-drop, drop_at}
use lib.Dec.{leb, eqb}
use native.Mathlib.Omega.{arith}
use borrow.Author.Tests.{leb-true, le-leb, eqb-true, eqb-false, eq-eqb, ne_eqb}
use Rattle.model.specs.Lists.{All, Pairwise}
use Rattle.model.proofs.Lists.{clash, pairwise_append, all_map}
use Rattle.records.specs.declared.refusal.Place.{Place}
use Rattle.records.specs.declared.refusal.Refusal.{Refusal}
use Rattle.records.specs.declared.refusal.Refusal.TheVariants.{Twice, After}
use Rattle.records.specs.Limits.{most_jobs}
use Rattle.records.specs.Refusals.{past, Outcome, accepted, refused}
use Rattle.records.specs.Records.{Parsed, one, last, bad, used, follow, list_from}

-- one more id
used_more : (is : List ℕ) (i id : ℕ) → used (is ++ (i ∷ [])) id ≡ (used is id || eqb i id)
unfolding used
used_more [] i id = or-false (eqb i id)
used_more (k ∷ is) i id = rw (used_more is i id) (sym (or_assoc (eqb k id) (used is id) (eqb i id)))

-- an id that is among them is used
pub used_member : (ids : List ℕ) (id : ℕ) → Memᴰ id ids → used ids id ≡ true
unfolding used
used_member [] id m = elim m [ ]
used_member (i ∷ ids) id (Memᴰ.head e) = rw (eq-eqb i id (sym e))
used_member (i ∷ ids) id (Memᴰ.tail m) = rw (used_member ids id m) (or-true (eqb i id))

neither : (a b : Bool) → (a || b) ≡ false → (a ≡ false) × (b ≡ false)
neither true b e = (cc, cc)
neither false b e = (refl, e)

-- The ids so far as a reader holds them: `seen` tells for each byte whether it is one of them.
pub record Seen (ids : List ℕ) (seen : List Bool) : Type 0 where
  pub size : length seen ≡ 256
  pub tells : (i : ℕ) → i < 256 → get_or seen i false ≡ used ids i

pub seen_none : Seen [] (replicate 256 false)
unfolding used
seen_none = record { size = length-replicate 256 false; tells = λ i h. get_or-replicate 256 i false false h }

pub seen_more : {ids : List ℕ} {seen : List Bool} (i : ℕ) → i < 256 → Seen ids seen → Seen (ids ++ (i ∷ [])) (set seen i true)
seen_more {ids} {seen} i h so =
    record {
      size = length-set seen i true ∙ so.size;
      tells = λ j k. rw (used_more ids i j) (go j (so.tells j k) (eqb i j) refl);
    }
  where
    go : (j : ℕ) → get_or seen j false ≡ used ids j → (b : Bool) → eqb i j ≡ b → get_or (set seen i true) j false ≡ (used ids j || b)
    go j e true x = rw (← eqb-true i j x) (get_or-set_same seen i true false (rw so.size h) ∙ sym (or-true (used ids i)))
    go j e false x = get_or-set_other seen i j true false (λ y. eqb-false i j x (sym y)) ∙ (e ∙ sym (or-false (used ids j)))

module _ {A : Type 0} where
  -- one more of n entries, where those that hold nothing yet hold d
  pub padded_more :
      (xs : List A) (x d : A) (n : ℕ) → length xs < n →
      set (xs ++ replicate (n - length xs) d) (length xs) x ≡ (xs ++ (x ∷ [])) ++ replicate (n - length (xs ++ (x ∷ []))) d
  padded_more xs x d n h =
      let more : length (xs ++ (x ∷ [])) ≡ length xs + 1 = length-append xs (x ∷ []) in
      let room : n - length xs ≡ suc (n - (length xs + 1)) = omega arith in
      rw (room, more) (set-append_seam xs d (replicate (n - (length xs + 1)) d) x ∙ sym (append_snoc xs x (replicate (n - (length xs + 1)) d)))

  -- the bytes of a list, and of one more
  pub flat_more :
      (bytes_of : A → List ℕ) (xs : List A) (x : A) (rest : List ℕ) →
      flat_map bytes_of (xs ++ (x ∷ [])) ++ rest ≡ flat_map bytes_of xs ++ (bytes_of x ++ rest)
  unfolding flat_map
  flat_more bytes_of [] x rest = simp append-nil
  flat_more bytes_of (y ∷ xs) x rest = simp (append_assoc, flat_more bytes_of xs x rest)

  -- of a list with x in it: what holds of each holds of x, and what holds of every two holds of each before it and x
  all_seam : (P : A → Type 0) (xs : List A) (x : A) (ys : List A) → All P (xs ++ (x ∷ ys)) → P x
  all_seam P [] x ys h = h.0
  all_seam P (y ∷ xs) x ys h = all_seam P xs x ys h.1

  pub pairwise_seam : (R : A → A → Type 0) (xs : List A) (x : A) (ys : List A) → Pairwise R (xs ++ (x ∷ ys)) → All (λ (y : A). R y x) xs
  pairwise_seam R [] x ys h = tt
  pairwise_seam R (y ∷ xs) x ys h = (all_seam (R y) xs x ys h.0, pairwise_seam R xs x ys h.1)

module _ {A : Type 0} (id_of : A → ℕ) where
  -- no two have the same id
  abbrev pub Distinct : List A → Type 0
  Distinct = Pairwise (λ (x y : A). ¬ (id_of x ≡ id_of y))

  map_more : (xs : List A) (x : A) → map id_of (xs ++ (x ∷ [])) ≡ map id_of xs ++ (id_of x ∷ [])
  map_more [] x = refl
  map_more (y ∷ xs) x = ap (λ (l : List ℕ). id_of y ∷ l) (map_more xs x)

  -- an id that is not used differs from each, and the other way round
  pub unused_differs : (xs : List A) (id : ℕ) → used (map id_of xs) id ≡ false → All (λ (x : A). ¬ (id_of x ≡ id)) xs
  unfolding used
  unused_differs [] id h = tt
  unused_differs (x ∷ xs) id h = let n = neither (eqb (id_of x) id) _ h in (eqb-false (id_of x) id n.0, unused_differs xs id n.1)

  pub differs_unused : (xs : List A) (id : ℕ) → All (λ (x : A). ¬ (id_of x ≡ id)) xs → used (map id_of xs) id ≡ false
  unfolding used
  differs_unused [] id h = refl
  differs_unused (x ∷ xs) id h = rw (ne_eqb (id_of x) id h.0, differs_unused xs id h.1)

module _ {A : Type 0} (id_of : A → ℕ) (entry_at : Place → ℕ → Parsed A) (size : ℕ) where
  -- one record more
  pub list_step :
      (xs : List A) (p : Place) → length xs ≤ most_jobs →
      list_from id_of entry_at size (suc most_jobs - length xs) xs p ≡
      follow id_of entry_at size (list_from id_of entry_at size (most_jobs - length xs)) xs p (entry_at p (length xs))
  unfolding list_from
  list_step xs p h =
      let e : suc most_jobs - length xs ≡ suc (most_jobs - length xs) = omega arith in
      rw e

  -- What a reader's loop keeps: xs is what it has read so far, of which it holds the count and the ids,
  -- and what is still to do, from `p` on, gives the same as the whole, from `first` on.
  pub record SoFar (first : Place) (xs : List A) (count : ℕ) (seen : List Bool) (p : Place) : Type 0 where
    pub counted : count ≡ length xs
    pub few : length xs ≤ most_jobs
    pub ids : Seen (map id_of xs) seen
    pub rest : list_from id_of entry_at size (suc most_jobs - length xs) xs p ≡ list_from id_of entry_at size (suc most_jobs) [] first

  pub so_far_begin : (first : Place) → SoFar first [] 0 (replicate 256 false) first
  so_far_begin first = record { counted = refl; few = omega arith; ids = seen_none; rest = refl }

  module _ {first : Place} {xs : List A} {count : ℕ} {seen : List Bool} {p : Place} (so : SoFar first xs count seen p) where
    -- the record at the place, and what it leads to
    leads :
        {a : Parsed A} → entry_at p count ≡ a →
        follow id_of entry_at size (list_from id_of entry_at size (most_jobs - length xs)) xs p a ≡ list_from id_of entry_at size (suc most_jobs) [] first
    leads e = rw (← e, so.counted) (sym (list_step xs p so.few) ∙ so.rest)

    pub so_far_refused : {f : Refusal} → entry_at p count ≡ bad f → refused f ≡ list_from id_of entry_at size (suc most_jobs) [] first
    so_far_refused e = leads e

    pub so_far_ended :
        {next : Place} → entry_at p count ≡ last next →
        cond (leb size next.at) (accepted xs) (refused (After next)) ≡ list_from id_of entry_at size (suc most_jobs) [] first
    so_far_ended e = leads e

    module _ {x : A} {next : Place} (e : entry_at p count ≡ one x next) (byte : id_of x < 256) where
      pub so_far_twice : get_or seen (id_of x) false ≡ true → refused (Twice p) ≡ list_from id_of entry_at size (suc most_jobs) [] first
      so_far_twice h =
          let twice : used (map id_of xs) (id_of x) ≡ true = sym (so.ids.tells (id_of x) byte) ∙ h in
          simp twice at (leads e)

      pub so_far_more : count < most_jobs → get_or seen (id_of x) false ≡ false → SoFar first (xs ++ (x ∷ [])) (count + 1) (set seen (id_of x) true) next
      so_far_more room h =
          let counted = so.counted in
          let once : used (map id_of xs) (id_of x) ≡ false = sym (so.ids.tells (id_of x) byte) ∙ h in
          let more : length (xs ++ (x ∷ [])) ≡ length xs + 1 = length-append xs (x ∷ []) in
          let left : suc most_jobs - length (xs ++ (x ∷ [])) ≡ most_jobs - length xs = omega arith in
          record {
            counted = omega arith;
            few = omega arith;
            ids = rw (map_more id_of xs x) (seen_more (id_of x) byte so.ids);
            rest = rw left (simp once at (leads e));
          }

  -- What holds of no record, of one more where it held before, and then of the end, holds of every accepted list.
  pub listed_all :
      (I : List A → Place → Type 0) (Q : List A → Type 0) →
      ((xs : List A) (p : Place) (x : A) (next : Place) → I xs p → entry_at p (length xs) ≡ one x next → used (map id_of xs) (id_of x) ≡ false →
      I (xs ++ (x ∷ [])) next) →
      ((xs : List A) (p next : Place) → I xs p → entry_at p (length xs) ≡ last next → size ≤ next.at → Q xs) →
      (left : ℕ) (before : List A) (p : Place) → I before p → (xs : List A) → list_from id_of entry_at size left before p ≡ accepted xs → Q xs
  unfolding list_from
  listed_all I Q more end zero before p i xs e = clash (cc)
  listed_all I Q more end (suc left) before p i xs e = read (entry_at p (length before)) refl e (λ ys next j. listed_all I Q more end left ys next j xs)
    where
      read :
          (a : Parsed A) → entry_at p (length before) ≡ a →
          follow id_of entry_at size (list_from id_of entry_at size left) before p a ≡ accepted xs →
          ((ys : List A) (next : Place) → I ys next → list_from id_of entry_at size left ys next ≡ accepted xs → Q xs) → Q xs
      read (one x next) a e on = step (used (map id_of before) (id_of x)) refl e
        where
          step :
              (b : Bool) → used (map id_of before) (id_of x) ≡ b →
              cond b (refused (Twice p)) (list_from id_of entry_at size left (before ++ (x ∷ [])) next) ≡ accepted xs → Q xs
          step true u e = clash (cc)
          step false u e = on (before ++ (x ∷ [])) next (more before p x next i a u) e
      read (last next) a e on = step (leb size next.at) refl e
        where
          step : (b : Bool) → leb size next.at ≡ b → cond b (accepted before) (refused (After next)) ≡ accepted xs → Q xs
          step true u e = subst Q (cc) (end before p next i a (leb-true _ _ u))
          step false u e = clash (cc)
      read (bad f) a e on = clash (cc)

  -- an accepted list has at most 32, with distinct ids
  pub listed_good :
      ((p : Place) (n : ℕ) (x : A) (next : Place) → entry_at p n ≡ one x next → n < most_jobs) →
      (first : Place) (xs : List A) → list_from id_of entry_at size (suc most_jobs) [] first ≡ accepted xs → (length xs ≤ most_jobs) × Distinct id_of xs
  listed_good few first =
      listed_all (λ (xs : List A) (p : Place). (length xs ≤ most_jobs) × Distinct id_of xs) (λ (xs : List A). (length xs ≤ most_jobs) × Distinct id_of xs)
      (λ xs p x next i a u. (
        omega (arith, few p (length xs) x next a, length-append xs (x ∷ [])),
        pairwise_append _ xs (x ∷ []) i.1 (tt, tt) (all_map (λ y d. (d, tt)) xs (unused_differs id_of xs (id_of x) u)),
      ))
      (λ xs p next i a h. i)
      (suc most_jobs) [] first (omega arith, tt)

-- From place to place: past a record of these bytes, and past all of them.
abbrev pub over : Place → List ℕ → Place
over p bytes = past p (length bytes - 1)

unfoldable pub over_all : Place → List (List ℕ) → Place
over_all p [] = p
over_all p (r ∷ rs) = over_all (over p r) rs

-- what stands behind them
pub over_drop : (s : List ℕ) (p : Place) (r rest : List ℕ) → 1 ≤ length r → drop p.at s ≡ r ++ rest → drop (over p r).at s ≡ rest
over_drop s p r rest any e =
    let next : p.at + 1 + (length r - 1) ≡ p.at + length r = omega arith in
    rw next (sym (drop-drop (length r) p.at s) ∙ (ap (drop (length r)) e ∙ drop_at r rest (length r) refl))

pub over_all_drop :
    (s : List ℕ) {A : Type 0} (bytes_of : A → List ℕ) → ((x : A) → 1 ≤ length (bytes_of x)) →
    (xs : List A) (p : Place) (rest : List ℕ) → drop p.at s ≡ flat_map bytes_of xs ++ rest → drop (over_all p (map bytes_of xs)).at s ≡ rest
unfolding flat_map over_all
over_all_drop s bytes_of any [] p rest e = e
over_all_drop s bytes_of any (x ∷ xs) p rest e =
    over_all_drop s bytes_of any xs (over p (bytes_of x)) rest
    (over_drop s p (bytes_of x) (flat_map bytes_of xs ++ rest) (any x) (e ∙ append_assoc (bytes_of x) (flat_map bytes_of xs) rest))

-- The bytes of a list: of each that is listed, in order, and of the end record, where each kind of record tells its bytes.
module _ {A : Type 0} (id_of : A → ℕ) (s : List ℕ) (entry_at : Place → ℕ → Parsed A) (bytes_of : A → List ℕ) where
  -- an accepted list stands in s, from `first` on, and nothing after it
  pub listed_bytes :
      (last_bytes : List ℕ) →
      ((p : Place) (n : ℕ) (x : A) (next : Place) → entry_at p n ≡ one x next → drop p.at s ≡ bytes_of x ++ drop next.at s) →
      ((p : Place) (n : ℕ) (next : Place) → entry_at p n ≡ last next → drop p.at s ≡ last_bytes ++ drop next.at s) →
      (first : Place) (xs : List A) → list_from id_of entry_at (length s) (suc most_jobs) [] first ≡ accepted xs →
      drop first.at s ≡ flat_map bytes_of xs ++ last_bytes
  unfolding flat_map
  listed_bytes last_bytes one_bytes end_bytes first =
      listed_all id_of entry_at (length s)
      (λ (xs : List A) (p : Place). drop first.at s ≡ flat_map bytes_of xs ++ drop p.at s)
      (λ (xs : List A). drop first.at s ≡ flat_map bytes_of xs ++ last_bytes)
      (λ xs p x next i a u.
      i ∙ (ap (λ (l : List ℕ). flat_map bytes_of xs ++ l) (one_bytes p (length xs) x next a) ∙ sym (flat_more bytes_of xs x (drop next.at s))))
      (λ xs p next i a h. i ∙ ap (λ (l : List ℕ). flat_map bytes_of xs ++ l)
      (end_bytes p (length xs) next a ∙ rw (drop_of_length-le s {i = next.at} h) (append-nil last_bytes)))
      (suc most_jobs) [] first refl

  -- what is to be read from `p` on, where xs stands before
  abbrev pub read_on : List A → Place → Outcome (List A)
  read_on xs p = list_from id_of entry_at (length s) (suc most_jobs - length xs) xs p

  module _
      (Good : A → Type 0) (any : (x : A) → 1 ≤ length (bytes_of x))
      (reads :
      (p : Place) (n : ℕ) (x : A) (rest : List ℕ) → drop p.at s ≡ bytes_of x ++ rest → n < most_jobs → Good x →
      entry_at p n ≡ one x (over p (bytes_of x))) where
    -- the bytes of a good list are read as that list, whatever follows them
    pub good_read :
        (ys xs : List A) (p : Place) (rest : List ℕ) → length xs + length ys ≤ most_jobs → Distinct id_of (xs ++ ys) → All Good ys →
        drop p.at s ≡ flat_map bytes_of ys ++ rest → read_on xs p ≡ read_on (xs ++ ys) (over_all p (map bytes_of ys))
    unfolding flat_map over_all
    good_read [] xs p rest few distinct good e = rw append-nil
    good_read (y ∷ ys) xs p rest few distinct good e =
        let more : length (xs ++ (y ∷ [])) ≡ length xs + 1 = length-append xs (y ∷ []) in
        let left : most_jobs - length xs ≡ suc most_jobs - length (xs ++ (y ∷ [])) = omega arith in
        let once : used (map id_of xs) (id_of y) ≡ false = differs_unused id_of xs (id_of y) (pairwise_seam _ xs y ys distinct) in
        let here : drop p.at s ≡ bytes_of y ++ (flat_map bytes_of ys ++ rest) = e ∙ append_assoc (bytes_of y) (flat_map bytes_of ys) rest in
        list_step id_of entry_at (length s) xs p (omega arith) ∙
        rw (reads p (length xs) y _ here (omega arith) good.0, once, left)
        (good_read ys (xs ++ (y ∷ [])) (over p (bytes_of y)) rest (omega arith) (rw append_snoc distinct) good.1 (over_drop s p (bytes_of y) _ (any y) here) ∙
        rw append_snoc)

    -- and with the end record behind them and nothing after it they are accepted
    pub listed_back :
        (end : ℕ) → ((p : Place) (n : ℕ) (more : List ℕ) → drop p.at s ≡ end ∷ more → entry_at p n ≡ last (past p 0)) →
        (first : Place) (xs : List A) → length xs ≤ most_jobs → Distinct id_of xs → All Good xs →
        drop first.at s ≡ flat_map bytes_of xs ++ (end ∷ []) → list_from id_of entry_at (length s) (suc most_jobs) [] first ≡ accepted xs
    listed_back end ends first xs few distinct good e =
        let p = over_all first (map bytes_of xs) in
        let there : drop p.at s ≡ end ∷ [] = over_all_drop s bytes_of any xs first _ e in
        let size : length s - p.at ≡ 1 = sym (length-drop p.at s) ∙ ap length there in
        good_read xs [] first (end ∷ []) (omega arith) distinct good e ∙
        (list_step id_of entry_at (length s) xs p few ∙ rw (ends p (length xs) [] there, le-leb (length s) (past p 0).at (omega arith)))
