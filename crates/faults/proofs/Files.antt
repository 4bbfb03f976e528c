-- What tables and plans have in common: every file is a good list with its end record or has a fault (`listed_or_fault`, in which no reader stands),
-- and a file with a fault is refused for it (`fault_refused`), where the reader of one record does so. Assumes nothing.
use Prim.Native.Nat.{ℕ, zero, suc, ◌+◌, ◌-◌, ◌≤◌, ◌<◌}
use native.Mathlib.Omega.{arith}
use mathlib.Core.Path.{◌≡◌, refl, sym, ap, subst, ◌∙◌}
use mathlib.Core.Logic.{◌⊎◌, inl, inr, ◌↔◌}
use mathlib.Core.Bool.{Bool, true, false}
use mathlib.Core.List.Memᴰ
use mathlib.Core.List.{List, [], ◌∷◌, ◌++◌, map, flat_map, Memᴰ, append-nil, append_assoc}
use Rattle.std.specs.Prelude.{Option, None, Some}
use lib.ListN.{length, drop, length-append}
use lib.Seq.{append_snoc, drop_at}
use lib.Dec.{eqb, ltb}
use borrow.Author.Tests.{eqb-true, eqb-false, ltb-true, ltb-false, lt-leb}
use Rattle.model.specs.Lists.{All}
use Rattle.model.proofs.Lists.{all_map, all_append, pairwise_append, member_all}
use Rattle.records.specs.declared.refusal.Place.{Place}
use Rattle.records.specs.declared.refusal.Refusal.{Refusal}
use Rattle.records.specs.declared.refusal.Refusal.TheVariants.{Kind, Range, Many, After}
use Rattle.records.specs.declared.kind.Meaning.{Meaning}
use Rattle.records.specs.declared.kind.Form.{Form}
use Rattle.records.specs.Limits.{most_jobs}
use Rattle.records.specs.Refusals.{past, refused}
use Rattle.records.specs.Records.{form_of, judged, Parsed, one, last, bad, list_from}
use Rattle.records.proofs.Records as records
use Rattle.records.proofs.Listed.{used_member, flat_more, list_step, over, over_all, read_on, good_read}
use Rattle.table.proofs.ReadBack.{kind_byte, long}
use Rattle.faults.specs.Faults.{joined, behind, Unread, no_byte, not_allowed, cut, Faulty, unread, many, range, twice, after, GoodList, ListFault, fault}

-- one of a list has a number, or none has
module _ {A : Type 0} (f : A → ℕ) (n : ℕ) where
  abbrev One : List A → Type 0
  One xs = (x : A) × Memᴰ x xs × (f x ≡ n)

  abbrev Absent : List A → Type 0
  Absent = All (λ (x : A). ¬ (f x ≡ n))

  pub one_or_none : (xs : List A) → One xs ⊎ Absent xs
  one_or_none [] = inr tt
  one_or_none (x ∷ xs) = step (eqb (f x) n) refl (one_or_none xs)
    where
      step : (b : Bool) → eqb (f x) n ≡ b → One xs ⊎ Absent xs → One (x ∷ xs) ⊎ Absent (x ∷ xs)
      step true e o = inl (x, Memᴰ.head refl, eqb-true (f x) n e)
      step false e (inl r) = inl (r.0, Memᴰ.tail r.1, r.2)
      step false e (inr h) = inr (eqb-false (f x) n e, h)

-- a record whose kind is allowed and whose body is all there
pub record Whole (kinds : List (ℕ × ℕ)) (rest : List ℕ) : Type 0 where
  pub kind : ℕ
  pub body : ℕ
  pub more : List ℕ
  pub is : rest ≡ kind ∷ more
  pub allowed : Memᴰ (kind, body) kinds
  pub there : body ≤ length more

pub unread_or_whole : (kinds : List (ℕ × ℕ)) (p : Place) (rest : List ℕ) → ((f : Refusal) × Unread kinds p rest f) ⊎ Whole kinds rest
unread_or_whole kinds p [] = inl (_, no_byte)
unread_or_whole kinds p (k ∷ more) = step (one_or_none (λ (r : ℕ × ℕ). r.0) k kinds)
  where
    fits : (n : ℕ) → Memᴰ (k, n) kinds → (b : Bool) → ltb (length more) n ≡ b → ((f : Refusal) × Unread kinds p (k ∷ more) f) ⊎ Whole kinds (k ∷ more)
    fits n m true e = inl (_, cut m (ltb-true _ _ e))
    fits n m false e = inr (record { kind = k; body = n; more = more; is = refl; allowed = m; there = ltb-false _ _ e })

    step :
        ((r : ℕ × ℕ) × Memᴰ r kinds × (r.0 ≡ k)) ⊎ All (λ (r : ℕ × ℕ). ¬ (r.0 ≡ k)) kinds →
        ((f : Refusal) × Unread kinds p (k ∷ more) f) ⊎ Whole kinds (k ∷ more)
    step (inl h) = fits h.0.1 (subst (λ (r : ℕ × ℕ). Memᴰ r kinds) (λ i. (h.2 i, h.0.1)) h.1) (ltb (length more) h.0.1) refl
    step (inr h) = inl (_, not_allowed (all_map (λ r n e. n (sym e)) kinds h))

-- the bytes of some records and then of a list
pub joined_map : {A : Type 0} (bytes_of : A → List ℕ) (rs : List (List ℕ)) (xs : List A) → joined (rs ++ map bytes_of xs) ≡ joined rs ++ flat_map bytes_of xs
unfolding flat_map
joined_map bytes_of [] [] = refl
joined_map bytes_of [] (x ∷ xs) = ap (λ (l : List ℕ). bytes_of x ++ l) (joined_map bytes_of [] xs)
joined_map bytes_of (r ∷ rs) xs = ap (λ (l : List ℕ). r ++ l) (joined_map bytes_of rs xs) ∙ sym (append_assoc r (joined rs) (flat_map bytes_of xs))

-- Every file is told. `Byte` is what is known of each byte; a whole record is one that is listed, or the end.
module _
    {A : Type 0} (id_of : A → ℕ) (bytes_of : A → List ℕ) (InRange : A → Type 0) (kinds : List (ℕ × ℕ)) (end : ℕ) (Byte : ℕ → Type 0)
    (in_range : (x : A) → InRange x ⊎ ¬ InRange x)
    (record_is :
    (rest : List ℕ) → Whole kinds rest → All Byte rest →
    ((x : A) × (more : List ℕ) × (rest ≡ bytes_of x ++ more) × All Byte more) ⊎ ((more : List ℕ) × (rest ≡ end ∷ more)))
    (first : List (List ℕ)) where
  abbrev Good : List A → Type 0
  Good = GoodList id_of InRange

  -- the bytes of a good list and its end record, or a fault
  abbrev pub Told : List ℕ → Type 0
  Told s =
      ((xs : List A) × Good xs × (s ≡ joined first ++ flat_map bytes_of xs ++ (end ∷ []))) ⊎
      ((f : Refusal) × ListFault id_of bytes_of InRange kinds end first s f)

  good_more : (xs : List A) (x : A) → Good xs → length xs < most_jobs → InRange x → All (λ (y : A). ¬ (id_of y ≡ id_of x)) xs → Good (xs ++ (x ∷ []))
  good_more xs x good room ok new =
      record {
        few = omega (arith, length-append xs (x ∷ []));
        distinct = pairwise_append _ xs (x ∷ []) good.distinct (tt, tt) (all_map (λ y d. (d, tt)) xs new);
        each = all_append InRange xs (x ∷ []) good.each (ok, tt);
      }

  -- one record, where `on` tells what follows one that is listed
  module _
      (xs : List A) (good : Good xs)
      (on :
      (x : A) (more : List ℕ) → length xs < most_jobs → Good (xs ++ (x ∷ [])) → All Byte more →
      Told (joined first ++ flat_map bytes_of (xs ++ (x ∷ [])) ++ more)) where
    abbrev rs : List (List ℕ)
    rs = first ++ map bytes_of xs

    faulty : {rest : List ℕ} {f : Refusal} → Faulty id_of bytes_of InRange kinds end xs rs rest f → Told (joined first ++ flat_map bytes_of xs ++ rest)
    faulty {rest} {f} y =
        inr (f, subst (λ (l : List ℕ). ListFault id_of bytes_of InRange kinds end first (l ++ rest) f) (joined_map bytes_of first xs) (fault xs rest good y))

    told_listed : (x : A) (more : List ℕ) → All Byte more → Told (joined first ++ flat_map bytes_of xs ++ (bytes_of x ++ more))
    told_listed x more bytes = room (ltb (length xs) most_jobs) refl
      where
        new :
            length xs < most_jobs → InRange x → One id_of (id_of x) xs ⊎ Absent id_of (id_of x) xs →
            Told (joined first ++ flat_map bytes_of xs ++ (bytes_of x ++ more))
        new h ok (inl m) = faulty (twice x more h ok (subst (λ (i : ℕ). Memᴰ i (map id_of xs)) m.2 (Memᴰ.map id_of m.1)))
        new h ok (inr d) =
            subst Told (append_assoc (joined first) (flat_map bytes_of (xs ++ (x ∷ []))) more ∙
            (ap (λ (l : List ℕ). joined first ++ l) (flat_more bytes_of xs x more)
            ∙ sym (append_assoc (joined first) (flat_map bytes_of xs) (bytes_of x ++ more))))
            (on x more h (good_more xs x good h ok d) bytes)

        ranged : length xs < most_jobs → InRange x ⊎ ¬ InRange x → Told (joined first ++ flat_map bytes_of xs ++ (bytes_of x ++ more))
        ranged h (inl ok) = new h ok (one_or_none id_of (id_of x) xs)
        ranged h (inr out) = faulty (range x more h out)

        room : (b : Bool) → ltb (length xs) most_jobs ≡ b → Told (joined first ++ flat_map bytes_of xs ++ (bytes_of x ++ more))
        room true e = ranged (ltb-true _ _ e) (in_range x)
        room false e = faulty (many x more (omega (arith, ltb-false (length xs) most_jobs e, good.few)))

    told_end : (more : List ℕ) → Told (joined first ++ flat_map bytes_of xs ++ (end ∷ more))
    told_end [] = inl (xs, good, refl)
    told_end (b ∷ more) = faulty after

    told_one : (rest : List ℕ) → All Byte rest → Told (joined first ++ flat_map bytes_of xs ++ rest)
    told_one rest bytes = step (unread_or_whole kinds (behind rs) rest)
      where
        whole :
            ((x : A) × (more : List ℕ) × (rest ≡ bytes_of x ++ more) × All Byte more) ⊎ ((more : List ℕ) × (rest ≡ end ∷ more)) →
            Told (joined first ++ flat_map bytes_of xs ++ rest)
        whole (inl w) = rw w.2 (told_listed w.0 w.1 w.3)
        whole (inr w) = rw w.1 (told_end w.0)

        step : ((f : Refusal) × Unread kinds (behind rs) rest f) ⊎ Whole kinds rest → Told (joined first ++ flat_map bytes_of xs ++ rest)
        step (inl u) = faulty (unread u.1)
        step (inr w) = whole (record_is rest w bytes)

  told_from :
      (left : ℕ) (xs : List A) (rest : List ℕ) → left + length xs ≡ most_jobs → Good xs → All Byte rest →
      Told (joined first ++ flat_map bytes_of xs ++ rest)
  told_from zero xs rest count good bytes = told_one xs good (λ x more room g b. absurd (omega arith)) rest bytes
  told_from (suc left) xs rest count good bytes =
      told_one xs good (λ x more room g b. told_from left (xs ++ (x ∷ [])) more (omega (arith, length-append xs (x ∷ []))) g b) rest bytes

  pub listed_or_fault : (rest : List ℕ) → All Byte rest → Told (joined first ++ rest)
  unfolding flat_map
  listed_or_fault rest bytes = rw append-nil at (told_from most_jobs [] rest (omega arith) (record { few = omega arith; distinct = tt; each = tt }) bytes)

-- a byte that is none of these kinds means nothing that may stand there
abbrev pub Others : {K : Type 0} → (Meaning → Option K) → List (ℕ × ℕ) → ℕ → Option Form → Type 0
Others may kinds k o = All (λ (r : ℕ × ℕ). ¬ (k ≡ r.0)) kinds → (f : Form) → o ≡ Some f → may f.meaning ≡ None

-- A record that is not read is refused by what is judged of every record, where the kinds that may stand there are these.
module _
    {K R : Type 0} (refuse : Refusal → R) (read : Place → K → R) (may : Meaning → Option K) (kinds : List (ℕ × ℕ))
    (others : (k : ℕ) → Others may kinds k (form_of k))
    (these : All (λ (r : ℕ × ℕ). (f : Form) × (form_of r.0 ≡ Some f) × (j : K) × (may f.meaning ≡ Some j) × (f.body ≡ r.1)) kinds)
    (s : List ℕ) (p : Place) where
  pub unread_refused : {rest : List ℕ} {f : Refusal} → Unread kinds p rest f → drop p.at s ≡ rest → judged refuse read may s p ≡ refuse f
  unread_refused no_byte e =
      let size = long s p _ e in
      records.no_byte refuse read may s p (omega arith)
  unread_refused (not_allowed {k} h) e =
      let size = long s p _ e in
      step (form_of k) refl
    where
      step : (o : Option Form) → form_of k ≡ o → judged refuse read may s p ≡ refuse (Kind p)
      step None is = records.unknown refuse read may s p (ap form_of (kind_byte s p _ e) ∙ is) (omega (arith, long s p _ e))
      step (Some f) is =
          records.not_allowed refuse read may s p (ap form_of (kind_byte s p _ e) ∙ is) (omega (arith, long s p _ e)) (others k h f is)
  unread_refused (cut {k} {n} {more} m h) e =
      let size = long s p _ e in
      let known = member_all _ these m in
      records.cut refuse read may s p (ap form_of (kind_byte s p _ e) ∙ known.1) (omega arith) known.2 known.3 (omega (arith, known.4))

-- The place behind records by their bytes is where going from record to record leads.
pub behind_more : (rs : List (List ℕ)) (r : List ℕ) → 1 ≤ length r → behind (rs ++ (r ∷ [])) ≡ over (behind rs) r
behind_more rs r any =
    let size = ap length (flat_more (λ (l : List ℕ). l) rs r []) in
    let far : length (joined (rs ++ (r ∷ []))) ≡ length (joined rs) + 1 + (length r - 1) =
    omega (arith, length-append (joined (rs ++ (r ∷ []))) [], length-append (joined rs) (r ++ []), length-append r []) in
    λ i. record { at = far i }

behind_all :
    {A : Type 0} (bytes_of : A → List ℕ) → ((x : A) → 1 ≤ length (bytes_of x)) →
    (rs : List (List ℕ)) (xs : List A) → over_all (behind rs) (map bytes_of xs) ≡ behind (rs ++ map bytes_of xs)
unfolding over_all
behind_all bytes_of any rs [] = rw append-nil
behind_all bytes_of any rs (x ∷ xs) =
    ap (λ (p : Place). over_all p (map bytes_of xs)) (sym (behind_more rs (bytes_of x) (any x))) ∙
    (behind_all bytes_of any (rs ++ (bytes_of x ∷ [])) xs ∙ ap behind (append_snoc rs (bytes_of x) (map bytes_of xs)))

-- A list with a fault is refused for it, where the reader of one record refuses for what is wrong with the record, and reads what is not.
module _
    {A : Type 0} (id_of : A → ℕ) (bytes_of : A → List ℕ) (InRange : A → Type 0) (kinds : List (ℕ × ℕ)) (end : ℕ) (s : List ℕ)
    (entry_at : Place → ℕ → Parsed A) (any : (x : A) → 1 ≤ length (bytes_of x))
    (is_unread : (p : Place) (n : ℕ) (rest : List ℕ) (f : Refusal) → Unread kinds p rest f → drop p.at s ≡ rest → entry_at p n ≡ bad f)
    (is_many : (p : Place) (n : ℕ) (x : A) (more : List ℕ) → drop p.at s ≡ bytes_of x ++ more → most_jobs ≤ n → entry_at p n ≡ bad (Many p))
    (is_range :
    (p : Place) (n : ℕ) (x : A) (more : List ℕ) → drop p.at s ≡ bytes_of x ++ more → n < most_jobs → ¬ InRange x → entry_at p n ≡ bad (Range p))
    (is_one :
    (p : Place) (n : ℕ) (x : A) (more : List ℕ) → drop p.at s ≡ bytes_of x ++ more → n < most_jobs → InRange x → entry_at p n ≡ one x (over p (bytes_of x)))
    (is_end : (p : Place) (n : ℕ) (more : List ℕ) → drop p.at s ≡ end ∷ more → entry_at p n ≡ last (past p 0)) where
  faulty_refused :
      (xs : List A) (rs : List (List ℕ)) {rest : List ℕ} {f : Refusal} → length xs ≤ most_jobs → Faulty id_of bytes_of InRange kinds end xs rs rest f →
      drop (behind rs).at s ≡ rest → read_on id_of s entry_at bytes_of xs (behind rs) ≡ refused f
  faulty_refused xs rs {rest} {f} few (unread u) e =
      list_step id_of entry_at (length s) xs (behind rs) few ∙ rw (is_unread (behind rs) (length xs) rest f u e)
  faulty_refused xs rs few (many x more h) e =
      list_step id_of entry_at (length s) xs (behind rs) few ∙ rw (is_many (behind rs) (length xs) x more e (omega arith))
  faulty_refused xs rs few (range x more h out) e =
      list_step id_of entry_at (length s) xs (behind rs) few ∙ rw (is_range (behind rs) (length xs) x more e h out)
  faulty_refused xs rs few (twice x more h ok m) e =
      list_step id_of entry_at (length s) xs (behind rs) few ∙
      rw (is_one (behind rs) (length xs) x more e h ok, used_member (map id_of xs) (id_of x) m)
  faulty_refused xs rs few (after {b} {more}) e =
      let p = behind rs in
      let size = long s p _ e in
      list_step id_of entry_at (length s) xs p few ∙
      rw (is_end p (length xs) (b ∷ more) e, lt-leb (length s) (past p 0).at (omega arith))
      (ap (λ (q : Place). refused (After q)) (sym (behind_more rs (end ∷ []) (omega arith))))

  pub fault_refused :
      {first : List (List ℕ)} {u : List ℕ} {f : Refusal} → ListFault id_of bytes_of InRange kinds end first u f → u ≡ s →
      list_from id_of entry_at (length s) (suc most_jobs) [] (behind first) ≡ refused f
  fault_refused {first} (fault xs rest good y) e =
      let rs = first ++ map bytes_of xs in
      let parts : s ≡ joined first ++ (flat_map bytes_of xs ++ rest) =
      sym e ∙ rw (joined_map bytes_of first xs) (append_assoc (joined first) (flat_map bytes_of xs) rest) in
      let begun : drop (behind first).at s ≡ flat_map bytes_of xs ++ rest =
      ap (drop (length (joined first))) parts ∙ drop_at (joined first) (flat_map bytes_of xs ++ rest) _ refl in
      let there : drop (behind rs).at s ≡ rest = ap (drop (length (joined rs))) (sym e) ∙ drop_at (joined rs) rest _ refl in
      good_read id_of s entry_at bytes_of InRange any is_one xs [] (behind first) rest (omega (arith, good.few)) good.distinct good.each begun ∙
      rw (behind_all bytes_of any first xs) (faulty_refused xs rs good.few y there)

-- What is so of some answer, and of no other than r, is so of r alone; so it is so of exactly one.
module _ {T : Type 0} (Is : T → Type 0) (r : T) (there : (o : T) × Is o) (only : (o : T) → Is o → r ≡ o) where
  pub exactly : (o : T) → (r ≡ o) ↔ Is o
  exactly o = ((λ e. subst Is (sym (only there.0 there.1) ∙ e) there.1), only o)

  pub exactly_one : (o : T) × Is o × ((p : T) → Is p → o ≡ p)
  exactly_one = (there.0, there.1, (λ p is. sym (only there.0 there.1) ∙ only p is))
