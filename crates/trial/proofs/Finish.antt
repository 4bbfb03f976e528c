-- The least of a function over numbers in a row, and so the least last finish over all orders, as each of them has a number.
-- Assumes nothing.
use Rattle.std.specs.Prelude.{◌≡◌, ◌⊎◌, List, ℕ, zero, suc, ◌+◌, ◌<◌, ◌≤◌, length, map, min}
use Rattle.std.specs.Prelude.{Bool, true, false, ◌&&◌, eqb, Option, None, Some}
use Rattle.std.specs.List.{fold, range_with_len, reduce}
use Rattle.std.specs.Option.{unwrap_or}
use Rattle.std.proofs.Common.{arith, refl, subst, sym, ap, ◌∙◌, inl, inr, eq-or-lt_of_le, eq-zero-or-pos, eqb-true, eq-eqb, true≢false}
use Rattle.std.specs.List.Sorted.{IsPermutation}
use Rattle.std.proofs.lemmas.List.Sorted.{length_permutation, sum_by-IsPermutation}
use Rattle.std.proofs.lemmas.Bool.{cases_lt}
use Rattle.trial.specs.declared.steps.Step.{Step}
use Rattle.trial.specs.Orders.{arranged, arranged_from}
use Rattle.trial.proofs.Orders.{orders_of, arranged_permutation, reached}
use Rattle.trial.specs.Finish.{finish_from, IsLeastFinish}

-- ---- the least: m is that of s and of what f gives for the n numbers from the start on
record Least (f : ℕ → ℕ) (s start n m : ℕ) : Type 0 where
  within : m ≤ s
  least : (k : ℕ) → start ≤ k → k < start + n → m ≤ f k
  met : (m ≡ s) ⊎ ((k : ℕ) × (start ≤ k) × (k < start + n) × (m ≡ f k))

least_more : (f : ℕ → ℕ) (s start n m : ℕ) → Least f (min s (f start)) (start + 1) n m → Least f s start (suc n) m
least_more f s start n m h =
    record {
      within = let w = h.within in omega arith;
      least = λ k from to. elim (first k from) as (λ _. m ≤ f k) [
        | inl e ↦ (let w = h.within in let at : f start ≡ f k = ap f e in omega arith)
        | inr later ↦ h.least k later (omega arith)
      ];
      met = elim (h.met) [
        | inl e ↦ (elim (either s (f start)) [
          | inl l ↦ inl (e ∙ l)
          | inr r ↦ inr (start, omega arith, omega arith, e ∙ r)
        ])
        | inr w ↦ inr (w.0, omega (arith, w.1), omega (arith, w.2), w.3)
      ];
    }
  where
    first : (k : ℕ) → start ≤ k → (start ≡ k) ⊎ (start + 1 ≤ k)
    first k h = elim (eq-or-lt_of_le h) [ inl e ↦ inl e | inr l ↦ inr (omega arith) ]

    either : (a b : ℕ) → (min a b ≡ a) ⊎ (min a b ≡ b)
    either a b = elim (cases_lt a b) [ inl l ↦ inl (omega arith) | inr l ↦ inr (omega arith) ]

least_fold : (f : ℕ → ℕ) (s start n : ℕ) → Least f s start n (fold min s (map f (range_with_len start n)))
least_fold f s start zero = record { within = omega arith; least = λ k from to. absurd (omega arith); met = inl refl }
least_fold f s start (suc n) = least_more f s start n _ (least_fold f (min s (f start)) (start + 1) n)

-- ---- whether two steps are the same, which the numbers of the orders ask for

same_back : Option ℕ → Option ℕ → Bool
same_back None None = true
same_back None (Some b) = false
same_back (Some a) None = false
same_back (Some a) (Some b) = eqb a b

same : Step → Step → Bool
same s t = eqb s.place t.place && (eqb s.id t.id && (eqb s.span t.span && same_back s.back t.back))

itself_back : (a : Option ℕ) → same_back a a ≡ true
unfolding same_back
itself_back None = refl
itself_back (Some a) = eq-eqb a a refl

itself : (s : Step) → same s s ≡ true
unfolding same
itself s = rw (eq-eqb s.place s.place refl, eq-eqb s.id s.id refl, eq-eqb s.span s.span refl, itself_back s.back) refl

both : (a b : Bool) → (a && b) ≡ true → (a ≡ true) × (b ≡ true)
both true b h = (refl, h)
both false b h = (h, absurd (true≢false (sym h)))

told_back : (a b : Option ℕ) → same_back a b ≡ true → a ≡ b
unfolding same_back
told_back None None h = refl
told_back None (Some b) h = absurd (true≢false (sym h))
told_back (Some a) None h = absurd (true≢false (sym h))
told_back (Some a) (Some b) h = ap Some (eqb-true a b h)

alike :
    (p q i j m n : ℕ) (a b : Option ℕ) → p ≡ q → i ≡ j → m ≡ n → a ≡ b →
    ◌≡◌ {A = Step} (record { place = p; id = i; span = m; back = a }) (record { place = q; id = j; span = n; back = b })
alike p q i j m n a b d e f g = cc

told : (s t : Step) → same s t ≡ true → s ≡ t
unfolding same
told s t h =
    let p = both (eqb s.place t.place) _ h in
    let i = both (eqb s.id t.id) _ p.1 in
    let c = both (eqb s.span t.span) _ i.1 in
    alike s.place t.place s.id t.id s.span t.span s.back t.back (eqb-true _ _ p.0) (eqb-true _ _ i.0) (eqb-true _ _ c.0) (told_back _ _ c.1)

-- ---- the least over all orders, by their numbers, of which there is one at least

least_from_first :
    (steps : List Step) (n m : ℕ) → suc n ≡ orders_of (length steps) →
    Least (λ number. finish_from 0 (arranged steps number)) (finish_from 0 (arranged steps 0)) 1 n m → IsLeastFinish steps m
least_from_first steps n m many h =
    record {
      least = λ other p. by_number other p (numbered other p);
      met = elim (h.met) [
        | inl e ↦ (arranged steps 0, arranged_permutation 0 (length steps) 0 steps (omega arith), e)
        | inr w ↦ (arranged steps w.0, arranged_permutation 0 (length steps) w.0 steps (omega arith), w.3)
      ];
    }
  where
    f : ℕ → ℕ
    f = λ number. finish_from 0 (arranged steps number)

    at : (number : ℕ) → number < suc n → m ≤ f number
    at number to = elim (eq-zero-or-pos number) [
      | inl e ↦ (let w = h.within in let first : f number ≡ f 0 = ap f e in omega arith)
      | inr later ↦ h.least number later (omega arith)
    ]

    numbered :
        (other : List Step) → IsPermutation steps other →
        (number : ℕ) × (number < orders_of (length other)) × (arranged_from 0 (length other) steps number ≡ other)
    numbered other p = reached same itself told other steps (sym (length_permutation _ _ p)) (λ f. sum_by-IsPermutation f _ _ p)

    by_number :
        (other : List Step) → IsPermutation steps other →
        (number : ℕ) × (number < orders_of (length other)) × (arranged_from 0 (length other) steps number ≡ other) → m ≤ finish_from 0 other
    by_number other p w =
        let long : length other ≡ length steps = length_permutation _ _ p in
        let below : w.0 < suc n = rw (many, ← long) (w.1) in
        let is : arranged steps w.0 ≡ other = rw (← long) (w.2) in
        subst (λ xs. m ≤ finish_from 0 xs) is (at w.0 below)

pub least_finish :
    (steps : List Step) (n : ℕ) (r : Option ℕ) → n ≡ orders_of (length steps) → 0 < n →
    r ≡ reduce min (map (λ number. finish_from 0 (arranged steps number)) (range_with_len 0 n)) → IsLeastFinish steps (unwrap_or r 4294967295)
least_finish steps zero r many some e = absurd (omega (arith, some))
least_finish steps (suc n) r many some e =
    subst (λ (o : Option ℕ). IsLeastFinish steps (unwrap_or o 4294967295)) (sym e)
    (least_from_first steps n _ many (least_fold (λ number. finish_from 0 (arranged steps number)) _ 1 n))
