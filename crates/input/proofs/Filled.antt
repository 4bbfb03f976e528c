-- One read more, put into the rest of an area: what stands at its front is what was taken from the input. Assumes nothing.
use Rattle.std.proofs.Common.{◌≡◌, ℕ, ◌+◌, ◌≤◌, List, ◌++◌, Option, length, take, drop, sym, ap, ◌∙◌, subst, le_refl, drop_at, length-take-le}
use Rattle.std.proofs.lemmas.Slice.{take-put_mid_below}
use Rattle.std.specs.Io.KnownBytes.{Consumes}
use Rattle.std.proofs.KnownBytes.{Consumes-trans}
use borrow.Rule.Slice.PartMut.{put_mid, post_of}
use lib.Seq.{take-add, take-append-le}

-- the first n bytes, and behind them the first m of what was put there
front : (n m room : ℕ) (area part : List ℕ) → n ≤ length area → m ≤ length part → take n area ++ take m part ≡ take (n + m) (put_mid n room area part)
front n m room area part within fits =
    let first = take-put_mid_below n room area part n (le_refl n) within in
    let behind = ap (take m) (drop_at (take n area) (part ++ post_of n room area) n (length-take-le n area within))
    ∙ take-append-le m part (post_of n room area) fits in
    sym (take-add n m (put_mid n room area part) ∙ ap (λ (l : List ℕ). l ++ take m (drop n (put_mid n room area part))) first
    ∙ ap (λ (l : List ℕ). take n area ++ l) behind)

-- the input as it was, before a read that gave m bytes, and behind it
pub filled_more :
    (a b c : Option (List ℕ)) (n room : ℕ) (area part : List ℕ) → n ≤ length area → Consumes a b (take n area) →
    (m : ℕ) → m ≤ length part → Consumes b c (take m part) → Consumes a c (take (n + m) (put_mid n room area part))
filled_more a b c n room area part within so m fits more =
    subst (Consumes a c) (front n m room area part within fits) (Consumes-trans a b c _ _ so more)
