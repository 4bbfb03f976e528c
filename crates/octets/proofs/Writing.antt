-- Laws of what is written: it keeps the area's length, no word leaves the area alone, and one word after another is one word.
-- Assumes nothing.
use Prim.Native.Nat.{ℕ, suc, ◌+◌, ◌≤◌, ◌<◌}
use mathlib.Core.Path.{◌≡◌, sym, ap, ◌∙◌}
use mathlib.Core.List.{List, [], ◌∷◌, ◌++◌, append_assoc}
use lib.ListN.{length, take, drop, set, get_or, length-append, length-drop, length-set, take-append-drop}
use lib.Seq.{length-take-le, take_at, drop_at, drop-drop, take-set-le, set_split, drop-cons}
use native.Mathlib.Numerals.{add-one}
use native.Mathlib.Nat.{add_assoc, add-zero, zero-add}
use native.Mathlib.Omega.{arith}
use Rattle.octets.specs.Writing.{written, Wrote}

pub written_length : (out : List ℕ) (at : ℕ) (w : List ℕ) → at + length w ≤ length out → length (written out at w) ≡ length out
unfolding written
written_length out at w h =
    let front : at ≤ length out = omega arith in
    simp (length-append, length-take-le at out front, length-drop) (omega arith)

pub written_nil : (out : List ℕ) (at : ℕ) → written out at [] ≡ out
unfolding written
written_nil out at = rw add-zero (take-append-drop at out)

-- written at the front: the word, and the rest left
pub written_front : (out w : List ℕ) → written out 0 w ≡ w ++ drop (length w) out
unfolding written
written_front out w = rw zero-add

-- from its place on: the word, and the rest left
pub written_behind : (out : List ℕ) (at : ℕ) (w : List ℕ) → at ≤ length out → drop at (written out at w) ≡ w ++ drop (at + length w) out
unfolding written
written_behind out at w h = drop_at (take at out) (w ++ drop (at + length w) out) at (length-take-le at out h)

-- two words, one after the other
pub written_append : (out : List ℕ) (at : ℕ) (w v : List ℕ) → at ≤ length out → written out at (w ++ v) ≡ written (written out at w) (at + length w) v
unfolding written
written_append out at w v h =
    let n = at + length w in
    let front : length (take at out ++ w) ≡ n = simp (length-append, length-take-le at out h) in
    let split : written out at w ≡ (take at out ++ w) ++ drop n out = sym (append_assoc (take at out) w (drop n out)) in
    let first : take n (written out at w) ≡ take at out ++ w = ap (take n) split ∙ take_at (take at out ++ w) (drop n out) n front in
    let rest : drop n (written out at w) ≡ drop n out = ap (drop n) split ∙ drop_at (take at out ++ w) (drop n out) n front in
    let far : drop (n + length v) (written out at w) ≡ drop (n + length v) out =
    sym (drop-drop (length v) n (written out at w)) ∙ (ap (drop (length v)) rest ∙ drop-drop (length v) n out) in
    rw (first, far) (simp (length-append, append_assoc, add_assoc))

pub set_written : (out : List ℕ) (at b : ℕ) → at < length out → set out at b ≡ written out at (b ∷ [])
unfolding written
set_written out at b h = rw add-one (set_split out at b h)

pub set_two : (out : List ℕ) (at a b : ℕ) → at + 1 < length out → set (set out at a) (at + 1) b ≡ written out at (a ∷ b ∷ [])
set_two out at a b h =
    set_written (set out at a) (at + 1) b (rw length-set h)
    ∙ ap (λ (l : List ℕ). written l (at + 1) (b ∷ [])) (set_written out at a (omega arith))
    ∙ sym (written_append out at (a ∷ []) (b ∷ []) (omega arith))

-- one byte of a word, and what is left of it
pub written_more :
    (out word : List ℕ) (at i : ℕ) → i < length word → at + i < length out →
    written (set out (at + i) (get_or word i 0)) (at + (i + 1)) (drop (i + 1) word) ≡ written out (at + i) (drop i word)
written_more out word at i h room =
    let e : drop i word ≡ (get_or word i 0 ∷ []) ++ drop (i + 1) word = rw add-one (drop-cons word i 0 h) in
    rw (e, set_written out (at + i) (get_or word i 0) room, ← add_assoc at i 1)
    (sym (written_append out (at + i) (get_or word i 0 ∷ []) (drop (i + 1) word) (omega arith)))

-- a byte first, and the word in front of it then
pub written_last :
    (out w : List ℕ) (at b : ℕ) → at + length w < length out → written (set out (at + length w) b) at w ≡ written out at (w ++ (b ∷ []))
unfolding written
written_last out w at b h =
    let n = at + length w in
    let front : take at (set out n b) ≡ take at out = take-set-le at out n b (omega arith) in
    let back : drop n (set out n b) ≡ b ∷ drop (n + 1) out =
    ap (drop n) (set_split out n b h) ∙ (drop_at (take n out) (b ∷ drop (suc n) out) n (length-take-le n out (omega arith)) ∙ rw add-one) in
    rw (front, back) (simp (length-append, append_assoc, add_assoc))

-- one word, and then another
pub then :
    (out : List ℕ) (at : ℕ) (w v : List ℕ) {mid end : List ℕ} {p q : ℕ} → at ≤ length out →
    Wrote out at w mid p → Wrote mid p v end q → Wrote out at (w ++ v) end q
then out at w v h a b =
    record {
      place = simp length-append (omega (arith, a.place, b.place));
      area = rw (b.area, a.area, a.place) (sym (written_append out at w v h));
    }

-- what is written in an area that keeps its length ends within it
pub ends_within :
    (before : List ℕ) (at : ℕ) (w after : List ℕ) (end : ℕ) → at ≤ length before → Wrote before at w after end → length after ≡ length before →
    end ≤ length before
unfolding written
ends_within before at w after end h wrote same =
    let sizes = simp (length-append, length-take-le at before h) at (ap length wrote.area) in
    omega (arith, wrote.place, sizes)

-- two words, where there is room for both: room for the first, then for the second, and both stand one after the other
module _ (out : List ℕ) (at : ℕ) (w v : List ℕ) (room : at + length (w ++ v) ≤ length out) where
  pub room_first : at + length w ≤ length out
  room_first = omega (arith, length-append w v)

  pub room_next : {mid : List ℕ} {p : ℕ} → Wrote out at w mid p → p + length v ≤ length mid
  room_next {mid} {p} a =
      let size : length mid ≡ length out = rw a.area (written_length out at w room_first) in
      omega (arith, a.place, length-append w v)

  pub both : {mid end : List ℕ} {p q : ℕ} → Wrote out at w mid p → Wrote mid p v end q → Wrote out at (w ++ v) end q
  both = then out at w v (omega (arith, room_first))
