-- The turns over a log: how far one goes, and what those that may still come lead to and are handed out. Assumes nothing.
use Rattle.std.specs.Prelude.{Option, None, Some}
use Prim.Native.Nat.{ℕ, zero, suc, ◌+◌, ◌<◌, ◌≤◌}
use native.Mathlib.Omega.{arith}
use mathlib.Core.Path.{◌≡◌, refl}
use mathlib.Core.List.{List, [], ◌++◌}
use lib.ListN.{length, drop}
use borrow.Author.Tests.{eq-eqb, ne_eqb}
use Rattle.frame_record.specs.declared.Frame.{Frame}
use Rattle.frame_log.specs.declared.Whole.{Whole}
use Rattle.frame_log.specs.Log.{record_at}
use Rattle.frame_log.proofs.Records.{whole_is}
use Rattle.replaying.specs.Turns.{frame_after, gone_by, frame_from}
use Rattle.replaying.specs.Lines.{line_of, text_from}

-- a turn goes on by at least one byte, and not past the end
pub gone_some : (s : List ℕ) → 0 < length s → 0 < gone_by s (record_at s)
gone_some s h = step (record_at s) refl
  where
    step : (r : Option Whole) → record_at s ≡ r → 0 < gone_by s r
    step (Some w) e = (whole_is s w e).some
    step None e = h

pub gone_within : (s : List ℕ) → gone_by s (record_at s) ≤ length s
gone_within s = step (record_at s) refl
  where
    step : (r : Option Whole) → record_at s ≡ r → gone_by s r ≤ length s
    step (Some w) e = (whole_is s w e).within
    step None e = omega arith

-- ---- the turns that may still come, of which there are none where nothing is left

pub nothing : (m : ℕ) (f : Frame) (s : List ℕ) → length s ≡ 0 → frame_from m f s ≡ f
unfolding frame_from
nothing zero f s e = refl
nothing (suc m) f s e = simp (eq-eqb _ _ e)

pub unrolled :
    (m : ℕ) (f : Frame) (s : List ℕ) → (length s ≡ 0 → ⊥) →
    frame_from (suc m) f s ≡ frame_from m (frame_after f s (record_at s)) (drop (gone_by s (record_at s)) s)
unfolding frame_from
unrolled m f s h = simp (ne_eqb _ _ h)

pub no_text : (m : ℕ) (f : Frame) (at : ℕ) (s : List ℕ) → length s ≡ 0 → text_from m f at s ≡ []
unfolding text_from
no_text zero f at s e = refl
no_text (suc m) f at s e = simp (eq-eqb _ _ e)

-- a turn's line, and the text of the turns after it
pub more_text :
    (m : ℕ) (f : Frame) (at : ℕ) (s : List ℕ) → (length s ≡ 0 → ⊥) →
    text_from (suc m) f at s ≡
    line_of f at s (record_at s) ++ text_from m (frame_after f s (record_at s)) (at + gone_by s (record_at s)) (drop (gone_by s (record_at s)) s)
unfolding text_from
more_text m f at s h = simp (ne_eqb _ _ h)
