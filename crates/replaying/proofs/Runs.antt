-- What the turns hand out is the text of the log: whatever `next_line`'s own contract allows, turn after turn from idle until the log's end, the lines at
-- the front of the lent areas, one after the other, are `replay_text`, and the frame's record is `replayed`. Assumes nothing.
use Prim.Native.Nat.{ℕ, zero, suc, ◌+◌, ◌-◌, ◌<◌, ◌≤◌}
use native.Mathlib.Omega.{arith}
use mathlib.Core.Path.{◌≡◌, sym, ap, ◌∙◌}
use mathlib.Core.List.{List, [], ◌++◌}
use lib.ListN.{length, take, drop, length-drop}
use lib.Seq.{take_all, drop-drop}
use Rattle.std.specs.Borrow.{Bor, MutBor}
use Rattle.frame_record.specs.declared.Frame.{Frame}
use Rattle.frame_record.specs.Answers.{idle}
use Rattle.replaying.specs.declared.Turn.{Turn}
use Rattle.frame_log.specs.Log.{record_at}
use Rattle.replaying.specs.Turns.{frame_after, gone_by, frame_from, replayed}
use Rattle.replaying.specs.Lines.{line_of, text_from, replay_text, TurnAt}
use Rattle.replaying.proofs.Turns.{gone_some, nothing, unrolled, no_text, more_text}
use Rattle.replaying.proofs.Handed.{handed}
use Rattle.replaying.proofs.next_line.Reads as next_line

-- a reference to this, `&` and `&mut`; where it lies, and for how long, no contract speaks of
abbrev to : {A : Type 0} → A → Bor A
to x = record { ref_ptr = (0, 0); now = x }

abbrev to_mut : {A : Type 0} → A → MutBor A
to_mut x = record { ref_ptr = (0, 0); ghost_name = 0; now = x }

-- what is left of the log at a place
abbrev pub rest : List ℕ → ℕ → List ℕ
rest log at = take (length log - at) (drop at log)

rest_all : (log : List ℕ) (at : ℕ) → rest log at ≡ drop at log
rest_all log at = take_all (length log - at) (drop at log) (omega (arith, length-drop at log))

-- what the contract allows at a place of the log
abbrev pub Allows : Frame → ℕ → List ℕ → List ℕ → Turn → List ℕ → Type 0
Allows f at s before r area = next_line.Learnt ([], ([], tt)) (f, (at, (to s, (to_mut before, tt)))) r (f, (at, (to s, (to_mut area, tt))))

-- turns up to the log's end, with the text that they hand out and the frame's record that they end with
pub data Run (log : List ℕ) : Frame → ℕ → List ℕ → Frame → Type 0 where
  over : {f : Frame} {at : ℕ} → length log ≤ at → Run log f at [] f
  line :
      {f g : Frame} {at : ℕ} {text : List ℕ} (before : List ℕ) (r : Turn) (area : List ℕ) → at < length log → Allows f at (rest log at) before r area →
      Run log r.frame (at + r.gone) text g → Run log f at (take r.size area ++ text) g

module _ (log : List ℕ) where
  walk :
      (m : ℕ) {f g : Frame} {at : ℕ} {text : List ℕ} → length log ≤ at + m → Run log f at text g →
      (text ≡ text_from m f at (drop at log)) × (g ≡ frame_from m f (drop at log))
  walk m {f} {g} {at} enough (over end) =
      let none : length (drop at log) ≡ 0 = omega (arith, length-drop at log) in
      (sym (no_text m f at (drop at log) none), sym (nothing m f (drop at log) none))
  walk zero enough (line before r area here allowed later) = absurd (omega arith)
  walk (suc m) {f} {g} {at} enough (line {text = text} before r area here allowed later) =
      let s = drop at log in
      let t : TurnAt f at s before r area = rw (rest_all log at) at allowed in
      let far : 0 < gone_by s (record_at s) = gone_some s (omega (arith, length-drop at log)) in
      let w = walk m (omega (arith, t.gone, far)) later in
      let left : length s ≡ 0 → ⊥ = λ e. omega (arith, e, length-drop at log) in
      let on : drop (at + r.gone) log ≡ drop (gone_by s (record_at s)) s = rw t.gone (sym (drop-drop (gone_by s (record_at s)) at log)) in
      let lines : text ≡ text_from m (frame_after f s (record_at s)) (at + gone_by s (record_at s)) (drop (gone_by s (record_at s)) s) =
      rw (on, t.frame, t.gone) at w.0 in
      let frame : g ≡ frame_from m (frame_after f s (record_at s)) (drop (gone_by s (record_at s)) s) = rw (on, t.frame) at w.1 in (
        ap (λ (l : List ℕ). l ++ text) (handed before (line_of f at s (record_at s)) area r.size t.line)
            ∙ ap (λ (l : List ℕ). line_of f at s (record_at s) ++ l) lines ∙ sym (more_text m f at s left),
        frame ∙ sym (unrolled m f s left),
      )

-- all the turns of a log, from idle
pub run_text : (log text : List ℕ) (g : Frame) → Run log idle 0 text g → (text ≡ replay_text log) × (g ≡ replayed log)
unfolding replay_text replayed
run_text log text g run = walk log (length log) (omega arith) run
