-- What a call leaves of a record, over the functions' own contracts: "No refusal .. alters the frame's record"; "every record reached by calls from
-- idle is sound, and an unsound one answers PHASE to every call and stays as found". And that each function for one call is that call. Assumes nothing.
use Rattle.std.specs.Prelude.{Result}
use Prim.Native.Nat.{◌≤◌}
use mathlib.Core.Path.{◌≡◌, refl, sym, ap, ◌∙◌, subst}
use mathlib.Core.Logic.{◌↔◌}
use mathlib.Core.Bool.{Bool, true, false}
use mathlib.Core.List.{List, [], ◌∷◌}
use lib.ListN.{get_or}
use Rattle.records.specs.declared.refusal.Refusal.{Refusal}
use Rattle.frame_record.specs.Sound.{sound?}
use Rattle.frame_record.specs.Listed.{SoundFrame}
use Rattle.frame_record.specs.Answers.{answer_says, says}
use Rattle.frame_calls.specs.Calls.{asked}
use Rattle.frame_promises.specs.Call.{Call, begin, event, called_of}
use Rattle.frame_record.specs.declared.Answer.{Answer}
use Rattle.frame_record.specs.declared.Event.{Event}
use Rattle.frame_record.specs.declared.Event.TheVariants as E
use Rattle.frame_record.specs.declared.Frame.{Frame}
use Rattle.frame_record.specs.declared.Called.{Called}
use Rattle.frame_promises.proofs.Reached.{Fine, call_fine, idle_fine}
use Rattle.frame_promises.proofs.Refused.{number_leaves, unsound_twelve}
use Rattle.frame_record.proofs.Sound.{sound_iff}
use Rattle.frame_promises.specs.History.{Turn}
use Rattle.frame_promises.specs.Runs.{Starts, Allows, Reaches, SoundAllows, AskAllows, CallAllows}
use Rattle.frame_promises.specs.Lent.{LentAllows}

module _ (f : Frame) where
  is_step : (c : Call) (s : Called) → Allows f c s → s ≡ called_of c f
  is_step (begin table plan n) s e = e
  is_step (event x) s e = e

  -- whatever is answered by a number above 0 leaves the record as it was, whatever the record
  pub refused_left : (c : Call) (s : Called) → Allows f c s → 1 ≤ get_or (answer_says s.answer).numbers 0 0 → s.frame ≡ f
  refused_left c s allows h =
      let same = is_step c s allows in
      ap (λ (x : Called). x.frame) same ∙ number_leaves f c (rw same at h)

  unsound : (b : Bool) → sound? f ≡ b → ¬ (SoundFrame f) → sound? f ≡ false
  unsound true e not = absurd (not ((sound_iff f).0 e))
  unsound false e not = e

  -- a record that is not as docs/FRAME-RECORD.md lists answers 12 to every call and stays as found
  pub unsound_left : ¬ (SoundFrame f) → (c : Call) (s : Called) → Allows f c s → (answer_says s.answer ≡ says (12 ∷ [])) × (s.frame ≡ f)
  unsound_left not c s allows =
      let same = is_step c s allows in
      let r = unsound_twelve f (unsound (sound? f) refl not) c in
      (ap (λ (x : Called). answer_says x.answer) same ∙ r.0, ap (λ (x : Called). x.frame) same ∙ r.1)

-- `Frame::sound` says yes exactly of a record that is as docs/FRAME-RECORD.md lists
pub sound_says : (f : Frame) (r : Bool) → SoundAllows f r → (r ≡ true) ↔ SoundFrame f
sound_says f r allows = ((λ e. (sound_iff f).0 (sym allows ∙ e)), (λ h. allows ∙ (sound_iff f).1 h))

-- every record that turns from idle come to is sound
reaches_fine : (ts : List Turn) (f g : Frame) → Fine f → Reaches f ts g → Fine g
reaches_fine [] f g fine e = subst Fine e fine
reaches_fine (t ∷ ts) f g fine (s, allows, said, r) =
    reaches_fine ts s.frame g (subst (λ (x : Called). Fine x.frame) (sym (is_step f t.call s allows)) (call_fine f fine t.call)) r

pub runs_sound : (f : Frame) → Starts f → (ts : List Turn) (g : Frame) → Reaches f ts g → SoundFrame g
runs_sound f starts ts g r = (sound_iff g).0 (reaches_fine ts f g (subst Fine (sym starts) idle_fine) r).sound

-- a lent record is left so too
pub lent_left : (f : Frame) (c : Call) (s : Called) → LentAllows f c s → 1 ≤ get_or (answer_says s.answer).numbers 0 0 → s.frame ≡ f
lent_left f (begin table plan n) s allows = refused_left f (begin table plan n) s allows
lent_left f (event e) s allows = refused_left f (event e) s allows

-- the functions for single calls answer what `frame_calls::step` answers to that event, and leave the record that it leaves
pub ask_is_step : (f : Frame) (e : Event) (r : Result Answer Refusal) → AskAllows f e r → Allows f (event e) (record { answer = r; frame = f })
ask_is_step f E.Next r allows = ap (asked f) allows
ask_is_step f (E.Read id) r allows = ap (asked f) allows
ask_is_step f (E.SpanEnd id t v) r allows = absurd allows
ask_is_step f (E.Return n id t v) r allows = absurd allows
ask_is_step f (E.Close t) r allows = absurd allows

pub call_is_step : (f : Frame) (e : Event) (s : Called) → CallAllows f e s → Allows f (event e) s
call_is_step f E.Next s allows = absurd allows
call_is_step f (E.Read id) s allows = absurd allows
call_is_step f (E.SpanEnd id t v) s allows = allows
call_is_step f (E.Return n id t v) s allows = allows
call_is_step f (E.Close t) s allows = allows
