-- Document 01: "No refusal .. alters the frame's record", and an unsound record "answers PHASE to every call and stays as found". Of every
-- call and every record. Assumes nothing.
use Rattle.std.specs.Prelude.{Result, Ok, Err}
use Prim.Native.Nat.{◌≤◌}
use native.Mathlib.Omega.{arith}
use mathlib.Core.Path.{◌≡◌, refl, ap}
use mathlib.Core.Bool.{false}
use mathlib.Core.List.{[], ◌∷◌}
use lib.ListN.{get_or}
use Rattle.model.proofs.Lists.{clash}
use Rattle.records.specs.declared.refusal.Refusal.{Refusal}
use Rattle.records.specs.declared.refusal.Refusal.TheVariants as R
use Rattle.frame_record.specs.Sound.{sound?, open?, begun?, ready?}
use Rattle.frame_record.specs.Answers.{says, answer_says, refused, done}
use Rattle.frame_reports.specs.Reports.{span_step, back_step}
use Rattle.frame_calls.specs.Calls.{close_step, next_of, read_of, event_step}
use Rattle.frame_begin.specs.Begin.{begin_step}
use Rattle.frame_promises.specs.Call.{Call, begin, event, called_of}
use Rattle.frame_record.specs.declared.Frame.{Frame}
use Rattle.frame_record.specs.declared.Answer.{Answer}
use Rattle.frame_record.specs.declared.Event.{Event}
use Rattle.frame_record.specs.declared.Event.TheVariants as E
use Rattle.frame_record.specs.declared.Called.{Called}
use Rattle.frame_promises.proofs.Cases.{every_call}
use Rattle.frame_record.proofs.Says.{zero_accepted}

module _ (f : Frame) where
  abbrev Leaves : Called → Type 0
  Leaves s = (r : Refusal) → s.answer ≡ Err r → s.frame ≡ f

  does : (g : Frame) → Leaves (done g)
  does g r e = clash (cc)

  -- a refused call leaves the record as it was
  pub refused_leaves : (c : Call) → Leaves (called_of c f)
  refused_leaves = every_call f Leaves (record {
    refuses = λ q r e. refl;
    asks = λ a r e. refl;
    goes_out = λ o h away t. does _;
    has_value = λ o h t v num. does _;
    comes_back = λ o i h out t v num. does _;
    closes = λ o t. does _;
    begins = λ n t xs p. does _;
  })

  module _ (c : Call) where
    leaves : (a : Result Answer Refusal) → (called_of c f).answer ≡ a → 1 ≤ get_or (answer_says a).numbers 0 0 → (called_of c f).frame ≡ f
    leaves (Ok a) e h = absurd (omega (arith, zero_accepted a))
    leaves (Err r) e h = refused_leaves c r e

    -- and so one that is answered by a number above 0
    pub number_leaves : 1 ≤ get_or (answer_says (called_of c f).answer).numbers 0 0 → (called_of c f).frame ≡ f
    number_leaves h = leaves (called_of c f).answer refl h

-- an unsound record answers PHASE to every call and stays as found
module _ (f : Frame) (unsound : sound? f ≡ false) where
  not_open : open? f ≡ false
  unfolding open?
  not_open = rw unsound

  not_begun : begun? f ≡ false
  unfolding begun?
  not_begun = rw unsound

  not_ready : ready? f ≡ false
  unfolding ready?
  not_ready = rw unsound

  unsound_event : (e : Event) → event_step f e ≡ refused R.Phase f
  unfolding next_of span_step back_step close_step read_of
  unsound_event E.Next = rw not_open
  unsound_event (E.SpanEnd id t v) = rw not_open
  unsound_event (E.Return n id t v) = rw not_open
  unsound_event (E.Close t) = rw not_open
  unsound_event (E.Read id) = rw not_begun

  pub unsound_phase : (c : Call) → called_of c f ≡ refused R.Phase f
  unfolding begin_step
  unsound_phase (begin table plan n) = rw not_ready
  unsound_phase (event e) = unsound_event e

  pub unsound_twelve : (c : Call) → (answer_says (called_of c f).answer ≡ says (12 ∷ [])) × ((called_of c f).frame ≡ f)
  unsound_twelve c =
      let same = unsound_phase c in
      (ap (λ (s : Called). answer_says s.answer) same, ap (λ (s : Called). s.frame) same)
