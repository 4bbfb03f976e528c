-- What a weakened contract would come to: it does not settle. Shown of a check that may give a second answer, and of a call on a lent record that
-- does not say which record is left. Functions.antt goes by the contracts' own text, so such an `ensures` would fail there. Assumes nothing.
use Rattle.std.specs.Prelude.{Err}
use mathlib.Core.Path.{◌≡◌, refl, ap}
use mathlib.Core.Logic.{◌⊎◌, inl, inr}
use mathlib.Core.List.{[]}
use Prim.Native.Nat.{ℕ}
use native.Mathlib.Omega.{arith}
use denote.Triple.Clauses.{Lasts, at_exit}
use Rattle.model.proofs.Lists.{clash}
use Rattle.records.specs.Records.{judged}
use Rattle.table.specs.Tables.{read_table, frame_at}
use Rattle.records.specs.declared.refusal.Refusal.TheVariants.{Late, Phase}
use Rattle.judge.specs.Check.{check_plan}
use Rattle.judge.proofs as judge
use Rattle.judge.specs.contracts as judge_contracts
use Rattle.faults.specs.Allows.{Tells, to, to_mut}
use Rattle.frame_record.specs.declared.Frame.{Frame}
use Rattle.frame_record.specs.declared.Event.TheVariants.{Next}
use Rattle.frame_record.specs.Sound.{sound?, open?}
use Rattle.frame_record.specs.Answers.{idle}
use Rattle.frame_calls.specs.Calls.{next_of}
use Rattle.frame_lent.specs.contracts as frame_lent_contracts
use Rattle.settled.specs.Settled.{Settles}
use Rattle.frame_promises.specs.Lent.{CallIn}

-- the check, with LATE allowed for all
abbrev OrLate : Tells judge_contracts.check_plan.ended
OrLate κs i r e = judge.check_plan.Reads.Learnt κs i r e ⊎ (r ≡ Err Late)

pub second_answer : ¬ (Settles judge_contracts.check_plan.ended OrLate)
unfolding check_plan read_table frame_at judged
second_answer settles =
    let both = settles ([], ([], tt)) (to [], (to [], tt)) (check_plan [] []) (Err Late) (tt, (tt, tt)) (tt, (tt, tt)) (inl refl) (inr refl) in
    clash (cc both.0)

-- a call whose answer is right for some record afterwards, whatever record is left
abbrev Silent : Tells frame_lent_contracts.call_in.ended
Silent κs i r e = (m : Lasts frame_lent_contracts.call_in.ended κs i) × CallIn κs i r (at_exit frame_lent_contracts.call_in.ended κs i m)

abbrev other : Frame
other = record {
  phase = idle.phase;
  number = 1;
  clock = 0;
  deadline = 0;
  count = 0;
  next = 0;
  order = idle.order;
  entries = idle.entries;
}

pub silent_record : ¬ (Settles frame_lent_contracts.call_in.ended Silent)
unfolding next_of open? sound?
silent_record settles =
    let both =
    settles ([], tt) (to_mut idle, (Next, tt)) (Err Phase) (Err Phase) (idle, (tt, tt)) (other, (tt, tt))
    ((idle, (tt, tt)), refl) ((idle, (tt, tt)), refl) in
    let z : ◌≡◌ {A = ℕ} 0 1 = ap (λ (m : Lasts frame_lent_contracts.call_in.ended ([], tt) (to_mut idle, (Next, tt))). m.0.number) both.1 in
    omega arith
