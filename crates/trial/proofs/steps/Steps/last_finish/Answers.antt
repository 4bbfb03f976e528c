-- `trial::steps::Steps::last_finish` meets its contract: one more step is laid. Assumes nothing.
use Rattle.std.specs.Prelude.{◌≡◌, List, ℕ, suc, ◌+◌, ◌<◌, ◌≤◌, drop, get_or, length, max, take}
use Rattle.std.specs.Option.{unwrap_or}
use Rattle.std.proofs.Common.{arith, sym, ◌∙◌}
use Rattle.std.proofs.Math.Seq.{drop-cons}
use Rattle.std.proofs.lemmas.List.{drop_all}
use Rattle.trial.specs.declared.steps.Step.{Step}
use Rattle.trial.specs.Finish.{finish_from}
use Rattle.trial.proofs.steps.Steps.last_finish.Goals as goal

max_assoc : (a b c : ℕ) → max a (max b c) ≡ max (max a b) c
max_assoc a b c = omega arith

laid_more :
    (index end last : ℕ) (steps : List Step) (d : Step) → index < length steps →
    max last (finish_from end (drop index steps)) ≡
    max (max last ((end + (get_or steps index d).span) + unwrap_or (get_or steps index d).back 0))
    (finish_from (end + (get_or steps index d).span) (drop (index + 1) steps))
unfolding finish_from
laid_more index end last steps d h = let e : index + 1 ≡ suc index = omega arith in rw (e, drop-cons steps index d h) (max_assoc _ _ _)

laid_all : (index end last : ℕ) (steps : List Step) → length steps ≤ index → max last (finish_from end (drop index steps)) ≡ last
unfolding finish_from
laid_all index end last steps h = rw (drop_all index steps h) (omega arith)

pub loop-step-preserved : goal.loop-step-preserved
loop-step-preserved c =
    let i = c.loop-step-test.true in
    let read = c.as_slice-step-items.ensures.items in
    let within : c.loop-step.step-index < length (take c.args.self.now.count c.args.self.now.list) = rw (← read) i in
    let span = c.from-end.ensures in
    let back = c.unwrap_or.ensures in
    let later : c.max-last.result ≡ max c.loop-step.last (c.loop-step.end + c.from-end.result + c.from.result) = grind (arith, c.max-last.ensures) in
    record {
      short = omega arith;
      finish =
          c.loop-step.invariant.finish ∙
          rw (later, c.from.ensures, span, back, read) (laid_more c.loop-step.step-index c.loop-step.end c.loop-step.last _ _ within);
    }

pub returns : goal.returns
returns c =
    let out = rw c.as_slice-step-items.ensures.items at c.loop-step-test.false in
    sym (c.loop-step.invariant.finish ∙ laid_all c.loop-step.step-index c.loop-step.end c.loop-step.last _ out)
