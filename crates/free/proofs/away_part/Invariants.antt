-- `free::away_part` lists the flagged jobs in away order. The loop's invariant: the draft has those among the positions passed. Assumes nothing.
use Rattle.std.proofs.Common.{List, length}
use Rattle.model.specs.declared.Job.{Job}
use Rattle.choice.specs.Choices.{SoundJobs, OfItsJobs}
use Rattle.free.proofs.Parts.{Away}
use Rattle.free.proofs.away_part.Given as goal

abbrev pub invariant-loop-position : goal.invariant-loop-position
invariant-loop-position l =
    OfItsJobs l.p (λ (js : List Job).
    SoundJobs js → Away js l.flags l.draft l.position-iterator.a.rest.now l.position-iterator.b.rest.now (length l.yielded))
