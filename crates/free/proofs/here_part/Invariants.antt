-- `free::here_part` lists the jobs that are not flagged in table order. The loop's invariant: the draft has those among the jobs passed. Assumes nothing.
use Rattle.std.proofs.Common.{◌≡◌, List, length}
use Rattle.model.specs.Timetable.{Chosen}
use Rattle.draft.specs.Drafts.{draft_of}
use Rattle.free.proofs.Parts.{Here}
use Rattle.free.proofs.here_part.Given as goal

abbrev pub invariant-loop-job : goal.invariant-loop-job
invariant-loop-job l =
    (before : List Chosen) → l.fn.front ≡ draft_of before
    → Here l.jobs l.flags before l.draft l.job-iterator.a.rest.now l.job-iterator.b.rest.now (length l.yielded)
