-- `rows::least` meets its contract; what its loop keeps stands in Invariants.antt. Assumes nothing.
use mathlib.Core.Path.{refl}
use Prim.Native.Nat.{zero}
use native.Mathlib.Omega.{arith}
use lib.ListN.{get_or-replicate}
use Rattle.rows.proofs.Rows.{rows_start}
use Rattle.rows.proofs.Jobs.{job_fits, job_added}
use Rattle.rows.specs.Rows.{columns}
use Rattle.rows.proofs.least.Goals as goal

pub raise-requires : goal.raise-requires
raise-requires c = (refl, omega arith, omega arith, (λ t h. omega (arith, get_or-replicate columns t zero 0 (omega arith))))

pub loop-k-init : goal.loop-k-init
loop-k-init c = rows_start _ columns _ refl c.requires.deadline c.raise.ensures

pub add_job-requires : goal.add_job-requires
add_job-requires c =
    let f = job_fits _ _ _ _ _ _ _ c.requires c.loop-k-test.true c.loop-k.invariant in
    (c.loop-k.invariant.total_columns, c.loop-k.invariant.mask_columns, c.requires.deadline, f.0, f.1)

pub loop-k-preserved : goal.loop-k-preserved
loop-k-preserved c = job_added _ _ _ _ _ _ _ c.requires c.loop-k-test.true c.loop-k.invariant _ _ c.add_job.ensures
