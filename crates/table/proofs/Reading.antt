-- What a caller of `read_table` learns from its answer: the refusal, or a sound table that means what was read.
-- Assumes nothing.
use mathlib.Core.Path.{◌≡◌, refl, sym, ap, subst, ◌∙◌}
use mathlib.Core.List.{List}
use Prim.Native.Nat.{ℕ}
use Rattle.model.proofs.Lists.{clash}
use Rattle.std.specs.Prelude.{Result, Ok, Err}
use Rattle.records.specs.declared.refusal.Refusal.{Refusal}
use Rattle.table.specs.declared.Table.{Table}
use Rattle.records.specs.Refusals.{Outcome, accepted, refused}
use Rattle.table.specs.Tables.{JobTable, read_table, table_read, job_table, table_of, Sound}
use Rattle.table.proofs.Accepted.{accepted_good, held_table, held_sound}

-- the bytes are a table's, and u holds it
pub record WholeRead (s : List ℕ) (u : Table) : Type 0 where
  pub is : read_table s ≡ accepted (job_table u)
  pub sound : Sound u

module _ (s : List ℕ) (r : Result Table Refusal) (e : r ≡ table_read (read_table s)) where
  pub read_refused : (f : Refusal) → r ≡ Err f → read_table s ≡ refused f
  read_refused f h = step (read_table s) refl (sym e ∙ h)
    where
      step : (o : Outcome JobTable) → read_table s ≡ o → table_read o ≡ Err f → read_table s ≡ refused f
      step (accepted t) q k = clash (cc)
      step (refused g) q k = let p : g ≡ f = cc in q ∙ ap refused p

  pub read_whole : (u : Table) → r ≡ Ok u → WholeRead s u
  read_whole u h = step (read_table s) refl (sym e ∙ h)
    where
      step : (o : Outcome JobTable) → read_table s ≡ o → table_read o ≡ Ok u → WholeRead s u
      step (accepted t) q k =
          let is : table_of t.deadline t.jobs ≡ u = cc in
          subst (WholeRead s) is (record { is = q ∙ ap accepted (sym (held_table t)); sound = held_sound t (accepted_good s t q) })
      step (refused g) q k = clash (cc)
