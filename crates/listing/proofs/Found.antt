-- The job of an id in the table: the job that the index tells, and that the steps of a plan find their own jobs again.
-- Assumes nothing.
use mathlib.Core.Path.{◌≡◌, refl, sym, ap, subst, ◌∙◌}
use mathlib.Core.Bool.{Bool, true, false}
use mathlib.Core.List.{List, [], ◌∷◌, Permᴰ}
use Prim.Native.Nat.{ℕ, ◌≤◌, ◌<◌}
use lib.ListN.{length, get_or, get_or-eq_default}
use lib.Dec.{ltb}
use borrow.Author.Tests.{ltb-true, ltb-false}
use Rattle.model.specs.declared.Job.{Job}
use Rattle.model.specs.Lists.{All}
use Rattle.model.specs.Timetable.{Chosen}
use Rattle.model.specs.FreeOrder.{Choice}
use Rattle.model.specs.Positions.{no_job}
use Rattle.model.proofs.Lists.{all_map, all_members, all_of_map}
use Rattle.model.proofs.Permutations.{all_perm}
use Rattle.records.specs.Limits.{most_jobs}
use Rattle.table.specs.Tables.{job_id}
use Rattle.records.proofs.Listed.{Distinct}
use Rattle.lookup.specs.Lookup.{Indexes}
use Rattle.lookup.proofs.Lookup.{with_own, index_tells, index_none}
use Rattle.plan.specs.Plans.{steps_for}
use Rattle.listing.specs.Found.{or_none, job_with, chosen_for}

-- the job that the index tells is the job with the id
pub with_index :
    (js : List Job) (index : List ℕ) → Indexes js index → length js ≤ most_jobs → (id : ℕ) → id < 256 → get_or js (get_or index id 0) no_job ≡ job_with js id
with_index js index is few id byte = step (ltb (get_or index id 0) (length js)) refl
  where
    step : (b : Bool) → ltb (get_or index id 0) (length js) ≡ b → get_or js (get_or index id 0) no_job ≡ job_with js id
    step true e = ap or_none (sym (index_tells js index is few id byte (ltb-true _ _ e)))
    step false e =
        let out = ltb-false (get_or index id 0) (length js) e in
        get_or-eq_default js no_job out ∙ ap or_none (sym (index_none js index is few id byte out))

-- where ids are distinct, each job is found by its own id
with_self : (js : List Job) → Distinct job_id js → All (λ (j : Job). job_with js j.id ≡ j) js
with_self js d = all_map (λ j m. ap or_none (with_own job_id js j d m)) js (all_members js)

-- a job with its choice is found by its id
abbrev Own : List Job → Chosen → Type 0
Own js x = job_with js x.job.id ≡ x.job

-- so the steps of a plan of these jobs find the jobs again
pub found_again :
    (js : List Job) → Distinct job_id js →
    (cs xs : List Chosen) → Choice js cs → Permᴰ cs xs → chosen_for js (steps_for xs) ≡ xs
found_again js distinct cs xs c p =
    let own : All (Own js) cs =
    all_of_map (λ (x : Chosen). x.job) (λ (j : Job). job_with js j.id ≡ j) cs (subst (All _) (sym c.each) (with_self js distinct)) in
    same xs (all_perm (Own js) p own)
  where
    same : (ys : List Chosen) → All (Own js) ys → chosen_for js (steps_for ys) ≡ ys
    same [] a = refl
    same (y ∷ ys) a = λ i. record { job = a.0 i; away = y.away } ∷ same ys a.1 i
