-- Document 01, 'Errors that look right': no planner that meets the free-order contract goes only by jobs whose answer is sooner, by the shortest
-- return first, or by the last column. Assumes nothing.
use mathlib.Core.Path.{◌≡◌, refl, sym, subst, ◌∙◌}
use mathlib.Core.Bool.{Bool, true, false}
use mathlib.Core.List.{List, [], ◌∷◌, map}
use Prim.Native.Nat.{ℕ, ◌+◌, ◌<◌}
use native.Mathlib.Omega.{arith}
use Rattle.model.specs.declared.Job.{Job}
use Rattle.model.specs.Lists.{All}
use Rattle.model.specs.Timetable.{Chosen, Allowed}
use Rattle.model.specs.Laying.{chosen}
use Rattle.model.proofs.Lists.{clash}
use Rattle.records.specs.declared.refusal.Refusal.TheVariants.{None}
use Rattle.records.proofs.Refusals.{says_not_zero}
use Rattle.plan.specs.Plans.{plan_bytes}
use Rattle.marked.specs.Marked.{E, marked, AllHold}
use Rattle.accord.specs.Allows.{FreeAllows}
use Rattle.marked.specs.Versions.{Planner, Plans, GoesBy, SoonerOnly, ShortestFirst, LastColumn}
use Rattle.marked.proofs.Cases.{plan_case}
use Rattle.marked.proofs.Marked.{marked_hold}
use Rattle.marked.proofs.Planners.{blank, blank_room}
use Rattle.marked.proofs.Examples.{e1, e2, e3, table_e, read_e, n1, n2, table9, read9, column, table_column, read_column, job_table, sent}

-- what holds of the jobs with every flag holds of every choice of them
abbrev Flagged : List Job → (List Chosen → Type 0) → Type 0
Flagged [] P = P []
Flagged (j ∷ js) P = (away : Bool) → Flagged js (λ (cs : List Chosen). P (chosen j away ∷ cs))

each_choice : (js : List Job) (P : List Chosen → Type 0) → Flagged js P → (cs : List Chosen) → map (λ (c : Chosen). c.job) cs ≡ js → P cs
each_choice [] P f [] e = f
each_choice [] P f (c ∷ cs) e = clash (cc)
each_choice (j ∷ js) P f [] e = clash (cc)
each_choice (j ∷ js) P f (c ∷ cs) e =
    let head : j ≡ c.job = cc in
    let tail : map (λ (c : Chosen). c.job) cs ≡ js = cc in
    let on : P (chosen j c.away ∷ cs) = each_choice js (λ (ds : List Chosen). P (chosen j c.away ∷ ds)) (f c.away) cs tail in
    subst (λ (i : Job). P (chosen i c.away ∷ cs)) head on

-- no choice of the jobs is of a kind
abbrev Never : (ℕ → List Chosen → Type 0) → ℕ → List Chosen → Type 0
Never Kind D cs = All Allowed cs → Kind D cs → ⊥

-- E at 45: jobs 1 and 2 would stay, and three spans of 75 ticks do not end by 45
sooner : (a b c : Bool) → Never SoonerOnly 45 (chosen e1 a ∷ chosen e2 b ∷ chosen e3 c ∷ [])
sooner true b c w k = let h : 5 + 40 < 30 = k.1.0 tt in omega arith
sooner false true c w k = let h : 10 + 10 < 20 = k.1.1.0 tt in omega arith
sooner false false true w k = w.1.1.0
sooner false false false w k = omega (arith, k.0)

-- case 9: the other job's answer would come at 50
shortest : (a b : Bool) → Never ShortestFirst 40 (chosen n1 a ∷ chosen n2 b ∷ [])
shortest true true w k = omega (arith, k)
shortest true false w k = omega (arith, k)
shortest false true w k = omega (arith, k)
shortest false false w k = omega (arith, k)

-- the one job's setup total is 5, or 0
last_column : (a : Bool) → Never LastColumn 50 (chosen column a ∷ [])
last_column true w k = let h : ◌≡◌ {A = ℕ} 5 50 = k.1 in omega arith
last_column false w k = let h : ◌≡◌ {A = ℕ} 0 50 = k.1 in omega arith

module _ (p : Planner) (meets : (s before : List ℕ) → FreeAllows s before (p.answer s before) (p.area s before)) where
  pub not_sooner_only : ¬ (GoesBy p SoonerOnly)
  unfolding AllHold marked
  not_sooner_only v =
      let plans = (marked_hold.0 blank _ _ blank_room (meets E blank)).0 in
      says_not_zero None _
      (sym (v E table_e read_e (λ cs c k. each_choice _ (λ (ds : List Chosen). Never SoonerOnly 45 ds) sooner cs c.each c.allowed k)
      blank blank_room) ∙ plans)

  pub not_shortest_first : ¬ (GoesBy p ShortestFirst)
  unfolding AllHold marked
  not_shortest_first v =
      let plans = (marked_hold.1.1.1.1.1.1.1.1.0 blank _ _ blank_room (meets table9 blank)).0 in
      says_not_zero None _
      (sym (v table9 _ read9 (λ cs c k. each_choice _ (λ (ds : List Chosen). Never ShortestFirst 40 ds) shortest cs c.each c.allowed k)
      blank blank_room) ∙ plans)

  -- that table's plan is `21 01 2F`, busy 5, last 15
  pub column_planned : Plans p table_column blank 3 5 15
  unfolding plan_bytes
  column_planned = (plan_case table_column (job_table 50 (column ∷ [])) read_column (sent column ∷ []) refl blank _ _ blank_room (meets table_column blank)).0

  pub not_last_column : ¬ (GoesBy p LastColumn)
  not_last_column v =
      says_not_zero None _
      (sym (v table_column _ read_column (λ cs c k. each_choice _ (λ (ds : List Chosen). Never LastColumn 50 ds) last_column cs c.each c.allowed k)
      blank blank_room) ∙ column_planned)
