-- Document 01, 'The given-order plan': the jobs keep table order.
-- Assumes nothing.
use Rattle.std.specs.Prelude.{◌≡◌, Bool, true, false, cond, ◌&&◌, List, [], ◌∷◌, map, ℕ, ◌+◌, ◌≤◌, T, leb, ltb}
use Rattle.std.specs.Prelude.{Option, None, Some}
use Rattle.model.specs.declared.Job.{Job}
use Rattle.model.specs.Lists.{All, Pairwise}
use Rattle.model.specs.Timetable.{is_either, setup_time, return_time, Chosen, Allowed, Placed, span, span_end, Meets}
use Rattle.model.specs.FreeOrder.{Choice, Fits, busy}

-- "Here the jobs keep table order: an earlier job's span ends no later than a later job's starts."

pub record InOrder (js : List Job) (ps : List Placed) : Type 0 where
  pub each : map (λ (p : Placed). p.what.job) ps ≡ js
  pub allowed : All (λ (p : Placed). Allowed p.what) ps
  pub inorder : Pairwise (λ (p q : Placed). span_end p ≤ q.start) ps

-- some timetable in table order meets D
abbrev pub MetInOrder : ℕ → List Job → Type 0
MetInOrder D js = (ps : List Placed) × InOrder js ps × Meets D ps

-- "Algorithm 1: at time t a job is sent away if it is an either job, S < C and t + S + I <= D"

abbrev pub goes : ℕ → ℕ → Job → Bool
goes D t j = is_either j && (ltb (setup_time j) j.local && leb (t + setup_time j + return_time j) D)

-- "else kept here if t + C <= D; else NONE"

abbrev pub decide : ℕ → ℕ → Job → Option Chosen
decide D t j = cond (goes D t j) (Some (record { job = j; away = true })) (cond (leb (t + j.local) D) (Some (record { job = j; away = false })) None)

abbrev pub put : Chosen → Option (List Chosen) → Option (List Chosen)
put c None = None
put c (Some cs) = Some (c ∷ cs)

-- the jobs from time t on, one after the other
abbrev pub given : ℕ → ℕ → List Job → Option (List Chosen)
given D t [] = Some []
given D t (j ∷ js) = elim (decide D t j) [ None ↦ None | Some c ↦ put c (given D (t + span c) js) ]

-- What the plan so found is: of the choices that meet D back to back in table order, the one with the least busy total; of several, the one whose
-- away jobs the others all send away too.

-- wherever the first has a job away, the second has it away too
abbrev pub KeepsAll : List Chosen → List Chosen → Type 0
KeepsAll [] ds = Unit {0}
KeepsAll (c ∷ cs) [] = Unit {0}
KeepsAll (c ∷ cs) (d ∷ ds) = (T c.away → T d.away) × KeepsAll cs ds

pub record BestInOrder (D : ℕ) (js : List Job) (cs : List Chosen) : Type 0 where
  pub choice : Choice js cs
  pub fits : Fits D 0 cs
  pub less : (ds : List Chosen) → Choice js ds → Fits D 0 ds → busy cs ≤ busy ds
  pub tie : (ds : List Chosen) → Choice js ds → Fits D 0 ds → busy cs ≡ busy ds → KeepsAll cs ds
