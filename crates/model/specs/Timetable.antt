-- Document 01, 'A job and a timetable'. Times are unbounded whole numbers and the deadline D is a parameter.
-- Nothing here sorts, packs or searches. Assumes nothing.
use Rattle.std.specs.Prelude.{◌≡◌, ◌⊎◌, Bool, true, false, cond, not, ◌||◌, List, map, ℕ, ◌+◌, ◌≤◌, T}
use Rattle.model.specs.declared.Sending.TheVariants.{HereOnly, Either}
use Rattle.model.specs.declared.Job.{Job}
use Rattle.model.specs.Lists.{All, Pairwise}

-- "A job has an id and a local time C. An either job also has a setup time S and a return time I; a here-only job has neither."
-- `Job` and `Sending` are declared in src/lib.rt; C is the field `local`. S and I of a here-only job read as 0 and are never used.

abbrev pub is_either : Job → Bool
is_either j = elim j.sending [ HereOnly ↦ false | Either s i ↦ true ]

abbrev pub setup_time : Job → ℕ
setup_time j = elim j.sending [ HereOnly ↦ 0 | Either s i ↦ s ]

abbrev pub return_time : Job → ℕ
return_time j = elim j.sending [ HereOnly ↦ 0 | Either s i ↦ i ]

-- "A timetable gives each job a choice (here or away; here-only jobs stay here) and a start, a whole number of at least 0."

pub record Chosen : Type 0 where
  pub job : Job
  pub away : Bool

abbrev pub here : Chosen → Bool
here c = not c.away

abbrev pub either : Chosen → Bool
either c = is_either c.job

abbrev pub Allowed : Chosen → Type 0
Allowed c = T (either c || here c)

pub record Placed : Type 0 where
  pub what : Chosen
  pub start : ℕ

-- the choices of a timetable
abbrev pub chosen_in : List Placed → List Chosen
chosen_in ps = map (λ (p : Placed). p.what) ps

-- "The job's span on the panel is C long if here, S long if away."

abbrev pub span : Chosen → ℕ
span c = cond c.away (setup_time c.job) c.job.local

abbrev pub span_end : Placed → ℕ
span_end p = p.start + span p.what

-- "For any two jobs, one's span ends no later than the other's starts."

abbrev pub Apart : Placed → Placed → Type 0
Apart p q = (span_end p ≤ q.start) ⊎ (span_end q ≤ p.start)

pub record Timetable (js : List Job) (ps : List Placed) : Type 0 where
  pub each : map (λ (p : Placed). p.what.job) ps ≡ js
  pub allowed : All (λ (p : Placed). Allowed p.what) ps
  pub apart : Pairwise Apart ps

-- "A job finishes at start + C if here, at start + S + I if away."

abbrev pub wait : Chosen → ℕ
wait c = cond c.away (return_time c.job) 0

abbrev pub finish : Placed → ℕ
finish p = span_end p + wait p.what

-- "The timetable meets D if every finish is at most D."

abbrev pub Meets : ℕ → List Placed → Type 0
Meets D ps = All (λ (p : Placed). finish p ≤ D) ps

-- some timetable of the jobs meets D
abbrev pub Met : ℕ → List Job → Type 0
Met D js = (ps : List Placed) × Timetable js ps × Meets D ps
