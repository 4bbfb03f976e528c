-- Document 01, 'Marked cases': each a table with what is claimed of it, told of whatever meets the contracts.
-- Assumes nothing.
use Rattle.std.specs.Prelude.{◌≡◌, false, pos, List, [], ◌∷◌, ◌++◌, map, ℕ, zero, suc, ◌≤◌, ◌%◌, ◌/◌, Float, length, drop, Result}
use Rattle.std.specs.Float.{fin}
use Rattle.model.specs.Lists.{All}
use Rattle.records.specs.declared.refusal.Refusal.TheVariants.{None}
use Rattle.records.specs.Limits.{longest_plan}
use Rattle.table.specs.Tables.{verdict_says}
use Rattle.records.specs.declared.refusal.Refusal.{Refusal}
use Rattle.table.specs.declared.Table.{Table}
use Rattle.planner.specs.Answers.{Planned, Least}
use Rattle.planner.specs.Answers.{planned_says, least_says, Refuses}
use Rattle.frame_record.specs.declared.Event.{Event}
use Rattle.frame_record.specs.declared.Event.TheVariants.{SpanEnd, Return, Read}
use Rattle.frame_record.specs.declared.Reading.{Reading}
use Rattle.frame_record.specs.declared.Reading.TheVariants.{Fresh, Late}
use Rattle.frame_record.specs.Answers.{Reply, reading_says}
use Rattle.frame_promises.specs.Call.{begin, event}
use Rattle.accord.specs.Allows.{FreeAllows, GivenAllows, LeastAllows}
use Rattle.judge.specs.Check.{Checked}
use Rattle.judge.specs.Check.{checked_says}
use Rattle.faults.specs.Allows.{TableAllows, CheckAllows}
use Rattle.frame_promises.specs.History.{Turn}
use Rattle.frame_promises.specs.Runs.{FromIdle}

-- what is claimed of a table: its free-order plan with busy total and last finish, no free-order plan, no given-order plan, its least deadline,
-- the numbers that its reader says, and those that the check says of a plan,
-- and what a job reads as after its plan is begun as frame 1 and these events have come
pub data Claim : Type 0 where
  plan_is : List ℕ → (busy last : ℕ) → Claim
  no_plan : Claim
  no_given : Claim
  least_is : ℕ → Claim
  reads : List ℕ → Claim
  checks : (plan : List ℕ) → List ℕ → Claim
  after_events : (plan : List ℕ) → List Event → (id : ℕ) → Reading → Claim

pub record Case : Type 0 where
  pub table : List ℕ
  pub claim : Claim

-- what it means for a case to hold: every answer and area that the contract allows is the one claimed
abbrev pub Claimed : List ℕ → Claim → Type 0
Claimed s (plan_is p busy last) =
    (before : List ℕ) (r : Planned) (after : List ℕ) → longest_plan ≤ length before → FreeAllows s before r after
    → (planned_says r ≡ 0 ∷ length p ∷ busy ∷ last ∷ []) × (after ≡ p ++ drop (length p) before)
Claimed s no_plan = (before : List ℕ) (r : Planned) (after : List ℕ) → longest_plan ≤ length before → FreeAllows s before r after → Refuses None before r after
Claimed s no_given = (before : List ℕ) (r : Planned) (after : List ℕ) → longest_plan ≤ length before → GivenAllows s before r after →
    Refuses None before r after
Claimed s (least_is d) = (r : Least) → LeastAllows s r → least_says r ≡ 0 ∷ d ∷ []
Claimed s (reads ns) = (r : Result Table Refusal) → TableAllows s r → verdict_says r ≡ ns
Claimed s (checks p ns) = (r : Checked) → CheckAllows s p r → checked_says r ≡ ns
Claimed s (after_events p es id r) =
    (before : List Turn) (q : Reply) → map (λ (t : Turn). t.call) before ≡ begin s p 1 ∷ map event es
    → FromIdle (before ++ (record { call = event (Read id); said = q } ∷ [])) → q ≡ reading_says r

abbrev pub Holds : Case → Type 0
Holds c = Claimed c.table c.claim

-- The tables.

abbrev pub word : ℕ → List ℕ
word n = n % 256 ∷ n / 256 ∷ []

abbrev pub either : ℕ → ℕ → ℕ → ℕ → List ℕ
either id C S I = 0x12 ∷ id ∷ (word C ++ (word S ++ word I))

abbrev pub stays : ℕ → ℕ → List ℕ
stays id C = 0x11 ∷ id ∷ word C

-- n here-only jobs of no length, with ids from k on
abbrev pub stay_from : ℕ → ℕ → List ℕ
stay_from k zero = []
stay_from k (suc n) = stays k 0 ++ stay_from (suc k) n

abbrev pub framed : ℕ → List ℕ → List ℕ
framed D jobs = 0x10 ∷ (word D ++ (jobs ++ (0x1F ∷ [])))

-- Table E, as bytes
unfoldable pub E : List ℕ
E =
    0x10 ∷ 0x2D ∷ 0x00 ∷ 0x12 ∷ 0x01 ∷ 0x1E ∷ 0x00 ∷ 0x05 ∷ 0x00 ∷ 0x28 ∷ 0x00 ∷ 0x12 ∷ 0x02 ∷ 0x14 ∷ 0x00 ∷ 0x0A ∷ 0x00 ∷ 0x0A ∷ 0x00 ∷
    0x11 ∷ 0x03 ∷ 0x19 ∷ 0x00 ∷ 0x1F ∷ []

-- the plan of 1
abbrev pub plan_e : List ℕ
plan_e = 0x21 ∷ 0x01 ∷ 0x21 ∷ 0x02 ∷ 0x20 ∷ 0x03 ∷ 0x2F ∷ []

-- "E's jobs in order 3, 1, 2"
abbrev pub turned : List ℕ
turned = framed 45 (stays 3 25 ++ (either 1 30 5 40 ++ either 2 20 10 10))

abbrev pub case : List ℕ → Claim → Case
case s c = record { table = s; claim = c }

-- the events of E's plan at full entries, each with the value 1, up to a return of job 1
abbrev pub one : Float
one = fin false 1 (pos 0)

abbrev pub up_to : ℕ → List Event
up_to back = SpanEnd 1 5 one ∷ SpanEnd 2 15 one ∷ Return 1 2 25 one ∷ SpanEnd 3 40 one ∷ Return 1 1 back one ∷ []

-- The cases, by their numbers; of the last, with a return further behind the deadline too. Then one input for each number of the readers and the check.
unfoldable pub marked : List Case
marked =
    case E (plan_is plan_e 40 45)
    ∷ case (framed 44 (either 1 30 5 40 ++ (either 2 20 10 10 ++ stays 3 25))) no_plan
    ∷ case E (least_is 45)
    ∷ case turned no_given
    ∷ case turned (plan_is plan_e 40 45)
    ∷ case (framed 20 (either 1 10 10 0 ++ either 2 10 10 0)) (plan_is (0x20 ∷ 0x01 ∷ 0x20 ∷ 0x02 ∷ 0x2F ∷ []) 20 20)
    ∷ case (framed 16 (either 1 10 4 12 ++ either 2 10 4 12)) (plan_is (0x21 ∷ 0x01 ∷ 0x20 ∷ 0x02 ∷ 0x2F ∷ []) 14 16)
    ∷ case (framed 15 (either 1 10 4 12 ++ either 2 10 4 12)) no_plan
    ∷ case (framed 40 (either 1 50 10 10 ++ either 2 50 10 30)) (plan_is (0x21 ∷ 0x02 ∷ 0x21 ∷ 0x01 ∷ 0x2F ∷ []) 20 40)
    ∷ case (framed 39 (either 1 50 10 10 ++ either 2 50 10 30)) no_plan
    ∷ case (0x10 ∷ 0x01 ∷ 0x00 ∷ 0x1F ∷ []) (plan_is (0x2F ∷ []) 0 0)
    ∷ case (0x10 ∷ 0x01 ∷ 0x00 ∷ 0x1F ∷ []) (least_is 1)
    ∷ case [] (reads (1 ∷ 0 ∷ []))
    ∷ case E (after_events plan_e (up_to 45) 1 (Fresh (record { value = one; frame = 1 })))
    ∷ case E (after_events plan_e (up_to 46) 1 Late)
    ∷ case E (after_events plan_e (up_to 47) 1 Late)
    ∷ case E (after_events plan_e (up_to 4000) 1 Late)
    ∷ case (0x20 ∷ []) (reads (2 ∷ 0 ∷ []))
    ∷ case (0x10 ∷ 0x00 ∷ 0x00 ∷ []) (reads (3 ∷ 0 ∷ []))
    ∷ case (framed 1 (stay_from 0 33)) (reads (4 ∷ 131 ∷ []))
    ∷ case (framed 1 (stays 7 0 ++ stays 7 0)) (reads (5 ∷ 7 ∷ []))
    ∷ case (0x10 ∷ 0x01 ∷ 0x00 ∷ 0x1F ∷ 0x00 ∷ []) (reads (6 ∷ 4 ∷ []))
    ∷ case E (checks (0x20 ∷ 0x09 ∷ 0x2F ∷ []) (8 ∷ []))
    ∷ case E (checks (0x21 ∷ 0x03 ∷ 0x2F ∷ []) (9 ∷ []))
    ∷ case E (checks (0x2F ∷ []) (10 ∷ []))
    ∷ case E (checks (0x20 ∷ 0x01 ∷ 0x20 ∷ 0x02 ∷ 0x20 ∷ 0x03 ∷ 0x2F ∷ []) (11 ∷ []))
    ∷ case E (checks plan_e (0 ∷ 45 ∷ 40 ∷ []))
    ∷ []

unfoldable pub AllHold : Type 0
AllHold = All Holds marked
