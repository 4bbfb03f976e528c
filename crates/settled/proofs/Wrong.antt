-- Answers that contracts rule out, for the public functions whose wrong answers no must-fail edit and no statement of crate `marked` shows, or not all.
-- Each says: for this input the function's own contract, as in Functions.antt, does not allow this answer. Assumes nothing.
use Rattle.std.specs.Prelude.{Option, None, Some, Ok, Err}
use mathlib.Core.Path.{◌≡◌, refl, ap}
use mathlib.Core.Bool.{Bool, true, false}
use mathlib.Core.List.{List, [], ◌∷◌}
use Prim.Native.Nat.{ℕ, suc}
use native.Mathlib.Omega.{arith}
use lib.Ieee.{nan, fin}
use lib.IntN.{pos}
use lib.ListN.{get_or, set, replicate}
use Rattle.model.specs.declared.Sending.TheVariants.{Either}
use Rattle.model.specs.declared.Job.{Job}
use Rattle.model.specs.Timetable.{Chosen}
use Rattle.model.specs.Laying.{chosen}
use Rattle.model.specs.Positions.{no_job}
use Rattle.model.proofs.Lists.{clash}
use Rattle.model.proofs as model
use Rattle.model.specs.contracts as model_contracts
use Rattle.table.specs.declared.Table.{Table}
use Rattle.records.specs.declared.kind.Form.{Form}
use Rattle.records.specs.declared.kind.Meaning.TheVariants.{Row}
use Rattle.records.specs.declared.kind.RowKind.TheVariants.{HereRow}
use Rattle.records.specs.declared.refusal.Place.{Place}
use Rattle.records.specs.declared.refusal.Refusal.TheVariants.{Twice, Late, Phase}
use Rattle.records.specs.declared.refusal.Said.{Said}
use Rattle.records.specs.Limits.{most_jobs}
use Rattle.records.specs.Records.{form, form_of}
use Rattle.records.specs.Refusals.{start, past}
use Rattle.table.specs.Tables.{empty_table}
use Rattle.records.proofs as records
use Rattle.records.specs.contracts as records_contracts
use Rattle.table.proofs as table
use Rattle.table.specs.contracts as table_contracts
use Rattle.octets.specs.Decimals.{digits_in, decimal}
use Rattle.octets.specs.Numbers.{four_at}
use Rattle.octets.proofs.Hex.{hex_digits}
use Rattle.octets.proofs as octets
use Rattle.octets.specs.contracts as octets_contracts
use Rattle.lines.specs.Lines.{pair_line}
use Rattle.lines.proofs as lines
use Rattle.lines.specs.contracts as lines_contracts
use Rattle.plan.specs.declared.Plan.{Plan}
use Rattle.plan.specs.declared.Step.{Step}
use Rattle.plan.specs.Plans.{plan_of, with_step, step_at}
use Rattle.plan.proofs as plan
use Rattle.plan.specs.contracts as plan_contracts
use Rattle.choice.specs.Choices.{prepared_of}
use Rattle.choice.proofs as choice
use Rattle.choice.specs.contracts as choice_contracts
use Rattle.draft.specs.declared.Draft.{Draft}
use Rattle.draft.specs.Drafts.{draft_of, with_chosen}
use Rattle.draft.proofs as draft
use Rattle.draft.specs.contracts as draft_contracts
use Rattle.given.proofs as given
use Rattle.given.specs.contracts as given_contracts
use Rattle.free.proofs as free
use Rattle.free.specs.contracts as free_contracts
use Rattle.faults.specs.Allows.{to, to_mut}
use Rattle.frame_record.specs.declared.Frame.{Frame}
use Rattle.frame_record.specs.declared.Phase.TheVariants.{Open}
use Rattle.frame_record.specs.declared.Answer.TheVariants.{Done}
use Rattle.frame_record.specs.declared.Called.{Called}
use Rattle.lookup.specs.Lookup.{first}
use Rattle.frame_record.specs.Sound.{where_is, sound?, open?, begun?, ready?, ok_begun}
use Rattle.frame_record.specs.Answers.{idle}
use Rattle.frame_record.proofs as frame_record
use Rattle.frame_record.specs.contracts as frame_record_contracts
use Rattle.settled.specs.Settled.{RulesOut}

abbrev job : Job
job = record { id = 1; local = 30; sending = Either 5 40 }

-- ---- model

-- the span and the return of the other choice
abbrev SpanNot : Bool → ℕ → Type 0
SpanNot away r = RulesOut model_contracts.span_of.ended model.span_of.Reads.Learnt tt (job, (away, tt)) r

pub span_of : SpanNot true 30 × SpanNot false 5
span_of = ((λ m e. omega (arith, e.0)), (λ m e. omega (arith, e.0)))

abbrev WaitNot : Bool → ℕ → Type 0
WaitNot away r = RulesOut model_contracts.wait_of.ended model.wait_of.Reads.Learnt tt (job, (away, tt)) r

pub wait_of : WaitNot true 0 × WaitNot false 40
wait_of = ((λ m e. omega (arith, e.0)), (λ m e. omega (arith, e.0)))

-- ---- table

-- one less, one more
abbrev MostNot : ℕ → Type 0
MostNot r = RulesOut table_contracts.Table.most_jobs.ended table.Table.most_jobs.Reads.Learnt tt tt r

pub most_jobs_lem : MostNot 31 × MostNot 33
most_jobs_lem = ((λ m e. omega (arith, e)), (λ m e. omega (arith, e)))

abbrev LargestNot : ℕ → Type 0
LargestNot r = RulesOut table_contracts.Table.largest_time.ended table.Table.largest_time.Reads.Learnt tt tt r

pub largest_time_lem : LargestNot 3999 × LargestNot 4001
largest_time_lem = ((λ m e. omega (arith, e)), (λ m e. omega (arith, e)))

abbrev LongestTableNot : ℕ → Type 0
LongestTableNot r = RulesOut table_contracts.Table.longest_table.ended table.Table.longest_table.Reads.Learnt tt tt r

pub longest_table : LongestTableNot 259 × LongestTableNot 261
longest_table = ((λ m e. omega (arith, e)), (λ m e. omega (arith, e)))

abbrev LongestPlanNot : ℕ → Type 0
LongestPlanNot r = RulesOut table_contracts.Table.longest_plan.ended table.Table.longest_plan.Reads.Learnt tt tt r

pub longest_plan : LongestPlanNot 64 × LongestPlanNot 66
longest_plan = ((λ m e. omega (arith, e)), (λ m e. omega (arith, e)))

-- a table with a deadline, or with a job counted
abbrev EmptyNot : ℕ → ℕ → Type 0
EmptyNot D n = RulesOut table_contracts.Table.empty.ended table.Table.empty.Reads.Learnt tt tt (record { deadline = D; count = n; jobs = empty_table.jobs })

pub table_empty : EmptyNot 1 0 × EmptyNot 0 1
table_empty = (
  (λ m e. let z : ◌≡◌ {A = ℕ} 1 0 = ap (λ (t : Table). t.deadline) e in omega arith),
  (λ m e. let z : ◌≡◌ {A = ℕ} 1 0 = ap (λ (t : Table). t.count) e in omega arith),
)

-- a here-only record's body one byte short; its kind unknown
abbrev FormNot : Option Form → Type 0
FormNot f = RulesOut records_contracts.kind.form_of.ended records.kind.form_of.Reads.Learnt tt (0x11, tt) f

abbrev body_of : Option Form → ℕ
body_of None = 0
body_of (Some f) = f.body

pub form_of_lem : FormNot (form (Row HereRow) 2) × FormNot None
unfolding form_of
form_of_lem = (
  (λ m e. let z : ◌≡◌ {A = ℕ} 2 3 = ap body_of e in omega arith),
  (λ m e. clash (cc)),
)

-- the second byte of a file, the fourth; the next record one byte short, or where this one is
abbrev StartNot : Place → Type 0
StartNot p = RulesOut records_contracts.refusal.Place.start.ended records.refusal.Place.start.Reads.Learnt tt tt p

pub place_start : StartNot (past start 0) × StartNot (past start 2)
place_start = (
  (λ m e. let z : ◌≡◌ {A = ℕ} 1 0 = ap (λ (p : Place). p.at) e in omega arith),
  (λ m e. let z : ◌≡◌ {A = ℕ} 3 0 = ap (λ (p : Place). p.at) e in omega arith),
)

abbrev PastNot : Place → Type 0
PastNot p = RulesOut records_contracts.refusal.Place.past.ended records.refusal.Place.past.Reads.Learnt tt (start, (2, tt)) p

pub place_past : PastNot (past start 1) × PastNot start
place_past = (
  (λ m e. let z : ◌≡◌ {A = ℕ} 2 3 = ap (λ (p : Place). p.at) e in omega arith),
  (λ m e. let z : ◌≡◌ {A = ℕ} 0 3 = ap (λ (p : Place). p.at) e in omega arith),
)

-- the number of another refusal; a place left out
abbrev said : ℕ → Said
said n = record { number = n; place = None }

pub numbers_of :
    RulesOut records_contracts.refusal.numbers_of.ended records.refusal.numbers_of.Reads.Learnt tt (Late, tt) (said 12)
    × RulesOut records_contracts.refusal.numbers_of.ended records.refusal.numbers_of.Reads.Learnt tt (Twice (past start 6), tt) (said 5)
numbers_of = (
  (λ m e. let z : ◌≡◌ {A = ℕ} 12 11 = ap (λ (s : Said). s.number) e in omega arith),
  (λ m e. clash (cc (ap (λ (s : Said). s.place) e))),
)

-- ---- bytes, lines

-- high byte first; the high byte dropped, or the high half
abbrev TwoAtNot : ℕ → Type 0
TwoAtNot r = RulesOut octets_contracts.two_at.ended octets.two_at.Reads.Learnt ([], tt) (to (1 ∷ 2 ∷ []), (0, tt)) r

pub two_at : TwoAtNot 258 × TwoAtNot 1
two_at = ((λ m e. omega (arith, e)), (λ m e. omega (arith, e)))

abbrev FourAtNot : ℕ → Type 0
FourAtNot r = RulesOut octets_contracts.four_at.ended octets.four_at.Reads.Learnt ([], tt) (to (1 ∷ 2 ∷ 3 ∷ 4 ∷ []), (0, tt)) r

pub four_at_lem : FourAtNot 16909060 × FourAtNot 513
unfolding four_at
four_at_lem = ((λ m e. omega (arith, e)), (λ m e. omega (arith, e)))

-- a place one short of the bytes, or one past them
abbrev PutTwoNot : ℕ → Type 0
PutTwoNot r = RulesOut octets_contracts.put_two.ended octets.put_two.Reads.Learnt ([], tt) (to_mut (0 ∷ 0 ∷ 0 ∷ []), (0, (513, tt))) r

pub put_two : PutTwoNot 1 × PutTwoNot 3
put_two = ((λ m e. omega (arith, e.place)), (λ m e. omega (arith, e.place)))

abbrev PutFourNot : ℕ → Type 0
PutFourNot r = RulesOut octets_contracts.put_four.ended octets.put_four.Reads.Learnt ([], tt) (to_mut (replicate 5 0), (0, (513, tt))) r

pub put_four : PutFourNot 3 × PutFourNot 5
put_four = ((λ m e. omega (arith, e.place)), (λ m e. omega (arith, e.place)))

abbrev PutHexNot : ℕ → Type 0
PutHexNot r = RulesOut octets_contracts.put_hex.ended octets.put_hex.Reads.Learnt ([], tt) (to_mut (replicate 9 0), (0, (513, tt))) r

pub put_hex : PutHexNot 7 × PutHexNot 9
put_hex = ((λ m e. omega (arith, e.place, (hex_digits 513).0)), (λ m e. omega (arith, e.place, (hex_digits 513).0)))

-- the place before the number; the place before the line's end
abbrev PutFieldNot : ℕ → Type 0
PutFieldNot r = RulesOut lines_contracts.put_field.ended lines.put_field.Reads.Learnt ([], ([], tt)) (to_mut (0 ∷ 0 ∷ []), (0, (to (0x20 ∷ []), (7, tt)))) r

pub put_field : PutFieldNot 1
unfolding decimal digits_in
put_field = λ m e. omega (arith, e.place)

abbrev PutPairNot : ℕ → Type 0
PutPairNot r =
    RulesOut lines_contracts.put_pair.ended lines.put_pair.Reads.Learnt ([], ([], ([], tt)))
    (to_mut (replicate 5 0), (0, (to (0x20 ∷ []), (7, (to (0x20 ∷ []), (8, tt)))))) r

pub put_pair : PutPairNot 4
unfolding pair_line decimal digits_in
put_pair = λ m e. omega (arith, e.place)

-- ---- plan, draft

abbrev two : List ℕ
two = 0x21 ∷ 1 ∷ 0x20 ∷ 2 ∷ 0x2F ∷ []

abbrev step : ℕ → Bool → Step
step id away = record { id = id; away = away }

-- the step after it; the other choice
abbrev FirstNot : Step → Type 0
FirstNot x = RulesOut plan_contracts.step_at.ended plan.step_at.Reads.Learnt ([], tt) (to two, (0, tt)) x

pub step_at_lem : FirstNot (step 2 false) × FirstNot (step 1 false)
unfolding step_at
step_at_lem = (
  (λ m e. let z : ◌≡◌ {A = ℕ} 2 1 = ap (λ (x : Step). x.id) e in omega arith),
  (λ m e. clash (cc (ap (λ (x : Step). x.away) e))),
)

-- a step there already; a step that is not counted
abbrev one : Plan
one = with_step (plan_of []) (step 1 true)

abbrev PlanNot : Plan → Type 0
PlanNot p = RulesOut plan_contracts.Plan.empty.ended plan.Plan.empty.Reads.Learnt tt tt p

pub plan_empty : PlanNot one × PlanNot (record { count = 1; steps = (plan_of []).steps })
plan_empty = (
  (λ m e. let z : ◌≡◌ {A = ℕ} 1 0 = ap (λ (p : Plan). p.count) e in omega arith),
  (λ m e. let z : ◌≡◌ {A = ℕ} 1 0 = ap (λ (p : Plan). p.count) e in omega arith),
)

-- the step not added; another added too
abbrev PushNot : Plan → Type 0
PushNot p = ¬ (plan.Plan.push.Reads.Learnt ([], tt) (to_mut (plan_of []), (step 1 true, tt)) tt (to_mut p, (step 1 true, tt)))

pub plan_push : PushNot (plan_of []) × PushNot (with_step one (step 2 true))
plan_push = (
  (λ e. let z : ◌≡◌ {A = ℕ} 0 1 = ap (λ (p : Plan). p.count) e in omega arith),
  (λ e. let z : ◌≡◌ {A = ℕ} 2 1 = ap (λ (p : Plan). p.count) e in omega arith),
)

-- a draft that has a job already, or numbers of none of its steps
abbrev with_one : Draft
with_one = with_chosen (draft_of []) (chosen job true)

abbrev laid_alone : Draft
laid_alone = record { plan = plan_of []; laid = record { busy = 5; last = 45 } }

abbrev DraftNot : Draft → Type 0
DraftNot d = RulesOut draft_contracts.Draft.empty.ended draft.Draft.empty.Reads.Learnt tt tt d

pub draft_empty : DraftNot with_one × DraftNot laid_alone
draft_empty = (
  (λ m e. let z : ◌≡◌ {A = ℕ} 1 0 = ap (λ (d : Draft). d.plan.count) e in omega arith),
  (λ m e. let z : ◌≡◌ {A = ℕ} 5 0 = ap (λ (d : Draft). d.laid.busy) e in omega arith),
)

-- the job not added; its numbers without its step
abbrev JobNot : Draft → Type 0
JobNot d = ¬ (draft.Draft.push.Reads.Learnt ([], tt) (to_mut (draft_of []), (job, (true, tt))) tt (to_mut d, (job, (true, tt))))

pub draft_push : JobNot (draft_of []) × JobNot laid_alone
draft_push = (
  (λ e. let z : ◌≡◌ {A = ℕ} 0 1 = ap (λ (d : Draft). d.plan.count) e in omega arith),
  (λ e. let z : ◌≡◌ {A = ℕ} 0 1 = ap (λ (d : Draft). d.plan.count) e in omega arith),
)

-- ---- choice

-- of two either jobs with equal returns the first is first in away order, and mask 1 sends it: no flag at all; the flag of the other job
abbrev FlagsNot : List Bool → Type 0
FlagsNot fs = RulesOut choice_contracts.flags_of.ended choice.flags_of.Reads.Learnt ([], tt) (to (prepared_of (job ∷ job ∷ [])), (1, tt)) fs

pub flags_of : FlagsNot (replicate most_jobs false) × FlagsNot (set (replicate most_jobs false) 1 true)
flags_of = (
  (λ m e. clash (cc (ap (λ (bs : List Bool). get_or bs 0 false) (e (job ∷ job ∷ []) refl)))),
  (λ m e. clash (cc (ap (λ (bs : List Bool). get_or bs 0 false) (e (job ∷ job ∷ []) refl)))),
)

-- ---- given, free

-- a table of one job, which both planners send away
abbrev quick : Job
quick = record { id = 1; local = 3; sending = Either 1 1 }

abbrev one_job : Table
one_job = record { deadline = 3; count = 1; jobs = set (replicate most_jobs no_job) 0 quick }

-- the job listed where it should not be: once more, as kept here
abbrev listed_twice : List Chosen
listed_twice = chosen quick true ∷ chosen quick false ∷ []

-- how many steps a planner found, and one more; 0 where it found no plan
abbrev found : Option Draft → ℕ
found None = 0
found (Some d) = suc d.plan.count

-- a job left out, or listed where it should not be
abbrev GivenNot : Option Draft → Type 0
GivenNot o = RulesOut given_contracts.given_plan.ended given.given_plan.Reads.Learnt ([], tt) (to one_job, tt) o

pub given_plan : GivenNot (Some (draft_of [])) × GivenNot (Some (draft_of listed_twice))
given_plan = (
  (λ m e. let z : ◌≡◌ {A = ℕ} 1 2 = ap found e in omega arith),
  (λ m e. let z : ◌≡◌ {A = ℕ} 3 2 = ap found e in omega arith),
)

abbrev FreeNot : Option Draft → Type 0
FreeNot o = RulesOut free_contracts.free_plan.ended free.free_plan.Reads.Learnt ([], tt) (to one_job, tt) o

pub free_plan : FreeNot (Some (draft_of [])) × FreeNot (Some (draft_of listed_twice))
free_plan = (
  (λ m e. let z : ◌≡◌ {A = ℕ} 1 2 = ap found e in omega arith),
  (λ m e. let z : ◌≡◌ {A = ℕ} 3 2 = ap found e in omega arith),
)

-- ---- the frame's record

-- the number 1 refused, what is not a number let through
pub finite :
    RulesOut frame_record_contracts.finite.ended frame_record.finite.Reads.Learnt tt (fin false 1 (pos 0), tt) false
    × RulesOut frame_record_contracts.finite.ended frame_record.finite.Reads.Learnt tt (nan, tt) true
finite = ((λ m e. clash (cc)), (λ m e. clash (cc)))

-- a record that is open, or has a number, is not the idle one; and a begun record without a deadline is not sound, an idle one is
abbrev opened : ℕ → Frame
opened n = record { phase = Open; number = n; clock = 0; deadline = 0; count = 0; next = 0; order = idle.order; entries = idle.entries }

abbrev IdleNot : Frame → Type 0
IdleNot f = RulesOut frame_record_contracts.Frame.idle.ended frame_record.Frame.idle.Reads.Learnt tt tt f

pub frame_idle : IdleNot (opened 0) × IdleNot (opened 1)
frame_idle = (
  (λ m e. clash (cc (ap (λ (f : Frame). f.phase) e))),
  (λ m e. let z : ◌≡◌ {A = ℕ} 1 0 = ap (λ (f : Frame). f.number) e in omega arith),
)

abbrev SoundNot : Frame → Bool → Type 0
SoundNot f r = RulesOut frame_record_contracts.Frame.sound.ended frame_record.Frame.sound.Reads.Learnt ([], tt) (to f, tt) r

pub sound : SoundNot (opened 0) true × SoundNot idle false
unfolding sound? ok_begun
sound = ((λ m e. clash (cc)), (λ m e. clash (cc)))

-- an unsound record in a phase that is allowed, a sound one in one that is not, or not in one that is
abbrev OpenNot : Frame → Bool → Type 0
OpenNot f r = RulesOut frame_record_contracts.Frame.is_open.ended frame_record.Frame.is_open.Reads.Learnt ([], tt) (to f, tt) r

pub is_open : OpenNot (opened 0) true × OpenNot idle true
unfolding sound? open? ok_begun
is_open = ((λ m e. clash (cc)), (λ m e. clash (cc)))

abbrev BegunNot : Frame → Bool → Type 0
BegunNot f r = RulesOut frame_record_contracts.Frame.has_begun.ended frame_record.Frame.has_begun.Reads.Learnt ([], tt) (to f, tt) r

pub has_begun : BegunNot (opened 0) true × BegunNot idle true
unfolding sound? begun? ok_begun
has_begun = ((λ m e. clash (cc)), (λ m e. clash (cc)))

abbrev ReadyNot : Frame → Bool → Type 0
ReadyNot f r = RulesOut frame_record_contracts.Frame.is_ready.ended frame_record.Frame.is_ready.Reads.Learnt ([], tt) (to f, tt) r

pub is_ready : ReadyNot (opened 0) true × ReadyNot idle false
unfolding sound? ready? ok_begun
is_ready = ((λ m e. clash (cc)), (λ m e. clash (cc)))

-- a refusal that is said as done, and one that alters the record
abbrev AnsweredNot : Called → Type 0
AnsweredNot s = RulesOut frame_record_contracts.Frame.answered.ended frame_record.Frame.answered.Reads.Learnt tt (idle, (Err Phase, tt)) s

pub answered : AnsweredNot (record { answer = Ok Done; frame = idle }) × AnsweredNot (record { answer = Err Phase; frame = opened 0 })
answered = (
  (λ m e. clash (cc (ap (λ (s : Called). s.answer) e))),
  (λ m e. clash (cc (ap (λ (s : Called). s.frame.phase) e))),
)

-- in a table with the one job 0: that job not found, another one found
abbrev single : Frame
single = record { phase = Open; number = 0; clock = 0; deadline = 1; count = 1; next = 0; order = idle.order; entries = idle.entries }

abbrev PositionNot : ℕ → Option ℕ → Type 0
PositionNot id r = RulesOut frame_record_contracts.Frame.position_of.ended frame_record.Frame.position_of.Reads.Learnt ([], tt) (to single, (id, tt)) r

pub position_of : PositionNot 0 None × PositionNot 1 (Some 0)
unfolding where_is first
position_of = ((λ m e. clash (cc)), (λ m e. clash (cc)))
