-- The marked cases hold: one proof for the list.
-- Assumes nothing.
use mathlib.Core.Path.{refl}
use mathlib.Core.List.{[], ◌∷◌, ◌++◌}
use native.Mathlib.Omega.{arith}
use Rattle.records.specs.Records.{form_of, judged, used, list_from}
use Rattle.table.specs.Tables.{frame_at, job_at, jobs_read, read_table}
use Rattle.lookup.specs.Lookup.{with_key}
use Rattle.plan.specs.Plans.{plan_bytes, read_plan, record_at}
use Rattle.judge.specs.Check.{listed, lacks_one, check_plan}
use Rattle.frame_record.specs.declared.Reading.TheVariants.{Fresh, Late}
use Rattle.frame_promises.specs.History.{replies, report_of, without}
use Rattle.marked.specs.Marked.{either, stays, stay_from, framed, E, plan_e, turned, one, up_to, marked, AllHold}
use Rattle.marked.proofs.Cases.{plan_case, none_case, given_case, least_case}
use Rattle.marked.proofs.Replies.{read_case, check_case, last_of, events_case}
use Rattle.marked.proofs.Examples.{either_job, job_table, sent, kept, e1, e2, e3, chosen_e, table_e, table_no, n1, n2}

abbrev and : {P Q : Type 0} → P → Q → P × Q
and p q = (p, q)

pub marked_hold : AllHold
unfolding AllHold marked E read_table frame_at jobs_read job_at judged form_of list_from used plan_bytes
    read_plan record_at with_key listed lacks_one check_plan last_of replies report_of without
marked_hold =
    and (plan_case E table_e refl chosen_e refl)
    (and (none_case (framed 44 (either 1 30 5 40 ++ (either 2 20 10 10 ++ stays 3 25))) (job_table 44 (e1 ∷ e2 ∷ e3 ∷ [])) refl refl)
    (and (least_case E table_e refl 44 (omega arith) chosen_e refl (λ h. refl))
    (and (given_case turned (job_table 45 (e3 ∷ e1 ∷ e2 ∷ [])) refl refl)
    (and (plan_case turned (job_table 45 (e3 ∷ e1 ∷ e2 ∷ [])) refl chosen_e refl)
    (and (plan_case (framed 20 (either 1 10 10 0 ++ either 2 10 10 0)) (job_table 20 (either_job 1 10 10 0 ∷ either_job 2 10 10 0 ∷ [])) refl
    (kept (either_job 1 10 10 0) ∷ kept (either_job 2 10 10 0) ∷ []) refl)
    (and (plan_case (framed 16 (either 1 10 4 12 ++ either 2 10 4 12)) (job_table 16 (either_job 1 10 4 12 ∷ either_job 2 10 4 12 ∷ [])) refl
    (sent (either_job 1 10 4 12) ∷ kept (either_job 2 10 4 12) ∷ []) refl)
    (and (none_case (framed 15 (either 1 10 4 12 ++ either 2 10 4 12)) (job_table 15 (either_job 1 10 4 12 ∷ either_job 2 10 4 12 ∷ [])) refl refl)
    (and (plan_case (framed 40 (either 1 50 10 10 ++ either 2 50 10 30)) (job_table 40 (n1 ∷ n2 ∷ [])) refl (sent n2 ∷ sent n1 ∷ []) refl)
    (and (none_case (framed 39 (either 1 50 10 10 ++ either 2 50 10 30)) (job_table 39 (n1 ∷ n2 ∷ [])) refl refl)
    (and (plan_case table_no (job_table 1 []) refl [] refl)
    (and (least_case table_no (job_table 1 []) refl 0 (omega arith) [] refl (λ h. absurd (omega arith)))
    (and (read_case [] (1 ∷ 0 ∷ []) refl)
    (and (events_case E plan_e (up_to 45) 1 (Fresh (record { value = one; frame = 1 })) refl)
    (and (events_case E plan_e (up_to 46) 1 Late refl)
    (and (events_case E plan_e (up_to 47) 1 Late refl)
    (and (events_case E plan_e (up_to 4000) 1 Late refl)
    (and (read_case (0x20 ∷ []) (2 ∷ 0 ∷ []) refl)
    (and (read_case (0x10 ∷ 0x00 ∷ 0x00 ∷ []) (3 ∷ 0 ∷ []) refl)
    (and (read_case (framed 1 (stay_from 0 33)) (4 ∷ 131 ∷ []) refl)
    (and (read_case (framed 1 (stays 7 0 ++ stays 7 0)) (5 ∷ 7 ∷ []) refl)
    (and (read_case (0x10 ∷ 0x01 ∷ 0x00 ∷ 0x1F ∷ 0x00 ∷ []) (6 ∷ 4 ∷ []) refl)
    (and (check_case E (0x20 ∷ 0x09 ∷ 0x2F ∷ []) (8 ∷ []) refl)
    (and (check_case E (0x21 ∷ 0x03 ∷ 0x2F ∷ []) (9 ∷ []) refl)
    (and (check_case E (0x2F ∷ []) (10 ∷ []) refl)
    (and (check_case E (0x20 ∷ 0x01 ∷ 0x20 ∷ 0x02 ∷ 0x20 ∷ 0x03 ∷ 0x2F ∷ []) (11 ∷ []) refl)
    (and (check_case E plan_e (0 ∷ 45 ∷ 40 ∷ []) refl)
    tt))))))))))))))))))))))))))
