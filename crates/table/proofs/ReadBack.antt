-- The bytes of a good table are accepted, as that table (`bytes_read`): the other way round from proofs/Written.antt.
-- Each record is read off the bytes that are left from its place on, and `listed_back` does the rest. Assumes nothing.
use Prim.Native.Nat.{ℕ, ◌+◌, ◌-◌, ◌≤◌, ◌<◌}
use native.Mathlib.Nat.{add-zero}
use native.Mathlib.Omega.{arith}
use mathlib.Core.Path.{◌≡◌, refl, ap, sym, ◌∙◌}
use mathlib.Core.List.{List, ◌∷◌, ◌++◌}
use lib.ListN.{length, get_or, drop, length-drop}
use borrow.Author.Tests.{lt-ltb, le-leb}
use Rattle.model.specs.declared.Sending.{Sending}
use Rattle.model.specs.declared.Sending.TheVariants.{HereOnly, Either}
use Rattle.model.specs.declared.Job.{Job}
use Rattle.octets.proofs.Numbers.{byte_from, two_from, two_whole}
use Rattle.records.specs.declared.refusal.Place.{Place}
use Rattle.records.specs.declared.kind.RowKind.{RowKind}
use Rattle.records.specs.declared.kind.RowKind.TheVariants.{HereRow, EitherRow, EndRow}
use Rattle.records.specs.declared.kind.FrameKind.{FrameKind}
use Rattle.std.specs.Prelude.{Ok, Err}
use Rattle.records.specs.Limits.{most_jobs, largest_time}
use Rattle.records.specs.Refusals.{start, past, accepted}
use Rattle.records.specs.Kinds.{table_end}
use Rattle.records.specs.Records.{form_of, frame_only, row_only, one, last, parsed}
use Rattle.table.specs.Tables.{JobTable, TimesOk, GoodTable, deadline_at, frame_at, row_body, job_at, job_id, jobs_read, read_table, sending_bytes}
use Rattle.table.specs.Tables.{job_bytes, table_bytes}
use Rattle.records.proofs.Records.{row_byte, row_length, frame_form, row_form, whole}
use Rattle.records.proofs.Listed.{over, listed_back}
use Rattle.table.proofs.Tables.{row_parsed}
use Rattle.table.proofs.Written.{jobs_flat}

-- What the bytes `l` from a place on say of the whole: its bytes and words there, and its length.
module _ (s : List ℕ) (p : Place) (l : List ℕ) (from : drop p.at s ≡ l) where
  pub kind_byte : get_or s p.at 0 ≡ get_or l 0 0
  kind_byte = rw add-zero at (byte_from s p.at l from 0)

  pub long : length s - p.at ≡ length l
  long = sym (length-drop p.at s) ∙ ap length from

  -- a whole row is read
  pub row_open :
      (n : ℕ) (k : RowKind) → get_or l 0 0 ≡ row_byte k → 1 + row_length k ≤ length l → row_parsed s p n ≡ parsed (row_body s p n (past p (row_length k)) k)
  unfolding job_at
  row_open n k b h =
      ap parsed
      (whole Err (row_body s p n) row_only s p (ap form_of (kind_byte ∙ b) ∙ row_form k) (omega (arith, long)) k refl (omega (arith, long)))

-- a job's record has bytes
pub job_any : (j : Job) → 1 ≤ length (job_bytes j)
job_any j = go j.sending
  where
    go : (d : Sending) → 1 ≤ length (sending_bytes j.id j.local d)
    go HereOnly = omega arith
    go (Either S I) = omega arith

-- the bytes of a job are read as the job, and the end byte as the end
pub job_back :
    (s : List ℕ) (p : Place) (n : ℕ) (rest : List ℕ) (id C : ℕ) (d : Sending) →
    let j : Job = record { id = id; local = C; sending = d } in
    drop p.at s ≡ sending_bytes id C d ++ rest → TimesOk largest_time j → n < most_jobs → row_parsed s p n ≡ one j (over p (sending_bytes id C d))
job_back s p n rest id C HereOnly from ok few =
    let l = sending_bytes id C HereOnly ++ rest in
    row_open s p l from n HereRow refl (omega arith) ∙
    simp (lt-ltb n most_jobs few, byte_from s p.at l from 1, two_from s p.at l from 2, two_whole C, le-leb _ _ ok.local)
job_back s p n rest id C (Either S I) from ok few =
    let l = sending_bytes id C (Either S I) ++ rest in
    row_open s p l from n EitherRow refl (omega arith) ∙
    simp (
      lt-ltb n most_jobs few,
      byte_from s p.at l from 1,
      two_from s p.at l from 2,
      two_from s p.at l from 4,
      two_from s p.at l from 6,
      two_whole C,
      two_whole S,
      two_whole I,
      le-leb _ _ ok.local,
      le-leb _ _ ok.setup,
      le-leb _ _ ok.back,
    )

pub end_back : (s : List ℕ) (p : Place) (n : ℕ) (more : List ℕ) → drop p.at s ≡ table_end ∷ more → row_parsed s p n ≡ last (past p 0)
end_back s p n more from = row_open s p (table_end ∷ more) from n EndRow refl (omega arith)

frame_back : (t : JobTable) → GoodTable t → frame_at (table_bytes t) start ≡ Ok (t.deadline, past start 2)
unfolding table_bytes frame_at
frame_back t good =
    let s = table_bytes t in
    whole Err (λ (next : Place) (k : FrameKind). deadline_at s start next) frame_only s start frame_form (omega arith) (record {}) refl (omega arith) ∙
    simp (two_whole t.deadline, lt-ltb _ _ good.low, le-leb _ _ good.high)

pub bytes_read : (t : JobTable) → GoodTable t → read_table (table_bytes t) ≡ accepted t
unfolding read_table jobs_read table_bytes
bytes_read t good =
    let s = table_bytes t in
    rw (
      frame_back t good,
      listed_back job_id s (row_parsed s) job_bytes (TimesOk largest_time) job_any
          (λ p n j rest from few ok. job_back s p n rest j.id j.local j.sending from ok few) table_end (end_back s)
          (past start 2) t.jobs good.few good.distinct good.times (jobs_flat t.jobs),
    )
