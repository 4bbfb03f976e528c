-- Document 01, 'The frame runner': "docs/ lists what makes a frame record sound". The list as a test, which every call makes first.
-- specs/Listed.antt has the list in words, and proofs/Sound.antt that the test is that list. Assumes nothing.
use Rattle.std.specs.Prelude.{ℕ, zero, suc, ◌+◌, Bool, true, false, not, ◌&&◌, List, get_or, leb, ltb, eqb, Option, None, Some}
use Rattle.records.specs.Limits.{most_jobs, largest_time}
use Rattle.frame_record.specs.Finite.{finite?}
use Rattle.frame_record.specs.declared.Phase.{Phase}
use Rattle.frame_record.specs.declared.Phase.TheVariants.{Idle, Open, Closed}
use Rattle.frame_record.specs.declared.Standing.{Standing}
use Rattle.frame_record.specs.declared.Standing.TheVariants.{Waiting, Out, Held, Late}
use Rattle.frame_record.specs.declared.Entry.{Entry}
use Rattle.frame_record.specs.declared.Frame.{Frame}
use Rattle.lookup.specs.Lookup.{first}

abbrev pub none : Entry
none = record { id = 0; away = false; standing = Waiting }

-- the entry at a table position, and the table position of the k-th job of the plan
abbrev pub entry_at : List Entry → ℕ → Entry
entry_at es i = get_or es i none

abbrev pub position_at : List ℕ → ℕ → ℕ
position_at order k = get_or order k 0

abbrev pub entry_id : Entry → ℕ
entry_id e = e.id

-- where the job of an id stands in the table
unfoldable pub where_is : Frame → ℕ → Option ℕ
where_is f id = first entry_id none f.entries id 0 f.count

-- the job now on the panel: the one that the plan is at
abbrev pub panel_position : Frame → ℕ
panel_position f = position_at f.order f.next

abbrev pub panel_entry : Frame → Entry
panel_entry f = entry_at f.entries (panel_position f)

abbrev pub itself : ℕ → ℕ
itself n = n

abbrev pub is_at : Option ℕ → ℕ → Bool
is_at (Some i) k = eqb i k
is_at None k = false

-- of the first `count`, none before the k-th has its id
unfoldable pub ok_id : List Entry → ℕ → ℕ → Bool
ok_id es count k = is_at (first entry_id none es (entry_at es k).id 0 count) k

-- what a job may stand at, by whether the panel is past it and whether it is away: a value only with this frame's number, and finite
abbrev pub ok_standing : ℕ → Bool → Bool → Standing → Bool
ok_standing number passed away Waiting = not passed
ok_standing number passed away Out = passed && away
ok_standing number passed away (Held s) = passed && (eqb s.frame number && finite? s.value)
ok_standing number passed away Late = passed

abbrev pub ok_entry : ℕ → Bool → Entry → Bool
ok_entry number passed e = ok_standing number passed e.away e.standing

-- the k-th job of the plan has a position in the table
unfoldable pub ok_order : List ℕ → ℕ → ℕ → Bool
ok_order order count k = ltb (position_at order k) count && is_at (first itself 0 order (position_at order k) 0 count) k

-- the k-th job of the plan has a position of its own, the k-th job of the table an id of its own, and the former stands where it may
unfoldable pub ok_at : Frame → ℕ → Bool
ok_at f k =
    ok_order f.order f.count k
    && (ok_id f.entries f.count k
    && ok_entry f.number (ltb k f.next) (entry_at f.entries (position_at f.order k)))

-- the n positions from k on
unfoldable pub ok_from : Frame → ℕ → ℕ → Bool
ok_from f k zero = true
ok_from f k (suc n) = ok_at f k && ok_from f (k + 1) n

abbrev pub ok_counts : Frame → Bool
ok_counts f = leb f.count most_jobs && leb f.next f.count

abbrev pub ok_deadline : ℕ → Bool
ok_deadline D = leb 1 D && leb D largest_time

unfoldable pub ok_begun : Frame → Bool
ok_begun f = ok_counts f && (ok_deadline f.deadline && ok_from f 0 f.count)

-- an idle record holds nothing that a call relies on
abbrev pub ok_in : Phase → Frame → Bool
ok_in Idle f = true
ok_in Open f = ok_begun f
ok_in Closed f = ok_begun f

-- the record is sound
unfoldable pub sound? : Frame → Bool
sound? f = ok_in f.phase f

-- by the phase
abbrev pub is_open : Phase → Bool
is_open Idle = false
is_open Open = true
is_open Closed = false

abbrev pub is_idle : Phase → Bool
is_idle Idle = true
is_idle Open = false
is_idle Closed = false

-- sound, and open; sound, and begun; sound, and not open
unfoldable pub open? : Frame → Bool
open? f = sound? f && is_open f.phase

unfoldable pub begun? : Frame → Bool
begun? f = sound? f && not (is_idle f.phase)

unfoldable pub ready? : Frame → Bool
ready? f = sound? f && not (is_open f.phase)
