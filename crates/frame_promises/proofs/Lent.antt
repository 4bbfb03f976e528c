-- "The panel's loop lends its frame record and finds it brought up to date there": a sequence of calls on a lent record is one by value, and so
-- every promise of this crate is made of it too. Assumes nothing.
use mathlib.Core.Path.{◌≡◌}
use mathlib.Core.List.{List, [], ◌∷◌, map}
use Rattle.frame_promises.specs.Call.{Call, begin, event}
use Rattle.frame_record.specs.declared.Frame.{Frame}
use Rattle.frame_record.specs.declared.Called.{Called}
use Rattle.frame_promises.specs.History.{Turn, idle, replies}
use Rattle.frame_promises.specs.Runs.{Allows, Runs, FromIdle}
use Rattle.frame_promises.specs.Lent.{LentAllows, LentFromIdle}
use Rattle.frame_promises.proofs.Replies.{replies_told}

same_step : (f : Frame) (c : Call) (s : Called) → LentAllows f c s → Allows f c s
same_step f (begin table plan n) s e = e
same_step f (event x) s e = e

same_runs : (ts : List Turn) (f : Frame) → Runs LentAllows f ts → Runs Allows f ts
same_runs [] f r = tt
same_runs (t ∷ ts) f (s, may, said, r) = (s, same_step f t.call s may, said, same_runs ts s.frame r)

pub lent_runs : (ts : List Turn) → LentFromIdle ts → FromIdle ts
lent_runs ts (f, starts, r) = (f, starts, same_runs ts f r)

-- the same answers
pub lent_told : (ts : List Turn) → LentFromIdle ts → map (λ (t : Turn). t.said) ts ≡ replies idle (map (λ (t : Turn). t.call) ts)
lent_told ts r = replies_told ts (lent_runs ts r)
