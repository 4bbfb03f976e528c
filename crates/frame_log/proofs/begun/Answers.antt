-- `frame_log::begun` meets its contract: the two parts of the record are the table and the plan. Assumes nothing.
use Prim.Native.Nat.{ℕ, ◌+◌, ◌-◌}
use native.Mathlib.Omega.{arith}
use mathlib.Core.Path.{◌≡◌, ◌∙◌}
use mathlib.Core.List.{List}
use lib.ListN.{length, take, drop, length-drop}
use lib.Seq.{take_all}
use Rattle.octets.specs.Numbers.{two_at, four_at}
use Rattle.frame_record.specs.declared.Frame.{Frame}
use Rattle.frame_begin.specs.Begin.{begin_step}
use Rattle.frame_log.specs.Log.{begin_of}
use Rattle.frame_log.proofs.begun.Goals as goal

-- the parts of the record, as the code cuts them
parts :
    (f : Frame) (s : List ℕ) (t n : ℕ) → t ≡ two_at s 5 → n ≡ four_at s 1 →
    begin_step f (take (9 + t - 9) (drop 9 s)) (take (length s - (9 + t)) (drop (9 + t) s)) n ≡ begin_of f s
unfolding begin_of
parts f s t n e g =
    let table : 9 + t - 9 ≡ t = omega arith in
    let plan : take (length s - (9 + t)) (drop (9 + t) s) ≡ drop (9 + t) s =
    take_all (length s - (9 + t)) (drop (9 + t) s) (omega (arith, length-drop (9 + t) s)) in
    rw (table, plan, e, g)

pub returns : goal.returns
returns c = c.begin.ensures ∙ parts c.args.frame c.args.s.now _ _ c.two_at.ensures c.four_at-number.ensures
