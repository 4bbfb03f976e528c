-- `replaying::next_line` meets its contract: the line of a whole record, or the line that the run stops. Assumes nothing.
use native.Mathlib.Omega.{arith}
use mathlib.Core.Path.{refl, sym, ◌∙◌}
use lib.Seq.{length-take-le}
use Rattle.frame_log.proofs.Records.{whole_is, whole_taken}
use Rattle.octets.proofs.Writing.{ends_within}
use borrow.Author.Rules.{rules}
use Rattle.replaying.proofs.next_line.Goals as goal

pub returns-in_default : goal.returns-in_default
returns-in_default c =
    rw (sym c.record_at.ensures ∙ c.in_default.is)
    record {
      frame = refl;
      gone = refl;
      line = c.put_stopped-line.ensures;
      short = omega (arith, ends_within c.args.out.now 0 _ _ _ (omega arith) c.put_stopped-line.ensures (search rules), c.requires);
    }

pub slice_bounds-show-end : goal.slice_bounds-show-end
slice_bounds-show-end c =
    let whole = whole_is _ _ (sym c.record_at.ensures ∙ c.in-Some.is) in
    sym (length-take-le _ _ whole.within)

pub show-requires : goal.show-requires
show-requires c =
    let whole = whole_is _ _ (sym c.record_at.ensures ∙ c.in-Some.is) in
    (whole_taken _ _ whole, c.requires)

pub returns : goal.returns
returns c =
    let e = sym c.record_at.ensures ∙ c.in-Some.is in
    rw e
    record {
      frame = c.show.ensures.frame;
      gone = c.show.ensures.gone ∙ length-take-le _ _ (whole_is _ _ e).within;
      line = c.show.ensures.line;
      short = c.show.ensures.short;
    }
