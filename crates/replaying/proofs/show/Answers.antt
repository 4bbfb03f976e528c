-- `replaying::show` meets its contract: the call's word, and its answer's text behind it. Assumes nothing.
use native.Mathlib.Omega.{arith}
use mathlib.Core.Path.{refl, ap}
use Rattle.octets.proofs.Writing.{then, ends_within}
use Rattle.frame_record.specs.declared.Called.{Called}
use Rattle.replaying.specs.Lines.{call_word, call_line}
use borrow.Author.Rules.{rules}
use Rattle.replaying.proofs.show.Goals as goal

pub returns : goal.returns
unfolding call_line
returns c =
    let answer = rw c.called-called.ensures at c.put_answer-size.ensures in
    let line = then c.args.out.now 0 (call_word c.args.kind) _ (omega arith) (rw c.word_of.ensures at c.put-at.ensures) answer in
    record {
      frame = ap (λ (x : Called). x.frame) c.called-called.ensures;
      gone = refl;
      line = line;
      short = omega (arith, ends_within c.args.out.now 0 _ _ _ (omega arith) line (search rules), c.requires.1);
    }
