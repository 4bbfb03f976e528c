-- `lines::put_field` meets its contract: the word, and the number behind it. Assumes nothing.
use Rattle.octets.specs.Decimals.{decimal}
use Rattle.octets.proofs.Writing.{both}
use Rattle.lines.proofs.put_field.Goals as goal

pub returns : goal.returns
returns c =
    both c.args.out.now c.args.at c.args.word.now (decimal c.args.n) c.requires
    c.put-end.ensures c.put_number.ensures
