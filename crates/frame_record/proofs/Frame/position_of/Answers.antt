-- `frame_record::Frame::position_of` meets its contract: what the library finds is the first. Assumes nothing.
use Rattle.std.proofs.Common.{◌≡◌, rules, sym, ◌∙◌, length, take, tests}
use lib.Dec.{eqb}
use Rattle.std.proofs.lemmas.Iterator.{YieldsList-from_slice}
use Rattle.std.proofs.lemmas.Iterator.Search.{position_from_yields_List}
use Rattle.frame_record.specs.Sound.{none, entry_id, where_is}
use Rattle.frame_record.specs.declared.Entry.{Entry}
use Rattle.frame_record.proofs.Positions.{first_front}
use Rattle.frame_record.proofs.Frame.position_of.Goals as goal

pub returns : goal.returns
unfolding where_is
returns c =
    let full : length c.args.self.now.entries ≡ 32 = search rules in
    position_from_yields_List (λ (e : Entry). eqb e.id c.args.id) _ _ c.position.result c.position.ensures.ran
    (YieldsList-from_slice (take c.args.self.now.count c.args.self.now.entries) c.iter.ensures.rest)
    (λ x b q k. search (rules, tests))
    ∙ sym (first_front entry_id none c.args.self.now.entries c.args.id c.args.self.now.count (rw full c.requires))
