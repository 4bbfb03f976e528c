-- `lister::main` meets its contract: the bytes that it writes out are the text that stands at the front of the buffer. Assumes nothing.
use Rattle.listing.proofs.Texts.{text_counts}
use Rattle.lister.proofs.main.Goals as goal

pub slice_bounds-out-end : goal.slice_bounds-out-end
slice_bounds-out-end c = (text_counts c.in-Some.m c.list_plan.ensures c.in-Some.is).0

pub slice_bounds-write_all-end : goal.slice_bounds-write_all-end
slice_bounds-write_all-end c = (text_counts c.in-Some.m c.list_plan.ensures c.in-Some.is).1
