use Rattle.std.proofs.Common.{rules}
use Rattle.link_model.proofs.Bits.{clear_zeros}
use Rattle.link_model.proofs.way_set.WaySet.new.Goals as goal

pub returns : goal.returns
returns c number = clear_zeros c.in_ok-vec.field-0.items 64 number (c.in_ok-vec.ensures.items_if_clones_equal (search rules))
