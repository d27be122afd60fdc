use Rattle.std.proofs.Common.{◌∙◌}
use Rattle.link_model.proofs.Ranked.{is_near}
use Rattle.link_model.proofs.way_table.is_near.Goals as goal

pub returns : goal.returns
returns c rises = c.is_some.ensures ∙ is_near c.args.near.now c.args.node c.place_of.result c.place_of.ensures.some c.place_of.ensures.none rises
