use Rattle.link_model.proofs.Ranked.{ranked_more}
use Rattle.link_model.proofs.ranks.Ranks.new.Goals as goal

pub loop-number-preserved : goal.loop-number-preserved
loop-number-preserved c =
    rw c.in_ok-push.ensures.items (ranked_more c.args.nodes.now c.loop-number.number c.new.result c.loop-number.places.items c.place_of.result c.new.ensures c.requires c.loop-number.invariant c.place_of.ensures.some c.place_of.ensures.none)
