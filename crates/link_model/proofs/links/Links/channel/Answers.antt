use Rattle.link_model.proofs.Keeping.{way_inside}
use Rattle.link_model.proofs.Standing.{ways_after, keeps_of}
use Rattle.link_model.proofs.Tables.{if_none}
use Rattle.link_model.proofs.links.Links.channel.Goals as goal

pub returns-in_err-way-clause-none : goal.returns-in_err-way-clause-none
returns-in_err-way-clause-none c = if_none c.from_residual.result _ (λ none net acts stands. c.in_err-way.ensures.none net (ways_after acts) (keeps_of net c.args.self.now acts stands))

pub channel_at-requires : goal.channel_at-requires
channel_at-requires c = way_inside c.args.self.now c.args.from c.args.to c.in_ok-way.way c.in_ok-way.ensures.some

pub returns-clause-some : goal.returns-clause-some
returns-clause-some c net acts stands = c.channel_at.ensures net acts c.args.from c.args.to stands c.in_ok-way.ensures.some
