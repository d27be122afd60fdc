use Rattle.std.proofs.Common.{◌∙◌, sym, true≢false}
use Rattle.link_model.proofs.Keeping.{way_inside}
use Rattle.link_model.proofs.Standing.{ways_after, keeps_of}
use Rattle.link_model.proofs.links.Links.state_near.Goals as goal

pub returns-in_default : goal.returns-in_default
returns-in_default c net acts stands link =
    absurd (true≢false (sym link ∙ c.in_default.ensures.none net (ways_after acts) (keeps_of net c.args.self.now acts stands)))

pub channel_at-requires : goal.channel_at-requires
channel_at-requires c = way_inside c.args.self.now c.args.a c.args.b c.in-Some.way c.in-Some.ensures.some
