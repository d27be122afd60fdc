use Rattle.std.proofs.Common.{arith, ap}
use Rattle.link_model.specs.Ways.{OneWay}
use Rattle.link_model.proofs.Keeping.{way_at}
use Rattle.link_model.proofs.Standing.{ways_after, keeps_of}
use Rattle.link_model.proofs.links.Links.channel_at.Goals as goal

pub index-requires : goal.index-requires
index-requires c = omega (arith, c.requires, c.args.self.now.sized, c.args.self.now.channels.ok.0)

pub returns : goal.returns
returns c net acts from to stands placed =
    let was = way_at net c.args.self.now (ways_after acts) from to c.args.way c.index.result.now c.args.self.now.sized (keeps_of net c.args.self.now acts stands) placed c.index.ensures in
    record { state = ap (λ (k : OneWay). k.state) was; items = ap (λ (k : OneWay). k.items) was }
