use Rattle.std.proofs.Common.{sym, ◌∙◌, ap, true≢false, slice_get}
use Rattle.link_model.specs.Tables.{ways_of}
use Rattle.link_model.proofs.Standing.{ways_after, keeps_of}
use Rattle.link_model.specs.WaySets.{has_number}
use Rattle.world_core.specs.WaySets.{has_way}
use Rattle.world_core.proofs.Changing.{looked}
use Rattle.world_core.proofs.Numbered.{put_way}
use Rattle.world_core.proofs.network.Network.look.Goals as goal

pub returns-in_default : goal.returns-in_default
returns-in_default g c past counts turned stands was =
    let links = stands.are_links in
    let net = c.args.self.now.topology.value in
    absurd (true≢false (sym was.near.0 ∙ c.in_default.ensures.none net (ways_after links.acts) (keeps_of net c.args.self.now.links links.acts links.stands)))

pub put-requires : goal.put-requires
put-requires g c = c.in-Some.ensures.few

pub returns : goal.returns
returns g c past counts turned stands was =
    let net = c.args.self.now.topology.value in
    let way = c.args.way.now in
    let placed = c.in-Some.ensures.some in
    let same = stands.are_links.stands.numbered in
    looked net past way turned (has_way net c.args.open_ways.now) (has_way net c.put.new.self) c.opens.result
    (put_way (ways_of net) way c.in-Some.number c.opens.result (has_number c.args.open_ways.now) (has_number c.put.new.self)
    (ap (λ l. slice_get l c.in-Some.number) (sym same) ∙ placed.here) (λ i there. placed.only i (ap (λ l. slice_get l i) same ∙ there)) c.put.ensures)
    (c.opens.ensures past counts stands) was
