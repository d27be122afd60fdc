use Rattle.std.proofs.Common.{◌≡◌, ◌≤◌, ◌+◌, ◌∙◌, ◌++◌, drop, map, refl, sym, ap, arith, length, subst}
use Rattle.std.proofs.lemmas.Option.{slice_get_read}
use Rattle.topology.specs.Net.{neighbours}
use Rattle.world_core.specs.Refreshing.{AreOpenBut, way}
use Rattle.world_core.specs.WaySets.{has_way}
use Rattle.world_core.proofs.Places.{drop_at, drop_end}
use Rattle.world_core.proofs.network.Network.look_at_node.Goals as goal

pub loop-nbr-init : goal.loop-nbr-init
loop-nbr-init g c = record {
  known = λ past counts turned matches was.
      let net = c.args.self.now.topology.value in
      let near : c.neighbours-nbr-items.result.now ≡ neighbours net c.args.node = c.neighbours-nbr-items.ensures.neighbours ∙ ap (λ t. neighbours t c.args.node) c.deref.ensures in
      subst (λ l. AreOpenBut net past (map (λ v. way v c.args.node) l ++ turned) (has_way net c.args.open_ways.now)) (sym near) was;
}

pub loop-nbr-preserved : goal.loop-nbr-preserved
loop-nbr-preserved g c =
    let near = c.neighbours-nbr-items.result.now in
    let i = c.loop-nbr.nbr-index in
    let here = slice_get_read near (length near) i c.nbr-item.result refl c.loop-nbr-test.true c.nbr-item.is in
    record {
      known = λ past counts turned matches was.
          c.look.ensures past counts (map (λ v. way v c.args.node) (drop (i + 1) near) ++ turned) matches
          (subst (λ l. AreOpenBut c.args.self.now.topology.value past (map (λ v. way v c.args.node) l ++ turned) (has_way c.args.self.now.topology.value c.loop-nbr.open_ways)) (drop_at near i c.nbr-item.result here)
          (c.loop-nbr.invariant.known past counts turned matches was));
    }

pub returns : goal.returns
returns g c past counts turned matches was =
    let near = c.neighbours-nbr-items.result.now in
    let ends : length near ≤ c.loop-nbr.nbr-index = omega arith in
    subst (λ l. AreOpenBut c.args.self.now.topology.value past (map (λ v. way v c.args.node) l ++ turned) (has_way c.args.self.now.topology.value c.loop-nbr.open_ways)) (drop_end near c.loop-nbr.nbr-index ends)
    (c.loop-nbr.invariant.known past counts turned matches was)
