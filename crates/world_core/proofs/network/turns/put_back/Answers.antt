use Rattle.std.proofs.Common.{◌≡◌, ◌<◌, refl, arith, length}
use Rattle.std.proofs.lemmas.Option.{slice_get_read}
use Rattle.world_core.proofs.Turned.{put_there}
use Rattle.world_core.proofs.network.turns.put_back.Goals as goal

pub returns : goal.returns
returns g c =
    let items = c.args.nodes.now.items in
    let is_n : c.args.nodes.now.len ≡ length items = c.args.nodes.now.ok.0 in
    let counted = c.len.ensures in
    let below = c.if-rank-len.false in
    let inside : c.args.rank < length items = omega (arith, is_n, counted, below) in
    let here = slice_get_read items (length items) c.args.rank c.index_mut.result.now refl inside c.index_mut.ensures.value in
    put_there items c.push_reserved-2.new.self.items c.args.rank c.args.node c.replace-other.new.dest c.replace-other.result c.index_mut.result.now here
    c.replace-other.ensures.after c.replace-other.ensures.value c.push_reserved-2.ensures.items
