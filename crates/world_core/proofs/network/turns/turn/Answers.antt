use Rattle.std.proofs.Common.{◌≡◌, ◌<◌, ◌+◌, ◌∙◌, ap, refl, arith, length}
use Rattle.std.proofs.lemmas.Option.{slice_get_read}
use Rattle.std.proofs.lemmas.Result.{err_from_is_err_and}
use Rattle.world_core.specs.Turning.{returned}
use Rattle.world_core.proofs.Stopping.{handed_on}
use Rattle.world_core.proofs.Turned.{turned}
use Rattle.world_core.proofs.network.turns.turn.Goals as goal

pub returns-in_err-node-clause-stopped : goal.returns-in_err-node-clause-stopped
returns-in_err-node-clause-stopped g c =
    let old = c.args.nodes.now.items in
    let here = slice_get_read old (length old) c.args.rank c.swap_remove-node.result refl c.requires c.swap_remove-node.ensures.value in
    let out = err_from_is_err_and c.from_residual.result c.from_residual.ensures.1 in
    handed_on c.from_residual.result _ out.0 out.1 (rw out.2 (c.swap_remove-node.result, here, c.in_err-node.ensures.stopped))

pub returns-clause-turned : goal.returns-clause-turned
returns-clause-turned g c =
    let old = c.args.nodes.now.items in
    let short = c.swap_remove-node.new.self.items in
    let new = c.in_ok-node.node in
    let here = slice_get_read old (length old) c.args.rank c.swap_remove-node.result refl c.requires c.swap_remove-node.ensures.value in
    let is_n : c.args.nodes.now.len ≡ length old = c.args.nodes.now.ok.0 in
    let is_short : c.swap_remove-node.new.self.len ≡ length short = c.swap_remove-node.new.self.ok.0 in
    let fewer = c.swap_remove-node.ensures.len in
    let shorter : length short + 1 ≡ c.args.nodes.now.len = omega (arith, fewer, is_short) in
    let inside : c.args.rank < c.args.nodes.now.len = omega (arith, is_n) in
    let turns = turned old short c.args.rank c.args.nodes.now.len new is_n shorter inside c.swap_remove-node.ensures.by_index.0 c.swap_remove-node.ensures.by_index.1 in (
      c.swap_remove-node.result,
      new,
      here,
      c.put_back.ensures ∙ (ap (λ l. returned l c.args.rank new) c.reserve.ensures.items ∙ turns),
      record { stands = c.in_ok-node.ensures.node; answers = c.in_ok-node.ensures.outputs },
    )
