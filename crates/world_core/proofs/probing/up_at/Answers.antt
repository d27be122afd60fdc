use Rattle.std.proofs.Common.{◌∙◌, sym, ap}
use Rattle.std.specs.Prelude.{if◌then◌else◌, Some, None}
use Rattle.topology.specs.LinkStates.{is_up}
use Rattle.world_core.proofs.Listed.{told_up}
use Rattle.world_core.proofs.probing.up_at.Goals as goal

pub returns-then-is_up : goal.returns-then-is_up
returns-then-is_up c past are =
    let l = c.in_ok-link.link in
    ap (λ b. if b then Some (l.0, l.1) else None) (sym c.if-is_up.true)
    ∙ told_up past c.args.topology.now.links c.args.place l c.is_up.result (sym c.in_ok-link.was ∙ c.link_at.ensures)
    (λ near. c.is_up.ensures ∙ ap is_up (c.state.ensures c.args.topology.now are.acts are.stands near ∙ are.states l.0 l.1))

pub returns-else-is_up : goal.returns-else-is_up
returns-else-is_up c past are =
    let l = c.in_ok-link.link in
    ap (λ b. if b then Some (l.0, l.1) else None) (sym c.if-is_up.false)
    ∙ told_up past c.args.topology.now.links c.args.place l c.is_up.result (sym c.in_ok-link.was ∙ c.link_at.ensures)
    (λ near. c.is_up.ensures ∙ ap is_up (c.state.ensures c.args.topology.now are.acts are.stands near ∙ are.states l.0 l.1))
