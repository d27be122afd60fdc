use Rattle.std.proofs.Common.{◌∙◌, sym, ap}
use Rattle.chronicle.specs.Run.{is_stopped}
use Rattle.world_core.proofs.Crashing.{LettersStay, actor_is_node}
use Rattle.world_core.proofs.Mailing.{letter_inside}
use Rattle.world_core.proofs.network.Network.is_stopped.Goals as goal

pub returns-in-Some : goal.returns-in-Some
returns-in-Some g c past counts was fit =
    let net = c.args.self.now.topology.value in
    let is = sym (c.actor.ensures past counts was) ∙ c.in-Some.is in
    let stay : LettersStay net past = λ number m there. (letter_inside net past counts c.args.self.now.mails was.are_mails number m there).1 in
    c.is_crashed.ensures past counts was (actor_is_node net past c.args.event.now c.in-Some.node was.are_nodes.valid stay (λ k at there. (was.are_walks.inside k at there).node_is_in) fit is) ∙ ap (is_stopped past) (sym is)

pub returns-in-None : goal.returns-in-None
returns-in-None g c past counts was fit = ap (is_stopped past) (sym c.in-None.is ∙ c.actor.ensures past counts was)
