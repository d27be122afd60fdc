use Rattle.std.proofs.Common.{sym, ◌∙◌, ap₂, refl}
use Rattle.topology.specs.declared.status.Reason.TheVariants.{StillUp}
use Rattle.topology.proofs.Neighbours.{linked_nodes}
use Rattle.chronicle.specs.Inputs as input
use Rattle.chronicle.specs.Run.{is_carried}
use Rattle.chronicle.specs.declared.events.Event.TheVariants.{Notice}
use Rattle.world_core.proofs.Carried.{link_read}
use Rattle.world_core.proofs.AfterSteps.{idle, notice_up}
use Rattle.world_core.proofs.Handed.{passes_on, notices}
use Rattle.world_core.proofs.network.Network.notice.Goals as goal

pub returns-then-is_carried : goal.returns-then-is_carried
returns-then-is_carried g c = record {
  others = record { policy = refl; topology = refl };
  comes = λ past counts was regular.
      let rules = g.P.Policy.rules c.args.self.now.policy in
      let net = c.args.self.now.topology.value in
      let links = was.are_links in
      let is = link_read net past c.args.self.now.links links c.args.node c.args.nbr c.state.result (c.state.ensures net links.acts links.stands c.requires.near) in
      let carried = ap₂ is_carried is (sym (c.held.ensures past counts was c.requires.near)) in
      idle rules past counts _ _ StillUp (notice_up rules net past c.args.node c.args.nbr (carried ∙ (sym c.is_carried.ensures ∙ c.if-is_carried.true))) was;
  stopped = tt;
}

pub give-requires-clause-node : goal.give-requires-clause-node
give-requires-clause-node g c = (linked_nodes c.args.self.now.topology.value c.args.node c.args.nbr c.requires.places.valid c.requires.near).0

pub returns : goal.returns
returns g c =
    let rules = g.P.Policy.rules c.args.self.now.policy in
    passes_on rules (Notice c.args.node c.args.nbr) c.args.node (input.Notice c.args.nbr) c.args.self.now c.args.self.now c.give.new.self c.give.result refl refl c.give.ensures.others c.give.ensures.comes c.give.ensures.stopped
    (λ past counts was regular.
    let links = was.are_links in
    let is = link_read c.args.self.now.topology.value past c.args.self.now.links links c.args.node c.args.nbr c.state.result (c.state.ensures c.args.self.now.topology.value links.acts links.stands c.requires.near) in
    let carried = ap₂ is_carried is (sym (c.held.ensures past counts was c.requires.near)) in
    notices rules past counts c.args.self.now was c.args.node c.args.nbr c.requires.near (carried ∙ (sym c.is_carried.ensures ∙ c.if-is_carried.false)))
