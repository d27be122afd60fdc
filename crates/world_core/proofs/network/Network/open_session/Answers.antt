use Rattle.std.proofs.Common.{refl, sym, ◌∙◌, ap, is_some, None}
use Rattle.topology.specs.declared.links.LinkState.TheVariants.{Down}
use Rattle.topology.specs.declared.status.Reason.TheVariants.{AlreadyOpen, LinkDown}
use Rattle.topology.proofs.Neighbours.{linked_nodes}
use Rattle.chronicle.specs.Inputs as input
use Rattle.chronicle.specs.Run.{held_with}
use Rattle.chronicle.specs.declared.events.Event.TheVariants.{OpenSession}
use Rattle.world_core.proofs.Carried.{link_read}
use Rattle.world_core.proofs.AfterSteps.{idle, none_of, open_held, open_step}
use Rattle.world_core.proofs.Handed.{passes_on, opens}
use Rattle.world_core.proofs.network.Network.open_session.Goals as goal

pub returns-then-is_some : goal.returns-then-is_some
returns-then-is_some g c = record {
  others = record { policy = refl; topology = refl };
  comes = λ past counts was regular.
      let rules = g.P.Policy.rules c.args.self.now.policy in
      let net = c.args.self.now.topology.value in
      idle rules past counts _ _ AlreadyOpen
      (open_held rules net past c.args.node c.args.nbr (held_with c.args.node c.args.nbr past) refl (ap is_some (sym (c.held.ensures past counts was c.requires.near)) ∙ (sym c.is_some.ensures ∙ c.if-is_some.true))) was;
  stopped = tt;
}

pub returns-in_default : goal.returns-in_default
returns-in_default g c = record {
  others = record { policy = refl; topology = refl };
  comes = λ past counts was regular.
      let rules = g.P.Policy.rules c.args.self.now.policy in
      let net = c.args.self.now.topology.value in
      let links = was.are_links in
      let none = none_of (held_with c.args.node c.args.nbr past) (ap is_some (sym (c.held.ensures past counts was c.requires.near)) ∙ (sym c.is_some.ensures ∙ c.if-is_some.false)) in
      let is = link_read net past c.args.self.now.links links c.args.node c.args.nbr c.state.result (c.state.ensures net links.acts links.stands c.requires.near) in
      idle rules past counts _ _ LinkDown (open_step rules net past c.args.node c.args.nbr None (Down c.in_default.field-0) none (is ∙ c.in_default.is)) was;
  stopped = tt;
}

pub give-requires-clause-node : goal.give-requires-clause-node
give-requires-clause-node g c = (linked_nodes c.args.self.now.topology.value c.args.node c.args.nbr c.requires.places.valid c.requires.near).0

pub returns : goal.returns
returns g c =
    let rules = g.P.Policy.rules c.args.self.now.policy in
    passes_on rules (OpenSession c.args.node c.args.nbr) c.args.node (input.OpenSession c.args.nbr c.in-Up.session) c.args.self.now c.args.self.now c.give.new.self c.give.result refl refl c.give.ensures.others c.give.ensures.comes c.give.ensures.stopped
    (λ past counts was regular.
    let links = was.are_links in
    let none = none_of (held_with c.args.node c.args.nbr past) (ap is_some (sym (c.held.ensures past counts was c.requires.near)) ∙ (sym c.is_some.ensures ∙ c.if-is_some.false)) in
    let is = link_read c.args.self.now.topology.value past c.args.self.now.links links c.args.node c.args.nbr c.state.result (c.state.ensures c.args.self.now.topology.value links.acts links.stands c.requires.near) in
    opens rules past counts c.args.self.now was c.args.node c.args.nbr c.in-Up.session c.requires.near none (is ∙ c.in-Up.is))
