use Rattle.std.proofs.Common.{◌∙◌, refl}
use Rattle.topology.specs.declared.items.Item.TheVariants as message
use Rattle.topology.specs.declared.names.Scope.TheVariants.{All}
use Rattle.path_vector.specs.declared.causes.Cause.TheVariants.{Up}
use Rattle.trigger_log.specs.Entries.{local}
use Rattle.trigger_log.specs.Making.{making}
use Rattle.chronicle.specs.Logs.{log_of}
use Rattle.node_core.specs.declared.outputs.Output.TheVariants as given
use Rattle.node_core.proofs.Entering.{opened_keeps, opened_hands}
use Rattle.node_core.proofs.Handing.{one_more}
use Rattle.node_core.proofs.node.Node.open.Goals as goal

pub returns-clause-node : goal.returns-clause-node
returns-clause-node g c policy net u carried past was may =
    let rules = g.P.Policy.rules policy in
    let h = log_of u past in
    opened_keeps policy rules net u c.args.nbr c.args.session carried past
    (λ w. c.an_opening_says_nothing.ensures (making rules net u h (local u h All (Up c.args.nbr c.args.session))) c.args.nbr c.args.session w was.keeps.log.fitting may.fits.0 may.fits.1 refl)
    c.in_ok-node.node (c.in_ok-node.ensures.node policy net u carried past was.keeps may)

pub returns-clause-outputs : goal.returns-clause-outputs
returns-clause-outputs g c policy net u carried past first was may hands =
    let rules = g.P.Policy.rules policy in
    let h = log_of u past in
    let e = c.epoch-epoch.result in
    let mid = c.enter_own.new.outputs in
    opened_hands policy rules net u c.args.nbr c.args.session carried past
    (λ w. c.an_opening_says_nothing.ensures (making rules net u h (local u h All (Up c.args.nbr c.args.session))) c.args.nbr c.args.session w was.keeps.log.fitting may.fits.0 may.fits.1 refl)
    first mid c.push.new.self e ((rw c.deref.ensures at c.epoch-epoch.ensures) net u was.keeps.acts was.keeps.snapshots ∙ was.keeps.alike.same_epoch)
    (one_more mid c.push.new.self (given.Send (record { to = c.args.nbr; session = c.args.session; item = message.Hello e })) c.in_ok-push.ensures)
    (c.in_ok-node.ensures.outputs policy net u carried past first was.keeps may hands)
