use Rattle.std.proofs.Common.{◌&&◌, nat_lt, length, refl}
use Rattle.std.specs.Prelude.{nat_le}
use Rattle.std.proofs.lemmas.Result.{IfOk-weaker, IfErr-weaker}
use Rattle.topology.specs.Lists.{has}
use Rattle.topology.specs.Net.{linked}
use Rattle.chronicle.specs.Inputs as input
use Rattle.chronicle.specs.declared.events.Event.TheVariants.{Originate, Withdraw, Snap, Propose}
use Rattle.world_core.proofs.Handed.{both_of, is_below, passes_on, originates, withdraws, snaps, proposes}
use Rattle.world_core.proofs.network.Network.act.Goals as goal

pub give-requires-clause-node : goal.give-requires-clause-node
give-requires-clause-node g c =
    let net = c.args.self.now.topology.value in
    (both_of (has net.nodes c.in-Originate.node) (nat_lt c.in-Originate.prefix (length net.prefixes)) (rw c.in-Originate.is at c.requires.fits)).0

pub give-requires-in-Withdraw-clause-node : goal.give-requires-in-Withdraw-clause-node
give-requires-in-Withdraw-clause-node g c =
    let net = c.args.self.now.topology.value in
    (both_of (has net.nodes c.in-Withdraw.node) (nat_lt c.in-Withdraw.prefix (length net.prefixes)) (rw c.in-Withdraw.is at c.requires.fits)).0

pub prefer-requires-clause-near : goal.prefer-requires-clause-near
prefer-requires-clause-near g c =
    let net = c.args.self.now.topology.value in
    (both_of (linked net c.in-Prefer.node c.in-Prefer.nbr) (nat_le c.in-Prefer.value 1000000) (rw c.in-Prefer.is at c.requires.fits)).0

pub returns-in-Originate : goal.returns-in-Originate
returns-in-Originate g c =
    let rules = g.P.Policy.rules c.args.self.now.policy in
    rw c.in-Originate.is
    (passes_on rules (Originate c.in-Originate.node c.in-Originate.prefix) c.in-Originate.node (input.Originate c.in-Originate.prefix) c.args.self.now c.args.self.now c.give.new.self c.give.result refl refl c.give.ensures.others c.give.ensures.comes c.give.ensures.stopped
    (λ past counts was regular. originates rules past counts c.args.self.now was c.in-Originate.node c.in-Originate.prefix (rw c.in-Originate.is at c.requires.fits)))

pub returns-in-Withdraw : goal.returns-in-Withdraw
returns-in-Withdraw g c =
    let rules = g.P.Policy.rules c.args.self.now.policy in
    rw c.in-Withdraw.is
    (passes_on rules (Withdraw c.in-Withdraw.node c.in-Withdraw.prefix) c.in-Withdraw.node (input.Withdraw c.in-Withdraw.prefix) c.args.self.now c.args.self.now c.give-in-Withdraw.new.self c.give-in-Withdraw.result refl refl c.give-in-Withdraw.ensures.others c.give-in-Withdraw.ensures.comes c.give-in-Withdraw.ensures.stopped
    (λ past counts was regular. withdraws rules past counts c.args.self.now was c.in-Withdraw.node c.in-Withdraw.prefix (rw c.in-Withdraw.is at c.requires.fits)))

pub returns-in-Snap : goal.returns-in-Snap
returns-in-Snap g c =
    let rules = g.P.Policy.rules c.args.self.now.policy in
    rw c.in-Snap.is
    (passes_on rules (Snap c.in-Snap.node) c.in-Snap.node input.Snap c.args.self.now c.args.self.now c.give-in-Snap.new.self c.give-in-Snap.result refl refl c.give-in-Snap.ensures.others c.give-in-Snap.ensures.comes c.give-in-Snap.ensures.stopped
    (λ past counts was regular. snaps rules past counts c.args.self.now was c.in-Snap.node))

pub returns-in-Prefer : goal.returns-in-Prefer
returns-in-Prefer g c = rw c.in-Prefer.is c.prefer.ensures

pub returns-in-Deliver : goal.returns-in-Deliver
returns-in-Deliver g c = rw c.in-Deliver.is c.deliver.ensures

pub returns-in-Notice : goal.returns-in-Notice
returns-in-Notice g c = rw c.in-Notice.is c.notice.ensures

pub returns-in-OpenSession : goal.returns-in-OpenSession
returns-in-OpenSession g c = rw c.in-OpenSession.is c.open_session.ensures

pub returns-in-Flush : goal.returns-in-Flush
returns-in-Flush g c = rw c.in-Flush.is c.flush.ensures

pub returns-in-Fail : goal.returns-in-Fail
returns-in-Fail g c = record {
  others = c.fail.ensures.others;
  comes = λ past counts was regular. rw c.in-Fail.is (c.fail.ensures.comes past counts was);
  stopped = tt;
}

pub returns-in-Restore : goal.returns-in-Restore
returns-in-Restore g c = record {
  others = c.restore.ensures.others;
  comes = λ past counts was regular. rw c.in-Restore.is (c.restore.ensures.comes past counts was regular);
  stopped = tt;
}

pub crash-requires-clause-node : goal.crash-requires-clause-node
crash-requires-clause-node g c = rw c.in-Crash.is at c.requires.fits

pub restart-requires-clause-node : goal.restart-requires-clause-node
restart-requires-clause-node g c = rw c.in-Restart.is at c.requires.fits

pub returns-in-Crash : goal.returns-in-Crash
returns-in-Crash g c = record {
  others = c.crash.ensures.others;
  comes = λ past counts was regular. rw c.in-Crash.is (c.crash.ensures.comes past counts was);
  stopped = tt;
}

pub returns-in-Restart : goal.returns-in-Restart
returns-in-Restart g c = record {
  others = c.restart.ensures.others;
  comes = λ past counts was regular. rw c.in-Restart.is (c.restart.ensures.comes past counts was);
  stopped = tt;
}

pub returns-in-Propose : goal.returns-in-Propose
returns-in-Propose g c =
    let rules = g.P.Policy.rules c.args.self.now.policy in
    rw c.in-Propose.is
    (passes_on rules (Propose c.in-Propose.node c.in-Propose.epoch) c.in-Propose.node (input.Propose c.in-Propose.epoch) c.args.self.now c.args.self.now c.give-in-Propose.new.self c.give-in-Propose.result refl refl c.give-in-Propose.ensures.others c.give-in-Propose.ensures.comes c.give-in-Propose.ensures.stopped
    (λ past counts was regular. proposes rules past counts c.args.self.now was c.in-Propose.node c.in-Propose.epoch))

pub returns-in-Control : goal.returns-in-Control
returns-in-Control g c = rw c.in-Control.is c.control.ensures

pub inject-requires-clause-node : goal.inject-requires-clause-node
inject-requires-clause-node g c =
    let net = c.args.self.now.topology.value in
    let named = (both_of (nat_le 1 c.in-Inject.packet) (has net.nodes c.in-Inject.node && nat_lt c.in-Inject.prefix (length net.prefixes)) (rw c.in-Inject.is at c.requires.fits)).1 in
    (both_of (has net.nodes c.in-Inject.node) (nat_lt c.in-Inject.prefix (length net.prefixes)) named).0

pub inject-requires-clause-prefix : goal.inject-requires-clause-prefix
inject-requires-clause-prefix g c =
    let net = c.args.self.now.topology.value in
    let named = (both_of (nat_le 1 c.in-Inject.packet) (has net.nodes c.in-Inject.node && nat_lt c.in-Inject.prefix (length net.prefixes)) (rw c.in-Inject.is at c.requires.fits)).1 in
    is_below c.in-Inject.prefix (length net.prefixes) (both_of (has net.nodes c.in-Inject.node) (nat_lt c.in-Inject.prefix (length net.prefixes)) named).1

pub returns-in-Inject : goal.returns-in-Inject
returns-in-Inject g c = record {
  others = c.inject.ensures.others;
  comes = IfOk-weaker c.inject.result _ _ (λ r h past counts was regular. rw c.in-Inject.is (h past counts was tt)) c.inject.ensures.comes;
  stopped = IfErr-weaker c.inject.result _ _ (λ why h past counts was regular. rw c.in-Inject.is (h past counts was tt)) c.inject.ensures.stopped;
}

pub returns-in-Hop : goal.returns-in-Hop
returns-in-Hop g c = record {
  others = c.hop.ensures.others;
  comes = IfOk-weaker c.hop.result _ _ (λ r h past counts was regular. rw c.in-Hop.is (h past counts was tt)) c.hop.ensures.comes;
  stopped = IfErr-weaker c.hop.result _ _ (λ why h past counts was regular. rw c.in-Hop.is (h past counts was tt)) c.hop.ensures.stopped;
}
