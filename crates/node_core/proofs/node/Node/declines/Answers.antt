use Rattle.std.proofs.Common.{◌≡◌, suc, arith}
use Rattle.chronicle.specs.Logs.{log_of}
use Rattle.node_core.proofs.Answering.{counted, other_session, wrong_turn, takes, no_turn, its_turn, not_its_turn}
use Rattle.node_core.proofs.Counting.{received_low}
use Rattle.node_core.proofs.node.Node.declines.Goals as goal

pub returns-in_default-clause-some : goal.returns-in_default-clause-some
returns-in_default-clause-some g c policy net u carried past was may =
    other_session (g.P.Policy.rules policy) net u past c.args.from may.0 c.args.session c.args.item.now c.received_in_held.result
    ((rw c.deref.ensures at c.received_in_held.ensures) policy net u (log_of u past) was.keeps.log may.0) c.in_default.is carried

pub returns-in_default-item : goal.returns-in_default-item
returns-in_default-item g c = record {
  some = tt;
  none = λ policy net u past was may.
      takes (g.P.Policy.rules policy) net u past c.args.from may.0 c.args.session c.args.item.now c.received_in_held.result
      ((rw c.deref.ensures at c.received_in_held.ensures) policy net u (log_of u past) was.keeps.log may.0) c.in-Some.count c.in-Some.is may
      (no_turn (suc c.in-Some.count) c.args.item.now c.in_default-item.not-Update);
}

pub returns-then-got-expected-clause-none : goal.returns-then-got-expected-clause-none
returns-then-got-expected-clause-none g c policy net u past was may =
    let rules = g.P.Policy.rules policy in
    let received = (rw c.deref.ensures at c.received_in_held.ensures) policy net u (log_of u past) was.keeps.log may.0 in
    let got = (counted rules net u past c.args.from may.0 c.args.session c.args.item.now c.received_in_held.result received c.in-Some.count c.in-Some.is).1 in
    let low = received_low rules net u past was.within c.args.from c.args.session in
    let adds = c.saturating_add-expected.ensures in
    let after : c.saturating_add-expected.result ≡ suc c.in-Some.count = omega (arith, got, low, adds) in
    takes rules net u past c.args.from may.0 c.args.session c.args.item.now c.received_in_held.result received c.in-Some.count c.in-Some.is may
    (its_turn c.in-Some.count c.saturating_add-expected.result c.in-Update.prefix c.in-Update.seq c.in-Update.triggers c.in-Update.path c.args.item.now c.in-Update.is after c.if-got-expected.true)

pub returns-clause-some : goal.returns-clause-some
returns-clause-some g c policy net u carried past was may =
    let rules = g.P.Policy.rules policy in
    let received = (rw c.deref.ensures at c.received_in_held.ensures) policy net u (log_of u past) was.keeps.log may.0 in
    let got = (counted rules net u past c.args.from may.0 c.args.session c.args.item.now c.received_in_held.result received c.in-Some.count c.in-Some.is).1 in
    let low = received_low rules net u past was.within c.args.from c.args.session in
    let adds = c.saturating_add-expected.ensures in
    let after : c.saturating_add-expected.result ≡ suc c.in-Some.count = omega (arith, got, low, adds) in
    wrong_turn rules net u past c.args.from may.0 c.args.session c.args.item.now c.received_in_held.result received c.in-Some.count c.in-Some.is _
    (not_its_turn c.in-Some.count c.saturating_add-expected.result c.in-Update.prefix c.in-Update.seq c.in-Update.triggers c.in-Update.path c.args.item.now c.in-Update.is after c.if-got-expected.false) carried
