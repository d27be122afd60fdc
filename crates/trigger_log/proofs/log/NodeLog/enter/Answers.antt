use Rattle.std.proofs.Common.{Vec, Global, ◌∙◌, sym, ap, map}
use Rattle.trigger_log.specs.declared.outgoing.Outgoing.{Outgoing}
use Rattle.trigger_log.specs.Entries.{entry}
use Rattle.trigger_log.specs.Going.{going_of}
use Rattle.trigger_log.proofs.Entering.{fits_now, with_kept, with_said}
use Rattle.trigger_log.proofs.QuietTurns.{goes_nowhere}
use Rattle.trigger_log.proofs.log.NodeLog.enter.Goals as goal

pub returns-then-stays-clause-log : goal.returns-then-stays-clause-log
returns-then-stays-clause-log g c = λ policy u h was near placed fits lists.
    let net = c.args.topology.now in
    let based = with_kept policy (g.P.Policy.rules policy) net u c.args.self.now h c.keep_base.new.self was (c.in_ok-keep_base.ensures.kept policy net u h was.kept was.routes) in
    c.in_ok-enter_quietly.ensures.log policy net u h based near placed fits lists (c.stays.ensures policy net u h c.args.triggers was.routes placed c.if-stays.true)

pub returns-then-stays-clause-outgoing : goal.returns-then-stays-clause-outgoing
returns-then-stays-clause-outgoing g c = λ policy u h was near placed fits lists.
    let rules = g.P.Policy.rules policy in
    let net = c.args.topology.now in
    let fitting = fits_now policy rules net u h c.args.triggers c.args.scope c.args.cause was fits in
    ap (map going_of) c.forget.ensures
    ∙ sym (goes_nowhere rules net u h (entry c.args.triggers c.args.scope c.args.cause) fitting placed (c.stays.ensures policy net u h c.args.triggers was.routes placed c.if-stays.true))

pub returns-clause-log : goal.returns-clause-log
returns-clause-log g c = λ policy u h was near placed fits lists.
    let net = c.args.topology.now in
    let based = with_kept policy (g.P.Policy.rules policy) net u c.args.self.now h c.keep_base.new.self was (c.in_ok-keep_base.ensures.kept policy net u h was.kept was.routes) in
    let log = c.enter_aloud.new.self in
    with_said policy (g.P.Policy.rules policy) net u log _ (record log.said { outgoing = c.swap.new.x }) (c.in_ok-enter_aloud.ensures.made policy u h based near placed fits lists).stands

pub returns-clause-outgoing : goal.returns-clause-outgoing
returns-clause-outgoing g c = λ policy u h was near placed fits lists.
    let net = c.args.topology.now in
    let based = with_kept policy (g.P.Policy.rules policy) net u c.args.self.now h c.keep_base.new.self was (c.in_ok-keep_base.ensures.kept policy net u h was.kept was.routes) in
    ap (λ (out : Vec Outgoing Global). map going_of out.items) c.swap.ensures.y_after ∙ (c.in_ok-enter_aloud.ensures.made policy u h based near placed fits lists).goes
