use Rattle.std.proofs.Common.{◌∙◌, ◌||◌, sym, ap, subst}
use Rattle.topology.specs.Lists.{has}
use Rattle.consolidator.specs.Answers.{is_for_all}
use Rattle.consolidator.specs.Seen.{message_seen}
use Rattle.consolidator.specs.Keeping.{Kept}
use Rattle.consolidator.specs.Standing.{StandsFor}
use Rattle.consolidator.proofs.Keeping.{handled_by, not_handled}
use Rattle.consolidator.proofs.consolidators.Consolidator.handle.Goals as goal

pub returns-then-not-is_for : goal.returns-then-not-is_for
returns-then-not-is_for c past u h =
    not_handled c.args.topology.now c.args.self past u c.args.from (message_seen c.args.message)
    (ap (λ (k : Kept). has c.args.topology.now.consolidators k.node || is_for_all (message_seen c.args.message)) (sym c.consolidator.view_is) ∙ (sym c.is_for.ensures ∙ c.if-not-is_for.true)) h

pub returns : goal.returns
returns c past u h =
    handled_by c.args.topology.now c.in_ok-reply.reply c.consolidator.inside.node c.consolidator.inside.parts.items c.hear_in.new.parts.items past u c.args.from (message_seen c.args.message)
    (sym c.is_for.ensures ∙ c.if-not-is_for.false) (subst (λ (k : Kept). StandsFor c.args.topology.now k past u) (sym c.consolidator.view_is) h) c.in_ok-reply.ensures
