use Rattle.std.proofs.Common.{◌∙◌, ◌++◌, ap, sym, subst}
use Rattle.std.specs.String.{string_bytes}
use Rattle.route_replay.specs.ClosureText.{closure_text}
use Rattle.route_replay.specs.Gathering.{Breaks, page_view}
use Rattle.route_replay.specs.Past.{past_of}
use Rattle.route_replay.proofs.Gathered.{handed_on, breaks_nothing, gathers_nothing, words_spilled}
use Rattle.route_replay.proofs.Keeping.{may_be_kept}
use Rattle.route_replay.proofs.closure_text.add_closure.Goals as goal

-- memory ran out before anything was written
pub returns-in_err-line-clause-breaks : goal.returns-in_err-line-clause-breaks
returns-in_err-line-clause-breaks g c =
    handed_on c.from_residual.result _ _ c.from_residual.ensures (λ why same. subst (Breaks _ _ _) (sym same) (breaks_nothing _ _))

pub returns-in_err-push_str-clause-breaks : goal.returns-in_err-push_str-clause-breaks
returns-in_err-push_str-clause-breaks g c =
    handed_on c.from_residual-in_err-push_str.result _ _ c.from_residual-in_err-push_str.ensures (λ why same. subst (Breaks _ _ _) (sym same) (breaks_nothing _ _))

-- the line is gathered
pub returns-clause-gathers : goal.returns-clause-gathers
returns-clause-gathers g c =
    let world = c.args.world.now in
    let rules_of = g.P.Policy.rules world.policy in
    let text = closure_text rules_of world.net (past_of rules_of world) c.args.epoch in
    let old = page_view g.O.Sink.seen c.args.page.now in
    words_spilled old _ (string_bytes c.push_str.new.self) text (c.in_ok-push_str.ensures.bytes ∙ ap (λ t. string_bytes c.args.page.now.text ++ t) (c.deref.ensures ∙ c.in_ok-line.ensures.text))
    (gathers_nothing (record { sink = old.sink; pending = string_bytes c.push_str.new.self }))

-- and kept
pub returns-clause-kept : goal.returns-clause-kept
returns-clause-kept g c =
    let world = c.args.world.now in
    may_be_kept (g.P.Policy.rules world.policy) world.net world.events c.args.epoch c.in_ok-line.line c.in_ok-line.ensures
