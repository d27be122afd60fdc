use Rattle.std.proofs.Common.{◌∙◌, ◌++◌, slice_get, reverse, sym, ap, subst}
use Rattle.std.specs.String.{string_bytes}
use Rattle.topology.specs.Net.{Net}
use Rattle.deflect_delivery.specs.Progress.{Over}
use Rattle.route_replay.specs.Gathering.{Breaks, page_view}
use Rattle.view_words.specs.Probes.{probe_line}
use Rattle.route_replay.specs.ProbeText.{probe_text}
use Rattle.route_replay.specs.Past.{past_of}
use Rattle.route_replay.proofs.Gathered.{handed_on, breaks_nothing, gathers_nothing, words_spilled}
use Rattle.route_replay.proofs.probe_text.probe_words.Goals as goal

-- memory ran out before anything was written
pub returns-in_err-walk-clause-breaks : goal.returns-in_err-walk-clause-breaks
returns-in_err-walk-clause-breaks g c =
    handed_on c.from_residual.result _ _ c.from_residual.ensures (λ why same. subst (Breaks _ _ _) (sym same) (breaks_nothing _ _))

pub returns-in_err-line_words-clause-breaks : goal.returns-in_err-line_words-clause-breaks
returns-in_err-line_words-clause-breaks g c =
    handed_on c.from_residual-in_err-line_words.result _ _ c.from_residual-in_err-line_words.ensures (λ why same.
    subst (Breaks _ _ _) (sym same) (breaks_nothing _ _))

-- the line is gathered
pub returns-clause-gathers : goal.returns-clause-gathers
unfolding probe_text
returns-clause-gathers g c =
    let seen = g.O.Sink.seen in
    let world = c.args.world.now in
    let rules_of = g.P.Policy.rules world.policy in
    let text = probe_text rules_of world.net (past_of rules_of world) c.args.node c.args.prefix in
    let walk = c.in_ok-walk.walk in
    let old = page_view seen c.args.page.now in
    words_spilled old _ (string_bytes c.line_words.new.out) text
    (c.in_ok-line_words.ensures
    ∙ ap (λ l. old.pending ++ l) (ap (λ (t : Net). probe_line c.args.node (slice_get t.prefixes c.args.prefix) (Over (reverse walk.visits) walk.end)) c.topology.ensures
    ∙ ap (probe_line c.args.node (slice_get world.net.prefixes c.args.prefix)) (sym c.in_ok-walk.ensures.walk)))
    (gathers_nothing (record { sink = old.sink; pending = string_bytes c.line_words.new.out }))
