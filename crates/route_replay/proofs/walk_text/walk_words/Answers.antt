use Rattle.std.proofs.Common.{◌++◌, ◌∙◌, ap, sym, subst}
use Rattle.std.specs.String.{string_bytes}
use Rattle.route_replay.specs.Gathering.{Breaks, page_view}
use Rattle.route_replay.specs.Past.{past_of}
use Rattle.view_words.specs.Walks.{walk_line}
use Rattle.route_replay.specs.WalkText.{walk_text}
use Rattle.route_replay.proofs.Gathered.{handed_on, breaks_nothing, gathers_nothing, words_spilled}
use Rattle.route_replay.proofs.walk_text.walk_words.Goals as goal

-- memory ran out before anything was written
pub returns-in_err-unknown_words-clause-breaks : goal.returns-in_err-unknown_words-clause-breaks
returns-in_err-unknown_words-clause-breaks g c =
    handed_on c.from_residual.result _ _ c.from_residual.ensures (λ why same. subst (Breaks _ _ _) (sym same) (breaks_nothing _ _))

-- the packet never entered the network
pub returns-in_default-clause-gathers : goal.returns-in_default-clause-gathers
unfolding walk_text
returns-in_default-clause-gathers g c =
    let world = c.args.world.now in
    let old = page_view g.O.Sink.seen c.args.page.now in
    let none = rw c.in_default.is at c.walk.ensures in
    words_spilled old _ (string_bytes c.unknown_words.new.out) (walk_text c.args.packet (past_of (g.P.Policy.rules world.policy) world))
    (c.in_ok-unknown_words.ensures ∙ ap (λ walk. old.pending ++ walk_line c.args.packet walk) none)
    (gathers_nothing (record { sink = old.sink; pending = string_bytes c.unknown_words.new.out }))
