use Rattle.std.proofs.Common.{List, sym, ◌∙◌, ap}
use Rattle.topology.specs.Lists.{has}
use Rattle.leadership.specs.declared.hearings.Hearing.{Hearing}
use Rattle.leadership.specs.Counted.{has_acceptance}
use Rattle.leadership.specs.Hearings.{voters_heard}
use Rattle.leadership.proofs.Watching.{voters_kept}
use Rattle.leadership.proofs.heard.HeardList.has_voted.Goals as goal

pub returns-then-is_watched : goal.returns-then-is_watched
returns-then-is_watched c =
    c.has_acceptance.ensures
    ∙ (ap (has_acceptance c.args.at c.args.from) c.deref.ensures.value
    ∙ (voters_kept c.self.inside.watched c.self.inside.promisers.items c.self.inside.acceptances.items c.self.inside.list.items c.args.of.now c.args.at c.args.from c.self.invariant.0 (sym c.is_watched.ensures ∙ c.if-is_watched.true)
    ∙ ap (λ (hs : List Hearing). has (voters_heard c.args.at c.args.of.now hs) c.args.from) c.self.view_is))
