use Rattle.std.proofs.Common.{◌∙◌, sym, true≢false}
use Rattle.std.proofs.lemmas.Option.{IfSome_then}
use Rattle.link_model.specs.Readings.{channel_after, behind_front}
use Rattle.link_model.proofs.Places.{IfNone_then}
use Rattle.link_model.proofs.links.Links.front.Goals as goal

pub returns-in_default-clause-none : goal.returns-in_default-clause-none
returns-in_default-clause-none c net acts stands link = absurd (true≢false (sym link ∙ c.in_default.ensures.none net acts stands))

pub returns-clause-some : goal.returns-clause-some
returns-clause-some c = IfSome_then c.front.result c.front.ensures.some (λ item first net acts stands link. (
  behind_front (channel_after c.args.from c.args.to acts),
  rw (c.in-Some.ensures.some net acts stands).items at first,
))

pub returns-clause-none : goal.returns-clause-none
returns-clause-none c = IfNone_then c.front.result _ _ (λ empty net acts stands link. sym (c.in-Some.ensures.some net acts stands).items ∙ empty) c.front.ensures.none
