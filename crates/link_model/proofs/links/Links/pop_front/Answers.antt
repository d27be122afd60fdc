use Rattle.std.proofs.lemmas.Option.{IfSome_then}
use Rattle.link_model.proofs.Keeping.{way_inside}
use Rattle.link_model.proofs.Places.{IfNone_then}
use Rattle.link_model.proofs.Standing.{not_linked}
use Rattle.link_model.proofs.links.Links.pop_front.Goals as goal

pub returns-in_default-clause-none : goal.returns-in_default-clause-none
returns-in_default-clause-none c net acts stands link = not_linked net c.args.self.now acts c.args.from c.args.to _ stands link c.in_default.ensures.none

pub pop_front_at-requires : goal.pop_front_at-requires
pop_front_at-requires c = way_inside c.args.self.now c.args.from c.args.to c.in-Some.way c.in-Some.ensures.some

pub returns-clause-some : goal.returns-clause-some
returns-clause-some c = IfSome_then c.pop_front_at.result c.pop_front_at.ensures.some (λ item takes net acts stands link. takes net acts c.args.from c.args.to stands c.in-Some.ensures.some)

pub returns-clause-none : goal.returns-clause-none
returns-clause-none c = IfNone_then c.pop_front_at.result _ _ (λ none net acts stands link. none net acts c.args.from c.args.to stands c.in-Some.ensures.some) c.pop_front_at.ensures.none
