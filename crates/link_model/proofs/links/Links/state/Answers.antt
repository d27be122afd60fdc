use Rattle.std.proofs.Common.{◌∙◌, sym, true≢false}
use Rattle.link_model.proofs.links.Links.state.Goals as goal

pub returns-in-None : goal.returns-in-None
returns-in-None c net acts stands link = absurd (true≢false (sym link ∙ c.in-None.ensures.none net acts stands))
