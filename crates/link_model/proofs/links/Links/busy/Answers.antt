use Rattle.std.proofs.Common.{◌∙◌, arith}
use Rattle.link_model.proofs.Marked.{marked_at, none_past}
use Rattle.link_model.proofs.links.Links.busy.Goals as goal

pub returns-clause-placed : goal.returns-clause-placed
returns-clause-placed c net acts from to way stands placed =
    c.args.self.now.marked way ∙ marked_at net c.args.self.now acts from to way c.args.self.now.sized stands placed

pub returns-clause-within : goal.returns-clause-within
returns-clause-within c way past =
    c.args.self.now.marked way ∙ none_past c.args.self.now.channels.items way (omega (arith, past, c.args.self.now.sized))
