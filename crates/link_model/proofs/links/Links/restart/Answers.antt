use Rattle.std.proofs.Common.{ap, refl, set}
use Rattle.link_model.proofs.Keeping.{keeps_with}
use Rattle.link_model.proofs.links.Links.restart.Goals as goal

pub returns-clause-restarted : goal.returns-clause-restarted
returns-clause-restarted c net ways from to keeps placed =
    keeps_with net c.args.self.now _ ways from to c.args.way _ c.args.self.now.sized placed refl (ap (λ k. set c.args.self.now.channels.items c.args.way k) c.restart.ensures) keeps
