use Rattle.std.proofs.Common.{refl}
use Rattle.incomplete_closure.proofs.Nearest.{nearest_put}
use Rattle.incomplete_closure.proofs.behind.Behind.put_one.Goals as goal

pub returns-clause-nearest : goal.returns-clause-nearest
returns-clause-nearest c =
    nearest_put _ (λ a b. refl) c.args.prefix c.args.number c.args.self.now.nearest.entries c.insert.new.self.entries c.args.self.now.all c.in_ok-insert.ensures.updates.0
