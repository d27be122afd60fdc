use Rattle.std.proofs.Common.{subst, sym}
use Rattle.std.proofs.lemmas.Result.{on_ok_weaker}
use Rattle.path_vector.specs.Answers.{Copies}
use Rattle.trigger_log.proofs.KeptRoutes.{none_put, several, with_one, with_one_at, with_one_other}
use Rattle.trigger_log.proofs.best_routes.BestRoutes.+put_all.Goals as goal

pub returns-in-empty : goal.returns-in-empty
returns-in-empty t c = λ net u route next keeps all same. none_put net u route next c.args.offers.now c.in-empty.len_below same c.args.self.now keeps

pub returns-in_ok-put-in-len1-up : goal.returns-in_ok-put-in-len1-up
returns-in_ok-put-in-len1-up t c =
    on_ok_weaker c.put_all.result (λ kept net u route next keeps all same.
    let first = c.first-item.result in
    let parts = several net u route next c.args.offers.now first c.in-len1-up.len_at_least c.first-item.is all same in
    let one = c.in_ok-put-in-len1-up.ensures.kept net u route (with_one first.prefix next route) keeps
    (subst (Copies net u first.chosen) (sym (with_one_at first.prefix next route)) parts.chosen) (with_one_other first.prefix next route) in
    kept net u (with_one first.prefix next route) next one parts.rest parts.same) c.put_all.ensures
