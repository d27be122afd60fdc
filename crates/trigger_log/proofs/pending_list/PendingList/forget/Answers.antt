use Rattle.std.proofs.Common.{rules, ◌≡◌, ◌∙◌, sym, ap, subst}
use Rattle.std.proofs.lemmas.Fn.{filter_same}
use Rattle.trigger_log.specs.Putting.{rows_without, RowsRise}
use Rattle.trigger_log.proofs.RowOrder.{without_rises}
use Rattle.trigger_log.proofs.pending_list.PendingList.forget.Goals as goal

pub invariant_of-self : goal.invariant_of-self
invariant_of-self c =
    let left : c.retain.new.self.items ≡ rows_without c.args.nbr c.self.inside.list.items = filter_same _ _ _ (λ x b f' k. search rules) _ _ c.retain.ensures.filtered in
    subst RowsRise (sym left) (without_rises c.args.nbr c.self.inside.list.items c.self.invariant)

pub returns : goal.returns
returns c =
    let left : c.retain.new.self.items ≡ rows_without c.args.nbr c.self.inside.list.items = filter_same _ _ _ (λ x b f' k. search rules) _ _ c.retain.ensures.filtered in
    left ∙ ap (rows_without c.args.nbr) c.self.view_is
