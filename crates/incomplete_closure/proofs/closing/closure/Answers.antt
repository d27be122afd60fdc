use Rattle.std.proofs.Common.{map, sym, ◌∙◌, subst}
use Rattle.std.specs.Rc.{rc_value}
use Rattle.incomplete_closure.specs.Seen.{reports_seen}
use Rattle.incomplete_closure.specs.Values.{IsValue}
use Rattle.incomplete_closure.proofs.Least.{a_value, one_value}
use Rattle.incomplete_closure.proofs.Opened.{least_told}
use Rattle.incomplete_closure.proofs.closing.closure.Goals as goal

pub returns-clause-told : goal.returns-clause-told
returns-clause-told g c =
    let reports = map rc_value c.args.reports.now in
    subst (λ z. IsValue (reports_seen reports) (a_value c.new.result z)) (sym (c.in_ok-from_ascending.ensures.triggers ∙ c.in_ok-list.ensures))
    (least_told reports c.requires c.new.result c.in_ok-collection.collection (c.new.ensures ∙ c.in_ok-nodes.ensures) c.in_ok-collection.ensures.least)

pub returns-clause-named : goal.returns-clause-named
returns-clause-named g c = one_value (reports_seen (map rc_value c.args.reports.now)) (a_value c.new.result c.in_ok-from_ascending.field-0) (returns-clause-told g c)
