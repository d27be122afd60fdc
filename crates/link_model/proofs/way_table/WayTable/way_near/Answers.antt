use Rattle.std.proofs.Common.{◌≡◌, ◌∙◌, Some, refl, ap, map, slice_get, rules, arith}
use Rattle.link_model.specs.Tables.{ends}
use Rattle.link_model.proofs.Numbers.{one_way}
use Rattle.link_model.proofs.Places.{read_at}
use Rattle.link_model.proofs.way_table.WayTable.way_near.Goals as goal

pub returns-then-eq-2-clause-found : goal.returns-then-eq-2-clause-found
returns-then-eq-2-clause-found c way e =
    let ways = c.self.inside.ways.items in
    let got = c.in-Some.ensures.lookup in
    let read = read_at ways c.deref.result.now c.args.guess c.in-Some.way.now c.deref.ensures.value got.3.0 got.1 in
    let from : c.in-Some.way.now.from ≡ c.args.from = search (rules, arith) in
    let to : c.in-Some.way.now.to ≡ c.args.to = search (rules, arith) in
    let here : slice_get ways c.args.guess ≡ Some (ends c.args.from c.args.to) = read ∙ ap Some (rw (from, to) refl) in
    ap Some (one_way c.self.inside.ranks (map (λ row. row.items) c.self.inside.rows.items) ways c.args.from c.args.to c.args.guess way c.self.invariant here (ap (λ l. slice_get l way) c.self.view_is ∙ e))
