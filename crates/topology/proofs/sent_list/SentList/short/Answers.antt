use Rattle.std.proofs.Common.{◌≡◌, ◌==◌, ◌++◌, map, ap, ◌∙◌}
use Rattle.topology.specs.AlikeLists.{unpacked}
use Rattle.topology.specs.SentLists.{AreUnlike}
use Rattle.topology.proofs.Listing.{whole_are}
use Rattle.topology.proofs.sent_list.SentList.short.Goals as goal

pub returns-then-not-is_empty-clause-none : goal.returns-then-not-is_empty-clause-none
returns-then-not-is_empty-clause-none c = λ none.
    let list = c.self.inside in
    let unlike = whole_are (map (unpacked list.trigger) list.first.items) list.others.items c.is_empty.result (c.is_empty.ensures ∙ ap (λ n. n == 0) list.others.ok.0) c.if-not-is_empty.true c.self.invariant in
    rw c.self.view_is at unlike
