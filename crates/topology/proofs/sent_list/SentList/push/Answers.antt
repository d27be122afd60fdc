use Rattle.std.proofs.Common.{◌≡◌, List, refl, sym, ◌∙◌, ap, ◌∷◌, [], ◌++◌}
use Rattle.std.specs.Prelude.{map}
use Rattle.topology.specs.AlikeLists.{unpacked}
use Rattle.topology.specs.declared.alike_sent.ShortSent.{ShortSent}
use Rattle.topology.proofs.Listing.{one_more, none_with, none_beside}
use Rattle.topology.proofs.sent_list.SentList.push.Goals as goal

pub push_whole-requires-then-not-may_stand_behind : goal.push_whole-requires-then-not-may_stand_behind
push_whole-requires-then-not-may_stand_behind c =
    let list = c.self.inside in
    let no = rw c.deref-2.ensures.value at (rw c.deref.ensures.value at (c.if-not-may_stand_behind.ensures.no refl)) in
    none_beside list.trigger c.in-Some.trigger list.first.items list.others.items c.args.self.now c.in-Some.item _ c.self.view_is c.self.invariant no (c.in-Some.ensures.some)
