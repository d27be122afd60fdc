use Rattle.std.proofs.Common.{◌≡◌, ◌++◌, ◌∷◌, [], List, map, ap, sym, ◌∙◌}
use Rattle.topology.specs.AlikeLists.{unpacked}
use Rattle.topology.specs.declared.names.Trigger.{Trigger}
use Rattle.topology.proofs.Listing.{still_whole}
use Rattle.topology.proofs.sent_list.SentList.push_whole.Goals as goal

pub invariant_of-self-2 : goal.invariant_of-self-2
invariant_of-self-2 c =
    let list = c.self.inside in
    let still = still_whole (map (unpacked list.trigger) list.first.items) list.others.items c.args.self.now _ c.self.view_is c.requires in
    let items = c.in_ok-push.ensures.items
    ∙ ap (λ (ts : List Trigger). list.others.items ++ record { to = c.args.to; session = c.args.session; seq = c.args.seq; triggers = ts } ∷ []) c.in_ok-copy.ensures.copy in
    rw (sym items) at still
