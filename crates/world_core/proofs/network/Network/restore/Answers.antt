use Rattle.std.proofs.Common.{◌≡◌, ◌<◌, ◌-◌, ◌^◌, not, true, false, ◌∷◌, ◌∙◌, sym, refl, ap, subst}
use Rattle.topology.specs.declared.status.Reason.TheVariants.{AlreadyUp}
use Rattle.topology.specs.LinkStates.{is_up, number_of}
use Rattle.chronicle.specs.Facts as fact
use Rattle.chronicle.specs.Links.{link}
use Rattle.chronicle.proofs.Visiting.{same_more, same_now}
use Rattle.world_core.specs.Matching.{AreLinks}
use Rattle.world_core.proofs.Carried.{restored_link}
use Rattle.world_core.proofs.AfterSteps.{did, idle, restore_counted, restores_up, restores_down}
use Rattle.world_core.proofs.Mailing.{same_mails}
use Rattle.world_core.proofs.Nodes.{same_nodes}
use Rattle.world_core.proofs.Steady.{steady_flags}
use Rattle.run_record.proofs.Walking.{walks_stay}
use Rattle.world_core.proofs.network.Network.restore.Goals as goal

pub returns-then-not-restore-clause-comes : goal.returns-then-not-restore-clause-comes
returns-then-not-restore-clause-comes g c past counts was regular =
    let rules = g.P.Policy.rules c.args.self.now.policy in
    let net = c.args.self.now.topology.value in
    let a = c.args.a in
    let b = c.args.b in
    let links = was.are_links in
    let few = subst (λ l. number_of l < 2 ^ 32 - 1) (sym (links.states a b)) (regular.few a b) in
    let told = c.restore.ensures.restored net links.acts links.stands c.requires few in
    let same = c.restore.ensures.unchanged c.if-not-restore.true in
    idle rules past counts _ _ AlreadyUp
    (restores_up rules net past a b (link a b past) refl (subst (λ l. is_up l ≡ true) (links.states a b) (told.0 ∙ ap not c.if-not-restore.true)))
    (record { are_nodes = was.are_nodes; are_crashed = was.are_crashed; are_links = subst (AreLinks net past) (sym same) links; are_mails = was.are_mails; are_published = was.are_published; are_walks = was.are_walks; counted = was.counted })

pub returns-clause-comes : goal.returns-clause-comes
returns-clause-comes g c past counts was regular =
    let policy = c.args.self.now.policy in
    let rules = g.P.Policy.rules policy in
    let net = c.args.self.now.topology.value in
    let a = c.args.a in
    let b = c.args.b in
    let links = was.are_links in
    let few = subst (λ l. number_of l < 2 ^ 32 - 1) (sym (links.states a b)) (regular.few a b) in
    let told = c.restore.ensures.restored net links.acts links.stands c.requires few in
    did rules past counts _ (fact.Restore a b ∷ past) _ _
    (restores_down rules net past a b (link a b past) refl (subst (λ l. is_up l ≡ false) (links.states a b) (told.0 ∙ ap not c.if-not-restore.false)))
    (record {
      are_nodes = same_nodes policy rules net past c.args.self.now.nodes.items was.are_nodes (fact.Restore a b ∷ past) (λ v one stands. c.others_change_nothing_of_what_a_node_stands_for.ensures.beside policy net v one past (fact.Restore a b) tt stands);
      are_crashed = steady_flags net past (fact.Restore a b ∷ past) c.args.self.now.crashed.items (λ v. refl) was.are_crashed;
      are_links = restored_link net past c.args.self.now.links c.restore.new.self links a b told.1;
      are_mails = same_mails net past (fact.Restore a b ∷ past) counts c.args.self.now.mails refl (λ v. refl) was.are_mails;
      are_published = was.are_published;
      are_walks = walks_stay net past (fact.Restore a b ∷ past) c.args.self.now.walks (same_more (fact.Restore a b) past past (λ t. t) (same_now past)) was.are_walks;
      counted = restore_counted rules net past a b c.args.self.now.triggers was.counted;
    })
    (rw c.none.ensures refl)
