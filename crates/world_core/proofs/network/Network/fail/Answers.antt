use Rattle.std.proofs.Common.{◌≡◌, true, false, ◌∷◌, ◌∙◌, sym, refl, subst}
use Rattle.topology.specs.declared.status.Reason.TheVariants.{AlreadyDown}
use Rattle.topology.specs.LinkStates.{is_up}
use Rattle.chronicle.specs.Facts as fact
use Rattle.chronicle.specs.Links.{link}
use Rattle.chronicle.proofs.Visiting.{same_more, same_now}
use Rattle.world_core.specs.Matching.{AreLinks}
use Rattle.world_core.proofs.Carried.{failed_link}
use Rattle.world_core.proofs.AfterSteps.{did, idle, fail_counted, fails_up, fails_down}
use Rattle.world_core.proofs.Mailing.{same_mails}
use Rattle.world_core.proofs.Nodes.{same_nodes}
use Rattle.world_core.proofs.Steady.{steady_flags}
use Rattle.run_record.proofs.Walking.{walks_stay}
use Rattle.world_core.proofs.network.Network.fail.Goals as goal

pub returns-then-not-fail-clause-comes : goal.returns-then-not-fail-clause-comes
returns-then-not-fail-clause-comes g c past counts was =
    let rules = g.P.Policy.rules c.args.self.now.policy in
    let net = c.args.self.now.topology.value in
    let a = c.args.a in
    let b = c.args.b in
    let links = was.are_links in
    let told = c.fail.ensures.failed net links.acts links.stands c.requires in
    let same = c.fail.ensures.unchanged c.if-not-fail.true in
    idle rules past counts _ _ AlreadyDown
    (fails_down rules net past a b (link a b past) refl (subst (λ l. is_up l ≡ false) (links.states a b) (sym told.0 ∙ c.if-not-fail.true)))
    (record { are_nodes = was.are_nodes; are_crashed = was.are_crashed; are_links = subst (AreLinks net past) (sym same) links; are_mails = was.are_mails; are_published = was.are_published; are_walks = was.are_walks; counted = was.counted })

pub returns-clause-comes : goal.returns-clause-comes
returns-clause-comes g c past counts was =
    let policy = c.args.self.now.policy in
    let rules = g.P.Policy.rules policy in
    let net = c.args.self.now.topology.value in
    let a = c.args.a in
    let b = c.args.b in
    let links = was.are_links in
    let told = c.fail.ensures.failed net links.acts links.stands c.requires in
    did rules past counts _ (fact.Fail a b ∷ past) _ _
    (fails_up rules net past a b (link a b past) refl (subst (λ l. is_up l ≡ true) (links.states a b) (sym told.0 ∙ c.if-not-fail.false)))
    (record {
      are_nodes = same_nodes policy rules net past c.args.self.now.nodes.items was.are_nodes (fact.Fail a b ∷ past) (λ v one stands. c.others_change_nothing_of_what_a_node_stands_for.ensures.beside policy net v one past (fact.Fail a b) tt stands);
      are_crashed = steady_flags net past (fact.Fail a b ∷ past) c.args.self.now.crashed.items (λ v. refl) was.are_crashed;
      are_links = failed_link net past c.args.self.now.links c.fail.new.self links a b told.1;
      are_mails = same_mails net past (fact.Fail a b ∷ past) counts c.args.self.now.mails refl (λ v. refl) was.are_mails;
      are_published = was.are_published;
      are_walks = walks_stay net past (fact.Fail a b ∷ past) c.args.self.now.walks (same_more (fact.Fail a b) past past (λ t. t) (same_now past)) was.are_walks;
      counted = fail_counted rules net past a b c.args.self.now.triggers was.counted;
    })
    (rw c.none.ensures refl)
