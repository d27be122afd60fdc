use Rattle.std.proofs.Common.{[], subst, sym}
use Rattle.world_core.specs.Matching.{AreCrashed}
use Rattle.run_record.specs.Walks.{AreWalks}
use Rattle.world_core.proofs.Fresh.{fresh_links, fresh_counted}
use Rattle.world_core.proofs.Mailing.{fresh_mails}
use Rattle.run_record.proofs.Walking.{fresh_walks}
use Rattle.world_core.proofs.network.Network.new.Goals as goal

pub returns-clause-stands : goal.returns-clause-stands
returns-clause-stands g c =
    let net = c.args.topology.value in
    record {
      are_nodes = c.in_ok-nodes.ensures;
      are_crashed = subst (λ net. AreCrashed net [] c.in_ok-crashed.crashed.items) c.deref.ensures c.in_ok-crashed.ensures;
      are_links = fresh_links net c.in_ok-links.links (rw c.deref-2.ensures at c.in_ok-links.ensures);
      are_mails = fresh_mails net c.in_ok-mails.mails (rw c.deref-3.ensures at c.in_ok-mails.ensures);
      are_published = c.new-3.ensures.items;
      are_walks = subst (AreWalks net []) (sym c.new-4.ensures) (fresh_walks net);
      counted = fresh_counted (g.P.Policy.rules c.args.policy) net;
    }
