use Rattle.std.proofs.Common.{subst, refl}
use Rattle.topology.specs.Net.{Net}
use Rattle.route_node.specs.Restored.{IsRestored}
use Rattle.link_calls.proofs.tests.kept_nodes.status_by_calls.Goals as goal

-- the node was restarted, so it may answer
pub serve_kept-requires : goal.serve_kept-requires
serve_kept-requires c =
    let some = c.in-Ok.ensures.restored.restored c.in-Ok.kept refl in
    record {
      node = c.new-id.result;
      frames = some.0;
      restored = subst (λ (n : Net). IsRestored n c.in-Ok.kept c.new-id.result some.0) c.in_ok-shared.ensures.cases some.1;
    }
