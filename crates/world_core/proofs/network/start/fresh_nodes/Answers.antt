use Rattle.std.proofs.Common.{[], ◌≡◌, ◌+◌, ◌∙◌, ap, refl, arith, length, subst}
use Rattle.std.proofs.lemmas.List.{length_push}
use Rattle.std.proofs.lemmas.Option.{slice_get_read}
use Rattle.topology.specs.Net.{IsValid}
use Rattle.topology.specs.Lists.{ascending}
use Rattle.node_core.specs.Standing.{StandsFor}
use Rattle.world_core.proofs.Fresh.{fresh_push}
use Rattle.world_core.proofs.network.start.fresh_nodes.Goals as goal

pub loop-id-preserved : goal.loop-id-preserved
loop-id-preserved g c =
    let ids = c.nodes-id-items.result.now in
    let n = c.loop-id.id-index in
    record {
      count = ap length c.in_ok-push.ensures.items ∙ (length_push c.loop-id.nodes.items c.in_ok-new.field-0 ∙ ap (λ m. m + 1) c.loop-id.invariant.count);
      fresh = rw c.in_ok-push.ensures.items
          (fresh_push c.args.policy (g.P.Policy.rules c.args.policy) c.args.topology.now.value ids c.loop-id.nodes.items n c.id-item.result c.in_ok-new.field-0
          c.loop-id.invariant.fresh c.loop-id.invariant.count
          (slice_get_read ids (length ids) n c.id-item.result refl c.loop-id-test.true c.id-item.is)
          (subst (λ net. StandsFor c.args.policy (g.P.Policy.rules c.args.policy) net c.id-item.result c.in_ok-new.field-0 []) c.in_ok-clone.ensures.cases c.in_ok-new.ensures));
    }

pub returns : goal.returns
returns g c =
    let ends : length c.loop-id.nodes.items ≡ length c.nodes-id-items.result.now = omega arith in
    let ids = c.nodes-id-items.ensures.nodes ∙ ap (λ net. ascending net.nodes) c.deref.ensures in
    record {
      valid = subst IsValid c.deref.ensures c.nodes-id-items.ensures.valid;
      count = ends ∙ ap length ids;
      each = rw (← ids) c.loop-id.invariant.fresh;
    }
