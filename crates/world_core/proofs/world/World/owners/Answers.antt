use Rattle.std.proofs.Common.{◌≡◌, ◌∙◌, ◌++◌, [], ◌∷◌, Bool, true, ℕ, length, refl, sym, ap}
use Rattle.topology.specs.Lists.{ascending}
use Rattle.topology.specs.Net.{Net}
use Rattle.path_vector.specs.History.{owns}
use Rattle.trigger_log.specs.Entries.{reads}
use Rattle.chronicle.specs.Logs.{log_of}
use Rattle.chronicle.specs.Run.{run}
use Rattle.world_core.proofs.Nodes.{node_here}
use Rattle.world_core.proofs.Listed.{passes_more, fails_more}
use Rattle.world_core.proofs.world.World.owners.Goals as goal
use Rattle.world_core.proofs.world.World.owners.Goals.{then-owns+in_ok-push, else-owns}

pub loop-id-preserved : goal.loop-id-preserved
loop-id-preserved g c =
    let world = c.args.self.now in
    let past = run (g.P.Policy.rules world.policy) world.net world.events in
    let test : ℕ → Bool = λ u. owns (reads (log_of u past)) c.args.prefix in
    let near = c.nodes-id-items.result.now in
    let i = c.loop-id.id-index in
    let x = c.id-item.result in
    let node = node_here world.net near i x (c.nodes-id-items.ensures.nodes ∙ ap (λ (t : Net). ascending t.nodes) c.topology.ensures) c.loop-id-test.true c.id-item.is in
    let own : c.owns.result ≡ test x = c.owns.ensures node in
    record {
      so_far = elim c.if-owns.branch [
        | then-owns+in_ok-push w ↦
            ap (λ v. v.items) w.owners-is ∙ (w.in_ok-push.ensures.items ∙ (ap (λ l. l ++ x ∷ []) c.loop-id.invariant.so_far ∙ passes_more test near i x c.loop-id-test.true c.id-item.is (sym own ∙ w.if-owns.true)))
        | else-owns w ↦
            ap (λ v. v.items) w.owners-is ∙ (c.loop-id.invariant.so_far ∙ fails_more test near i x c.loop-id-test.true c.id-item.is (sym own ∙ w.if-owns.false))
      ];
    }
