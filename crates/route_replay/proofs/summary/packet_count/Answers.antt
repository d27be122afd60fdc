use Rattle.std.proofs.Common.{◌≡◌, count_by, refl, ap, ◌∙◌, arith}
use Rattle.std.specs.List.{range_with_len}
use Rattle.run_record.specs.Walks.{walk_of}
use Rattle.load_plan.specs.LoadSchedule.{load_packets}
use Rattle.route_replay.specs.LoadText.{standing_so, walk_stands}
use Rattle.route_replay.specs.Past.{past_of}
use Rattle.route_replay.proofs.Counts.{counted_if, few_if}
use Rattle.route_replay.proofs.summary.packet_count.Goals as goal

pub loop-before-init : goal.loop-before-init
loop-before-init g c = record { total = refl; few = omega arith }

pub count_if-count-requires : goal.count_if-count-requires
count_if-count-requires g c = let few = c.loop-before.invariant.few in omega (arith, few)

pub loop-before-preserved : goal.loop-before-preserved
loop-before-preserved g c =
    let world = c.args.world.now in
    let past = past_of (g.P.Policy.rules world.policy) world in
    let was = c.loop-before.invariant in
    record {
      total = counted_if (λ k. walk_stands c.args.end (walk_of k past)) c.loop-before.before c.loop-before.count _ c.walk_stands.result c.count_if-count.ensures c.walk_stands.ensures was.total;
      few = few_if c.loop-before.before c.loop-before.count _ c.walk_stands.result c.count_if-count.ensures was.few;
    }

pub returns : goal.returns
unfolding standing_so load_packets
returns g c =
    let world = c.args.world.now in
    let past = past_of (g.P.Policy.rules world.policy) world in
    let end : c.loop-before.before ≡ 12 = omega arith in
    c.loop-before.invariant.total ∙ ap (λ n. count_by (λ k. walk_stands c.args.end (walk_of k past)) (range_with_len 1 n)) end
