use Rattle.std.proofs.Common.{◌∙◌, ◌+◌, sym, ap, length, replicate, false, [], refl, arith}
use Rattle.incomplete_closure.specs.Graphs.{edges, enter_all, led_from}
use Rattle.incomplete_closure.proofs.Searching.{seen_as, going_first, in_rest, going_last, turned_on, turned_less, edges_taken, steps_on, steps_end}
use Rattle.incomplete_closure.proofs.search.search.Goals as goal

pub loop-vertex-init : goal.loop-vertex-init
loop-vertex-init g c =
    let fresh = c.in_ok-reached.ensures ∙ ap (λ n. seen_as (replicate n false) []) c.len.ensures in (
      going_first c.args.graph.now c.args.roots.now c.enter_all.new.self (c.in_ok-enter_all.ensures.reached ∙ ap (λ r. enter_all r c.args.roots.now) fresh),
      omega (arith, c.enter_all.ensures.most),
      c.enter_all.ensures.least,
    )

pub follow-requires : goal.follow-requires
follow-requires g c =
    in_rest c.args.graph.now c.args.roots.now c.loop-vertex.graph c.loop-vertex.reached c.loop-vertex.turn c.in-Some.vertex c.loop-vertex.invariant.0
    (sym c.at.ensures.vertex ∙ c.in-Some.is)

pub loop-vertex-smaller : goal.loop-vertex-smaller
loop-vertex-smaller g c =
    turned_less c.args.graph.now c.args.roots.now c.loop-vertex.graph c.follow.new.self c.loop-vertex.reached c.follow.new.reached c.loop-vertex.turn c.in-Some.vertex (led_from c.loop-vertex.graph c.in-Some.vertex)
    c.loop-vertex.invariant.0 (sym c.at.ensures.vertex ∙ c.in-Some.is) (record { rest_is = c.follow.ensures.rest; targets_are = refl }) c.in_ok-follow.ensures.reached

pub loop-vertex-preserved : goal.loop-vertex-preserved
loop-vertex-preserved g c =
    let ws = led_from c.loop-vertex.graph c.in-Some.vertex in (
      turned_on c.args.graph.now c.args.roots.now c.loop-vertex.graph c.follow.new.self c.loop-vertex.reached c.follow.new.reached c.loop-vertex.turn c.in-Some.vertex ws c.loop-vertex.invariant.0
          (sym c.at.ensures.vertex ∙ c.in-Some.is) (record { rest_is = c.follow.ensures.rest; targets_are = refl }) c.in_ok-follow.ensures.reached,
      steps_on c.loop-vertex.steps c.follow.new.steps (edges c.loop-vertex.graph) (edges c.follow.new.self) c.args.steps.now (length c.args.roots.now + edges c.args.graph.now) (length ws) c.follow.ensures.most
          (edges_taken c.loop-vertex.graph c.follow.new.self c.in-Some.vertex ws (record { rest_is = c.follow.ensures.rest; targets_are = refl })) c.loop-vertex.invariant.1,
      omega (arith, c.follow.ensures.least, c.loop-vertex.invariant.2),
    )

pub returns-in_err-follow-clause-most : goal.returns-in_err-follow-clause-most
returns-in_err-follow-clause-most g c =
    let ws = led_from c.loop-vertex.graph c.in-Some.vertex in
    steps_end c.loop-vertex.steps c.follow.new.steps (edges c.loop-vertex.graph) (edges c.follow.new.self) c.args.steps.now (length c.args.roots.now + edges c.args.graph.now) (length ws) c.follow.ensures.most
    (edges_taken c.loop-vertex.graph c.follow.new.self c.in-Some.vertex ws (record { rest_is = c.follow.ensures.rest; targets_are = refl })) c.loop-vertex.invariant.1

pub returns-clause-reached : goal.returns-clause-reached
returns-clause-reached g c = going_last c.args.graph.now c.args.roots.now c.loop-vertex.graph c.loop-vertex.reached c.loop-vertex.turn c.loop-vertex.invariant.0 (sym c.at.ensures.vertex ∙ c.in_default.is)
