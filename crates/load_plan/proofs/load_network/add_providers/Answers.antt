use Rattle.std.proofs.Common.{◌+◌, ◌-◌, ◌*◌, ◌≡◌, ap, sym, ◌∙◌, arith}
use Rattle.load_plan.specs.Draws.{state_after}
use Rattle.load_plan.specs.LoadNetwork.{drafted, first_providers, links_among}
use Rattle.load_plan.proofs.Drafts.{own_links, first_is, second_is, state_step, links_step, net_step, below_step, few_step, providers_step, starts_below, starts_few, no_nodes_yet, no_draws_yet, no_providers_yet}
use Rattle.load_plan.proofs.load_network.add_providers.Goals as goal

pub loop-lower-init : goal.loop-lower-init
loop-lower-init c =
    let three = starts_few _ c.requires in
    record {
      links = c.requires ∙ ap (λ l. drafted 24 3 l 0) (sym (no_nodes_yet c.args.draws.now.state));
      below = starts_below _ c.requires;
      few = omega (arith, three);
      state = no_draws_yet c.args.draws.now.state;
      first = c.new-first_providers.ensures.items ∙ sym (no_providers_yet c.args.draws.now.state);
    }

pub add_links_below-requires-clause-drafted : goal.add_links_below-requires-clause-drafted
add_links_below-requires-clause-drafted c = own_links _ _ 0 c.loop-lower.invariant.links

pub loop-lower-preserved : goal.loop-lower-preserved
loop-lower-preserved c =
    let was = c.loop-lower.invariant in
    let number = c.args.draws.now.state in
    let lower = c.loop-lower.lower in
    let low = c.loop-lower.auto.lower in
    let first = first_is number lower _ c.draw-first.result low was.state c.draw-first.ensures.drawn in
    let once = state_step number (2 * (lower - 3)) _ _ was.state c.draw-first.ensures.state in
    let second = second_is number lower _ c.draw-second.result low once c.draw-second.ensures.drawn in
    let twice = state_step number (2 * (lower - 3) + 1) _ _ once c.draw-second.ensures.state in
    let done = c.in_ok-add_links_below.ensures in
    let few = was.few in
    let more = few_step c.loop-lower.topology c.add_links_below.new.topology (c.draw-first.result + 1) (c.draw-second.result + 1) (lower + 1) done in
    let small = c.draw-first.ensures.small in
    let small' = c.draw-second.ensures.small in
    record {
      links = net_step _ _ _ _ _ was.links done (links_step number lower _ _ low first second);
      below = below_step c.loop-lower.topology c.add_links_below.new.topology (c.draw-first.result + 1) (c.draw-second.result + 1) (lower + 1) was.below (omega (arith, small)) (omega (arith, small')) done;
      few = omega (arith, few, more, low);
      state = twice ∙ ap (state_after number) (omega (arith, low));
      first = c.in_ok-push.ensures.items ∙ (rw (c.new.ensures, was.first) (providers_step number lower (c.draw-first.result + 1) low first));
    }

pub returns-clause-links : goal.returns-clause-links
returns-clause-links c =
    let end : c.loop-lower.lower ≡ 24 = omega arith in
    c.loop-lower.invariant.links ∙ ap (λ n. drafted 24 3 (links_among c.args.draws.now.state (n - 3)) 0) end

pub returns-clause-first : goal.returns-clause-first
returns-clause-first c =
    let end : c.loop-lower.lower ≡ 24 = omega arith in
    c.loop-lower.invariant.first ∙ ap (λ n. first_providers c.args.draws.now.state (n - 3)) end

pub returns-clause-draws : goal.returns-clause-draws
returns-clause-draws c =
    let end : c.loop-lower.lower ≡ 24 = omega arith in
    c.loop-lower.invariant.state ∙ ap (λ n. state_after c.args.draws.now.state (2 * (n - 3))) end
