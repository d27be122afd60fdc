use Rattle.std.proofs.Common.{◌≡◌, Some, sym, ◌∙◌}
use Rattle.path_vector.specs.Offers.{learned}
use Rattle.path_vector.proofs.Answering.{copy_exported, choose_none, choose_path}
use Rattle.path_vector.proofs.state.RouteState.path_for.Goals as goal

pub returns-then-not-tells : goal.returns-then-not-tells
returns-then-not-tells g c = λ policy net u nbr h route s copies is.
    let telling = rw s.same_policy at c.if-not-tells.ensures in
    let learnt : Some c.in_ok-chosen.field-0 ≡ learned net u route = sym c.in_ok-chosen.was ∙ copies.learnt in
    sym (copy_exported (g.P.Policy.rules policy) net u nbr route (Some c.in_ok-chosen.field-0) c.args.chosen.now.path c.args.to learnt copies.path is
    ∙ choose_none c.args.chosen.now.path telling)

pub returns : goal.returns
returns g c = λ policy net u nbr h route s copies is.
    let telling = rw s.same_policy at c.if-not-tells.ensures in
    let learnt : Some c.in_ok-chosen.field-0 ≡ learned net u route = sym c.in_ok-chosen.was ∙ copies.learnt in
    c.as_ref.ensures.value ∙ sym (copy_exported (g.P.Policy.rules policy) net u nbr route (Some c.in_ok-chosen.field-0) c.args.chosen.now.path c.args.to learnt copies.path is
    ∙ choose_path c.args.chosen.now.path telling)
