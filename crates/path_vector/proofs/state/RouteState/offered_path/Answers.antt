use Rattle.path_vector.proofs.state.RouteState.offered_path.Goals as goal

pub returns : goal.returns
returns g c = λ policy net u h route s copies there.
    c.path_for.ensures policy net u c.args.nbr h route s copies (c.relation_to.ensures policy net u h s there)
