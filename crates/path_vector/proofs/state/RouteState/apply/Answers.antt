use Rattle.std.proofs.Common.{◌∷◌, ◌∙◌, sym, subst}
use Rattle.path_vector.specs.History.{change}
use Rattle.path_vector.specs.Kept.{Keeps}
use Rattle.path_vector.proofs.Answering.{keeps_of}
use Rattle.path_vector.proofs.state.RouteState.apply.Goals as goal

pub returns-clause-ok : goal.returns-clause-ok
returns-clause-ok g c = λ policy net u past s a.
    let own = c.node-node.ensures policy net u past s in
    let before = subst (λ n. Keeps net n past c.args.self.now.neighbours.items) (sym own) (keeps_of policy net u c.args.self.now past s) in
    let kept = subst (λ n. Keeps net n (change c.args.scope c.args.cause.now ∷ past) c.heed.new.neighbours.items) own (c.in_ok-heed.ensures.ok net past before a) in
    record {
      same_policy = s.same_policy;
      valid = s.valid;
      alone = s.alone;
      ids = kept.same;
      each = kept.each;
      places = c.mark.ensures.places ∙ s.places;
      owned = λ p below. c.mark.ensures.owns past p a (rw s.places below) (s.owned p below);
    }
