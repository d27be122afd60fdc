use Rattle.std.proofs.Common.{◌≡◌, ◌∙◌}
use Rattle.path_vector.proofs.Copying.{all_copied, ids_copied}
use Rattle.path_vector.proofs.state.RouteState.copy.Goals as goal

pub returns : goal.returns
returns g c = λ policy net u h s.
    let old = c.args.self.now.neighbours.items in
    let new = c.in_ok-copy_of.field-0.items in
    let owned : c.in_ok-from_slice.field-0.items ≡ c.args.self.now.owned.items = c.in_ok-from_slice.ensures.items ∙ c.deref.ensures.value in
    record {
      same_policy = s.same_policy;
      valid = s.valid;
      alone = c.in_ok-copy.ensures ∙ s.alone;
      ids = ids_copied old new c.in_ok-copy_of.ensures ∙ s.ids;
      each = all_copied net u h old new c.in_ok-copy_of.ensures s.each;
      places = rw owned s.places;
      owned = λ p below. rw owned (s.owned p below);
    }
