use Rattle.std.proofs.Common.{◌≡◌, ap, ◌∙◌, ◌++◌, ◌∷◌, [], false, refl}
use Rattle.topology.specs.Lists.{has, put_ascending}
use Rattle.topology.proofs.Sets.{both_orders-append, key_added}
use Rattle.topology.proofs.node_set.NodeSet.add.Goals as goal

new_here : (c : goal.After-unwrap-2) → has c.self.inside.added.keys c.args.id ≡ false
new_here c = ap (λ m. has m.nodes c.args.id) c.self.view_is ∙ c.requires.new

added_is : (c : goal.After-unwrap-2) → c.insert.new.self.keys ≡ c.self.inside.added.keys ++ c.args.id ∷ []
added_is c = (rw c.unwrap.ensures at c.insert.ensures.keys) ∙ key_added _ c.args.id (λ x. refl) _ (new_here c)

sorted_is : (c : goal.After-unwrap-2) → c.insert_ascending.new.nodes.items ≡ put_ascending c.args.id c.self.inside.ascending.items
sorted_is c = rw c.unwrap-2.ensures at c.insert_ascending.ensures.ok

pub invariant_of-self : goal.invariant_of-self
invariant_of-self c = rw (added_is c, sorted_is c) (both_orders-append _ _ _ c.self.invariant (new_here c))

pub returns : goal.returns
returns c = added_is c ∙ ap (λ m. m.nodes ++ c.args.id ∷ []) c.self.view_is
