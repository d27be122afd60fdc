use Rattle.std.proofs.Common.{◌∙◌}
use Rattle.world_core.proofs.world.World.publications.Goals as goal

pub returns : goal.returns
returns g c = rw (← c.self.view_is) ((rw c.deref.ensures at c.deref-2.ensures.value) ∙ c.self.invariant.stands.are_published)
