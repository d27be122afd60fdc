use Rattle.world_core.proofs.world.World.links.Goals as goal

pub returns : goal.returns
returns g c = rw (c.deref.ensures, ← c.self.view_is) c.self.invariant.stands.are_links
