-- Walks over networks that do not change: one packet that is stuck, and one that is delivered.
use Rattle.std.specs.Prelude.{ℕ, List, [], ◌∷◌, Option, Some, None, ◌≡◌, refl, reverse}
use Rattle.topology.specs.Lists.{ascending}
use Rattle.topology.specs.declared.links.Link.{Link}
use Rattle.topology.specs.declared.links.Relation.TheVariants.{Any}
use Rattle.topology.specs.declared.names.Scheme.TheVariants.{Deflect}
use Rattle.topology.specs.Net.{Net, neighbours}
use Rattle.epoch_packet.specs.declared.walks.End.TheVariants.{Delivered, Stuck}
use Rattle.epoch_packet.specs.Packets.{stamped}
use Rattle.transient_mode.specs.TransientHops.{deflected, hop_under}
use Rattle.deflect_delivery.specs.declared.stills.Still.{Still}
use Rattle.deflect_delivery.specs.Progress.{Over, one_more, set_out, whole_walk}

-- opens every definition that is needed
unfoldable all : Unit {0}
unfolding ascending neighbours stamped deflected hop_under one_more set_out whole_walk
all = tt

abbrev a_link : ℕ → ℕ → Link
a_link a b = record { a = a; b = b; relation = Any }

abbrev network : List ℕ → List Link → Net
network nodes links = record { nodes = nodes; consolidators = []; links = links; preferences = []; prefixes = []; holds = []; hops = 128; scheme = Deflect }

-- the line 1 2 3 4; node 5, which owns the prefix, has no link
abbrev line : Net
line = network (1 ∷ 2 ∷ 3 ∷ 4 ∷ 5 ∷ []) (a_link 1 2 ∷ a_link 2 3 ∷ a_link 3 4 ∷ [])

abbrev far : Still
far = record {
  up = (1, 2) ∷ (2, 3) ∷ (3, 4) ∷ [];
  owners = 5 ∷ [];
  orders = (2 ∷ []) ∷ (1 ∷ 3 ∷ []) ∷ (2 ∷ 4 ∷ []) ∷ (3 ∷ []) ∷ [] ∷ [];
}

is_stuck : whole_walk line far 0 1 ≡ Over (1 ∷ 2 ∷ 3 ∷ 4 ∷ 3 ∷ 2 ∷ 1 ∷ []) Stuck
unfolding all
is_stuck = refl

-- a star, whose ray 4 owns the prefix
abbrev star : Net
star = network (1 ∷ 2 ∷ 3 ∷ 4 ∷ []) (a_link 1 2 ∷ a_link 1 3 ∷ a_link 1 4 ∷ [])

abbrev ray : Still
ray = record {
  up = (2, 1) ∷ (1, 3) ∷ (1, 4) ∷ [];
  owners = 4 ∷ [];
  orders = (2 ∷ 3 ∷ 4 ∷ []) ∷ (1 ∷ []) ∷ (1 ∷ []) ∷ (1 ∷ []) ∷ [];
}

-- the newest visit first
is_delivered : whole_walk star ray 0 2 ≡ Over (4 ∷ 1 ∷ 3 ∷ 1 ∷ 2 ∷ []) Delivered
unfolding all
is_delivered = refl
