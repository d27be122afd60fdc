-- The links of the network as it stands now.
use Rattle.std.specs.Prelude.{ℕ, Option, Some, None, if◌then◌else◌}
use Rattle.topology.specs.declared.links.Link.{Link}
use Rattle.topology.specs.LinkStates.{is_up}
use Rattle.chronicle.specs.Facts.{Chronicle}
use Rattle.chronicle.specs.Links.{link}

-- the ends of the link, where there is one and it is up
abbrev pub up_among : Chronicle → Option Link → Option (ℕ × ℕ)
up_among past None = None
up_among past (Some l) = if is_up (link l.a l.b past) then Some (l.a, l.b) else None
