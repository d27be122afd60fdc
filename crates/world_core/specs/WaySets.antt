-- Sets of ways.
use Rattle.std.specs.Prelude.{ℕ, suc, Bool, false, ◌==◌, ◌&&◌, List, [], ◌∷◌, if◌then◌else◌}
use Rattle.topology.specs.Net.{Net}
use Rattle.link_model.specs.declared.way_set.WaySet.{WaySet}
use Rattle.link_model.specs.Tables.{ways_of}
use Rattle.link_model.specs.WaySets.{has_number}
use Rattle.topology.specs.declared.ways.Way.{Way}

-- the two ways are the same
abbrev pub same_way : Way → Way → Bool
same_way v w = v.from == w.from && v.to == w.to

-- the number of the way is in the set
abbrev pub has_in : (ℕ → Bool) → List Way → Way → Bool
has_in numbers [] way = false
has_in numbers (e ∷ es) way = if same_way e way then numbers 0 else has_in (λ number. numbers (suc number)) es way

-- the way is in the set: it is one of the network, and the set has its number
abbrev pub has_way : Net → WaySet → Way → Bool
has_way net ways way = has_in (has_number ways) (ways_of net) way
