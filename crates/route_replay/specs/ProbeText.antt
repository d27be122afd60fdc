-- The text of a probe: the walk that a packet has from a node, over the network as it is now, if nothing happens any more.
use Rattle.std.specs.Prelude.{ℕ, List, slice_get}
use Rattle.topology.specs.Net.{Net}
use Rattle.path_vector.specs.Rules.{Rules}
use Rattle.chronicle.specs.Facts.{Chronicle}
use Rattle.deflect_delivery.specs.Progress.{whole_walk}
use Rattle.delivery_laws.specs.Now.{still_now}
use Rattle.view_words.specs.Probes.{probe_line}

-- the line of the node and the prefix at this place of the file
unfoldable pub probe_text : Rules → Net → Chronicle → ℕ → ℕ → List ℕ
probe_text rules net past node p = probe_line node (slice_get net.prefixes p) (whole_walk net (still_now rules net past p) p node)
