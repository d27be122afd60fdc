-- The text of routes: a line for each node and each prefix.
use Rattle.std.specs.Prelude.{ℕ, List, map}
use Rattle.std.specs.List.{enumerate_from}
use Rattle.topology.specs.Net.{Net}
use Rattle.path_vector.specs.Rules.{Rules}
use Rattle.path_vector.specs.Selection.{best, path_of}
use Rattle.trigger_log.specs.Entries.{reads}
use Rattle.chronicle.specs.Facts.{Chronicle}
use Rattle.chronicle.specs.Logs.{log_of}
use Rattle.view_words.specs.Routes.{rib_line}

-- the routes of one node, prefix by prefix in file order
unfoldable pub rib_lines : Rules → Net → Chronicle → ℕ → List (List ℕ)
rib_lines rules net past node =
    map (λ p. rib_line node p.1 (path_of node (best rules net node (reads (log_of node past)) p.0))) (enumerate_from 0 net.prefixes)
