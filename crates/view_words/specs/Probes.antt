-- The words of probes.
use Rattle.std.specs.Prelude.{ℕ, Some, List, [], ◌++◌, codes, reverse, Option}
use Rattle.std.specs.Fmt.{decimal}
use Rattle.topology.specs.declared.prefixes.Prefix.{Prefix}
use Rattle.deflect_delivery.specs.Progress.{Progress, At, Over}
use Rattle.view_words.specs.Lines.{ended}
use Rattle.view_words.specs.Entries.{known_prefix}
use Rattle.view_words.specs.Routes.{nodes_text}
use Rattle.view_words.specs.Walks.{end_text}

-- the node and the prefix
abbrev pub probe_head : ℕ → Option Prefix → List ℕ
probe_head node prefix = codes "probe " ++ decimal node ++ codes " " ++ known_prefix prefix ++ codes ":"

-- the visits, the oldest first, and how the walk ended
abbrev pub probed_text : Progress → List ℕ
probed_text (At before node packet) = []
probed_text (Over visits ending) = nodes_text (reverse visits) ++ (codes " " ++ end_text (Some ending))

-- the line of a walk from the node
abbrev pub probe_line : ℕ → Option Prefix → Progress → List ℕ
probe_line node prefix walk = ended (probe_head node prefix ++ probed_text walk)
