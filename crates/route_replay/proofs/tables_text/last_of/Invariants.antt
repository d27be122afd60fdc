use Rattle.std.proofs.Common.{◌≡◌, take}
use Rattle.std.specs.Prelude.{option_map}
use Rattle.route_replay.specs.TablesText.{last_of}
use Rattle.route_replay.proofs.tables_text.last_of.Given as goal

-- it is the last one so far
abbrev pub invariant-loop-publication : goal.invariant-loop-publication
invariant-loop-publication l = option_map (λ publication. publication.now) l.last ≡ last_of l.node (take l.publication-index l.publications)
