use Rattle.std.proofs.Common.{ℕ, List, ◌≡◌, ◌++◌, map, take}
use Rattle.std.specs.List.{flat_map}
use Rattle.topology.specs.Net.{Net}
use Rattle.trigger_log.specs.Entries.{Entry}
use Rattle.trigger_log.specs.Standing.{StandsFor as LogStandsFor}
use Rattle.node_core.specs.Outputs.{Send, output_of}
use Rattle.node_core.proofs.Raising.{marker_to}
use Rattle.node_core.proofs.node.Node.send_markers.Given as goal

abbrev pub invariant-loop-nbr : goal.invariant-loop-nbr
invariant-loop-nbr g l = (policy : _) (net : Net) (u : ℕ) (h : List Entry) → l.self.parts.value.topology.value ≡ net → l.self.parts.value.id ≡ u → LogStandsFor policy (g.P.Policy.rules policy) net u l.self.log.value h
    → map output_of l.outputs ≡ map output_of l.fn.outputs ++ map Send (flat_map (marker_to h l.fn.epoch) (take l.nbr-index l.nbr-items))
