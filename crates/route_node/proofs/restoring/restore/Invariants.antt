use Rattle.std.proofs.Common.{◌≡◌, ◌<◌, ◌-◌, ◌^◌, List}
use Rattle.path_vector.specs.GaoRexford.{gao_rexford}
use Rattle.node_core.specs.Standing.{StandsFor}
use Rattle.wire_frames.specs.declared.frames.Frame.{Frame}
use Rattle.route_node.specs.Records.{AreRestored}
use Rattle.route_node.specs.Who.{afresh, run_over}
use Rattle.route_node.proofs.Recorded.{ReadSoFar}
use Rattle.route_node.proofs.restoring.restore.Given as goal

-- the records of some frames were read, and the node took them
abbrev pub invariant-loop-found : goal.invariant-loop-found
invariant-loop-found g l =
    record {
      within : l.reader.at < 2 ^ 64;
      offset : l.offset ≡ l.reader.at;
      frames : List Frame;
      file : ReadSoFar l.fn.name (g.D.Disk.seen l.fn.disk) (g.D.Disk.seen l.disk) l.reader frames;
      taken : AreRestored (afresh gao_rexford l.fn.topology.value l.fn.id) frames;
      stands : StandsFor (record {}) gao_rexford l.fn.topology.value l.fn.id l.node (run_over (afresh gao_rexford l.fn.topology.value l.fn.id) frames);
    }

abbrev pub decreases-loop-found : goal.decreases-loop-found
decreases-loop-found g l = 2 ^ 64 - l.reader.at
