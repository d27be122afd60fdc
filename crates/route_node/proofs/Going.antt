-- A process that goes on from its start.
use Rattle.std.proofs.Common.{List}
use Rattle.route_io.specs.Views.{LinkView}
use Rattle.path_vector.specs.Rules.{Rules}
use Rattle.wire_frames.specs.declared.frames.Frame.{Frame}
use Rattle.route_node.specs.declared.serving.Process.{Process}
use Rattle.acceptor_journal.specs.Views.{DiskView}
use Rattle.route_node.specs.Running.{Serving, Works, IsWithin, IsRunning}

-- a link and a disk
pub record Sides : Type 0 where
  pub link : LinkView
  pub disk : DiskView

-- it runs; and whatever it had taken at first, it has taken more by now
pub record Keeps {P : Type 0} (rules : P → Rules) (begun : Process P) (first : Sides) (process : Process P) (now : Sides) : Type 0 where
  pub running : IsRunning rules process now.link now.disk
  pub from_all : (at : Serving P) (frames : List Frame) → Works (rules at.policy) at begun first.link first.disk frames → IsWithin begun
      → (taken : List Frame) × Works (rules at.policy) at process now.link now.disk taken × IsWithin process
