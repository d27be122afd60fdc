-- A process that has taken some frames.
use Rattle.std.specs.Prelude.{ℕ, true, ◌≡◌, ◌≤◌, ◌<◌, ◌+◌, ◌*◌, ◌-◌, option_map, Option, Some, None, List, [], ◌++◌, length}
use Rattle.std.specs.Io.KnownBytes.{Appends, prepend_known}
use Rattle.topology.specs.declared.status.Status.{Status}
use Rattle.topology.specs.Lists.{has, Begins}
use Rattle.topology.specs.Net.{Net, IsValid}
use Rattle.route_io.specs.Acts.{came, written}
use Rattle.route_io.specs.Causes.{StaysTold}
use Rattle.route_io.specs.Links.{ahead}
use Rattle.route_io.specs.Views.{StreamAct, LinkView}
use Rattle.path_vector.specs.Rules.{Rules}
use Rattle.acceptor_journal.specs.Views.{DiskView}
use Rattle.acceptor_journal.specs.Images.{LeavesOnly}
use Rattle.acceptor_journal.specs.Journals.{KeepsTelling}
use Rattle.acceptor_journal.specs.Records.{place_behind}
use Rattle.node_core.specs.Outputs.{Output, outputs}
use Rattle.node_core.specs.Standing.{StandsFor}
use Rattle.wire_frames.specs.declared.frames.Frame.{Frame}
use Rattle.route_node.specs.declared.serving.Process.{Process}
use Rattle.topology.specs.declared.limits.TheConstants.{MOST_FRAMES}
use Rattle.chronicle.specs.Inputs.{Input}
use Rattle.route_node.specs.Fronts.{Holds, Admits}
use Rattle.route_node.specs.Writing.{OneWriteEach, spelled}
use Rattle.route_node.specs.Prompt.{IsPrompt}
use Rattle.route_node.specs.Records.{AreRestored}
use Rattle.route_node.specs.Served.{AnswersUpTo, Served}
use Rattle.route_node.specs.ServedKept.{HasKeptBehind, KeepsFront}
use Rattle.route_node.specs.Streams.{stream, replies, answers, AreTaken}
use Rattle.route_node.specs.Who.{Who, afresh, begun_by, run_over, spellings}

-- who answers: a policy, a network, its node, and the frames of its journal, if it has one; and the link and the disk
-- at the start
pub record Serving (P : Type 0) : Type 0 where
  pub policy : P
  pub net : Net
  pub node : ℕ
  pub records : Option (List Frame)
  pub first : LinkView
  pub disk : DiskView

-- the same, with the rules of the policy
abbrev pub who_at : {P : Type 0} → Rules → Serving P → Who
who_at rules at = record { rules = rules; net = at.net; node = at.node; records = at.records }

-- the reads since the start brought the frames followed by the received bytes, the writes took the answers, and each
-- read came in time
pub record KeepsUp (who : Who) (frames : List Frame) (received : List ℕ) (since : List StreamAct) : Type 0 where
  pub brought : came since ≡ stream frames ++ received
  pub took : written since ≡ answers who frames
  pub prompt : IsPrompt who since

-- the answers to the frames begin with those to the earlier frames
abbrev pub AnswersGrow : Who → List Frame → Type 0
AnswersGrow who frames =
    (more older : List Frame) → frames ≡ more ++ older → Begins (answers who older) (answers who frames)

-- the frames of the journal, if there is one, were taken when it was read back
abbrev pub AreBegun : Rules → Net → ℕ → Option (List Frame) → Type 0
AreBegun rules net u None = Unit {0}
AreBegun rules net u (Some frames) = AreRestored (afresh rules net u) frames

-- what the node has handed out since it began
abbrev pub HandsSince : Who → List Frame → Type 0
HandsSince who frames = (since : List Output) × (outputs (run_over who frames) ≡ outputs (begun_by who) ++ since)

-- these frames, the newest first, were taken and answered, and the received bytes after them come before what is still
-- to come
pub record Runs {P : Type 0} (rules : Rules) (at : Serving P) (process : Process P) (link : LinkView) (frames : List Frame) : Type 0 where
  pub valid : IsValid at.net
  pub is_node : has at.net.nodes at.node ≡ true
  pub same_net : process.topology.value ≡ at.net
  pub same_id : process.id ≡ at.node
  pub restored : AreBegun rules at.net at.node at.records
  pub stands : StandsFor at.policy rules at.net at.node process.node (run_over (who_at rules at) frames)
  pub taken : AreTaken (who_at rules at) frames
  pub count : process.frames ≡ length frames
  pub offset : process.offset ≡ length (stream frames)
  pub bytes : prepend_known (stream frames) (ahead process.received link) ≡ at.first.incoming
  pub wrote : Appends at.first.outgoing link.outgoing (spelled (replies (who_at rules at) frames))
  pub told : StaysTold at.first.outgoing link.outgoing
  pub one_write_each : OneWriteEach (replies (who_at rules at) frames) at.first link
  pub grow : AnswersGrow (who_at rules at) frames
  pub since : HandsSince (who_at rules at) frames
  pub acts : (before : List StreamAct) → at.first.acts ≡ Some before
      → (since : List StreamAct) × (link.acts ≡ Some (since ++ before)) × KeepsUp (who_at rules at) frames process.received since
  pub same_room : link.room ≡ at.first.room
  pub same_dialled : link.dialled ≡ at.first.dialled
  pub same_sure : link.sure ≡ at.first.sure
  pub quiet : link.faults ≡ at.first.faults

-- the most bytes of a frame, with the six bytes before its body
abbrev pub longest : ℕ
longest = 1048582

-- how much is left to do: frames that may still be taken, and bytes that may still be waited for
abbrev pub left_of : {P : Type 0} → Process P → ℕ
left_of process = (MOST_FRAMES - process.frames) * 2000000 + (1999999 - length process.received)

-- no more was received than a read adds to the beginning of a frame
abbrev pub IsWithin : {P : Type 0} → Process P → Type 0
IsWithin process = (length process.received ≤ 1999999) × (process.frames ≤ MOST_FRAMES)

-- these frames have been taken by now, and less is left to do
pub record ServesOn {P : Type 0} (rules : Rules) (at : Serving P) (process : Process P) (link : LinkView) (frames : List Frame) (before : ℕ) : Type 0 where
  pub runs : Runs rules at process link frames
  pub within : IsWithin process
  pub less : left_of process < before

-- how a run ends over its link, if it took these frames
pub record EndsServing (who : Who) (link link' : LinkView) (frames : List Frame) (status : Status) : Type 0 where
  pub served : Served who link link' status
  pub answered : AnswersUpTo who frames link link' status

-- ---- with a disk

-- the journal is after the frames, which are kept; and a crash would never have left more than the first of the frames
-- that come
pub record KeepsFrames (who : Who) (incoming : Option (List ℕ)) (first : DiskView) (journal : Option ℕ) (disk : DiskView) (frames : List Frame) : Type 0 where
  pub has : journal ≡ option_map (λ records. place_behind (spellings (frames ++ records))) who.records
  pub moments : (records : List (List ℕ)) → HasKeptBehind who.records [] first records → LeavesOnly first disk (KeepsFront who incoming records)
  pub kept : (records : List (List ℕ)) → HasKeptBehind who.records [] first records → HasKeptBehind who.records frames disk (records ++ spellings frames)
  pub quiet : disk.faults ≡ first.faults
  pub telling : KeepsTelling first disk

-- these frames were taken, answered and kept
pub record Works {P : Type 0} (rules : Rules) (at : Serving P) (process : Process P) (link : LinkView) (disk : DiskView) (frames : List Frame) : Type 0 where
  pub runs : Runs rules at process link frames
  pub keeps : KeepsFrames (who_at rules at) at.first.incoming at.disk process.journal disk frames

-- one more frame was taken, or more was received, and less is left to do
pub record GoesFurther {P : Type 0} (rules : Rules) (at : Serving P) (process : Process P) (link : LinkView) (disk : DiskView) (before : ℕ) : Type 0 where
  pub frames : List Frame
  pub goes : ServesOn rules at process link frames before
  pub keeps : KeepsFrames (who_at rules at) at.first.incoming at.disk process.journal disk frames

-- a process that has taken some frames
pub record IsRunning {P : Type 0} (rules : P → Rules) (process : Process P) (link : LinkView) (disk : DiskView) : Type 0 where
  pub at : Serving P
  pub frames : List Frame
  pub works : Works (rules at.policy) at process link disk frames
  pub within : IsWithin process

-- the front of what it received is a frame of `size` bytes that brings this input, which its node admits
pub record MayTake {P : Type 0} (rules : P → Rules) (process : Process P) (link : LinkView) (i : Input) (size : ℕ) : Type 0 where
  pub at : Serving P
  pub frames : List Frame
  pub runs : Runs (rules at.policy) at process link frames
  pub within : IsWithin process
  pub frame : Frame
  pub holds : Holds process.received frame size
  pub admits : Admits at.net at.node frame i
