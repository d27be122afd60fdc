-- A node takes a record of its journal.
use Rattle.std.proofs.Common.{ℕ, ◌≡◌, Some, None, List, length, sym, ap, ◌∙◌, subst}
use Rattle.std.specs.Prelude.{if◌then◌else◌}
use Rattle.topology.proofs.Tests.{same_refl}
use Rattle.topology.specs.declared.frame_faults.FrameFault.TheVariants.{Length}
use Rattle.topology.specs.declared.status.Status.{Status}
use Rattle.topology.specs.declared.status.Status.TheVariants.{Done, Usage, NoMemory, BadSchedule, Limit, ReadFault, WriteFault, LinkFault, BadFrame, NoSuchNode, DiskFault, BadJournal, BadTables, Inconsistent}
use Rattle.chronicle.specs.Inputs.{Input}
use Rattle.chronicle.specs.Run.{chronicle_of}
use Rattle.node_core.specs.NodeLimits.{node_limit}
use Rattle.node_core.specs.Standing.{StandsFor}
use Rattle.node_core.specs.declared.node.Node.{Node}
use Rattle.admission_laws.specs.NodeRuns.{gives}
use Rattle.wire_frames.specs.declared.frames.Frame.{Frame}
use Rattle.route_node.specs.Fronts.{Admits}
use Rattle.route_node.specs.Records.{EndsHeard, EndsRecord, HasFrame, RefusesAtRecord, RefusesRecord, StopsIn, TakesRecord, fault_in, record_fault}
use Rattle.route_node.specs.Streams.{input_limit, out_of_turn, refusal}
use Rattle.route_node.specs.Who.{Who, run_over}
use Rattle.route_node.proofs.Taking.{refusal_is, run_more}

-- a record without a frame that the node reads
pub ends_unread : (who : Who) (frames : List Frame) (offset : ℕ) (bytes : List ℕ) (status : Status) → RefusesRecord who frames offset bytes status → EndsRecord who frames offset bytes status
ends_unread who frames offset bytes NoMemory e = tt
ends_unread who frames offset bytes (BadJournal at fault) e = e
ends_unread who frames offset bytes (Limit kind number) e = absurd e
ends_unread who frames offset bytes Done e = absurd e
ends_unread who frames offset bytes Usage e = absurd e
ends_unread who frames offset bytes (BadSchedule line kind) e = absurd e
ends_unread who frames offset bytes ReadFault e = absurd e
ends_unread who frames offset bytes WriteFault e = absurd e
ends_unread who frames offset bytes LinkFault e = absurd e
ends_unread who frames offset bytes (BadFrame at fault) e = absurd e
ends_unread who frames offset bytes (NoSuchNode node) e = absurd e
ends_unread who frames offset bytes DiskFault e = absurd e
ends_unread who frames offset bytes (BadTables line) e = absurd e
ends_unread who frames offset bytes (Inconsistent line kind) e = absurd e

module _ (who : Who) (frames : List Frame) (offset : ℕ) (bytes : List ℕ) (f : Frame) (has : HasFrame bytes f) where
  -- it is refused because of its frame
  whole : record_fault who frames bytes ≡ refusal who frames f
  whole =
      let n = length bytes in
      ap (fault_in who frames n) has.there ∙ ap (λ b. if b then refusal who frames f else Some Length) (same_refl n)

  pub ends_refused : (status : Status) → RefusesAtRecord offset (refusal who frames f) status → EndsRecord who frames offset bytes status
  ends_refused NoMemory e = tt
  ends_refused (BadJournal at fault) e = (e.0, whole ∙ e.1)
  ends_refused (Limit kind number) e = absurd e
  ends_refused Done e = absurd e
  ends_refused Usage e = absurd e
  ends_refused (BadSchedule line kind) e = absurd e
  ends_refused ReadFault e = absurd e
  ends_refused WriteFault e = absurd e
  ends_refused LinkFault e = absurd e
  ends_refused (BadFrame at fault) e = absurd e
  ends_refused (NoSuchNode node) e = absurd e
  ends_refused DiskFault e = absurd e
  ends_refused (BadTables line) e = absurd e
  ends_refused (Inconsistent line kind) e = absurd e

  module _ (i : Input) (admits : Admits who.net who.node f i) where
    turned : refusal who frames f ≡ out_of_turn (gives who.rules who.net who.node (run_over who frames) i)
    turned = refusal_is who f frames i admits.brings admits.fit

    -- or because of its input, or it exceeds a limit
    pub ends_heard_at : (status : Status)
        → EndsHeard offset (out_of_turn (gives who.rules who.net who.node (run_over who frames) i)) (node_limit who.rules who.net who.node (gives who.rules who.net who.node (run_over who frames) i)) status
        → EndsRecord who frames offset bytes status
    ends_heard_at NoMemory e = tt
    ends_heard_at (BadJournal at fault) e = (e.0, whole ∙ (turned ∙ e.1))
    ends_heard_at (Limit kind number) e =
        subst (StopsIn who frames (length bytes) (record { kind = kind; number = number })) (sym has.there)
        (same_refl (length bytes), turned ∙ e.0, ap (input_limit who frames) admits.brings ∙ e.1)
    ends_heard_at Done e = absurd e
    ends_heard_at Usage e = absurd e
    ends_heard_at (BadSchedule line kind) e = absurd e
    ends_heard_at ReadFault e = absurd e
    ends_heard_at WriteFault e = absurd e
    ends_heard_at LinkFault e = absurd e
    ends_heard_at (BadFrame at fault) e = absurd e
    ends_heard_at (NoSuchNode node) e = absurd e
    ends_heard_at DiskFault e = absurd e
    ends_heard_at (BadTables line) e = absurd e
    ends_heard_at (Inconsistent line kind) e = absurd e

-- it is taken
pub record_taken : {P : Type 0} (policy : P) (who : Who) (frames : List Frame) (bytes : List ℕ) (f : Frame) (i : Input) (node : Node P) → HasFrame bytes f → Admits who.net who.node f i
    → StandsFor policy who.rules who.net who.node node (chronicle_of (run_over who frames) (gives who.rules who.net who.node (run_over who frames) i))
    → out_of_turn (gives who.rules who.net who.node (run_over who frames) i) ≡ None → node_limit who.rules who.net who.node (gives who.rules who.net who.node (run_over who frames) i) ≡ None
    → TakesRecord policy who frames bytes node
record_taken policy who frames bytes f i node has admits stands turn low = record {
  frame = f;
  is = has.is;
  taken = (has.fit, refusal_is who f frames i admits.brings admits.fit ∙ turn, ap (input_limit who frames) admits.brings ∙ low);
  stands = subst (λ c. StandsFor policy who.rules who.net who.node node c) (sym (run_more who f frames i admits.brings)) stands;
}
