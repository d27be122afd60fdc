-- A node over a link never stops at the limit on the bytes of a file.
use Rattle.std.proofs.Common.{ℕ, ◌+◌, ◌≡◌, Bool, true, false, Option, Some, None, List, ◌++◌, refl, sym, ap, ◌∙◌, length}
use Rattle.std.specs.Prelude.{is_some, nat_lt, if◌then◌else◌}
use Rattle.topology.specs.declared.status.Status.TheVariants.{Limit}
use Rattle.topology.specs.declared.status.LimitKind.TheVariants.{Frames, Journal}
use Rattle.topology.specs.Net.{Net}
use Rattle.path_vector.specs.Rules.{Rules}
use Rattle.acceptor_journal.specs.Records.{place_behind}
use Rattle.chronicle.specs.Inputs.{Input}
use Rattle.chronicle.specs.Steps.{Step, Idle, Goes}
use Rattle.node_core.specs.NodeLimits.{Reached, first_of_node, node_above, has_more_marks, or_marks, node_limit}
use Rattle.admission_laws.specs.NodeRuns.{gives}
use Rattle.wire_frames.specs.declared.frames.Frame.{Frame}
use Rattle.wire_frames.specs.Frames.{spell}
use Rattle.route_node.specs.declared.keeping.TheConstants.{MOST_JOURNAL}
use Rattle.topology.specs.declared.limits.TheConstants.{MOST_FRAMES}
use Rattle.route_node.specs.Frames.{brought}
use Rattle.route_node.specs.Served.{ends_serving}
use Rattle.route_node.specs.Restored.{ends_restoring}
use Rattle.route_node.specs.Streams.{input_limit, journal_limit, first_of_two, frame_limit}
use Rattle.route_node.specs.Who.{Who, run_over, spellings}

-- a run may end at this limit, if there is one
abbrev may_stop : Bool → Option Reached → Bool
may_stop keeps None = true
may_stop keeps (Some reached) = ends_serving keeps (Limit reached.kind reached.number)

of_node : (keeps epochs triggers entries updates : Bool) → may_stop keeps (first_of_node epochs triggers entries updates) ≡ true
of_node keeps true triggers entries updates = refl
of_node keeps false true entries updates = refl
of_node keeps false false true updates = refl
of_node keeps false false false true = refl
of_node keeps false false false false = refl

-- the limit on marks is the last
with_marks : (keeps : Bool) (o : Option Reached) (more : Bool) → may_stop keeps o ≡ true → may_stop keeps (or_marks o more) ≡ true
with_marks keeps None true e = refl
with_marks keeps None false e = refl
with_marks keeps (Some reached) more e = e

above : (keeps : Bool) (rules : Rules) (net : Net) (u : ℕ) (s : Step) → may_stop keeps (node_limit rules net u s) ≡ true
unfolding node_above
above keeps rules net u (Idle reason) = refl
above keeps rules net u (Goes now) = with_marks keeps (node_above rules net u now) (has_more_marks rules net u now) (of_node keeps _ _ _ _)

at_input : (who : Who) (before : List Frame) (i : Option Input) → may_stop (is_some who.records) (input_limit who before i) ≡ true
at_input who before None = refl
at_input who before (Some i) = above (is_some who.records) who.rules who.net who.node (gives who.rules who.net who.node (run_over who before) i)

-- only a run with a journal stops at the journal's bytes
at_journal : (records : Option (List Frame)) (before : List Frame) (f : Frame) → may_stop (is_some records) (journal_limit records before f) ≡ true
at_journal None before f = refl
at_journal (Some records) before f =
    elim (nat_lt MOST_JOURNAL (place_behind (spellings (before ++ records)) + (6 + length (spell f)))) as (λ t. may_stop true (if t then Some (record { kind = Journal; number = MOST_JOURNAL }) else None) ≡ true) [
      | true ↦ refl
      | false ↦ refl
    ]

either : (keeps : Bool) (o later : Option Reached) → may_stop keeps o ≡ true → may_stop keeps later ≡ true → may_stop keeps (first_of_two o later) ≡ true
either keeps None later first second = second
either keeps (Some reached) later first second = first

at_frame : (who : Who) (before : List Frame) (f : Frame) → may_stop (is_some who.records) (frame_limit who before f) ≡ true
at_frame who before f =
    elim (nat_lt (length before) MOST_FRAMES) as (λ t. may_stop (is_some who.records) (if t then first_of_two (input_limit who before (brought f)) (journal_limit who.records before f) else Some (record { kind = Frames; number = MOST_FRAMES })) ≡ true) [
      | true ↦ either (is_some who.records) (input_limit who before (brought f)) (journal_limit who.records before f) (at_input who before (brought f)) (at_journal who.records before f)
      | false ↦ refl
    ]

-- the status of a run that stops at a frame is one with which it may end
pub limit_ends : (who : Who) (before : List Frame) (f : Frame) (reached : Reached) → frame_limit who before f ≡ Some reached
    → ends_serving (is_some who.records) (Limit reached.kind reached.number) ≡ true
limit_ends who before f reached e = sym (ap (may_stop (is_some who.records)) e) ∙ at_frame who before f

-- and so is that of a node that reads its journal back
abbrev may_stop_back : Option Reached → Bool
may_stop_back None = true
may_stop_back (Some reached) = ends_restoring (Limit reached.kind reached.number)

node_back : (epochs triggers entries updates : Bool) → may_stop_back (first_of_node epochs triggers entries updates) ≡ true
node_back true triggers entries updates = refl
node_back false true entries updates = refl
node_back false false true updates = refl
node_back false false false true = refl
node_back false false false false = refl

marks_back : (o : Option Reached) (more : Bool) → may_stop_back o ≡ true → may_stop_back (or_marks o more) ≡ true
marks_back None true e = refl
marks_back None false e = refl
marks_back (Some reached) more e = e

above_back : (rules : Rules) (net : Net) (u : ℕ) (s : Step) → may_stop_back (node_limit rules net u s) ≡ true
unfolding node_above
above_back rules net u (Idle reason) = refl
above_back rules net u (Goes now) = marks_back (node_above rules net u now) (has_more_marks rules net u now) (node_back _ _ _ _)

pub limit_ends_back : (who : Who) (before : List Frame) (i : Option Input) (reached : Reached) → input_limit who before i ≡ Some reached → ends_restoring (Limit reached.kind reached.number) ≡ true
limit_ends_back who before None reached e = absurd (cc e)
limit_ends_back who before (Some i) reached e = sym (ap may_stop_back e) ∙ above_back who.rules who.net who.node (gives who.rules who.net who.node (run_over who before) i)
