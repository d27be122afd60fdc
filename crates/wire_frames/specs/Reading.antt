-- What is at the front of some bytes: a frame, the beginning of one, or the first fault.
use Rattle.std.specs.Prelude.{ℕ, ◌+◌, ◌==◌, ◌||◌, Bool, nat_lt, List, [], ◌∷◌, length, take, Option, Some, None, Result, Ok, Err, if◌then◌else◌}
use Rattle.std.specs.Int.{w32}
use Rattle.topology.specs.declared.frame_faults.FrameKind.{FrameKind}
use Rattle.topology.specs.declared.frame_faults.FrameKind.TheVariants as fault
use Rattle.wire_frames.specs.declared.tags.Tag.{Tag}
use Rattle.wire_frames.specs.declared.tags.Tag.TheVariants.{Originate, Withdraw, Prefer, Notice, OpenSession, Snap, Propose, Update, Marker, Hello, Report, Prepare, Promise, Accept, Accepted, Decision, Hop, Forward, Ended, Published, Inject, ListedUpdate, ListedReport, Flush}
use Rattle.wire_frames.specs.declared.frames.Frame.{Frame}
use Rattle.wire_frames.specs.declared.frames.Frame.TheVariants as frame
use Rattle.wire_frames.specs.Formats.{Format, ◌>>=◌, word_at}
use Rattle.wire_frames.specs.Fields.{node, prefix, epoch}
use Rattle.wire_frames.specs.Frames.{tag_in, limit_of, preferred, session_opened, update, listed_update, marker, hello, reported, listed_reported, in_ballot, promise, accept, decision, hop, forward, ended, published, injected}

-- no bytes are left over after the last field
abbrev pub all_read : {A : Type 0} → A → List ℕ → Result A FrameKind
all_read x [] = Ok x
all_read x (b ∷ bytes) = Err fault.Length

-- the frame of these fields, which must be the whole body
abbrev pub whole : {A : Type 0} → Format A → (A → Frame) → List ℕ → Result Frame FrameKind
whole f make bytes = f.reads bytes >>= λ x. all_read (make x.0) x.1

-- the frame of this kind that the body spells, or the first fault of the body
unfoldable pub body_at : Tag → List ℕ → Result Frame FrameKind
body_at Originate bytes = whole prefix (λ p. frame.Originate p) bytes
body_at Withdraw bytes = whole prefix (λ p. frame.Withdraw p) bytes
body_at Prefer bytes = whole preferred (λ x. frame.Prefer x.0 x.1) bytes
body_at Notice bytes = whole node (λ n. frame.Notice n) bytes
body_at OpenSession bytes = whole session_opened (λ x. frame.OpenSession x.0 x.1) bytes
body_at Snap bytes = all_read frame.Snap bytes
body_at Propose bytes = whole epoch (λ e. frame.Propose e) bytes
body_at Update bytes = whole update (λ x. frame.Update x.0 x.1.0 x.1.1.0 x.1.1.1.0 x.1.1.1.1.0 x.1.1.1.1.1) bytes
body_at Marker bytes = whole marker (λ x. frame.Marker x.0 x.1.0 x.1.1) bytes
body_at Hello bytes = whole hello (λ x. frame.Hello x.0 x.1.0 x.1.1) bytes
body_at Report bytes = whole reported (λ x. frame.Report x.0 x.1) bytes
body_at Prepare bytes = whole in_ballot (λ x. frame.Prepare x.0 x.1.0 x.1.1) bytes
body_at Promise bytes = whole promise (λ x. frame.Promise x.0 x.1.0 x.1.1.0 x.1.1.1) bytes
body_at Accept bytes = whole accept (λ x. frame.Accept x.0 x.1.0 x.1.1.0 x.1.1.1) bytes
body_at Accepted bytes = whole in_ballot (λ x. frame.Accepted x.0 x.1.0 x.1.1) bytes
body_at Decision bytes = whole decision (λ x. frame.Decision x.0 x.1.0 x.1.1) bytes
body_at Hop bytes = whole hop (λ x. frame.Hop x.0 x.1) bytes
body_at Forward bytes = whole forward (λ x. frame.Forward x.0 x.1) bytes
body_at Ended bytes = whole ended (λ x. frame.Ended x.0 x.1) bytes
body_at Published bytes = whole published (λ x. frame.Published x.0 x.1) bytes
body_at Inject bytes = whole injected (λ x. frame.Inject x.0 x.1) bytes
body_at ListedUpdate bytes = whole listed_update (λ x. frame.Update x.0 x.1.0 x.1.1.0 x.1.1.1.0 x.1.1.1.1.0 x.1.1.1.1.1) bytes
body_at ListedReport bytes = whole listed_reported (λ x. frame.Report x.0 x.1) bytes
body_at Flush bytes = whole node (λ n. frame.Flush n) bytes

-- what is found: a frame of so many bytes, an incomplete frame, or a fault
pub data Found : Type 0 where
  Whole : Frame → ℕ → Found
  Partial : Found
  Wrong : FrameKind → Found

-- what is found for a complete body of n bytes; version, kind and length are six bytes
abbrev pub found_by : ℕ → Result Frame FrameKind → Found
found_by n (Ok f) = Whole f (n + 6)
found_by n (Err wrong) = Wrong wrong

-- after the length
abbrev pub sized : Tag → ℕ → List ℕ → Found
sized tag n bytes =
    if nat_lt (limit_of tag) n then Wrong fault.Length
    else if nat_lt (length bytes) n then Partial
    else found_by n (body_at tag (take n bytes))

-- after the kind; a length that is incomplete may still come
abbrev pub behind_kind : Tag → Result (ℕ × List ℕ) FrameKind → Found
behind_kind tag (Ok x) = sized tag x.0 x.1
behind_kind tag (Err wrong) = Partial

-- after the byte of the kind
abbrev pub of_kind : Option Tag → List ℕ → Found
of_kind None bytes = Wrong fault.Kind
of_kind (Some tag) bytes = behind_kind tag (word_at w32 bytes)

-- after the byte of the version
abbrev pub behind_version : ℕ → List ℕ → Found
behind_version v [] = Partial
behind_version v (b ∷ bytes) = of_kind (tag_in v b) bytes

-- the byte is one of the two versions
abbrev pub is_version : ℕ → Bool
is_version v = v == 1 || v == 2

-- what is at the front of the bytes
unfoldable pub found : List ℕ → Found
found [] = Partial
found (v ∷ bytes) = if is_version v then behind_version v bytes else Wrong fault.Version
