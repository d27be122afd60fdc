-- Frames that are still in bytes, and the meaning of answers.
use Rattle.std.specs.Prelude.{◌≡◌, ◌≤◌, ℕ, true, length, take, List, Option, Some, None, Result, Ok, Err}
use Rattle.std.specs.Borrow.{Bor}
use Rattle.topology.specs.declared.names.Trigger.{Trigger}
use Rattle.topology.specs.declared.ballots.Ballot.{Ballot}
use Rattle.incomplete_closure.specs.declared.reports.Report.{Report}
use Rattle.incomplete_closure.specs.declared.values.Value.{Value}
use Rattle.epoch_packet.specs.declared.packets.Packet.{Packet}
use Rattle.topology.specs.declared.frame_faults.FrameKind.{FrameKind}
use Rattle.wire_frames.specs.declared.frames.Frame.{Frame}
use Rattle.wire_frames.specs.declared.frames.Frame.TheVariants as frame
use Rattle.wire_frames.specs.declared.frames.FrameRef.{FrameRef}
use Rattle.wire_frames.specs.declared.frames.FrameRef.TheVariants as part
use Rattle.wire_frames.specs.declared.frames.Decoded.{Decoded}
use Rattle.wire_frames.specs.declared.frames.Decoded.TheVariants as decoded
use Rattle.wire_frames.specs.Formats.{Format}
use Rattle.wire_frames.specs.Fields.{links, path, paths, value, packet}
use Rattle.wire_frames.specs.Listing.{spelled_triggers, update_version, spelled_report, report_version}
use Rattle.wire_frames.specs.Frames.{fits, spell}
use Rattle.wire_frames.specs.Reading.{Found, Whole, Partial, Wrong}

-- the answer, through the view, is what is read
abbrev pub Gives : {X Y : Type 0} → (X → Y) → Result X FrameKind → Result Y FrameKind → Type 0
Gives view (Ok x) read = read ≡ Ok (view x)
Gives view (Err wrong) read = read ≡ Err wrong

-- the answer says whether a value is read, and `rest` are the bytes after it
abbrev pub Passes : {A T : Type 0} → Format A → List ℕ → Result T FrameKind → List ℕ → Type 0
Passes {A} f bytes (Ok x) rest = (y : A) × (f.reads bytes ≡ Ok (y, rest))
Passes f bytes (Err wrong) rest = f.reads bytes ≡ Err wrong

-- the answer is the view of the value that is read, and `rest` are the bytes after it
abbrev pub PassesAs : {A T : Type 0} → (A → T) → Format A → List ℕ → Result T FrameKind → List ℕ → Type 0
PassesAs {A} view f bytes (Ok x) rest = (y : A) × (f.reads bytes ≡ Ok (y, rest)) × (x ≡ view y)
PassesAs view f bytes (Err wrong) rest = f.reads bytes ≡ Err wrong

-- the answer is the part that spells the value that is read, which has a spelling, and `rest` are the bytes after it
abbrev pub Cuts : {A : Type 0} → Format A → List ℕ → Result (Bor (List ℕ)) FrameKind → List ℕ → Type 0
Cuts {A} f bytes (Ok text) rest = (y : A) × (f.reads bytes ≡ Ok (y, rest)) × (text.now ≡ f.spells y) × (f.fits y ≡ true)
Cuts f bytes (Err wrong) rest = f.reads bytes ≡ Err wrong

-- the ballot and the part that spells a value name this ballot and this value; or both sides name nothing
abbrev pub NamesSame : Option (Ballot × Bor (List ℕ)) → Option (Ballot × Value) → Type 0
NamesSame None None = Unit {0}
NamesSame None (Some y) = ⊥
NamesSame (Some x) None = ⊥
NamesSame (Some x) (Some y) = (x.0 ≡ y.0) × (x.1.now ≡ value.spells y.1)

-- the frame in bytes is this frame: of the same kind, with the same numbers, and each part spells its field
abbrev pub IsFrame : FrameRef → Frame → Type 0
IsFrame (part.Originate p) f = f ≡ frame.Originate p
IsFrame (part.Withdraw p) f = f ≡ frame.Withdraw p
IsFrame (part.Prefer n v) f = f ≡ frame.Prefer n v
IsFrame (part.Notice n) f = f ≡ frame.Notice n
IsFrame (part.OpenSession n s) f = f ≡ frame.OpenSession n s
IsFrame part.Snap f = f ≡ frame.Snap
IsFrame (part.Propose e) f = f ≡ frame.Propose e
IsFrame (part.Update v n s q text p way) f =
    (ts : List Trigger) × (ns : Option (List ℕ)) × (f ≡ frame.Update n s q ts p ns) × (v ≡ update_version ts) × (text.now ≡ spelled_triggers ts)
    × (way.now ≡ path.spells ns)
IsFrame (part.Marker n s e) f = f ≡ frame.Marker n s e
IsFrame (part.Hello n s e) f = f ≡ frame.Hello n s e
IsFrame (part.Report v n text) f = (r : Report) × (f ≡ frame.Report n r) × (v ≡ report_version r) × (text.now ≡ spelled_report r)
IsFrame (part.Prepare n e b) f = f ≡ frame.Prepare n e b
IsFrame (part.Promise n e b x) f = (y : Option (Ballot × Value)) × (f ≡ frame.Promise n e b y) × NamesSame x y
IsFrame (part.Accept n e b text) f = (v : Value) × (f ≡ frame.Accept n e b v) × (text.now ≡ value.spells v)
IsFrame (part.Accepted n e b) f = f ≡ frame.Accepted n e b
IsFrame (part.Decision n e text) f = (v : Value) × (f ≡ frame.Decision n e v) × (text.now ≡ value.spells v)
IsFrame (part.Hop text nodes) f = (q : Packet) × (ns : List ℕ) × (f ≡ frame.Hop q ns) × (text.now ≡ packet.spells q) × (nodes.now ≡ links.spells ns)
IsFrame (part.Forward n text) f = (q : Packet) × (f ≡ frame.Forward n q) × (text.now ≡ packet.spells q)
IsFrame (part.Ended i e) f = f ≡ frame.Ended i e
IsFrame (part.Published e text) f = (ps : List (Option (List ℕ))) × (f ≡ frame.Published e ps) × (text.now ≡ paths.spells ps)
IsFrame (part.Inject i p) f = f ≡ frame.Inject i p
IsFrame (part.Flush n) f = f ≡ frame.Flush n

-- the answer is what is read from a body
abbrev pub Shows : Result FrameRef FrameKind → Result Frame FrameKind → Type 0
Shows (Ok r) read = (f : Frame) × (read ≡ Ok f) × IsFrame r f
Shows (Err wrong) read = read ≡ Err wrong

-- the answer says what is found
abbrev pub Answers : Decoded → Found → Type 0
Answers (decoded.Frame r n) there = (f : Frame) × (there ≡ Whole f n) × IsFrame r f
Answers decoded.More there = there ≡ Partial
Answers (decoded.Bad wrong) there = there ≡ Wrong wrong

-- the answer is this frame, with m bytes
abbrev pub Decodes : Decoded → Frame → ℕ → Type 0
Decodes (decoded.Frame r n) f m = (n ≡ m) × IsFrame r f
Decodes decoded.More f m = ⊥
Decodes (decoded.Bad wrong) f m = ⊥

-- the first n bytes are the spelling of the frame in them
pub record IsSpelled (bytes : List ℕ) (n : ℕ) (r : FrameRef) : Type 0 where
  pub frame : Frame
  pub fit : fits frame ≡ true
  pub inside : n ≤ length bytes
  pub spelled : take n bytes ≡ spell frame
  pub same : IsFrame r frame

-- if the answer is a frame, the front of the bytes spells it
abbrev pub Spelled : List ℕ → Decoded → Type 0
Spelled bytes (decoded.Frame r n) = IsSpelled bytes n r
Spelled bytes decoded.More = Unit {0}
Spelled bytes (decoded.Bad wrong) = Unit {0}
