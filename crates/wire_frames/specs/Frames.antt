-- The kinds of frames, and the only spelling of each frame.
use Rattle.std.specs.Prelude.{ℕ, Bool, true, ◌&&◌, ◌==◌, nat_le, List, [], ◌∷◌, ◌++◌, length, Option, find, if◌then◌else◌}
use Rattle.std.specs.Int.{w32, to_be_bytes}
use Rattle.topology.specs.declared.names.Trigger.{Trigger}
use Rattle.topology.specs.declared.ballots.Ballot.{Ballot}
use Rattle.incomplete_closure.specs.declared.reports.Report.{Report as TheReport}
use Rattle.incomplete_closure.specs.declared.values.Value.{Value}
use Rattle.epoch_packet.specs.declared.packets.Packet.{Packet}
use Rattle.epoch_packet.specs.declared.walks.End.{End}
use Rattle.wire_frames.specs.declared.tags.Tag.{Tag}
use Rattle.wire_frames.specs.declared.tags.Tag.TheVariants.{Originate, Withdraw, Prefer, Notice, OpenSession, Snap, Propose, Update, Marker, Hello, Report, Prepare, Promise, Accept, Accepted, Decision, Hop, Forward, Ended, Published, Inject, ListedUpdate, ListedReport, Flush}
use Rattle.wire_frames.specs.declared.frames.Frame.{Frame}
use Rattle.wire_frames.specs.declared.frames.Frame.TheVariants as frame
use Rattle.wire_frames.specs.Formats.{Format, pair}
use Rattle.wire_frames.specs.Fields.{node, prefix, positive, epoch, epoch_or_none, preference, any32, end, is_one, one_trigger, ballot, links, path, paths, value, named, report, packet}
use Rattle.wire_frames.specs.Listing.{triggers, spelled_triggers, triggers_fit, is_plain, listed_report, spelled_report, report_fits}

-- the byte of each kind
abbrev pub number_of : Tag → ℕ
number_of Originate = 1
number_of Withdraw = 2
number_of Prefer = 3
number_of Notice = 4
number_of OpenSession = 5
number_of Snap = 6
number_of Propose = 7
number_of Update = 8
number_of Marker = 9
number_of Hello = 10
number_of Report = 11
number_of Prepare = 12
number_of Promise = 13
number_of Accept = 14
number_of Accepted = 15
number_of Decision = 16
number_of Hop = 17
number_of Forward = 18
number_of Ended = 19
number_of Published = 20
number_of Inject = 21
number_of ListedUpdate = 8
number_of ListedReport = 11
number_of Flush = 22

-- the version in which each kind exists; updates and reports exist in both
abbrev pub version_of : Tag → ℕ
version_of ListedUpdate = 2
version_of ListedReport = 2
version_of Flush = 2
version_of _ = 1

-- all kinds of both versions
abbrev pub tags : List Tag
tags =
    Originate ∷ Withdraw ∷ Prefer ∷ Notice ∷ OpenSession ∷ Snap ∷ Propose ∷ Update ∷ Marker ∷ Hello ∷ Report
    ∷ Prepare ∷ Promise ∷ Accept ∷ Accepted ∷ Decision ∷ Hop ∷ Forward ∷ Ended ∷ Published ∷ Inject
    ∷ ListedUpdate ∷ ListedReport ∷ Flush ∷ []

-- the kind of this version with this byte
unfoldable pub tag_in : ℕ → ℕ → Option Tag
tag_in version byte = find (λ tag. version_of tag == version && number_of tag == byte) tags

-- the most bytes of a body of each kind; the kinds with reports and values have more room
abbrev pub limit_of : Tag → ℕ
limit_of Report = 1048576
limit_of Promise = 1048576
limit_of Accept = 1048576
limit_of Decision = 1048576
limit_of ListedReport = 1048576
limit_of _ = 65536

-- ---- the fields of each kind

-- a session that is opened: the neighbour and the number
abbrev pub session_opened : Format (ℕ × ℕ)
session_opened = pair node positive

-- the neighbour and its preference
abbrev pub preferred : Format (ℕ × ℕ)
preferred = pair node preference

-- an update: the peer, the session, its number, its only trigger, the prefix and the path
abbrev pub update : Format (ℕ × (ℕ × (ℕ × (List Trigger × (ℕ × Option (List ℕ))))))
update = pair node (pair positive (pair positive (pair one_trigger (pair prefix path))))

-- an update with several triggers
abbrev pub listed_update : Format (ℕ × (ℕ × (ℕ × (List Trigger × (ℕ × Option (List ℕ))))))
listed_update = pair node (pair positive (pair positive (pair (triggers 2 0) (pair prefix path))))

-- a marker: the peer, the session and the epoch
abbrev pub marker : Format (ℕ × (ℕ × ℕ))
marker = pair node (pair positive epoch)

-- a hello: the peer, the session, and the epoch or none
abbrev pub hello : Format (ℕ × (ℕ × ℕ))
hello = pair node (pair positive epoch_or_none)

-- the peer and a report
abbrev pub reported : Format (ℕ × TheReport)
reported = pair node report

-- the peer and a report that has no spelling in version 1
abbrev pub listed_reported : Format (ℕ × TheReport)
listed_reported = pair node listed_report

-- the peer, the epoch and the ballot: of a Prepare, or of an Accepted
abbrev pub in_ballot : Format (ℕ × (ℕ × Ballot))
in_ballot = pair node (pair epoch ballot)

-- the peer, the epoch, the ballot, and the pair that is named
abbrev pub promise : Format (ℕ × (ℕ × (Ballot × Option (Ballot × Value))))
promise = pair node (pair epoch (pair ballot named))

-- the peer, the epoch, the ballot and the value
abbrev pub accept : Format (ℕ × (ℕ × (Ballot × Value)))
accept = pair node (pair epoch (pair ballot value))

-- the peer, the epoch and the value
abbrev pub decision : Format (ℕ × (ℕ × Value))
decision = pair node (pair epoch value)

-- the packet and the links that are up
abbrev pub hop : Format (Packet × List ℕ)
hop = pair packet links

-- the next node and the packet
abbrev pub forward : Format (ℕ × Packet)
forward = pair node packet

-- the number of a packet and how its walk ended
abbrev pub ended : Format (ℕ × End)
ended = pair any32 end

-- the epoch and the paths of its table
abbrev pub published : Format (ℕ × List (Option (List ℕ)))
published = pair epoch paths

-- the number of a packet and its prefix
abbrev pub injected : Format (ℕ × ℕ)
injected = pair positive prefix

-- ---- the spelling of a frame

-- the kind of a frame, in version 1 if it has a kind there
abbrev pub tag_of : Frame → Tag
tag_of (frame.Originate p) = Originate
tag_of (frame.Withdraw p) = Withdraw
tag_of (frame.Prefer n v) = Prefer
tag_of (frame.Notice n) = Notice
tag_of (frame.OpenSession n s) = OpenSession
tag_of frame.Snap = Snap
tag_of (frame.Propose e) = Propose
tag_of (frame.Update n s q ts p ns) = if is_one ts then Update else ListedUpdate
tag_of (frame.Marker n s e) = Marker
tag_of (frame.Hello n s e) = Hello
tag_of (frame.Report n r) = if is_plain r then Report else ListedReport
tag_of (frame.Prepare n e b) = Prepare
tag_of (frame.Promise n e b v) = Promise
tag_of (frame.Accept n e b v) = Accept
tag_of (frame.Accepted n e b) = Accepted
tag_of (frame.Decision n e v) = Decision
tag_of (frame.Hop q ns) = Hop
tag_of (frame.Forward n q) = Forward
tag_of (frame.Ended i e) = Ended
tag_of (frame.Published e ps) = Published
tag_of (frame.Inject i p) = Inject
tag_of (frame.Flush n) = Flush

-- the spelling of each field of a frame, in order
abbrev pub fields : Frame → List (List ℕ)
fields (frame.Originate p) = prefix.spells p ∷ []
fields (frame.Withdraw p) = prefix.spells p ∷ []
fields (frame.Prefer n v) = node.spells n ∷ preference.spells v ∷ []
fields (frame.Notice n) = node.spells n ∷ []
fields (frame.OpenSession n s) = node.spells n ∷ positive.spells s ∷ []
fields frame.Snap = []
fields (frame.Propose e) = epoch.spells e ∷ []
fields (frame.Update n s q ts p ns) = node.spells n ∷ positive.spells s ∷ positive.spells q ∷ spelled_triggers ts ∷ prefix.spells p ∷ path.spells ns ∷ []
fields (frame.Marker n s e) = node.spells n ∷ positive.spells s ∷ epoch.spells e ∷ []
fields (frame.Hello n s e) = node.spells n ∷ positive.spells s ∷ epoch_or_none.spells e ∷ []
fields (frame.Report n r) = node.spells n ∷ spelled_report r ∷ []
fields (frame.Prepare n e b) = node.spells n ∷ epoch.spells e ∷ ballot.spells b ∷ []
fields (frame.Promise n e b v) = node.spells n ∷ epoch.spells e ∷ ballot.spells b ∷ named.spells v ∷ []
fields (frame.Accept n e b v) = node.spells n ∷ epoch.spells e ∷ ballot.spells b ∷ value.spells v ∷ []
fields (frame.Accepted n e b) = node.spells n ∷ epoch.spells e ∷ ballot.spells b ∷ []
fields (frame.Decision n e v) = node.spells n ∷ epoch.spells e ∷ value.spells v ∷ []
fields (frame.Hop q ns) = packet.spells q ∷ links.spells ns ∷ []
fields (frame.Forward n q) = node.spells n ∷ packet.spells q ∷ []
fields (frame.Ended i e) = any32.spells i ∷ end.spells e ∷ []
fields (frame.Published e ps) = epoch.spells e ∷ paths.spells ps ∷ []
fields (frame.Inject i p) = positive.spells i ∷ prefix.spells p ∷ []
fields (frame.Flush n) = node.spells n ∷ []

-- each field of the frame is in its range, and each list in order
abbrev pub fields_fit : Frame → Bool
fields_fit (frame.Originate p) = prefix.fits p
fields_fit (frame.Withdraw p) = prefix.fits p
fields_fit (frame.Prefer n v) = preferred.fits (n, v)
fields_fit (frame.Notice n) = node.fits n
fields_fit (frame.OpenSession n s) = session_opened.fits (n, s)
fields_fit frame.Snap = true
fields_fit (frame.Propose e) = epoch.fits e
fields_fit (frame.Update n s q ts p ns) = node.fits n && (positive.fits s && (positive.fits q && (triggers_fit ts && (prefix.fits p && path.fits ns))))
fields_fit (frame.Marker n s e) = marker.fits (n, (s, e))
fields_fit (frame.Hello n s e) = hello.fits (n, (s, e))
fields_fit (frame.Report n r) = node.fits n && report_fits r
fields_fit (frame.Prepare n e b) = in_ballot.fits (n, (e, b))
fields_fit (frame.Promise n e b v) = promise.fits (n, (e, (b, v)))
fields_fit (frame.Accept n e b v) = accept.fits (n, (e, (b, v)))
fields_fit (frame.Accepted n e b) = in_ballot.fits (n, (e, b))
fields_fit (frame.Decision n e v) = decision.fits (n, (e, v))
fields_fit (frame.Hop q ns) = hop.fits (q, ns)
fields_fit (frame.Forward n q) = forward.fits (n, q)
fields_fit (frame.Ended i e) = ended.fits (i, e)
fields_fit (frame.Published e ps) = published.fits (e, ps)
fields_fit (frame.Inject i p) = injected.fits (i, p)
fields_fit (frame.Flush n) = node.fits n

-- the lists, one after another
abbrev pub joined : List (List ℕ) → List ℕ
joined [] = []
joined (text ∷ []) = text
joined (text ∷ next ∷ others) = text ++ joined (next ∷ others)

-- the body of a frame
unfoldable pub body : Frame → List ℕ
body f = joined (fields f)

-- the frame has a spelling: its fields fit, and its body is no longer than its kind allows
unfoldable pub fits : Frame → Bool
fits f = fields_fit f && nat_le (length (body f)) (limit_of (tag_of f))

-- version, kind, length and body
unfoldable pub spell : Frame → List ℕ
spell f = version_of (tag_of f) ∷ number_of (tag_of f) ∷ to_be_bytes w32 (length (body f)) ++ body f
