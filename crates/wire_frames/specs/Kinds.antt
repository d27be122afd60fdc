-- The fields of a frame, one after another.
use Rattle.std.specs.Prelude.{ℕ, Bool, true, false, ◌&&◌, List, [], ◌∷◌, ◌++◌, if◌then◌else◌}
use Rattle.wire_frames.specs.declared.kinds.Field.{Field}
use Rattle.wire_frames.specs.declared.kinds.Field.TheVariants as field
use Rattle.wire_frames.specs.Fields.{node, prefix, positive, epoch, epoch_or_none, preference, any32, end, ballot, links, path, paths, value, named, packet}
use Rattle.wire_frames.specs.Listing.{spelled_triggers, triggers_fit, spelled_report, report_fits}
use Rattle.wire_frames.specs.declared.frames.Frame.{Frame}
use Rattle.wire_frames.specs.declared.frames.Frame.TheVariants as frame
use Rattle.wire_frames.specs.Frames.{body, fields_fit}

-- how a field is spelled
abbrev pub spelling : Field → List ℕ
spelling field.Nothing = []
spelling (field.Node n) = node.spells n
spelling (field.Prefix p) = prefix.spells p
spelling (field.Session n) = positive.spells n
spelling (field.Positive n) = positive.spells n
spelling (field.Preference n) = preference.spells n
spelling (field.Epoch e) = epoch.spells e
spelling (field.EpochOrNone e) = epoch_or_none.spells e
spelling (field.Ballot b) = ballot.spells b
spelling (field.Number n) = any32.spells n
spelling (field.End e) = end.spells e
spelling (field.Triggers ts) = spelled_triggers ts.now
spelling (field.Path way) = path.spells way.now
spelling (field.Report r) = spelled_report r.now
spelling (field.Named v) = named.spells v.now
spelling (field.Value v) = value.spells v.now
spelling (field.Packet q) = packet.spells q.now
spelling (field.Links ns) = links.spells ns.now
spelling (field.Paths ps) = paths.spells ps.now

-- the field is in its range, and in order
abbrev pub fitting : Field → Bool
fitting field.Nothing = true
fitting (field.Node n) = node.fits n
fitting (field.Prefix p) = prefix.fits p
fitting (field.Session n) = positive.fits n
fitting (field.Positive n) = positive.fits n
fitting (field.Preference n) = preference.fits n
fitting (field.Epoch e) = epoch.fits e
fitting (field.EpochOrNone e) = epoch_or_none.fits e
fitting (field.Ballot b) = ballot.fits b
fitting (field.Number n) = any32.fits n
fitting (field.End e) = end.fits e
fitting (field.Triggers ts) = triggers_fit ts.now
fitting (field.Path way) = path.fits way.now
fitting (field.Report r) = report_fits r.now
fitting (field.Named v) = named.fits v.now
fitting (field.Value v) = value.fits v.now
fitting (field.Packet q) = packet.fits q.now
fitting (field.Links ns) = links.fits ns.now
fitting (field.Paths ps) = paths.fits ps.now

-- the fields, one after another
abbrev pub spelled_all : List Field → List ℕ
spelled_all [] = []
spelled_all (f ∷ []) = spelling f
spelled_all (f ∷ g ∷ fs) = spelling f ++ spelled_all (g ∷ fs)

-- each field is in its range
abbrev pub all_fitting : List Field → Bool
all_fitting [] = true
all_fitting (f ∷ []) = fitting f
all_fitting (f ∷ g ∷ fs) = fitting f && all_fitting (g ∷ fs)

-- ---- the kinds in two groups

-- the kind is an input, or an item of a session
abbrev pub is_early : Frame → Bool
is_early (frame.Originate p) = true
is_early (frame.Withdraw p) = true
is_early (frame.Prefer n v) = true
is_early (frame.Notice n) = true
is_early (frame.OpenSession n s) = true
is_early frame.Snap = true
is_early (frame.Propose e) = true
is_early (frame.Update n s q ts p ns) = true
is_early (frame.Marker n s e) = true
is_early (frame.Hello n s e) = true
is_early _ = false

-- the body of a frame of these kinds, and nothing of others
unfoldable pub early_body : Frame → List ℕ
early_body f = if is_early f then body f else []

-- the body of a frame of the other kinds
unfoldable pub late_body : Frame → List ℕ
late_body f = if is_early f then [] else body f

-- the fields of a frame of these kinds are in their ranges
unfoldable pub early_fit : Frame → Bool
early_fit f = if is_early f then fields_fit f else true

-- the fields of a frame of the other kinds are in their ranges
unfoldable pub late_fit : Frame → Bool
late_fit f = if is_early f then true else fields_fit f
