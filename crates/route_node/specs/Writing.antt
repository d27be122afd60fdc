-- What was written over a link.
use Rattle.std.specs.Prelude.{ℕ, ◌≡◌, ◌≤◌, ◌⊎◌, Some, List, [], ◌∷◌, ◌++◌, length, option_map}
use Rattle.std.specs.List.{flat_map}
use Rattle.std.specs.Io.KnownBytes.{Appends}
use Rattle.topology.specs.declared.status.Status.{Status}
use Rattle.topology.specs.declared.status.Status.TheVariants.{NoMemory, LinkFault}
use Rattle.topology.specs.Lists.{Begins}
use Rattle.route_io.specs.Acts.{writes, AddsWrites, AreWrites}
use Rattle.route_io.specs.Causes.{RoseIf, StaysTold}
use Rattle.route_io.specs.Links.{IsSure, LacksRoom, OnlyWrites, room_left}
use Rattle.route_io.specs.Views.{StreamAct, Write, LinkView}
use Rattle.wire_frames.specs.declared.frames.Frame.{Frame}
use Rattle.wire_frames.specs.Frames.{spell}

-- the bytes of the frames, one after another
abbrev pub spelled : List Frame → List ℕ
spelled frames = flat_map spell frames

-- a frame written by one write: the piece is its spelling, and was taken whole
abbrev pub whole : Frame → StreamAct
whole f = Write (spell f) (Some (length (spell f)))

-- each frame written like this, in order; the newest act is first
abbrev pub each_whole : List Frame → List StreamAct
each_whole [] = []
each_whole (f ∷ frames) = each_whole frames ++ whole f ∷ []

-- if the link had room for them all, the writes since are one for each frame
abbrev pub OneWriteEach : List Frame → LinkView → LinkView → Type 0
OneWriteEach frames link link' =
    (left : ℕ) → room_left link ≡ Some left → length (spelled frames) ≤ left
    → (before : List StreamAct) → link.acts ≡ Some before
    → (since : List StreamAct) × (link'.acts ≡ Some (since ++ before)) × (writes since ≡ each_whole frames)

-- all frames were written, and no call failed
pub record Writes (frames : List Frame) (link link' : LinkView) : Type 0 where
  pub wrote : Appends link.outgoing link'.outgoing (spelled frames)
  pub told : StaysTold link.outgoing link'.outgoing
  pub acts : AddsWrites link link' (spelled frames)
  pub one_write_each : OneWriteEach frames link link'
  pub others : OnlyWrites link link'
  pub quiet : link'.faults ≡ link.faults

-- the first part of the frames was written, and then memory ran out or a call failed; on a sure link only if
-- there was no room
pub record Breaks (frames : List Frame) (link link' : LinkView) (status : Status) : Type 0 where
  pub why : (status ≡ NoMemory) ⊎ (status ≡ LinkFault)
  pub link_fault : RoseIf (status ≡ LinkFault) link.faults link'.faults
  pub some : List ℕ
  pub begins : Begins some (spelled frames)
  pub wrote : Appends link.outgoing link'.outgoing some
  pub acts : (more : List StreamAct) × AreWrites more × (link'.acts ≡ option_map (λ before. more ++ before) link.acts)
  pub full : IsSure link → status ≡ LinkFault → LacksRoom link (spelled frames)
  pub others : OnlyWrites link link'
