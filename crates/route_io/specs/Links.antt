-- How a call changes a link, and what is received over one.
use Rattle.std.specs.Prelude.{ℕ, true, ◌≡◌, ◌<◌, ◌≤◌, ◌-◌, List, ◌∷◌, ◌++◌, length, Some, None, option_map}
use Rattle.std.specs.declared.option.Option.{Option}
use Rattle.std.specs.Io.KnownBytes.{prepend_known, Consumes, IsAtEnd}
use Rattle.route_io.specs.Acts.{ActsOnce, writes}
use Rattle.route_io.specs.Views.{LinkView, Read, SinkView}

-- the link as a sink
abbrev pub as_sink : LinkView → SinkView
as_sink link =
    record { held = link.outgoing; room = link.room; writes = option_map writes link.acts; faults = link.faults }

-- only the dialled addresses and the count of faults changed
abbrev pub OnlyDials : LinkView → LinkView → Type 0
OnlyDials old new = new ≡ record old { dialled = new.dialled; faults = new.faults }

-- the address was dialled: it is added in front of the earlier ones, if these are told
abbrev pub Dials : LinkView → LinkView → List ℕ → Type 0
Dials old new address = new.dialled ≡ option_map (λ before. address ∷ before) old.dialled

-- only the bytes still to come, the acts and the count of faults changed
abbrev pub OnlyReads : LinkView → LinkView → Type 0
OnlyReads old new =
    new ≡ record old { incoming = new.incoming; acts = new.acts; faults = new.faults }

-- only the bytes taken, the acts and the count of faults changed
abbrev pub OnlyWrites : LinkView → LinkView → Type 0
OnlyWrites old new =
    new ≡ record old { outgoing = new.outgoing; acts = new.acts; faults = new.faults }

-- how much room is left after these bytes, if both are told
abbrev pub room_behind : Option ℕ → Option (List ℕ) → Option ℕ
room_behind None xs = None
room_behind (Some size) None = None
room_behind (Some size) (Some xs) = Some (size - length xs)

-- how many bytes a link can still take, if told
abbrev pub room_left : LinkView → Option ℕ
room_left link = room_behind link.room link.outgoing

-- the piece is not empty, and the link tells that it has room for all of it
abbrev pub HasRoom : LinkView → List ℕ → Type 0
HasRoom link piece =
    (left : ℕ) × (room_left link ≡ Some left) × (0 < length piece) × (length piece ≤ left)

-- the piece is not empty, and the link tells that it has no room left
abbrev pub FindsNoneLeft : LinkView → List ℕ → Type 0
FindsNoneLeft link piece = (0 < length piece) × (room_left link ≡ Some 0)

-- the link tells that it has less room than the piece is long
abbrev pub LacksRoom : LinkView → List ℕ → Type 0
LacksRoom link piece = (left : ℕ) × (room_left link ≡ Some left) × (left < length piece)

-- the link is sure: its calls fail only if there is no room
abbrev pub IsSure : LinkView → Type 0
IsSure link = link.sure ≡ true

-- what was received and not yet taken, followed by what is still to come, if told
abbrev pub ahead : List ℕ → LinkView → Option (List ℕ)
ahead received link = prepend_known received link.incoming

-- at most `most` bytes were added at the end
abbrev pub GrowsWithin : ℕ → List ℕ → List ℕ → Type 0
GrowsWithin most old new = (more : List ℕ) × (new ≡ old ++ more) × (length more ≤ most)

-- a read added some bytes at the end: they were the next ones still to come, and there were none only at the end
pub record ReadsBehind (count : ℕ) (old new : List ℕ) (was now : LinkView) : Type 0 where
  pub more : List ℕ
  pub behind : new ≡ old ++ more
  pub size : length more ≡ count
  pub consumed : Consumes was.incoming now.incoming more
  pub at_end : count ≡ 0 → IsAtEnd now.incoming
  pub acted : ActsOnce was now (Read (Some more))
