-- A buffer in memory whose front is used.
use Rattle.std.specs.Prelude.{ℕ, ◌≡◌, ◌<◌, ◌+◌, ◌-◌, List, length, IfSome}
use Rattle.route_io.specs.Views.{SinkView}

-- the bytes that were taken, and how many can be taken in all
pub record Shelf : Type 0 where
  pub held : List ℕ
  pub size : ℕ

-- how many bytes can still be taken
abbrev pub free : Shelf → ℕ
free shelf = shelf.size - length shelf.held

-- the piece is not empty, and there is no room
abbrev pub FindsNoRoom : Shelf → List ℕ → Type 0
FindsNoRoom shelf piece = (0 < length piece) × (free shelf ≡ 0)

-- if both are told, what the sink holds and the piece together exceed its room
abbrev pub ExceedsRoom : SinkView → List ℕ → Type 0
ExceedsRoom sink piece =
    IfSome sink.room (λ size. IfSome sink.held (λ xs. size < length xs + length piece))
