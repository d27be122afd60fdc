-- What a replay over plain memory adds to the promise.
use Rattle.std.specs.Prelude.{ℕ, ◌≡◌, List, Some}
use Rattle.route_io.specs.Shelf.{ExceedsRoom}
use Rattle.route_io.specs.Views.{SourceView, SinkView}
use Rattle.route_replay.specs.Replayed.{FileRun}

-- the text of the file is longer than the room that is left
abbrev pub HasTooLongText : SourceView → SinkView → Type 0
HasTooLongText source sink =
    (bytes : List ℕ) → source.left ≡ Some bytes → (run : FileRun bytes) × ExceedsRoom sink run.written
