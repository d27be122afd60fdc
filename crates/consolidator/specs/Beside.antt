-- Facts that are not a node's own.
use Rattle.std.specs.Prelude.{ℕ, ◌==◌, ◌≡◌, false}
use Rattle.consolidator.specs.Facts.{Fact, Start, Mail, Heard, Crash, Other}

-- the fact is not u's: another node started a ballot, sent a message, heard one or crashed; or it is Other
abbrev pub IsBeside : ℕ → Fact → Type 0
IsBeside u (Start node e b) = (node == u) ≡ false
IsBeside u (Mail from to m) = (from == u) ≡ false
IsBeside u (Heard node from m) = (node == u) ≡ false
IsBeside u (Crash node) = (node == u) ≡ false
IsBeside u Other = Unit {0}
