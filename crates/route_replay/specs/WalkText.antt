-- The text of walks.
use Rattle.std.specs.Prelude.{ℕ, List}
use Rattle.chronicle.specs.Facts.{Chronicle}
use Rattle.run_record.specs.Walks.{walk_of}
use Rattle.view_words.specs.Walks.{walk_line}

-- the line of packet k; it is unknown where it never entered the network
unfoldable pub walk_text : ℕ → Chronicle → List ℕ
walk_text k past = walk_line k (walk_of k past)
