-- The text of a cut: a line for each node, and, where it has the cut, one for each recording.
use Rattle.std.specs.Prelude.{ℕ, Option, Some, None, List, [], ◌∷◌, length, map, option_map}
use Rattle.topology.specs.Net.{Net, neighbours}
use Rattle.chronicle.specs.Facts.{Chronicle}
use Rattle.chronicle.specs.Epochs.{cut}
use Rattle.chronicle.specs.Recordings.{Recording, recording}
use Rattle.view_words.specs.Cuts.{cut_line, recording_line}

-- its line, where there is one
abbrev pub recorded_text : ℕ → ℕ → Option Recording → List ℕ
recorded_text u e None = []
recorded_text u e (Some r) = recording_line u e r

-- the cut of epoch e at one node, and then the recording of each neighbour, ascending, where there is one
unfoldable pub cut_lines : Net → Chronicle → ℕ → ℕ → List (List ℕ)
cut_lines net past e node =
    cut_line node e (option_map length (cut node e past))
    ∷ map (λ v. recorded_text node e (recording node e v past)) (neighbours net node)
