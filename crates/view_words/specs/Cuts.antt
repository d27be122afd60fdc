-- The words of cuts and recordings.
use Rattle.std.specs.Prelude.{ℕ, Bool, true, false, Option, Some, None, List, [], ◌∷◌, ◌++◌, codes}
use Rattle.std.specs.List.{flat_map, range_with_len}
use Rattle.std.specs.Fmt.{decimal}
use Rattle.marker_snapshot.specs.declared.recording.Recording.{Recording as Kept}
use Rattle.chronicle.specs.Recordings.{Recording}
use Rattle.view_words.specs.Lines.{ended}
use Rattle.view_words.specs.Entries.{session_text}

-- how many entries the cut has
abbrev pub entries_text : Option ℕ → List ℕ
entries_text None = codes "none"
entries_text (Some count) = decimal count

-- the cut of epoch e at node u
abbrev pub cut_line : ℕ → ℕ → Option ℕ → List ℕ
cut_line u e entries = ended (codes "cut " ++ decimal u ++ codes " " ++ decimal e ++ codes ": " ++ entries_text entries)

-- numbers of updates, each before a space; where there is none, a hyphen is
abbrev pub numbers_text : List ℕ → List ℕ
numbers_text [] = codes "- "
numbers_text (n ∷ ns) = flat_map (λ n. decimal n ++ codes " ") (n ∷ ns)

-- whether the recording is done
abbrev pub state_text : Bool → List ℕ
state_text true = codes "done"
state_text false = codes "waiting"

-- a recording of epoch e at node u: the session with a neighbour, the updates recorded in it, and whether it
-- is done
abbrev pub recording_line : ℕ → ℕ → Recording → List ℕ
recording_line u e r =
    ended (codes "recorded " ++ decimal u ++ codes " " ++ decimal e ++ codes " " ++ session_text r.nbr r.session
    ++ codes ": " ++ numbers_text r.recorded ++ state_text r.done)

-- a recording as it is kept: its numbers follow each other
abbrev pub recording_of : ℕ → Kept → Recording
recording_of v kept = record {
  nbr = v;
  session = kept.session;
  recorded = range_with_len kept.first kept.count;
  done = kept.done;
}
