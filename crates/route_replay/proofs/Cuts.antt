-- The pieces of the text of a cut, one by one.
use Rattle.std.proofs.Common.{◌≡◌, ℕ, suc, Some, Option, length, slice_get, ap, ◌∙◌}
use Rattle.std.specs.Prelude.{option_map}
use Rattle.std.proofs.lemmas.Option.{slice_get-map}
use Rattle.topology.specs.Net.{Net, neighbours}
use Rattle.chronicle.specs.Facts.{Chronicle}
use Rattle.chronicle.specs.Epochs.{cut}
use Rattle.chronicle.specs.Recordings.{Recording, recording}
use Rattle.view_words.specs.Cuts.{cut_line}
use Rattle.route_replay.specs.CutText.{cut_lines, recorded_text}

module _ (net : Net) (past : Chronicle) (e u : ℕ) where
  -- the first is that of the cut
  pub cut_piece : (place : ℕ) → place ≡ 0 → slice_get (cut_lines net past e u) place ≡ Some (cut_line u e (option_map length (cut u e past)))
  unfolding cut_lines
  cut_piece place first = ap (slice_get (cut_lines net past e u)) first

  -- the others are those of the neighbours
  pub near_piece : (place i v : ℕ) (r : Option Recording) → place ≡ suc i → slice_get (neighbours net u) i ≡ Some v → recording u e v past ≡ r
      → slice_get (cut_lines net past e u) place ≡ Some (recorded_text u e r)
  unfolding cut_lines
  near_piece place i v r later at is =
      ap (slice_get (cut_lines net past e u)) later
      ∙ (slice_get-map (λ w. recorded_text u e (recording u e w past)) (neighbours net u) i
      ∙ (ap (option_map (λ w. recorded_text u e (recording u e w past))) at
      ∙ ap (λ (o : Option Recording). Some (recorded_text u e o)) is))
