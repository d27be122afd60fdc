use Rattle.std.proofs.Common.{◌≡◌, ◌++◌}
use Rattle.std.specs.Prelude.{flat_map}
use Rattle.std.specs.List.{range_with_len}
use Rattle.std.specs.String.{string_bytes}
use Rattle.leadership.specs.Chosen.{chosen_for}
use Rattle.leadership.specs.Run.{run}
use Rattle.leadership.specs.Text.{chosen_text}
use Rattle.leadership.proofs.text.chosen_lines.Given as goal

abbrev pub invariant-loop-i : goal.invariant-loop-i
invariant-loop-i l =
    string_bytes l.out ≡ string_bytes l.initial.out ++ flat_map (λ e. chosen_text e (chosen_for l.world.members (run l.world.members l.world.events) e)) (range_with_len 1 l.i)
