use Rattle.std.proofs.Common.{◌+◌, ◌++◌, ap, ◌∙◌}
use Rattle.std.specs.String.{string_bytes}
use Rattle.leadership.specs.Chosen.{chosen_for}
use Rattle.leadership.specs.Run.{run}
use Rattle.leadership.specs.Text.{chosen_text}
use Rattle.leadership.proofs.Courses.{lines_more}
use Rattle.leadership.proofs.text.chosen_lines.Goals as goal

pub loop-i-preserved : goal.loop-i-preserved
loop-i-preserved c =
    let members = c.args.world.now.members in
    let past = run members c.args.world.now.events in
    let i = c.loop-i.i in
    c.in_ok-chosen_line.ensures
    ∙ (ap (λ chosen. string_bytes c.loop-i.out ++ chosen_text (i + 1) chosen) (c.chosen.ensures ∙ ap (chosen_for members past) c.new.ensures)
    ∙ (ap (λ bytes. bytes ++ chosen_text (i + 1) (chosen_for members past (i + 1))) c.loop-i.invariant
    ∙ lines_more (λ e. chosen_text e (chosen_for members past e)) (string_bytes c.args.out.now) i))
