use Rattle.std.proofs.Common.{◌≡◌, List, length, map}
use Rattle.text_lines.specs.Lines.{left_of}
use Rattle.text_lines.specs.Words.{words_of}
use Rattle.text_lines.specs.Readings.{lines_left}
use Rattle.schedule_file.specs.declared.lines.Line.{Line}
use Rattle.schedule_file.specs.Spelling.{words_by_line}
use Rattle.schedule_file.specs.Standing.{IsAfter}
use Rattle.schedule_file.proofs.Readings.{Continues}
use Rattle.schedule_file.proofs.parser.Draft.take_lines.Given as goal

abbrev pub invariant-loop-line : goal.invariant-loop-line
invariant-loop-line l =
    (l.lines.text ≡ l.text)
    × (earlier : List Line)
    × IsAfter l.self earlier
    × (l.lines.given ≡ length earlier)
    × Continues l.fn.self.behind earlier (map (λ line. words_of (left_of line)) (lines_left l.lines)) (words_by_line l.text)
    × (l.self.behind ≡ l.fn.self.behind)

abbrev pub decreases-loop-line : goal.decreases-loop-line
decreases-loop-line l = length (lines_left l.lines)
