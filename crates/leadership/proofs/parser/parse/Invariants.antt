use Rattle.std.proofs.Common.{◌≡◌, true, suc, ◌++◌, length, map}
use Rattle.text_lines.specs.Lines.{left_of}
use Rattle.text_lines.specs.Words.{words_of}
use Rattle.text_lines.specs.Readings.{lines_left}
use Rattle.topology.specs.Paths.{differ}
use Rattle.schedule_file.specs.Spelling.{words_by_line}
use Rattle.leadership.specs.Parsing.{AllKnown, before_of}
use Rattle.leadership.specs.Scripts.{declared, directives_from, directives_of, first_bad, first_bad_from, nothing}
use Rattle.leadership.proofs.parser.parse.Given as goal

-- reading the rest from here gives what reading the whole text from the start gives
abbrev pub invariant-loop-line : goal.invariant-loop-line
invariant-loop-line l =
    let left = map (λ line. words_of (left_of line)) (lines_left l.lines) in
    record {
      same_text : l.lines.text ≡ l.text;
      before : declared (before_of l.draft) left ≡ declared nothing (words_by_line l.text);
      directives : l.draft.directives.items ++ directives_from (suc l.lines.given) left ≡ directives_of l.text;
      bad : first_bad_from (suc l.lines.given) (before_of l.draft) left ≡ first_bad l.text;
      apart : differ l.draft.members.nodes ≡ true;
      known : AllKnown l.draft.members.nodes l.draft.directives.items;
    }

abbrev pub decreases-loop-line : goal.decreases-loop-line
decreases-loop-line l = length (lines_left l.lines)
