use Rattle.std.proofs.Common.{◌≡◌, ◌++◌, sym, ap, ◌∙◌, subst}
use Rattle.std.specs.List.{join_with_byte}
use Rattle.std.specs.String.{string_bytes}
use Rattle.schedule_file.specs.declared.lines.Line.TheVariants.{Declares}
use Rattle.schedule_file.specs.declared.lines.Declaration.TheVariants.{Node}
use Rattle.schedule_file.specs.Lines.{line_words}
use Rattle.schedule_file.proofs.Growing.{three_pushed}
use Rattle.schedule_file.proofs.spelling.push_declaration.Goals as goal

pub returns-in_ok-push_word-in-Node : goal.returns-in_ok-push_word-in-Node
returns-in_ok-push_word-in-Node c =
    subst (λ d. string_bytes c.push_word.new.out ≡ string_bytes c.args.out.now ++ join_with_byte 32 (line_words (Declares d))) (sym (c.in-Node.is ∙ ap (Node c.in-Node.id) c.if-consolidator.true))
    (three_pushed _ _ _ _ _ _ _ c.in_ok-push_str-in-Node.ensures.bytes c.in_ok-push_node-in-Node.ensures c.in_ok-push_word-in-Node.ensures)
