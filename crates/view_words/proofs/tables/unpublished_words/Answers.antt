use Rattle.std.proofs.Common.{◌≡◌, ◌++◌, codes, ap, ◌∙◌, append_assoc, arith}
use Rattle.std.specs.String.{string_bytes}
use Rattle.view_words.specs.Tables.{table_head}
use Rattle.view_words.proofs.Ended.{line_ended}
use Rattle.view_words.proofs.tables.unpublished_words.Goals as goal

pub returns : goal.returns
returns c =
    let before = string_bytes c.args.out.now in
    let head = table_head c.args.node c.args.epoch in
    let made : string_bytes c.push_str.new.self ≡ before ++ (head ++ codes ": unpublished") =
    c.in_ok-push_str.ensures.bytes ∙ (ap (λ bytes. bytes ++ codes ": unpublished") c.in_ok-head_words.ensures ∙ append_assoc before head (codes ": unpublished")) in
    line_ended c.push.result before (string_bytes c.push_str.new.self) (string_bytes c.push.new.self) (head ++ codes ": unpublished") _ made c.push.ensures.bytes (c.push.ensures.ascii (omega arith))
