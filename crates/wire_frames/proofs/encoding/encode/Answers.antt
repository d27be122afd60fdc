use Rattle.std.proofs.Common.{◌≡◌, ◌≤◌, ℕ, List, length, ap, ◌++◌, ◌∙◌, rules, arith}
use Rattle.wire_frames.specs.Frames.{body}
use Rattle.wire_frames.proofs.Found.{short_body}
use Rattle.wire_frames.proofs.encoding.encode.Goals as goal

pub overflow_cast-len : goal.overflow_cast-len
overflow_cast-len c =
    let small : length (body c.args.frame.now) ≤ 1048576 = short_body c.args.frame.now c.requires in
    let text : length c.put_body.new.out.items ≡ length (body c.args.frame.now) =
    ap length (c.in_ok-put_body.ensures ∙ ap (λ (x : List ℕ). x ++ body c.args.frame.now) c.new-text.ensures.items) in
    let all : c.len.result ≡ length c.put_body.new.out.items = search (rules, c.len.ensures) in
    let short : c.len.result ≤ 1048576 = omega arith in
    omega arith
