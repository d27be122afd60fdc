use Rattle.std.proofs.Common.{◌≡◌, ◌++◌, ◌∷◌, [], ◌+◌, length, map, take, sym, ap, ◌∙◌, arith}
use Rattle.std.proofs.lemmas.List.{take_all, length-map}
use Rattle.trigger_log.specs.Rows.{joined, last_places}
use Rattle.trigger_log.proofs.Rows.{first, taken_more, firsts_joined, firsts_length, firsts_places, firsts_has, cut_has, cut_is, same_length}
use Rattle.trigger_log.proofs.sessions.Sessions.new.Goals as goal

pub loop-nbr-preserved : goal.loop-nbr-preserved
loop-nbr-preserved c =
    let near = c.args.near.now in
    let i = c.loop-nbr.nbr-index in
    let x = c.nbr-item.result in
    let more : take (i + 1) near ≡ take i near ++ x ∷ [] = taken_more near i x (omega arith) c.nbr-item.is in
    let is_one : c.new.result ≡ 1 = c.new.ensures in
    let many : length c.loop-nbr.marks.items ≡ length (take i near) = ap length c.loop-nbr.invariant.marks ∙ firsts_length (take i near) in
    let count : c.len.result ≡ 0 + length (take i near) = omega (arith, c.loop-nbr.marks.ok.0, c.len.ensures) in
    record {
      marks = rw more (c.in_ok-push-2.ensures.items ∙ (rw (is_one, c.loop-nbr.invariant.marks) (sym (firsts_joined (take i near) x))));
      newest = rw more (c.in_ok-push.ensures.items ∙ (rw c.loop-nbr.invariant.newest (sym (firsts_places 0 c.len.result (take i near) x count))));
    }

pub invariant_of-result : goal.invariant_of-result
invariant_of-result c =
    let near = c.args.near.now in
    let l = c.loop-nbr in
    let all = take_all l.nbr-index near (omega arith) in
    let has = firsts_has near l.marks.items l.newest.items (l.invariant.marks ∙ ap (λ l. joined (map first l)) all) (l.invariant.newest ∙ ap (λ l. last_places 0 (map first l)) all) in
    record {
      each = same_length (map first near) l.marks.items l.newest.items has ∙ (length-map near first ∙ ap length (sym c.in_ok-copy_of.ensures));
      has = cut_has (map first near) l.marks.items l.newest.items has;
    }

pub returns : goal.returns
returns c =
    let near = c.args.near.now in
    let l = c.loop-nbr in
    let all = take_all l.nbr-index near (omega arith) in
    let has = firsts_has near l.marks.items l.newest.items (l.invariant.marks ∙ ap (λ l. joined (map first l)) all) (l.invariant.newest ∙ ap (λ l. last_places 0 (map first l)) all) in
    record { near = c.in_ok-copy_of.ensures; rows = cut_is (map first near) l.marks.items l.newest.items has }
