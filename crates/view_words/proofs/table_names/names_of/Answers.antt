use Rattle.std.proofs.Common.{◌≡◌, [], ◌∷◌, ◌++◌, ◌+◌, ◌<◌, ◌≤◌, Some, length, map, take, arith, slice_get, sym, ap, ◌∙◌, subst}
use Rattle.std.specs.String.{string_bytes}
use Rattle.std.proofs.lemmas.List.{take_all}
use Rattle.view_words.specs.Tables.{prefix_name}
use Rattle.view_words.proofs.Elements.{one_more_made}
use Rattle.view_words.proofs.table_names.names_of.Goals as goal

-- the words of one more prefix
pub loop-place-preserved : goal.loop-place-preserved
loop-place-preserved c =
    let prefixes = c.args.topology.now.prefixes in
    let place = c.loop-place.place in
    let inside : place < length prefixes = omega (arith, c.prefix_count-place-end.ensures.count, c.loop-place-test.true) in
    let found : slice_get prefixes place ≡ Some c.unwrap-prefix.result = ap (slice_get prefixes) (sym c.new.ensures) ∙ (sym c.prefix.ensures ∙ c.unwrap-prefix.ensures) in
    let longer : c.push.new.self.items ≡ c.loop-place.names.items ++ c.in_ok-name_of.field-0 ∷ [] = c.in_ok-push.ensures.items in
    subst (λ items. map (λ name. string_bytes name) items ≡ map prefix_name (take (place + 1) prefixes)) (sym longer)
    (one_more_made (λ name. string_bytes name) prefix_name c.loop-place.names.items prefixes place c.in_ok-name_of.field-0 c.unwrap-prefix.result inside found c.loop-place.invariant c.in_ok-name_of.ensures)

-- those of all prefixes
pub returns : goal.returns
returns c =
    let prefixes = c.args.topology.now.prefixes in
    let over : length prefixes ≤ c.loop-place.place = omega (arith, c.prefix_count-place-end.ensures.count, c.loop-place-test.false) in
    c.loop-place.invariant ∙ ap (map prefix_name) (take_all c.loop-place.place prefixes over)
