use Rattle.std.proofs.Common.{◌≡◌, ℕ, Some, List, [], ◌<◌, ◌≤◌, ◌++◌, length, get_or, arith, refl, sym, ap, ◌∙◌, subst}
use Rattle.std.specs.String.{string_bytes}
use Rattle.chronicle.specs.Publications.{path_in}
use Rattle.route_replay.specs.Gathering.{Breaks}
use Rattle.route_replay.specs.TablesText.{table_in, table_lines}
use Rattle.route_replay.proofs.Gathered.{handed_on, gathers_nothing, words_spilled, gathers_step, gathers_all, breaks_step, breaks_short, line_at}
use Rattle.route_replay.proofs.Shown.{length-table_lines}
use Rattle.route_replay.proofs.TableLines.{line_added}
use Rattle.route_replay.proofs.tables_text.add_table.Goals as goal

abbrev as_it_is : List ℕ → List ℕ
as_it_is line = line

pub loop-place-init : goal.loop-place-init
loop-place-init g c = record { gathers = gathers_nothing _; same_sink = refl }

-- one more line is gathered
pub loop-place-preserved : goal.loop-place-preserved
loop-place-preserved g c =
    let net = c.args.names.now.topology.now in
    let t = table_in c.args.publication.now in
    let lines = table_lines net c.args.node c.args.names.now.epoch (Some t) in
    let place = c.loop-place.place in
    let known : place < length net.prefixes = omega (arith, c.prefix_count-place-end.ensures.count, c.loop-place-test.true) in
    let inside : place < length lines = omega (arith, known, length-table_lines net c.args.node c.args.names.now.epoch t) in
    let begins = c.as_str.ensures.value ∙ c.in_ok-head.ensures in
    let path = c.path-path.ensures ∙ ap (λ k. path_in k t) c.new.ensures in
    let made : string_bytes c.table_words.new.out ≡ string_bytes c.loop-place.page.text ++ get_or lines place [] =
    line_added net c.args.node c.args.names.now.epoch t place c.as_str.result.now c.name.result.now _ _ _ known begins c.name.ensures path c.in_ok-table_words.ensures in
    record {
      gathers = gathers_step as_it_is lines place _ _ _ (get_or lines place []) inside (line_at lines place inside) c.loop-place.invariant.gathers
          (words_spilled _ _ _ (get_or lines place []) made c.in_ok-spill.ensures.gathers);
      same_sink = c.spill.ensures.same_sink ∙ c.loop-place.invariant.same_sink;
    }

-- memory ran out: some of the text was written
pub returns-in_err-table_words-clause-breaks : goal.returns-in_err-table_words-clause-breaks
returns-in_err-table_words-clause-breaks g c =
    let lines = table_lines c.args.names.now.topology.now c.args.node c.args.names.now.epoch (Some (table_in c.args.publication.now)) in
    handed_on c.from_residual-in_err-table_words.result _ _ c.from_residual-in_err-table_words.ensures (λ why same.
    subst (Breaks _ _ _) (sym same) (breaks_short as_it_is lines c.loop-place.place _ _ c.loop-place.invariant.gathers))

-- a page was not written
pub returns-in_err-spill-clause-breaks : goal.returns-in_err-spill-clause-breaks
returns-in_err-spill-clause-breaks g c =
    let net = c.args.names.now.topology.now in
    let t = table_in c.args.publication.now in
    let lines = table_lines net c.args.node c.args.names.now.epoch (Some t) in
    let place = c.loop-place.place in
    let known : place < length net.prefixes = omega (arith, c.prefix_count-place-end.ensures.count, c.loop-place-test.true) in
    let inside : place < length lines = omega (arith, known, length-table_lines net c.args.node c.args.names.now.epoch t) in
    let begins = c.as_str.ensures.value ∙ c.in_ok-head.ensures in
    let path = c.path-path.ensures ∙ ap (λ k. path_in k t) c.new.ensures in
    let made : string_bytes c.table_words.new.out ≡ string_bytes c.loop-place.page.text ++ get_or lines place [] =
    line_added net c.args.node c.args.names.now.epoch t place c.as_str.result.now c.name.result.now _ _ _ known begins c.name.ensures path c.in_ok-table_words.ensures in
    let broke = rw made at c.in_err-spill.ensures.breaks in
    handed_on c.from_residual-in_err-spill.result _ _ c.from_residual-in_err-spill.ensures (λ why same.
    subst (Breaks _ _ _) (sym same)
    (breaks_step as_it_is lines place _ _ _ (get_or lines place []) c.in_err-spill.field-0.0 inside (line_at lines place inside) c.loop-place.invariant.gathers broke))

-- all lines are
pub returns-clause-gathers : goal.returns-clause-gathers
returns-clause-gathers g c =
    let net = c.args.names.now.topology.now in
    let t = table_in c.args.publication.now in
    let lines = table_lines net c.args.node c.args.names.now.epoch (Some t) in
    let over : length lines ≤ c.loop-place.place = omega (arith, c.prefix_count-place-end.ensures.count, length-table_lines net c.args.node c.args.names.now.epoch t, c.loop-place-test.false) in
    gathers_all as_it_is lines c.loop-place.place _ _ over c.loop-place.invariant.gathers
