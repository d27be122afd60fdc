use Rattle.std.proofs.Common.{None, ◌++◌, ◌∙◌, ap, sym, subst}
use Rattle.std.specs.String.{string_bytes}
use Rattle.std.proofs.lemmas.List.{append-nil}
use Rattle.route_replay.specs.Gathering.{Breaks}
use Rattle.route_replay.specs.TablesText.{table_text}
use Rattle.view_words.specs.Tables.{unpublished_line}
use Rattle.route_replay.proofs.Gathered.{handed_on, breaks_nothing, words_if_spilled}
use Rattle.route_replay.proofs.tables_text.add_unpublished.Goals as goal

-- memory ran out before anything was written
pub returns-in_err-unpublished_words-clause-breaks : goal.returns-in_err-unpublished_words-clause-breaks
returns-in_err-unpublished_words-clause-breaks g c =
    handed_on c.from_residual.result _ _ c.from_residual.ensures (λ why same. subst (Breaks _ _ _) (sym same) (breaks_nothing _ _))

-- the line is gathered
pub returns-clause-gathers : goal.returns-clause-gathers
returns-clause-gathers g c =
    let made = c.in_ok-unpublished_words.ensures ∙ ap (λ bytes. string_bytes c.args.page.now.text ++ bytes) (sym (append-nil (unpublished_line c.args.node c.args.epoch))) in
    words_if_spilled c.spill.result _ _ _ (table_text c.args.topology.now c.args.node c.args.epoch None) made c.spill.ensures.gathers
