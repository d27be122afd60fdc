use Rattle.std.proofs.Common.{◌≡◌, sym, subst, get_or, ◌∙◌, ap, IfSome, slice_get}
use Rattle.std.specs.String.{string_bytes}
use Rattle.view_words.specs.Tables.{prefix_name}
use Rattle.view_words.proofs.Elements.{made_at}
use Rattle.view_words.proofs.table_names.TableNames.name.Goals as goal

-- it is the text of the prefix at the same place
pub returns : goal.returns
returns c =
    let names = c.args.self.now in
    let prefixes = names.topology.now.prefixes in
    let word = c.index.result.now in
    let at : word ≡ get_or names.names.items c.args.place word = c.index.ensures ∙ ap (λ i. get_or names.names.items i word) c.from.ensures in
    subst (λ bytes. IfSome (slice_get prefixes c.args.place) (λ prefix. bytes ≡ prefix_name prefix)) (sym c.as_str.ensures.value)
    (made_at (λ name. string_bytes name) prefix_name names.names.items prefixes c.args.place word c.requires at names.spelled)
