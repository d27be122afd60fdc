use Rattle.std.proofs.Common.{◌++◌, Some, sym, ◌∙◌, ap}
use Rattle.node_core.specs.Entries.{first_of}
use Rattle.node_core.proofs.outputs.OutputList.into_vec.Goals as goal

pub returns : goal.returns
returns c =
    c.in_ok-append.ensures.items
    ∙ (ap (λ l. l ++ c.self.inside.more.items) (c.in_ok-enter_all.ensures ∙ ap (λ l. l ++ first_of (Some c.in-Some.index) c.self.inside.sent.items) c.new-list.ensures.items)
    ∙ (sym (ap (λ e. first_of e c.self.inside.sent.items ++ c.self.inside.more.items) c.in-Some.is) ∙ c.self.view_is))
