use Rattle.std.proofs.Common.{refl, sym, ◌∙◌}
use Rattle.incomplete_closure.proofs.Tabled.{put_added}
use Rattle.incomplete_closure.proofs.session_table.SessionTable.put.Goals as goal

pub returns-clause-rows : goal.returns-clause-rows
returns-clause-rows c =
    put_added _ (λ j k. refl) c.args.node c.args.row.now c.args.self.now.rows.entries c.insert.new.self.entries
    c.in_ok-insert.ensures.updates.0 (sym c.contains_key.ensures ∙ c.if-contains_key.false)
