use Rattle.std.proofs.Common.{◌∙◌, ap}
use Rattle.std.specs.Map.{values_of}
use Rattle.topology.specs.Building.{put_preference}
use Rattle.topology.proofs.Linked.{put_by_side, under-put, same_sides}
use Rattle.topology.proofs.pref_table.PrefTable.put.Goals as goal

pub invariant_of-self-2 : goal.invariant_of-self-2
invariant_of-self-2 c =
    rw c.in_ok-insert.ensures.entries (under-put _ c.args.pref (λ other. same_sides c.args.pref.a c.args.pref.b other.a other.b) _ c.self.invariant)

pub returns-clause-ok : goal.returns-clause-ok
returns-clause-ok c =
    ap (λ es. values_of es) c.in_ok-insert.ensures.entries
    ∙ put_by_side _ c.args.pref (λ other. same_sides c.args.pref.a c.args.pref.b other.a other.b) _ c.self.invariant
    ∙ ap (put_preference c.args.pref) c.self.view_is
