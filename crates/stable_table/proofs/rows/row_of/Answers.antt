use Rattle.std.proofs.Common.{◌≡◌, true, false, sym, ◌∙◌, ap, subst, map, filter}
use Rattle.topology.specs.Lists.{has}
use Rattle.path_vector.specs.Selection.{Choice, best, path_of}
use Rattle.stable_table.specs.Tables.{all_responded}
use Rattle.stable_table.proofs.Backed.{silent_path}
use Rattle.stable_table.proofs.rows.row_of.Goals as goal

pub returns-then-not-responded : goal.returns-then-not-responded
returns-then-not-responded g c = λ policy net u h s below ranked.
    let value = c.args.responders.now.value.now in
    let silent = subst (λ v. has value.responding v ≡ false) (c.node.ensures policy net u h s) (sym c.if-not-responded.ensures) in
    record {
      path = silent_path value u (path_of u (best (g.P.Policy.rules policy) net u h c.args.prefix)) silent;
      backups = rw silent c.new.ensures.items;
    }

pub returns : goal.returns
returns g c = λ policy net u h s below ranked.
    let value = c.args.responders.now.value.now in
    let own = subst (λ v. has value.responding v ≡ true) (c.node.ensures policy net u h s) (sym c.if-not-responded.ensures) in
    record {
      path = c.in_ok-path.ensures policy net u h s below ranked (c.deref.ensures.value ∙ c.in_ok-backups.ensures) own;
      backups = rw own (c.in_ok-backups.ensures ∙ ap (λ cs. filter (all_responded value) (map (λ (c : Choice). c.path) cs)) ranked);
    }
