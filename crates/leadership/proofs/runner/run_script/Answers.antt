use Rattle.std.proofs.Common.{◌≡◌, true, sym, ap, ◌∙◌, subst}
use Rattle.topology.specs.Paths.{differ}
use Rattle.topology.proofs.Ascending.{differ-ascending}
use Rattle.leadership.specs.View.{LeadView}
use Rattle.leadership.proofs.Scripted.{all_known_ascending}
use Rattle.leadership.proofs.runner.run_script.Goals as goal

pub new-requires : goal.new-requires
new-requires g c = subst (λ ns. differ ns ≡ true) (sym c.ascending.ensures) (differ-ascending c.args.script.now.members.nodes c.requires.apart)

pub run_lines-requires : goal.run_lines-requires
run_lines-requires g c =
    let members = ap (λ (w : LeadView). w.members) c.in-Ok.ensures ∙ c.ascending.ensures in
    rw (members, c.deref.ensures.value) (all_known_ascending c.args.script.now.members.nodes c.args.script.now.directives.items c.requires.known)
