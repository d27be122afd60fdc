use Rattle.std.proofs.Common.{ℕ, List, ◌≡◌, true, [], ◌∷◌, ◌++◌, sym, ap, ◌∙◌, subst}
use Rattle.std.proofs.lemmas.List.{append-nil}
use Rattle.topology.specs.Paths.{differ}
use Rattle.topology.proofs.Sets.{differ-append}
use Rattle.leadership.specs.Parsing.{AllKnown}
use Rattle.leadership.specs.Scripts.{Before}
use Rattle.leadership.proofs.Scripted.{all_known_more}
use Rattle.leadership.proofs.parser.Draft.declare.Goals as goal

pub returns-clause-ok : goal.returns-clause-ok
returns-clause-ok c = λ number.
    let old = c.args.self.now in
    let nodes : c.add.new.self.nodes ≡ old.members.nodes ++ c.args.node ∷ [] = c.add.ensures ∙ ap (λ ns. ns ++ c.args.node ∷ []) c.reserve.ensures.nodes in
    let make : List ℕ → Before = λ ns. record { members = ns; begun = old.begun } in
    record {
      before = ap make nodes;
      directives = sym (append-nil old.directives.items);
      apart = λ h. subst (λ ns. differ ns ≡ true) (sym nodes) (differ-append old.members.nodes c.args.node h (sym c.contains.ensures ∙ c.if-contains.false));
      known = λ h. subst (λ ns. AllKnown ns old.directives.items) (sym nodes) (all_known_more old.members.nodes c.args.node old.directives.items h);
    }
