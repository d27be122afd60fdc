use Rattle.std.proofs.Common.{Some, sym, ◌∙◌, ap}
use Rattle.std.specs.Prelude.{slice_get}
use Rattle.stable_table.proofs.Backed.{own_path, goes_by_first, none_first, silent_first, answered_first}
use Rattle.stable_table.proofs.rows.path_of.Goals as goal

pub returns-then-owns : goal.returns-then-owns
returns-then-owns g c = λ policy net u h s below ranked backed own.
    ap (λ path. Some path) (c.in_ok-own_path.ensures policy net u h s)
    ∙ sym (own_path (g.P.Policy.rules policy) net u h c.args.prefix c.args.responders.now.value.now (sym (c.owns.ensures policy net u h s below) ∙ c.if-owns.true) own)

pub returns-in_default : goal.returns-in_default
returns-in_default g c = λ policy net u h s below ranked backed own.
    let value = c.args.responders.now.value.now in
    none_first value u c.args.candidates.now c.in_default.ensures.value
    ∙ goes_by_first (g.P.Policy.rules policy) net u h c.args.prefix value c.args.candidates.now (sym (c.owns.ensures policy net u h s below) ∙ c.if-owns.false) ranked

pub returns-then-not-all_on : goal.returns-then-not-all_on
returns-then-not-all_on g c = λ policy net u h s below ranked backed own.
    let value = c.args.responders.now.value.now in
    silent_first value u c.args.candidates.now c.in-Some.first.now c.in-Some.ensures.value own (sym c.if-not-all_on.ensures)
    ∙ goes_by_first (g.P.Policy.rules policy) net u h c.args.prefix value c.args.candidates.now (sym (c.owns.ensures policy net u h s below) ∙ c.if-owns.false) ranked

pub returns : goal.returns
returns g c = λ policy net u h s below ranked backed own.
    let value = c.args.responders.now.value.now in
    let first = answered_first value u c.args.candidates.now c.in-Some.first.now c.in-Some.ensures.value own (sym c.if-not-all_on.ensures) in
    ap (λ path. Some path) c.in_ok-copy.ensures
    ∙ (c.in-Some-first.ensures.value
    ∙ (ap (λ paths. slice_get paths 0) backed
    ∙ (first ∙ goes_by_first (g.P.Policy.rules policy) net u h c.args.prefix value c.args.candidates.now (sym (c.owns.ensures policy net u h s below) ∙ c.if-owns.false) ranked)))
