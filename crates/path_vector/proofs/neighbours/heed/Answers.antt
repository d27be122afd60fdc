use Rattle.std.proofs.Common.{◌≡◌, Some, None, false, slice_get, sym, ◌∙◌, ap, subst}
use Rattle.topology.specs.Lists.{has}
use Rattle.path_vector.specs.Kept.{ids, names}
use Rattle.path_vector.proofs.Listing.{keeps_rise, about_none, about_one, ids_within, old_at}
use Rattle.path_vector.proofs.Again.{with_again, on_err}
use Rattle.path_vector.proofs.neighbours.heed.Goals as goal

pub returns-in_default-clause-ok : goal.returns-in_default-clause-ok
returns-in_default-clause-ok c = λ net past k a.
    about_none net c.args.node past c.args.scope.now c.args.cause.now c.args.neighbours.now.items (λ v e. let none : None ≡ names c.args.cause.now = c.in_default.ensures in absurd (cc (none ∙ e))) k

pub returns-in_default-place_of-clause-ok : goal.returns-in_default-place_of-clause-ok
returns-in_default-place_of-clause-ok c = λ net past k a.
    let u = c.args.node in
    let off = c.in_default-place_of.ensures.none in
    let items = c.deref.ensures.value in
    about_none net u past c.args.scope.now c.args.cause.now c.args.neighbours.now.items
    (λ v e. let same : c.in-Some.id ≡ v = let some : Some c.in-Some.id ≡ names c.args.cause.now = c.in-Some.ensures in cc (some ∙ e) in subst (λ w. has (ids c.args.neighbours.now.items) w ≡ false) same (rw items at off (keeps_rise net u past c.args.neighbours.now.items k))) k

pub index_mut-requires : goal.index_mut-requires
index_mut-requires c = let within = ids_within c.args.neighbours.now.items c.in-Some-place_of.place c.in-Some.id (rw c.deref.ensures.value at c.in-Some-place_of.ensures.some) in rw c.args.neighbours.now.ok.0 within

pub returns-in_err-take-clause-err : goal.returns-in_err-take-clause-err
returns-in_err-take-clause-err c = on_err c.from_residual.result (with_again c.args.neighbours.now c.in-Some-place_of.place c.index_mut.result.now c.take.new.self c.index_mut.ensures.value c.in_err-take.ensures.err)

pub returns-clause-ok : goal.returns-clause-ok
returns-clause-ok c = λ net past k a.
    let u = c.args.node in
    let items = c.args.neighbours.now.items in
    let place = c.in-Some-place_of.place in
    let id = c.in-Some.id in
    let names_it : names c.args.cause.now ≡ Some id = sym c.in-Some.ensures in
    let at_place : slice_get (ids items) place ≡ Some id = rw c.deref.ensures.value at c.in-Some-place_of.ensures.some in
    let old = old_at items place id c.index_mut.result.now at_place c.index_mut.ensures.value in
    let own : c.index_mut.result.now.id ≡ id = old.0 in
    let names_old : names c.args.cause.now ≡ Some c.index_mut.result.now.id = names_it ∙ ap (λ v. Some v) (sym own) in
    about_one net u past c.args.scope.now c.args.cause.now items place c.take.new.self id names_it at_place (c.in_ok-take.ensures.id ∙ own)
    (c.in_ok-take.ensures.remembers net past (old.1 net u past k.each) a names_old) k
