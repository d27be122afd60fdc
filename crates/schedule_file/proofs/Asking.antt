-- What the network's refusals say of a line, and how an error is passed on.
use Rattle.std.proofs.Common.{◌≡◌, refl, sym, ap, ◌∙◌, subst}
use Rattle.std.specs.Prelude.{Option, Some, None, Result, Err, IsErr, IsErrAnd, IfErr}
use Rattle.std.proofs.lemmas.Result.{err_from_is_err_and}
use Rattle.topology.specs.declared.building.BuildError.{BuildError}
use Rattle.topology.specs.declared.building.BuildError.TheVariants as building
use Rattle.topology.specs.Building.{AnswersBy}
use Rattle.schedule_file.specs.declared.names.Refusal.{Refusal}
use Rattle.schedule_file.specs.Grammar.{fault_from}
use Rattle.schedule_file.specs.Standing.{NamesFault, refusal_of}

-- an error that `?` passes on
pub handed_on : {T E : Type 0} (r : Result T E) (Q P : E → Type 0) → IsErr r × IsErrAnd r Q → ((e : E) → Q e → P e) → IfErr r P
handed_on r Q P h step =
    let e = err_from_is_err_and r h.1 in
    rw e.1 (step e.0 e.2)

-- the refusal says what is wrong
names_own : (e : BuildError) → NamesFault (refusal_of e) (fault_from (Some e))
names_own building.DuplicateNode = refl
names_own (building.UnknownNode id) = refl
names_own building.DuplicateLink = refl
names_own building.SelfLink = refl
names_own building.DuplicatePrefix = refl
names_own building.TooMany = refl
names_own building.NoMemory = tt
names_own building.NoLink = refl

pub names_refused_by : (T : Type 0) (e : BuildError) (refusal : Option BuildError) (why : Refusal) → AnswersBy {T = T} (Err e) refusal → why ≡ refusal_of e → NamesFault why (fault_from refusal)
names_refused_by T e None why h same = subst (λ w. NamesFault w None) (sym (same ∙ ap refusal_of h)) tt
names_refused_by T e (Some r) why h same =
    let q : ◌≡◌ {A = Result T BuildError} (Err e) (Err r) = h in
    let is : e ≡ r = cc in
    subst (λ w. NamesFault w (fault_from (Some r))) (sym (same ∙ ap refusal_of is)) (names_own r)
