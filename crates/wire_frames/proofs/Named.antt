-- What a promise names.
use Rattle.std.proofs.Common.{◌≡◌, List, ℕ, true, Option, Some, None, ap₂}
use Rattle.std.specs.Borrow.{Bor}
use Rattle.std.proofs.lemmas.Bool.{and_parts}
use Rattle.topology.specs.declared.ballots.Ballot.{Ballot}
use Rattle.incomplete_closure.specs.declared.values.Value.{Value}
use Rattle.wire_frames.specs.Fields.{ballot, value, named}
use Rattle.wire_frames.specs.Shown.{NamesSame}

pub some_same : (b : Ballot) (v : Value) (text : Bor (List ℕ)) (y : Option (Ballot × Value)) → ((w : Value) → value.fits w ≡ true → text.now ≡ value.spells w → v ≡ w) → named.fits y ≡ true → NamesSame (Some (b, text)) y
    → ◌≡◌ {A = Option (Ballot × Value)} (Some (b, v)) y
unfolding named
some_same b v text None back fit same = absurd same
some_same b v text (Some y) back fit same =
    let v-is : v ≡ y.1 = back y.1 (and_parts (ballot.fits y.0) (value.fits y.1) fit).1 same.1 in
    ap₂ (λ (c : Ballot) (w : Value). Some (c, w)) same.0 v-is
