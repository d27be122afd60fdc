-- Lists of triggers.
use Rattle.std.proofs.Common.{Bool, true, false, ◌&&◌, ◌==◌, List, [], ◌∷◌, ◌≡◌, refl, ap, arith, length}
use Rattle.std.specs.List.{list_all}
use Rattle.std.proofs.lemmas.Bool.Decides.{nat_tests}
use Rattle.topology.specs.declared.names.Trigger.{Trigger}
use Rattle.topology.specs.Net.{Net}
use Rattle.message_fitting.specs.Names.{trigger_fits, triggers_fit}

-- where there are some, each fits where all do
pub some_fit : (net : Net) (ts : List Trigger) → (length ts == 0) ≡ false → list_all (trigger_fits net) ts ≡ triggers_fit net ts
some_fit net [] some = absurd (cc some)
some_fit net (t ∷ []) some = and_true (trigger_fits net t)
  where
    and_true : (b : Bool) → (b && true) ≡ b
    and_true true = refl
    and_true false = refl
some_fit net (t ∷ s ∷ ts) some = let more : (length (s ∷ ts) == 0) ≡ false = grind (arith, nat_tests) in ap (λ b. trigger_fits net t && b) (some_fit net (s ∷ ts) more)
