-- When an opening may follow.
use Rattle.std.proofs.Common.{◌≡◌, ℕ, ◌<◌, Bool, sym, subst, arith, IsTrue, ◌↔◌}
use Rattle.std.specs.Ordering.{is_lt, nat_cmp}
use Rattle.std.proofs.lemmas.Bool.Decides.{nat_tests}
use Rattle.topology.specs.declared.names.Scope.{Scope}
use Rattle.path_vector.specs.declared.causes.Cause.{Cause}
use Rattle.path_vector.specs.declared.causes.Cause.TheVariants.{Up}
use Rattle.path_vector.specs.History.{History, HasScope, Opens, Accepts, highest}

pub accepts_up : (past : History) (scope : Scope) (cause : Cause) (v s top : ℕ) (b : Bool) → cause ≡ Up v s → HasScope scope cause → top ≡ highest past v → b ≡ is_lt (nat_cmp top s) → IsTrue b ↔ Accepts past scope cause
accepts_up past scope cause v s top b is scoped same test = (
  (λ e.
      let above : top < s = grind (arith, nat_tests, test, e) in
      let opens : Opens past (Up v s) = subst (λ t. t < s) same above in
      record { scoped = scoped; opens = subst (Opens past) (sym is) opens }),
  (λ a.
      let above : highest past v < s = subst (Opens past) is a.opens in
      let low : top < s = subst (λ t. t < s) (sym same) above in
      grind (arith, nat_tests, test, low)),
)
