-- Finding a hold by its two nodes.
use Rattle.std.proofs.Common.{◌≡◌, Bool, List, [], ◌∷◌, ◌++◌, refl, ap, if◌then◌else◌}
use Rattle.std.specs.List.{list_any}
use Rattle.topology.specs.Net.{is_hold}
use Rattle.topology.specs.Building.{put_hold}
use Rattle.topology.specs.declared.links.Hold.{Hold}

-- two tests that agree have the same result on a list
pub any_agree : {X : Type 0} (p q : X → Bool) → ((x : X) → p x ≡ q x) → (xs : List X) → list_any p xs ≡ list_any q xs
any_agree p q same [] = refl
any_agree p q same (x ∷ xs) = rw (same x, any_agree p q same xs)

-- adding a hold unless an equal one is there is adding it unless one of the same nodes is there
pub put_by_nodes : (hold : Hold) (eq : Hold → Bool) → ((other : Hold) → eq other ≡ is_hold hold.a hold.b other) → (holds : List Hold) → (if list_any eq holds then holds else holds ++ hold ∷ []) ≡ put_hold hold holds
put_by_nodes hold eq same holds = ap (λ t. if t then holds else holds ++ hold ∷ []) (any_agree eq (is_hold hold.a hold.b) same holds)
