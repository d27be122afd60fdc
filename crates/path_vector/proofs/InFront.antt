-- A node before a path.
use Rattle.std.proofs.Common.{◌≡◌, ℕ, ◌-◌, ◌≤◌, List, [], ◌∷◌, length, take, drop, get_or, sub-one, sym, ◌∙◌, ap₂, arith}
use Rattle.std.proofs.lemmas.List.{take_all}

-- a list is its first node followed by the rest
pub led_is : (nodes rest : List ℕ) (node first : ℕ) → 1 ≤ length nodes → first ≡ get_or nodes 0 first → first ≡ node → take (length nodes - 1) (drop 1 nodes) ≡ rest → nodes ≡ node ∷ rest
led_is [] rest node first some read own behind = absurd (omega (arith, some))
led_is (x ∷ xs) rest node first some read own behind = ap₂ (λ n ns. n ∷ ns) (sym read ∙ own) (sym (take_all (length xs) xs (omega arith)) ∙ (rw sub-one at behind))
