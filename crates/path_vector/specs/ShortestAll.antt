-- The policy of plain shortest paths.
use Rattle.std.proofs.Common.{Bool, ◌≡◌, ◌≢◌, false, true, not, nat_lt, ◌==◌, if◌then◌else◌, arith}
use Rattle.std.proofs.lemmas.Bool.Decides.{nat_tests}
use Rattle.topology.specs.declared.links.Relation.{Relation}
use Rattle.path_vector.specs.declared.policy.Ranked.{Ranked}
use Rattle.path_vector.specs.declared.policy.Learned.{Learned}
use Rattle.path_vector.specs.Rules.{Rules, IsRanking}

-- fewer nodes first, then the lower neighbour
abbrev pub shorter : Ranked → Ranked → Bool
shorter a b =
    if nat_lt a.length b.length then true
    else if a.length == b.length then nat_lt a.nbr b.nbr else false

-- every route is offered to everybody
abbrev pub everything : Learned → Relation → Bool
everything learned to = true

abbrev pub shortest_all : Rules
shortest_all = record { before = shorter; allows = everything }

irreflexive : (a : Ranked) → shorter a a ≡ false
irreflexive a = grind (arith, nat_tests)

transitive : (a b c : Ranked) → shorter a b ≡ true → shorter b c ≡ true → shorter a c ≡ true
transitive a b c ab bc = grind (arith, nat_tests)

decides : (a b : Ranked) → a.nbr ≢ b.nbr → shorter a b ≡ not (shorter b a)
decides a b differ = grind (arith, nat_tests)

pub shortest_all_ranking : IsRanking shortest_all.before
shortest_all_ranking = record { irreflexive = irreflexive; transitive = transitive; decides = decides }
