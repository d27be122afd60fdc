-- What the two ends of a link are to each other.
use Rattle.std.proofs.Common.{◌≡◌, ◌≢◌, ℕ, true, false, cond, ◌&&◌, ◌==◌, List, [], ◌∷◌, find, Option, Some, None, is_some, option_map, refl, sym, ap, ◌∙◌, inl, inr}
use Rattle.topology.specs.Net.{Net, joins, linked, relation, seen_from, converse}
use Rattle.topology.specs.declared.links.Link.{Link}
use Rattle.topology.specs.declared.links.Relation.{Relation}
use Rattle.topology.specs.declared.links.Relation.TheVariants.{Customer, Provider, Peer, Any}
use Rattle.topology.proofs.Tests.{and_left, or_cases, same_is, same_not, same_refl}
use Rattle.topology.proofs.Linked.{is_some_find}
use Rattle.topology.proofs.Near.{joins_sym}

is_some-map : {X Y : Type 0} (f : X → Y) (o : Option X) → is_some (option_map f o) ≡ is_some o
is_some-map f None = refl
is_some-map f (Some x) = refl

-- two nodes have a relation exactly where they have a link
pub relation_linked : (net : Net) (u v : ℕ) → is_some (relation net u v) ≡ linked net u v
unfolding relation
relation_linked net u v = is_some-map (seen_from u) (find (joins u v) net.links) ∙ is_some_find (joins u v) net.links

converse_twice : (r : Relation) → converse (converse r) ≡ r
converse_twice Customer = refl
converse_twice Provider = refl
converse_twice Peer = refl
converse_twice Any = refl

seen_from_other : (u v : ℕ) (link : Link) → u ≢ v → joins u v link ≡ true → seen_from v link ≡ converse (seen_from u link)
seen_from_other u v link apart e =
    elim (or_cases (link.a == u && link.b == v) (link.a == v && link.b == u) e) [
      | inl h ↦
          let from = same_is link.a u (and_left (link.a == u) (link.b == v) h) in
          rw (from, same_refl u, same_not u v apart)
      | inr h ↦
          let from = same_is link.a v (and_left (link.a == v) (link.b == u) h) in
          rw (from, same_refl v, same_not v u (λ is. apart (sym is))) (sym (converse_twice link.relation))
    ]

found_converse : (u v : ℕ) → u ≢ v → (links : List Link) → option_map (seen_from v) (find (joins v u) links) ≡ option_map converse (option_map (seen_from u) (find (joins u v) links))
found_converse u v apart [] = refl
found_converse u v apart (l ∷ ls) =
    rw (joins_sym v u l)
    ((elim (joins u v l) as (λ t. joins u v l ≡ t → option_map (seen_from v) (cond t (Some l) (find (joins v u) ls)) ≡ option_map converse (option_map (seen_from u) (cond t (Some l) (find (joins u v) ls)))) [
      | true ↦ λ e. ap Some (seen_from_other u v l apart e)
      | false ↦ λ e. found_converse u v apart ls
    ]) refl)

-- u is to v the converse of what v is to u
pub relation_converse : (net : Net) (u v : ℕ) → u ≢ v → relation net v u ≡ option_map converse (relation net u v)
unfolding relation
relation_converse net u v apart = found_converse u v apart net.links
