-- Properties of a network that a file describes.
use Rattle.std.proofs.Common.{◌≡◌, ℕ, Bool, true, false, cond, ◌||◌, ◌==◌, List, [], ◌∷◌, ◌++◌, filter, length, refl, sym, ap, ◌∙◌, subst}
use Rattle.std.specs.Prelude.{Some, None, nat_le, ◌&&◌, is_none, if◌then◌else◌}
use Rattle.std.specs.List.{AllByRecursion}
use Rattle.std.proofs.lemmas.Bool.{and_parts}
use Rattle.std.proofs.lemmas.Option.{none-some}
use Rattle.topology.specs.declared.prefixes.Prefix.{Prefix as Range}
use Rattle.topology.specs.declared.building.BuildError.TheVariants as building
use Rattle.topology.specs.declared.status.BadKind.TheVariants as bad
use Rattle.topology.specs.Lists.{has}
use Rattle.topology.specs.Net.{Net}
use Rattle.topology.proofs.Tests.{or_left, or_right, or_second, or_none, or_false, same_sym, same_refl}
use Rattle.topology.proofs.Sets.{has-append}
use Rattle.schedule_file.specs.declared.lines.Line.{Line}
use Rattle.schedule_file.specs.declared.lines.Line.TheVariants.{Blank, Begin, Declares, Directs}
use Rattle.schedule_file.specs.declared.lines.Declaration.TheVariants.{Node, Link, Pref, Hold, Prefix, Hops, Transient}
use Rattle.schedule_file.specs.declared.table.Part.{Part}
use Rattle.schedule_file.specs.Spelling.{IsRange}
use Rattle.schedule_file.specs.Lines.{InRange}
use Rattle.schedule_file.specs.Grammar.{net_of, with_line, part_in, stands, name_fault, fault_from, declared_fault, ReadsIn}
use Rattle.schedule_file.proofs.Sections.{filter_last}
use Rattle.schedule_file.proofs.Steps.{none_of}

-- consolidators stand in the order of the nodes, and prefixes are in range
pub record Described (net : Net) : Type 0 where
  pub in_order : net.consolidators ≡ filter (has net.consolidators) net.nodes
  pub ranges : AllByRecursion IsRange net.prefixes

-- a node that is declared is a new one
new_node : (net : Net) (id : ℕ) (mark : Bool) → declared_fault net (Node id mark) ≡ None → has net.nodes id ≡ false
new_node net id mark e =
    (elim (has net.nodes id) as (λ t. fault_from (if t then Some building.DuplicateNode else if nat_le 64 (length net.nodes) then Some building.TooMany else if mark && nat_le 7 (length net.consolidators) then Some building.TooMany else None) ≡ None → t ≡ false) [
      | true ↦ λ k. absurd (none-some bad.DuplicateNode (sym k))
      | false ↦ λ k. refl
    ]) e

filter_lacks : (p : ℕ → Bool) (n : ℕ) (xs : List ℕ) → has xs n ≡ false → has (filter p xs) n ≡ false
filter_lacks p n [] h = refl
filter_lacks p n (x ∷ xs) h =
    let more = filter_lacks p n xs (or_right (x == n) (has xs n) h) in
    elim (p x) as (λ t. has (cond t (x ∷ filter p xs) (filter p xs)) n ≡ false) [
      | true ↦ or_none (x == n) (has (filter p xs) n) (or_left (x == n) (has xs n) h) more
      | false ↦ more
    ]

filter_without : (cs : List ℕ) (n : ℕ) (xs : List ℕ) → has xs n ≡ false → filter (has (cs ++ n ∷ [])) xs ≡ filter (has cs) xs
filter_without cs n [] h = refl
filter_without cs n (x ∷ xs) h =
    let other : (n == x) ≡ false = same_sym n x ∙ or_left (x == n) (has xs n) h in
    let same : has (cs ++ n ∷ []) x ≡ has cs x = has-append cs n x ∙ ap (λ b. has cs x || b) other ∙ or_false (has cs x) in
    let more = filter_without cs n xs (or_right (x == n) (has xs n) h) in
    ap (λ t. cond t (x ∷ filter (has (cs ++ n ∷ [])) xs) (filter (has (cs ++ n ∷ [])) xs)) same ∙ ap (λ l. cond (has cs x) (x ∷ l) l) more

node_in_order : (ns cs : List ℕ) (id : ℕ) (mark : Bool) → cs ≡ filter (has cs) ns → has ns id ≡ false → (if mark then cs ++ id ∷ [] else cs) ≡ filter (has (if mark then cs ++ id ∷ [] else cs)) (ns ++ id ∷ [])
node_in_order ns cs id true order new =
    let more = cs ++ id ∷ [] in
    let there : has more id ≡ true = has-append cs id id ∙ or_second (has cs id) (id == id) (same_refl id) in
    ap (λ l. l ++ id ∷ []) (order ∙ sym (filter_without cs id ns new))
    ∙ sym (ap (λ t. if t then filter (has more) ns ++ id ∷ [] else filter (has more) ns) there)
    ∙ filter_last (has more) ns id
node_in_order ns cs id false order new =
    let absent : has cs id ≡ false = ap (λ l. has l id) order ∙ filter_lacks (has cs) id ns new in
    order ∙ sym (ap (λ t. if t then filter (has cs) ns ++ id ∷ [] else filter (has cs) ns) absent) ∙ filter_last (has cs) ns id

ranges_next : (ps : List Range) (p : Range) → AllByRecursion IsRange ps → IsRange p → AllByRecursion IsRange (ps ++ p ∷ [])
ranges_next [] p h range = (range, tt)
ranges_next (q ∷ ps) p h range = (h.0, ranges_next ps p h.1 range)

next_line : (net : Net) (line : Line) → Described net → InRange line → name_fault net line ≡ None → Described (with_line line net)
next_line net Blank d range fine = d
next_line net Begin d range fine = d
next_line net (Directs i) d range fine = d
next_line net (Declares (Node id mark)) d range fine = record {
  in_order = node_in_order net.nodes net.consolidators id mark d.in_order (new_node net id mark fine);
  ranges = d.ranges;
}
next_line net (Declares (Link a b relation)) d range fine = record { in_order = d.in_order; ranges = d.ranges }
next_line net (Declares (Pref a b value)) d range fine = record { in_order = d.in_order; ranges = d.ranges }
next_line net (Declares (Hold a b)) d range fine = record { in_order = d.in_order; ranges = d.ranges }
next_line net (Declares (Prefix p)) d range fine = record { in_order = d.in_order; ranges = ranges_next net.prefixes p d.ranges range }
next_line net (Declares (Hops hops)) d range fine = record { in_order = d.in_order; ranges = d.ranges }
next_line net (Declares (Transient scheme)) d range fine = record { in_order = d.in_order; ranges = d.ranges }

all_lines : (behind : Part) (e : List Line) (texts : List (List (List ℕ))) (all : List Line) → ReadsIn behind e texts all → Described (net_of e) → Described (net_of all)
all_lines behind e [] all r d = subst (λ lines. Described (net_of lines)) (sym r) d
all_lines behind e (text ∷ texts) all r d =
    let may = and_parts (stands (part_in behind e) r.0) (is_none (name_fault (net_of e) r.0)) r.2 in
    all_lines behind (r.0 ∷ e) texts all r.3 (next_line (net_of e) r.0 d r.1.in_range (none_of (name_fault (net_of e) r.0) may.1))

pub described : (behind : Part) (texts : List (List (List ℕ))) (all : List Line) → ReadsIn behind [] texts all → Described (net_of all)
described behind texts all r = all_lines behind [] texts all r (record { in_order = refl; ranges = tt })
