-- A printed file is a file of the same schedule.
use Rattle.std.proofs.Common.{◌≡◌, ℕ, suc, true, false, not, ◌||◌, ◌==◌, List, [], ◌∷◌, ◌++◌, length, append-nil, refl, sym, ap, ap₂, ◌∙◌, subst}
use Rattle.std.specs.Prelude.{Some, None, IsTrue, map, slice_get, unwrap_or, if◌then◌else◌}
use Rattle.std.specs.List.{list_any}
use Rattle.std.proofs.lemmas.Bool.{false≢true}
use Rattle.std.proofs.lemmas.List.Elements.{All-head, All-tail}
use Rattle.std.proofs.lemmas.Option.{none-some}
use Rattle.topology.specs.declared.prefixes.Prefix.{Prefix as Range}
use Rattle.topology.specs.declared.names.Scheme.TheVariants.{Deflect}
use Rattle.topology.specs.declared.status.BadKind.{BadKind}
use Rattle.topology.specs.declared.status.BadKind.TheVariants as bad
use Rattle.topology.specs.Lists.{has}
use Rattle.topology.specs.Net.{Net, has_prefix, same_prefix, IsValid}
use Rattle.topology.proofs.Tests.{and_left, and_right, same_is}
use Rattle.schedule_file.specs.declared.lines.Line.{Line}
use Rattle.schedule_file.specs.declared.lines.Line.TheVariants.{Begin, Directs}
use Rattle.schedule_file.specs.declared.directives.Directive.{Directive}
use Rattle.schedule_file.specs.declared.directives.Directive.TheVariants.{Originate}
use Rattle.schedule_file.specs.declared.directives.Rest.{Rest}
use Rattle.schedule_file.specs.declared.directives.Rest.TheVariants.{Origin, Inject}
use Rattle.schedule_file.specs.declared.lines.Numbered.{Numbered}
use Rattle.schedule_file.specs.declared.lines.Schedule.{Schedule}
use Rattle.schedule_file.specs.declared.table.Part.TheVariants.{Network, Run}
use Rattle.schedule_file.specs.Spelling.{words_by_line}
use Rattle.schedule_file.specs.Directives.{first_word, rest_of, directive_by, with_name, renamed}
use Rattle.schedule_file.specs.Table.{may_declare, may_direct}
use Rattle.schedule_file.specs.Lines.{InRange, DirectsInRange}
use Rattle.schedule_file.specs.Grammar.{net_of, begun, directives_of, directive_of, rest_fault, directed_fault, origin_fault, place_in, allowed, Reads, IsFile, IsDirected, AreDirected}
use Rattle.schedule_file.specs.Printing.{node_line, link_line, prefix_line, pref_line, hold_line, packet_lines, sorted_preferences, sorted_holds, prefix_at, prefixed, directive_line, network_lines, printed_lines, printed, SameNet, unnumbered, IsSame, IsFileAgain}
use Rattle.schedule_file.specs.Refusals.{FirstBad}
use Rattle.schedule_file.proofs.Spellings.{spelled_again}
use Rattle.schedule_file.proofs.Steps.{allowed_from}
use Rattle.schedule_file.proofs.Readings.{same_lines, none_first}
use Rattle.schedule_file.proofs.Following.{file_follows}
use Rattle.schedule_file.proofs.Plain.{lines_there}
use Rattle.schedule_file.proofs.Growing.{map_next}
use Rattle.schedule_file.proofs.Coming.{after, comes_read, comes_in_range, Reaches, reaches_both, section, At}
use Rattle.schedule_file.proofs.Preferences.{same_found}
use Rattle.schedule_file.proofs.Holding.{same_held}
use Rattle.schedule_file.proofs.Sections.{with_nodes, with_links, with_prefixes, with_preferences, with_holds, with_packets, nodes_come, links_come, prefixes_come, preferences_come, holds_come, packets_come}
use Rattle.schedule_file.proofs.Described.{Described, described}

abbrev range_of : ℕ → ℕ → Range
range_of bits len = record { bits = bits; len = len }

-- a prefix that is declared stands at its place
stands_there : (p : Range) (ps : List Range) → list_any (same_prefix p) ps ≡ true → slice_get ps (place_in p ps) ≡ Some p
stands_there p [] h = absurd (false≢true h)
stands_there p (q ∷ ps) h =
    (elim (same_prefix p q) as (λ t. same_prefix p q ≡ t → (t || list_any (same_prefix p) ps) ≡ true → slice_get (q ∷ ps) (if t then 0 else suc (place_in p ps)) ≡ Some p) [
      | true ↦ λ t _. (
          let bits = same_is p.bits q.bits (and_left (p.bits == q.bits) (p.len == q.len) t) in
          let len = same_is p.len q.len (and_right (p.bits == q.bits) (p.len == q.len) t) in
          ap Some (ap₂ range_of (sym bits) (sym len)))
      | false ↦ λ f k. stands_there p ps k
    ]) refl h

prefix_found : (net : Net) (node : ℕ) (p : Range) → origin_fault net node p ≡ None → prefix_at net (place_in p net.prefixes) ≡ p
prefix_found net node p e = ap (λ o. unwrap_or o (record { bits = 0; len = 0 })) (stands_there p net.prefixes (declared net node p e))
  where
    declared : (net : Net) (node : ℕ) (p : Range) → origin_fault net node p ≡ None → has_prefix net p ≡ true
    declared net node p e =
        (elim (has net.nodes node) as (λ s. (if not s then Some bad.UnknownNode else if not (has_prefix net p) then Some bad.UnknownPrefix else None) ≡ None → has_prefix net p ≡ true) [
          | true ↦ λ k. (elim (has_prefix net p) as (λ t. (if not t then Some bad.UnknownPrefix else None) ≡ None → t ≡ true) [
            | true ↦ λ _. refl
            | false ↦ λ m. absurd (none-some bad.UnknownPrefix (sym m))
          ]) k
          | false ↦ λ k. absurd (none-some bad.UnknownNode (sym k))
        ]) e

-- one change of the name after another
renamed_twice : {P Q R : Type 0} (f : P → Q) (g : Q → R) (d : Directive P) → renamed g (renamed f d) ≡ renamed (λ p. g (f p)) d
renamed_twice f g (Originate node p) = refl
renamed_twice f g d = refl

same_rest : (net : Net) (r : Rest Range) → rest_fault net r ≡ None → with_name (λ p. prefix_at net (place_in p net.prefixes)) r ≡ r
same_rest net (Origin node p) e = ap (λ q. Origin node q) (prefix_found net node p e)
same_rest net (Inject packet node p) e = ap (λ q. Inject packet node q) (prefix_found net node p e)
same_rest net r e = refl

-- the line of a directive is the one that it came from
same_line : (net : Net) (line : Directive Range) → directed_fault net line ≡ None → prefixed net (directive_of net line) ≡ line
same_line net line e =
    renamed_twice (λ p. place_in p net.prefixes) (prefix_at net) line ∙ ap (directive_by (first_word line)) (same_rest net (rest_of line) e)
    ∙ spelled_again line

-- preferences do not matter for the names of a directive

module _ (net : Net) (valid : IsValid net) where
  abbrev final : Net
  final = with_packets net valid

  rest_same : (r : Rest Range) → rest_fault final r ≡ rest_fault net r
  rest_same (Origin node p) = refl
  rest_same r = refl

  -- after begin: the whole network, and the directives so far
  record Behind (front : List Numbered) (e : List Line) : Type 0 where
    whole : net_of e ≡ final
    late : begun e ≡ true
    directed : unnumbered (directives_of e) ≡ unnumbered front

  each_follows : (all : List Numbered) → AreDirected net all → (front : List Numbered) (d : Numbered) (back : List Numbered) → front ++ d ∷ back ≡ all → IsDirected net d.directive
  each_follows all follow front d back same = in_front front d back (subst (AreDirected net) (sym same) follow)
    where
      in_front : (front : List Numbered) (d : Numbered) (back : List Numbered) → AreDirected net (front ++ d ∷ back) → IsDirected net d.directive
      in_front [] d back h = All-head (λ (d : Numbered). IsDirected net d.directive) d back h
      in_front (x ∷ front) d back h = in_front front d back (All-tail (λ (d : Numbered). IsDirected net d.directive) x (front ++ d ∷ back) h)

  line_next : (line : Directive Range) (d : Numbered) (front : List Numbered) (e : List Line) → d.directive ≡ directive_of net line → DirectsInRange line → directed_fault net line ≡ None → Behind front e → InRange (Directs line) × IsTrue (allowed Run e (Directs line)) × Behind (front ++ d ∷ []) (Directs line ∷ e)
  line_next line d front e same range fine b =
      let stands = ap (λ b. may_direct (if b then Run else Network)) b.late in
      let last : Numbered = record { line = suc (length e); directive = directive_of (net_of e) line } in
      let names = ap (λ n. directed_fault n line) b.whole ∙ rest_same (rest_of line) ∙ fine in
      let says : directive_of (net_of e) line ≡ d.directive = ap (λ n. directive_of n line) b.whole ∙ sym same in (
        range,
        allowed_from Run e (Directs line) stands names,
        record {
          whole = b.whole;
          late = b.late;
          directed = map_next (λ (n : Numbered). n.directive) (directives_of e) last ∙ ap₂ (λ ds x. ds ++ x ∷ []) b.directed says ∙ sym (map_next (λ (n : Numbered). n.directive) front d);
        },
      )

  directive_next : (all : List Numbered) → AreDirected net all → (front : List Numbered) (d : Numbered) (back : List Numbered) (e : List Line) → front ++ d ∷ back ≡ all → Behind front e → InRange (directive_line net d) × IsTrue (allowed Run e (directive_line net d)) × Behind (front ++ d ∷ []) (directive_line net d ∷ e)
  directive_next all follow front d back e same b =
      let f = each_follows all follow front d back same in
      let is : prefixed net d.directive ≡ f.line = ap (prefixed net) f.same ∙ same_line net f.line f.named in
      subst (λ l. InRange (Directs l) × IsTrue (allowed Run e (Directs l)) × Behind (front ++ d ∷ []) (Directs l ∷ e)) (sym is) (line_next f.line d front e f.same f.in_range f.named b)

  directives_come : (all : List Numbered) → AreDirected net all → (e : List Line) → Behind [] e → Reaches e (map (directive_line net) all) (Behind all)
  directives_come all follow e b = section (directive_line net) Behind all (directive_next all follow) e b

  begin_comes : (e : List Line) → At final e → Reaches e (Begin ∷ []) (Behind [])
  begin_comes e at =
      let stands = ap (λ b. may_declare (if b then Run else Network)) at.early in
      record {
        comes = (tt, allowed_from Run e Begin stands refl, tt);
        there = record { whole = at.stands_for; late = refl; directed = ap unnumbered (append-nil (directives_of e) ∙ at.none) };
      }

  -- one section after another
  all_come : Described net → (all : List Numbered) → AreDirected net all → Reaches [] (printed_lines net all) (Behind all)
  all_come d all follow =
      let start : At (with_nodes net []) [] = record { stands_for = refl; early = refl; none = refl } in
      let nodes = nodes_come net valid d.in_order [] start in
      let first : (e : List Line) → At (with_nodes net net.nodes) e → Reaches e (map link_line net.links) (At (with_links net valid net.links)) = λ e at. links_come net valid e (subst (λ cs. At (record { nodes = net.nodes; consolidators = cs; links = []; preferences = []; prefixes = []; holds = []; hops = 128; scheme = Deflect }) e) (sym d.in_order) at) in
      let linked = reaches_both [] (map (node_line net) net.nodes) (map link_line net.links) (At (with_nodes net net.nodes)) (At (with_links net valid net.links)) nodes first in
      let named = reaches_both [] (map (node_line net) net.nodes ++ map link_line net.links) (map prefix_line net.prefixes) (At (with_links net valid net.links)) (At (with_prefixes net valid net.prefixes)) linked (prefixes_come net valid d.ranges) in
      let preferred = reaches_both [] (map (node_line net) net.nodes ++ map link_line net.links ++ map prefix_line net.prefixes) (map pref_line (sorted_preferences net)) (At (with_prefixes net valid net.prefixes)) (At (with_preferences net valid (sorted_preferences net))) named (preferences_come net valid) in
      let holding = reaches_both [] (map (node_line net) net.nodes ++ map link_line net.links ++ map prefix_line net.prefixes ++ map pref_line (sorted_preferences net)) (map hold_line (sorted_holds net)) (At (with_preferences net valid (sorted_preferences net))) (At (with_holds net valid (sorted_holds net))) preferred (holds_come net valid) in
      let settled = reaches_both [] (map (node_line net) net.nodes ++ map link_line net.links ++ map prefix_line net.prefixes ++ map pref_line (sorted_preferences net) ++ map hold_line (sorted_holds net)) (packet_lines net) (At (with_holds net valid (sorted_holds net))) (At final) holding (packets_come net valid) in
      reaches_both [] (network_lines net) (Begin ∷ map (directive_line net) all) (At final) (Behind all) settled
      (λ e at. reaches_both e (Begin ∷ []) (map (directive_line net) all) (Behind []) (Behind all) (begin_comes e at) (directives_come all follow))

  same_net : SameNet net final
  same_net = record {
    nodes = refl;
    consolidators = refl;
    links = refl;
    prefixes = refl;
    preferences = same_found net valid;
    holds = same_held net final valid refl;
    hops = refl;
    scheme = refl;
  }

-- what such a text says to every reader
pub same_again : (text : List ℕ) (schedule other : Schedule) → IsFileAgain text schedule → IsFile text other → IsSame schedule other
same_again text schedule other again file =
    let same = same_lines text file.0 again.lines file.1 again.reads in
    record {
      topology = subst (SameNet schedule.topology) (ap net_of (sym same) ∙ sym file.2) again.topology;
      directives = ap unnumbered (file.3 ∙ ap directives_of same) ∙ again.directives;
    }

pub none_bad : (text : List ℕ) (schedule : Schedule) (line : ℕ) (kind : BadKind) → IsFileAgain text schedule → FirstBad text line kind → ⊥
none_bad text schedule line kind again first = none_first Run text again.lines line kind again.reads first

pub printed_again : (schedule : Schedule) (bytes : List ℕ) → IsValid schedule.topology → IsFile bytes schedule → IsFileAgain (printed schedule.topology schedule.lines.items) schedule
unfolding printed
printed_again schedule bytes valid file =
    let net = schedule.topology in
    let all = schedule.lines.items in
    let d : Described net = subst Described (sym file.2) (described Run (words_by_line bytes) file.0 file.1) in
    let come = all_come net valid d all (file_follows bytes schedule file) in
    let lines = printed_lines net all in
    let words = lines_there lines (comes_in_range [] lines come.comes) in
    record {
      lines = after [] lines;
      reads = subst (λ texts. Reads [] texts (after [] lines)) (sym words) (comes_read [] lines come.comes);
      topology = subst (SameNet net) (sym come.there.whole) (same_net net valid);
      directives = come.there.directed;
    }
