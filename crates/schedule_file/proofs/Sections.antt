-- The network of a file, line by line: nodes, links, prefixes, preferences, holds, the hop limit and the scheme.
use Rattle.std.proofs.Common.{◌≡◌, ◌≢◌, ℕ, ◌+◌, ◌<◌, ◌≤◌, ◌^◌, Bool, true, false, not, cond, ◌&&◌, ◌||◌, ◌==◌, List, [], ◌∷◌, ◌++◌, length, filter, length-append, refl, sym, ap, ◌∙◌, subst, inl, inr, true≢false, arith}
use Rattle.std.specs.Prelude.{None, IsTrue, nat_le, map, if◌then◌else◌}
use Rattle.std.specs.List.{list_any, count_by, AllByRecursion}
use Rattle.std.proofs.lemmas.Bool.Decides.{nat_tests}
use Rattle.std.proofs.lemmas.List.Recursion.{is_count_by}
use Rattle.topology.specs.declared.links.Link.{Link}
use Rattle.topology.specs.declared.links.Pref.{Pref}
use Rattle.topology.specs.declared.links.Hold.{Hold}
use Rattle.topology.specs.declared.prefixes.Prefix.{Prefix as Range}
use Rattle.topology.specs.declared.names.Scheme.{Scheme}
use Rattle.topology.specs.declared.names.Scheme.TheVariants.{Deflect, Detour, Backup}
use Rattle.topology.specs.Lists.{has}
use Rattle.topology.specs.Paths.{differ}
use Rattle.topology.specs.Net.{Net, joins, linked, has_prefix, same_prefix, JoinsNodes, Leads, IsValid}
use Rattle.topology.specs.Building.{node_refusal, link_refusal, pref_refusal, prefix_refusal, scheme_refusal}
use Rattle.topology.proofs.Tests.{and_left, and_right, and_both, or_left, or_right, or_first, or_cases, not_true, same_sym, same_is, same_refl, same_not}
use Rattle.topology.proofs.Neighbours.{linked_nodes}
use Rattle.schedule_file.specs.declared.lines.Line.{Line}
use Rattle.schedule_file.specs.declared.lines.Line.TheVariants.{Declares}
use Rattle.schedule_file.specs.declared.lines.Declaration.TheVariants as declares
use Rattle.schedule_file.specs.Spelling.{IsNumber, IsRange}
use Rattle.schedule_file.specs.declared.table.Part.TheVariants.{Run}
use Rattle.schedule_file.specs.Lines.{SchemeInRange, InRange}
use Rattle.schedule_file.specs.Grammar.{fault_from, allowed}
use Rattle.schedule_file.specs.Printing.{node_line, link_line, prefix_line, pref_line, hold_line, packet_lines, sorted_preferences, sorted_holds}
use Rattle.schedule_file.proofs.Places.{same_prefix-self}
use Rattle.schedule_file.proofs.Coming.{Reaches, section, At, declared_next}
use Rattle.schedule_file.proofs.Preferences.{Given, differs, sorted_given, put_all, put_next}
use Rattle.schedule_file.proofs.Holding.{Held, sorted_held, hold_all, hold_next}

-- an element of a list, and those before it

each_at : {X : Type 0} (P : X → Type 0) (front : List X) (x : X) (back : List X) → AllByRecursion P (front ++ x ∷ back) → P x
each_at P [] x back h = h.0
each_at P (y ∷ front) x back h = each_at P front x back h.1

shorter : {X : Type 0} (n : ℕ) (front : List X) (x : X) (back : List X) → length (front ++ x ∷ back) ≤ n → length front < n
shorter n front x back h = omega (arith, length-append front (x ∷ back))

any_there : {X : Type 0} (p : X → Bool) (front : List X) (x : X) (back : List X) → list_any p (front ++ x ∷ back) ≡ false → p x ≡ false
any_there p [] x back h = or_left (p x) (list_any p back) h
any_there p (y ∷ front) x back h = any_there p front x back (or_right (p y) (list_any p (front ++ x ∷ back)) h)

apart : (front : List ℕ) (x : ℕ) (back : List ℕ) → differ (front ++ x ∷ back) ≡ true → has front x ≡ false
apart [] x back h = refl
apart (y ∷ front) x back h =
    let others = front ++ x ∷ back in
    let own = not_true (list_any (λ z. z == y) others) (and_left (not (list_any (λ z. z == y) others)) (differ others) h) in
    let other : (y == x) ≡ false = same_sym y x ∙ any_there (λ z. z == y) front x back own in
    rw other (apart front x back (and_right (not (list_any (λ z. z == y) others)) (differ others) h))

abbrev counts : {X : Type 0} → (X → Bool) → List X → ℕ
counts p [] = 0
counts p (x ∷ xs) = cond (p x) (1 + counts p xs) (counts p xs)

counted : {X : Type 0} (p : X → Bool) (front : List X) (x : X) (back : List X) → p x ≡ true → 1 ≤ counts p (front ++ x ∷ back)
counted p [] x back e = rw e (omega arith)
counted p (y ∷ front) x back e =
    let more = counted p front x back e in
    elim (p y) as (λ t. 1 ≤ cond t (1 + counts p (front ++ x ∷ back)) (counts p (front ++ x ∷ back))) [ true ↦ omega arith | false ↦ more ]

first_only : {X : Type 0} (p : X → Bool) (front : List X) (x : X) (back : List X) → p x ≡ true → counts p (front ++ x ∷ back) ≤ 1 → list_any p front ≡ false
first_only p [] x back e h = refl
first_only p (y ∷ front) x back e h =
    let more = counted p front x back e in
    (elim (p y) as (λ t. cond t (1 + counts p (front ++ x ∷ back)) (counts p (front ++ x ∷ back)) ≤ 1 → (t || list_any p front) ≡ false) [
      | true ↦ λ k. absurd (omega arith)
      | false ↦ λ k. first_only p front x back e k
    ]) h

-- an element that passes, where at most one does: none before it passes
once : {X : Type 0} (p : X → Bool) (front : List X) (x : X) (back : List X) → p x ≡ true → count_by p (front ++ x ∷ back) ≤ 1 → list_any p front ≡ false
once p front x back e h =
    let same = is_count_by (counts p) p refl (λ _ _. refl) (front ++ x ∷ back) in
    first_only p front x back e (omega arith)

not_above : (m n : ℕ) → n < m → nat_le m n ≡ false
not_above m n h = grind (arith, nat_tests)

-- why nothing is refused

node_taken : (net : Net) (id : ℕ) (mark : Bool) → has net.nodes id ≡ false → length net.nodes < 64 → (mark ≡ true → length net.consolidators < 7) → node_refusal net id mark ≡ None
node_taken net id true new few more = rw (new, not_above 64 (length net.nodes) few, not_above 7 (length net.consolidators) (more refl)) refl
node_taken net id false new few more = rw (new, not_above 64 (length net.nodes) few) refl

link_taken : (net : Net) (a b : ℕ) → has net.nodes a ≡ true → has net.nodes b ≡ true → a ≢ b → linked net a b ≡ false → length net.links < 512 → link_refusal net a b ≡ None
link_taken net a b from to other new few = rw (from, to, same_not a b other, new, not_above 512 (length net.links) few) refl

pub pref_taken : (net : Net) (a b : ℕ) → has net.nodes a ≡ true → has net.nodes b ≡ true → (a == b) ≡ false → linked net a b ≡ true → pref_refusal net a b ≡ None
pref_taken net a b from to other joined = rw (from, to, other, joined) refl

prefix_taken : (net : Net) (p : Range) → has_prefix net p ≡ false → length net.prefixes < 256 → prefix_refusal net p ≡ None
prefix_taken net p new few = rw (new, not_above 256 (length net.prefixes) few) refl

scheme_taken : (net : Net) (scheme : Scheme) → Leads net.nodes scheme → scheme_refusal net scheme ≡ None
scheme_taken net Deflect leads = refl
scheme_taken net (Detour n) leads = rw leads refl
scheme_taken net Backup leads = refl

-- the nodes so far

abbrev pub with_nodes : Net → List ℕ → Net
with_nodes net front = record { nodes = front; consolidators = filter (has net.consolidators) front; links = []; preferences = []; prefixes = []; holds = []; hops = 128; scheme = Deflect }

filter_front : (p : ℕ → Bool) (front : List ℕ) (x : ℕ) (back : List ℕ) → p x ≡ true → length (filter p front) < length (filter p (front ++ x ∷ back))
filter_front p [] x back e = rw e (omega arith)
filter_front p (y ∷ front) x back e =
    let more = filter_front p front x back e in
    elim (p y) as (λ t. length (cond t (y ∷ filter p front) (filter p front)) < length (cond t (y ∷ filter p (front ++ x ∷ back)) (filter p (front ++ x ∷ back)))) [
      | true ↦ omega arith
      | false ↦ more
    ]

pub filter_last : (p : ℕ → Bool) (front : List ℕ) (x : ℕ) → (if p x then filter p front ++ x ∷ [] else filter p front) ≡ filter p (front ++ x ∷ [])
filter_last p [] x = elim (p x) as (λ t. (if t then x ∷ [] else []) ≡ cond t (x ∷ []) []) [ true ↦ refl | false ↦ refl ]
filter_last p (y ∷ front) x =
    elim (p y) as (λ t. (if p x then cond t (y ∷ filter p front) (filter p front) ++ x ∷ [] else cond t (y ∷ filter p front) (filter p front)) ≡ cond t (y ∷ filter p (front ++ x ∷ [])) (filter p (front ++ x ∷ []))) [
      | true ↦ (elim (p x) as (λ t. ((if t then filter p front ++ x ∷ [] else filter p front) ≡ filter p (front ++ x ∷ [])) → (if t then (y ∷ filter p front) ++ x ∷ [] else y ∷ filter p front) ≡ y ∷ filter p (front ++ x ∷ [])) [
        | true ↦ λ e. ap (λ l. y ∷ l) e
        | false ↦ λ e. ap (λ l. y ∷ l) e
      ]) (filter_last p front x)
      | false ↦ filter_last p front x
    ]

module _ (net : Net) (valid : IsValid net) where
  node_step : net.consolidators ≡ filter (has net.consolidators) net.nodes → (front : List ℕ) (x : ℕ) (back : List ℕ) (e : List Line) → front ++ x ∷ back ≡ net.nodes → At (with_nodes net front) e → InRange (node_line net x) × IsTrue (allowed Run e (node_line net x)) × At (with_nodes net (front ++ x ∷ [])) (node_line net x ∷ e)
  node_step order front x back e same at =
      let p = has net.consolidators in
      let number = each_at (λ n. (0 < n) × (n < 2 ^ 16)) front x back (subst (AllByRecursion (λ n. (0 < n) × (n < 2 ^ 16))) (sym same) valid.numbers) in
      let new = apart front x back (subst (λ l. differ l ≡ true) (sym same) valid.nodes_differ) in
      let few = shorter 64 front x back (subst (λ l. length l ≤ 64) (sym same) valid.few_nodes) in
      let whole : length (filter p (front ++ x ∷ back)) ≤ 7 = subst (λ l. length l ≤ 7) (order ∙ ap (filter p) (sym same)) valid.few_consolidators in
      let marked : p x ≡ true → length (filter p front) < 7 = λ m. (let less = filter_front p front x back m in omega arith) in
      declared_next (declares.Node x (p x)) (with_nodes net front) (with_nodes net (front ++ x ∷ [])) e at number
      (ap fault_from (node_taken (with_nodes net front) x (p x) new few marked))
      (ap (λ cs. record { nodes = front ++ x ∷ []; consolidators = cs; links = []; preferences = []; prefixes = []; holds = []; hops = 128; scheme = Deflect }) (filter_last p front x))

  pub nodes_come : net.consolidators ≡ filter (has net.consolidators) net.nodes → (e : List Line) → At (with_nodes net []) e → Reaches e (map (node_line net) net.nodes) (At (with_nodes net net.nodes))
  nodes_come order e at = section (node_line net) (λ front. At (with_nodes net front)) net.nodes (node_step order) e at

  -- the number of a node
  number_of_node : (n : ℕ) → (ns : List ℕ) → AllByRecursion (λ n. (0 < n) × (n < 2 ^ 16)) ns → has ns n ≡ true → IsNumber n
  number_of_node n [] h e = absurd (true≢false (sym e))
  number_of_node n (m ∷ ns) h e =
      elim (or_cases (m == n) (has ns n) e) [
        | inl here ↦ subst IsNumber (same_is m n here) h.0
        | inr later ↦ number_of_node n ns h.1 later
      ]

  pub is_number : (n : ℕ) → has net.nodes n ≡ true → IsNumber n
  is_number n e = number_of_node n net.nodes valid.numbers e

  -- the links so far
  abbrev pub with_links : List Link → Net
  with_links front = record { nodes = net.nodes; consolidators = net.consolidators; links = front; preferences = []; prefixes = []; holds = []; hops = 128; scheme = Deflect }

  link_step : (front : List Link) (x : Link) (back : List Link) (e : List Line) → front ++ x ∷ back ≡ net.links → At (with_links front) e → InRange (link_line x) × IsTrue (allowed Run e (link_line x)) × At (with_links (front ++ x ∷ [])) (link_line x ∷ e)
  link_step front x back e same at =
      let ends = each_at (JoinsNodes net.nodes) front x back (subst (AllByRecursion (JoinsNodes net.nodes)) (sym same) valid.links_join) in
      let few = shorter 512 front x back (subst (λ l. length l ≤ 512) (sym same) valid.few_links) in
      let joined : joins x.a x.b x ≡ true = or_first (x.a == x.a && x.b == x.b) (x.a == x.b && x.b == x.a) (and_both (x.a == x.a) (x.b == x.b) (same_refl x.a) (same_refl x.b)) in
      let new = once (joins x.a x.b) front x back joined (subst (λ l. count_by (joins x.a x.b) l ≤ 1) (sym same) (valid.one_link_a_pair x.a x.b)) in
      declared_next (declares.Link x.a x.b x.relation) (with_links front) (with_links (front ++ x ∷ [])) e at (is_number x.a ends.from, is_number x.b ends.to)
      (ap fault_from (link_taken (with_links front) x.a x.b ends.from ends.to ends.apart new few)) refl

  pub links_come : (e : List Line) → At (with_links []) e → Reaches e (map link_line net.links) (At (with_links net.links))
  links_come e at = section link_line (λ front. At (with_links front)) net.links link_step e at

  -- the prefixes so far
  abbrev pub with_prefixes : List Range → Net
  with_prefixes front = record { nodes = net.nodes; consolidators = net.consolidators; links = net.links; preferences = []; prefixes = front; holds = []; hops = 128; scheme = Deflect }

  prefix_step : AllByRecursion IsRange net.prefixes → (front : List Range) (x : Range) (back : List Range) (e : List Line) → front ++ x ∷ back ≡ net.prefixes → At (with_prefixes front) e → InRange (prefix_line x) × IsTrue (allowed Run e (prefix_line x)) × At (with_prefixes (front ++ x ∷ [])) (prefix_line x ∷ e)
  prefix_step ranges front x back e same at =
      let range = each_at IsRange front x back (subst (AllByRecursion IsRange) (sym same) ranges) in
      let few = shorter 256 front x back (subst (λ l. length l ≤ 256) (sym same) valid.few_prefixes) in
      let new = once (same_prefix x) front x back (same_prefix-self x) (subst (λ l. count_by (same_prefix x) l ≤ 1) (sym same) (valid.prefixes_differ x)) in
      declared_next (declares.Prefix x) (with_prefixes front) (with_prefixes (front ++ x ∷ [])) e at range (ap fault_from (prefix_taken (with_prefixes front) x new few)) refl

  pub prefixes_come : AllByRecursion IsRange net.prefixes → (e : List Line) → At (with_prefixes []) e → Reaches e (map prefix_line net.prefixes) (At (with_prefixes net.prefixes))
  prefixes_come ranges e at = section prefix_line (λ front. At (with_prefixes front)) net.prefixes (prefix_step ranges) e at

  -- the preferences so far
  abbrev pub with_preferences : List Pref → Net
  with_preferences front = record { nodes = net.nodes; consolidators = net.consolidators; links = net.links; preferences = put_all [] front; prefixes = net.prefixes; holds = []; hops = 128; scheme = Deflect }

  preference_step : (all : List Pref) → AllByRecursion (Given net) all → (front : List Pref) (x : Pref) (back : List Pref) (e : List Line) → front ++ x ∷ back ≡ all → At (with_preferences front) e → InRange (pref_line x) × IsTrue (allowed Run e (pref_line x)) × At (with_preferences (front ++ x ∷ [])) (pref_line x ∷ e)
  preference_step all given front x back e same at =
      let g = each_at (Given net) front x back (subst (AllByRecursion (Given net)) (sym same) given) in
      let ends = linked_nodes net x.a x.b valid g.joined in
      let other = differs net valid x.a x.b g.joined in
      declared_next (declares.Pref x.a x.b x.value) (with_preferences front) (with_preferences (front ++ x ∷ [])) e at (is_number x.a ends.0, is_number x.b ends.1, g.small)
      (ap fault_from (pref_taken (with_preferences front) x.a x.b ends.0 ends.1 other g.joined))
      (ap (λ ps. record { nodes = net.nodes; consolidators = net.consolidators; links = net.links; preferences = ps; prefixes = net.prefixes; holds = []; hops = 128; scheme = Deflect }) (put_next [] front x))

  pub preferences_come : (e : List Line) → At (with_preferences []) e → Reaches e (map pref_line (sorted_preferences net)) (At (with_preferences (sorted_preferences net)))
  preferences_come e at = section pref_line (λ front. At (with_preferences front)) (sorted_preferences net) (preference_step (sorted_preferences net) (sorted_given net valid)) e at

  -- the holds so far
  abbrev pub with_holds : List Hold → Net
  with_holds front = record { nodes = net.nodes; consolidators = net.consolidators; links = net.links; preferences = put_all [] (sorted_preferences net); prefixes = net.prefixes; holds = hold_all [] front; hops = 128; scheme = Deflect }

  hold_step : (all : List Hold) → AllByRecursion (Held net) all → (front : List Hold) (x : Hold) (back : List Hold) (e : List Line) → front ++ x ∷ back ≡ all → At (with_holds front) e → InRange (hold_line x) × IsTrue (allowed Run e (hold_line x)) × At (with_holds (front ++ x ∷ [])) (hold_line x ∷ e)
  hold_step all given front x back e same at =
      let g = each_at (Held net) front x back (subst (AllByRecursion (Held net)) (sym same) given) in
      let ends = linked_nodes net x.a x.b valid g.joined in
      let other = differs net valid x.a x.b g.joined in
      declared_next (declares.Hold x.a x.b) (with_holds front) (with_holds (front ++ x ∷ [])) e at (is_number x.a ends.0, is_number x.b ends.1)
      (ap fault_from (pref_taken (with_holds front) x.a x.b ends.0 ends.1 other g.joined))
      (ap (λ hs. record { nodes = net.nodes; consolidators = net.consolidators; links = net.links; preferences = put_all [] (sorted_preferences net); prefixes = net.prefixes; holds = hs; hops = 128; scheme = Deflect }) (hold_next [] front x))

  pub holds_come : (e : List Line) → At (with_holds []) e → Reaches e (map hold_line (sorted_holds net)) (At (with_holds (sorted_holds net)))
  holds_come e at = section hold_line (λ front. At (with_holds front)) (sorted_holds net) (hold_step (sorted_holds net) (sorted_held net)) e at

  -- hops and the scheme as they are
  abbrev pub with_packets : Net
  with_packets = record { nodes = net.nodes; consolidators = net.consolidators; links = net.links; preferences = put_all [] (sorted_preferences net); prefixes = net.prefixes; holds = hold_all [] (sorted_holds net); hops = net.hops; scheme = net.scheme }

  -- the hop limit is set, the scheme is not yet
  abbrev with_moves : Net
  with_moves = record { nodes = net.nodes; consolidators = net.consolidators; links = net.links; preferences = put_all [] (sorted_preferences net); prefixes = net.prefixes; holds = hold_all [] (sorted_holds net); hops = net.hops; scheme = Deflect }

  scheme_number : (scheme : Scheme) → Leads net.nodes scheme → SchemeInRange scheme
  scheme_number Deflect leads = tt
  scheme_number (Detour n) leads = is_number n leads
  scheme_number Backup leads = tt

  pub packets_come : (e : List Line) → At (with_holds (sorted_holds net)) e → Reaches e (packet_lines net) (At with_packets)
  packets_come e at =
      let moves = declared_next (declares.Hops net.hops) (with_holds (sorted_holds net)) with_moves e at (omega (arith, valid.few_hops)) refl refl in
      let last = declared_next (declares.Transient net.scheme) with_moves with_packets (Declares (declares.Hops net.hops) ∷ e) moves.2 (scheme_number net.scheme valid.scheme_fits) (ap fault_from (scheme_taken with_moves net.scheme valid.scheme_fits)) refl in
      record { comes = (moves.0, moves.1, (last.0, last.1, tt)); there = last.2 }
