-- What a routing state returns, computed from what it stores.
use Rattle.std.proofs.Common.{◌≡◌, ℕ, ◌<◌, Bool, true, false, cond, List, [], ◌∷◌, length, refl, sym, ap, ◌∙◌, subst, Option, Some, None, option_map, fold, ⊎_elim}
use Rattle.std.specs.Prelude.{if◌then◌else◌}
use Rattle.std.specs.List.{AllByRecursion}
use Rattle.topology.specs.Lists.{has, Among}
use Rattle.topology.specs.declared.links.Relation.{Relation}
use Rattle.topology.specs.Net.{Net, neighbours, relation}
use Rattle.path_vector.specs.declared.neighbours.Neighbour.{Neighbour}
use Rattle.path_vector.specs.declared.policy.Ranked.{Ranked}
use Rattle.path_vector.specs.declared.policy.Learned.{Learned}
use Rattle.path_vector.specs.declared.policy.Learned.TheVariants.{Own, From}
use Rattle.path_vector.specs.declared.state.RouteState.{RouteState}
use Rattle.path_vector.specs.Rules.{Rules}
use Rattle.path_vector.specs.History.{History, owns}
use Rattle.path_vector.specs.Selection.{Choice, Route, Nowhere, Home, candidate, beyond, choice, consider, first, best, best_by, path_of}
use Rattle.path_vector.specs.Offers.{learned, may_tell, exported, offered_route}
use Rattle.path_vector.specs.Standing.{Remembers, StandsFor}
use Rattle.path_vector.specs.Kept.{Keeps, Rises, ids, kept_path, kept_choice, first_kept}
use Rattle.path_vector.specs.Taken.{Takes}
use Rattle.path_vector.proofs.Listing.{keeps_rise}

pub keeps_of : {P : Type 0} (policy : P) (net : Net) (u : ℕ) (state : RouteState P) (h : History) → StandsFor policy net u state h → Keeps net u h state.neighbours.items
keeps_of policy net u state h s = record { valid = s.valid; same = s.ids; each = s.each }

pub among_all : {X : Type 0} (P : X → Type 0) (xs : List X) (x : X) → AllByRecursion P xs → Among x xs → P x
among_all P [] x all a = absurd a
among_all P (y ∷ ys) x all a = ⊎_elim (λ (e : y ≡ x). subst P e all.0) (λ (later : Among x ys). among_all P ys x all.1 later) a

-- a neighbour has an element in the list
pub is_kept : (net : Net) (u : ℕ) (h : History) (ns : List Neighbour) (v : ℕ) → Keeps net u h ns → (Rises (ids ns) → has (ids ns) v ≡ false) → has (neighbours net u) v ≡ true → ⊥
is_kept net u h ns v k off there =
    let none : has (neighbours net u) v ≡ false = subst (λ vs. has vs v ≡ false) k.same (off (keeps_rise net u h ns k)) in
    cc (sym there ∙ none)

-- the stored candidate of a neighbour is its candidate
pub kept_is : (net : Net) (u : ℕ) (h : History) (p : ℕ) (n : Neighbour) → Remembers net u h n → p < length net.prefixes → kept_path p n ≡ candidate u h p n.id
kept_is net u h p n r below = rw (r.told p below) refl

-- a candidate begins with u
pub begins : (u : ℕ) (h : History) (p v : ℕ) (path : List ℕ) → Some path ≡ candidate u h p v → (rest : List ℕ) × (path ≡ u ∷ rest)
begins u h p v path e = by_rest (beyond u h p v) e
  where
    by_rest : (o : Option (List ℕ)) → Some path ≡ option_map (λ path. u ∷ path) o → (rest : List ℕ) × (path ≡ u ∷ rest)
    by_rest None e = absurd (cc e)
    by_rest (Some rest) e = (rest, cc e)

-- the path after the first node, with u in front
pub shown_after : (u : ℕ) (rest path : List ℕ) → (node : ℕ) × (path ≡ node ∷ rest) → (later : List ℕ) × (path ≡ u ∷ later) → u ∷ rest ≡ path
shown_after u rest path (node, is) (later, own) =
    let first : u ≡ node = cc (sym own ∙ is) in
    rw first (sym is)

-- the first stored candidate is the first of the choices
pub each_choice : (net : Net) (u : ℕ) (h : History) (p : ℕ) (n : Neighbour) → Remembers net u h n → p < length net.prefixes → kept_choice p n ≡ choice net u h p n.id
each_choice net u h p n r below = rw (kept_is net u h p n r below, r.prefers) refl

folds : (before : Ranked → Ranked → Bool) (net : Net) (u : ℕ) (h : History) (p : ℕ) (found : Option Choice) (ns : List Neighbour) → AllByRecursion (Remembers net u h) ns → p < length net.prefixes
    → fold (λ found n. consider before found (kept_choice p n)) found ns ≡ fold (λ found v. consider before found (choice net u h p v)) found (ids ns)
folds before net u h p found [] all below = refl
folds before net u h p found (n ∷ ns) all below =
    folds before net u h p (consider before found (kept_choice p n)) ns all.1 below
    ∙ ap (λ c. fold (λ found v. consider before found (choice net u h p v)) (consider before found c) (ids ns)) (each_choice net u h p n all.0 below)

pub first_is : (before : Ranked → Ranked → Bool) (net : Net) (u : ℕ) (h : History) (p : ℕ) (ns : List Neighbour) → Keeps net u h ns → p < length net.prefixes
    → first_kept before p ns ≡ first before (choice net u h p) (neighbours net u)
first_is before net u h p ns k below = folds before net u h p None ns k.each below ∙ ap (first before (choice net u h p)) k.same

-- the best route, from ownership and the first choice
pub own_best : (rules : Rules) (net : Net) (u : ℕ) (h : History) (p : ℕ) → owns h p ≡ true → best rules net u h p ≡ Home
unfolding best
own_best rules net u h p own = rw own refl

pub best_is : (rules : Rules) (net : Net) (u : ℕ) (h : History) (p : ℕ) (ns : List Neighbour) (c : Option Choice) → Keeps net u h ns → p < length net.prefixes → owns h p ≡ false
    → c ≡ first_kept rules.before p ns → best rules net u h p ≡ best_by false c
unfolding best
best_is rules net u h p ns c k below own e = rw (own, sym (first_is rules.before net u h p ns k below), sym e) refl

pub takes_own : (rules : Rules) (net : Net) (u : ℕ) (h : History) (p : ℕ) → owns h p ≡ true → Takes net u None Own (u ∷ []) (best rules net u h p)
takes_own rules net u h p own = subst (Takes net u None Own (u ∷ [])) (sym (own_best rules net u h p own)) (record { by = refl; learnt = refl; is = refl; own = ([], refl) })

pub takes_first : (rules : Rules) (net : Net) (u : ℕ) (h : History) (p : ℕ) (ns : List Neighbour) (n : Neighbour) (path : List ℕ) → Keeps net u h ns → p < length net.prefixes → owns h p ≡ false
    → Among n ns → kept_choice p n ≡ first_kept rules.before p ns → Some path ≡ kept_path p n → Takes net u (Some n.id) (From n.relation) path (best rules net u h p)
takes_first rules net u h p ns n path k below own among first_one is =
    let r : Remembers net u h n = among_all (Remembers net u h) ns n k.each among in
    let c : Choice = record { nbr = n.id; preference = n.preference; path = path } in
    let kept : Some c ≡ kept_choice p n = ap (option_map (λ path. record { nbr = n.id; preference = n.preference; path = path })) is in
    subst (Takes net u (Some n.id) (From n.relation) path) (sym (best_is rules net u h p ns (Some c) k below own (kept ∙ first_one)))
    (record { by = refl; learnt = rw r.relates refl; is = refl; own = begins u h p n.id path (is ∙ kept_is net u h p n r below) })

pub none_first : (rules : Rules) (net : Net) (u : ℕ) (h : History) (p : ℕ) (ns : List Neighbour) → Keeps net u h ns → p < length net.prefixes → owns h p ≡ false → None ≡ first_kept rules.before p ns → best rules net u h p ≡ Nowhere
none_first rules net u h p ns k below own e = best_is rules net u h p ns None k below own e

pub no_path : (rules : Rules) (net : Net) (u : ℕ) (h : History) (p : ℕ) (ns : List Neighbour) (n : Neighbour) → Keeps net u h ns → p < length net.prefixes → owns h p ≡ false
    → kept_choice p n ≡ first_kept rules.before p ns → None ≡ kept_path p n → best rules net u h p ≡ Nowhere
no_path rules net u h p ns n k below own first_one is =
    none_first rules net u h p ns k below own (ap (option_map (λ path. record { nbr = n.id; preference = n.preference; path = path })) is ∙ first_one)

-- export of a route that was taken
pub exported_is : (rules : Rules) (net : Net) (u w : ℕ) (via : Option ℕ) (learned_so : Learned) (path : List ℕ) (route : Route) (to : Option Relation) → Takes net u via learned_so path route → to ≡ relation net u w
    → exported rules net u w route ≡ (if may_tell rules (Some learned_so) to then route else Nowhere)
exported_is rules net u w via learned_so path route to t is = rw (sym t.learnt, is) refl

-- the offer of a route that was taken
pub not_offered : (rules : Rules) (net : Net) (u : ℕ) (h : History) (p w : ℕ) (via : Option ℕ) (learned_so : Learned) (path : List ℕ) (to : Option Relation)
    → Takes net u via learned_so path (best rules net u h p) → to ≡ relation net u w → false ≡ may_tell rules (Some learned_so) to → offered_route rules net u h p w ≡ Nowhere
unfolding offered_route
not_offered rules net u h p w via learned_so path to t is no_telling = rw (exported_is rules net u w via learned_so path (best rules net u h p) to t is, sym no_telling) refl

pub is_offered : (rules : Rules) (net : Net) (u : ℕ) (h : History) (p w : ℕ) (via : Option ℕ) (learned_so : Learned) (path : List ℕ) (to : Option Relation)
    → Takes net u via learned_so path (best rules net u h p) → to ≡ relation net u w → true ≡ may_tell rules (Some learned_so) to → offered_route rules net u h p w ≡ best rules net u h p
unfolding offered_route
is_offered rules net u h p w via learned_so path to t is telling = rw (exported_is rules net u w via learned_so path (best rules net u h p) to t is, sym telling) refl

pub nothing_offered : (rules : Rules) (net : Net) (u : ℕ) (h : History) (p w : ℕ) → best rules net u h p ≡ Nowhere → offered_route rules net u h p w ≡ Nowhere
unfolding offered_route
nothing_offered rules net u h p w e = rw e refl

-- the offer of a route that was copied
pub copy_exported : (rules : Rules) (net : Net) (u w : ℕ) (route : Route) (learned_so : Option Learned) (path : Option (List ℕ)) (to : Option Relation) → learned_so ≡ learned net u route → path ≡ path_of u route → to ≡ relation net u w
    → path_of u (exported rules net u w route) ≡ (if may_tell rules learned_so to then path else None)
copy_exported rules net u w route learned_so path to learnt is rel =
    rw (learnt, is, rel) (elim (may_tell rules (learned net u route) (relation net u w)) as (λ b. path_of u (cond b route Nowhere) ≡ cond b (path_of u route) None) [ true ↦ refl | false ↦ refl ])

pub choose_none : {b : Bool} (path : Option (List ℕ)) → false ≡ b → (if b then path else None) ≡ None
choose_none path e = rw (sym e) refl

pub choose_path : {b : Bool} (path : Option (List ℕ)) → true ≡ b → (if b then path else None) ≡ path
choose_path path e = rw (sym e) refl
