-- Reports and tables as frames have them.
use Rattle.std.proofs.Common.{ℕ, ◌+◌, ◌≤◌, ◌<◌, true, false, ◌&&◌, ◌==◌, Option, Some, None, List, [], ◌∷◌, ◌++◌, ◌≡◌, ◌↔◌, map, length, take, drop, get_or, refl, sym, ap, ap₂, ◌∙◌, subst, arith, slice_get, option_map, option_and_then, IfSome, IsSome}
use Rattle.std.specs.List.{list_all}
use Rattle.std.proofs.lemmas.Option.{slice_get_within, slice_get-get_or, get_or_from_slice_get}
use Rattle.std.proofs.lemmas.List.{take_more, take_all, map-append}
use Rattle.std.proofs.lemmas.List.Folds.{list_all_at}
use Rattle.topology.specs.Paths.{differ, IsPath}
use Rattle.topology.specs.Net.{Net}
use Rattle.topology.specs.declared.names.Trigger.{Trigger}
use Rattle.topology.specs.declared.items.Sent.{Sent}
use Rattle.topology.specs.declared.items.Pending.{Pending}
use Rattle.topology.specs.Triggers.{Ascend}
use Rattle.topology.proofs.Unions.{union_rest}
use Rattle.topology.proofs.Tests.{and_left, and_right, same_is}
use Rattle.incomplete_closure.specs.declared.cut_rows.Row.{Row as TheRow}
use Rattle.incomplete_closure.specs.declared.session_rows.SessionRow.{SessionRow as TheSessionRow}
use Rattle.incomplete_closure.specs.declared.reports.Report.{Report as TheReport}
use Rattle.incomplete_closure.specs.Seen.{row_seen, session_seen, report_seen}
use Rattle.node_core.specs.Fits.{begins_with, path_fits}
use Rattle.message_fitting.specs.Names.{are_nodes}
use Rattle.admission_laws.specs.Handing.{table_fits}
use Rattle.route_node.specs.Frames.{first_of, list_told, item_told, row_told, session_told, pending_told, report_told}

-- ---- the list that a frame has of an ascending list is that list

pub list_is : (ts : List Trigger) → Ascend ts → list_told ts ≡ ts
list_is ts rises = union_rest ts rises

-- the item, the row and the pending row with another list
abbrev item_with : Sent → List Trigger → Sent
item_with i ts = record { to = i.to; session = i.session; seq = i.seq; triggers = ts }

abbrev row_with : TheRow → List Trigger → List Sent → TheRow
row_with r ts items = record { triggers = ts; scope = r.scope; sent = items }

abbrev pending_with : Pending → List Trigger → Pending
pending_with p ts = record { to = p.to; prefix = p.prefix; session = p.session; triggers = ts }

pub item_is : (i : Sent) → Ascend i.triggers → item_told i ≡ i
item_is i rises = ap (item_with i) (list_is i.triggers rises)

pub row_is : (r : TheRow) → Ascend r.triggers → map item_told r.sent ≡ r.sent → r ≡ row_told (row_seen r)
row_is r rises items = ap₂ (row_with r) (sym (list_is r.triggers rises)) (sym items)

pub pending_is : (p : Pending) → Ascend p.triggers → p ≡ pending_told p
pending_is p rises = ap (pending_with p) (sym (list_is p.triggers rises))

-- those from one place on are told as they are, if those behind that place are
pub left_told : (items : List Sent) (i : ℕ) (x : Sent) → drop i items ≡ x ∷ drop (i + 1) items → Ascend x.triggers → (map item_told (drop i items) ≡ drop i items → map item_told items ≡ items)
    → map item_told (drop (i + 1) items) ≡ drop (i + 1) items → map item_told items ≡ items
left_told items i x here rises so_far left =
    so_far (ap (map item_told) here ∙ (ap₂ (λ (y : Sent) (l : List Sent). y ∷ l) (item_is x rises) left ∙ sym here))

-- one more copy
pub copies_more : {A B : Type 0} (told : A → B) (all : List A) (i : ℕ) (x : A) (copy : B) (list more : List B) → i < length all → x ≡ get_or all i x → copy ≡ told x → list ≡ map told (take i all) → more ≡ list ++ copy ∷ []
    → more ≡ map told (take (i + 1) all)
copies_more told all i x copy list more inside at is so_far e =
    let longer = take_more all i x inside ∙ ap (λ y. take i all ++ y ∷ []) (sym at) in
    e ∙ (ap₂ (λ l y. l ++ y ∷ []) so_far is ∙ (sym (map-append told (take i all) (x ∷ [])) ∙ sym (ap (map told) longer)))

down_back : (d : Option Trigger) → option_map first_of (option_map (λ (t : Trigger). t ∷ []) d) ≡ d
down_back None = refl
down_back (Some t) = refl

-- the session row with another Down
abbrev session_with : TheSessionRow → Option Trigger → TheSessionRow
session_with r down = record { nbr = r.nbr; session = r.session; received = r.received; down = down }

pub sessions_back : (rows : List TheSessionRow) → map session_told (map session_seen rows) ≡ rows
sessions_back [] = refl
sessions_back (r ∷ rows) =
    let here : session_told (session_seen r) ≡ r = ap (session_with r) (down_back r.down) in
    ap₂ (λ x l. x ∷ l) here (sessions_back rows)

twice : {A B C : Type 0} (f : A → B) (g : B → C) (xs : List A) → map (λ x. g (f x)) xs ≡ map g (map f xs)
twice f g [] = refl
twice {A} {B} {C} f g (x ∷ xs) = ap (λ (l : List C). g (f x) ∷ l) (twice f g xs)

-- the report with other lists
abbrev report_with : TheReport → List TheRow → List TheSessionRow → List Pending → TheReport
report_with r rows sessions pending = record { node = r.node; epoch = r.epoch; rows = rows; sessions = sessions; pending = pending }

-- copies of the lists of a report give the report that a frame has
pub report_is : (r : TheReport) (rows : List TheRow) (sessions : List TheSessionRow) (pending : List Pending) → rows ≡ map (λ x. row_told (row_seen x)) r.rows → sessions ≡ r.sessions → pending ≡ map pending_told r.pending
    → report_with r rows sessions pending ≡ report_told (report_seen r)
report_is r rows sessions pending first second third =
    ap₂ (λ (a : List TheRow) (b : List TheSessionRow). report_with r a b pending) (first ∙ twice row_seen row_told r.rows) (second ∙ sym (sessions_back r.sessions))
    ∙ ap (λ (c : List Pending). report_with r (map row_told (map row_seen r.rows)) (map session_told (map session_seen r.sessions)) c) third

-- ---- the paths of a table

-- the path at a place fits, if there is one
fits_at : (net : Net) (u i : ℕ) (paths : List (Option (List ℕ))) (o : Option (Option (List ℕ))) (path : List ℕ) → list_all (path_fits net u) paths ≡ true
    → slice_get paths i ≡ o → Some path ≡ option_and_then (λ p. p) o → path_fits net u (Some path) ≡ true
fits_at net u i paths None path all at is = absurd (cc is)
fits_at net u i paths (Some None) path all at is = absurd (cc is)
fits_at net u i paths (Some (Some other)) path all at is =
    let there = get_or_from_slice_get paths i (Some other) None at ∙ sym is in
    (elim (path_fits net u (get_or paths i None)) as (λ b. path_fits net u (get_or paths i None) ≡ b → path_fits net u (Some path) ≡ true) [
      | true ↦ λ e. subst (λ (o : Option (List ℕ)). path_fits net u o ≡ true) there e
      | false ↦ λ e. absurd (cc (list_all_at (path_fits net u) paths i None (slice_get_within paths i (Some other) at) e, all))
    ]) refl

-- such a path is built again from its nodes
path_made : (net : Net) (u : ℕ) (path : List ℕ) (made : Option (List ℕ)) → path_fits net u (Some path) ≡ true → IfSome made (λ p. p ≡ path) → (IsSome made ↔ IsPath path) → made ≡ Some path
path_made net u [] made fit some is_path = absurd (cc fit)
path_made net u (n ∷ ns) None fit some is_path =
    let different = and_left (differ (n ∷ ns)) (are_nodes net (n ∷ ns)) (and_right (begins_with u (n ∷ ns)) (differ (n ∷ ns) && are_nodes net (n ∷ ns)) fit) in
    let never : false ≡ true = is_path.1 (record { some = omega arith; different = different }) in absurd (cc never)
path_made net u (n ∷ ns) (Some p) fit some is_path = ap (λ (l : List ℕ). Some l) some

pub path_copied : (net : Net) (u i : ℕ) (paths : List (Option (List ℕ))) (path copy : List ℕ) (made : Option (List ℕ)) → list_all (path_fits net u) paths ≡ true
    → Some path ≡ option_and_then (λ p. p) (slice_get paths i) → copy ≡ path → IfSome made (λ p. p ≡ copy) → (IsSome made ↔ IsPath copy)
    → made ≡ option_and_then (λ p. p) (slice_get paths i)
path_copied net u i paths path copy made all is same some is_path =
    let fit = fits_at net u i paths (slice_get paths i) path all refl is in
    path_made net u path made fit (subst (λ l. IfSome made (λ p. p ≡ l)) same some) (subst (λ l. IsSome made ↔ IsPath l) same is_path) ∙ is

-- one more path
pub paths_more : (net : Net) (u i : ℕ) (paths list more : List (Option (List ℕ))) (path : Option (List ℕ)) → table_fits net u paths ≡ true → i < length net.prefixes
    → list ≡ take i paths → ((net : Net) (u : ℕ) → list_all (path_fits net u) paths ≡ true → path ≡ option_and_then (λ p. p) (slice_get paths i))
    → more ≡ list ++ path ∷ [] → more ≡ take (i + 1) paths
paths_more net u i paths list more path fit inside so_far is e =
    let count = same_is (length paths) (length net.prefixes) (and_left (length paths == length net.prefixes) (list_all (path_fits net u) paths) fit) in
    let within : i < length paths = omega (arith, count, inside) in
    let path_is : path ≡ get_or paths i None =
    is net u (and_right (length paths == length net.prefixes) (list_all (path_fits net u) paths) fit) ∙ ap (option_and_then (λ (p : Option (List ℕ)). p)) (slice_get-get_or paths i None within) in
    e ∙ (ap₂ (λ l x. l ++ x ∷ []) so_far path_is ∙ sym (take_more paths i None within))

-- all of them
pub paths_all : (net : Net) (u i : ℕ) (paths list : List (Option (List ℕ))) → table_fits net u paths ≡ true → length net.prefixes ≤ i → list ≡ take i paths → list ≡ paths
paths_all net u i paths list fit past so_far =
    let count = same_is (length paths) (length net.prefixes) (and_left (length paths == length net.prefixes) (list_all (path_fits net u) paths) fit) in
    so_far ∙ take_all i paths (omega (arith, count, past))
