-- The lines of a table, made of words that many lines have in common.
use Rattle.std.proofs.Common.{◌≡◌, ℕ, zero, suc, ◌+◌, ◌<◌, Option, Some, IfSome, List, [], ◌∷◌, ◌++◌, codes, length, get_or, sym, ap, ◌∙◌, subst, refl, slice_get, append_assoc, arith}
use Rattle.std.specs.List.{enumerate_from}
use Rattle.topology.specs.declared.prefixes.Prefix.{Prefix}
use Rattle.topology.specs.Net.{Net}
use Rattle.chronicle.specs.Publications.{Publication, path_in}
use Rattle.schedule_file.specs.Spelling.{prefix_text}
use Rattle.view_words.specs.Lines.{ended}
use Rattle.view_words.specs.Routes.{path_text}
use Rattle.view_words.specs.Tables.{prefix_name, table_head, table_line}
use Rattle.route_replay.specs.TablesText.{table_lines}
use Rattle.route_replay.proofs.Gathered.{enumerated, line_made, line_of_element}
use Rattle.route_replay.proofs.Shown.{length-table_lines}

-- what stands at a place
pub found_at : {X : Type 0} (xs : List X) (i : ℕ) → i < length xs → (x : X) × (slice_get xs i ≡ Some x)
found_at [] i inside = absurd (omega (arith, inside))
found_at (x ∷ xs) zero inside = (x, refl)
found_at (x ∷ xs) (suc i) inside = found_at xs i (omega (arith, inside))

-- what the lines of a node begin with, the words of a prefix and a path are a line
pub line_of : (u e : ℕ) (prefix : Prefix) (path : Option (List ℕ)) (head name : List ℕ) → head ≡ table_head u e → name ≡ prefix_name prefix
    → ended (head ++ name ++ path_text path) ≡ table_line u e prefix path
line_of u e prefix path head name begins named =
    let words = table_head u e in
    let whole : head ++ name ≡ words ++ codes " " ++ prefix_text prefix ++ codes ":" =
    ap (λ bytes. bytes ++ name) begins
    ∙ (ap (λ bytes. words ++ bytes) named
    ∙ (sym (append_assoc words (codes " " ++ prefix_text prefix) (codes ":"))
    ∙ ap (λ bytes. bytes ++ codes ":") (sym (append_assoc words (codes " ") (prefix_text prefix))))) in
    ap (λ bytes. ended (bytes ++ path_text path)) whole

-- the line at a place of a table, added to a text
pub line_added : (net : Net) (u e : ℕ) (t : Publication) (i : ℕ) (head name : List ℕ) (path : Option (List ℕ)) (before now : List ℕ) → i < length net.prefixes
    → head ≡ table_head u e → IfSome (slice_get net.prefixes i) (λ prefix. name ≡ prefix_name prefix) → path ≡ path_in i t
    → now ≡ before ++ ended (head ++ name ++ path_text path) → now ≡ before ++ get_or (table_lines net u e (Some t)) i []
line_added net u e t i head name path before now inside begins named there made =
    let found = found_at net.prefixes i inside in
    let prefix = found.0 in
    let its_name : name ≡ prefix_name prefix = subst (λ (o : Option Prefix). IfSome o (λ p. name ≡ prefix_name p)) found.1 named in
    let line = λ (p : ℕ × Prefix). table_line u e p.1 (path_in p.0 t) in
    let words : now ≡ before ++ line (i, prefix) =
    made ∙ ap (λ bytes. before ++ bytes) (line_of u e prefix path head name begins its_name ∙ ap (table_line u e prefix) there) in
    line_made (table_lines net u e (Some t)) i i before now (omega (arith, inside, length-table_lines net u e t)) refl
    (line_of_element line (enumerate_from 0 net.prefixes) i (i, prefix) before now (enumerated net.prefixes i prefix inside found.1) words)
