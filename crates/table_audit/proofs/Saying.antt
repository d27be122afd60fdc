-- What the words of a line say, read word by word.
use Rattle.std.proofs.Common.{◌≡◌, ℕ, suc, ◌+◌, ◌≤◌, Bool, true, false, ◌&&◌, Option, Some, None, List, [], ◌∷◌, ◌++◌, length, map, refl, sym, ap, ◌∙◌, subst, arith, append_assoc, length-append}
use Rattle.std.specs.Prelude.{nat_lt, nat_le, codes, bytes_eq, drop, if◌then◌else◌}
use Rattle.std.specs.List.{list_all}
use Rattle.std.specs.Fmt.{digits}
use Rattle.std.proofs.lemmas.Bool.Decides.{nat_tests}
use Rattle.std.proofs.lemmas.List.{append-nil}
use Rattle.text_lines.specs.Lines.{left_of}
use Rattle.text_lines.specs.Words.{words_of}
use Rattle.text_lines.specs.Readings.{Reading, lines_left}
use Rattle.schedule_file.specs.Table.{spells_field}
use Rattle.schedule_file.specs.Table.Field.{NodeNumber, EpochNumber, Masked}
use Rattle.schedule_file.specs.Words.{number_of, prefix_of, spells_number, word_at}
use Rattle.table_audit.specs.declared.lines.Says.{Says}
use Rattle.table_audit.specs.declared.lines.Says.TheVariants.{Nothing, Row, Misspelled}
use Rattle.topology.specs.declared.limits.TheConstants.{MOST_NODES}
use Rattle.table_audit.specs.Tables.{before_colon, is_empty, is_unpublished, path_in, first_misspelled, first_misspelled_from, row_by, row_for, rows_from, rows_of, says, spells_epoch}
use Rattle.table_audit.specs.declared.rows.AuditRow.{AuditRow}
use Rattle.table_audit.specs.Reading.{nodes_behind}

-- ---- paths

-- nodes and words come to this path
abbrev path_by : List ℕ → List (List ℕ) → Option (List ℕ)
path_by nodes words =
    if list_all (spells_field NodeNumber) words && nat_le (length nodes + length words) MOST_NODES then Some (nodes ++ map number_of words) else None

no_more : (n m : ℕ) → nat_lt n MOST_NODES ≡ false → nat_le (n + suc m) MOST_NODES ≡ false
no_more n m h = grind (arith, nat_tests)

one_node : (n : ℕ) → nat_lt n MOST_NODES ≡ true → nat_le (n + 1) MOST_NODES ≡ true
one_node n h = grind (arith, nat_tests)

and_false : (b : Bool) → (b && false) ≡ false
and_false true = refl
and_false false = refl

pub nodes_by : (nodes : List ℕ) (words : List (List ℕ)) → nat_le (length nodes) MOST_NODES ≡ true → nodes_behind nodes words ≡ path_by nodes words
nodes_by nodes [] few =
    let none : length nodes + 0 ≡ length nodes = omega arith in
    rw (none, few, append-nil nodes) refl
nodes_by nodes (word ∷ words) few =
    elim (spells_field NodeNumber word) as (λ s. (if s && nat_lt (length nodes) MOST_NODES then nodes_behind (nodes ++ number_of word ∷ []) words else None)
    ≡ (if (s && list_all (spells_field NodeNumber) words) && nat_le (length nodes + suc (length words)) MOST_NODES then Some (nodes ++ number_of word ∷ map number_of words) else None)) [
      | false ↦ refl
      | true ↦ (elim (nat_lt (length nodes) MOST_NODES) as (λ t. nat_lt (length nodes) MOST_NODES ≡ t → (if t then nodes_behind (nodes ++ number_of word ∷ []) words else None)
          ≡ (if list_all (spells_field NodeNumber) words && nat_le (length nodes + suc (length words)) MOST_NODES then Some (nodes ++ number_of word ∷ map number_of words) else None)) [
            | false ↦ λ full. rw (no_more (length nodes) (length words) full, and_false (list_all (spells_field NodeNumber) words)) refl
            | true ↦ λ room.
                let longer : length (nodes ++ number_of word ∷ []) ≡ length nodes + 1 = length-append nodes (number_of word ∷ []) in
                let more = nodes_by (nodes ++ number_of word ∷ []) words (ap (λ n. nat_le n MOST_NODES) longer ∙ one_node (length nodes) room) in
                let sum : length nodes + 1 + length words ≡ length nodes + suc (length words) = omega arith in
                more ∙ rw (longer, sum, append_assoc nodes (number_of word ∷ []) (map number_of words)) refl
          ]) refl
    ]

-- a path that begins with a node
pub path_of_nodes : (word : List ℕ) (words : List (List ℕ)) → bytes_eq word (codes "none") ≡ false → spells_field NodeNumber word ≡ true
    → nodes_behind (number_of word ∷ []) words ≡ path_in (word ∷ words)
path_of_nodes word words other spelled =
    let one : 1 + length words ≡ suc (length words) = omega arith in
    nodes_by (number_of word ∷ []) words refl ∙ rw (other, spelled, one) refl

-- the same for the first word, which is empty if there is none
pub path_read : (ws : List (List ℕ)) (first : List ℕ) (rest : List (List ℕ)) (node : ℕ) (path : Option (List ℕ)) → first ≡ word_at 0 ws → rest ≡ drop 1 ws → bytes_eq first (codes "none") ≡ false
    → spells_field NodeNumber first ≡ true → node ≡ number_of first → path ≡ nodes_behind (node ∷ []) rest → path ≡ path_in ws
unfolding spells_number digits
path_read [] first rest node path is behind other spelled number read =
    let none : spells_field NodeNumber [] ≡ true = subst (λ w. spells_field NodeNumber w ≡ true) is spelled in absurd (cc none)
path_read (w ∷ ws) first rest node path is behind other spelled number read =
    read ∙ (rw (number, behind, is) (path_of_nodes w ws (subst (λ v. bytes_eq v (codes "none") ≡ false) is other) (subst (λ v. spells_field NodeNumber v ≡ true) is spelled)))

-- ---- lines

-- the same for the first four words, each empty if missing, and the words after them
abbrev pub says_by : (line : ℕ) → (first node epoch word : List ℕ) → List (List ℕ) → Says
says_by line first node epoch word words =
    if bytes_eq first (codes "table")
    then (if spells_field NodeNumber node
    then (if is_unpublished epoch word then (if is_empty words then Nothing else Misspelled)
    else if spells_field EpochNumber epoch then row_for line (number_of node) (number_of epoch) (before_colon word) words
    else Misspelled)
    else Misspelled)
    else Nothing

both_misspelled : (b : Bool) → Misspelled ≡ (if b then Misspelled else Misspelled)
both_misspelled true = refl
both_misspelled false = refl

-- a line whose fourth word is not there
short_line : (a b : Bool) → Misspelled ≡ (if a && false then Nothing else if b then Misspelled else Misspelled)
short_line true b = both_misspelled b
short_line false b = both_misspelled b

pub says_words : (line : ℕ) (words : List (List ℕ))
    → says line words ≡ says_by line (word_at 0 words) (word_at 0 (drop 1 words)) (word_at 0 (drop 1 (drop 1 words))) (word_at 0 (drop 1 (drop 1 (drop 1 words)))) (drop 1 (drop 1 (drop 1 (drop 1 words))))
unfolding spells_number digits
says_words line [] = refl
says_words line (first ∷ []) = refl
says_words line (first ∷ node ∷ []) =
    elim (spells_field NodeNumber node) as (λ t. (if bytes_eq first (codes "table") then Misspelled else Nothing) ≡ (if bytes_eq first (codes "table") then (if t then Misspelled else Misspelled) else Nothing)) [
      | true ↦ refl
      | false ↦ refl
    ]
says_words line (first ∷ node ∷ epoch ∷ []) =
    elim (spells_field NodeNumber node) as (λ t. (if bytes_eq first (codes "table") then Misspelled else Nothing)
    ≡ (if bytes_eq first (codes "table") then (if t then (if spells_epoch (before_colon epoch) && false then Nothing else if spells_field EpochNumber epoch then Misspelled else Misspelled) else Misspelled) else Nothing)) [
      | true ↦ ap (λ z. if bytes_eq first (codes "table") then z else Nothing) (short_line (spells_epoch (before_colon epoch)) (spells_field EpochNumber epoch))
      | false ↦ refl
    ]
says_words line (first ∷ node ∷ epoch ∷ word ∷ words) = refl

-- the words of a line as they are read: the first four, and what is left after each
pub record AreRead (words : List (List ℕ)) (first node epoch word : List ℕ) (rest : List (List ℕ)) : Type 0 where
  pub behind_first : List (List ℕ)
  pub behind_node : List (List ℕ)
  pub behind_epoch : List (List ℕ)
  pub one : first ≡ word_at 0 words
  pub two : node ≡ word_at 0 behind_first
  pub three : epoch ≡ word_at 0 behind_node
  pub four : word ≡ word_at 0 behind_epoch
  pub left_one : behind_first ≡ drop 1 words
  pub left_two : behind_node ≡ drop 1 behind_first
  pub left_three : behind_epoch ≡ drop 1 behind_node
  pub left_four : rest ≡ drop 1 behind_epoch

says_read : (line : ℕ) (words : List (List ℕ)) (first node epoch word : List ℕ) (rest : List (List ℕ)) → AreRead words first node epoch word rest → says_by line first node epoch word rest ≡ says line words
says_read line words first node epoch word rest r =
    rw (r.left_four, r.four, r.left_three, r.three, r.left_two, r.two, r.left_one, r.one) (sym (says_words line words))

-- a row
pub row_read : (line : ℕ) (words : List (List ℕ)) (first node epoch word : List ℕ) (rest : List (List ℕ)) → AreRead words first node epoch word rest
    → bytes_eq first (codes "table") ≡ true → spells_field NodeNumber node ≡ true → is_unpublished epoch word ≡ false → spells_field EpochNumber epoch ≡ true
    → (front : List ℕ) → before_colon word ≡ Some front → spells_field Masked front ≡ true → (path : List ℕ) → path_in rest ≡ Some path
    → Row (record { line = line; node = number_of node; epoch = number_of epoch; prefix = prefix_of front; path = path }) ≡ says line words
row_read line words first node epoch word rest r table is_node published is_epoch front colon is_prefix path is_path =
    sym (sym (says_read line words first node epoch word rest r)
    ∙ rw (table, is_node, published, is_epoch) (ap (λ o. row_for line (number_of node) (number_of epoch) o rest) colon
    ∙ rw is_prefix (ap (λ o. row_by line (number_of node) (number_of epoch) (prefix_of front) o) is_path)))

-- at the start of the text
pub rows_start : (reading : Reading) (text : List ℕ) (rows : List AuditRow) → rows ≡ [] → reading ≡ record { text = text; given = 0 }
    → rows ++ rows_from (suc reading.given) (map (λ line. words_of (left_of line)) (lines_left reading)) ≡ rows_of text
unfolding rows_of
rows_start reading text rows none same = rw (none, same) refl

pub first_start : (reading : Reading) (text : List ℕ) → reading ≡ record { text = text; given = 0 }
    → first_misspelled_from (suc reading.given) (map (λ line. words_of (left_of line)) (lines_left reading)) ≡ first_misspelled text
unfolding first_misspelled
first_start reading text same = rw same refl
