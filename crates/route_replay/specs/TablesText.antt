-- The text of tables: for each node a line for each prefix.
use Rattle.std.specs.Prelude.{ℕ, ◌==◌, Option, Some, None, List, [], ◌∷◌, map, filter, find, reverse}
use Rattle.std.specs.List.{flat_map, enumerate_from}
use Rattle.topology.specs.declared.prefixes.Prefix.{Prefix}
use Rattle.topology.specs.Lists.{ascending}
use Rattle.topology.specs.Net.{Net}
use Rattle.chronicle.specs.Facts.{Chronicle}
use Rattle.chronicle.specs.Publications.{Publication, path_in, published}
use Rattle.run_record.specs.Publications.{all_published, PublicationView}
use Rattle.view_words.specs.Tables.{table_line, unpublished_line}

-- the lines of one node: of its table, prefix by prefix in file order, where it has published one
abbrev pub table_lines : Net → ℕ → ℕ → Option Publication → List (List ℕ)
table_lines net u e None = unpublished_line u e ∷ []
table_lines net u e (Some t) = map (λ (p : ℕ × Prefix). table_line u e p.1 (path_in p.0 t)) (enumerate_from 0 net.prefixes)

-- the text of them
abbrev pub table_text : Net → ℕ → ℕ → Option Publication → List ℕ
table_text net u e t = flat_map (λ line. line) (table_lines net u e t)

-- the tables of all nodes, ascending
unfoldable pub tables_text : Net → Chronicle → ℕ → List ℕ
tables_text net past e = flat_map (λ u. table_text net u e (published u e past)) (ascending net.nodes)

-- ---- what was published, as a world tells it

-- what was published for an epoch, the oldest first
abbrev pub published_for : ℕ → Chronicle → List PublicationView
published_for e past = filter (λ (p : PublicationView). p.epoch == e) (all_published past)

-- what the node published last of these
abbrev pub last_of : ℕ → List PublicationView → Option PublicationView
last_of u list = find (λ (p : PublicationView). p.node == u) (reverse list)

-- the table of a publication
abbrev pub table_in : PublicationView → Publication
table_in p = record { epoch = p.epoch; value = p.value; paths = p.paths }
