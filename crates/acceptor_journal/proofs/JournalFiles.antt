-- What files that a journal wrote read as.
use Rattle.std.proofs.Common.{ℕ, ◌+◌, ◌≤◌, ◌<◌, ◌^◌, ◌≡◌, ◌≢◌, ◌⊎◌, inl, inr, true, Option, Some, None, List, [], ◌∷◌, ◌++◌, length, take, drop, refl, sym, ap, ap₂, ◌∙◌, arith, append_assoc, length-append, length-drop}
use Rattle.std.specs.Int.{w32, to_be_bytes, from_be_bytes}
use Rattle.std.proofs.lemmas.List.{length-take, take_at, drop_at, take-take, take-append-le, drop-append-le, drop-take, take_all, append-nil}
use Rattle.std.proofs.lemmas.Nat.{from_be_bytes-to_be_bytes_4}
use Rattle.std.proofs.lemmas.Bool.{cases_eq}
use Rattle.std.proofs.lemmas.Bool.Decides.{nat_tests}
use Rattle.acceptor_journal.specs.Records.{length_in, is_whole, bytes_in, Back, body, place_behind, IsKept}
use Rattle.acceptor_journal.specs.JournalFiles.{Fronts, HoldsKept, IsClosed, IsBegun, IsStaged, IsJournalOf}
use Rattle.acceptor_journal.proofs.Records.{shut_ends, one_more}
use Rattle.acceptor_journal.proofs.Heads.{short_ends}

pub zero_ends : (rest : List ℕ) → Back (0 ∷ rest) ≡ []
zero_ends rest = shut_ends 0 rest refl

whole_from : (behind : List ℕ) → 4 + length_in behind < length behind → is_whole behind ≡ true
whole_from behind long = grind (arith, nat_tests)

-- ---- one record in front

-- a record reads the same whatever follows it
pub block_reads : (behind : List ℕ) (byte : ℕ) (rest : List ℕ) → 4 + length_in behind ≤ length behind
    → Back (1 ∷ (take (4 + length_in behind) behind ++ byte ∷ rest)) ≡ bytes_in behind ∷ Back (byte ∷ rest)
block_reads behind byte rest enough =
    let len = length_in behind in
    let block = take (4 + length_in behind) behind in
    let long : length block ≡ 4 + len = omega (arith, length-take (4 + length_in behind) behind, enough) in
    let head : take 4 (block ++ byte ∷ rest) ≡ take 4 behind = take-append-le 4 block (byte ∷ rest) (omega (arith, long)) ∙ take-take 4 (4 + length_in behind) behind (omega arith) in
    let same : length_in (block ++ byte ∷ rest) ≡ len = ap (from_be_bytes w32) head in
    let whole : is_whole (block ++ byte ∷ rest) ≡ true = whole_from (block ++ byte ∷ rest) (omega (arith, same, long, length-append block (byte ∷ rest))) in
    let four : 4 ≤ length block = omega (arith, long) in
    let cut : drop 4 block ≡ take len (drop 4 behind) = drop-take 4 len behind in
    let bytes : bytes_in (block ++ byte ∷ rest) ≡ bytes_in behind =
    ap (λ (n : ℕ). take n (drop 4 (block ++ byte ∷ rest))) same
    ∙ (ap (take len) (drop-append-le 4 block (byte ∷ rest) four) ∙ (take-append-le len (drop 4 block) (byte ∷ rest) (omega (arith, length-drop 4 block, long))
    ∙ (ap (take len) cut ∙ take-take len len (drop 4 behind) (omega arith)))) in
    let left : drop (4 + length_in (block ++ byte ∷ rest)) (block ++ byte ∷ rest) ≡ byte ∷ rest =
    ap (λ (n : ℕ). drop (4 + n) (block ++ byte ∷ rest)) same ∙ drop_at block (byte ∷ rest) (4 + len) long in
    one_more 1 (block ++ byte ∷ rest) refl whole ∙ ap₂ (λ (x l : List ℕ). x ∷ Back l) bytes left

length-body : (bytes : List ℕ) → length (body bytes) ≡ 4 + length bytes
length-body bytes = omega (arith, length-append (to_be_bytes w32 (length bytes)) bytes)

length_in-body : (bytes rest : List ℕ) → length bytes < 2 ^ 32 → length_in (body bytes ++ rest) ≡ length bytes
length_in-body bytes rest small = from_be_bytes-to_be_bytes_4 (length bytes) small

-- the record made from some bytes reads as these bytes
pub body_reads : (bytes : List ℕ) (byte : ℕ) (rest : List ℕ) → length bytes < 2 ^ 32 → Back (1 ∷ (body bytes ++ byte ∷ rest)) ≡ bytes ∷ Back (byte ∷ rest)
body_reads bytes byte rest small =
    let nil = append-nil (body bytes) in
    let len : length_in (body bytes) ≡ length bytes = sym (ap length_in nil) ∙ length_in-body bytes [] small in
    let all : take (4 + length_in (body bytes)) (body bytes) ≡ body bytes = take_all (4 + length_in (body bytes)) (body bytes) (omega (arith, len, length-body bytes)) in
    let same : bytes_in (body bytes) ≡ bytes = take_all (length_in (body bytes)) bytes (omega (arith, len)) in
    ap (λ (l : List ℕ). Back (1 ∷ (l ++ byte ∷ rest))) (sym all) ∙ (block_reads (body bytes) byte rest (omega (arith, len, length-body bytes)) ∙ ap (λ (l : List ℕ). l ∷ Back (byte ∷ rest)) same)

-- ---- records in front

pub fronts_none : Fronts [] []
fronts_none = record { long = refl; reads = λ byte rest. refl }

pub place_more : (records : List (List ℕ)) (bytes : List ℕ) → place_behind (records ++ bytes ∷ []) ≡ place_behind records + (5 + length bytes)
place_more [] bytes = omega arith
place_more (r ∷ records) bytes = let more = place_more records bytes in omega (arith, more)

pub fronts_more : (records : List (List ℕ)) (front bytes block : List ℕ) → Fronts records front → length block ≡ 4 + length bytes
    → ((byte : ℕ) (rest : List ℕ) → Back (1 ∷ (block ++ byte ∷ rest)) ≡ bytes ∷ Back (byte ∷ rest)) → Fronts (records ++ bytes ∷ []) (front ++ 1 ∷ block)
fronts_more records front bytes block f long reads = record {
  long = omega (arith, f.long, long, length-append front (1 ∷ block), place_more records bytes);
  reads = λ byte rest.
      ap Back (append_assoc front (1 ∷ block) (byte ∷ rest)) ∙ (f.reads 1 (block ++ byte ∷ rest)
      ∙ (ap (λ (l : List (List ℕ)). records ++ l) (reads byte rest) ∙ sym (append_assoc records (bytes ∷ []) (Back (byte ∷ rest)))));
}

pub fronts_body : (records : List (List ℕ)) (front bytes : List ℕ) → Fronts records front → length bytes < 2 ^ 32 → Fronts (records ++ bytes ∷ []) (front ++ 1 ∷ body bytes)
fronts_body records front bytes f small = fronts_more records front bytes (body bytes) f (length-body bytes) (λ byte rest. body_reads bytes byte rest small)

-- the records in front are determined by their length
pub same_parts : (file front rest other more : List ℕ) → file ≡ front ++ rest → file ≡ other ++ more → length front ≡ length other → (front ≡ other) × (rest ≡ more)
same_parts file front rest other more one two long = (
  sym (take_at front rest (length other) long) ∙ (ap (take (length other)) (sym one ∙ two) ∙ take_at other more (length other) refl),
  sym (drop_at front rest (length other) long) ∙ (ap (drop (length other)) (sym one ∙ two) ∙ drop_at other more (length other) refl),
)

-- ---- what is read back

pub closed_back : (records : List (List ℕ)) (file : List ℕ) → IsClosed records file → Back file ≡ records
closed_back records file c = ap Back c.is ∙ (c.fronts.reads 0 c.rest ∙ (ap (λ (l : List (List ℕ)). records ++ l) (zero_ends c.rest) ∙ append-nil records))

pub begun_back : (records : List (List ℕ)) (file : List ℕ) → IsBegun records file → Back file ≡ records
begun_back records file b = short_ends file (omega (arith, b.short)) ∙ sym b.none

pub opened_back : (records : List (List ℕ)) (bytes front rest : List ℕ) → Fronts records front → length bytes < 2 ^ 32 → Back (front ++ 1 ∷ (body bytes ++ 0 ∷ rest)) ≡ records ++ bytes ∷ []
opened_back records bytes front rest f small =
    f.reads 1 (body bytes ++ 0 ∷ rest) ∙ ap (λ (l : List (List ℕ)). records ++ l) (body_reads bytes 0 rest small ∙ ap (λ (l : List (List ℕ)). bytes ∷ l) (zero_ends rest))

pub unopened_back : (records : List (List ℕ)) (front behind : List ℕ) (gate : ℕ) → Fronts records front → gate ≢ 1 → Back (front ++ gate ∷ behind) ≡ records
unopened_back records front behind gate f shut =
    f.reads gate behind ∙ (ap (λ (l : List (List ℕ)). records ++ l) (shut_ends gate behind (grind (arith, nat_tests))) ∙ append-nil records)

opening_back : (records : List (List ℕ)) (bytes file : List ℕ) → IsStaged records bytes file → IsKept records (Some bytes) (Back file)
opening_back records bytes file o = elim (cases_eq o.gate 1) [
  | inl is_open ↦ inr (ap Back (o.is ∙ ap (λ (g : ℕ). o.front ++ g ∷ (body bytes ++ 0 ∷ o.rest)) is_open) ∙ opened_back records bytes o.front o.rest o.fronts o.small)
  | inr is_shut ↦ inl (ap Back o.is ∙ unopened_back records o.front (body bytes ++ 0 ∷ o.rest) o.gate o.fronts is_shut)
]

at_rest_back : (records : List (List ℕ)) (file : List ℕ) → IsClosed records file ⊎ IsBegun records file → Back file ≡ records
at_rest_back records file (inl c) = closed_back records file c
at_rest_back records file (inr b) = begun_back records file b

pub is_kept : (records : List (List ℕ)) (further : Option (List ℕ)) (file : List ℕ) → IsJournalOf records further file → IsKept records further (Back file)
is_kept records None file shape = at_rest_back records file shape
is_kept records (Some bytes) file (inl shape) = inl (at_rest_back records file shape)
is_kept records (Some bytes) file (inr o) = opening_back records bytes file o

pub at_rest : (records : List (List ℕ)) (further : Option (List ℕ)) (file : List ℕ) → IsClosed records file ⊎ IsBegun records file → IsJournalOf records further file
at_rest records None file shape = shape
at_rest records (Some bytes) file shape = inl shape

pub holds_kept : (records : List (List ℕ)) (further : Option (List ℕ)) (file : List ℕ) → IsJournalOf records further file → HoldsKept records further file
holds_kept records further file shape = record {
  kept = is_kept records further file shape;
  journal = record { records = records; further = further; shape = shape };
}
