-- The directives of a file name only what its network has.
use Rattle.std.proofs.Common.{◌≡◌, ℕ, suc, Bool, true, false, List, [], ◌∷◌, ◌++◌, length, refl, sym, ap, ◌∙◌, subst}
use Rattle.std.specs.Prelude.{None, is_none, if◌then◌else◌}
use Rattle.std.proofs.lemmas.List.Elements.{All-nil, All-cons, All-append}
use Rattle.std.proofs.lemmas.Bool.{and_parts, false≢true}
use Rattle.schedule_file.specs.declared.lines.Line.{Line}
use Rattle.schedule_file.specs.declared.lines.Line.TheVariants.{Blank, Begin, Declares, Directs}
use Rattle.schedule_file.specs.declared.lines.Numbered.{Numbered}
use Rattle.schedule_file.specs.declared.lines.Schedule.{Schedule}
use Rattle.schedule_file.specs.declared.table.Part.TheVariants.{Network, Run}
use Rattle.schedule_file.specs.Spelling.{words_by_line}
use Rattle.schedule_file.specs.Table.{may_declare, may_direct}
use Rattle.schedule_file.specs.Lines.{InRange}
use Rattle.schedule_file.specs.Grammar.{net_of, begun, part_in, stands, name_fault, directives_of, directive_of, Reads, IsFile, IsDirected, AreDirected}
use Rattle.schedule_file.proofs.Steps.{none_of}

-- the directives so far do, and there are none before begin
record Sound (earlier : List Line) : Type 0 where
  follow : AreDirected (net_of earlier) (directives_of earlier)
  none : begun earlier ≡ false → directives_of earlier ≡ []

no_more : (xs : List Numbered) → xs ++ [] ≡ xs
no_more [] = refl
no_more (x ∷ xs) = ap (λ r. x ∷ r) (no_more xs)

-- the lines that describe the network stand before begin, the others after it
not_begun : (b : Bool) → may_declare (if b then Run else Network) ≡ true → b ≡ false
not_begun true e = let q : false ≡ true = e in absurd (false≢true q)
not_begun false e = refl

has_begun : (b : Bool) → may_direct (if b then Run else Network) ≡ true → b ≡ true
has_begun true e = refl
has_begun false e = let q : false ≡ true = e in absurd (false≢true q)

-- a line before begin directs nothing, and nothing was directed
still_none : (e : List Line) (line : Line) → Sound e → begun e ≡ false → directives_of (line ∷ e) ≡ directives_of e ++ [] → Sound (line ∷ e)
still_none e line s before same =
    let none = same ∙ no_more (directives_of e) ∙ s.none before in
    record { follow = subst (AreDirected (net_of (line ∷ e))) (sym none) (All-nil (λ (d : Numbered). IsDirected (net_of (line ∷ e)) d.directive)); none = λ _. none }

keeps : (e : List Line) (line : Line) → Sound e → InRange line → stands (part_in Run e) line ≡ true → name_fault (net_of e) line ≡ None → Sound (line ∷ e)
keeps e Blank s r place fine = record {
  follow = subst (AreDirected (net_of e)) (sym (no_more (directives_of e))) s.follow;
  none = λ before. no_more (directives_of e) ∙ s.none before;
}
keeps e Begin s r place fine = record {
  follow = subst (AreDirected (net_of e)) (sym (no_more (directives_of e))) s.follow;
  none = λ before. let q : true ≡ false = before in absurd (false≢true (sym q));
}
keeps e (Declares d) s r place fine = still_none e (Declares d) s (not_begun (begun e) place) refl
keeps e (Directs line) s r place fine =
    let P : Numbered → Type 0 = λ (d : Numbered). IsDirected (net_of e) d.directive in
    let last : Numbered = record { line = suc (length e); directive = directive_of (net_of e) line } in
    record {
      follow = All-append P (directives_of e) (last ∷ []) s.follow (All-cons P last [] (record { line = line; same = refl; in_range = r; named = fine }) (All-nil P));
      none = λ before. absurd (false≢true (sym before ∙ has_begun (begun e) place));
    }

all_keep : (e : List Line) (texts : List (List (List ℕ))) (all : List Line) → Reads e texts all → Sound e → Sound all
all_keep e [] all r s = subst Sound (sym r) s
all_keep e (text ∷ texts) all r s =
    let may = and_parts (stands (part_in Run e) r.0) (is_none (name_fault (net_of e) r.0)) r.2 in
    all_keep (r.0 ∷ e) texts all r.3 (keeps e r.0 s r.1.in_range may.0 (none_of (name_fault (net_of e) r.0) may.1))

pub file_follows : (bytes : List ℕ) (schedule : Schedule) → IsFile bytes schedule → AreDirected schedule.topology schedule.lines.items
file_follows bytes schedule file =
    let start : Sound [] = record { follow = All-nil (λ (d : Numbered). IsDirected (net_of []) d.directive); none = λ _. refl } in
    rw (file.2, file.3) (all_keep [] (words_by_line bytes) file.0 file.1 start).follow
