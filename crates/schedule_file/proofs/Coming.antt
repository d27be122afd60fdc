-- Lines that may follow one another, in sections of one kind each.
use Rattle.std.proofs.Common.{◌≡◌, false, List, [], ◌∷◌, ◌++◌, append_assoc, append-nil, refl, sym, ap, ◌∙◌, subst}
use Rattle.std.specs.Prelude.{map, None, IsTrue, if◌then◌else◌}
use Rattle.std.specs.List.{AllByRecursion}
use Rattle.topology.specs.Net.{Net}
use Rattle.schedule_file.specs.declared.lines.Line.{Line}
use Rattle.schedule_file.specs.declared.lines.Line.TheVariants.{Declares}
use Rattle.schedule_file.specs.declared.lines.Declaration.{Declaration}
use Rattle.schedule_file.specs.declared.table.Part.TheVariants.{Network, Run}
use Rattle.schedule_file.specs.Table.{may_declare}
use Rattle.schedule_file.specs.Lines.{line_words, InRange, DeclaresInRange}
use Rattle.schedule_file.specs.Grammar.{with_declaration, net_of, begun, declared_fault, allowed, directives_of, Reads}
use Rattle.schedule_file.proofs.Steps.{allowed_from}

-- after the earlier lines these may follow, one by one
abbrev pub MayStandNext : List Line → List Line → Type 0
MayStandNext earlier [] = Unit {0}
MayStandNext earlier (line ∷ lines) = InRange line × IsTrue (allowed Run earlier line) × MayStandNext (line ∷ earlier) lines

-- the earlier lines and these, newest first
abbrev pub after : List Line → List Line → List Line
after earlier [] = earlier
after earlier (line ∷ lines) = after (line ∷ earlier) lines

pub comes_read : (earlier lines : List Line) → MayStandNext earlier lines → Reads earlier (map line_words lines) (after earlier lines)
comes_read earlier [] h = refl
comes_read earlier (line ∷ lines) h = (line, record { spelled = refl; in_range = h.0 }, h.1, comes_read (line ∷ earlier) lines h.2)

pub comes_in_range : (earlier lines : List Line) → MayStandNext earlier lines → AllByRecursion InRange lines
comes_in_range earlier [] h = tt
comes_in_range earlier (line ∷ lines) h = (h.0, comes_in_range (line ∷ earlier) lines h.2)

-- these may follow, and then this holds
pub record Reaches (earlier lines : List Line) (P : List Line → Type 0) : Type 0 where
  pub comes : MayStandNext earlier lines
  pub there : P (after earlier lines)

pub reaches_both : (earlier lines others : List Line) (P Q : List Line → Type 0) → Reaches earlier lines P → ((e : List Line) → P e → Reaches e others Q) → Reaches earlier (lines ++ others) Q
reaches_both earlier [] others P Q h next = next earlier h.there
reaches_both earlier (line ∷ lines) others P Q h next =
    let more = reaches_both (line ∷ earlier) lines others P Q (record { comes = h.comes.2; there = h.there }) next in
    record { comes = (h.comes.0, h.comes.1, more.comes); there = more.there }

-- a section: a line for each element of a list, each of which may follow those before it
module _ {X : Type 0} (f : X → Line) (S : List X → List Line → Type 0) (all : List X)
    (step : (front : List X) (x : X) (back : List X) (e : List Line) → front ++ x ∷ back ≡ all → S front e → InRange (f x) × IsTrue (allowed Run e (f x)) × S (front ++ x ∷ []) (f x ∷ e)) where
  from : (front rest : List X) (e : List Line) → front ++ rest ≡ all → S front e → Reaches e (map f rest) (S all)
  from front [] e same s = record { comes = tt; there = subst (λ xs. S xs e) (sym (append-nil front) ∙ same) s }
  from front (x ∷ rest) e same s =
      let here = step front x rest e same s in
      let more = from (front ++ x ∷ []) rest (f x ∷ e) (append_assoc front (x ∷ []) rest ∙ same) here.2 in
      record { comes = (here.0, here.1, more.comes); there = more.there }

  pub section : (e : List Line) → S [] e → Reaches e (map f all) (S all)
  section e s = from [] all e refl s

-- before begin: the network so far
pub record At (net : Net) (earlier : List Line) : Type 0 where
  pub stands_for : net_of earlier ≡ net
  pub early : begun earlier ≡ false
  pub none : directives_of earlier ≡ []

-- a declaration that the network does not refuse
pub declared_next : (d : Declaration) (net next : Net) (e : List Line) → At net e → DeclaresInRange d → declared_fault net d ≡ None → with_declaration d net ≡ next → InRange (Declares d) × IsTrue (allowed Run e (Declares d)) × At next (Declares d ∷ e)
declared_next d net next e at range fine same =
    let stands = ap (λ b. may_declare (if b then Run else Network)) at.early in (
      range,
      allowed_from Run e (Declares d) stands (ap (λ n. declared_fault n d) at.stands_for ∙ fine),
      record { stands_for = ap (with_declaration d) at.stands_for ∙ same; early = at.early; none = append-nil (directives_of e) ∙ at.none },
    )
