-- Links that hold given ways, and the change of one way.
use Rattle.std.proofs.Common.{ℕ, ◌<◌, true, false, ◌==◌, ◌&&◌, Some, ◌≡◌, ◌≢◌, ⊎_elim, refl, sym, ◌∙◌, ap, arith, length, get_or, set, slice_get}
use Rattle.std.proofs.lemmas.Bool.{cases_eq}
use Rattle.std.proofs.lemmas.Bool.Decides.{nat_tests}
use Rattle.std.proofs.lemmas.Option.{slice_get_within, slice_get_read}
use Rattle.topology.specs.Net.{Net, linked}
use Rattle.topology.specs.declared.ways.Way.{Way}
use Rattle.link_model.specs.declared.links.Links.{Links}
use Rattle.link_model.specs.Tables.{ends}
use Rattle.link_model.specs.Ways.{OneWay}
use Rattle.link_model.specs.Keeping.{Ways, Keeps, IsPlaced, replaced}
use Rattle.link_model.proofs.Numbers.{link_placed}
use Rattle.link_model.proofs.Places.{same_some, get_set_same, get_set_other}

-- if a way has no number, the two nodes have no link
pub no_way : (net : Net) (links : Links) (ways : Ways) (from to : ℕ) → ((way : ℕ) → slice_get links.table way ≡ Some (ends from to) → ⊥) → Keeps net links ways → linked net from to ≡ false
no_way net links ways from to none keeps =
    (elim (linked net from to) as (λ t. linked net from to ≡ t → t ≡ false) [
      | true ↦ λ e. absurd (link_placed net from to _ keeps.valid e (λ way at. none way (ap (λ l. slice_get l way) keeps.numbered ∙ at)))
      | false ↦ λ e. refl
    ]) refl

pub way_inside : (links : Links) (from to way : ℕ) → IsPlaced links from to way → way < length links.table
way_inside links from to way at = slice_get_within links.table way (ends from to) at.here

-- the channel at the number of a way is what is stored of it
pub way_at : (net : Net) (links : Links) (ways : Ways) (from to way : ℕ) (kept : OneWay) → length links.channels.items ≡ length links.table → Keeps net links ways → IsPlaced links from to way
    → kept ≡ get_or links.channels.items way kept → kept ≡ ways from to
way_at net links ways from to way kept sized keeps at read =
    let inside = way_inside links from to way at in
    keeps.each way (ends from to) kept at.here (slice_get_read links.channels.items (length links.channels.items) way kept refl (omega (arith, inside, sized)) read)

both_are : (a b c d : ℕ) → (a == c && b == d) ≡ true → (a ≡ c) × (b ≡ d)
both_are a b c d e = (grind (arith, nat_tests), grind (arith, nat_tests))

same_number : (a : ℕ) → (a == a) ≡ true
same_number a = grind (arith, nat_tests)

-- one channel has changed
pub keeps_with : (net : Net) (old new : Links) (ways : Ways) (from to way : ℕ) (kept : OneWay) → length old.channels.items ≡ length old.table → IsPlaced old from to way
    → new.table ≡ old.table → new.channels.items ≡ set old.channels.items way kept → Keeps net old ways → Keeps net new (replaced from to kept ways)
keeps_with net old new ways from to way kept sized at table channels keeps = record {
  valid = keeps.valid;
  numbered = table ∙ keeps.numbered;
  each = λ other e one node here. ⊎_elim
      (λ (same : other ≡ way).
      let is_ends : e ≡ ends from to = same_some e (ends from to) (sym node ∙ (ap (λ l. slice_get l other) table ∙ (ap (slice_get old.table) same ∙ at.here))) in
      let inside = way_inside old from to way at in
      let is_kept : one ≡ kept = same_some one kept (sym here ∙ (ap (λ l. slice_get l other) channels ∙ (ap (slice_get (set old.channels.items way kept)) same ∙ get_set_same old.channels.items way kept (omega (arith, inside, sized))))) in
      rw (is_ends, same_number from, same_number to) is_kept)
      (λ (ne : other ≢ way).
      let there : slice_get old.table other ≡ Some e = ap (λ l. slice_get l other) (sym table) ∙ node in
      let unlike : (from == e.from && to == e.to) ≡ false = differs e other ne there in
      rw unlike (keeps.each other e one there (sym (get_set_other old.channels.items way other kept (λ e. ne (sym e))) ∙ (ap (λ l. slice_get l other) (sym channels) ∙ here))))
      (cases_eq other way);
}
  where
    differs : (e : Way) (other : ℕ) → other ≢ way → slice_get old.table other ≡ Some e → (from == e.from && to == e.to) ≡ false
    differs e other ne there =
        (elim (from == e.from && to == e.to) as (λ t. (from == e.from && to == e.to) ≡ t → t ≡ false) [
          | true ↦ λ h.
              let is = both_are from to e.from e.to h in
              absurd (ne (at.only other (there ∙ ap Some (rw (is.0, is.1) refl))))
          | false ↦ λ h. refl
        ]) refl

-- a changed channel leaves the numbers
pub placed_with : (old new : Links) (from to way : ℕ) → new.table ≡ old.table → IsPlaced old from to way → IsPlaced new from to way
placed_with old new from to way table at = record {
  here = ap (λ l. slice_get l way) table ∙ at.here;
  only = λ other h. at.only other (ap (λ l. slice_get l other) (sym table) ∙ h);
}
