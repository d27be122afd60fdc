-- Links at the start.
use Rattle.std.proofs.Common.{ℕ, ◌≡◌, Some, List, [], ◌∷◌, ◌++◌, ⊎_elim, ◌∙◌, ap, length, slice_get}
use Rattle.topology.specs.Net.{Net, IsValid}
use Rattle.link_model.specs.declared.links.Links.{Links}
use Rattle.link_model.specs.Tables.{ways_of}
use Rattle.link_model.specs.Ways.{OneWay, unused}
use Rattle.link_model.specs.Standing.{StandsFor}
use Rattle.link_model.proofs.Places.{pushed_at}

-- nothing is on its way, and each link is up in its session 1
abbrev pub AllUnused : List OneWay → Type 0
AllUnused kept = (i : ℕ) (one : OneWay) → slice_get kept i ≡ Some one → one ≡ unused

pub unused_push : (kept : List OneWay) (more : OneWay) → AllUnused kept → more ≡ unused → AllUnused (kept ++ more ∷ [])
unused_push kept more was new i one e = ⊎_elim (λ here. was i one here) (λ (last : (i ≡ length kept) × (one ≡ more)). last.1 ∙ new) (pushed_at kept more i one e)

pub fresh_links : (net : Net) (links : Links) → IsValid net → links.table ≡ ways_of net → AllUnused links.channels.items → StandsFor net links []
fresh_links net links valid numbered fresh = record {
  valid = valid;
  numbered = numbered;
  each = λ way e kept at here.
      let is = fresh way kept here in
      record { state = ap (λ (k : OneWay). k.state) is; items = ap (λ (k : OneWay). k.items) is };
}
