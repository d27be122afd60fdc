-- What stays while nothing changes links or owners.
use Rattle.std.proofs.Common.{ℕ, Bool, true, false, not, ◌&&◌, ◌==◌, Option, Some, None, List, [], ◌∷◌, ◌≡◌, refl, sym, ◌∙◌, ap, subst}
use Rattle.std.specs.Prelude.{if◌then◌else◌}
use Rattle.std.proofs.Math.Path.{fun_ext}
use Rattle.topology.specs.Lists.{has}
use Rattle.topology.specs.Net.{Net}
use Rattle.topology.proofs.Tests.{and_left, and_right, not_true}
use Rattle.path_vector.specs.declared.causes.Cause.{Cause}
use Rattle.path_vector.specs.declared.causes.Cause.TheVariants.{Originate, Withdraw}
use Rattle.path_vector.specs.Rules.{Rules}
use Rattle.path_vector.specs.History.{concerns, owns, owns_by}
use Rattle.trigger_log.specs.Entries.{Entry, reads}
use Rattle.chronicle.specs.declared.events.Event.{Event}
use Rattle.chronicle.specs.Facts.{Fact, Chronicle, Log, Fail, Restore, Crash, Restart, Visit, End}
use Rattle.chronicle.specs.Logs.{log_of}
use Rattle.chronicle.specs.Run.{up_links, after}
use Rattle.chronicle.specs.Walks.{Standing, standing}
use Rattle.chronicle.proofs.Quieting.{IsOfPacket}
use Rattle.chronicle.proofs.Moves.{known_in, IsOfPackets, after_where}
use Rattle.chronicle.proofs.OwnFacts.{moves_keep}
use Rattle.deflect_delivery.specs.Terrain.{Terrain}
use Rattle.delivery_laws.specs.Unchanged.{makes_owner, changes, is_off, stays, terrain_now}

-- an entry that makes no owner leaves ownership as it was
same_owner : (c : Cause) (before : Bool) → makes_owner c ≡ false → owns_by c before ≡ before
same_owner Originate before off = cc
same_owner Withdraw before off = cc
same_owner other before off = refl

-- an entry that does not concern the prefix, or makes no owner, leaves its ownership as it was
same_owns : (p : ℕ) (k : Entry) (h : List Entry) → (concerns p k.read.scope && makes_owner k.read.cause) ≡ false → owns (reads (k ∷ h)) p ≡ owns (reads h) p
same_owns p k h off =
    (elim (concerns p k.read.scope) as (λ t. (t && makes_owner k.read.cause) ≡ false → (if t then owns_by k.read.cause (owns (reads h) p) else owns (reads h) p) ≡ owns (reads h) p) [
      | true ↦ λ e. same_owner k.read.cause (owns (reads h) p) e
      | false ↦ λ e. refl
    ]) off

-- such an entry of any node leaves the ownership at every node as it was
same_owns_at : (p node : ℕ) (k : Entry) (past : Chronicle) → (concerns p k.read.scope && makes_owner k.read.cause) ≡ false
    → (u : ℕ) → owns (reads (log_of u (Log node k ∷ past))) p ≡ owns (reads (log_of u past)) p
same_owns_at p node k past off u =
    elim (node == u) as (λ t. owns (reads (if t then k ∷ log_of u past else log_of u past)) p ≡ owns (reads (log_of u past)) p) [
      | true ↦ same_owns p k (log_of u past) off
      | false ↦ refl
    ]

-- a fact that changes no link and no owner leaves both
pub same_terrain : (net : Net) (p : ℕ) (f : Fact) (past : Chronicle) → changes p f ≡ false → terrain_now net p (f ∷ past) ≡ terrain_now net p past
unfolding up_links
same_terrain net p (Log node k) past off =
    ap (λ (o : ℕ → Bool). record { joins = λ u w. has (up_links net u past) w; owns = o }) (fun_ext (λ u. same_owns_at p node k past off u))
same_terrain net p (Fail a b) past off = cc
same_terrain net p (Restore a b) past off = cc
same_terrain net p other past off = refl

-- the packet stands where it stood; and if links and owners are now as when it left the tables, they were so then, and
-- are the same
pub record Stayed (net : Net) (k p : ℕ) (past now : Chronicle) : Type 0 where
  pub same_standing : standing k now ≡ standing k past
  pub back : is_off (standing k past) ≡ true → stays k p now ≡ true → (stays k p past ≡ true) × (terrain_now net p now ≡ terrain_now net p past)

-- between a chronicle and itself nothing has changed
stayed_now : (net : Net) (k p : ℕ) (past : Chronicle) → Stayed net k p past past
stayed_now net k p past = record { same_standing = refl; back = λ off same. (same, refl) }

-- if nothing has changed since the packet left the tables, with one more fact, nothing had changed before that fact,
-- and links and owners are the same
pub one_fact : (net : Net) (k p : ℕ) (f : Fact) (past : Chronicle) → is_off (standing k past) ≡ true → stays k p (f ∷ past) ≡ true
    → (stays k p past ≡ true) × (terrain_now net p (f ∷ past) ≡ terrain_now net p past)
one_fact net k p f past off same =
    let both : (not (changes p f) && stays k p past) ≡ true = sym (ap (λ t. if t then not (changes p f) && stays k p past else true) off) ∙ same in
    (and_right (not (changes p f)) (stays k p past) both, same_terrain net p f past (not_true (changes p f) (and_left (not (changes p f)) (stays k p past) both)))

-- a fact that is not about a packet leaves it where it stands
same_place : (k : ℕ) (f : Fact) (past : Chronicle) → (IsOfPacket f → ⊥) → standing k (f ∷ past) ≡ standing k past
same_place k (Visit node packet) past tells = absurd (tells tt)
same_place k other past tells = refl

stayed_more : (net : Net) (k p : ℕ) (f : Fact) (past now : Chronicle) → (IsOfPacket f → ⊥) → Stayed net k p past now → Stayed net k p past (f ∷ now)
stayed_more net k p f past now tells old = record {
  same_standing = same_place k f now tells ∙ old.same_standing;
  back = λ off same.
      let one = one_fact net k p f now (ap is_off old.same_standing ∙ off) same in
      let earlier = old.back off one.0 in
      (earlier.0, one.1 ∙ earlier.1);
}

-- an event without a packet leaves this as it is
pub stayed : (rules : Rules) (net : Net) (k p : ℕ) (past : Chronicle) (e : Event) → (IsOfPackets e → ⊥) → Stayed net k p past (after rules net past e)
stayed rules net k p past e apart =
    after_where rules net (Stayed net k p past) ⊥
    (λ u. moves_keep rules net u (Stayed net k p past) ⊥ (λ f now of tells same. stayed_more net k p f past now tells same) (known_in ⊥ u) (λ t. t))
    past (stayed_now net k p past)
    (λ a b s up. stayed_more net k p (Fail a b) past past (λ t. t) (stayed_now net k p past)) (λ a b s down. stayed_more net k p (Restore a b) past past (λ t. t) (stayed_now net k p past))
    (λ u. stayed_more net k p (Crash u) past past (λ t. t) (stayed_now net k p past)) (λ u. stayed_more net k p (Restart u) past past (λ t. t) (stayed_now net k p past)) e apart
