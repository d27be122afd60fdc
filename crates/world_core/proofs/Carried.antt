-- What a fact changes of the links.
use Rattle.std.proofs.Common.{ℕ, Bool, true, false, cond, ◌==◌, ◌&&◌, List, [], ◌∷◌, ◌++◌, ◌≡◌, refl, sym, ◌∙◌, ap, map, arith}
use Rattle.std.specs.Prelude.{if◌then◌else◌}
use Rattle.std.proofs.lemmas.Bool.Decides.{nat_tests}
use Rattle.std.proofs.lemmas.List.{map-append}
use Rattle.topology.specs.declared.items.Item.{Item as Message}
use Rattle.topology.specs.declared.links.LinkState.{LinkState}
use Rattle.topology.specs.LinkStates.{are_ends, carries, failed, restored}
use Rattle.topology.specs.Net.{Net}
use Rattle.trigger_log.specs.Entries.{Entry}
use Rattle.trigger_log.specs.Going.{Item, item_of}
use Rattle.link_model.specs.declared.links.Links.{Links}
use Rattle.link_model.specs.Acts as act
use Rattle.link_model.specs.Readings.{behind_front, state, channel_after}
use Rattle.link_model.specs.Standing.{StandsFor}
use Rattle.chronicle.specs.Facts.{Chronicle, Log, Sent, Took, Fail, Restore}
use Rattle.chronicle.specs.Links.{link}
use Rattle.chronicle.specs.Channels.{tail}
use Rattle.chronicle.specs.Channels.{channel as channel_of}
use Rattle.world_core.specs.Matching.{AreLinks}

-- what is pushed comes to the end of both
grown : (t q r : Bool) (xs : List Message) (ys : List Item) (x : Message) → (t ≡ true → q ≡ r) → map item_of xs ≡ ys
    → map item_of (cond (t && q) (xs ++ x ∷ []) xs) ≡ cond (t && r) (ys ++ item_of x ∷ []) ys
grown false q r xs ys x same e = e
grown true q r xs ys x same e =
    rw (← e, same refl)
    (elim r as (λ b. map item_of (cond b (xs ++ x ∷ []) xs) ≡ cond b (map item_of xs ++ item_of x ∷ []) (map item_of xs)) [
      | true ↦ map-append item_of xs (x ∷ [])
      | false ↦ refl
    ])

-- both are empty
emptied : (t : Bool) (xs : List Message) (ys : List Item) → map item_of xs ≡ ys → map item_of (cond t [] xs) ≡ cond t [] ys
emptied true xs ys e = refl
emptied false xs ys e = e

-- both are without their first
tails : (xs : List Message) → map item_of (behind_front xs) ≡ tail (map item_of xs)
tails [] = refl
tails (x ∷ xs) = refl

-- the front leaves both
behind : (t : Bool) (xs : List Message) (ys : List Item) → map item_of xs ≡ ys → map item_of (cond t (behind_front xs) xs) ≡ cond t (tail ys) ys
behind true xs ys e = tails xs ∙ ap tail e
behind false xs ys e = e

-- the ends are the same
both_equal : (from to a b : ℕ) → (from == a && to == b) ≡ true → (from ≡ a) × (to ≡ b)
both_equal from to a b e = (grind (arith, nat_tests), grind (arith, nat_tests))

module _ (net : Net) (past : Chronicle) (old new : Links) (was : AreLinks net past old) where
  -- the link of the way carries the session
  same_way : (from to s a b : ℕ) → (from == a && to == b) ≡ true → carries (state a b was.acts) s ≡ carries (link from to past) s
  same_way from to s a b e =
      let ends = both_equal from to a b e in
      rw (ends.0, ends.1) (ap (λ l. carries l s) (was.states a b))

  -- an item is pushed: it is queued where the link carries its session, and lost elsewhere
  pub pushed : (from to s : ℕ) (x : Message) → StandsFor net new (act.Push from to s x ∷ was.acts)
      → AreLinks net (Sent from to s (item_of x) (carries (link from to past) s) ∷ past) new
  pushed from to s x stands = record {
    acts = act.Push from to s x ∷ was.acts;
    stands = stands;
    states = was.states;
    items = λ a b.
        grown (from == a && to == b) (carries (state a b was.acts) s) (carries (link from to past) s) (channel_after a b was.acts) (channel_of a b past) x
        (same_way from to s a b) (was.items a b);
  }

  -- the front item is taken
  pub taken : (from to s : ℕ) (x : Item) → StandsFor net new (act.Take from to ∷ was.acts) → AreLinks net (Took from to s x ∷ past) new
  taken from to s x stands = record {
    acts = act.Take from to ∷ was.acts;
    stands = stands;
    states = was.states;
    items = λ a b. behind (from == a && to == b) (channel_after a b was.acts) (channel_of a b past) (was.items a b);
  }

  -- a link has failed
  pub failed_link : (c d : ℕ) → StandsFor net new (act.Fail c d ∷ was.acts) → AreLinks net (Fail c d ∷ past) new
  failed_link c d stands = record {
    acts = act.Fail c d ∷ was.acts;
    stands = stands;
    states = λ a b. ap (λ l. if are_ends a b c d then failed l else l) (was.states a b);
    items = λ a b. emptied (are_ends a b c d) (channel_after a b was.acts) (channel_of a b past) (was.items a b);
  }

  -- a link was restored
  pub restored_link : (c d : ℕ) → StandsFor net new (act.Restore c d ∷ was.acts) → AreLinks net (Restore c d ∷ past) new
  restored_link c d stands = record {
    acts = act.Restore c d ∷ was.acts;
    stands = stands;
    states = λ a b. ap (λ l. if are_ends a b c d then restored l else l) (was.states a b);
    items = was.items;
  }

-- an entry changes nothing of the links
pub logged : (net : Net) (past : Chronicle) (links : Links) (u : ℕ) (k : Entry) → AreLinks net past links → AreLinks net (Log u k ∷ past) links
logged net past links u k was = record { acts = was.acts; stands = was.stands; states = was.states; items = was.items }

-- what the links say of a link is what the run says
pub link_read : (net : Net) (past : Chronicle) (links : Links) (was : AreLinks net past links) (a b : ℕ) (l : LinkState) → l ≡ state a b was.acts → link a b past ≡ l
link_read net past links was a b l is = sym (is ∙ was.states a b)

-- so of the items on a way
pub front_read : (net : Net) (past : Chronicle) (links : Links) (was : AreLinks net past links) (a b : ℕ) (x : Message) (rest : List Message) → channel_after a b was.acts ≡ x ∷ rest
    → channel_of a b past ≡ item_of x ∷ map item_of rest
front_read net past links was a b x rest is = sym (was.items a b) ∙ ap (map item_of) is

-- so of a way on which nothing is
pub empty_read : (net : Net) (past : Chronicle) (links : Links) (was : AreLinks net past links) (a b : ℕ) → channel_after a b was.acts ≡ [] → channel_of a b past ≡ []
empty_read net past links was a b is = sym (was.items a b) ∙ ap (map item_of) is
