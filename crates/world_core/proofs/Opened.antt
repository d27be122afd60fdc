-- Ways that are open: what comes over them is not idle.
use Rattle.std.proofs.Common.{ℕ, Bool, true, false, not, ◌&&◌, Option, Some, None, List, [], ◌∷◌, ◌≡◌, refl, sym, ◌∙◌, ap, ap₂, arith, true≢false}
use Rattle.std.proofs.lemmas.Bool.Decides.{nat_tests}
use Rattle.topology.specs.declared.links.LinkState.{LinkState}
use Rattle.topology.specs.declared.links.LinkState.TheVariants.{Up, Down}
use Rattle.trigger_log.specs.Going.{Going, Item}
use Rattle.chronicle.specs.Channels.{channel}
use Rattle.chronicle.specs.Crashes.{crashed}
use Rattle.chronicle.specs.Deliveries.{arrives, may_arrive}
use Rattle.chronicle.specs.Facts.{Chronicle, Sent, happen}
use Rattle.chronicle.specs.Links.{link}
use Rattle.chronicle.specs.Run.{held_with, is_carried}
use Rattle.chronicle.specs.Steps.{Carried, sends}
use Rattle.cut_laws.proofs.Marked.{session_is}
use Rattle.world_core.specs.Happening.{MayArrive}
use Rattle.world_core.specs.OpenWays.{is_joined, is_open}

-- something is on its way
abbrev pub has_item : List Item → Bool
has_item [] = false
has_item (x ∷ rest) = true

-- a link that carries the session that is held is up in it
pub carried_joined : (l : LinkState) (session : Option ℕ) → is_carried l session ≡ is_joined l session
carried_joined (Down s) None = refl
carried_joined (Down s) (Some t) = refl
carried_joined (Up s) None = refl
carried_joined (Up s) (Some t) = grind (arith, nat_tests)

-- both of two tests
pub both_true : (a b : Bool) → (a && b) ≡ true → (a ≡ true) × (b ≡ true)
both_true a b e = (grind (arith, nat_tests), grind (arith, nat_tests))

-- what is on its way over a link that carries the session that is held
joined_item : (l : LinkState) (items : List Item) (session : Option ℕ) → may_arrive l items session ≡ (is_joined l session && has_item items)
joined_item (Down s) items session = refl
joined_item (Up s) [] session = grind (arith, nat_tests)
joined_item (Up s) (x ∷ rest) session = grind (arith, nat_tests)

-- a test more before two
and_more : (a b c d : Bool) → c ≡ (b && d) → (a && c) ≡ ((a && b) && d)
and_more a b c d e = grind (arith, nat_tests)

-- a delivery would not be idle where the way is open and something is on it
pub arrives_where : (past : Chronicle) (v u : ℕ) → arrives past v u ≡ (is_open past v u && has_item (channel v u past))
arrives_where past v u =
    and_more (not (crashed u past)) (is_joined (link v u past) (held_with u v past)) (may_arrive (link v u past) (channel v u past) (held_with u v past)) (has_item (channel v u past))
    (joined_item (link v u past) (channel v u past) (held_with u v past))

-- nothing arrives over a link that is down
pub down_rests : (past : Chronicle) (v u s : ℕ) → arrives past v u ≡ true → link v u past ≡ Down s → ⊥
down_rests past v u s e is = true≢false (sym (both_true (not (crashed u past)) (may_arrive (link v u past) (channel v u past) (held_with u v past)) e).1 ∙ ap (λ l. may_arrive l (channel v u past) (held_with u v past)) is)

-- nor over a way on which nothing is
pub empty_rests : (past : Chronicle) (v u s : ℕ) → arrives past v u ≡ true → link v u past ≡ Up s → channel v u past ≡ [] → ⊥
empty_rests past v u s e is none = true≢false (sym (both_true (not (crashed u past)) (may_arrive (link v u past) (channel v u past) (held_with u v past)) e).1 ∙ ap₂ (λ l items. may_arrive l items (held_with u v past)) is none)

-- what stands in front arrives, where a delivery would not be idle
pub front_arrives : (past : Chronicle) (v u s : ℕ) (x : Item) (rest : List Item) → arrives past v u ≡ true → link v u past ≡ Up s → channel v u past ≡ x ∷ rest → MayArrive past v u s
front_arrives past v u s x rest e is front = record {
  up = is;
  held = session_is (held_with u v past) s
      (sym (ap₂ (λ l items. may_arrive l items (held_with u v past)) is front) ∙ (both_true (not (crashed u past)) (may_arrive (link v u past) (channel v u past) (held_with u v past)) e).1);
  front = (x, rest, front);
}

-- and its receiver runs
pub runs_still : (past : Chronicle) (v u : ℕ) → arrives past v u ≡ true → crashed u past ≡ false
runs_still past v u e =
    let runs = (both_true (not (crashed u past)) (may_arrive (link v u past) (channel v u past) (held_with u v past)) e).0 in
    not_true (crashed u past) runs
  where
    not_true : (t : Bool) → not t ≡ true → t ≡ false
    not_true t h = grind (arith, nat_tests)

-- what is sent opens and closes no way
pub sends_open : (carried : Carried) (u : ℕ) (gs : List Going) (past : Chronicle) (v w : ℕ) → is_open (happen past (sends carried u gs)) v w ≡ is_open past v w
sends_open carried u [] past v w = refl
sends_open carried u (g ∷ gs) past v w = sends_open carried u gs (Sent u g.to g.session g.item (carried g.to g.session) ∷ past) v w
