-- One hop of a walk, as the code returns it.
use Rattle.std.proofs.Common.{ℕ, ◌<◌, Some, None, List, [], ◌∷◌, ◌++◌, reverse, ◌≡◌, refl, sym, ◌∙◌, ap, arith}
use Rattle.std.proofs.lemmas.List.{reverse-append}
use Rattle.topology.specs.Net.{Net}
use Rattle.topology.specs.declared.names.Scheme.TheVariants as scheme
use Rattle.epoch_packet.specs.declared.packets.Packet.{Packet}
use Rattle.epoch_packet.specs.declared.walks.End.{End as Ending}
use Rattle.transient_mode.specs.declared.moves.Move.{Move}
use Rattle.transient_mode.specs.declared.moves.Move.TheVariants as move
use Rattle.transient_mode.specs.Sights.{Sight}
use Rattle.transient_mode.specs.TransientHops.{Hop, Next, Ended, answered, hop_under}
use Rattle.transient_mode.proofs.EachHop.{is_move}
use Rattle.deflect_delivery.specs.declared.stills.Still.{Still}
use Rattle.deflect_delivery.specs.Stills.{sight}
use Rattle.deflect_delivery.specs.Progress.{At, Over, come_to, so_far, one_more}

-- a returned move is a move of the definition
was_next : (h : Hop) (packet q : Packet) (w : ℕ) → (q, move.Next w) ≡ answered packet h → h ≡ Next w q
was_next (Next x moved) packet q w is =
    let same : q ≡ moved = ap (λ (r : Packet × Move). r.0) is in
    let to : move.Next w ≡ move.Next x = ap (λ (r : Packet × Move). r.1) is in
    cc
was_next (Ended ending) packet q w is = let to : move.Next w ≡ move.Ended ending = ap (λ (r : Packet × Move). r.1) is in cc

-- a returned end is an end of the definition
was_end : (h : Hop) (packet q : Packet) (ending : Ending) → (q, move.Ended ending) ≡ answered packet h → h ≡ Ended ending
was_end (Next x moved) packet q ending is = let to : move.Ended ending ≡ move.Next x = ap (λ (r : Packet × Move). r.1) is in cc
was_end (Ended e) packet q ending is = let to : move.Ended ending ≡ move.Ended e = ap (λ (r : Packet × Move). r.1) is in cc

-- one more visit, the newest first
pub one_visit : (visits now : List ℕ) (at : ℕ) → now ≡ visits ++ at ∷ [] → reverse now ≡ at ∷ reverse visits
one_visit visits now at is = ap reverse is ∙ reverse-append visits (at ∷ [])

module _ (net : Net) (still : Still) (visits now : List ℕ) (at : ℕ) (packet q : Packet) (more : now ≡ visits ++ at ∷ []) where
  -- a move
  pub moves : (w : ℕ) → (q, move.Next w) ≡ answered packet (hop_under scheme.Deflect net packet (sight net still at))
      → so_far now w q None ≡ one_more net still (so_far visits at packet None)
  unfolding one_more
  moves w is =
      ap (λ l. At l w q) (one_visit visits now at more)
      ∙ ap (come_to (reverse visits) at) (sym (was_next (hop_under scheme.Deflect net packet (sight net still at)) packet q w is))

  -- an end
  pub ends : (ending : Ending) → (q, move.Ended ending) ≡ answered packet (hop_under scheme.Deflect net packet (sight net still at))
      → so_far now at q (Some ending) ≡ one_more net still (so_far visits at packet None)
  unfolding one_more
  ends ending is =
      ap (λ l. Over l ending) (one_visit visits now at more)
      ∙ ap (come_to (reverse visits) at) (sym (was_end (hop_under scheme.Deflect net packet (sight net still at)) packet q ending is))

-- a move uses up one
pub spends : (net : Net) (view : Sight) (packet q : Packet) (w : ℕ) → (q, move.Next w) ≡ answered packet (hop_under scheme.Deflect net packet view) → q.budget < packet.budget
spends net view packet q w is =
    let one = (is_move scheme.Deflect net packet q view w (was_next (hop_under scheme.Deflect net packet view) packet q w is)).spends_one in
    omega (arith, one)
