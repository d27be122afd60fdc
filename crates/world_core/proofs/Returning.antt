-- A packet that goes on comes back by what its node does: it comes to a node, or its walk ends.
use Rattle.std.proofs.Common.{ℕ, ◌+◌, ◌==◌, Bool, true, false, List, [], ◌∷◌, ◌++◌, ◌≡◌, refl, sym, ◌∙◌, ap, subst, arith, length}
use Rattle.std.specs.Prelude.{if◌then◌else◌}
use Rattle.topology.specs.Net.{Net}
use Rattle.path_vector.specs.Rules.{Rules}
use Rattle.epoch_packet.specs.declared.packets.Packet.{Packet}
use Rattle.epoch_packet.specs.declared.stable.StableStep.{StableStep}
use Rattle.epoch_packet.specs.declared.stable.StableStep.TheVariants.{Arrived, Next, Turn}
use Rattle.epoch_packet.specs.declared.walks.End.{End as Ending}
use Rattle.epoch_packet.specs.declared.walks.End.TheVariants.{Delivered}
use Rattle.epoch_packet.specs.declared.walks.Mode.{Mode}
use Rattle.epoch_packet.specs.declared.walks.Mode.TheVariants.{Stable, Transient}
use Rattle.epoch_packet.specs.Packets.{turned, moved_to}
use Rattle.epoch_packet.specs.StableHops.{stable_step}
use Rattle.transient_mode.specs.TransientHops.{Hop, transient_hop}
use Rattle.transient_mode.specs.TransientHops as transient
use Rattle.transient_mode.proofs.EachHop.{is_move}
use Rattle.chronicle.specs.Facts.{Fact, Chronicle, Visit, End, happen}
use Rattle.chronicle.specs.Giving.{answer, give, forwards, hops_on_tables, hops_off_tables, by_mode, on_tables, off_tables, sight}
use Rattle.chronicle.specs.Inputs.{Input}
use Rattle.chronicle.specs.Inputs as input
use Rattle.chronicle.specs.Publications.{kept_path, publish}
use Rattle.chronicle.specs.Run.{given}
use Rattle.chronicle.specs.Steps.{Step, Idle, Goes}
use Rattle.chronicle.proofs.Quiet.{quiet_readings}
use Rattle.world_core.specs.Happening.{away_with}
use Rattle.run_record.specs.Walks.{still, still_after}
use Rattle.world_core.proofs.Telling.{begun}

-- after the facts of the step no packet is away that was with the input
abbrev pub ComesBack : Input → Chronicle → Step → Type 0
ComesBack i first (Idle why) = Unit {0}
ComesBack i first (Goes now) = (facts : List Fact) → now ≡ happen first facts → (k : ℕ) → still_after facts (away_with i) k ≡ false

-- who is not away comes not to be
none_leaves : (facts : List Fact) (away : ℕ → Bool) (k : ℕ) → away k ≡ false → still_after facts away k ≡ false
none_leaves [] away k off = off
none_leaves (f ∷ facts) away k off = none_leaves facts (still f away) k (one f)
  where
    one : (f : Fact) → still f away k ≡ false
    one (Visit w packet) =
        elim (packet.id == k) as (λ t. (if t then false else away k) ≡ false) [
          | true ↦ refl
          | false ↦ off
        ]
    one (End id end) =
        elim (id == k) as (λ t. (if t then false else away k) ≡ false) [
          | true ↦ refl
          | false ↦ off
        ]
    one other = off

-- the newest fact comes last
pub still_last : (facts : List Fact) (f : Fact) (away : ℕ → Bool) → still_after (facts ++ f ∷ []) away ≡ still f (still_after facts away)
still_last [] f away = refl
still_last (g ∷ facts) f away = still_last facts f (still g away)

-- how many facts there are then
counted : (past : Chronicle) (facts : List Fact) → length (happen past facts) ≡ length facts + length past
counted past [] = omega arith
counted past (f ∷ facts) = let more = counted (f ∷ past) facts in omega (arith, more)

-- where there is one fact more, it is the only one
only_fact : (past : Chronicle) (f : Fact) (facts : List Fact) → f ∷ past ≡ happen past facts → facts ≡ f ∷ []
only_fact past f [] is = let sizes = ap length is in absurd (omega (arith, sizes))
only_fact past f (g ∷ []) is = let same : f ≡ g = cc is in ap (λ x. x ∷ []) (sym same)
only_fact past f (g ∷ h ∷ facts) is =
    let sizes = ap length is in
    let more = counted (h ∷ g ∷ past) facts in
    absurd (omega (arith, sizes, more))

-- nothing was away
none_back : (i : Input) (first : Chronicle) (step : Step) → ((k : ℕ) → away_with i k ≡ false) → ComesBack i first step
none_back i first (Idle why) off = tt
none_back i first (Goes now) off = λ facts is k. none_leaves facts (away_with i) k (off k)

module _ (rules : Rules) (net : Net) (u : ℕ) (past : Chronicle) (packet : Packet) (up : List ℕ) where
  -- by one fact
  one_back : (f : Fact) → publish rules net u past (f ∷ past) ≡ f ∷ past → ((k : ℕ) → still f (λ m. packet.id == m) k ≡ false)
      → ComesBack (input.Hop packet up) past (Goes (publish rules net u past (f ∷ past)))
  one_back f quiet back facts is k =
      subst (λ fs. still_after fs (λ m. packet.id == m) k ≡ false) (sym (only_fact past f facts (sym quiet ∙ is))) (back k)

  -- a visit of it
  visit_back : (w : ℕ) (moved : Packet) → moved.id ≡ packet.id → ComesBack (input.Hop packet up) past (Goes (publish rules net u past (Visit w moved ∷ past)))
  visit_back w moved same =
      one_back (Visit w moved) (quiet_readings rules net u past (Visit w moved ∷ past) refl (λ e. refl))
      (λ k. subst (λ n. (if n == k then false else packet.id == k) ≡ false) (sym same) (itself k))
    where
      itself : (k : ℕ) → (if packet.id == k then false else packet.id == k) ≡ false
      itself k =
          elim (packet.id == k) as (λ t. (if t then false else t) ≡ false) [
            | true ↦ refl
            | false ↦ refl
          ]

  -- the end of its walk
  end_back : (ending : Ending) → ComesBack (input.Hop packet up) past (Goes (publish rules net u past (End packet.id ending ∷ past)))
  end_back ending =
      one_back (End packet.id ending) (quiet_readings rules net u past (End packet.id ending ∷ past) refl (λ e. refl))
      (λ k. elim (packet.id == k) as (λ t. (if t then false else t) ≡ false) [
        | true ↦ refl
        | false ↦ refl
      ])

  -- on the tables
  table_back : (s : StableStep) → ComesBack (input.Hop packet up) past (Goes (publish rules net u past (on_tables net u past packet s)))
  unfolding turned
  table_back Arrived = end_back Delivered
  table_back (Next w) = visit_back w (moved_to net w packet) refl
  table_back Turn = visit_back u (turned net u packet) refl

  -- off them
  off_back : (h : Hop) → transient_hop net packet (sight rules net u past packet.prefix up) ≡ h → ComesBack (input.Hop packet up) past (Goes (publish rules net u past (off_tables past packet h)))
  off_back (transient.Next w moved) is = visit_back w moved (is_move net.scheme net packet moved (sight rules net u past packet.prefix up) w is).same_id
  off_back (transient.Ended ending) is = end_back ending

  -- in its mode
  mode_back : (m : Mode) → ComesBack (input.Hop packet up) past (Goes (publish rules net u past (by_mode m (hops_on_tables net u past packet up) (hops_off_tables rules net u past packet up))))
  mode_back Stable = table_back (stable_step (kept_path u packet.epoch packet.prefix past) up)
  mode_back Transient = off_back (transient_hop net packet (sight rules net u past packet.prefix up)) refl

-- so it is with what an input adds
pub comes_back : (rules : Rules) (net : Net) (u : ℕ) (past : Chronicle) (i : Input) → ComesBack i (begun u i past) (given rules net past u i)
unfolding give answer forwards
comes_back rules net u past (input.Hop packet up) = mode_back rules net u past packet up packet.mode
comes_back rules net u past (input.Originate p) = none_back (input.Originate p) past (given rules net past u (input.Originate p)) (λ k. refl)
comes_back rules net u past (input.Withdraw p) = none_back (input.Withdraw p) past (given rules net past u (input.Withdraw p)) (λ k. refl)
comes_back rules net u past (input.Prefer v value) = none_back (input.Prefer v value) past (given rules net past u (input.Prefer v value)) (λ k. refl)
comes_back rules net u past (input.Arrive v s x) = none_back (input.Arrive v s x) (begun u (input.Arrive v s x) past) (given rules net past u (input.Arrive v s x)) (λ k. refl)
comes_back rules net u past (input.Notice v) = none_back (input.Notice v) past (given rules net past u (input.Notice v)) (λ k. refl)
comes_back rules net u past (input.OpenSession v s) = none_back (input.OpenSession v s) past (given rules net past u (input.OpenSession v s)) (λ k. refl)
comes_back rules net u past (input.Flush v) = none_back (input.Flush v) past (given rules net past u (input.Flush v)) (λ k. refl)
comes_back rules net u past input.Snap = none_back input.Snap past (given rules net past u input.Snap) (λ k. refl)
comes_back rules net u past (input.Propose e) = none_back (input.Propose e) (begun u (input.Propose e) past) (given rules net past u (input.Propose e)) (λ k. refl)
comes_back rules net u past (input.Control from m) = none_back (input.Control from m) (begun u (input.Control from m) past) (given rules net past u (input.Control from m)) (λ k. refl)
comes_back rules net u past (input.Inject id p) = none_back (input.Inject id p) past (given rules net past u (input.Inject id p)) (λ k. refl)
