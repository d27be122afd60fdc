-- In every run the triggers that an entry lists ascend.
use Rattle.std.proofs.Common.{ℕ, true, false, cond, ◌⊎◌, inl, inr, List, [], ◌∷◌, ◌++◌, ◌≡◌, refl, sym, ◌∙◌, subst}
use Rattle.std.specs.List.{AllByRecursion}
use Rattle.topology.specs.declared.names.Trigger.{Trigger}
use Rattle.topology.specs.declared.links.LinkState.TheVariants.{Up}
use Rattle.topology.specs.Lists.{has}
use Rattle.topology.specs.Triggers.{Ascend}
use Rattle.topology.specs.Net.{Net, IsValid, neighbours}
use Rattle.path_vector.specs.Rules.{Rules}
use Rattle.path_vector.specs.History.{held}
use Rattle.trigger_log.specs.Entries.{Entry, Update, reads, inbox, is_local, is_session, next_trigger}
use Rattle.trigger_log.specs.Making.{making}
use Rattle.trigger_log.specs.Sending.{news, outbox}
use Rattle.trigger_log.specs.Going.{Item, News, numbered}
use Rattle.trigger_log.proofs.HeldRows.{pending_ascends}
use Rattle.trigger_log.proofs.Listed.{news_each}
use Rattle.chronicle.specs.declared.events.Event.{Event}
use Rattle.chronicle.specs.Facts.{Chronicle, Took, Fail, Restore}
use Rattle.chronicle.specs.Logs.{log_of}
use Rattle.chronicle.specs.Links.{link}
use Rattle.chronicle.specs.Channels.{channel}
use Rattle.chronicle.specs.Messages.{updates}
use Rattle.chronicle.specs.Steps.{heard, write, open_session, take_cut}
use Rattle.chronicle.specs.Run.{run}
use Rattle.chronicle.proofs.Blocks.{log_write, opening, log_open, log_take_cut}
use Rattle.chronicle.proofs.Quieting.{log_quiet}
use Rattle.chronicle.proofs.Moves.{IsOver, Kept, run_kept}
use Rattle.cut_laws.proofs.Numbering.{behind}
use Rattle.cut_laws.proofs.Updates.{not_empty}
use Rattle.cut_laws.proofs.Sound.{Sound, order, of_grown, grown}
use Rattle.cut_laws.proofs.Running.{sound_kept, start_sound}
use Rattle.agreement_laws.proofs.Giving.{own_lists}

-- the list of each entry ascends
abbrev pub AllAscend : List Entry → Type 0
AllAscend [] = Unit {0}
AllAscend (k ∷ h) = Ascend k.triggers × AllAscend h

-- the list of an update does
abbrev Rises : Update → Type 0
Rises x = Ascend x.triggers

all_of_both : (P : Update → Type 0) (xs ys : List Update) → AllByRecursion P xs → AllByRecursion P ys → AllByRecursion P (xs ++ ys)
all_of_both P [] ys all more = more
all_of_both P (x ∷ xs) ys all more = (all.0, all_of_both P xs ys all.1 more)

-- ---- what a log sends

module _ (rules : Rules) (net : Net) (v : ℕ) where
  -- each update that an entry sends lists what the entry lists, or what was held back
  pub news_ascend : (h : List Entry) (k : Entry) (w : ℕ) → Ascend k.triggers → AllByRecursion (λ (x : Update). Ascend x.triggers) (news rules net v h k w)
  news_ascend h k w own = news_each Rises (making rules net v h k) w (λ p there changes. own) (λ p there flushed waits. pending_ascends rules net v h w p)

  outbox_ascend : (h : List Entry) (w s : ℕ) → AllAscend h → AllByRecursion Rises (outbox rules net v h w s)
  unfolding outbox
  outbox_ascend [] w s up = tt
  outbox_ascend (k ∷ h) w s up =
      elim (is_session (held (k.read ∷ reads h) w) s) as (λ b. AllByRecursion Rises (cond b (outbox rules net v h w s ++ news rules net v h k w) (outbox rules net v h w s))) [
        | true ↦ all_of_both Rises (outbox rules net v h w s) (news rules net v h k w) (outbox_ascend h w s up.1) (news_ascend h k w up.0)
        | false ↦ outbox_ascend h w s up.1
      ]

module _ (rules : Rules) (net : Net) (past : Chronicle) (sound : Sound rules net past) (up : (u : ℕ) → AllAscend (log_of u past)) where
  -- the update in front of a way is one of those that its sender's log sends
  front_ascends : (v u s n : ℕ) (x : Update) (rest : List Item) → link v u past ≡ Up s → channel v u past ≡ News n x ∷ rest → Ascend x.triggers
  front_ascends v u s n x rest is_up is =
      (elim (has (neighbours net v) u) as (λ b. has (neighbours net v) u ≡ b → Ascend x.triggers) [
        | true ↦ λ near.
            let found = behind Rises 1 (inbox (log_of u past) v s) (outbox rules net v (log_of v past) u s) n x (updates rest)
            (outbox_ascend rules net v (log_of v past) u s (up v)) (order rules net past v u s n x rest sound is_up is ∙ sound.links.said v u s near) in
            found.1
        | false ↦ λ far.
            absurd (not_empty (numbered 1 (inbox (log_of u past) v s)) (News n x) (updates rest) (order rules net past v u s n x rest sound is_up is ∙ sound.links.strangers v u s far))
      ]) refl

-- ---- all moves

-- what holds of logs and links, and that lists ascend
record InOrder (rules : Rules) (net : Net) (past : Chronicle) : Type 0 where
  sound : Sound rules net past
  up : (u : ℕ) → AllAscend (log_of u past)

-- one entry more
entered : (past now : Chronicle) (u : ℕ) (k : Entry) → ((v : ℕ) → log_of v now ≡ grown u k past v) → Ascend k.triggers → ((v : ℕ) → AllAscend (log_of v past)) → (v : ℕ) → AllAscend (log_of v now)
entered past now u k logs own before v =
    subst AllAscend (sym (logs v)) (of_grown (λ w l. AllAscend l) u k past (own, before u) (λ w off. before w) v)

-- where all logs are as they were
same_order : (past now : Chronicle) → ((v : ℕ) → log_of v now ≡ log_of v past) → ((v : ℕ) → AllAscend (log_of v past)) → (v : ℕ) → AllAscend (log_of v now)
same_order past now logs before v = subst AllAscend (sym (logs v)) (before v)

-- what an entry of a node's own lists is one trigger at most
own_ascends : (u : ℕ) (h : List Entry) (local : Type 0) (ts : List Trigger) → (local × (ts ≡ next_trigger u h ∷ [])) ⊎ (ts ≡ []) → Ascend ts
own_ascends u h local ts (inl own) = subst Ascend (sym own.1) (tt, tt)
own_ascends u h local ts (inr none) = subst Ascend (sym none) tt

order_kept : (rules : Rules) (net : Net) → IsValid net → Kept rules net (InOrder rules net)
order_kept rules net valid =
    let kept = sound_kept rules net valid in
    record {
      writes = λ past u carried k before are may. record {
        sound = kept.writes past u carried k before.sound are may;
        up = entered past (write rules net carried u k past) u k (log_write rules net carried u k past)
            (own_ascends u (log_of u past) (is_local k.read.cause ≡ true) k.triggers (own_lists (IsOver u past) u (log_of u past) k.read.cause k.triggers may.own may.lists)) before.up;
      };
      meets_update = λ past v u s carried n x before are may turn.
          let taken = Took v u s (News n x) ∷ past in
          record {
            sound = kept.meets_update past v u s carried n x before.sound are may turn;
            up = entered past (write rules net carried u (heard v s n x) taken) u (heard v s n x) (log_write rules net carried u (heard v s n x) taken)
                (front_ascends rules net past before.sound before.up v u s n x may.front.0 may.up may.front.1) before.up;
          };
      meets = λ past v u s x e before may is low. record { sound = kept.meets past v u s x e before.sound may is low; up = same_order past (Took v u s x ∷ past) (λ w. refl) before.up };
      rises = λ past u carried e before are high. record {
        sound = kept.rises past u carried e before.sound are high;
        up = same_order past (take_cut net carried u e past) (log_take_cut net carried u e past) before.up;
      };
      meets_higher = λ past v u s carried x e before are may is high. record {
        sound = kept.meets_higher past v u s carried x e before.sound are may is high;
        up = same_order past (take_cut net carried u e (Took v u s x ∷ past)) (log_take_cut net carried u e (Took v u s x ∷ past)) before.up;
      };
      opens = λ past u v s carried before are is_up none higher. record {
        sound = kept.opens past u v s carried before.sound are is_up none higher;
        up = entered past (open_session carried u v s past) u (opening carried u v s past) (log_open carried u v s past) (tt, tt) before.up;
      };
      breaks = λ past a b s before is_up. record { sound = kept.breaks past a b s before.sound is_up; up = same_order past (Fail a b ∷ past) (λ w. refl) before.up };
      mends = λ past a b s before down. record { sound = kept.mends past a b s before.sound down; up = same_order past (Restore a b ∷ past) (λ w. refl) before.up };
      quiet = λ past f before quiet. record { sound = kept.quiet past f before.sound quiet; up = same_order past (f ∷ past) (log_quiet f past quiet) before.up };
    }

-- in every run it is so
pub run_ascends : (rules : Rules) (net : Net) (events : List Event) (u : ℕ) → IsValid net → AllAscend (log_of u (run rules net events))
run_ascends rules net events u valid = (run_kept rules net (InOrder rules net) (order_kept rules net valid) events (record { sound = start_sound rules net; up = λ v. tt })).up u
