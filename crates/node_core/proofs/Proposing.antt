-- Where no value is proposed that has more triggers than one may have.
use Rattle.std.proofs.Common.{ℕ, Bool, true, false, ◌==◌, ◌&&◌, ◌||◌, List, [], ◌∷◌, ◌≡◌, refl, sym, ◌∙◌, ap, subst}
use Rattle.std.specs.List.{list_any}
use Rattle.topology.specs.Net.{Net}
use Rattle.path_vector.specs.Rules.{Rules}
use Rattle.epoch_report.specs.Trimming.{trimmed_report}
use Rattle.consolidator.specs.declared.messages.Mail.{Mail as Given}
use Rattle.consolidator.specs.declared.messages.Outbox.{Outbox}
use Rattle.consolidator.specs.declared.messages.Reply.{Reply}
use Rattle.consolidator.specs.declared.messages.Reply.TheVariants as reply
use Rattle.consolidator.specs.Messages.{Message, Reports}
use Rattle.consolidator.specs.Seen.{message_seen, mails_seen}
use Rattle.chronicle.specs.Facts.{Fact, Chronicle, Mail, happen}
use Rattle.chronicle.specs.Inputs.{Input}
use Rattle.chronicle.specs.Steps.{Carried, mails}
use Rattle.chronicle.specs.Giving.{give}
use Rattle.chronicle.specs.Publications.{publish}
use Rattle.chronicle.specs.Run.{chronicle_of}
use Rattle.chronicle.proofs.Blocks.{same_number}
use Rattle.chronicle.proofs.OwnFacts.{IsOf, given_by_facts}
use Rattle.chronicle.proofs.Publishing.{published_same}
use Rattle.node_core.specs.declared.duties.Duty.{Duty}
use Rattle.node_core.specs.Beside.{IsBeside}
use Rattle.node_core.specs.Deciding.{MayDo, acted}
use Rattle.node_core.specs.NodeLimits.{is_large, is_too_large, has_large_value, proposes_large}
use Rattle.node_core.proofs.ByActs.{Quiet, acts_keep}

-- one of the messages proposes such a value
abbrev pub any_large : List (ℕ × Message) → Bool
any_large ms = list_any (λ (m : ℕ × Message). is_large m.1) ms

-- ---- a reply

-- the same of messages as they are seen
seen_large : (list : List Given) → any_large (mails_seen list) ≡ list_any (λ (mail : Given). is_large (message_seen mail.message)) list
seen_large [] = refl
seen_large (mail ∷ list) = ap (λ b. is_large (message_seen mail.message) || b) (seen_large list)

-- the messages of a reply
pub reply_large : (r : Reply) (list : Outbox) (b : Bool) → r ≡ reply.Sent list → proposes_large r ≡ b → any_large (mails_seen list) ≡ b
reply_large r list b is same = seen_large list ∙ subst (λ s. proposes_large s ≡ b) is same

-- ---- facts

no_report : (b : Bool) → (b && false) ≡ false
no_report true = refl
no_report false = refl

either_first : (a b c : Bool) → (a || (b || c)) ≡ ((b || a) || c)
either_first true true c = refl
either_first true false c = refl
either_first false true c = refl
either_first false false c = refl

module _ (u : ℕ) where
  -- a fact that proposes no such value changes nothing of that
  pub small_on : (f : Fact) (past : Chronicle) → is_too_large u f ≡ false → has_large_value u (f ∷ past) ≡ has_large_value u past
  small_on f past small = ap (λ b. b || has_large_value u past) small

  -- a fact that is none of agreement proposes none
  quiet_small : (f : Fact) → Quiet f → is_too_large u f ≡ false
  quiet_small (Mail from to m) quiet = absurd (cc quiet.no_control)
  quiet_small other quiet = refl

  -- nor does one of others
  pub beside_small : (f : Fact) → IsBeside u f → is_too_large u f ≡ false
  beside_small (Mail from to m) off = ap (λ b. b && is_large m) off
  beside_small other off = refl

  -- a fact of another node
  another_small : (v : ℕ) → (v == u) ≡ false → (f : Fact) → IsOf v f → is_too_large u f ≡ false
  another_small v off (Mail from to m) of = ap (λ b. b && is_large m) (subst (λ n. (n == u) ≡ false) (sym of) off)
  another_small v off other of = refl

  -- messages that u sends
  pub large_mails : (ms : List (ℕ × Message)) (now : Chronicle) → has_large_value u (happen now (mails u ms)) ≡ (any_large ms || has_large_value u now)
  large_mails [] now = refl
  large_mails (m ∷ ms) now =
      large_mails ms (Mail u m.0 m.1 ∷ now)
      ∙ (ap (λ b. any_large ms || ((b && is_large m.1) || has_large_value u now)) (same_number u)
      ∙ either_first (any_large ms) (is_large m.1) (has_large_value u now))

module _ (rules : Rules) (net : Net) (u : ℕ) where
  -- what the node does of its own accord, or over its links
  pub acted_small : (carried : Carried) (past : Chronicle) (act : Duty) → MayDo net u past act → has_large_value u past ≡ false → has_large_value u (acted rules net carried u past act) ≡ false
  acted_small carried past act may was =
      acts_keep rules net u (λ now. has_large_value u now ≡ false) (λ now. has_large_value u now ≡ false)
      (record {
        before = λ f now quiet is. small_on u f now (quiet_small u f quiet) ∙ is;
        nothing = λ now is. is;
        rises = λ e now above is. is;
        further = λ f now quiet is. small_on u f now (quiet_small u f quiet) ∙ is;
        reports = λ w e c now is. small_on u (Mail u w (Reports (trimmed_report rules net u e c))) now (no_report (u == u)) ∙ is;
      })
      carried past act may was

  -- a table that is published
  pub large_publish : (v : ℕ) (before now : Chronicle) → has_large_value v (publish rules net u before now) ≡ has_large_value v now
  large_publish v before now = published_same rules net u before now (λ past. has_large_value v past) (λ e value paths. refl)

  -- what another node does with an input
  pub given_small : (v : ℕ) → (v == u) ≡ false → (carried : Carried) (past : Chronicle) (i : Input) → has_large_value u (chronicle_of past (give rules net carried v past i)) ≡ has_large_value u past
  given_small v off carried past i =
      given_by_facts rules net v (λ now. has_large_value u now ≡ has_large_value u past)
      (λ f now of same. small_on u f now (another_small u v off f of) ∙ same) carried past i refl
