-- What is handed on in the midst of an event.
use Rattle.std.proofs.Common.{ℕ, Bool, true, false, List, [], ◌∷◌, ◌++◌, ◌≡◌, refl, sym, ◌∙◌, ap, ap₂, subst, append_assoc}
use Rattle.std.specs.Prelude.{if◌then◌else◌}
use Rattle.topology.specs.Net.{Net}
use Rattle.trigger_log.specs.Going.{Going}
use Rattle.chronicle.specs.Facts.{Fact, Chronicle, Sent, happen}
use Rattle.node_core.specs.Outputs.{Output, output_by}
use Rattle.run_record.specs.declared.account.Wanted.{Wanted}
use Rattle.run_record.specs.declared.account.Wanted.TheVariants.{Effects}
use Rattle.run_record.specs.declared.outcomes.Effect.{Effect}
use Rattle.run_record.specs.declared.outcomes.Effect.TheVariants.{Queued, Lost}
use Rattle.run_record.specs.Accounts.{AccountView}
use Rattle.run_record.specs.Effects.{effects, effect_by}
use Rattle.world_core.specs.declared.network.Network.{Network}
use Rattle.node_core.specs.declared.outputs.Output.{Output as Given}
use Rattle.world_core.specs.Happening.{AreSending, KeepsNodes, Since}
use Rattle.world_core.specs.Matching.{Counts}
use Rattle.world_core.specs.Telling.{AreTold, IsTold, shown}
use Rattle.run_record.specs.Walks.{still, still_after}
use Rattle.world_core.proofs.Handing.{handed_next, handed_none, happen_last}
use Rattle.world_core.proofs.Returning.{still_last}

-- one effect more is told
since_next : (first past : Chronicle) (f : Fact) (was now : List Effect) (one : Effect) → Since first was past → now ≡ was ++ one ∷ [] → effect_by f past ≡ one ∷ [] → Since first now (f ∷ past)
since_next first past f was now one since is shown =
    ap (λ l. effects first ++ l) is
    ∙ (sym (append_assoc (effects first) was (one ∷ []))
    ∙ (ap (λ l. l ++ one ∷ []) since ∙ ap (λ l. effects past ++ l) (sym shown)))

-- an item shows its way, and whether it was queued or lost
sent_next : (first past : Chronicle) (u : ℕ) (g : Going) (was now : List Effect) (q : Bool) → Since first was past
    → now ≡ was ++ (if q then Queued u g.to else Lost u g.to) ∷ [] → Since first now (Sent u g.to g.session g.item q ∷ past)
sent_next first past u g was now true since is = since_next first past (Sent u g.to g.session g.item true) was now (Queued u g.to) since is refl
sent_next first past u g was now false since is = since_next first past (Sent u g.to g.session g.item false) was now (Lost u g.to) since is refl

-- one effect more is listed, where effects are wanted
pub told_next : (first past : Chronicle) (f : Fact) (was now : AccountView) (one : Effect) → (was.wanted ≡ Effects → Since first was.list past) → now.wanted ≡ was.wanted
    → (was.wanted ≡ Effects → now.list ≡ was.list ++ one ∷ []) → effect_by f past ≡ one ∷ [] → now.wanted ≡ Effects → Since first now.list (f ∷ past)
told_next first past f was now one since same is shown wanted =
    let before = sym same ∙ wanted in
    since_next first past f was.list now.list one (since before) (is before) shown

-- so of an item
pub told_sent : (first past : Chronicle) (u : ℕ) (g : Going) (was now : AccountView) (q : Bool) → (was.wanted ≡ Effects → Since first was.list past) → now.wanted ≡ was.wanted
    → (was.wanted ≡ Effects → now.list ≡ was.list ++ (if q then Queued u g.to else Lost u g.to) ∷ []) → now.wanted ≡ Effects → Since first now.list (Sent u g.to g.session g.item q ∷ past)
told_sent first past u g was now q since same is wanted =
    let before = sym same ∙ wanted in
    sent_next first past u g was.list now.list q (since before) (is before)

-- what stands in the account is all of it
pub told_whole : (account : AccountView) (wanted : Wanted) (list : List Effect) → account.wanted ≡ wanted → list ≡ account.list → account ≡ record { wanted = wanted; list = list }
told_whole account wanted list is all = ap₂ {A = Wanted} {B = List Effect} {C = AccountView} (λ a l. record { wanted = a; list = l }) is (sym all)

-- what leaves nodes as they were, twice
pub keeps_on : {P : Type 0} (a b c : Network P) → KeepsNodes a b → KeepsNodes b c → KeepsNodes a c
keeps_on a b c first second = record {
  policy = second.policy ∙ first.policy;
  topology = second.topology ∙ first.topology;
  nodes = second.nodes ∙ first.nodes;
  crashed = second.crashed ∙ first.crashed;
  triggers = second.triggers ∙ first.triggers;
}

-- which outputs are still to be handed on is not asked
pub sends_with : {P : Type 0} (away : ℕ → Bool) (first now : Chronicle) (counts : Counts) (network : Network P) (account : AccountView) (list : List Given)
    → AreSending away first now counts network account → AreSending away first now counts (record network { outputs = list }) account
sends_with away first now counts network account list was = record {
  are_links = was.are_links;
  are_mails = was.are_mails;
  are_published = was.are_published;
  are_walks = was.are_walks;
  since = was.since;
}

-- nor of what stays
pub keeps_with : {P : Type 0} (old new : Network P) (list : List Given) → KeepsNodes (record old { outputs = list }) new → KeepsNodes old new
keeps_with old new list kept = record {
  policy = kept.policy;
  topology = kept.topology;
  nodes = kept.nodes;
  crashed = kept.crashed;
  triggers = kept.triggers;
}

-- the one output that stands first was handed on
pub handed_first : {P : Type 0} (net : Net) (u : ℕ) (away : ℕ → Bool) (first past : Chronicle) (counts : Counts) (old new : Network P) (told_old told_new : AccountView) (facts : List Fact) (out : Output)
    → AreTold net u past facts → out ∷ [] ≡ shown past facts → AreSending away first past counts old told_old
    → ((away : ℕ → Bool) (past : Chronicle) (f : Fact) → IsTold net u past f → output_by f past ≡ out ∷ [] → AreSending away first past counts old told_old → AreSending (still f away) first (f ∷ past) counts new told_new)
    → AreSending (still_after facts away) first (happen past facts) counts new told_new
handed_first net u away first past counts old new told_old told_new facts out told shows was hands =
    let before = λ (fs : List Fact). AreSending (still_after fs away) first (happen past fs) counts old told_old in
    handed_next net past u before (λ fs. AreSending (still_after fs away) first (happen past fs) counts new told_new) facts [] (out ∷ []) out told shows refl
    (λ fs some same. handed_none net past u before before fs some same was)
    (λ fs f one same earlier.
    subst (λ (mid : Chronicle). AreSending (still_after (fs ++ f ∷ []) away) first mid counts new told_new) (sym (happen_last past fs f))
    (subst (λ (a : ℕ → Bool). AreSending a first (f ∷ happen past fs) counts new told_new) (sym (still_last fs f away))
    (hands (still_after fs away) (happen past fs) f one same earlier)))
