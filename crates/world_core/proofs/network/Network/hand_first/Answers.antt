use Rattle.std.proofs.Common.{List, ◌≡◌, map, subst}
use Rattle.std.proofs.lemmas.Result.{on_ok_weaker}
use Rattle.chronicle.specs.Facts.{Fact, happen}
use Rattle.node_core.specs.Firsts.{seen_first}
use Rattle.node_core.specs.Outputs.{Logged, output_of}
use Rattle.world_core.specs.Happening.{AreSending}
use Rattle.world_core.specs.Telling.{shown}
use Rattle.run_record.specs.Walks.{still_after}
use Rattle.world_core.proofs.Handing.{handed_none}
use Rattle.world_core.proofs.Shown.{handed_first}
use Rattle.world_core.proofs.network.Network.hand_first.Goals as goal

pub returns-in-Nothing-clause-sending : goal.returns-in-Nothing-clause-sending
returns-in-Nothing-clause-sending g c away first past counts facts told shows was =
    let before = λ (fs : List Fact). AreSending (still_after fs away) first (happen past fs) counts c.args.self.now c.args.account.now in
    handed_none c.args.self.now.topology.value past c.args.node before before
    facts told (subst (λ l. map output_of (seen_first l) ≡ shown past facts) c.in-Nothing.is shows) was

pub returns-in-Quiet-clause-sending : goal.returns-in-Quiet-clause-sending
returns-in-Quiet-clause-sending g c =
    on_ok_weaker c.hand.result (λ sending away first past counts facts told shows was.
    handed_first c.args.self.now.topology.value c.args.node away first past counts c.args.self.now c.hand.new.self c.args.account.now c.hand.new.account facts (Logged c.in-Quiet.index) told
    (subst (λ l. map output_of (seen_first l) ≡ shown past facts) c.in-Quiet.is shows) was
    (λ away past f. sending away first past counts f)) c.hand.ensures.sending

pub returns-in-Telling-clause-sending : goal.returns-in-Telling-clause-sending
returns-in-Telling-clause-sending g c =
    on_ok_weaker c.hand_entry.result (λ sending away first past counts facts told shows was.
    sending away first past counts facts told (subst (λ l. map output_of (seen_first l) ≡ shown past facts) c.in-Telling.is shows) was) c.hand_entry.ensures.sending
