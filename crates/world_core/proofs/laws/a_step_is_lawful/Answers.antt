use Rattle.std.proofs.Common.{◌∷◌, ◌++◌, [], length}
use Rattle.chronicle.specs.Run.{run, step}
use Rattle.world_core.proofs.Lawful.{no_stray, regular_of, rounds_left}
use Rattle.world_core.proofs.Proposing.{values_after}
use Rattle.world_core.proofs.Restarting.{tallies_alone}
use Rattle.world_core.proofs.ShortLists.{lists_after}
use Rattle.world_core.proofs.Stepped.{completed_last, published_then}
use Rattle.world_core.proofs.laws.a_step_is_lawful.Goals as goal

pub returns-clause-regular : goal.returns-clause-regular
returns-clause-regular c rules net events valid short =
    regular_of net (run rules net events) (length events) short (λ v u. c.the_front_item_is_the_next.ensures rules net events v u valid)
    (λ v u s x rest. c.what_arrives_may_be_heard.ensures rules net events v u s x rest valid)
    (c.every_run_is_sound.ensures rules net events valid).order (c.sessions_are_few.ensures rules net events)

pub returns-clause-lists : goal.returns-clause-lists
returns-clause-lists c rules net events event valid =
    lists_after rules net events event valid
    (values_after rules net events event (λ from to e b value. c.values_have_few_triggers.ensures.accepts rules net (events ++ event ∷ []) from to e b value valid))
    (λ u. ((c.every_run_is_sound.ensures rules net (events ++ event ∷ []) valid).said u).fits) (λ u t. c.triggers_are_given.ensures.listed rules net (events ++ event ∷ []) u t valid)

pub returns-clause-reasons : goal.returns-clause-reasons
returns-clause-reasons c rules net events event what valid short tells =
    no_stray (run rules net events) (step rules net (run rules net events) event) what tells
    (c.no_world_is_out_of_turn.ensures.sessions rules net events event valid) (c.no_world_is_out_of_turn.ensures.updates rules net events event valid)
    (λ b. c.rounds_are_few.ensures.enough rules net events event b (rounds_left (length events) short))

pub returns-clause-step : goal.returns-clause-step
returns-clause-step c rules net events event valid within = record {
  sound = c.every_run_is_sound.ensures rules net (events ++ event ∷ []) valid;
  at_once = completed_last rules net events event (c.a_table_is_published_in_time.ensures.at_once rules net events event);
  only_then = published_then rules net events event (c.a_table_is_published_in_time.ensures.only_then rules net events event);
  restarts = tallies_alone rules net events event;
  within = within;
}
