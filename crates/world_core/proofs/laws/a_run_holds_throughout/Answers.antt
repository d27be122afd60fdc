use Rattle.world_core.proofs.Restarting.{tallies_alone}
use Rattle.world_core.proofs.Stepped.{completed_last, published_then}
use Rattle.world_core.proofs.laws.a_run_holds_throughout.Goals as goal

pub returns : goal.returns
returns c rules net events valid = record {
  sound = λ front _. c.every_run_is_sound.ensures rules net front valid;
  at_once = λ front event _. completed_last rules net front event (c.a_table_is_published_in_time.ensures.at_once rules net front event);
  only_then = λ front event _. published_then rules net front event (c.a_table_is_published_in_time.ensures.only_then rules net front event);
  restarts = λ front event _. tallies_alone rules net front event;
}
