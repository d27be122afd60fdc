use Rattle.world_core.proofs.laws.every_run_is_sound.Goals as goal

pub returns : goal.returns
returns c rules net events valid = record {
  said = λ u. c.a_node_says_what_its_log_sends.ensures rules net events u valid;
  order = λ v u. c.a_link_keeps_the_order.ensures rules net events v u valid;
  channels = λ v u s. c.a_channel_is_what_was_queued_and_not_taken.ensures rules net events v u s valid;
  links = λ a b. c.a_link_is_up_where_failures_and_restorings_are_even.ensures rules net events a b;
  one_link = λ a b. c.both_ends_see_one_link.ensures rules net events a b;
  paths = λ u. c.received_paths_begin_with_their_senders.ensures rules net events u valid;
  cuts = λ e u v. c.the_cuts_of_an_epoch_fit_together.ensures rules net events e u v valid;
  recordings = λ e u v. c.a_recording_lists_what_is_missing.ensures rules net events e u v valid;
  rest = λ e nodes. c.the_cuts_of_an_epoch_are_at_rest_as_told.ensures rules net events e nodes valid;
  unseen = c.what_was_dropped_is_not_seen.ensures.unseen rules net events valid;
  in_cuts = c.what_was_dropped_is_not_seen.ensures.in_cuts rules net events valid;
  tables = λ e nodes. c.the_tables_of_a_value_continue.ensures rules net events e nodes valid;
  agreed = c.a_run_is_agreed.ensures rules net events valid;
  walked = c.a_run_is_walked.ensures rules net events valid;
  delivered = c.deflection_delivers.ensures rules net events valid;
}
