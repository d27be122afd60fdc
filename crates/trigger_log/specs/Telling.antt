-- What telling a neighbour adds to the lists of an entry.
use Rattle.std.specs.Prelude.{ℕ, suc, ◌+◌, ◌≡◌, List, [], ◌++◌, length, map}
use Rattle.topology.specs.declared.items.Sent.{Sent}
use Rattle.trigger_log.specs.declared.outgoing.Outgoing.{Outgoing}
use Rattle.trigger_log.specs.declared.listeners.Listener.{Listener}
use Rattle.trigger_log.specs.declared.listeners.Said.{Said}
use Rattle.trigger_log.specs.Entries.{Update}
use Rattle.trigger_log.specs.Sending.{sent_from}
use Rattle.trigger_log.specs.Going.{Going, News, going_of, going_to, numbered}

-- what an entry tells: the items that it lists, and the messages that go out
pub record Speech : Type 0 where
  pub sent : List Sent
  pub out : List Outgoing

-- what was told, as the definitions see it
abbrev pub speech_of : Said → Speech
speech_of said = record { sent = said.sent; out = said.outgoing.items }

-- nothing said
abbrev pub silence : Speech
silence = record { sent = []; out = [] }

-- an update as it goes to the listener
abbrev pub update_going : Listener → ℕ → Update → Going
update_going listener seq update = record { to = listener.nbr; session = listener.session; item = News seq update }

-- the listener is told these updates: they are listed and go out, numbered on after the items that it was sent before
pub record TellsUpdates (listener : Listener) (list : List Update) (before after : Speech) (count : ℕ) : Type 0 where
  pub counts : count ≡ listener.sent + length list
  pub sent : after.sent ≡ before.sent ++ sent_from listener.nbr listener.session (suc listener.sent) list
  pub out : map going_of after.out
      ≡ map going_of before.out ++ going_to listener.nbr listener.session (numbered (suc listener.sent) list)
