-- Whether links and owners stayed the same since a packet left the tables.
use Rattle.std.specs.Prelude.{ℕ, Bool, true, false, not, ◌&&◌, Option, Some, None, List, [], ◌∷◌, if◌then◌else◌}
use Rattle.topology.specs.Lists.{has}
use Rattle.topology.specs.Net.{Net}
use Rattle.path_vector.specs.declared.causes.Cause.{Cause}
use Rattle.path_vector.specs.declared.causes.Cause.TheVariants.{Originate, Withdraw}
use Rattle.path_vector.specs.History.{concerns, owns}
use Rattle.trigger_log.specs.Entries.{reads}
use Rattle.chronicle.specs.Facts.{Fact, Chronicle, Log, Fail, Restore}
use Rattle.chronicle.specs.Logs.{log_of}
use Rattle.chronicle.specs.Run.{up_links}
use Rattle.chronicle.specs.Walks.{Standing, standing}
use Rattle.walk_laws.specs.Readings.{is_transient}
use Rattle.deflect_delivery.specs.Terrain.{Terrain}

-- the cause makes its node an owner, or ends that
abbrev pub makes_owner : Cause → Bool
makes_owner Originate = true
makes_owner Withdraw = true
makes_owner other = false

-- a link fails or is restored, or a node becomes an owner of p or gives that up
abbrev pub changes : ℕ → Fact → Bool
changes p (Log node entry) = concerns p entry.read.scope && makes_owner entry.read.cause
changes p (Fail a b) = true
changes p (Restore a b) = true
changes p other = false

-- the packet stands somewhere, off the tables
abbrev pub is_off : Option Standing → Bool
is_off None = false
is_off (Some at) = is_transient at.packet.mode

-- since packet k left the tables no such fact was added; this holds of a packet that has not left them
abbrev pub stays : ℕ → ℕ → Chronicle → Bool
stays k p [] = true
stays k p (f ∷ past) = if is_off (standing k past) then not (changes p f) && stays k p past else true

-- the links that are up, and the owners of p, whether they are crashed or not
abbrev pub terrain_now : Net → ℕ → Chronicle → Terrain
terrain_now net p past = record {
  joins = λ u w. has (up_links net u past) w;
  owns = λ u. owns (reads (log_of u past)) p;
}
