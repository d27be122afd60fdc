-- Properties of every fact in a node's own run.
use Rattle.std.proofs.Common.{ℕ, ◌^◌, ◌≡◌, Bool, true, ◌&&◌, ◌==◌, nat_lt}
use Rattle.std.specs.List.{list_all}
use Rattle.topology.specs.Lists.{has}
use Rattle.topology.specs.Net.{Net, neighbours}
use Rattle.path_vector.specs.declared.causes.Cause.{Cause}
use Rattle.path_vector.specs.declared.causes.Cause.TheVariants.{Originate, Withdraw, Recv, Down, Up, Ready, Prefer, Flush}
use Rattle.trigger_log.specs.Entries.{Entry}
use Rattle.chronicle.specs.Facts.{Fact, Chronicle, Log, Sent, Took, Fail, Restore, Raise, Start, Mail, Heard, Crash, Restart, Publish, Visit, End}
use Rattle.message_fitting.specs.ControlFits.{epoch_fits, ballot_fits, message_fits, row_lists_fit, scope_fits, value_fits}
use Rattle.node_core.specs.Fits.{item_fits, path_fits}
use Rattle.message_fitting.specs.Names.{is_number}
use Rattle.message_fitting.specs.PacketFits.{packet_fits}
use Rattle.admission_laws.specs.Handing.{table_fits, is_short}

-- the neighbour, the session and the path of the cause fit
abbrev pub cause_fits : Net → ℕ → Cause → Bool
cause_fits net u Originate = true
cause_fits net u Withdraw = true
cause_fits net u (Recv v s seq path) = has (neighbours net u) v && (is_number s && path_fits net v path)
cause_fits net u (Down v s) = has (neighbours net u) v && is_number s
cause_fits net u (Up v s) = has (neighbours net u) v && is_number s
cause_fits net u (Ready v s) = has (neighbours net u) v && is_number s
cause_fits net u (Prefer v value) = has (neighbours net u) v
cause_fits net u (Flush v) = has (neighbours net u) v

-- the entry is one that u may have
abbrev pub entry_fits : Net → ℕ → Entry → Bool
entry_fits net u k = row_lists_fit net k.read.scope k.triggers && (scope_fits net k.read.scope && cause_fits net u k.read.cause)

-- the fact is one that the run of u alone may have
abbrev pub fact_fits : Net → ℕ → Fact → Bool
fact_fits net u (Log w k) = w == u && entry_fits net u k
fact_fits net u (Sent from to s item queued) = from == u && (has (neighbours net u) to && (is_number s && item_fits net u item))
fact_fits net u (Took from to s item) = to == u && (has (neighbours net u) from && (is_number s && item_fits net from item))
fact_fits net u (Fail a b) = true
fact_fits net u (Restore a b) = true
fact_fits net u (Raise w e) = w == u && epoch_fits e
fact_fits net u (Start w e b) = w == u && (epoch_fits e && ballot_fits net b)
fact_fits net u (Mail from to m) = from == u && (has net.nodes to && (message_fits net u m && is_short m))
fact_fits net u (Heard w from m) = w == u && message_fits net from m
fact_fits net u (Crash w) = true
fact_fits net u (Restart w) = true
fact_fits net u (Publish w e value paths) = w == u && (epoch_fits e && (value_fits net value && table_fits net u paths))
fact_fits net u (Visit w packet) = has net.nodes w && packet_fits net packet
fact_fits net u (End id ending) = nat_lt id (2 ^ 32)

-- all facts of the run fit
abbrev pub AllFacts : Net → ℕ → Chronicle → Type 0
AllFacts net u past = list_all (fact_fits net u) past ≡ true
