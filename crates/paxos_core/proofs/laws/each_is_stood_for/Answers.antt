use Rattle.std.proofs.Common.{refl}
use Rattle.paxos_core.specs.Readings.{accepted, promised}
use Rattle.paxos_core.proofs.Standing.{stood}
use Rattle.paxos_core.proofs.laws.each_is_stood_for.Goals as goal

pub returns : goal.returns
returns g c = record {
  acceptor = λ past u. (record { promised = promised past u; accepted = accepted past u }, record { promised = refl; accepted = refl });
  proposer = λ members past u o. stood members past u o;
}
