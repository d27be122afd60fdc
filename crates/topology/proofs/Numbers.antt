-- The numbers of all limits and ranges.
use Rattle.std.proofs.Common.{refl}
use Rattle.topology.specs.Limits.{CountsEndAt, NumbersEndAt}

pub counts_end : CountsEndAt
counts_end = record {
  nodes = refl;
  consolidators = refl;
  links = refl;
  prefixes = refl;
  bytes = refl;
  events = refl;
  triggers = refl;
  control = refl;
  packets = refl;
  frames = refl;
  members = refl;
  times = refl;
  epochs = refl;
  entries = refl;
  updates = refl;
  marks = refl;
  pending = refl;
  sessions = refl;
  trail = refl;
}

pub numbers_end : NumbersEndAt
numbers_end = record {
  load = refl;
  node = refl;
  preference = refl;
  hops = refl;
  message = refl;
  packet = refl;
  epoch = refl;
  value = refl;
}
