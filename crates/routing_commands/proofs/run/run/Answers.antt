use Rattle.std.proofs.Common.{refl}
use Rattle.routing_commands.proofs.run.run.Goals as goal

-- each constant is its number
pub returns-clause-limits : goal.returns-clause-limits
returns-clause-limits g c = record {
  counts = record {
    nodes = refl;
    consolidators = refl;
    links = refl;
    prefixes = refl;
    bytes = refl;
    events = refl;
    triggers = refl;
    control = refl;
    packets = refl;
    frames = refl;
    members = refl;
    times = refl;
    epochs = refl;
    entries = refl;
    updates = refl;
    marks = refl;
    pending = refl;
    sessions = refl;
    trail = refl;
  };
  numbers = record {
    load = refl;
    node = refl;
    preference = refl;
    hops = refl;
    message = refl;
    packet = refl;
    epoch = refl;
    value = refl;
  };
  journal = refl;
}
