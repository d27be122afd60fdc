use Rattle.std.proofs.Common.{ℕ, ◌≡◌, take}
use Rattle.topology.specs.Net.{Net}
use Rattle.path_vector.specs.History.{History}
use Rattle.path_vector.specs.Standing.{StandsFor}
use Rattle.trigger_log.specs.Offered.{AreChosen, ArePlaced, prefixes_of}
use Rattle.trigger_log.proofs.offers.offers_again.Given as goal

abbrev pub invariant-loop-i : goal.invariant-loop-i
invariant-loop-i g l = record {
  covers : prefixes_of l.again.items ≡ take l.i (prefixes_of l.offers);
  chosen : (policy : _) (net : Net) (u : ℕ) (h : History) → StandsFor policy net u l.routes h → ArePlaced net l.offers
      → AreChosen (g.P.Policy.rules policy) net u h l.again.items;
}
