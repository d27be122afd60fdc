use Rattle.std.proofs.Common.{ℕ, ◌≡◌, filter}
use Rattle.std.specs.List.{range_with_len}
use Rattle.path_vector.specs.History.{History}
use Rattle.path_vector.specs.Standing.{StandsFor}
use Rattle.trigger_log.specs.Offered.{AreChosen, ArePlaced, goes_by, prefixes_of}
use Rattle.trigger_log.proofs.offers.offers_by.Given as goal

abbrev pub invariant-loop-place : goal.invariant-loop-place
invariant-loop-place g l = record {
  placed : ArePlaced l.topology l.offers.items;
  covers : (policy : _) (u : ℕ) (h : History) → StandsFor policy l.topology u l.routes h
      → prefixes_of l.offers.items ≡ filter (goes_by (g.P.Policy.rules policy) l.topology u h l.nbr) (range_with_len 0 l.place);
  chosen : (policy : _) (u : ℕ) (h : History) → StandsFor policy l.topology u l.routes h → AreChosen (g.P.Policy.rules policy) l.topology u h l.offers.items;
}
