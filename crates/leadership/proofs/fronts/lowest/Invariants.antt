use Rattle.std.proofs.Common.{take}
use Rattle.leadership.specs.Fronts.{IsLow}
use Rattle.leadership.proofs.fronts.lowest.Given as goal

abbrev pub invariant-loop-site : goal.invariant-loop-site
invariant-loop-site l = IsLow l.fronts (take l.site-index l.sites) l.count l.low
