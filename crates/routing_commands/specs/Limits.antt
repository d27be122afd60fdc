-- The numbers of all limits and ranges: those that topology writes out, and that of a journal.
use Rattle.std.specs.Prelude.{◌≡◌}
use Rattle.acceptor_journal.specs.declared.journal.TheConstants.{MOST_JOURNAL_BYTES}
use Rattle.topology.specs.Limits.{CountsEndAt, NumbersEndAt}

-- each count ends there, each number that may be named, and the bytes of a journal
pub record LimitsAre : Type 0 where
  pub counts : CountsEndAt
  pub numbers : NumbersEndAt
  pub journal : MOST_JOURNAL_BYTES ≡ 268435456
