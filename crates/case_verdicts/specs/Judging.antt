-- When a case passes.
use Rattle.std.specs.Prelude.{◌≡◌}
use Rattle.std.specs.String.{string_bytes}
use Rattle.case_verdicts.specs.declared.outcomes.Outcome.{Outcome}
use Rattle.case_verdicts.specs.declared.outcomes.Wanted.{Wanted}
use Rattle.case_verdicts.specs.declared.outcomes.Wanted.TheVariants.{Whole, Lines}
use Rattle.case_verdicts.specs.declared.verdicts.Verdict.{Verdict}
use Rattle.case_verdicts.specs.declared.verdicts.Verdict.TheVariants.{Passed, Failed}

-- the two runs ended with the same line, wrote the same text, and sent the same bytes over their links
pub record IsSame (wanted came : Outcome) : Type 0 where
  pub same_end : string_bytes wanted.end ≡ string_bytes came.end
  pub same_text : string_bytes wanted.text ≡ string_bytes came.text
  pub same_answers : wanted.answers.items ≡ came.answers.items

-- a case whose whole text is known passes exactly where its outcome is what is wanted
abbrev pub Judges : Verdict → Wanted → Outcome → Type 0
Judges Passed (Whole wanted) came = IsSame wanted came
Judges (Failed cause) (Whole wanted) came = ¬ (IsSame wanted came)
Judges verdict (Lines part) came = Unit {0}
