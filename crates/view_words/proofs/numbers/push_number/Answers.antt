use Rattle.std.proofs.Common.{rules, arith}
use Rattle.std.proofs.lemmas.Fmt.{decimal_digit}
use Rattle.view_words.proofs.numbers.push_number.Goals as goal

-- one digit is the whole text
pub returns-then-number-lt10 : goal.returns-then-number-lt10
returns-then-number-lt10 c = search (rules, decimal_digit c.args.number (omega arith), c.push.ensures.ascii (omega arith))
