use Rattle.text_lines.proofs.Joined.{decimal_is_word}
use Rattle.text_lines.proofs.laws.numbers_are_words.Goals as goal

pub returns-clause-word : goal.returns-clause-word
returns-clause-word c = decimal_is_word
