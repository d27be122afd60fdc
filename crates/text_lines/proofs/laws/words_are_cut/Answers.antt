use Rattle.text_lines.proofs.Joined.{words_are_words}
use Rattle.text_lines.proofs.laws.words_are_cut.Goals as goal

pub returns-clause-words : goal.returns-clause-words
returns-clause-words c = words_are_words
