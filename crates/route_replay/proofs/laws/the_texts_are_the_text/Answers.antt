use Rattle.route_replay.proofs.Turns.{texts_text}
use Rattle.route_replay.proofs.laws.the_texts_are_the_text.Goals as goal

pub returns : goal.returns
returns c = texts_text
