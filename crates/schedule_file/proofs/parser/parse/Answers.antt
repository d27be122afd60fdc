use Rattle.schedule_file.specs.declared.table.Part.TheVariants.{Run}
use Rattle.schedule_file.proofs.Files.{refused_for_memory, named, follows}
use Rattle.schedule_file.proofs.parser.parse.Goals as goal

pub returns-clause-follow : goal.returns-clause-follow
returns-clause-follow c = follows c.args.text.now c.read.result c.read.ensures.ok

pub returns-clause-complete : goal.returns-clause-complete
returns-clause-complete c = λ schedule file. refused_for_memory Run c.args.text.now c.read.result file.0 c.read.ensures.err file.1

pub returns-clause-named : goal.returns-clause-named
returns-clause-named c = λ line kind first. named Run c.args.text.now c.read.result line kind c.read.ensures.ok c.read.ensures.err first
