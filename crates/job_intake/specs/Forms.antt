-- What the words are read as.
use Rattle.job_intake.specs.Words as words
use Rattle.job_intake.specs.declared.words.Command.{Command}
use Rattle.job_intake.specs.declared.words.Command.TheVariants as read
use Rattle.job_intake.specs.declared.words.Form.{Form}

-- a command of the words
abbrev pub command : Command → words.Command
command (read.Solve nodes) = words.solve nodes
command (read.Check answer) = words.check answer.now
command (read.Evaluate answer) = words.evaluate answer.now

-- a form of the words
abbrev pub form : Form → words.Form
form it = (it.query.now, it.folder.now, command it.command)
