-- What help says of an argument is no part of its rule.
use Rattle.std.proofs.Common.{◌∙◌, ap}
use Rattle.clap.specs.Words.{rule_of}
use Rattle.gob_words.proofs.command_line.with_input.Goals as goal

pub returns-clause-app : goal.returns-clause-app
returns-clause-app c app is = c.with_arg.ensures.app app _ is (ap rule_of c.help.ensures ∙ c.new.ensures.rule)
