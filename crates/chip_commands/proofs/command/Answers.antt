-- `chip_commands::command` meets its contract: the judgement, then the phase, then the command that the payload is.
-- Assumes nothing.
use borrow.Author.Rules.{rules}
use Rattle.chip_commands.specs.Commands.{command_does}
use Rattle.words.specs.Words.{if◌then◌otherwise◌}
use Rattle.chip_commands.proofs.command.Goals as goal

pub returns-then-not-is_good : goal.returns-then-not-is_good
unfolding command_does if◌then◌otherwise◌
returns-then-not-is_good c = search rules

pub returns-then-not-allowed_in : goal.returns-then-not-allowed_in
unfolding command_does if◌then◌otherwise◌
returns-then-not-allowed_in c = search rules

pub returns : goal.returns
unfolding command_does if◌then◌otherwise◌
returns c = search rules
