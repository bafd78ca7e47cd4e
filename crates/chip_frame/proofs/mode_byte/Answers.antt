-- `chip_frame::mode_byte` meets its contract: 3Ah, or 00h.
-- Assumes nothing.
use borrow.Author.Rules.{rules}
use Rattle.chip_frame.specs.Does.{mode_byte}
use Rattle.words.specs.Words.{◌or◌, if◌then◌otherwise◌}
use Rattle.chip_frame.proofs.mode_byte.Goals as goal

pub returns-then-b-eq58 : goal.returns-then-b-eq58
unfolding mode_byte ◌or◌ if◌then◌otherwise◌
returns-then-b-eq58 c = search rules

pub returns : goal.returns
unfolding mode_byte ◌or◌ if◌then◌otherwise◌
returns c = search rules
