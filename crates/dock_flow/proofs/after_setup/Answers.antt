-- `dock_flow::after_setup` meets its contract: the list's order, command by command.
-- Assumes nothing.
use Rattle.dock_flow.specs.Flow.{after_setup, setup_from}
use Rattle.dock_flow.specs.Frames.{query_with}
use Rattle.commands.proofs.Laws.{com-rate, com-reset, com-signature}
use Rattle.dock_job.proofs.Laws.{setup-is}
use Rattle.words.specs.Words.{if◌then◌otherwise◌}
use Rattle.dock_flow.proofs.after_setup.Goals as goal

pub returns-in-BaudRate : goal.returns-in-BaudRate
unfolding after_setup setup_from query_with if◌then◌otherwise◌
returns-in-BaudRate c = simp (c.in-BaudRate.is, setup-is, com-rate, com-reset, com-signature)

pub returns-in-ResetChip : goal.returns-in-ResetChip
unfolding after_setup setup_from query_with if◌then◌otherwise◌
returns-in-ResetChip c = simp (c.in-ResetChip.is, setup-is, com-rate, com-reset, com-signature)

pub returns-in-SiliconSignature : goal.returns-in-SiliconSignature
unfolding after_setup setup_from query_with if◌then◌otherwise◌
returns-in-SiliconSignature c = simp (c.in-SiliconSignature.is, setup-is, com-rate, com-reset, com-signature, ← c.block_from.ensures)
