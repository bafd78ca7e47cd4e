-- `chip_commands::work` meets its contract: each command has its work.
-- Assumes nothing.
use Rattle.chip_commands.specs.Commands.{work}
use Rattle.chip_commands.proofs.work.Goals as goal

pub returns-in-RateSet : goal.returns-in-RateSet
unfolding work
returns-in-RateSet c = simp (c.in-RateSet.is, ← c.rate_set.ensures)

pub returns-in-Reset : goal.returns-in-Reset
unfolding work
returns-in-Reset c = simp (c.in-Reset.is, c.says.ensures)

pub returns-in-BlockErase : goal.returns-in-BlockErase
unfolding work
returns-in-BlockErase c = simp (c.in-BlockErase.is, ← c.block_erase.ensures)

pub returns-in-BlankCheck : goal.returns-in-BlankCheck
unfolding work
returns-in-BlankCheck c = simp (c.in-BlankCheck.is, ← c.blank_check.ensures)

pub returns-in-Programming : goal.returns-in-Programming
unfolding work
returns-in-Programming c = simp (c.in-Programming.is, ← c.programming.ensures)

pub returns-in-Verify : goal.returns-in-Verify
unfolding work
returns-in-Verify c = simp (c.in-Verify.is, ← c.verify.ensures)

pub returns-in-Checksum : goal.returns-in-Checksum
unfolding work
returns-in-Checksum c = simp (c.in-Checksum.is, ← c.checksum.ensures)

pub returns-in-SignatureGet : goal.returns-in-SignatureGet
unfolding work
returns-in-SignatureGet c = simp c.in-SignatureGet.is

pub returns-in-SecurityGet : goal.returns-in-SecurityGet
unfolding work
returns-in-SecurityGet c = simp c.in-SecurityGet.is

pub returns-in-SecuritySet : goal.returns-in-SecuritySet
unfolding work
returns-in-SecuritySet c = simp (c.in-SecuritySet.is, c.awaiting.ensures, c.says-in-SecuritySet.ensures)

pub returns-in-SecurityRelease : goal.returns-in-SecurityRelease
unfolding work
returns-in-SecurityRelease c = simp (c.in-SecurityRelease.is, ← c.release.ensures)
