-- `commands::read` meets its contract: the row of the COM, with the fields read from their places.
-- Assumes nothing.
use borrow.Author.Tests.{ne_eqb}
use Rattle.commands.specs.Commands.{read_command, read_in, command_table}
use Rattle.words.specs.Words.{if◌then◌otherwise◌}
use Rattle.commands.proofs.read.Goals as goal

pub returns-in-154 : goal.returns-in-154
unfolding read_command read_in command_table if◌then◌otherwise◌
returns-in-154 c = simp (← c.byte_at.ensures, c.in-154.is, ← c.byte_at-rate.ensures, ← c.byte_at-supply.ensures, ← c.fit.ensures)

pub returns-in-0 : goal.returns-in-0
unfolding read_command read_in command_table if◌then◌otherwise◌
returns-in-0 c = simp (← c.byte_at.ensures, c.in-0.is, ← c.fit-in-0.ensures)

pub returns-in-34 : goal.returns-in-34
unfolding read_command read_in command_table if◌then◌otherwise◌
returns-in-34 c = simp (← c.byte_at.ensures, c.in-34.is, ← c.number3-start.ensures, ← c.fit-in-34.ensures)

pub returns-in-50 : goal.returns-in-50
unfolding read_command read_in command_table if◌then◌otherwise◌
returns-in-50 c = simp (← c.byte_at.ensures, c.in-50.is, ← c.number3-start-in-50.ensures, ← c.number3-end.ensures, ← c.byte_at-d01.ensures, ← c.fit-in-50.ensures)

pub returns-in-64 : goal.returns-in-64
unfolding read_command read_in command_table if◌then◌otherwise◌
returns-in-64 c = simp (← c.byte_at.ensures, c.in-64.is, ← c.number3-start-in-64.ensures, ← c.number3-end-in-64.ensures, ← c.fit-in-64.ensures)

pub returns-in-19 : goal.returns-in-19
unfolding read_command read_in command_table if◌then◌otherwise◌
returns-in-19 c = simp (← c.byte_at.ensures, c.in-19.is, ← c.number3-start-in-19.ensures, ← c.number3-end-in-19.ensures, ← c.fit-in-19.ensures)

pub returns-in-176 : goal.returns-in-176
unfolding read_command read_in command_table if◌then◌otherwise◌
returns-in-176 c = simp (← c.byte_at.ensures, c.in-176.is, ← c.number3-start-in-176.ensures, ← c.number3-end-in-176.ensures, ← c.fit-in-176.ensures)

pub returns-in-192 : goal.returns-in-192
unfolding read_command read_in command_table if◌then◌otherwise◌
returns-in-192 c = simp (← c.byte_at.ensures, c.in-192.is, ← c.fit-in-192.ensures)

pub returns-in-161 : goal.returns-in-161
unfolding read_command read_in command_table if◌then◌otherwise◌
returns-in-161 c = simp (← c.byte_at.ensures, c.in-161.is, ← c.fit-in-161.ensures)

pub returns-in-160 : goal.returns-in-160
unfolding read_command read_in command_table if◌then◌otherwise◌
returns-in-160 c = simp (← c.byte_at.ensures, c.in-160.is, ← c.fit-in-160.ensures)

pub returns-in-162 : goal.returns-in-162
unfolding read_command read_in command_table if◌then◌otherwise◌
returns-in-162 c = simp (← c.byte_at.ensures, c.in-162.is, ← c.fit-in-162.ensures)

pub returns-in_default : goal.returns-in_default
unfolding read_command read_in command_table if◌then◌otherwise◌
returns-in_default c =
    simp (
      ← c.byte_at.ensures,
      ne_eqb _ _ c.in_default.in_default-own.rest.1,
      ne_eqb _ _ c.in_default.in_default-own.rest.0.1,
      ne_eqb _ _ c.in_default.in_default-own.rest.0.0.1,
      ne_eqb _ _ c.in_default.in_default-own.rest.0.0.0.1,
      ne_eqb _ _ c.in_default.in_default-own.rest.0.0.0.0.1,
      ne_eqb _ _
          c.in_default.in_default-own.rest.0.0.0.0.0.1,
      ne_eqb _ _ c.in_default.in_default-own.rest.0.0.0.0.0.0.1,
      ne_eqb _ _ c.in_default.in_default-own.rest.0.0.0.0.0.0.0.1,
      ne_eqb _ _ c.in_default.in_default-own.rest.0.0.0.0.0.0.0.0.1,
      ne_eqb _ _
          c.in_default.in_default-own.rest.0.0.0.0.0.0.0.0.0.1,
      ne_eqb _ _ c.in_default.in_default-own.rest.0.0.0.0.0.0.0.0.0.0.1,
    )
