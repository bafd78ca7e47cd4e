-- `dock_job::refusals::verdict` meets its contract: 1, 5, 6, 7, 9, 4, 8: the first that holds decides.
-- Assumes nothing.
use Rattle.std.proofs.Common.{rules}
use Rattle.dock_job.specs.Refusals.{call_verdict}
use Rattle.part.proofs.Laws.{first-row, none-held}
use Rattle.words.specs.Words.{if◌then◌otherwise◌}
use Rattle.dock_job.proofs.refusals.verdict.Goals as goal

pub returns-then-is_bad_job : goal.returns-then-is_bad_job
unfolding call_verdict if◌then◌otherwise◌
returns-then-is_bad_job c = simp first-row (search rules)

pub returns-then-is_bad_range : goal.returns-then-is_bad_range
unfolding call_verdict if◌then◌otherwise◌
returns-then-is_bad_range c = simp first-row (search rules)

pub returns-then-image-range_length : goal.returns-then-image-range_length
unfolding call_verdict if◌then◌otherwise◌
returns-then-image-range_length c = simp first-row (search rules)

pub returns-then-job-gt15 : goal.returns-then-job-gt15
unfolding call_verdict if◌then◌otherwise◌
returns-then-job-gt15 c = simp first-row (search rules)

pub returns-then-is_bad_state : goal.returns-then-is_bad_state
unfolding call_verdict if◌then◌otherwise◌
returns-then-is_bad_state c = simp first-row (search rules)

pub returns-then-is_short_room : goal.returns-then-is_short_room
unfolding call_verdict if◌then◌otherwise◌
returns-then-is_short_room c = simp first-row (search rules)

pub returns-then-is_out_of_turn : goal.returns-then-is_out_of_turn
unfolding call_verdict if◌then◌otherwise◌
returns-then-is_out_of_turn c = simp first-row (search rules)

pub returns : goal.returns
unfolding call_verdict if◌then◌otherwise◌
returns c = simp (first-row, none-held) (search rules)
