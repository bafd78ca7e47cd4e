-- Retries counted by what was heard, without the flow's own count: document 01, "The dock's flow", "A status 07h or 15h spends one retry and restarts the block
-- (or the setup command); with none left the job fails."
use Rattle.std.specs.Prelude.{Bool, false, not, List, [], ◌∷◌, ◌+◌, ℕ, eqb, None, Option, Some}
use Rattle.dock_answer.specs.Answer.{read_answer}
use Rattle.dock_answer.specs.declared.Said.{Said}
use Rattle.dock_flow.specs.Flow.{Heard, after_heard, answered, first_stage, silence}
use Rattle.dock_flow.specs.Frames.{query_at}
use Rattle.dock_job.specs.Job.{is_over}
use Rattle.dock_job.specs.declared.Job.{Job}
use Rattle.dock_job.specs.declared.Stage.{Stage}
use Rattle.words.specs.Words.{◌and◌, ◌or◌, if◌then◌otherwise◌}

-- The status that decides an answer is 07h or 15h.
unfoldable pub asks_again : Option Said → Bool
asks_again (Some said) = eqb said.status 0x07 or eqb said.status 0x15
asks_again None = false

unfoldable pub says_again : Job → Stage → Heard → Bool
says_again j st (answered bs) = asks_again (read_answer j.part j.supply (query_at j st).form bs).decoded
says_again j st silence = false

-- It said so to the frame of a stage, and the job went on: one retry. Where the job failed, none.
unfoldable pub restart : Job → Stage → Heard → Stage → ℕ
restart j st h after = if says_again j st h and not (is_over after) then 1 otherwise 0

-- How often that happens over a history, from a stage with so many retries used.
unfoldable pub restarts : Job → ℕ → Stage → List Heard → ℕ
restarts j used st [] = 0
restarts j used st (h ∷ hs) =
    if is_over st then 0
    otherwise
    let after = (after_heard j used st h).stage in
    let n = restart j st h after in
    n + restarts j (used + n) after hs

abbrev pub restarts_over : Job → List Heard → ℕ
restarts_over j hs = restarts j 0 (first_stage j) hs
