-- `part::signature::last_bytes` meets its contract: each variant's bytes are the definition's.
-- Assumes nothing.
use Rattle.part.proofs.signature.last_bytes.Goals as goal

pub returns-in-Some : goal.returns-in-Some
returns-in-Some c = simp c.in-Some.is c.low3.ensures
