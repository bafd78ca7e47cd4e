-- `chip_options::Options::security` meets its contract: the eight bytes are the definition's.
-- Assumes nothing.
use mathlib.Core.Path.{sym}
use Rattle.chip_options.proofs.Laws.{security-bytes}
use Rattle.chip_options.proofs.Options.security.Goals as goal

pub returns : goal.returns
returns c = rw (c.to_le_bytes.ensures, c.to_le_bytes-2.ensures) (sym (security-bytes _))
