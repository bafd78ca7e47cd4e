-- No second outcome for the callable functions of `chip_options`, each over the contract that its own `ensures` generates.
-- Assumes nothing.
use mathlib.Core.Path.{◌∙◌, sym}
use Rattle.claims_outcome.proofs.Outcome.{Once}
use Rattle.chip_options.proofs.boot_allowed.Reads as boot-allowed
use Rattle.chip_options.proofs.boot_allowed.Kinds as boot-allowed-kinds
use Rattle.chip_options.proofs.erase_allowed.Reads as erase-allowed
use Rattle.chip_options.proofs.erase_allowed.Kinds as erase-allowed-kinds
use Rattle.chip_options.proofs.write_allowed.Reads as write_allowed
use Rattle.chip_options.proofs.write_allowed.Kinds as write-allowed-kinds
use Rattle.chip_options.proofs.raises.Reads as raises
use Rattle.chip_options.proofs.raises.Kinds as raises-kinds
use Rattle.chip_options.proofs.Options.fresh.Reads as Options-fresh
use Rattle.chip_options.proofs.Options.fresh.Kinds as Options-fresh-kinds
use Rattle.chip_options.proofs.Options.is_good.Reads as Options-is-good
use Rattle.chip_options.proofs.Options.is_good.Kinds as Options-is-good-kinds
use Rattle.chip_options.proofs.Options.is_fresh.Reads as Options-is-fresh
use Rattle.chip_options.proofs.Options.is_fresh.Kinds as Options-is-fresh-kinds
use Rattle.chip_options.proofs.Options.released.Reads as Options-released
use Rattle.chip_options.proofs.Options.released.Kinds as Options-released-kinds
use Rattle.chip_options.proofs.Options.read.Reads as Options-read
use Rattle.chip_options.proofs.Options.read.Kinds as Options-read-kinds
use Rattle.chip_options.proofs.Options.security.Reads as Options-security
use Rattle.chip_options.proofs.Options.security.Kinds as Options-security-kinds

pub boot-allowed-once : Once boot-allowed-kinds.ps boot-allowed-kinds.r boot-allowed.Post (λ κs r x. r)
boot-allowed-once κs a r s x y p q = p ∙ sym q

pub erase-allowed-once : Once erase-allowed-kinds.ps erase-allowed-kinds.r erase-allowed.Post (λ κs r x. r)
erase-allowed-once κs a r s x y p q = p ∙ sym q

pub write-allowed-once : Once write-allowed-kinds.ps write-allowed-kinds.r write_allowed.Post (λ κs r x. r)
write-allowed-once κs a r s x y p q = p ∙ sym q

pub raises-once : Once raises-kinds.ps raises-kinds.r raises.Post (λ κs r x. r)
raises-once κs a r s x y p q = p ∙ sym q

pub Options-fresh-once : Once Options-fresh-kinds.ps Options-fresh-kinds.r Options-fresh.Post (λ κs r x. r)
Options-fresh-once κs a r s x y p q = p ∙ sym q

pub Options-is-good-once : Once Options-is-good-kinds.ps Options-is-good-kinds.r Options-is-good.Post (λ κs r x. r)
Options-is-good-once κs a r s x y p q = p ∙ sym q

pub Options-is-fresh-once : Once Options-is-fresh-kinds.ps Options-is-fresh-kinds.r Options-is-fresh.Post (λ κs r x. r)
Options-is-fresh-once κs a r s x y p q = p ∙ sym q

pub Options-released-once : Once Options-released-kinds.ps Options-released-kinds.r Options-released.Post (λ κs r x. r)
Options-released-once κs a r s x y p q = p ∙ sym q

pub Options-read-once : Once Options-read-kinds.ps Options-read-kinds.r Options-read.Post (λ κs r x. r)
Options-read-once κs a r s x y p q = p ∙ sym q

pub Options-security-once : Once Options-security-kinds.ps Options-security-kinds.r Options-security.Post (λ κs r x. r)
Options-security-once κs a r s x y p q = p ∙ sym q
