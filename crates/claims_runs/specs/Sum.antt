-- B0h's sum tells one changed byte: document 01, "The SUM fact is proved once over the modulus and serves 8 and 16 bits."
use Rattle.std.specs.Prelude.{List, ◌≢◌, ◌≡◌, ◌+◌, ◌<◌, ◌≤◌, ℕ, get_or, length, set, Some}
use Rattle.chip_commands.specs.Commands.{work}
use Rattle.chip_core.specs.Effect.{Flash, Memory, bytes_in, with_bytes}
use Rattle.chip_core.specs.declared.Core.{Core}
use Rattle.chip_reply.specs.Reply.{frames_of, payloads}
use Rattle.chip_sums.specs.Sums.{Right}
use Rattle.commands.specs.declared.Command.TheVariants.{Checksum}
use Rattle.frame.proofs.Laws.Sum.{Below}
use Rattle.part.specs.Part.{first, range_of, size, range_at}
use Rattle.part.specs.declared.Area.{Area}
use Rattle.part.specs.declared.Part.{Part}

-- What is said to B0h over a range.
abbrev pub sum_said : Part → Core → ℕ → ℕ → Memory → List ℕ
sum_said p k start end m = frames_of (payloads p k.options (work (Checksum start end) p k m).reply)

-- The byte i of an area, one of a good range, becomes v.
pub record InRange (p : Part) (m : Flash) (start end : ℕ) (a : Area) (i v : ℕ) : Type 0 where
  pub block : ℕ
  pub count : ℕ
  pub range : range_of p start end ≡ Some (range_at a block count)
  pub long : length (bytes_in a m) ≡ size p a
  pub bytes : Below 256 (bytes_in a m)
  pub from_start : start ≤ first a + i
  pub to_end : first a + i ≤ end
  pub small : v < 256
  pub changed : get_or (bytes_in a m) i 0 ≢ v

abbrev pub byte_changed : Area → Flash → ℕ → ℕ → Flash
byte_changed a m i v = with_bytes a m (set (bytes_in a m) i v)

-- Flash that differs in that one byte is answered another sum, where the sums that are kept beside it are right. (Over one block the kept sum is answered.)
abbrev pub OneByteSummed : Type 0
OneByteSummed =
    (p : Part) (k : Core) (m n : Memory) (start end : ℕ) (a : Area) (i v : ℕ) → InRange p m.flash start end a i v → n.flash ≡ byte_changed a m.flash i v
    → Right p m → Right p n → sum_said p k start end n ≢ sum_said p k start end m
