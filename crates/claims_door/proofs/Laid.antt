-- The layouts of a chip's state and of a dock's, worked out place by place.
-- Assumes nothing.
use mathlib.Core.Path.{refl}
use Rattle.chip_layout.specs.Layout.{chip_bytes, head_of, is_state}
use Rattle.chip_options.specs.Options.{option_bytes}
use Rattle.claims_door.specs.Laid.{DockLaidOut, FaultBytes, LaidOut, LastByte}
use Rattle.dock_layout.specs.Layout.{bytes_with, cause_in, cause_number, dock_bytes, dock_in, ending_in, fault_at, flat_ending, flat_in, flat_of, is_dock, is_named}
use Rattle.dock_layout.specs.Layout.{judgement_in, named, named_in, setup_in, stage_in}
use Rattle.lent.specs.Lent.{all_are, same}
use Rattle.numbers.specs.Numbers.{low_first, number_at}
use Rattle.words.specs.Words.{◌and◌, ◌from◌to◌, ◌or◌, if◌then◌otherwise◌}

pub laid_out : LaidOut
unfolding chip_bytes head_of option_bytes low_first
laid_out = record { verifying = refl; phase1 = refl; phase2 = refl; phase3 = refl }

pub last-byte-judged : LastByte
unfolding is_state chip_bytes head_of option_bytes low_first all_are ◌and◌ ◌or◌ ◌from◌to◌
last-byte-judged =
    record { with13h = refl; with40h = refl; with_a0h = refl; none = refl; over1 = refl; over1so = refl; ready = refl; ready_with1 = refl }

pub dock-laid-out : DockLaidOut
unfolding dock_bytes bytes_with flat_of flat_ending cause_number is_named named low_first
dock-laid-out = record { failed_lies = refl; awaiting_lies = refl }

pub fault-bytes-judged : FaultBytes
unfolding is_dock dock_in flat_in fault_at stage_in ending_in setup_in cause_in judgement_in named_in dock_bytes bytes_with flat_of flat_ending cause_number is_named named low_first
    number_at same ◌and◌ if◌then◌otherwise◌
fault-bytes-judged =
    record {
      footer = refl;
      sum = refl;
      len_elsewhere = refl;
      len = refl;
      first_elsewhere = refl;
      first = refl;
      none = refl;
      none_elsewhere = refl;
      over4 = refl;
      no_failure = refl;
    }
