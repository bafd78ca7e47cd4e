-- The proofs of `CommandTold`, `ToldAfterNoise` and `DamagedEnds`.
-- Assumes nothing.
use mathlib.Core.Bool.{Bool, false, not}
use mathlib.Core.List.{List, [], ◌++◌, ◌∷◌, append-nil, map}
use mathlib.Core.Path.{◌∙◌, ◌≡◌, ap, refl, subst, subst₂, sym}
use Prim.Native.Nat.{◌*◌, ◌-◌, ◌<◌, ◌^◌, ℕ}
use native.Mathlib.Omega.{arith}
use lib.Dec.{eqb}
use lib.ListN.{get_or, length, replicate}
use Rattle.chip.specs.Run.{run}
use Rattle.chip.specs.Step.{Outcome, reaction}
use Rattle.chip_frame.specs.Does.{frame_does}
use Rattle.chip.specs.declared.Event.{Event}
use Rattle.chip.specs.declared.Event.TheVariants.{Byte, Gap}
use Rattle.chip_commands.specs.Commands.{allowed_in, command_does, reading_does, work}
use Rattle.chip_core.specs.Effect.{Effect, Flash, Memory, acknowledge, awaiting, effect, says}
use Rattle.chip_core.specs.Hearing.{hearing}
use Rattle.chip_core.specs.declared.Awaited.{Awaited}
use Rattle.chip_core.specs.declared.Core.{Core}
use Rattle.chip_core.specs.declared.Phase.{Phase}
use Rattle.chip_core.specs.declared.Phase.TheVariants.{Awaiting}
use Rattle.chip_pages.specs.Pages.{ready}
use Rattle.chip_reply.specs.Reply.{fault_in, frames_of, payloads}
use Rattle.chip_state.proofs.Laws.{accepts}
use Rattle.chip_sums.specs.Sums.{range_bytes}
use Rattle.chip_work.specs.Work.{verify}
use Rattle.claims_fed.proofs.Bad.{bad-frame-does}
use Rattle.claims_fed.proofs.Frames.{bytes-proper, fed-is-done}
use Rattle.claims_fed.specs.Awaits.{awaits_in, command, in_ready, judged_in, page}
use Rattle.claims_fed.specs.Fed.{FedIsDone, bad_core, blames, blames_once, blames_twice, does, does_in, says_frame, silence}
use Rattle.claims_frame.proofs.RoundTrip.{framed-good, framed-whole}
use Rattle.claims_good.proofs.Awaited.{pages_of}
use Rattle.claims_good.proofs.Rooms.{utterance_of}
use Rattle.claims_good.proofs.Stays.{run-stands}
use Rattle.claims_good.specs.Good.{Alike, AllProper, Stands, Utterance, a_gap, and_event, no_event, utterances}
use Rattle.claims_noise.proofs.Claims.{noise-at-data}
use Rattle.claims_noise.proofs.Rooms.{run-by}
use Rattle.claims_noise.specs.Claims.{command_over, left_by}
use Rattle.claims_noise.specs.Noise.{data_completed, then_gap}
use Rattle.claims_verify.proofs.Told.{framed-below, framed-header, from_in, then-told, verify-told}
use Rattle.claims_verify.specs.Told.{CommandTold, DamagedEnds, Told, ToldAfterNoise, VerifyAsked, Verifying, any_differs, flash_from, joined_pages, page_frames, to_pages, verify_frame}
use Rattle.commands.proofs.Laws.{read_back}
use Rattle.commands.specs.Commands.{com_of, information_of, payload_of}
use Rattle.commands.specs.declared.Command.TheVariants.{Verify}
use Rattle.frame.proofs.Laws.Frame.{payload-framed}
use Rattle.frame.proofs.Laws.Sum.{Below, below-append, below_each, more}
use Rattle.frame.proofs.Laws.Wire.{framed-long}
use Rattle.frame.specs.Frame.{framed}
use Rattle.frame.specs.Framing.{Sound}
use Rattle.frame.specs.declared.Footer.TheVariants.{Last}
use Rattle.frame.specs.declared.Header.TheVariants.{Command}
use Rattle.frame.specs.declared.judgement.Judgement.{Judgement}
use Rattle.lent.specs.Lent.{same}
use Rattle.numbers.proofs.Laws.{low_below}
use Rattle.numbers.specs.Numbers.{low_first}
use Rattle.part.proofs.Laws.{LiesIn, Stretch, blocks-most, first_small, range-good, stretch-whole}
use Rattle.part.specs.Part.{block_size, first, page_size, place_of}
use Rattle.part.specs.declared.Area.{Area}
use Rattle.part.specs.declared.Part.{Part}
use Rattle.words.specs.Words.{◌or◌, if◌then◌otherwise◌}

one-said : (p : Part) (k : Core) (m : Memory) (s : ℕ) → utterance_of p (reaction [] (effect (says s k) m)) ≡ says_frame (s ∷ [])
unfolding utterance_of fault_in payloads frames_of
one-said p k m s = rw append-nil

-- A damaged page: its status twice, and the command is over.
blamed-twice : (w : Awaited) (j : Judgement) → w.command ≡ 0x13 → blames (Awaiting w) j ≡ blames_twice j
unfolding if◌then◌otherwise◌
blamed-twice w j c = ap (λ (n : ℕ). if eqb n 0xA0 then blames_once j otherwise blames_twice j) c

pub damaged-ends : DamagedEnds
unfolding does_in bad_core
damaged-ends p o w f d =
    let k = o.chip.core in
    let m = o.memory in
    let e = d.phase in
    let j = judged_in (awaits_in (Awaiting w)) f in
    let t : FedIsDone p o f f = fed-is-done p o f d.stands (rw e (page w)) d.nothing d.frame (rw e d.header) d.bytes in
    let x : does k.phase p k m f ≡ does (Awaiting w) p k m f = ap (λ (g : Phase). does g p k m f) e in
    let b = bad-frame-does (Awaiting w) p k m f (page w) d.bad in
    let says : utterance_of p (reaction [] (does k.phase p k m f)) ≡ blames_twice j =
    ap (λ (y : Effect). utterance_of p (reaction [] y)) x ∙ b.utters ∙ blamed-twice w j d.command in
    record {
      says = t.answers ∙ ap (λ (u : Utterance). replicate (length f - 1) silence ++ u ∷ []) says;
      core = t.core ∙ ap (λ (y : Effect). y.core) x ∙ b.core;
      memory = t.memory ∙ ap (λ (y : Effect). y.memory) x ∙ b.memory;
      nothing = t.count;
    }

-- Noise leaves the record that is awaited.
gap-proper : (vs : List Event) → AllProper vs → AllProper (vs ++ Gap ∷ [])
gap-proper [] no_event = and_event a_gap no_event
gap-proper (v ∷ vs) (and_event h q) = and_event h (gap-proper vs q)

none-completed : (vs : List Sound) (o : Outcome) → data_completed vs ≡ false → left_by vs o ≡ o
unfolding left_by if◌then◌otherwise◌
none-completed vs o e = ap (λ (t : Bool). if t then command_over o otherwise o) e

pub told-after-noise : ToldAfterNoise
unfolding then_gap
told-after-noise p o w dss vs v n c =
    let u : Outcome = run p (then_gap vs) o in
    let a : Alike o u = subst₂ Alike (none-completed vs o c) (run-by p (then_gap vs) o) (noise-at-data p o w vs v.phase n).now in
    subst (λ (m : Memory). Told p u (page_frames dss) (to_pages (any_differs p w dss m.flash) dss)) (sym a.memory)
    (verify-told p u w dss
    (record {
      stands = run-stands p (then_gap vs) o v.stands (gap-proper _ n.bytes);
      nothing = sym a.count ∙ v.nothing;
      phase = ap (λ (k : Core). k.phase) (sym a.core) ∙ v.phase;
      command = v.command;
      pages = v.pages;
      all = v.all;
    }))

-- The command's own frame.
module _ (p : Part) (o : Outcome) (start end : ℕ) (a : Area) (block count : ℕ) (dss : List (List ℕ)) (v : VerifyAsked p o start end a block count dss) where
  the-stretch : Stretch p start end a block count
  the-stretch = range-good p start end a block count v.range

  begins : LiesIn p a start
  begins = (stretch-whole the-stretch).begins

  starts-short : start < 256 ^ 3
  unfolding block_size
  starts-short = omega (arith, begins.high, blocks-most p a (accepts v.stands.accepted).part, first_small a)

  ends-short : end < 256 ^ 3
  unfolding block_size
  ends-short = omega (arith, (stretch-whole the-stretch).ends.high, blocks-most p a (accepts v.stands.accepted).part, first_small a)

  abbrev asked : List ℕ
  asked = payload_of (Verify start end)

  asked-first : get_or asked 0 0 ≡ 0x13
  unfolding payload_of com_of
  asked-first = refl

  asked-long : length asked ≡ 7
  unfolding payload_of information_of low_first
  asked-long = refl

  asked-bytes : Below 256 asked
  unfolding payload_of information_of com_of
  asked-bytes = more {b = 0x13} (omega arith) (below-append (below_each (low_first 3 start) (low_below 3 start)) (below_each (low_first 3 end) (low_below 3 end)))

  asked-does : command_does p o.chip.core (framed Command asked Last) o.memory ≡ effect (says acknowledge (awaiting 0x13 start end o.chip.core)) o.memory
  unfolding command_does allowed_in reading_does work verify if◌then◌otherwise◌
  asked-does =
      let l = asked-long in
      rw (framed-good Command asked Last (omega arith) (omega arith), payload-framed Command asked Last, asked-first, v.phase, read_back (Verify start end) starts-short ends-short, v.range)

  abbrev asked-frame : List ℕ
  asked-frame = framed Command asked Last

  abbrev after : Outcome
  after = run p (map Byte asked-frame) o

  record AskedTold : Type 0 where
    says : utterances p (map Byte asked-frame) o ≡ replicate 10 silence ++ says_frame (acknowledge ∷ []) ∷ []
    core : after.chip.core ≡ awaiting 0x13 start end o.chip.core
    memory : after.memory ≡ o.memory
    nothing : after.chip.collector.len ≡ 0
    stands : Stands p after

  asked-told : AskedTold
  unfolding does_in does frame_does hearing
  asked-told =
      let k = o.chip.core in
      let m = o.memory in
      let l = asked-long in
      let b = framed-below Command asked Last asked-bytes in
      let z : length asked-frame - 1 ≡ 10 = omega (arith, framed-long Command asked Last) in
      let t : FedIsDone p o asked-frame asked-frame =
      fed-is-done p o asked-frame v.stands (rw v.phase (command in_ready)) v.nothing (framed-whole Command asked Last (omega arith) (omega arith))
      (rw v.phase (framed-header Command asked Last)) b in
      let x : does_in p asked-frame k m ≡ effect (says acknowledge (awaiting 0x13 start end k)) m = ap (λ (g : Phase). frame_does (hearing g) p k asked-frame m) v.phase ∙ asked-does in
      record {
        says =
            t.answers
            ∙ ap (λ (y : Effect). replicate (length asked-frame - 1) silence ++ utterance_of p (reaction [] y) ∷ []) x
            ∙ ap (λ (j : ℕ). replicate j silence ++ utterance_of p (reaction [] (effect (says acknowledge (awaiting 0x13 start end k)) m)) ∷ []) z
            ∙ ap (λ (u : Utterance). replicate 10 silence ++ u ∷ []) (one-said p _ m acknowledge);
        core = t.core ∙ ap (λ (y : Effect). y.core) x;
        memory = t.memory ∙ ap (λ (y : Effect). y.memory) x;
        nothing = t.count;
        stands = run-stands p (map Byte asked-frame) o v.stands (bytes-proper b);
      }

  verifies : Verifying p after (pages_of 0x13 start end) dss
  verifies =
      let t = asked-told in
      record { stands = t.stands; nothing = t.nothing; phase = ap (λ (k : Core). k.phase) t.core; command = refl; pages = v.pages; all = v.all }

  -- The flash of the pages is that of the range.
  range-from : (m : Flash) → flash_from (place_of p start) (page_size * length dss) m ≡ range_bytes p a block count m
  unfolding range_bytes
  range-from m =
      let s = the-stretch in
      let n : page_size * length dss ≡ count * block_size p a = omega (arith, v.all, s.begins, s.ends) in
      let i : start - first a ≡ block * block_size p a = omega (arith, s.begins) in
      from_in p a start (page_size * length dss) m (accepts v.stands.accepted).part begins ∙ rw (n, i)

  any-in-range : any_differs p (pages_of 0x13 start end) dss after.memory.flash ≡ not (same (range_bytes p a block count o.memory.flash) (joined_pages dss))
  unfolding ◌or◌
  any-in-range =
      ap (λ (m : Memory). not (same (flash_from (place_of p start) (page_size * length dss) m.flash) (joined_pages dss))) asked-told.memory
      ∙ ap (λ (bs : List ℕ). not (same bs (joined_pages dss))) (range-from o.memory.flash)

  whole-told : Told p o (asked-frame ++ page_frames dss) (replicate 10 silence ++ says_frame (acknowledge ∷ []) ∷ to_pages (not (same (range_bytes p a block count o.memory.flash) (joined_pages dss))) dss)
  whole-told =
      let t = asked-told in
      then-told p o asked-frame (page_frames dss) (replicate 10 silence ++ says_frame (acknowledge ∷ []) ∷ []) _ t.says (ap ready t.core) t.memory
      (subst (λ (d : Bool). Told p after (page_frames dss) (to_pages d dss)) any-in-range (verify-told p after (pages_of 0x13 start end) dss verifies))

pub command-told : CommandTold
unfolding verify_frame
command-told p o start end a block count dss v = whole-told p o start end a block count dss v
