-- The proof of `OnlyTouched`.
-- Assumes nothing.
use mathlib.Core.Bool.{false, true}
use mathlib.Core.List.{List}
use mathlib.Core.Path.{◌≡◌, refl}
use Prim.Native.Nat.{◌%◌, ◌*◌, ◌+◌, ◌-◌, ◌<◌, ◌≤◌, ℕ}
use native.Mathlib.Nat.{mul-le-mul_right, suc-mul}
use native.Mathlib.Numerals.{add-one}
use native.Mathlib.Omega.{arith}
use lib.Dec.{eqb}
use lib.ListN.{drop, length, length-replicate, length-set, replicate, take}
use lib.Seq.{get_or-set_other, get_or-set_same}
use borrow.Author.Tests.{eqb-true, lt-ltb, not-false}
use Rattle.chip.specs.Step.{Outcome, Reaction, byte_in, heard_byte, react_to}
use Rattle.chip_frame.specs.Does.{frame_does}
use Rattle.chip.specs.declared.Event.{Event}
use Rattle.chip.specs.declared.Event.TheVariants.{Byte, Gap, PowerOn}
use Rattle.chip_commands.specs.Commands.{command_does, reading_does, work}
use Rattle.chip_core.specs.Effect.{Effect, Flash, Memory, bytes_in, effect, with_flash}
use Rattle.chip_core.specs.Hearing.{hearing}
use Rattle.chip_core.specs.declared.Awaited.{Awaited}
use Rattle.chip_core.specs.declared.Core.{Core}
use Rattle.chip_core.specs.declared.Done.{Done}
use Rattle.chip_core.specs.declared.Phase.{Phase}
use Rattle.chip_core.specs.declared.Phase.TheVariants.{Awaiting, ModeByte, Ready, Setup}
use Rattle.chip_flash.specs.Flash.{erase_of, erased, programmed}
use Rattle.chip_pages.specs.Pages.{data_does, good_data, page_in, page_stored, page_written, program_page}
use Rattle.chip_state.proofs.Laws.{accepts}
use Rattle.chip_state.specs.Refusals.{good_awaited, good_phase, good_state}
use Rattle.chip_sums.specs.Sums.{block_sum, kept, put_sum, resummed, slot, slots}
use Rattle.chip_work.specs.Work.{block_erase, erased_in}
use Rattle.claims_cut.proofs.Cut.{page-long, programmed-page}
use Rattle.claims_cut.proofs.Put.{put-becomes}
use Rattle.claims_cut.specs.Cut.{Change, one_block, one_page}
use Rattle.claims_good.proofs.Awaited.{good-walk}
use Rattle.claims_good.proofs.Core.{core_is}
use Rattle.claims_good.proofs.Rooms.{leaves, reaction_of}
use Rattle.claims_good.specs.Good.{Stands}
use Rattle.claims_sums.proofs.Slots.{slots-enough}
use Rattle.claims_sums.specs.Touched.{AtMostOne, HappenedIn, OnlyTouched, InOneBlock, touched, untouched}
use Rattle.commands.specs.declared.Command.{Command}
use Rattle.commands.specs.declared.Command.TheVariants.{BlankCheck, BlockErase, Checksum, Programming, RateSet, Reset, Verify}
use Rattle.commands.specs.declared.Command.TheVariants.{SecurityGet, SecurityRelease, SecuritySet, SignatureGet}
use Rattle.part.specs.declared.Place.{Place}
use Rattle.commands.specs.declared.Misread.TheVariants.{UnfitLen, Unknown}
use Rattle.commands.specs.declared.Misread.{Misread}
use Rattle.std.specs.Prelude.{Err, None, Ok, Option, Result, Some}
use Rattle.frame.specs.Collector.{heard}
use Rattle.frame.specs.Frame.{payload}
use Rattle.part.proofs.Laws.{Spot, lies-place, place-lies}
use Rattle.part.specs.Part.{block_size, blocks, described, first, page_size, place_in, place_of, size, place_at}
use Rattle.part.specs.declared.Area.{Area}
use Rattle.part.specs.declared.Area.TheVariants.{CodeFlash, DataFlash}
use Rattle.part.specs.declared.Part.{Part}
use Rattle.words.proofs.Laws.{and_right, if-all}
use Rattle.words.specs.Words.{if◌then◌otherwise◌}

-- A block that begins at a block's start is that block; a page that begins at a page's start lies in its block.
block_within : {p : Part} {at : ℕ} {a : Area} {offset block page : ℕ} → Spot p at a offset block page → offset % block_size p a ≡ 0
    → InOneBlock p a block offset (block_size p a)
block_within {p} {at} {a} {offset} {block} s z =
    let k : (block + 1) * block_size p a ≡ block * block_size p a + block_size p a = rw add-one (suc-mul block (block_size p a)) in
    record { from_first = omega (arith, s.in-block); to_last = omega (arith, s.in-block) }

page-within : {p : Part} {at : ℕ} {a : Area} {offset block page : ℕ} → Spot p at a offset block page → offset % page_size ≡ 0
    → InOneBlock p a block offset 256
unfolding block_size
page-within s z = record { from_first = omega (arith, s.in-block); to_last = omega (arith, s.in-block) }

-- And so it lies in its area.
within-area : {p : Part} {a : Area} {block at count : ℕ} → InOneBlock p a block at count → block < blocks p a → at + count ≤ size p a
within-area {p} {a} {block} w h =
    let l : (block + 1) * block_size p a ≤ blocks p a * block_size p a = mul-le-mul_right (block_size p a) (omega arith) in
    omega (arith, w.to_last)

-- The sum of a block of the part worked out afresh.
pub resummed-is : (p : Part) (a : Area) (offset block page : ℕ) (m : Memory) → block < blocks p a
    → resummed p (Some (place_at a offset block page)) m ≡ record { flash = m.flash; sums = put_sum p a block m.flash m.sums }
unfolding resummed if◌then◌otherwise◌
resummed-is p a offset block page m h = simp (lt-ltb _ _ h)

record Does (p : Part) (m : Memory) (x : Effect) : Type 0 where
  does : AtMostOne p m x.memory

stays-so : {p : Part} (m : Memory) (d : Done) → Does p m (effect d m)
stays-so m d = record { does = untouched refl }

module _ (p : Part) (k : Core) (m : Memory) (part : described p ≡ true) (long : (a : Area) → length (bytes_in a m.flash) ≡ size p a)
    (sums : length m.sums ≡ slots) where
  -- Bytes put into one block of the part, and its sum worked out afresh.
  renews : (a : Area) (offset block page : ℕ) (f : Flash) → block < blocks p a
      → (c : Change p m (record { flash = f; sums = put_sum p a block f m.sums })) → HappenedIn a block c
      → AtMostOne p m (resummed p (Some (place_at a offset block page)) (with_flash m f))
  unfolding kept
  renews a offset block page f h c w =
      rw (resummed-is p a offset block page (with_flash m f) h)
      (touched (record {
        area = a;
        block = block;
        has = h;
        change = c;
        there = w;
        renewed = get_or-set_same m.sums (slot a block) (block_sum p a block f) 0 (omega (arith, slots-enough p a block part h));
        others = λ i n. get_or-set_other m.sums (slot a block) i (block_sum p a block f) 0 n;
        long = length-set m.sums (slot a block) (block_sum p a block f);
      }))

  erases : (at : ℕ) (x : Option Place) → place_of p at ≡ x → Does p m (block_erase p k x m)
  unfolding block_erase erased_in erase_of HappenedIn
  erases at None e = stays-so m _
  erases at (Some place) e =
      if-all (Does p m) _ (λ t. stays-so m _)
      (λ t. if-all (Does p m) _ (λ u. stays-so m _)
      (λ u.
      let s = place-lies p at place.area place.offset place.block place.page e in
      let z : place.offset % block_size p place.area ≡ 0 = eqb-true _ _ (not-false _ t) in
      let w : InOneBlock p place.area place.block place.offset (block_size p place.area) = block_within s z in
      let n : length (replicate (block_size p place.area) erased) ≡ block_size p place.area = length-replicate {A = ℕ} (block_size p place.area) erased in
      record {
        does =
            renews place.area place.offset place.block place.page _ s.block-below
            (one_block place.area place.offset z
            (put-becomes place.area place.offset (replicate (block_size p place.area) erased) m.flash (omega (arith, long place.area, within-area w s.block-below))))
            (refl, w);
      }))

  works : (c : Command) → Does p m (work c p k m)
  unfolding work
  works (RateSet rate supply) = stays-so m _
  works Reset = stays-so m _
  works (BlockErase start) = erases _ _ refl
  works (BlankCheck start end d01) = stays-so m _
  works (Programming start end) = stays-so m _
  works (Verify start end) = stays-so m _
  works (Checksum start end) = stays-so m _
  works SignatureGet = stays-so m _
  works SecurityGet = stays-so m _
  works SecuritySet = stays-so m _
  works SecurityRelease = stays-so m _

  reading-does : (r : Result Command Misread) → Does p m (reading_does r p k m)
  unfolding reading_does
  reading-does (Err Unknown) = stays-so m _
  reading-does (Err UnfitLen) = stays-so m _
  reading-does (Ok c) = works c

  command-does : (f : List ℕ) → Does p m (command_does p k f m)
  unfolding command_does
  command-does f = if-all (Does p m) _ (λ t. stays-so m _) (λ t. if-all (Does p m) _ (λ u. stays-so m _) (λ u. reading-does _))

  programs : (w : Awaited) (at : ℕ) (a : Area) (offset block page : ℕ) (ds : List ℕ) → Spot p at a offset block page → offset % page_size ≡ 0
      → length ds ≡ 256 → Does p m (program_page p k w (Some (place_at a offset block page)) ds m)
  unfolding program_page page_written page_in page_stored HappenedIn
  programs w at a offset block page ds s z n =
      let old = take page_size (drop offset (bytes_in a m.flash)) in
      let i : InOneBlock p a block offset 256 = page-within s z in
      let h : offset + 256 ≤ length (bytes_in a m.flash) = omega (arith, long a, within-area i s.block-below) in
      let l : length (programmed old ds) ≡ 256 = programmed-page offset (bytes_in a m.flash) ds h in
      record {
        does =
            renews a offset block page _ s.block-below
            (one_page a offset ds z n (put-becomes a offset (programmed old ds) m.flash (omega arith)))
            (refl, rw n i);
      }

  module _ (w : Awaited) (awaited : good_awaited p w ≡ true) where
    page-does : eqb w.command 0xA0 ≡ false → (ds : List ℕ) → length ds ≡ 256 → Does p m (program_page p k w (place_of p w.next) ds m)
    unfolding place_in
    page-does n ds e =
        let s = good-walk p w awaited n in
        let l = lies-place p s.area w.next part s.walk.here in
        rw l (programs w w.next s.area (w.next - first s.area) _ _ ds (place-lies p w.next s.area _ _ _ l) s.walk.page e)

    data-does : (f : List ℕ) → Does p m (data_does p k w f m)
    unfolding data_does good_data
    data-does f =
        if-all (Does p m) _ (λ t. stays-so m _)
        (λ t. if-all (Does p m) _ (λ u. stays-so m _)
        (λ u. if-all (Does p m) _ (λ v. page-does u (payload f) (page-long w f u (not-false _ t))) (λ v. stays-so m _)))

  frame-does : (f : Phase) → good_phase p f ≡ true → (g : List ℕ) → Does p m (frame_does (hearing f) p k g m)
  unfolding frame_does hearing good_phase
  frame-does ModeByte e g = stays-so m _
  frame-does Setup e g = command-does g
  frame-does Ready e g = command-does g
  frame-does (Awaiting w) e g = data-does w e g

  -- The same of a reaction.
  heard-does : (hs : List ℕ) (x : Effect) → Does p m x → Does p m (heard_byte hs x k m).does
  unfolding heard_byte
  heard-does hs x d = if-all (λ (y : Reaction). Does p m y.does) _ (λ t. d) (λ t. stays-so m _)

  byte-does : (f : Phase) (hs : List ℕ) (b : ℕ) → good_phase p f ≡ true → Does p m (byte_in (hearing f) p k hs b m).does
  unfolding byte_in hearing
  byte-does ModeByte hs b g = stays-so m _
  byte-does Setup hs b g = heard-does _ _ (frame-does Setup g _)
  byte-does Ready hs b g = heard-does _ _ (frame-does Ready g _)
  byte-does (Awaiting w) hs b g = heard-does _ _ (frame-does (Awaiting w) g _)

  reaction-does : (hs : List ℕ) (v : Event) → good_phase p k.phase ≡ true → Does p m (react_to v p k hs m).does
  unfolding react_to
  reaction-does hs (Byte b) g = byte-does k.phase hs b g
  reaction-does hs Gap g = stays-so m _
  reaction-does hs PowerOn g = stays-so m _

-- A chip that stands has flash of its part's lengths.
pub stands-long : {p : Part} (o : Outcome) → Stands p o → (a : Area) → length (bytes_in a o.memory.flash) ≡ size p a
stands-long o s CodeFlash = (accepts s.accepted).code_long
stands-long o s DataFlash = (accepts s.accepted).data_long

pub only-touched : OnlyTouched
unfolding reaction_of good_state
only-touched p o v s q l =
    let a = accepts s.accepted in
    let g = core_is p o.chip.core (and_right _ _ a.state) in
    rw (leaves p o v s).memory
    (reaction-does p o.chip.core o.memory a.part (stands-long o s) l (heard o.chip.collector) v g.phase).does
