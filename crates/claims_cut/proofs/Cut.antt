-- The proofs of `OneEvent` and `PowerOnKeeps`.
-- Assumes nothing.
use mathlib.Core.Bool.{Bool, false, false≢true, not, true}
use mathlib.Core.List.{List}
use mathlib.Core.Path.{◌∙◌, ◌≡◌, ap, refl, sym}
use Prim.Native.Nat.{◌%◌, ◌*◌, ◌+◌, ◌-◌, ◌≤◌, ℕ}
use native.Mathlib.Nat.{mul-le-mul_right, suc-mul}
use native.Mathlib.Numerals.{add-one}
use native.Mathlib.Omega.{arith}
use lib.Dec.{eqb}
use lib.ListN.{drop, length, length-drop, length-replicate, replicate, take}
use lib.Seq.{length-take-le}
use borrow.Author.Tests.{eqb-true, not-false}
use Rattle.chip.specs.Step.{Reaction, byte_in, heard_byte, react_to}
use Rattle.chip_frame.specs.Does.{frame_does}
use Rattle.chip_state.specs.Refusals.{good_awaited, good_phase, good_state, handed_with}
use Rattle.chip.specs.declared.Event.{Event}
use Rattle.chip.specs.declared.Event.TheVariants.{Byte, Gap, PowerOn}
use Rattle.claims_cut.proofs.Put.{put-becomes}
use Rattle.claims_cut.specs.Cut.{Change, OneEvent, PowerOnKeeps, nothing, one_block, one_page}
use Rattle.claims_good.proofs.Awaited.{Pages, good-walk}
use Rattle.claims_good.proofs.Core.{core_is}
use Rattle.chip_sums.proofs.Laws.{resummed-flash}
use Rattle.claims_good.proofs.Rooms.{leaves, reaction_of}
use Rattle.chip_state.proofs.Laws.{Accepts, accepts}
use Rattle.chip_work.specs.Work.{block_erase, erased_in}
use Rattle.chip_commands.specs.Commands.{command_does, reading_does, work}
use Rattle.chip_core.specs.Hearing.{hearing}
use Rattle.chip_core.specs.Effect.{Effect, Memory, bytes_in, effect}
use Rattle.chip_pages.specs.Pages.{data_does, footer_of, good_data, length_of, page_in, page_stored, page_written, program_page}
use Rattle.commands.specs.declared.Command.{Command}
use Rattle.commands.specs.declared.Command.TheVariants.{BlankCheck, BlockErase, Checksum, Programming, RateSet, Reset, Verify}
use Rattle.commands.specs.declared.Command.TheVariants.{SecurityGet, SecurityRelease, SecuritySet, SignatureGet}
use Rattle.part.specs.declared.Place.{Place}
use Rattle.commands.specs.declared.Misread.TheVariants.{UnfitLen, Unknown}
use Rattle.commands.specs.declared.Misread.{Misread}
use Rattle.std.specs.Prelude.{Err, None, Ok, Option, Result, Some}
use Rattle.chip_core.specs.declared.Awaited.{Awaited}
use Rattle.frame.proofs.Laws.Frame.{payload-long}
use Rattle.frame.specs.Frame.{payload}
use Rattle.chip_core.specs.declared.Core.{Core}
use Rattle.chip_core.specs.declared.Done.{Done}
use Rattle.chip_core.specs.declared.Phase.{Phase}
use Rattle.chip_core.specs.declared.Phase.TheVariants.{Awaiting, ModeByte, Ready, Setup}
use Rattle.chip_flash.proofs.Laws.{programmed-long}
use Rattle.chip_flash.specs.Flash.{erase_of, erased, programmed}
use Rattle.frame.specs.Collector.{heard}
use Rattle.frame.specs.Judgement.{fitting, is_good, judge_of}
use Rattle.frame.specs.declared.judgement.Judgement.{Judgement}
use Rattle.frame.specs.declared.judgement.Judgement.TheVariants.{UnfitLength}
use Rattle.part.proofs.Laws.{Spot, block-page, lies-place, place-lies}
use Rattle.part.specs.Part.{block_size, blocks, described, first, page_size, place_in, place_of, size, place_at}
use Rattle.part.specs.declared.Area.{Area}
use Rattle.part.specs.declared.Area.TheVariants.{CodeFlash, DataFlash}
use Rattle.part.specs.declared.Part.{Part}
use Rattle.words.proofs.Laws.{and_right, if-all}
use Rattle.words.specs.Words.{◌and◌, if◌then◌otherwise◌}

record Does (p : Part) (m : Memory) (x : Effect) : Type 0 where
  change : Change p m x.memory

stays-so : {p : Part} (m : Memory) (d : Done) → Does p m (effect d m)
stays-so m d = record { change = nothing refl }

-- A block that begins in its area ends in it.
pub block_inside : (p : Part) (at : ℕ) (a : Area) (offset block page : ℕ) → Spot p at a offset block page → offset % block_size p a ≡ 0
    → offset + block_size p a ≤ size p a
block_inside p at a offset block page s z =
    let n = block_size p a in
    let e : offset ≡ block * n = omega (arith, s.in-block, z) in
    let l : (block + 1) * n ≤ blocks p a * n = mul-le-mul_right n (omega (arith, s.block-below)) in
    let k : (block + 1) * n ≡ block * n + n = rw add-one (suc-mul block n) in
    omega arith

-- A page that lies in its area has 256 bytes, programmed too.
pub programmed-page : (offset : ℕ) (bs ds : List ℕ) → offset + 256 ≤ length bs → length (programmed (take page_size (drop offset bs)) ds) ≡ 256
programmed-page offset bs ds h =
    programmed-long (take page_size (drop offset bs)) ds ∙ length-take-le 256 (drop offset bs) (rw length-drop (omega arith))

-- A page that is awaited lies in its area.
pub page-inside : (p : Part) (w : Awaited) (s : Pages p w) → (w.next - first s.area) + 256 ≤ size p s.area
page-inside p w s =
    let g = s.walk in
    let a = s.area in
    let e : (w.last - first a + 1) % page_size ≡ 0 = block-page p a (w.last - first a + 1) g.end in
    omega (arith, e, g.page, g.order, g.here.low, g.there.low, g.there.high)

-- A good page has 256 bytes.
fitting-long : (n : ℕ) (bs : List ℕ) (j : Judgement) → is_good (fitting n bs j) ≡ true → length bs ≡ n + 4
unfolding fitting if◌then◌otherwise◌ ◌and◌
fitting-long n bs j e = go (is_good j) refl (eqb (length bs) (n + 4)) refl e
  where
    go : (t : Bool) → is_good j ≡ t → (u : Bool) → eqb (length bs) (n + 4) ≡ u → is_good (if t and not u then UnfitLength otherwise j) ≡ true → length bs ≡ n + 4
    go t q true r g = eqb-true _ _ r
    go true q false r g = absurd (false≢true g)
    go false q false r g = absurd (false≢true (sym q ∙ g))

pub page-long : (w : Awaited) (f : List ℕ) → eqb w.command 0xA0 ≡ false → is_good (fitting (length_of w) f (judge_of (footer_of w) f)) ≡ true
    → length (payload f) ≡ 256
unfolding length_of if◌then◌otherwise◌
page-long w f n g =
    let l : length_of w ≡ 256 = ap (λ (t : Bool). if t then 8 otherwise 256) n in
    let e : length f ≡ length_of w + 4 = fitting-long (length_of w) f (judge_of (footer_of w) f) g in
    omega (arith, payload-long f)

module _ (p : Part) (k : Core) (m : Memory) (long : (a : Area) → length (bytes_in a m.flash) ≡ size p a) where
  erases : (at : ℕ) (x : Option Place) → place_of p at ≡ x → Does p m (block_erase p k x m)
  unfolding block_erase erased_in erase_of
  erases at None e = stays-so m _
  erases at (Some place) e =
      if-all (Does p m) _ (λ t. stays-so m _)
      (λ t. if-all (Does p m) _ (λ u. stays-so m _)
      (λ u.
      let z : place.offset % block_size p place.area ≡ 0 = eqb-true _ _ (not-false _ t) in
      let n : length (replicate (block_size p place.area) erased) ≡ block_size p place.area = length-replicate {A = ℕ} (block_size p place.area) erased in
      let i = block_inside p at place.area place.offset place.block place.page (place-lies p at place.area place.offset place.block place.page e) z in
      record { change = one_block place.area place.offset z (rw (resummed-flash p) (put-becomes place.area place.offset (replicate (block_size p place.area) erased) m.flash (omega (arith, long place.area)))) }))

  works : (c : Command) → Does p m (work c p k m)
  unfolding work
  works (RateSet rate supply) = stays-so m _
  works Reset = stays-so m _
  works (BlockErase start) = erases _ _ refl
  works (BlankCheck start end d01) = stays-so m _
  works (Programming start end) = stays-so m _
  works (Verify start end) = stays-so m _
  works (Checksum start end) = stays-so m _
  works SignatureGet = stays-so m _
  works SecurityGet = stays-so m _
  works SecuritySet = stays-so m _
  works SecurityRelease = stays-so m _

  reading-does : (r : Result Command Misread) → Does p m (reading_does r p k m)
  unfolding reading_does
  reading-does (Err Unknown) = stays-so m _
  reading-does (Err UnfitLen) = stays-so m _
  reading-does (Ok c) = works c

  command-does : (f : List ℕ) → Does p m (command_does p k f m)
  unfolding command_does
  command-does f = if-all (Does p m) _ (λ t. stays-so m _) (λ t. if-all (Does p m) _ (λ u. stays-so m _) (λ u. reading-does _))

  -- The page is programmed, whatever its status is.
  programs : (w : Awaited) (a : Area) (offset block page : ℕ) (ds : List ℕ) → offset % page_size ≡ 0 → offset + 256 ≤ size p a → length ds ≡ 256
      → Does p m (program_page p k w (Some (place_at a offset block page)) ds m)
  unfolding program_page page_written page_in page_stored
  programs w a offset block page ds z i n =
      let old = take page_size (drop offset (bytes_in a m.flash)) in
      let l : length (programmed old ds) ≡ 256 = programmed-page offset (bytes_in a m.flash) ds (omega (arith, long a)) in
      record { change = one_page a offset ds z n (rw (resummed-flash p) (put-becomes a offset (programmed old ds) m.flash (omega (arith, long a)))) }

  module _ (part : described p ≡ true) (w : Awaited) (awaited : good_awaited p w ≡ true) where
    page-does : eqb w.command 0xA0 ≡ false → (ds : List ℕ) → length ds ≡ 256 → Does p m (program_page p k w (place_of p w.next) ds m)
    unfolding place_in
    page-does n ds e =
        let s = good-walk p w awaited n in
        rw (lies-place p s.area w.next part s.walk.here)
        (programs w s.area (w.next - first s.area) _ _ ds s.walk.page (page-inside p w s) e)

    data-does : (f : List ℕ) → Does p m (data_does p k w f m)
    unfolding data_does good_data
    data-does f =
        if-all (Does p m) _ (λ t. stays-so m _)
        (λ t. if-all (Does p m) _ (λ u. stays-so m _)
        (λ u. if-all (Does p m) _ (λ v. page-does u (payload f) (page-long w f u (not-false _ t))) (λ v. stays-so m _)))

  frame-does : (f : Phase) → described p ≡ true → good_phase p f ≡ true → (g : List ℕ) → Does p m (frame_does (hearing f) p k g m)
  unfolding frame_does hearing good_phase
  frame-does ModeByte d e g = stays-so m _
  frame-does Setup d e g = command-does g
  frame-does Ready d e g = command-does g
  frame-does (Awaiting w) d e g = data-does d w e g

-- The same of a reaction.
record DoesSo (p : Part) (m : Memory) (x : Reaction) : Type 0 where
  change : Change p m x.does.memory

heard-does : (p : Part) (k : Core) (m : Memory) (hs : List ℕ) (x : Effect) → Does p m x → DoesSo p m (heard_byte hs x k m)
unfolding heard_byte
heard-does p k m hs x d = if-all (DoesSo p m) _ (λ t. record { change = d.change }) (λ t. record { change = nothing refl })

byte-does : (p : Part) (k : Core) (m : Memory) (f : Phase) (hs : List ℕ) (b : ℕ) → ((a : Area) → length (bytes_in a m.flash) ≡ size p a) → described p ≡ true
    → good_phase p f ≡ true → DoesSo p m (byte_in (hearing f) p k hs b m)
unfolding byte_in hearing
byte-does p k m ModeByte hs b l d g = record { change = nothing refl }
byte-does p k m Setup hs b l d g = heard-does p k m _ _ (frame-does p k m l Setup d g _)
byte-does p k m Ready hs b l d g = heard-does p k m _ _ (frame-does p k m l Ready d g _)
byte-does p k m (Awaiting w) hs b l d g = heard-does p k m _ _ (frame-does p k m l (Awaiting w) d g _)

reaction-does : (p : Part) (k : Core) (m : Memory) (hs : List ℕ) (v : Event) → ((a : Area) → length (bytes_in a m.flash) ≡ size p a) → described p ≡ true
    → good_phase p k.phase ≡ true → DoesSo p m (react_to v p k hs m)
unfolding react_to
reaction-does p k m hs (Byte b) l d g = byte-does p k m k.phase hs b l d g
reaction-does p k m hs Gap l d g = record { change = nothing refl }
reaction-does p k m hs PowerOn l d g = record { change = nothing refl }

pub one-event : OneEvent
unfolding reaction_of good_state
one-event p o v s q =
    let a = accepts s.accepted in
    let g = core_is p o.chip.core (and_right _ _ a.state) in
    rw (leaves p o v s).memory (reaction-does p o.chip.core o.memory (heard o.chip.collector) v (lengths a) a.part g.phase).change
  where
    lengths : Accepts p o.chip.core (handed_with o.chip.collector (length o.memory.flash.code_flash) (length o.memory.flash.data_flash) (length o.room))
        → (a : Area) → length (bytes_in a o.memory.flash) ≡ size p a
    lengths c CodeFlash = c.code_long
    lengths c DataFlash = c.data_long

pub power-on-keeps : PowerOnKeeps
unfolding reaction_of react_to
power-on-keeps p o s = let l = leaves p o PowerOn s in record { memory = l.memory; core = l.core; count = l.count }
