-- The proof of `BitsOnlyClear`.
-- Assumes nothing.
use mathlib.Core.Bool.{true}
use mathlib.Core.List.{List, [], ◌∷◌}
use mathlib.Core.Path.{◌∙◌, ◌≡◌, ap, refl, sym}
use Prim.Native.Nat.{◌%◌, ◌+◌, ◌-◌, ◌<◌, ◌≤◌, ℕ}
use native.Mathlib.Decide.{dec_le, dec_lt}
use native.Mathlib.Nat.{le_refl, le_trans}
use native.Mathlib.Omega.{arith}
use lib.Bits.{bit_and}
use lib.Dec.{eqb}
use lib.ListN.{drop, get_or, length, length-drop, length-replicate, replicate, take}
use lib.Seq.{get_or-drop, get_or-take, length-take-le}
use borrow.Author.Tests.{eqb-true, not-false}
use Rattle.chip.specs.Run.{onward, run}
use Rattle.chip.specs.Step.{Outcome, Reaction}
use Rattle.chip_frame.specs.Does.{frame_does, silent}
use Rattle.chip.specs.declared.Event.{Event}
use Rattle.chip_commands.specs.Commands.{allowed_in, command_does, reading_does, work}
use Rattle.chip_core.specs.Effect.{Effect, Flash, Memory, bytes_in}
use Rattle.chip_core.specs.Hearing.{hearing}
use Rattle.chip_core.specs.declared.Awaited.{Awaited}
use Rattle.chip_core.specs.declared.Core.{Core}
use Rattle.chip_core.specs.declared.Phase.{Phase}
use Rattle.chip_core.specs.declared.Phase.TheVariants.{Awaiting, ModeByte, Ready, Setup}
use Rattle.chip_flash.proofs.Laws.{programmed-at, programmed-long}
use Rattle.chip_flash.specs.Flash.{erase_of, erased, programmed}
use Rattle.chip_pages.specs.Pages.{data_does, footer_of, good_data, length_of}
use Rattle.chip_sums.proofs.Laws.{resummed-flash}
use Rattle.chip_work.specs.Work.{block_erase, erased_in}
use Rattle.claims_cut.proofs.Cut.{block_inside, page-long}
use Rattle.claims_cut.proofs.Put.{put-becomes}
use Rattle.claims_cut.specs.Cut.{Becomes}
use Rattle.claims_fed.specs.Awaits.{good_for}
use Rattle.claims_fed.specs.Fed.{does, does_in}
use Rattle.claims_good.proofs.Rooms.{leaves, reaction_of}
use Rattle.claims_good.proofs.Stays.{stays}
use Rattle.claims_good.specs.Good.{AllProper, Stands, and_event, no_event}
use Rattle.claims_pages.proofs.Bits.{bit-less}
use Rattle.claims_pages.proofs.Written.{PageBecomes, page-becomes}
use Rattle.claims_pages.specs.Bytes.{bit_of}
use Rattle.claims_pages.specs.Cleared.{AsksErase, BitsOnlyClear}
use Rattle.claims_pages.specs.Sent.{PageSent, old_page}
use Rattle.claims_runs.proofs.Taken.{Went, frame_done, only_heard, quiet_core, went}
use Rattle.claims_runs.proofs.Window.{only-ready}
use Rattle.claims_runs.specs.Options.{Never, at_end, not_here}
use Rattle.claims_runs.specs.Taken.{taken_by}
use Rattle.claims_sums.proofs.Touched.{stands-long}
use Rattle.commands.proofs.Laws.{com-read}
use Rattle.commands.specs.Commands.{com_of, read_command}
use Rattle.commands.specs.declared.Command.{Command}
use Rattle.commands.specs.declared.Command.TheVariants.{BlankCheck, BlockErase, Checksum, Programming, RateSet, Reset, SecurityGet, SecurityRelease, SecuritySet, SignatureGet, Verify}
use Rattle.part.specs.declared.Place.{Place}
use Rattle.commands.specs.declared.Misread.TheVariants.{UnfitLen, Unknown}
use Rattle.commands.specs.declared.Misread.{Misread}
use Rattle.std.specs.Prelude.{Err, None, Ok, Option, Result, Some}
use Rattle.frame.specs.Frame.{payload}
use Rattle.frame.specs.Judgement.{fitting, is_good, judge_of}
use Rattle.frame.specs.declared.Footer.TheVariants.{Last}
use Rattle.part.proofs.Laws.{place-lies}
use Rattle.part.specs.Part.{block_size, place_of, size, place_at}
use Rattle.part.specs.declared.Area.{Area}
use Rattle.part.specs.declared.Area.TheVariants.{CodeFlash, DataFlash}
use Rattle.part.specs.declared.Part.{Part}
use Rattle.words.proofs.Laws.{if-all}

-- Of byte i of an area no bit rises from the flash m to the flash n.
record Falls (a : Area) (i : ℕ) (m n : Flash) : Type 0 where
  each : (k : ℕ) → bit_of k (get_or (bytes_in a n) i 0) ≤ bit_of k (get_or (bytes_in a m) i 0)

falls-equal : {a : Area} {i : ℕ} {m n : Flash} → get_or (bytes_in a n) i 0 ≡ get_or (bytes_in a m) i 0 → Falls a i m n
falls-equal e = record { each = λ k. rw e (le_refl _) }

falls-on : {a : Area} {i : ℕ} {l m n : Flash} → Falls a i l m → Falls a i m n → Falls a i l n
falls-on f g = record { each = λ k. le_trans (g.each k) (f.each k) }

-- Where bytes come to stand in an area, a byte of it is among them or as it was.
data Among (a b : Area) (at n i : ℕ) (m f : Flash) : Type 0 where
  among : b ≡ a → at ≤ i → i < at + n → Among a b at n i m f
  beside : get_or (bytes_in a f) i 0 ≡ get_or (bytes_in a m) i 0 → Among a b at n i m f

where-is : (a b : Area) (at i : ℕ) (ds : List ℕ) (m f : Flash) → Becomes b at ds m f → Among a b at (length ds) i m f
where-is a b at i ds m f c = go a b c
  where
    here : (x : Area) → Becomes x at ds m f → Dec (at ≤ i) → Dec (i < at + length ds) → Among x x at (length ds) i m f
    here x c (yes h) (yes k) = among refl h k
    here x c (yes h) (no k) = beside (c.past i (omega arith))
    here x c (no h) k = beside (c.under i (omega arith))

    go : (a b : Area) → Becomes b at ds m f → Among a b at (length ds) i m f
    go CodeFlash CodeFlash c = here CodeFlash c (dec_le at i) (dec_lt i (at + length ds))
    go DataFlash DataFlash c = here DataFlash c (dec_le at i) (dec_lt i (at + length ds))
    go CodeFlash DataFlash c = beside (ap (λ (l : List ℕ). get_or l i 0) c.other)
    go DataFlash CodeFlash c = beside (ap (λ (l : List ℕ). get_or l i 0) c.other)

-- A byte of a page that is programmed.
page-falls : (a : Area) (i : ℕ) (p : Part) (o : Outcome) (v : Event) (w : Awaited) (ds : List ℕ) → Stands p o → PageSent o v w ds → length ds ≡ 256
    → Falls a i o.memory.flash (onward p o v).memory.flash
page-falls a i p o v w ds s q d = go (where-is a b.area b.offset i _ o.memory.flash (onward p o v).memory.flash b.becomes)
  where
    b : PageBecomes p o (onward p o v) w ds
    b = page-becomes p o v w ds s q

    bs : List ℕ
    bs = bytes_in b.area o.memory.flash

    old-long : length (old_page p w o) ≡ 256
    old-long = ap length b.old ∙ length-take-le 256 (drop b.offset bs) (rw length-drop (omega (arith, b.inside)))

    long : length (programmed (old_page p w o) ds) ≡ 256
    long = programmed-long (old_page p w o) ds ∙ old-long

    byte-is : b.offset ≤ i → i < b.offset + 256
        → get_or (bytes_in b.area (onward p o v).memory.flash) i 0 ≡ bit_and (get_or bs i 0) (get_or ds (i - b.offset) 0)
    byte-is h k =
        let j : ℕ = i - b.offset in
        let e : b.offset + j ≡ i = omega arith in
        let now : take 256 (drop b.offset (bytes_in b.area (onward p o v).memory.flash)) ≡ programmed (old_page p w o) ds = rw long at b.becomes.now in
        ap (λ (x : ℕ). get_or (bytes_in b.area (onward p o v).memory.flash) x 0) (sym e)
        ∙ sym (get_or-take 256 (drop b.offset (bytes_in b.area (onward p o v).memory.flash)) j 0 (omega arith)
        ∙ get_or-drop b.offset (bytes_in b.area (onward p o v).memory.flash) j 0)
        ∙ ap (λ (x : List ℕ). get_or x j 0) now
        ∙ programmed-at (old_page p w o) ds j (omega (arith, old-long)) (omega (arith, d))
        ∙ ap (λ (x : ℕ). bit_and x (get_or ds j 0))
        (ap (λ (x : List ℕ). get_or x j 0) b.old ∙ get_or-take 256 (drop b.offset bs) j 0 (omega arith) ∙ get_or-drop b.offset bs j 0 ∙ ap (λ (x : ℕ). get_or bs x 0) e)

    go : Among a b.area b.offset (length (programmed (old_page p w o) ds)) i o.memory.flash (onward p o v).memory.flash
        → Falls a i o.memory.flash (onward p o v).memory.flash
    go (beside e) = falls-equal e
    go (among e h k) = rw (← e) (record { each = λ n. rw (byte-is h (omega (arith, long))) (bit-less n (get_or bs i 0) (get_or ds (i - b.offset) 0)) })

-- A command frame.
record FallsSo (a : Area) (i : ℕ) (m : Memory) (x : Effect) : Type 0 where
  falls : Falls a i m.flash x.memory.flash

stays-so : {a : Area} {i : ℕ} (m : Memory) {x : Effect} → x.memory ≡ m → FallsSo a i m x
stays-so m e = record { falls = falls-equal (rw e) }

module _ (p : Part) (k : Core) (m : Memory) (long : (b : Area) → length (bytes_in b m.flash) ≡ size p b) (a : Area) (i : ℕ) where
  -- 22h, unless it names the block of the byte.
  erase-falls : (at : ℕ) (x : Option Place) → place_of p at ≡ x
      → ((offset block page : ℕ) → x ≡ Some (place_at a offset block page) → offset ≤ i → i < offset + block_size p a → ⊥) → FallsSo a i m (block_erase p k x m)
  unfolding block_erase erased_in erase_of
  erase-falls at None e n = stays-so m refl
  erase-falls at (Some place) e n =
      if-all (FallsSo a i m) _ (λ t. stays-so m refl)
      (λ t. if-all (FallsSo a i m) _ (λ u. stays-so m refl)
      (λ u.
      let z : place.offset % block_size p place.area ≡ 0 = eqb-true _ _ (not-false _ t) in
      let l : length (replicate (block_size p place.area) erased) ≡ block_size p place.area = length-replicate {A = ℕ} (block_size p place.area) erased in
      let h = block_inside p at place.area place.offset place.block place.page (place-lies p at place.area place.offset place.block place.page e) z in
      record {
        falls =
            rw (resummed-flash p)
            (erased-falls l (where-is a place.area place.offset i _ m.flash _ (put-becomes place.area place.offset (replicate (block_size p place.area) erased) m.flash (omega (arith, long place.area)))));
      }))
    where
      erased-falls : {f : Flash} → length (replicate (block_size p place.area) erased) ≡ block_size p place.area → Among a place.area place.offset (length (replicate (block_size p place.area) erased)) i m.flash f
          → Falls a i m.flash f
      erased-falls l (beside q) = falls-equal q
      erased-falls l (among q h j) = absurd (n place.offset place.block place.page (rw q) h (rw (← q) (omega arith)))

  NoErase : Command → Type 0
  NoErase c = (start offset block page : ℕ) → c ≡ BlockErase start → place_of p start ≡ Some (place_at a offset block page) → offset ≤ i → i < offset + block_size p a → ⊥

  works : (c : Command) → NoErase c → FallsSo a i m (work c p k m)
  unfolding work NoErase
  works (RateSet rate supply) n = stays-so m refl
  works Reset n = stays-so m refl
  works (BlockErase start) n = erase-falls start _ refl (λ offset block page e h j. n start offset block page refl e h j)
  works (BlankCheck start end d01) n = stays-so m refl
  works (Programming start end) n = stays-so m refl
  works (Verify start end) n = stays-so m refl
  works (Checksum start end) n = stays-so m refl
  works SignatureGet n = stays-so m refl
  works SecurityGet n = stays-so m refl
  works SecuritySet n = stays-so m refl
  works SecurityRelease n = stays-so m refl

  reading-falls : (r : Result Command Misread) → ((c : Command) → r ≡ Ok c → NoErase c) → FallsSo a i m (reading_does r p k m)
  unfolding reading_does NoErase
  reading-falls (Err Unknown) n = stays-so m refl
  reading-falls (Err UnfitLen) n = stays-so m refl
  reading-falls (Ok c) n = works c (n c refl)

  command-falls : (f : List ℕ)
      → (is_good (judge_of Last f) ≡ true → allowed_in k.phase (get_or (payload f) 0 0) ≡ true → (c : Command) → read_command (payload f) ≡ Ok c → NoErase c)
      → FallsSo a i m (command_does p k f m)
  unfolding command_does NoErase
  command-falls f n =
      if-all (FallsSo a i m) _ (λ t. stays-so m refl)
      (λ t. if-all (FallsSo a i m) _ (λ u. stays-so m refl) (λ u. reading-falls (read_command (payload f)) (n (not-false _ t) (not-false _ u))))

-- A data frame is a good page of 40h, or leaves all as it was.
data PageOrNot (w : Awaited) (f : List ℕ) (m : Memory) (x : Effect) : Type 0 where
  leaves_all : x.memory ≡ m → PageOrNot w f m x
  writes : is_good (fitting (length_of w) f (judge_of (footer_of w) f)) ≡ true → w.command ≡ 0x40 → PageOrNot w f m x

data-does : (p : Part) (k : Core) (w : Awaited) (f : List ℕ) (m : Memory) → PageOrNot w f m (data_does p k w f m)
unfolding data_does good_data
data-does p k w f m =
    if-all (PageOrNot w f m) _ (λ t. leaves_all refl)
    (λ t. if-all (PageOrNot w f m) _ (λ u. leaves_all refl) (λ u. if-all (PageOrNot w f m) _ (λ x. writes (not-false _ t) (eqb-true _ _ x)) (λ x. leaves_all refl)))

-- An event.
one-falls : (p : Part) (o : Outcome) (v : Event) (a : Area) (i : ℕ) → Stands p o → (AsksErase p a i o v → ⊥) → Falls a i o.memory.flash (onward p o v).memory.flash
unfolding does_in does frame_does hearing good_for com_of NoErase
one-falls p o v a i s n = go (went p o v)
  where
    k : Core
    k = o.chip.core

    m : Memory
    m = o.memory

    left : (x : Memory) → (reaction_of p o v).does.memory ≡ x → Falls a i m.flash x.flash → Falls a i m.flash (onward p o v).memory.flash
    left x e f = rw ((leaves p o v s).memory, e) f

    asks : (f : List ℕ) → taken_by o v ≡ f ∷ [] → is_good (judge_of Last f) ≡ true → allowed_in k.phase (get_or (payload f) 0 0) ≡ true
        → (c : Command) → read_command (payload f) ≡ Ok c → NoErase p k m (stands-long o s) a i c
    asks f t g l c r start offset block page e x h j =
        let b : read_command (payload f) ≡ Ok (BlockErase start) = r ∙ ap Ok e in
        n
        (record {
          frame = f;
          start = start;
          offset = offset;
          block = block;
          page = page;
          phase = only-ready _ (ap (λ (c : ℕ). eqb c 0x9A) (com-read (payload f) (BlockErase start) b)) k.phase l;
          taken = t;
          good = g;
          command = b;
          place = x;
          under = h;
          inside = j;
        })

    frame : (f : List ℕ) (ph : Phase) → k.phase ≡ ph → taken_by o v ≡ f ∷ [] → (reaction_of p o v).does.memory ≡ (frame_does (hearing ph) p k f m).memory
        → Falls a i m.flash (onward p o v).memory.flash
    frame f ModeByte e t q = left m q (falls-equal refl)
    frame f Setup e t q = left _ q (command-falls p k m (stands-long o s) a i f (asks f t)).falls
    frame f Ready e t q = left _ q (command-falls p k m (stands-long o s) a i f (asks f t)).falls
    frame f (Awaiting w) e t q = page (data-does p k w f m)
      where
        page : PageOrNot w f m (data_does p k w f m) → Falls a i m.flash (onward p o v).memory.flash
        page (leaves_all x) = left m (q ∙ x) (falls-equal refl)
        page (writes g c) =
            page-falls a i p o v w (payload f) s (record { frame = f; phase = e; command = c; taken = t; good = g; carries = refl }) (page-long w f (ap (λ (c : ℕ). eqb c 0xA0) c) g)

    go : Went (taken_by o v) (λ f. does_in p f k m) (silent (quiet_core v k) m) (reaction_of p o v) → Falls a i m.flash (onward p o v).memory.flash
    go (only_heard t e) = left m (ap (λ (x : Effect). x.memory) e) (falls-equal refl)
    go (frame_done f t e) = frame f k.phase refl t (ap (λ (x : Reaction). x.does.memory) e)

pub bits-only-clear : BitsOnlyClear
unfolding run
bits-only-clear p o vs s q a i n = (clears p o vs s q n).each
  where
    clears : (p : Part) (o : Outcome) (vs : List Event) → Stands p o → AllProper vs → Never (AsksErase p a i) p o vs → Falls a i o.memory.flash (run p vs o).memory.flash
    clears p o [] s no_event at_end = falls-equal refl
    clears p o (v ∷ vs) s (and_event x r) (not_here m n) = falls-on (one-falls p o v a i s m) (clears p (onward p o v) vs (stays p o v s x) r n)
