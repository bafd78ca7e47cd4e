-- The proofs of `VerifyTold`, page by page from the last one on, and of `EarlierTold`.
-- Assumes nothing.
use mathlib.Core.Bool.{Bool, false, not, true}
use mathlib.Core.List.{List, [], ◌++◌, ◌∷◌, append-nil, map}
use mathlib.Core.Path.{◌∙◌, ◌≡◌, ap, refl, subst, sym}
use Prim.Native.Nat.{◌*◌, ◌+◌, ◌-◌, ◌<◌, ◌≤◌, ℕ}
use native.Mathlib.Omega.{arith}
use lib.Dec.{eqb}
use lib.ListN.{drop, get_or, length, length-drop, replicate, take}
use lib.Seq.{drop-drop, length-take-le, take-add}
use borrow.Author.Tests.{le-ltb, lt-ltb}
use Rattle.chip.proofs.Runs.{run-append}
use Rattle.chip.specs.Run.{answers, onward, run, spoken_in}
use Rattle.chip.specs.Step.{Outcome, reaction}
use Rattle.chip_frame.specs.Does.{frame_does}
use Rattle.chip.specs.declared.Event.{Event}
use Rattle.chip.specs.declared.Event.TheVariants.{Byte}
use Rattle.chip_core.specs.Effect.{Effect, Flash, Memory, acknowledge, bytes_in, effect, entered, verify_error}
use Rattle.chip_core.specs.Hearing.{hearing}
use Rattle.chip_core.specs.declared.Awaited.{Awaited}
use Rattle.chip_core.specs.declared.Core.{Core}
use Rattle.chip_core.specs.declared.Phase.{Phase}
use Rattle.chip_core.specs.declared.Phase.TheVariants.{Awaiting}
use Rattle.chip_pages.specs.Pages.{compared, data_does, footer_of, good_data, is_last_page, length_of, next_page, page_after, page_in, pair, ready, verify_page, verify_status}
use Rattle.chip_reply.specs.Reply.{fault_in, frames_of, payloads}
use Rattle.chip_state.proofs.Laws.{accepts}
use Rattle.chip_state.specs.Refusals.{good_awaited, good_phase, good_state}
use Rattle.claims_fed.proofs.Frames.{bytes-proper, fed-is-done}
use Rattle.claims_fed.specs.Awaits.{page}
use Rattle.claims_fed.specs.Fed.{FedIsDone, does, does_in, says_frame, silence}
use Rattle.claims_frame.proofs.RoundTrip.{framed-good, framed-whole}
use Rattle.claims_good.proofs.Awaited.{Pages, good-walk}
use Rattle.claims_good.proofs.Core.{core_is}
use Rattle.claims_good.proofs.Rooms.{utterance_of}
use Rattle.claims_good.proofs.Stays.{run-stands}
use Rattle.claims_good.specs.Good.{Stands, Utterance, utterances, uttered}
use Rattle.claims_verify.specs.Told.{AllPages, EarlierTold, GoesOn, Page, Told, VerifyTold, Verifying, and_page, any_differs, flash_from, joined_pages, page_frames, page_seen, to_page, to_pages}
use Rattle.frame.proofs.Laws.Frame.{payload-framed}
use Rattle.frame.proofs.Laws.Sum.{Below, below-append, more, none, sum_is}
use Rattle.frame.proofs.Laws.Wire.{framed-long}
use Rattle.frame.specs.Frame.{data_frame, footer_byte, framed, header_byte, len_byte}
use Rattle.frame.specs.Judgement.{fitting, judge_of}
use Rattle.frame.specs.Sum.{sum_of}
use Rattle.frame.specs.declared.Footer.{Footer}
use Rattle.frame.specs.declared.Footer.TheVariants.{Last, More}
use Rattle.frame.specs.declared.Header.{Header}
use Rattle.frame.specs.declared.Header.TheVariants.{Command, Data}
use Rattle.frame.specs.declared.judgement.Judgement.TheVariants.{Good}
use Rattle.lent.specs.Lent.{same}
use Rattle.part.proofs.Laws.{LiesIn, lies-place}
use Rattle.part.specs.Part.{described, first, page_size, place_in, place_of, size}
use Rattle.part.specs.declared.Area.{Area}
use Rattle.part.specs.declared.Area.TheVariants.{CodeFlash, DataFlash}
use Rattle.part.specs.declared.Part.{Part}
use Rattle.part.specs.declared.Place.{Place}
use Rattle.std.specs.Prelude.{None, Option, Some}
use Rattle.words.proofs.Laws.{and_assoc, and_right}
use Rattle.words.specs.Words.{◌and◌, ◌or◌, if◌then◌otherwise◌}

-- One run after another.
says-append : (p : Part) (us vs : List Event) (o : Outcome) → utterances p (us ++ vs) o ≡ utterances p us o ++ utterances p vs (run p us o)
unfolding utterances answers run
says-append p [] vs o = refl
says-append p (u ∷ us) vs o = ap (λ (zs : List Utterance). uttered (spoken_in (onward p o u)) ∷ zs) (says-append p us vs (onward p o u))

map-append : (bs cs : List ℕ) → map Byte (bs ++ cs) ≡ map Byte bs ++ map Byte cs
map-append [] cs = refl
map-append (b ∷ bs) cs = ap (λ (vs : List Event). Byte b ∷ vs) (map-append bs cs)

-- A written frame is bytes.
pub framed-below : (h : Header) (ds : List ℕ) (f : Footer) → Below 256 ds → Below 256 (framed h ds f)
unfolding framed sum_of
framed-below h ds f b =
    let l : len_byte (length ds) < 256 = omega arith in
    more (header-below h) (more l (below-append b (more (sum_is 256 0 (len_byte (length ds) ∷ ds) (omega arith) (more l b)).below (more (footer-below f) none))))
  where
    header-below : (h : Header) → header_byte h < 256
    header-below Command = omega arith
    header-below Data = omega arith

    footer-below : (f : Footer) → footer_byte f < 256
    footer-below Last = omega arith
    footer-below More = omega arith

pub framed-header : (h : Header) (ds : List ℕ) (f : Footer) → get_or (framed h ds f) 0 0 ≡ header_byte h
unfolding framed
framed-header h ds f = refl

-- A page of 13h, good where its footer is awaited, is compared.
module _ (p : Part) (k : Core) (w : Awaited) (ds : List ℕ) (f : Footer) (m : Memory) (c : w.command ≡ 0x13) (d : Page ds) (e : footer_of w ≡ f) where
  page-judged : fitting (length_of w) (data_frame ds f) (judge_of (footer_of w) (data_frame ds f)) ≡ Good
  unfolding fitting length_of if◌then◌otherwise◌ ◌and◌
  page-judged =
      let n = d.long in
      let l : length (data_frame ds f) ≡ 260 = framed-long Data ds f ∙ (omega arith) in
      rw (e, framed-good Data ds f (omega arith) (omega arith), c, l)

  page-does : data_does p k w (data_frame ds f) m ≡ effect (verify_page k w (place_of p w.next) ds m.flash) m
  unfolding data_does good_data if◌then◌otherwise◌
  page-does = rw (page-judged, payload-framed Data ds f) (rw c)

pub two_said : (p : Part) (k : Core) (m : Memory) (s t : ℕ) → utterance_of p (reaction [] (effect (pair s t k) m)) ≡ says_frame (s ∷ t ∷ [])
unfolding utterance_of fault_in payloads frames_of
two_said p k m s t = rw append-nil

-- What the page at the awaited place makes of the record.
abbrev after_page : Part → Awaited → List ℕ → Flash → Awaited
after_page p w ds m = compared w (same (page_in (place_of p w.next) m) ds)

-- One page, fed.
record PageTold (p : Part) (o : Outcome) (w : Awaited) (ds : List ℕ) (f : Footer) : Type 0 where
  says : utterances p (map Byte (data_frame ds f)) o ≡ to_page acknowledge (verify_status (after_page p w ds o.memory.flash))
  core : (run p (map Byte (data_frame ds f)) o).chip.core ≡ next_page (after_page p w ds o.memory.flash) o.chip.core
  memory : (run p (map Byte (data_frame ds f)) o).memory ≡ o.memory
  nothing : (run p (map Byte (data_frame ds f)) o).chip.collector.len ≡ 0
  stands : Stands p (run p (map Byte (data_frame ds f)) o)

page-told : (p : Part) (o : Outcome) (w : Awaited) (ds : List ℕ) (f : Footer) → Stands p o → o.chip.collector.len ≡ 0 → o.chip.core.phase ≡ Awaiting w
    → w.command ≡ 0x13 → Page ds → footer_of w ≡ f → PageTold p o w ds f
unfolding does_in does frame_does hearing verify_page to_page
page-told p o w ds f s n e c d h =
    let k = o.chip.core in
    let m = o.memory in
    let b = framed-below Data ds f d.bytes in
    let l = d.long in
    let z : length (data_frame ds f) - 1 ≡ 259 = omega (arith, framed-long Data ds f) in
    let t : FedIsDone p o (data_frame ds f) (data_frame ds f) =
    fed-is-done p o (data_frame ds f) s (rw e (page w)) n (framed-whole Data ds f (omega arith) (omega arith)) (rw e (framed-header Data ds f)) b in
    let x : does_in p (data_frame ds f) k m ≡ effect (verify_page k w (place_of p w.next) ds m.flash) m =
    ap (λ (g : Phase). frame_does (hearing g) p k (data_frame ds f) m) e ∙ page-does p k w ds f m c d h in
    record {
      says =
          t.answers
          ∙ ap (λ (y : Effect). replicate (length (data_frame ds f) - 1) silence ++ utterance_of p (reaction [] y) ∷ []) x
          ∙ ap (λ (j : ℕ). replicate j silence ++ utterance_of p (reaction [] (effect (verify_page k w (place_of p w.next) ds m.flash) m)) ∷ []) z
          ∙ ap (λ (u : Utterance). replicate 259 silence ++ u ∷ []) (two_said p _ m acknowledge _);
      core = t.core ∙ ap (λ (y : Effect). y.core) x;
      memory = t.memory ∙ ap (λ (y : Effect). y.memory) x;
      nothing = t.count;
      stands = run-stands p (map Byte (data_frame ds f)) o s (bytes-proper b);
    }

-- Where the page is the last one, and where it is not.
last-page : (w : Awaited) → w.next + page_size ≡ w.last + 1 → is_last_page w ≡ true
unfolding is_last_page
last-page w e = lt-ltb w.last (w.next + page_size) (omega arith)

earlier-page : (w : Awaited) → w.next + page_size ≤ w.last → is_last_page w ≡ false
unfolding is_last_page
earlier-page w h = le-ltb w.last (w.next + page_size) (omega arith)

footer-so : (w : Awaited) → w.command ≡ 0x13 → footer_of w ≡ (if is_last_page w then Last otherwise More)
unfolding footer_of ◌or◌
footer-so w c = rw c

last-next : (w : Awaited) (k : Core) → is_last_page w ≡ true → next_page w k ≡ ready k
unfolding next_page if◌then◌otherwise◌
last-next w k e = rw e

earlier-next : (w : Awaited) (k : Core) → is_last_page w ≡ false → next_page w k ≡ entered k (Awaiting (page_after w))
unfolding next_page if◌then◌otherwise◌
earlier-next w k e = rw e

last-status : (w : Awaited) → is_last_page w ≡ true → verify_status w ≡ (if w.differed then verify_error otherwise acknowledge)
unfolding verify_status ◌and◌
last-status w e = rw e

earlier-status : (w : Awaited) → is_last_page w ≡ false → verify_status w ≡ acknowledge
unfolding verify_status ◌and◌ if◌then◌otherwise◌
earlier-status w e = rw e

-- The flash that pages lie in.
area-long : (p : Part) (o : Outcome) (a : Area) → Stands p o → length (bytes_in a o.memory.flash) ≡ size p a
area-long p o CodeFlash s = (accepts s.accepted).code_long
area-long p o DataFlash s = (accepts s.accepted).data_long

pub from_in : (p : Part) (a : Area) (at n : ℕ) (m : Flash) → described p ≡ true → LiesIn p a at → flash_from (place_of p at) n m ≡ take n (drop (at - first a) (bytes_in a m))
unfolding flash_from place_in
from_in p a at n m d l = rw (lies-place p a at d l)

page-from : (p : Part) (at : ℕ) (m : Flash) → page_in (place_of p at) m ≡ flash_from (place_of p at) page_size m
unfolding page_in flash_from
page-from p at m = go (place_of p at)
  where
    go : (x : Option Place) → page_in x m ≡ flash_from x page_size m
    go None = refl
    go (Some place) = refl

same-join : (xs ys zs ts : List ℕ) → length xs ≡ length ys → same (xs ++ zs) (ys ++ ts) ≡ same xs ys and same zs ts
unfolding same ◌and◌
same-join [] [] zs ts e = refl
same-join [] (y ∷ ys) zs ts e = absurd (omega arith)
same-join (x ∷ xs) [] zs ts e = absurd (omega arith)
same-join (x ∷ xs) (y ∷ ys) zs ts e = rw (same-join xs ys zs ts (omega arith), and_assoc)

-- Pages are compared one by one.
from_more : (p : Part) (a : Area) (at n : ℕ) (m : Flash) (ds rest : List ℕ) → described p ≡ true → LiesIn p a at → LiesIn p a (at + page_size)
    → length (bytes_in a m) ≡ size p a → length ds ≡ page_size
    → same (flash_from (place_of p at) (page_size + n) m) (ds ++ rest)
    ≡ same (flash_from (place_of p at) page_size m) ds and same (flash_from (place_of p (at + page_size)) n m) rest
from_more p a at n m ds rest d l k s e =
    let x : List ℕ = drop (at - first a) (bytes_in a m) in
    let j : at - first a + page_size ≡ at + page_size - first a = omega (arith, l.low) in
    let q : length (take page_size x) ≡ length ds = length-take-le page_size x (rw length-drop (omega (arith, l.low, k.high))) ∙ sym e in
    let y : flash_from (place_of p at) (page_size + n) m ≡ take page_size x ++ take n (drop (at + page_size - first a) (bytes_in a m)) =
    from_in p a at (page_size + n) m d l ∙ take-add page_size n x ∙ ap (λ (zs : List ℕ). take page_size x ++ take n zs) (drop-drop page_size (at - first a) (bytes_in a m) ∙ ap (λ (i : ℕ). drop i (bytes_in a m)) j) in
    rw (y, from_in p a at page_size m d l, from_in p a (at + page_size) n m d k) (same-join (take page_size x) ds _ rest q)

-- What is remembered after a page, and what is told in the end.
told-on : (d e r : Bool) → (d or not e) or not r ≡ d or not (e and r)
unfolding ◌or◌ ◌and◌
told-on true e r = refl
told-on false true r = refl
told-on false false r = refl

told-last : (d e : Bool) → not e or d ≡ d or not e
unfolding ◌or◌
told-last true true = refl
told-last true false = refl
told-last false true = refl
told-last false false = refl

first-page : {ds : List ℕ} {dss : List (List ℕ)} → AllPages (ds ∷ dss) → Page ds
first-page (and_page d r) = d

other-pages : {ds : List ℕ} {dss : List (List ℕ)} → AllPages (ds ∷ dss) → AllPages dss
other-pages (and_page d r) = r

pub good-awaited : (p : Part) (o : Outcome) (w : Awaited) → Stands p o → o.chip.core.phase ≡ Awaiting w → good_awaited p w ≡ true
unfolding good_state good_phase
good-awaited p o w s e =
    ap (λ (f : Phase). good_phase p f) (sym e) ∙ (core_is p o.chip.core (and_right _ _ (accepts s.accepted).state)).phase

walk_of : (p : Part) (o : Outcome) (w : Awaited) (dss : List (List ℕ)) → Verifying p o w dss → Pages p w
walk_of p o w dss v = good-walk p w (good-awaited p o w v.stands v.phase) (ap (λ (c : ℕ). eqb c 0xA0) v.command)

-- Bytes that leave the command going on, or to begin, and bytes that end it.
pub then-told : (p : Part) (o : Outcome) (bs cs : List ℕ) (us ts : List Utterance) → utterances p (map Byte bs) o ≡ us
    → ready (run p (map Byte bs) o).chip.core ≡ ready o.chip.core → (run p (map Byte bs) o).memory ≡ o.memory → Told p (run p (map Byte bs) o) cs ts
    → Told p o (bs ++ cs) (us ++ ts)
then-told p o bs cs us ts e k m r =
    let x : run p (map Byte (bs ++ cs)) o ≡ run p (map Byte cs) (run p (map Byte bs) o) =
    ap (λ (vs : List Event). run p vs o) (map-append bs cs) ∙ run-append p (map Byte bs) (map Byte cs) o in
    record {
      says = ap (λ (vs : List Event). utterances p vs o) (map-append bs cs) ∙ says-append p (map Byte bs) (map Byte cs) o ∙ rw (e, r.says);
      core = ap (λ (u : Outcome). u.chip.core) x ∙ r.core ∙ k;
      memory = ap (λ (u : Outcome). u.memory) x ∙ r.memory ∙ m;
      nothing = ap (λ (u : Outcome). u.chip.collector.len) x ∙ r.nothing;
    }

-- What is remembered after one page.
any-one : (p : Part) (w : Awaited) (ds : List ℕ) (m : Flash) → (after_page p w ds m).differed ≡ any_differs p w (ds ∷ []) m
unfolding compared joined_pages
any-one p w ds m =
    let e : Bool = same (flash_from (place_of p w.next) page_size m) ds in
    rw (append-nil ds, page-from p w.next m) (told-last w.differed e)

-- The last page.
module _ (p : Part) (o : Outcome) (w : Awaited) (ds : List ℕ) (v : Verifying p o w (ds ∷ [])) where
  last-told : Told p o (page_frames (ds ∷ [])) (to_pages (any_differs p w (ds ∷ []) o.memory.flash) (ds ∷ []))
  unfolding page_frames to_pages compared if◌then◌otherwise◌
  last-told =
      let m = o.memory.flash in
      let l : is_last_page w ≡ true = last-page w v.all in
      let a : is_last_page (after_page p w ds m) ≡ true = last-page (after_page p w ds m) v.all in
      let t = page-told p o w ds Last v.stands v.nothing v.phase v.command (first-page v.pages) (rw (footer-so w v.command, l)) in
      record {
        says = t.says ∙ ap (to_page acknowledge) (last-status _ a ∙ ap (λ (d : Bool). if d then verify_error otherwise acknowledge) (any-one p w ds m));
        core = t.core ∙ last-next _ _ a;
        memory = t.memory;
        nothing = t.nothing;
      }

-- An earlier page, and the pages after it.
module _ (p : Part) (o : Outcome) (w : Awaited) (ds es : List ℕ) (dss : List (List ℕ)) (v : Verifying p o w (ds ∷ es ∷ dss)) where
  abbrev after : Outcome
  after = run p (map Byte (data_frame ds More)) o

  abbrev seen : Awaited
  seen = page_seen p w ds o.memory.flash

  more_left : w.next + page_size ≤ w.last
  more_left = omega (arith, v.all)

  page-fed : PageTold p o w ds More
  unfolding if◌then◌otherwise◌
  page-fed = page-told p o w ds More v.stands v.nothing v.phase v.command (first-page v.pages) (rw (footer-so w v.command, earlier-page w more_left))

  not_last : is_last_page (after_page p w ds o.memory.flash) ≡ false
  unfolding compared
  not_last = earlier-page (after_page p w ds o.memory.flash) more_left

  seen-so : page_after (after_page p w ds o.memory.flash) ≡ seen
  unfolding compared
  seen-so =
      ap {B = Awaited} (λ (d : Bool). record { command = w.command; next = w.next + page_size; last = w.last; differed = d }) (any-one p w ds o.memory.flash)

  goes_on : GoesOn p o w ds (es ∷ dss)
  goes_on =
      let t = page-fed in
      let k : after.chip.core ≡ entered o.chip.core (Awaiting seen) =
      t.core ∙ earlier-next _ _ not_last ∙ ap (λ (u : Awaited). entered o.chip.core (Awaiting u)) seen-so in
      record {
        says = t.says ∙ ap (to_page acknowledge) (earlier-status _ not_last);
        core = k;
        memory = t.memory;
        verifies =
            record {
              stands = t.stands;
              nothing = t.nothing;
              phase = ap (λ (c : Core). c.phase) k;
              command = v.command;
              pages = other-pages v.pages;
              all = omega (arith, v.all);
            };
      }

  any-more : any_differs p seen (es ∷ dss) after.memory.flash ≡ any_differs p w (ds ∷ es ∷ dss) o.memory.flash
  unfolding joined_pages
  any-more =
      let g = walk_of p o w (ds ∷ es ∷ dss) v in
      let k = g.walk in
      let m = o.memory.flash in
      let n : ℕ = page_size * length (es ∷ dss) in
      let z : page_size * length (ds ∷ es ∷ dss) ≡ page_size + n = omega arith in
      let there : LiesIn p g.area (w.next + page_size) = record { low = omega (arith, k.here.low); high = omega (arith, k.there.high, more_left) } in
      let x =
      from_more p g.area w.next n m ds (joined_pages (es ∷ dss)) (accepts v.stands.accepted).part k.here there (area-long p o g.area v.stands)
      (first-page v.pages).long in
      rw (page-fed.memory, append-nil ds)
      (told-on w.differed (same (flash_from (place_of p w.next) page_size m) ds) (same (flash_from (place_of p (w.next + page_size)) n m) (joined_pages (es ∷ dss)))
      ∙ ap (λ (t : Bool). w.differed or not t) (sym x)
      ∙ ap (λ (i : ℕ). w.differed or not (same (flash_from (place_of p w.next) i m) (ds ++ joined_pages (es ∷ dss)))) (sym z))

  more-told : Told p after (page_frames (es ∷ dss)) (to_pages (any_differs p seen (es ∷ dss) after.memory.flash) (es ∷ dss))
      → Told p o (page_frames (ds ∷ es ∷ dss)) (to_pages (any_differs p w (ds ∷ es ∷ dss) o.memory.flash) (ds ∷ es ∷ dss))
  unfolding page_frames to_pages
  more-told r =
      let t = goes_on in
      subst (λ (d : Bool). Told p o (page_frames (ds ∷ es ∷ dss)) (to_pages d (ds ∷ es ∷ dss))) any-more
      (then-told p o (data_frame ds More) (page_frames (es ∷ dss)) (to_page acknowledge acknowledge) _ t.says (ap ready t.core) t.memory r)

pub earlier-told : EarlierTold
earlier-told p o w ds es dss v = goes_on p o w ds es dss v

pub verify-told : VerifyTold
verify-told p o w [] v = absurd (omega (arith, v.all, (walk_of p o w [] v).walk.order))
verify-told p o w (ds ∷ []) v = last-told p o w ds v
verify-told p o w (ds ∷ es ∷ dss) v =
    more-told p o w ds es dss v (verify-told p (after p o w ds es dss v) (seen p o w ds es dss v) (es ∷ dss) (goes_on p o w ds es dss v).verifies)
