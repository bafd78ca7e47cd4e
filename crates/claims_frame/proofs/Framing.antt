-- The framing rule: it agrees with the collector, a gap forgets, and one complete frame is heard as exactly that frame.
-- Assumes nothing.
use mathlib.Core.Bool.{Bool, false, false≢true, true}
use mathlib.Core.List.{List, [], ◌++◌, ◌∷◌, append_assoc, map}
use mathlib.Core.Path.{◌∙◌, ◌≡◌, ap, refl}
use Prim.Native.Nat.{◌+◌, ◌-◌, ◌<◌, ◌≤◌, suc, ℕ}
use native.Mathlib.Decide.{dec_le}
use native.Mathlib.Omega.{arith}
use lib.Dec.{eqb, leb}
use lib.ListN.{get_or, length, length-append}
use lib.Seq.{append_snoc}
use borrow.Author.Tests.{eq-eqb, eqb-true, le-leb, lt-leb}
use Rattle.claims_frame.specs.Collecting.{Collected, collected, collects_on, take-up}
use Rattle.frame.proofs.Laws.Frame.{full-not, full-yes}
use Rattle.frame.specs.Collector.{hear}
use Rattle.frame.specs.Frame.{complete, counted, full, header_byte, is_frame}
use Rattle.frame.specs.Framing.{Framed, Framing, Sound, begun, byte, completes, frames, framing, gap, idle, inside, quiet, stands_after}
use Rattle.frame.specs.declared.Header.{Header}
use Rattle.words.proofs.Laws.{and_left, and_right}
use Rattle.words.specs.Words.{◌and◌, if◌then◌otherwise◌}

-- The machine and the collector stand at the same place of the same frame.
pub data Same : Framing → List ℕ → Type 0 where
  nothing : Same idle []
  header : (x : ℕ) → Same (begun x) (x ∷ [])
  some : (x l : ℕ) (rest : List ℕ) (n : ℕ) → 1 ≤ n → length rest + n ≡ counted l + 2 → Same (inside (x ∷ l ∷ rest) n) (x ∷ l ∷ rest)

pub record Agree (f : Framed) (c : Collected) : Type 0 where
  pub stands : Same f.stands c.holds
  pub done : f.done ≡ c.taken

begins : (h : Header) (b : ℕ) (t : Bool) → Agree (if t then quiet (begun b) otherwise quiet idle) (take-up (if t then b ∷ [] otherwise []))
unfolding take-up complete full ◌and◌ if◌then◌otherwise◌
begins h b true = record { stands = header b; done = refl }
begins h b false = record { stands = nothing; done = refl }

measured : (x b : ℕ) → Agree (quiet (inside (x ∷ b ∷ []) (counted b + 2))) (take-up (x ∷ b ∷ []))
unfolding take-up if◌then◌otherwise◌ complete
measured x b =
    rw (full-not 2 b (omega arith))
    (record { stands = some x b [] (counted b + 2) (omega arith) (omega arith); done = refl })

more : (x l : ℕ) (rest : List ℕ) (n b : ℕ) → 1 ≤ n → length rest + n ≡ counted l + 2 → Dec (n ≤ 1)
    → Agree (if leb n 1 then completes (x ∷ l ∷ (rest ++ b ∷ [])) otherwise quiet (inside (x ∷ l ∷ (rest ++ b ∷ [])) (n - 1))) (take-up (x ∷ l ∷ (rest ++ b ∷ [])))
unfolding take-up if◌then◌otherwise◌ complete
more x l rest n b h e (yes k) =
    let m : length (rest ++ b ∷ []) ≡ length rest + 1 = length-append rest (b ∷ []) in
    rw (le-leb n 1 k, full-yes (suc (suc (length (rest ++ b ∷ [])))) l (omega arith) (omega arith))
    (record { stands = nothing; done = refl })
more x l rest n b h e (no k) =
    let m : length (rest ++ b ∷ []) ≡ length rest + 1 = length-append rest (b ∷ []) in
    rw (lt-leb n 1 (omega arith), full-not (suc (suc (length (rest ++ b ∷ [])))) l (omega arith))
    (record { stands = some x l (rest ++ b ∷ []) (n - 1) (omega arith) (omega arith); done = refl })

pub step-agrees : (h : Header) (v : Sound) {w : Framing} {hs : List ℕ} → Same w hs → Agree (framing h w v) (collects_on h hs v)
unfolding framing collects_on hear
step-agrees h gap s = record { stands = nothing; done = refl }
step-agrees h (byte b) nothing = begins h b (eqb b (header_byte h))
step-agrees h (byte b) (header x) = measured x b
step-agrees h (byte b) (some x l rest n k e) = more x l rest n b k e (dec_le n 1)

frames-agree : (h : Header) (vs : List Sound) {w : Framing} {hs : List ℕ} → Same w hs → frames h w vs ≡ collected h hs vs
unfolding frames collected
frames-agree h [] s = refl
frames-agree h (v ∷ vs) s = let a = step-agrees h v s in ap2 a.done (frames-agree h vs a.stands)
  where
    ap2 : {x y : List (List ℕ)} {p q : List (List ℕ)} → x ≡ y → p ≡ q → x ++ p ≡ y ++ q
    ap2 e f = rw (e, f)

-- From nothing collected, the rule and the collector complete the same frames, whatever sounds come.
pub framing-agrees : (h : Header) (vs : List Sound) → frames h idle vs ≡ collected h [] vs
framing-agrees h vs = frames-agree h vs nothing

-- Frames of a joined list of sounds: those of the first part, then those of the second from where the first ended.
pub frames-append : (h : Header) (w : Framing) (us vs : List Sound) → frames h w (us ++ vs) ≡ frames h w us ++ frames h (stands_after h w us) vs
unfolding frames stands_after
frames-append h w [] vs = refl
frames-append h w (u ∷ us) vs = rw (frames-append h (framing h w u).stands us vs, append_assoc)

-- A gap forgets: wherever the machine stood, what comes after a gap is framed as from nothing.
pub gap-forgets : (h : Header) (w : Framing) (us vs : List Sound) → frames h w (us ++ gap ∷ vs) ≡ frames h w us ++ frames h idle vs
unfolding frames framing
gap-forgets h w us vs = frames-append h w us (gap ∷ vs)

pub step-begins : (h : Header) (x : ℕ) → x ≡ header_byte h → framing h idle (byte x) ≡ quiet (begun x)
unfolding framing if◌then◌otherwise◌
step-begins h x e = rw (eq-eqb x (header_byte h) e)

pub step-last : (h : Header) (got : List ℕ) (n b : ℕ) → n ≤ 1 → framing h (inside got n) (byte b) ≡ completes (got ++ b ∷ [])
unfolding framing if◌then◌otherwise◌
step-last h got n b k = rw (le-leb n 1 k)

pub step-more : (h : Header) (got : List ℕ) (n b : ℕ) → 1 < n → framing h (inside got n) (byte b) ≡ quiet (inside (got ++ b ∷ []) (n - 1))
unfolding framing if◌then◌otherwise◌
step-more h got n b k = rw (lt-leb n 1 k)

-- A run of sounds, through one equation for its first.
frames-by : (h : Header) (w : Framing) (v : Sound) (vs : List Sound) (f : Framed) → framing h w v ≡ f → frames h w (v ∷ vs) ≡ f.done ++ frames h f.stands vs
unfolding frames
frames-by h w v vs f e = ap (λ (g : Framed). g.done ++ frames h g.stands vs) e

stands_by : (h : Header) (w : Framing) (v : Sound) (vs : List Sound) (f : Framed) → framing h w v ≡ f → stands_after h w (v ∷ vs) ≡ stands_after h f.stands vs
unfolding stands_after
stands_by h w v vs f e = ap (λ (g : Framed). stands_after h g.stands vs) e

-- One complete frame that begins with the awaited header is heard as exactly that frame, and after it a frame is awaited anew.
pub record Heard (h : Header) (w : Framing) (vs : List Sound) (f : List ℕ) : Type 0 where
  pub alone : frames h w vs ≡ f ∷ []
  pub anew : stands_after h w vs ≡ idle

-- So many bytes as are awaited complete the frame begun, and nothing else.
rest-heard : (h : Header) (got rest : List ℕ) (n : ℕ) → n ≡ length rest → 1 ≤ n → Heard h (inside got n) (map byte rest) (got ++ rest)
unfolding frames stands_after
rest-heard h got [] n e k = absurd (omega arith)
rest-heard h got (b ∷ []) n e k =
    let s = step-last h got n b (omega arith) in
    record { alone = frames-by h (inside got n) (byte b) [] _ s; anew = stands_by h (inside got n) (byte b) [] _ s }
rest-heard h got (b ∷ c ∷ rest) n e k =
    let s = step-more h got n b (omega arith) in
    let r = rest-heard h (got ++ b ∷ []) (c ∷ rest) (n - 1) (omega arith) (omega arith) in
    record {
      alone = frames-by h (inside got n) (byte b) (map byte (c ∷ rest)) _ s ∙ r.alone ∙ rw append_snoc;
      anew = stands_by h (inside got n) (byte b) (map byte (c ∷ rest)) _ s ∙ r.anew;
    }

pub frame-heard : (h : Header) (bs : List ℕ) → is_frame bs ≡ true → get_or bs 0 0 ≡ header_byte h → Heard h idle (map byte bs) bs
unfolding is_frame framing
frame-heard h [] t e = absurd (false≢true (and_left _ _ t))
frame-heard h (x ∷ []) t e = absurd (false≢true (and_left _ _ t))
frame-heard h (x ∷ l ∷ rest) t e =
    let n : suc (suc (length rest)) ≡ counted l + 4 = eqb-true _ _ (and_right _ _ t) in
    let s = step-begins h x e in
    let r = rest-heard h (x ∷ l ∷ []) rest (counted l + 2) (omega arith) (omega arith) in
    record {
      alone = frames-by h idle (byte x) (byte l ∷ map byte rest) _ s ∙ frames-by h (begun x) (byte l) (map byte rest) _ refl ∙ r.alone;
      anew = stands_by h idle (byte x) (byte l ∷ map byte rest) _ s ∙ stands_by h (begun x) (byte l) (map byte rest) _ refl ∙ r.anew;
    }
