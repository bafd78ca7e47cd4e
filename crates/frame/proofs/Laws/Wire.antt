-- Laws about frames that are written, and reply frames that are judged.
-- Assumes nothing.
use Rattle.std.proofs.Common.{◌≡◌, ℕ, ◌+◌, ◌-◌, ◌<◌, ◌≤◌, Bool, true, false, sym, ltb, List, [], ◌∷◌, ◌++◌, length, get_or, take, drop, ap, ◌∙◌, true≢false, append_assoc, arith, length-append, le-ltb, lt-ltb, eq-eqb, ne_eqb, le-leb}
use native.Mathlib.Decide.{dec_le, ℕ_discrete}
use borrow.Author.Tests.{lt-leb}
use Rattle.frame.proofs.Laws.Sum.{sum-join}
use Rattle.frame.specs.Frame.{counted, footer_byte, framed, header_byte, len_byte}
use Rattle.frame.specs.Judgement.{judge_of}
use Rattle.frame.specs.Sum.{less, less_all, sum_of}
use Rattle.frame.specs.Wire.{Writing, judge_reply, laid, unfit_reply, write_of, wrote}
use Rattle.frame.specs.declared.Footer.{Footer}
use Rattle.frame.specs.declared.Footer.TheVariants.{Last}
use Rattle.frame.specs.declared.Header.{Header}
use Rattle.frame.specs.declared.Header.TheVariants.{Data}
use Rattle.frame.specs.declared.judgement.Judgement.{Judgement}
use Rattle.frame.specs.declared.judgement.Judgement.TheVariants.{UnfitLength, WrongFirst}
use Rattle.frame.specs.declared.wire.WriteError.TheVariants.{NoRoom, UnfitPayload}
use Rattle.frame.specs.declared.wire.WriteError.{WriteError}
use Rattle.std.specs.Prelude.{Err, Ok, Result}
use Rattle.lent.proofs.Laws.{Written}
use Rattle.words.specs.Words.{◌and◌, ◌from◌to◌, ◌or◌, if◌then◌otherwise◌}

pub framed-long : (h : Header) (ds : List ℕ) (f : Footer) → length (framed h ds f) ≡ length ds + 4
unfolding framed
framed-long h ds f = simp length-append (omega arith)

framed_is : (lead rest : List ℕ) (h : Header) (f : Footer) (hb len s t u fb : ℕ)
    → hb ≡ header_byte h → len ≡ len_byte (length lead + length rest) → s ≡ less 256 0 len → t ≡ less_all 256 s lead → u ≡ less_all 256 t rest
    → fb ≡ footer_byte f → hb ∷ len ∷ (((lead ++ rest) ++ u ∷ []) ++ fb ∷ []) ≡ framed h (lead ++ rest) f
unfolding framed sum_of less_all
framed_is lead rest h f hb len s t u fb a b c d e g = rw (a, g, e, d, c, b, length-append lead rest, sum-join 256 (less 256 0 (len_byte (length lead + length rest))) lead rest, append_assoc)

laid-at-start : (room ws : List ℕ) (h : Header) (ds : List ℕ) (f : Footer) → ws ≡ framed h ds f → ws ++ drop (length ws) room ≡ laid room h ds f
unfolding laid
laid-at-start room ws h ds f e = rw (e, framed-long)

-- A frame's pieces, written one after the other from the room's start, are the frame laid there.
pub laid-is : (room lead rest l : List ℕ) (h : Header) (f : Footer) (hb len s t u fb : ℕ)
    → Written (((((([] ++ hb ∷ []) ++ len ∷ []) ++ lead) ++ rest) ++ u ∷ []) ++ fb ∷ []) room l
    → hb ≡ header_byte h → len ≡ len_byte (length lead + length rest) → s ≡ less 256 0 len → t ≡ less_all 256 s lead → u ≡ less_all 256 t rest
    → fb ≡ footer_byte f → l ≡ laid room h (lead ++ rest) f
laid-is room lead rest l h f hb len s t u fb w a b c d e g =
    w.is ∙ laid-at-start room (hb ∷ len ∷ (((lead ++ rest) ++ u ∷ []) ++ fb ∷ [])) h (lead ++ rest) f
    (framed_is lead rest h f hb len s t u fb a b c d e g)

-- The answers of writing.
pub write-none : (room : List ℕ) (h : Header) (ds : List ℕ) (f : Footer) → length ds < 1 → wrote (Err UnfitPayload) room ≡ write_of room h ds f
unfolding write_of ◌from◌to◌ ◌and◌ if◌then◌otherwise◌
write-none room h ds f l = simp (lt-leb _ _ l)

pub write-over : (room : List ℕ) (h : Header) (ds : List ℕ) (f : Footer) → 1 ≤ length ds → 256 < length ds → wrote (Err UnfitPayload) room ≡ write_of room h ds f
unfolding write_of ◌from◌to◌ ◌and◌ if◌then◌otherwise◌
write-over room h ds f k l = simp (le-leb _ _ k, lt-leb _ _ l)

pub write-short : (room : List ℕ) (h : Header) (ds : List ℕ) (f : Footer) → 1 ≤ length ds → length ds ≤ 256 → length room < length ds + 4
    → wrote (Err NoRoom) room ≡ write_of room h ds f
unfolding write_of ◌from◌to◌ ◌and◌ if◌then◌otherwise◌
write-short room h ds f k l s = simp (le-leb _ _ k, le-leb _ _ l, lt-ltb _ _ s)

pub write-laid : (room lead rest l : List ℕ) (h : Header) (f : Footer) → l ≡ laid room h (lead ++ rest) f → 1 ≤ length lead + length rest
    → length lead + length rest ≤ 256 → length lead + length rest + 4 ≤ length room
    → wrote (Ok (length lead + length rest + 4)) l ≡ write_of room h (lead ++ rest) f
unfolding write_of ◌from◌to◌ ◌and◌ if◌then◌otherwise◌
write-laid room lead rest l h f e k m s =
    rw (e, ← length-append lead rest)
    (let n : length (lead ++ rest) ≡ length lead + length rest = length-append lead rest in
    simp (le-leb 1 (length (lead ++ rest)) (omega arith), le-leb (length (lead ++ rest)) 256 (omega arith), le-ltb (length room) (length (lead ++ rest) + 4) (omega arith)))

pub ruleset written = (write-none, write-over, write-short, write-laid, length-append)

-- Whether a reply frame's LEN is unfit, by the number of bytes that its LEN asks for.
pub unfit-len : (n : ℕ) (last : Bool) (bs : List ℕ) → (counted (get_or bs 1 0) ≡ n → ⊥) → true ≡ unfit_reply n last bs
unfolding unfit_reply ◌or◌
unfit-len n last bs e = simp (ne_eqb _ _ e)

pub unfit-cut : (n : ℕ) (last : Bool) (bs : List ℕ) (end : ℕ) → counted (get_or bs 1 0) ≡ n → end ≡ counted (get_or bs 1 0) + 4 → length bs < end
    → true ≡ unfit_reply n last bs
unfolding unfit_reply ◌or◌
unfit-cut n last bs end e f h = simp (eq-eqb _ _ e, lt-ltb (length bs) (n + 4) (omega arith))

pub unfit-over : (n : ℕ) (last : Bool) (bs : List ℕ) (end : ℕ) (t : Bool) → last ≡ t → counted (get_or bs 1 0) ≡ n → end ≡ counted (get_or bs 1 0) + 4
    → end ≤ length bs → (t and ltb end (length bs)) ≡ unfit_reply n last bs
unfolding unfit_reply ◌or◌
unfit-over n last bs end t i e f h =
    let l : end ≡ n + 4 = omega arith in
    simp (eq-eqb _ _ e, le-ltb (length bs) (n + 4) (omega arith), l, i)

pub ruleset unfit = (unfit-len, unfit-cut)

-- A frame whose LEN fits has all its bytes.
pub fit-counted : (n : ℕ) (last : Bool) (bs : List ℕ) → unfit_reply n last bs ≡ false → counted (get_or bs 1 0) ≡ n
fit-counted n last bs u = go (ℕ_discrete (counted (get_or bs 1 0)) n)
  where
    go : Dec (counted (get_or bs 1 0) ≡ n) → counted (get_or bs 1 0) ≡ n
    go (yes e) = e
    go (no e) = absurd (true≢false (unfit-len n last bs e ∙ u))

pub fit-long : (n : ℕ) (last : Bool) (bs : List ℕ) → unfit_reply n last bs ≡ false → n + 4 ≤ length bs
fit-long n last bs u = go (dec_le (n + 4) (length bs))
  where
    go : Dec (n + 4 ≤ length bs) → n + 4 ≤ length bs
    go (yes h) = h
    go (no h) =
        let e : counted (get_or bs 1 0) ≡ n = fit-counted n last bs u in
        absurd (true≢false (unfit-cut n last bs (n + 4) e (omega arith) (omega arith) ∙ u))

-- The answers of judging a reply frame.
pub reply-first : (n : ℕ) (last : Bool) (bs : List ℕ) → (get_or bs 0 0 ≡ header_byte Data → ⊥) → WrongFirst ≡ judge_reply n last bs
unfolding judge_reply if◌then◌otherwise◌
reply-first n last bs e = simp (ne_eqb _ _ e)

pub reply-unfit : (n : ℕ) (last : Bool) (bs : List ℕ) → get_or bs 0 0 ≡ header_byte Data → unfit_reply n last bs ≡ true → UnfitLength ≡ judge_reply n last bs
unfolding judge_reply if◌then◌otherwise◌
reply-unfit n last bs e u = simp (eq-eqb _ _ e, u)

-- With the front of the bytes lent to `judge` as the part from 0 to end.
pub reply-judged : (n : ℕ) (last : Bool) (bs : List ℕ) (end : ℕ) (j : Judgement) → get_or bs 0 0 ≡ header_byte Data → unfit_reply n last bs ≡ false
    → end ≡ counted (get_or bs 1 0) + 4 → j ≡ judge_of Last (take (end - 0) bs) → j ≡ judge_reply n last bs
unfolding judge_reply if◌then◌otherwise◌
reply-judged n last bs end j e u f i =
    let l : end - 0 ≡ n + 4 = omega (arith, fit-counted n last bs u) in
    simp (eq-eqb _ _ e, u, i, l)

-- A frame that fits is laid, and what is in the room then.
pub write-lands : (room : List ℕ) (h : Header) (ds : List ℕ) (f : Footer) → 1 ≤ length ds → length ds ≤ 256 → length ds + 4 ≤ length room
    → write_of room h ds f ≡ wrote (Ok (length ds + 4)) (laid room h ds f)
unfolding write_of ◌from◌to◌ ◌and◌ if◌then◌otherwise◌
write-lands room h ds f k m s = simp (le-leb _ _ k, le-leb _ _ m, le-ltb (length room) (length ds + 4) s)

pub laid-lands : (room : List ℕ) (h : Header) (ds : List ℕ) (f : Footer) (l : List ℕ) (a : Result ℕ WriteError) → wrote a l ≡ write_of room h ds f → 1 ≤ length ds
    → length ds ≤ 256 → length ds + 4 ≤ length room → l ≡ framed h ds f ++ drop (length ds + 4) room
unfolding laid
laid-lands room h ds f l a e k m s = ap (λ (x : Writing). x.room) (e ∙ write-lands room h ds f k m s)

pub ruleset replied = (reply-first, reply-unfit, reply-judged, fit-counted, fit-long)
