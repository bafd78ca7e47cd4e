-- Laws about replies: frames laid in the reply room, the pieces of a signature, and how long a reply is.
-- Assumes nothing.
use mathlib.Core.Bool.{false, true}
use mathlib.Core.List.{List, [], ◌++◌, ◌∷◌, append_assoc, append-nil}
use mathlib.Core.Path.{◌∙◌, ◌≡◌, ap, refl}
use Prim.Native.Nat.{◌+◌, ◌-◌, ◌<◌, ◌≤◌, ℕ}
use native.Mathlib.Omega.{arith}
use lib.ListN.{drop, drop_of_length-le, length, length-append, length-drop, take}
use lib.Seq.{drop_at, drop-drop, take_all, take_at}
use borrow.Author.Tests.{le-ltb, lt-ltb}
use Rattle.frame.proofs.Laws.Wire.{framed-long, laid-lands}
use Rattle.frame.specs.Frame.{framed}
use Rattle.frame.specs.Judgement.{status_of}
use Rattle.frame.specs.Wire.{write_of, wrote}
use Rattle.frame.specs.declared.Footer.TheVariants.{Last}
use Rattle.frame.specs.declared.Header.TheVariants.{Data}
use Rattle.frame.specs.declared.wire.WriteError.{WriteError}
use Rattle.std.specs.Prelude.{Result}
use Rattle.chip_options.proofs.Laws.{security-long}
use Rattle.chip_options.specs.Options.{security}
use Rattle.chip_options.specs.declared.Options.{Options}
use Rattle.numbers.proofs.Laws.{low-long}
use Rattle.numbers.specs.Numbers.{low_first}
use Rattle.part.proofs.LawsSignature.{signature-long}
use Rattle.part.specs.Part.{described}
use Rattle.part.specs.Signature.{signature}
use Rattle.part.specs.declared.Part.{Part}
use Rattle.chip_reply.specs.Reply.{fault_in, frames_of, nothing_said, payloads, said, said_of, send_of}
use Rattle.chip_reply.specs.declared.Reply.{Reply}
use Rattle.chip_reply.specs.declared.Sent.{Sent}
use Rattle.chip_reply.specs.declared.Reply.TheVariants.{BadFrame, BadPage, LastStored, Pair, Rate, Security, Signature, Silence, Status, Sum}
use Rattle.frame.specs.declared.judgement.Judgement.TheVariants.{Good}
use Rattle.words.specs.Words.{◌or◌, if◌then◌otherwise◌}

-- The answers of sending.
pub send-short : (p : Part) (o : Options) (r : Reply) (room : List ℕ) → length room < 32 → nothing_said room ≡ send_of p o r room
unfolding send_of if◌then◌otherwise◌ ◌or◌
send-short p o r room h = simp (lt-ltb _ _ h)

pub send-undescribed : (p : Part) (o : Options) (r : Reply) (room : List ℕ) → 32 ≤ length room → described p ≡ false → nothing_said room ≡ send_of p o r room
unfolding send_of if◌then◌otherwise◌ ◌or◌
send-undescribed p o r room h d = simp (le-ltb (length room) 32 h, d)

pub send-said : (p : Part) (o : Options) (r : Reply) (room : List ℕ) → 32 ≤ length room → described p ≡ true → said_of (payloads p o r) room ≡ send_of p o r room
unfolding send_of if◌then◌otherwise◌ ◌or◌
send-said p o r room h d = simp (le-ltb (length room) 32 h, d)

-- A reply of a described part in enough room is said: s and l are what its arm left.
pub sends : (p : Part) (o : Options) (r q : Reply) (rs : List (List ℕ)) (room l : List ℕ) (s : Sent) → 32 ≤ length room → described p ≡ true → r ≡ q → payloads p o q ≡ rs
    → said s l ≡ said_of rs room → said s l ≡ send_of p o r room
sends p o r q rs room l s h d e f g = rw (← send-said p o r room h d, e, f) g

said-is : (rs : List (List ℕ)) (room l : List ℕ) (n k : ℕ) → n ≡ length (frames_of rs) → k ≡ length rs
    → l ≡ frames_of rs ++ drop n room → said (record { bytes = n; frames = k }) l ≡ said_of rs room
unfolding said_of
said-is rs room l n k e f g = rw (g, e, f)

-- What is said, in its parts.
pub said-bytes : (rs : List (List ℕ)) (room : List ℕ) → (said_of rs room).sent.bytes ≡ length (frames_of rs)
unfolding said_of
said-bytes rs room = refl

pub said-frames : (rs : List (List ℕ)) (room : List ℕ) → (said_of rs room).sent.frames ≡ length rs
unfolding said_of
said-frames rs room = refl

pub said-lands : (rs : List (List ℕ)) (room : List ℕ)
    → said_of rs room ≡ said (record { bytes = length (frames_of rs); frames = length rs }) (frames_of rs ++ drop (length (frames_of rs)) room)
unfolding said_of
said-lands rs room = refl

pub said-nothing : (room : List ℕ) → nothing_said room ≡ said_of [] room
unfolding frames_of
said-nothing room = said-is [] room room 0 0 refl refl refl

pub said-silence : (p : Part) (o : Options) (room : List ℕ) → nothing_said room ≡ said_of (payloads p o Silence) room
unfolding payloads
said-silence p o room = said-nothing room

pub fault-silence : fault_in Silence ≡ Good
unfolding fault_in
fault-silence = refl

one-is : (ds : List ℕ) → frames_of (ds ∷ []) ≡ framed Data ds Last
unfolding frames_of
one-is ds = append-nil _

two_is : (ds es : List ℕ) → frames_of (ds ∷ es ∷ []) ≡ framed Data ds Last ++ framed Data es Last
unfolding frames_of
two_is ds es = rw append-nil

pub said-one : (room ds l : List ℕ) (a : Result ℕ WriteError) → wrote a l ≡ write_of room Data ds Last → 32 ≤ length room → 1 ≤ length ds → length ds ≤ 28
    → said (record { bytes = length ds + 4; frames = 1 }) l ≡ said_of (ds ∷ []) room
said-one room ds l a e h k m =
    let o : frames_of (ds ∷ []) ≡ framed Data ds Last = one-is ds in
    let n : length ds + 4 ≡ length (frames_of (ds ∷ [])) = rw (o, framed-long) in
    let i : l ≡ framed Data ds Last ++ drop (length ds + 4) room = laid-lands room Data ds Last l a e k (omega arith) (omega arith) in
    said-is (ds ∷ []) room l (length ds + 4) 1 n refl (rw o i)

-- The second frame is written into the room past the first, which is lent as a part to the end, and comes back in this form.
pub said-two : (room ds es l l' : List ℕ) (a b : Result ℕ WriteError) → wrote a l ≡ write_of room Data ds Last
    → wrote b l' ≡ write_of (take (length l - (length ds + 4)) (drop (length ds + 4) l)) Data es Last → 32 ≤ length room → 1 ≤ length ds → 1 ≤ length es
    → length ds + length es ≤ 24
    → said (record { bytes = length ds + 4 + length es + 4; frames = 2 }) (take (length ds + 4) l ++ (l' ++ drop (length l - (length ds + 4)) (drop (length ds + 4) l)))
    ≡ said_of (ds ∷ es ∷ []) room
said-two room ds es l l' a b e f h k m s =
    let i : l ≡ framed Data ds Last ++ drop (length ds + 4) room = laid-lands room Data ds Last l a e k (omega arith) (omega arith) in
    let long : length l ≡ length room = ap length i ∙ rw (length-append, framed-long, length-drop) (omega arith) in
    let front : take (length ds + 4) l ≡ framed Data ds Last = rw i (take_at (framed Data ds Last) _ (length ds + 4) (framed-long Data ds Last)) in
    let past : drop (length ds + 4) l ≡ drop (length ds + 4) room =
    rw i (drop_at (framed Data ds Last) (drop (length ds + 4) room) (length ds + 4) (framed-long Data ds Last)) in
    let fits : length (drop (length ds + 4) room) ≤ length l - (length ds + 4) = rw length-drop (omega arith) in
    let whole : take (length l - (length ds + 4)) (drop (length ds + 4) l) ≡ drop (length ds + 4) room = rw past (take_all _ (drop (length ds + 4) room) fits) in
    let none : drop (length l - (length ds + 4)) (drop (length ds + 4) l) ≡ [] = rw past (drop_of_length-le (drop (length ds + 4) room) fits) in
    let g : wrote b l' ≡ write_of (drop (length ds + 4) room) Data es Last = rw whole at f in
    let j : l' ≡ framed Data es Last ++ drop (length es + 4) (drop (length ds + 4) room) =
    laid-lands (drop (length ds + 4) room) Data es Last l' b g m (omega arith) (rw length-drop (omega arith)) in
    let o : frames_of (ds ∷ es ∷ []) ≡ framed Data ds Last ++ framed Data es Last = two_is ds es in
    let q : length ds + 4 + length es + 4 ≡ length (frames_of (ds ∷ es ∷ [])) = rw (o, length-append, framed-long Data ds Last, framed-long Data es Last) (omega arith) in
    let t : length ds + 4 + (length es + 4) ≡ length ds + 4 + length es + 4 = omega arith in
    said-is (ds ∷ es ∷ []) room _ (length ds + 4 + length es + 4) 2 q refl (rw (front, none, append-nil, j, drop-drop, t, o, append_assoc))

-- How long a reply is. A list in a description has any length, so the lengths of the part's three arrays are premises.
one-long : (ds : List ℕ) → length (frames_of (ds ∷ [])) ≡ length ds + 4
one-long ds = rw (one-is ds, framed-long)

two-long : (ds es : List ℕ) → length (frames_of (ds ∷ es ∷ [])) ≡ length ds + length es + 8
two-long ds es = rw (two_is ds es, length-append, framed-long Data ds Last, framed-long Data es Last) (omega arith)

-- "Room under 32 bytes gets nothing: the longest reply has 31."
pub reply-long : (p : Part) (o : Options) (r : Reply) → length p.device ≡ 3 → length p.name ≡ 10 → length p.version ≡ 3
    → length (frames_of (payloads p o r)) ≤ 31
unfolding payloads frames_of
reply-long p o Silence d n v = omega arith
reply-long p o (Status s) d n v = omega (arith, one-long (s ∷ []))
reply-long p o (BadFrame j) d n v = omega (arith, one-long (status_of j ∷ []))
reply-long p o (Rate mode) d n v = omega (arith, one-long (0x06 ∷ p.clock ∷ mode ∷ []))
reply-long p o (Pair s t) d n v = omega (arith, one-long (s ∷ t ∷ []))
reply-long p o (BadPage j) d n v = omega (arith, one-long (status_of j ∷ status_of j ∷ []))
reply-long p o LastStored d n v = omega (arith, two-long (0x06 ∷ 0x06 ∷ []) (0x06 ∷ []))
reply-long p o (Sum x) d n v = omega (arith, two-long (0x06 ∷ []) (low_first 2 x), low-long 2 x)
reply-long p o Signature d n v = omega (arith, two-long (0x06 ∷ []) (signature p), signature-long p d n v)
reply-long p o Security d n v = omega (arith, two-long (0x06 ∷ []) (security o), security-long o)

pub said-keeps : (rs : List (List ℕ)) (room : List ℕ) → length (frames_of rs) ≤ length room → length (said_of rs room).room ≡ length room
unfolding said_of
said-keeps rs room h = rw (length-append, length-drop) (omega arith)

-- How many frames a reply has: at most two, no byte without one, and no frame without a byte.
pub few-payloads : (p : Part) (o : Options) (r : Reply) → length (payloads p o r) ≤ 2
unfolding payloads
few-payloads p o Silence = omega arith
few-payloads p o (Status s) = omega arith
few-payloads p o (BadFrame j) = omega arith
few-payloads p o (Rate mode) = omega arith
few-payloads p o (Pair s t) = omega arith
few-payloads p o (BadPage j) = omega arith
few-payloads p o LastStored = omega arith
few-payloads p o (Sum x) = omega arith
few-payloads p o Signature = omega arith
few-payloads p o Security = omega arith

pub no_frames : (rs : List (List ℕ)) → length rs ≡ 0 → length (frames_of rs) ≡ 0
unfolding frames_of
no_frames [] e = refl
no_frames (r ∷ rs) e = absurd (omega arith)

pub frames-long : (rs : List (List ℕ)) → length rs ≤ length (frames_of rs)
unfolding frames_of
frames-long [] = omega arith
frames-long (r ∷ rs) = rw (length-append, framed-long Data r Last) (omega (arith, frames-long rs))
