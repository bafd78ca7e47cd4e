-- Laws about the collector: what it has heard, as a list, after each of its methods.
-- Assumes nothing.
use Rattle.std.proofs.Common.{◌≡◌, ℕ, ◌+◌, ◌<◌, ◌≤◌, Bool, true, false, eqb, List, [], ◌∷◌, ◌++◌, length, get_or, take, drop, set}
use Rattle.std.proofs.Common.{sym, refl, ap, ◌∙◌, append_assoc, append-nil, add-one, arith, length-append, length-drop, take-append-drop, length-take-le, take_all, get_or-take, drop-drop, eq-eqb, ne_eqb, le-leb}
use native.Mathlib.Decide.{dec_le, dec_lt}
use lib.ListN.{get_or-append}
use lib.Seq.{append_snoc, drop-append-add, set_split, take-append_seam}
use borrow.Author.Tests.{lt-leb}
use Rattle.frame.proofs.Laws.Frame.{counted-small, full-room, full-short, full-yes}
use Rattle.frame.specs.Collector.{Adding, add_of, added, adding, byte_of, collecting, dropped, hear, heard, holding}
use Rattle.frame.specs.Frame.{complete, counted, full, header_byte}
use Rattle.frame.specs.declared.Header.{Header}
use Rattle.frame.specs.declared.collector.Collector.{Collector}
use Rattle.frame.specs.Inner.Collector.{stored}
use Rattle.lent.proofs.Laws.{Written, put-lands, put-short, written-put}
use Rattle.lent.specs.Lent.{Left, left, put_of}
use Rattle.lent.specs.declared.Short.{Short}
use Rattle.std.specs.Prelude.{Err, Ok, Result}
use Rattle.words.specs.Words.{◌and◌, if◌then◌otherwise◌}

pub heard-none : (c : Collector) → c.len ≡ 0 → heard c ≡ []
unfolding heard
heard-none c z = rw z

pub length-heard : (c : Collector) → c.len ≤ length c.bytes → length (heard c) ≡ c.len
unfolding heard
length-heard c h = length-take-le c.len c.bytes h

complete-none : complete [] ≡ false
unfolding complete full ◌and◌
complete-none = refl

-- Whether what is heard is complete can be read off the count and the LEN byte: for a count that lies in the array, whatever the LEN byte,
pub complete-within : (c : Collector) → length c.bytes ≡ 260 → c.len ≤ 260 → complete (heard c) ≡ full c.len (get_or c.bytes 1 0)
unfolding complete heard
complete-within c l h = go (dec_lt c.len 2)
  where
    s : length (take c.len c.bytes) ≡ c.len
    s = length-take-le c.len c.bytes (omega arith)

    go : Dec (c.len < 2) → full (length (take c.len c.bytes)) (get_or (take c.len c.bytes) 1 0) ≡ full c.len (get_or c.bytes 1 0)
    go (yes k) = full-short _ _ (omega (arith, s)) ∙ sym (full-short _ _ k)
    go (no k) = rw (s, get_or-take c.len c.bytes 1 0 (omega arith))

-- and for any count where the LEN byte is one.
pub complete-heard : (c : Collector) → length c.bytes ≡ 260 → counted (get_or c.bytes 1 0) ≤ 256 → complete (heard c) ≡ full c.len (get_or c.bytes 1 0)
unfolding complete heard
complete-heard c l b = go (dec_le c.len 260)
  where
    go : Dec (c.len ≤ 260) → full (length (take c.len c.bytes)) (get_or (take c.len c.bytes) 1 0) ≡ full c.len (get_or c.bytes 1 0)
    go (yes h) = complete-within c l h
    go (no h) =
        let s : take c.len c.bytes ≡ c.bytes = take_all c.len c.bytes (omega arith) in
        let x = get_or c.bytes 1 0 in
        rw (s, l) (full-yes 260 x (omega arith) (omega arith) ∙ sym (full-yes c.len x (omega arith) (omega arith)))

pub stored-holds : (c : Collector) (b : ℕ) → c.len < length c.bytes → stored c b ≡ holding c (heard c ++ b ∷ [])
unfolding stored holding heard
stored-holds c b h =
    let s : length (take c.len c.bytes ++ b ∷ []) ≡ c.len + 1 = rw (length-append, length-take-le c.len c.bytes (omega arith)) in
    rw (s, add-one, set_split c.bytes c.len b, append_snoc)

pub hear-more : (h : Header) (hs : List ℕ) (b : ℕ) → 0 < length hs → hear h hs b ≡ hs ++ b ∷ []
unfolding hear
hear-more h [] b l = absurd (omega arith)
hear-more h (x ∷ xs) b l = refl

-- The ways of a byte.
pub byte-begins : (c : Collector) (h : Header) (b : ℕ) → c.len ≡ 0 → length c.bytes ≡ 260 → b ≡ header_byte h → stored c b ≡ byte_of c h b
unfolding byte_of hear if◌then◌otherwise◌
byte-begins c h b z l e =
    simp (heard-none c z, complete-none, eq-eqb _ _ e) (stored-holds c b (omega arith) ∙ ap (λ (hs : List ℕ). holding c (hs ++ b ∷ [])) (heard-none c z))

pub byte-skipped : (c : Collector) (h : Header) (b : ℕ) → c.len ≡ 0 → (b ≡ header_byte h → ⊥) → c ≡ byte_of c h b
unfolding byte_of hear if◌then◌otherwise◌ holding
byte-skipped c h b z e =
    simp (heard-none c z, complete-none, ne_eqb _ _ e) (ap {B = Collector} (λ (n : ℕ). record { bytes = c.bytes; len = n }) z)

pub byte-waits : (c : Collector) (h : Header) (b : ℕ) → length c.bytes ≡ 260 → counted (get_or c.bytes 1 0) ≤ 256
    → full c.len (get_or c.bytes 1 0) ≡ true → c ≡ byte_of c h b
unfolding byte_of if◌then◌otherwise◌
byte-waits c h b l x t = simp (complete-heard c l x, t)

pub byte-added : (c : Collector) (h : Header) (b : ℕ) → (c.len ≡ 0 → ⊥) → length c.bytes ≡ 260 → c.len < 260
    → complete (heard c) ≡ false → stored c b ≡ byte_of c h b
unfolding byte_of if◌then◌otherwise◌
byte-added c h b z l r t =
    let m : length (heard c) ≡ c.len = length-heard c (omega arith) in
    simp (t, hear-more h (heard c) b (omega arith)) (stored-holds c b (omega arith))

pub byte-goes : (c : Collector) (h : Header) (b : ℕ) → length c.bytes ≡ 260 → counted (get_or c.bytes 1 0) ≤ 256
    → full c.len (get_or c.bytes 1 0) ≡ false → (c.len ≡ 0 → b ≡ header_byte h) → stored c b ≡ byte_of c h b
byte-goes c h b l x t e = go (dec_lt 0 c.len)
  where
    go : Dec (0 < c.len) → stored c b ≡ byte_of c h b
    go (yes k) = byte-added c h b (λ z. omega arith) l (full-room _ _ t x) (complete-heard c l x ∙ t)
    go (no k) = let z : c.len ≡ 0 = omega arith in byte-begins c h b z l (e z)

pub ruleset ways = (byte-skipped, byte-waits, byte-goes, counted-small, full-room)

-- What a collector that holds these bytes has heard, and the collector that holds what it has heard.
pub heard-holding : (c : Collector) (hs : List ℕ) → heard (holding c hs) ≡ hs
unfolding heard holding
heard-holding c hs = take-append_seam hs (drop (length hs) c.bytes)

pub holding-heard : (c : Collector) → c.len ≤ length c.bytes → holding c (heard c) ≡ c
unfolding heard holding
holding-heard c h = rw (length-take-le c.len c.bytes h, take-append-drop)

-- A byte is heard as the list's rule says, and a gap or power-on leaves nothing heard.
pub heard-byte : (c : Collector) (h : Header) (b : ℕ) → complete (heard c) ≡ false → heard (byte_of c h b) ≡ hear h (heard c) b
unfolding byte_of if◌then◌otherwise◌
heard-byte c h b n = simp (n, heard-holding)

pub heard-dropped : (c : Collector) → heard (dropped c) ≡ []
unfolding dropped
heard-dropped c = heard-holding c []

-- What the crates above use instead of the definitions' text.
pub heard-is : (c : Collector) → heard c ≡ take c.len c.bytes
unfolding heard
heard-is c = refl

pub heard-at : (c : Collector) (i : ℕ) → i < c.len → get_or (heard c) i 0 ≡ get_or c.bytes i 0
unfolding heard
heard-at c i h = get_or-take c.len c.bytes i 0 h

pub holding-count : (c : Collector) (hs : List ℕ) → (holding c hs).len ≡ length hs
unfolding holding
holding-count c hs = refl

pub dropped-is : (c : Collector) → dropped c ≡ holding c []
unfolding dropped
dropped-is c = refl

pub complete-is : (hs : List ℕ) → complete hs ≡ full (length hs) (get_or hs 1 0)
unfolding complete
complete-is hs = refl

-- A byte where nothing is complete: it is heard as the list's rule says, and one byte more is heard at most.
pub byte-hears : (c : Collector) (h : Header) (b : ℕ) → complete (heard c) ≡ false → byte_of c h b ≡ holding c (hear h (heard c) b)
unfolding byte_of if◌then◌otherwise◌
byte-hears c h b n = simp n

pub hear-long : (h : Header) (hs : List ℕ) (b : ℕ) → length (hear h hs b) ≤ length hs + 1
unfolding hear if◌then◌otherwise◌
hear-long h [] b = go (eqb b (header_byte h))
  where
    go : (t : Bool) → length (if t then b ∷ [] otherwise []) ≤ 1
    go true = omega arith
    go false = omega arith
hear-long h (x ∷ xs) b = rw length-append (omega arith)

-- Bytes that are only added: where they fit, and where they do not.
pub added-holds : (c : Collector) (bs : List ℕ) → c.len + length bs ≤ 260 → added c bs ≡ holding c (heard c ++ bs)
unfolding added if◌then◌otherwise◌
added-holds c bs h = simp (le-leb (c.len + length bs) 260 h)

pub added-long : (c : Collector) (bs : List ℕ) → 260 < c.len + length bs → c ≡ added c bs
unfolding added if◌then◌otherwise◌
added-long c bs h = simp (lt-leb (c.len + length bs) 260 h)

heard-written : (c : Collector) → c.len ≤ length c.bytes → Written (heard c) c.bytes c.bytes
unfolding heard
heard-written c h =
    let n : length (take c.len c.bytes) ≡ c.len = length-take-le c.len c.bytes h in
    record { is = rw (n, take-append-drop); room = omega (arith, n); long = refl }

-- A collector whose array was written from its start holds what was written.
pub written-holds : (c : Collector) (hs l : List ℕ) (n : ℕ) → Written hs c.bytes l → n ≡ length hs → ◌≡◌ {A = Collector} (record { bytes = l; len = n }) (holding c hs)
unfolding holding
written-holds c hs l n w e =
    ap {B = Collector} (λ (x : List ℕ). record { bytes = x; len = n }) w.is
    ∙ ap {B = Collector} (λ (x : ℕ). record { bytes = hs ++ drop (length hs) c.bytes; len = x }) e

put-enough : (l : List ℕ) (at : ℕ) (s l' : List ℕ) → left (Ok tt) l' ≡ put_of l at s → at + length s ≤ length l
put-enough l at s l' e = go (dec_le (at + length s) (length l))
  where
    go : Dec (at + length s ≤ length l) → at + length s ≤ length l
    go (yes h) = h
    go (no h) =
        let x : ◌≡◌ {A = Result Unit Short} (Ok tt) (Err (record {})) = ap (λ (y : Left). y.answer) (e ∙ sym (put-short l at s (omega arith))) in
        absurd (let z : ◌≡◌ {A = ℕ} 0 1 = cc in omega arith)

put_refused : (l : List ℕ) (at : ℕ) (s l' : List ℕ) → left (Err (record {})) l' ≡ put_of l at s → length l < at + length s
put_refused l at s l' e = go (dec_le (at + length s) (length l))
  where
    go : Dec (at + length s ≤ length l) → length l < at + length s
    go (yes h) =
        let x : ◌≡◌ {A = Result Unit Short} (Err (record {})) (Ok tt) = ap (λ (y : Left). y.answer) (e ∙ put-lands l at s h) in
        absurd (let z : ◌≡◌ {A = ℕ} 0 1 = cc in omega arith)
    go (no h) = omega arith

-- As the code adds: one byte laid at the count, or a stretch put there.
pub add-laid : (c : Collector) (b : ℕ) → length c.bytes ≡ 260 → c.len < 260 → stored c b ≡ added c (b ∷ [])
add-laid c b l h = stored-holds c b (omega arith) ∙ sym (added-holds c (b ∷ []) (omega arith))

pub add-fits : (c : Collector) (s l : List ℕ) (a : Result Unit Short) → left a l ≡ put_of c.bytes c.len s → a ≡ Ok tt → length c.bytes ≡ 260 → c.len + length s ≤ 260
add-fits c s l a e f g =
    let h : c.len + length s ≤ length c.bytes = put-enough c.bytes c.len s l (ap (λ (x : Result Unit Short). left x l) (sym f) ∙ e) in
    omega arith

pub add-put : (c : Collector) (s l : List ℕ) (a : Result Unit Short) → left a l ≡ put_of c.bytes c.len s → a ≡ Ok tt → length c.bytes ≡ 260
    → ◌≡◌ {A = Collector} (record { bytes = l; len = c.len + length s }) (added c s)
add-put c s l a e f g =
    let h : c.len + length s ≤ 260 = add-fits c s l a e f g in
    let m : length (heard c) ≡ c.len = length-heard c (omega arith) in
    let w : Written (heard c ++ s) c.bytes l = written-put c.len s (heard-written c (omega arith)) e (sym m) (omega arith) in
    written-holds c (heard c ++ s) l (c.len + length s) w (sym (rw (length-append, m))) ∙ sym (added-holds c s h)

pub add-short : (c : Collector) (s l : List ℕ) (a : Result Unit Short) → left a l ≡ put_of c.bytes c.len s → a ≡ Err (record {}) → length c.bytes ≡ 260
    → ◌≡◌ {A = Collector} (record { bytes = l; len = c.len }) (added c s)
add-short c s l a e f g =
    let h : length c.bytes < c.len + length s = put_refused c.bytes c.len s l (ap (λ (x : Result Unit Short). left x l) (sym f) ∙ e) in
    let x : l ≡ c.bytes = ap (λ (y : Left). y.bytes) (e ∙ sym (put-short c.bytes c.len s h)) in
    ap {B = Collector} (λ (y : List ℕ). record { bytes = y; len = c.len }) x ∙ added-long c s (omega arith)

-- In bytes and count: one byte stands at the count, or the count is 0.
pub added-leaves : (c : Collector) (b : ℕ) → length c.bytes ≡ 260 → c.len < 260 → added c (b ∷ []) ≡ collecting (set c.bytes c.len b) (c.len + 1)
unfolding stored
added-leaves c b l h = sym (add-laid c b l h)

pub dropped-leaves : (c : Collector) → dropped c ≡ collecting c.bytes 0
unfolding dropped holding
dropped-leaves c = refl

-- The lent array holds the new collector's bytes.
pub adds : (c d : Collector) (b : ℕ) → d ≡ added c (b ∷ []) → adding d d.bytes ≡ add_of c b
unfolding add_of
adds c d b e = rw e

pub ruleset adding_one = (adds, add-laid, added-long)

pub adds-collector : (c d : Collector) (b : ℕ) (work : List ℕ) → adding d work ≡ add_of c b → d ≡ added c (b ∷ [])
unfolding add_of
adds-collector c d b work e = ap (λ (x : Adding). x.collector) e

-- What added bytes leave: one after the other or at once, the count, the places, and what stood before them.
pub added-byte : (c : Collector) (h : Header) (b : ℕ) → (c.len ≡ 0 → ⊥) → length c.bytes ≡ 260 → c.len < 260
    → complete (heard c) ≡ false → added c (b ∷ []) ≡ byte_of c h b
added-byte c h b z l r t = sym (add-laid c b l r) ∙ byte-added c h b z l r t

pub added_none : (c : Collector) → length c.bytes ≡ 260 → c.len ≤ 260 → added c [] ≡ c
added_none c l h = added-holds c [] (omega arith) ∙ ap (holding c) (append-nil (heard c)) ∙ holding-heard c (omega arith)

pub added-count : (c : Collector) (bs : List ℕ) → length c.bytes ≡ 260 → c.len + length bs ≤ 260 → (added c bs).len ≡ c.len + length bs
added-count c bs l h =
    let m : length (heard c) ≡ c.len = length-heard c (omega arith) in
    ap (λ (x : Collector). x.len) (added-holds c bs h) ∙ holding-count c (heard c ++ bs) ∙ rw (length-append, m)

holding-bytes : (c : Collector) (hs : List ℕ) → (holding c hs).bytes ≡ hs ++ drop (length hs) c.bytes
unfolding holding
holding-bytes c hs = refl

added-bytes : (c : Collector) (bs : List ℕ) → c.len + length bs ≤ 260 → (added c bs).bytes ≡ (heard c ++ bs) ++ drop (length (heard c ++ bs)) c.bytes
added-bytes c bs h = ap (λ (x : Collector). x.bytes) (added-holds c bs h) ∙ holding-bytes c (heard c ++ bs)

pub added-places : (c : Collector) (bs : List ℕ) → length c.bytes ≡ 260 → c.len + length bs ≤ 260 → length (added c bs).bytes ≡ 260
added-places c bs l h =
    let m : length (heard c) ≡ c.len = length-heard c (omega arith) in
    let n : length (heard c ++ bs) ≡ c.len + length bs = rw (length-append, m) in
    ap length (added-bytes c bs h) ∙ rw (length-append, length-drop) (omega (arith, n))

pub added-before : (c : Collector) (bs : List ℕ) (i : ℕ) → length c.bytes ≡ 260 → c.len + length bs ≤ 260 → i < c.len
    → get_or (added c bs).bytes i 0 ≡ get_or c.bytes i 0
added-before c bs i l h k =
    let m : length (heard c) ≡ c.len = length-heard c (omega arith) in
    let n : length (heard c ++ bs) ≡ c.len + length bs = rw (length-append, m) in
    ap (λ (x : List ℕ). get_or x i 0) (added-bytes c bs h)
    ∙ get_or-append (heard c ++ bs) (drop (length (heard c ++ bs)) c.bytes) 0 i (omega (arith, n))
    ∙ get_or-append (heard c) bs 0 i (omega (arith, m))
    ∙ heard-at c i k

holding-twice : (c : Collector) (hs ks : List ℕ) → holding (holding c hs) (hs ++ ks) ≡ holding c (hs ++ ks)
unfolding holding
holding-twice c hs ks =
    ap {B = Collector} (λ (x : List ℕ). record { bytes = (hs ++ ks) ++ x; len = length (hs ++ ks) })
    (rw length-append (drop-append-add hs (drop (length hs) c.bytes) (length ks) ∙ drop-drop (length ks) (length hs) c.bytes))

pub added_more : (c : Collector) (bs ds : List ℕ) → length c.bytes ≡ 260 → c.len + length bs + length ds ≤ 260 → added (added c bs) ds ≡ added c (bs ++ ds)
added_more c bs ds l h =
    let n : (added c bs).len ≡ c.len + length bs = added-count c bs l (omega arith) in
    let m : length (bs ++ ds) ≡ length bs + length ds = length-append bs ds in
    added-holds (added c bs) ds (omega arith)
    ∙ ap (λ (x : Collector). holding x (heard x ++ ds)) (added-holds c bs (omega arith))
    ∙ ap (λ (x : List ℕ). holding (holding c (heard c ++ bs)) (x ++ ds)) (heard-holding c (heard c ++ bs))
    ∙ holding-twice c (heard c ++ bs) ds
    ∙ ap (holding c) (append_assoc (heard c) bs ds)
    ∙ sym (added-holds c (bs ++ ds) (omega arith))
