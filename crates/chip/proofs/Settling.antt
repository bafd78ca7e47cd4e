-- Laws of a step, over plain variables: what an accepted state gives, when a byte completes a frame, and how each way of a step settles.
-- Assumes nothing.
use mathlib.Core.Bool.{Bool, false, true}
use mathlib.Core.List.{List, [], ◌++◌, ◌∷◌}
use mathlib.Core.Path.{◌∙◌, ◌≡◌, ap, refl, sym}
use Prim.Native.Nat.{◌+◌, ◌-◌, ◌<◌, ◌≤◌, ℕ}
use native.Mathlib.Decide.{dec_le}
use native.Mathlib.Omega.{arith}
use lib.Dec.{leb}
use lib.ListN.{get_or-append, get_or, length, length-append, take}
use borrow.Author.Tests.{le-leb, lt-leb}
use Rattle.chip.specs.Step.{Outcome, Reaction, byte_in, heard_byte, outcome, powered_on, react_to, reaction, replied, settled, step_of}
use Rattle.chip_frame.specs.Does.{frame_does, mode_byte, silent}
use Rattle.chip_state.proofs.Laws.{Accepts, Begun, begun, command-collected, data-collected, none-begun, state-collected}
use Rattle.chip_state.specs.Refusals.{good_begun, good_collected, handed_with, verdict_on}
use Rattle.std.specs.Prelude.{Err, Ok}
use Rattle.chip_state.specs.declared.Chip.{Chip}
use Rattle.chip.specs.declared.Event.{Event}
use Rattle.chip.specs.declared.Event.TheVariants.{Byte, Gap, PowerOn}
use Rattle.chip.specs.declared.events.Way.TheVariants.{Completes, Hears, Mode}
use Rattle.chip.specs.Inner.Ways.{completes_at, way_of, way_on}
use Rattle.chip_core.specs.Effect.{Effect, Memory, effect}
use Rattle.chip_core.specs.declared.Core.{Core}
use Rattle.chip_core.specs.declared.Done.{Done}
use Rattle.chip_core.specs.Hearing.{hearing}
use Rattle.chip_core.specs.declared.Hearing.{Hearing}
use Rattle.chip_core.specs.declared.Hearing.TheVariants.{HearsCommands, HearsData, HearsNothing}
use Rattle.frame.proofs.Laws.Collector.{byte-hears, complete-is, dropped-is, hear-long, hear-more, heard-at, heard-byte, heard-is, holding-count, holding-heard, length-heard}
use Rattle.frame.proofs.Laws.Frame.{full-not, full-short, full-yes}
use Rattle.frame.specs.Collector.{byte_of, dropped, hear, heard, holding}
use Rattle.frame.specs.Frame.{complete, counted, full}
use Rattle.frame.specs.declared.judgement.Judgement.{Judgement}
use Rattle.frame.specs.declared.judgement.Judgement.TheVariants.{Good}
use Rattle.frame.specs.declared.Header.{Header}
use Rattle.frame.specs.declared.Header.TheVariants.{Command, Data}
use Rattle.frame.specs.declared.collector.Collector.{Collector}
use Rattle.part.specs.declared.Part.{Part}
use Rattle.part.specs.declared.refusal.Refusal.{Refusal}
use Rattle.chip_reply.proofs.Laws.{fault-silence, said-silence, send-said}
use Rattle.chip_reply.specs.Reply.{Said, fault_in, payloads, said, said_of, send_of, sent_as}
use Rattle.chip_reply.specs.declared.Sent.{Sent}
use Rattle.words.proofs.Laws.{and_both}
use Rattle.words.specs.Words.{◌and◌, if◌then◌otherwise◌}

-- When a byte completes a frame, by count and LEN byte.
completes-early : (n x : ℕ) → n < 2 → completes_at n x ≡ false
unfolding completes_at ◌and◌
completes-early n x h = simp (lt-leb 2 n h)

short-complete : (hs : List ℕ) → length hs < 2 → complete hs ≡ false
short-complete hs h = complete-is hs ∙ full-short (length hs) (get_or hs 1 0) h

two-complete : (y b : ℕ) → complete (y ∷ b ∷ []) ≡ false
two-complete y b = complete-is (y ∷ b ∷ []) ∙ full-not 2 b (omega arith)

first-complete : (h : Header) (b : ℕ) → complete (hear h [] b) ≡ false
first-complete h b = short-complete (hear h [] b) (omega (arith, hear-long h [] b))

more-complete : (hs : List ℕ) (b n x : ℕ) → length hs ≡ n → 2 ≤ n → get_or hs 1 0 ≡ x → complete (hs ++ b ∷ []) ≡ completes_at n x
unfolding completes_at ◌and◌
more-complete hs b n x e h g =
    let l : length (hs ++ b ∷ []) ≡ n + 1 = rw (length-append, e) in
    let d : get_or (hs ++ b ∷ []) 1 0 ≡ x = get_or-append hs (b ∷ []) 0 1 (omega arith) ∙ g in
    complete-is (hs ++ b ∷ []) ∙ rw (l, d) (go (dec_le (counted x + 3) n))
  where
    go : Dec (counted x + 3 ≤ n) → full (n + 1) x ≡ (leb 2 n and leb (counted x + 3) n)
    go (yes k) = full-yes (n + 1) x (omega arith) (omega arith) ∙ sym (and_both (le-leb 2 n h) (le-leb (counted x + 3) n k))
    go (no k) = full-not (n + 1) x (omega arith) ∙ sym (simp (le-leb 2 n h, lt-leb (counted x + 3) n (omega arith)))

pub completes-is : (c : Collector) (h : Header) (b : ℕ) → length c.bytes ≡ 260 → Begun c
    → complete (hear h (heard c) b) ≡ completes_at c.len (get_or c.bytes 1 0)
completes-is c h b l g = go (heard c) (length-heard c (omega (arith, g.within))) (λ k. second k)
  where
    second : 1 < c.len → get_or (heard c) 1 0 ≡ get_or c.bytes 1 0
    second k = heard-at c 1 k

    go : (hs : List ℕ) → length hs ≡ c.len → (1 < c.len → get_or hs 1 0 ≡ get_or c.bytes 1 0) → complete (hear h hs b) ≡ completes_at c.len (get_or c.bytes 1 0)
    go [] n s = first-complete h b ∙ sym (completes-early c.len (get_or c.bytes 1 0) (omega arith))
    go (y ∷ []) n s = rw (hear-more h (y ∷ []) b (omega arith)) (two-complete y b) ∙ sym (completes-early c.len (get_or c.bytes 1 0) (omega arith))
    go (y ∷ z ∷ zs) n s = rw (hear-more h (y ∷ z ∷ zs) b (omega arith)) (more-complete (y ∷ z ∷ zs) b c.len (get_or c.bytes 1 0) n (omega arith) (s (omega arith)))

-- What a further byte leaves heard, where nothing is complete yet.
pub byte-holds : (c d : Collector) (h : Header) (b : ℕ) → Begun c → d ≡ byte_of c h b → d ≡ holding c (hear h (heard c) b)
byte-holds c d h b g e = e ∙ byte-hears c h b g.lacks

-- The frame that the byte completed, lent as the part from 0 to the count.
pub frame_is : (c d : Collector) (h : Header) (b : ℕ) → Begun c → d ≡ byte_of c h b → take (d.len - 0) d.bytes ≡ hear h (heard c) b
frame_is c d h b g e =
    let z : d.len - 0 ≡ d.len = omega arith in
    ap (λ (n : ℕ). take n d.bytes) z ∙ sym (heard-is d) ∙ ap heard e ∙ heard-byte c h b g.lacks

-- A silent step: only what is heard, and perhaps the record, is new.
pub quiet-settles : (p : Part) (c d : Collector) (k new : Core) (hs : List ℕ) (m : Memory) (room : List ℕ) → d ≡ holding c hs → 32 ≤ length room
    → record { answer = Ok (sent_as 0 0); fault = Good; chip = record { core = new; collector = d }; memory = m; room = room }
    ≡ settled (Ok tt) p (reaction hs (silent new m)) (record { core = k; collector = c }) m room
unfolding settled
quiet-settles p c d k new hs m room e h = rw (e, ← said-silence p new.options room, fault-silence)

-- A step whose frame was complete: the reply is sent, and the collector emptied.
pub frame-settles : (p : Part) (d : Done) (c e : Collector) (k : Core) (s : Sent) (j : Judgement) (x : Effect) (m n : Memory) (room r : List ℕ)
    → effect d n ≡ x → said s r ≡ said_of (payloads p d.core.options d.reply) room → j ≡ fault_in d.reply → e ≡ dropped c
    → record { answer = replied s; fault = j; chip = record { core = d.core; collector = e }; memory = n; room = r }
    ≡ settled (Ok tt) p (reaction [] x) (record { core = k; collector = c }) m room
unfolding settled
frame-settles p d c e k s j x m n room r f q i g =
    let says = said_of (payloads p d.core.options d.reply) room in
    ap (λ (z : Said). record { answer = replied z.sent; fault = j; chip = record { core = d.core; collector = e }; memory = n; room = z.room }) q
    ∙ ap (λ (z : Judgement). record { answer = replied says.sent; fault = z; chip = record { core = d.core; collector = e }; memory = n; room = says.room }) i
    ∙ ap (λ (z : Collector). record { answer = replied says.sent; fault = fault_in d.reply; chip = record { core = d.core; collector = z }; memory = n; room = says.room })
    (g ∙ dropped-is c)
    ∙ ap (λ (y : Effect). settled (Ok tt) p (reaction [] y) (record { core = k; collector = c }) m room) f

pub next-within : (c d : Collector) (h : Header) (b : ℕ) → length c.bytes ≡ 260 → Begun c → d ≡ byte_of c h b → d.len ≤ 260
next-within c d h b l g e =
    let n : d.len ≡ length (hear h (heard c) b) = ap (λ (x : Collector). x.len) (byte-holds c d h b g e) ∙ holding-count c (hear h (heard c) b) in
    omega (arith, hear-long h (heard c) b, length-heard c (omega (arith, g.within)), g.within)

heard-done : (hs f : List ℕ) (x : List ℕ → Effect) (k : Core) (m : Memory) → f ≡ hs → complete hs ≡ true → reaction [] (x f) ≡ heard_byte hs (x hs) k m
unfolding heard_byte if◌then◌otherwise◌
heard-done hs f x k m e t = rw t (ap (λ (g : List ℕ). reaction [] (x g)) e)

heard-on : (hs : List ℕ) (x : Effect) (k : Core) (m : Memory) → complete hs ≡ false → reaction hs (silent k m) ≡ heard_byte hs x k m
unfolding heard_byte if◌then◌otherwise◌
heard-on hs x k m t = rw t

-- A byte that completes a frame, and one that does not. x is what a complete frame does.
byte-done : (p : Part) (d : Done) (c next e : Collector) (k : Core) (h : Header) (b : ℕ) (s : Sent) (j : Judgement) (x : List ℕ → Effect) (m n : Memory)
    (room r : List ℕ)
    → length c.bytes ≡ 260 → Begun c → next ≡ byte_of c h b → completes_at c.len (get_or c.bytes 1 0) ≡ true
    → effect d n ≡ x (take (next.len - 0) next.bytes) → said s r ≡ said_of (payloads p d.core.options d.reply) room
    → j ≡ fault_in d.reply → e ≡ dropped c
    → record { answer = replied s; fault = j; chip = record { core = d.core; collector = e }; memory = n; room = r }
    ≡ settled (Ok tt) p (heard_byte (hear h (heard c) b) (x (hear h (heard c) b)) k m) (record { core = k; collector = c }) m room
byte-done p d c next e k h b s j x m n room r l g q t f u i v =
    frame-settles p d c e k s j (x (take (next.len - 0) next.bytes)) m n room r f u i v
    ∙ ap (λ (y : Reaction). settled (Ok tt) p y (record { core = k; collector = c }) m room)
    (heard-done (hear h (heard c) b) (take (next.len - 0) next.bytes) x k m (frame_is c next h b g q) (completes-is c h b l g ∙ t))

byte-on : (p : Part) (c next : Collector) (k : Core) (h : Header) (b : ℕ) (x : Effect) (m : Memory) (room : List ℕ)
    → length c.bytes ≡ 260 → Begun c → next ≡ byte_of c h b → completes_at c.len (get_or c.bytes 1 0) ≡ false → 32 ≤ length room
    → record { answer = Ok (sent_as 0 0); fault = Good; chip = record { core = k; collector = next }; memory = m; room = room }
    ≡ settled (Ok tt) p (heard_byte (hear h (heard c) b) x k m) (record { core = k; collector = c }) m room
byte-on p c next k h b x m room l g e t q =
    quiet-settles p c next k k (hear h (heard c) b) m room (byte-holds c next h b g e) q
    ∙ ap (λ (y : Reaction). settled (Ok tt) p y (record { core = k; collector = c }) m room) (heard-on (hear h (heard c) b) x k m (completes-is c h b l g ∙ t))

-- What is begun in a phase in which frames with the header h are awaited.
begun-in : (p : Part) (c : Collector) (k : Core) (f : Hearing) (h : Header) (code flash room : ℕ) → length c.bytes ≡ 260
    → Accepts p k (handed_with c code flash room) → hearing k.phase ≡ f
    → good_collected f c.len (get_or c.bytes 0 0) (get_or c.bytes 1 0) ≡ good_begun h c.len (get_or c.bytes 0 0) (get_or c.bytes 1 0) → Begun c
begun-in p c k f h code flash room l a e g =
    begun h c l (sym g ∙ state-collected p k c.len (get_or c.bytes 0 0) (get_or c.bytes 1 0) f a.state e)

-- What the way of a byte says.
hears-is : (h g : Header) (n x : ℕ) → way_on h n x ≡ Hears g → (completes_at n x ≡ false) × (h ≡ g)
unfolding way_on if◌then◌otherwise◌
hears-is h g n x e = go (completes_at n x) refl e
  where
    go : (t : Bool) → completes_at n x ≡ t → (if t then Completes h otherwise Hears h) ≡ Hears g → (completes_at n x ≡ false) × (h ≡ g)
    go true u e = absurd (let z : ◌≡◌ {A = ℕ} 0 1 = cc in omega arith)
    go false u e = (u, cc)

completes-way : (h g : Header) (n x : ℕ) → way_on h n x ≡ Completes g → (completes_at n x ≡ true) × (h ≡ g)
unfolding way_on if◌then◌otherwise◌
completes-way h g n x e = go (completes_at n x) refl e
  where
    go : (t : Bool) → completes_at n x ≡ t → (if t then Completes h otherwise Hears h) ≡ Completes g → (completes_at n x ≡ true) × (h ≡ g)
    go true u e = (u, cc)
    go false u e = absurd (let z : ◌≡◌ {A = ℕ} 0 1 = cc in omega arith)

no_mode : (h : Header) (n x : ℕ) → way_on h n x ≡ Mode → ⊥
unfolding way_on if◌then◌otherwise◌
no_mode h n x e = go (completes_at n x) e
  where
    go : (t : Bool) → (if t then Completes h otherwise Hears h) ≡ Mode → ⊥
    go true e = let z : ◌≡◌ {A = ℕ} 0 1 = cc in omega arith
    go false e = let z : ◌≡◌ {A = ℕ} 0 1 = cc in omega arith

mode-way : (f : Hearing) (n x : ℕ) → way_of f n x ≡ Mode → f ≡ HearsNothing
unfolding way_of
mode-way HearsNothing n x e = refl
mode-way HearsCommands n x e = absurd (no_mode Command n x e)
mode-way (HearsData w) n x e = absurd (no_mode Data n x e)

-- The three ways of a byte, each settled as the phase says.
pub mode-settles : (p : Part) (c : Collector) (k new : Core) (b : ℕ) (m : Memory) (room : List ℕ)
    → Accepts p k (handed_with c (length m.flash.code_flash) (length m.flash.data_flash) (length room)) → way_of (hearing k.phase) c.len (get_or c.bytes 1 0) ≡ Mode → new ≡ mode_byte k b
    → record { answer = Ok (sent_as 0 0); fault = Good; chip = record { core = new; collector = c }; memory = m; room = room }
    ≡ settled (Ok tt) p (byte_in (hearing k.phase) p k (heard c) b m) (record { core = k; collector = c }) m room
unfolding byte_in
mode-settles p c k new b m room a w n =
    let e : hearing k.phase ≡ HearsNothing = mode-way (hearing k.phase) c.len (get_or c.bytes 1 0) w in
    let z : c.len ≡ 0 = none-begun p k c.len (get_or c.bytes 0 0) (get_or c.bytes 1 0) a.state e in
    ap (λ (q : Core). record { answer = Ok (sent_as 0 0); fault = Good; chip = record { core = q; collector = c }; memory = m; room = room }) n
    ∙ quiet-settles p c c k (mode_byte k b) (heard c) m room (sym (holding-heard c (omega arith))) a.roomy
    ∙ ap (λ (f : Hearing). settled (Ok tt) p (byte_in f p k (heard c) b m) (record { core = k; collector = c }) m room) (sym e)

pub hears-settles : (p : Part) (c next : Collector) (k : Core) (g : Header) (b : ℕ) (m : Memory) (room : List ℕ) → length c.bytes ≡ 260
    → Accepts p k (handed_with c (length m.flash.code_flash) (length m.flash.data_flash) (length room)) → way_of (hearing k.phase) c.len (get_or c.bytes 1 0) ≡ Hears g → next ≡ byte_of c g b
    → record { answer = Ok (sent_as 0 0); fault = Good; chip = record { core = k; collector = next }; memory = m; room = room }
    ≡ settled (Ok tt) p (byte_in (hearing k.phase) p k (heard c) b m) (record { core = k; collector = c }) m room
unfolding way_of byte_in
hears-settles p c next k g b m room l a w nx = go (hearing k.phase) refl w
  where
    on : (f : Hearing) (h : Header) (x : Effect) → Begun c → way_on h c.len (get_or c.bytes 1 0) ≡ Hears g
        → record { answer = Ok (sent_as 0 0); fault = Good; chip = record { core = k; collector = next }; memory = m; room = room }
        ≡ settled (Ok tt) p (heard_byte (hear h (heard c) b) x k m) (record { core = k; collector = c }) m room
    on f h x u v =
        let q = hears-is h g c.len (get_or c.bytes 1 0) v in
        byte-on p c next k h b x m room l u (nx ∙ ap (λ (i : Header). byte_of c i b) (sym q.1)) q.0 a.roomy

    go : (f : Hearing) → hearing k.phase ≡ f → way_of f c.len (get_or c.bytes 1 0) ≡ Hears g
        → record { answer = Ok (sent_as 0 0); fault = Good; chip = record { core = k; collector = next }; memory = m; room = room }
        ≡ settled (Ok tt) p (byte_in f p k (heard c) b m) (record { core = k; collector = c }) m room
    go HearsNothing e v = absurd (let z : ◌≡◌ {A = ℕ} 0 1 = cc in omega arith)
    go HearsCommands e v = on HearsCommands Command (frame_does HearsCommands p k (hear Command (heard c) b) m) (begun-in p c k HearsCommands Command _ _ _ l a e (command-collected _ _ _)) v
    go (HearsData w) e v = on (HearsData w) Data (frame_does (HearsData w) p k (hear Data (heard c) b) m) (begun-in p c k (HearsData w) Data _ _ _ l a e (data-collected w _ _ _)) v

pub completes-settles : (p : Part) (d : Done) (c next e : Collector) (k : Core) (g : Header) (b : ℕ) (s : Sent) (j : Judgement) (m n : Memory) (room r : List ℕ)
    → length c.bytes ≡ 260 → Accepts p k (handed_with c (length m.flash.code_flash) (length m.flash.data_flash) (length room)) → way_of (hearing k.phase) c.len (get_or c.bytes 1 0) ≡ Completes g → next ≡ byte_of c g b
    → effect d n ≡ frame_does (hearing k.phase) p k (take (next.len - 0) next.bytes) m → said s r ≡ send_of p d.core.options d.reply room
    → j ≡ fault_in d.reply → e ≡ dropped c
    → record { answer = replied s; fault = j; chip = record { core = d.core; collector = e }; memory = n; room = r }
    ≡ settled (Ok tt) p (byte_in (hearing k.phase) p k (heard c) b m) (record { core = k; collector = c }) m room
unfolding way_of byte_in
completes-settles p d c next e k g b s j m n room r l a w nx x u i v = go (hearing k.phase) refl w x
  where
    done : (f : Hearing) (h : Header) → Begun c → way_on h c.len (get_or c.bytes 1 0) ≡ Completes g → effect d n ≡ frame_does f p k (take (next.len - 0) next.bytes) m
        → record { answer = replied s; fault = j; chip = record { core = d.core; collector = e }; memory = n; room = r }
        ≡ settled (Ok tt) p (heard_byte (hear h (heard c) b) (frame_does f p k (hear h (heard c) b) m) k m) (record { core = k; collector = c }) m room
    done f h y t o =
        let q = completes-way h g c.len (get_or c.bytes 1 0) t in
        byte-done p d c next e k h b s j (λ (y : List ℕ). frame_does f p k y m) m n room r l y
        (nx ∙ ap (λ (z : Header). byte_of c z b) (sym q.1)) q.0 o (u ∙ sym (send-said p d.core.options d.reply room a.roomy a.part)) i v

    go : (f : Hearing) → hearing k.phase ≡ f → way_of f c.len (get_or c.bytes 1 0) ≡ Completes g → effect d n ≡ frame_does f p k (take (next.len - 0) next.bytes) m
        → record { answer = replied s; fault = j; chip = record { core = d.core; collector = e }; memory = n; room = r }
        ≡ settled (Ok tt) p (byte_in f p k (heard c) b m) (record { core = k; collector = c }) m room
    go HearsNothing e t o = absurd (let z : ◌≡◌ {A = ℕ} 0 1 = cc in omega arith)
    go HearsCommands e t o = done HearsCommands Command (begun-in p c k HearsCommands Command _ _ _ l a e (command-collected _ _ _)) t o
    go (HearsData w) e t o = done (HearsData w) Data (begun-in p c k (HearsData w) Data _ _ _ l a e (data-collected w _ _ _)) t o

-- One byte more is collected than before, at most.
pub next-in-array : (p : Part) (c next : Collector) (k : Core) (g : Header) (b code flash room : ℕ) → length c.bytes ≡ 260
    → Accepts p k (handed_with c code flash room) → way_of (hearing k.phase) c.len (get_or c.bytes 1 0) ≡ Completes g → next ≡ byte_of c g b
    → next.len ≤ 260
unfolding way_of
next-in-array p c next k g b code flash room l a w nx = go (hearing k.phase) refl w
  where
    go : (f : Hearing) → hearing k.phase ≡ f → way_of f c.len (get_or c.bytes 1 0) ≡ Completes g → next.len ≤ 260
    go HearsNothing e j = absurd (let z : ◌≡◌ {A = ℕ} 0 1 = cc in omega arith)
    go HearsCommands e j = next-within c next g b l (begun-in p c k HearsCommands Command _ _ _ l a e (command-collected _ _ _)) nx
    go (HearsData w) e j = next-within c next g b l (begun-in p c k (HearsData w) Data _ _ _ l a e (data-collected w _ _ _)) nx

-- A gap or power-on: nothing is heard any more, and nothing is said.
pub emptied : (p : Part) (c e : Collector) (k new : Core) (m : Memory) (room : List ℕ) → e ≡ dropped c → 32 ≤ length room
    → record { answer = Ok (sent_as 0 0); fault = Good; chip = record { core = new; collector = e }; memory = m; room = room }
    ≡ settled (Ok tt) p (reaction [] (silent new m)) (record { core = k; collector = c }) m room
emptied p c e k new m room f h = quiet-settles p c e k new [] m room (f ∙ dropped-is c) h

-- A step is its verdict and, accepted, its event's reaction.
pub step-accepted : (o : Outcome) (x : Reaction) (p : Part) (c : Chip) (v w : Event) (m : Memory) (room : List ℕ)
    → verdict_on p c (length m.flash.code_flash) (length m.flash.data_flash) (length room) ≡ Ok tt
    → v ≡ w → x ≡ react_to w p c.core (heard c.collector) m → o ≡ settled (Ok tt) p x c m room → o ≡ step_of p c v m room
unfolding step_of
step-accepted o x p c v w m room a e f g =
    rw a (g ∙ ap (λ (y : Reaction). settled (Ok tt) p y c m room) (f ∙ ap (λ (q : Event). react_to q p c.core (heard c.collector) m) (sym e)))

pub step-barred : (p : Part) (c : Chip) (v : Event) (m : Memory) (room : List ℕ) (r : Refusal)
    → verdict_on p c (length m.flash.code_flash) (length m.flash.data_flash) (length room) ≡ Err r
    → outcome (record { answer = Err r; fault = Good; chip = c }) m room ≡ step_of p c v m room
unfolding step_of settled
step-barred p c v m room r a = rw a

pub same-event : (o : Outcome) (p : Part) (c : Chip) (v w : Event) (m : Memory) (room : List ℕ) → o ≡ step_of p c w m room → v ≡ w → o ≡ step_of p c v m room
same-event o p c v w m room e f = e ∙ ap (λ (q : Event). step_of p c q m room) (sym f)

at_byte : (p : Part) (k : Core) (hs : List ℕ) (b : ℕ) (m : Memory) → byte_in (hearing k.phase) p k hs b m ≡ react_to (Byte b) p k hs m
unfolding react_to
at_byte p k hs b m = refl

pub byte-accepted : (o : Outcome) (p : Part) (c : Chip) (b : ℕ) (m : Memory) (room : List ℕ)
    → verdict_on p c (length m.flash.code_flash) (length m.flash.data_flash) (length room) ≡ Ok tt
    → o ≡ settled (Ok tt) p (byte_in (hearing c.core.phase) p c.core (heard c.collector) b m) c m room → o ≡ step_of p c (Byte b) m room
byte-accepted o p c b m room a g =
    step-accepted o (byte_in (hearing c.core.phase) p c.core (heard c.collector) b m) p c (Byte b) (Byte b) m room a refl (at_byte p c.core (heard c.collector) b m) g

pub at_gap : (p : Part) (k : Core) (hs : List ℕ) (m : Memory) → reaction [] (silent k m) ≡ react_to Gap p k hs m
unfolding react_to
at_gap p k hs m = refl

pub at-power-on : (p : Part) (k new : Core) (hs : List ℕ) (m : Memory) → new ≡ powered_on k → reaction [] (silent new m) ≡ react_to PowerOn p k hs m
unfolding react_to
at-power-on p k new hs m e = ap (λ (q : Core). reaction [] (silent q m)) e
