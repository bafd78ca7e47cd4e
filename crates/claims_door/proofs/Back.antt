-- The layout of a state: a chip that is written is read back the same, and bytes that are a state are written back the same.
-- Assumes nothing.
use mathlib.Core.Bool.{Bool, false, true}
use mathlib.Core.List.{List, [], ◌++◌, ◌∷◌}
use mathlib.Core.Path.{◌∙◌, ◌≡◌, ap, refl}
use Prim.Native.Nat.{◌%◌, ◌*◌, ◌+◌, ◌/◌, ◌<◌, ◌^◌, suc, zero, ℕ}
use native.Mathlib.Omega.{arith}
use lib.Dec.{eqb, leb}
use lib.ListN.{drop, get_or, length, take, take-append-drop}
use lib.Seq.{get_or_at, take-add, take_all, take-append-le}
use Rattle.chip_state.specs.declared.Chip.{Chip}
use Rattle.claims_door.specs.Held.{Held}
use Rattle.chip_layout.proofs.Laid.{laid-anew}
use Rattle.chip_layout.proofs.Laws.{chip-in-is}
use Rattle.chip_layout.specs.Layout.{awaited_held, awaited_of, chip_in, collector_in, core_in, head_of, is_state, chip_bytes, phase_in, state_size}
use Rattle.chip_core.specs.declared.Phase.{Phase}
use Rattle.chip_core.specs.declared.Phase.TheVariants.{Awaiting, ModeByte, Ready, Setup}
use Rattle.frame.proofs.Laws.Sum.{Below, below_at}
use Rattle.numbers.proofs.Laws.{bit-back, low-number}
use Rattle.numbers.specs.Numbers.{bit, low_first, number_at}
use Rattle.lent.specs.Lent.{all_are}
use Rattle.chip_options.specs.Options.{option_bytes, options_in}
use Rattle.chip_options.specs.declared.Options.{Options}
use Rattle.words.specs.Words.{◌and◌, ◌from◌to◌, ◌or◌, if◌then◌otherwise◌}

-- A number of k bytes, taken apart and put together.
unfoldable pub together : ℕ → ℕ → ℕ
together zero n = 0
together (suc k) n = n % 256 + 256 * together k (n / 256)

pub together-is : (k n : ℕ) → n < 256 ^ k → together k n ≡ n
unfolding together
together-is zero n h = omega arith
together-is (suc k) n h =
    let x : n / 256 < 256 ^ k = omega arith in
    omega (arith, together-is k (n / 256) x)

abbrev made : ℕ → ℕ → ℕ → ℕ → ℕ → Phase → List ℕ → ℕ → Chip
made flags boot start end rate f bytes len =
    record {
      core = record { options = record { flags = flags; boot = boot; start = start; end = end }; rate = rate; phase = f };
      collector = record { bytes = bytes; len = len };
    }

same : {s t e g m n : ℕ} {f h : Phase} {b d : List ℕ} (flags boot rate : ℕ) → s ≡ t → e ≡ g → f ≡ h → b ≡ d → m ≡ n
    → made flags boot s e rate f b m ≡ made flags boot t g rate h d n
same {s} {t} {e} {g} {m} {n} {f} {h} {b} {d} flags boot rate i j k o p =
    ap (λ (x : ℕ). made flags boot x e rate f b m) i ∙ ap (λ (x : ℕ). made flags boot t x rate f b m) j ∙ ap (λ (x : Phase). made flags boot t g rate x b m) k
    ∙ ap (λ (x : List ℕ). made flags boot t g rate h x m) o ∙ ap (λ (x : ℕ). made flags boot t g rate h d x) p

abbrev waits : ℕ → ℕ → ℕ → Bool → Phase
waits cmd next last differed = Awaiting (record { command = cmd; next = next; last = last; differed = differed })

same-waits : {n m l k : ℕ} {b c : Bool} (cmd : ℕ) → n ≡ m → l ≡ k → b ≡ c → waits cmd n l b ≡ waits cmd m k c
same-waits {n} {m} {l} {k} {b} {c} cmd e f g = ap (λ (x : ℕ). waits cmd x l b) e ∙ ap (λ (x : ℕ). waits cmd m x b) f ∙ ap (λ (x : Bool). waits cmd m k x) g

-- The collector's 260 bytes, and the byte after them.
module _ (bytes : List ℕ) (x : ℕ) (long : length bytes ≡ 260) where
  collected : take 260 (bytes ++ x ∷ []) ≡ bytes
  collected = take-append-le 260 bytes (x ∷ []) (omega arith) ∙ take_all 260 bytes (omega arith)

  last_byte : get_or (bytes ++ x ∷ []) 260 0 ≡ x
  last_byte = get_or_at bytes x [] 0 260 long

difference-back : (bytes : List ℕ) (d : Bool) → length bytes ≡ 260 → eqb (get_or (bytes ++ bit d ∷ []) 260 0) 1 ≡ d
difference-back bytes d p = ap (λ (n : ℕ). eqb n 1) (last_byte bytes (bit d) p) ∙ bit-back d

-- What stands in as many bytes as a state has.
abbrev held_in : List ℕ → Chip
held_in bs = record { core = core_in bs; collector = collector_in bs }

-- The four phases, each read back.
back : (flags boot start end rate : ℕ) (f : Phase) (bytes : List ℕ) (len : ℕ) → start < 256 ^ 2 → end < 256 ^ 2 → (awaited_of f).next < 256 ^ 8
    → (awaited_of f).last < 256 ^ 8 → len < 256 ^ 8 → length bytes ≡ 260
    → held_in (chip_bytes (made flags boot start end rate f bytes len)) ≡ made flags boot start end rate f bytes len
unfolding chip_bytes head_of option_bytes low_first number_at options_in awaited_held collector_in phase_in if◌then◌otherwise◌ together
back flags boot start end rate ModeByte bytes len s e n l c p =
    same flags boot rate (together-is 2 start s) (together-is 2 end e) (refl {a = ModeByte}) (collected bytes _ p) (together-is 8 len c)
back flags boot start end rate Setup bytes len s e n l c p =
    same flags boot rate (together-is 2 start s) (together-is 2 end e) (refl {a = Setup}) (collected bytes _ p) (together-is 8 len c)
back flags boot start end rate Ready bytes len s e n l c p =
    same flags boot rate (together-is 2 start s) (together-is 2 end e) (refl {a = Ready}) (collected bytes _ p) (together-is 8 len c)
back flags boot start end rate (Awaiting w) bytes len s e n l c p =
    same flags boot rate (together-is 2 start s) (together-is 2 end e)
    (same-waits w.command (together-is 8 w.next n) (together-is 8 w.last l) (difference-back bytes w.differed p)) (collected bytes _ p) (together-is 8 len c)

-- What is written is a state.
bit-small : (d : Bool) → leb (bit d) 1 ≡ true
bit-small true = refl
bit-small false = refl

state : (o : Options) (rate : ℕ) (f : Phase) (bytes : List ℕ) (len : ℕ) → length bytes ≡ 260
    → is_state (chip_bytes (record { core = record { options = o; rate = rate; phase = f }; collector = record { bytes = bytes; len = len } })) ≡ true
unfolding is_state chip_bytes head_of option_bytes low_first all_are ◌and◌ ◌or◌ ◌from◌to◌
state o rate ModeByte bytes len p = rw (last_byte bytes 0 p)
state o rate Setup bytes len p = rw (last_byte bytes 0 p)
state o rate Ready bytes len p = rw (last_byte bytes 0 p)
state o rate (Awaiting w) bytes len p = rw (last_byte bytes (bit w.differed) p, bit-small w.differed)

pub written-state : (c : Chip) → Held c → is_state (chip_bytes c) ≡ true
written-state c h = state c.core.options c.core.rate c.core.phase c.collector.bytes c.collector.len h.places

-- A chip that is written is read back the same.
pub read_back : (c : Chip) → Held c → chip_in (chip_bytes c) ≡ c
read_back c h =
    chip-in-is (chip_bytes c)
    ∙ back c.core.options.flags c.core.options.boot c.core.options.start c.core.options.end c.core.rate c.core.phase c.collector.bytes c.collector.len h.start h.end h.next h.last h.count h.places

-- Bytes that are a state are written back the same: the first 25 and the last, whatever is collected, and what is collected.
pub written_back : (bs : List ℕ) → Below 256 bs → length bs ≡ state_size → is_state bs ≡ true → chip_bytes (chip_in bs) ≡ bs
unfolding collector_in
written_back bs b long e =
    ap chip_bytes (chip-in-is bs) ∙ laid-anew bs (number_at 8 25 bs) (take 260 (drop 33 bs)) b long e
    ∙ rw (low-number 8 25 bs (λ i. below_at i (omega arith) b) (omega arith), ← take-add 25 8 bs, ← take-add 33 260 bs) (take-append-drop 293 bs)
