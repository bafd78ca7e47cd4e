-- Laws of what a step says: a reply lies in the room, has at most 31 bytes and two frames, and none without a frame.
-- Assumes nothing.
use mathlib.Core.List.{List}
use mathlib.Core.Path.{◌∙◌, ◌≡◌, ap, refl, sym}
use Prim.Native.Nat.{◌≤◌, ℕ}
use native.Mathlib.Omega.{arith}
use lib.ListN.{length}
use Rattle.chip_state.proofs.Laws.{accepts}
use Rattle.chip.specs.Step.{Reaction, settled, step_of}
use Rattle.chip_reply.specs.declared.Sent.{Sent}
use Rattle.std.specs.Prelude.{Err, Ok, Result}
use Rattle.chip_state.specs.declared.Chip.{Chip}
use Rattle.chip.specs.declared.Event.{Event}
use Rattle.chip_core.specs.Effect.{Memory}
use Rattle.part.specs.Part.{Arrays}
use Rattle.part.specs.declared.Part.{Part}
use Rattle.part.specs.declared.refusal.Refusal.{Refusal}
use Rattle.chip_reply.proofs.Laws.{few-payloads, frames-long, no_frames, reply-long, said-keeps, said-lands}
use Rattle.chip_reply.specs.Reply.{frames_of, payloads, said_of, sent_as}

pub record Fitting (a : Result Sent Refusal) (room : ℕ) : Type 0 where
  pub long : (n k : ℕ) → a ≡ Ok (sent_as n k) → n ≤ 31
  pub lies : (n k : ℕ) → a ≡ Ok (sent_as n k) → n ≤ room
  pub few : (n k : ℕ) → a ≡ Ok (sent_as n k) → k ≤ 2
  pub silent : (n : ℕ) → a ≡ Ok (sent_as n 0) → n ≡ 0
  pub framed : (n k : ℕ) → a ≡ Ok (sent_as n k) → k ≤ n

same_count : (a b n k : ℕ) → ◌≡◌ {A = Result Sent Refusal} (Ok (sent_as a b)) (Ok (sent_as n k)) → (a ≡ n) × (b ≡ k)
same_count a b n k e = let s : sent_as a b ≡ sent_as n k = cc in (ap (λ (x : Sent). x.bytes) s, ap (λ (x : Sent). x.frames) s)

said_fits : (rs : List (List ℕ)) (room : ℕ) → length (frames_of rs) ≤ 31 → length rs ≤ 2 → 32 ≤ room → Fitting (Ok (sent_as (length (frames_of rs)) (length rs))) room
said_fits rs room l f h =
    record {
      long = λ n k e. omega (arith, (same_count _ _ n k e).0);
      lies = λ n k e. omega (arith, (same_count _ _ n k e).0);
      few = λ n k e. omega (arith, (same_count _ _ n k e).1);
      silent = λ n e. sym (same_count _ _ n 0 e).0 ∙ no_frames rs (same_count _ _ n 0 e).1;
      framed = λ n k e. omega (arith, (same_count _ _ n k e).0, (same_count _ _ n k e).1, frames-long rs);
    }

refused-fits : (r : Refusal) (room : ℕ) → Fitting (Err r) room
refused-fits r room =
    record {
      long = λ n k e. absurd (let z : ◌≡◌ {A = ℕ} 0 1 = cc in omega arith);
      lies = λ n k e. absurd (let z : ◌≡◌ {A = ℕ} 0 1 = cc in omega arith);
      few = λ n k e. absurd (let z : ◌≡◌ {A = ℕ} 0 1 = cc in omega arith);
      silent = λ n e. absurd (let z : ◌≡◌ {A = ℕ} 0 1 = cc in omega arith);
      framed = λ n k e. absurd (let z : ◌≡◌ {A = ℕ} 0 1 = cc in omega arith);
    }

settled-fits : (v : Result Unit Refusal) (p : Part) (x : Reaction) (c : Chip) (m : Memory) (room : List ℕ) → Arrays p → (v ≡ Ok tt → 32 ≤ length room)
    → Fitting (settled v p x c m room).answer (length (settled v p x c m room).room)
unfolding settled
settled-fits (Err r) p x c m room a h = refused-fits r (length room)
settled-fits (Ok _) p x c m room a h =
    let rs = payloads p x.does.core.options x.does.reply in
    let l : length (frames_of rs) ≤ 31 = reply-long p x.does.core.options x.does.reply a.device_long a.name_long a.version_long in
    let k : length (said_of rs room).room ≡ length room = said-keeps rs room (omega (arith, h refl)) in
    let f = said_fits rs (length room) l (few-payloads p x.does.core.options x.does.reply) (h refl) in
    rw (k, said-lands rs room) f

pub step_fits : (p : Part) (c : Chip) (v : Event) (m : Memory) (room : List ℕ) → Arrays p
    → Fitting (step_of p c v m room).answer (length (step_of p c v m room).room)
unfolding step_of
step_fits p c v m room a = settled-fits _ p _ c m room a (λ e. (accepts e).roomy)

-- Before any event nothing has been said.
pub none-fits : (room : ℕ) → Fitting (Ok (sent_as 0 0)) room
none-fits room =
    record {
      long = λ n k e. omega (arith, (same_count _ _ n k e).0);
      lies = λ n k e. omega (arith, (same_count _ _ n k e).0);
      few = λ n k e. omega (arith, (same_count _ _ n k e).1);
      silent = λ n e. sym (same_count _ _ n 0 e).0;
      framed = λ n k e. omega (arith, (same_count _ _ n k e).0, (same_count _ _ n k e).1);
    }
