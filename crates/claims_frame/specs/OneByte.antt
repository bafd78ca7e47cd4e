-- Demand 3: "A good frame with exactly one byte after its length byte changed is not good".
use Rattle.std.specs.Prelude.{true, List, ◌≢◌, ◌≡◌, ◌-◌, ◌<◌, ◌≤◌, ℕ, eqb, get_or, length, set}
use Rattle.frame.proofs.Laws.Sum.{Below}
use Rattle.frame.specs.Frame.{is_frame}
use Rattle.frame.specs.Judgement.{judge_of}
use Rattle.frame.specs.declared.Footer.{Footer}
use Rattle.frame.specs.declared.judgement.Judgement.{Judgement}
use Rattle.frame.specs.declared.judgement.Judgement.TheVariants.{Good, WrongFooter, WrongSum}
use Rattle.words.specs.Words.{if◌then◌otherwise◌}

-- The frame is good, and its byte i, one after LEN, becomes v.
pub record AfterLen (f : Footer) (bs : List ℕ) (i v : ℕ) : Type 0 where
  pub good : judge_of f bs ≡ Good
  pub bytes : Below 256 bs
  pub after : 2 ≤ i
  pub inside : i < length bs
  pub small : v < 256
  pub changed : get_or bs i 0 ≢ v

-- Which fault it has then: the footer's exactly where the footer was changed, else the SUM's (document 02, §4).
unfoldable pub fault_changed : List ℕ → ℕ → Judgement
fault_changed bs i = if eqb i (length bs - 1) then WrongFooter (length bs - 1) otherwise WrongSum (length bs - 2)

-- It is still one complete frame of the same length, and is not good.
pub record OneChanged (f : Footer) (bs : List ℕ) (i v : ℕ) : Type 0 where
  pub long : length (set bs i v) ≡ length bs
  pub header : get_or (set bs i v) 0 0 ≡ get_or bs 0 0
  pub frame : is_frame (set bs i v) ≡ true
  pub bad : judge_of f (set bs i v) ≢ Good
  pub fault : judge_of f (set bs i v) ≡ fault_changed bs i
