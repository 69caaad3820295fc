-- THE INVARIANT of every history from fresh: what it says. That each call keeps it is proved in KeptByTick, KeptByCalls and Every.
use Prim.Native.Nat.{ℕ, ◌+◌, ◌≤◌, ◌<◌}
use native.Mathlib.Omega.{arith}
use mathlib.Core.Path.{◌≡◌, refl, ap}
use mathlib.Core.Logic.{◌⊎◌, inl, inr}
use mathlib.Core.List.{List, ◌++◌}
use mathlib.Core.Option.{Option, none, some}
use Rattle.rules.specs.declared.Packet.{Packet}
use Rattle.rules.specs.Words.{All, upto, total}
use Rattle.rules.specs.Limits.{notice_number}
use Rattle.rules.specs.Service.{of, first, Wire}
use Rattle.rules.specs.SoundLine.{wire_left}
use Rattle.rules.specs.Runs.{Departure}
use Rattle.rules.proofs.Lists.{all_zip, total_each, total_zero}
use Rattle.rules.proofs.Sums.{split, upto_yes, upto_no, upto_le}
use Rattle.rules.proofs.Rows.{first_all}
use Rattle.rules.proofs.Invariant.{whats}
use Rattle.frames.specs.Model.{Framing, State, wire}
use Rattle.frames.specs.Service.{next_frame, leaves_by}
use Rattle.frames.specs.SoundState.{Sound}
use Rattle.rules.proofs.WireLaws.{RowFits, weigh, carried}
use Rattle.frames.proofs.Names.{History, in_hub, of_connections}

-- ---- what is behind

-- the cost of p, if it is eligible at t
abbrev pub due : Framing → ℕ → Packet → ℕ
due l t p = upto p.eligibility t (p.len + l.silence)

-- the cost of all eligible held packets, each counted whole
abbrev pub demand : State → ℕ
demand s = total (due s.link s.clock) s.held

abbrev pub frame_end : State → ℕ
frame_end s = next_frame s.link.frame s.clock

-- a departure of a connection's packet: it came in one frame, left after the start of the next and by its end
pub record OnTime (T t : ℕ) (d : Departure) : Type 0 where
  pub next_start : d.what.eligibility ≡ next_frame T d.what.arrival
  pub not_early : d.what.eligibility < d.finish
  pub in_time : d.finish ≤ leaves_by T d.what.arrival
  pub past : d.finish ≤ t

abbrev pub LevelOnTime : ℕ → ℕ → Departure → Type 0
LevelOnTime T t d = (d.what.connection ≡ notice_number → ⊥) → OnTime T t d

pub record Invariant (h : History) : Type 0 where
  -- the state is sound
  pub sound : Sound h.now
  -- no held packet became eligible before this frame
  pub recent : All (λ p. frame_end h.now ≤ p.eligibility + h.now.link.frame) h.now.held
  -- while one is eligible, what is eligible and what the line still owes fit into the rest of this frame, with a tick to spare
  pub work : 0 < demand h.now
      → demand h.now + wire_left h.now.link.silence (wire h.now) + h.now.clock + 1 ≤ frame_end h.now + carried (due h.now.link h.now.clock) (wire h.now)
  -- for each number accepted = departed followed by what waits
  pub conserved : (c : ℕ) → of c h.accepted ≡ of c (whats h.departed) ++ of c (in_hub h.now)
  -- of all connections together accepted = departed followed by what is held
  pub offered : of_connections h.accepted ≡ of_connections (whats h.departed) ++ h.now.held
  -- every departure of a connection's packet was in time
  pub on_time : All (LevelOnTime h.now.link.frame h.now.clock) h.departed

-- ---- laws of `due`

module _ (l : Framing) (t : ℕ) where
  pub due_yes : (p : Packet) → p.eligibility ≤ t → due l t p ≡ p.len + l.silence
  due_yes p h = upto_yes p.eligibility t (p.len + l.silence) h

  pub due_no : (p : Packet) → t < p.eligibility → due l t p ≡ 0
  due_no p h = upto_no p.eligibility t (p.len + l.silence) h

  -- where nothing is due nothing is eligible
  pub none_due : (largest : ℕ) (rs : List Packet) → All (RowFits largest) rs → total (due l t) rs ≡ 0 → All (λ p. t < p.eligibility) rs
  none_due largest rs f z = all_zip one rs f (total_zero (due l t) rs z)
    where
      one : (p : Packet) → RowFits largest p → due l t p ≡ 0 → t < p.eligibility
      one p f e = go (split p.eligibility t)
        where
          go : (p.eligibility ≤ t) ⊎ (t < p.eligibility) → t < p.eligibility
          go (inl k) = absurd (omega (arith, due_yes p k, f.1))
          go (inr k) = k

-- ---- laws of `carried`

-- the packet in service is one of the rows
pub carried_le : (d : Packet → ℕ) (w : Wire) → carried d w ≤ total d w.held
carried_le d w = omega (arith, upto_le 1 w.to_go (weigh d (first w.serving w.held)), go (first w.serving w.held) refl)
  where
    go : (o : Option Packet) → first w.serving w.held ≡ o → weigh d o ≤ total d w.held
    go none e = omega arith
    go (some p) e = first_all w.serving (λ q. d q ≤ total d w.held) w.held p e (total_each d w.held)

-- two weights that agree on the rows
pub carried_eq : (d f : Packet → ℕ) (w : Wire) → All (λ p. d p ≡ f p) w.held → carried d w ≡ carried f w
carried_eq d f w h = ap (upto 1 w.to_go) (go (first w.serving w.held) refl)
  where
    go : (o : Option Packet) → first w.serving w.held ≡ o → weigh d o ≡ weigh f o
    go none e = refl
    go (some p) e = first_all w.serving (λ q. d q ≡ f q) w.held p e h
