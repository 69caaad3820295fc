-- The three steps of a tick keep a busy stretch; the horizon of eligibility moves after the clock.
use Prim.Native.Nat.{ℕ, ◌+◌, ◌≤◌, ◌<◌}
use native.Mathlib.Omega.{arith}
use mathlib.Core.Path.{◌≡◌, refl, ap, ◌∙◌, subst}
use mathlib.Core.Logic.{◌⊎◌, inl, inr, ⊎_elim}
use mathlib.Core.List.{List}
use mathlib.Core.Option.{Option, none, some}
use Rattle.rules.specs.Words.{upto}
use Rattle.rules.specs.Model.{Link, Connection, Packet, State, nth}
use Rattle.rules.specs.Admission.{window, cost}
use Rattle.rules.specs.Service.{first, chosen, early_at, stand_by, Wire, wire}
use Rattle.rules.proofs.Doings.{level_of}
use Rattle.rules.proofs.HubTick.{later, line_left}
use Rattle.rules.specs.SoundState.{Fits, Orderly}
use Rattle.rules.proofs.Lists.{All, all_map, all_zip, all_sub, all_every, Sub, total, total_le, total_sub, total_add, total_zero, total_none}
use Rattle.rules.proofs.Sums.{split, upto_yes, upto_no, upto_le, upto_mono}
use Rattle.rules.proofs.Keys.{Ahead, ahead_or_not, keyed_yes, keyed_no, keyed_mono, keyed_add, ahead_trans}
use Rattle.rules.proofs.Rows.{first_all}
use Rattle.rules.proofs.WireLaws.{Picks, RowFits, weigh, carried, sent_sound, begun_work, sent_work}
use Rattle.rules.proofs.Line.{left_is, cost_is}
use Rattle.rules.proofs.Choice.{Chosen}
use Rattle.rules.proofs.SoundTick.{choice_holds, rows_sized, picks, ready, ready_sound, after_tick}
use Rattle.rules.proofs.Window.{between, weight}
use Rattle.rules.proofs.Busy.{due, demand, due_of, served, Busy, due_full, due_none, due_off}

-- ---- steps 1 and 2: THE TICK LEMMA with the weight of a key (m, e); the horizon stays

-- the packet in service weighs what it is served
due_weighs : (l : Link) (cs : List Connection) (m e t : ℕ) (o : Option Packet) → due_of l cs m e t o ≡ weigh (due l cs m e t) o
due_weighs l cs m e t none = refl
due_weighs l cs m e t (some p) = refl

served_carried : (s : State) (m e t : ℕ) → served s m e t ≡ carried (due s.link s.connections m e t) (wire s)
served_carried s m e t = ap (upto 1 s.to_go) (due_weighs s.link s.connections m e t (first s.serving s.held))

-- a tick later, with the line given anew
abbrev pub wired : State → Wire → State
wired s w = later s w.held w.notices w.serving w.to_go w.silent

module _ (s : State) (S : Orderly s) (m e : ℕ) (some_due : 0 < demand s m e s.clock) where
  abbrev d : Packet → ℕ
  d = due s.link s.connections m e s.clock

  abbrev w : Wire
  w = (after_tick s S).wire

  picked : chosen s ≡ none → ⊥
  picked i =
      omega (
        arith,
        total_none d s.held
            (all_map (λ q late. due_off s.link s.connections m e s.clock q (λ le. absurd (omega arith))) s.held (subst (Picks s.clock s.held) i (picks s S))),
      )

  -- some packet that is due is ahead of (m, e), and the chosen one goes before it
  full : (p : Packet) → chosen s ≡ some p → d p ≡ p.len + s.link.silence
  full p i = go (ahead_or_not m e (level_of s p.connection) p.eligibility) (subst (Chosen (level_of s) s.clock s.held) i (choice_holds s S))
    where
      go : Ahead m e (level_of s p.connection) p.eligibility ⊎ (Ahead m e (level_of s p.connection) p.eligibility → ⊥) → Chosen (level_of s) s.clock s.held (some p)
          → due s.link s.connections m e s.clock p ≡ p.len + s.link.silence
      go (inl a) k = due_full s.link s.connections m e s.clock p a k.0 ∙ cost_is s.link p.len
      go (inr n) k =
          absurd
          (omega (
            arith,
            total_none (due s.link s.connections m e s.clock) s.held
                (all_map
                (λ q le. due_off s.link s.connections m e s.clock q (λ i a.
                n (ahead_trans m e (level_of s q.connection) q.eligibility (level_of s p.connection) p.eligibility (le i).no_lower (le i).no_earlier a)))
                s.held k.1),
          ))

  one_row : (p : Packet) → chosen s ≡ some p → (first p.connection s.held ≡ some p) × (1 ≤ p.len)
  one_row p i =
      let k : (p.eligibility ≤ s.clock) × (first p.connection s.held ≡ some p) = subst (Picks s.clock s.held) i (picks s S) in
      (k.1, (first_all p.connection (RowFits s.link.largest) s.held p k.1 (rows_sized s S)).1)

  -- what is due and what the line owes, less what is in service, falls by one
  tick_work : total d w.held + line_left (wired s w) + 1 + served s m e s.clock ≡ demand s m e s.clock + line_left s + served (wired s w) m e s.clock
  tick_work =
      let a = begun_work (early_at s) s.link.largest s.link.silence s.clock d (wire s) (chosen s) (stand_by s) full picked one_row in
      omega (
        arith,
        a.1,
        sent_work (early_at s) s.link.largest s.link.silence s.clock d (ready s S) (ready_sound s S) (rows_sized s S) a.0,
        left_is s,
        left_is (wired s w),
        served_carried s m e s.clock,
        served_carried (wired s w) m e s.clock,
      )

  -- so the line stays busy, as long as the window has a tick to spare
  pub tick_busy : (acc : List Packet) (B : Busy s acc m e s.clock) → s.clock + 2 ≤ B.from + window s.link m → Busy (wired s (after_tick s S).wire) acc m e s.clock
  tick_busy acc B h = record {
    from = B.from;
    started = omega (arith, B.started);
    since =
        all_sub (λ p. Ahead m e (level_of s p.connection) p.eligibility → p.eligibility ≤ s.clock → B.from ≤ p.eligibility)
        (sent_sound (early_at s) s.link.largest s.link.silence s.clock (ready s S) (ready_sound s S) (rows_sized s S)).1 B.since;
    work = omega (arith, tick_work, B.work);
    in_time = omega arith;
  }

-- nothing ahead of (m, e) is due: the line is busy with it from now at the earliest
pub restart : (s : State) (acc : List Packet) (m e t : ℕ) → All (Fits s.connections) s.held → demand s m e t ≡ 0
    → line_left s < cost s.link s.link.largest → 0 < window s.link m → Busy s acc m e t
restart s acc m e t f z l d = record {
  from = s.clock;
  started = omega arith;
  since =
      all_zip (λ p k y a i. absurd (due_none s.link s.connections m e t p k y a i)) s.held f
      (total_zero (due s.link s.connections m e t) s.held z);
  work = omega arith;
  in_time = omega arith;
}

-- ---- the horizon moves up to the clock: what turns eligible came

module _ (l : Link) (cs : List Connection) (m e t : ℕ) where
  due_next : (p : Packet) → due l cs m e (t + 1) p ≤ due l cs m e t p + weight l cs m e (t + 1) (t + 1) p
  due_next p = go (ahead_or_not m e v p.eligibility) (split p.eligibility t)
    where
      v : ℕ
      v = (nth cs p.connection).level

      x : ℕ
      x = cost l p.len

      go : Ahead m e v p.eligibility ⊎ (Ahead m e v p.eligibility → ⊥) → (p.eligibility ≤ t) ⊎ (t < p.eligibility)
          → due l cs m e (t + 1) p ≤ due l cs m e t p + weight l cs m e (t + 1) (t + 1) p
      go (inr n) i = omega (arith, keyed_no m e v p.eligibility (upto p.eligibility (t + 1) x) n)
      go (inl a) (inl i) =
          omega (
            arith,
            keyed_yes m e v p.eligibility (upto p.eligibility (t + 1) x) a,
            upto_le p.eligibility (t + 1) x,
            keyed_yes m e v p.eligibility (upto p.eligibility t x) a,
            upto_yes p.eligibility t x i,
          )
      go (inl a) (inr i) =
          omega (
            arith,
            keyed_yes m e v p.eligibility (upto p.eligibility (t + 1) x) a,
            keyed_yes m e v p.eligibility (between (t + 1) (t + 1) x p) a,
            upto_yes (t + 1) p.eligibility (upto p.eligibility (t + 1) x) (omega arith),
          )

between_next : (b t x : ℕ) (p : Packet) → b ≤ t + 1 → between b t x p + between (t + 1) (t + 1) x p ≤ between b (t + 1) x p
between_next b t x p h = go (split b p.eligibility) (split p.eligibility t)
  where
    go : (b ≤ p.eligibility) ⊎ (p.eligibility < b) → (p.eligibility ≤ t) ⊎ (t < p.eligibility) → between b t x p + between (t + 1) (t + 1) x p ≤ between b (t + 1) x p
    go (inr i) e = omega (arith, upto_no b p.eligibility (upto p.eligibility t x) i, upto_no (t + 1) p.eligibility (upto p.eligibility (t + 1) x) (omega arith))
    go (inl i) (inl e) =
        omega (
          arith,
          upto_no (t + 1) p.eligibility (upto p.eligibility (t + 1) x) (omega arith),
          upto_yes b p.eligibility (upto p.eligibility (t + 1) x) i,
          upto_yes p.eligibility (t + 1) x (omega arith),
          upto_le b p.eligibility (upto p.eligibility t x),
          upto_le p.eligibility t x,
        )
    go (inl i) (inr e) =
        omega (
          arith,
          upto_le (t + 1) p.eligibility (upto p.eligibility (t + 1) x),
          upto_yes b p.eligibility (upto p.eligibility (t + 1) x) i,
          upto_yes b p.eligibility (upto p.eligibility t x) i,
          upto_no p.eligibility t x e,
        )

weight_next : (l : Link) (cs : List Connection) (m e b t : ℕ) (p : Packet) → b ≤ t + 1 → weight l cs m e b t p + weight l cs m e (t + 1) (t + 1) p ≤ weight l cs m e b (t + 1) p
weight_next l cs m e b t p h =
    omega (
      arith,
      keyed_add m e (nth cs p.connection).level p.eligibility (between b t (cost l p.len) p) (between (t + 1) (t + 1) (cost l p.len) p),
      keyed_mono m e (nth cs p.connection).level p.eligibility (between_next b t (cost l p.len) p h),
    )

-- what is served counts no less later
due_mono : (l : Link) (cs : List Connection) (m e t : ℕ) (o : Option Packet) → due_of l cs m e t o ≤ due_of l cs m e (t + 1) o
due_mono l cs m e t none = omega arith
due_mono l cs m e t (some p) =
    keyed_mono m e (nth cs p.connection).level p.eligibility {a = upto p.eligibility t (cost l p.len)} {b = upto p.eligibility (t + 1) (cost l p.len)}
    (go (split p.eligibility t))
  where
    go : (p.eligibility ≤ t) ⊎ (t < p.eligibility) → upto p.eligibility t (cost l p.len) ≤ upto p.eligibility (t + 1) (cost l p.len)
    go (inl h) = omega (arith, upto_yes p.eligibility t (cost l p.len) h, upto_yes p.eligibility (t + 1) (cost l p.len) (omega arith))
    go (inr h) = omega (arith, upto_no p.eligibility t (cost l p.len) h)

served_mono : (s : State) (m e t : ℕ) → served s m e t ≤ served s m e (t + 1)
served_mono s m e t =
    upto_mono 1 s.to_go
    {x = due_of s.link s.connections m e t (first s.serving s.held)}
    {y = due_of s.link s.connections m e (t + 1) (first s.serving s.held)}
    (λ _. due_mono s.link s.connections m e t (first s.serving s.held))

pub advance : (s : State) (acc : List Packet) (m e t : ℕ) → s.clock ≡ t + 1 → Sub s.held acc → Busy s acc m e t → Busy s acc m e (t + 1)
advance s acc m e t c sub B = record {
  from = B.from;
  started = B.started;
  since = all_map (λ p f a k. ⊎_elim (λ i. f a i) (λ i. omega (arith, B.started)) (split p.eligibility t)) s.held B.since;
  work =
      omega (
        arith,
        B.work,
        total_le (owing (t + 1)) (λ p. owing t p + turning p) s.held (all_every (due_next s.link s.connections m e t) s.held),
        total_add (owing t) turning s.held,
        total_sub turning sub,
        total_le (λ p. came t p + turning p) (came (t + 1)) acc (all_every (λ p. weight_next s.link s.connections m e B.from t p (omega (arith, B.started))) acc),
        total_add (came t) turning acc,
        served_mono s m e t,
      );
  in_time = B.in_time;
}
  where
    owing : ℕ → Packet → ℕ
    owing u = due s.link s.connections m e u

    came : ℕ → Packet → ℕ
    came u = weight s.link s.connections m e B.from u

    turning : Packet → ℕ
    turning = weight s.link s.connections m e (t + 1) (t + 1)
