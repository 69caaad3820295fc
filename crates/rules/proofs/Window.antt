-- What becomes eligible within a window, ahead of a key, is at most what a condition of the level test counts.
use Prim.Native.Nat.{ℕ, ◌+◌, ◌*◌, ◌≤◌, ◌<◌, min}
use native.Mathlib.Omega.{arith}
use native.Mathlib.Nat.{mul-le-mul_right}
use mathlib.Core.Path.{◌≡◌, refl, sym, ap, ◌∙◌}
use mathlib.Core.Bool.{Bool, true, false, cond, true≢false}
use mathlib.Core.Logic.{◌⊎◌, inl, inr}
use mathlib.Core.List.{List, [], ◌∷◌, map}
use lib.Dec.{eqb}
use lib.ListN.{length}
use borrow.Author.Tests.{eqb-true, eqb-false, eq-eqb, ne_eqb}
use Rattle.rules.specs.Words.{upto}
use Rattle.rules.specs.Model.{Link, Connection, Packet, nth}
use Rattle.rules.specs.Admission.{owned, count, cost, load_by}
use Rattle.rules.specs.Service.{Spaced, of, eligibilities}
use Rattle.rules.specs.SoundState.{Fits}
use Rattle.rules.proofs.Lists.{All, all_map, total, total_le, total_mul}
use Rattle.rules.proofs.Sums.{split, same, cond_is, upto_yes, upto_no, upto_mul, only, only_at, only_off, sum_le, total_by}
use Rattle.rules.proofs.Keys.{Ahead, keyed, ahead_or_not, keyed_yes, keyed_no}
use Rattle.rules.proofs.Count.{inside, among, window_law}
use Rattle.rules.proofs.Notices.{of_none}
use Rattle.rules.proofs.Standing.{owned_below}
use Rattle.rules.proofs.Figures.{cost_mono}

-- x if p is eligible within b .. t
abbrev pub between : ℕ → ℕ → ℕ → Packet → ℕ
between b t x p = upto b p.eligibility (upto p.eligibility t x)

-- the cost of p, if its key is ahead of (m, e) and it is eligible within b .. t
abbrev pub weight : Link → List Connection → ℕ → ℕ → ℕ → ℕ → Packet → ℕ
weight l cs m e b t p = keyed m e (nth cs p.connection).level p.eligibility (between b t (cost l p.len) p)

-- what became eligible within b .. t, ahead of (m, e)
abbrev pub arrived : Link → List Connection → ℕ → ℕ → ℕ → ℕ → List Packet → ℕ
arrived l cs m e b t ps = total (weight l cs m e b t) ps

-- 1 if p is of connection c and eligible within b .. t
abbrev pub hit : ℕ → ℕ → ℕ → Packet → ℕ
hit c b t p = only p.connection (inside b t p.eligibility) c

pub hits_among : (c b t : ℕ) (ps : List Packet) → total (hit c b t) ps ≡ among b t (eligibilities c ps)
hits_among c b t [] = refl
hits_among c b t (p ∷ ps) = go (eqb p.connection c) refl (hits_among c b t ps)
  where
    go : (u : Bool) → eqb p.connection c ≡ u → total (hit c b t) ps ≡ among b t (eligibilities c ps)
        → hit c b t p + total (hit c b t) ps ≡ among b t (map (λ q. q.eligibility) (cond u (p ∷ of c ps) (of c ps)))
    go true e k = omega (arith, only_at p.connection (inside b t p.eligibility) (eqb-true p.connection c e))
    go false e k = omega (arith, only_off p.connection (inside b t p.eligibility) (eqb-false p.connection c e))

between_le : (b t u : ℕ) (p : Packet) (x y : ℕ) → x ≤ y → (p.eligibility ≤ t → p.eligibility ≤ u) → between b t x p ≤ between b u 1 p * y
between_le b t u p x y h f = go (split b p.eligibility) (split p.eligibility t)
  where
    go : (b ≤ p.eligibility) ⊎ (p.eligibility < b) → (p.eligibility ≤ t) ⊎ (t < p.eligibility) → between b t x p ≤ between b u 1 p * y
    go (inr i) j = omega (arith, upto_no b p.eligibility (upto p.eligibility t x) i)
    go (inl i) (inr j) = omega (arith, upto_yes b p.eligibility (upto p.eligibility t x) i, upto_no p.eligibility t x j)
    go (inl i) (inl j) =
        omega (
          arith,
          upto_yes b p.eligibility (upto p.eligibility t x) i,
          upto_yes p.eligibility t x j,
          ap (λ (k : ℕ). k * y) (upto_yes b p.eligibility (upto p.eligibility u 1) i ∙ upto_yes p.eligibility u 1 (f j)),
        )

-- the last tick at which a packet of level v that is ahead of (m, e) can be eligible, up to t
pub horizon : ℕ → ℕ → ℕ → ℕ → ℕ
horizon m e t v = cond (eqb v m) (min e t) t

pub horizon_own : (m e t v : ℕ) → v ≡ m → horizon m e t v ≡ min e t
unfolding horizon
horizon_own m e t v i = cond_is (min e t) t (eq-eqb v m i)

pub horizon_other : (m e t v : ℕ) → (v ≡ m → ⊥) → horizon m e t v ≡ t
unfolding horizon
horizon_other m e t v i = cond_is (min e t) t (ne_eqb v m i)

pub horizon_le : (m e t v : ℕ) → horizon m e t v ≤ t
horizon_le m e t v = go (same v m)
  where
    go : (v ≡ m) ⊎ (v ≡ m → ⊥) → horizon m e t v ≤ t
    go (inl i) = omega (arith, horizon_own m e t v i)
    go (inr i) = omega (arith, horizon_other m e t v i)

ahead_horizon : (m e t v x : ℕ) → Ahead m e v x → x ≤ t → x ≤ horizon m e t v
ahead_horizon m e t v x a h = go (same v m)
  where
    go : (v ≡ m) ⊎ (v ≡ m → ⊥) → x ≤ horizon m e t v
    go (inl i) = omega (arith, horizon_own m e t v i, a.no_later i)
    go (inr i) = omega (arith, horizon_other m e t v i)

module _ (l : Link) (cs : List Connection) (m e b t : ℕ) where
  -- the last tick that counts for connection c, and what one packet of it weighs at most
  last_tick : ℕ → ℕ
  last_tick c = horizon m e t (nth cs c).level

  share : ℕ → ℕ
  share c = upto (nth cs c).level m (cost l (nth cs c).size)

  weight_le : (p : Packet) → Fits cs p → weight l cs m e b t p ≤ between b (last_tick p.connection) 1 p * share p.connection
  unfolding last_tick share
  weight_le p f = go (ahead_or_not m e v p.eligibility)
    where
      v : ℕ
      v = (nth cs p.connection).level

      go : Ahead m e v p.eligibility ⊎ (Ahead m e v p.eligibility → ⊥)
          → weight l cs m e b t p ≤ between b (horizon m e t v) 1 p * upto v m (cost l (nth cs p.connection).size)
      go (inr n) = omega (arith, keyed_no m e v p.eligibility (between b t (cost l p.len) p) n)
      go (inl a) =
          omega (
            arith,
            keyed_yes m e v p.eligibility (between b t (cost l p.len) p) a,
            between_le b t (horizon m e t v) p (cost l p.len) (cost l (nth cs p.connection).size) (cost_mono l f.len_le) (ahead_horizon m e t v p.eligibility a),
            ap (λ (k : ℕ). between b (horizon m e t v) 1 p * k) (upto_yes v m (cost l (nth cs p.connection).size) a.no_higher),
          )

  piece : (c : ℕ) (p : Packet) → Fits cs p → only p.connection (weight l cs m e b t p) c ≤ hit c b (last_tick c) p * share c
  piece c p f = go (same p.connection c)
    where
      go : (p.connection ≡ c) ⊎ (p.connection ≡ c → ⊥) → only p.connection (weight l cs m e b t p) c ≤ hit c b (last_tick c) p * share c
      go (inr n) = omega (arith, only_off p.connection (weight l cs m e b t p) n)
      go (inl i) =
          omega (
            arith,
            only_at p.connection (weight l cs m e b t p) i,
            weight_le p f,
            ap (λ (k : ℕ). between b (last_tick k) 1 p * share k) i,
            ap (λ (k : ℕ). k * share c) (only_at p.connection (inside b (last_tick c) p.eligibility) i),
          )

  -- within the windows w no more becomes eligible, ahead of (m, e), than a condition of the level test counts
  pub arrived_le : (w : ℕ → ℕ) (ps : List Packet)
      → ((v : ℕ) → horizon m e t v < b + w v)
      → ((c : ℕ) → owned cs c ≡ true → 1 ≤ (nth cs c).gap)
      → All (Fits cs) ps
      → ((c : ℕ) → owned cs c ≡ true → Spaced (nth cs c) (eligibilities c ps))
      → arrived l cs m e b t ps ≤ load_by l cs m w
  unfolding last_tick share
  arrived_le w ps lt g f h =
      omega (
        arith,
        total_by (λ p. p.connection) (weight l cs m e b t) (length cs) ps (all_map (λ p k. owned_below cs p.connection k.owner) ps f),
        sum_le (length cs)
            {f = λ c. total (λ p. only p.connection (weight l cs m e b t p) c) ps}
            {g = λ c. upto (nth cs c).level m (count (nth cs c) (w (nth cs c).level) * cost l (nth cs c).size)}
            (λ c i.
            omega (
              arith,
              total_le (λ p. only p.connection (weight l cs m e b t p) c) (λ p. hit c b (last_tick c) p * share c) ps (all_map (λ p k. piece c p k) ps f),
              total_mul (hit c b (last_tick c)) (share c) ps,
              mul-le-mul_right (share c) (few c),
              upto_mul (nth cs c).level m (count (nth cs c) (w (nth cs c).level)) (cost l (nth cs c).size),
            )),
      )
    where
      few : (c : ℕ) → total (hit c b (last_tick c)) ps ≤ count (nth cs c) (w (nth cs c).level)
      few c = go (owned cs c) refl
        where
          go : (o : Bool) → owned cs c ≡ o → total (hit c b (last_tick c)) ps ≤ count (nth cs c) (w (nth cs c).level)
          go true i =
              omega (
                arith,
                hits_among c b (last_tick c) ps,
                window_law (nth cs c) (last_tick c) (eligibilities c ps) b (w (nth cs c).level) (g c i) (h c i) (lt (nth cs c).level),
              )
          -- a free number has no packet
          go false i =
              omega (
                arith,
                hits_among c b (last_tick c) ps,
                ap (λ (qs : List Packet). among b (last_tick c) (map (λ q. q.eligibility) qs)) (of_none c ps (all_map (λ p k e. true≢false (sym k.owner ∙ ap (owned cs) e ∙ i)) ps f)),
              )
