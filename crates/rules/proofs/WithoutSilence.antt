-- Where a link asks for no silence: costs, limits and the level test of document 01, and no silence runs.
use Prim.Native.Nat.{ℕ, zero, suc, ◌*◌, ◌≤◌}
use native.Mathlib.Omega.{arith}
use native.Mathlib.Nat.{le_refl}
use mathlib.Core.Path.{◌≡◌, refl, ap, ◌∙◌}
use mathlib.Core.Bool.{Bool, true, false, cond}
use mathlib.Core.Logic.{◌⊎◌, inl, inr}
use mathlib.Core.List.{List, [], ◌∷◌}
use lib.Dec.{eqb}
use lib.ListN.{length}
use borrow.Author.Tests.{le-leb}
use Rattle.rules.specs.Words.{upto}
use Rattle.rules.specs.Limits.{max_silence, notice_number}
use Rattle.rules.specs.Model.{Link, Connection, Notice, State, Call, link, admit, offer, notice, close, tick, nth}
use Rattle.rules.specs.Admission.{link_within, bound, count, cost}
use Rattle.rules.specs.WithoutWindows.{bounds_sum, bounds_from, bounds_test}
use Rattle.rules.specs.Service.{ticked}
use Rattle.rules.proofs.HubTick.{started_state, packet_departs, notice_departs, after_unit}
use Rattle.rules.specs.SoundState.{Sound}
use Rattle.rules.specs.Calls.{verdict, done}
use Rattle.rules.specs.Before.{base_within, base_sum, base_short, AsInTheBase, NoSilenceRuns}
use Rattle.rules.proofs.Sums.{same, sum_eq}
use Rattle.rules.proofs.Verdicts.{settled}
use Rattle.rules.proofs.Finer.{as_without}

-- ---- the link and the level test

module _ (l : Link) (z : l.silence ≡ 0) where
  same_cost : (len : ℕ) → cost l len ≡ len
  unfolding cost
  same_cost len = omega arith

  same_limits : link_within l ≡ base_within l
  unfolding link_within
  same_limits = rw (le-leb l.silence max_silence (omega arith), same_cost l.largest) refl

  same_sum : (cs : List Connection) (m : ℕ) → bounds_sum l cs m ≡ base_sum l cs m
  unfolding bounds_sum
  same_sum cs m =
      omega (
        arith,
        same_cost l.largest,
        sum_eq (length cs)
            {f = λ c. upto (nth cs c).level m (count (nth cs c) (bound l m) * cost l (nth cs c).size)}
            {g = λ c. upto (nth cs c).level m (count (nth cs c) (bound l m) * (nth cs c).size)}
            (λ c i. ap (λ (x : ℕ). upto (nth cs c).level m (count (nth cs c) (bound l m) * x)) (same_cost (nth cs c).size)),
      )

  same_short : (cs : List Connection) (m k : ℕ) → bounds_from l cs m k ≡ base_short l cs m k
  same_short cs m zero = refl
  same_short cs m (suc k) = rw (same_sum cs m, same_short cs (suc m) k) refl

  same_test : (cs : List Connection) → bounds_test l cs ≡ base_short l cs 1 l.levels
  unfolding bounds_test
  same_test cs = same_short cs 1 l.levels

  pub as_in_the_base : AsInTheBase l
  as_in_the_base = record {
    cost_is = same_cost;
    limits_are = same_limits;
    sum_is = λ e cs m. (as_without l e).sum_is cs m ∙ same_sum cs m;
    test_is = λ e cs. (as_without l e).test_is cs ∙ same_test cs;
  }

-- ---- no silence runs

-- a tick leaves no longer one than it found: what follows a packet is the link's, which is none
unit_silent : (s : State) → s.link.silence ≡ 0 → (u : ℕ) → (after_unit s u).next.silent ≤ s.silent
unit_silent s z zero = omega arith
unit_silent s z (suc zero) = go (eqb s.serving notice_number) s.notices
  where
    go : (b : Bool) (ns : List Notice) → (cond b (notice_departs s ns) (packet_departs s)).next.silent ≤ s.silent
    go true [] = omega arith
    go true (n ∷ ns) = omega arith
    go false ns = omega arith
unit_silent s z (suc (suc u)) = le_refl s.silent

module _ (s : State) (z : s.link.silence ≡ 0) where
  tick_silent : (ticked s).next.silent ≤ s.silent
  tick_silent = unit_silent (started_state s) z (started_state s).to_go

  now_silent : Sound s → s.silent ≡ 0
  now_silent S = go (same s.link.levels 0)
    where
      go : (s.link.levels ≡ 0) ⊎ (s.link.levels ≡ 0 → ⊥) → s.silent ≡ 0
      go (inl e) = ap (λ (r : State). r.silent) (S.with_no_link e)
      go (inr n) = omega (arith, (S.with_one n).orderly.line.silent_le)

  done_silent : Sound s → (k : Call) → (done k s).next.silent ≡ 0
  done_silent S (link l) = now_silent S
  done_silent S (admit x) = now_silent S
  done_silent S (offer c len tag st) = now_silent S
  done_silent S (notice len tag) = now_silent S
  done_silent S (close c) = now_silent S
  done_silent S tick = omega (arith, tick_silent, now_silent S)

  pub no_silence_runs : NoSilenceRuns s
  no_silence_runs = record {
    now = now_silent;
    after_a_call = λ k S. settled (λ a. a.next.silent ≡ 0) k s (verdict k s) (λ _. done_silent S k) (λ _. now_silent S);
    after_a_tick = tick_silent;
  }
