-- The eligibility of an accepted offer, of either kind (document 02, R-9): not before now, spaced, and no further beyond the clock than a sound state allows. Nothing else
-- opens `untimely`.
use Prim.Native.Nat.{ℕ, ◌+◌, ◌≤◌}
use native.Mathlib.Omega.{arith}
use mathlib.Core.Path.{◌≡◌, refl, sym, ap, subst}
use mathlib.Core.Bool.{true, false}
use mathlib.Core.Option.{Option, none, some}
use lib.Dec.{ltb}
use borrow.Author.Tests.{ltb-false, le-ltb, not-true}
use Rattle.rules.specs.Model.{Link, Connection, Past}
use Rattle.rules.specs.Admission.{burst, stamped, stand_by_on, distance, ahead}
use Rattle.rules.specs.Service.{nth_before, ticks_after, earliest, suits, eligibility_by, untimely, untimely_by}
use Rattle.rules.proofs.Tests.{or_false}
use Rattle.rules.proofs.Figures.{ConnectionFacts, early_parts, never_stamped, ahead_off, ahead_is}
use Rattle.rules.proofs.Spacing.{earliest_is, next_is}
use Rattle.rules.proofs.Queue.{Pace, next_paced, latest_second}

-- no cause of 17 applies
pub record InTime (c : Connection) (h : Past) (now stamp : ℕ) : Type 0 where
  pub not_later : stamp ≤ now
  pub not_over : now ≤ stamp + c.allowance
  pub gap_after : ticks_after c.gap (nth_before 1 h) ≤ stamp + c.allowance

module _ (c : Connection) (h : Past) (now stamp : ℕ) where
  pub in_time_of : untimely c h now stamp ≡ false → InTime c h now stamp
  unfolding untimely
  in_time_of e =
      let a = or_false (ltb now stamp) _ e in
      let b = or_false (ltb (stamp + c.allowance) now) _ a.1 in
      record { not_later = ltb-false now stamp a.0; not_over = ltb-false (stamp + c.allowance) now b.0; gap_after = ltb-false (stamp + c.allowance) _ b.1 }

  pub of_in_time : InTime c h now stamp → untimely c h now stamp ≡ false
  unfolding untimely
  of_in_time t = rw (le-ltb now stamp t.not_later, le-ltb (stamp + c.allowance) now t.not_over, le-ltb (stamp + c.allowance) (ticks_after c.gap (nth_before 1 h)) t.gap_after) refl

-- without an average only the gap counts
pub earliest_gap_only : (c : Connection) (h : Past) → burst c ≡ 0 → earliest c h ≡ ticks_after c.gap (nth_before 1 h)
earliest_gap_only c h e = omega (arith, earliest_is c h, ap (λ (n : ℕ). ticks_after c.window (nth_before n h)) e)

pub record Timely (c : Connection) (a : Option ℕ) (h : Past) (now e : ℕ) : Type 0 where
  pub not_before : now ≤ e
  pub paced : Pace c a now h e

pub timely : (l : Link) (c : Connection) (h : Past) (now : ℕ) (st : Option ℕ) → ConnectionFacts l c → suits c st ≡ true → untimely_by c h now st ≡ false
    → (stand_by_on l ≡ true → eligibility_by c h now st ≤ now + distance l c) → Timely c (ahead l c) h now (eligibility_by c h now st)
timely l c h now none F k u near = record {
  not_before = omega (arith, next_is c h now);
  paced = next_paced c (ahead l c) now h (not-true (stamped c) k) (λ r i. let p = ahead_is l c r i in omega (arith, p.1, near (early_parts l c p.0).0));
}
timely l c h now (some stamp) F k u near =
    let t = in_time_of c h now stamp u in
    record {
      not_before = t.not_over;
      paced =
          subst (λ (a : Option ℕ). Pace c a now h (stamp + c.allowance)) (sym (ahead_off l c (never_stamped l c k)))
          (omega (arith, earliest_gap_only c h (F.no_average k), t.gap_after), omega (arith, latest_second c now h k, t.not_later));
    }
