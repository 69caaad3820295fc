use native.Mathlib.Omega.{arith}
use mathlib.Core.Path.{refl, sym, ap, ◌∙◌}
use Prim.Native.Nat.{◌≤◌}
use Rattle.rules.proofs.Tests.{never}
use Rattle.turns.specs.declared.Turn.{Turn}
use Rattle.turns.specs.Turns.{window}
use Rattle.turns.proofs.TurnLaws.{reads_only, window_drop, used_up, followed_still, followed_read}
use Rattle.turns.proofs.follow.Goals as goal

pub returns-then-reads : goal.returns-then-reads
returns-then-reads g c =
    let a = c.args in
    let P = c.requires in
    let d = sym c.reads.ensures ∙ c.if-reads.true in
    let v = c.refill in
    let h : a.from ≤ a.to = omega (arith, P.0.order) in record {
      followed = followed_read a.r (window a.buf.now a.from a.to) a.last _ a.taken v.result d P.1
          (rw (← window_drop a.buf.now a.from a.to a.r.used h) v.ensures.refilled);
      onward = record { where_read = λ _ o. v.ensures.better o; where_not = λ e. never (sym e ∙ d) };
      taken_value = ap (λ (x : Turn). x.taken) v.ensures.refilled.turn ∙ sym (reads_only a.taken a.r.status d).0;
    }

pub returns : goal.returns
returns g c =
    let a = c.args in
    let P = c.requires in
    let d = sym c.reads.ensures ∙ c.if-reads.false in
    let h : a.from ≤ a.to = omega (arith, P.0.order) in
    rw c.after_steps.ensures (record {
      followed = followed_still a.r (window a.buf.now a.from a.to) a.last _ a.taken a.from a.to _ d
          (used_up a.buf.now a.from a.to a.r.used h P.0.inside (omega (arith, P.0.order)))
          (window_drop a.buf.now a.from a.to a.r.used h);
      onward = record { where_read = λ e _. never (sym d ∙ e); where_not = λ _. refl };
      taken_value = refl;
    })
