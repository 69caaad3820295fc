use Rattle.connections.proofs.ClosingLaws as L
use Rattle.connections.proofs.WrittenLaws as W
use native.Mathlib.Omega.{arith}
use native.Mathlib.Numerals.{add-one}
use mathlib.Core.Path.{◌≡◌, sym, ap, ◌∙◌}
use Prim.Native.Nat.{ℕ, suc, ◌+◌, ◌-◌}
use Rattle.std.specs.Prelude.{Option}
use Rattle.connections.specs.Closing.{one_more, one_less}
use lib.ListN.{length-set}
use Rattle.connections.specs.Members.{earlier, first_in}
use Rattle.connections.proofs.closing.mark_closed.Goals as goal

pub number-last-requires : goal.number-last-requires
number-last-requires c = omega (arith, W.members_long c.args.members.now c.requires.0)

pub first_charged-requires : goal.first_charged-requires
first_charged-requires c = W.members_long c.args.members.now c.requires.0

pub bounds-members-c : goal.bounds-members-c
bounds-members-c c = omega (arith, W.members_long c.args.members.now c.requires.0)

-- the number that comes behind the rows
taken : (r last first : ℕ) (o : Option ℕ) → r ≡ earlier (last + 1) (one_more o) - 1 → o ≡ one_less first → r + 1 ≡ earlier (last + 1) first
taken r last first o e g =
    let f : r ≡ earlier (suc last) first - 1 = rw (← add-one last, ← L.more_of o first g) e in
    omega (arith, f, (L.earlier_le last first).0) ∙ ap (λ (n : ℕ). earlier n first) (sym (add-one last))

pub overflow_add-members-2 : goal.overflow_add-members-2
overflow_add-members-2 c =
    let t = c.args.members.now in
    let last = c.number-last.result in
    let e : c.earlier-first.result + 1 ≡ earlier (suc last) (first_in t) = taken _ _ _ _ c.earlier-first.ensures c.first_charged.ensures ∙ ap (λ (n : ℕ). earlier n (first_in t)) (add-one last) in
    record { fits = omega (arith, e, (L.earlier_le last (first_in t)).1, c.number-last.ensures, L.last_read t (W.members_rows t c.requires.0) c.args.c c.requires.1, c.requires.3) }

pub bounds-members : goal.bounds-members
bounds-members c = simp length-set (omega (arith, W.members_long c.args.members.now c.requires.0))

pub returns : goal.returns
returns c =
    L.mark_written c.args.members.now c.requires.0 c.args.c c.requires.1 c.requires.2 c.number-last.result _ c.number-last.ensures
    (taken _ _ _ _ c.earlier-first.ensures c.first_charged.ensures)
