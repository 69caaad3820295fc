-- The line: what a tick leaves alone, and the laws of what is still on the line. Nothing else opens `line_left`.
use Prim.Native.Nat.{ℕ, zero, suc, ◌+◌, ◌-◌, ◌≤◌}
use native.Mathlib.Omega.{arith}
use mathlib.Core.Path.{◌≡◌, refl, sym, ap, ◌∙◌, subst}
use mathlib.Core.Bool.{Bool, true, false, cond, true≢false}
use mathlib.Core.List.{List, [], ◌∷◌}
use mathlib.Core.Option.{none, some}
use lib.Dec.{eqb}
use borrow.Author.Tests.{eq-eqb, ne_eqb}
use Rattle.rules.specs.Limits.{notice_number}
use Rattle.rules.specs.Model.{Link, Packet, Notice, State, Answer, notice_packet}
use Rattle.rules.specs.Admission.{cost}
use Rattle.rules.specs.Service.{first, first_early, early_at, stand_by, wire, ticked}
use Rattle.rules.proofs.HubTick.{later, started_state, tick_answer, packet_departs, notice_departs, after_unit, line_left}
use Rattle.rules.proofs.LineWords.{InService, NoticeInService}
use Rattle.rules.specs.SoundLine.{wire_left}
use Rattle.rules.proofs.Sums.{cond_is}
use Rattle.rules.proofs.Rows.{none_some, some_inj}
use Rattle.rules.proofs.Figures.{cost_pos}

-- ---- what the three steps do

-- with nothing in service a tick of the silence runs, if one is left; else a unit goes, and with the last one the packet or the notice departs and its row is removed
pub nothing_goes : (s : State) → after_unit s 0 ≡ tick_answer none (later s s.held s.notices 0 0 (s.silent - 1))
nothing_goes s = refl

pub last_of_packet : (s : State) → (s.serving ≡ notice_number → ⊥) → after_unit s 1 ≡ packet_departs s
last_of_packet s n = cond_is (notice_departs s s.notices) (packet_departs s) (ne_eqb s.serving notice_number n)

pub last_of_notice : (s : State) (n : Notice) (ns : List Notice) → s.serving ≡ notice_number → s.notices ≡ n ∷ ns
    → after_unit s 1 ≡ tick_answer (some (notice_packet n)) (later s s.held ns 0 0 s.link.silence)
last_of_notice s n ns e f = cond_is (notice_departs s s.notices) (packet_departs s) (eq-eqb s.serving notice_number e) ∙ ap (notice_departs s) f

pub unit_goes : (s : State) (u : ℕ) → after_unit s (suc (suc u)) ≡ tick_answer none (later s s.held s.notices s.serving (suc u) s.silent)
unit_goes s u = refl

-- ---- the packet that stands by

-- it may go early, and it is the first row of its connection
pub first_early_is : (may : ℕ → Bool) (rs : List Packet) (p : Packet) → first_early may rs ≡ some p → (may p.connection ≡ true) × (first p.connection rs ≡ some p)
first_early_is may [] p e = absurd (none_some e)
first_early_is may (r ∷ rs) p e = go (may r.connection) refl e (λ k. first_early_is may rs p k)
  where
    rest : may r.connection ≡ false → (may p.connection ≡ true) × (first p.connection rs ≡ some p) → (may p.connection ≡ true) × (first p.connection (r ∷ rs) ≡ some p)
    rest i k = (k.0, cond_is (some r) (first p.connection rs) (ne_eqb r.connection p.connection (λ j. true≢false (sym k.0 ∙ ap may (sym j) ∙ i))) ∙ k.1)

    go : (b : Bool) → may r.connection ≡ b → cond b (some r) (first_early may rs) ≡ some p
        → (first_early may rs ≡ some p → (may p.connection ≡ true) × (first p.connection rs ≡ some p)) → (may p.connection ≡ true) × (first p.connection (r ∷ rs) ≡ some p)
    go true i e ih =
        let j = some_inj e in (
          ap (λ (q : Packet). may q.connection) (sym j) ∙ i,
          cond_is (some r) (first p.connection rs) (eq-eqb r.connection p.connection (ap (λ (q : Packet). q.connection) j)) ∙ e,
        )
    go false i e ih = rest i (ih e)

pub stands_by : (s : State) (p : Packet) → stand_by s ≡ some p → (early_at s p.connection ≡ true) × (first p.connection s.held ≡ some p)
stands_by s p e = first_early_is (early_at s) s.held p e

-- ---- what a tick leaves alone

pub record Leaves (s r : State) : Type 0 where
  pub link : r.link ≡ s.link
  pub connections : r.connections ≡ s.connections
  pub pasts : r.pasts ≡ s.pasts
  pub closed : r.closed ≡ s.closed
  pub clock : r.clock ≡ s.clock + 1

unit_leaves : (s : State) (u : ℕ) → Leaves s (after_unit s u).next
unit_leaves s zero = subst (λ (a : Answer). Leaves s a.next) (sym (nothing_goes s)) (record { link = refl; connections = refl; pasts = refl; closed = refl; clock = refl })
unit_leaves s (suc zero) = go (eqb s.serving notice_number) s.notices
  where
    go : (b : Bool) (ns : List Notice) → Leaves s (cond b (notice_departs s ns) (packet_departs s)).next
    go true [] = record { link = refl; connections = refl; pasts = refl; closed = refl; clock = refl }
    go true (n ∷ ns) = record { link = refl; connections = refl; pasts = refl; closed = refl; clock = refl }
    go false ns = record { link = refl; connections = refl; pasts = refl; closed = refl; clock = refl }
unit_leaves s (suc (suc u)) = subst (λ (a : Answer). Leaves s a.next) (sym (unit_goes s u)) (record { link = refl; connections = refl; pasts = refl; closed = refl; clock = refl })

pub tick_leaves : (s : State) → Leaves s (ticked s).next
tick_leaves s =
    let l = unit_leaves (started_state s) (started_state s).to_go in
    record { link = l.link; connections = l.connections; pasts = l.pasts; closed = l.closed; clock = l.clock }

-- ---- what is still on the line

-- it is that of the line that both disciplines have
pub left_is : (s : State) → line_left s ≡ wire_left s.link.silence (wire s)
unfolding line_left cost wire_left
left_is s = refl

pub cost_is : (l : Link) (len : ℕ) → cost l len ≡ len + l.silence
unfolding cost
cost_is l len = refl

-- the silence still to run, while nothing is in service
pub left_silent : (s : State) → s.to_go ≡ 0 → line_left s ≡ s.silent
unfolding line_left
left_silent s e = cond_is s.silent (cost s.link s.to_go) (eq-eqb s.to_go 0 e)

-- the cost of what is in service, as far as it has not gone: something
pub left_busy : (s : State) → 1 ≤ s.to_go → line_left s ≡ cost s.link s.to_go
unfolding line_left
left_busy s h = cond_is s.silent (cost s.link s.to_go) (ne_eqb s.to_go 0 (λ e. omega arith))

pub left_some : (s : State) → 1 ≤ s.to_go → 1 ≤ line_left s
left_some s h = omega (arith, left_busy s h, cost_pos s.link s.to_go h)

-- at most the cost of what is in service
pub left_below : (s : State) (r : InService s) → line_left s ≤ cost s.link r.it.len
unfolding cost
left_below s r = omega (arith, left_busy s r.some_to_go, r.to_go_le)

pub left_below_notice : (s : State) (r : NoticeInService s) → line_left s ≤ cost s.link r.it.len
unfolding cost
left_below_notice s r = omega (arith, left_busy s r.some_to_go, r.to_go_le)

-- it hangs on the line and the link alone: other packets, connections or a later clock change nothing
pub left_same : (s r : State) → r.to_go ≡ s.to_go → r.silent ≡ s.silent → r.link ≡ s.link → line_left r ≡ line_left s
unfolding line_left
left_same s r e f g = rw (e, f, g) refl
