-- Every number of an answer fits its field.
use Prim.Native.Nat.{ℕ, zero, suc, ◌+◌, ◌*◌, ◌≤◌, ◌<◌}
use native.Mathlib.Omega.{arith}
use mathlib.Core.Path.{◌≡◌, refl, ap, ◌∙◌, subst}
use mathlib.Core.Bool.{Bool, true, false, cond}
use mathlib.Core.List.{List, [], ◌∷◌}
use mathlib.Core.Option.{Option, none, some}
use mathlib.Core.Logic.{◌⊎◌, inl, inr, ⊎_elim}
use lib.Dec.{eqb}
use Rattle.rules.specs.Words.{first_number}
use Rattle.rules.specs.Limits.{max_largest, max_silence, max_bound, clock_end, beyond_32_bits, notice_number}
use Rattle.rules.specs.Model.{Connection, Packet, Notice, State, Call, link, admit, offer, notice, close, tick, Short, no_short, Answer, past, figures, notice_packet, first_notice}
use Rattle.rules.specs.Admission.{joining, level_test}
use Rattle.rules.specs.Service.{untimely_by, first, ticked}
use Rattle.rules.proofs.HubTick.{started_state, tick_answer, packet_departs, notice_departs, after_unit}
use Rattle.rules.specs.SoundState.{Fits, Dated, Waits, Orderly, Sound}
use Rattle.rules.specs.Calls.{causes, verdicts, verdict, eligibility_now, done, refused_number, refused_short, settle, answer}
use Rattle.rules.proofs.Doings.{refused}
use Rattle.rules.specs.Promises.{FirstExcess, NamesTheLowest, AnswerFits}
use Rattle.rules.proofs.Doings.{PacketFits}
use Rattle.rules.proofs.Doings.{number_limit}
use Rattle.rules.proofs.Lists.{All, all_map, all_zip}
use Rattle.rules.proofs.Rows.{none_some, some_inj, first_all}
use Rattle.rules.proofs.Notices.{first_notice_is}
use Rattle.rules.proofs.Standing.{owned_below}
use Rattle.rules.proofs.Verdicts.{causes_from_2, admit_done, offer_done, ShortRefused, short_refused, tick_done}
use Rattle.rules.proofs.Stamps.{in_time_of}
use Rattle.rules.proofs.Line.{tick_leaves}
use Rattle.rules.proofs.Invariant.{clock_le_end}
use Rattle.rules.proofs.Figures.{link_facts}
use Rattle.rules.proofs.Shortage.{own_term, names, excess_le, term_le}
use Rattle.rules.proofs.SoundExact.{exact}
use Rattle.rules.proofs.Sums.{cond_ind}
use borrow.Author.Tests.{eqb-true, eqb-false}
use Rattle.rules.proofs.Bounds.{eligibilities_fit_32}

-- the number of a table's row, or 0
number_le : (n : ℕ) (rs : List (ℕ × Bool)) → All (λ r. r.0 ≤ n) rs → first_number rs ≤ n
number_le n [] h = omega arith
number_le n (r ∷ rs) h = go r.1 (number_le n rs h.1)
  where
    go : (b : Bool) → first_number rs ≤ n → cond b r.0 (first_number rs) ≤ n
    go true k = h.0
    go false k = k

-- ---- what a unit says

-- no refusal, no number, nothing short, and a packet only if it is held or the first notice
record UnitSays (s : State) (a : Answer) : Type 0 where
  no_refusal : a.verdict ≡ 0
  no_number : a.number ≡ 0
  nothing_short : a.short ≡ no_short
  sends_off : (p : Packet) → a.departed ≡ some p → (first s.serving s.held ≡ some p) ⊎ ((n : Notice) × (first_notice s.notices ≡ some n) × (notice_packet n ≡ p))

says_nothing : (s : State) (r : State) → UnitSays s (tick_answer none r)
says_nothing s r = record { no_refusal = refl; no_number = refl; nothing_short = refl; sends_off = λ p e. absurd (none_some e) }

unit_says : (s : State) (u : ℕ) → UnitSays s (after_unit s u)
unit_says s zero = says_nothing s _
unit_says s (suc zero) = go (eqb s.serving notice_number) s.notices refl
  where
    go : (b : Bool) (ns : List Notice) → s.notices ≡ ns → UnitSays s (cond b (notice_departs s ns) (packet_departs s))
    go true [] i = says_nothing s _
    go true (n ∷ ns) i = record { no_refusal = refl; no_number = refl; nothing_short = refl; sends_off = λ p e. inr (n, ap first_notice i, some_inj e) }
    go false ns i = record { no_refusal = refl; no_number = refl; nothing_short = refl; sends_off = λ p e. inl e }
unit_says s (suc (suc u)) = says_nothing s _

pub unit_done : (s : State) (u : ℕ) → (after_unit s u).verdict ≡ 0
unit_done s u = (unit_says s u).no_refusal

pub unit_short : (s : State) (u : ℕ) → (after_unit s u).short ≡ no_short
unit_short s u = (unit_says s u).nothing_short

-- the units of an admission that is refused with 8 are no more than the newcomer's term, since without it every level holds
pub short_fits : (x : Connection) (s : State) → ShortRefused s x → (t : Short) → NamesTheLowest s.link (joining s.connections x) t
    → ((F : FirstExcess s.link (joining s.connections x) t.level t.units) → t.units ≤ own_term s.link x t.level F.which)
    × (t.units ≤ max_bound * (max_largest + max_silence))
short_fits x s R t N =
    let S = (((exact s).0 R.sound_state).with_one R.set).orderly in
    let a = N.is_level in
    let own : (F : FirstExcess s.link (joining s.connections x) t.level t.units) → t.units ≤ own_term s.link x t.level F.which
    = λ F. omega (arith, F.units_are, excess_le s.link s.connections x (omega (arith, S.numbers, R.free)) t.level F.which (S.tested t.level a.0 a.1 F.which F.is_condition)) in
    let b = term_le s.link x t.level N.first_excess.which S.link_in R.figures_in a.0 a.1 N.first_excess.is_condition in
    (own, omega (arith, own N.first_excess))

verdict_le : (k : Call) (s : State) → verdict k s ≤ 18
unfolding verdicts
verdict_le k s = number_le 18 (verdicts k s) (omega arith, all_map {P = λ r. (2 ≤ r.0) × (r.0 ≤ 18)} {Q = λ r. r.0 ≤ 18} (λ r n. n.1) (causes k s) (causes_from_2 k s))

-- a held packet's numbers
held_fit : (s : State) (S : Sound s) (T : Orderly s) → All PacketFits s.held
held_fit s S T = all_zip (λ p f e. e f) s.held T.fit (all_zip one s.held T.dated (eligibilities_fit_32 s S).0)
  where
    one : (p : Packet) → Dated s.clock p → p.eligibility < beyond_32_bits → Fits s.connections p → PacketFits p
    one p d e f = (omega (arith, owned_below s.connections p.connection f.owner, T.numbers), omega (arith, d.arrived, T.clock_le), e)

notice_fits : (s : State) (T : Orderly s) (n : Notice) → first_notice s.notices ≡ some n → PacketFits (notice_packet n)
notice_fits s T n e =
    let k = first_notice_is s.notices n e in
    let f = (subst (All (Waits s.link.largest s.clock)) k.1 T.line.notices_fit).0 in
    (omega arith, omega (arith, f.arrived, T.clock_le), omega (arith, f.arrived, T.clock_le))

-- the numbers of an answer to k
abbrev FitsFor : Call → Answer → Type 0
FitsFor k a = AnswerFits (refused_number k) a a.next.clock

ticked_fits : (s : State) → Sound s → Orderly s → s.clock < clock_end → FitsFor tick (done tick s)
ticked_fits s S T r = record {
  verdict = omega (arith, says.no_refusal);
  number = omega (arith, says.no_number);
  level = omega (arith, ap (λ (t : Short). t.level) says.nothing_short);
  units = omega (arith, ap (λ (t : Short). t.units) says.nothing_short);
  departed = λ p e.
      ⊎_elim
      (λ f. first_all (started_state s).serving PacketFits s.held p f (held_fit s S T))
      (λ n. subst PacketFits n.2 (notice_fits s T n.0 n.1))
      (says.sends_off p e);
  finish = omega (arith, (tick_leaves s).clock);
}
  where
    says : UnitSays (started_state s) (ticked s)
    says = unit_says (started_state s) (started_state s).to_go

done_fits : (k : Call) (s : State) → Sound s → verdict k s ≡ 0 → FitsFor k (done k s)
done_fits (link l) s S e = record { verdict = omega arith; number = omega arith; level = omega arith; units = omega arith; departed = λ p i. absurd (none_some i); finish = omega (arith, clock_le_end s S) }
done_fits (admit x) s S e = record { verdict = omega arith; number = omega (arith, (admit_done s x e).free); level = omega arith; units = omega arith; departed = λ p i. absurd (none_some i); finish = omega (arith, clock_le_end s S) }
done_fits (offer c len tag st) s S e =
    record { verdict = omega arith; number = in_32 st (offer_done s c len tag st e).in_time; level = omega arith; units = omega arith; departed = λ p i. absurd (none_some i); finish = omega (arith, clock_le_end s S) }
  where
    in_32 : (st : Option ℕ) → untimely_by (figures s c) (past s c) s.clock st ≡ false → eligibility_now s c st < beyond_32_bits
    in_32 none u = ((eligibilities_fit_32 s S).1 c).1
    in_32 (some stamp) u = ((eligibilities_fit_32 s S).1 c).2 stamp (in_time_of (figures s c) (past s c) s.clock stamp u).not_later
done_fits (notice len tag) s S e =
    record { verdict = omega arith; number = omega (arith, clock_le_end s S); level = omega arith; units = omega arith; departed = λ p i. absurd (none_some i); finish = omega (arith, clock_le_end s S) }
done_fits (close c) s S e =
    record { verdict = omega arith; number = omega arith; level = omega arith; units = omega arith; departed = λ p i. absurd (none_some i); finish = omega (arith, clock_le_end s S) }
done_fits tick s S e = let d = tick_done s e in ticked_fits s S (S.with_one d.set).orderly d.running

-- level and units in their fields
abbrev SmallShort : Short → Type 0
SmallShort t = (t.level < 256) × (t.units < beyond_32_bits)

refused_small : (k : Call) (s : State) (v : ℕ) → verdict k s ≡ v → SmallShort (refused_short k s v)
refused_small (link l) s v e = (omega arith, omega arith)
refused_small (admit x) s v e = cond_ind SmallShort (eqb v 8) (λ i. eight (e ∙ eqb-true v 8 i)) (λ _. (omega arith, omega arith))
  where
    eight : verdict (admit x) s ≡ 8 → SmallShort (level_test s.link (joining s.connections x))
    eight i =
        let R = short_refused s x i in
        let N = names s.link (joining s.connections x) (eqb-false _ 0 R.fails) in
        let S = (((exact s).0 R.sound_state).with_one R.set).orderly in
        (omega (arith, N.is_level.1, (link_facts s.link S.link_in).few_levels), omega (arith, (short_fits x s R _ N).1))
refused_small (offer c len tag st) s v e = (omega arith, omega arith)
refused_small (notice len tag) s v e = (omega arith, omega arith)
refused_small (close c) s v e = (omega arith, omega arith)
refused_small tick s v e = (omega arith, omega arith)

refused_fits : (k : Call) (s : State) (v : ℕ) → Sound s → v < 256 → SmallShort (refused_short k s v) → FitsFor k (refused k s v)
refused_fits k s v S l t = record { verdict = l; number = small k; level = t.0; units = t.1; departed = λ p i. absurd (none_some i); finish = omega (arith, clock_le_end s S) }
  where
    small : (k : Call) → refused_number k < number_limit (refused_number k)
    small (link l) = omega arith
    small (admit x) = omega arith
    small (offer c len tag st) = omega arith
    small (notice len tag) = omega arith
    small (close c) = omega arith
    small tick = omega arith

pub answer_fits : (k : Call) (s : State) → Sound s → FitsFor k (answer k s)
answer_fits k s S = go (verdict k s) refl
  where
    go : (v : ℕ) → verdict k s ≡ v → FitsFor k (settle k s v)
    go zero e = done_fits k s S e
    go (suc v) e = refused_fits k s (suc v) S (omega (arith, verdict_le k s)) (refused_small k s (suc v) e)
