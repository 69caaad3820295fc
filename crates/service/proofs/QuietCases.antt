-- How many ticks are quiet, in each case that the code tells apart.
use Prim.Native.Nat.{ℕ, zero, suc, ◌+◌, ◌*◌, ◌-◌, ◌≤◌, ◌<◌, min}
use native.Mathlib.Omega.{arith}
use mathlib.Core.Path.{◌≡◌, refl, sym, ap, ◌∙◌}
use mathlib.Core.Bool.{true, false}
use mathlib.Core.List.{List, [], ◌∷◌}
use mathlib.Core.Option.{Option, none, some}
use lib.ListN.{length, get_or, drop}
use lib.Dec.{leb}
use lib.Seq.{drop-length}
use borrow.Author.Tests.{leb-true}
use Rattle.rules.specs.Limits.{clock_end, beyond_32_bits}
use Rattle.rules.specs.declared.Packet.{Packet}
use Rattle.rules.specs.Model.{State}
use Rattle.rules.specs.Admission.{charge_time}
use Rattle.rules.specs.Service.{stand_by, wire}
use Rattle.rules.specs.SoundTest.{sound}
use Rattle.rules.proofs.Tests.{never}
use Rattle.rules.proofs.Figures.{charge_le}
use Rattle.rules.proofs.SoundExact.{exact}
use Rattle.connections.specs.Members.{first_closed}
use Rattle.tables.specs.Places.{rows, row_at}
use Rattle.tables.specs.Options.{option_of}
use Rattle.std.specs.Prelude.{is_some}
use Rattle.tables.proofs.PlacesLaws.{rows_stop, rows_more, rows_from}
use Rattle.line.specs.Quiet.{eligible_from, quiet_for, quiet_line}
use Rattle.line.proofs.QuietLaws.{eligible_from_le, without_link, with_link}
use Rattle.service.specs.Quiet.{least_of_four, Waits, first_starts, charged_for, quiet_ticks}

-- ---- the first eligibility, row by row

-- four eligibilities, as the code reads them
pub least_read : (t : List ℕ) (i : ℕ) {a b r : ℕ} → a ≡ min (get_or t (5 * i + 4) 0) (get_or t (5 * i + 9) 0) → b ≡ min (get_or t (5 * i + 14) 0) (get_or t (5 * i + 19) 0) → r ≡ min a b → r ≡ least_of_four t i
least_read t i e f g =
    let x : 5 * (i + 1) + 4 ≡ 5 * i + 9 = omega arith in
    let y : 5 * (i + 2) + 4 ≡ 5 * i + 14 = omega arith in
    let z : 5 * (i + 3) + 4 ≡ 5 * i + 19 = omega arith in
    rw (g, e, f, x, y, z)

least_of_three : (a b c : ℕ) → min (min a b) c ≡ min a (min b c)
least_of_three a b c = omega arith

least_of_five : (a b c d r : ℕ) → min a (min b (min c (min d r))) ≡ min (min (min a b) (min c d)) r
least_of_five a b c d r = sym (least_of_three (min a b) (min c d) r ∙ least_of_three a b (min (min c d) r) ∙ ap (λ (k : ℕ). min a (min b k)) (least_of_three c d r))

module _ (t : List ℕ) where
  next_row : (i j : ℕ) → i < length (rows t) → j ≡ i + 1 → eligible_from (drop i (rows t)) ≡ min (row_at t i).eligibility (eligible_from (drop j (rows t)))
  next_row i j h e = let k : j ≡ suc i = omega arith in rw k (ap eligible_from (rows_from t i h))

  abbrev e : ℕ → ℕ
  e j = (row_at t j).eligibility

  -- .. and the next four
  next_four : (i : ℕ) → i + 4 ≤ length (rows t) → eligible_from (drop i (rows t)) ≡ min (least_of_four t i) (eligible_from (drop (i + 4) (rows t)))
  next_four i h =
      next_row i (i + 1) (omega arith) refl
      ∙ ap (min (e i)) (next_row (i + 1) (i + 2) (omega arith) (omega arith))
      ∙ ap (λ (k : ℕ). min (e i) (min (e (i + 1)) k)) (next_row (i + 2) (i + 3) (omega arith) (omega arith))
      ∙ ap (λ (k : ℕ). min (e i) (min (e (i + 1)) (min (e (i + 2)) k))) (next_row (i + 3) (i + 4) (omega arith) (omega arith))
      ∙ least_of_five (e i) (e (i + 1)) (e (i + 2)) (e (i + 3)) (eligible_from (drop (i + 4) (rows t)))

  module _ (clock : ℕ) where
    pub waits_none : Waits t clock clock_end 0
    waits_none = omega (arith, eligible_from_le (rows t))

    -- rows are taken in of which x is the least eligibility
    taken_in : (i j first x : ℕ) → eligible_from (drop i (rows t)) ≡ min x (eligible_from (drop j (rows t))) → Waits t clock first i → Waits t clock (min first x) j
    taken_in i j first x e w = ap (λ (k : ℕ). k - clock) (least_of_three first x (eligible_from (drop j (rows t))) ∙ ap (min first) (sym e)) ∙ w

    pub waits_more : (i first : ℕ) → i < length (rows t) → Waits t clock first i → Waits t clock (min first (row_at t i).eligibility) (i + 1)
    waits_more i first h = taken_in i (i + 1) first (row_at t i).eligibility (next_row i (i + 1) h refl)

    pub waits_four : (i first : ℕ) → i + 4 ≤ length (rows t) → Waits t clock first i → Waits t clock (min first (least_of_four t i)) (i + 4)
    waits_four i first h = taken_in i (i + 4) first (least_of_four t i) (next_four i h)

    -- four rows from row 4 * j on, where the code has their least as x and the new one as y
    pub waits_fours : (j first : ℕ) {x y : ℕ} → y ≡ min first x → x ≡ least_of_four t (4 * j) → 4 * (j + 1) ≤ length (rows t) → Waits t clock first (4 * j) → Waits t clock y (4 * (j + 1))
    waits_fours j first e f h w =
        let k : 4 * (j + 1) ≡ 4 * j + 4 = omega arith in
        rw (e, f, k) (waits_four (4 * j) first (omega arith) w)

    -- a row that is eligible: nothing to wait for, whatever stands in the rows behind it
    pub waits_now : (first i k : ℕ) → first ≤ clock → Waits t clock first i → Waits t clock first k
    waits_now first i k l w = omega arith

    -- at the end
    pub waits_all : (first i : ℕ) → first ≤ clock_end → i ≡ length (rows t) → Waits t clock first i → first - clock ≡ eligible_from (rows t) - clock
    waits_all first i l e w =
        let k : eligible_from (drop i (rows t)) ≡ clock_end = rw e (ap eligible_from (drop-length (rows t))) in
        omega arith

-- ---- the first row by itself

module _ (t : List ℕ) (clock : ℕ) where
  pub no_first : get_or t 1 0 ≡ 0 → first_starts (rows t) clock ≡ false
  no_first z = go (rows t) (rows_stop t 0 (omega arith) z)
    where
      go : (ps : List Packet) → 0 ≡ length ps → first_starts ps clock ≡ false
      go [] e = refl
      go (p ∷ ps) e = absurd (omega arith)

  pub first_is : 5 ≤ length t → (get_or t 1 0 ≡ 0 → ⊥) → first_starts (rows t) clock ≡ leb (get_or t 4 0) clock
  first_is l n = ap (λ (ps : List Packet). first_starts ps clock) (rows_from t 0 (rows_more t 0 l n (omega arith)))

-- where it is eligible, there is nothing to wait for
first_now : (ps : List Packet) (clock : ℕ) → first_starts ps clock ≡ true → 0 ≡ eligible_from ps - clock
first_now [] clock e = never e
first_now (p ∷ ps) clock e = omega (arith, leb-true p.eligibility clock e)

-- ---- an idle line without notices

module _ (held : List Packet) (clock : ℕ) where
  -- the first packet starts at once, where it is eligible
  pub packet_waits : (o : Option Packet) → first_starts held clock ≡ true → 0 ≡ quiet_for 0 0 held [] o clock
  packet_waits none e = first_now held clock e
  packet_waits (some p) e = refl

  -- .. and so does one that stands by
  pub stands_by_now : (o : Option Packet) → is_some (option_of o) ≡ true → 0 ≡ quiet_for 0 0 held [] o clock
  stands_by_now none e = never e
  stands_by_now (some p) e = refl

  pub idle_for : (o : Option Packet) → is_some (option_of o) ≡ false → eligible_from held - clock ≡ quiet_for 0 0 held [] o clock
  idle_for none e = refl
  idle_for (some p) e = never (sym e)

-- ---- those that are passed over

module _ (s : State) (ok : sound s ≡ true) (left : ℕ) where
  pub none_without_link : s.link.levels ≡ 0 → 0 ≡ quiet_ticks left s
  unfolding quiet_ticks
  none_without_link = without_link (sound s) s.link.levels _ ok

  module _ (n : s.link.levels ≡ 0 → ⊥) where
    pub clock_in_time : s.clock ≤ clock_end
    clock_in_time = (((exact s).0 ok).with_one n).orderly.clock_le

    pub time_fits : charge_time s.link < beyond_32_bits
    time_fits = omega (arith, charge_le s.link (((exact s).0 ok).with_one n).orderly.link_in)

    pub some_quiet : (k : ℕ) → k ≡ min (min (quiet_line s.clock (stand_by s) (wire s)) (charged_for (first_closed s.pasts s.closed) (charge_time s.link) s.clock)) left → k ≡ quiet_ticks left s
    unfolding quiet_ticks
    some_quiet k e = e ∙ with_link (sound s) s.link.levels _ ok n

-- ---- the charges

pub no_charge : (first time clock : ℕ) → first ≡ 0 → clock_end ≡ charged_for first time clock
no_charge zero time clock e = refl
no_charge (suc f) time clock e = absurd (omega arith)

pub charge_ends : (first time clock k : ℕ) → (first ≡ 0 → ⊥) → k ≡ first + time - 2 - clock → k ≡ charged_for first time clock
charge_ends zero time clock k n e = absurd (n refl)
charge_ends (suc f) time clock k n e = e

-- the smallest of the line's quiet, the clock's rest and the charges', where the code has them as q, m, w and r
pub quiet_parts : (line end charge q m w r left k : ℕ) → q ≡ line → m ≡ min q end → w ≡ charge → r ≡ min w m → k ≡ min r left → k ≡ min (min (min line end) charge) left
quiet_parts line end charge q m w r left k a b d e f = omega arith
