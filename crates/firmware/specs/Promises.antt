-- THE STATEMENTS of the questions, apart from their proofs: each is proved in proofs/Results under the same name in small letters.
use Rattle.std.specs.Prelude.{ℕ, max, ◌≡◌, true, not, ◌↔◌, List, [], ◌∷◌, ◌++◌, map, eqb}
use Rattle.std.proofs.Math.Option.{none}
use Rattle.rules.specs.declared.Link.{Link}
use Rattle.rules.specs.declared.Connection.{Connection}
use Rattle.rules.specs.Words.{filter}
use Rattle.rules.specs.Model.{State, admit, offer, no_short, past, figures}
use Rattle.rules.specs.Admission.{link_within, burst, kind_within}
use Rattle.rules.specs.Service.{nth_before, ticks_after}
use Rattle.rules.specs.SoundState.{Sound}
use Rattle.rules.specs.Calls.{answer}
use Rattle.rules.specs.Promises.{NamesTheLowest, NoLevelFails, by_its_gap}
use Rattle.firmware.specs.Questions.{past_asked, next_asked, link_asked, all_rows, well_asked, short_asked}

-- ---- (a) and the eligibility that the hub gives

-- where the flag says whether a packet was accepted before, and the last eligibility is that packet's: an accepted offer that brings no stamp (document 02, R-9) gets the
-- greater of what is asked and I after the n-th before (document 02, R-6), which of a connection of the first kind without an average is what is asked
abbrev pub SameEligibilityAsAnOffer : Type 0
SameEligibilityAsAnOffer =
    (s : State) (c len tag flag last : ℕ)
    → let x = figures s c in
    let a = answer (offer c len tag none) s in
    let asked = next_asked flag last x.gap s.clock in
    nth_before 1 (past s c) ≡ nth_before 1 (past_asked flag last)
    → a.verdict ≡ 0
    → (a.number ≡ max asked (ticks_after x.window (nth_before (burst x) (past s c)))) × ((x.window ≡ 0) × (x.average ≡ 0) × (x.kind ≡ 0) × (x.allowance ≡ 0) → a.number ≡ asked)

-- ---- (b), by the sums themselves

-- what the answer says, of any bytes
pub record AnsweredByTheSums : Type 0 where
  -- 255 exactly where the question is not well asked: no level has that number
  pub refused_exactly : (lk rows : List ℕ) → (short_asked lk rows).level ≡ 255 ↔ (well_asked (link_asked lk) rows ≡ true → ⊥)
  -- 0 exactly where every condition of every level holds: without windows its sum is at most its bound, with them as R-12 has it
  pub holds_exactly : (lk rows : List ℕ) → well_asked (link_asked lk) rows ≡ true
      → (short_asked lk rows).level ≡ 0 ↔ NoLevelFails (link_asked lk) (all_rows rows)
  -- the units are 0 exactly where no level fails or the question is not well asked (document 02, R-2)
  pub no_units_exactly : (lk rows : List ℕ) → (short_asked lk rows).units ≡ 0 ↔ (well_asked (link_asked lk) rows ≡ true → NoLevelFails (link_asked lk) (all_rows rows))
  -- else the level is the lowest that fails, and the units are those by which the first of its conditions that fails is over
  pub names_the_lowest : (lk rows : List ℕ) → well_asked (link_asked lk) rows ≡ true → ((short_asked lk rows).level ≡ 0 → ⊥)
      → NamesTheLowest (link_asked lk) (all_rows rows) (short_asked lk rows)
  -- a good `LK` or `LW` and no rows: nothing is short
  pub no_rows_hold : (lk : List ℕ) → link_within (link_asked lk) ≡ true → short_asked lk [] ≡ no_short

-- ---- (b) is the question that an admission asks

-- a link with the stand-by queue off, whatever its setting (document 02, R-11)
abbrev pub with_queue_off : Link → Link
with_queue_off l = record { levels = l.levels; largest = l.largest; silence = l.silence; early = 0; bounds = l.bounds; windows = l.windows }

-- asked with the hub's link, without windows as its `LK`, with windows as an `LW` with any setting (document 02, R-12), and as rows, each as regulated by its gap, whatever
-- its kind: the connections that have an owner, by number, those that stand and those that are closed and still charged (document 02, R-8), and a newcomer with what its kind
-- asks (document 02, R-9). A level is named exactly where the newcomer's admission gets 8, and level and units are those of its answer
abbrev pub SameTestAsAnAdmission : Type 0
SameTestAsAnAdmission =
    (lk rows : List ℕ) (s : State) (x : Connection)
    → Sound s
    → kind_within x ≡ true
    → with_queue_off (link_asked lk) ≡ with_queue_off s.link
    → all_rows rows ≡ map by_its_gap (filter (λ y. not (eqb y.level 0)) s.connections ++ x ∷ [])
    → well_asked (link_asked lk) rows ≡ true
    → ((answer (admit x) s).verdict ≡ 8 ↔ ((short_asked lk rows).level ≡ 0 → ⊥))
    × ((answer (admit x) s).short ≡ short_asked lk rows)
