-- THE PROOFS of the statements in specs/Promises, each under its name in small letters.
use Prim.Native.Nat.{ℕ, zero, suc, ◌+◌, ◌/◌, ◌≤◌, ◌<◌, max}
use native.Mathlib.Omega.{arith}
use mathlib.Core.Path.{◌≡◌, refl, sym, ap, ◌∙◌, subst}
use mathlib.Core.Bool.{Bool, true, false, not, ◌&&◌, ◌||◌}
use mathlib.Core.Logic.{◌⊎◌, inl, inr, ◌↔◌}
use mathlib.Core.List.{List, [], ◌∷◌, ◌++◌, map}
use mathlib.Core.Option.{none}
use lib.Dec.{eqb, leb}
use lib.ListN.{length, length-append}
use lib.Seq.{get_or-append_seam}
use borrow.Author.Tests.{le-leb, lt-leb, leb-true, eqb-true, eqb-false, eq-eqb, ne_eqb}
use Rattle.rules.specs.declared.Link.{Link}
use Rattle.rules.specs.declared.Connection.{Connection}
use Rattle.rules.specs.Words.{All}
use Rattle.rules.specs.Limits.{max_connections, max_allowance}
use Rattle.rules.specs.declared.Short.{Short}
use Rattle.rules.specs.Model.{Past, State, admit, offer, no_short, Answer, no_connection, nth, past, figures}
use Rattle.rules.specs.Admission.{cost, windowed, link_within, level_within, burst, average_within, kind_within, figures_within, free_number, joining, window, conditions, limit_at, level_sum, excess_from, excess, short_from, level_test, passes}
use Rattle.rules.specs.Service.{nth_before, ticks_after, next_eligibility}
use Rattle.rules.specs.SoundState.{Orderly, Sound}
use Rattle.rules.specs.SoundTest.{sound}
use Rattle.rules.specs.Calls.{verdicts, verdict, answer}
use Rattle.rules.specs.Promises.{NamesTheLowest, NoLevelFails, by_its_gap}
use Rattle.rules.specs.WithoutAverage.{base_figures_within}
use Rattle.rules.proofs.Sums.{same}
use Rattle.rules.proofs.Lists.{all_from}
use Rattle.rules.proofs.Tests.{never_number, and_true, every_true, not_true_false}
use Rattle.rules.proofs.Rows.{length_map, map_append}
use Rattle.rules.proofs.Standing.{level_free}
use Rattle.rules.proofs.Verdicts.{settled}
use Rattle.rules.proofs.Figures.{link_facts, burst_none}
use Rattle.rules.proofs.Spacing.{earliest_is, next_is}
use Rattle.rules.proofs.SoundExact.{exact}
use Rattle.rules.proofs.Results.{answer_verdict, level_test_tells, short_is_told, first_kind, second_kind, level_test_counts_alike}
use Rattle.firmware.specs.Questions.{past_asked, next_asked, link_asked, row_asked, all_rows, well_asked, short_asked}
use Rattle.firmware.specs.Promises.{SameEligibilityAsAnOffer, AnsweredByTheSums, with_queue_off, SameTestAsAnAdmission}
use Rattle.firmware.proofs.AskedLaws.{row_ok, length_first, nth_first, Asked, asked, refuses, answers, is_level}
use Rattle.firmware.proofs.FreeLaws.{owners, Blank, test_owners, owners_room}

-- ---- (a)

-- now, or the gap after the packet before
asked_is : (flag last gap now : ℕ) → next_asked flag last gap now ≡ max now (ticks_after gap (nth_before 1 (past_asked flag last)))
unfolding next_asked
asked_is flag last gap now =
    let x : Connection = record { level = 0; gap = gap; size = 0; window = 0; average = 0; kind = 0; allowance = 0 } in
    let h : Past = past_asked flag last in
    omega (arith, next_is x h now, earliest_is x h, ap (λ (n : ℕ). ticks_after 0 (nth_before n h)) (burst_none x refl))

-- of what is remembered only the packet before counts for the gap
same_next : (x : Connection) (h : Past) (flag last now : ℕ) → nth_before 1 h ≡ nth_before 1 (past_asked flag last)
    → next_eligibility x h now ≡ max (next_asked flag last x.gap now) (ticks_after x.window (nth_before (burst x) h))
same_next x h flag last now e =
    omega (arith, next_is x h now, earliest_is x h, asked_is flag last x.gap now, ap (ticks_after x.gap) e)

greater : (s : State) (c len tag flag last : ℕ) → nth_before 1 (past s c) ≡ nth_before 1 (past_asked flag last)
    → (answer (offer c len tag none) s).verdict ≡ 0
    → (answer (offer c len tag none) s).number
    ≡ max (next_asked flag last (figures s c).gap s.clock) (ticks_after (figures s c).window (nth_before (burst (figures s c)) (past s c)))
greater s c len tag flag last e =
    settled
    (λ (a : Answer). a.verdict ≡ 0 → a.number ≡ max (next_asked flag last (figures s c).gap s.clock) (ticks_after (figures s c).window (nth_before (burst (figures s c)) (past s c))))
    (offer c len tag none) s (verdict (offer c len tag none) s)
    (λ _ _. same_next (figures s c) (past s c) flag last s.clock e)
    (λ w z. absurd (omega (arith, z)))

pub same_eligibility_as_an_offer : SameEligibilityAsAnOffer
same_eligibility_as_an_offer s c len tag flag last e v =
    let g = greater s c len tag flag last e v in (
      g,
      λ p. omega (arith, g, ap (λ (n : ℕ). ticks_after (figures s c).window (nth_before n (past s c))) (burst_none (figures s c) p.0)),
    )

-- ---- (b)

module _ (lk rows : List ℕ) (e : well_asked (link_asked lk) rows ≡ true) where
  -- what the rules say of the level test, said of the answer
  tells : ((short_asked lk rows).level ≡ 0 ↔ NoLevelFails (link_asked lk) (all_rows rows))
      × ((short_asked lk rows).units ≡ 0 ↔ NoLevelFails (link_asked lk) (all_rows rows))
      × (((short_asked lk rows).level ≡ 0 → ⊥) → NamesTheLowest (link_asked lk) (all_rows rows) (short_asked lk rows))
  tells =
      subst
      (λ (t : Short). (t.level ≡ 0 ↔ NoLevelFails (link_asked lk) (all_rows rows))
      × (t.units ≡ 0 ↔ NoLevelFails (link_asked lk) (all_rows rows))
      × ((t.level ≡ 0 → ⊥) → NamesTheLowest (link_asked lk) (all_rows rows) t))
      (sym (answers lk rows e)) (level_test_tells (link_asked lk) (all_rows rows))

no_units : (lk rows : List ℕ) → (well_asked (link_asked lk) rows ≡ true → NoLevelFails (link_asked lk) (all_rows rows)) → (short_asked lk rows).units ≡ 0
no_units lk rows = go (well_asked (link_asked lk) rows) refl
  where
    go : (b : Bool) → well_asked (link_asked lk) rows ≡ b
        → (well_asked (link_asked lk) rows ≡ true → NoLevelFails (link_asked lk) (all_rows rows))
        → (short_asked lk rows).units ≡ 0
    go true e h = (tells lk rows e).1.1 (h e)
    go false e h = ap (λ (t : Short). t.units) (refuses lk rows e)

-- without rows a sum is what S costs the line, and no bound is below that, nor a window
none_short : (l : Link) → link_within l ≡ true → NoLevelFails l []
unfolding level_sum
none_short l e m p q zero h = omega (arith, (link_facts l e).largest_le m p q, ((link_facts l e).window_in m p q).0)
none_short l e m p q (suc β) h = omega (arith, (link_facts l e).largest_le m p q)

bare : (l : Link) → link_within l ≡ true → well_asked l [] ≡ true
unfolding well_asked
bare l e = rw e

no_rows : (lk : List ℕ) → link_within (link_asked lk) ≡ true → short_asked lk [] ≡ no_short
no_rows lk e =
    let t = tells lk [] (bare (link_asked lk) e) in
    rw (t.0.1 (none_short (link_asked lk) e), t.1.1 (none_short (link_asked lk) e))

pub answered_by_the_sums : AnsweredByTheSums
answered_by_the_sums =
    record {
      refused_exactly = λ lk rows. (
        λ z w. omega (arith, z, is_level lk rows w),
        λ n. ap (λ (t : Short). t.level) (refuses lk rows (not_true_false (well_asked (link_asked lk) rows) n)),
      );
      holds_exactly = λ lk rows e. (tells lk rows e).0;
      no_units_exactly = λ lk rows. (λ u e. (tells lk rows e).1.0 u, no_units lk rows);
      names_the_lowest = λ lk rows e n. (tells lk rows e).2 n;
      no_rows_hold = no_rows;
    }

-- ---- the same question as an admission's

-- verdict 8 is given where its test holds and none before it
eight : (s : State) (x : Connection) → sound s ≡ true → (s.link.levels ≡ 0 → ⊥)
    → level_within s.link x ≡ true → figures_within s.link x ≡ true → free_number s.connections < max_connections
    → passes s.link (joining s.connections x) ≡ false → verdict (admit x) s ≡ 8
unfolding verdicts
eight s x ok n v f h e = rw (ok, ne_eqb s.link.levels 0 n, v, f, lt-leb max_connections (free_number s.connections) h, e)

not_eight : (s : State) (x : Connection) → passes s.link (joining s.connections x) ≡ true → verdict (admit x) s ≡ 8 → ⊥
unfolding verdicts
not_eight s x p =
    never_number 8 (verdicts (admit x) s)
    (other 1 refl, (other 2 refl, (other 5 refl, (other 6 refl, (other 7 refl, (λ _. ap not p, (other 9 refl, tt)))))))
    (omega arith)
  where
    other : {A : Type 0} (n : ℕ) → eqb n 8 ≡ false → n ≡ 8 → A
    other n e i = absurd (eqb-false n 8 e i)

-- of the first kind, with no allowance, or of the second, with an allowance up to its limit and no average
abbrev OfAKind : Connection → Type 0
OfAKind x = ((x.kind ≡ 0) × (x.allowance ≡ 0)) ⊎ ((x.kind ≡ 1) × (x.window ≡ 0) × (x.average ≡ 0) × (x.allowance ≤ max_allowance))

of_a_kind : (x : Connection) → kind_within x ≡ true → OfAKind x
of_a_kind x = go (eqb x.kind 0 && (eqb x.allowance 0 && average_within x)) refl
  where
    go : (b : Bool) → (eqb x.kind 0 && (eqb x.allowance 0 && average_within x)) ≡ b
        → (b || (eqb x.kind 1 && (leb x.allowance max_allowance && (eqb x.window 0 && eqb x.average 0)))) ≡ true
        → OfAKind x
    go true e h =
        let a = and_true (eqb x.kind 0) _ e in
        inl (eqb-true _ 0 a.0, eqb-true _ 0 (and_true (eqb x.allowance 0) _ a.1).0)
    go false e h =
        let a = and_true (eqb x.kind 1) _ h in
        let b = and_true (leb x.allowance max_allowance) _ a.1 in
        let d = and_true (eqb x.window 0) _ b.1 in
        inr (eqb-true _ 1 a.0, eqb-true _ 0 d.0, eqb-true _ 0 d.1, leb-true _ max_allowance b.0)

-- one of the first kind is its own row
itself : (x : Connection) → x.kind ≡ 0 → x.allowance ≡ 0 → by_its_gap x ≡ x
itself x k a =
    ap (λ (n : ℕ). record { level = x.level; gap = x.gap; size = x.size; window = x.window; average = x.average; kind = n; allowance = 0 }) (sym k)
    ∙ ap (λ (n : ℕ). record { level = x.level; gap = x.gap; size = x.size; window = x.window; average = x.average; kind = x.kind; allowance = n }) (sym a)

-- one whose row is within the limits of figures is within them itself
figures_by_row : (l : Link) (x : Connection) → OfAKind x → figures_within l (by_its_gap x) ≡ true → figures_within l x ≡ true
figures_by_row l x (inl (k, a)) e = subst (λ (y : Connection). figures_within l y ≡ true) (itself x k a) e
figures_by_row l x (inr (k, w, v, a)) e =
    let b = (and_true (base_figures_within l x) _ (sym ((first_kind (by_its_gap x) refl refl).0 l) ∙ e)).0 in
    (second_kind x (k, w, v)).0 l ∙ rw (b, le-leb x.allowance max_allowance a) refl

-- the level test does not look at the setting
conditions_off : (l : Link) (m : ℕ) → conditions (with_queue_off l) m ≡ conditions l m
unfolding conditions window windowed
conditions_off l zero = refl
conditions_off l (suc m) = refl

limit_off : (l : Link) (m i : ℕ) → limit_at (with_queue_off l) m i ≡ limit_at l m i
unfolding window windowed
limit_off l zero zero = refl
limit_off l zero (suc β) = refl
limit_off l (suc m) zero = refl
limit_off l (suc m) (suc β) = refl

sum_off : (l : Link) (cs : List Connection) (m i : ℕ) → level_sum (with_queue_off l) cs m i ≡ level_sum l cs m i
unfolding level_sum cost window windowed
sum_off l cs zero zero = refl
sum_off l cs zero (suc β) = refl
sum_off l cs (suc m) zero = refl
sum_off l cs (suc m) (suc β) = refl

excess_from_off : (l : Link) (cs : List Connection) (m i n : ℕ) → excess_from (with_queue_off l) cs m i n ≡ excess_from l cs m i n
excess_from_off l cs m i zero = refl
excess_from_off l cs m i (suc n) = rw (sum_off l cs m i, limit_off l m i, excess_from_off l cs m (suc i) n)

excess_off : (l : Link) (cs : List Connection) (m : ℕ) → excess (with_queue_off l) cs m ≡ excess l cs m
unfolding excess
excess_off l cs m = rw (conditions_off l m) (excess_from_off l cs m 0 (conditions l m))

short_off : (l : Link) (cs : List Connection) (m n : ℕ) → short_from (with_queue_off l) cs m n ≡ short_from l cs m n
short_off l cs m zero = refl
short_off l cs m (suc n) = rw (excess_off l cs m, short_off l cs (suc m) n)

test_off : (l : Link) (cs : List Connection) → level_test (with_queue_off l) cs ≡ level_test l cs
unfolding level_test
test_off l cs = short_off l cs 1 l.levels

module _ (lk rows : List ℕ) (s : State) (x : Connection) (S : Sound s) (K : OfAKind x) (same_link : with_queue_off (link_asked lk) ≡ with_queue_off s.link)
    (same_rows : all_rows rows ≡ map by_its_gap (owners s.connections ++ x ∷ [])) (e : well_asked (link_asked lk) rows ≡ true) where
  question : Asked (link_asked lk) rows
  question = asked (link_asked lk) rows e

  -- the newcomer is the last row
  count : length (owners s.connections) + 1 ≡ (length rows / 9)
  count =
      sym (length-append (owners s.connections) (x ∷ []))
      ∙ sym (length_map by_its_gap (owners s.connections ++ x ∷ []))
      ∙ ap (λ (cs : List Connection). length cs) (sym same_rows)
      ∙ length_first rows ((length rows / 9))

  newcomer : row_asked rows (length (owners s.connections)) ≡ by_its_gap x
  newcomer =
      sym (nth_first rows ((length rows / 9)) (length (owners s.connections)) (omega (arith, count)))
      ∙ ap (λ (cs : List Connection). nth cs (length (owners s.connections))) (same_rows ∙ map_append by_its_gap (owners s.connections) (x ∷ []))
      ∙ ap (nth (map by_its_gap (owners s.connections) ++ by_its_gap x ∷ [])) (sym (length_map by_its_gap (owners s.connections)))
      ∙ get_or-append_seam (map by_its_gap (owners s.connections)) (by_its_gap x) [] no_connection

  newcomer_in : (level_within s.link x ≡ true) × (figures_within s.link x ≡ true)
  unfolding level_within figures_within
  newcomer_in =
      let r = every_true ((length rows / 9)) (row_ok (link_asked lk) rows) question.rows_in (length (owners s.connections)) (omega (arith, count)) in
      let b =
      and_true (level_within s.link (by_its_gap x)) (figures_within s.link (by_its_gap x))
      (subst (λ (l : Link). (level_within l (by_its_gap x) && figures_within l (by_its_gap x)) ≡ true) same_link
      (subst (λ (y : Connection). (level_within (link_asked lk) y && figures_within (link_asked lk) y) ≡ true) newcomer r)) in
      (b.0, figures_by_row s.link x K b.1)

  -- there is a link, and fewer owners than numbers
  linked : s.link.levels ≡ 0 → ⊥
  linked z = omega (arith, z, ap (λ (l : Link). l.levels) same_link, (link_facts (link_asked lk) question.link_in).some_level)

  rules_kept : Orderly s
  rules_kept = (S.with_one linked).orderly

  room : free_number s.connections < length s.connections
  room = owners_room s.connections (omega (arith, count, question.few, rules_kept.numbers))

  blanks : All Blank s.connections
  blanks =
      all_from Blank s.connections no_connection
      (λ c h z. (rules_kept.free_blank c (omega (arith, rules_kept.numbers)) (level_free s.connections c z)).0)

  -- the two tests are one
  same_test : short_asked lk rows ≡ level_test s.link (joining s.connections x)
  same_test =
      let cs = map by_its_gap (owners s.connections ++ x ∷ []) in
      answers lk rows e
      ∙ ap (λ (ys : List Connection). level_test (link_asked lk) ys) same_rows
      ∙ sym (test_off (link_asked lk) cs)
      ∙ ap (λ (l : Link). level_test l cs) same_link
      ∙ test_off s.link cs
      ∙ sym (level_test_counts_alike s.link (owners s.connections ++ x ∷ []))
      ∙ test_owners s.link s.connections x blanks room

  passed : (short_asked lk rows).level ≡ 0 → passes s.link (joining s.connections x) ≡ true
  passed z = eq-eqb _ 0 (ap (λ (t : Short). t.level) (sym same_test) ∙ z)

  fails : ((short_asked lk rows).level ≡ 0 → ⊥) → passes s.link (joining s.connections x) ≡ false
  fails n = ne_eqb _ 0 (λ z. n (ap (λ (t : Short). t.level) same_test ∙ z))

  -- a failing test is named 8
  gets_eight : ((short_asked lk rows).level ≡ 0 → ⊥) → verdict (admit x) s ≡ 8
  gets_eight n = eight s x ((exact s).1 S) linked newcomer_in.0 newcomer_in.1 (omega (arith, room, rules_kept.numbers)) (fails n)

  eight_if : (answer (admit x) s).verdict ≡ 8 ↔ ((short_asked lk rows).level ≡ 0 → ⊥)
  eight_if = (λ v z. not_eight s x (passed z) (sym (answer_verdict (admit x) s) ∙ v), λ n. answer_verdict (admit x) s ∙ gets_eight n)

  nothing_told : (short_asked lk rows).level ≡ 0 → no_short ≡ short_asked lk rows
  nothing_told z = let u = (tells lk rows e).1.1 ((tells lk rows e).0.0 z) in sym (rw (z, u))

  same_short : ((short_asked lk rows).level ≡ 0) ⊎ ((short_asked lk rows).level ≡ 0 → ⊥) → (answer (admit x) s).short ≡ short_asked lk rows
  same_short (inl z) = (short_is_told (admit x) s).0 (λ v. eight_if.0 v z) ∙ nothing_told z
  same_short (inr n) = ((short_is_told (admit x) s).1 x refl (eight_if.1 n)).0 ∙ sym same_test

pub same_test_as_an_admission : SameTestAsAnAdmission
same_test_as_an_admission lk rows s x S w l r e =
    let k = of_a_kind x w in
    (eight_if lk rows s x S k l r e, same_short lk rows s x S k l r e (same (short_asked lk rows).level 0))
