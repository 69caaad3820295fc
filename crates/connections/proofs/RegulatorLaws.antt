-- Laws of a connection by value: its n-th eligibility before, its next one, and what it remembers with one more.
use Prim.Native.Nat.{ℕ, zero, suc, ◌+◌, ◌-◌, ◌/◌, ◌≤◌, ◌<◌, min, max}
use native.Mathlib.Omega.{arith}
use mathlib.Core.Path.{◌≡◌, refl, sym, ap, ◌∙◌, subst}
use mathlib.Core.Bool.{Bool, true, false}
use mathlib.Core.List.{List, [], ◌∷◌, ◌++◌}
use mathlib.Core.Option.{none, some}
use lib.Dec.{eqb}
use lib.ListN.{length, get_or, get_elem?, set, take, drop, replicate, length-append, length-take, length-drop, length-replicate, drop_of_length-le}
use lib.Seq.{take-nil, take_all, take-append-le, drop-cons, drop-drop, length-take-le, get_or-take, get_or-drop}
use borrow.Author.Tests.{eq-eqb, ne_eqb}
use Rattle.rules.specs.Limits.{max_connections, max_remembered}
use Rattle.rules.specs.declared.Link.{Link}
use Rattle.rules.specs.declared.Connection.{Connection}
use Rattle.rules.specs.Model.{Past, nth, no_past}
use Rattle.rules.specs.Admission.{burst, owned}
use Rattle.rules.specs.Service.{nth_before, ticks_after, earliest, next_eligibility, remember}
use Rattle.rules.specs.WithoutAverage.{base_eligibility}
use Rattle.rules.proofs.WithoutAverage.{as_before}
use Rattle.rules.proofs.Spacing.{earliest_is, next_is}
use Rattle.rules.proofs.Figures.{burst_none}
use Rattle.rules.proofs.Sums.{cond_is}
use Rattle.rules.proofs.Tests.{and_true, and_intro}
use Rattle.limits.specs.Zeros.{zeros}
use Rattle.limits.proofs.ZeroLaws.{zeros_parts, zeros_rep, drop_zeros}
use Rattle.tables.specs.Table.{numbers}
use Rattle.tables.proofs.TableLaws.{numbers_again}
use Rattle.connections.specs.declared.Member.{Member}
use Rattle.connections.specs.Members.{connections_in, pasts_in, closed_in, member_in, member_formed, rows_formed}
use Rattle.connections.specs.Rows.{connection_of, past_of, closed_of, member}
use Rattle.connections.specs.Within.{Within, gap_only, last_only}
use Rattle.connections.proofs.FigureLaws.{burst_is, figure_limits}
use Rattle.connections.proofs.MemberLaws.{connection_is, past_is, closed_is}
use Rattle.connections.proofs.WrittenLaws.{formed_parts, mark_back, member_formed_at}

-- ---- the n-th before

pub at_some : (l : List ℕ) (i : ℕ) → i < length l → get_elem? l i ≡ some (get_or l i 0)
at_some [] i h = absurd (omega arith)
at_some (x ∷ l) zero h = refl
at_some (x ∷ l) (suc i) h = at_some l i (omega arith)

pub at_none : (l : List ℕ) (i : ℕ) → length l ≤ i → get_elem? l i ≡ none
at_none [] zero h = refl
at_none [] (suc i) h = refl
at_none (x ∷ l) zero h = absurd (omega arith)
at_none (x ∷ l) (suc i) h = at_none l i (omega arith)

module _ (m : Member) (k n x : ℕ) where
  rest_length : length (drop k (past_of m)) ≡ min m.known (length m.ticks) - k
  rest_length = length-drop k (past_of m) ∙ ap (λ (j : ℕ). j - k) (length-take m.known m.ticks)

  pub before_none : (n ≡ 0 → ⊥) → m.known < k + n → 0 ≡ ticks_after x (nth_before n (drop k (past_of m)))
  before_none z h = go n refl
    where
      go : (i : ℕ) → n ≡ i → 0 ≡ ticks_after x (nth_before i (drop k (past_of m)))
      go zero e = absurd (z e)
      go (suc i) e = ap (ticks_after x) (sym (at_none (drop k (past_of m)) i (omega (arith, rest_length))))

  pub before_some : (n ≡ 0 → ⊥) → k + n ≤ m.known → k + n ≤ length m.ticks → (a b : ℕ) → a ≡ get_or m.ticks (k + n - 1) 0 → b ≡ x → a + b ≡ ticks_after x (nth_before n (drop k (past_of m)))
  before_some z h l a b f g = go n refl
    where
      go : (i : ℕ) → n ≡ i → a + b ≡ ticks_after x (nth_before i (drop k (past_of m)))
      go zero e = absurd (z e)
      go (suc i) e =
          let d : k + n - 1 ≡ k + i = omega arith in
          let here : get_or (drop k (past_of m)) i 0 ≡ a = get_or-drop k (past_of m) i 0 ∙ get_or-take m.known m.ticks (k + i) 0 (omega arith) ∙ ap (λ (q : ℕ). get_or m.ticks q 0) (sym d) ∙ sym f in
          sym (ap (ticks_after x) (at_some (drop k (past_of m)) i (omega (arith, rest_length))) ∙ rw (here, g))

-- ---- the next eligibility

pub earliest_of : (m : Member) (k n a b : ℕ) → n ≡ m.figures.window / m.figures.average → a ≡ ticks_after m.figures.gap (nth_before 1 (drop k (past_of m))) → b ≡ ticks_after m.figures.window (nth_before n (drop k (past_of m)))
    → max a b ≡ earliest (connection_of m) (drop k (past_of m))
earliest_of m k n a b e f g = rw (f, g, e ∙ burst_is (connection_of m)) (sym (earliest_is (connection_of m) (drop k (past_of m))))

pub next_of : (m : Member) (now a b : ℕ) → a ≡ now → b ≡ earliest (connection_of m) (past_of m) → max a b ≡ next_eligibility (connection_of m) (past_of m) now
next_of m now a b e f = rw (e, f) (sym (next_is (connection_of m) (past_of m) now))

-- by the gap alone
module _ (flag last gap now : ℕ) where
  by_gap : (h : Past) → next_eligibility (gap_only gap) h now ≡ base_eligibility (gap_only gap) h now
  by_gap h = (as_before (gap_only gap) (refl, refl, refl, refl)).2 h now

  pub next_first : flag ≡ 0 → now ≡ next_eligibility (gap_only gap) (last_only flag last) now
  next_first e = sym (ap (λ (h : Past). next_eligibility (gap_only gap) h now) (cond_is [] (last ∷ []) (eq-eqb flag 0 e)) ∙ by_gap [])

  pub next_later : (flag ≡ 0 → ⊥) → (a b : ℕ) → a ≡ now → b ≡ last + gap → max a b ≡ next_eligibility (gap_only gap) (last_only flag last) now
  next_later n a b e f = rw (e, f) (sym (ap (λ (h : Past). next_eligibility (gap_only gap) h now) (cond_is [] (last ∷ []) (ne_eqb flag 0 n)) ∙ by_gap (last ∷ [])))

-- ---- one more

-- turned by one, so that the last comes first, and a new first one in its place
pub turned : (l : List ℕ) (e n : ℕ) → length l ≡ max_remembered → n ≡ 15 → set (drop n l ++ take n l) 0 e ≡ e ∷ take 15 l
turned l e n h k =
    let last : drop 15 l ≡ get_or l 15 0 ∷ [] = drop-cons l 15 0 (omega arith) ∙ ap (λ (r : List ℕ). get_or l 15 0 ∷ r) (drop_of_length-le l {i = 16} (omega arith)) in
    ap (λ (j : ℕ). set (drop j l ++ take j l) 0 e) k ∙ ap (λ (r : List ℕ). set (r ++ take 15 l) 0 e) last

take_both : (k n : ℕ) (l : List ℕ) → take n (take k l) ≡ take k (take n l)
take_both zero zero l = refl
take_both zero (suc n) l = refl
take_both (suc k) zero l = refl
take_both (suc k) (suc n) [] = refl
take_both (suc k) (suc n) (x ∷ l) = ap (λ (r : List ℕ). x ∷ r) (take_both k n l)

zeros_taken : (k n : ℕ) (l : List ℕ) → zeros (drop k l) ≡ true → zeros (drop k (take n l)) ≡ true
zeros_taken zero n l z = (zeros_parts n l z).0
zeros_taken (suc k) zero l z = refl
zeros_taken (suc k) (suc n) [] z = refl
zeros_taken (suc k) (suc n) (x ∷ l) z = zeros_taken k n l z

module _ (m : Member) (e : ℕ) (long : length m.ticks ≡ max_remembered) (f : member_formed m ≡ true) where
  more_ticks : numbers max_remembered (remember (past_of m) e) ≡ e ∷ take 15 m.ticks
  unfolding remember
  more_ticks =
      ap (λ (l : List ℕ). e ∷ l)
      (ap (numbers 15) (take_both m.known 15 m.ticks)
      ∙ numbers_again m.known 15 (take 15 m.ticks) (length-take-le 15 m.ticks (omega arith)) (zeros_taken m.known 15 m.ticks (formed_parts m f).zero_behind))

  more_known : length (remember (past_of m) e) ≡ min (m.known + 1) max_remembered
  unfolding remember
  more_known = omega (arith, length-take max_remembered (e ∷ past_of m), length-take m.known m.ticks, (formed_parts m f).known_le)

  pub remembering_is : (k : ℕ) (ts : List ℕ) → k ≡ min (m.known + 1) max_remembered → ts ≡ e ∷ take 15 m.ticks
      → ◌≡◌ {A = Member} (record { figures = m.figures; mark = m.mark; known = k; ticks = ts }) (member (connection_of m) (remember (past_of m) e) (closed_of m))
  remembering_is k ts a b = rw (a ∙ sym more_known, b ∙ sym more_ticks, mark_back m f)

-- ---- fewer

drop_take_less : (n k : ℕ) (l : List ℕ) → drop n (take k l) ≡ take (k - n) (drop n l)
drop_take_less zero k l = let e : k ≡ k - 0 = omega arith in ap (λ (j : ℕ). take j l) e
drop_take_less (suc n) zero l = let e : 0 - suc n ≡ 0 = omega arith in sym (ap (λ (j : ℕ). take j (drop (suc n) l)) e)
drop_take_less (suc n) (suc k) [] = sym (take-nil (suc k - suc n))
drop_take_less (suc n) (suc k) (x ∷ l) = let e : k - n ≡ suc k - suc n = omega arith in drop_take_less n k l ∙ ap (λ (j : ℕ). take j (drop n l)) e

-- zeros behind some numbers
zeros_all : (l w : List ℕ) → zeros l ≡ true → zeros w ≡ true → zeros (l ++ w) ≡ true
zeros_all [] w z y = y
zeros_all (x ∷ l) w z y = let k = and_true (eqb x 0) (zeros l) z in and_intro (eqb x 0) (zeros (l ++ w)) k.0 (zeros_all l w k.1 y)

zeros_behind : (k : ℕ) (l w : List ℕ) → zeros (drop k l) ≡ true → zeros w ≡ true → zeros (drop k (l ++ w)) ≡ true
zeros_behind zero l w z y = zeros_all l w z y
zeros_behind (suc k) [] w z y = (zeros_parts (suc k) w y).1
zeros_behind (suc k) (x ∷ l) w z y = zeros_behind k l w z y

numbers_padded : (n k : ℕ) (l : List ℕ) → length l ≤ n → k ≤ length l → zeros (drop k l) ≡ true → numbers n (take k l) ≡ l ++ replicate (n - length l) 0
numbers_padded n k l h i z =
    let w : List ℕ = replicate (n - length l) 0 in
    ap (numbers n) (sym (take-append-le k l w i))
    ∙ numbers_again k n (l ++ w) (omega (arith, length-append l w, length-replicate {A = ℕ} (n - length l) 0)) (zeros_behind k l w z (zeros_rep (n - length l)))

module _ (m : Member) (n : ℕ) (long : length m.ticks ≡ max_remembered) (f : member_formed m ≡ true) where
  pub forgets_all : m.known ≤ n
      → ◌≡◌ {A = Member} (record { figures = m.figures; mark = m.mark; known = 0; ticks = replicate max_remembered 0 }) (member (connection_of m) (drop n (past_of m)) (closed_of m))
  forgets_all h =
      let e : drop n (past_of m) ≡ [] = drop_of_length-le (past_of m) {i = n} (omega (arith, length-take m.known m.ticks)) in
      rw (e, mark_back m f)

  module _ (h : n < m.known) where
    rest : drop n (past_of m) ≡ take (m.known - n) (drop n m.ticks)
    rest = drop_take_less n m.known m.ticks

    fewer_known : length (drop n (past_of m)) ≡ m.known - n
    fewer_known = omega (arith, length-drop n (past_of m), length-take m.known m.ticks, (formed_parts m f).known_le)

    fewer_ticks : numbers max_remembered (drop n (past_of m)) ≡ drop n m.ticks ++ drop (max_remembered - n) (replicate max_remembered 0)
    fewer_ticks =
        let l : List ℕ = drop n m.ticks in
        let j : n + (m.known - n) ≡ m.known = omega arith in
        let k = formed_parts m f in
        ap (numbers max_remembered) rest
        ∙ numbers_padded max_remembered (m.known - n) l (omega (arith, length-drop n m.ticks)) (omega (arith, length-drop n m.ticks, k.known_le))
        (ap zeros (drop-drop (m.known - n) n m.ticks ∙ ap (λ (i : ℕ). drop i m.ticks) j) ∙ k.zero_behind)
        ∙ ap (λ (r : List ℕ). l ++ r) (sym (drop_zeros (max_remembered - n) max_remembered ∙ ap (λ (i : ℕ). replicate i 0) (omega (arith, length-drop n m.ticks))))

    pub forgets_some : (k : ℕ) (ts : List ℕ) → k ≡ m.known - n → ts ≡ take (length m.ticks - n) (drop n m.ticks) ++ drop (max_remembered - n) (replicate max_remembered 0)
        → ◌≡◌ {A = Member} (record { figures = m.figures; mark = m.mark; known = k; ticks = ts }) (member (connection_of m) (drop n (past_of m)) (closed_of m))
    forgets_some k ts a b =
        let c : ts ≡ numbers max_remembered (drop n (past_of m)) =
        b ∙ ap (λ (l : List ℕ). l ++ drop (max_remembered - n) (replicate max_remembered 0)) (take_all (length m.ticks - n) (drop n m.ticks) (omega (arith, length-drop n m.ticks))) ∙ sym fewer_ticks in
        rw (a ∙ sym fewer_known, c, mark_back m f)

-- ---- a connection read from its table

pub record MemberFacts (t : List ℕ) (c : ℕ) (m : Member) : Type 0 where
  pub shape : member_formed m ≡ true
  pub few : m.known ≤ max_remembered
  pub regular : burst (connection_of m) ≤ max_remembered
  pub figures : connection_of m ≡ nth (connections_in t) c
  pub past : past_of m ≡ get_or (pasts_in t) c no_past
  pub mark : closed_of m ≡ get_or (closed_in t) c false

-- sixteen at most in an averaging window, none where a number is free
burst_few : (l : Link) (cs : List Connection) → Within l cs → (c : ℕ) → burst (nth cs c) ≤ max_remembered
burst_few l cs W c = go (owned cs c) refl
  where
    go : (b : Bool) → owned cs c ≡ b → burst (nth cs c) ≤ max_remembered
    go true o = (figure_limits l (nth cs c) (W.figures_in c o)).burst_le
    go false o = omega (arith, burst_none (nth cs c) (ap (λ (x : Connection). x.window) (W.blank_in c o)))

pub member_facts : (l : Link) (t : List ℕ) (c : ℕ) (m : Member) → rows_formed t ≡ true → c < max_connections → Within l (connections_in t) → m ≡ member_in t c → MemberFacts t c m
member_facts l t c m f k W e =
    let i : connection_of m ≡ nth (connections_in t) c = ap connection_of e ∙ sym (connection_is t c k) in
    let j : member_formed m ≡ true = ap member_formed e ∙ member_formed_at t f c k in
    record {
      shape = j;
      few = (formed_parts m j).known_le;
      regular = subst (λ (x : Connection). burst x ≤ max_remembered) (sym i) (burst_few l (connections_in t) W c);
      figures = i;
      past = ap past_of e ∙ sym (past_is t c k);
      mark = ap closed_of e ∙ sym (closed_is t c k);
    }
