-- Laws of the numbers that are freed: row by row in the table, and that this is what the rules free.
use Prim.Native.Nat.{ℕ, zero, suc, ◌+◌, ◌≤◌, ◌<◌}
use native.Mathlib.Omega.{arith}
use mathlib.Core.Path.{◌≡◌, refl, sym, ap, ◌∙◌, subst}
use mathlib.Core.Bool.{Bool, true, false, cond, not, ◌&&◌}
use mathlib.Core.List.{List, [], ◌∷◌, map}
use lib.ListN.{length, get_or, set, length-map, get_or-map}
use lib.Seq.{set-get_or, ext_get_or}
use borrow.Author.Tests.{lt-leb, eq-eqb, ne_eqb}
use Rattle.rules.specs.declared.Connection.{Connection}
use Rattle.rules.specs.Words.{All}
use Rattle.rules.specs.Limits.{max_connections, beyond_32_bits}
use Rattle.rules.specs.Model.{State, Past, no_connection, no_past, nth, past, figures, closed_at}
use Rattle.rules.specs.Admission.{owned}
use Rattle.rules.specs.Service.{charge_over, expired}
use Rattle.rules.proofs.Doings.{swept_connections, swept_pasts, swept_marks}
use Rattle.rules.proofs.Sums.{cond_is, cond_ind}
use Rattle.rules.proofs.Tests.{never}
use Rattle.rules.proofs.Standing.{owned_below, owned_same, swept_length, swept_pasts_length, swept_marks_length, swept_figures, swept_past, swept_closed}
use Rattle.tables.specs.Table.{row_in}
use Rattle.connections.specs.declared.Member.{Member}
use Rattle.connections.specs.Members.{member_width, no_member, member_in, put_member, members_in, connections_in, pasts_in, closed_in, used_by, first_closed, used_in, first_in, written_rows, written_members, rows_formed, members_formed}
use Rattle.connections.specs.Rows.{connection_of, past_of, closed_of, last_of}
use Rattle.connections.specs.Closing.{ended, freed, ClosedInOrder, StandsFor, Swept}
use Rattle.connections.proofs.MemberLaws.{Long, length_members, all_long, connections_length, pasts_length, nth_member, past_member, closed_member, member_is, rows_written, put_row, used_in_back, first_in_back, members_back}
use Rattle.connections.proofs.WrittenLaws.{Formed, rows_length, all_formed, first_is, members_written, rows_formed_back}
use Rattle.connections.proofs.ClosingLaws.{used_fewer, first_before, open_behind}

-- ---- rows that are freed

module _ (time clock : ℕ) where
  -- a row that is closed afterwards is as it was
  freed_closed : (m : Member) → closed_of (freed time clock m) ≡ true → freed time clock m ≡ m
  freed_closed m = go (ended time clock m)
    where
      go : (b : Bool) → closed_of (cond b no_member m) ≡ true → cond b no_member m ≡ m
      go true e = never e
      go false e = refl

  -- the first i rows
  abbrev pub freed_up_to : ℕ → List Member → List Member
  freed_up_to zero ms = ms
  freed_up_to (suc i) [] = []
  freed_up_to (suc i) (m ∷ ms) = freed time clock m ∷ freed_up_to i ms

  freed_next : (i : ℕ) (ms : List Member) → set (freed_up_to i ms) i (freed time clock (get_or (freed_up_to i ms) i no_member)) ≡ freed_up_to (suc i) ms
  freed_next zero [] = refl
  freed_next zero (m ∷ ms) = refl
  freed_next (suc i) [] = refl
  freed_next (suc i) (m ∷ ms) = ap (λ (l : List Member). freed time clock m ∷ l) (freed_next i ms)

  -- these are all, where none behind them is to be freed
  freed_all : (n : ℕ) (ms : List Member) → ((c : ℕ) → n ≤ c → ended time clock (get_or ms c no_member) ≡ false) → freed_up_to n ms ≡ map (freed time clock) ms
  freed_all zero [] f = refl
  freed_all zero (m ∷ ms) f = rw (← freed_all zero ms (λ c l. f (suc c) (omega arith))) (ap (λ (k : Member). k ∷ ms) (sym (cond_is no_member m (f 0 (omega arith)))))
  freed_all (suc n) [] f = refl
  freed_all (suc n) (m ∷ ms) f = ap (λ (l : List Member). freed time clock m ∷ l) (freed_all n ms (λ c l. f (suc c) (omega arith)))

  -- what holds of each row and of a free one holds of each that is left
  module _ (P : Member → Type 0) (none : P no_member) where
    freed_keeps : (m : Member) → P m → P (freed time clock m)
    freed_keeps m p = cond_ind P (ended time clock m) (λ _. none) (λ _. p)

    all_freed : (i : ℕ) (ms : List Member) → All P ms → All P (freed_up_to i ms)
    all_freed zero ms h = h
    all_freed (suc i) [] h = tt
    all_freed (suc i) (m ∷ ms) h = (freed_keeps m h.0, all_freed i ms h.1)

  length_freed : (i : ℕ) (ms : List Member) → length (freed_up_to i ms) ≡ length ms
  length_freed zero ms = refl
  length_freed (suc i) [] = refl
  length_freed (suc i) (m ∷ ms) = ap suc (length_freed i ms)

  -- the charge of one that has sent is not over before the clock is there
  charged : (h : Past) → 1 ≤ length h → clock < last_of h + time → charge_over time clock h ≡ false
  charged [] n l = absurd (omega arith)
  charged (e ∷ h) n l = lt-leb (e + time) clock l

-- ---- what the rules free

module _ (t : List ℕ) (time clock : ℕ) where
  -- nothing, where none is closed or the earliest charge is not over
  none_ended : ClosedInOrder t → (0 < first_closed (pasts_in t) (closed_in t) → clock + 1 < first_closed (pasts_in t) (closed_in t) + time)
      → (c : ℕ) → ended time clock (get_or (members_in t) c no_member) ≡ false
  none_ended o f c = go (closed_of (get_or (members_in t) c no_member)) refl
    where
      m : Member
      m = get_or (members_in t) c no_member

      go : (b : Bool) → closed_of m ≡ b → (b && charge_over time clock (past_of m)) ≡ false
      go true e =
          let k : get_or (closed_in t) c false ≡ true = closed_member t c ∙ e in
          let l : 1 ≤ length (past_of m) = subst (λ (h : Past). 1 ≤ length h) (past_member t c) (o.closed_sent c k) in
          let n : c < length (connections_in t) = owned_below (connections_in t) c (o.closed_owned c k) in
          let i = first_before (pasts_in t) (closed_in t) c (omega (arith, connections_length t, pasts_length t)) k in
          charged time clock (past_of m) l (omega (arith, f i.0, i.1, ap last_of (past_member t c)))
      go false e = refl

  module _ (s : State) (S : StandsFor t time clock s) where
    expired_is : (c : ℕ) → expired s c ≡ ended time clock (get_or (members_in t) c no_member)
    unfolding expired
    expired_is c = rw (S.time_is, S.clock_is, S.pasts_are, S.marks_are, closed_member t c, past_member t c)

    swept_by : {B : Type 0} (f : Member → B) (l : List B) → length l ≡ max_connections
        → ((c : ℕ) → c < max_connections → get_or l c (f no_member) ≡ cond (expired s c) (f no_member) (f (get_or (members_in t) c no_member)))
        → l ≡ map f (map (freed time clock) (members_in t))
    swept_by {B} f l e at =
        let ms : List Member = members_in t in
        ext_get_or (f no_member) l (map f (map (freed time clock) ms)) (e ∙ sym (length-map (map (freed time clock) ms) f ∙ length-map ms (freed time clock) ∙ length_members t))
        (λ c h.
        at c (omega arith)
        ∙ cond_is (f no_member) (f (get_or ms c no_member)) (expired_is c)
        ∙ sym (out (ended time clock (get_or ms c no_member)) (get_or ms c no_member))
        ∙ sym (get_or-map f (map (freed time clock) ms) c no_member ∙ ap f (get_or-map (freed time clock) ms c no_member)))
      where
        out : (b : Bool) (m : Member) → f (cond b no_member m) ≡ cond b (f no_member) (f m)
        out true m = refl
        out false m = refl

    figures_at : (c : ℕ) → figures s c ≡ connection_of (get_or (members_in t) c no_member)
    figures_at c = ap (λ (cs : List Connection). nth cs c) S.connections_are ∙ nth_member t c

    pasts_at : (c : ℕ) → past s c ≡ past_of (get_or (members_in t) c no_member)
    pasts_at c = ap (λ (hs : List Past). get_or hs c no_past) S.pasts_are ∙ past_member t c

    closed_at_is : (c : ℕ) → closed_at s c ≡ closed_of (get_or (members_in t) c no_member)
    closed_at_is c = ap (λ (bs : List Bool). get_or bs c false) S.marks_are ∙ closed_member t c

    -- what the rules leave is what is read of the rows that are left
    pub swept_written : (ns : List Member) → ns ≡ map (freed time clock) (members_in t)
        → written_members (map connection_of ns) (map past_of ns) (map closed_of ns) ≡ written_members (swept_connections s) (swept_pasts s) (swept_marks s)
    swept_written ns e =
        rw (
          e,
          swept_by connection_of (swept_connections s) (swept_length s) (λ c h. swept_figures s c h ∙ ap (cond (expired s c) no_connection) (figures_at c)),
          swept_by past_of (swept_pasts s) (swept_pasts_length s) (λ c h. swept_past s c h ∙ ap (cond (expired s c) no_past) (pasts_at c)),
          swept_by closed_of (swept_marks s) (swept_marks_length s) (λ c h. swept_closed s c h ∙ ap (cond (expired s c) false) (closed_at_is c)),
        )

-- ---- the table, row by row

-- whether a row is to be freed, by its mark as it is read
module _ (t : List ℕ) (time clock i : ℕ) where
  pub open_stays : get_or (row_in member_width t i) 7 0 ≡ 0 → ended time clock (member_in t i) ≡ false
  open_stays z = ap (λ (b : Bool). not b && charge_over time clock (past_of (member_in t i))) (eq-eqb (get_or (row_in member_width t i) 7 0) 0 z)

  pub ended_by_charge : (get_or (row_in member_width t i) 7 0 ≡ 0 → ⊥) → ended time clock (member_in t i) ≡ charge_over time clock (past_of (member_in t i))
  ended_by_charge n = ap (λ (b : Bool). not b && charge_over time clock (past_of (member_in t i))) (ne_eqb (get_or (row_in member_width t i) 7 0) 0 n)

-- the first i rows freed where they are to be
abbrev pub rows_freed : List ℕ → ℕ → ℕ → ℕ → List ℕ
rows_freed t time clock i = written_rows (freed_up_to time clock i (members_in t)) (used_in t) (first_in t)

module _ (t : List ℕ) (f : rows_formed t ≡ true) (time clock : ℕ) where
  -- row i freed, or left as it is
  module _ (i : ℕ) (l : i < max_connections) where
    pub row_stays : ended time clock (member_in t i) ≡ false
        → t ≡ written_rows (set (members_in t) i (freed time clock (get_or (members_in t) i no_member))) (used_in t) (first_in t)
    row_stays e =
        let m : Member = get_or (members_in t) i no_member in
        let k : freed time clock m ≡ m = cond_is no_member m (ap (ended time clock) (member_is t i l) ∙ e) in
        rows_written t (rows_length t f)
        ∙ ap (λ (ms : List Member). written_rows ms (used_in t) (first_in t)) (sym (ap (set (members_in t) i) k ∙ set-get_or (members_in t) i no_member))

    pub row_goes : ended time clock (member_in t i) ≡ true
        → put_member t i no_member ≡ written_rows (set (members_in t) i (freed time clock (get_or (members_in t) i no_member))) (used_in t) (first_in t)
    row_goes e =
        let m : Member = get_or (members_in t) i no_member in
        let k : freed time clock m ≡ no_member = cond_is no_member m (ap (ended time clock) (member_is t i l) ∙ e) in
        ap (λ (r : List ℕ). put_member r i no_member) (rows_written t (rows_length t f))
        ∙ put_row (members_in t) (used_in t) (first_in t) i no_member (omega (arith, length_members t))
        ∙ ap (λ (n : Member). written_rows (set (members_in t) i n) (used_in t) (first_in t)) (sym k)

  freed_many : (i : ℕ) → length (freed_up_to time clock i (members_in t)) ≡ max_connections
  freed_many i = length_freed time clock i (members_in t) ∙ length_members t

  freed_long : (i : ℕ) → All Long (freed_up_to time clock i (members_in t))
  freed_long i = all_freed time clock Long refl i (members_in t) (all_long t)

  pub rows_freed_formed : (i : ℕ) → rows_formed (rows_freed t time clock i) ≡ true
  rows_freed_formed i =
      rows_formed_back (freed_up_to time clock i (members_in t)) (used_in t) (first_in t) (freed_many i) (freed_long i) (all_freed time clock Formed refl i (members_in t) (all_formed t f))

  pub rows_freed_next : (i : ℕ)
      → written_rows (set (members_in (rows_freed t time clock i)) i (freed time clock (get_or (members_in (rows_freed t time clock i)) i no_member))) (used_in (rows_freed t time clock i)) (first_in (rows_freed t time clock i)) ≡ rows_freed t time clock (suc i)
  rows_freed_next i =
      let ms : List Member = freed_up_to time clock i (members_in t) in
      rw (
        members_back ms (used_in t) (first_in t) (freed_many i) (freed_long i),
        used_in_back ms (used_in t) (first_in t) (freed_many i),
        first_in_back ms (used_in t) (first_in t) (freed_many i),
        freed_next time clock i (members_in t),
      )

  -- the first n, where all owners stand there, are all; r is the table then
  module _ (o : ClosedInOrder t) (n : ℕ) (h : used_by (connections_in t) ≤ n) where
    all_freed_up_to : freed_up_to time clock n (members_in t) ≡ map (freed time clock) (members_in t)
    all_freed_up_to = freed_all time clock n (members_in t) (λ c l. ap (λ (b : Bool). b && charge_over time clock (past_of (get_or (members_in t) c no_member))) (open_behind t o n h c l))

    pub all_rows_freed : rows_freed t time clock n ≡ written_rows (map (freed time clock) (members_in t)) (used_in t) (first_in t)
    all_rows_freed = ap (λ (ms : List Member). written_rows ms (used_in t) (first_in t)) all_freed_up_to

    module _ (r : List ℕ) (e : r ≡ written_rows (map (freed time clock) (members_in t)) (used_in t) (first_in t)) where
      pub left_formed : rows_formed r ≡ true
      left_formed = subst (λ (l : List ℕ). rows_formed l ≡ true) (all_rows_freed ∙ sym e) (rows_freed_formed n)

      pub left_members : members_in r ≡ map (freed time clock) (members_in t)
      left_members =
          ap members_in (e ∙ sym (all_rows_freed))
          ∙ members_back (freed_up_to time clock n (members_in t)) (used_in t) (first_in t) (freed_many n) (freed_long n)
          ∙ all_freed_up_to

-- ---- a table r with all those rows of t freed

module _ (t r : List ℕ) (time clock : ℕ) (e : members_in r ≡ map (freed time clock) (members_in t)) where
  left_at : (c : ℕ) → get_or (members_in r) c no_member ≡ freed time clock (get_or (members_in t) c no_member)
  left_at c = ap (λ (ms : List Member). get_or ms c no_member) e ∙ get_or-map (freed time clock) (members_in t) c no_member

  -- what is closed in it was so before
  module _ (c : ℕ) (k : get_or (closed_in r) c false ≡ true) where
    row_was : get_or (members_in r) c no_member ≡ get_or (members_in t) c no_member
    row_was = left_at c ∙ freed_closed time clock (get_or (members_in t) c no_member) (sym (closed_member r c ∙ ap closed_of (left_at c)) ∙ k)

    closed_was : get_or (closed_in t) c false ≡ true
    closed_was = sym (closed_member r c ∙ ap closed_of row_was ∙ sym (closed_member t c)) ∙ k

    past_was : get_or (pasts_in t) c no_past ≡ get_or (pasts_in r) c no_past
    past_was = sym (past_member r c ∙ ap past_of row_was ∙ sym (past_member t c))

    owner_was : owned (connections_in r) c ≡ owned (connections_in t) c
    owner_was = owned_same (connections_in t) (connections_in r) c (nth_member r c ∙ ap connection_of row_was ∙ sym (nth_member t c))

  pub in_order_left : ClosedInOrder t → ClosedInOrder r
  in_order_left o = record {
    closed_owned = λ c k. owner_was c k ∙ o.closed_owned c (closed_was c k);
    closed_sent = λ c k. subst (λ (h : Past). 1 ≤ length h) (past_was c k) (o.closed_sent c (closed_was c k));
    closed_fits = λ c k. subst (λ (h : Past). last_of h + 1 < beyond_32_bits) (past_was c k) (o.closed_fits c (closed_was c k));
  }

  pub used_left : used_by (connections_in r) ≤ used_by (connections_in t)
  used_left =
      used_fewer (connections_in t) (connections_in r)
      (λ c z.
      ap (λ (x : Connection). x.level) (nth_member r c ∙ ap connection_of (left_at c))
      ∙ freed_keeps time clock (λ m. m.figures.level ≡ 0) refl (get_or (members_in t) c no_member) (ap (λ (x : Connection). x.level) (sym (nth_member t c)) ∙ z))

-- where nothing is to be freed the table is swept as it stands
pub swept_as_is : (t : List ℕ) → members_formed t ≡ true → (time clock : ℕ) → ClosedInOrder t → (0 < first_in t → clock + 1 < first_in t + time) → Swept t time clock t
swept_as_is t f time clock o n s S =
    members_written t f
    ∙ swept_written t time clock s S (members_in t) (freed_all time clock zero (members_in t) (λ c l. none_ended t time clock o (rw (← first_is t f) n) c))
