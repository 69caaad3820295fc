-- Laws of closed connections: the two numbers behind the rows, walked row by row; and a row that is closed or freed.
use Prim.Native.Nat.{ℕ, zero, suc, ◌+◌, ◌*◌, ◌-◌, ◌≤◌, ◌<◌, min}
use native.Mathlib.Omega.{arith}
use native.Mathlib.Numerals.{add-one}
use mathlib.Core.Path.{◌≡◌, refl, sym, ap, ◌∙◌, subst}
use mathlib.Core.Bool.{Bool, true, false, cond, not}
use mathlib.Core.Logic.{◌⊎◌, inl, inr}
use mathlib.Core.List.{List, [], ◌∷◌, map}
use lib.Dec.{eqb, leb}
use lib.ListN.{length, get_or, set, take, drop, length-set, get_or-map}
use lib.Seq.{sets, set-get_or, set-set, set_comm, take-nil, drop-cons, get_or-drop}
use borrow.Author.Tests.{eqb-true, eq-eqb, ne_eqb}
use Rattle.rules.specs.declared.Connection.{Connection}
use Rattle.rules.specs.Limits.{max_connections}
use Rattle.rules.specs.Model.{Past, no_connection, no_past, nth}
use Rattle.rules.specs.Service.{charge_over}
use Rattle.rules.proofs.Sums.{split, same, cond_is}
use Rattle.rules.proofs.Lists.{all_set}
use Rattle.rules.proofs.Tests.{never, and_true, not_true_false}
use Rattle.rules.proofs.Standing.{owned_level}
use Rattle.limits.specs.Zeros.{zeros}
use Rattle.tables.specs.Table.{row_in}
use Rattle.connections.specs.declared.Member.{Member}
use Rattle.connections.specs.Members.{member_width, no_member, member_in, put_member, members_in, connections_in, pasts_in, closed_in, used_by, earlier, first_closed, used_in, first_in, row_of, members_for, written_rows, written_members, rows_formed, members_formed}
use Rattle.connections.specs.Rows.{member_head, rows_end, past_of, closed_of, last_of, member, written_table}
use Rattle.std.specs.Prelude.{Option, None, Some}
use Rattle.connections.specs.Closing.{one_more, one_less, ClosedInOrder}
use Rattle.connections.proofs.MemberLaws.{length_members, connections_length, pasts_length, closed_length, past_member, closed_member, member_is, connection_is, past_is, rows_written, set_used, set_first}
use Rattle.connections.proofs.OwnerLaws.{up_to, up_to_some, level_behind, first_same}
use Rattle.connections.proofs.WrittenLaws.{Formed, formed_parts, member_formed_at, rows_length, members_are, table_written, members_rows, used_is, first_is, put_anew, for_set, Few, pasts_few, connections_back}

-- ---- a charge

-- of one that has sent it hangs on the newest eligibility
pub charge_by_first : (time clock n : ℕ) (l : List ℕ) → (n ≡ 0 → ⊥) → 0 < length l → charge_over time clock (take n l) ≡ leb (get_or l 0 0 + time) clock
charge_by_first time clock zero l n h = absurd (n refl)
charge_by_first time clock (suc k) [] n h = absurd (omega arith)
charge_by_first time clock (suc k) (e ∷ l) n h = refl

-- the newest eligibility of a row is the first number of its ticks, also where none is remembered
last_first : (m : Member) → Formed m → get_or m.ticks 0 0 ≡ last_of (past_of m)
last_first m h = go m.known m.ticks (formed_parts m h).zero_behind
  where
    go : (n : ℕ) (l : List ℕ) → zeros (drop n l) ≡ true → get_or l 0 0 ≡ last_of (take n l)
    go n [] z = ap last_of (sym (take-nil n))
    go zero (x ∷ l) z = eqb-true x 0 (and_true (eqb x 0) _ z).0
    go (suc n) (x ∷ l) z = refl

-- ---- how many rows there are up to the last owner's

-- no more than those before which all owners stand
pub used_least : (cs : List Connection) (n : ℕ) → ((c : ℕ) → n ≤ c → (nth cs c).level ≡ 0) → used_by cs ≤ n
used_least [] n f = omega arith
used_least (x ∷ cs) zero f = go (used_by cs) (used_least cs zero (λ c l. f (suc c) (omega arith)))
  where
    go : (m : ℕ) → m ≤ 0 → up_to (eqb x.level 0) m ≤ 0
    go zero h = rw (eq-eqb x.level 0 (f 0 (omega arith))) (omega arith)
    go (suc m) h = absurd (omega arith)
used_least (x ∷ cs) (suc n) f = go (eqb x.level 0) (used_by cs) (used_least cs n (λ c l. f (suc c) (omega arith)))
  where
    go : (b : Bool) (m : ℕ) → m ≤ n → up_to b m ≤ suc n
    go true zero h = omega arith
    go false zero h = omega arith
    go b (suc m) h = omega (arith, up_to_some b (suc m) (omega arith))

-- row k is the last of them, or not one
module _ (cs : List Connection) (k : ℕ) (h : used_by cs ≤ suc k) where
  used_here : ((nth cs k).level ≡ 0 → ⊥) → suc k ≡ used_by cs
  used_here n = go (split (used_by cs) k)
    where
      go : (used_by cs ≤ k) ⊎ (k < used_by cs) → suc k ≡ used_by cs
      go (inl l) = absurd (n (level_behind cs k l))
      go (inr l) = omega arith

  used_lower : (nth cs k).level ≡ 0 → used_by cs ≤ k
  used_lower z = used_least cs k (λ c l. go c l (same c k))
    where
      go : (c : ℕ) → k ≤ c → (c ≡ k) ⊎ (c ≡ k → ⊥) → (nth cs c).level ≡ 0
      go c l (inl e) = ap (λ (i : ℕ). (nth cs i).level) e ∙ z
      go c l (inr n) = level_behind cs c (omega (arith, n))

-- where no number gets an owner there are no more
pub used_fewer : (cs ds : List Connection) → ((c : ℕ) → (nth cs c).level ≡ 0 → (nth ds c).level ≡ 0) → used_by ds ≤ used_by cs
used_fewer cs ds f = used_least ds (used_by cs) (λ c l. f c (level_behind cs c l))

-- as where one is freed
free_level_stays : (cs : List Connection) (c i : ℕ) → (nth cs i).level ≡ 0 → (nth (set cs c no_connection) i).level ≡ 0
free_level_stays [] c i z = refl
free_level_stays (x ∷ cs) zero zero z = refl
free_level_stays (x ∷ cs) zero (suc i) z = z
free_level_stays (x ∷ cs) (suc c) zero z = z
free_level_stays (x ∷ cs) (suc c) (suc i) z = free_level_stays cs c i z

-- ---- one more than the earliest last eligibility of those that are closed

pub less_of : (o : Option ℕ) (n : ℕ) → one_more o ≡ n → o ≡ one_less n
less_of None n e = ap one_less e
less_of (Some a) n e = ap one_less e

pub more_of : (o : Option ℕ) (n : ℕ) → o ≡ one_less n → one_more o ≡ n
more_of o zero e = ap one_more e
more_of o (suc n) e = ap one_more e

pub earlier_some : (a b : ℕ) → 0 < b → earlier a b ≡ min a b
earlier_some a b h = cond_is a (min a b) (ne_eqb b 0 (λ e. omega arith))

earlier_swap : (a b f : ℕ) → earlier (suc a) (earlier (suc b) f) ≡ earlier (suc b) (earlier (suc a) f)
earlier_swap a b zero = omega (arith, earlier_some (suc a) (suc b) (omega arith), earlier_some (suc b) (suc a) (omega arith))
earlier_swap a b (suc f) =
    let l : 0 < min (suc b) (suc f) = omega arith in
    let k : 0 < min (suc a) (suc f) = omega arith in
    let d : earlier (suc b) (suc f) ≡ min (suc b) (suc f) = earlier_some (suc b) (suc f) (omega arith) in
    let e : earlier (suc a) (suc f) ≡ min (suc a) (suc f) = earlier_some (suc a) (suc f) (omega arith) in
    ap (earlier (suc a)) d
    ∙ omega (arith, earlier_some (suc a) (min (suc b) (suc f)) l, earlier_some (suc b) (min (suc a) (suc f)) k)
    ∙ ap (earlier (suc b)) (sym e)

pub earlier_le : (a f : ℕ) → (0 < earlier (suc a) f) × (earlier (suc a) f ≤ suc a) × (0 < f → earlier (suc a) f ≤ f)
earlier_le a zero = (omega arith, omega arith, λ l. absurd (omega arith))
earlier_le a (suc f) = let e = earlier_some (suc a) (suc f) (omega arith) in (omega (arith, e), omega (arith, e), λ l. omega (arith, e))

-- it is 0 where none is closed
pub first_none : (hs : List Past) (bs : List Bool) → ((c : ℕ) → get_or bs c false ≡ false) → first_closed hs bs ≡ 0
first_none [] bs f = refl
first_none (h ∷ hs) [] f = refl
first_none (h ∷ hs) (b ∷ bs) f = cond_is _ _ (f 0) ∙ first_none hs bs (λ c. f (suc c))

-- it fits where one more than each of them does
pub first_fits : (n : ℕ) → 0 < n → (hs : List Past) (bs : List Bool) → ((c : ℕ) → get_or bs c false ≡ true → last_of (get_or hs c no_past) + 1 < n) → first_closed hs bs < n
first_fits n p [] bs f = p
first_fits n p (h ∷ hs) [] f = p
first_fits n p (h ∷ hs) (true ∷ bs) f = let k = earlier_le (last_of h) (first_closed hs bs) in omega (arith, k.1, f 0 refl)
first_fits n p (h ∷ hs) (false ∷ bs) f = first_fits n p hs bs (λ c. f (suc c))

-- one more is closed: its own is taken in
pub first_marked : (hs : List Past) (bs : List Bool) (c : ℕ) → c < length hs → c < length bs → get_or bs c false ≡ false
    → first_closed hs (set bs c true) ≡ earlier (suc (last_of (get_or hs c no_past))) (first_closed hs bs)
first_marked [] bs c l k e = absurd (omega arith)
first_marked (h ∷ hs) [] c l k e = absurd (omega arith)
first_marked (h ∷ hs) (b ∷ bs) zero l k e = ap (earlier (suc (last_of h))) (sym (cond_is _ _ e))
first_marked (h ∷ hs) (true ∷ bs) (suc c) l k e =
    ap (earlier (suc (last_of h))) (first_marked hs bs c (omega arith) (omega arith) e) ∙ earlier_swap (last_of h) (last_of (get_or hs c no_past)) (first_closed hs bs)
first_marked (h ∷ hs) (false ∷ bs) (suc c) l k e = first_marked hs bs c (omega arith) (omega arith) e

-- where one is closed it is not 0, and no later than that one's
pub first_before : (hs : List Past) (bs : List Bool) (c : ℕ) → c < length hs → get_or bs c false ≡ true
    → (0 < first_closed hs bs) × (first_closed hs bs ≤ suc (last_of (get_or hs c no_past)))
first_before [] bs c l e = absurd (omega arith)
first_before (h ∷ hs) [] c l e = never e
first_before (h ∷ hs) (b ∷ bs) zero l e = let k = earlier_le (last_of h) (first_closed hs bs) in subst (λ (n : ℕ). (0 < n) × (n ≤ suc (last_of h))) (sym (cond_is _ _ e)) (k.0, k.1)
first_before (h ∷ hs) (true ∷ bs) (suc c) l e = let k = earlier_le (last_of h) (first_closed hs bs) in let i = first_before hs bs c (omega arith) e in (k.0, omega (arith, k.2 i.0, i.1))
first_before (h ∷ hs) (false ∷ bs) (suc c) l e = first_before hs bs c (omega arith) e

-- the same of rows
abbrev pub first_among : List Member → ℕ
first_among ms = first_closed (map past_of ms) (map closed_of ms)

-- from row k on: row k taken in with those behind it
first_with : (ms : List Member) (k last : ℕ) → k < length ms → last ≡ last_of (past_of (get_or ms k no_member))
    → cond (eqb (get_or ms k no_member).mark 0) (first_among (drop (suc k) ms)) (earlier (suc last) (first_among (drop (suc k) ms))) ≡ first_among (drop k ms)
first_with ms k last l e = rw (e, drop-cons ms k no_member l) (go (eqb (get_or ms k no_member).mark 0) _ _)
  where
    go : (b : Bool) (x y : ℕ) → cond b x y ≡ cond (not b) y x
    go true x y = refl
    go false x y = refl

-- ---- the table, row by row

-- k rows have all owners: the last of them has one, or k - 1 have them all
module _ (t : List ℕ) (k : ℕ) (p : 0 < k) (l : k ≤ max_connections) (h : used_by (connections_in t) ≤ k) (v : ℕ) (e : v ≡ get_or (row_in member_width t (k - 1)) 0 0) where
  level_read : (nth (connections_in t) (k - 1)).level ≡ v
  level_read = ap (λ (x : Connection). x.level) (connection_is t (k - 1) (omega arith)) ∙ sym e

  pub owners_end : (v ≡ 0 → ⊥) → k ≡ used_by (connections_in t)
  owners_end n = let i : k ≡ suc (k - 1) = omega arith in i ∙ used_here (connections_in t) (k - 1) (omega arith) (λ z. n (sym level_read ∙ z))

  pub owners_lower : v ≡ 0 → used_by (connections_in t) ≤ k - 1
  owners_lower z = used_lower (connections_in t) (k - 1) (omega arith) (level_read ∙ z)

-- behind all owners none is closed
module _ (t : List ℕ) (o : ClosedInOrder t) (n : ℕ) (h : used_by (connections_in t) ≤ n) where
  pub open_behind : (c : ℕ) → n ≤ c → closed_of (get_or (members_in t) c no_member) ≡ false
  open_behind c l =
      not_true_false (closed_of (get_or (members_in t) c no_member))
      (λ e. owned_level (connections_in t) c (o.closed_owned c (closed_member t c ∙ e)) (level_behind (connections_in t) c (omega arith)))

-- .. nor one that counts
pub first_behind : (t : List ℕ) (n : ℕ) → ((c : ℕ) → n ≤ c → get_or (closed_in t) c false ≡ false) → first_among (drop n (members_in t)) ≡ 0
first_behind t n f =
    first_none (map past_of (drop n (members_in t))) (map closed_of (drop n (members_in t)))
    (λ c. get_or-map closed_of (drop n (members_in t)) c no_member ∙ ap closed_of (get_or-drop n (members_in t) c no_member) ∙ sym (closed_member t (n + c)) ∙ f (n + c) (omega arith))

module _ (t : List ℕ) (f : rows_formed t ≡ true) where
  -- the number of row k that is its last eligibility
  pub last_read : (k : ℕ) → k < max_connections → get_or (row_in member_width t k) member_head 0 ≡ last_of (get_or (pasts_in t) k no_past)
  last_read k l =
      sym (get_or-drop member_head (row_in member_width t k) 0 0)
      ∙ last_first (member_in t k) (member_formed_at t f k l)
      ∙ ap last_of (sym (past_is t k l))

  -- the earliest with row k taken in
  pub first_step : (k mark last first : ℕ) → k < max_connections → mark ≡ get_or (row_in member_width t k) 7 0 → last ≡ get_or (row_in member_width t k) member_head 0
      → first ≡ first_among (drop (suc k) (members_in t)) → cond (eqb mark 0) first (earlier (suc last) first) ≡ first_among (drop k (members_in t))
  first_step k mark last first l m e i =
      rw (m, i)
      (ap (λ (n : Member). cond (eqb n.mark 0) (first_among (drop (suc k) (members_in t))) (earlier (suc last) (first_among (drop (suc k) (members_in t))))) (sym (member_is t k l))
      ∙ first_with (members_in t) k last (omega (arith, length_members t)) (e ∙ last_read k l ∙ ap last_of (past_member t k)))

  -- both numbers behind the rows put anew
  pub sums_put : (u g : ℕ) → set (set t rows_end u) (rows_end + 1) g ≡ written_table (connections_in t) (pasts_in t) (closed_in t) u g
  sums_put u g =
      ap (λ (l : List ℕ). set (set l rows_end u) (rows_end + 1) g) (rows_written t (rows_length t f))
      ∙ ap (λ (l : List ℕ). set l (rows_end + 1) g) (set_used (members_in t) (used_in t) (first_in t) (length_members t) u)
      ∙ set_first (members_in t) u (first_in t) (length_members t) g
      ∙ ap (λ (ms : List Member). written_rows ms u g) (members_are t f)

-- ---- a row written anew

-- one of the numbers that were written, written again
module _ {A : Type 0} where
  set_before : (l : List A) (i : ℕ) (a : A) (j : ℕ) (vs : List A) → i < j → set (sets l j vs) i a ≡ sets (set l i a) j vs
  set_before l i a j [] h = refl
  set_before l i a j (v ∷ vs) h = set_before (set l j v) i a (suc j) vs (omega arith) ∙ ap (λ (k : List A). sets k (suc j) vs) (set_comm l j i v a (λ e. omega arith))

  set_among : (l : List A) (i : ℕ) (vs : List A) (k : ℕ) (a : A) → k < length vs → set (sets l i vs) (i + k) a ≡ sets l i (set vs k a)
  set_among l i [] k a h = absurd (omega arith)
  set_among l i (v ∷ vs) zero a h =
      let e : i + 0 ≡ i = omega arith in
      ap (λ (j : ℕ). set (sets l i (v ∷ vs)) j a) e ∙ set_before (set l i v) i a (suc i) vs (omega arith) ∙ ap (λ (m : List A). sets m (suc i) vs) (set-set l i v a)
  set_among l i (v ∷ vs) (suc k) a h =
      let e : i + suc k ≡ suc i + k = omega arith in
      ap (λ (j : ℕ). set (sets l i (v ∷ vs)) j a) e ∙ set_among (set l i v) (suc i) vs k a (omega arith)

module _ (t : List ℕ) (f : rows_formed t ≡ true) (c : ℕ) (l : c < max_connections) where
  anew_many : (x : Connection) (h : Past) (b : Bool) → length (members_for (set (connections_in t) c x) (set (pasts_in t) c h) (set (closed_in t) c b)) ≡ max_connections
  anew_many x h b =
      ap length (for_set (connections_in t) (pasts_in t) (closed_in t) c x h b)
      ∙ length-set (members_for (connections_in t) (pasts_in t) (closed_in t)) c (member x h b)
      ∙ sym (ap length (members_are t f))
      ∙ length_members t

  -- put as it is, it changes nothing
  same_row : put_member t c (member (nth (connections_in t) c) (get_or (pasts_in t) c no_past) (get_or (closed_in t) c false)) ≡ t
  same_row =
      put_anew t f c l (nth (connections_in t) c) (get_or (pasts_in t) c no_past) (get_or (closed_in t) c false)
      ∙ rw (set-get_or (connections_in t) c no_connection, set-get_or (pasts_in t) c no_past, set-get_or (closed_in t) c false) (sym (table_written t f))

  -- closed, and then the earliest put anew
  mark_put : (g : ℕ) → set (set t (member_width * c + 7) 1) (rows_end + 1) g ≡ written_table (connections_in t) (pasts_in t) (set (closed_in t) c true) (used_in t) g
  mark_put g =
      let x : Connection = nth (connections_in t) c in
      let h : Past = get_or (pasts_in t) c no_past in
      let m : Member = member x h (get_or (closed_in t) c false) in
      ap (λ (u : List ℕ). set (set u (member_width * c + 7) 1) (rows_end + 1) g) (sym same_row)
      ∙ ap (λ (u : List ℕ). set u (rows_end + 1) g) (set_among t (member_width * c) (row_of m) 7 1 (omega arith) ∙ put_anew t f c l x h true)
      ∙ set_first (members_for (set (connections_in t) c x) (set (pasts_in t) c h) (set (closed_in t) c true)) (used_in t) (first_in t) (anew_many x h true) g
      ∙ rw (set-get_or (connections_in t) c no_connection, set-get_or (pasts_in t) c no_past)

  -- free, where it is not closed
  module _ (o : get_or (closed_in t) c false ≡ false) where
    marks_same : set (closed_in t) c false ≡ closed_in t
    marks_same = ap (set (closed_in t) c) (sym o) ∙ set-get_or (closed_in t) c false

    free_row : put_member t c no_member ≡ written_table (set (connections_in t) c no_connection) (set (pasts_in t) c no_past) (closed_in t) (used_in t) (first_in t)
    free_row = put_anew t f c l no_connection no_past false ∙ rw marks_same

    free_connections : connections_in (put_member t c no_member) ≡ set (connections_in t) c no_connection
    free_connections =
        ap connections_in free_row
        ∙ connections_back (set (connections_in t) c no_connection) (set (pasts_in t) c no_past) (closed_in t) (used_in t) (first_in t)
        (length-set (connections_in t) c no_connection ∙ connections_length t)
        (length-set (pasts_in t) c no_past ∙ pasts_length t)
        (closed_length t)
        (all_set Few (pasts_in t) c no_past (pasts_few t f) (omega arith))

    pub free_used : used_by (connections_in (put_member t c no_member)) ≤ used_by (connections_in t)
    free_used = rw free_connections (used_fewer (connections_in t) (set (connections_in t) c no_connection) (free_level_stays (connections_in t) c))

    -- .. and then the owners counted anew
    free_put : (u : ℕ) → set (put_member t c no_member) rows_end u ≡ written_table (set (connections_in t) c no_connection) (set (pasts_in t) c no_past) (closed_in t) u (first_in t)
    free_put u =
        ap (λ (k : List ℕ). set k rows_end u) (put_anew t f c l no_connection no_past false)
        ∙ set_used (members_for (set (connections_in t) c no_connection) (set (pasts_in t) c no_past) (set (closed_in t) c false)) (used_in t) (first_in t) (anew_many no_connection no_past false) u
        ∙ rw marks_same

-- where the two numbers were those of the rows, they are still
module _ (t : List ℕ) (f : members_formed t ≡ true) (c : ℕ) (l : c < max_connections) (o : get_or (closed_in t) c false ≡ false) where
  pub mark_written : (last g : ℕ) → last ≡ get_or (row_in member_width t c) member_head 0 → g ≡ earlier (last + 1) (first_in t)
      → set (set t (member_width * c + 7) 1) (rows_end + 1) g ≡ written_members (connections_in t) (pasts_in t) (set (closed_in t) c true)
  mark_written last g e i =
      let r = members_rows t f in
      let k : g ≡ first_closed (pasts_in t) (set (closed_in t) c true) =
      i ∙ rw (add-one last, e, last_read t r c l, first_is t f) (sym (first_marked (pasts_in t) (closed_in t) c (omega (arith, pasts_length t)) (omega (arith, closed_length t)) o)) in
      mark_put t r c l g ∙ rw (used_is t f, k)

  pub free_written : (u : ℕ) → u ≡ used_by (connections_in (put_member t c no_member))
      → set (put_member t c no_member) rows_end u ≡ written_members (set (connections_in t) c no_connection) (set (pasts_in t) c no_past) (closed_in t)
  free_written u e =
      let r = members_rows t f in
      let k : first_in t ≡ first_closed (set (pasts_in t) c no_past) (closed_in t) = first_is t f ∙ sym (first_same (pasts_in t) (closed_in t) c no_past o) in
      free_put t r c l o u ∙ rw (e, free_connections t r c l o, k)
