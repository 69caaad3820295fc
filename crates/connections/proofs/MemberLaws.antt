-- Laws of the table of connections: a row, what is read of the table by number, and a row or one of the two numbers behind the rows put into it.
use mathlib.Core.Path.{◌≡◌, refl, sym, ap, ◌∙◌, subst}
use mathlib.Core.Bool.{false, not, not-not}
use mathlib.Core.List.{List, [], ◌∷◌, ◌++◌, map, append_assoc, append-nil}
use Prim.Native.Nat.{ℕ, zero, suc, ◌+◌, ◌*◌, ◌-◌, ◌≤◌, ◌<◌}
use native.Mathlib.Omega.{arith}
use borrow.Rule.Slice.PartMut.{put_mid}
use lib.Dec.{eqb}
use lib.ListN.{length-map, length-append, length-drop, length-replicate, get_or-map, get_or-eq_default, drop_of_length-le, length, get_or, set, take, drop, replicate}
use lib.Seq.{ext_get_or, sets, sets-eq, take-nil, length-take-le, drop-drop, drop-cons, set_at, get_or_at}
use Rattle.rules.specs.declared.Connection.{Connection}
use Rattle.rules.specs.Words.{All}
use Rattle.rules.specs.Limits.{max_connections, max_remembered}
use Rattle.rules.specs.Model.{nth, no_connection, no_past}
use Rattle.rules.specs.Admission.{owned}
use Rattle.rules.proofs.Standing.{level_free}
use Rattle.tables.specs.Table.{row_in, rows_in, numbers, write}
use Rattle.tables.proofs.TableLaws.{numbers_all, length_numbers, length_rows, made_at, write_rows, length_write, put_at, first_back}
use Rattle.limits.proofs.ZeroLaws.{zero_at, zeros_rep}
use Rattle.std.specs.Array.{AllOfLen}
use Rattle.connections.specs.declared.Member.{Member}
use Rattle.connections.specs.Members.{member_width, members_length, figures_row, row_of, member_of, no_member, member_in, put_member, members_in, members_are, connections_in, pasts_in, closed_in, used_in, first_in, written_rows}
use Rattle.connections.specs.Rows.{member_head, rows_end, connection_of, past_of, closed_of}

-- ---- a row

row_back : (r : List ℕ) → length r ≡ member_width → row_of (member_of r) ≡ r
row_back [] e = absurd (omega arith)
row_back (a ∷ []) e = absurd (omega arith)
row_back (a ∷ b ∷ []) e = absurd (omega arith)
row_back (a ∷ b ∷ c ∷ []) e = absurd (omega arith)
row_back (a ∷ b ∷ c ∷ d ∷ []) e = absurd (omega arith)
row_back (a ∷ b ∷ c ∷ d ∷ f ∷ []) e = absurd (omega arith)
row_back (a ∷ b ∷ c ∷ d ∷ f ∷ g ∷ []) e = absurd (omega arith)
row_back (a ∷ b ∷ c ∷ d ∷ f ∷ g ∷ h ∷ []) e = absurd (omega arith)
row_back (a ∷ b ∷ c ∷ d ∷ f ∷ g ∷ h ∷ i ∷ []) e = absurd (omega arith)
row_back (a ∷ b ∷ c ∷ d ∷ f ∷ g ∷ h ∷ i ∷ j ∷ r) e = ap (λ (l : List ℕ). a ∷ b ∷ c ∷ d ∷ f ∷ g ∷ h ∷ i ∷ j ∷ l) (numbers_all max_remembered r (omega arith))

-- sixteen eligibilities, remembered or not
abbrev pub Long : Member → Type 0
Long m = length m.ticks ≡ max_remembered

row_again : (m : Member) → Long m → member_of (row_of m) ≡ m
row_again m e =
    ap (λ (ts : List ℕ). record { figures = m.figures; mark = m.mark; known = m.known; ticks = ts }) (numbers_all max_remembered m.ticks e)

-- the remembered eligibilities of a row, read and written as a part of the table

drop_take : (a b : ℕ) (l : List ℕ) → drop a (take (a + b) l) ≡ take b (drop a l)
drop_take zero b l = let e : 0 + b ≡ b = omega arith in ap (λ (k : ℕ). take k l) e
drop_take (suc a) b [] = let e : suc a + b ≡ suc (a + b) = omega arith in ap (λ (k : ℕ). drop (suc a) (take k [])) e ∙ sym (take-nil b)
drop_take (suc a) b (x ∷ l) = let e : suc a + b ≡ suc (a + b) = omega arith in ap (λ (k : ℕ). drop (suc a) (take k (x ∷ l))) e ∙ drop_take a b l

-- numbers that are all 0
all_zero : (v : List ℕ) (n : ℕ) → AllOfLen (λ x. x ≡ 0) v n → v ≡ replicate n 0
all_zero v n a =
    ext_get_or 0 v (replicate n 0) (a.long ∙ sym (length-replicate {A = ℕ} n 0)) (λ i h. a.at i 0 (omega (arith, a.long)) ∙ sym (zero_at (replicate n 0) i (zeros_rep n)))

-- a row of zeros
pub blank : (m : Member) → m.figures ≡ no_connection → m.mark ≡ 0 → m.known ≡ 0 → AllOfLen (λ x. x ≡ 0) m.ticks max_remembered → m ≡ no_member
blank m e f g a = rw (e, f, g, all_zero m.ticks max_remembered a)

-- numbers copied over as many zeros
pub copied_over : (v : List ℕ) (n : ℕ) → length v ≡ n → sets (replicate n 0) 0 v ≡ v
copied_over v n e =
    sets-eq v (replicate n 0) 0 (omega (arith, length-replicate {A = ℕ} n 0))
    ∙ ap (λ (l : List ℕ). v ++ l) (drop_of_length-le (replicate n 0) {i = 0 + length v} (omega (arith, length-replicate {A = ℕ} n 0)))
    ∙ append-nil v

pub ticks_read : (t : List ℕ) (i : ℕ) → member_width * i + member_width ≤ length t
    → take (member_width * i + member_width - (member_width * i + member_head)) (drop (member_width * i + member_head) t) ≡ (member_in t i).ticks
ticks_read t i h =
    let k : member_width * i + member_width - (member_width * i + member_head) ≡ max_remembered = omega arith in
    let v : List ℕ = take max_remembered (drop (member_width * i + member_head) t) in
    let n : length v ≡ max_remembered = length-take-le max_remembered (drop (member_width * i + member_head) t) (omega (arith, length-drop (member_width * i + member_head) t)) in
    let r : drop member_head (row_in member_width t i) ≡ v = drop_take member_head max_remembered (drop (member_width * i) t) ∙ ap (take max_remembered) (drop-drop member_head (member_width * i) t) in
    ap (λ (j : ℕ). take j (drop (member_width * i + member_head) t)) k
    ∙ sym (ap (numbers max_remembered) r ∙ numbers_all max_remembered v n)

-- numbers written behind others
sets_behind : (l : List ℕ) (i : ℕ) (a b : List ℕ) → sets l i (a ++ b) ≡ sets (sets l i a) (i + length a) b
sets_behind l i [] b = let e : i ≡ i + 0 = omega arith in ap (λ (j : ℕ). sets l j b) e
sets_behind l i (x ∷ a) b = let e : suc i + length a ≡ i + suc (length a) = omega arith in sets_behind (set l i x) (suc i) a b ∙ ap (λ (j : ℕ). sets (sets (set l i x) (suc i) a) j b) e

-- a part of a table that became vs
pub part_put : (a k : ℕ) (t ys vs : List ℕ) → ys ≡ vs → k ≡ length vs → a + length vs ≤ length t → put_mid a k t ys ≡ sets t a vs
part_put a k t ys vs e n h =
    ap (λ (l : List ℕ). take a t ++ (l ++ drop k (drop a t))) e
    ∙ sym (append_assoc (take a t) vs (drop k (drop a t)))
    ∙ ap (λ (l : List ℕ). take a t ++ vs ++ l) (drop-drop k a t ∙ ap (λ (j : ℕ). drop (a + j) t) n)
    ∙ sym (sets-eq vs t a h)

pub put_parts : (t : List ℕ) (at : ℕ) (m : Member) → Long m
    → sets (set (set (sets t at (figures_row m.figures)) (at + 7) m.mark) (at + 8) m.known) (at + member_head) m.ticks ≡ sets t at (row_of m)
put_parts t at m e =
    let i : at + 8 ≡ suc (at + 7) = omega arith in
    let j : at + member_head ≡ suc (suc (at + 7)) = omega arith in
    rw (i, j, ← numbers_all max_remembered m.ticks e) (sym (sets_behind t at (figures_row m.figures) (m.mark ∷ m.known ∷ numbers max_remembered m.ticks)))

-- ---- what is read, by number

pub length_members : (t : List ℕ) → length (members_in t) ≡ max_connections
length_members t = ap length (members_are t) ∙ length-map (rows_in member_width max_connections t) member_of ∙ length_rows member_width max_connections t

rows_long : (rs : List (List ℕ)) → All Long (map member_of rs)
rows_long [] = tt
rows_long (r ∷ rs) = (length_numbers max_remembered (drop member_head r), rows_long rs)

pub all_long : (t : List ℕ) → All Long (members_in t)
all_long t = subst (All Long) (sym (members_are t)) (rows_long (rows_in member_width max_connections t))

module _ (t : List ℕ) where
  pub connections_length : length (connections_in t) ≡ max_connections
  connections_length = length-map (members_in t) connection_of ∙ length_members t

  pub pasts_length : length (pasts_in t) ≡ max_connections
  pasts_length = length-map (members_in t) past_of ∙ length_members t

  pub closed_length : length (closed_in t) ≡ max_connections
  closed_length = length-map (members_in t) closed_of ∙ length_members t

module _ (t : List ℕ) (c : ℕ) where
  pub nth_member : nth (connections_in t) c ≡ connection_of (get_or (members_in t) c no_member)
  nth_member = get_or-map connection_of (members_in t) c no_member

  pub past_member : get_or (pasts_in t) c no_past ≡ past_of (get_or (members_in t) c no_member)
  past_member = get_or-map past_of (members_in t) c no_member

  pub closed_member : get_or (closed_in t) c false ≡ closed_of (get_or (members_in t) c no_member)
  closed_member = get_or-map closed_of (members_in t) c no_member

  module _ (h : c < max_connections) where
    pub member_is : get_or (members_in t) c no_member ≡ member_in t c
    member_is = ap (λ (ms : List Member). get_or ms c no_member) (members_are t) ∙ made_at member_width max_connections member_of t c h

    pub connection_is : nth (connections_in t) c ≡ connection_of (member_in t c)
    connection_is = nth_member ∙ ap connection_of member_is

    pub level_is : (nth (connections_in t) c).level ≡ (member_in t c).figures.level
    level_is = ap (λ (x : Connection). x.level) connection_is

    pub owned_is : owned (connections_in t) c ≡ not (eqb (member_in t c).figures.level 0)
    unfolding owned
    owned_is = ap (λ (n : ℕ). not (eqb n 0)) level_is

    pub past_is : get_or (pasts_in t) c no_past ≡ past_of (member_in t c)
    past_is = past_member ∙ ap past_of member_is

    pub closed_is : get_or (closed_in t) c false ≡ closed_of (member_in t c)
    closed_is = closed_member ∙ ap closed_of member_is

    pub open_is : not (get_or (closed_in t) c false) ≡ eqb (member_in t c).mark 0
    open_is = ap not closed_is ∙ not-not (eqb (member_in t c).mark 0)

  module _ (h : max_connections ≤ c) where
    pub member_none : get_or (members_in t) c no_member ≡ no_member
    member_none = get_or-eq_default (members_in t) no_member {n = c} (omega (arith, length_members t))

    pub connection_none : nth (connections_in t) c ≡ no_connection
    connection_none = nth_member ∙ ap connection_of member_none

    pub owned_none : owned (connections_in t) c ≡ false
    owned_none = level_free (connections_in t) c (ap (λ (x : Connection). x.level) connection_none)

    pub past_none : get_or (pasts_in t) c no_past ≡ no_past
    past_none = past_member ∙ ap past_of member_none

    pub closed_none : get_or (closed_in t) c false ≡ false
    closed_none = closed_member ∙ ap closed_of member_none

-- ---- the table is its rows and two numbers

module _ (t : List ℕ) (e : length t ≡ members_length) where
  behind : drop rows_end t ≡ used_in t ∷ first_in t ∷ []
  behind =
      drop-cons t rows_end 0 (omega arith)
      ∙ ap (λ (l : List ℕ). used_in t ∷ l) (drop-cons t (rows_end + 1) 0 (omega arith) ∙ ap (λ (l : List ℕ). first_in t ∷ l) (drop_of_length-le t {i = members_length} (omega arith)))

  pub rows_written : t ≡ written_rows (members_in t) (used_in t) (first_in t)
  unfolding written_rows
  rows_written =
      sym
      (ap (λ (ms : List Member). write row_of ms ++ used_in t ∷ first_in t ∷ []) (members_are t)
      ∙ ap (λ (l : List ℕ). write row_of (map member_of (rows_in member_width max_connections t)) ++ l) (sym behind)
      ∙ write_rows member_width member_of row_of row_back max_connections t (omega arith))

-- a row put in place of another
pub put_row : (ms : List Member) (u f i : ℕ) (m : Member) → i < length ms → put_member (written_rows ms u f) i m ≡ written_rows (set ms i m) u f
unfolding written_rows
put_row ms u f i m h = put_at member_width row_of (λ m. refl) (u ∷ f ∷ []) ms i m h

module _ (ms : List Member) (u f : ℕ) (e : length ms ≡ max_connections) where
  length_rows_of : length (write row_of ms) ≡ rows_end
  length_rows_of = length_write member_width row_of (λ m. refl) ms ∙ ap (λ (k : ℕ). member_width * k) e

  length_with_one : length (write row_of ms ++ u ∷ []) ≡ rows_end + 1
  length_with_one = omega (arith, length-append (write row_of ms) (u ∷ []), length_rows_of)

  one_more : (v : ℕ) → (write row_of ms ++ u ∷ []) ++ v ∷ [] ≡ write row_of ms ++ u ∷ v ∷ []
  one_more v = append_assoc (write row_of ms) (u ∷ []) (v ∷ [])

  pub length_written : length (written_rows ms u f) ≡ members_length
  unfolding written_rows
  length_written = omega (arith, length-append (write row_of ms) (u ∷ f ∷ []), length_rows_of)

  -- another number behind the rows
  pub set_used : (v : ℕ) → set (written_rows ms u f) rows_end v ≡ written_rows ms v f
  unfolding written_rows
  set_used v = set_at (write row_of ms) u (f ∷ []) v rows_end length_rows_of

  pub set_first : (v : ℕ) → set (written_rows ms u f) (rows_end + 1) v ≡ written_rows ms u v
  unfolding written_rows
  set_first v =
      ap (λ (l : List ℕ). set l (rows_end + 1) v) (sym (one_more f))
      ∙ set_at (write row_of ms ++ u ∷ []) f [] v (rows_end + 1) length_with_one
      ∙ one_more v

  -- what is written is read back
  pub used_in_back : used_in (written_rows ms u f) ≡ u
  unfolding written_rows
  used_in_back = get_or_at (write row_of ms) u (f ∷ []) 0 rows_end length_rows_of

  pub first_in_back : first_in (written_rows ms u f) ≡ f
  unfolding written_rows
  first_in_back = ap (λ (l : List ℕ). get_or l (rows_end + 1) 0) (sym (one_more f)) ∙ get_or_at (write row_of ms ++ u ∷ []) f [] 0 (rows_end + 1) length_with_one

  all_again : (ns : List Member) → All Long ns → All (λ m. member_of (row_of m) ≡ m) ns
  all_again [] h = tt
  all_again (n ∷ ns) h = (row_again n h.0, all_again ns h.1)

  pub members_back : All Long ms → members_in (written_rows ms u f) ≡ ms
  unfolding written_rows
  members_back h = members_are (written_rows ms u f) ∙ first_back member_width row_of (λ m. refl) member_of max_connections ms (u ∷ f ∷ []) e (all_again ms h)
