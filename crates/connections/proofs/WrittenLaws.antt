-- A table of connections that is formed is what is written of what is read of it, and what is written is formed and read back.
use Prim.Native.Nat.{ℕ, zero, suc, ◌+◌, ◌≤◌, ◌<◌, max}
use native.Mathlib.Omega.{arith}
use mathlib.Core.Path.{◌≡◌, refl, sym, ap, ◌∙◌, subst}
use mathlib.Core.Bool.{Bool, true, false, cond, not, ◌&&◌}
use mathlib.Core.List.{List, [], ◌∷◌, map}
use lib.Dec.{eqb, leb}
use lib.ListN.{length, get_or, set, drop, length-take, length-set}
use lib.Seq.{length-take-le, set-get_or}
use borrow.Author.Tests.{leb-true, le-leb, eqb-true, eq-eqb}
use Rattle.rules.specs.declared.Connection.{Connection}
use Rattle.rules.specs.Words.{All, each}
use Rattle.rules.specs.Limits.{max_connections, max_remembered}
use Rattle.rules.specs.Model.{Past, no_connection, no_past}
use Rattle.rules.specs.Admission.{free_number, joining}
use Rattle.rules.proofs.Lists.{all_at}
use Rattle.rules.proofs.Tests.{and_true, and_intro, each_true, each_intro}
use Rattle.limits.specs.Zeros.{zeros}
use Rattle.tables.proofs.TableLaws.{numbers_front, numbers_zero, numbers_again}
use Rattle.connections.specs.declared.Member.{Member}
use Rattle.connections.specs.Members.{members_length, no_member, member_in, put_member, members_in, connections_in, pasts_in, closed_in, used_by, first_closed, used_in, first_in, members_for, written_rows, written_members, member_formed, rows_formed, sums_formed, members_formed}
use Rattle.connections.specs.Rows.{rows_end, connection_of, past_of, closed_of, member, written_table}
use Rattle.connections.proofs.OwnerLaws.{used_set, first_same}
use Rattle.connections.proofs.MemberLaws.{Long, length_members, all_long, connections_length, pasts_length, closed_length, member_is, connection_is, past_is, closed_is, rows_written, put_row, set_used, set_first, length_written, used_in_back, first_in_back, members_back}

-- no more is remembered than there is room for
abbrev pub Few : Past → Type 0
Few h = length h ≤ max_remembered

abbrev pub Formed : Member → Type 0
Formed m = member_formed m ≡ true

-- ---- a row that is formed is made of what it stands for

pub record Parts (m : Member) : Type 0 where
  pub known_le : m.known ≤ max_remembered
  pub zero_behind : zeros (drop m.known m.ticks) ≡ true
  pub mark_le : m.mark ≤ 1

pub formed_parts : (m : Member) → Formed m → Parts m
formed_parts m h =
    let a = and_true (leb m.known max_remembered) (zeros (drop m.known m.ticks) && leb m.mark 1) h in
    let b = and_true (zeros (drop m.known m.ticks)) (leb m.mark 1) a.1 in
    record { known_le = leb-true m.known max_remembered a.0; zero_behind = b.0; mark_le = leb-true m.mark 1 b.1 }

pub mark_back : (m : Member) → Formed m → cond (closed_of m) 1 0 ≡ m.mark
mark_back m h = go m.mark (formed_parts m h).mark_le
  where
    go : (k : ℕ) → k ≤ 1 → cond (not (eqb k 0)) 1 0 ≡ k
    go zero l = refl
    go (suc zero) l = refl
    go (suc (suc k)) l = absurd (omega arith)

pub member_back : (m : Member) → Long m → Formed m → member (connection_of m) (past_of m) (closed_of m) ≡ m
member_back m e h =
    let p = formed_parts m h in
    rw (length-take-le m.known m.ticks (omega (arith, p.known_le)), numbers_again m.known max_remembered m.ticks e p.zero_behind, mark_back m h)

pub members_again : (ms : List Member) → All Long ms → All Formed ms → members_for (map connection_of ms) (map past_of ms) (map closed_of ms) ≡ ms
members_again [] l h = refl
members_again (m ∷ ms) l h = rw (member_back m l.0 h.0, members_again ms l.1 h.1)

-- rows that are formed, as the table of what they stand for
pub rows_as_table : (ms : List Member) (u f : ℕ) → All Long ms → All Formed ms → written_rows ms u f ≡ written_table (map connection_of ms) (map past_of ms) (map closed_of ms) u f
rows_as_table ms u f l h = ap (λ (ns : List Member). written_rows ns u f) (sym (members_again ms l h))

few_known : (ms : List Member) → All Formed ms → All Few (map past_of ms)
few_known [] h = tt
few_known (m ∷ ms) h = (omega (arith, length-take m.known m.ticks, (formed_parts m h.0).known_le), few_known ms h.1)

-- ---- a table with formed rows

module _ (t : List ℕ) (f : rows_formed t ≡ true) where
  rows_parts : (eqb (length t) members_length ≡ true) × (each member_formed (members_in t) ≡ true)
  unfolding rows_formed
  rows_parts = and_true (eqb (length t) members_length) (each member_formed (members_in t)) f

  pub rows_length : length t ≡ members_length
  rows_length = eqb-true (length t) members_length rows_parts.0

  pub all_formed : All Formed (members_in t)
  all_formed = each_true member_formed (members_in t) rows_parts.1

  pub pasts_few : All Few (pasts_in t)
  pasts_few = few_known (members_in t) all_formed

  pub members_are : members_in t ≡ members_for (connections_in t) (pasts_in t) (closed_in t)
  members_are = sym (members_again (members_in t) (all_long t) all_formed)

  pub table_written : t ≡ written_table (connections_in t) (pasts_in t) (closed_in t) (used_in t) (first_in t)
  table_written = rows_written t rows_length ∙ ap (λ (ms : List Member). written_rows ms (used_in t) (first_in t)) members_are

  pub member_formed_at : (c : ℕ) → c < max_connections → Formed (member_in t c)
  member_formed_at c h = subst Formed (member_is t c h) (all_at Formed (members_in t) c no_member (omega (arith, length_members t)) all_formed)

-- ---- .. whose two numbers are those of the rows

module _ (t : List ℕ) (f : members_formed t ≡ true) where
  formed_both : (rows_formed t ≡ true) × (sums_formed t ≡ true)
  unfolding members_formed
  formed_both = and_true (rows_formed t) (sums_formed t) f

  pub members_rows : rows_formed t ≡ true
  members_rows = formed_both.0

  sums_parts : (eqb (used_in t) (used_by (connections_in t)) ≡ true) × (eqb (first_in t) (first_closed (pasts_in t) (closed_in t)) ≡ true)
  unfolding sums_formed
  sums_parts = and_true (eqb (used_in t) (used_by (connections_in t))) (eqb (first_in t) (first_closed (pasts_in t) (closed_in t))) formed_both.1

  pub used_is : used_in t ≡ used_by (connections_in t)
  used_is = eqb-true (used_in t) (used_by (connections_in t)) sums_parts.0

  pub first_is : first_in t ≡ first_closed (pasts_in t) (closed_in t)
  first_is = eqb-true (first_in t) (first_closed (pasts_in t) (closed_in t)) sums_parts.1

  pub members_long : length t ≡ members_length
  members_long = rows_length t members_rows

  pub members_written : t ≡ written_members (connections_in t) (pasts_in t) (closed_in t)
  members_written =
      table_written t members_rows
      ∙ ap (λ (u : ℕ). written_table (connections_in t) (pasts_in t) (closed_in t) u (first_in t)) used_is
      ∙ ap (written_table (connections_in t) (pasts_in t) (closed_in t) (used_by (connections_in t))) first_is

-- ---- a row written anew

pub for_set : (cs : List Connection) (hs : List Past) (bs : List Bool) (c : ℕ) (x : Connection) (h : Past) (b : Bool)
    → members_for (set cs c x) (set hs c h) (set bs c b) ≡ set (members_for cs hs bs) c (member x h b)
for_set [] hs bs c x h b = refl
for_set (y ∷ cs) [] bs zero x h b = refl
for_set (y ∷ cs) [] bs (suc c) x h b = refl
for_set (y ∷ cs) (k ∷ hs) [] zero x h b = refl
for_set (y ∷ cs) (k ∷ hs) [] (suc c) x h b = refl
for_set (y ∷ cs) (k ∷ hs) (d ∷ bs) zero x h b = refl
for_set (y ∷ cs) (k ∷ hs) (d ∷ bs) (suc c) x h b = ap (λ (l : List Member). member y k d ∷ l) (for_set cs hs bs c x h b)

module _ (t : List ℕ) (f : rows_formed t ≡ true) (c : ℕ) (l : c < max_connections) where
  pub put_anew : (x : Connection) (h : Past) (b : Bool) → put_member t c (member x h b) ≡ written_table (set (connections_in t) c x) (set (pasts_in t) c h) (set (closed_in t) c b) (used_in t) (first_in t)
  put_anew x h b =
      let m : Member = member x h b in
      ap (λ (u : List ℕ). put_member u c m) (rows_written t (rows_length t f))
      ∙ put_row (members_in t) (used_in t) (first_in t) c m (omega (arith, length_members t))
      ∙ ap (λ (ms : List Member). written_rows (set ms c m) (used_in t) (first_in t)) (members_are t f)
      ∙ ap (λ (ms : List Member). written_rows ms (used_in t) (first_in t)) (sym (for_set (connections_in t) (pasts_in t) (closed_in t) c x h b))

  -- another past of connection c, made of what it remembers
  pub past_put : (m : Member) → m ≡ member_in t c → (g : Past → Past)
      → put_member t c (member (connection_of m) (g (past_of m)) (closed_of m)) ≡ written_table (connections_in t) (set (pasts_in t) c (g (get_or (pasts_in t) c no_past))) (closed_in t) (used_in t) (first_in t)
  past_put m e g =
      put_anew (connection_of m) (g (past_of m)) (closed_of m)
      ∙ rw (ap connection_of e ∙ sym (connection_is t c l), ap past_of e ∙ sym (past_is t c l), ap closed_of e ∙ sym (closed_is t c l), set-get_or (connections_in t) c no_connection, set-get_or (closed_in t) c false)

module _ (t : List ℕ) (f : members_formed t ≡ true) (c : ℕ) where
  -- where it is not closed, the two numbers are those of the rows still
  pub past_summed : get_or (closed_in t) c false ≡ false → (h : Past)
      → written_table (connections_in t) (set (pasts_in t) c h) (closed_in t) (used_in t) (first_in t) ≡ written_members (connections_in t) (set (pasts_in t) c h) (closed_in t)
  past_summed e h =
      ap (λ (u : ℕ). written_table (connections_in t) (set (pasts_in t) c h) (closed_in t) u (first_in t)) (used_is t f)
      ∙ ap (written_table (connections_in t) (set (pasts_in t) c h) (closed_in t) (used_by (connections_in t))) (first_is t f ∙ sym (first_same (pasts_in t) (closed_in t) c h e))

  -- an owner at a number of which nothing is left
  pub owner_put : c < max_connections → get_or (pasts_in t) c no_past ≡ no_past → get_or (closed_in t) c false ≡ false → (x : Connection)
      → put_member t c (member x no_past false) ≡ written_table (set (connections_in t) c x) (pasts_in t) (closed_in t) (used_in t) (first_in t)
  owner_put l d e x =
      put_anew t (members_rows t f) c l x no_past false
      ∙ ap (λ (hs : List Past). written_table (set (connections_in t) c x) hs (set (closed_in t) c false) (used_in t) (first_in t)) (ap (set (pasts_in t) c) (sym d) ∙ set-get_or (pasts_in t) c no_past)
      ∙ ap (λ (bs : List Bool). written_table (set (connections_in t) c x) (pasts_in t) bs (used_in t) (first_in t)) (ap (set (closed_in t) c) (sym e) ∙ set-get_or (closed_in t) c false)

-- ---- and what is written is read back

closed_back_of : (b : Bool) → not (eqb (cond b 1 0) 0) ≡ b
closed_back_of true = refl
closed_back_of false = refl

mark_at_most : (b : Bool) → leb (cond b 1 0) 1 ≡ true
mark_at_most true = refl
mark_at_most false = refl

for_long : (cs : List Connection) (hs : List Past) (bs : List Bool) → All Long (members_for cs hs bs)
for_long [] hs bs = tt
for_long (x ∷ cs) [] bs = tt
for_long (x ∷ cs) (h ∷ hs) [] = tt
for_long (x ∷ cs) (h ∷ hs) (b ∷ bs) = (refl, for_long cs hs bs)

for_formed : (cs : List Connection) (hs : List Past) (bs : List Bool) → All Few hs → All Formed (members_for cs hs bs)
for_formed [] hs bs f = tt
for_formed (x ∷ cs) [] bs f = tt
for_formed (x ∷ cs) (h ∷ hs) [] f = tt
for_formed (x ∷ cs) (h ∷ hs) (b ∷ bs) f =
    (and_intro (leb (length h) max_remembered) _ (le-leb (length h) max_remembered f.0) (and_intro _ (leb (cond b 1 0) 1) (numbers_zero max_remembered h f.0) (mark_at_most b)), for_formed cs hs bs f.1)

record ReadBack (cs : List Connection) (hs : List Past) (bs : List Bool) (ms : List Member) : Type 0 where
  pub many : length ms ≡ length cs
  pub their_connections : map connection_of ms ≡ cs
  pub their_pasts : map past_of ms ≡ hs
  pub their_marks : map closed_of ms ≡ bs

for_back : (cs : List Connection) (hs : List Past) (bs : List Bool) → length hs ≡ length cs → length bs ≡ length cs → All Few hs → ReadBack cs hs bs (members_for cs hs bs)
for_back [] [] [] d e f = record { many = refl; their_connections = refl; their_pasts = refl; their_marks = refl }
for_back [] [] (b ∷ bs) d e f = absurd (omega arith)
for_back [] (h ∷ hs) bs d e f = absurd (omega arith)
for_back (x ∷ cs) [] bs d e f = absurd (omega arith)
for_back (x ∷ cs) (h ∷ hs) [] d e f = absurd (omega arith)
for_back (x ∷ cs) (h ∷ hs) (b ∷ bs) d e f =
    let k = for_back cs hs bs (omega arith) (omega arith) f.1 in
    record {
      many = ap suc k.many;
      their_connections = ap (λ (l : List Connection). x ∷ l) k.their_connections;
      their_pasts = rw (numbers_front max_remembered h f.0, k.their_pasts);
      their_marks = rw (closed_back_of b, k.their_marks);
    }

-- rows that are formed
module _ (ms : List Member) (u f : ℕ) (e : length ms ≡ max_connections) (l : All Long ms) where
  pub rows_formed_back : All Formed ms → rows_formed (written_rows ms u f) ≡ true
  unfolding rows_formed
  rows_formed_back h =
      and_intro (eqb (length (written_rows ms u f)) members_length) (each member_formed (members_in (written_rows ms u f)))
      (eq-eqb (length (written_rows ms u f)) members_length (length_written ms u f e))
      (ap (each member_formed) (members_back ms u f e l) ∙ each_intro member_formed ms h)

module _ (cs : List Connection) (hs : List Past) (bs : List Bool) (u f : ℕ) (lc : length cs ≡ max_connections) (lh : length hs ≡ max_connections) (lb : length bs ≡ max_connections) (few : All Few hs) where
  back : ReadBack cs hs bs (members_for cs hs bs)
  back = for_back cs hs bs (lh ∙ sym lc) (lb ∙ sym lc) few

  for_many : length (members_for cs hs bs) ≡ max_connections
  for_many = back.many ∙ lc

  table_back : members_in (written_table cs hs bs u f) ≡ members_for cs hs bs
  table_back = members_back (members_for cs hs bs) u f for_many (for_long cs hs bs)

  pub connections_back : connections_in (written_table cs hs bs u f) ≡ cs
  connections_back = ap (map connection_of) table_back ∙ back.their_connections

  pub pasts_back : pasts_in (written_table cs hs bs u f) ≡ hs
  pasts_back = ap (map past_of) table_back ∙ back.their_pasts

  pub closed_back : closed_in (written_table cs hs bs u f) ≡ bs
  closed_back = ap (map closed_of) table_back ∙ back.their_marks

  pub used_back : used_in (written_table cs hs bs u f) ≡ u
  used_back = used_in_back (members_for cs hs bs) u f for_many

  pub first_back : first_in (written_table cs hs bs u f) ≡ f
  first_back = first_in_back (members_for cs hs bs) u f for_many

  pub table_formed : rows_formed (written_table cs hs bs u f) ≡ true
  table_formed = rows_formed_back (members_for cs hs bs) u f for_many (for_long cs hs bs) (for_formed cs hs bs few)

  -- another number behind the rows
  pub put_used : (v : ℕ) → set (written_table cs hs bs u f) rows_end v ≡ written_table cs hs bs v f
  put_used v = set_used (members_for cs hs bs) u f for_many v

  pub put_first : (v : ℕ) → set (written_table cs hs bs u f) (rows_end + 1) v ≡ written_table cs hs bs u v
  put_first v = set_first (members_for cs hs bs) u f for_many v

module _ (cs : List Connection) (hs : List Past) (bs : List Bool) (lc : length cs ≡ max_connections) (lh : length hs ≡ max_connections) (lb : length bs ≡ max_connections) (few : All Few hs) where
  sums_back : sums_formed (written_members cs hs bs) ≡ true
  unfolding sums_formed
  sums_back =
      let u : ℕ = used_by cs in
      let f : ℕ = first_closed hs bs in
      let t : List ℕ = written_members cs hs bs in
      and_intro (eqb (used_in t) (used_by (connections_in t))) (eqb (first_in t) (first_closed (pasts_in t) (closed_in t)))
      (eq-eqb (used_in t) (used_by (connections_in t)) (used_back cs hs bs u f lc lh lb few ∙ ap used_by (sym (connections_back cs hs bs u f lc lh lb few))))
      (eq-eqb (first_in t) (first_closed (pasts_in t) (closed_in t))
      (first_back cs hs bs u f lc lh lb few ∙ sym (rw (pasts_back cs hs bs u f lc lh lb few, closed_back cs hs bs u f lc lh lb few))))

  pub members_formed_back : members_formed (written_members cs hs bs) ≡ true
  unfolding members_formed
  members_formed_back =
      and_intro (rows_formed (written_members cs hs bs)) (sums_formed (written_members cs hs bs)) (table_formed cs hs bs (used_by cs) (first_closed hs bs) lc lh lb few) sums_back

-- ---- a newcomer

-- an owner at the lowest free number, of which nothing is left, and the first number behind the rows raised to it where that is less
module _ (t : List ℕ) (f : members_formed t ≡ true) (c : ℕ) (e : c ≡ free_number (connections_in t)) (l : c < max_connections)
    (h : get_or (pasts_in t) c no_past ≡ no_past) (b : get_or (closed_in t) c false ≡ false) (x : Connection) (some_level : 1 ≤ x.level) where
  abbrev joined : List Connection
  joined = set (connections_in t) c x

  used_joined : max (used_in t) (c + 1) ≡ used_by joined
  used_joined = omega (arith, used_is t f, used_set (connections_in t) c x (omega (arith, connections_length t)) some_level)

  pub newcomer_put : (u : List ℕ) → u ≡ put_member t c (member x no_past false)
      → set u rows_end (max (used_in u) (c + 1)) ≡ written_members (joining (connections_in t) x) (pasts_in t) (closed_in t)
  newcomer_put u i =
      let hs : List Past = pasts_in t in
      let bs : List Bool = closed_in t in
      let lc : length joined ≡ max_connections = length-set (connections_in t) c x ∙ connections_length t in
      let few : All Few hs = pasts_few t (members_rows t f) in
      let k : max (used_in (written_table joined hs bs (used_in t) (first_in t))) (c + 1) ≡ used_by joined = ap (λ (n : ℕ). max n (c + 1)) (used_back joined hs bs (used_in t) (first_in t) lc (pasts_length t) (closed_length t) few) ∙ used_joined in
      ap (λ (v : List ℕ). set v rows_end (max (used_in v) (c + 1))) (i ∙ owner_put t f c l h b x)
      ∙ put_used joined hs bs (used_in t) (first_in t) lc (pasts_length t) (closed_length t) few _
      ∙ ap (λ (n : ℕ). written_table joined hs bs n (first_in t)) k
      ∙ ap (written_table joined hs bs (used_by joined)) (first_is t f)
      ∙ ap (λ (j : ℕ). written_members (set (connections_in t) j x) hs bs) e
