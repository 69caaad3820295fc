-- Laws of the parts of the test, in the order of the code.
use Prim.Native.Nat.{ℕ, zero, suc, ◌+◌, ◌*◌, ◌/◌, ◌%◌, ◌≤◌, ◌<◌}
use native.Mathlib.Omega.{arith}
use mathlib.Core.Path.{◌≡◌, refl, sym, ap, ◌∙◌}
use mathlib.Core.Bool.{Bool, true, false, not, ◌&&◌}
use mathlib.Core.Logic.{◌⊎◌, inl, inr, ⊎_elim}
use mathlib.Core.List.{List}
use lib.Dec.{leb, eqb}
use lib.ListN.{length, get_or, take, drop, length-map, length-take, length-drop}
use lib.Seq.{get_or-drop}
use borrow.Author.Tests.{not-true, not-false, eqb-true, eq-eqb}
use Rattle.rules.specs.declared.Connection.{Connection}
use Rattle.rules.specs.declared.Packet.{Packet}
use Rattle.rules.specs.Words.{within, every, each}
use Rattle.rules.specs.Limits.{max_connections, max_reserved, max_remembered}
use Rattle.rules.specs.Model.{Past, no_connection, nth}
use Rattle.rules.specs.Admission.{link_within, level_within, figures_within, owned, reserved, passes, goes_early}
use Rattle.rules.specs.Service.{wire}
use Rattle.rules.specs.SoundTest.{all_zero, blank, free_sound, one_each, nothing_used, connection_sound, number_sound, admissions_sound, row_sound}
use Rattle.rules.specs.SoundTest.{notices_sound, line_sound}
use Rattle.rules.specs.SoundLine.{wire_sound}
use Rattle.rules.proofs.Lists.{all_from}
use Rattle.rules.proofs.Standing.{owned_below, level_owned, level_free}
use Rattle.rules.proofs.Sums.{split, same, cond_is}
use Rattle.rules.proofs.Tests.{and_true, and_intro, every_true, every_intro, each_intro}
use Rattle.limits.specs.Zeros.{zeros}
use Rattle.limits.proofs.ChainLaws.{fails, goes_on}
use Rattle.limits.proofs.ZeroLaws.{zero_at, zeros_parts}
use Rattle.tables.specs.Table.{row_in}
use Rattle.tables.specs.Places.{rows, row_at}
use Rattle.tables.specs.Notices.{notice_of}
use Rattle.tables.proofs.TableLaws.{numbers_all, length_row, number_in}
use Rattle.connections.specs.declared.Member.{Member}
use Rattle.connections.specs.Members.{member_width, member_of, connections_in, pasts_in, closed_in, used_by, used_in, first_in, member_formed, rows_formed, members_formed}
use Rattle.connections.specs.Rows.{member_head, connection_of, past_of, closed_of}
use Rattle.connections.specs.Rows.{rows_end as rows_stop}
use Rattle.connections.specs.Within.{Within}
use Rattle.connections.proofs.MemberLaws.{connections_length, pasts_length, closed_length, connection_is, connection_none, past_is, closed_is, closed_none}
use Rattle.connections.proofs.WrittenLaws.{formed_parts, member_formed_at, rows_length, members_rows, members_long, used_is, first_is}
use Rattle.connections.proofs.OwnerLaws.{used_le}
use Rattle.connections.proofs.ClosingLaws.{used_least, first_none as none_charged}
pub use Rattle.line_tests.proofs.LineLaws.{holds, falls, stops, passes_on, both_stop, both_go, row_holds, places_few, notices_few}
use Rattle.state.specs.View.{Hub}
use Rattle.state.specs.View.{Tables, view, tables_formed}
use Rattle.state.proofs.SoundLaws.{shapes}
use Rattle.sound.specs.Parts.{unused}
use Rattle.sound.specs.Pace.{past_in, Names}

-- ---- the two numbers behind the rows of the table of connections

-- how many rows there are up to the last owner's
pub used_facts : (t : List ℕ) → members_formed t ≡ true → {n : ℕ} → n ≡ used_in t → (used_by (connections_in t) ≤ n) × (n ≤ max_connections)
used_facts t f e = (omega (arith, used_is t f), omega (arith, used_is t f, used_le (connections_in t), connections_length t))

-- ---- a free number: its row is all zero

pub both_ways : (a b : Bool) → (a ≡ true → b ≡ true) → (b ≡ true → a ≡ true) → a ≡ b
both_ways true b f g = sym (f refl)
both_ways false true f g = g refl
both_ways false false f g = refl

zeros_of : (l : List ℕ) → ((i : ℕ) → i < length l → get_or l i 0 ≡ 0) → zeros l ≡ true
zeros_of l f = each_intro (λ x. eqb x 0) l (all_from (λ x. eqb x 0 ≡ true) l 0 (λ i h. eq-eqb (get_or l i 0) 0 (f i h)))

pub blank_true : (x : Connection) → blank x ≡ true → x ≡ no_connection
blank_true x h =
    let a = and_true (eqb x.level 0) _ h in
    let b = and_true (eqb x.gap 0) _ a.1 in
    let c = and_true (eqb x.size 0) _ b.1 in
    let d = and_true (eqb x.window 0) _ c.1 in
    let e = and_true (eqb x.average 0) _ d.1 in
    let f = and_true (eqb x.kind 0) (eqb x.allowance 0) e.1 in
    made x.level x.gap x.size x.window x.average x.kind x.allowance
    (eqb-true _ 0 a.0) (eqb-true _ 0 b.0) (eqb-true _ 0 c.0) (eqb-true _ 0 d.0) (eqb-true _ 0 e.0) (eqb-true _ 0 f.0) (eqb-true _ 0 f.1)
  where
    made : (a b c d e f g : ℕ) → a ≡ 0 → b ≡ 0 → c ≡ 0 → d ≡ 0 → e ≡ 0 → f ≡ 0 → g ≡ 0
        → ◌≡◌ {A = Connection} (record { level = a; gap = b; size = c; window = d; average = e; kind = f; allowance = g }) no_connection
    made a b c d e f g i j k l m n o = rw (i, j, k, l, m, n, o)

-- everything that a row stands for is nothing
abbrev blank_row : Member → Bool
blank_row m = blank (connection_of m) && (eqb (length (past_of m)) 0 && not (closed_of m))

module _ (r : List ℕ) (long : length r ≡ member_width) (shape : member_formed (member_of r) ≡ true) where
  zero_blank : zeros r ≡ true → blank_row (member_of r) ≡ true
  zero_blank z =
      and_intro (blank (connection_of (member_of r))) _ (rw (zero_at r 0 z, zero_at r 2 z, zero_at r 1 z, zero_at r 3 z, zero_at r 4 z, zero_at r 5 z, zero_at r 6 z) refl)
      (and_intro (eqb (length (past_of (member_of r))) 0) (not (closed_of (member_of r)))
      (eq-eqb (length (past_of (member_of r))) 0 (ap (λ (k : ℕ). length (take k (member_of r).ticks)) (zero_at r 8 z)))
      (ap (λ (b : Bool). not (not b)) (eq-eqb (get_or r 7 0) 0 (zero_at r 7 z))))

  blank_zero : blank_row (member_of r) ≡ true → zeros r ≡ true
  blank_zero h = zeros_of r at
    where
      m : Member
      m = member_of r

      parts : (blank (connection_of m) ≡ true) × (eqb (length (past_of m)) 0 ≡ true) × (not (closed_of m) ≡ true)
      parts =
          let a = and_true (blank (connection_of m)) _ h in
          let b = and_true (eqb (length (past_of m)) 0) (not (closed_of m)) a.1 in
          (a.0, b.0, b.1)

      figures : connection_of m ≡ no_connection
      figures = blank_true (connection_of m) parts.0

      ticks : m.ticks ≡ drop member_head r
      ticks = numbers_all max_remembered (drop member_head r) (omega (arith, length-drop member_head r))

      none : m.known ≡ 0
      none = omega (arith, eqb-true (length (past_of m)) 0 parts.1, length-take m.known m.ticks, ap length ticks, length-drop member_head r, (formed_parts m shape).known_le)

      behind : zeros (drop member_head r) ≡ true
      behind = ap zeros (sym ticks) ∙ ap (λ (k : ℕ). zeros (drop k m.ticks)) (sym none) ∙ (formed_parts m shape).zero_behind

      at : (i : ℕ) → i < length r → get_or r i 0 ≡ 0
      at zero l = ap (λ (x : Connection). x.level) figures
      at (suc zero) l = ap (λ (x : Connection). x.size) figures
      at (suc (suc zero)) l = ap (λ (x : Connection). x.gap) figures
      at (suc (suc (suc zero))) l = ap (λ (x : Connection). x.window) figures
      at (suc (suc (suc (suc zero)))) l = ap (λ (x : Connection). x.average) figures
      at (suc (suc (suc (suc (suc zero))))) l = ap (λ (x : Connection). x.kind) figures
      at (suc (suc (suc (suc (suc (suc zero)))))) l = ap (λ (x : Connection). x.allowance) figures
      at (suc (suc (suc (suc (suc (suc (suc zero))))))) l = eqb-true m.mark 0 (not-false _ (not-true _ parts.2))
      at (suc (suc (suc (suc (suc (suc (suc (suc zero)))))))) l = none
      at (suc (suc (suc (suc (suc (suc (suc (suc (suc k))))))))) l =
          let e : suc (suc (suc (suc (suc (suc (suc (suc (suc k)))))))) ≡ member_head + k = omega arith in
          ap (λ (j : ℕ). get_or r j 0) e ∙ sym (get_or-drop member_head r k 0) ∙ zero_at (drop member_head r) k behind

-- number c is free, as the rules' `free_sound` says of it
abbrev pub free_at : List ℕ → ℕ → Bool
free_at t c = blank (nth (connections_in t) c) && (eqb (length (past_in t c)) 0 && not (get_or (closed_in t) c false))

pub free_row : (t : List ℕ) (c : ℕ) → rows_formed t ≡ true → c < max_connections → zeros (row_in member_width t c) ≡ free_at t c
free_row t c f l =
    let r : List ℕ = row_in member_width t c in
    let long : length r ≡ member_width = length_row member_width t c (omega (arith, rows_length t f)) in
    both_ways (zeros r) (blank_row (member_of r)) (zero_blank r long (member_formed_at t f c l)) (blank_zero r long (member_formed_at t f c l))
    ∙ ap (λ (x : Connection). blank x && (eqb (length (past_of (member_of r))) 0 && not (closed_of (member_of r)))) (sym (connection_is t c l))
    ∙ ap (λ (h : Past). blank (nth (connections_in t) c) && (eqb (length h) 0 && not (closed_of (member_of r)))) (sym (past_is t c l))
    ∙ ap (λ (b : Bool). blank (nth (connections_in t) c) && (eqb (length (past_in t c)) 0 && not b)) (sym (closed_is t c l))

-- all numbers are free exactly where the whole table is zero
module _ (t : List ℕ) (f : members_formed t ≡ true) where
  zero_free : zeros t ≡ true → every max_connections (free_at t) ≡ true
  zero_free z =
      every_intro max_connections (free_at t)
      (λ c l. sym (free_row t c (members_rows t f) l) ∙ (zeros_parts member_width (drop (member_width * c) t) (zeros_parts (member_width * c) t z).1).0)

  free_zero : every max_connections (free_at t) ≡ true → zeros t ≡ true
  free_zero e = zeros_of t at
    where
      free : (c : ℕ) → c < max_connections → (nth (connections_in t) c ≡ no_connection) × (get_or (closed_in t) c false ≡ false)
      free c l =
          let a = and_true (blank (nth (connections_in t) c)) _ (every_true max_connections (free_at t) e c l) in
          (blank_true (nth (connections_in t) c) a.0, not-true _ (and_true (eqb (length (past_in t c)) 0) (not (get_or (closed_in t) c false)) a.1).1)

      no_owner : (c : ℕ) → (nth (connections_in t) c).level ≡ 0
      no_owner c = ⊎_elim (λ l. ap (λ (x : Connection). x.level) (connection_none t c l)) (λ l. ap (λ (x : Connection). x.level) (free c l).0) (split max_connections c)

      unclosed : (c : ℕ) → get_or (closed_in t) c false ≡ false
      unclosed c = ⊎_elim (λ l. closed_none t c l) (λ l. (free c l).1) (split max_connections c)

      none_used : used_in t ≡ 0
      none_used = omega (arith, used_is t f, used_least (connections_in t) 0 (λ c l. no_owner c))

      none_closed : first_in t ≡ 0
      none_closed = first_is t f ∙ none_charged (pasts_in t) (closed_in t) unclosed

      row : (i : ℕ) → i < rows_stop → get_or t i 0 ≡ 0
      row i l =
          let c : ℕ = i / member_width in
          let k : ℕ = i % member_width in
          let q : c < max_connections = omega arith in
          let s : i ≡ member_width * c + k = omega arith in
          ap (λ (j : ℕ). get_or t j 0) s
          ∙ sym (number_in member_width t c k (omega arith))
          ∙ zero_at (row_in member_width t c) k (free_row t c (members_rows t f) q ∙ every_true max_connections (free_at t) e c q)

      at : (i : ℕ) → i < length t → get_or t i 0 ≡ 0
      at i l = ⊎_elim (λ b. behind b (same i rows_stop)) (row i) (split rows_stop i)
        where
          behind : rows_stop ≤ i → (i ≡ rows_stop) ⊎ (i ≡ rows_stop → ⊥) → get_or t i 0 ≡ 0
          behind b (inl k) = ap (λ (j : ℕ). get_or t j 0) k ∙ none_used
          behind b (inr n) = let k : i ≡ rows_stop + 1 = omega (arith, members_long t f, n) in ap (λ (j : ℕ). get_or t j 0) k ∙ none_closed

  pub all_free : zeros t ≡ every max_connections (free_at t)
  all_free = both_ways (zeros t) (every max_connections (free_at t)) zero_free free_zero

-- ---- with no link set

-- each number has its entry
module _ (h : Hub) (t : Tables) where
  entries : one_each (view h t) ≡ true
  entries =
      and_intro (eqb (length (connections_in t.members)) max_connections) _ (eq-eqb _ _ (connections_length t.members))
      (and_intro (eqb (length (pasts_in t.members)) max_connections) _ (eq-eqb _ _ (pasts_length t.members)) (eq-eqb _ _ (closed_length t.members)))

-- the parts of `unused` in the order of the rules
in_order : (l c n k w v g z : Bool) → (l && c && (n && k && w) && (v && g && z)) ≡ (l && (n && (c && (k && (w && (v && (g && z)))))))
in_order false c n k w v g z = refl
in_order true false false k w v g z = refl
in_order true false true k w v g z = refl
in_order true true false k w v g z = refl
in_order true true true false w v g z = refl
in_order true true true true false v g z = refl
in_order true true true true true false g z = refl
in_order true true true true true true g z = refl

pub unused_read : (h : Hub) (t : Tables) → tables_formed t ≡ true → {held waiting : ℕ} → held ≡ length (rows t.places) → waiting ≡ length (rows t.notices)
    → unused h t.members held waiting ≡ nothing_used (view h t)
unfolding nothing_used
unused_read h t f {held} {waiting} b c =
    rw (b, c, entries h t, length-map (rows t.notices) notice_of)
    (in_order (all_zero h.link) (eqb h.clock 0)
    (zeros t.members) (eqb (length (rows t.places)) 0) (eqb (length (rows t.notices)) 0)
    (eqb h.wire.serving 0) (eqb h.wire.to_go 0) (eqb h.wire.silent 0)
    ∙ ap (λ (n : Bool). all_zero h.link && (n && (eqb h.clock 0 && (eqb (length (rows t.places)) 0 && (eqb (length (rows t.notices)) 0 && (eqb h.wire.serving 0 && (eqb h.wire.to_go 0 && eqb h.wire.silent 0)))))))
    (all_free t.members (shapes t f).members_shape))

-- ---- link, connections, tests and reservations: of what is read in a table the other clause holds, an entry for each number

module _ (h : Hub) (t : Tables) where
  -- number c, by its level
  pub number_free : (c : ℕ) → rows_formed t.members ≡ true → c < max_connections → {x : Connection} → x ≡ nth (connections_in t.members) c → x.level ≡ 0
      → {r : Bool} → r ≡ zeros (row_in member_width t.members c) → r ≡ number_sound (view h t) c
  number_free c f l e z k =
      k
      ∙ free_row t.members c f l
      ∙ sym (cond_is (connection_sound h.link (nth (connections_in t.members) c)) (free_sound (view h t) c) (level_free (connections_in t.members) c (ap (λ (y : Connection). y.level) (sym e) ∙ z)))

  pub number_owned : (c : ℕ) {x : Connection} → x ≡ nth (connections_in t.members) c → (x.level ≡ 0 → ⊥) → {r : Bool} → r ≡ connection_sound h.link x → r ≡ number_sound (view h t) c
  number_owned c e n k =
      k
      ∙ ap (connection_sound h.link) e
      ∙ sym (cond_is (connection_sound h.link (nth (connections_in t.members) c)) (free_sound (view h t) c) (level_owned (connections_in t.members) c (λ z. n (ap (λ (y : Connection). y.level) e ∙ z))))

  -- a link and connections within their limits: every sum over the connections is safe
  pub figures_safe : link_within h.link ≡ true → every max_connections (number_sound (view h t)) ≡ true → Within h.link (connections_in t.members)
  figures_safe e f = record { link_in = e; figures_in = within_in; blank_in = blank_in }
    where
      cs : List Connection
      cs = connections_in t.members

      number : (c : ℕ) → c < max_connections → number_sound (view h t) c ≡ true
      number = every_true max_connections (number_sound (view h t)) f

      within_in : (c : ℕ) → owned cs c ≡ true → figures_within h.link (nth cs c) ≡ true
      within_in c o =
          (and_true (level_within h.link (nth cs c)) _
          (sym (cond_is (connection_sound h.link (nth cs c)) (free_sound (view h t) c) o) ∙ number c (omega (arith, owned_below cs c o, connections_length t.members)))).1

      blank_in : (c : ℕ) → owned cs c ≡ false → nth cs c ≡ no_connection
      blank_in c o =
          ⊎_elim
          (λ l. connection_none t.members c l)
          (λ l. blank_true (nth cs c) (and_true (blank (nth cs c)) _ (sym (cond_is (connection_sound h.link (nth cs c)) (free_sound (view h t) c) o) ∙ number c l)).0)
          (split max_connections c)

  pub admissions_read : admissions_sound (view h t)
      ≡ (link_within h.link
      && (every max_connections (number_sound (view h t))
      && (passes h.link (connections_in t.members) && leb (reserved h.link (connections_in t.members)) max_reserved)))
  unfolding admissions_sound
  admissions_read = rw (entries h t) refl

  pub admissions_safe : admissions_sound (view h t) ≡ true → Within h.link (connections_in t.members)
  admissions_safe e =
      let a = and_true (link_within h.link) _ (sym admissions_read ∙ e) in
      figures_safe a.0 (and_true (every max_connections (number_sound (view h t))) _ a.1).0

-- ---- a row

module _ (cs : List Connection) (clock : ℕ) (p : Packet) {x : Connection} (e : x ≡ nth cs p.connection) where
  pub row_free : x.level ≡ 0 → false ≡ row_sound cs clock p
  row_free z = fails (owned cs p.connection) _ (level_free cs p.connection (ap (λ (y : Connection). y.level) (sym e) ∙ z))

  pub row_owned : (x.level ≡ 0 → ⊥) → (within 1 x.size p.len && (leb p.arrival clock && leb p.arrival p.eligibility)) ≡ row_sound cs clock p
  row_owned n =
      goes_on (owned cs p.connection) _ _ (level_owned cs p.connection (λ z. n (ap (λ (y : Connection). y.level) e ∙ z)))
      (ap (λ (y : Connection). within 1 y.size p.len && (leb p.arrival clock && leb p.arrival p.eligibility)) e)

-- each row is of a number that has an owner
pub rows_owned : (members places : List ℕ) (clock : ℕ) → each (row_sound (connections_in members) clock) (rows places) ≡ true → Names members places
rows_owned members places clock h k i =
    (and_true (owned (connections_in members) (row_at places k).connection) _ (row_holds (row_sound (connections_in members) clock) places h k i)).0

-- ---- the notices and the line

pub line_read : (h : Hub) (t : Tables) {early : Bool} → early ≡ goes_early h.link (nth (connections_in t.members) h.wire.serving)
    → wire_sound (λ _. early) h.link.largest h.link.silence h.clock (wire (view h t)) ≡ (notices_sound (view h t) && line_sound (view h t))
unfolding wire_sound notices_sound line_sound
line_read h t e = ap (λ (b : Bool). wire_sound (λ _. b) h.link.largest h.link.silence h.clock (wire (view h t))) e
