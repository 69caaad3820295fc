-- Laws of the line, between a wire with its tables and the line of the rules that they stand for.
use Prim.Native.Nat.{ℕ, zero, suc, ◌-◌, ◌<◌}
use native.Mathlib.Omega.{arith}
use mathlib.Core.Path.{◌≡◌, refl, sym, ap, ◌∙◌, subst}
use mathlib.Core.Bool.{Bool, true, false, ◌&&◌}
use mathlib.Core.List.{List, [], ◌∷◌, map}
use mathlib.Core.Logic.{◌⊎◌, ⊎_elim}
use mathlib.Core.Option.{Option, none, some}
use lib.Dec.{eqb}
use lib.ListN.{length, drop}
use borrow.Author.Tests.{eq-eqb, ne_eqb, eqb-true, eqb-false}
use Rattle.rules.specs.declared.Packet.{Packet}
use Rattle.rules.specs.declared.Notice.{Notice}
use Rattle.rules.specs.Words.{All, each}
use Rattle.rules.specs.Limits.{notice_number}
use Rattle.rules.specs.Service.{Wire as Line, free_line, on_line, takes, begins, begun, packet_leaves, notice_leaves, sends, Sent as After, sent}
use Rattle.rules.specs.Model.{first_notice}
use Rattle.rules.specs.SoundLine.{WireIdle, PacketOn, NoticeOn}
use Rattle.rules.proofs.Sums.{cond_is, cond_ind}
use Rattle.rules.proofs.Tests.{never, and_true}
use Rattle.rules.proofs.Rows.{none_some, first_all, first_of}
use Rattle.tables.specs.Table.{formed}
use Rattle.tables.specs.Places.{packet_width, places_length, rows, written_places, table_of, place, row_at, cut}
use Rattle.tables.specs.Notices.{notices_length, notice_of, notices_in, written_notices, marked, notices_formed}
use Rattle.tables.proofs.TableLaws.{formed_length}
use Rattle.tables.proofs.PlacesLaws.{without_cut, first_place, first_held, row_is, rows_from, table_back}
use Rattle.tables.proofs.NoticeLaws.{marked_row, marked_rows, first_row, notices_length_is, rows_marked, notices_back}
use Rattle.line.specs.declared.Wire.{Wire}
use Rattle.line.specs.declared.Sent.{Sent}
use Rattle.line.specs.Wires.{line_in, wire_of, takes_up, idle, sent_of, Leaves, InPlace}

-- ---- step 1

-- a notice waits
pub some_waits : (q : List ℕ) → eqb (length (rows q)) 0 ≡ false → 0 < length (rows q)
some_waits q e = omega (arith, eqb-false (length (rows q)) 0 e)

-- a notice's row names it by the notices' number
first_taken : (q : List ℕ) (o : Option Packet) → notices_formed q ≡ true → 0 < length (rows q) → ◌≡◌ {A = ℕ × ℕ} (takes none (notices_in q) o) ((row_at q 0).connection, (row_at q 0).len)
first_taken q o f l =
    let r = rows_from q 0 l in
    let m = and_true (marked (row_at q 0)) _ (ap (each marked) (sym r) ∙ rows_marked q f) in
    ap (λ (ns : List Notice). takes none ns o) (first_row q l)
    ∙ ap (λ (n : ℕ). (n, (row_at q 0).len)) (sym (eqb-true _ _ (and_true (eqb (row_at q 0).connection notice_number) _ m.0).0))

module _ (w : Wire) (o b : Option Packet) (t q : List ℕ) where
  abbrev lined : ℕ × ℕ → Wire
  lined l = record { serving = l.0; to_go = l.1; silent = w.silent }

  -- nothing interrupts what is in service, and while the silence runs nothing starts
  pub stays : idle w ≡ false → w ≡ wire_of (begun o b (line_in w t q))
  stays i = go w.to_go w.silent refl refl i
    where
      go : (u d : ℕ) → w.to_go ≡ u → w.silent ≡ d → (eqb u 0 && eqb d 0) ≡ false → w ≡ lined (begins o b (line_in w t q) u d)
      go zero zero e f n = never (sym n)
      go zero (suc d) e f n = ap (λ (u : ℕ). lined (w.serving, u)) e
      go (suc u) d e f n = rw (← e)

  -- an idle line takes what is next
  pub takes_next : idle w ≡ true → takes_up (takes o (notices_in q) b) ≡ wire_of (begun o b (line_in w t q))
  takes_next i =
      let k = and_true (eqb w.to_go 0) (eqb w.silent 0) i in
      let z : w.to_go ≡ 0 = eqb-true w.to_go 0 k.0 in
      let y : w.silent ≡ 0 = eqb-true w.silent 0 k.1 in
      rw (z, y)

-- then the first notice
module _ (w : Wire) (t q : List ℕ) (o : Option Packet) (i : idle w ≡ true) where
  pub takes_notice : notices_formed q ≡ true → 0 < length (rows q) → takes_up ((row_at q 0).connection, (row_at q 0).len) ≡ wire_of (begun none o (line_in w t q))
  takes_notice n l = ap takes_up (sym (first_taken q o n l)) ∙ takes_next w none o t q i

-- ---- what step 2 needs is there where the line is sound

module _ (may : ℕ → Bool) (clock : ℕ) (w : Wire) (t q : List ℕ) (o : All (λ p. p.connection ≡ notice_number → ⊥) (rows t)) where
  -- a packet in service is a row of its connection, which has another number than the notices
  packet_away : PacketOn may clock (line_in w t q) → w.serving ≡ notice_number → ⊥
  packet_away r e =
      first_all w.serving (λ p. p.connection ≡ notice_number → ⊥) (rows t) r.it r.is_first o (first_of w.serving (rows t) r.it r.is_first ∙ e)

  some_notice : (ps : List Packet) (n : Notice) → first_notice (map notice_of ps) ≡ some n → 0 < length ps
  some_notice [] n e = absurd (none_some e)
  some_notice (p ∷ ps) n e = omega arith

  pub in_place_of : formed packet_width places_length t ≡ true → notices_formed q ≡ true
      → WireIdle (line_in w t q) ⊎ (PacketOn may clock (line_in w t q) ⊎ NoticeOn (line_in w t q)) → InPlace w t q
  in_place_of p n l = record {
    table = table_back t p;
    size = formed_length packet_width places_length t p;
    notices = n;
    line = λ busy away. ⊎_elim (λ r. first_held w.serving (rows t) r.it r.is_first) (λ r. absurd (away r.is_notice)) (on_it busy);
    notice_line = λ busy e. ⊎_elim (λ r. absurd (packet_away r e)) (λ r. some_notice (rows q) r.it r.is_first) (on_it busy);
  }
    where
      on_it : (w.to_go ≡ 0 → ⊥) → PacketOn may clock (line_in w t q) ⊎ NoticeOn (line_in w t q)
      on_it busy = ⊎_elim (λ z. absurd (busy z.0)) (λ k. k) l

-- ---- what step 2 needs is there after step 1

-- the connection of a packet that may be taken has a row, and another number than the notices
abbrev pub Held : List Packet → Option Packet → Type 0
Held ps none = Unit {0}
Held ps (some p) = (place p.connection ps < length ps) × (p.connection ≡ notice_number → ⊥)

module _ (q : Packet) (ps : List Packet) where
  pub here : (q.connection ≡ notice_number → ⊥) → Held (q ∷ ps) (some q)
  here a = (rw (eq-eqb q.connection q.connection refl) (omega arith), a)

  pub behind : (o : Option Packet) → Held ps o → Held (q ∷ ps) o
  behind none k = tt
  behind (some p) k = (cond_ind (λ (n : ℕ). n < length (q ∷ ps)) (eqb q.connection p.connection) (λ _. omega arith) (λ _. omega (arith, k.0)), k.1)

module _ (w : Wire) (o b : Option Packet) (t q : List ℕ) (f : InPlace w t q) where
  -- what is in service is the first row of its connection, or the first notice
  record Served (l : ℕ × ℕ) : Type 0 where
    packet : (l.1 ≡ 0 → ⊥) → (l.0 ≡ notice_number → ⊥) → place l.0 (rows t) < length (rows t)
    notice : (l.1 ≡ 0 → ⊥) → l.0 ≡ notice_number → 0 < length (rows q)

  served : Held (rows t) o → Held (rows t) b → (u d : ℕ) → w.to_go ≡ u → Served (begins o b (line_in w t q) u d)
  served j r (suc u) d e = record { packet = λ n a. f.line (λ z. omega arith) a; notice = λ n i. f.notice_line (λ z. omega arith) i }
  served j r zero (suc d) e = record { packet = λ n a. absurd (n refl); notice = λ n i. absurd (n refl) }
  served j r zero zero e = go o j (rows q) refl b r
    where
      packet_served : (p : Packet) → Held (rows t) (some p) → Served (p.connection, p.len)
      packet_served p k = record { packet = λ n a. k.0; notice = λ n e. absurd (k.1 e) }

      go : (o : Option Packet) → Held (rows t) o → (ps : List Packet) → rows q ≡ ps → (b : Option Packet) → Held (rows t) b → Served (takes o (map notice_of ps) b)
      go (some p) k ps i b r = packet_served p k
      go none k (p ∷ ps) i b r = record { packet = λ n a. absurd (a refl); notice = λ n e. omega (arith, ap length i) }
      go none k [] i (some p) r = packet_served p r
      go none k [] i none r = record { packet = λ n a. absurd (n refl); notice = λ n e. absurd (n refl) }

  pub in_place_then : Held (rows t) o → Held (rows t) b → (v : Wire) → v ≡ wire_of (begun o b (line_in w t q)) → InPlace v t q
  in_place_then j r v e =
      let s = served j r w.to_go w.silent refl in
      subst (λ (x : Wire). InPlace x t q) (sym e) (record { table = f.table; size = f.size; notices = f.notices; line = s.packet; notice_line = s.notice })

-- ---- step 2

-- what is told where nothing departs, and where a packet does
abbrev pub none_gone : Wire → Sent
none_gone w = sent_of none (line_in w [] [])

abbrev pub gone_with : ℕ → Packet → Sent
gone_with silence p = sent_of (some p) (free_line [] [] silence)

-- .. from its parts
abbrev gone_as : Packet → Wire → Sent
gone_as p w = sent_of (some p) (line_in w [] [])

pub leaves_with : {p q : Packet} {v w : Wire} → p ≡ q → v ≡ w → gone_as p v ≡ gone_as q w
leaves_with {p} {q} {v} {w} e f = ap (λ (x : Packet). gone_as x v) e ∙ ap (gone_as q) f

module _ (silence : ℕ) (w : Wire) (t q : List ℕ) (e : t ≡ written_places (rows t)) (f : notices_formed q ≡ true) where
  abbrev line : Line
  line = line_in w t q

  abbrev Left : ℕ → Sent → List ℕ → List ℕ → Type 0
  Left u r s n = Leaves (sends silence sent line u) r s n

  -- nothing in service
  pub still : w.to_go ≡ 0 → Left w.to_go (none_gone (wire_of (free_line [] [] (w.silent - 1)))) t q
  still z = rw z (refl, e, notices_back q f)

  -- a unit that is not the last
  pub goes_on : (w.to_go ≡ 0 → ⊥) → (w.to_go ≡ 1 → ⊥) → Left w.to_go (none_gone (wire_of (on_line line w.serving (w.to_go - 1)))) t q
  goes_on n m = go w.to_go refl
    where
      go : (u : ℕ) → w.to_go ≡ u → Left w.to_go (none_gone (wire_of (on_line line w.serving (w.to_go - 1)))) t q
      go zero i = absurd (n i)
      go (suc zero) i = absurd (m i)
      go (suc (suc u)) i = let k : w.to_go - 1 ≡ suc u = omega arith in rw (k, i) (refl, e, notices_back q f)

  -- the last unit of a packet: row i, the first of the connection in service, goes
  pub goes_off : (i : ℕ) → (w.serving ≡ notice_number → ⊥) → i ≡ place w.serving (rows t) → i < length (rows t)
      → Left 1 (gone_with silence (row_at t i)) (written_places (cut i (rows t))) q
  goes_off i away at l =
      let k : place w.serving (rows t) < length (rows t) = omega arith in
      subst (λ (x : After). Leaves x (gone_with silence (row_at t i)) (written_places (cut i (rows t))) q)
      (sym (cond_is (notice_leaves silence sent line (notices_in q)) (packet_leaves silence sent line) (ne_eqb w.serving notice_number away)))
      (rw (first_place w.serving (rows t) k, row_is t (place w.serving (rows t)) k, without_cut w.serving (rows t), at) (refl, refl, notices_back q f))

  -- the last unit of a notice: the first row goes
  pub notice_goes_off : w.serving ≡ notice_number → 0 < length (rows q) → Left 1 (gone_with silence (row_at q 0)) t (table_of (length q) (cut 0 (rows q)))
  notice_goes_off i l =
      let r = rows_from q 0 l in
      let m = and_true (marked (row_at q 0)) (each marked (drop 1 (rows q))) (ap (each marked) (sym r) ∙ rows_marked q f) in
      let ns = map notice_of (drop 1 (rows q)) in
      let back : written_notices ns ≡ table_of (length q) (drop 1 (rows q))
      = ap (table_of notices_length) (marked_rows (drop 1 (rows q)) m.1) ∙ ap (λ (k : ℕ). table_of k (drop 1 (rows q))) (sym (notices_length_is q f)) in
      subst (λ (x : After). Leaves x (gone_with silence (row_at q 0)) t (table_of (length q) (cut 0 (rows q))))
      (sym
      (cond_is (notice_leaves silence sent line (notices_in q)) (packet_leaves silence sent line) (eq-eqb w.serving notice_number i)
      ∙ ap (notice_leaves silence sent line) (first_row q l)))
      (rw (marked_row (row_at q 0) m.0) (refl, e, sym back))

  -- a last unit, by the number of units
  pub last_unit : (r : Sent) (s n : List ℕ) → w.to_go ≡ 1 → Left 1 r s n → Left w.to_go r s n
  last_unit r s n z k = subst (λ (u : ℕ). Left u r s n) (sym z) k
