-- Laws of the pass over the rows: a table that remembers them, and what is asked before the pass, in it and behind it.
use Prim.Native.Nat.{ℕ, zero, suc, ◌+◌, ◌*◌, ◌-◌, ◌≤◌, ◌<◌, max, min}
use native.Mathlib.Omega.{arith}
use native.Mathlib.Nat.{mul-le-mul_right, mul-le-mul_left}
use native.Mathlib.Numerals.{add-one}
use mathlib.Core.Path.{◌≡◌, refl, sym, ap, ◌∙◌, subst}
use mathlib.Core.Bool.{Bool, true, false, cond, not, ◌&&◌, ◌||◌}
use mathlib.Core.Logic.{◌⊎◌, inl, inr}
use mathlib.Core.List.{List, [], ◌∷◌, ◌++◌, map}
use mathlib.Core.Option.{Option, none, some}
use lib.Dec.{leb, ltb, eqb}
use lib.ListN.{length, get_or, set, take, drop, length-set, length-map, length-take, length-drop, drop_of_length-le}
use lib.Seq.{get_or-set_same, get_or-set_other, take-length, drop-cons, ext_get_or}
use borrow.Author.Tests.{le-leb, lt-leb, eq-eqb, ne_eqb, lt-ltb, le-ltb}
use Rattle.rules.specs.declared.Link.{Link}
use Rattle.rules.specs.declared.Connection.{Connection}
use Rattle.rules.specs.declared.Packet.{Packet}
use Rattle.rules.specs.Words.{All, every}
use Rattle.rules.specs.Limits.{max_connections, max_remembered, beyond_32_bits}
use Rattle.rules.specs.Model.{Past, nth, no_past}
use Rattle.rules.specs.Admission.{bound, burst, stamped, owned, charge_time, reservation, goes_early, distance, ahead}
use Rattle.rules.specs.Service.{earliest, nth_before, ticks_after, remember, remember_all, of, eligibilities, charge_over}
use Rattle.rules.specs.SoundState.{departed_of, settles, margin}
use Rattle.rules.specs.SoundTest.{latest_by_gap, latest, latest_early, last_tick, in_pace, departed_by, paced, left_in_time, left_sound, same_numbers, before_pass, behind_pass, queues_sound, closed_sound}
use Rattle.rules.proofs.Count.{count_le}
use Rattle.rules.proofs.Figures.{reservation_is, ahead_on, ahead_off}
use Rattle.rules.proofs.Lists.{all_at, all_from, all_set}
use Rattle.rules.proofs.Memory.{remember_few, remember_all_snoc}
use Rattle.rules.proofs.Rows.{eligibilities_snoc_same, eligibilities_snoc_other}
use Rattle.rules.proofs.SoundExact.{same_true, same_intro}
use Rattle.rules.proofs.Standing.{owned_below, level_owned, level_free}
use Rattle.rules.proofs.Sums.{split, same, cond_is}
use Rattle.rules.proofs.Tests.{never, and_true, and_intro, or_true, or_intro, every_true, every_intro}
use Rattle.limits.proofs.ChainLaws.{fails, goes_on}
use Rattle.limits.proofs.EveryLaws.{every_same}
use Rattle.tables.specs.Table.{row_in}
use Rattle.tables.specs.Places.{rows, row_at, no_packet}
use Rattle.tables.proofs.PlacesLaws.{row_is, rows_from}
use Rattle.connections.specs.declared.Member.{Member}
use Rattle.connections.specs.Members.{member_width, connections_in, pasts_in, closed_in, used_in, first_in, member_formed, rows_formed}
use Rattle.connections.specs.Rows.{connection_of, past_of, written_table}
use Rattle.connections.specs.Within.{Within}
use Rattle.connections.proofs.FigureLaws.{reservation_free, entry_limits}
use Rattle.connections.proofs.MemberLaws.{closed_is, connections_length, pasts_length, closed_length}
use Rattle.connections.proofs.RegulatorLaws.{at_some, at_none}
use Rattle.connections.proofs.WrittenLaws.{Few, formed_parts, pasts_few, table_written, connections_back, pasts_back, closed_back, used_back, first_back, table_formed}
use Rattle.line_tests.specs.Counts.{Counts}
use Rattle.line_tests.proofs.CountLaws.{rows_next}
use Rattle.state.specs.View.{Hub}
use Rattle.state.specs.View.{Tables, view}
use Rattle.sound.specs.Pace.{past_in, with_past, Remembers, past_with, Names, left_with, closed_with, Reserves}
use Rattle.sound.proofs.PartLaws.{both_ways, stops, passes_on}

-- ---- a table that remembers

-- another past of one connection
pub remembers_put : (members t : List ℕ) (f : ℕ → Past) → Remembers members t f → (c : ℕ) (h : Past) → c < max_connections → Few h → (u : List ℕ) → u ≡ with_past t c h
    → (g : ℕ → Past) → g c ≡ h → ((k : ℕ) → (k ≡ c → ⊥) → g k ≡ f k) → Remembers members u g
remembers_put members t f R c h l fh u e g own others = subst (λ (v : List ℕ). Remembers members v g) (sym e) (record {
  shape = table_formed cs hs bs (used_in t) (first_in t) lc lh lb short;
  same = connections_back cs hs bs (used_in t) (first_in t) lc lh lb short ∙ R.same;
  marks = closed_back cs hs bs (used_in t) (first_in t) lc lh lb short ∙ R.marks;
  used = used_back cs hs bs (used_in t) (first_in t) lc lh lb short ∙ R.used;
  first = first_back cs hs bs (used_in t) (first_in t) lc lh lb short ∙ R.first;
  pasts = one;
})
  where
    cs : List Connection
    cs = connections_in t

    hs : List Past
    hs = set (pasts_in t) c h

    bs : List Bool
    bs = closed_in t

    lc : length cs ≡ max_connections
    lc = connections_length t

    lh : length hs ≡ max_connections
    lh = length-set (pasts_in t) c h ∙ pasts_length t

    lb : length bs ≡ max_connections
    lb = closed_length t

    short : All Few hs
    short = all_set Few (pasts_in t) c h (pasts_few t R.shape) fh

    one : (k : ℕ) → k < max_connections → past_in (with_past t c h) k ≡ g k
    one k m = ap (λ (x : List Past). get_or x k no_past) (pasts_back cs hs bs (used_in t) (first_in t) lc lh lb short) ∙ go (same k c)
      where
        go : (k ≡ c) ⊎ (k ≡ c → ⊥) → get_or hs k no_past ≡ g k
        go (inl i) = ap (λ (j : ℕ). get_or hs j no_past) i ∙ get_or-set_same (pasts_in t) c h no_past (omega (arith, pasts_length t)) ∙ sym own ∙ ap g (sym i)
        go (inr n) = get_or-set_other (pasts_in t) c k h no_past n ∙ R.pasts k m ∙ sym (others k n)

-- a table remembers what it does
pub remembers_itself : (t : List ℕ) → rows_formed t ≡ true → Remembers t t (past_in t)
remembers_itself t f = record { shape = f; same = refl; marks = refl; used = refl; first = refl; pasts = λ c l. refl }

pub remembers_as : (members t : List ℕ) (f g : ℕ → Past) → ((c : ℕ) → c < max_connections → f c ≡ g c) → Remembers members t f → Remembers members t g
remembers_as members t f g e R = record { shape = R.shape; same = R.same; marks = R.marks; used = R.used; first = R.first; pasts = λ c l. R.pasts c l ∙ e c l }

-- what a table remembers is never too much
pub past_few : (t : List ℕ) (c : ℕ) → rows_formed t ≡ true → c < max_connections → Few (past_in t c)
past_few t c f l = all_at Few (pasts_in t) c no_past (omega (arith, pasts_length t)) (pasts_few t f)

-- a table with the past that it has
pub past_again : (t : List ℕ) (c : ℕ) → rows_formed t ≡ true → t ≡ with_past t c (past_in t c)
past_again t c f =
    table_written t f
    ∙ ap (λ (hs : List Past). written_table (connections_in t) hs (closed_in t) (used_in t) (first_in t))
    (ext_get_or no_past (pasts_in t) (set (pasts_in t) c (past_in t c)) (sym (length-set (pasts_in t) c (past_in t c))) at)
  where
    at : (k : ℕ) → k < length (pasts_in t) → get_or (pasts_in t) k no_past ≡ get_or (set (pasts_in t) c (past_in t c)) k no_past
    at k l = go (same k c)
      where
        go : (k ≡ c) ⊎ (k ≡ c → ⊥) → get_or (pasts_in t) k no_past ≡ get_or (set (pasts_in t) c (past_in t c)) k no_past
        go (inl e) =
            ap (λ (j : ℕ). get_or (pasts_in t) j no_past) e
            ∙ sym (get_or-set_same (pasts_in t) c (past_in t c) no_past (omega arith))
            ∙ ap (λ (j : ℕ). get_or (set (pasts_in t) c (past_in t c)) j no_past) (sym e)
        go (inr n) = sym (get_or-set_other (pasts_in t) c k (past_in t c) no_past n)

-- .. where nothing is forgotten
pub forget_none : (t : List ℕ) (c n : ℕ) → rows_formed t ≡ true → n ≡ 0 → t ≡ with_past t c (drop n (past_in t c))
forget_none t c n f z = past_again t c f ∙ ap (λ (k : ℕ). with_past t c (drop k (past_in t c))) (sym z)

-- ---- a connection by value

-- how many it remembers
pub known_below : (m : Member) → member_formed m ≡ true → (k : ℕ) → k < m.known → length m.ticks ≡ max_remembered → k < length (past_of m)
known_below m f k l n = omega (arith, length-take m.known m.ticks, (formed_parts m f).known_le)

pub known_end : (m : Member) (k : ℕ) → m.known ≤ k → length (past_of m) ≤ k
known_end m k l = omega (arith, length-take m.known m.ticks)

pub not_known : (m : Member) (n : ℕ) → (n ≡ 0 → ⊥) → m.known < n → nth_before n (past_of m) ≡ none
not_known m zero z l = refl
not_known m (suc n) z l = at_none (past_of m) n (omega (arith, length-take m.known m.ticks))

is_known : (m : Member) (n : ℕ) → (n ≡ 0 → ⊥) → n ≤ m.known → n ≤ length m.ticks → nth_before n (past_of m) ≡ some (get_or (past_of m) (n - 1) 0)
is_known m zero z l k = absurd (z refl)
is_known m (suc n) z l k =
    let e : suc n - 1 ≡ n = omega arith in
    at_some (past_of m) n (omega (arith, length-take m.known m.ticks)) ∙ ap (λ (i : ℕ). some (get_or (past_of m) i 0)) (sym e)

pub within_same : (l : Link) (members t : List ℕ) (f : ℕ → Past) → Remembers members t f → Within l (connections_in members) → Within l (connections_in t)
within_same l members t f R W = subst (λ (cs : List Connection). Within l cs) (sym R.same) W

pub names_same : (members t places : List ℕ) (f : ℕ → Past) → Remembers members t f → Names members places → Names t places
names_same members t places f R N = subst (λ (cs : List Connection). (k : ℕ) → k < length (rows places) → owned cs (row_at places k).connection ≡ true) (sym R.same) N

-- a row is of a number that has an owner, one of those that there are
pub named : (t places : List ℕ) → Names t places → (i : ℕ) → i < length (rows places) → (row_at places i).connection < max_connections
named t places N i l = omega (arith, owned_below (connections_in t) (row_at places i).connection (N i l), connections_length t)

pub named_row : (t places : List ℕ) → Names t places → (i : ℕ) → i < length (rows places) → (p : Packet) → p ≡ row_at places i → p.connection < max_connections
named_row t places N i l p e = subst (λ (q : Packet). q.connection < max_connections) (sym e) (named t places N i l)

-- ---- before the pass

-- the first c connections have forgotten their rows
abbrev pub forgotten : List ℕ → List ℕ → ℕ → ℕ → Past
forgotten t seen c k = cond (ltb k c) (drop (get_or seen k 0) (past_in t k)) (past_in t k)

pub forgotten_none : (t : List ℕ) (seen : List ℕ) → rows_formed t ≡ true → Remembers t t (forgotten t seen 0)
forgotten_none t seen f = remembers_as t t (past_in t) (forgotten t seen 0) (λ c l. sym (cond_is (drop (get_or seen c 0) (past_in t c)) (past_in t c) (le-ltb c 0 (omega arith)))) (remembers_itself t f)

pub forgotten_next : (t u v : List ℕ) (seen : List ℕ) (c n : ℕ) → Remembers t u (forgotten t seen c) → c < max_connections → n ≡ get_or seen c 0
    → v ≡ with_past u c (drop n (past_in u c)) → Remembers t v (forgotten t seen (c + 1))
forgotten_next t u v seen c n R l e f =
    remembers_put t u (forgotten t seen c) R c (drop n (past_in u c)) l (omega (arith, length-drop n (past_in u c), past_few u c R.shape l)) v f (forgotten t seen (c + 1)) own others
  where
    own : forgotten t seen (c + 1) c ≡ drop n (past_in u c)
    own =
        cond_is (drop (get_or seen c 0) (past_in t c)) (past_in t c) (lt-ltb c (c + 1) (omega arith))
        ∙ ap (λ (k : ℕ). drop k (past_in t c)) (sym e)
        ∙ ap (drop n) (sym (R.pasts c l ∙ cond_is (drop (get_or seen c 0) (past_in t c)) (past_in t c) (le-ltb c c (omega arith))))

    others : (k : ℕ) → (k ≡ c → ⊥) → forgotten t seen (c + 1) k ≡ forgotten t seen c k
    others k m = go (split c k)
      where
        go : (c ≤ k) ⊎ (k < c) → forgotten t seen (c + 1) k ≡ forgotten t seen c k
        go (inl i) =
            cond_is (drop (get_or seen k 0) (past_in t k)) (past_in t k) (le-ltb k (c + 1) (omega (arith, m)))
            ∙ sym (cond_is (drop (get_or seen k 0) (past_in t k)) (past_in t k) (le-ltb k c i))
        go (inr i) =
            cond_is (drop (get_or seen k 0) (past_in t k)) (past_in t k) (lt-ltb k (c + 1) (omega arith))
            ∙ sym (cond_is (drop (get_or seen k 0) (past_in t k)) (past_in t k) (lt-ltb k c i))

pub forgotten_all : (t u : List ℕ) (seen : List ℕ) (c : ℕ) → c ≡ max_connections → Remembers t u (forgotten t seen c) → Remembers t u (λ k. drop (get_or seen k 0) (past_in t k))
forgotten_all t u seen c e R = remembers_as t u (forgotten t seen c) (λ k. drop (get_or seen k 0) (past_in t k)) (λ k l. cond_is (drop (get_or seen k 0) (past_in t k)) (past_in t k) (lt-ltb k c (omega arith))) R

-- the table that the pass begins with: a copy of the one that was handed in
pub forgotten_of : (members t u seen : List ℕ) → t ≡ members → Remembers t u (λ c. drop (get_or seen c 0) (past_in t c)) → Remembers members u (λ c. drop (get_or seen c 0) (past_in members c))
forgotten_of members t u seen e R = subst (λ (m : List ℕ). Remembers m u (λ c. drop (get_or seen c 0) (past_in m c))) e R

-- what has left, from the newest on
module _ (c : Connection) (t : ℕ) (h : Past) (k : ℕ) (l : k < length h) where
  left_here : left_in_time c t (drop k h) ≡ (leb (earliest c (drop (k + 1) h)) (get_or h k 0) && (leb (get_or h k 0) t && left_in_time c t (drop (k + 1) h)))
  left_here = rw (add-one k) (ap (left_in_time c t) (drop-cons h k 0 l))

  pub left_early : (e a : ℕ) → e ≡ get_or h k 0 → a ≡ earliest c (drop (k + 1) h) → e < a → false ≡ left_in_time c t (drop k h)
  left_early e a i j m = fails (leb (earliest c (drop (k + 1) h)) (get_or h k 0)) _ (lt-leb (earliest c (drop (k + 1) h)) (get_or h k 0) (omega arith)) ∙ sym left_here

  pub left_late : (e a : ℕ) → e ≡ get_or h k 0 → a ≡ earliest c (drop (k + 1) h) → a ≤ e → t < e → false ≡ left_in_time c t (drop k h)
  left_late e a i j m n =
      goes_on (leb (earliest c (drop (k + 1) h)) (get_or h k 0)) _ false (le-leb (earliest c (drop (k + 1) h)) (get_or h k 0) (omega arith)) (fails (leb (get_or h k 0) t) _ (lt-leb (get_or h k 0) t (omega arith))) ∙ sym left_here

  pub left_next : (e a : ℕ) → e ≡ get_or h k 0 → a ≡ earliest c (drop (k + 1) h) → a ≤ e → e ≤ t → left_in_time c t (drop (k + 1) h) ≡ left_in_time c t (drop k h)
  left_next e a i j m n =
      goes_on (leb (earliest c (drop (k + 1) h)) (get_or h k 0)) _ _ (le-leb (earliest c (drop (k + 1) h)) (get_or h k 0) (omega arith)) (goes_on (leb (get_or h k 0) t) _ _ (le-leb (get_or h k 0) t (omega arith)) refl) ∙ sym left_here

pub left_end : (c : Connection) (t : ℕ) (h : Past) (k : ℕ) → length h ≤ k → true ≡ left_in_time c t (drop k h)
left_end c t h k l = ap (left_in_time c t) (sym (drop_of_length-le h {i = k} l))

-- of number c: it is free, has too many rows, or what has left decides
module _ (h : Hub) (t : List ℕ) (c n : ℕ) (x : Connection) (i : x ≡ nth (connections_in t) c) where
  pub nothing_asked : x.level ≡ 0 → true ≡ left_with h t n c
  nothing_asked z = sym (ap (λ (b : Bool). not b || left_sound h.link (nth (connections_in t) c) h.clock n (past_in t c)) (level_free (connections_in t) c (ap (λ (y : Connection). y.level) (sym i) ∙ z)))

  module _ (own : x.level ≡ 0 → ⊥) (r : ℕ) (e : r ≡ reservation h.link x) where
    asked : left_with h t n c ≡ left_sound h.link (nth (connections_in t) c) h.clock n (past_in t c)
    asked = ap (λ (b : Bool). not b || left_sound h.link (nth (connections_in t) c) h.clock n (past_in t c)) (level_owned (connections_in t) c (λ z. own (ap (λ (y : Connection). y.level) i ∙ z)))

    pub too_many : r < n → false ≡ left_with h t n c
    too_many l =
        fails (leb n (reservation h.link (nth (connections_in t) c))) _ (lt-leb n (reservation h.link (nth (connections_in t) c)) (omega (arith, ap (reservation h.link) i)))
        ∙ sym asked

    pub not_too_many : n ≤ r → (last : ℕ) → last ≡ h.clock + margin (ahead h.link x) → (z : Connection) (new : Past) → z ≡ nth (connections_in t) c → new ≡ past_in t c
        → (b : Bool) → b ≡ left_in_time z last new → b ≡ left_with h t n c
    not_too_many l last g z new j k b f =
        goes_on (leb n (reservation h.link (nth (connections_in t) c))) _ b (le-leb n (reservation h.link (nth (connections_in t) c)) (omega (arith, ap (reservation h.link) i)))
        (f
        ∙ ap (λ (y : Connection). left_in_time y last new) j
        ∙ ap (left_in_time (nth (connections_in t) c) last) k
        ∙ ap (λ (a : ℕ). left_in_time (nth (connections_in t) c) a (past_in t c)) (g ∙ ap (λ (y : Connection). h.clock + margin (ahead h.link y)) i))
        ∙ sym asked

-- the figures of a number within the limits: its reservation can be counted
pub reserves : (l : Link) (cs : List Connection) → Within l cs → (c : ℕ) (x : Connection) → x ≡ nth cs c → Reserves l x
reserves l cs W c x e = let k = entry_limits l cs W c x e in (k.free_blank, k.owner_gap, k.reach_fits)

-- up to where what has left may lie, by whether its packets may go early
module _ (l : Link) (x : Connection) where
  pub left_past : goes_early l x ≡ true → (t a d : ℕ) → a ≡ t → d ≡ distance l x → a + d ≡ t + margin (ahead l x)
  left_past e t a d f g = rw (ahead_on l x e, f, g)

  pub left_by_now : goes_early l x ≡ false → (t a : ℕ) → a ≡ t → a ≡ t + margin (ahead l x)
  left_by_now e t a f = omega (arith, ap margin (ahead_off l x e))

  -- a reservation that can be counted leaves room for the clock beside the distance
  pub distance_room : Reserves l x → x.gap < beyond_32_bits → (t : ℕ) → t < beyond_32_bits → t + distance l x < beyond_32_bits * beyond_32_bits
  distance_room R g t k = fits (reservation l x) x.gap (few (same x.level 0)) g
    where
      few : (x.level ≡ 0) ⊎ (x.level ≡ 0 → ⊥) → reservation l x < beyond_32_bits
      few (inl z) = omega (arith, ap (reservation l) (R.0 z), reservation_free l)
      few (inr n) = omega (arith, reservation_is l x, count_le x (x.allowance + bound l x.level) (R.1 n), R.2)

      fits : (a b : ℕ) → a < beyond_32_bits → b < beyond_32_bits → t + a * b < beyond_32_bits * beyond_32_bits
      fits a b h i = omega (arith, k, mul-le-mul_right {m = a} {n = beyond_32_bits - 1} b (omega arith), mul-le-mul_left {m = b} {n = beyond_32_bits - 1} (beyond_32_bits - 1) (omega arith))

-- ---- the pass

-- how late by the gap: three cases
module _ (c : Connection) (t : ℕ) (h : Past) (a : ℕ) (e : a ≡ ticks_after c.gap (nth_before 1 h)) where
  pub latest_plain : burst c ≡ 0 → max a (t + c.gap) ≡ latest_by_gap c t h
  unfolding latest_by_gap
  latest_plain z = rw (e, z)

  pub latest_unknown : (burst c ≡ 0 → ⊥) → nth_before (burst c) h ≡ none → max a (t + c.window) ≡ latest_by_gap c t h
  unfolding latest_by_gap
  latest_unknown n z = rw (e, z, ne_eqb (burst c) 0 n)

  pub latest_known : (b v : ℕ) → nth_before (burst c) h ≡ some v → b ≡ ticks_after c.window (nth_before (burst c) h) → max a b ≡ latest_by_gap c t h
  unfolding latest_by_gap
  latest_known b v z g = rw (e, g, z)

pub latest_by_known : (m : Member) (t a b : ℕ) → a ≡ ticks_after m.figures.gap (nth_before 1 (past_of m)) → (n : ℕ) → n ≡ burst (connection_of m) → (n ≡ 0 → ⊥) → n ≤ m.known → n ≤ length m.ticks
    → b ≡ ticks_after m.figures.window (nth_before n (past_of m)) → max a b ≡ latest_by_gap (connection_of m) t (past_of m)
latest_by_known m t a b e n f z k l g =
    latest_known (connection_of m) t (past_of m) a e b _ (ap (λ (i : ℕ). nth_before i (past_of m)) (sym f) ∙ is_known m n z k l) (g ∙ ap (λ (i : ℕ). ticks_after m.figures.window (nth_before i (past_of m))) f)

-- how late, by its kind
module _ (c : Connection) (t : ℕ) (h : Past) where
  pub latest_stamped : stamped c ≡ true → t + c.allowance ≡ latest c t h
  unfolding latest
  latest_stamped e = rw e

  pub latest_gap : stamped c ≡ false → latest_by_gap c t h ≡ latest c t h
  unfolding latest
  latest_gap e = rw e

-- .. where its packets may go early: three cases
module _ (c : Connection) (r t : ℕ) (h : Past) (a b : ℕ) (e : a ≡ t) (f : b ≡ r) where
  pub early_open : settles c t h ≡ false → a + b ≡ latest_early c r t h
  unfolding latest_early
  early_open o = rw (e, f, o)

  module _ (o : settles c t h ≡ true) (u v w : ℕ) (i : u ≡ t) (j : v ≡ earliest c h) (k : w ≡ max u v) where
    settled : latest_early c r t h ≡ min (a + b) w
    unfolding latest_early
    settled = rw (o, k, e, f, i, j)

    pub early_far : a + b < w → a + b ≡ latest_early c r t h
    early_far l = sym (settled ∙ omega arith)

    pub early_settled : w ≤ a + b → w ≡ latest_early c r t h
    early_settled l = sym (settled ∙ omega arith)

-- .. and either way
module _ (l : Link) (c : Connection) (t : ℕ) (h : Past) where
  pub last_early : goes_early l c ≡ true → latest_early c (distance l c) t h ≡ last_tick c (ahead l c) t h
  last_early e = ap (λ (a : Option ℕ). last_tick c a t h) (sym (ahead_on l c e))

  pub last_eligible : goes_early l c ≡ false → max t (latest c t h) ≡ last_tick c (ahead l c) t h
  last_eligible e = ap (λ (a : Option ℕ). last_tick c a t h) (sym (ahead_off l c e))

module _ (l : Link) (t places : List ℕ) (clock i : ℕ) (h : i < length (rows places)) where
  abbrev passed : List Packet
  passed = take i (rows places)

  abbrev row : Packet
  row = row_at places i

  -- one more row remembered
  pub pass_next : (u v : List ℕ) → Remembers t u (past_with t passed) → (p : Packet) → p ≡ row → p.connection < max_connections
      → v ≡ with_past u p.connection (remember (past_in u p.connection) p.eligibility) → Remembers t v (past_with t (take (i + 1) (rows places)))
  pass_next u v R p e k f =
      subst (λ (ps : List Packet). Remembers t v (past_with t ps)) (sym (rows_next places i h ∙ ap (λ (q : Packet). passed ++ q ∷ []) (sym e)))
      (remembers_put t u (past_with t passed) R c (remember (past_in u c) p.eligibility) k (remember_few (past_in u c) p.eligibility) v f (past_with t (passed ++ p ∷ [])) own others)
    where
      c : ℕ
      c = p.connection

      own : past_with t (passed ++ p ∷ []) c ≡ remember (past_in u c) p.eligibility
      own =
          ap (remember_all (past_in t c)) (eligibilities_snoc_same c passed p refl)
          ∙ remember_all_snoc (past_in t c) (eligibilities c passed) p.eligibility
          ∙ ap (λ (m : Past). remember m p.eligibility) (sym (R.pasts c k))

      others : (j : ℕ) → (j ≡ c → ⊥) → past_with t (passed ++ p ∷ []) j ≡ past_with t passed j
      others j n = ap (remember_all (past_in t j)) (eligibilities_snoc_other j passed p (λ i. n (sym i)))

  -- and the test of it
  module _ (u : List ℕ) (R : Remembers t u (past_with t passed)) (p : Packet) (e : p ≡ row) (k : p.connection < max_connections) (r : Bool)
      (f : r ≡ in_pace (nth (connections_in u) p.connection) (ahead l (nth (connections_in u) p.connection)) clock (past_in u p.connection) p.eligibility) where
    abbrev rest : ℕ → Bool
    rest j = paced l (connections_in t) clock (past_in t) (take j (rows places)) (drop j (rows places))

    step : rest i ≡ (r && rest (i + 1))
    step =
        ap (paced l (connections_in t) clock (past_in t) passed) (rows_from places i h ∙ ap (λ (q : Packet). q ∷ drop (suc i) (rows places)) (sym e))
        ∙ ap (λ (b : Bool). b && paced l (connections_in t) clock (past_in t) (passed ++ p ∷ []) (drop (suc i) (rows places))) (sym asked)
        ∙ ap (λ (ps : List Packet). r && paced l (connections_in t) clock (past_in t) ps (drop (suc i) (rows places))) (sym (rows_next places i h ∙ ap (λ (q : Packet). passed ++ q ∷ []) (sym e)))
        ∙ ap (λ (j : ℕ). r && paced l (connections_in t) clock (past_in t) (take (i + 1) (rows places)) (drop j (rows places))) (sym (add-one i))
      where
        asked : r ≡ in_pace (nth (connections_in t) p.connection) (ahead l (nth (connections_in t) p.connection)) clock (past_with t passed p.connection) p.eligibility
        asked =
            f
            ∙ ap (λ (m : Past). in_pace (nth (connections_in u) p.connection) (ahead l (nth (connections_in u) p.connection)) clock m p.eligibility) (R.pasts p.connection k)
            ∙ ap (λ (cs : List Connection). in_pace (nth cs p.connection) (ahead l (nth cs p.connection)) clock (past_with t passed p.connection) p.eligibility) R.same

    pub pass_stops : r ≡ false → false ≡ rest i
    pass_stops z = sym (step ∙ ap (λ (b : Bool). b && rest (i + 1)) z)

    pub pass_goes : r ≡ true → rest (i + 1) ≡ rest i
    pass_goes z = sym (step ∙ ap (λ (b : Bool). b && rest (i + 1)) z)

pub pass_end : (l : Link) (t places : List ℕ) (clock i : ℕ) → i ≡ length (rows places) → true ≡ paced l (connections_in t) clock (past_in t) (take i (rows places)) (drop i (rows places))
pass_end l t places clock i e = ap (paced l (connections_in t) clock (past_in t) (take i (rows places))) (sym (drop_of_length-le (rows places) {i = i} (omega arith)))

pub remembers_all : (t u places : List ℕ) (i : ℕ) → i ≡ length (rows places) → Remembers t u (past_with t (take i (rows places))) → Remembers t u (past_with t (rows places))
remembers_all t u places i e R = subst (λ (ps : List Packet). Remembers t u (past_with t ps)) (ap (λ (k : ℕ). take k (rows places)) e ∙ take-length (rows places)) R

-- ---- all numbers

paced_agree : (l : Link) (cs : List Connection) (t : ℕ) (old new : ℕ → Past) (before ps : List Packet) → All (λ p. old p.connection ≡ new p.connection) ps
    → paced l cs t old before ps ≡ paced l cs t new before ps
paced_agree l cs t old new before [] h = refl
paced_agree l cs t old new before (p ∷ ps) h = rw (h.0, paced_agree l cs t old new (before ++ p ∷ []) ps h.1)

-- no row is of a free number
free_rows : (cs : List Connection) (ps : List Packet) (c : ℕ) → All (λ p. owned cs p.connection ≡ true) ps → owned cs c ≡ false → of c ps ≡ []
free_rows cs [] c N o = refl
free_rows cs (p ∷ ps) c N o = cond_is (p ∷ of c ps) (of c ps) (ne_eqb p.connection c other) ∙ free_rows cs ps c N.1 o
  where
    other : p.connection ≡ c → ⊥
    other e = let z : false ≡ true = sym o ∙ ap (owned cs) (sym e) ∙ N.0 in never z

module _ (h : Hub) (t : Tables) (names : Names t.members t.places) (seen : List ℕ) (T : Counts length seen (rows t.places)) where
  abbrev held : List Packet
  held = rows t.places

  pub closed_all : every max_connections (λ c. closed_with h t.members (get_or seen c 0) c) ≡ every max_connections (closed_sound (view h t))
  closed_all =
      every_same max_connections (λ c. closed_with h t.members (get_or seen c 0) c) (closed_sound (view h t))
      (λ c l. ap (λ (n : ℕ). closed_with h t.members n c) (T.counts c l))

  module _ (formed : rows_formed t.members ≡ true) (u : List ℕ) (U : Remembers t.members u (λ c. drop (get_or seen c 0) (past_in t.members c))) where
    -- what has left of connection c
    left : (c : ℕ) → c < max_connections → past_in u c ≡ departed_by (view h t) c
    left c l = U.pasts c l ∙ ap (λ (n : ℕ). drop n (past_in t.members c)) (T.counts c l ∙ sym (length-map (of c held) (λ (p : Packet). p.eligibility)))

    pub before_all : every max_connections (λ c. left_with h u (get_or seen c 0) c) ≡ every max_connections (before_pass (view h t))
    before_all = every_same max_connections (λ c. left_with h u (get_or seen c 0) c) (before_pass (view h t)) one
      where
        one : (c : ℕ) → c < max_connections → left_with h u (get_or seen c 0) c ≡ before_pass (view h t) c
        one c l =
            ap (λ (cs : List Connection). not (owned cs c) || left_sound h.link (nth cs c) h.clock (get_or seen c 0) (past_in u c)) U.same
            ∙ ap (λ (k : ℕ). not (owned (connections_in t.members) c) || left_sound h.link (nth (connections_in t.members) c) h.clock k (past_in u c)) (T.counts c l)
            ∙ ap (λ (m : Past). not (owned (connections_in t.members) c) || left_sound h.link (nth (connections_in t.members) c) h.clock (length (of c held)) m) (left c l)

    pub paced_all : paced h.link (connections_in u) h.clock (past_in u) [] held ≡ paced h.link (connections_in t.members) h.clock (departed_by (view h t)) [] held
    paced_all =
        ap (λ (cs : List Connection). paced h.link cs h.clock (past_in u) [] held) U.same
        ∙ paced_agree h.link (connections_in t.members) h.clock (past_in u) (departed_by (view h t)) [] held
        (all_from (λ p. past_in u p.connection ≡ departed_by (view h t) p.connection) held no_packet
        (λ k l. left (get_or held k no_packet).connection (subst (λ (p : Packet). p.connection < max_connections) (sym (row_is t.places k l)) (named t.members t.places names k l))))

    -- behind the pass the table is the one that was handed in exactly where each connection remembers what it should
    module _ (v : List ℕ) (W : Remembers u v (past_with u held)) where
      new : (c : ℕ) → c < max_connections → past_in v c ≡ remember_all (departed_by (view h t) c) (eligibilities c held)
      new c l = W.pasts c l ∙ ap (λ (m : Past). remember_all m (eligibilities c held)) (left c l)

      -- .. which a free one does, as it has no rows
      new_free : (c : ℕ) → c < max_connections → owned (connections_in t.members) c ≡ false → past_in v c ≡ past_in t.members c
      new_free c l o =
          new c l
          ∙ ap (λ (ps : List Packet). remember_all (departed_of (past_in t.members c) (map (λ p. p.eligibility) ps)) (map (λ p. p.eligibility) ps)) (free_rows (connections_in t.members) held c owners o)
        where
          owners : All (λ p. owned (connections_in t.members) p.connection ≡ true) held
          owners =
              all_from (λ p. owned (connections_in t.members) p.connection ≡ true) held no_packet
              (λ k i. subst (λ (p : Packet). owned (connections_in t.members) p.connection ≡ true) (sym (row_is t.places k i)) (names k i))

      kept_as : t.members ≡ v → (c : ℕ) → c < max_connections → behind_pass (view h t) c ≡ true
      kept_as e c l =
          let g : past_in t.members c ≡ remember_all (departed_by (view h t) c) (eligibilities c held) = ap (λ (w : List ℕ). past_in w c) e ∙ new c l in
          or_intro (not (owned (connections_in t.members) c)) _
          (λ o. and_intro (leb (length (past_in t.members c)) max_remembered) _ (le-leb _ _ (past_few t.members c formed l)) (ap (same_numbers (past_in t.members c)) (sym g) ∙ same_intro (past_in t.members c)))

      kept_back : ((c : ℕ) → c < max_connections → behind_pass (view h t) c ≡ true) → t.members ≡ v
      kept_back f =
          table_written t.members formed
          ∙ ap (λ (hs : List Past). written_table (connections_in t.members) hs (closed_in t.members) (used_in t.members) (first_in t.members)) pasts
          ∙ ap (λ (cs : List Connection). written_table cs (pasts_in v) (closed_in t.members) (used_in t.members) (first_in t.members)) (sym (W.same ∙ U.same))
          ∙ ap (λ (bs : List Bool). written_table (connections_in v) (pasts_in v) bs (used_in t.members) (first_in t.members)) (sym (W.marks ∙ U.marks))
          ∙ ap (λ (n : ℕ). written_table (connections_in v) (pasts_in v) (closed_in v) n (first_in t.members)) (sym (W.used ∙ U.used))
          ∙ ap (λ (n : ℕ). written_table (connections_in v) (pasts_in v) (closed_in v) (used_in v) n) (sym (W.first ∙ U.first))
          ∙ sym (table_written v W.shape)
        where
          at : (c : ℕ) → c < length (pasts_in t.members) → past_in t.members c ≡ past_in v c
          at c i = go (owned (connections_in t.members) c) refl
            where
              l : c < max_connections
              l = omega (arith, pasts_length t.members)

              go : (b : Bool) → owned (connections_in t.members) c ≡ b → past_in t.members c ≡ past_in v c
              go true o =
                  same_true (past_in t.members c) _
                  (and_true (leb (length (past_in t.members c)) max_remembered) _ (or_true (not (owned (connections_in t.members) c)) _ (f c l) (ap not o))).1
                  ∙ sym (new c l)
              go false o = sym (new_free c l o)

          pasts : pasts_in t.members ≡ pasts_in v
          pasts = ext_get_or no_past (pasts_in t.members) (pasts_in v) (pasts_length t.members ∙ sym (pasts_length v)) at

      pub behind_all : same_numbers t.members v ≡ every max_connections (behind_pass (view h t))
      behind_all =
          both_ways (same_numbers t.members v) (every max_connections (behind_pass (view h t)))
          (λ e. every_intro max_connections (behind_pass (view h t)) (kept_as (same_true t.members v e)))
          (λ e. ap (same_numbers t.members) (sym (kept_back (every_true max_connections (behind_pass (view h t)) e))) ∙ same_intro t.members)

    -- the test ends where what has left fails, where the pass does, or with what is remembered
    module _ (a : Bool) (is_left : a ≡ every max_connections (λ c. left_with h u (get_or seen c 0) c)) where
      pub left_ends : not a ≡ true → false ≡ queues_sound (view h t)
      left_ends n = stops _ (is_left ∙ before_all) n

      module _ (n : not a ≡ false) (b : Bool) (is_paced : b ≡ paced h.link (connections_in u) h.clock (past_in u) [] held) where
        pub pass_ends : not b ≡ true → false ≡ queues_sound (view h t)
        pass_ends m = passes_on (is_left ∙ before_all) n (stops _ (is_paced ∙ paced_all) m)

        pub memory_ends : not b ≡ false → (v : List ℕ) → Remembers u v (past_with u held) → (r : Bool) → r ≡ same_numbers t.members v → r ≡ queues_sound (view h t)
        memory_ends m v W r e = passes_on (is_left ∙ before_all) n (passes_on (is_paced ∙ paced_all) m (e ∙ behind_all v W))

-- ---- those that are closed

-- number c, by its mark
module _ (h : Hub) (t : List ℕ) (c n : ℕ) (l : c < max_connections) (mark : ℕ) (e : mark ≡ get_or (row_in member_width t c) 7 0) where
  pub not_closed : mark ≡ 0 → true ≡ closed_with h t n c
  not_closed z =
      sym (ap (λ (b : Bool). not b || (eqb n 0 && not (charge_over (charge_time h.link) h.clock (past_in t c)))) (closed_is t c l ∙ ap not (eq-eqb (get_or (row_in member_width t c) 7 0) 0 (sym e ∙ z))))

  module _ (m : mark ≡ 0 → ⊥) where
    marked : closed_with h t n c ≡ (eqb n 0 && not (charge_over (charge_time h.link) h.clock (past_in t c)))
    marked =
        ap (λ (b : Bool). not b || (eqb n 0 && not (charge_over (charge_time h.link) h.clock (past_in t c)))) (closed_is t c l ∙ ap not (ne_eqb (get_or (row_in member_width t c) 7 0) 0 (λ z. m (e ∙ z))))

    pub holds_one : (n ≡ 0 → ⊥) → false ≡ closed_with h t n c
    holds_one k = fails (eqb n 0) _ (ne_eqb n 0 k) ∙ sym marked

    pub charged_by : n ≡ 0 → (time : ℕ) → time ≡ charge_time h.link → (old : Past) → old ≡ past_in t c → (r : Bool) → r ≡ charge_over time h.clock old → not r ≡ closed_with h t n c
    charged_by z time b old o r k =
        goes_on (eqb n 0) _ _ (eq-eqb n 0 z)
        (ap not (k ∙ ap (λ (d : ℕ). charge_over d h.clock old) b ∙ ap (charge_over (charge_time h.link) h.clock) o))
        ∙ sym marked
