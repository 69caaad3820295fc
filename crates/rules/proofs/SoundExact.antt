-- The test of a sound state is true exactly of a sound state.
use Prim.Native.Nat.{ℕ, zero, suc, ◌+◌, ◌≤◌, ◌<◌}
use native.Mathlib.Omega.{arith}
use mathlib.Core.Path.{◌≡◌, refl, sym, ap, ◌∙◌}
use mathlib.Core.Bool.{Bool, true, false, cond, not, ◌&&◌, true≢false}
use mathlib.Core.Logic.{◌⊎◌, ⊎_elim, ◌↔◌}
use mathlib.Core.List.{List, [], ◌∷◌}
use mathlib.Core.Option.{Option}
use lib.Dec.{leb, eqb}
use lib.ListN.{length, get_or, replicate, get_or-eq_default}
use borrow.Author.Tests.{not-true, not-false, leb-true, le-leb, eqb-true, eqb-false, eq-eqb, ne_eqb}
use Rattle.rules.specs.Words.{within, every, each}
use Rattle.rules.specs.Limits.{max_levels, max_connections, clock_end, max_notices, notice_number, max_remembered}
use Rattle.rules.specs.Model.{Link, Connection, Past, Packet, Notice, State, no_link, no_connection, no_past, fresh, nth, past, figures, closed_at}
use Rattle.rules.specs.Admission.{link_within, level_within, figures_within, owned, charge_time, reservation, passes, ahead}
use Rattle.rules.specs.Service.{earliest, remember_all, of, eligibilities, early_at, wire, charge_over, expired}
use Rattle.rules.specs.SoundState.{margin, Orderly, departed_of, Fits, Dated, Waits, SoundWithLink, Sound}
use Rattle.rules.proofs.Doings.{FreeNumber}
use Rattle.rules.proofs.LineWords.{Idle, InService, Serves}
use Rattle.rules.specs.SoundTest.{all_zero, blank, free_sound, one_each, number_sound, closed_sound, nothing_used, connection_sound, admissions_sound, row_sound, departed_by, paced, left_in_time, same_numbers, kept_sound, before_pass, behind_pass, queues_sound, rows_sound, notice_sound, notices_sound, line_sound, sound}
use Rattle.rules.proofs.Lists.{All, all_map}
use Rattle.rules.proofs.Sums.{split, cond_is}
use Rattle.rules.proofs.Tests.{never, and_true, and_intro, or_true, or_intro, within_true, within_intro, every_true, every_intro, each_true, each_intro}
use Rattle.rules.proofs.LevelTest.{test_holds, holds_test}
use Rattle.rules.proofs.Queue.{Chain, KeptPast, queue_chain, queue_kept, queue_of}
use Rattle.rules.proofs.Spacing.{Back}
use Rattle.rules.proofs.Figures.{connection_facts}
use Rattle.rules.proofs.SoundTick.{no_notice, facts}
use Rattle.rules.proofs.WireTest.{line_true as wire_line_true, line_intro as wire_line_intro}
use Rattle.rules.proofs.Scan.{paced_chain, chain_paced}
use Rattle.rules.proofs.Standing.{owned_below, charged_unexpired, open_unexpired, unexpired_charged}
use Rattle.rules.proofs.Rows.{nil_of}

-- ---- with no link set

zeros_of : (n : ℕ) (ds : List ℕ) → length ds ≡ n → each (λ d. eqb d 0) ds ≡ true → ds ≡ replicate n 0
zeros_of zero ds e z = nil_of ds e
zeros_of (suc n) [] e z = absurd (omega arith)
zeros_of (suc n) (d ∷ ds) e z =
    let k = and_true (eqb d 0) (each (λ x. eqb x 0) ds) z in
    let i : d ≡ 0 = eqb-true d 0 k.0 in
    let r : ds ≡ replicate n 0 = zeros_of n ds (omega arith) k.1 in
    cc

blank_link : (n most q y : ℕ) (ds ws : List ℕ) → n ≡ 0 → most ≡ 0 → q ≡ 0 → y ≡ 0 → ds ≡ replicate max_levels 0 → ws ≡ replicate max_levels 0
    → ◌≡◌ {A = Link} (record { levels = n; largest = most; silence = q; early = y; bounds = ds; windows = ws }) no_link
blank_link n most q y ds ws e f g i h j = rw (e, f, g, i, h, j)

-- one entry for each number, all the same
same_entries : {A : Type 0} (n : ℕ) (xs : List A) (a d : A) → length xs ≡ n → ((c : ℕ) → c < n → get_or xs c d ≡ a) → xs ≡ replicate n a
same_entries zero xs a d e h = nil_of xs e
same_entries (suc n) [] a d e h = absurd (omega arith)
same_entries (suc n) (x ∷ xs) a d e h =
    let i : x ≡ a = h 0 (omega arith) in
    let r : xs ≡ replicate n a = same_entries n xs a d (omega arith) (λ c l. h (suc c) (omega arith)) in
    cc

blank_connection : (a b c d e f g : ℕ) → a ≡ 0 → b ≡ 0 → c ≡ 0 → d ≡ 0 → e ≡ 0 → f ≡ 0 → g ≡ 0
    → ◌≡◌ {A = Connection} (record { level = a; gap = b; size = c; window = d; average = e; kind = f; allowance = g }) no_connection
blank_connection a b c d e f g i j k l m n o = rw (i, j, k, l, m, n, o)

blank_true : (x : Connection) → blank x ≡ true → x ≡ no_connection
blank_true x h =
    let a = and_true (eqb x.level 0) _ h in
    let b = and_true (eqb x.gap 0) _ a.1 in
    let c = and_true (eqb x.size 0) _ b.1 in
    let d = and_true (eqb x.window 0) _ c.1 in
    let e = and_true (eqb x.average 0) _ d.1 in
    let f = and_true (eqb x.kind 0) (eqb x.allowance 0) e.1 in
    blank_connection x.level x.gap x.size x.window x.average x.kind x.allowance
    (eqb-true _ 0 a.0) (eqb-true _ 0 b.0) (eqb-true _ 0 c.0) (eqb-true _ 0 d.0) (eqb-true _ 0 e.0) (eqb-true _ 0 f.0) (eqb-true _ 0 f.1)

free_true : (s : State) (c : ℕ) → free_sound s c ≡ true → FreeNumber s c
free_true s c h =
    let a = and_true (blank (figures s c)) _ h in
    let b = and_true (eqb (length (past s c)) 0) (not (closed_at s c)) a.1 in
    (blank_true (figures s c) a.0, nil_of (past s c) (eqb-true _ 0 b.0), not-true _ b.1)

free_intro : (s : State) (c : ℕ) → FreeNumber s c → free_sound s c ≡ true
free_intro s c f = rw (f.0, f.1, f.2) refl

blank_state : (l : Link) (cs : List Connection) (hs : List Past) (ms : List Bool) (t : ℕ) (ps : List Packet) (ns : List Notice) (w u q : ℕ)
    → l ≡ no_link → cs ≡ fresh.connections → hs ≡ fresh.pasts → ms ≡ fresh.closed → t ≡ 0 → ps ≡ [] → ns ≡ [] → w ≡ 0 → u ≡ 0 → q ≡ 0
    → ◌≡◌ {A = State} (record { link = l; connections = cs; pasts = hs; closed = ms; clock = t; held = ps; notices = ns; serving = w; to_go = u; silent = q }) fresh
blank_state l cs hs ms t ps ns w u q a b c m d e f g h i = rw (a, b, c, m, d, e, f, g, h, i)

module _ (s : State) where
  abbrev OneEach : Type 0
  OneEach = (length s.connections ≡ max_connections) × (length s.pasts ≡ max_connections) × (length s.closed ≡ max_connections)

  one_each_true : one_each s ≡ true → OneEach
  one_each_true h =
      let a = and_true (eqb (length s.connections) max_connections) _ h in
      let b = and_true (eqb (length s.pasts) max_connections) (eqb (length s.closed) max_connections) a.1 in
      (eqb-true _ _ a.0, eqb-true _ _ b.0, eqb-true _ _ b.1)

  one_each_intro : OneEach → one_each s ≡ true
  one_each_intro k =
      and_intro (eqb (length s.connections) max_connections) _ (eq-eqb _ _ k.0)
      (and_intro (eqb (length s.pasts) max_connections) (eqb (length s.closed) max_connections) (eq-eqb _ _ k.1) (eq-eqb _ _ k.2))

  fresh_of : s.link.levels ≡ 0 → nothing_used s ≡ true → s ≡ fresh
  unfolding nothing_used
  fresh_of z h =
      let a = and_true (all_zero s.link) _ h in
      let l = and_true (eqb s.link.largest 0) _ a.0 in
      let k = and_true (eqb s.link.silence 0) _ l.1 in
      let y = and_true (eqb s.link.early 0) _ k.1 in
      let v = and_true (eqb (length s.link.bounds) max_levels && each (λ d. eqb d 0) s.link.bounds) _ y.1 in
      let b = and_true (eqb (length s.link.bounds) max_levels) _ v.0 in
      let x = and_true (eqb (length s.link.windows) max_levels) _ v.1 in
      let c = and_true (one_each s) _ a.1 in
      let d = and_true (every max_connections (free_sound s)) _ c.1 in
      let e = and_true (eqb s.clock 0) _ d.1 in
      let f = and_true (eqb (length s.held) 0) _ e.1 in
      let n = and_true (eqb (length s.notices) 0) _ f.1 in
      let g = and_true (eqb s.serving 0) _ n.1 in
      let u = and_true (eqb s.to_go 0) (eqb s.silent 0) g.1 in
      let w = one_each_true c.0 in
      let free : (j : ℕ) → j < max_connections → FreeNumber s j = λ j i. free_true s j (every_true max_connections (free_sound s) d.0 j i) in
      let e1 : s.link.largest ≡ 0 = eqb-true _ 0 l.0 in
      let e2 : s.link.bounds ≡ replicate max_levels 0 = zeros_of max_levels s.link.bounds (eqb-true _ max_levels b.0) b.1 in
      let e3 : s.connections ≡ replicate max_connections no_connection = same_entries max_connections s.connections no_connection no_connection w.0 (λ j i. (free j i).0) in
      let e4 : s.pasts ≡ replicate max_connections no_past = same_entries max_connections s.pasts no_past no_past w.1 (λ j i. (free j i).1) in
      let e12 : s.closed ≡ replicate max_connections false = same_entries max_connections s.closed false false w.2 (λ j i. (free j i).2) in
      let e14 : s.link.windows ≡ replicate max_levels 0 = zeros_of max_levels s.link.windows (eqb-true _ max_levels x.0) x.1 in
      let e5 : s.clock ≡ 0 = eqb-true _ 0 e.0 in
      let e6 : s.held ≡ [] = nil_of s.held (eqb-true _ 0 f.0) in
      let e9 : s.notices ≡ [] = nil_of s.notices (eqb-true _ 0 n.0) in
      let e7 : s.serving ≡ 0 = eqb-true _ 0 g.0 in
      let e8 : s.to_go ≡ 0 = eqb-true _ 0 u.0 in
      let e10 : s.silent ≡ 0 = eqb-true _ 0 u.1 in
      let e11 : s.link.silence ≡ 0 = eqb-true _ 0 k.0 in
      let e13 : s.link.early ≡ 0 = eqb-true _ 0 y.0 in
      blank_state s.link s.connections s.pasts s.closed s.clock s.held s.notices s.serving s.to_go s.silent
      (blank_link s.link.levels s.link.largest s.link.silence s.link.early s.link.bounds s.link.windows z e1 e11 e13 e2 e14) e3 e4 e12 e5 e6 e9 e7 e8 e10

nothing_of_fresh : nothing_used fresh ≡ true
unfolding nothing_used
nothing_of_fresh = refl

-- ---- the rows

row_true : (cs : List Connection) (t : ℕ) (p : Packet) → row_sound cs t p ≡ true → Fits cs p × Dated t p
row_true cs t p h =
    let a = and_true (owned cs p.connection) _ h in
    let b = and_true (within 1 (nth cs p.connection).size p.len) _ a.1 in
    let c = and_true (leb p.arrival t) (leb p.arrival p.eligibility) b.1 in
    let w = within_true 1 (nth cs p.connection).size p.len b.0 in
    (record { owner = a.0; some_len = w.0; len_le = w.1 }, record { arrived = leb-true _ _ c.0; not_before = leb-true _ _ c.1 })

row_intro : (cs : List Connection) (t : ℕ) (p : Packet) → Fits cs p → Dated t p → row_sound cs t p ≡ true
row_intro cs t p f d =
    and_intro (owned cs p.connection) _ f.owner
    (and_intro (within 1 (nth cs p.connection).size p.len) _ (within_intro 1 (nth cs p.connection).size p.len f.some_len f.len_le)
    (and_intro (leb p.arrival t) (leb p.arrival p.eligibility) (le-leb _ _ d.arrived) (le-leb _ _ d.not_before)))

-- ---- what is remembered

pub same_true : (xs ys : List ℕ) → same_numbers xs ys ≡ true → xs ≡ ys
same_true [] [] e = refl
same_true [] (b ∷ ys) e = never e
same_true (a ∷ xs) [] e = never e
same_true (a ∷ xs) (b ∷ ys) e =
    let k = and_true (eqb a b) (same_numbers xs ys) e in
    let i : a ≡ b = eqb-true a b k.0 in
    let j : xs ≡ ys = same_true xs ys k.1 in
    cc

pub same_intro : (xs : List ℕ) → same_numbers xs xs ≡ true
same_intro [] = refl
same_intro (a ∷ xs) = and_intro (eqb a a) (same_numbers xs xs) (eq-eqb a a refl) (same_intro xs)

module _ (c : Connection) (t : ℕ) where
  left_true : (h : List ℕ) → left_in_time c t h ≡ true → Back c h × All (λ e. e ≤ t) h
  left_true [] e = (tt, tt)
  left_true (a ∷ h) e =
      let k = and_true (leb (earliest c h) a) _ e in
      let i = and_true (leb a t) (left_in_time c t h) k.1 in
      let r = left_true h i.1 in
      ((leb-true _ _ k.0, r.0), (leb-true _ _ i.0, r.1))

  left_intro : (h : List ℕ) → Back c h → All (λ e. e ≤ t) h → left_in_time c t h ≡ true
  left_intro [] k g = refl
  left_intro (a ∷ h) k g = and_intro (leb (earliest c h) a) _ (le-leb _ _ k.0) (and_intro (leb a t) (left_in_time c t h) (le-leb _ _ g.0) (left_intro h k.1 g.1))

module _ (c : Connection) (a : Option ℕ) (t : ℕ) (h : Past) (es : List ℕ) where
  kept_true : left_in_time c (t + margin a) (departed_of h es) ≡ true → kept_sound h (remember_all (departed_of h es) es) ≡ true → KeptPast c a t h es
  kept_true l e =
      let b = and_true (leb (length h) max_remembered) (same_numbers h (remember_all (departed_of h es) es)) e in
      let r = left_true c (t + margin a) (departed_of h es) l in
      record { few = leb-true _ _ b.0; last_rows = sym (same_true _ _ b.1); back = r.0; gone = r.1 }

  kept_intro : KeptPast c a t h es → kept_sound h (remember_all (departed_of h es) es) ≡ true
  kept_intro k =
      and_intro (leb (length h) max_remembered) (same_numbers h (remember_all (departed_of h es) es)) (le-leb _ _ k.few) (ap (same_numbers h) k.last_rows ∙ same_intro h)

notice_true : (l : Link) (t : ℕ) (n : Notice) → notice_sound l t n ≡ true → Waits l.largest t n
notice_true l t n h =
    let a = and_true (within 1 l.largest n.len) (leb n.arrival t) h in
    let w = within_true 1 l.largest n.len a.0 in
    record { some_len = w.0; len_le = w.1; arrived = leb-true _ _ a.1 }

notice_intro : (l : Link) (t : ℕ) (n : Notice) → Waits l.largest t n → notice_sound l t n ≡ true
notice_intro l t n f =
    and_intro (within 1 l.largest n.len) (leb n.arrival t) (within_intro 1 l.largest n.len f.some_len f.len_le) (le-leb _ _ f.arrived)

-- ---- the line: the test of one that both disciplines have

module _ (s : State) where
  line_true : line_sound s ≡ true → (Idle s ⊎ Serves s) × (s.silent ≤ s.link.silence) × (1 ≤ s.to_go → s.silent ≡ 0)
  unfolding line_sound
  line_true h = wire_line_true (early_at s) s.link.silence s.clock (wire s) h

  line_intro : (InService s → s.serving ≡ notice_number → ⊥) → (Idle s ⊎ Serves s) × (s.silent ≤ s.link.silence) × (1 ≤ s.to_go → s.silent ≡ 0) → line_sound s ≡ true
  unfolding line_sound
  line_intro away h = wire_line_intro (early_at s) s.link.silence s.clock (wire s) away h

-- ---- with a link set

module _ (s : State) where
  -- of an owner: its rows, and what is remembered
  abbrev OwnerHolds : ℕ → Type 0
  OwnerHolds c = (length (of c s.held) ≤ reservation s.link (figures s c)) × KeptPast (figures s c) (ahead s.link (figures s c)) s.clock (past s c) (eligibilities c s.held)

  owner_true : (c : ℕ) → owned s.connections c ≡ true → before_pass s c ≡ true → behind_pass s c ≡ true → OwnerHolds c
  owner_true c o before behind =
      let b = and_true (leb (length (of c s.held)) (reservation s.link (figures s c))) _ (or_true (not (owned s.connections c)) _ before (ap not o)) in
      (leb-true _ _ b.0, kept_true (figures s c) (ahead s.link (figures s c)) s.clock (past s c) (eligibilities c s.held) b.1 (or_true (not (owned s.connections c)) _ behind (ap not o)))

  before_intro : (c : ℕ) → (owned s.connections c ≡ true → OwnerHolds c) → before_pass s c ≡ true
  before_intro c f =
      or_intro (not (owned s.connections c)) _
      (λ n.
      let k = f (not-false _ n) in
      and_intro (leb (length (of c s.held)) (reservation s.link (figures s c))) _ (le-leb _ _ k.0) (left_intro (figures s c) (s.clock + margin (ahead s.link (figures s c))) (departed_by s c) k.1.back k.1.gone))

  behind_intro : (c : ℕ) → (owned s.connections c ≡ true → OwnerHolds c) → behind_pass s c ≡ true
  behind_intro c f =
      or_intro (not (owned s.connections c)) _ (λ n. kept_intro (figures s c) (ahead s.link (figures s c)) s.clock (past s c) (eligibilities c s.held) (f (not-false _ n)).1)

  -- of one that is closed: it holds nothing, and its charge is not over
  abbrev ClosedHolds : ℕ → Type 0
  ClosedHolds c = closed_at s c ≡ true → (of c s.held ≡ []) × (charge_over (charge_time s.link) s.clock (past s c) ≡ false)

  closed_true : (c : ℕ) → closed_sound s c ≡ true → ClosedHolds c
  closed_true c h k =
      let d = and_true (eqb (length (of c s.held)) 0) _ (or_true (not (closed_at s c)) _ h (ap not k)) in
      (nil_of (of c s.held) (eqb-true _ 0 d.0), not-true _ d.1)

  closed_intro : (c : ℕ) → ClosedHolds c → closed_sound s c ≡ true
  closed_intro c f =
      or_intro (not (closed_at s c)) _
      (λ m.
      let d = f (not-false _ m) in
      and_intro (eqb (length (of c s.held)) 0) _ (eq-eqb _ 0 (ap length d.0)) (ap not d.1))

  -- there is no mark behind the last number
  closed_below : length s.closed ≡ max_connections → (c : ℕ) → closed_at s c ≡ true → c < max_connections
  closed_below n c k =
      ⊎_elim (λ l. absurd (true≢false (sym k ∙ get_or-eq_default s.closed false {n = c} (omega arith)))) (λ l. l) (split max_connections c)

  linked_true : (admissions_sound s && (rows_sound s && (notices_sound s && line_sound s))) ≡ true → SoundWithLink s
  unfolding admissions_sound rows_sound notices_sound
  linked_true h =
      let x = and_true (admissions_sound s) (rows_sound s && (notices_sound s && line_sound s)) h in
      let y = and_true (rows_sound s) (notices_sound s && line_sound s) x.1 in
      let q = and_true (notices_sound s) (line_sound s) y.1 in
      let r = and_true (leb (length s.notices) max_notices) _ q.0 in
      let a = and_true (link_within s.link) _ x.0 in
      let b = and_true (one_each s) _ a.1 in
      let w = one_each_true s b.0 in
      let d = and_true (every max_connections (number_sound s)) _ b.1 in
      let e = and_true (passes s.link s.connections) _ d.1 in
      let f = and_true (leb s.clock clock_end) _ y.0 in
      let g = and_true (each (row_sound s.connections s.clock) s.held) _ f.1 in
      let u = and_true (queues_sound s) _ g.1 in
      let v = and_true (every max_connections (before_pass s)) _ u.0 in
      let i = and_true (paced s.link s.connections s.clock (departed_by s) [] s.held) _ v.1 in
      let rows = all_map (λ p k. row_true s.connections s.clock p k) s.held (each_true (row_sound s.connections s.clock) s.held g.0) in
      let below : (j : ℕ) → owned s.connections j ≡ true → j < max_connections = λ j o. omega (arith, w.0, owned_below s.connections j o) in
      let number : (j : ℕ) → j < max_connections → number_sound s j ≡ true = every_true max_connections (number_sound s) d.0 in
      let own : (j : ℕ) → owned s.connections j ≡ true → (level_within s.link (figures s j) ≡ true) × (figures_within s.link (figures s j) ≡ true)
      = λ j o. and_true (level_within s.link (figures s j)) (figures_within s.link (figures s j)) (sym (cond_is (connection_sound s.link (figures s j)) (free_sound s j) o) ∙ number j (below j o)) in
      let free : (j : ℕ) → j < max_connections → owned s.connections j ≡ false → FreeNumber s j
      = λ j l o. free_true s j (sym (cond_is (connection_sound s.link (figures s j)) (free_sound s j) o) ∙ number j l) in
      let owner : (j : ℕ) → owned s.connections j ≡ true → OwnerHolds j =
      λ j o. owner_true j o (every_true max_connections (before_pass s) v.0 j (below j o)) (every_true max_connections (behind_pass s) i.1 j (below j o)) in
      let shut : (j : ℕ) → j < max_connections → ClosedHolds j = λ j l. closed_true j (every_true max_connections (closed_sound s) u.1 j l) in
      let O : Orderly s =
      record {
        link_in = a.0;
        levels_in = λ j l. (own j l).0;
        figures_in = λ j l. (own j l).1;
        numbers = w.0;
        one_past_each = w.1;
        one_mark_each = w.2;
        free_blank = free;
        tested = test_holds s.link s.connections e.0;
        reserved_le = leb-true _ _ e.1;
        clock_le = leb-true _ _ f.0;
        fit = all_map (λ p k. k.0) s.held rows;
        dated = all_map (λ p k. k.1) s.held rows;
        room = λ j l. (owner j l).0;
        queue = λ j l.
            queue_of (figures s j) (connection_facts s.link (figures s j) (own j l).0 (own j l).1).burst_le (ahead s.link (figures s j)) s.clock (past s j) (eligibilities j s.held)
            (owner j l).1
            (paced_chain s.link s.connections s.clock (departed_by s) [] s.held i.0 j);
        line = record {
          few_notices = leb-true _ _ r.0;
          notices_fit = all_map (λ n k. notice_true s.link s.clock n k) s.notices (each_true (notice_sound s.link s.clock) s.notices r.1);
          line = (line_true s q.1).0;
          silent_le = (line_true s q.1).1;
          silent_alone = (line_true s q.1).2;
        };
        closed_empty = λ j k. (shut j (closed_below w.2 j k) k).0;
      } in
      record { orderly = O; charged = λ j l. not_expired j (shut j l) (closed_at s j) refl }
    where
      not_expired : (j : ℕ) → ClosedHolds j → (b : Bool) → closed_at s j ≡ b → expired s j ≡ false
      not_expired j f true k = charged_unexpired s j (f k).1
      not_expired j f false k = open_unexpired s j k

  linked_intro : SoundWithLink s → (admissions_sound s && (rows_sound s && (notices_sound s && line_sound s))) ≡ true
  unfolding admissions_sound rows_sound notices_sound
  linked_intro T =
      let S = T.orderly in
      and_intro (admissions_sound s) (rows_sound s && (notices_sound s && line_sound s))
      (and_intro (link_within s.link) _ S.link_in
      (and_intro (one_each s) _ (one_each_intro s (S.numbers, S.one_past_each, S.one_mark_each))
      (and_intro (every max_connections (number_sound s)) _ (every_intro max_connections (number_sound s) (λ j l. number S j l (owned s.connections j) refl))
      (and_intro (passes s.link s.connections) _ (holds_test s.link s.connections S.tested) (le-leb _ _ S.reserved_le)))))
      (and_intro (rows_sound s) (notices_sound s && line_sound s)
      (and_intro (leb s.clock clock_end) _ (le-leb _ _ S.clock_le)
      (and_intro (each (row_sound s.connections s.clock) s.held) _
      (each_intro (row_sound s.connections s.clock) s.held (all_rows s.held S.fit S.dated))
      (and_intro (queues_sound s) _
      (and_intro (every max_connections (before_pass s)) _ (every_intro max_connections (before_pass s) (λ j l. before_intro j (owner S j)))
      (and_intro (paced s.link s.connections s.clock (departed_by s) [] s.held) _
      (chain_paced s.link s.connections s.clock (departed_by s) [] s.held (all_map (λ p f. f.owner) s.held S.fit) (chained S))
      (every_intro max_connections (behind_pass s) (λ j l. behind_intro j (owner S j)))))
      (every_intro max_connections (closed_sound s) (λ j l. closed_intro j (λ k. (S.closed_empty j k, unexpired_charged s j (T.charged j l) k)))))))
      (and_intro (notices_sound s) (line_sound s)
      (and_intro (leb (length s.notices) max_notices) _ (le-leb _ _ S.line.few_notices)
      (each_intro (notice_sound s.link s.clock) s.notices (all_map (λ n f. notice_intro s.link s.clock n f) s.notices S.line.notices_fit)))
      (line_intro s (no_notice s S s.serving s.to_go s.silent) (S.line.line, S.line.silent_le, S.line.silent_alone))))
    where
      number : Orderly s → (j : ℕ) → j < max_connections → (b : Bool) → owned s.connections j ≡ b → number_sound s j ≡ true
      number S j l true o =
          cond_is (connection_sound s.link (figures s j)) (free_sound s j) o
          ∙ and_intro (level_within s.link (figures s j)) (figures_within s.link (figures s j)) (S.levels_in j o) (S.figures_in j o)
      number S j l false o = cond_is (connection_sound s.link (figures s j)) (free_sound s j) o ∙ free_intro s j (S.free_blank j l o)

      owner : Orderly s → (j : ℕ) → owned s.connections j ≡ true → OwnerHolds j
      owner S j o = (S.room j o, queue_kept (figures s j) (facts s S j o).burst_le (ahead s.link (figures s j)) s.clock (past s j) (eligibilities j s.held) (S.queue j o))

      chained : Orderly s → (j : ℕ) → owned s.connections j ≡ true → Chain (figures s j) (ahead s.link (figures s j)) s.clock (departed_by s j) (eligibilities j s.held)
      chained S j l = queue_chain (figures s j) (facts s S j l).burst_le (ahead s.link (figures s j)) s.clock (past s j) (eligibilities j s.held) (S.queue j l)

      all_rows : (ps : List Packet) → All (Fits s.connections) ps → All (Dated s.clock) ps → All (λ p. row_sound s.connections s.clock p ≡ true) ps
      all_rows [] f d = tt
      all_rows (p ∷ ps) f d = (row_intro s.connections s.clock p f.0 d.0, all_rows ps f.1 d.1)

  pub exact : sound s ≡ true ↔ Sound s
  unfolding sound
  exact = (to, from)
    where
      to : sound s ≡ true → Sound s
      to h = record {
        with_no_link = λ z. fresh_of s z (sym (cond_is (nothing_used s) _ (eq-eqb s.link.levels 0 z)) ∙ h);
        with_one = λ n. linked_true (sym (cond_is (nothing_used s) _ (ne_eqb s.link.levels 0 n)) ∙ h);
      }

      from : Sound s → sound s ≡ true
      from S = go (eqb s.link.levels 0) refl
        where
          go : (t : Bool) → eqb s.link.levels 0 ≡ t → cond t (nothing_used s) (admissions_sound s && (rows_sound s && (notices_sound s && line_sound s))) ≡ true
          go true i = ap nothing_used (S.with_no_link (eqb-true _ 0 i)) ∙ nothing_of_fresh
          go false i = linked_intro (S.with_one (eqb-false _ 0 i))
