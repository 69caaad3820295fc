-- Laws of the parts of the test, in the order of the code.
use Prim.Native.Nat.{ℕ, suc, ◌+◌, ◌*◌, ◌-◌, ◌/◌, ◌≤◌, ◌<◌}
use native.Mathlib.Nat.{div-mul-le_self, mul-le-mul_left}
use native.Mathlib.Omega.{arith}
use native.Mathlib.Numerals.{add-one}
use mathlib.Core.Path.{◌≡◌, refl, sym, ap, ◌∙◌}
use mathlib.Core.Bool.{Bool, true, false, ◌&&◌}
use mathlib.Core.Logic.{◌⊎◌, inl, inr}
use mathlib.Core.List.{List, [], ◌∷◌}
use lib.Dec.{leb, eqb}
use lib.ListN.{length, drop, length-map}
use lib.Seq.{drop-length}
use borrow.Author.Tests.{le-leb, lt-leb, eq-eqb, ne_eqb}
use Rattle.rules.specs.declared.Packet.{Packet}
use Rattle.rules.specs.Words.{within, every, each}
use Rattle.rules.specs.Limits.{max_connections, max_reserved, notice_number, beyond_32_bits, clock_end}
use Rattle.rules.proofs.Sums.{split}
use Rattle.rules.proofs.Tests.{and_true, within_true}
use Rattle.frames.specs.declared.Framing.{Framing}
use Rattle.frames.specs.declared.Share.{Share}
use Rattle.frames.proofs.Figures.{framing_facts, sum_is, stands_below}
use Rattle.frames.specs.Model.{nth}
use Rattle.frames.specs.Admission.{framing_within, share_within, stands, frame_sum, all_places}
use Rattle.frames.specs.SoundTest.{nothing_used, admissions_sound, row_sound, never_falls, share_sound, rows_sound, heads, in_turn_sound}
use Rattle.limits.proofs.ChainLaws.{fails, goes_on}
use Rattle.tables.specs.Places.{rows, row_at}
use Rattle.tables.specs.Notices.{notice_of}
use Rattle.tables.proofs.PlacesLaws.{rows_from}
use Rattle.shares.specs.Shares.{shares_in}
use Rattle.line_tests.proofs.LineLaws.{row_holds}
use Rattle.framed_state.specs.View.{Frames, Tables, view}
use Rattle.framed_sound.specs.Parts.{unused, Measured}
use Rattle.frames.proofs.Names.{all_units}

-- ---- with no link set

pub unused_read : (h : Frames) (t : Tables) {standing held waiting : ℕ} → standing ≡ length (shares_in t.members) → held ≡ length (rows t.places) → waiting ≡ length (rows t.notices)
    → unused h standing held waiting ≡ nothing_used (view h t)
unfolding nothing_used
unused_read h t {standing} {held} {waiting} a b c =
    ap (λ (n : ℕ). unused h n held waiting) a
    ∙ ap (λ (n : ℕ). unused h (length (shares_in t.members)) n waiting) b
    ∙ ap (unused h (length (shares_in t.members)) (length (rows t.places))) (c ∙ sym (length-map (rows t.notices) notice_of))

-- ---- the link and the connections

-- a sum within its limit, by the room that is left
room_is : (u k f : ℕ) → k ≤ f → leb u (f - k) ≡ leb (u + k) f
room_is u k f l = go (split u (f - k))
  where
    go : (u ≤ f - k) ⊎ (f - k < u) → leb u (f - k) ≡ leb (u + k) f
    go (inl h) = le-leb u (f - k) h ∙ sym (le-leb (u + k) f (omega arith))
    go (inr h) = lt-leb u (f - k) h ∙ sym (lt-leb (u + k) f (omega arith))

module _ (h : Frames) (t : Tables) where
  abbrev within_all : Bool
  within_all = every (length (shares_in t.members)) (λ c. share_within (nth (shares_in t.members) c))

  pub framing_fails : framing_within h.link ≡ false → false ≡ admissions_sound (view h t)
  unfolding admissions_sound
  framing_fails e = fails (framing_within h.link) _ e

  module _ (few : length (shares_in t.members) ≤ max_connections) (f : framing_within h.link ≡ true) where
    pub shares_fail : within_all ≡ false → false ≡ admissions_sound (view h t)
    unfolding admissions_sound
    shares_fail e =
        goes_on (framing_within h.link) _ _ f
        (goes_on (leb (length (shares_in t.members)) max_connections) _ _ (le-leb (length (shares_in t.members)) max_connections few) (fails within_all _ e))

    pub admissions_read : within_all ≡ true → {units places : ℕ} → units ≡ all_units (shares_in t.members) → places ≡ all_places (shares_in t.members)
        → (leb units (h.link.frame - (h.link.largest + h.link.silence)) && leb places max_reserved) ≡ admissions_sound (view h t)
    unfolding admissions_sound
    admissions_read e {units} {places} u p =
        goes_on (framing_within h.link) _ _ f
        (goes_on (leb (length (shares_in t.members)) max_connections) _ _ (le-leb (length (shares_in t.members)) max_connections few)
        (goes_on within_all _ _ e
        (ap (λ (n : ℕ). leb n (h.link.frame - (h.link.largest + h.link.silence)) && leb places max_reserved) u
        ∙ ap (λ (b : Bool). b && leb places max_reserved) (room_is (all_units (shares_in t.members)) (h.link.largest + h.link.silence) h.link.frame (framing_facts h.link f).largest_le)
        ∙ ap (λ (n : ℕ). leb n h.link.frame && leb places max_reserved) (sym (sum_is h.link (shares_in t.members)))
        ∙ ap (λ (n : ℕ). leb (frame_sum h.link (shares_in t.members)) h.link.frame && leb n max_reserved) p)))

  pub framing_holds : admissions_sound (view h t) ≡ true → framing_within h.link ≡ true
  unfolding admissions_sound
  framing_holds e = (and_true (framing_within h.link) _ e).0

-- ---- the rows, each by itself

module _ (l : Framing) (cs : List Share) (t : ℕ) (places : List ℕ) (ok : each (row_sound l cs t) (rows places) ≡ true) where
  stands_here : (k : ℕ) → k < length (rows places)
      → (stands cs (row_at places k).connection ≡ true) × (within 1 l.largest (row_at places k).len ≡ true)
  stands_here k i =
      let p = row_at places k in
      let a = and_true (stands cs p.connection) _ (row_holds (row_sound l cs t) places ok k i) in
      (a.0, (and_true (within 1 l.largest p.len) _ a.1).0)

  pub measured : framing_within l ≡ true → length cs ≤ max_connections → length (rows places) ≤ max_reserved → Measured l places
  measured f few most = record {
    countable = record { few_rows = most; known = λ k i. omega (arith, few, stands_below cs (row_at places k).connection (stands_here k i).0) };
    sized = λ k i. omega (arith, (framing_facts l f).largest_max, (within_true 1 l.largest (row_at places k).len (stands_here k i).1).1);
    short_silence = (framing_facts l f).silence_max;
  }

-- ---- the start of the next frame: no more frames than ticks, and it fits 64 bits

pub frames_few : (T t : ℕ) → 1 ≤ T → t / T ≤ t
frames_few T t p = omega (arith, div-mul-le_self t T, mul-le-mul_left (t / T) p)

pub next_fits : (T t : ℕ) → 1 ≤ T → T < beyond_32_bits → t < beyond_32_bits → (t / T + 1) * T < beyond_32_bits + beyond_32_bits
next_fits T t p a b = omega (arith, div-mul-le_self t T)

-- ---- in row order: what is left decides

module _ (t : List ℕ) (low i : ℕ) (l : i < length (rows t)) {p : Packet} (is : p ≡ row_at t i) (so_far : never_falls low (drop i (rows t)) ≡ never_falls 0 (rows t)) where
  here : never_falls low (drop i (rows t)) ≡ (leb low p.eligibility && never_falls p.eligibility (drop (suc i) (rows t)))
  here = ap (never_falls low) (rows_from t i l) ∙ ap (λ (q : Packet). leb low q.eligibility && never_falls q.eligibility (drop (suc i) (rows t))) (sym is)

  pub order_stops : p.eligibility < low → false ≡ never_falls 0 (rows t)
  order_stops h = fails (leb low p.eligibility) _ (lt-leb low p.eligibility h) ∙ sym here ∙ so_far

  pub order_passes : low ≤ p.eligibility → never_falls p.eligibility (drop (i + 1) (rows t)) ≡ never_falls 0 (rows t)
  order_passes h =
      ap (λ (k : ℕ). never_falls p.eligibility (drop k (rows t))) (add-one i)
      ∙ goes_on (leb low p.eligibility) _ _ (le-leb low p.eligibility h) refl
      ∙ sym here
      ∙ so_far

pub order_done : (t : List ℕ) (low i : ℕ) → i ≡ length (rows t) → never_falls low (drop i (rows t)) ≡ never_falls 0 (rows t) → true ≡ never_falls 0 (rows t)
order_done t low i e h =
    sym (ap (never_falls low) (drop-length (rows t))) ∙ ap (λ (k : ℕ). never_falls low (drop k (rows t))) (sym e) ∙ h

-- ---- the rows: the clock, each by itself, their order, and those of each connection together

module _ (h : Frames) (t : Tables) where
  abbrev each_row : Bool
  each_row = each (row_sound h.link (shares_in t.members) h.clock) (rows t.places)

  pub clock_fails : clock_end < h.clock → false ≡ rows_sound (view h t)
  unfolding rows_sound
  clock_fails l = fails (leb h.clock clock_end) _ (lt-leb h.clock clock_end l)

  module _ (k : h.clock ≤ clock_end) where
    pub rows_fail : each_row ≡ false → false ≡ rows_sound (view h t)
    unfolding rows_sound
    rows_fail e = goes_on (leb h.clock clock_end) _ _ (le-leb h.clock clock_end k) (fails each_row _ e)

    module _ (e : each_row ≡ true) where
      pub order_fails : never_falls 0 (rows t.places) ≡ false → false ≡ rows_sound (view h t)
      unfolding rows_sound
      order_fails o = goes_on (leb h.clock clock_end) _ _ (le-leb h.clock clock_end k) (goes_on each_row _ _ e (fails (never_falls 0 (rows t.places)) _ o))

      pub rows_read : never_falls 0 (rows t.places) ≡ true → {r : Bool} → r ≡ every (length (shares_in t.members)) (share_sound (view h t)) → r ≡ rows_sound (view h t)
      unfolding rows_sound
      rows_read o f =
          goes_on (leb h.clock clock_end) _ _ (le-leb h.clock clock_end k)
          (goes_on each_row _ _ e (goes_on (never_falls 0 (rows t.places)) _ _ o f))

-- ---- a packet in service is the first row

module _ (h : Frames) (t : Tables) where
  pub turn_idle : h.wire.to_go ≡ 0 → true ≡ in_turn_sound (view h t)
  unfolding in_turn_sound
  turn_idle e = rw (eq-eqb h.wire.to_go 0 e)

  module _ (n : h.wire.to_go ≡ 0 → ⊥) where
    pub turn_notice : h.wire.serving ≡ notice_number → true ≡ in_turn_sound (view h t)
    unfolding in_turn_sound
    turn_notice e = rw (ne_eqb h.wire.to_go 0 n, eq-eqb h.wire.serving notice_number e)

    module _ (m : h.wire.serving ≡ notice_number → ⊥) where
      pub turn_nobody : length (rows t.places) ≡ 0 → false ≡ in_turn_sound (view h t)
      unfolding in_turn_sound
      turn_nobody z = rw (ne_eqb h.wire.to_go 0 n, ne_eqb h.wire.serving notice_number m) (go (rows t.places) z)
        where
          go : (ps : List Packet) → length ps ≡ 0 → false ≡ heads h.wire.serving ps
          go [] e = refl
          go (p ∷ ps) e = absurd (omega arith)

      pub turn_first : 0 < length (rows t.places) → {p : Packet} → p ≡ row_at t.places 0 → eqb p.connection h.wire.serving ≡ in_turn_sound (view h t)
      unfolding in_turn_sound
      turn_first l is =
          rw (ne_eqb h.wire.to_go 0 n, ne_eqb h.wire.serving notice_number m)
          (ap (λ (p : Packet). eqb p.connection h.wire.serving) is ∙ sym (ap (heads h.wire.serving) (rows_from t.places 0 l)))
