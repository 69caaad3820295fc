-- One tick of a sound line, whatever the discipline: what can happen, that the line stays sound, and THE TICK LEMMA.
use Prim.Native.Nat.{ℕ, zero, suc, ◌+◌, ◌-◌, ◌≤◌, ◌<◌}
use native.Mathlib.Omega.{arith}
use mathlib.Core.Path.{◌≡◌, refl, sym, ap, ◌∙◌, subst}
use mathlib.Core.Bool.{Bool, true, false, cond, true≢false}
use mathlib.Core.Logic.{◌⊎◌, inl, inr, ⊎_elim}
use mathlib.Core.List.{List, [], ◌∷◌}
use mathlib.Core.Option.{Option, none, some}
use lib.Dec.{eqb}
use lib.ListN.{length}
use borrow.Author.Tests.{eq-eqb, ne_eqb}
use Rattle.rules.specs.Words.{upto}
use Rattle.rules.specs.Limits.{max_notices, notice_number}
use Rattle.rules.specs.Model.{Packet, Notice, notice_packet, first_notice}
use Rattle.rules.specs.Service.{first, without, Wire, on_line, free_line, takes, begins, begun, packet_leaves, notice_leaves, sends, wire_tick, QuietWire, passed_wire, sent}
use Rattle.rules.specs.SoundLine.{wire_left, Waits, WireIdle, PacketOn, NoticeOn, WireSound}
use Rattle.rules.proofs.Lists.{All, all_map, Sub, sub_refl, total}
use Rattle.rules.proofs.Sums.{cond_is, upto_yes, upto_no, upto_le}
use Rattle.rules.proofs.Rows.{first_all, first_of, sub_without, total_without}
use Rattle.rules.proofs.Notices.{first_notice_is, first_none}

-- ---- what step 2 says, whatever is made of it

pub told_by : {A : Type 0} (q : ℕ) (tell : Option Packet → Wire → A) (w : Wire) (u : ℕ) → sends q tell w u ≡ tell (sends q sent w u).departed (sends q sent w u).wire
told_by q tell w zero = refl
told_by {A} q tell w (suc zero) = go (eqb w.serving notice_number) w.notices
  where
    go : (b : Bool) (ns : List Notice)
        → cond b (notice_leaves q tell w ns) (packet_leaves q tell w)
        ≡ tell (cond b (notice_leaves q sent w ns) (packet_leaves q sent w)).departed (cond b (notice_leaves q sent w ns) (packet_leaves q sent w)).wire
    go true [] = refl
    go true (n ∷ ns) = refl
    go false ns = refl
told_by q tell w (suc (suc u)) = refl

-- ---- what is still on the line. Nothing else opens `wire_left`

pub wire_silent : (q : ℕ) (w : Wire) → w.to_go ≡ 0 → wire_left q w ≡ w.silent
unfolding wire_left
wire_silent q w e = cond_is w.silent (w.to_go + q) (eq-eqb w.to_go 0 e)

pub wire_busy : (q : ℕ) (w : Wire) → 1 ≤ w.to_go → wire_left q w ≡ w.to_go + q
unfolding wire_left
wire_busy q w h = cond_is w.silent (w.to_go + q) (ne_eqb w.to_go 0 (λ e. omega arith))

-- ---- what is next: the chosen packet is eligible and the first row of its connection, and none is chosen only where nothing is eligible; one that stands by
-- may go early, and is the first row of its connection

abbrev pub Picks : ℕ → List Packet → Option Packet → Type 0
Picks t rows none = All (λ p. t < p.eligibility) rows
Picks t rows (some p) = (p.eligibility ≤ t) × (first p.connection rows ≡ some p)

abbrev pub ByNow : (ℕ → Bool) → List Packet → Option Packet → Type 0
ByNow may rows none = Unit {0}
ByNow may rows (some p) = (may p.connection ≡ true) × (first p.connection rows ≡ some p)

-- rows that a discipline takes: none bears the notices' number, each has a length from 1 to S
abbrev pub RowFits : ℕ → Packet → Type 0
RowFits largest p = (p.connection ≡ notice_number → ⊥) × (1 ≤ p.len) × (p.len ≤ largest)

module _ (may : ℕ → Bool) (largest q t : ℕ) where
  -- ---- step 1

  module _ (w : Wire) (W : WireSound may largest q t w) (F : All (RowFits largest) w.held) (o b : Option Packet) (P : Picks t w.held o) (B : ByNow may w.held b) where
    abbrev On : ℕ × ℕ → Type 0
    On l = WireIdle (on_line w l.0 l.1) ⊎ (PacketOn may t (on_line w l.0 l.1) ⊎ NoticeOn (on_line w l.0 l.1))

    abbrev LineOf : ℕ × ℕ → Type 0
    LineOf l = On l × (1 ≤ l.1 → w.silent ≡ 0)

    begins_line : (u r : ℕ) → w.to_go ≡ u → w.silent ≡ r → LineOf (begins o b w u r)
    begins_line zero zero e f = (go o P w.notices refl b B, λ _. f)
      where
        go : (o : Option Packet) → Picks t w.held o → (ns : List Notice) → w.notices ≡ ns → (b : Option Packet) → ByNow may w.held b → On (takes o ns b)
        go (some p) k ns i b B =
            let f : RowFits largest p = first_all p.connection (RowFits largest) w.held p k.1 F in
            inr (inl (record { it = p; is_first = k.1; eligible = λ _. k.0; some_to_go = f.1; to_go_le = omega arith }))
        go none k [] i none B = inl (refl, refl)
        go none k [] i (some p) B =
            let f : RowFits largest p = first_all p.connection (RowFits largest) w.held p B.1 F in
            inr (inl (record { it = p; is_first = B.1; eligible = λ off. absurd (true≢false (sym B.0 ∙ off)); some_to_go = f.1; to_go_le = omega arith }))
        go none k (n ∷ ns) i b B =
            let f : All (Waits largest t) (n ∷ ns) = subst (All (Waits largest t)) i W.notices_fit in
            inr (inr (record { it = n; is_first = ap first_notice i; is_notice = refl; some_to_go = f.0.some_len; to_go_le = omega arith }))
    begins_line zero (suc r) e f =
        (inl (refl, ⊎_elim (λ z. z.1) (λ k. ⊎_elim (λ p. absurd (omega (arith, p.some_to_go))) (λ n. absurd (omega (arith, n.some_to_go))) k) W.line), λ n. absurd (omega arith))
    begins_line (suc u) r e f = (
      ⊎_elim (λ z. absurd (omega (arith, z.0)))
          (λ k.
          inr
          (⊎_elim
          (λ p. inl (record { it = p.it; is_first = p.is_first; eligible = p.eligible; some_to_go = omega arith; to_go_le = omega (arith, p.to_go_le) }))
          (λ n. inr (record { it = n.it; is_first = n.is_first; is_notice = n.is_notice; some_to_go = omega arith; to_go_le = omega (arith, n.to_go_le) }))
          k))
          W.line,
      λ _. W.silent_alone (omega arith),
    )

    pub begun_sound : WireSound may largest q t (begun o b w)
    begun_sound =
        let l = begins_line w.to_go w.silent refl refl in
        record { few_notices = W.few_notices; notices_fit = W.notices_fit; line = l.0; silent_le = W.silent_le; silent_alone = l.1 }

  -- ---- step 2: what can happen

  module _ (b : Wire) (B : WireSound may largest q t b) (F : All (RowFits largest) b.held) where
    -- a packet in service bears no notice's number
    pub packet_number : (r : PacketOn may t b) → b.serving ≡ notice_number → ⊥
    packet_number r e =
        (first_all b.serving (RowFits largest) b.held r.it r.is_first F).0 (first_of b.serving b.held r.it r.is_first ∙ e)

    -- THE ELIMINATOR of a tick: nothing is in service; the last unit of a packet; the last of a notice; a unit that is not the last
    pub sent_cases : {A : Type 0} (tell : Option Packet → Wire → A) (Q : A → Type 0)
        → (b.to_go ≡ 0 → Q (tell none (free_line b.held b.notices (b.silent - 1))))
        → ((r : PacketOn may t b) → b.to_go ≡ 1 → Q (tell (some r.it) (free_line (without b.serving b.held) b.notices q)))
        → ((r : NoticeOn b) (ns : List Notice) → b.notices ≡ r.it ∷ ns → b.to_go ≡ 1 → Q (tell (some (notice_packet r.it)) (free_line b.held ns q)))
        → ((u : ℕ) → b.to_go ≡ suc (suc u) → PacketOn may t b ⊎ NoticeOn b → Q (tell none (on_line b b.serving (suc u))))
        → Q (sends q tell b b.to_go)
    sent_cases {A} tell Q idle packet notice unit = go b.to_go refl B.line
      where
        go : (u : ℕ) → b.to_go ≡ u → WireIdle b ⊎ (PacketOn may t b ⊎ NoticeOn b) → Q (sends q tell b u)
        go zero e l = idle e
        go (suc zero) e (inl z) = absurd (omega (arith, z.0))
        go (suc zero) e (inr (inl r)) =
            subst Q (sym (cond_is (notice_leaves q tell b b.notices) (packet_leaves q tell b) (ne_eqb b.serving notice_number (packet_number r))))
            (subst (λ (o : Option Packet). Q (tell o (free_line (without b.serving b.held) b.notices q))) (sym r.is_first) (packet r e))
        go (suc zero) e (inr (inr r)) =
            let k = first_notice_is b.notices r.it r.is_first in
            subst Q
            (sym (cond_is (notice_leaves q tell b b.notices) (packet_leaves q tell b) (eq-eqb b.serving notice_number r.is_notice) ∙ ap (notice_leaves q tell b) k.1))
            (notice r k.0 k.1 e)
        go (suc (suc u)) e (inl z) = absurd (omega (arith, z.0))
        go (suc (suc u)) e (inr k) = unit u e k

    -- what a tick leaves on the line
    abbrev pub sent_wire : Wire
    sent_wire = (sends q sent b b.to_go).wire

    -- the line is sound a tick later, and the rows are a part of those before
    abbrev SoundLater : Wire → Type 0
    SoundLater x = WireSound may largest q (t + 1) x × Sub x.held b.held

    free_later : (held : List Packet) (ns : List Notice) (r : ℕ) → length ns ≤ max_notices → All (Waits largest t) ns → r ≤ q → WireSound may largest q (t + 1) (free_line held ns r)
    free_later held ns r few fit quiet = record {
      few_notices = few;
      notices_fit = all_map (λ n f. record { some_len = f.some_len; len_le = f.len_le; arrived = omega (arith, f.arrived) }) ns fit;
      line = inl (refl, refl);
      silent_le = quiet;
      silent_alone = λ n. absurd (omega arith);
    }

    pub sent_sound : SoundLater sent_wire
    sent_sound =
        sent_cases sent (λ x. SoundLater x.wire)
        (λ e. (free_later b.held b.notices (b.silent - 1) B.few_notices B.notices_fit (omega (arith, B.silent_le)), sub_refl b.held))
        (λ r e. (free_later (without b.serving b.held) b.notices q B.few_notices B.notices_fit (omega arith), sub_without b.serving (sub_refl b.held)))
        (λ r ns i e.
        (free_later b.held ns q (omega (arith, B.few_notices, ap length i)) (subst (All (Waits largest t)) i B.notices_fit).1 (omega arith), sub_refl b.held))
        (λ u e k. (
          record {
            few_notices = B.few_notices;
            notices_fit = all_map (λ n f. record { some_len = f.some_len; len_le = f.len_le; arrived = omega (arith, f.arrived) }) b.notices B.notices_fit;
            line =
                inr
                (⊎_elim
                (λ r. inl (record { it = r.it; is_first = r.is_first; eligible = λ off. omega (arith, r.eligible off); some_to_go = omega arith; to_go_le = omega (arith, r.to_go_le) }))
                (λ r. inr (record { it = r.it; is_first = r.is_first; is_notice = r.is_notice; some_to_go = omega arith; to_go_le = omega (arith, r.to_go_le) }))
                k);
            silent_le = B.silent_le;
            silent_alone = λ n. B.silent_alone (omega arith);
          },
          sub_refl b.held,
        ))

    -- what is left after a tick is less than the largest packet costs
    pub left_after : 1 ≤ largest → wire_left q sent_wire + 1 ≤ largest + q
    left_after pos =
        sent_cases sent (λ x. wire_left q x.wire + 1 ≤ largest + q)
        (λ e. omega (arith, wire_silent q (free_line b.held b.notices (b.silent - 1)) refl, B.silent_le))
        (λ r e. omega (arith, wire_silent q (free_line (without b.serving b.held) b.notices q) refl))
        (λ r ns i e. omega (arith, wire_silent q (free_line b.held ns q) refl))
        (λ u e k.
        omega (
          arith,
          wire_busy q (on_line b b.serving (suc u)) (omega arith),
          ⊎_elim
              (λ r. short u e r.it.len r.to_go_le (first_all b.serving (RowFits largest) b.held r.it r.is_first F).2)
              (λ r. short u e r.it.len r.to_go_le
              (let n = first_notice_is b.notices r.it r.is_first in (subst (All (Waits largest t)) n.1 B.notices_fit).0.len_le))
              k,
        ))
      where
        short : (u : ℕ) → b.to_go ≡ suc (suc u) → (len : ℕ) → b.to_go ≤ len → len ≤ largest → suc (suc u) ≤ largest
        short u e len h k = omega arith

-- ---- A QUIET TICK: nothing starts and nothing departs, whatever is made of it

module _ (may : ℕ → Bool) (largest q t : ℕ) (w : Wire) (W : WireSound may largest q t w) (o b : Option Packet) (P : Picks t w.held o) where
  no_owner : w.to_go ≡ 0 → w.serving ≡ 0
  no_owner e = ⊎_elim (λ z. z.1) (λ k. ⊎_elim (λ r. absurd (omega (arith, r.some_to_go))) (λ r. absurd (omega (arith, r.some_to_go))) k) W.line

  takes_nothing : w.notices ≡ [] → All (λ p. t < p.eligibility) w.held → b ≡ none → takes o w.notices b ≡ (0, 0)
  takes_nothing n late f = rw (n, f) (go o P)
    where
      go : (x : Option Packet) → Picks t w.held x → takes x [] none ≡ (0, 0)
      go none k = refl
      go (some p) k = absurd (omega (arith, k.0, first_all p.connection (λ r. t < r.eligibility) w.held p k.1 late))

  module _ {A : Type 0} (tell : Option Packet → Wire → A) where
    abbrev Passes : ℕ × ℕ → Type 0
    Passes l = sends q tell (on_line w l.0 l.1) l.1 ≡ tell none (passed_wire w 1)

    line_is : (serving to_go silent : ℕ) → serving ≡ w.serving → to_go ≡ w.to_go - 1 → silent ≡ w.silent - 1
        → tell none (record { held = w.held; notices = w.notices; serving = serving; to_go = to_go; silent = silent }) ≡ tell none (passed_wire w 1)
    line_is serving to_go silent i j k = rw (i, j, k)

    nothing_goes : w.to_go ≡ 0 → (c : ℕ) → Passes (c, 0)
    nothing_goes e c = line_is 0 0 (w.silent - 1) (sym (no_owner e)) (omega arith) refl

    pub quiet_tick : QuietWire t b w → wire_tick q tell o b w ≡ tell none (passed_wire w 1)
    quiet_tick k = go w.to_go w.silent refl refl k
      where
        go : (u r : ℕ) → w.to_go ≡ u → w.silent ≡ r → QuietWire t b w → Passes (begins o b w u r)
        go zero zero e f (inl l) = absurd (omega arith)
        go zero zero e f (inr (inl l)) = absurd (omega (arith, l.1))
        go zero zero e f (inr (inr l)) = subst Passes (sym (takes_nothing l.2 l.3 l.4)) (nothing_goes e 0)
        go zero (suc r) e f l = nothing_goes e w.serving
        go (suc zero) r e f (inl l) = absurd (omega arith)
        go (suc zero) r e f (inr (inl l)) = absurd (omega (arith, l.0))
        go (suc zero) r e f (inr (inr l)) = absurd (omega (arith, l.0))
        go (suc (suc u)) r e f l = line_is w.serving (suc u) w.silent refl (omega arith) (omega (arith, W.silent_alone (omega arith)))

-- ---- THE TICK LEMMA, over any weight of the rows: while something weighs, what the rows weigh and the line still owes, less what is in service, falls by one

abbrev pub weigh : (Packet → ℕ) → Option Packet → ℕ
weigh d none = 0
weigh d (some p) = d p

-- the weight of the packet in service: it stands on both sides, so that it does not matter whose it is
abbrev pub carried : (Packet → ℕ) → Wire → ℕ
carried d w = upto 1 w.to_go (weigh d (first w.serving w.held))

pub carried_none : (d : Packet → ℕ) (w : Wire) → w.to_go ≡ 0 → carried d w ≡ 0
carried_none d w e = upto_no 1 w.to_go (weigh d (first w.serving w.held)) (omega arith)

pub carried_is : (d : Packet → ℕ) (w : Wire) (p : Packet) → 1 ≤ w.to_go → first w.serving w.held ≡ some p → carried d w ≡ d p
carried_is d w p h e = upto_yes 1 w.to_go (weigh d (first w.serving w.held)) h ∙ ap (weigh d) e

module _ (may : ℕ → Bool) (largest q t : ℕ) (d : Packet → ℕ) where
  -- a notice weighs nothing
  pub carried_notice : (w : Wire) → All (RowFits largest) w.held → w.serving ≡ notice_number → carried d w ≡ 0
  carried_notice w F e =
      omega (
        arith,
        upto_le 1 w.to_go (weigh d (first w.serving w.held)),
        ap (weigh d) (ap (λ (c : ℕ). first c w.held) e ∙ first_none notice_number w.held (all_map (λ p f. f.0) w.held F)),
      )

  -- step 1
  module _ (w : Wire) (o b : Option Packet) (full : (p : Packet) → o ≡ some p → d p ≡ p.len + q) (picked : o ≡ none → ⊥)
      (sized : (p : Packet) → o ≡ some p → (first p.connection w.held ≡ some p) × (1 ≤ p.len)) where
    abbrev SameWork : ℕ × ℕ → Type 0
    SameWork l = (1 ≤ wire_left q (on_line w l.0 l.1)) × (wire_left q (on_line w l.0 l.1) + carried d w ≡ wire_left q w + carried d (on_line w l.0 l.1))

    begins_work : (u r : ℕ) → w.to_go ≡ u → w.silent ≡ r → SameWork (begins o b w u r)
    begins_work zero zero e f = go o refl
      where
        go : (x : Option Packet) → o ≡ x → SameWork (takes x w.notices b)
        go none i = absurd (picked i)
        go (some p) i =
            let k = sized p i in
            let b = wire_busy q (on_line w p.connection p.len) k.1 in
            (omega arith, omega (arith, full p i, carried_none d w e, wire_silent q w e, carried_is d (on_line w p.connection p.len) p k.1 k.0))
    begins_work zero (suc r) e f =
        let b = wire_silent q (on_line w w.serving 0) refl in
        (omega arith, omega (arith, wire_silent q w e, carried_none d w e, carried_none d (on_line w w.serving 0) refl))
    begins_work (suc u) r e f =
        let b = wire_busy q (on_line w w.serving (suc u)) (omega arith) in (
          omega arith,
          omega (
            arith,
            wire_busy q w (omega arith),
            upto_yes 1 w.to_go (weigh d (first w.serving w.held)) (omega arith),
            upto_yes 1 (suc u) (weigh d (first w.serving w.held)) (omega arith),
          ),
        )

    pub begun_work : (1 ≤ wire_left q (begun o b w)) × (wire_left q (begun o b w) + carried d w ≡ wire_left q w + carried d (begun o b w))
    begun_work = begins_work w.to_go w.silent refl refl

  -- step 2
  module _ (b : Wire) (B : WireSound may largest q t b) (F : All (RowFits largest) b.held) (taken : 1 ≤ wire_left q b) where
    abbrev OneLess : Wire → Type 0
    OneLess x = total d x.held + wire_left q x + 1 + carried d b ≡ total d b.held + wire_left q b + carried d x

    pub sent_work : OneLess (sends q sent b b.to_go).wire
    sent_work =
        sent_cases may largest q t b B F sent (λ x. OneLess x.wire)
        (λ e.
        let l = wire_silent q (free_line b.held b.notices (b.silent - 1)) refl in
        omega (arith, wire_silent q b e, carried_none d b e, carried_none d (free_line b.held b.notices (b.silent - 1)) refl))
        (λ r e.
        omega (
          arith,
          total_without b.serving d b.held r.it r.is_first,
          wire_silent q (free_line (without b.serving b.held) b.notices q) refl,
          wire_busy q b (omega arith),
          carried_none d (free_line (without b.serving b.held) b.notices q) refl,
          carried_is d b r.it (omega arith) r.is_first,
        ))
        (λ r ns i e.
        omega (
          arith,
          wire_silent q (free_line b.held ns q) refl,
          wire_busy q b (omega arith),
          carried_none d (free_line b.held ns q) refl,
          carried_notice b F r.is_notice,
        ))
        (λ u e k.
        omega (
          arith,
          wire_busy q (on_line b b.serving (suc u)) (omega arith),
          wire_busy q b (omega arith),
          upto_yes 1 b.to_go (weigh d (first b.serving b.held)) (omega arith),
          upto_yes 1 (suc u) (weigh d (first b.serving b.held)) (omega arith),
        ))
