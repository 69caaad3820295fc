-- The test of a sound line is true exactly of one on which no packet in service bears the notices' number.
use Prim.Native.Nat.{ℕ, ◌≤◌}
use native.Mathlib.Omega.{arith}
use mathlib.Core.Path.{◌≡◌, refl, ap, ◌∙◌}
use mathlib.Core.Bool.{Bool, true, false, cond, ◌&&◌, ◌||◌}
use mathlib.Core.Logic.{◌⊎◌, inl, inr}
use mathlib.Core.Option.{Option, none, some}
use lib.Dec.{leb, eqb}
use lib.ListN.{length}
use borrow.Author.Tests.{leb-true, le-leb, eqb-true, eq-eqb, ne_eqb}
use Rattle.rules.specs.Words.{within, each}
use Rattle.rules.specs.Limits.{max_notices, notice_number}
use Rattle.rules.specs.Model.{Packet, Notice, first_notice}
use Rattle.rules.specs.Service.{first, Wire}
use Rattle.rules.specs.SoundTest.{serves, serves_notice}
use Rattle.rules.specs.SoundLine.{Waits, WireIdle, PacketOn, NoticeOn, WireSound, waits, busy_line, wire_sound}
use Rattle.rules.proofs.Lists.{all_map}
use Rattle.rules.proofs.Sums.{cond_is}
use Rattle.rules.proofs.Tests.{never, and_true, and_intro, or_true, or_intro, within_true, within_intro, each_true, each_intro}

waits_true : (largest t : ℕ) (n : Notice) → waits largest t n ≡ true → Waits largest t n
waits_true largest t n h =
    let a = and_true (within 1 largest n.len) (leb n.arrival t) h in
    let w = within_true 1 largest n.len a.0 in
    record { some_len = w.0; len_le = w.1; arrived = leb-true _ _ a.1 }

waits_intro : (largest t : ℕ) (n : Notice) → Waits largest t n → waits largest t n ≡ true
waits_intro largest t n f = and_intro (within 1 largest n.len) (leb n.arrival t) (within_intro 1 largest n.len f.some_len f.len_le) (le-leb _ _ f.arrived)

module _ (may : ℕ → Bool) (q t : ℕ) (w : Wire) where
  abbrev LineHolds : Type 0
  LineHolds = (WireIdle w ⊎ (PacketOn may t w ⊎ NoticeOn w)) × (w.silent ≤ q) × (1 ≤ w.to_go → w.silent ≡ 0)

  pub line_true : cond (eqb w.to_go 0) (eqb w.serving 0 && leb w.silent q) (eqb w.silent 0 && busy_line may t w) ≡ true → LineHolds
  line_true h = go (eqb w.to_go 0) refl h
    where
      serving : (o : Option Packet) → first w.serving w.held ≡ o → serves (may w.serving) o w.to_go t ≡ true → PacketOn may t w
      serving none i e = never e
      serving (some p) i e =
          let k = and_true (within 1 p.len w.to_go) (may w.serving || leb p.eligibility t) e in
          let r = within_true 1 p.len w.to_go k.0 in
          record { it = p; is_first = i; eligible = λ off. leb-true _ _ (or_true (may w.serving) (leb p.eligibility t) k.1 off); some_to_go = r.0; to_go_le = r.1 }

      noticed : (o : Option Notice) → first_notice w.notices ≡ o → w.serving ≡ notice_number → serves_notice o w.to_go ≡ true → NoticeOn w
      noticed none i n e = never e
      noticed (some m) i n e =
          let k = within_true 1 m.len w.to_go e in
          record { it = m; is_first = i; is_notice = n; some_to_go = k.0; to_go_le = k.1 }

      busy : (b : Bool) → eqb w.serving notice_number ≡ b
          → cond b (serves_notice (first_notice w.notices) w.to_go) (serves (may w.serving) (first w.serving w.held) w.to_go t) ≡ true → PacketOn may t w ⊎ NoticeOn w
      busy true i e = inr (noticed (first_notice w.notices) refl (eqb-true _ _ i) e)
      busy false i e = inl (serving (first w.serving w.held) refl e)

      go : (b : Bool) → eqb w.to_go 0 ≡ b → cond b (eqb w.serving 0 && leb w.silent q) (eqb w.silent 0 && busy_line may t w) ≡ true → LineHolds
      go true i e =
          let k = and_true (eqb w.serving 0) (leb w.silent q) e in
          (inl (eqb-true _ 0 i, eqb-true _ 0 k.0), leb-true _ _ k.1, λ n. absurd (omega (arith, eqb-true w.to_go 0 i)))
      go false i e =
          let k = and_true (eqb w.silent 0) (busy_line may t w) e in
          (inr (busy (eqb w.serving notice_number) refl k.1), omega (arith, eqb-true w.silent 0 k.0), λ n. eqb-true w.silent 0 k.0)

  busy_is : (1 ≤ w.to_go → w.silent ≡ 0) → 1 ≤ w.to_go
      → cond (eqb w.to_go 0) (eqb w.serving 0 && leb w.silent q) (eqb w.silent 0 && busy_line may t w) ≡ busy_line may t w
  busy_is alone l =
      cond_is (eqb w.serving 0 && leb w.silent q) (eqb w.silent 0 && busy_line may t w) (ne_eqb w.to_go 0 (λ i. omega arith))
      ∙ ap (λ (b : Bool). b && busy_line may t w) (eq-eqb w.silent 0 (alone l))

  pub line_intro : (PacketOn may t w → w.serving ≡ notice_number → ⊥) → LineHolds
      → cond (eqb w.to_go 0) (eqb w.serving 0 && leb w.silent q) (eqb w.silent 0 && busy_line may t w) ≡ true
  line_intro away (inl z, quiet, alone) =
      cond_is (eqb w.serving 0 && leb w.silent q) (eqb w.silent 0 && busy_line may t w) (eq-eqb w.to_go 0 z.0)
      ∙ and_intro (eqb w.serving 0) (leb w.silent q) (eq-eqb w.serving 0 z.1) (le-leb _ _ quiet)
  line_intro away (inr (inr r), quiet, alone) =
      busy_is alone r.some_to_go
      ∙ cond_is (serves_notice (first_notice w.notices) w.to_go) _ (eq-eqb w.serving notice_number r.is_notice)
      ∙ ap (λ (o : Option Notice). serves_notice o w.to_go) r.is_first
      ∙ within_intro 1 r.it.len w.to_go r.some_to_go r.to_go_le
  line_intro away (inr (inl r), quiet, alone) =
      busy_is alone r.some_to_go
      ∙ cond_is (serves_notice (first_notice w.notices) w.to_go) _ (ne_eqb w.serving notice_number (away r))
      ∙ ap (λ (o : Option Packet). serves (may w.serving) o w.to_go t) r.is_first
      ∙ and_intro (within 1 r.it.len w.to_go) (may w.serving || leb r.it.eligibility t) (within_intro 1 r.it.len w.to_go r.some_to_go r.to_go_le)
      (or_intro (may w.serving) (leb r.it.eligibility t) (λ off. le-leb _ _ (r.eligible off)))

module _ (may : ℕ → Bool) (largest q t : ℕ) (w : Wire) where
  pub wire_true : wire_sound may largest q t w ≡ true → WireSound may largest q t w
  unfolding wire_sound
  wire_true h =
      let a = and_true (leb (length w.notices) max_notices && each (waits largest t) w.notices) _ h in
      let b = and_true (leb (length w.notices) max_notices) (each (waits largest t) w.notices) a.0 in
      let l = line_true may q t w a.1 in
      record {
        few_notices = leb-true _ _ b.0;
        notices_fit = all_map (λ n k. waits_true largest t n k) w.notices (each_true (waits largest t) w.notices b.1);
        line = l.0;
        silent_le = l.1;
        silent_alone = l.2;
      }

  pub wire_intro : (PacketOn may t w → w.serving ≡ notice_number → ⊥) → WireSound may largest q t w → wire_sound may largest q t w ≡ true
  unfolding wire_sound
  wire_intro away W =
      and_intro (leb (length w.notices) max_notices && each (waits largest t) w.notices) _
      (and_intro (leb (length w.notices) max_notices) (each (waits largest t) w.notices) (le-leb _ _ W.few_notices)
      (each_intro (waits largest t) w.notices (all_map (λ n f. waits_intro largest t n f) w.notices W.notices_fit)))
      (line_intro may q t w away (W.line, W.silent_le, W.silent_alone))
