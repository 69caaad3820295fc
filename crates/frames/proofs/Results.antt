-- THE PROOFS of the statements in specs/Promises, each under its name in small letters.
use Prim.Native.Nat.{ℕ, zero, suc, ◌≤◌, ◌<◌, ◌+◌}
use native.Mathlib.Omega.{arith}
use mathlib.Core.Path.{◌≡◌, refl, sym, ap, ◌∙◌, subst}
use mathlib.Core.Bool.{Bool, true, false, cond, not}
use mathlib.Core.Logic.{◌⊎◌, inl, inr, ⊎_elim, ◌↔◌}
use mathlib.Core.List.{List, []}
use mathlib.Core.Option.{Option, none, some}
use lib.ListN.{length}
use lib.Dec.{leb, ltb, eqb}
use borrow.Author.Tests.{ne_eqb, leb-false, lt-leb, ltb-true, lt-ltb}
use Rattle.rules.specs.declared.Packet.{Packet}
use Rattle.rules.specs.Words.{All, within, total}
use Rattle.rules.specs.Limits.{max_reserved, beyond_32_bits, notice_number, clock_end, max_notices}
use Rattle.rules.specs.Model.{no_short}
use Rattle.rules.specs.Service.{of, takes, begins, begun}
use Rattle.rules.specs.Promises.{AnswerFits}
use Rattle.frames.specs.Limits.{max_units}
use Rattle.rules.specs.SoundLine.{WireIdle, PacketOn, NoticeOn}
use Rattle.rules.specs.Runs.{Exchange}
use Rattle.rules.proofs.Lists.{all_map}
use Rattle.rules.proofs.Sums.{same, cond_is, sum_le}
use Rattle.rules.proofs.Tests.{never, not_true_false, never_number}
use Rattle.rules.proofs.Rows.{first_all}
use Rattle.frames.specs.Service.{used, next_frame}
use Rattle.frames.specs.Admission.{cost, stands, frame_sum}
use Rattle.frames.specs.Model.{Framing, Share, State, Call, link, admit, offer, notice, tick, wire, fresh, figures, Answer}
use Rattle.frames.specs.SoundState.{SoundWithLink, Sound}
use Rattle.frames.specs.SoundTest.{sound}
use Rattle.frames.specs.Calls.{joining, causes, verdicts, verdict, eligibility_now, done, refused_number, settle, answer}
use Rattle.frames.specs.Runs.{run, exchanges, asks, KeepsToHalf}
use Rattle.frames.specs.Promises.{EveryCall, EveryState, PastItsUnits, EveryRun, AtMostHalf}
use Rattle.frames.proofs.RowLaws.{length_total, total_sorted}
use Rattle.rules.proofs.WireLaws.{Picks, RowFits}
use Rattle.frames.proofs.Verdicts.{settled}
use Rattle.frames.proofs.SoundTick.{below, rows_sized, picks}
use Rattle.frames.proofs.SoundKept.{kept}
use Rattle.frames.proofs.SoundExact.{exact}
use Rattle.frames.proofs.Every.{fresh_invariant, invariant}
use Rattle.frames.proofs.Fields.{near_end, over_refused, answer_fits}
use Rattle.frames.proofs.InTime.{conserved_lists, left_in_time}
use Rattle.frames.proofs.Half.{starts, use_is}
use Rattle.frames.proofs.Alone.{told_by_own, no_connection_asks, never_12}
use Rattle.frames.proofs.Names.{frame_over, nothing_yet, HalfAtMost, own_exchanges, ticked_is}
use Rattle.frames.proofs.Names.{chosen}

-- ---- verdicts

done_verdict : (k : Call) (s : State) → (done k s).verdict ≡ 0
done_verdict (link l) s = refl
done_verdict (admit x) s = refl
done_verdict (offer c len tag) s = refl
done_verdict (notice len tag) s = refl
done_verdict tick s = ap (λ (a : Answer). a.verdict) (ticked_is s)

pub answer_verdict : (k : Call) (s : State) → (answer k s).verdict ≡ verdict k s
answer_verdict k s = go (verdict k s)
  where
    go : (v : ℕ) → (settle k s v).verdict ≡ v
    go zero = done_verdict k s
    go (suc v) = refl

pub refusals_change_nothing : (k : Call) (s : State) → ((answer k s).verdict ≡ 0 → ⊥) → ((answer k s).next ≡ s) × ((answer k s).departed ≡ none) × ((answer k s).number ≡ refused_number k)
refusals_change_nothing k s =
    settled (λ a. (a.verdict ≡ 0 → ⊥) → (a.next ≡ s) × (a.departed ≡ none) × (a.number ≡ refused_number k)) k s (verdict k s)
    (λ _ n. absurd (n (done_verdict k s)))
    (λ v _. (refl, refl, refl))

-- ---- the sound state

pub test_is_exact : (s : State) → sound s ≡ true ↔ Sound s
test_is_exact s = exact s

other : {A : Type 0} {n : ℕ} → suc (suc n) ≡ 1 → A
other i = absurd (omega arith)

-- no other cause has the number 1
causes_not_1 : (k : Call) (s : State) → All (λ r. r.0 ≡ 1 → r.1 ≡ false) (causes k s)
causes_not_1 (link l) s = (other, (other, tt))
causes_not_1 (admit x) s = (other, (other, (other, (other, (other, tt)))))
causes_not_1 (offer c len tag) s = (other, (other, (other, (other, (other, (other, tt))))))
causes_not_1 (notice len tag) s = (other, (other, (other, (other, tt))))
causes_not_1 tick s = (other, (other, tt))

no_1 : (k : Call) (s : State) → Sound s → verdict k s ≡ 1 → ⊥
unfolding verdicts
no_1 k s S e = never_number 1 (verdicts k s) (λ _. ap not ((exact s).1 S), causes_not_1 k s) (omega arith) e

first_1 : (k : Call) (s : State) → not (sound s) ≡ true → verdict k s ≡ 1
unfolding verdicts
first_1 k s e = cond_is 1 _ e

pub verdict_1_exactly : (k : Call) (s : State) → (answer k s).verdict ≡ 1 ↔ (Sound s → ⊥)
verdict_1_exactly k s = (
  λ e S. no_1 k s S (sym (answer_verdict k s) ∙ e),
  λ n. answer_verdict k s ∙ first_1 k s (ap not (not_true_false (sound s) (λ e. n ((exact s).0 e)))),
)

-- ---- the last numbers

pub fifteen_after_thirteen : (len tag : ℕ) (s : State) → (answer (notice len tag) s).verdict ≡ 15 → s.clock < clock_end
unfolding verdicts
fifteen_after_thirteen len tag s e =
    leb-false _ _
    (go (not (sound s)) (eqb s.link.frame 0) (not (within 1 s.link.largest len)) (leb clock_end s.clock) (leb max_notices (length s.notices))
    (sym (answer_verdict (notice len tag) s) ∙ e))
  where
    go : (a b c d f : Bool) → ◌≡◌ {A = ℕ} (cond a 1 (cond b 2 (cond c 11 (cond d 13 (cond f 15 0))))) 15 → d ≡ false
    go true b c d f h = absurd (omega arith)
    go false true c d f h = absurd (omega arith)
    go false false true d f h = absurd (omega arith)
    go false false false true f h = absurd (omega arith)
    go false false false false f h = refl

-- the verdict of an offer on a sound line with a link set, test by test
offer_verdict : (c len tag : ℕ) (s : State) → Sound s → (s.link.frame ≡ 0 → ⊥)
    → verdict (offer c len tag) s
    ≡ cond (not (stands s.connections c)) 10
    (cond (not (within 1 s.link.largest len)) 11
    (cond (leb (figures s c).places (length (of c s.held))) 12
    (cond (leb clock_end s.clock) 13 (cond (ltb (figures s c).units (used s.link s.clock c s.held + cost s.link len)) 19 0))))
unfolding verdicts
offer_verdict c len tag s S n = rw (ap not ((exact s).1 S), ne_eqb s.link.frame 0 n) refl

pub nineteen_exactly : (c len tag : ℕ) (s : State) → Sound s → (s.link.frame ≡ 0 → ⊥) → (answer (offer c len tag) s).verdict ≡ 19 ↔ PastItsUnits s c len
nineteen_exactly c len tag s S n =
    go (stands s.connections c) refl (within 1 s.link.largest len) refl (leb (figures s c).places (length (of c s.held))) refl (leb clock_end s.clock) refl
    (ltb (figures s c).units (used s.link s.clock c s.held + cost s.link len)) refl (answer_verdict (offer c len tag) s ∙ offer_verdict c len tag s S n)
  where
    go : (standing : Bool) → stands s.connections c ≡ standing → (right : Bool) → within 1 s.link.largest len ≡ right
        → (full : Bool) → leb (figures s c).places (length (of c s.held)) ≡ full → (ended : Bool) → leb clock_end s.clock ≡ ended
        → (past : Bool) → ltb (figures s c).units (used s.link s.clock c s.held + cost s.link len) ≡ past
        → (answer (offer c len tag) s).verdict ≡ cond (not standing) 10 (cond (not right) 11 (cond full 12 (cond ended 13 (cond past 19 0))))
        → (answer (offer c len tag) s).verdict ≡ 19 ↔ PastItsUnits s c len
    go false i right j full k ended l past m v = (λ e. absurd (omega arith), λ r. never (sym i ∙ r.standing))
    go true i false j full k ended l past m v = (λ e. absurd (omega arith), λ r. never (sym j ∙ r.right_len))
    go true i true j true k ended l past m v = (λ e. absurd (omega arith), λ r. never (sym (lt-leb _ _ r.room) ∙ k))
    go true i true j false k true l past m v = (λ e. absurd (omega arith), λ r. never (sym (lt-leb clock_end s.clock r.running) ∙ l))
    go true i true j false k false l false m v = (λ e. absurd (omega arith), λ r. never (sym m ∙ lt-ltb _ _ r.past))
    go true i true j false k false l true m v = (
      λ e. record { standing = i; right_len = j; room = leb-false _ _ k; running = leb-false _ _ l; past = ltb-true _ _ m },
      λ r. v,
    )

-- ---- over the frame

pub over_fits : (x : Share) (s : State) → (answer (admit x) s).verdict ≡ 8 → ((answer (admit x) s).short.units ≤ x.units) × (x.units ≤ max_units)
over_fits x s e =
    let v = sym (answer_verdict (admit x) s) ∙ e in
    let R = over_refused s x v in
    (omega (arith, R.own, ap (λ (v : ℕ). (settle (admit x) s v).short.units) v), R.few_units)

pub told_with_8_alone : (k : Call) (s : State) → ((answer k s).verdict ≡ 8 → ⊥) → (answer k s).short ≡ no_short
told_with_8_alone k s n = go k (verdict k s) (λ e. n (answer_verdict k s ∙ e))
  where
    go : (k : Call) (v : ℕ) → (v ≡ 8 → ⊥) → (settle k s v).short ≡ no_short
    go (link l) zero n = refl
    go (admit x) zero n = refl
    go (offer c len tag) zero n = refl
    go (notice len tag) zero n = refl
    go tick zero n = ap (λ (a : Answer). a.short) (ticked_is s)
    go (link l) (suc v) n = refl
    go (admit x) (suc v) n = cond_is (frame_over s x) no_short (ne_eqb (suc v) 8 n)
    go (offer c len tag) (suc v) n = refl
    go (notice len tag) (suc v) n = refl
    go tick (suc v) n = refl

pub over_is_told : (x : Share) (s : State) → (answer (admit x) s).verdict ≡ 8
    → (s.link.frame < frame_sum s.link (joining s x)) × ((answer (admit x) s).short ≡ frame_over s x)
    × ((answer (admit x) s).short.units ≤ x.units) × (x.units ≤ max_units)
over_is_told x s e =
    let v = sym (answer_verdict (admit x) s) ∙ e in
    let f = over_fits x s e in
    ((over_refused s x v).over_by, ap (λ (v : ℕ). (settle (admit x) s v).short) v, f.0, f.1)

pub no_link_means_zero : (s : State) → s.link.frame ≡ 0 → Sound s ↔ s ≡ fresh
no_link_means_zero s z = (λ S. S.with_no_link z, λ e. subst Sound (sym e) fresh_invariant.sound)

pub sound_is_kept : (k : Call) (s : State) → Sound s → Sound (answer k s).next
sound_is_kept k s S = kept k s S

-- ---- bounds

-- each connection holds at most its places, and all places together are within their limit
held_le : (s : State) → SoundWithLink s → length s.held ≤ max_reserved
held_le s S =
    omega (
      arith,
      S.places_le,
      length_total s.held,
      total_sorted (λ _. 1) (length s.connections) s.held (below s S),
      sum_le (length s.connections) {f = λ c. total (λ _. 1) (of c s.held)} {g = λ c. (figures s c).places} (λ c l. omega (arith, length_total (of c s.held), S.room c l)),
    )

pub rows_fit : (s : State) → Sound s → length s.held ≤ max_reserved
rows_fit s S =
    ⊎_elim (λ z. omega (arith, ap (λ (r : State). length r.held) (S.with_no_link z))) (λ n. held_le s (S.with_one n)) (same s.link.frame 0)

pub notices_fit : (s : State) → Sound s → length s.notices ≤ max_notices
notices_fit s S =
    ⊎_elim (λ z. omega (arith, ap (λ (r : State). length r.notices) (S.with_no_link z))) (λ n. (S.with_one n).line.few_notices) (same s.link.frame 0)

no_frame_now : next_frame 0 0 < beyond_32_bits
unfolding next_frame
no_frame_now = omega arith

pub eligibilities_fit : (s : State) → Sound s → All (λ p. p.eligibility < beyond_32_bits) s.held × (eligibility_now s < beyond_32_bits)
eligibilities_fit s S =
    ⊎_elim
    (λ z. subst (λ (r : State). All (λ p. p.eligibility < beyond_32_bits) r.held × (eligibility_now r < beyond_32_bits)) (sym (S.with_no_link z)) (tt, no_frame_now))
    (λ n.
    let W = S.with_one n in
    (all_map (λ p d. omega (arith, d.next_start, near_end s W p.arrival d.arrived)) s.held W.dated, near_end s W s.clock (omega arith)))
    (same s.link.frame 0)

pub answers_fit : (k : Call) (s : State) → Sound s → AnswerFits (refused_number k) (answer k s) (answer k s).next.clock
answers_fit k s S = answer_fits k s S

-- ---- the notices

linked_last : (s : State) → SoundWithLink s → (u r : ℕ) → s.to_go ≡ u → u ≡ 0 → (begins (chosen s) none (wire s) u r).0 ≡ notice_number → All (λ p. s.clock < p.eligibility) s.held
linked_last s S zero zero i z = go (chosen s) (picks s S)
  where
    go : (o : Option Packet) → Picks s.clock s.held o → (takes o s.notices none).0 ≡ notice_number → All (λ p. s.clock < p.eligibility) s.held
    go none k e = k
    go (some p) k e = absurd ((first_all p.connection (RowFits s.link.largest) s.held p k.1 (rows_sized s S)).0 e)
linked_last s S zero (suc r) i z = λ e. absurd (omega (arith, idle S.line.line))
  where
    idle : WireIdle (wire s) ⊎ (PacketOn (λ _. false) s.clock (wire s) ⊎ NoticeOn (wire s)) → s.serving ≡ 0
    idle (inl k) = k.1
    idle (inr (inl k)) = absurd (omega (arith, k.some_to_go))
    idle (inr (inr k)) = absurd (omega (arith, k.some_to_go))
linked_last s S (suc u) r i z = λ e. absurd (omega arith)

pub notices_come_last : (s : State) → Sound s → s.to_go ≡ 0 → (begun (chosen s) none (wire s)).serving ≡ notice_number → All (λ p. s.clock < p.eligibility) s.held
notices_come_last s S idle e =
    ⊎_elim
    (λ z. subst (All (λ p. s.clock < p.eligibility)) (sym (ap (λ (r : State). r.held) (S.with_no_link z))) tt)
    (λ n. linked_last s (S.with_one n) s.to_go s.silent refl idle e)
    (same s.link.frame 0)

-- ---- conservation, use and delay

pub every_run : EveryRun
every_run ks =
    let I = invariant ks in
    record {
      runs_are_sound = I.sound;
      conservation = conserved_lists (run ks) I;
      in_the_order_offered = I.offered;
      use_is_what_arrived = use_is (run ks) I;
      eligible_at_the_next_start = starts (run ks) I;
      left_by_the_next_end = left_in_time (run ks) I;
    }

-- ---- at most p / 2 in each frame

told_by_its_own : (ks : List Call) (c : ℕ) → KeepsToHalf c ks
    → exchanges c ks ≡ own_exchanges (run ks).now.link (figures (run ks).now c) (asks (exchanges c ks))
told_by_its_own ks c half = go (same c notice_number)
  where
    go : (c ≡ notice_number) ⊎ (c ≡ notice_number → ⊥) → exchanges c ks ≡ own_exchanges (run ks).now.link (figures (run ks).now c) (asks (exchanges c ks))
    go (inl n) =
        let e : exchanges c ks ≡ [] = no_connection_asks c n ks nothing_yet [] fresh_invariant in
        e ∙ ap (λ (es : List Exchange). own_exchanges (run ks).now.link (figures (run ks).now c) (asks es)) (sym e)
    go (inr level) = told_by_own c level ks nothing_yet [] fresh_invariant refl half refl

pub never_for_room : (ks : List Call) (c : ℕ) → KeepsToHalf c ks → All (λ (e : Exchange). e.verdict ≡ 12 → ⊥) (exchanges c ks)
never_for_room ks c half =
    subst (All (λ (e : Exchange). e.verdict ≡ 12 → ⊥)) (sym (told_by_its_own ks c half))
    (never_12 (run ks).now.link (figures (run ks).now c) (asks (exchanges c ks)) [] tt)

pub no_other_changes_it : (ks : List Call) (c : ℕ) → KeepsToHalf c ks → (ms : List Call) (d : ℕ) → (run ks).now.link ≡ (run ms).now.link → figures (run ks).now c ≡ figures (run ms).now d
    → asks (exchanges c ks) ≡ asks (exchanges d ms) → exchanges c ks ≡ exchanges d ms
no_other_changes_it ks c half ms d same_link alike asked =
    told_by_its_own ks c half
    ∙ ap (own_exchanges (run ks).now.link (figures (run ks).now c)) asked
    ∙ ap (λ (x : Share). own_exchanges (run ks).now.link x (asks (exchanges d ms))) alike
    ∙ ap (λ (l : Framing). own_exchanges l (figures (run ms).now d) (asks (exchanges d ms))) same_link
    ∙ sym (told_by_its_own ms d half_there)
  where
    -- it keeps to half there because it asks the same
    half_there : KeepsToHalf d ms
    half_there =
        subst (λ (l : Framing). HalfAtMost l (figures (run ms).now d) (asks (exchanges d ms))) same_link
        (subst (λ (x : Share). HalfAtMost (run ks).now.link x (asks (exchanges d ms))) alike
        (subst (HalfAtMost (run ks).now.link (figures (run ks).now c)) asked half))

pub at_most_half : AtMostHalf
at_most_half ks c half = record { never_for_room = never_for_room ks c half; no_other_changes_it = no_other_changes_it ks c half }

-- ---- every call, every state

pub every_call : EveryCall
every_call k s = record {
  refusals_change_nothing = refusals_change_nothing k s;
  test_is_exact = test_is_exact s;
  verdict_1_exactly = verdict_1_exactly k s;
  sound_is_kept = sound_is_kept k s;
  answers_fit = answers_fit k s;
}

pub every_state : EveryState
every_state s = record {
  no_link_means_zero = no_link_means_zero s;
  rows_fit = rows_fit s;
  notices_fit = notices_fit s;
  eligibilities_fit = eligibilities_fit s;
  notices_come_last = notices_come_last s;
  fifteen_after_thirteen = λ len tag. fifteen_after_thirteen len tag s;
  nineteen_exactly = λ c len tag. nineteen_exactly c len tag s;
  over_is_told = λ x. over_is_told x s;
  told_with_8_alone = λ k. told_with_8_alone k s;
}
