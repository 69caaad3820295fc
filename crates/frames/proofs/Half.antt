-- What a connection has used of this frame is what its accepted packets of this frame take; and a connection that offers at most p / 2 packets in each frame has room.
use Prim.Native.Nat.{ℕ, zero, suc, ◌+◌, ◌≤◌, ◌<◌}
use native.Mathlib.Omega.{arith}
use mathlib.Core.Path.{◌≡◌, refl, sym, ap, ◌∙◌, subst}
use mathlib.Core.Bool.{Bool, true, false, cond, ◌&&◌}
use mathlib.Core.Logic.{◌⊎◌, inl, inr, ⊎_elim}
use mathlib.Core.List.{List, [], ◌∷◌, ◌++◌, map}
use mathlib.Core.Option.{none}
use lib.Dec.{eqb}
use lib.ListN.{length}
use borrow.Author.Tests.{eq-eqb, ne_eqb}
use Rattle.rules.specs.declared.Packet.{Packet}
use Rattle.rules.specs.Words.{All, within, total}
use Rattle.rules.specs.Limits.{notice_number}
use Rattle.rules.specs.Service.{of}
use Rattle.rules.specs.Runs.{Departure, Asked, Exchange}
use Rattle.rules.proofs.Lists.{all_map, all_zip, all_sub, Sub, nil, skip, keep, total_snoc, total_add, total_le, total_eq, total_none, total_sub}
use Rattle.rules.proofs.Sums.{split, same, cond_is}
use Rattle.rules.proofs.Tests.{and_intro, within_intro}
use Rattle.rules.proofs.Rows.{to_of, all_map_of}
use Rattle.rules.proofs.Invariant.{whats}
use Rattle.frames.specs.Model.{Framing, Share, State}
use Rattle.frames.specs.Admission.{cost}
use Rattle.frames.specs.Service.{next_frame, newly, used}
use Rattle.frames.specs.SoundState.{Fits, Dated, SoundWithLink}
use Rattle.frames.specs.Runs.{asks, offers_in}
use Rattle.frames.proofs.FrameLaws.{frame_mono, same_frame, in_this_frame, one_before}
use Rattle.frames.proofs.RowLaws.{length_total, total_append, sub_all}
use Rattle.frames.proofs.Figures.{cost_is, newly_yes, newly_no}
use Rattle.frames.proofs.SoundTick.{facts}
use Rattle.frames.proofs.Invariant.{frame_end, OnTime, LevelOnTime, Invariant}
use Rattle.frames.proofs.InTime.{held_waits}
use Rattle.frames.proofs.Names.{taken_so_far, frame_of, History, offer_in, HalfAtMost, granted, taken_in, arrived_now}

total_map : {A B : Type 0} (f : A → B) (w : B → ℕ) (xs : List A) → total w (map f xs) ≡ total (λ x. w (f x)) xs
total_map f w [] = refl
total_map f w (x ∷ xs) = omega (arith, total_map f w xs)

all_append : {A : Type 0} (P : A → Type 0) (xs ys : List A) → All P xs → All P ys → All P (xs ++ ys)
all_append P [] ys h k = k
all_append P (x ∷ xs) ys h k = (h.0, all_append P xs ys h.1 k)

-- ---- the accepted packets of c are the offers that were granted

abbrev pub ask_of : Packet → Asked
ask_of p = record { at = p.arrival; len = p.len; tag = p.tag; stamp = none }

pub granted_part : (es : List Exchange) → Sub (granted es) (asks es)
granted_part [] = nil
granted_part (e ∷ es) = go (eqb e.verdict 0) (granted_part es)
  where
    go : (b : Bool) → Sub (granted es) (asks es) → Sub (cond b (e.asked ∷ granted es) (granted es)) (e.asked ∷ asks es)
    go true k = keep e.asked k
    go false k = skip e.asked k

total_granted : (l : Framing) (t : ℕ) (es : List Exchange) → total (taken_in l t) (granted es) ≡ taken_so_far l t es
total_granted l t [] = refl
total_granted l t (e ∷ es) = go (eqb e.verdict 0) (total_granted l t es)
  where
    go : (b : Bool) → total (taken_in l t) (granted es) ≡ taken_so_far l t es
        → total (taken_in l t) (cond b (e.asked ∷ granted es) (granted es))
        ≡ cond (b && eqb (frame_of l.frame e.asked.at) (frame_of l.frame t)) (cost l e.asked.len) 0 + taken_so_far l t es
    go true k = ap (λ (n : ℕ). taken_in l t e.asked + n) k
    go false k = omega (arith, k)

module _ (h : History) (I : Invariant h) (c : ℕ) (level : c ≡ notice_number → ⊥) where
  open h use {now as s, accepted as acc, departed as gone}

  abbrev T : ℕ
  T = s.link.frame

  abbrev t : ℕ
  t = s.clock

  own : of c acc ≡ of c (whats gone) ++ of c s.held
  own = I.conserved c ∙ ap (λ (l : List Packet). of c (whats gone) ++ l) (held_waits s c level)

  -- ---- what has left arrived in another frame

  abbrev Old : Packet → Type 0
  Old p = (p.eligibility < t) × (p.eligibility ≡ next_frame T p.arrival)

  old : All Old (of c (whats gone))
  old = all_map (λ p k. k.1) (of c (whats gone)) (to_of c Old (whats gone) (all_map_of (λ d. d.what) (λ p. p.connection ≡ c → Old p) gone (all_map one gone I.on_time)))
    where
      one : (d : Departure) → LevelOnTime T t d → d.what.connection ≡ c → Old d.what
      one d f e = let k : OnTime T t d = f (λ n. level (sym e ∙ n)) in (omega (arith, k.not_early, k.past), k.next_start)

  abbrev Next : Packet → Type 0
  Next p = p.eligibility ≡ next_frame T p.arrival

  pub starts : All Next (of c acc)
  starts =
      subst (All Next) (sym own)
      (all_append Next (of c (whats gone)) (of c s.held) (all_map (λ p k. k.1) (of c (whats gone)) old)
      (all_sub Next (sub_all c s.held)
      (⊎_elim
      (λ z. subst (All Next) (sym (ap (λ (r : State). r.held) (I.sound.with_no_link z))) tt)
      (λ n. all_map (λ p f. f.next_start) s.held (I.sound.with_one n).dated)
      (same s.link.frame 0))))

  module _ (S : SoundWithLink s) where
    pos : 0 < T
    pos = (facts s S).some_frame

    of_this : (p : Packet) → frame_of T p.arrival ≡ frame_of T t → arrived_now s p ≡ p.len + s.link.silence
    of_this p e = cond_is (cost s.link p.len) 0 (eq-eqb (frame_of T p.arrival) (frame_of T t) e) ∙ cost_is s.link p.len

    of_other_frame : (p : Packet) → (frame_of T p.arrival ≡ frame_of T t → ⊥) → arrived_now s p ≡ 0
    of_other_frame p e = cond_is (cost s.link p.len) 0 (ne_eqb (frame_of T p.arrival) (frame_of T t) e)

    gone_none : total (arrived_now s) (of c (whats gone)) ≡ 0
    gone_none = total_none (arrived_now s) (of c (whats gone)) (all_map one (of c (whats gone)) old)
      where
        one : (p : Packet) → Old p → arrived_now s p ≡ 0
        one p k = of_other_frame p (λ e. omega (arith, k.0, k.1, in_this_frame T pos p.arrival t e))

    held_same : total (newly s.link t) (of c s.held) ≡ total (arrived_now s) (of c s.held)
    held_same = total_eq (newly s.link t) (arrived_now s) (of c s.held) (all_sub (λ p. newly s.link t p ≡ arrived_now s p) (sub_all c s.held) (all_map one s.held S.dated))
      where
        one : (p : Packet) → Dated T t p → newly s.link t p ≡ arrived_now s p
        one p f = go (split p.eligibility t)
          where
            go : (p.eligibility ≤ t) ⊎ (t < p.eligibility) → newly s.link t p ≡ arrived_now s p
            go (inl k) = newly_no s.link t p k ∙ sym (of_other_frame p (λ e. omega (arith, f.next_start, in_this_frame T pos p.arrival t e)))
            go (inr k) = newly_yes s.link t p k ∙ sym (of_this p (same_frame T pos p.arrival t f.arrived (omega (arith, f.next_start))))

    linked_use : used s.link t c s.held ≡ total (arrived_now s) (of c acc)
    linked_use =
        omega (
          arith,
          ap (total (arrived_now s)) own,
          total_append (arrived_now s) (of c (whats gone)) (of c s.held),
          gone_none,
          held_same,
        )

  pub use_is : used s.link t c s.held ≡ total (arrived_now s) (of c acc)
  use_is = ⊎_elim unlinked (λ n. linked_use (I.sound.with_one n)) (same s.link.frame 0)
    where
      unlinked : s.link.frame ≡ 0 → used s.link t c s.held ≡ total (arrived_now s) (of c acc)
      unlinked z =
          let e = I.sound.with_no_link z in
          let nothing : s.held ≡ [] = ap (λ (r : State). r.held) e in
          omega (
            arith,
            ap (λ (l : List Packet). total (newly s.link t) (of c l)) nothing,
            ap (λ (l : List Packet). total (arrived_now s) (of c l)) nothing,
            ap (total (arrived_now s)) own,
            total_append (arrived_now s) (of c (whats gone)) (of c s.held),
            total_none (arrived_now s) (of c (whats gone)) (all_map (λ p k. absurd (omega (arith, k.0, ap (λ (r : State). r.clock) e))) (of c (whats gone)) old),
          )

  -- ---- by its offers

  module _ (es : List Exchange) (G : map ask_of (of c acc) ≡ granted es) where
    pub use_by_offers : used s.link t c s.held ≡ taken_so_far s.link t es
    use_by_offers = use_is ∙ sym (total_map ask_of (taken_in s.link t) (of c acc)) ∙ ap (total (taken_in s.link t)) G ∙ total_granted s.link t es

    -- its held packets that came in frame f were offered in it
    module _ (S : SoundWithLink s) where
      abbrev in_frame : ℕ → Packet → ℕ
      in_frame f p = offer_in s.link f (ask_of p)

      came : (f : ℕ) → total (in_frame f) (of c s.held) ≤ offers_in s.link f (asks es)
      came f =
          omega (
            arith,
            ap (total (in_frame f)) own,
            total_append (in_frame f) (of c (whats gone)) (of c s.held),
            total_map ask_of (offer_in s.link f) (of c acc),
            ap (total (offer_in s.link f)) G,
            total_sub (offer_in s.link f) (granted_part es),
          )

      -- .. and they came in this frame or in the one before
      this_or_before : All (λ p. (frame_of T p.arrival ≤ frame_of T t) × (frame_of T t ≤ frame_of T p.arrival + 1) × (within 1 s.link.largest p.len ≡ true)) (of c s.held)
      this_or_before =
          all_sub (λ p. (frame_of T p.arrival ≤ frame_of T t) × (frame_of T t ≤ frame_of T p.arrival + 1) × (within 1 s.link.largest p.len ≡ true)) (sub_all c s.held)
          (all_zip one s.held S.fit (all_zip (λ p a b. (a, b)) s.held S.dated I.recent))
        where
          one : (p : Packet) → Fits s.link s.connections p → Dated T t p × (frame_end s ≤ p.eligibility + T)
              → (frame_of T p.arrival ≤ frame_of T t) × (frame_of T t ≤ frame_of T p.arrival + 1) × (within 1 s.link.largest p.len ≡ true)
          one p f k = (
            frame_mono T (pos S) p.arrival t k.0.arrived,
            one_before T (pos S) p.arrival t (omega (arith, k.0.next_start)),
            within_intro 1 s.link.largest p.len f.some_len f.len_le,
          )

      counts : (f : ℕ) (p : Packet) → within 1 s.link.largest p.len ≡ true → frame_of T p.arrival ≡ f → in_frame f p ≡ 1
      counts f p w e = cond_is 1 0 (and_intro (within 1 s.link.largest p.len) (eqb (frame_of T p.arrival) f) w (eq-eqb (frame_of T p.arrival) f e))

      first_frame : frame_of T t ≡ 0 → length (of c s.held) ≤ offers_in s.link 0 (asks es)
      first_frame z =
          omega (
            arith,
            came 0,
            length_total (of c s.held),
            total_le (λ _. 1) (in_frame 0) (of c s.held) (all_map (λ p k. omega (arith, counts 0 p k.2 (omega arith))) (of c s.held) this_or_before),
          )

      later_frame : (j : ℕ) → frame_of T t ≡ suc j → length (of c s.held) ≤ offers_in s.link j (asks es) + offers_in s.link (suc j) (asks es)
      later_frame j e =
          omega (
            arith,
            came j,
            came (suc j),
            length_total (of c s.held),
            total_add (in_frame j) (in_frame (suc j)) (of c s.held),
            total_le (λ _. 1) (λ p. in_frame j p + in_frame (suc j) p) (of c s.held) (all_map one (of c s.held) this_or_before),
          )
        where
          one : (p : Packet) → (frame_of T p.arrival ≤ frame_of T t) × (frame_of T t ≤ frame_of T p.arrival + 1) × (within 1 s.link.largest p.len ≡ true)
              → 1 ≤ in_frame j p + in_frame (suc j) p
          one p k = go (same (frame_of T p.arrival) j)
            where
              go : (frame_of T p.arrival ≡ j) ⊎ (frame_of T p.arrival ≡ j → ⊥) → 1 ≤ in_frame j p + in_frame (suc j) p
              go (inl i) = omega (arith, counts j p k.2 i)
              go (inr i) = omega (arith, counts (suc j) p k.2 (omega (arith, i, k.0, k.1)))

      -- so there is room for one more offer within the half
      pub has_room : (x : Share) (a : Asked) → a.at ≡ t → within 1 s.link.largest a.len ≡ true → HalfAtMost s.link x (asks es ++ a ∷ []) → length (of c s.held) < x.places
      has_room x a now w half = go (frame_of T t) refl
        where
          this_one : offers_in s.link (frame_of T t) (asks es ++ a ∷ []) ≡ offers_in s.link (frame_of T t) (asks es) + 1
          this_one =
              total_snoc (offer_in s.link (frame_of T t)) (asks es) a
              ∙ ap (λ (n : ℕ). offers_in s.link (frame_of T t) (asks es) + n)
              (cond_is 1 0 (and_intro (within 1 s.link.largest a.len) (eqb (frame_of T a.at) (frame_of T t)) w (eq-eqb (frame_of T a.at) (frame_of T t) (ap (frame_of T) now))))

          go : (f : ℕ) → frame_of T t ≡ f → length (of c s.held) < x.places
          go zero e =
              omega (arith, first_frame e, half (frame_of T t), this_one, ap (λ (f : ℕ). offers_in s.link f (asks es)) e)
          go (suc j) e =
              omega (
                arith,
                later_frame j e,
                half (frame_of T t),
                this_one,
                ap (λ (f : ℕ). offers_in s.link f (asks es)) e,
                half j,
                total_snoc (offer_in s.link j) (asks es) a,
              )
