-- Many ticks: by what the first of them does, by quiet ticks at once, and stretch by stretch, as the code runs them.
use Prim.Native.Nat.{ℕ, zero, suc, ◌+◌, ◌-◌, ◌≤◌, ◌<◌, min}
use native.Mathlib.Omega.{arith}
use mathlib.Core.Path.{◌≡◌, refl, sym, ap, ◌∙◌, subst}
use mathlib.Core.Bool.{Bool, true, false, cond, not, ◌||◌, true≢false}
use mathlib.Core.Logic.{◌⊎◌, inl, inr}
use mathlib.Core.Option.{Option, none, some}
use Rattle.rules.specs.declared.Packet.{Packet}
use lib.Dec.{eqb}
use borrow.Author.Tests.{eq-eqb, ne_eqb, eqb-true, eqb-false, not-false}
use Rattle.rules.specs.Limits.{clock_end, beyond_32_bits}
use Rattle.rules.specs.Model.{no_short}
use Rattle.rules.proofs.Sums.{cond_is, cond_ind}
use Rattle.either_line.specs.Line.{Line, tick, Reply, SoundLine, refuse, respond, resting_verdict}
use Rattle.either_line.proofs.Results.{refusals_change_nothing, sound_is_kept}
use Rattle.tables.specs.Places.{is_some}
use Rattle.tables.specs.Options.{option_of}
use Rattle.std.specs.Prelude as code
use Rattle.tables.specs.Lent.{Tables}
use Rattle.both.specs.declared.Kept.{Kept}
use Rattle.both.specs.View.{view, kept_of, written, has_link, kept_clock, sound_kept}
use Rattle.both.specs.Replied.{Replied, replied_of}
use Rattle.both.specs.Quiet.{passed}
use Rattle.both.proofs.SoundLaws.{set_seen, is_sound, sound_view, tables_kept, kept_back}
use Rattle.both.proofs.WrittenLaws.{written_reads_back}
use Rattle.both.proofs.QuietLaws.{Quiet, quiet_reply, one_quiet_tick, over_quiet, passed_written, quiet_room, quiet_fits}
use Rattle.board.specs.Ticks.{run_ticks}
use Rattle.board.specs.Stretch.{most_at_once, quiet_of, counted, quiet_stretch, stretch, undeparted, last_of, counted_told}

-- ---- many ticks, apart from their verdict

-- the ticks that were done, the packet that departed with the last of them, if one did, and the line then
pub record Many : Type 0 where
  pub done : ℕ
  pub departed : Option Packet
  pub next : Line

abbrev no_ticks : Line → Many
no_ticks s = record { done = 0; departed = none; next = s }

-- k ticks before them, with which no packet departed
abbrev later : ℕ → Many → Many
later k m = record { done = k + m.done; departed = m.departed; next = m.next }

unfoldable pub many : ℕ → Line → Many
many zero s = no_ticks s
many (suc n) s =
    cond (eqb (respond tick s).verdict 0)
    (cond (is_some (respond tick s).departed)
    (record { done = 1; departed = (respond tick s).departed; next = (respond tick s).next })
    (later 1 (many n (respond tick s).next)))
    (no_ticks s)

-- the verdict is that of the first tick, where one is asked
abbrev pub many_verdict : ℕ → Line → ℕ
many_verdict n s = cond (eqb n 0) (resting_verdict s) (respond tick s).verdict

-- as a reply
abbrev pub as_reply : ℕ → Many → Reply
as_reply v m = record { verdict = v; number = m.done; short = no_short; departed = m.departed; next = m.next }

abbrev one_more_than : Reply → Reply
one_more_than a = record { verdict = 0; number = 1 + a.number; short = no_short; departed = a.departed; next = a.next }

-- ---- the first tick

module _ (n : ℕ) (s : Line) where
  pub refused_first : ((respond tick s).verdict ≡ 0 → ⊥) → many (suc n) s ≡ no_ticks s
  unfolding many
  refused_first z = rw (ne_eqb (respond tick s).verdict 0 z)

  module _ (e : (respond tick s).verdict ≡ 0) where
    pub departed_first : is_some (respond tick s).departed ≡ true → many (suc n) s ≡ record { done = 1; departed = (respond tick s).departed; next = (respond tick s).next }
    unfolding many
    departed_first g = rw (eq-eqb (respond tick s).verdict 0 e, g)

    pub one_first : is_some (respond tick s).departed ≡ false → many (suc n) s ≡ later 1 (many n (respond tick s).next)
    unfolding many
    one_first g = rw (eq-eqb (respond tick s).verdict 0 e, g)

-- ---- .. and with it

module _ (n : ℕ) (s : Line) where
  run_refused : ((respond tick s).verdict ≡ 0 → ⊥) → run_ticks (suc n) s ≡ refuse s (respond tick s).verdict 0
  unfolding run_ticks
  run_refused z = rw (ne_eqb (respond tick s).verdict 0 z)

  module _ (e : (respond tick s).verdict ≡ 0) where
    run_departed : is_some (respond tick s).departed ≡ true
        → run_ticks (suc n) s ≡ record { verdict = 0; number = 1; short = no_short; departed = (respond tick s).departed; next = (respond tick s).next }
    unfolding run_ticks
    run_departed g = rw (eq-eqb (respond tick s).verdict 0 e, g)

    run_one : is_some (respond tick s).departed ≡ false → run_ticks (suc n) s ≡ one_more_than (run_ticks n (respond tick s).next)
    unfolding run_ticks
    run_one g = rw (eq-eqb (respond tick s).verdict 0 e, g)

  pub first_told : (n ≡ 0 → ⊥) → many_verdict n s ≡ (respond tick s).verdict
  first_told z = cond_is (resting_verdict s) (respond tick s).verdict (ne_eqb n 0 z)

pub run_is : (n : ℕ) (s : Line) → run_ticks n s ≡ as_reply (many_verdict n s) (many n s)
unfolding run_ticks many
run_is zero s = refl
run_is (suc n) s = go (eqb (respond tick s).verdict 0) refl (is_some (respond tick s).departed) refl (run_is n (respond tick s).next)
  where
    first : many_verdict (suc n) s ≡ (respond tick s).verdict
    first = first_told (suc n) s (λ i. omega arith)

    go : (b : Bool) → eqb (respond tick s).verdict 0 ≡ b → (d : Bool) → is_some (respond tick s).departed ≡ d
        → run_ticks n (respond tick s).next ≡ as_reply (many_verdict n (respond tick s).next) (many n (respond tick s).next)
        → run_ticks (suc n) s ≡ as_reply (many_verdict (suc n) s) (many (suc n) s)
    go true e true f ih =
        run_departed n s (eqb-true _ 0 e) f
        ∙ ap (as_reply 0) (sym (departed_first n s (eqb-true _ 0 e) f))
        ∙ ap (λ (v : ℕ). as_reply v (many (suc n) s)) (sym (first ∙ eqb-true _ 0 e))
    go true e false f ih =
        run_one n s (eqb-true _ 0 e) f
        ∙ ap one_more_than ih
        ∙ ap (as_reply 0) (sym (one_first n s (eqb-true _ 0 e) f))
        ∙ ap (λ (v : ℕ). as_reply v (many (suc n) s)) (sym (first ∙ eqb-true _ 0 e))
    go false e d f ih =
        run_refused n s (eqb-false _ 0 e)
        ∙ ap (as_reply (respond tick s).verdict) (sym (refused_first n s (eqb-false _ 0 e)))
        ∙ ap (λ (v : ℕ). as_reply v (many (suc n) s)) (sym first)

-- ---- ticks before others

none_before : (m : Many) → later 0 m ≡ m
none_before m = let e : 0 + m.done ≡ m.done = omega arith in ap (λ (d : ℕ). record { done = d; departed = m.departed; next = m.next }) e

before_before : (a b : ℕ) (m : Many) → later a (later b m) ≡ later (a + b) m
before_before a b m =
    let e : a + (b + m.done) ≡ a + b + m.done = omega arith in ap (λ (d : ℕ). record { done = d; departed = m.departed; next = m.next }) e

-- ---- quiet ticks

one_more : (k m : ℕ) (s z : Line) → respond tick s ≡ quiet_reply s → many (k + m) (passed s 1) ≡ later k (many m z) → many (suc k + m) s ≡ later (suc k) (many m z)
one_more k m s z a ih =
    let e : suc k + m ≡ suc (k + m) = omega arith in
    let f : 1 + k ≡ suc k = omega arith in
    ap (λ (j : ℕ). many j s) e
    ∙ one_first (k + m) s (ap (λ (x : Reply). x.verdict) a) (ap (λ (x : Reply). is_some x.departed) a)
    ∙ ap (λ (x : Reply). later 1 (many (k + m) x.next)) a
    ∙ ap (later 1) ih
    ∙ before_before 1 k (many m z)
    ∙ ap (λ (j : ℕ). later j (many m z)) f

record Over (k : ℕ) (s z : Line) : Type 0 where
  ticks : (m : ℕ) → many (k + m) s ≡ later k (many m z)
  sound_then : SoundLine z

passes_over : (k : ℕ) (s : Line) → Quiet s k → Over k s (passed s k)
passes_over = over_quiet Over
    (λ s S. record { ticks = λ m. let e : 0 + m ≡ m = omega arith in ap (λ (j : ℕ). many j s) e ∙ sym (none_before (many m s)); sound_then = S })
    (λ k s z a O. record { ticks = λ m. one_more k m s z a (O.ticks m); sound_then = O.sound_then })

-- ---- a stretch

-- its ticks, where a packet departs with the last or the next is refused
abbrev of_reply : Reply → Many
of_reply a = record { done = a.number; departed = a.departed; next = a.next }

-- what a stretch of `left` ticks from the line z on is to all of them
record Stretched (left : ℕ) (z : Line) (a : Reply) : Type 0 where
  sound_then : SoundLine a.next
  first_verdict : a.verdict ≡ (respond tick z).verdict
  few : a.number ≤ left
  ends : (a.verdict ≡ 0 → ⊥) ⊎ (is_some a.departed ≡ true) → many left z ≡ of_reply a
  goes_on : a.verdict ≡ 0 → is_some a.departed ≡ false → (1 ≤ a.number) × (many left z ≡ later a.number (many (left - a.number) a.next))

abbrev counted_as : ℕ → Reply → Reply
counted_as n a = record { verdict = a.verdict; number = n; short = a.short; departed = a.departed; next = a.next }

module _ (m : ℕ) (z : Line) (S : SoundLine z) where
  abbrev a : Reply
  a = respond tick z

  done_one : a.verdict ≡ 0 → Stretched (suc m) z (counted_as 1 a)
  done_one e = record {
    sound_then = sound_is_kept tick z S;
    first_verdict = refl;
    few = omega arith;
    ends = last;
    goes_on = λ _ g. let f : suc m - 1 ≡ m = omega arith in (omega arith, one_first m z e g ∙ ap (λ (j : ℕ). later 1 (many j a.next)) (sym f));
  }
    where
      last : (a.verdict ≡ 0 → ⊥) ⊎ (is_some a.departed ≡ true) → many (suc m) z ≡ of_reply (counted_as 1 a)
      last (inl n) = absurd (n e)
      last (inr g) = departed_first m z e g

  refused_one : (a.verdict ≡ 0 → ⊥) → Stretched (suc m) z (counted_as 0 a)
  refused_one n =
      let r = refusals_change_nothing tick z n in
      record {
        sound_then = sound_is_kept tick z S;
        first_verdict = refl;
        few = omega arith;
        ends = λ _. refused_first m z n ∙ ap (λ (x : Line). record { done = 0; departed = none; next = x }) (sym r.0) ∙ ap (λ (o : Option _). record { done = 0; departed = o; next = a.next }) (sym r.1);
        goes_on = λ e _. absurd (n e);
      }

  one_stretched : Stretched (suc m) z (counted a)
  one_stretched =
      cond_ind (λ n. Stretched (suc m) z (counted_as n a)) (eqb a.verdict 0) (λ e. done_one (eqb-true _ 0 e)) (λ e. refused_one (eqb-false _ 0 e))

quiet_stretched : (left : ℕ) (z : Line) (k : ℕ) → Quiet z k → k ≤ left → (k ≡ 0 → ⊥) → Stretched left z (quiet_stretch k z)
quiet_stretched left z zero Q f n = absurd (n refl)
quiet_stretched left z (suc k) Q f n =
    let O = passes_over (suc k) z Q in
    let e : suc k + (left - suc k) ≡ left = omega arith in
    record {
      sound_then = O.sound_then;
      first_verdict = sym (ap (λ (x : Reply). x.verdict) (one_quiet_tick z k Q));
      few = f;
      ends = last;
      goes_on = λ _ _. (omega arith, ap (λ (j : ℕ). many j z) (sym e) ∙ O.ticks (left - suc k));
    }
  where
    last : (◌≡◌ {A = ℕ} 0 0 → ⊥) ⊎ (false ≡ true) → many left z ≡ of_reply (quiet_stretch (suc k) z)
    last (inl w) = absurd (w refl)
    last (inr w) = absurd (true≢false (sym w))

stretched : (left : ℕ) (z : Line) → (left ≡ 0 → ⊥) → SoundLine z → Stretched left z (stretch left z)
unfolding stretch
stretched zero z n S = absurd (n refl)
stretched (suc m) z n S =
    cond_ind (Stretched (suc m) z) (eqb (quiet_of (suc m) z) 0)
    (λ _. one_stretched m z S)
    (λ e. let q = quiet_room (min (suc m) most_at_once) z {k = quiet_of (suc m) z} refl (eqb-false _ 0 e) in
    quiet_stretched (suc m) z (quiet_of (suc m) z) q.quiet (omega (arith, q.few)) (eqb-false _ 0 e))

-- ---- a stretch, in code

module _ (left : ℕ) (h : Kept) (t : Tables) {k : ℕ} (e : k ≡ quiet_of left (view h t)) where
  -- they end before the clock does
  pub quiet_in_time : (k ≡ 0 → ⊥) → kept_clock h + k ≤ clock_end
  quiet_in_time n = (quiet_fits (min left most_at_once) h t e n).1

  stretch_quiet : (k ≡ 0 → ⊥) → stretch left (view h t) ≡ quiet_stretch k (view h t)
  unfolding stretch
  stretch_quiet n = rw (← e, ne_eqb k 0 n)

  stretch_one : k ≡ 0 → stretch left (view h t) ≡ counted (respond tick (view h t))
  unfolding stretch
  stretch_one z = rw (← e, z)

  module _ (ok : sound_kept h t ≡ true) where
    pub quiet_at_once : (k ≡ 0 → ⊥) → (r : Replied) → r ≡ undeparted 0 k (kept_of (passed (view h t) k))
        → (r ≡ replied_of (stretch left (view h t))) × (t ≡ written (stretch left (view h t)).next)
    quiet_at_once n r f = (
      f ∙ ap replied_of (sym (stretch_quiet n)),
      tables_kept h t ok ∙ passed_written (view h t) k ∙ ap (λ (x : Reply). written x.next) (sym (stretch_quiet n)),
    )

    pub one_at_once : k ≡ 0 → (told r : Replied) (u : Tables) → told ≡ replied_of (respond tick (view h t)) → u ≡ written (respond tick (view h t)).next → r ≡ counted_told told
        → (r ≡ replied_of (stretch left (view h t))) × (u ≡ written (stretch left (view h t)).next)
    one_at_once z told r u f g i = (
      i ∙ ap counted_told f ∙ ap replied_of (sym (stretch_one z)),
      g ∙ ap (λ (x : Reply). written x.next) (sym (stretch_one z)),
    )

-- ---- all ticks

-- `done` of n ticks from the line s on are done, none of them with a departure, and h and t are what is kept then
pub record Going (n : ℕ) (s : Line) (h : Kept) (t : Tables) (done : ℕ) : Type 0 where
  pub sound : sound_kept h t ≡ true
  pub so_far : many n s ≡ later done (many (n - done) (view h t))
  pub within : done ≤ n
  pub at_first : done ≡ 0 → view h t ≡ s
  pub went_on : (done ≡ 0 → ⊥) → (respond tick s).verdict ≡ 0

pub going_first : (n : ℕ) (h : Kept) (t : Tables) → sound_kept h t ≡ true → Going n (view h t) h t 0
going_first n h t ok =
    let e : n - 0 ≡ n = omega arith in
    record {
      sound = ok;
      so_far = sym (none_before (many n (view h t))) ∙ ap (λ (j : ℕ). later 0 (many j (view h t))) (sym e);
      within = omega arith;
      at_first = λ _. refl;
      went_on = λ z. absurd (z refl);
    }

-- whether a packet departs, of the code's option
departs : (o : Option Packet) → is_some o ≡ code.is_some (option_of o)
departs none = refl
departs (some p) = refl

-- as the code tells them
abbrev as_told : ℕ → Many → Replied
as_told v m = record { verdict = v; number = m.done; short = no_short; departed = option_of m.departed; kept = kept_of m.next }

module _ (n : ℕ) (s : Line) where
  run_told : replied_of (run_ticks n s) ≡ as_told (many_verdict n s) (many n s)
  run_told = ap replied_of (run_is n s)

  run_next : (run_ticks n s).next ≡ (many n s).next
  run_next = ap (λ (a : Reply). a.next) (run_is n s)

  same_told : (v : ℕ) (m : Many) → many_verdict n s ≡ v → many n s ≡ m
      → (as_told v m ≡ replied_of (run_ticks n s)) × (written m.next ≡ written (run_ticks n s).next)
  same_told v m e f = (
    sym (run_told ∙ ap (λ (x : ℕ). as_told x (many n s)) e ∙ ap (as_told v) f),
    sym (ap written run_next ∙ ap (λ (x : Many). written x.next) f),
  )

module _ (n : ℕ) (s : Line) (h : Kept) (t : Tables) (done : ℕ) (G : Going n s h t done) where
  module _ (l : done < n) (r : Replied) (u : Tables) (D : (r ≡ replied_of (stretch (n - done) (view h t))) × (u ≡ written (stretch (n - done) (view h t)).next)) where
    abbrev b : Reply
    b = stretch (n - done) (view h t)

    T : Stretched (n - done) (view h t) b
    T = stretched (n - done) (view h t) (λ z. omega arith) (is_sound h t G.sound)

    number_is : r.number ≡ b.number
    number_is = ap (λ (x : Replied). x.number) D.0

    pub number_few : r.number ≤ n - done
    number_few = subst (λ (x : ℕ). x ≤ n - done) (sym number_is) T.few

    -- a packet departs, or the next tick is refused
    verdict_is : many_verdict n s ≡ cond (eqb done 0) b.verdict 0
    verdict_is = first_told n s (λ z. omega arith) ∙ cond_ind (λ x. (respond tick s).verdict ≡ x) (eqb done 0)
        (λ e. ap (λ (x : Line). (respond tick x).verdict) (sym (G.at_first (eqb-true _ 0 e))) ∙ sym T.first_verdict)
        (λ e. G.went_on (eqb-false _ 0 e))

    ended : (v g : Bool) → not (eqb r.verdict 0) ≡ v → code.is_some r.departed ≡ g → (v || g) ≡ true → (b.verdict ≡ 0 → ⊥) ⊎ (is_some b.departed ≡ true)
    ended true g e f i = inl (λ z. true≢false (sym e ∙ ap (λ (x : Replied). not (eqb x.verdict 0)) D.0 ∙ ap (λ (x : ℕ). not (eqb x 0)) z))
    ended false g e f i = inr (departs b.departed ∙ sym (ap (λ (x : Replied). code.is_some x.departed) D.0) ∙ f ∙ i)

    pub going_last : (not (eqb r.verdict 0) || code.is_some r.departed) ≡ true → (x : Replied) → x ≡ last_of r done → (x ≡ replied_of (run_ticks n s)) × (u ≡ written (run_ticks n s).next)
    going_last i x e =
        let m = G.so_far ∙ ap (later done) (T.ends (ended _ _ refl refl i)) in
        let w = same_told n s (cond (eqb done 0) b.verdict 0) (later done (of_reply b)) verdict_is m in
        (e ∙ ap (λ (y : Replied). last_of y done) D.0 ∙ w.0, D.1 ∙ w.1)

    -- neither
    goes : (v g : Bool) → not (eqb r.verdict 0) ≡ v → code.is_some r.departed ≡ g → (v || g) ≡ false → (b.verdict ≡ 0) × (is_some b.departed ≡ false)
    goes true g e f i = absurd (true≢false i)
    goes false g e f i = (
      sym (ap (λ (x : Replied). x.verdict) D.0) ∙ eqb-true r.verdict 0 (not-false _ e),
      departs b.departed ∙ sym (ap (λ (x : Replied). code.is_some x.departed) D.0) ∙ f ∙ i,
    )

    module _ (i : (not (eqb r.verdict 0) || code.is_some r.departed) ≡ false) where
      o : (1 ≤ b.number) × (many (n - done) (view h t) ≡ later b.number (many (n - done - b.number) b.next))
      o = let g = goes _ _ refl refl i in T.goes_on g.0 g.1

      pub number_some : 1 ≤ r.number
      number_some = subst (λ (x : ℕ). 1 ≤ x) (sym number_is) o.0

      pub going_on : Going n s r.kept u (done + r.number)
      going_on =
          let back = written_reads_back b.next T.sound_then in
          let k : r.kept ≡ kept_of b.next = ap (λ (x : Replied). x.kept) D.0 in
          let there : view r.kept u ≡ b.next = rw (k, D.1) back.0 in
          let e : n - done - b.number ≡ n - (done + r.number) = omega (arith, number_is) in
          record {
            sound = rw (k, D.1) back.1;
            so_far =
                G.so_far
                ∙ ap (later done) o.1
                ∙ before_before done b.number _
                ∙ ap (λ (j : ℕ). later (done + j) (many (n - done - b.number) b.next)) (sym number_is)
                ∙ ap (λ (j : ℕ). later (done + r.number) (many j b.next)) e
                ∙ ap (λ (x : Line). later (done + r.number) (many (n - (done + r.number)) x)) (sym there);
            within = omega (arith, number_few);
            at_first = λ z. absurd (omega (arith, number_some));
            went_on = λ _. first_is_done (eqb done 0) refl;
          }
        where
          first_is_done : (c : Bool) → eqb done 0 ≡ c → (respond tick s).verdict ≡ 0
          first_is_done true e =
              ap (λ (x : Line). (respond tick x).verdict) (sym (G.at_first (eqb-true _ 0 e))) ∙ sym T.first_verdict ∙ (goes _ _ refl refl i).0
          first_is_done false e = G.went_on (eqb-false _ 0 e)

  -- all are done
  pub going_all : (n ≡ 0 → ⊥) → n ≤ done → (x : Replied) → x ≡ undeparted 0 n h → (x ≡ replied_of (run_ticks n s)) × (t ≡ written (run_ticks n s).next)
  unfolding many
  going_all z l x e =
      let d : done ≡ n = omega (arith, G.within) in
      let f : n - done ≡ 0 = omega arith in
      let g : n + 0 ≡ n = omega arith in
      let m : many n s ≡ record { done = n; departed = none; next = view h t } =
      G.so_far ∙ ap (λ (j : ℕ). later done (many j (view h t))) f ∙ ap (λ (j : ℕ). record { done = j + 0; departed = none; next = view h t }) d ∙ ap (λ (j : ℕ). record { done = j; departed = none; next = view h t }) g in
      let w = same_told n s 0 (record { done = n; departed = none; next = view h t }) (first_told n s z ∙ G.went_on (λ y. z (sym d ∙ y))) m in
      (e ∙ ap (undeparted 0 n) (kept_back h t G.sound) ∙ w.0, tables_kept h t G.sound ∙ w.1)

-- ---- numbers of the loop

pub done_fits : (n done k : ℕ) → done < n → k ≤ n - done → n < beyond_32_bits → done + k < beyond_32_bits
done_fits n done k l f b = omega arith

pub left_less : (n done k : ℕ) → done < n → 1 ≤ k → n - (done + k) < n - done
left_less n done k l s = omega arith

-- ---- no tick is asked

resting_is : (h : Kept) (t : Tables) → sound_kept h t ≡ true → resting_verdict (view h t) ≡ cond (has_link h) 0 2
resting_is h t ok = rw (sound_view h t ok, set_seen h t) (go (has_link h))
  where
    go : (b : Bool) → ◌≡◌ {A = ℕ} (cond (not b) 2 0) (cond b 0 2)
    go true = refl
    go false = refl

pub none_asked : (n : ℕ) (h : Kept) (t : Tables) → sound_kept h t ≡ true → n ≡ 0 → (v : ℕ) → v ≡ cond (has_link h) 0 2 → (x : Replied) → x ≡ undeparted v 0 h
    → (x ≡ replied_of (run_ticks n (view h t))) × (t ≡ written (run_ticks n (view h t)).next)
unfolding many
none_asked n h t ok z v e x f =
    let w = same_told n (view h t) v (no_ticks (view h t)) (cond_is (resting_verdict (view h t)) (respond tick (view h t)).verdict (eq-eqb n 0 z) ∙ resting_is h t ok ∙ sym e) (ap (λ (j : ℕ). many j (view h t)) z) in
    (f ∙ ap (undeparted v 0) (kept_back h t ok) ∙ w.0, tables_kept h t ok ∙ w.1)
