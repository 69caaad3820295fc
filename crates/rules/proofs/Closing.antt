-- What a close, the calls after it and the next admission do with a number (document 02, R-8).
use Prim.Native.Nat.{ℕ, zero, suc, ◌≤◌, ◌<◌}
use native.Mathlib.Omega.{arith}
use mathlib.Core.Path.{◌≡◌, refl, sym, ap, ◌∙◌, subst}
use mathlib.Core.Bool.{Bool, true, false, cond, not, ◌&&◌, true≢false}
use mathlib.Core.Logic.{◌↔◌}
use mathlib.Core.List.{List, [], ◌∷◌}
use mathlib.Core.Option.{Option}
use lib.Dec.{leb, eqb}
use lib.ListN.{length, get_or}
use lib.Seq.{get_or-set_same, get_or-set_other}
use borrow.Author.Tests.{leb-true, le-leb, eqb-false, ne_eqb}
use Rattle.rules.specs.Limits.{max_connections}
use Rattle.rules.specs.Model.{Link, Connection, Past, State, Answer, Call, link, admit, offer, notice, close, tick, no_past, nth, past, figures, closed_at}
use Rattle.rules.specs.Admission.{owned, stands, free_number, joining, charge_time}
use Rattle.rules.specs.Service.{suits, remember, of, ticked, charge_over, expired, swept}
use Rattle.rules.specs.SoundState.{Orderly, Sound}
use Rattle.rules.specs.SoundTest.{sound}
use Rattle.rules.specs.Calls.{heard, verdicts, verdict, eligibility_now, done, settle, answer}
use Rattle.rules.proofs.Doings.{placed}
use Rattle.rules.proofs.Doings.{joined, noted, marked}
use Rattle.rules.specs.Promises.{ChargedOrFreed, LowestFree, LowestNumberIsGiven}
use Rattle.rules.proofs.Sums.{cond_is}
use Rattle.rules.proofs.Tests.{and_intro, not_false_true}
use Rattle.rules.proofs.Figures.{connection_facts}
use Rattle.rules.proofs.Line.{tick_leaves}
use Rattle.rules.proofs.Standing.{owned_level, level_owned, level_free, stands_open, stands_made, stands_below, free_is, nth_new, nth_old, unexpired_charged, kept_figures, kept_past, kept_closed, freed_figures}
use Rattle.rules.proofs.Verdicts.{settled, given_sound, link_done, AdmitDone, admit_done, offer_done, close_done}
use Rattle.rules.proofs.SoundExact.{exact}
use Rattle.rules.proofs.SoundKept.{fresh_open}

-- closed in r and still charged
abbrev StillCharged : State → ℕ → State → Type 0
StillCharged s c r = (closed_at r c ≡ true) × (figures r c ≡ figures s c) × (past r c ≡ past s c)

is_done : (k : Call) (s : State) → (answer k s).verdict ≡ 0 → verdict k s ≡ 0
is_done k s v = go (verdict k s) refl
  where
    go : (w : ℕ) → verdict k s ≡ w → verdict k s ≡ 0
    go zero i = i
    go (suc w) i = absurd (omega (arith, ap (λ (u : ℕ). (settle k s u).verdict) i))

-- ---- the verdicts of a close

chain : (c : ℕ) (s : State) → Sound s → (s.link.levels ≡ 0 → ⊥) → verdict (close c) s ≡ cond (not (stands s c)) 10 (cond (leb 1 (length (of c s.held))) 16 0)
unfolding verdicts
chain c s S linked = rw (ap not ((exact s).1 S), ne_eqb s.link.levels 0 linked) refl

close_verdict : (c : ℕ) (s : State) → Sound s → (s.link.levels ≡ 0 → ⊥) → (answer (close c) s).verdict ≡ cond (stands s c) (cond (leb 1 (length (of c s.held))) 16 0) 10
close_verdict c s S linked = ap (λ (v : ℕ). (settle (close c) s v).verdict) (chain c s S linked) ∙ go (stands s c) (leb 1 (length (of c s.held)))
  where
    go : (a b : Bool) → (settle (close c) s (cond (not a) 10 (cond b 16 0))).verdict ≡ cond a (cond b 16 0) 10
    go true true = refl
    go true false = refl
    go false b = refl

pub refusals : (c : ℕ) (s : State) → Sound s → (s.link.levels ≡ 0 → ⊥)
    → ((answer (close c) s).verdict ≡ 10 ↔ stands s c ≡ false) × ((answer (close c) s).verdict ≡ 16 ↔ ((stands s c ≡ true) × (1 ≤ length (of c s.held))))
refusals c s S linked = go (stands s c) refl (leb 1 (length (of c s.held))) refl (close_verdict c s S linked)
  where
    go : (a : Bool) → stands s c ≡ a → (b : Bool) → leb 1 (length (of c s.held)) ≡ b → (answer (close c) s).verdict ≡ cond a (cond b 16 0) 10
        → ((answer (close c) s).verdict ≡ 10 ↔ stands s c ≡ false) × ((answer (close c) s).verdict ≡ 16 ↔ ((stands s c ≡ true) × (1 ≤ length (of c s.held))))
    go true i true j v = ((λ e. absurd (omega arith), λ e. absurd (true≢false (sym i ∙ e))), (λ e. (i, leb-true 1 _ j), λ k. v))
    go true i false j v = ((λ e. absurd (omega arith), λ e. absurd (true≢false (sym i ∙ e))), (λ e. absurd (omega arith), λ k. absurd (true≢false (sym (le-leb 1 _ k.1) ∙ j))))
    go false i b j v = ((λ e. i, λ e. v), (λ e. absurd (omega arith), λ k. absurd (true≢false (sym k.0 ∙ i))))

-- ---- what it does

-- whether a number expires, by its mark and its charge
pub expired_yes : (s : State) (c : ℕ) → closed_at s c ≡ true → charge_over (charge_time s.link) s.clock (past s c) ≡ true → expired s c ≡ true
unfolding expired
expired_yes s c k e = and_intro (closed_at s c) _ k e

expired_no : (s : State) (c : ℕ) → charge_over (charge_time s.link) s.clock (past s c) ≡ false → expired s c ≡ false
unfolding expired
expired_no s c e = go (closed_at s c) _ e
  where
    go : (a b : Bool) → b ≡ false → (a && b) ≡ false
    go true b e = e
    go false b e = refl

freed_number : (s : State) (c : ℕ) → c < max_connections → expired s c ≡ true → owned (swept s).connections c ≡ false
freed_number s c l e = level_free (swept s).connections c (ap (λ (x : Connection). x.level) (freed_figures s c l e))

closed_stands_not : (s : State) (c : ℕ) → closed_at s c ≡ true → stands s c ≡ false
unfolding stands
closed_stands_not s c k = go (owned s.connections c) (closed_at s c) k
  where
    go : (a b : Bool) → b ≡ true → (a && not b) ≡ false
    go true true e = refl
    go true false e = absurd (true≢false (sym e))
    go false b e = refl

orderly_of : (s : State) → sound s ≡ true → (s.link.levels ≡ 0 → ⊥) → Orderly s
orderly_of s e linked = (((exact s).0 e).with_one linked).orderly

pub closes : (c : ℕ) (s : State) → (answer (close c) s).verdict ≡ 0 → ChargedOrFreed s c s.clock (answer (close c) s).next
closes c s v = (
  λ e. subst (λ (a : Answer). StillCharged s c a.next) (sym is) (charged e),
  λ e. subst (λ (a : Answer). owned a.next.connections c ≡ false) (sym is) (freed_number (marked s c) c below (expired_yes (marked s c) c mark e)),
)
  where
    yes : verdict (close c) s ≡ 0
    yes = is_done (close c) s v

    is : answer (close c) s ≡ settle (close c) s 0
    is = ap (settle (close c) s) yes

    O : Orderly s
    O = orderly_of s (given_sound (close c) s yes) (close_done s c yes).set

    below : c < max_connections
    below = omega (arith, O.numbers, stands_below s c (close_done s c yes).standing)

    mark : closed_at (marked s c) c ≡ true
    mark = get_or-set_same s.closed c true false (omega (arith, O.one_mark_each, below))

    charged : charge_over (charge_time s.link) s.clock (past s c) ≡ false → StillCharged s c (swept (marked s c))
    charged e =
        let n = expired_no (marked s c) c e in
        (kept_closed (marked s c) c below n ∙ mark, kept_figures (marked s c) c below n, kept_past (marked s c) c below n)

-- ---- any call, once it is closed

-- there is no mark behind the last number
marked_below : (ms : List Bool) (c : ℕ) → get_or ms c false ≡ true → c < length ms
marked_below [] c e = absurd (true≢false (sym e))
marked_below (m ∷ ms) zero e = omega arith
marked_below (m ∷ ms) (suc c) e = omega (arith, marked_below ms c e)

module _ (s : State) (S : Sound s) (c : ℕ) (e : closed_at s c ≡ true) where
  set_link : s.link.levels ≡ 0 → ⊥
  set_link z = true≢false (sym e ∙ ap (λ (r : State). closed_at r c) (S.with_no_link z) ∙ fresh_open c)

  unheard : (st : Option ℕ) → heard s c st ≡ false
  unfolding heard
  unheard st = ap (λ (b : Bool). b && suits (figures s c) st) (closed_stands_not s c e)

  pub tens : (len tag : ℕ) (st : Option ℕ) → ((answer (offer c len tag st) s).verdict ≡ 10) × ((answer (close c) s).verdict ≡ 10)
  unfolding verdicts
  tens len tag st = (
    ap (λ (v : ℕ). (settle (offer c len tag st) s v).verdict)
        (cond_is 1 _ (ap not ((exact s).1 S)) ∙ cond_is 2 _ (ne_eqb s.link.levels 0 set_link) ∙ cond_is 10 _ (ap not (unheard st))),
    ap (λ (v : ℕ). (settle (close c) s v).verdict)
        (cond_is 1 _ (ap not ((exact s).1 S)) ∙ cond_is 2 _ (ne_eqb s.link.levels 0 set_link) ∙ cond_is 10 _ (ap not (closed_stands_not s c e))),
  )

  O : Orderly s
  O = (S.with_one set_link).orderly

  below : c < max_connections
  below = omega (arith, O.one_mark_each, marked_below s.closed c e)

  has_owner : owned s.connections c ≡ true
  has_owner = not_false_true (owned s.connections c) (λ o. true≢false (sym e ∙ (O.free_blank c below o).2))

  not_yet : charge_over (charge_time s.link) s.clock (past s c) ≡ false
  not_yet = unexpired_charged s c ((S.with_one set_link).charged c below) e

  -- it is not one that stands
  not_standing : (d : ℕ) → stands s d ≡ true → c ≡ d → ⊥
  not_standing d b z = true≢false (sym (subst (λ (j : ℕ). closed_at s j ≡ true) z e) ∙ stands_open s d b)

  abbrev Lasts : State → Type 0
  Lasts r = ChargedOrFreed s c r.clock r

  -- while the clock stands
  still : (r : State) → r.clock ≡ s.clock → StillCharged s c r → Lasts r
  still r z k = (λ _. k, λ l. absurd (true≢false (sym l ∙ ap (λ (t : ℕ). charge_over (charge_time s.link) t (past s c)) z ∙ not_yet)))

  tick_lasts : Lasts (swept (ticked s).next)
  tick_lasts = (
    λ l.
        let n = expired_no (ticked s).next c (charge l) in
        (kept_closed (ticked s).next c below n ∙ mark, kept_figures (ticked s).next c below n ∙ ap (λ (cs : List Connection). nth cs c) (tick_leaves s).connections, kept_past (ticked s).next c below n ∙ ap (λ (hs : List Past). get_or hs c no_past) (tick_leaves s).pasts),
    λ l. freed_number (ticked s).next c below (expired_yes (ticked s).next c mark (charge l)),
  )
    where
      mark : closed_at (ticked s).next c ≡ true
      mark = ap (λ (ms : List Bool). get_or ms c false) (tick_leaves s).closed ∙ e

      charge : {b : Bool} → charge_over (charge_time s.link) (ticked s).next.clock (past s c) ≡ b
          → charge_over (charge_time (ticked s).next.link) (ticked s).next.clock (past (ticked s).next c) ≡ b
      charge l =
          ap (λ (k : Link). charge_over (charge_time k) (ticked s).next.clock (past (ticked s).next c)) (tick_leaves s).link
          ∙ ap (λ (hs : List Past). charge_over (charge_time s.link) (ticked s).next.clock (get_or hs c no_past)) (tick_leaves s).pasts
          ∙ l

  done_lasts : (k : Call) → verdict k s ≡ 0 → Lasts (done k s).next
  done_lasts (link l) v = absurd (set_link (link_done s l v).unset)
  done_lasts (admit x) v =
      still (joined s x) refl
      ((e, nth_old s.connections x (omega (arith, O.numbers, (admit_done s x v).free)) c has_owner, refl))
  done_lasts (offer d len tag st) v =
      still (placed s d len tag st) refl
      ((e, refl, get_or-set_other s.pasts d c (remember (past s d) (eligibility_now s d st)) no_past (not_standing d (offer_done s d len tag st v).standing)))
  done_lasts (notice len tag) v = still (noted s len tag) refl ((e, refl, refl))
  done_lasts (close d) v =
      let n = expired_no (marked s d) c not_yet in
      still (swept (marked s d)) refl
      ((kept_closed (marked s d) c below n ∙ get_or-set_other s.closed d c true false (not_standing d (close_done s d v).standing) ∙ e, kept_figures (marked s d) c below n, kept_past (marked s d) c below n))
  done_lasts tick v = tick_lasts

  pub lasts : (k : Call) → Lasts (answer k s).next
  lasts k = settled (λ a. Lasts a.next) k s (verdict k s) (done_lasts k) (λ _. still s refl ((e, refl, refl)))

-- ---- the next admission

free_lowest : (cs : List Connection) (c : ℕ) → c < free_number cs → owned cs c ≡ true
free_lowest [] c l = absurd (omega arith)
free_lowest (x ∷ cs) c l = go (eqb x.level 0) refl c l (free_lowest cs)
  where
    go : (b : Bool) → eqb x.level 0 ≡ b → (c : ℕ) → c < cond b 0 (suc (free_number cs)) → ((d : ℕ) → d < free_number cs → owned cs d ≡ true) → owned (x ∷ cs) c ≡ true
    go true e c l ih = absurd (omega arith)
    go false e zero l ih = level_owned (x ∷ cs) 0 (eqb-false x.level 0 e)
    go false e (suc c) l ih = level_owned (x ∷ cs) (suc c) (owned_level cs c (ih c (omega arith)))

pub lowest_given : LowestNumberIsGiven
lowest_given x s v =
    subst (λ (a : Answer). LowestFree s x a.number a.next) (sym is)
    (record {
      is_number = D.free;
      was_free = was_free;
      lower_owned = free_lowest s.connections;
      new_owner = nth_new s.connections x room;
      starts_fresh = ((O.free_blank (free_number s.connections) D.free was_free).1, up);
    })
  where
    yes : verdict (admit x) s ≡ 0
    yes = is_done (admit x) s v

    is : answer (admit x) s ≡ settle (admit x) s 0
    is = ap (settle (admit x) s) yes

    D : AdmitDone s x
    D = admit_done s x yes

    O : Orderly s
    O = orderly_of s (given_sound (admit x) s yes) (admit_done s x yes).set

    room : free_number s.connections < length s.connections
    room = omega (arith, O.numbers, D.free)

    was_free : owned s.connections (free_number s.connections) ≡ false
    was_free = level_free s.connections (free_number s.connections) (free_is s.connections room)

    up : stands (joined s x) (free_number s.connections) ≡ true
    up =
        stands_made (joined s x) (free_number s.connections)
        (level_owned (joining s.connections x) (free_number s.connections)
        (λ z. omega (arith, ap (λ (y : Connection). y.level) (nth_new s.connections x room), (connection_facts s.link x D.level_in D.figures_in).low_level)))
        (O.free_blank (free_number s.connections) D.free was_free).2
