-- The laws of the numbers that have an owner, of one connection more at the lowest free number, and of the numbers that are freed. Nothing else opens `owned`,
-- `stands`, `expired`.
use Prim.Native.Nat.{ℕ, zero, suc, ◌≤◌, ◌<◌}
use native.Mathlib.Omega.{arith}
use mathlib.Core.Path.{◌≡◌, refl, sym, ap, ◌∙◌, subst}
use mathlib.Core.Bool.{Bool, true, false, cond, not, ◌&&◌}
use mathlib.Core.Logic.{◌⊎◌, inl, inr, ⊎_elim}
use mathlib.Core.List.{List, [], ◌∷◌}
use lib.Dec.{eqb}
use lib.ListN.{length, get_or, length-set, get_or-eq_default}
use lib.Seq.{get_or-set_same, get_or-set_other}
use borrow.Author.Tests.{eqb-true, eq-eqb, ne_eqb, not-false, not-true}
use Rattle.rules.specs.Words.{tabulate}
use Rattle.rules.specs.Limits.{max_connections}
use Rattle.rules.specs.Model.{Connection, Past, Packet, State, no_connection, no_past, nth, past, figures, closed_at}
use Rattle.rules.specs.Admission.{owned, stands, free_number, joining, charge_time}
use Rattle.rules.specs.Service.{charge_over, expired, swept, cleared}
use Rattle.rules.proofs.Doings.{swept_connections, swept_pasts, swept_marks}
use Rattle.rules.specs.SoundState.{Fits}
use Rattle.rules.proofs.Sums.{split, same, cond_is}
use Rattle.rules.proofs.Tests.{never, and_true, and_intro}

-- ---- owners

module _ (cs : List Connection) (c : ℕ) where
  pub owned_level : owned cs c ≡ true → (nth cs c).level ≡ 0 → ⊥
  unfolding owned
  owned_level e z = never (ap not (sym (eq-eqb (nth cs c).level 0 z)) ∙ e)

  pub level_owned : ((nth cs c).level ≡ 0 → ⊥) → owned cs c ≡ true
  unfolding owned
  level_owned n = ap not (ne_eqb (nth cs c).level 0 n)

  pub free_level : owned cs c ≡ false → (nth cs c).level ≡ 0
  unfolding owned
  free_level e = eqb-true (nth cs c).level 0 (not-false _ e)

  pub level_free : (nth cs c).level ≡ 0 → owned cs c ≡ false
  unfolding owned
  level_free z = ap not (eq-eqb (nth cs c).level 0 z)

  -- a number that has an owner is that of an entry
  pub owned_below : owned cs c ≡ true → c < length cs
  owned_below e =
      ⊎_elim (λ l. absurd (owned_level e (ap (λ (x : Connection). x.level) (get_or-eq_default cs no_connection {n = c} l)))) (λ l. l) (split (length cs) c)

-- the same entry, the same owner
pub owned_same : (cs ds : List Connection) (c : ℕ) → nth ds c ≡ nth cs c → owned ds c ≡ owned cs c
unfolding owned
owned_same cs ds c e = ap (λ (x : Connection). not (eqb x.level 0)) e

-- what stands has an owner that is not closed
pub stands_owned : (s : State) (c : ℕ) → stands s c ≡ true → owned s.connections c ≡ true
unfolding stands
stands_owned s c e = (and_true (owned s.connections c) (not (closed_at s c)) e).0

pub stands_open : (s : State) (c : ℕ) → stands s c ≡ true → closed_at s c ≡ false
unfolding stands
stands_open s c e = not-true _ (and_true (owned s.connections c) (not (closed_at s c)) e).1

pub stands_made : (s : State) (c : ℕ) → owned s.connections c ≡ true → closed_at s c ≡ false → stands s c ≡ true
unfolding stands
stands_made s c o k = and_intro (owned s.connections c) (not (closed_at s c)) o (ap not k)

pub stands_is : (s : State) (c : ℕ) → stands s c ≡ (owned s.connections c && not (closed_at s c))
unfolding stands
stands_is s c = refl

pub stands_below : (s : State) (c : ℕ) → stands s c ≡ true → c < length s.connections
stands_below s c e = owned_below s.connections c (stands_owned s c e)

-- ---- one more, at the lowest free number

pub free_is : (cs : List Connection) → free_number cs < length cs → (nth cs (free_number cs)).level ≡ 0
free_is [] l = absurd (omega arith)
free_is (x ∷ cs) l = go (eqb x.level 0) refl l (free_is cs)
  where
    go : (b : Bool) → eqb x.level 0 ≡ b → cond b 0 (suc (free_number cs)) < length (x ∷ cs) → (free_number cs < length cs → (nth cs (free_number cs)).level ≡ 0)
        → (nth (x ∷ cs) (cond b 0 (suc (free_number cs)))).level ≡ 0
    go true e l ih = eqb-true x.level 0 e
    go false e l ih = ih (omega arith)

module _ (cs : List Connection) (x : Connection) (room : free_number cs < length cs) where
  pub length_joining : length (joining cs x) ≡ length cs
  length_joining = length-set cs (free_number cs) x

  pub nth_new : nth (joining cs x) (free_number cs) ≡ x
  nth_new = get_or-set_same cs (free_number cs) x no_connection room

  pub nth_other : (i : ℕ) → (i ≡ free_number cs → ⊥) → nth (joining cs x) i ≡ nth cs i
  nth_other i n = get_or-set_other cs (free_number cs) i x no_connection (λ e. n e)

  -- an owner keeps its number and its figures
  not_free : (i : ℕ) → owned cs i ≡ true → i ≡ free_number cs → ⊥
  not_free i o e = owned_level cs i o (ap (λ (j : ℕ). (nth cs j).level) e ∙ free_is cs room)

  pub nth_old : (i : ℕ) → owned cs i ≡ true → nth (joining cs x) i ≡ nth cs i
  nth_old i o = nth_other i (not_free i o)

  pub owned_old : (i : ℕ) → owned cs i ≡ true → owned (joining cs x) i ≡ true
  owned_old i o = owned_same cs (joining cs x) i (nth_old i o) ∙ o

  -- a fact of each owner and of the new one
  pub nth_joined : (P : ℕ → Connection → Type 0) → ((i : ℕ) → owned cs i ≡ true → P i (nth cs i)) → P (free_number cs) x
      → (i : ℕ) → owned (joining cs x) i ≡ true → P i (nth (joining cs x) i)
  nth_joined P f px i o = go (same i (free_number cs))
    where
      go : (i ≡ free_number cs) ⊎ (i ≡ free_number cs → ⊥) → P i (nth (joining cs x) i)
      go (inl e) = subst (λ (j : ℕ). P j (nth (joining cs x) j)) (sym e) (subst (P (free_number cs)) (sym nth_new) px)
      go (inr e) = subst (P i) (sym (nth_other i e)) (f i (sym (owned_same cs (joining cs x) i (nth_other i e)) ∙ o))

  pub fits_old : (p : Packet) → Fits cs p → Fits (joining cs x) p
  fits_old p f = record {
    owner = owned_old p.connection f.owner;
    some_len = f.some_len;
    len_le = subst (λ (c : Connection). p.len ≤ c.size) (sym (nth_old p.connection f.owner)) f.len_le;
  }

-- ---- the numbers that are freed

module _ {A : Type 0} where
  pub length_tabulate : (n : ℕ) (f : ℕ → A) → length (tabulate n f) ≡ n
  length_tabulate zero f = refl
  length_tabulate (suc n) f = ap suc (length_tabulate n (λ i. f (suc i)))

  pub get_d_tabulate : (n : ℕ) (f : ℕ → A) (d : A) (i : ℕ) → i < n → get_or (tabulate n f) i d ≡ f i
  get_d_tabulate zero f d i l = absurd (omega arith)
  get_d_tabulate (suc n) f d zero l = refl
  get_d_tabulate (suc n) f d (suc i) l = get_d_tabulate n (λ j. f (suc j)) d i (omega arith)

  pub tabulate_eq : (n : ℕ) (f g : ℕ → A) → ((i : ℕ) → i < n → f i ≡ g i) → tabulate n f ≡ tabulate n g
  tabulate_eq zero f g h = refl
  tabulate_eq (suc n) f g h = rw (h 0 (omega arith), tabulate_eq n (λ i. f (suc i)) (λ i. g (suc i)) (λ i l. h (suc i) (omega arith)))

  tabulate_getD : (xs : List A) (d : A) → tabulate (length xs) (λ i. get_or xs i d) ≡ xs
  tabulate_getD [] d = refl
  tabulate_getD (x ∷ xs) d = ap (λ (l : List A). x ∷ l) (tabulate_getD xs d)

  -- a list by its elements
  pub tabulate_list : (n : ℕ) (f : ℕ → A) (xs : List A) (d : A) → length xs ≡ n → ((i : ℕ) → i < n → f i ≡ get_or xs i d) → tabulate n f ≡ xs
  tabulate_list n f xs d e h = tabulate_eq n f (λ i. get_or xs i d) h ∙ ap (λ (k : ℕ). tabulate k (λ i. get_or xs i d)) (sym e) ∙ tabulate_getD xs d

pub expired_closed : (s : State) (c : ℕ) → expired s c ≡ true → (closed_at s c ≡ true) × (charge_over (charge_time s.link) s.clock (past s c) ≡ true)
unfolding expired
expired_closed s c e = and_true (closed_at s c) _ e

pub open_unexpired : (s : State) (c : ℕ) → closed_at s c ≡ false → expired s c ≡ false
unfolding expired
open_unexpired s c e = ap (λ (b : Bool). b && charge_over (charge_time s.link) s.clock (past s c)) e

pub unexpired_charged : (s : State) (c : ℕ) → expired s c ≡ false → closed_at s c ≡ true → charge_over (charge_time s.link) s.clock (past s c) ≡ false
unfolding expired
unexpired_charged s c e k = sym (ap (λ (b : Bool). b && charge_over (charge_time s.link) s.clock (past s c)) k) ∙ e

pub charged_unexpired : (s : State) (c : ℕ) → charge_over (charge_time s.link) s.clock (past s c) ≡ false → expired s c ≡ false
unfolding expired
charged_unexpired s c e = go (closed_at s c) (charge_over (charge_time s.link) s.clock (past s c)) e
  where
    go : (a b : Bool) → b ≡ false → (a && b) ≡ false
    go true b e = e
    go false b e = refl

module _ (s : State) where
  pub swept_length : length (swept s).connections ≡ max_connections
  unfolding cleared
  swept_length = length_tabulate max_connections (λ i. cond (expired s i) no_connection (figures s i))

  pub swept_pasts_length : length (swept s).pasts ≡ max_connections
  unfolding cleared
  swept_pasts_length = length_tabulate max_connections (λ i. cond (expired s i) no_past (past s i))

  pub swept_marks_length : length (swept s).closed ≡ max_connections
  unfolding cleared
  swept_marks_length = length_tabulate max_connections (λ i. cond (expired s i) false (closed_at s i))

module _ (s : State) (c : ℕ) (l : c < max_connections) where
  pub swept_figures : figures (swept s) c ≡ cond (expired s c) no_connection (figures s c)
  unfolding cleared
  swept_figures = get_d_tabulate max_connections (λ i. cond (expired s i) no_connection (figures s i)) no_connection c l

  pub swept_past : past (swept s) c ≡ cond (expired s c) no_past (past s c)
  unfolding cleared
  swept_past = get_d_tabulate max_connections (λ i. cond (expired s i) no_past (past s i)) no_past c l

  pub swept_closed : closed_at (swept s) c ≡ cond (expired s c) false (closed_at s c)
  unfolding cleared
  swept_closed = get_d_tabulate max_connections (λ i. cond (expired s i) false (closed_at s i)) false c l

  module _ (e : expired s c ≡ false) where
    pub kept_figures : figures (swept s) c ≡ figures s c
    kept_figures = swept_figures ∙ cond_is no_connection (figures s c) e

    pub kept_past : past (swept s) c ≡ past s c
    kept_past = swept_past ∙ cond_is no_past (past s c) e

    pub kept_closed : closed_at (swept s) c ≡ closed_at s c
    kept_closed = swept_closed ∙ cond_is false (closed_at s c) e

  module _ (e : expired s c ≡ true) where
    pub freed_figures : figures (swept s) c ≡ no_connection
    freed_figures = swept_figures ∙ cond_is no_connection (figures s c) e

    pub freed_past : past (swept s) c ≡ no_past
    freed_past = swept_past ∙ cond_is no_past (past s c) e

    pub freed_closed : closed_at (swept s) c ≡ false
    freed_closed = swept_closed ∙ cond_is false (closed_at s c) e

-- where nobody's charge is over nothing is freed
module _ (s : State) (a : length s.connections ≡ max_connections) (b : length s.pasts ≡ max_connections) (k : length s.closed ≡ max_connections)
    (none : (c : ℕ) → c < max_connections → expired s c ≡ false) where
  pub connections_stay : swept_connections s ≡ s.connections
  unfolding cleared
  connections_stay = tabulate_list max_connections _ s.connections no_connection a (λ c l. cond_is no_connection (figures s c) (none c l))

  pub pasts_stay : swept_pasts s ≡ s.pasts
  unfolding cleared
  pasts_stay = tabulate_list max_connections _ s.pasts no_past b (λ c l. cond_is no_past (past s c) (none c l))

  pub marks_stay : swept_marks s ≡ s.closed
  unfolding cleared
  marks_stay = tabulate_list max_connections _ s.closed false k (λ c l. cond_is false (closed_at s c) (none c l))

  pub nothing_swept : swept s ≡ s
  nothing_swept = rw (connections_stay, pasts_stay, marks_stay)

-- what has an owner afterwards had it before and is not freed
pub swept_owner : (s : State) (c : ℕ) → owned (swept s).connections c ≡ true → (c < max_connections) × (expired s c ≡ false)
swept_owner s c o =
    let l : c < max_connections = subst (λ (n : ℕ). c < n) (swept_length s) (owned_below (swept s).connections c o) in
    (l, go l (expired s c) refl)
  where
    go : c < max_connections → (b : Bool) → expired s c ≡ b → expired s c ≡ false
    go l true e = absurd (owned_level (swept s).connections c o (ap (λ (x : Connection). x.level) (freed_figures s c l e)))
    go l false e = e

pub swept_was : (s : State) (c : ℕ) → owned (swept s).connections c ≡ true → owned s.connections c ≡ true
swept_was s c o =
    let k = swept_owner s c o in
    sym (owned_same s.connections (swept s).connections c (kept_figures s c k.0 k.1)) ∙ o

pub swept_stays : (s : State) (c : ℕ) → c < max_connections → owned s.connections c ≡ true → expired s c ≡ false → owned (swept s).connections c ≡ true
swept_stays s c l o e = owned_same s.connections (swept s).connections c (kept_figures s c l e) ∙ o

-- once is enough
pub swept_unexpired : (s : State) (c : ℕ) → c < max_connections → expired (swept s) c ≡ false
unfolding expired
swept_unexpired s c l = go (expired s c) refl
  where
    go : (b : Bool) → expired s c ≡ b → (closed_at (swept s) c && charge_over (charge_time s.link) s.clock (past (swept s) c)) ≡ false
    go true e = ap (λ (k : Bool). k && charge_over (charge_time s.link) s.clock (past (swept s) c)) (freed_closed s c l e)
    go false e =
        ap (λ (k : Bool). k && charge_over (charge_time s.link) s.clock (past (swept s) c)) (kept_closed s c l e)
        ∙ ap (λ (h : Past). closed_at s c && charge_over (charge_time s.link) s.clock h) (kept_past s c l e)
        ∙ e

-- it hangs on the mark, the clock, the link and what is remembered
pub expired_same : (s r : State) (c : ℕ) → closed_at r c ≡ closed_at s c → r.clock ≡ s.clock → r.link ≡ s.link → past r c ≡ past s c → expired r c ≡ expired s c
unfolding expired
expired_same s r c k t l h = rw (k, t, l, h) refl
