-- Laws of the sums of all levels, which stand side by side: the shares of one connection after the other are added to them.
use mathlib.Core.Path.{◌≡◌, refl, sym, ap, ◌∙◌, subst}
use mathlib.Core.Bool.{true}
use mathlib.Core.List.{List}
use mathlib.Core.Logic.{◌⊎◌, inl, inr}
use Prim.Native.Nat.{ℕ, suc, ◌+◌, ◌*◌, ◌-◌, ◌≤◌, ◌<◌, max}
use native.Mathlib.Omega.{arith}
use lib.ListN.{length, get_or, set, replicate}
use lib.Seq.{get_or-set_same, get_or-set_other}
use Rattle.rules.specs.declared.Link.{Link}
use Rattle.rules.specs.declared.Connection.{Connection}
use Rattle.rules.specs.Words.{upto, sum}
use Rattle.rules.specs.Limits.{max_bound, max_connections}
use Rattle.rules.specs.Model.{nth, no_connection}
use Rattle.rules.specs.Admission.{link_within, bound, count, cost, load}
use Rattle.rules.proofs.Sums.{split, upto_yes, upto_no}
use Rattle.limits.proofs.ZeroLaws.{zero_at, zeros_rep}
use Rattle.connections.specs.Members.{used_by}
use Rattle.connections.specs.Within.{Within, Added, Loads, share_at, share_of, most_share}
use Rattle.connections.proofs.FigureLaws.{link_limits, share_free, sum_more}
use Rattle.connections.proofs.OwnerLaws.{sum_used}

-- ---- of one connection

-- a free number adds nothing
pub added_none : (l : Link) (x : Connection) → x ≡ no_connection → (low : ℕ) (s : List ℕ) → Added l low x s s
added_none l x e low s k a h =
    let z : share_at l x k ≡ 0 = ap (λ (y : Connection). share_at l y k) e ∙ share_free l (suc k) (bound l (suc k)) in
    (omega arith, omega arith)

-- what a connection of a link with these bounds, whose packet has this cost, adds to the sum at place k
abbrev pub shares : Connection → List ℕ → ℕ → ℕ → ℕ
shares x ds price k = upto x.level (suc k) (count x (get_or ds k 0) * price)

pub shares_are : (l : Link) (x : Connection) (ds : List ℕ) (price : ℕ) → ds ≡ l.bounds → price ≡ x.size + l.silence → (k : ℕ) → shares x ds price k ≡ share_at l x k
unfolding cost
shares_are l x ds price e f k = rw (e, f)

pub share_here : (x : Connection) (ds : List ℕ) (price k r : ℕ) → x.level ≤ suc k → r ≡ count x (get_or ds k 0) → r * price ≡ shares x ds price k
share_here x ds price k r h e = ap (λ (u : ℕ). u * price) e ∙ sym (upto_yes x.level (suc k) (count x (get_or ds k 0) * price) h)

pub bounds_most : (l : Link) → link_within l ≡ true → (ds : List ℕ) → ds ≡ l.bounds → (k : ℕ) → get_or ds k 0 ≤ max_bound
bounds_most l w ds e k = subst (λ (u : List ℕ). get_or u k 0 ≤ max_bound) (sym e) ((link_limits l w).bounds_le (suc k))

-- added to the sums from place `low` on before place k, and not yet to the others
pub record AddedBefore (f : ℕ → ℕ) (low : ℕ) (before after : List ℕ) (k : ℕ) : Type 0 where
  pub done : (j : ℕ) → low ≤ j → j < k → (get_or after j 0 ≡ get_or before j 0 + f j) × (f j ≤ most_share)
  pub open_still : (j : ℕ) → k ≤ j → get_or after j 0 ≡ get_or before j 0

-- levels below its own have nothing of it
pub added_start : (x : Connection) (ds : List ℕ) (price : ℕ) (low : ℕ) (s : List ℕ) (k : ℕ) → 1 ≤ x.level → k ≡ max low (x.level - 1) → AddedBefore (shares x ds price) low s s k
added_start x ds price low s k o h = record { done = below; open_still = λ j _. refl }
  where
    below : (j : ℕ) → low ≤ j → j < k → (get_or s j 0 ≡ get_or s j 0 + shares x ds price j) × (shares x ds price j ≤ most_share)
    below j a g =
        let z = upto_no x.level (suc j) (count x (get_or ds j 0) * price) (omega arith) in
        (omega arith, omega arith)

pub added_next : (f : ℕ → ℕ) (low : ℕ) (s t : List ℕ) (k v : ℕ) → AddedBefore f low s t k → k < length t → v ≡ f k → v ≤ most_share → AddedBefore f low s (set t k (get_or t k 0 + v)) (k + 1)
added_next f low s t k v A h e m = record { done = λ j a g. go j (split (suc j) k) a g; open_still = later }
  where
    here : get_or (set t k (get_or t k 0 + v)) k 0 ≡ get_or s k 0 + f k
    here = get_or-set_same t k (get_or t k 0 + v) 0 h ∙ ap (λ (u : ℕ). u + v) (A.open_still k (omega arith)) ∙ ap (λ (u : ℕ). get_or s k 0 + u) e

    go : (j : ℕ) → (suc j ≤ k) ⊎ (k < suc j) → low ≤ j → j < k + 1 → (get_or (set t k (get_or t k 0 + v)) j 0 ≡ get_or s j 0 + f j) × (f j ≤ most_share)
    go j (inl g) a _ = (get_or-set_other t k j (get_or t k 0 + v) 0 (λ q. omega arith) ∙ (A.done j a g).0, (A.done j a g).1)
    go j (inr g) a b =
        let q : k ≡ j = omega arith in
        subst (λ (i : ℕ). (get_or (set t k (get_or t k 0 + v)) i 0 ≡ get_or s i 0 + f i) × (f i ≤ most_share)) q (here, omega arith)

    later : (j : ℕ) → k + 1 ≤ j → get_or (set t k (get_or t k 0 + v)) j 0 ≡ get_or s j 0
    later j g = get_or-set_other t k j (get_or t k 0 + v) 0 (λ q. omega arith) ∙ A.open_still j (omega arith)

pub added_end : (l : Link) (x : Connection) (f : ℕ → ℕ) (low : ℕ) (s t : List ℕ) (k : ℕ) → AddedBefore f low s t k → l.levels ≤ k → ((j : ℕ) → f j ≡ share_at l x j) → Added l low x s t
added_end l x f low s t k A h e j a g = let d = A.done j a (omega arith) in (omega (arith, d.0, e j), omega (arith, d.1, e j))

-- ---- of one connection after the other

-- of the first i, from place `low` on
pub record AddedFirst (l : Link) (low : ℕ) (cs : List Connection) (i : ℕ) (sums : List ℕ) : Type 0 where
  pub sum_of : (k : ℕ) → low ≤ k → k < l.levels → get_or sums k 0 ≡ sum i (λ (c : ℕ). share_at l (nth cs c) k)
  pub sum_le : (k : ℕ) → low ≤ k → k < l.levels → get_or sums k 0 ≤ i * most_share

module _ (l : Link) (low : ℕ) (cs : List Connection) where
  pub first_start : (n : ℕ) (s : List ℕ) → s ≡ replicate n 0 → AddedFirst l low cs 0 s
  first_start n s e = record { sum_of = λ k _ _. none k; sum_le = λ k _ _. omega (arith, none k) }
    where
      none : (k : ℕ) → get_or s k 0 ≡ 0
      none k = ap (λ (r : List ℕ). get_or r k 0) e ∙ zero_at (replicate n 0) k (zeros_rep n)

  pub first_next : (i : ℕ) (x : Connection) (s t : List ℕ) → AddedFirst l low cs i s → x ≡ nth cs i → Added l low x s t → AddedFirst l low cs (i + 1) t
  first_next i x s t F e A = record { sum_of = of; sum_le = λ k a h. omega (arith, (A k a h).0, (A k a h).1, F.sum_le k a h) }
    where
      of : (k : ℕ) → low ≤ k → k < l.levels → get_or t k 0 ≡ sum (i + 1) (λ (c : ℕ). share_at l (nth cs c) k)
      of k a h =
          (A k a h).0
          ∙ sum_more i (get_or s k 0) (share_at l x k) (λ (c : ℕ). share_at l (nth cs c) k) (F.sum_of k a h) (ap (λ (y : Connection). share_at l y k) e)

  pub first_all : Within l cs → (n : ℕ) (s : List ℕ) → AddedFirst l low cs n s → used_by cs ≤ n → n ≤ length cs → n ≤ max_connections → Loads l low cs s
  first_all W n s F u v m k a h =
      (F.sum_of k a h ∙ sum_used cs (λ (y : Connection). share_at l y k) (share_free l (suc k) (bound l (suc k))) W.blank_in n u v, omega (arith, F.sum_le k a h))

-- ---- the sum of a level, with a newcomer

pub sum_of_level : (l : Link) (cs : List Connection) (x : Connection) (m u r : ℕ) → 1 ≤ m → u ≡ load l cs (suc (m - 1)) (bound l (suc (m - 1))) → r ≡ u + share_of l m (bound l m) x + cost l l.largest
    → r ≡ load l cs m (bound l m) + share_of l m (bound l m) x + cost l l.largest
sum_of_level l cs x m u r h f e =
    let q : suc (m - 1) ≡ m = omega arith in
    e ∙ ap (λ (v : ℕ). v + share_of l m (bound l m) x + cost l l.largest) (f ∙ ap (λ (j : ℕ). load l cs j (bound l j)) q)
