-- The choice made in one pass upward is the choice of the rules.
use Prim.Native.Nat.{ℕ, zero, suc, ◌≤◌, ◌<◌, ◌+◌, ◌-◌}
use native.Mathlib.Omega.{arith}
use native.Mathlib.Numerals.{add-one}
use mathlib.Core.Path.{◌≡◌, refl, sym, ap, ◌∙◌, subst}
use mathlib.Core.Bool.{Bool, true, false, cond}
use mathlib.Core.List.{List, ◌∷◌}
use mathlib.Core.Option.{Option, none, some}
use lib.Dec.{leb}
use lib.ListN.{length, drop}
use lib.Seq.{drop-length}
use borrow.Author.Tests.{ltb-true, ltb-false, eqb-true, eqb-false, leb-true, leb-false, le-leb, lt-leb}
use Rattle.rules.specs.declared.Packet.{Packet}
use Rattle.rules.specs.Service.{goes_first, better, choice}
use Rattle.rules.proofs.Tests.{and_true, and_cases, or_cases, or_false, not_true_false, not_false_true}
use Rattle.tables.specs.Places.{rows, row_at}
use Rattle.tables.proofs.PlacesLaws.{rows_from}
use Rattle.service.specs.Candidates.{candidate, leader, NotEligible}

module _ (level : ℕ → ℕ) where
  -- p has the lower level number, or the same and an eligibility earlier by k or more
  abbrev AheadBy : ℕ → Packet → Packet → Type 0
  AheadBy k p q = (level p.connection ≤ level q.connection) × (level p.connection ≡ level q.connection → p.eligibility + k ≤ q.eligibility)

  still_ahead : (k : ℕ) (p q r : Packet) → AheadBy k p q → AheadBy k q r → AheadBy k p r
  still_ahead k p q r a b = (omega (arith, a.0, b.0), λ e. omega (arith, a.1 (omega (arith, a.0, b.0)), b.1 (omega (arith, a.0, b.0))))

  -- goes_first says: of p, offered earlier, and q, p goes first if it is no later, and q only if it is earlier
  before : (p q : Packet) → goes_first level p q ≡ true → AheadBy 0 p q
  before p q t =
      or_cases _ _ t
      (λ l. let u = ltb-true (level p.connection) (level q.connection) l in (omega arith, λ e. absurd (omega arith)))
      (λ _ b.
      let k = and_true _ _ b in
      let e = eqb-true (level p.connection) (level q.connection) k.0 in
      let l = leb-true p.eligibility q.eligibility k.1 in
      (omega arith, λ _. omega arith))

  behind : (p q : Packet) → goes_first level p q ≡ false → AheadBy 1 q p
  behind p q f =
      let k = or_false _ _ f in
      let u = ltb-false (level p.connection) (level q.connection) k.0 in
      and_cases _ _ k.1
      (λ b. (u, λ e. absurd (eqb-false _ _ b (sym e))))
      (λ _ c. let l = leb-false p.eligibility q.eligibility c in (u, λ _. omega arith))

  is_before : (p q : Packet) → AheadBy 0 p q → goes_first level p q ≡ true
  is_before p q h =
      not_false_true _ (λ f. let k = behind p q f in let e : level p.connection ≡ level q.connection = omega (arith, h.0, k.0) in omega (arith, h.1 e, k.1 (sym e)))

  is_behind : (p q : Packet) → AheadBy 1 q p → goes_first level p q ≡ false
  is_behind p q h =
      not_true_false _ (λ t. let k = before p q t in let e : level p.connection ≡ level q.connection = omega (arith, h.0, k.0) in omega (arith, h.1 (sym e), k.1 e))

  -- with none, the other
  pub leader_none : (o : Option Packet) → leader level o none ≡ o
  leader_none none = refl
  leader_none (some p) = refl

  -- THE LAW OF THE PASS: of three candidates it is the same one that goes first, whichever two are compared first
  pub leader_assoc : (a b c : Option Packet) → leader level (leader level a b) c ≡ leader level a (leader level b c)
  leader_assoc none b c = refl
  leader_assoc (some p) none c = refl
  leader_assoc (some p) (some q) none = leader_none (leader level (some p) (some q))
  leader_assoc (some p) (some q) (some r) = go (goes_first level p q) refl (goes_first level q r) refl
    where
      go : (u : Bool) → goes_first level p q ≡ u → (v : Bool) → goes_first level q r ≡ v
          → leader level (cond u (some p) (some q)) (some r) ≡ leader level (some p) (cond v (some q) (some r))
      go true e true f = rw (e, is_before p r (still_ahead 0 p q r (before p q e) (before q r f)))
      go true e false f = refl
      go false e true f = rw (e, f)
      go false e false f = rw (f, is_behind p r (still_ahead 1 r q p (behind q r f) (behind p q e)))

  module _ (clock : ℕ) where
    choice_cons : (p : Packet) (ps : List Packet) → choice level clock (p ∷ ps) ≡ leader level (candidate clock p) (choice level clock ps)
    choice_cons p ps = go (leb p.eligibility clock)
      where
        go : (u : Bool) → cond u (better level p (choice level clock ps)) (choice level clock ps) ≡ leader level (cond u (some p) none) (choice level clock ps)
        go true = refl
        go false = refl

    -- the best of the rows before i, against the choice of the rows from i on
    abbrev pub Walked : List ℕ → ℕ → Option Packet → Type 0
    Walked t i o = leader level o (choice level clock (drop i (rows t))) ≡ choice level clock (rows t)

    -- p, which is row i, is taken in
    pub walk : (t : List ℕ) (i : ℕ) (b d : Option Packet) (p : Packet) → i < length (rows t) → p ≡ row_at t i → d ≡ leader level b (candidate clock p) → Walked t i b → Walked t (i + 1) d
    walk t i b d p l e f w =
        let rest : List Packet = drop (suc i) (rows t) in
        rw (add-one i)
        (ap (λ (v : Option Packet). leader level v (choice level clock rest)) f
        ∙ leader_assoc b (candidate clock p) (choice level clock rest)
        ∙ ap (leader level b) (sym (choice_cons p rest) ∙ ap (λ (q : Packet). choice level clock (q ∷ rest)) e ∙ ap (choice level clock) (sym (rows_from t i l)))
        ∙ w)

    -- a row that is not eligible changes no choice, and neither do rows of which none is
    passed_row : (t : List ℕ) (i : ℕ) → i < length (rows t) → clock < (row_at t i).eligibility → choice level clock (drop i (rows t)) ≡ choice level clock (drop (suc i) (rows t))
    passed_row t i l h =
        ap (choice level clock) (rows_from t i l)
        ∙ choice_cons (row_at t i) (drop (suc i) (rows t))
        ∙ rw (lt-leb (row_at t i).eligibility clock h)

    passed_rows : (t : List ℕ) (i k : ℕ) → i + k ≤ length (rows t) → NotEligible t clock i (i + k) → choice level clock (drop i (rows t)) ≡ choice level clock (drop (i + k) (rows t))
    passed_rows t i zero l h = let e : i + 0 ≡ i = omega arith in rw e
    passed_rows t i (suc k) l h =
        let e : i + suc k ≡ suc (i + k) = omega arith in
        rw e (passed_rows t i k (omega arith) (λ j a b. h j a (omega arith)) ∙ passed_row t (i + k) (omega arith) (h (i + k) (omega arith) (omega arith)))

    pub pass : (t : List ℕ) (i r : ℕ) (b : Option Packet) → i ≤ r → r ≤ length (rows t) → NotEligible t clock i r → Walked t i b → Walked t r b
    pass t i r b a l h w =
        let e : i + (r - i) ≡ r = omega arith in
        ap (leader level b) (sym (subst (λ (j : ℕ). choice level clock (drop i (rows t)) ≡ choice level clock (drop j (rows t))) e (passed_rows t i (r - i) (omega arith) (λ j u v. h j u (omega arith))))) ∙ w

    -- no row is left
    pub walked : (t : List ℕ) (i : ℕ) (b : Option Packet) → i ≡ length (rows t) → Walked t i b → b ≡ choice level clock (rows t)
    walked t i b e w =
        sym (leader_none b)
        ∙ ap (λ (ps : List Packet). leader level b (choice level clock ps)) (sym (drop-length (rows t)) ∙ ap (λ (j : ℕ). drop j (rows t)) (sym e))
        ∙ w

    -- ---- one row: what is best with p

    pub not_eligible : (p : Packet) (b : Option Packet) → clock < p.eligibility → b ≡ leader level b (candidate clock p)
    not_eligible p b h = rw (lt-leb p.eligibility clock h) (sym (leader_none b))

    pub none_yet : (p : Packet) → p.eligibility ≤ clock → some p ≡ leader level none (candidate clock p)
    none_yet p h = rw (le-leb p.eligibility clock h) refl

    -- p is eligible and q the best so far: x its level, y that of p
    module _ (p q : Packet) (h : p.eligibility ≤ clock) {x y : ℕ} (ex : x ≡ level q.connection) (ey : y ≡ level p.connection) where
      stays : AheadBy 0 q p → some q ≡ leader level (some q) (candidate clock p)
      stays k = rw (le-leb p.eligibility clock h, is_before q p k) refl

      gives_way : AheadBy 1 p q → some p ≡ leader level (some q) (candidate clock p)
      gives_way k = rw (le-leb p.eligibility clock h, is_behind q p k) refl

      pub lower_stays : x < y → some q ≡ leader level (some q) (candidate clock p)
      lower_stays l = stays (omega arith, λ e. absurd (omega arith))

      pub lower_comes : y < x → some p ≡ leader level (some q) (candidate clock p)
      lower_comes l = gives_way (omega arith, λ e. absurd (omega arith))

      pub as_early_stays : x ≡ y → q.eligibility ≤ p.eligibility → some q ≡ leader level (some q) (candidate clock p)
      as_early_stays e l = stays (omega arith, λ _. omega arith)

      pub earlier_comes : x ≡ y → p.eligibility < q.eligibility → some p ≡ leader level (some q) (candidate clock p)
      earlier_comes e l = gives_way (omega arith, λ _. omega arith)
