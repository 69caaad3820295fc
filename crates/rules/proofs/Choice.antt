-- The laws of the choice: the packet chosen is eligible, no eligible one has a lower level number or, at the same, an earlier eligibility, and it is the
-- first row of its connection; none is chosen only where none is eligible.
use Prim.Native.Nat.{ℕ, ◌≤◌, ◌<◌}
use native.Mathlib.Omega.{arith}
use mathlib.Core.Path.{◌≡◌, refl, sym, ap, ◌∙◌}
use mathlib.Core.Bool.{true, false}
use mathlib.Core.List.{List, [], ◌∷◌}
use mathlib.Core.Option.{Option, none, some}
use borrow.Author.Tests.{eqb-true, eqb-false, eq-eqb, ne_eqb, leb-true, leb-false, ltb-true, ltb-false}
use Rattle.rules.specs.Model.{Packet}
use Rattle.rules.specs.Service.{first, goes_first, better, choice}
use Rattle.rules.proofs.Lists.{All, all_map, Pairs}
use Rattle.rules.proofs.Sums.{cond_is, cond_ind}
use Rattle.rules.proofs.Tests.{and_true, or_cases, or_false, and_cases}
use Rattle.rules.proofs.Rows.{first_all}

-- of two packets of a connection, the earlier is eligible before the later
abbrev pub Rising : Packet → Packet → Type 0
Rising p q = p.connection ≡ q.connection → p.eligibility < q.eligibility

module _ (level : ℕ → ℕ) where
  -- q does not go before p: its level number is no lower, and at the same level its eligibility no earlier
  pub record NotBefore (p q : Packet) : Type 0 where
    pub no_lower : level p.connection ≤ level q.connection
    pub no_earlier : level p.connection ≡ level q.connection → p.eligibility ≤ q.eligibility

  not_before_trans : (p q r : Packet) → NotBefore p q → NotBefore q r → NotBefore p r
  not_before_trans p q r a b = record {
    no_lower = omega (arith, a.no_lower, b.no_lower);
    no_earlier = λ e. omega (arith, a.no_earlier (omega (arith, a.no_lower, b.no_lower)), b.no_earlier (omega (arith, a.no_lower, b.no_lower)));
  }

  module _ (t : ℕ) where
    abbrev pub Chosen : List Packet → Option Packet → Type 0
    Chosen rs none = All (λ r. t < r.eligibility) rs
    Chosen rs (some p) = (p.eligibility ≤ t) × All (λ r. r.eligibility ≤ t → NotBefore p r) rs × (first p.connection rs ≡ some p)

    lower_first : (p q : Packet) → level p.connection < level q.connection → NotBefore p q
    lower_first p q l = record { no_lower = omega arith; no_earlier = λ i. absurd (omega arith) }

    earlier_first : (p q : Packet) → level p.connection ≡ level q.connection → p.eligibility ≤ q.eligibility → NotBefore p q
    earlier_first p q i l = record { no_lower = omega arith; no_earlier = λ _. l }

    goes_yes : (p q : Packet) → goes_first level p q ≡ true → NotBefore p q
    goes_yes p q e =
        or_cases _ _ e
        (λ a. lower_first p q (ltb-true _ _ a))
        (λ _ b. let k = and_true _ _ b in earlier_first p q (eqb-true _ _ k.0) (leb-true _ _ k.1))

    -- .. and q, offered later, of the same connection only with an earlier eligibility
    abbrev GoesLater : Packet → Packet → Type 0
    GoesLater p q = NotBefore q p × (p.connection ≡ q.connection → q.eligibility < p.eligibility)

    lower_later : (p q : Packet) → level q.connection ≤ level p.connection → (level p.connection ≡ level q.connection → ⊥) → GoesLater p q
    lower_later p q l n = (record { no_lower = l; no_earlier = λ i. absurd (n (sym i)) }, λ i. absurd (n (ap level i)))

    earlier_later : (p q : Packet) → level q.connection ≤ level p.connection → q.eligibility < p.eligibility → GoesLater p q
    earlier_later p q l e = (record { no_lower = l; no_earlier = λ _. omega arith }, λ _. e)

    goes_no : (p q : Packet) → goes_first level p q ≡ false → GoesLater p q
    goes_no p q e =
        let k = or_false _ _ e in
        and_cases _ _ k.1
        (λ b. lower_later p q (ltb-false _ _ k.0) (eqb-false _ _ b))
        (λ _ c. earlier_later p q (ltb-false _ _ k.0) (leb-false _ _ c))

    -- a packet behind r stays chosen
    pass : (r : Packet) (rs : List Packet) (p : Packet) → (r.connection ≡ p.connection → ⊥) → (r.eligibility ≤ t → NotBefore p r) → Chosen rs (some p) → Chosen (r ∷ rs) (some p)
    pass r rs p ne le k = (k.0, (le, k.1), cond_is (some r) (first p.connection rs) (ne_eqb r.connection p.connection ne) ∙ k.2)

    -- r goes before all that do not go before it
    lead : (r : Packet) (rs : List Packet) → r.eligibility ≤ t → All (λ q. q.eligibility ≤ t → NotBefore r q) rs → Chosen (r ∷ rs) (some r)
    lead r rs e k = (e, (λ _. record { no_lower = omega arith; no_earlier = λ _. omega arith }, k), cond_is (some r) (first r.connection rs) (eq-eqb r.connection r.connection refl))

    -- THE LAW OF THE CHOICE
    pub chosen_law : (rs : List Packet) → Pairs Rising rs → Chosen rs (choice level t rs)
    chosen_law [] h = tt
    chosen_law (r ∷ rs) h = cond_ind (Chosen (r ∷ rs)) _ (λ e. taken (leb-true _ _ e) (choice level t rs) (chosen_law rs h.1)) (λ e. passed_by (leb-false _ _ e) (choice level t rs) (chosen_law rs h.1))
      where
        -- r is eligible
        taken : r.eligibility ≤ t → (o : Option Packet) → Chosen rs o → Chosen (r ∷ rs) (better level r o)
        taken e none k = lead r rs e (all_map (λ q f i. absurd (omega arith)) rs k)
        taken e (some p) k =
            cond_ind (Chosen (r ∷ rs)) _
            (λ b. lead r rs e (all_map (λ q f i. not_before_trans r p q (goes_yes r p b) (f i)) rs k.1))
            (λ b.
            pass r rs p
            (λ i. omega (arith, (goes_no r p b).1 i, first_all p.connection (Rising r) rs p k.2 h.0 i))
            (λ _. (goes_no r p b).0) k)

        -- r is not
        passed_by : t < r.eligibility → (o : Option Packet) → Chosen rs o → Chosen (r ∷ rs) o
        passed_by e none k = (e, k)
        passed_by e (some p) k =
            pass r rs p
            (λ i. omega (arith, first_all p.connection (Rising r) rs p k.2 h.0 i, k.0))
            (λ i. absurd (omega arith)) k
