-- The best row so far and the next one: each way out of the comparison.
use Prim.Native.Nat.{ℕ, ◌+◌, ◌*◌, ◌≤◌, ◌<◌}
use native.Mathlib.Omega.{arith}
use mathlib.Core.Path.{◌≡◌, refl, sym, ap, subst}
use mathlib.Core.Bool.{Bool, true, false}
use mathlib.Core.List.{List}
use lib.Dec.{ltb}
use lib.ListN.{length, get_or}
use borrow.Author.Tests.{ltb-true, ltb-false}
use Rattle.rules.specs.declared.Packet.{Packet}
use Rattle.tables.specs.Places.{row_at}
use Rattle.service.specs.declared.Lead.{Lead}
use Rattle.std.specs.Prelude.{Option, Some, None, unwrap_or}
use Rattle.std.proofs.lemmas.Option.{none-some}
use mathlib.Core.Option.{some}
use Rattle.service.specs.Candidates.{candidate, leader, level_in, named, LeadIs, Leads, LeadsWith, NotEligible}
use Rattle.service.proofs.ChoiceLaws as L

-- one that leads is the one that is noted
pub leads_as : (cs t : List ℕ) (l : Lead) → LeadIs cs t l → Leads cs t (Some l)
leads_as cs t l k m e = subst (LeadIs cs t) (ap (λ (o : Option Lead). unwrap_or o l) e) k

-- none leads yet
pub leads_none : (cs t : List ℕ) → Leads cs t None
leads_none cs t l e = absurd (none-some l e)

module _ (cs t : List ℕ) (clock : ℕ) (i : ℕ) (room : 5 * i + 5 ≤ length t) where
  abbrev p : Packet
  p = row_at t i

  pub not_eligible : (o : Option Lead) → Leads cs t o → clock < p.eligibility → LeadsWith cs t clock o i o
  not_eligible o W h = (L.not_eligible (level_in cs) clock p (named t o) h, W)

  -- p is eligible, y its level
  module _ (h : p.eligibility ≤ clock) (y : ℕ) (ey : y ≡ level_in cs p.connection) where
    abbrev it : Lead
    it = record { place = i; level = y; eligibility = p.eligibility }

    it_leads : Leads cs t (Some it)
    it_leads = leads_as cs t it (record { inside = room; level = ey; eligibility = refl })

    pub none_yet : LeadsWith cs t clock None i (Some it)
    none_yet = (L.none_yet (level_in cs) clock p h, it_leads)

    module _ (o : Option Lead) (l : Lead) (e : o ≡ Some l) (W : Leads cs t o) where
      abbrev best : Packet
      best = row_at t l.place

      abbrev is : LeadIs cs t l
      is = W l e

      abbrev With : Packet → Type 0
      With q = some q ≡ leader (level_in cs) (some best) (candidate clock p)

      stays : With best → LeadsWith cs t clock o i (Some l)
      stays k = subst (λ (x : Option Lead). LeadsWith cs t clock x i (Some l)) (sym e) (k, leads_as cs t l is)

      comes : With p → LeadsWith cs t clock o i (Some it)
      comes k = subst (λ (x : Option Lead). LeadsWith cs t clock x i (Some it)) (sym e) (k, it_leads)

      pub lower_stays : l.level < y → LeadsWith cs t clock o i (Some l)
      lower_stays u = stays (L.lower_stays (level_in cs) clock p best h is.level ey u)

      pub lower_comes : y < l.level → LeadsWith cs t clock o i (Some it)
      lower_comes u = comes (L.lower_comes (level_in cs) clock p best h is.level ey u)

      pub as_early_stays : l.level ≡ y → l.eligibility ≤ p.eligibility → LeadsWith cs t clock o i (Some l)
      as_early_stays u v = stays (L.as_early_stays (level_in cs) clock p best h is.level ey u (omega (arith, is.eligibility)))

      pub earlier_comes : l.level ≡ y → p.eligibility < l.eligibility → LeadsWith cs t clock o i (Some it)
      earlier_comes u v = comes (L.earlier_comes (level_in cs) clock p best h is.level ey u (omega (arith, is.eligibility)))

-- ---- rows that are passed over

module _ (t : List ℕ) (clock i : ℕ) where
  pub none_passed : NotEligible t clock i i
  none_passed = λ j a b. absurd (omega arith)

  -- one more row, whose eligibility is number k of the table
  one_more : (j r k : ℕ) → r ≡ j + 1 → k ≡ 5 * j + 4 → NotEligible t clock i j → clock < get_or t k 0 → NotEligible t clock i r
  one_more j r k e f h l = λ m a b. go m a b (ltb m j) refl
    where
      go : (m : ℕ) → i ≤ m → m < r → (u : Bool) → ltb m j ≡ u → clock < (row_at t m).eligibility
      go m a b true d = h m a (ltb-true m j d)
      go m a b false d =
          let v : m ≡ j = omega (arith, ltb-false m j d) in
          let w : 5 * m + 4 ≡ k = omega arith in
          rw w l

  module _ (j : ℕ) (h : NotEligible t clock i j) (a : clock < get_or t (5 * j + 4) 0) where
    pub one_passed : NotEligible t clock i (j + 1)
    one_passed = one_more j (j + 1) (5 * j + 4) refl refl h a

    module _ (b : clock < get_or t (5 * j + 9) 0) where
      pub two_passed : NotEligible t clock i (j + 2)
      two_passed = one_more (j + 1) (j + 2) (5 * j + 9) (omega arith) (omega arith) one_passed b

      module _ (d : clock < get_or t (5 * j + 14) 0) where
        pub three_passed : NotEligible t clock i (j + 3)
        three_passed = one_more (j + 2) (j + 3) (5 * j + 14) (omega arith) (omega arith) two_passed d

        pub four_passed : clock < get_or t (5 * j + 19) 0 → NotEligible t clock i (j + 4)
        four_passed e = one_more (j + 3) (j + 4) (5 * j + 19) (omega arith) (omega arith) three_passed e
