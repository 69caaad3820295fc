-- Notices among packets: what waits in the hub, by its numbers.
use Prim.Native.Nat.{ℕ}
use mathlib.Core.Path.{◌≡◌, refl, sym, ap, ◌∙◌}
use mathlib.Core.Bool.{Bool, true, false, cond}
use mathlib.Core.Logic.{◌⊎◌, inl, inr}
use mathlib.Core.List.{List, [], ◌∷◌, ◌++◌, map, append-nil}
use mathlib.Core.Option.{none, some}
use lib.Dec.{eqb}
use borrow.Author.Tests.{ne_eqb}
use Rattle.rules.specs.Limits.{notice_number}
use Rattle.rules.specs.Model.{Packet, Notice, notice_packet, first_notice}
use Rattle.rules.specs.Service.{of, first, without}
use Rattle.rules.proofs.Lists.{All}
use Rattle.rules.proofs.Sums.{cond_is, same}
use Rattle.rules.proofs.Rows.{none_some, some_inj}

-- the first notice and those behind it
pub first_notice_is : (ns : List Notice) (n : Notice) → first_notice ns ≡ some n → (ms : List Notice) × (ns ≡ n ∷ ms)
first_notice_is [] n e = absurd (none_some e)
first_notice_is (m ∷ ms) n e = (ms, ap (λ (k : Notice). k ∷ ms) (some_inj e))

-- ---- what waits: rows of levels, and the notices behind them

module _ (c : ℕ) where
  pub first_none : (rs : List Packet) → All (λ p. p.connection ≡ c → ⊥) rs → first c rs ≡ none
  first_none [] h = refl
  first_none (r ∷ rs) h = cond_is (some r) (first c rs) (ne_eqb r.connection c h.0) ∙ first_none rs h.1

  pub of_none : (rs : List Packet) → All (λ p. p.connection ≡ c → ⊥) rs → of c rs ≡ []
  of_none [] h = refl
  of_none (r ∷ rs) h = cond_is (r ∷ of c rs) (of c rs) (ne_eqb r.connection c h.0) ∙ of_none rs h.1

  pub without_append : (rs qs : List Packet) (p : Packet) → first c rs ≡ some p → without c (rs ++ qs) ≡ without c rs ++ qs
  without_append [] qs p e = absurd (none_some e)
  without_append (r ∷ rs) qs p e = go (eqb r.connection c) e (without_append rs qs p)
    where
      go : (b : Bool) → cond b (some r) (first c rs) ≡ some p → (first c rs ≡ some p → without c (rs ++ qs) ≡ without c rs ++ qs)
          → cond b (rs ++ qs) (r ∷ without c (rs ++ qs)) ≡ cond b rs (r ∷ without c rs) ++ qs
      go true e k = refl
      go false e k = ap (λ (l : List Packet). r ∷ l) (k e)

  pub first_behind : (rs qs : List Packet) → first c rs ≡ none → first c (rs ++ qs) ≡ first c qs
  first_behind [] qs e = refl
  first_behind (r ∷ rs) qs e = go (eqb r.connection c) e (first_behind rs qs)
    where
      go : (b : Bool) → cond b (some r) (first c rs) ≡ none → (first c rs ≡ none → first c (rs ++ qs) ≡ first c qs)
          → cond b (some r) (first c (rs ++ qs)) ≡ first c qs
      go true e k = absurd (none_some (sym e))
      go false e k = k e

  pub without_behind : (rs qs : List Packet) → first c rs ≡ none → without c (rs ++ qs) ≡ rs ++ without c qs
  without_behind [] qs e = refl
  without_behind (r ∷ rs) qs e = go (eqb r.connection c) e (without_behind rs qs)
    where
      go : (b : Bool) → cond b (some r) (first c rs) ≡ none → (first c rs ≡ none → without c (rs ++ qs) ≡ rs ++ without c qs)
          → cond b (rs ++ qs) (r ∷ without c (rs ++ qs)) ≡ r ∷ rs ++ without c qs
      go true e k = absurd (none_some (sym e))
      go false e k = ap (λ (l : List Packet). r ∷ l) (k e)

-- notices bear no connection's number
pub of_notices : (c : ℕ) (ns : List Notice) → (c ≡ notice_number → ⊥) → of c (map notice_packet ns) ≡ []
of_notices c [] n = refl
of_notices c (m ∷ ns) n = cond_is (notice_packet m ∷ of c (map notice_packet ns)) (of c (map notice_packet ns)) (ne_eqb notice_number c (λ e. n (sym e))) ∙ of_notices c ns n

-- a packet of a level and the notices stand in either order
pub either_order : (c : ℕ) (p : Packet) (ns : List Notice) → (p.connection ≡ notice_number → ⊥)
    → of c (map notice_packet ns) ++ of c (p ∷ []) ≡ of c (p ∷ []) ++ of c (map notice_packet ns)
either_order c p ns n = go (same p.connection c)
  where
    go : (p.connection ≡ c) ⊎ (p.connection ≡ c → ⊥) → of c (map notice_packet ns) ++ of c (p ∷ []) ≡ of c (p ∷ []) ++ of c (map notice_packet ns)
    go (inl e) = rw (of_notices c ns (λ i. n (e ∙ i))) (sym (append-nil (of c (p ∷ []))))
    go (inr e) = rw (cond_is (p ∷ []) [] (ne_eqb p.connection c e)) (append-nil (of c (map notice_packet ns)))
