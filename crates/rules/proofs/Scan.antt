-- One pass over the rows (`paced`) says of every connection what `Chain` says of its own rows, and the other way round.
use Prim.Native.Nat.{ℕ}
use mathlib.Core.Path.{◌≡◌, refl, sym, ap, ◌∙◌, subst}
use mathlib.Core.Bool.{true}
use mathlib.Core.Logic.{◌⊎◌, inl, inr}
use mathlib.Core.List.{List, [], ◌∷◌, ◌++◌}
use mathlib.Core.Option.{Option}
use lib.Dec.{leb}
use borrow.Author.Tests.{leb-true, le-leb}
use Rattle.rules.specs.Model.{Link, Connection, Past, Packet, nth}
use Rattle.rules.specs.Admission.{owned, ahead}
use Rattle.rules.specs.Service.{earliest, remember, remember_all, eligibilities}
use Rattle.rules.specs.SoundTest.{last_tick, in_pace, paced}
use Rattle.rules.proofs.Lists.{All}
use Rattle.rules.proofs.Sums.{same}
use Rattle.rules.proofs.Tests.{and_true, and_intro}
use Rattle.rules.proofs.Rows.{eligibilities_same, eligibilities_other, eligibilities_snoc_same, eligibilities_snoc_other}
use Rattle.rules.proofs.Memory.{remember_all_snoc}
use Rattle.rules.proofs.Queue.{Pace, Chain}

pace_true : (c : Connection) (a : Option ℕ) (t : ℕ) (h : Past) (e : ℕ) → in_pace c a t h e ≡ true → Pace c a t h e
pace_true c a t h e q =
    let k = and_true (leb (earliest c h) e) (leb e (last_tick c a t h)) q in
    (leb-true (earliest c h) e k.0, leb-true e (last_tick c a t h) k.1)

pace_intro : (c : Connection) (a : Option ℕ) (t : ℕ) (h : Past) (e : ℕ) → Pace c a t h e → in_pace c a t h e ≡ true
pace_intro c a t h e p = and_intro (leb (earliest c h) e) (leb e (last_tick c a t h)) (le-leb (earliest c h) e p.0) (le-leb e (last_tick c a t h) p.1)

module _ (l : Link) (cs : List Connection) (t : ℕ) (old : ℕ → Past) where
  -- what is remembered of connection c behind some rows
  abbrev known : ℕ → List Packet → Past
  known c before = remember_all (old c) (eligibilities c before)

  -- one more row: of its connection it is remembered, of the others nothing changes
  known_same : (c : ℕ) (before : List Packet) (p : Packet) → p.connection ≡ c → known c (before ++ p ∷ []) ≡ remember (known c before) p.eligibility
  known_same c before p e = ap (remember_all (old c)) (eligibilities_snoc_same c before p e) ∙ remember_all_snoc (old c) (eligibilities c before) p.eligibility

  known_other : (c : ℕ) (before : List Packet) (p : Packet) → (p.connection ≡ c → ⊥) → known c (before ++ p ∷ []) ≡ known c before
  known_other c before p e = ap (remember_all (old c)) (eligibilities_snoc_other c before p e)

  -- the chain of connection c behind some rows
  abbrev ChainOf : ℕ → List Packet → List Packet → Type 0
  ChainOf c before rows = Chain (nth cs c) (ahead l (nth cs c)) t (known c before) (eligibilities c rows)

  pub paced_chain : (before rows : List Packet) → paced l cs t old before rows ≡ true → (c : ℕ) → ChainOf c before rows
  paced_chain before [] h c = tt
  paced_chain before (p ∷ ps) h c = go (and_true _ _ h) (same p.connection c) (paced_chain (before ++ p ∷ []) ps)
    where
      go : (in_pace (nth cs p.connection) (ahead l (nth cs p.connection)) t (known p.connection before) p.eligibility ≡ true) × (paced l cs t old (before ++ p ∷ []) ps ≡ true)
          → (p.connection ≡ c) ⊎ (p.connection ≡ c → ⊥)
          → (paced l cs t old (before ++ p ∷ []) ps ≡ true → (d : ℕ) → ChainOf d (before ++ p ∷ []) ps)
          → ChainOf c before (p ∷ ps)
      go k (inl e) ih =
          rw (eligibilities_same c p ps e) (
            subst (λ (d : ℕ). Pace (nth cs d) (ahead l (nth cs d)) t (known d before) p.eligibility) e (pace_true (nth cs p.connection) (ahead l (nth cs p.connection)) t (known p.connection before) p.eligibility k.0),
            subst (λ (m : Past). Chain (nth cs c) (ahead l (nth cs c)) t m (eligibilities c ps)) (known_same c before p e) (ih k.1 c),
          )
      go k (inr e) ih =
          rw (eligibilities_other c p ps e) (subst (λ (m : Past). Chain (nth cs c) (ahead l (nth cs c)) t m (eligibilities c ps)) (known_other c before p e) (ih k.1 c))

  pub chain_paced : (before rows : List Packet) → All (λ p. owned cs p.connection ≡ true) rows → ((c : ℕ) → owned cs c ≡ true → ChainOf c before rows) → paced l cs t old before rows ≡ true
  chain_paced before [] o h = refl
  chain_paced before (p ∷ ps) o h =
      and_intro _ _
      (pace_intro (nth cs p.connection) (ahead l (nth cs p.connection)) t (known p.connection before) p.eligibility own.0)
      (chain_paced (before ++ p ∷ []) ps o.1 (λ c k. rest c k (same p.connection c)))
    where
      own : Pace (nth cs p.connection) (ahead l (nth cs p.connection)) t (known p.connection before) p.eligibility
          × Chain (nth cs p.connection) (ahead l (nth cs p.connection)) t (remember (known p.connection before) p.eligibility) (eligibilities p.connection ps)
      own = rw (eligibilities_same p.connection p ps refl) at (h p.connection o.0)

      rest : (c : ℕ) → owned cs c ≡ true → (p.connection ≡ c) ⊎ (p.connection ≡ c → ⊥) → ChainOf c (before ++ p ∷ []) ps
      rest c k (inl e) =
          subst (λ (m : Past). Chain (nth cs c) (ahead l (nth cs c)) t m (eligibilities c ps)) (sym (known_same c before p e))
          (subst (λ (d : ℕ). Chain (nth cs d) (ahead l (nth cs d)) t (remember (known d before) p.eligibility) (eligibilities d ps)) e own.1)
      rest c k (inr e) =
          subst (λ (m : Past). Chain (nth cs c) (ahead l (nth cs c)) t m (eligibilities c ps)) (sym (known_other c before p e))
          (rw (eligibilities_other c p ps e) at (h c k))
