-- Laws of the pass over the rows that counts, for each connection, its rows.
use Prim.Native.Nat.{ℕ, ◌+◌, ◌≤◌, ◌<◌}
use native.Mathlib.Omega.{arith}
use native.Mathlib.Numerals.{add-one}
use mathlib.Core.Path.{◌≡◌, refl, sym, ap, ◌∙◌, subst}
use mathlib.Core.Bool.{Bool, true, false, cond}
use mathlib.Core.Logic.{◌⊎◌, inl, inr}
use mathlib.Core.List.{List, [], ◌∷◌, ◌++◌}
use lib.Dec.{eqb}
use lib.ListN.{length, get_or, take, replicate, length-set, length-take, get_or-replicate}
use lib.Seq.{get_or-set_same, get_or-set_other, take-suc}
use Rattle.rules.specs.declared.Packet.{Packet}
use Rattle.rules.specs.Limits.{max_connections, beyond_32_bits}
use Rattle.rules.specs.Service.{of}
use Rattle.rules.proofs.Rows.{of_snoc_same, of_snoc_other}
use Rattle.rules.proofs.Sums.{same}
use Rattle.tables.specs.Places.{rows, row_at, no_packet}
use Rattle.tables.proofs.PlacesLaws.{row_is}
use Rattle.line_tests.specs.Counts.{Counts, raised, Countable}

-- no more rows of a connection than rows
of_le : (c : ℕ) (ps : List Packet) → length (of c ps) ≤ length ps
of_le c [] = omega arith
of_le c (p ∷ ps) = go (eqb p.connection c) (of_le c ps)
  where
    go : (b : Bool) → length (of c ps) ≤ length ps → length (cond b (p ∷ of c ps) (of c ps)) ≤ length (p ∷ ps)
    go true l = omega arith
    go false l = omega arith

-- one row more
module _ (places : List ℕ) (i : ℕ) (h : i < length (rows places)) where
  pub rows_next : take (i + 1) (rows places) ≡ take i (rows places) ++ row_at places i ∷ []
  rows_next =
      ap (λ (k : ℕ). take k (rows places)) (add-one i)
      ∙ take-suc (rows places) i no_packet h
      ∙ ap (λ (p : Packet). take i (rows places) ++ p ∷ []) (row_is places i h)

  pub known_here : Countable places → {p : Packet} → p ≡ row_at places i → p.connection < max_connections
  known_here K e = subst (λ (q : Packet). q.connection < max_connections) (sym e) (K.known i h)

  -- the rows before it leave room for it in 32 bits
  pub room_here : (seen : List ℕ) → Countable places → Counts length seen (take i (rows places)) → {p : Packet} → p ≡ row_at places i
      → (p.connection < length seen) × (get_or seen p.connection 0 + 1 < beyond_32_bits)
  room_here seen K T {p} e =
      let l = known_here K e in
      (omega (arith, T.size, l), omega (arith, T.counts p.connection l, of_le p.connection (take i (rows places)), length-take i (rows places), K.few_rows))

-- ---- what f says of the packets of each connection

module _ (f : List Packet → ℕ) where
  pub counts_none : f [] ≡ 0 → Counts f (replicate max_connections 0) []
  counts_none z = record { size = refl; counts = λ c l. get_or-replicate max_connections c 0 0 l ∙ sym z }

  -- a packet that adds n
  counts_more : (seen : List ℕ) (passed : List Packet) (p : Packet) (n : ℕ) → ((ps : List Packet) → f (ps ++ p ∷ []) ≡ f ps + n) → p.connection < max_connections
      → Counts f seen passed → Counts f (raised seen p.connection n) (passed ++ p ∷ [])
  counts_more seen passed p n more l T = record { size = length-set seen p.connection _ ∙ T.size; counts = λ c m. one c m (same p.connection c) }
    where
      one : (c : ℕ) → c < max_connections → (p.connection ≡ c) ⊎ (p.connection ≡ c → ⊥) → get_or (raised seen p.connection n) c 0 ≡ f (of c (passed ++ p ∷ []))
      one c m (inl e) =
          ap (λ (k : ℕ). get_or (raised seen k n) c 0) e
          ∙ get_or-set_same seen c (get_or seen c 0 + n) 0 (omega (arith, T.size))
          ∙ ap (λ (k : ℕ). k + n) (T.counts c m)
          ∙ sym (ap f (of_snoc_same c passed p e) ∙ more (of c passed))
      one c m (inr o) =
          get_or-set_other seen p.connection c (get_or seen p.connection 0 + n) 0 (λ i. o (sym i))
          ∙ T.counts c m
          ∙ ap f (sym (of_snoc_other c passed p o))

  pub counts_next : (places : List ℕ) (i : ℕ) → i < length (rows places) → (seen after : List ℕ) → Countable places → Counts f seen (take i (rows places)) → (p : Packet) → p ≡ row_at places i
      → (n : ℕ) → ((ps : List Packet) → f (ps ++ p ∷ []) ≡ f ps + n) → after ≡ raised seen p.connection n → Counts f after (take (i + 1) (rows places))
  counts_next places i h seen after K T p e n more g =
      subst (λ (ps : List Packet). Counts f after ps) (sym (rows_next places i h))
      (subst (λ (q : Packet). Counts f after (take i (rows places) ++ q ∷ [])) e
      (subst (λ (s : List ℕ). Counts f s (take i (rows places) ++ p ∷ [])) (sym g)
      (counts_more seen (take i (rows places)) p n more (known_here places i h K e) T)))
