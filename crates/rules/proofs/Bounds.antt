-- Of every sound state: the packets held are no more than the places, and every eligibility fits 32 bits.
use Prim.Native.Nat.{ℕ, ◌+◌, ◌*◌, ◌≤◌, ◌<◌, max}
use native.Mathlib.Omega.{arith}
use native.Mathlib.Nat.{mul-le-mul_right}
use mathlib.Core.Path.{◌≡◌, refl, sym, ap, ◌∙◌, subst}
use mathlib.Core.Bool.{Bool, true, false, cond, true≢false}
use mathlib.Core.Logic.{⊎_elim}
use mathlib.Core.List.{List, [], ◌∷◌}
use mathlib.Core.Option.{none, some}
use lib.Dec.{eqb}
use lib.ListN.{length, get_or-eq_default}
use borrow.Author.Tests.{eqb-true, eqb-false}
use Rattle.rules.specs.Limits.{max_connections, max_bound, max_gap, max_window, max_allowance, max_reserved, clock_end, beyond_32_bits, max_notices}
use Rattle.rules.specs.Model.{Connection, Past, Packet, State, no_connection, no_past, fresh, past, figures}
use Rattle.rules.specs.Admission.{owned, bound, charge_time, reservation, distance, ahead}
use Rattle.rules.specs.Service.{of, eligibilities, early_at}
use Rattle.rules.specs.SoundState.{margin, Orderly, Sound}
use Rattle.rules.specs.Calls.{eligibility_now}
use Rattle.rules.proofs.Lists.{All, all_map, total}
use Rattle.rules.proofs.Sums.{split, same, sum_le, only, only_at, only_off, total_by}
use Rattle.rules.proofs.Rows.{all_by_connection, length_map}
use Rattle.rules.proofs.Count.{count_gaps}
use Rattle.rules.proofs.Standing.{owned_below}
use Rattle.rules.proofs.Figures.{link_facts, charge_le, reservation_is, ahead_on, ahead_off}
use Rattle.rules.proofs.Notices.{of_none}
use Rattle.rules.proofs.SoundKept.{fresh_figures, fresh_past}
use Rattle.rules.proofs.SoundTick.{facts, regulated}
use Rattle.rules.proofs.Queue.{queue_chained, chained_far, next_near}

-- ---- rows, sorted by connection

count_of : (c : ℕ) (rs : List Packet) → total (λ p. only p.connection 1 c) rs ≡ length (of c rs)
count_of c [] = refl
count_of c (r ∷ rs) = go (eqb r.connection c) refl (count_of c rs)
  where
    go : (t : Bool) → eqb r.connection c ≡ t → total (λ p. only p.connection 1 c) rs ≡ length (of c rs)
        → only r.connection 1 c + total (λ p. only p.connection 1 c) rs ≡ length (cond t (r ∷ of c rs) (of c rs))
    go true e k = omega (arith, only_at r.connection 1 (eqb-true r.connection c e))
    go false e k = omega (arith, only_off r.connection 1 (eqb-false r.connection c e))

length_total : {A : Type 0} (xs : List A) → length xs ≡ total (λ _. 1) xs
length_total [] = refl
length_total (x ∷ xs) = omega (arith, length_total xs)

module _ (s : State) (S : Orderly s) where
  below : All (λ p. p.connection < length s.connections) s.held
  below = all_map (λ p f. owned_below s.connections p.connection f.owner) s.held S.fit

  few : (c : ℕ) (o : Bool) → owned s.connections c ≡ o → total (λ p. only p.connection 1 c) s.held ≤ reservation s.link (figures s c)
  few c true o = omega (arith, count_of c s.held, S.room c o)
  few c false o =
      omega (
        arith,
        count_of c s.held,
        ap length (of_none c s.held (all_map (λ p f e. true≢false (sym f.owner ∙ ap (owned s.connections) e ∙ o)) s.held S.fit)),
      )

  -- each connection holds at most its reservation, and all reservations together are within their limit
  held_le : length s.held ≤ max_reserved
  held_le =
      omega (
        arith,
        S.reserved_le,
        length_total s.held,
        total_by (λ p. p.connection) (λ _. 1) (length s.connections) s.held below,
        sum_le (length s.connections) {f = λ c. total (λ p. only p.connection 1 c) s.held} {g = λ c. reservation s.link (figures s c)}
            (λ c l. few c (owned s.connections c) refl),
      )

  -- one connection's rows are no more than all
  of_le : (c : ℕ) (rs : List Packet) → length (of c rs) ≤ length rs
  of_le c [] = omega arith
  of_le c (r ∷ rs) = go (eqb r.connection c) (of_le c rs)
    where
      go : (t : Bool) → length (of c rs) ≤ length rs → length (cond t (r ∷ of c rs) (of c rs)) ≤ length (r ∷ rs)
      go true k = omega arith
      go false k = omega arith

  -- so no eligibility lies further beyond the clock than the longest gap or window for each place, and the distance to which packets may go early
  longest : ℕ
  longest = max max_allowance (max max_gap max_window)

  far : ℕ
  far = clock_end + (max_allowance + max_bound + max_gap) + max_reserved * longest

  -- reservation times X
  distance_le : (c : ℕ) → owned s.connections c ≡ true → distance s.link (figures s c) ≤ max_allowance + max_bound + max_gap
  distance_le c o =
      omega (
        arith,
        ap (λ (n : ℕ). n * (figures s c).gap) (reservation_is s.link (figures s c)),
        count_gaps (figures s c) ((figures s c).allowance + bound s.link (figures s c).level),
        (facts s S c o).allowance_le,
        (link_facts s.link S.link_in).bound_le (figures s c).level (facts s S c o).low_level (facts s S c o).high_level,
        (facts s S c o).gap_le,
      )

  margin_le : (c : ℕ) → owned s.connections c ≡ true → margin (ahead s.link (figures s c)) ≤ max_allowance + max_bound + max_gap
  margin_le c o = go (early_at s c) refl
    where
      go : (b : Bool) → early_at s c ≡ b → margin (ahead s.link (figures s c)) ≤ max_allowance + max_bound + max_gap
      go true i = omega (arith, ap margin (ahead_on s.link (figures s c) i), distance_le c o)
      go false i = omega (arith, ap margin (ahead_off s.link (figures s c) i))

  reach : (c : ℕ) → owned s.connections c ≡ true → s.clock + margin (ahead s.link (figures s c)) + length (eligibilities c s.held) * longest ≤ far
  unfolding far
  reach c o =
      omega (
        arith,
        S.clock_le,
        margin_le c o,
        mul-le-mul_right {m = length (eligibilities c s.held)} {n = max_reserved} longest
            (omega (arith, length_map (λ (p : Packet). p.eligibility) (of c s.held), of_le c s.held, held_le)),
      )

  -- a number that has no owner has no gap and no window, and nothing remembered
  blank_or : (P : Connection → Past → Type 0) → P no_connection no_past → ((c : ℕ) → owned s.connections c ≡ true → P (figures s c) (past s c)) → (c : ℕ) → P (figures s c) (past s c)
  blank_or P z f c = go (owned s.connections c) refl
    where
      gone : figures s c ≡ no_connection → past s c ≡ no_past → P (figures s c) (past s c)
      gone i j = rw (i, j) z

      go : (o : Bool) → owned s.connections c ≡ o → P (figures s c) (past s c)
      go true o = f c o
      go false o =
          ⊎_elim
          (λ l. gone (get_or-eq_default s.connections no_connection {n = c} (omega (arith, S.numbers))) (get_or-eq_default s.pasts no_past {n = c} (omega (arith, S.one_past_each))))
          (λ l. let k = S.free_blank c l o in gone k.0 k.1)
          (split max_connections c)

  figures_le_longest : (c : ℕ) → ((figures s c).gap ≤ longest) × ((figures s c).window ≤ longest) × ((figures s c).allowance ≤ longest)
  unfolding longest
  figures_le_longest c =
      blank_or (λ x h. (x.gap ≤ max max_allowance (max max_gap max_window)) × (x.window ≤ max max_allowance (max max_gap max_window)) × (x.allowance ≤ max max_allowance (max max_gap max_window))) (omega arith, omega arith, omega arith)
      (λ c o. (omega (arith, (facts s S c o).gap_le), omega (arith, (facts s S c o).window_le), omega (arith, (facts s S c o).allowance_le))) c

  queue_far : (c : ℕ) → owned s.connections c ≡ true → All (λ e. e ≤ far) (eligibilities c s.held) × All (λ e. e ≤ far) (past s c)
  queue_far c l =
      let k = chained_far (figures s c) (ahead s.link (figures s c)) longest s.clock (figures_le_longest c).0 (figures_le_longest c).1 (figures_le_longest c).2 (past s c) (eligibilities c s.held) (queue_chained (figures s c) (regulated s S c l) (ahead s.link (figures s c)) s.clock (past s c) (eligibilities c s.held) (S.queue c l)) in
      (all_map (λ e h. omega (arith, reach c l)) (eligibilities c s.held) k.0, all_map (λ e h. omega (arith, reach c l)) (past s c) k.1)

  past_far : (c : ℕ) → All (λ e. e ≤ far) (past s c)
  past_far c = blank_or (λ x h. All (λ e. e ≤ far) h) tt (λ c o. (queue_far c o).1) c

  next_far : (c : ℕ) → eligibility_now s c none ≤ far + longest
  unfolding far
  next_far c =
      next_near (figures s c) longest s.clock (figures_le_longest c).0 (figures_le_longest c).1 far (past s c) (omega (arith, S.clock_le)) (past_far c)

  linked_fit : All (λ p. p.eligibility < beyond_32_bits) s.held × ((c : ℕ) → All (λ e. e < beyond_32_bits) (past s c) × (eligibility_now s c none < beyond_32_bits) × ((stamp : ℕ) → stamp ≤ s.clock → eligibility_now s c (some stamp) < beyond_32_bits))
  unfolding far longest
  linked_fit = (
    all_by_connection (λ c. owned s.connections c ≡ true) (λ e. e < beyond_32_bits) s.held (all_map (λ p f. f.owner) s.held S.fit)
        (λ c l. all_map (λ e k. omega arith) (eligibilities c s.held) (queue_far c l).0),
    λ c. (all_map (λ e k. omega arith) (past s c) (past_far c), omega (arith, next_far c), λ stamp k. omega (arith, S.clock_le, (figures_le_longest c).2)),
  )

  linked_charges : (c : ℕ) → All (λ e. e + charge_time s.link < beyond_32_bits) (past s c)
  unfolding far longest
  linked_charges c =
      all_map (λ e k. omega (arith, charge_le s.link S.link_in)) (past s c) (past_far c)

  linked_distances : (c : ℕ) → s.clock + distance s.link (figures s c) < beyond_32_bits
  linked_distances c = blank_or (λ x h. s.clock + distance s.link x < beyond_32_bits) (omega (arith, S.clock_le)) (λ c o. omega (arith, S.clock_le, distance_le c o)) c

-- ---- with or without a link

pub rows_fit_places : (s : State) → Sound s → length s.held ≤ max_reserved
rows_fit_places s S =
    ⊎_elim
    (λ z. omega (arith, ap (λ (r : State). length r.held) (S.with_no_link z)))
    (λ n. held_le s (S.with_one n).orderly)
    (same s.link.levels 0)

pub notices_fit_places : (s : State) → Sound s → length s.notices ≤ max_notices
notices_fit_places s S =
    ⊎_elim
    (λ z. omega (arith, ap (λ (r : State). length r.notices) (S.with_no_link z)))
    (λ n. (S.with_one n).orderly.line.few_notices)
    (same s.link.levels 0)

pub eligibilities_fit_32 : (s : State) → Sound s
    → All (λ p. p.eligibility < beyond_32_bits) s.held × ((c : ℕ) → All (λ e. e < beyond_32_bits) (past s c) × (eligibility_now s c none < beyond_32_bits) × ((stamp : ℕ) → stamp ≤ s.clock → eligibility_now s c (some stamp) < beyond_32_bits))
eligibilities_fit_32 s S =
    ⊎_elim
    (λ z.
    subst
    (λ (r : State). All (λ p. p.eligibility < beyond_32_bits) r.held × ((c : ℕ) → All (λ e. e < beyond_32_bits) (past r c) × (eligibility_now r c none < beyond_32_bits) × ((stamp : ℕ) → stamp ≤ r.clock → eligibility_now r c (some stamp) < beyond_32_bits)))
    (sym (S.with_no_link z))
    (tt, λ c. fresh_fit c (fresh_figures c) (fresh_past c)))
    (λ n. linked_fit s (S.with_one n).orderly)
    (same s.link.levels 0)
  where
    fresh_fit : (c : ℕ) → figures fresh c ≡ no_connection → past fresh c ≡ no_past → All (λ e. e < beyond_32_bits) (past fresh c) × (eligibility_now fresh c none < beyond_32_bits) × ((stamp : ℕ) → stamp ≤ 0 → eligibility_now fresh c (some stamp) < beyond_32_bits)
    fresh_fit c i j = rw (i, j) (tt, omega (arith, next_near no_connection 0 0 (omega arith) (omega arith) 0 no_past (omega arith) tt), λ stamp k. omega arith)

pub charges_fit_32 : (s : State) → Sound s → (c : ℕ) → All (λ e. e + charge_time s.link < beyond_32_bits) (past s c)
charges_fit_32 s S c =
    ⊎_elim
    (λ z.
    subst (λ (r : State). All (λ e. e + charge_time r.link < beyond_32_bits) (past r c)) (sym (S.with_no_link z))
    (subst (All (λ e. e + charge_time fresh.link < beyond_32_bits)) (sym (fresh_past c)) tt))
    (λ n. linked_charges s (S.with_one n).orderly c)
    (same s.link.levels 0)

pub distances_fit_32 : (s : State) → Sound s → (c : ℕ) → s.clock + distance s.link (figures s c) < beyond_32_bits
distances_fit_32 s S c =
    ⊎_elim
    (λ z.
    subst (λ (r : State). r.clock + distance r.link (figures r c) < beyond_32_bits) (sym (S.with_no_link z))
    (subst (λ (x : Connection). fresh.clock + distance fresh.link x < beyond_32_bits) (sym (fresh_figures c)) (omega arith)))
    (λ n. linked_distances s (S.with_one n).orderly c)
    (same s.link.levels 0)
