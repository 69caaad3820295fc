-- The table that the rows are laid out in: what is read of it, and a row more.
use Prim.Native.Nat.{ℕ, zero, suc, ◌+◌, ◌-◌, ◌≤◌, ◌<◌}
use native.Mathlib.Omega.{arith}
use native.Mathlib.Numerals.{add-one}
use mathlib.Core.Path.{◌≡◌, refl, sym, ap, ◌∙◌, subst}
use mathlib.Core.Bool.{true, false}
use mathlib.Core.Logic.{⊎_elim}
use mathlib.Core.List.{List, [], ◌∷◌, ◌++◌, append_assoc}
use lib.ListN.{length, get_or, set, replicate, length-append, length-replicate, get_or-replicate, get_or-append}
use lib.Seq.{set_at}
use Rattle.rules.specs.declared.Link.{Link}
use Rattle.rules.specs.declared.Connection.{Connection}
use Rattle.rules.specs.Words.{All, every, tabulate}
use Rattle.rules.specs.Limits.{max_connections}
use Rattle.rules.specs.Model.{no_connection, no_past, nth}
use Rattle.rules.specs.Admission.{link_within, figures_within, owned, free_number, joining, level_test}
use Rattle.rules.proofs.Lists.{all_from}
use Rattle.rules.proofs.Sums.{split}
use Rattle.rules.proofs.Standing.{owned_level, free_level}
use Rattle.connections.specs.Members.{members_length, connections_in, pasts_in, closed_in, used_by, first_closed, written_rows, written_members, members_formed}
use Rattle.connections.specs.Within.{Within}
use Rattle.connections.proofs.WrittenLaws.{Few, connections_back, pasts_back, closed_back, members_formed_back, members_long}
use Rattle.firmware.specs.Questions.{row_asked}
use Rattle.firmware.specs.Laid.{laid_rows, no_pasts, no_marks, laid_out}
use Rattle.firmware.proofs.AskedLaws.{length_first, nth_first, tabulate_snoc, row_ok, figures_ok, levelled}
use Rattle.firmware.proofs.FreeLaws.{padded, test_padded, free_behind, used_padded, nth_behind}

-- an empty table
pub blank : (rows : List ℕ) → replicate members_length 0 ≡ laid_out 0 rows
unfolding written_rows
blank rows = refl

few_none : (k : ℕ) → All Few (replicate k no_past)
few_none zero = tt
few_none (suc k) = (omega arith, few_none k)

each_past : length no_pasts ≡ max_connections
each_past = length-replicate max_connections no_past

each_mark : length no_marks ≡ max_connections
each_mark = length-replicate max_connections false

module _ (rows : List ℕ) (n : ℕ) (few : n ≤ max_connections) where
  length_rows : length (laid_rows n rows) ≡ max_connections
  length_rows =
      omega (
        arith,
        length-append (tabulate n (row_asked rows)) (replicate (max_connections - n) no_connection),
        length_first rows n,
        length-replicate (max_connections - n) no_connection,
      )

  nth_row : (i : ℕ) → i < n → nth (laid_rows n rows) i ≡ row_asked rows i
  nth_row i h =
      get_or-append (tabulate n (row_asked rows)) (replicate (max_connections - n) no_connection) no_connection i (omega (arith, length_first rows n))
      ∙ nth_first rows n i h

  nth_free : (i : ℕ) → n ≤ i → nth (laid_rows n rows) i ≡ no_connection
  nth_free i h = nth_behind (tabulate n (row_asked rows)) (max_connections - n) i (omega (arith, length_first rows n))

  module _ (t : List ℕ) (e : t ≡ laid_out n rows) where
    abbrev used : ℕ
    used = used_by (laid_rows n rows)

    abbrev earliest : ℕ
    earliest = first_closed no_pasts no_marks

    connections_laid : connections_in t ≡ laid_rows n rows
    connections_laid = ap connections_in e ∙ connections_back (laid_rows n rows) no_pasts no_marks used earliest length_rows each_past each_mark (few_none max_connections)

    pasts_laid : pasts_in t ≡ no_pasts
    pasts_laid = ap pasts_in e ∙ pasts_back (laid_rows n rows) no_pasts no_marks used earliest length_rows each_past each_mark (few_none max_connections)

    marks_laid : closed_in t ≡ no_marks
    marks_laid = ap closed_in e ∙ closed_back (laid_rows n rows) no_pasts no_marks used earliest length_rows each_past each_mark (few_none max_connections)

    pub formed_laid : members_formed t ≡ true
    formed_laid = ap members_formed e ∙ members_formed_back (laid_rows n rows) no_pasts no_marks length_rows each_past each_mark (few_none max_connections)

    pub length_laid : length t ≡ members_length
    length_laid = members_long t formed_laid

    pub used_laid : used_by (connections_in t) ≤ n
    used_laid = omega (arith, ap used_by connections_laid, used_padded (tabulate n (row_asked rows)) (max_connections - n), length_first rows n)

    -- the level test of the table is that of its rows
    pub test_laid : (l : Link) → level_test l (connections_in t) ≡ level_test l (tabulate n (row_asked rows))
    test_laid l = ap (level_test l) connections_laid ∙ test_padded l (tabulate n (row_asked rows)) (max_connections - n)

    pub within_laid : (l : Link) → link_within l ≡ true → every n (row_ok l rows) ≡ true → Within l (connections_in t)
    within_laid l k ok = subst (Within l) (sym connections_laid) (record { link_in = k; figures_in = figures; blank_in = free })
      where
        figures : (c : ℕ) → owned (laid_rows n rows) c ≡ true → figures_within l (nth (laid_rows n rows) c) ≡ true
        figures c o =
            ⊎_elim
            (λ h. absurd (owned_level (laid_rows n rows) c o (ap (λ (x : Connection). x.level) (nth_free c h))))
            (λ h. subst (λ (x : Connection). figures_within l x ≡ true) (sym (nth_row c h)) (figures_ok l rows n ok c h))
            (split n c)

        free : (c : ℕ) → owned (laid_rows n rows) c ≡ false → nth (laid_rows n rows) c ≡ no_connection
        free c o =
            ⊎_elim
            (λ h. nth_free c h)
            (λ h. absurd (omega (arith, levelled l rows n ok c h, ap (λ (x : Connection). x.level) (nth_row c h), free_level (laid_rows n rows) c o)))
            (split n c)

    -- row n is put behind the others
    module _ (more : n < max_connections) (owned_so_far : (i : ℕ) → i < n → 1 ≤ (row_asked rows i).level) where
      rest : max_connections - n ≡ suc (max_connections - suc n)
      rest = omega arith

      with_rest : laid_rows n rows ≡ tabulate n (row_asked rows) ++ no_connection ∷ replicate (max_connections - suc n) no_connection
      with_rest = ap (padded (tabulate n (row_asked rows))) rest

      levels : All (λ x. 1 ≤ x.level) (tabulate n (row_asked rows))
      levels =
          all_from (λ x. 1 ≤ x.level) (tabulate n (row_asked rows)) no_connection
          (λ i h.
          let k : i < n = omega (arith, length_first rows n) in
          subst (λ (x : Connection). 1 ≤ x.level) (sym (nth_first rows n i k)) (owned_so_far i k))

      pub next_free : n ≡ free_number (connections_in t)
      next_free =
          sym
          (ap free_number (connections_laid ∙ with_rest)
          ∙ free_behind (tabulate n (row_asked rows)) (replicate (max_connections - suc n) no_connection) levels
          ∙ length_first rows n)

      pub next_past : get_or (pasts_in t) n no_past ≡ no_past
      next_past = rw pasts_laid (get_or-replicate max_connections n no_past no_past more)

      pub next_mark : get_or (closed_in t) n false ≡ false
      next_mark = rw marks_laid (get_or-replicate max_connections n false false more)

      joined : (x : Connection) → x ≡ row_asked rows n → joining (connections_in t) x ≡ laid_rows (n + 1) rows
      joined x k =
          ap (λ (c : ℕ). set (connections_in t) c x) (sym next_free)
          ∙ ap (λ (cs : List Connection). set cs n x) (connections_laid ∙ with_rest)
          ∙ set_at (tabulate n (row_asked rows)) no_connection (replicate (max_connections - suc n) no_connection) x n (length_first rows n)
          ∙ sym (append_assoc (tabulate n (row_asked rows)) (x ∷ []) (replicate (max_connections - suc n) no_connection))
          ∙ ap (λ (cs : List Connection). cs ++ replicate (max_connections - suc n) no_connection)
          (ap (λ (y : Connection). tabulate n (row_asked rows) ++ y ∷ []) k ∙ sym (tabulate_snoc n (row_asked rows)))
          ∙ ap (λ (m : ℕ). laid_rows m rows) (sym (add-one n))

      pub next_laid : (x : Connection) → x ≡ row_asked rows n → written_members (joining (connections_in t) x) (pasts_in t) (closed_in t) ≡ laid_out (n + 1) rows
      next_laid x k = rw (joined x k, pasts_laid, marks_laid)
