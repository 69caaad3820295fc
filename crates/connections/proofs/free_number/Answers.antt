use Rattle.connections.proofs.MemberLaws as M
use Rattle.connections.proofs.OwnerLaws as O
use Rattle.std.proofs.lemmas.Iterator.{first_from_Range, serves_from_Range}
use Rattle.std.proofs.Common.{rules, tests}
use Rattle.std.specs.Prelude.{Option, Some, None}
use Rattle.std.specs.Option.{MatchOption, unwrap_or}
use native.Mathlib.Omega.{arith}
use Prim.Native.Nat.{ℕ, ◌≤◌, ◌<◌}
use mathlib.Core.List.{List}
use mathlib.Core.Path.{◌≡◌, sym, ◌∙◌}
use lib.ListN.{get_or}
use Rattle.rules.specs.Admission.{free_number}
use Rattle.tables.specs.Table.{row_in}
use Rattle.connections.specs.Members.{member_width, connections_in, used_by}
use Rattle.connections.proofs.free_number.Goals as goal

pub find-requires-clause-callable : goal.find-requires-clause-callable
find-requires-clause-callable c =
    let t = c.args.members.now in
    let u = O.used_le (connections_in t) in
    let n = M.connections_length t in
    serves_from_Range (λ x q k. search (rules, tests)) (λ x low high. search (rules, u, n))

-- the first number of a row that is 0, or the number behind the last owner
found : (t : List ℕ) (n : ℕ) (r : Option ℕ) → n ≡ used_by (connections_in t)
    → MatchOption r ((k : ℕ) → 0 ≤ k → k < n → get_or (row_in member_width t k) 0 0 ≡ 0 → ⊥) (λ i. (0 ≤ i) × (i < n) × (get_or (row_in member_width t i) 0 0 ≡ 0) × ((k : ℕ) → 0 ≤ k → k < i → get_or (row_in member_width t k) 0 0 ≡ 0 → ⊥))
    → unwrap_or r n ≡ free_number (connections_in t)
found t n None e m =
    let u = O.used_le (connections_in t) in
    let l = M.connections_length t in
    O.free_first (connections_in t) n (O.level_behind (connections_in t) n (omega arith)) (λ k h z. m k (omega arith) h (sym (M.level_is t k (omega arith)) ∙ z))
found t n (Some i) e m =
    let u = O.used_le (connections_in t) in
    let l = M.connections_length t in
    O.free_first (connections_in t) i (M.level_is t i (omega (arith, m.1)) ∙ m.2) (λ k h z. m.3 k (omega arith) h (sym (M.level_is t k (omega (arith, m.1))) ∙ z))

pub returns : goal.returns
returns c =
    let t = c.args.members.now in
    let first = first_from_Range _ _ _ _ (λ i. get_or (row_in member_width t i) 0 0 ≡ 0) (λ i. get_or (row_in member_width t i) 0 0 ≡ 0 → ⊥) c.find.ensures.ran (λ x q k. grind (arith, tests)) (λ x q k. (search rules, grind (arith, tests))) in
    c.unwrap_or.ensures ∙ found t c.args.n c.find.result c.requires.1 first
