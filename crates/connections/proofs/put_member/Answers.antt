use Rattle.connections.proofs.MemberLaws as M
use Prim.Native.Nat.{ℕ, ◌+◌, ◌*◌}
use mathlib.Core.List.{List}
use mathlib.Core.Path.{◌≡◌, ap, ◌∙◌}
use lib.ListN.{length, set, length-set}
use lib.Seq.{sets}
use Rattle.rules.specs.Limits.{max_remembered}
use Rattle.connections.specs.Members.{member_width}
use Rattle.connections.specs.Rows.{member_head}
use native.Mathlib.Omega.{arith}
use borrow.Author.Rules.{rules}
use Rattle.connections.proofs.put_member.Goals as goal

pub returns : goal.returns
returns c =
    let a = c.args in
    let n : length a.m.ticks ≡ max_remembered = search rules in
    M.part_put _ _ _ _ a.m.ticks c.copy_from_slice.ensures.after (omega (arith, n)) (simp length-set (omega (arith, n, c.put_figures.auto.members)))
    ∙ ap (λ (t : List ℕ). sets (set (set t (member_width * a.i + 7) a.m.mark) (member_width * a.i + 8) a.m.known) (member_width * a.i + member_head) a.m.ticks) c.put_figures.ensures
    ∙ M.put_parts a.members.now _ a.m n
