use Rattle.connections.proofs.ClosingLaws as L
use Rattle.connections.proofs.MemberLaws as M
use Rattle.connections.proofs.MemberLaws.{connections_length}
use Rattle.connections.proofs.OwnerLaws.{used_le}
use Rattle.connections.proofs.WrittenLaws as W
use native.Mathlib.Omega.{arith}
use mathlib.Core.List.{List}
use mathlib.Core.Path.{sym, ap, subst, ◌∙◌}
use Prim.Native.Nat.{ℕ, ◌≤◌}
use lib.ListN.{set}
use Rattle.connections.specs.Members.{connections_in, used_by, put_member}
use Rattle.connections.specs.Rows.{rows_end}
use borrow.Author.Rules.{rules}
use Rattle.connections.proofs.closing.free_member.Goals as goal

pub used-n-requires : goal.used-n-requires
used-n-requires c = W.members_long c.args.members.now c.requires.0

pub put_member-requires : goal.put_member-requires
put_member-requires c = omega (arith, W.members_long c.args.members.now c.requires.0)

pub owners_up_to-left-requires : goal.owners_up_to-left-requires
owners_up_to-left-requires c =
    let t = c.args.members.now in
    let e = c.put_member.ensures ∙ ap (put_member t c.args.c) (M.blank c.default.result (search rules) (search rules) (search rules) (search rules)) in
    (c.put_member.auto.members ∙ W.members_long t c.requires.0, subst (λ (l : List ℕ). used_by (connections_in l) ≤ c.used-n.result) (sym e) (omega (arith, L.free_used t (W.members_rows t c.requires.0) c.args.c c.requires.1 c.requires.2, c.used-n.ensures, W.used_is t c.requires.0)), omega (arith, c.used-n.ensures, W.used_is t c.requires.0, used_le (connections_in t), connections_length t))

pub overflow_cast-members : goal.overflow_cast-members
overflow_cast-members c =
    let t = c.put_member.new.members in
    record { fits = omega (arith, c.owners_up_to-left.ensures, used_le (connections_in t), connections_length t) }

pub bounds-members-5000 : goal.bounds-members-5000
bounds-members-5000 c = omega (arith, c.put_member.auto.members, W.members_long c.args.members.now c.requires.0)

pub returns : goal.returns
returns c =
    let t = c.args.members.now in
    let e = c.put_member.ensures ∙ ap (put_member t c.args.c) (M.blank c.default.result (search rules) (search rules) (search rules) (search rules)) in
    ap (λ (l : List ℕ). set l rows_end c.owners_up_to-left.result) e
    ∙ L.free_written t c.requires.0 c.args.c c.requires.1 c.requires.2 c.owners_up_to-left.result (c.owners_up_to-left.ensures ∙ ap (λ (l : List ℕ). used_by (connections_in l)) e)
