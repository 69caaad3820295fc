use mathlib.Core.Path.{sym}
use lib.ListN.{length}
use borrow.Author.Tests.{eq-eqb, ne_eqb}
use Rattle.limits.proofs.ChainLaws as C
use Rattle.connections.specs.Members.{members_length, rows_formed, members_formed}
use Rattle.sound.proofs.PartLaws as S
use borrow.Author.Rules.{rules}
use mathlib.Core.Path.{ap}
use mathlib.Core.Bool.{not}
use Rattle.sound.proofs.members_formed.Goals as goal

pub returns-then-members-ne-MEMBERS : goal.returns-then-members-ne-MEMBERS
unfolding rows_formed members_formed
returns-then-members-ne-MEMBERS c = C.fails _ _ (sym (C.fails _ _ (ne_eqb (length c.args.members.now) members_length c.if-members-ne-MEMBERS.true)))

pub returns-then-not-each_formed : goal.returns-then-not-each_formed
unfolding rows_formed members_formed
returns-then-not-each_formed c = C.fails _ _ (sym (C.goes_on _ _ _ (eq-eqb (length c.args.members.now) members_length (search rules)) (sym (S.falls c.each_formed.ensures (ap not c.if-not-each_formed.true)))))

pub sums_ok-requires : goal.sums_ok-requires
unfolding rows_formed
sums_ok-requires c = sym (C.goes_on _ _ _ (eq-eqb (length c.args.members.now) members_length (search rules)) (sym (S.holds c.each_formed.ensures (ap not c.if-not-each_formed.false))))

pub returns : goal.returns
unfolding rows_formed members_formed
returns c = C.goes_on _ _ _ (sym (C.goes_on _ _ _ (eq-eqb (length c.args.members.now) members_length (search rules)) (sym (S.holds c.each_formed.ensures (ap not c.if-not-each_formed.false))))) c.sums_ok.ensures
