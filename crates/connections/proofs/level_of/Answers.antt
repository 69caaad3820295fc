use Rattle.connections.proofs.MemberLaws as M
use native.Mathlib.Omega.{arith}
use mathlib.Core.Path.{sym, ap, ◌∙◌}
use Rattle.rules.specs.declared.Connection.{Connection}
use Rattle.connections.proofs.level_of.Goals as goal

pub returns-then-k-lt-MAX_CONNECTIONS : goal.returns-then-k-lt-MAX_CONNECTIONS
returns-then-k-lt-MAX_CONNECTIONS c = let a = c.args in c.number.ensures ∙ sym (M.level_is a.members.now a.c (omega arith))

pub returns : goal.returns
returns c = let a = c.args in sym (ap (λ (x : Connection). x.level) (M.connection_none a.members.now a.c (omega arith)))
