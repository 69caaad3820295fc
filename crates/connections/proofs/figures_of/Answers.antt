use Rattle.connections.proofs.MemberLaws as M
use native.Mathlib.Omega.{arith}
use mathlib.Core.Path.{◌≡◌, sym, ◌∙◌}
use Rattle.rules.specs.Model.{no_connection}
use borrow.Author.Rules.{rules}
use Rattle.connections.proofs.figures_of.Goals as goal

pub returns-then-k-lt-MAX_CONNECTIONS : goal.returns-then-k-lt-MAX_CONNECTIONS
returns-then-k-lt-MAX_CONNECTIONS c = let a = c.args in c.figures_at.ensures ∙ sym (M.connection_is a.members.now a.c (search rules))

pub returns : goal.returns
returns c = let a = c.args in let e : c.default.result ≡ no_connection = search rules in e ∙ sym (M.connection_none a.members.now a.c (omega arith))
