use Rattle.connections.proofs.ClosingLaws as L
use mathlib.Core.Path.{◌≡◌}
use Rattle.connections.specs.Members.{first_in}
use Rattle.connections.specs.Closing.{one_more}
use borrow.Author.Rules.{rules}
use Rattle.connections.proofs.closing.first_charged.Goals as goal

pub returns : goal.returns
returns c = let t = c.args.members.now in let e : one_more c.checked_sub.result ≡ first_in t = search rules in L.less_of c.checked_sub.result (first_in t) e
