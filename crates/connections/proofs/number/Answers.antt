use mathlib.Core.Path.{sym}
use Rattle.tables.proofs.TableLaws.{number_in}
use Rattle.connections.specs.Members.{member_width}
use borrow.Author.Rules.{rules}
use Rattle.connections.proofs.number.Goals as goal

pub returns : goal.returns
returns c = let a = c.args in sym (number_in member_width a.members.now a.i a.k (search rules))
