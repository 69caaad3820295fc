use borrow.Author.Rules.{rules}
use Rattle.checker.proofs.FetchLaws.{fetched_still}
use Rattle.checker.proofs.fetch.Goals as goal

pub returns-then-from-to-clause-fetched : goal.returns-then-from-to-clause-fetched
returns-then-from-to-clause-fetched g c = fetched_still c.args.log.now c.args.from c.args.to (search rules) c.requires.inside
