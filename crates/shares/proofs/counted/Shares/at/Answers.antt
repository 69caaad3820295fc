use Rattle.std.proofs.Common.{sym, ◌∙◌}
use Rattle.shares.proofs.ShareLaws.{share_is}
use Rattle.shares.proofs.counted.Shares.at.Goals as goal

pub returns : goal.returns
returns c = c.share_at.ensures ∙ sym (share_is c.args.self.now.table.now c.args.c c.requires)
