use Rattle.connections.proofs.WindowLaws as W
use Rattle.connections.proofs.windows.has_windows.Goals as goal

pub returns : goal.returns
returns c = W.windowed_is c.args.l
