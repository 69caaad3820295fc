use Rattle.connections.proofs.WindowLaws as W
use mathlib.Core.Path.{◌≡◌, ◌∙◌}
use Prim.Native.Nat.{max}
use Rattle.std.specs.List.{fold}
use Rattle.std.proofs.Common.{rules}
use Rattle.connections.proofs.windows.largest_of.Goals as goal

pub returns : goal.returns
returns c = let t = c.args.t.now in let e : c.fold.result ≡ fold max 0 t = search rules in e ∙ W.largest_is t
