use Rattle.steps.specs.Tie.{lent, SameSlices}
use mathlib.Core.Path.{◌≡◌}
use Prim.Native.Nat.{◌≤◌}
use lib.ListN.{length}
use Rattle.answers.specs.Answers.{longest_answer}
use Rattle.std.specs.Prelude.{None}
use Rattle.turns.specs.Turns.{window, turns_left, Right}
use Rattle.turns.proofs.RunLaws.{Made}
use Rattle.mtredovim.proofs.replay_all.Given as goal

abbrev pub invariant-loop-r : goal.invariant-loop-r
invariant-loop-r g l =
    SameSlices l.t l.initial.t
    × (length l.buf ≡ length l.initial.buf)
    × (length l.out ≡ length l.initial.out)
    × (longest_answer ≤ length l.out)
    × (l.v.end ≡ None)
    × Right (length l.initial.buf) l.v.cursor l.v.from l.v.to
    × Made l.v (lent l.t) (window l.buf l.v.from l.v.to)

abbrev pub decreases-loop-r : goal.decreases-loop-r
decreases-loop-r g l = turns_left (length l.initial.buf) l.v.cursor l.v.from l.v.to l.v.last
