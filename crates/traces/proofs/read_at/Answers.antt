-- `traces::read_at` meets its contract: what is left from the place on; nothing past the end.
use mathlib.Core.Path.{ap, ◌∙◌}
use Rattle.fields.specs.Formats.{read_kinds, starts}
use Rattle.traces.specs.Trace.{read_trace}
use lib.Seq.{take_all}
use lib.ListN.{length, drop, length-drop, drop_of_length-le}
use Prim.Native.Nat.{◌-◌}
use native.Mathlib.Omega.{arith}
use Rattle.traces.proofs.read_at.Goals as goal

pub returns-then-buf-at : goal.returns-then-buf-at
unfolding read_kinds starts
returns-then-buf-at c = let a = c.args in rw (drop_of_length-le a.buf.now {i = a.at} (omega arith))

pub returns : goal.returns
returns c =
    let a = c.args in
    c.read.ensures ∙ ap read_trace (take_all (length a.buf.now - a.at) (drop a.at a.buf.now) (simp length-drop (omega arith)))
