-- `line::send` meets its contract: nothing in service, a last unit of a notice or of a packet, any other unit.
use Prim.Native.Nat.{ℕ}
use mathlib.Core.Path.{ap, ◌∙◌}
use mathlib.Core.List.{[]}
use borrow.Author.Rules.{rules}
use Rattle.rules.specs.Service.{free_line}
use Rattle.line.specs.Wires.{wire_of}
use Rattle.line.proofs.LineLaws as L
use Rattle.line.proofs.send.Goals as goal

pub returns-then-w-eq0 : goal.returns-then-w-eq0
returns-then-w-eq0 c =
    let a = c.args in
    let k = L.still a.silence a.w a.places.now a.notices.now c.requires.table c.requires.notices (search rules) in
    let f = c.free.ensures ∙ ap (λ (d : ℕ). wire_of (free_line [] [] d)) c.saturating_sub.ensures in
    (c.none_gone.ensures ∙ ap L.none_gone f ∙ k.0, k.1, k.2)

pub returns-then-w-eq-NOTICE_NUMBER : goal.returns-then-w-eq-NOTICE_NUMBER
returns-then-w-eq-NOTICE_NUMBER c =
    let a = c.args in
    L.last_unit a.silence a.w a.places.now a.notices.now c.requires.table c.requires.notices _ _ _ (search rules) c.depart_notice.ensures

pub returns-then-w-eq1 : goal.returns-then-w-eq1
returns-then-w-eq1 c =
    let a = c.args in
    L.last_unit a.silence a.w a.places.now a.notices.now c.requires.table c.requires.notices _ _ _ (search rules) c.depart.ensures

pub returns : goal.returns
returns c =
    let a = c.args in
    let k = L.goes_on a.silence a.w a.places.now a.notices.now c.requires.table c.requires.notices (search rules) (search rules) in
    (c.none_gone-2.ensures ∙ k.0, k.1, k.2)
