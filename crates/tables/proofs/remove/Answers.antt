use lib.ListN.{length}
use mathlib.Core.List.{List}
use Rattle.rules.specs.declared.Packet.{Packet}
use Rattle.tables.specs.Places.{no_packet}
use Rattle.tables.proofs.PlacesLaws as L
use Rattle.tables.specs.Places.{shifted, put}
use Prim.Native.Nat.{ℕ, ◌-◌, ◌*◌}
use mathlib.Core.Path.{◌≡◌, ap, ◌∙◌}
use borrow.Author.Rules.{rules}
use Rattle.tables.proofs.remove.Goals as goal

pub returns : goal.returns
returns c =
    let a = c.args in
    let flat : c.put_row.new.table ≡ put (shifted a.table.now (5 * a.i) (5 * (a.held - a.i - 1))) (a.held - 1) no_packet =
    c.put_row.ensures
    ∙ ap (λ (u : List ℕ). put u (a.held - 1) c.no_packet.result) c.shift.ensures
    ∙ ap (λ (p : Packet). put (shifted a.table.now (5 * a.i) (5 * (a.held - a.i - 1))) (a.held - 1) p) c.no_packet.ensures in
    flat ∙ L.cut_table (length a.table.now) a.table.now a.held a.i (search rules) (search rules) (search rules) (search rules)
