use Rattle.firmware.proofs.AskedLaws.{of_no_link}
use Rattle.fields.specs.Formats.{starts}
use mathlib.Core.Path.{◌≡◌, ◌∙◌}
use lib.ListN.{length}
use borrow.Author.Rules.{rules}
use Rattle.firmware.proofs.link_of.Goals as goal

pub returns-in-Link : goal.returns-in-Link
unfolding starts
returns-in-Link c =
    let e : length c.in-Link.bounds ≡ 8 = search rules in
    rw (c.in-Link.is, e, c.link_named.ensures)

pub returns-in-LinkWindows : goal.returns-in-LinkWindows
unfolding starts
returns-in-LinkWindows c =
    let e : length c.in-LinkWindows.bounds ≡ 8 = search rules in
    let f : length c.in-LinkWindows.windows ≡ 8 = search rules in
    rw (c.in-LinkWindows.is, e, f, c.windows_named.ensures)

pub returns-in_default : goal.returns-in_default
returns-in_default c = c.no_link.ensures ∙ of_no_link c.args.what c.in_default.not-Link c.in_default.not-LinkWindows
