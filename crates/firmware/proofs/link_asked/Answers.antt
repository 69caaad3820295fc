use Rattle.firmware.proofs.AskedLaws as A
use Rattle.std.specs.Prelude.{None}
use mathlib.Core.Path.{◌≡◌, sym, ◌∙◌}
use borrow.Author.Rules.{rules}
use Rattle.firmware.proofs.link_asked.Goals as goal
use Rattle.firmware.proofs.link_asked.Goals.{in_default-via-in-Some+else-taken-lk, in_default-via-in_default}

pub returns-in-Some : goal.returns-in-Some
returns-in-Some c = c.link_of.ensures ∙ A.link_is c.args.lk.now (sym c.read.ensures ∙ c.in-Some.is) (search rules)

pub returns-in_default : goal.returns-in_default
returns-in_default c =
    c.no_link.ensures
    ∙ elim c.in_default.branch [
      | in_default-via-in-Some+else-taken-lk w ↦ A.not_whole c.args.lk.now (sym c.read.ensures ∙ w.in-Some.is) (search rules)
      | in_default-via-in_default w ↦ let n : c.read.result ≡ None = search rules in A.no_record c.args.lk.now (sym c.read.ensures ∙ n)
    ]
