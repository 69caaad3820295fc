use borrow.Author.Rules.{rules}
use mathlib.Core.Path.{sym, ◌∙◌}
use Rattle.limits.proofs.LimitLaws as L
use Rattle.limits.proofs.ChainLaws as C
use Rattle.rules.specs.Limits.{max_levels, max_largest}
use Rattle.rules.proofs.Tests.{within_intro}
use borrow.Author.Rules.{rules}
use Rattle.limits.proofs.link_ok.Goals as goal

pub returns-then-l-lt1 : goal.returns-then-l-lt1
returns-then-l-lt1 c = let a = c.args in L.levels_out a.l (C.too_low 1 max_levels a.l.levels (search rules))

pub returns-then-l-gt-MAX_LEVELS : goal.returns-then-l-gt-MAX_LEVELS
returns-then-l-gt-MAX_LEVELS c = let a = c.args in L.levels_out a.l (C.too_high 1 max_levels a.l.levels (search rules) (search rules))

pub returns-then-l-lt1-2 : goal.returns-then-l-lt1-2
returns-then-l-lt1-2 c = let a = c.args in L.largest_out a.l (within_intro 1 max_levels a.l.levels (search rules) (search rules)) (C.too_low 1 max_largest a.l.largest (search rules))

pub returns-then-l-gt-MAX_LARGEST : goal.returns-then-l-gt-MAX_LARGEST
returns-then-l-gt-MAX_LARGEST c = let a = c.args in L.largest_out a.l (within_intro 1 max_levels a.l.levels (search rules) (search rules)) (C.too_high 1 max_largest a.l.largest (search rules) (search rules))

pub returns-then-l-gt-MAX_SILENCE : goal.returns-then-l-gt-MAX_SILENCE
returns-then-l-gt-MAX_SILENCE c = let a = c.args in L.silence_out a.l (within_intro 1 max_levels a.l.levels (search rules) (search rules)) (within_intro 1 max_largest a.l.largest (search rules) (search rules)) (search rules)

pub returns-then-l-gt-STAND_BY_ON : goal.returns-then-l-gt-STAND_BY_ON
returns-then-l-gt-STAND_BY_ON c = let a = c.args in L.early_out a.l (within_intro 1 max_levels a.l.levels (search rules) (search rules)) (within_intro 1 max_largest a.l.largest (search rules) (search rules)) (search rules) (search rules)

pub returns-then-not-bounds_ok : goal.returns-then-not-bounds_ok
returns-then-not-bounds_ok c =
    let a = c.args in
    L.bounds_out a.l (within_intro 1 max_levels a.l.levels (search rules) (search rules)) (within_intro 1 max_largest a.l.largest (search rules) (search rules)) (search rules) (search rules) (sym c.bounds_ok.ensures ∙ c.if-not-bounds_ok.true)

pub returns : goal.returns
returns c =
    let a = c.args in
    L.windows_rest a.l (within_intro 1 max_levels a.l.levels (search rules) (search rules)) (within_intro 1 max_largest a.l.largest (search rules) (search rules)) (search rules) (search rules) (sym c.bounds_ok.ensures ∙ c.if-not-bounds_ok.false) c.own_or_none.result c.own_or_none.ensures
