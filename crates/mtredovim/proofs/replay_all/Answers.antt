use mathlib.Core.Path.{refl, sym, ◌∙◌}
use Rattle.steps.proofs.LentLaws.{same_onward}
use Rattle.turns.proofs.RunLaws.{is_none, not_none, made_none, made_more}
use borrow.Author.Rules.{rules}
use Rattle.mtredovim.proofs.replay_all.Goals as goal

pub loop-r-init : goal.loop-r-init
loop-r-init g c =
    let s = c.requires in
    rw c.first-v.ensures
    ((refl, refl, refl, refl, refl, refl), search rules, search rules, search rules, search rules, record { order = search rules; inside = search rules; place = search rules }, made_none _ s.notices_value)

pub advance-r-requires : goal.advance-r-requires
advance-r-requires g c =
    let a = c.args in
    let l = c.loop-r in
    rw l.invariant.1 l.invariant.5

pub returns-then-is_some : goal.returns-then-is_some
returns-then-is_some g c =
    let a = c.args in
    let l = c.loop-r in
    let d = c.advance-r in
    let M = made_more l.v _ _ l.invariant.6 l.invariant.4 _ l.invariant.3 d.result _ _ _ d.ensures.turned in
    record {
      ran = record { given = M.given; wrote = M.wrote; window = _; turns = M.turns; over = not_none d.result.end (sym c.is_some.ensures ∙ c.if-is_some.true) };
      same_slices = same_onward c.args.t.now l.t d.new.t d.ensures.same_slices l.invariant.0;
    }

pub loop-r-smaller : goal.loop-r-smaller
loop-r-smaller g c =
    let a = c.args in
    let l = c.loop-r in
    let d = c.advance-r in
    let o = is_none d.result.end (sym c.is_some.ensures ∙ c.if-is_some.false) in
    let B = rw l.invariant.1 at (d.ensures.better o) in
    B.less

pub loop-r-preserved : goal.loop-r-preserved
loop-r-preserved g c =
    let a = c.args in
    let l = c.loop-r in
    let d = c.advance-r in
    let o = is_none d.result.end (sym c.is_some.ensures ∙ c.if-is_some.false) in
    let B = rw l.invariant.1 at (d.ensures.better o) in
    (same_onward c.args.t.now l.t d.new.t d.ensures.same_slices l.invariant.0, search rules, search rules, search rules, o, B.right, made_more l.v _ _ l.invariant.6 l.invariant.4 _ l.invariant.3 d.result _ _ _ d.ensures.turned)
