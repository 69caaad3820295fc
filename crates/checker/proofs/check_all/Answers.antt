use borrow.Author.Rules.{rules}
use Rattle.steps.proofs.LentLaws.{same_onward}
use Rattle.checker.proofs.MoveLaws.{first_fit, made_none, made_more, made_judges}
use Rattle.turns.proofs.RunLaws.{is_none, not_none}
use mathlib.Core.Path.{refl, sym, ◌∙◌}
use Rattle.checker.proofs.check_all.Goals as goal

pub loop-r-init : goal.loop-r-init
loop-r-init g c =
    let s = c.requires in
    rw c.first-c.ensures
    ((refl, refl, refl, refl, refl, refl), search rules, search rules, search rules, search rules, first_fit _ _ _ s.longest_record_in_bounds.1 s.longest_answer_in_bounds.0 s.longest_answer_in_bounds.1 s.log_nonzero, made_none _ s.notices_value)

pub advance-r-requires : goal.advance-r-requires
advance-r-requires g c =
    let l = c.loop-r in
    rw (l.invariant.1, l.invariant.2, l.invariant.3) l.invariant.5

pub returns-then-is_some : goal.returns-then-is_some
returns-then-is_some g c =
    let l = c.loop-r in
    let d = c.advance-r in
    record { judges = made_judges d.result _ _ _ _ (made_more l.c _ _ _ _ l.invariant.6 l.invariant.4 d.result _ _ _ _ d.ensures.advances) (not_none d.result.finding (sym c.is_some.ensures ∙ c.if-is_some.true)); same_slices = same_onward c.args.t.now l.t d.new.t d.ensures.same_slices l.invariant.0 }

pub loop-r-smaller : goal.loop-r-smaller
loop-r-smaller g c =
    let l = c.loop-r in
    let d = c.advance-r in
    let o = is_none d.result.finding (sym c.is_some.ensures ∙ c.if-is_some.false) in
    let B = rw (l.invariant.1, l.invariant.2, l.invariant.3) at (d.ensures.nearer o) in
    B.less

pub loop-r-preserved : goal.loop-r-preserved
loop-r-preserved g c =
    let l = c.loop-r in
    let d = c.advance-r in
    let o = is_none d.result.finding (sym c.is_some.ensures ∙ c.if-is_some.false) in
    let B = rw (l.invariant.1, l.invariant.2, l.invariant.3) at (d.ensures.nearer o) in
    (same_onward c.args.t.now l.t d.new.t d.ensures.same_slices l.invariant.0, search rules, search rules, search rules, o, B.fit, made_more l.c _ _ _ _ l.invariant.6 l.invariant.4 d.result _ _ _ _ d.ensures.advances)
