use borrow.Author.Rules.{rules}
use Rattle.rules.specs.Model.{close}
use Rattle.state.specs.View.{tables}
use Rattle.state.proofs.SoundLaws as S
use Rattle.calls.proofs.VerdictLaws as W
use Rattle.calls.proofs.verdicts.close_verdict.Goals as goal

pub returns-then-unset : goal.returns-then-unset
returns-then-unset c = let t = tables c.args.members.now c.args.places.now c.args.notices.now in W.found c.args.h t c.requires (close c.args.c) (search rules)

pub stands-requires : goal.stands-requires
stands-requires c = let t = tables c.args.members.now c.args.places.now c.args.notices.now in S.members_size c.args.h t c.requires

pub returns-then-not-stands : goal.returns-then-not-stands
returns-then-not-stands c =
    let t = tables c.args.members.now c.args.places.now c.args.notices.now in
    let b = W.stands_as c.args.h t c.args.c c.stands.result c.stands.ensures in
    W.found c.args.h t c.requires (close c.args.c) (search rules)

pub held_by-requires : goal.held_by-requires
held_by-requires c = let t = tables c.args.members.now c.args.places.now c.args.notices.now in (S.places_kept c.args.h t c.requires, S.places_size c.args.h t c.requires)

pub returns-then-held_by-ge1 : goal.returns-then-held_by-ge1
returns-then-held_by-ge1 c =
    let t = tables c.args.members.now c.args.places.now c.args.notices.now in
    let b = W.stands_as c.args.h t c.args.c c.stands.result c.stands.ensures in
    W.found c.args.h t c.requires (close c.args.c) (search rules)

pub returns : goal.returns
returns c =
    let t = tables c.args.members.now c.args.places.now c.args.notices.now in
    let b = W.stands_as c.args.h t c.args.c c.stands.result c.stands.ensures in
    W.found c.args.h t c.requires (close c.args.c) (search rules)
