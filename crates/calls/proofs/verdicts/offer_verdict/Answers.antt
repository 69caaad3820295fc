use borrow.Author.Rules.{rules}
use Rattle.std.proofs.lemmas.Result.{err_from_is_err_and}
use Rattle.state.specs.View.{tables, view}
use mathlib.Core.Path.{sym}
use Rattle.tables.specs.Options.{option_in}
use Rattle.connections.proofs.WrittenLaws.{members_rows}
use Rattle.state.proofs.SoundLaws as S
use Rattle.calls.proofs.VerdictLaws as W
use Rattle.calls.proofs.verdicts.offer_verdict.Goals as goal

pub figures_of-x-requires : goal.figures_of-x-requires
figures_of-x-requires c =
    let t = tables c.args.members.now c.args.places.now c.args.notices.now in
    S.members_size c.args.h t c.requires

pub stands-requires : goal.stands-requires
stands-requires c =
    let t = tables c.args.members.now c.args.places.now c.args.notices.now in
    S.members_size c.args.h t c.requires

pub returns-in_err-early_offer : goal.returns-in_err-early_offer
returns-in_err-early_offer c tag =
    let t = tables c.args.members.now c.args.places.now c.args.notices.now in
    let st = option_in c.args.stamp in
    let x = c.figures_of-x in
    let s = c.suits-suits in
    let b = c.stands in
    let n = c.unset in
    let heard = W.hears (view c.args.h t) c.args.c st x.result b.result s.result x.ensures b.ensures s.ensures in
    let p = err_from_is_err_and c.from_residual.result c.from_residual.ensures.1 in
    rw (p.1, p.2) (W.offer_early c.args.h t c.requires c.args.c c.args.len tag st _ n.ensures _ heard x.result x.ensures _ c.in_err-early_offer.ensures)

pub too_far-requires : goal.too_far-requires
too_far-requires c =
    let t = tables c.args.members.now c.args.places.now c.args.notices.now in
    let st = option_in c.args.stamp in
    let x = c.figures_of-x in
    let s = c.suits-suits in
    let b = c.stands in
    let n = c.unset in
    let heard = W.hears (view c.args.h t) c.args.c st x.result b.result s.result x.ensures b.ensures s.ensures in
    let none = sym c.in_ok-early_offer.ensures in
    let d = W.offer_distance c.args.h t c.requires c.args.c c.args.len 0 st _ n.ensures _ heard x.result x.ensures none in
    (members_rows c.args.members.now (S.shapes t (S.formed_tables c.args.h t c.requires)).members_shape, W.offer_number c.args.h t c.requires c.args.c c.args.len 0 st _ n.ensures _ heard x.result x.ensures none, d.0, d.1)

pub untimely-requires : goal.untimely-requires
untimely-requires c =
    let t = tables c.args.members.now c.args.places.now c.args.notices.now in
    let st = option_in c.args.stamp in
    let x = c.figures_of-x in
    let s = c.suits-suits in
    let b = c.stands in
    let n = c.unset in
    let heard = W.hears (view c.args.h t) c.args.c st x.result b.result s.result x.ensures b.ensures s.ensures in
    let none = sym c.in_ok-early_offer.ensures in
    (members_rows c.args.members.now (S.shapes t (S.formed_tables c.args.h t c.requires)).members_shape, W.offer_number c.args.h t c.requires c.args.c c.args.len 0 st _ n.ensures _ heard x.result x.ensures none)

pub full-requires : goal.full-requires
full-requires c =
    let t = tables c.args.members.now c.args.places.now c.args.notices.now in
    let st = option_in c.args.stamp in
    let x = c.figures_of-x in
    let s = c.suits-suits in
    let b = c.stands in
    let n = c.unset in
    let heard = W.hears (view c.args.h t) c.args.c st x.result b.result s.result x.ensures b.ensures s.ensures in
    let none = sym c.in_ok-early_offer.ensures in
    let f = W.offer_figures c.args.h t c.requires c.args.c c.args.len 0 st _ n.ensures _ heard x.result x.ensures none in
    (f.0, f.1, f.2, S.places_kept c.args.h t c.requires, S.places_size c.args.h t c.requires)

pub returns-then-full : goal.returns-then-full
returns-then-full c tag =
    let t = tables c.args.members.now c.args.places.now c.args.notices.now in
    let st = option_in c.args.stamp in
    let x = c.figures_of-x in
    let heard = W.hears (view c.args.h t) c.args.c st x.result c.stands.result c.suits-suits.result x.ensures c.stands.ensures c.suits-suits.ensures in
    W.offer_late c.args.h t c.requires c.args.c c.args.len tag st _ c.unset.ensures _ heard x.result x.ensures (sym c.in_ok-early_offer.ensures) _ (search rules)

pub returns-then-ended : goal.returns-then-ended
returns-then-ended c tag =
    let t = tables c.args.members.now c.args.places.now c.args.notices.now in
    let st = option_in c.args.stamp in
    let x = c.figures_of-x in
    let heard = W.hears (view c.args.h t) c.args.c st x.result c.stands.result c.suits-suits.result x.ensures c.stands.ensures c.suits-suits.ensures in
    W.offer_late c.args.h t c.requires c.args.c c.args.len tag st _ c.unset.ensures _ heard x.result x.ensures (sym c.in_ok-early_offer.ensures) _ (search rules)

pub returns-then-untimely : goal.returns-then-untimely
returns-then-untimely c tag =
    let t = tables c.args.members.now c.args.places.now c.args.notices.now in
    let st = option_in c.args.stamp in
    let x = c.figures_of-x in
    let heard = W.hears (view c.args.h t) c.args.c st x.result c.stands.result c.suits-suits.result x.ensures c.stands.ensures c.suits-suits.ensures in
    W.offer_late c.args.h t c.requires c.args.c c.args.len tag st _ c.unset.ensures _ heard x.result x.ensures (sym c.in_ok-early_offer.ensures) _ (search rules)

pub returns-then-too_far : goal.returns-then-too_far
returns-then-too_far c tag =
    let t = tables c.args.members.now c.args.places.now c.args.notices.now in
    let st = option_in c.args.stamp in
    let x = c.figures_of-x in
    let heard = W.hears (view c.args.h t) c.args.c st x.result c.stands.result c.suits-suits.result x.ensures c.stands.ensures c.suits-suits.ensures in
    W.offer_late c.args.h t c.requires c.args.c c.args.len tag st _ c.unset.ensures _ heard x.result x.ensures (sym c.in_ok-early_offer.ensures) _ (search rules)

pub returns : goal.returns
returns c tag =
    let t = tables c.args.members.now c.args.places.now c.args.notices.now in
    let st = option_in c.args.stamp in
    let x = c.figures_of-x in
    let heard = W.hears (view c.args.h t) c.args.c st x.result c.stands.result c.suits-suits.result x.ensures c.stands.ensures c.suits-suits.ensures in
    W.offer_late c.args.h t c.requires c.args.c c.args.len tag st _ c.unset.ensures _ heard x.result x.ensures (sym c.in_ok-early_offer.ensures) _ (search rules)
