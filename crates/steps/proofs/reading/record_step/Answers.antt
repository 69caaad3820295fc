use mathlib.Core.Path.{refl, sym, ap, ◌∙◌}
use mathlib.Core.List.{[]}
use Rattle.either_line.specs.Line.{link_levels, link_frames, admit_level, admit_share, offer, notice, close}
use Rattle.both.specs.View.{view}
use Rattle.steps.specs.declared.Status.TheVariants.{GoOn}
use Rattle.steps.specs.Tie.{lent, link_answer, admission_answer, close_answer, offer_answer, notice_answer}
use Rattle.steps.specs.Wants.{asks_as}
use Rattle.steps.proofs.CallLaws.{did_asked, link_logged, admission_logged, close_logged, offer_logged, notice_logged, units_fit, did_kept, as_asked}
use Rattle.steps.proofs.reading.record_step.Goals as goal

pub answered-requires : goal.answered-requires
answered-requires c = c.requires.1

pub admitted-requires : goal.admitted-requires
admitted-requires c =
    let a = c.args in
    let k = c.admit_level-told in
    units_fit (admit_level _) a.h (lent a.t.now) _ k.result c.requires.0 k.ensures

pub admitted-requires-in-ToShare : goal.admitted-requires-in-ToShare
admitted-requires-in-ToShare c =
    let a = c.args in
    let k = c.admit_share-told in
    units_fit (admit_share _) a.h (lent a.t.now) _ k.result c.requires.0 k.ensures

pub answered-requires-in-ToOffer : goal.answered-requires-in-ToOffer
answered-requires-in-ToOffer c = c.requires.1

pub returns-in-ToLink : goal.returns-in-ToLink
returns-in-ToLink c =
    let a = c.args in
    let q = c.asked_by in
    let k = c.link_levels-told in
    let m = c.linked in
    let w = c.answered.ensures in
    record { makes = did_asked a.what (link_levels _) (sym q.ensures ∙ ap asks_as c.in-ToLink.is) a.h (lent a.t.now) _ _ _ k.result c.requires.0 k.ensures a.at a.used link_answer m.result _ link_logged m.ensures w.0 w.1; same_slices = (refl, refl, refl, refl, refl, refl) }

pub returns-in-ToFrame : goal.returns-in-ToFrame
returns-in-ToFrame c =
    let a = c.args in
    let q = c.asked_by in
    let k = c.link_frames-told in
    let m = c.linked-in-ToFrame in
    let w = c.answered-in-ToFrame.ensures in
    record { makes = did_asked a.what (link_frames _) (sym q.ensures ∙ ap asks_as c.in-ToFrame.is) a.h (lent a.t.now) _ _ _ k.result c.requires.0 k.ensures a.at a.used link_answer m.result _ link_logged m.ensures w.0 w.1; same_slices = (refl, refl, refl, refl, refl, refl) }

pub returns-in-ToAdmit : goal.returns-in-ToAdmit
returns-in-ToAdmit c =
    let a = c.args in
    let q = c.asked_by in
    let k = c.admit_level-told in
    let m = c.admitted in
    let w = c.answered-in-ToAdmit.ensures in
    record { makes = did_asked a.what (admit_level _) (sym q.ensures ∙ ap asks_as c.in-ToAdmit.is) a.h (lent a.t.now) _ _ _ k.result c.requires.0 k.ensures a.at a.used admission_answer m.result _ admission_logged m.ensures w.0 w.1; same_slices = (refl, refl, refl, k.auto.members, refl, refl) }

pub returns-in-ToShare : goal.returns-in-ToShare
returns-in-ToShare c =
    let a = c.args in
    let q = c.asked_by in
    let k = c.admit_share-told in
    let m = c.admitted-in-ToShare in
    let w = c.answered-in-ToShare.ensures in
    record { makes = did_asked a.what (admit_share _) (sym q.ensures ∙ ap asks_as c.in-ToShare.is) a.h (lent a.t.now) _ _ _ k.result c.requires.0 k.ensures a.at a.used admission_answer m.result _ admission_logged m.ensures w.0 w.1; same_slices = (refl, refl, refl, k.auto.members, refl, refl) }

pub returns-in-ToClose : goal.returns-in-ToClose
returns-in-ToClose c =
    let a = c.args in
    let q = c.asked_by in
    let k = c.close-told in
    let m = c.closed in
    let w = c.answered-in-ToClose.ensures in
    record { makes = did_asked a.what (close _) (sym q.ensures ∙ ap asks_as c.in-ToClose.is) a.h (lent a.t.now) _ _ _ k.result c.requires.0 k.ensures a.at a.used close_answer m.result _ close_logged m.ensures w.0 w.1; same_slices = (refl, refl, refl, k.auto.members, refl, refl) }

pub returns-in-ToOffer : goal.returns-in-ToOffer
returns-in-ToOffer c =
    let a = c.args in
    let q = c.asked_by in
    let k = c.offer-told in
    let m = c.offered in
    let w = c.answered-in-ToOffer.ensures in
    record { makes = did_asked a.what (offer _ _ _ _) (sym q.ensures ∙ ap asks_as c.in-ToOffer.is) a.h (lent a.t.now) _ _ _ k.result c.requires.0 k.ensures a.at a.used offer_answer m.result _ offer_logged m.ensures w.0 w.1; same_slices = (refl, refl, refl, k.auto.members, k.auto.places, refl) }

pub returns-in-ToNotice : goal.returns-in-ToNotice
returns-in-ToNotice c =
    let a = c.args in
    let q = c.asked_by in
    let k = c.notice-told in
    let m = c.noticed in
    let w = c.answered-in-ToNotice.ensures in
    record { makes = did_asked a.what (notice _ _) (sym q.ensures ∙ ap asks_as c.in-ToNotice.is) a.h (lent a.t.now) _ _ _ k.result c.requires.0 k.ensures a.at a.used notice_answer m.result _ notice_logged m.ensures w.0 w.1; same_slices = (refl, refl, refl, refl, refl, k.auto.notices) }

pub returns-in-ToTick : goal.returns-in-ToTick
returns-in-ToTick c =
    let a = c.args in
    let q = c.asked_by in
    let k = c.begin_ticks in
    record { makes = as_asked q.result a.what a.used a.at (view a.h (lent a.t.now)) _ _ _ _ q.ensures (rw c.in-ToTick.is (did_kept a.h (lent a.t.now) c.requires.0 _ _ _ [] GoOn _ _ _ k.ensures refl)); same_slices = (refl, refl, refl, refl, refl, refl) }
