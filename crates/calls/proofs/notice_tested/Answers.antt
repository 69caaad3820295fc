-- `calls::notice_tested` meets its contract: what the table of notices and the link decide is told.
use mathlib.Core.Path.{◌∙◌, ap}
use mathlib.Core.Bool.{Bool}
use Rattle.rules.specs.Model.{notice}
use Rattle.tables.specs.Notices.{notices_in}
use Rattle.causes.specs.Notices.{notice_verdict}
use Rattle.state.specs.View.{tables, view}
use Rattle.state.proofs.SoundLaws as S
use Rattle.calls.proofs.ActLaws as A
use Rattle.calls.proofs.VerdictLaws as W
use Rattle.calls.proofs.notice_tested.Goals as goal

pub take_notice-requires : goal.take_notice-requires
take_notice-requires c =
    let t = tables c.args.members.now c.args.places.now c.args.notices.now in
    (S.shapes t (S.formed_tables c.args.h t c.requires)).notices_shape

pub returns-in-Ok : goal.returns-in-Ok
returns-in-Ok c =
    let a = c.args in
    let t = tables a.members.now a.places.now a.notices.now in
    let v = ap (λ (b : Bool). notice_verdict b a.h.link.largest a.h.clock (notices_in a.notices.now) a.len) c.unset-unset.ensures in
    A.notice_done a.h t c.requires a.len a.tag _ (v ∙ W.by_causes (notice a.len a.tag) (view a.h t) (S.sound_view a.h t c.requires))
    c.in-Ok.eligibility _ _ c.in-Ok.ensures c.say.ensures

pub returns-in-Err : goal.returns-in-Err
returns-in-Err c =
    let a = c.args in
    let t = tables a.members.now a.places.now a.notices.now in
    let v = ap (λ (b : Bool). notice_verdict b a.h.link.largest a.h.clock (notices_in a.notices.now) a.len) c.unset-unset.ensures in
    A.notice_refused a.h t c.requires a.len a.tag c.in-Err.why _ _ _
    (c.in-Err.ensures.0 ∙ v ∙ W.by_causes (notice a.len a.tag) (view a.h t) (S.sound_view a.h t c.requires)) _ c.in-Err.ensures c.number.ensures c.say-in-Err.ensures
