-- A tick's needs can be met: a sound `Frames` with its tables, with a link, is ready for it.
use mathlib.Core.Path.{◌≡◌}
use mathlib.Core.Bool.{true, false}
use Rattle.line.proofs.LineLaws.{in_place_of}
use Rattle.framed_state.specs.View.{Frames, Tables, sound_frames}
use Rattle.framed_state.proofs.SoundLaws as S
use Rattle.framed_service.specs.Ready.{Ready}

pub ready : (h : Frames) (t : Tables) → sound_frames h t ≡ true → (h.link.frame ≡ 0 → ⊥) → Ready h.wire t.places t.notices
ready h t ok n =
    let f = S.shapes t (S.formed_tables h t ok) in
    let s = S.linked h t ok n in
    let o = S.others h t ok n in
    record {
      others = o;
      in_order = s.in_order;
      in_place = in_place_of (λ _. false) h.clock h.wire t.places t.notices o f.places_shape f.notices_shape s.line.line;
    }
