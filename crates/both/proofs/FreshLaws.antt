-- A hub of which everything is zero is the fresh one, and so are the frames.
use Prim.Native.Nat.{ℕ}
use mathlib.Core.Path.{◌≡◌, ap, ◌∙◌}
use mathlib.Core.Bool.{true, ◌&&◌}
use mathlib.Core.List.{List}
use lib.Dec.{eqb}
use lib.ListN.{length, replicate}
use borrow.Author.Tests.{eqb-true}
use Rattle.rules.specs.Limits.{max_levels}
use Rattle.rules.specs.Words.{each}
use Rattle.rules.specs.Model.{fresh as level_fresh}
use Rattle.rules.specs.SoundTest.{all_zero}
use Rattle.rules.proofs.Tests.{and_true}
use Rattle.frames.specs.Model.{fresh as FrameFresh}
use Rattle.limits.proofs.ZeroLaws.{zeros_are, zeros_left}
use Rattle.state.specs.View.{Hub}
use Rattle.state.specs.View.{hub_of}
use Rattle.framed_state.specs.View.{Frames}
use Rattle.framed_state.specs.View.{frames_of}
use Rattle.both.specs.View.{unused_hub, unused_frames}

listed_zeros : (n : ℕ) (l : List ℕ) → (eqb (length l) n && each (λ x. eqb x 0) l) ≡ true → l ≡ replicate n 0
listed_zeros n l h = let a = and_true (eqb (length l) n) _ h in zeros_are l a.1 ∙ zeros_left (length l) n (eqb-true _ _ a.0)

zero_hub : (n s q y : ℕ) (ds ws : List ℕ) (t w u r : ℕ) → n ≡ 0 → s ≡ 0 → q ≡ 0 → y ≡ 0 → ds ≡ replicate max_levels 0 → ws ≡ replicate max_levels 0 → t ≡ 0 → w ≡ 0 → u ≡ 0 → r ≡ 0
    → ◌≡◌ {A = Hub} (record { link = record { levels = n; largest = s; silence = q; early = y; bounds = ds; windows = ws }; clock = t; wire = record { serving = w; to_go = u; silent = r } }) (hub_of level_fresh)
zero_hub n s q y ds ws t w u r a b c d e f g h i j = rw (a, b, c, d, e, f, g, h, i, j)

pub fresh_hub : (h : Hub) → unused_hub h ≡ true → h ≡ hub_of level_fresh
unfolding unused_hub
fresh_hub h e =
    let a = and_true (eqb h.link.levels 0) _ e in
    let b = and_true (all_zero h.link) _ a.1 in
    let c = and_true (eqb h.clock 0) _ b.1 in
    let d = and_true (eqb h.wire.serving 0) _ c.1 in
    let f = and_true (eqb h.wire.to_go 0) (eqb h.wire.silent 0) d.1 in
    let l = and_true (eqb h.link.largest 0) _ b.0 in
    let q = and_true (eqb h.link.silence 0) _ l.1 in
    let y = and_true (eqb h.link.early 0) _ q.1 in
    let v = and_true (eqb (length h.link.bounds) max_levels && each (λ x. eqb x 0) h.link.bounds) _ y.1 in
    zero_hub h.link.levels h.link.largest h.link.silence h.link.early h.link.bounds h.link.windows h.clock h.wire.serving h.wire.to_go h.wire.silent
    (eqb-true _ 0 a.0) (eqb-true _ 0 l.0) (eqb-true _ 0 q.0) (eqb-true _ 0 y.0) (listed_zeros max_levels h.link.bounds v.0) (listed_zeros max_levels h.link.windows v.1)
    (eqb-true _ 0 c.0) (eqb-true _ 0 d.0) (eqb-true _ 0 f.0) (eqb-true _ 0 f.1)

pub hub_unused : (h : Hub) → h ≡ hub_of level_fresh → unused_hub h ≡ true
unfolding unused_hub
hub_unused h e = ap unused_hub e

zero_frames : (n s q t w u r : ℕ) → n ≡ 0 → s ≡ 0 → q ≡ 0 → t ≡ 0 → w ≡ 0 → u ≡ 0 → r ≡ 0
    → ◌≡◌ {A = Frames} (record { link = record { frame = n; largest = s; silence = q }; clock = t; wire = record { serving = w; to_go = u; silent = r } }) (frames_of FrameFresh)
zero_frames n s q t w u r a b c d e f g = rw (a, b, c, d, e, f, g)

pub fresh_frames : (h : Frames) → unused_frames h ≡ true → h ≡ frames_of FrameFresh
unfolding unused_frames
fresh_frames h e =
    let a = and_true (eqb h.link.frame 0) _ e in
    let b = and_true (eqb h.link.largest 0) _ a.1 in
    let c = and_true (eqb h.link.silence 0) _ b.1 in
    let d = and_true (eqb h.clock 0) _ c.1 in
    let f = and_true (eqb h.wire.serving 0) _ d.1 in
    let g = and_true (eqb h.wire.to_go 0) (eqb h.wire.silent 0) f.1 in
    zero_frames h.link.frame h.link.largest h.link.silence h.clock h.wire.serving h.wire.to_go h.wire.silent
    (eqb-true _ 0 a.0) (eqb-true _ 0 b.0) (eqb-true _ 0 c.0) (eqb-true _ 0 d.0) (eqb-true _ 0 f.0) (eqb-true _ 0 g.0) (eqb-true _ 0 g.1)

pub frames_unused : (h : Frames) → h ≡ frames_of FrameFresh → unused_frames h ≡ true
unfolding unused_frames
frames_unused h e = ap unused_frames e
