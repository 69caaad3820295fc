-- What a verdict 0 says, call by call.
use Prim.Native.Nat.{ℕ, zero, suc, ◌+◌, ◌≤◌, ◌<◌}
use native.Mathlib.Omega.{arith}
use mathlib.Core.Path.{◌≡◌, refl}
use mathlib.Core.Bool.{true}
use mathlib.Core.List.{[], ◌∷◌, ◌++◌}
use lib.ListN.{length}
use borrow.Author.Tests.{eqb-true, eqb-false, leb-false, ltb-false, not-false}
use Rattle.rules.specs.Limits.{max_connections, max_reserved, clock_end, max_notices}
use Rattle.rules.specs.Service.{of}
use Rattle.rules.proofs.Tests.{passed, within_true}
use Rattle.frames.specs.Model.{Framing, Share, State, Call, link, admit, offer, notice, tick, Answer, figures}
use Rattle.frames.specs.Admission.{cost, framing_within, share_within, stands, frame_sum, all_places}
use Rattle.frames.specs.Service.{used}
use Rattle.frames.specs.Calls.{verdicts, verdict, done, settle}
use Rattle.frames.proofs.Figures.{cost_is}
use Rattle.frames.proofs.Names.{refused}

-- an answer is what is done at verdict 0, or a refusal
pub settled : (Q : Answer → Type 0) (k : Call) (s : State) (v : ℕ) → (v ≡ 0 → Q (done k s)) → ((w : ℕ) → Q (refused k s (suc w))) → Q (settle k s v)
settled Q k s zero f g = f refl
settled Q k s (suc w) f g = g w

pub record LinkDone (s : State) (l : Framing) : Type 0 where
  pub unset : s.link.frame ≡ 0
  pub link_in : framing_within l ≡ true

pub link_done : (s : State) (l : Framing) → verdict (link l) s ≡ 0 → LinkDone s l
unfolding verdicts
link_done s l e =
    let k = passed (verdicts (link l) s) (omega arith) e in
    record { unset = eqb-true _ _ (not-false _ k.1.0); link_in = not-false _ k.1.1.0 }

pub record AdmitDone (s : State) (x : Share) : Type 0 where
  pub set : s.link.frame ≡ 0 → ⊥
  pub share_in : share_within x ≡ true
  pub few : length s.connections < max_connections
  pub units_le : frame_sum s.link (s.connections ++ x ∷ []) ≤ s.link.frame
  pub places_le : all_places (s.connections ++ x ∷ []) ≤ max_reserved

pub admit_done : (s : State) (x : Share) → verdict (admit x) s ≡ 0 → AdmitDone s x
unfolding verdicts
admit_done s x e =
    let k = passed (verdicts (admit x) s) (omega arith) e in
    record {
      set = eqb-false _ _ k.1.0;
      share_in = not-false _ k.1.1.0;
      few = leb-false _ _ k.1.1.1.0;
      units_le = ltb-false _ _ k.1.1.1.1.0;
      places_le = ltb-false _ _ k.1.1.1.1.1.0;
    }

pub record OfferDone (s : State) (c len : ℕ) : Type 0 where
  pub set : s.link.frame ≡ 0 → ⊥
  pub standing : stands s.connections c ≡ true
  pub some_len : 1 ≤ len
  pub len_le : len ≤ s.link.largest
  pub room : length (of c s.held) < (figures s c).places
  pub running : s.clock < clock_end
  pub units_left : used s.link s.clock c s.held + (len + s.link.silence) ≤ (figures s c).units

pub offer_done : (s : State) (c len tag : ℕ) → verdict (offer c len tag) s ≡ 0 → OfferDone s c len
unfolding verdicts
offer_done s c len tag e =
    let k = passed (verdicts (offer c len tag) s) (omega arith) e in
    let w = within_true 1 s.link.largest len (not-false _ k.1.1.1.0) in
    record {
      set = eqb-false _ _ k.1.0;
      standing = not-false _ k.1.1.0;
      some_len = w.0;
      len_le = w.1;
      room = leb-false _ _ k.1.1.1.1.0;
      running = leb-false _ _ k.1.1.1.1.1.0;
      units_left = omega (arith, cost_is s.link len, ltb-false _ (used s.link s.clock c s.held + cost s.link len) k.1.1.1.1.1.1.0);
    }

pub record NoticeDone (s : State) (len : ℕ) : Type 0 where
  pub set : s.link.frame ≡ 0 → ⊥
  pub some_len : 1 ≤ len
  pub len_le : len ≤ s.link.largest
  pub running : s.clock < clock_end
  pub room : length s.notices < max_notices

pub notice_done : (s : State) (len tag : ℕ) → verdict (notice len tag) s ≡ 0 → NoticeDone s len
unfolding verdicts
notice_done s len tag e =
    let k = passed (verdicts (notice len tag) s) (omega arith) e in
    let w = within_true 1 s.link.largest len (not-false _ k.1.1.0) in
    record {
      set = eqb-false _ _ k.1.0;
      some_len = w.0;
      len_le = w.1;
      running = leb-false _ _ k.1.1.1.0;
      room = leb-false _ _ k.1.1.1.1.0;
    }

pub record TickDone (s : State) : Type 0 where
  pub set : s.link.frame ≡ 0 → ⊥
  pub running : s.clock < clock_end

pub tick_done : (s : State) → verdict tick s ≡ 0 → TickDone s
unfolding verdicts
tick_done s e =
    let k = passed (verdicts tick s) (omega arith) e in
    record { set = eqb-false _ _ k.1.0; running = leb-false _ _ k.1.1.0 }
