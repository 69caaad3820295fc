-- What a verdict 0 says, call by call; nothing else opens the table `verdicts` but the examples and the welcome of an offer.
use Prim.Native.Nat.{ℕ, zero, suc, ◌+◌, ◌≤◌, ◌<◌}
use native.Mathlib.Omega.{arith}
use mathlib.Core.Path.{◌≡◌, refl}
use mathlib.Core.Bool.{Bool, true, false, cond, not, ◌&&◌}
use mathlib.Core.List.{List, [], ◌∷◌}
use mathlib.Core.Option.{Option}
use lib.Dec.{leb, ltb, eqb}
use lib.ListN.{length}
use borrow.Author.Tests.{eqb-true, eqb-false, leb-false, ltb-false, le-ltb, not-false, not-true}
use Rattle.rules.specs.Limits.{max_connections, max_reserved, clock_end, max_notices}
use Rattle.rules.specs.Model.{Link, Connection, State, Call, link, admit, offer, notice, close, tick, Answer, past, figures}
use Rattle.rules.specs.Admission.{link_within, level_within, figures_within, free_number, joining, stands, reservation, stand_by_on, distance, reserved, passes}
use Rattle.rules.specs.Service.{suits, untimely_by, of}
use Rattle.rules.specs.SoundTest.{sound}
use Rattle.rules.specs.Calls.{causes, heard, eligibility_now, too_far, verdicts, verdict, done, settle}
use Rattle.rules.proofs.Doings.{refused}
use Rattle.rules.proofs.Lists.{All, all_map}
use Rattle.rules.proofs.Tests.{passed, and_true, and_intro, within_true}

-- an answer is what is done at verdict 0, or a refusal
pub settled : (Q : Answer → Type 0) (k : Call) (s : State) (v : ℕ) → (v ≡ 0 → Q (done k s)) → ((w : ℕ) → Q (refused k s (suc w))) → Q (settle k s v)
settled Q k s zero f g = f refl
settled Q k s (suc w) f g = g w

-- a refusal changes nothing
pub refused_leaves : (k : Call) (s : State) (v : ℕ) → (refused k s v).next ≡ s
refused_leaves k s v = refl

-- the test of the row with number v
abbrev test_of : ℕ → List (ℕ × Bool) → Bool
test_of v [] = false
test_of v (r ∷ rs) = cond (eqb r.0 v) r.1 (test_of v rs)

none_holds : (v : ℕ) (rs : List (ℕ × Bool)) → All (λ r. r.1 ≡ false) rs → test_of v rs ≡ false
none_holds v [] h = refl
none_holds v (r ∷ rs) h = go (eqb r.0 v) (none_holds v rs h.1)
  where
    go : (b : Bool) → test_of v rs ≡ false → cond b r.1 (test_of v rs) ≡ false
    go true k = h.0
    go false k = k

-- the numbers of the causes
pub causes_from_2 : (k : Call) (s : State) → All (λ r. (2 ≤ r.0) × (r.0 ≤ 18)) (causes k s)
causes_from_2 (link l) s = omega arith
causes_from_2 (admit x) s = omega arith
causes_from_2 (offer c len tag st) s = omega arith
causes_from_2 (notice len tag) s = omega arith
causes_from_2 (close c) s = omega arith
causes_from_2 tick s = omega arith

-- at verdict 0 the test of no row holds
not_given : (k : Call) (s : State) → verdict k s ≡ 0 → (v : ℕ) → test_of v (verdicts k s) ≡ false
unfolding verdicts
not_given k s e v = none_holds v (verdicts k s) (passed (verdicts k s) (omega arith, all_map {P = λ r. (2 ≤ r.0) × (r.0 ≤ 18)} {Q = λ r. 0 < r.0} (λ r n. omega arith) (causes k s) (causes_from_2 k s)) e)

-- the state is sound
pub given_sound : (k : Call) (s : State) → verdict k s ≡ 0 → sound s ≡ true
unfolding verdicts
given_sound k s e = not-false _ (not_given k s e 1)

-- ---- each call done

pub record LinkDone (s : State) (l : Link) : Type 0 where
  pub unset : s.link.levels ≡ 0
  pub link_in : link_within l ≡ true

pub link_done : (s : State) (l : Link) → verdict (link l) s ≡ 0 → LinkDone s l
unfolding verdicts
link_done s l e = record {
  unset = eqb-true _ _ (not-false _ (not_given (link l) s e 3));
  link_in = not-false _ (not_given (link l) s e 4);
}

pub record AdmitDone (s : State) (x : Connection) : Type 0 where
  pub set : s.link.levels ≡ 0 → ⊥
  pub level_in : level_within s.link x ≡ true
  pub figures_in : figures_within s.link x ≡ true
  pub free : free_number s.connections < max_connections
  pub tests_hold : passes s.link (joining s.connections x) ≡ true
  pub reserved_le : reserved s.link (joining s.connections x) ≤ max_reserved

pub admit_done : (s : State) (x : Connection) → verdict (admit x) s ≡ 0 → AdmitDone s x
unfolding verdicts
admit_done s x e = record {
  set = eqb-false _ _ (not_given (admit x) s e 2);
  level_in = not-false _ (not_given (admit x) s e 5);
  figures_in = not-false _ (not_given (admit x) s e 6);
  free = leb-false _ _ (not_given (admit x) s e 7);
  tests_hold = not-false _ (not_given (admit x) s e 8);
  reserved_le = ltb-false _ _ (not_given (admit x) s e 9);
}

-- an admission refused with 8: the state is sound, a link is set, the figures are within their limits, and the level test fails with the newcomer
pub record ShortRefused (s : State) (x : Connection) : Type 0 where
  pub sound_state : sound s ≡ true
  pub set : s.link.levels ≡ 0 → ⊥
  pub figures_in : figures_within s.link x ≡ true
  pub free : free_number s.connections < max_connections
  pub fails : passes s.link (joining s.connections x) ≡ false

pub short_refused : (s : State) (x : Connection) → verdict (admit x) s ≡ 8 → ShortRefused s x
unfolding verdicts
short_refused s x e =
    let k =
    go (not (sound s)) (eqb s.link.levels 0) (not (level_within s.link x)) (not (figures_within s.link x)) (leb max_connections (free_number s.connections))
    (not (passes s.link (joining s.connections x))) (ltb max_reserved (reserved s.link (joining s.connections x))) e in
    record { sound_state = not-false _ k.0; set = eqb-false _ _ k.1; figures_in = not-false _ k.2; free = leb-false _ _ k.3; fails = not-true _ k.4 }
  where
    go : (a b c d f g h : Bool) → ◌≡◌ {A = ℕ} (cond a 1 (cond b 2 (cond c 5 (cond d 6 (cond f 7 (cond g 8 (cond h 9 0))))))) 8
        → (a ≡ false) × (b ≡ false) × (d ≡ false) × (f ≡ false) × (g ≡ true)
    go true b c d f g h e = absurd (omega arith)
    go false true c d f g h e = absurd (omega arith)
    go false false true d f g h e = absurd (omega arith)
    go false false false true f g h e = absurd (omega arith)
    go false false false false true g h e = absurd (omega arith)
    go false false false false false true h e = (refl, refl, refl, refl, refl)
    go false false false false false false true e = absurd (omega arith)
    go false false false false false false false e = absurd (omega arith)

pub heard_parts : (s : State) (c : ℕ) (st : Option ℕ) → heard s c st ≡ true → (stands s c ≡ true) × (suits (figures s c) st ≡ true)
unfolding heard
heard_parts s c st e = and_true (stands s c) (suits (figures s c) st) e

pub heard_intro : (s : State) (c : ℕ) (st : Option ℕ) → stands s c ≡ true → suits (figures s c) st ≡ true → heard s c st ≡ true
unfolding heard
heard_intro s c st e f = and_intro (stands s c) (suits (figures s c) st) e f

-- no cause of 18
pub near_by : (s : State) (c : ℕ) (st : Option ℕ) → too_far s c st ≡ false → stand_by_on s.link ≡ true → eligibility_now s c st ≤ s.clock + distance s.link (figures s c)
unfolding too_far
near_by s c st e on = ltb-false (s.clock + distance s.link (figures s c)) (eligibility_now s c st) (rw on at e)

pub near_made : (s : State) (c : ℕ) (st : Option ℕ) → eligibility_now s c st ≤ s.clock + distance s.link (figures s c) → too_far s c st ≡ false
unfolding too_far
near_made s c st l = rw (le-ltb (s.clock + distance s.link (figures s c)) (eligibility_now s c st) l) (go (stand_by_on s.link))
  where
    go : (b : Bool) → (b && false) ≡ false
    go true = refl
    go false = refl

pub record OfferDone (s : State) (c len : ℕ) (st : Option ℕ) : Type 0 where
  pub set : s.link.levels ≡ 0 → ⊥
  pub standing : stands s c ≡ true
  pub suited : suits (figures s c) st ≡ true
  pub some_len : 1 ≤ len
  pub len_le : len ≤ (figures s c).size
  pub room : length (of c s.held) < reservation s.link (figures s c)
  pub running : s.clock < clock_end
  pub in_time : untimely_by (figures s c) (past s c) s.clock st ≡ false
  pub near : too_far s c st ≡ false

pub offer_done : (s : State) (c len tag : ℕ) (st : Option ℕ) → verdict (offer c len tag st) s ≡ 0 → OfferDone s c len st
unfolding verdicts
offer_done s c len tag st e =
    let w = within_true 1 (figures s c).size len (not-false _ (not_given (offer c len tag st) s e 11)) in
    let r = not_given (offer c len tag st) s e 12 in
    let k = heard_parts s c st (not-false _ (not_given (offer c len tag st) s e 10)) in
    record {
      set = eqb-false _ _ (not_given (offer c len tag st) s e 2);
      standing = k.0;
      suited = k.1;
      some_len = w.0;
      len_le = w.1;
      room = omega (arith, leb-false);
      running = leb-false _ _ (not_given (offer c len tag st) s e 13);
      in_time = not_given (offer c len tag st) s e 17;
      near = not_given (offer c len tag st) s e 18;
    }

pub record NoticeDone (s : State) (len : ℕ) : Type 0 where
  pub set : s.link.levels ≡ 0 → ⊥
  pub some_len : 1 ≤ len
  pub len_le : len ≤ s.link.largest
  pub running : s.clock < clock_end
  pub room : length s.notices < max_notices

pub notice_done : (s : State) (len tag : ℕ) → verdict (notice len tag) s ≡ 0 → NoticeDone s len
unfolding verdicts
notice_done s len tag e =
    let w = within_true 1 s.link.largest len (not-false _ (not_given (notice len tag) s e 11)) in
    record {
      set = eqb-false _ _ (not_given (notice len tag) s e 2);
      some_len = w.0;
      len_le = w.1;
      running = leb-false _ _ (not_given (notice len tag) s e 13);
      room = leb-false _ _ (not_given (notice len tag) s e 15);
    }

pub record CloseDone (s : State) (c : ℕ) : Type 0 where
  pub set : s.link.levels ≡ 0 → ⊥
  pub standing : stands s c ≡ true
  pub empty : length (of c s.held) < 1

pub close_done : (s : State) (c : ℕ) → verdict (close c) s ≡ 0 → CloseDone s c
unfolding verdicts
close_done s c e = record {
  set = eqb-false _ _ (not_given (close c) s e 2);
  standing = not-false _ (not_given (close c) s e 10);
  empty = leb-false _ _ (not_given (close c) s e 16);
}

pub record TickDone (s : State) : Type 0 where
  pub set : s.link.levels ≡ 0 → ⊥
  pub running : s.clock < clock_end

pub tick_done : (s : State) → verdict tick s ≡ 0 → TickDone s
unfolding verdicts
tick_done s e = record { set = eqb-false _ _ (not_given tick s e 2); running = leb-false _ _ (not_given tick s e 13) }
