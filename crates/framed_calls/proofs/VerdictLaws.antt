-- The verdict of a call on a sound state: the first number of its causes; the rows in front of its table decided first, and then the others; what the pass over the rows counts.
use Prim.Native.Nat.{ℕ, ◌+◌, ◌-◌, ◌≤◌, ◌<◌}
use native.Mathlib.Omega.{arith}
use mathlib.Core.Path.{◌≡◌, refl, sym, ap, ◌∙◌}
use mathlib.Core.Bool.{Bool, true, false, cond, not}
use mathlib.Core.List.{List, [], ◌∷◌, ◌++◌}
use lib.Dec.{leb, ltb, eqb}
use lib.ListN.{length}
use borrow.Author.Tests.{eq-eqb, lt-ltb, le-ltb, not-false}
use Rattle.rules.specs.Words.{All, within, first_number}
use Rattle.rules.specs.Limits.{max_reserved}
use Rattle.rules.proofs.Tests.{passed, never}
use Rattle.rules.proofs.Sums.{cond_is}
use Rattle.frames.specs.declared.Framing.{Framing}
use Rattle.frames.specs.declared.Share.{Share}
use Rattle.frames.specs.Model.{State, Call, admit, offer, nth, figures}
use Rattle.frames.specs.Admission.{cost, stands, frame_sum, all_places}
use Rattle.frames.specs.Service.{used}
use Rattle.frames.specs.SoundState.{SoundWithLink}
use Rattle.frames.specs.SoundTest.{sound}
use Rattle.frames.specs.Calls.{no_link_set, clock_ended, causes, verdicts, verdict}
use Rattle.frames.proofs.Figures.{cost_is, sum_is, stands_below, sum_snoc}
use Rattle.causes.specs.declared.refusals.Refusal.{Refusal}
use Rattle.causes.specs.Refusals.{number_of}
use Rattle.causes.specs.Causes.{early_offer}
use Rattle.causes.proofs.CauseLaws.{sound_first, front_gives, behind_gives}
use Rattle.causes.proofs.RefusalLaws.{some_number}
use Rattle.tables.specs.Places.{rows}
use Rattle.shares.specs.Shares.{shares_in}
use Rattle.framed_state.specs.View.{Frames, Tables, view, sound_frames}
use Rattle.framed_state.proofs.SoundLaws.{sound_view, linked}
use Rattle.framed_calls.specs.declared.verdicts.Taken.{Taken}
use Rattle.framed_calls.specs.Rulings.{early_admit, taken_of}
use Rattle.frames.proofs.Names.{all_units}

pub by_causes : (k : Call) (s : State) → sound s ≡ true → first_number (causes k s) ≡ verdict k s
unfolding verdicts
by_causes k s ok = sound_first (sound s) (causes k s) ok

-- what the causes give on a sound line is the verdict
pub found : (h : Frames) (t : Tables) → sound_frames h t ≡ true → (k : Call) {v : ℕ} → v ≡ first_number (causes k (view h t)) → v ≡ verdict k (view h t)
found h t ok k e = e ∙ by_causes k (view h t) (sound_view h t ok)

-- ---- an offer: what needs no walk over the places, then the rest

module _ (h : Frames) (t : Tables) (ok : sound_frames h t ≡ true) (c len tag : ℕ) (u : Bool) (unset : u ≡ eqb h.link.frame 0) (b : Bool) (there : b ≡ stands (shares_in t.members) c) where
  abbrev offered : State
  offered = view h t

  abbrev in_front : List (ℕ × Bool)
  in_front = no_link_set offered ∷ (10, not (stands (shares_in t.members) c)) ∷ (11, not (within 1 h.link.largest len)) ∷ []

  abbrev rest_of : Share → Taken → ℕ → List (ℕ × Bool)
  rest_of x k n = (12, leb x.places k.held) ∷ clock_ended offered ∷ (19, ltb x.units (k.units + n)) ∷ []

  abbrev rest : List (ℕ × Bool)
  rest = rest_of (figures offered c) (taken_of h.link h.clock c (rows t.places)) (cost h.link len)

  front_is : early_offer u b h.link.largest len ≡ in_front
  front_is i = (2, unset i) ∷ (10, not (there i)) ∷ (11, not (within 1 h.link.largest len)) ∷ []

  pub offer_early : (why : Refusal) → number_of why ≡ first_number (early_offer u b h.link.largest len) → number_of why ≡ verdict (offer c len tag) offered
  offer_early why e =
      let f = e ∙ ap first_number front_is in
      f ∙ front_gives in_front rest (λ z. some_number why (f ∙ z)) ∙ by_causes (offer c len tag) offered (sound_view h t ok)

  module _ (none : first_number (early_offer u b h.link.largest len) ≡ 0) where
    unrefused : first_number in_front ≡ 0
    unrefused = ap first_number (sym front_is) ∙ none

    tests : All (λ (r : ℕ × Bool). r.1 ≡ false) in_front
    tests = passed in_front (omega arith, (omega arith, (omega arith, tt))) unrefused

    pub offer_linked : h.link.frame ≡ 0 → ⊥
    offer_linked e = never (sym tests.0 ∙ eq-eqb h.link.frame 0 e)

    -- what it has used is within its units
    pub offer_use : used h.link h.clock c (rows t.places) ≤ (nth (shares_in t.members) c).units
    offer_use = (linked h t ok offer_linked).use_le c (stands_below (shares_in t.members) c (not-false _ tests.1.0))

    pub offer_late : (x : Share) (k : Taken) (r : ℕ) → x ≡ nth (shares_in t.members) c → k ≡ taken_of h.link h.clock c (rows t.places)
        → r ≡ first_number (rest_of x k (len + h.link.silence)) → r ≡ verdict (offer c len tag) offered
    offer_late x k r i j e =
        e
        ∙ (λ n. first_number (rest_of (i n) (j n) (sym (cost_is h.link len) n)))
        ∙ behind_gives in_front rest (omega arith, (omega arith, (omega arith, tt))) unrefused
        ∙ by_causes (offer c len tag) offered (sound_view h t ok)

-- ---- an admission: what needs no sum, then the two sums

pub sum_with : (l : Framing) (cs : List Share) (x : Share) (u : ℕ) → u ≡ all_units cs → u + x.units + (l.largest + l.silence) ≡ frame_sum l (cs ++ x ∷ [])
sum_with l cs x u e = omega (arith, e, sum_is l (cs ++ x ∷ []), sum_snoc cs x (λ y. y.units))

pub units_within : (l : Framing) (cs : List Share) → frame_sum l cs ≤ l.frame → all_units cs + (l.largest + l.silence) ≤ l.frame
units_within l cs h = omega (arith, sum_is l cs)

module _ (h : Frames) (t : Tables) (ok : sound_frames h t ≡ true) (x : Share) (n : ℕ) (is : n ≡ length (shares_in t.members)) where
  abbrev asked : State
  asked = view h t

  abbrev together : List Share
  together = shares_in t.members ++ x ∷ []

  abbrev front : List (ℕ × Bool)
  front = early_admit h.link (length (shares_in t.members)) x

  abbrev behind : List (ℕ × Bool)
  behind = (8, ltb h.link.frame (frame_sum h.link together)) ∷ (9, ltb max_reserved (all_places together)) ∷ []

  same_front : early_admit h.link n x ≡ front
  same_front = ap (λ (k : ℕ). early_admit h.link k x) is

  pub admit_early : (why : Refusal) → number_of why ≡ first_number (early_admit h.link n x) → number_of why ≡ verdict (admit x) asked
  admit_early why e =
      let f = e ∙ ap first_number same_front in
      f ∙ front_gives front behind (λ y. some_number why (f ∙ y)) ∙ by_causes (admit x) asked (sound_view h t ok)

  module _ (none : first_number (early_admit h.link n x) ≡ 0) where
    none_early : first_number front ≡ 0
    none_early = ap first_number (sym same_front) ∙ none

    all_false : All (λ (r : ℕ × Bool). r.1 ≡ false) front
    all_false = passed front (omega arith, (omega arith, (omega arith, tt))) none_early

    by_sums : first_number behind ≡ verdict (admit x) asked
    by_sums = behind_gives front behind (omega arith, (omega arith, (omega arith, tt))) none_early ∙ by_causes (admit x) asked (sound_view h t ok)

    stood : SoundWithLink asked
    stood = linked h t ok (λ e. never (sym all_false.0 ∙ eq-eqb h.link.frame 0 e))

    -- the sums of those who stand are within their limits
    pub admit_units : frame_sum h.link (shares_in t.members) ≤ h.link.frame
    admit_units = stood.units_le

    pub admit_places : all_places (shares_in t.members) ≤ max_reserved
    admit_places = stood.places_le

    module _ (total : ℕ) (e : total ≡ frame_sum h.link together) where
      -- over by no more than its own r
      pub over_by : total - h.link.frame ≤ x.units
      over_by = omega (arith, e, admit_units, sum_with h.link (shares_in t.members) x _ refl, sum_is h.link (shares_in t.members))

      pub admit_over : h.link.frame < total → 8 ≡ verdict (admit x) asked
      admit_over l =
          let f : ltb h.link.frame (frame_sum h.link together) ≡ true = ap (ltb h.link.frame) (sym e) ∙ lt-ltb h.link.frame total l in
          sym (cond_is 8 (cond (ltb max_reserved (all_places together)) 9 0) f) ∙ by_sums

      -- the frame is not over: all that is left is the places
      pub admit_room : total ≤ h.link.frame → (p v : ℕ) → p ≡ all_places (shares_in t.members) → v ≡ cond (ltb max_reserved (p + x.places)) 9 0 → v ≡ verdict (admit x) asked
      admit_room l p v f k =
          let g : ltb h.link.frame (frame_sum h.link together) ≡ false = ap (ltb h.link.frame) (sym e) ∙ le-ltb h.link.frame total l in
          let a : p + x.places ≡ all_places together = ap (λ (m : ℕ). m + x.places) f ∙ sym (sum_snoc (shares_in t.members) x (λ y. y.places)) in
          k ∙ ap (λ (m : ℕ). cond (ltb max_reserved m) 9 0) a ∙ sym (cond_is 8 (cond (ltb max_reserved (all_places together)) 9 0) g) ∙ by_sums
