-- The verdict of a call on a sound state: the first number of its causes; the rows in front of its table decided first, and then the others.
use Prim.Native.Nat.{ℕ, ◌+◌, ◌≤◌, ◌<◌}
use native.Mathlib.Omega.{arith}
use mathlib.Core.Path.{◌≡◌, refl, sym, ap, ◌∙◌, subst}
use mathlib.Core.Bool.{Bool, true, false, cond, not, ◌&&◌}
use mathlib.Core.List.{List, [], ◌∷◌}
use mathlib.Core.Option.{Option}
use lib.Dec.{leb, ltb, eqb}
use lib.ListN.{length, get_or}
use borrow.Author.Tests.{eq-eqb, ne_eqb, leb-false, not-false}
use Rattle.rules.specs.declared.Link.{Link}
use Rattle.rules.specs.declared.Connection.{Connection}
use Rattle.rules.specs.declared.Short.{Short}
use Rattle.rules.specs.Words.{All, within, first_number}
use Rattle.rules.specs.Limits.{max_largest, max_connections, max_reserved, beyond_32_bits}
use Rattle.rules.specs.Model.{Past, State, Call, admit, offer, no_connection, no_past, nth, figures, past}
use Rattle.rules.specs.Admission.{level_within, owned, stands, free_number, joining, bound, reservation, reserved, level_test, passes, stand_by_on, distance}
use Rattle.rules.specs.Service.{suits, untimely, untimely_by, eligibility_by, of}
use Rattle.rules.specs.SoundTest.{sound}
use Rattle.rules.specs.Calls.{heard, too_far, no_link_set, clock_ended, causes, verdicts, verdict}
use Rattle.rules.proofs.Tests.{passed, never, within_true}
use Rattle.rules.proofs.Sums.{cond_is}
use Rattle.rules.proofs.Standing.{owned_level, level_free, stands_is, stands_owned, stands_below, free_is}
use Rattle.rules.proofs.LevelTest.{holds_test}
use Rattle.rules.proofs.Verdicts.{heard_parts}
use Rattle.rules.proofs.Bounds.{distances_fit_32}
use Rattle.tables.specs.Places.{rows}
use Rattle.causes.specs.declared.refusals.Refusal.{Refusal}
use Rattle.causes.specs.Refusals.{number_of}
use Rattle.causes.specs.Causes.{early_offer}
use Rattle.causes.proofs.CauseLaws.{sound_first, front_gives, behind_gives}
use Rattle.causes.proofs.RefusalLaws.{some_number}
use Rattle.connections.specs.declared.Member.{Member}
use Rattle.connections.specs.Members.{member_in, connections_in, pasts_in, closed_in}
use Rattle.connections.specs.Rows.{connection_of, past_of}
use Rattle.tables.specs.Options.{option_in}
use Rattle.std.specs.Prelude as code
use Rattle.connections.specs.Within.{Within, SumsWith}
use Rattle.connections.proofs.MemberLaws.{connections_length, connection_is, past_is}
use Rattle.connections.proofs.RegulatorLaws.{MemberFacts}
use Rattle.connections.proofs.FigureLaws.{link_limits, figure_limits, entry_limits, sums_joining, reserved_joining}
use Rattle.state.specs.View.{Hub, Tables, view, sound_hub}
use Rattle.state.proofs.SoundLaws.{sound_view, is_sound, figures_in_limits}
use Rattle.calls.specs.Rulings.{early_admit, too_far_in}

pub by_causes : (k : Call) (s : State) → sound s ≡ true → first_number (causes k s) ≡ verdict k s
unfolding verdicts
by_causes k s ok = sound_first (sound s) (causes k s) ok

-- what the causes give on a sound hub is the verdict
pub found : (h : Hub) (t : Tables) → sound_hub h t ≡ true → (k : Call) {v : ℕ} → v ≡ first_number (causes k (view h t)) → v ≡ verdict k (view h t)
found h t ok k e = e ∙ by_causes k (view h t) (sound_view h t ok)

-- ---- an offer: what needs no walk over the places, then the rest

-- who hears it, from what the code asks
pub hears : (s : State) (c : ℕ) (st : Option ℕ) (x : Connection) (a b : Bool) → x ≡ nth s.connections c → a ≡ (owned s.connections c && not (get_or s.closed c false)) → b ≡ suits x st
    → (a && b) ≡ heard s c st
unfolding heard
hears s c st x a b is e f = (λ i. (e ∙ sym (stands_is s c)) i && (f ∙ ap (λ (y : Connection). suits y st) is) i)

-- an offer with a stamp, of the row read
pub untimely_with : (t : List ℕ) (c clock at : ℕ) (o : code.Option ℕ) → o ≡ code.Some at → c < max_connections → (m : Member) → m ≡ member_in t c → (r : Bool) → r ≡ untimely (connection_of m) (past_of m) clock at
    → r ≡ untimely_by (nth (connections_in t) c) (get_or (pasts_in t) c no_past) clock (option_in o)
untimely_with t c clock at o b k m i r e =
    rw b
    (e
    ∙ (λ j. untimely ((ap connection_of i ∙ sym (connection_is t c k)) j) ((ap past_of i ∙ sym (past_is t c k)) j) clock at))

-- an offer that is too far: with the queue off, and with it on, of the row read
module _ (l : Link) (t : List ℕ) (c clock : ℕ) (st : Option ℕ) (on : Bool) (is_on : on ≡ stand_by_on l) where
  abbrev far_at : Connection → Past → Bool
  far_at x h = ltb (clock + distance l x) (eligibility_by x h clock st)

  pub far_off : on ≡ false → false ≡ too_far_in l t c clock st
  far_off f i = (sym f ∙ is_on) i && far_at (nth (connections_in t) c) (get_or (pasts_in t) c no_past)

  pub far_on : on ≡ true → (m : Member) → MemberFacts t c m → (a e : ℕ) → a ≡ clock + distance l (connection_of m) → e ≡ eligibility_by (connection_of m) (past_of m) clock st
      → ltb a e ≡ too_far_in l t c clock st
  far_on f m k a e i j = (λ n. ltb (i n) (j n)) ∙ (λ n. (sym f ∙ is_on) n && far_at (k.figures n) (k.past n))

-- .. as the rules say it
far_is : (h : Hub) (t : Tables) (c : ℕ) (st : Option ℕ) → too_far_in h.link t.members c h.clock st ≡ too_far (view h t) c st
unfolding too_far
far_is h t c st = refl

module _ (h : Hub) (t : Tables) (ok : sound_hub h t ≡ true) (c len tag : ℕ) (st : Option ℕ) (u : Bool) (unset : u ≡ eqb h.link.levels 0) (b : Bool) (there : b ≡ heard (view h t) c st) (x : Connection) (is : x ≡ nth (connections_in t.members) c) where
  abbrev offered : State
  offered = view h t

  abbrev in_front : List (ℕ × Bool)
  in_front = no_link_set offered ∷ (10, not (heard offered c st)) ∷ (11, not (within 1 (figures offered c).size len)) ∷ []

  abbrev rest_of : Connection → Bool → List (ℕ × Bool)
  rest_of y far =
      (12, leb (reservation h.link y) (length (of c (rows t.places))))
      ∷ clock_ended offered
      ∷ (17, untimely_by (figures offered c) (past offered c) h.clock st)
      ∷ (18, far) ∷ []

  abbrev rest : List (ℕ × Bool)
  rest = rest_of (figures offered c) (too_far offered c st)

  front_is : early_offer u b x.size len ≡ in_front
  front_is i = (2, unset i) ∷ (10, not (there i)) ∷ (11, not (within 1 (is i).size len)) ∷ []

  pub offer_early : (why : Refusal) → number_of why ≡ first_number (early_offer u b x.size len) → number_of why ≡ verdict (offer c len tag st) offered
  offer_early why e =
      let f = e ∙ ap first_number front_is in
      f ∙ front_gives in_front rest (λ z. some_number why (f ∙ z)) ∙ by_causes (offer c len tag st) offered (sound_view h t ok)

  module _ (none : first_number (early_offer u b x.size len) ≡ 0) where
    unrefused : first_number in_front ≡ 0
    unrefused = ap first_number (sym front_is) ∙ none

    tests : All (λ (r : ℕ × Bool). r.1 ≡ false) in_front
    tests = passed in_front (omega arith, (omega arith, (omega arith, tt))) unrefused

    pub offer_late : (r : ℕ) → r ≡ first_number (rest_of x (too_far_in h.link t.members c h.clock st)) → r ≡ verdict (offer c len tag st) offered
    offer_late r e =
        e
        ∙ (λ i. first_number (rest_of (is i) (far_is h t c st i)))
        ∙ behind_gives in_front rest (omega arith, (omega arith, (omega arith, tt))) unrefused
        ∙ by_causes (offer c len tag st) offered (sound_view h t ok)

    standing : stands offered c ≡ true
    standing = (heard_parts offered c st (not-false _ tests.1.0)).0

    offer_within : Within h.link (connections_in t.members)
    offer_within = figures_in_limits h t ok (λ e. never (sym tests.0 ∙ eq-eqb h.link.levels 0 e))

    -- the distance can be counted
    pub offer_distance : (h.clock + distance h.link (nth (connections_in t.members) c) < beyond_32_bits) × Within h.link (connections_in t.members)
    offer_distance = (distances_fit_32 offered (is_sound h t ok) c, offer_within)

    pub offer_number : c < max_connections
    offer_number = omega (arith, stands_below offered c standing, connections_length t.members)

    -- the connection has an owner, so it has a level and a gap, and its reservation can be counted
    pub offer_figures : (1 ≤ x.level) × (1 ≤ x.gap) × (x.allowance + bound h.link x.level < beyond_32_bits)
    offer_figures =
        let w = offer_within in
        let o = stands_owned offered c standing in (
          subst (λ (y : Connection). 1 ≤ y.level) (sym is) (omega (arith, owned_level (connections_in t.members) c o)),
          subst (λ (y : Connection). 1 ≤ y.gap) (sym is) (figure_limits h.link (nth (connections_in t.members) c) (w.figures_in c o)).some_gap,
          (entry_limits h.link (connections_in t.members) w c x is).reach_fits,
        )

-- ---- a close: whether it stands, as the rules say it

pub stands_as : (h : Hub) (t : Tables) (c : ℕ) (b : Bool) → b ≡ (owned (connections_in t.members) c && not (get_or (closed_in t.members) c false)) → b ≡ stands (view h t) c
stands_as h t c b e = e ∙ sym (stands_is (view h t) c)

-- a level within its limits
some_level : (l : Link) (x : Connection) → level_within l x ≡ true → 1 ≤ x.level
unfolding level_within
some_level l x e = (within_true 1 l.levels x.level e).0

-- ---- an admission: what needs no sum, then the level test, then the reservations

module _ (h : Hub) (t : Tables) (ok : sound_hub h t ≡ true) (x : Connection) (c : ℕ) (is : c ≡ free_number (connections_in t.members)) where
  abbrev asked : State
  asked = view h t

  abbrev together : List Connection
  together = joining (connections_in t.members) x

  abbrev front : List (ℕ × Bool)
  front = early_admit h.link (free_number (connections_in t.members)) x

  abbrev behind : List (ℕ × Bool)
  behind = (8, not (passes h.link together)) ∷ (9, ltb max_reserved (reserved h.link together)) ∷ []

  same_front : early_admit h.link c x ≡ front
  same_front = ap (λ (k : ℕ). early_admit h.link k x) is

  pub admit_early : (why : Refusal) → number_of why ≡ first_number (early_admit h.link c x) → number_of why ≡ verdict (admit x) asked
  admit_early why e =
      let f = e ∙ ap first_number same_front in
      f ∙ front_gives front behind (λ y. some_number why (f ∙ y)) ∙ by_causes (admit x) asked (sound_view h t ok)

  module _ (none : first_number (early_admit h.link c x) ≡ 0) where
    none_early : first_number front ≡ 0
    none_early = ap first_number (sym same_front) ∙ none

    all_false : All (λ (r : ℕ × Bool). r.1 ≡ false) front
    all_false = passed front (omega arith, (omega arith, (omega arith, (omega arith, tt)))) none_early

    by_sums : first_number behind ≡ verdict (admit x) asked
    by_sums = behind_gives front behind (omega arith, (omega arith, (omega arith, (omega arith, tt)))) none_early ∙ by_causes (admit x) asked (sound_view h t ok)

    link_is_set : h.link.levels ≡ 0 → ⊥
    link_is_set e = never (sym all_false.0 ∙ eq-eqb h.link.levels 0 e)

    -- the sums can be made
    pub admit_within : Within h.link (connections_in t.members)
    admit_within = figures_in_limits h t ok link_is_set

    -- the connections that stand pass the level test
    pub admit_passes : passes h.link (connections_in t.members) ≡ true
    admit_passes = holds_test h.link (connections_in t.members) ((is_sound h t ok).with_one link_is_set).orderly.tested

    pub admit_figures : (1 ≤ x.level) × (1 ≤ x.gap) × (x.size ≤ max_largest) × (x.allowance + bound h.link x.level < beyond_32_bits)
    admit_figures =
        let f = figure_limits h.link x (not-false _ all_false.1.1.0) in
        let l = link_limits h.link admit_within.link_in in
        (some_level h.link x (not-false _ all_false.1.0), f.some_gap, omega (arith, f.size_le, l.largest_le), omega (arith, f.allowance_le, l.bounds_le x.level))

    -- there is a free number, and nothing is left of its owner
    free_room : free_number (connections_in t.members) < length (connections_in t.members)
    free_room = omega (arith, leb-false max_connections (free_number (connections_in t.members)) all_false.1.1.1.0, connections_length t.members)

    free_blank : nth (connections_in t.members) (free_number (connections_in t.members)) ≡ no_connection
    free_blank = admit_within.blank_in _ (level_free (connections_in t.members) _ (free_is (connections_in t.members) free_room))

    pub admit_sums : SumsWith h.link (connections_in t.members) x together
    admit_sums = sums_joining h.link (connections_in t.members) x free_room free_blank

    pub admit_reserved : (a b : ℕ) → a ≡ reserved h.link (connections_in t.members) → b ≡ reservation h.link x → a + b ≡ reserved h.link together
    admit_reserved a b e f = rw (e, f) (sym (reserved_joining h.link (connections_in t.members) x free_room free_blank))

    module _ (s : Short) (e : s ≡ level_test h.link together) where
      pub admit_short : (s.level ≡ 0 → ⊥) → 8 ≡ verdict (admit x) asked
      admit_short z =
          let f : passes h.link together ≡ false = ap (λ (u : Short). eqb u.level 0) (sym e) ∙ ne_eqb s.level 0 z in
          sym (cond_is 8 (cond (ltb max_reserved (reserved h.link together)) 9 0) (ap not f)) ∙ by_sums

      -- no level is short: all that is left is the reservations
      pub admit_room : (r a : ℕ) → s.level ≡ 0 → a ≡ reserved h.link together → r ≡ cond (ltb max_reserved a) 9 0 → r ≡ verdict (admit x) asked
      admit_room r a z g k =
          let f : passes h.link together ≡ true = ap (λ (u : Short). eqb u.level 0) (sym e) ∙ eq-eqb s.level 0 z in
          k ∙ ap (λ (b : ℕ). cond (ltb max_reserved b) 9 0) g ∙ sym (cond_is 8 (cond (ltb max_reserved (reserved h.link together)) 9 0) (ap not f)) ∙ by_sums
