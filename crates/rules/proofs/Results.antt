-- THE PROOFS of the statements in specs/Promises, each under its name in small letters.
use Prim.Native.Nat.{ℕ, zero, suc, ◌+◌, ◌≤◌, ◌<◌}
use native.Mathlib.Omega.{arith}
use mathlib.Core.Path.{◌≡◌, refl, sym, ap, ◌∙◌, subst}
use mathlib.Core.Bool.{Bool, true, false, cond, not}
use mathlib.Core.Logic.{◌⊎◌, inl, inr, ⊎_elim, ◌↔◌}
use mathlib.Core.List.{List, [], ◌∷◌, ◌++◌, map}
use mathlib.Core.Option.{Option, none, some}
use lib.Dec.{leb, eqb}
use lib.ListN.{length, get_elem?, length-append}
use borrow.Author.Tests.{not-true, eq-eqb, ne_eqb, eqb-false, leb-false}
use Rattle.rules.specs.Words.{within}
use Rattle.rules.specs.Limits.{clock_end, max_notices, notice_number}
use Rattle.rules.specs.Model.{Link, Connection, Packet, State, Call, link, admit, offer, notice, close, tick, no_short, figures}
use Rattle.rules.specs.Admission.{owned, joining, stands, stamped, reservation, level_test}
use Rattle.rules.specs.Service.{suits, Spaced, of, early_at}
use Rattle.rules.proofs.HubTick.{started_state}
use Rattle.rules.specs.SoundState.{Sound}
use Rattle.rules.specs.SoundTest.{sound}
use Rattle.rules.specs.Calls.{causes, heard, verdicts, verdict, eligibility_now, packet, done, refused_number, settle, answer}
use Rattle.rules.specs.Runs.{Departure, History, logged, after, run_from, nothing_yet, run, departures, in_hub, bound_of, allowed, own_ticks, KeepsItsWord, Exchange, exchanges}
use Rattle.rules.proofs.RunWords.{first_answer, offer_ticks, Word}
use Rattle.rules.specs.Promises.{Demand1, NoLinkMeansZero, RunsAreSound, SoundStates, FifteenAfterThirteen, NamesTheLowest, LevelTestTells, ShortIsTold, UnitsFit, SumsFit, FinerTestSays, WindowsAtTheBounds, QuickTestIsExact, Conservation, ConservationByOwner, LeftBy, Demand3First, Demand3Second, BedNineAndBedTen, SpacingSays, NoWindowHoldsMore, TheCountIsReached, TheCountNeverFalls, ClosingFrees, LowestNumberIsGiven, by_its_gap, VerdictsOfAnOffer, NoFinishBefore, Demand3ForStamps}
use Rattle.rules.specs.Before.{WithoutWindows, WithoutAverage, WithoutSilence, FirstKind, SecondKind, WithoutStandBy}
use Rattle.rules.proofs.Sums.{same, cond_is}
use Rattle.rules.proofs.Tests.{and_true, and_intro, not_true_false, never_number}
use Rattle.rules.proofs.Lists.{All, all_map}
use Rattle.rules.proofs.Rows.{find_below, some_inj, of_append, length_map}
use Rattle.rules.proofs.Standing.{stands_owned, stands_below}
use Rattle.rules.proofs.Figures.{never_stamped, never_off}
use Rattle.rules.proofs.Verdicts.{causes_from_2, settled, heard_parts, refused_leaves, short_refused, offer_done}
use Rattle.rules.proofs.SoundExact.{exact}
use Rattle.rules.proofs.SoundKept.{kept}
use Rattle.rules.proofs.Invariant.{connections_few}
use Rattle.rules.proofs.Every.{no_owner, keeps, fresh_invariant, invariant}
use Rattle.rules.proofs.WithoutSilence.{as_in_the_base, no_silence_runs}
use Rattle.rules.proofs.WithoutAverage.{says, hits_are, as_before}
use Rattle.rules.proofs.Count.{no_window_more, count_mono}
use Rattle.rules.proofs.Reached.{count_reached}
use Rattle.rules.proofs.InTime.{conserved_lists, Waits, Either}
use Rattle.rules.proofs.Through.{either_through, over_left}
use Rattle.rules.proofs.ByOwner.{by_owner}
use Rattle.rules.proofs.Closing.{refusals, tens, closes, lasts, lowest_given}
use Rattle.rules.proofs.Bounds.{rows_fit_places, notices_fit_places, eligibilities_fit_32, charges_fit_32, distances_fit_32}
use Rattle.rules.proofs.NoticesLast.{none_eligible}
use Rattle.rules.proofs.Fields.{unit_done, unit_short, short_fits, answer_fits}
use Rattle.rules.proofs.Shortage.{tells, names, sums_le, reserved_most}
use Rattle.rules.proofs.Room.{near_arrival, not_for_room, welcome}
use Rattle.rules.proofs.Lower.{call_begun, begun}
use Rattle.rules.proofs.Finer.{bounds_as_unwindowed, quick_test_exact, finer_says, as_without, no_windows_asked}
use Rattle.rules.proofs.Keeper.{run_append, AllTaken, all_taken, WordBefore, word_before, on_arrival, has_room}
use Rattle.rules.proofs.Alone.{Own, told_by_own, word_is, no_exchanges, own_answers}
use Rattle.rules.proofs.AloneStamped.{alike_with_stamps}
use Rattle.rules.proofs.StandBy.{comes_last, never_idles, never_far, eighteen, stamps_never, link_only, start_only, rows_only, service_only, verdict_only}
use Rattle.rules.proofs.SecondKind.{first_as_before, second_as_asked, test_alike, ten, seventeen, no_cause_false, stamp_near, stamp_room, stamp_taken}

-- ---- demand 1

done_verdict : (k : Call) (s : State) → (done k s).verdict ≡ 0
done_verdict (link l) s = refl
done_verdict (admit x) s = refl
done_verdict (offer c len tag st) s = refl
done_verdict (notice len tag) s = refl
done_verdict (close c) s = refl
done_verdict tick s = unit_done (started_state s) (started_state s).to_go

pub answer_verdict : (k : Call) (s : State) → (answer k s).verdict ≡ verdict k s
answer_verdict k s = go (verdict k s)
  where
    go : (v : ℕ) → (settle k s v).verdict ≡ v
    go zero = done_verdict k s
    go (suc v) = refl

pub refusals_change_nothing : (k : Call) (s : State) → ((answer k s).verdict ≡ 0 → ⊥)
    → ((answer k s).next ≡ s) × ((answer k s).departed ≡ none) × ((answer k s).number ≡ refused_number k)
refusals_change_nothing k s =
    settled (λ a. (a.verdict ≡ 0 → ⊥) → (a.next ≡ s) × (a.departed ≡ none) × (a.number ≡ refused_number k)) k s (verdict k s)
    (λ _ n. absurd (n (done_verdict k s)))
    (λ v _. (refused_leaves k s (suc v), refl, refl))

-- ---- the sound state

pub verdict_1_exactly : (k : Call) (s : State) → (answer k s).verdict ≡ 1 ↔ (Sound s → ⊥)
unfolding verdicts
verdict_1_exactly k s = (to, from)
  where
    to : (answer k s).verdict ≡ 1 → Sound s → ⊥
    to e S =
        never_number 1 (verdicts k s)
        (λ _. ap not ((exact s).1 S), all_map {P = λ r. (2 ≤ r.0) × (r.0 ≤ 18)} {Q = λ r. r.0 ≡ 1 → r.1 ≡ false} (λ r n i. absurd (omega arith)) (causes k s) (causes_from_2 k s))
        (omega arith) (sym (answer_verdict k s) ∙ e)

    from : (Sound s → ⊥) → (answer k s).verdict ≡ 1
    from n = answer_verdict k s ∙ cond_is 1 _ (ap not (not_true_false (sound s) (λ e. n ((exact s).0 e))))

pub no_link_means_zero : NoLinkMeansZero
no_link_means_zero s z = (λ S. S.with_no_link z, λ e. subst Sound (sym e) fresh_invariant.sound)

pub demand_1 : Demand1
demand_1 k s = record {
  refusals_change_nothing = refusals_change_nothing k s;
  test_is_exact = exact s;
  verdict_1_exactly = verdict_1_exactly k s;
  sound_is_kept = kept k s;
  answers_fit = answer_fits k s;
}

pub runs_are_sound : RunsAreSound
runs_are_sound ks = (invariant ks).sound

pub sound_states : SoundStates
sound_states s S = record {
  rows_fit = rows_fit_places s S;
  notices_fit = notices_fit_places s S;
  held_fit = (eligibilities_fit_32 s S).0;
  charges_fit = charges_fit_32 s S;
  next_fit = λ c. ((eligibilities_fit_32 s S).1 c).1;
  sums_fit = λ c. ((eligibilities_fit_32 s S).1 c).2;
  distances_fit = distances_fit_32 s S;
  notices_come_last = none_eligible s S;
  early_comes_last = λ p z l e late. let B = comes_last s p S z l e late in (B.it_is, B.none_eligible, B.no_notice);
  early_never_idles = never_idles s S;
  never_far_ahead = never_far s S;
}

pub fifteen_after_thirteen : FifteenAfterThirteen
unfolding verdicts
fifteen_after_thirteen len tag s e =
    go (not (sound s)) (eqb s.link.levels 0) (not (within 1 s.link.largest len)) (leb clock_end s.clock) refl (leb max_notices (length s.notices))
    (sym (answer_verdict (notice len tag) s) ∙ e)
  where
    go : (a b c d : Bool) → leb clock_end s.clock ≡ d → (f : Bool) → ◌≡◌ {A = ℕ} (cond a 1 (cond b 2 (cond c 11 (cond d 13 (cond f 15 0))))) 15 → s.clock < clock_end
    go true b c d i f h = absurd (omega arith)
    go false true c d i f h = absurd (omega arith)
    go false false true d i f h = absurd (omega arith)
    go false false false true i f h = absurd (omega arith)
    go false false false false i f h = leb-false _ _ i

-- ---- which level was short

pub level_test_tells : LevelTestTells
level_test_tells l cs = tells l cs

-- what is told where the verdict is 8
module _ (x : Connection) (s : State) (e : (answer (admit x) s).verdict ≡ 8) where
  eight : verdict (admit x) s ≡ 8
  eight = sym (answer_verdict (admit x) s) ∙ e

  told_short : (answer (admit x) s).short ≡ level_test s.link (joining s.connections x)
  told_short = ap (λ (v : ℕ). (settle (admit x) s v).short) eight

  short_named : NamesTheLowest s.link (joining s.connections x) (answer (admit x) s).short
  short_named =
      subst (NamesTheLowest s.link (joining s.connections x)) (sym told_short)
      (names s.link (joining s.connections x) (eqb-false _ 0 (short_refused s x eight).fails))

pub short_is_told : ShortIsTold
short_is_told k s = (λ n. go k (verdict k s) (λ e. n (answer_verdict k s ∙ e)), eight_told)
  where
    go : (k : Call) (v : ℕ) → (v ≡ 8 → ⊥) → (settle k s v).short ≡ no_short
    go (link l) zero n = refl
    go (admit x) zero n = refl
    go (offer c len tag st) zero n = refl
    go (notice len tag) zero n = refl
    go (close c) zero n = refl
    go tick zero n = unit_short (started_state s) (started_state s).to_go
    go (link l) (suc v) n = refl
    go (admit x) (suc v) n = cond_is (level_test s.link (joining s.connections x)) no_short (ne_eqb (suc v) 8 n)
    go (offer c len tag st) (suc v) n = refl
    go (notice len tag) (suc v) n = refl
    go (close c) (suc v) n = refl
    go tick (suc v) n = refl

    eight_told : (x : Connection) → k ≡ admit x → (answer k s).verdict ≡ 8
        → ((answer k s).short ≡ level_test s.link (joining s.connections x)) × NamesTheLowest s.link (joining s.connections x) (answer k s).short
    eight_told x i =
        subst
        (λ (j : Call). (answer j s).verdict ≡ 8
        → ((answer j s).short ≡ level_test s.link (joining s.connections x)) × NamesTheLowest s.link (joining s.connections x) (answer j s).short)
        (sym i) (λ e. (told_short x s e, short_named x s e))

pub units_fit : UnitsFit
units_fit x s e = (short_fits x s (short_refused s x (eight x s e)) (answer (admit x) s).short (short_named x s e)).1

pub sums_fit : SumsFit
sums_fit l cs e few f = (sums_le l cs e few f, reserved_most l cs e few f)

-- ---- the finer test

pub finer_test_says : FinerTestSays
finer_test_says l cs m e = finer_says l cs m e

pub windows_at_the_bounds : WindowsAtTheBounds
windows_at_the_bounds l cs h = bounds_as_unwindowed l cs h

pub without_windows : WithoutWindows
without_windows = (no_windows_asked, as_without)

pub quick_test_is_exact : QuickTestIsExact
quick_test_is_exact l cs = quick_test_exact l cs

-- ---- conservation, and the first sentence of demand 3

pub conservation : Conservation
conservation ks c = conserved_lists (run ks) (invariant ks) c

pub conservation_by_owner : ConservationByOwner
conservation_by_owner earlier later x e = by_owner earlier later x (sym (answer_verdict (admit x) (run earlier).now) ∙ e)

find_here : {A : Type 0} (xs : List A) (y : A) (ys : List A) → get_elem? (xs ++ y ∷ ys) (length xs) ≡ some y
find_here [] y ys = refl
find_here (x ∷ xs) y ys = find_here xs y ys

-- an accepted offer and any calls after it
module _ (earlier : List Call) (c len tag : ℕ) (st : Option ℕ) (yes : verdict (offer c len tag st) (run earlier).now ≡ 0) where
  open run earlier use {now as s, accepted as acc, departed as gone}

  abbrev it : Call
  it = offer c len tag st

  level : c ≡ notice_number → ⊥
  level e = omega (arith, stands_below s c (offer_done s c len tag st yes).standing, connections_few s (invariant earlier).sound)

  then : History
  then = after (run earlier) it

  then_is : after (run earlier) it ≡ logged (run earlier) it (done it s)
  then_is = ap (λ (v : ℕ). logged (run earlier) it (settle it s v)) yes

  -- it waits, behind all of its number that were accepted before
  waits_first : Waits c (length (of c acc)) (packet s c len tag st) level (bound_of s c) (early_at s c) (logged (run earlier) it (done it s))
  waits_first = record {
    later_on =
        omega (
          arith,
          ap length (conserved_lists (run earlier) (invariant earlier) c),
          length-append (map (λ (d : Departure). d.what) (departures c gone)) (of c (in_hub s)),
          length_map (λ (d : Departure). d.what) (departures c gone),
        );
    is_there =
        ap (λ (l : List Packet). get_elem? l (length (of c acc))) (of_append c acc (packet s c len tag st ∷ []))
        ∙ ap (λ (l : List Packet). get_elem? (of c acc ++ l) (length (of c acc))) (cond_is (packet s c len tag st ∷ []) [] (eq-eqb c c refl))
        ∙ find_here (of c acc) (packet s c len tag st) [];
    still_bound = refl;
    still_early = λ e. e;
  }

  module _ (later : List Call) where
    end : run (earlier ++ it ∷ later) ≡ run_from (after (run earlier) it) later
    end = run_append earlier (it ∷ later) nothing_yet

    all_through : Either c (length (of c acc)) (packet s c len tag st) level (bound_of s c) (early_at s c) (run (earlier ++ it ∷ later))
    all_through =
        subst (Either c (length (of c acc)) (packet s c len tag st) level (bound_of s c) (early_at s c)) (sym end)
        (either_through c (length (of c acc)) (packet s c len tag st) level (bound_of s c) (early_at s c) later (after (run earlier) it) (keeps (run earlier) it (invariant earlier))
        (call_begun (run earlier) (invariant earlier) (begun earlier) it)
        (subst (Either c (length (of c acc)) (packet s c len tag st) level (bound_of s c) (early_at s c)) (sym then_is) (inr waits_first)))

    left_in_time : eligibility_now s c st + bound_of s c ≤ (run (earlier ++ it ∷ later)).now.clock
        → LeftBy (run (earlier ++ it ∷ later)).departed c (length (of c acc)) (packet s c len tag st) (eligibility_now s c st + bound_of s c)
    left_in_time over =
        let G = over_left c (length (of c acc)) (packet s c len tag st) level (bound_of s c) (early_at s c) (run (earlier ++ it ∷ later)) (invariant (earlier ++ it ∷ later)) all_through over in
        record { finish = G.0; is_departure = G.1; in_time = G.2 }

    -- it has not left before its eligibility plus its length, if it might not go early
    pub not_before : early_at s c ≡ false → (finish : ℕ)
        → get_elem? (departures c (run (earlier ++ it ∷ later)).departed) (length (of c acc)) ≡ some (record { what = packet s c len tag st; finish = finish })
        → eligibility_now s c st + len ≤ finish
    not_before never finish is = go all_through
      where
        go : Either c (length (of c acc)) (packet s c len tag st) level (bound_of s c) (early_at s c) (run (earlier ++ it ∷ later)) → eligibility_now s c st + len ≤ finish
        go (inl G) = omega (arith, ap (λ (d : Departure). d.finish) (some_inj (sym G.1 ∙ is)), G.3 never)
        go (inr W) = absurd (omega (arith, W.later_on, find_below (departures c (run (earlier ++ it ∷ later)).departed) (length (of c acc)) _ is))

pub demand_3_first : Demand3First
demand_3_first earlier later c len tag st e over =
    left_in_time earlier c len tag st (sym (answer_verdict (offer c len tag st) (run earlier).now) ∙ e) later over

-- ---- the second sentence

module _ (earlier : List Call) (c len tag : ℕ) (word : Word c (earlier ++ offer c len tag none ∷ [])) (ok : allowed (run earlier).now c len none ≡ true) where
  open run earlier use {now as s, accepted as acc}

  standing : stands s c ≡ true
  standing = (heard_parts s c none (and_true (heard s c none) (within 1 (figures s c).size len) ok).0).0

  of_first_kind : stamped (figures s c) ≡ false
  of_first_kind = not-true (stamped (figures s c)) (heard_parts s c none (and_true (heard s c none) (within 1 (figures s c).size len) ok).0).1

  no_notice : c ≡ notice_number → ⊥
  no_notice e = omega (arith, stands_below s c standing, connections_few s (invariant earlier).sound)

  -- an offer frees nobody
  owner_after : owned (answer (offer c len tag none) s).next.connections c ≡ true
  owner_after = settled (λ a. owned a.next.connections c ≡ true) (offer c len tag none) s (verdict (offer c len tag none) s) (λ _. stands_owned s c standing) (λ _. stands_owned s c standing)

  -- the offers before this one and this one keep the spacing of c
  kept_so_far : WordBefore c no_notice earlier (offer c len tag none)
  kept_so_far = word_before c no_notice earlier (offer c len tag none) owner_after word

  spaced : Spaced (figures s c) (offer_ticks c earlier ++ s.clock ∷ [])
  spaced = kept_so_far.this_one s.clock (cond_is (some s.clock) none (and_intro (eqb c c) (allowed s c len none) (eq-eqb c c refl) ok))

  taken_so_far : AllTaken c no_notice s (run earlier).present (offer_ticks c earlier)
  taken_so_far = all_taken c no_notice earlier of_first_kind kept_so_far.so_far

  arrival : eligibility_now s c none ≡ s.clock
  arrival = on_arrival c no_notice (run earlier) (invariant earlier) (offer_ticks c earlier) taken_so_far of_first_kind len tag ok spaced

  free_place : length (of c s.held) < reservation s.link (figures s c)
  free_place = has_room c no_notice (run earlier) (invariant earlier) (offer_ticks c earlier) taken_so_far of_first_kind len tag ok spaced

  welcomed : s.clock < clock_end → verdict (offer c len tag none) s ≡ 0
  welcomed running = welcome (run earlier) (invariant earlier) c len tag none ok free_place refl (near_arrival s c none arrival) running

  leaves : s.clock < clock_end → (later : List Call) → s.clock + bound_of s c ≤ (run (earlier ++ offer c len tag none ∷ later)).now.clock
      → LeftBy (run (earlier ++ offer c len tag none ∷ later)).departed c (length (of c acc)) (record { connection = c; len = len; tag = tag; arrival = s.clock; eligibility = s.clock }) (s.clock + bound_of s c)
  leaves running later over =
      subst
      (λ (e : ℕ). LeftBy (run (earlier ++ offer c len tag none ∷ later)).departed c (length (of c acc)) (record { connection = c; len = len; tag = tag; arrival = s.clock; eligibility = e }) (e + bound_of s c))
      arrival (left_in_time earlier c len tag none (welcomed running) later (omega (arith, arrival)))

pub demand_3_second : Demand3Second
demand_3_second earlier later c len tag w ok =
    let word = word_is c (earlier ++ offer c len tag none ∷ []) w in record {
      never_for_room = λ e. not_for_room (run earlier) (invariant earlier) c len tag none ok (free_place earlier c len tag word ok) refl (near_arrival (run earlier).now c none (arrival earlier c len tag word ok)) (sym (answer_verdict (offer c len tag none) (run earlier).now) ∙ e);
      accepted = λ running. answer_verdict (offer c len tag none) (run earlier).now ∙ welcomed earlier c len tag word ok running;
      eligible = λ running.
          ap (λ (v : ℕ). (settle (offer c len tag none) (run earlier).now v).number) (welcomed earlier c len tag word ok running) ∙ arrival earlier c len tag word ok;
      in_time = λ running over. leaves earlier c len tag word ok running later over;
    }

-- ---- bed nine and bed ten

pub told_by_its_own : (ks : List Call) (c : ℕ) → stamped (figures (run ks).now c) ≡ false → KeepsItsWord c ks → All (Own (figures (run ks).now c)) (exchanges c ks)
told_by_its_own ks c kind word = go (same c notice_number)
  where
    go : (c ≡ notice_number) ⊎ (c ≡ notice_number → ⊥) → All (Own (figures (run ks).now c)) (exchanges c ks)
    go (inl n) = subst (All (Own (figures (run ks).now c))) (sym (no_exchanges c ks (subst (λ (j : ℕ). owned (run ks).now.connections j ≡ false) (sym n) (no_owner (run ks).now (invariant ks).sound)))) tt
    go (inr level) = told_by_own c level ks kind (word_is c ks word)

-- of the first kind
of_first : (ks ms : List Call) (c d : ℕ) → figures (run ks).now c ≡ figures (run ms).now d → map (λ (e : Exchange). e.asked) (exchanges c ks) ≡ map (λ (e : Exchange). e.asked) (exchanges d ms)
    → stamped (figures (run ks).now c) ≡ false → KeepsItsWord c ks → exchanges c ks ≡ exchanges d ms
of_first ks ms c d alike asked kind word =
    own_answers x (exchanges c ks) (told_by_its_own ks c kind word)
    ∙ ap (map (first_answer x)) asked
    ∙ ap (λ (y : Connection). map (first_answer y) (map (λ (e : Exchange). e.asked) (exchanges d ms))) alike
    ∙ sym (own_answers (figures (run ms).now d) (exchanges d ms) (told_by_its_own ms d (subst (λ (y : Connection). stamped y ≡ false) alike kind) word_there))
  where
    x : Connection
    x = figures (run ks).now c

    -- it keeps its word there because it asks the same
    word_there : KeepsItsWord d ms
    word_there =
        subst (λ (y : Connection). Spaced y (own_ticks y (map (λ (e : Exchange). e.asked) (exchanges d ms)))) alike
        (subst (λ qs. Spaced x (own_ticks x qs)) asked word)

-- ---- without a silence

pub without_silence : WithoutSilence
without_silence = (as_in_the_base, no_silence_runs)

-- ---- average rates

pub spacing_says : SpacingSays
spacing_says c es = says c es

pub no_window_holds_more : NoWindowHoldsMore
no_window_holds_more c g es s b w = omega (arith, hits_are b w es, no_window_more c es b w g s)

pub the_count_is_reached : TheCountIsReached
the_count_is_reached l c f w = let r = count_reached l c f w in (r.0, r.1, hits_are 0 w r.0 ∙ r.2)

pub the_count_never_falls : TheCountNeverFalls
the_count_never_falls c g w v l = count_mono c g w v l

pub without_average : WithoutAverage
without_average c P = as_before c P

-- ---- closing

pub closing_frees : ClosingFrees
closing_frees s c S linked = record {
  gets_10 = (refusals c s S linked).0;
  gets_16 = (refusals c s S linked).1;
  offers_get_10 = λ e len tag st. (tens s S c e len tag st).0;
  closes = closes c s;
  lasts = λ k e. lasts s S c e k;
}

pub lowest_number_is_given : LowestNumberIsGiven
lowest_number_is_given x s v = lowest_given x s v

-- ---- a second hub behind the first

pub first_kind : FirstKind
first_kind c k a = first_as_before c k a

pub second_kind : SecondKind
second_kind c P = second_as_asked c P

pub level_test_counts_alike : (l : Link) (cs : List Connection) → level_test l cs ≡ level_test l (map by_its_gap cs)
level_test_counts_alike l cs = test_alike l cs

pub verdicts_of_an_offer : VerdictsOfAnOffer
verdicts_of_an_offer s c len tag st S linked = record {
  ten = subst (λ (v : ℕ). v ≡ 10 ↔ ((stands s c ≡ true) × (suits (figures s c) st ≡ true) → ⊥)) (sym is) (ten c len tag st s S linked);
  seventeen = λ stamp i.
      let k = seventeen c len tag stamp s S linked in (
        λ e.
            let r = k.0 (as_asked i (sym is ∙ e)) in
            (record { ok = subst (λ (o : Option ℕ). allowed s c len o ≡ true) (sym i) r.0; room = r.1; running = r.2 }, r.3),
        λ r. is ∙ as_given i (k.1 (subst (λ (o : Option ℕ). allowed s c len o ≡ true) i r.0.ok, r.0.room, r.0.running, r.1)),
      );
  eighteen =
      let k = eighteen c len tag st s S linked in (
        λ e. let r = k.0 (sym is ∙ e) in (record { ok = r.0; room = r.1; running = r.2 }, r.3, r.4, r.5),
        λ r. is ∙ k.1 (r.0.ok, r.0.room, r.0.running, r.1, r.2, r.3),
      );
  stamps_never_18 = λ stamp i e. stamps_never c len tag stamp s (as_asked i (sym is ∙ e));
}
  where
    is : (answer (offer c len tag st) s).verdict ≡ verdict (offer c len tag st) s
    is = answer_verdict (offer c len tag st) s

    as_asked : {stamp v : ℕ} → st ≡ some stamp → verdict (offer c len tag st) s ≡ v → verdict (offer c len tag (some stamp)) s ≡ v
    as_asked i e = ap (λ (o : Option ℕ). verdict (offer c len tag o) s) (sym i) ∙ e

    as_given : {stamp v : ℕ} → st ≡ some stamp → verdict (offer c len tag (some stamp)) s ≡ v → verdict (offer c len tag st) s ≡ v
    as_given i e = ap (λ (o : Option ℕ). verdict (offer c len tag o) s) i ∙ e

pub no_finish_before : NoFinishBefore
no_finish_before earlier later c len tag st finish e never is =
    not_before earlier c len tag st (sym (answer_verdict (offer c len tag st) (run earlier).now) ∙ e) later
    (⊎_elim (λ i. never_stamped (run earlier).now.link (figures (run earlier).now c) i) (λ i. never_off (run earlier).now.link (figures (run earlier).now c) i) never)
    finish is

pub demand_3_for_stamps : Demand3ForStamps
demand_3_for_stamps earlier later c len tag stamp ok n =
    let no = no_cause_false (run earlier).now c stamp n in
    record {
      never_for_room = λ e.
          not_for_room (run earlier) (invariant earlier) c len tag (some stamp) ok (stamp_room earlier c len tag stamp ok no) no (stamp_near earlier c len tag stamp ok no) (sym (answer_verdict (offer c len tag (some stamp)) (run earlier).now) ∙ e);
      accepted = λ running. answer_verdict (offer c len tag (some stamp)) (run earlier).now ∙ stamp_taken earlier c len tag stamp ok no running;
      eligible = λ running. ap (λ (v : ℕ). (settle (offer c len tag (some stamp)) (run earlier).now v).number) (stamp_taken earlier c len tag stamp ok no running);
      in_time = λ running over. left_in_time earlier c len tag (some stamp) (stamp_taken earlier c len tag stamp ok no running) later over;
    }

pub bed_nine_and_bed_ten : BedNineAndBedTen
bed_nine_and_bed_ten ks ms c d alike asked word = go (stamped (figures (run ks).now c)) refl
  where
    go : (b : Bool) → stamped (figures (run ks).now c) ≡ b → exchanges c ks ≡ exchanges d ms
    go true second = alike_with_stamps ks ms c d alike asked second word
    go false first_kind = of_first ks ms c d alike asked first_kind word

-- ---- the stand-by queue

pub without_stand_by : WithoutStandBy
without_stand_by = (
  link_only,
  λ s off. record {
    line_is = start_only s off;
    rows_are = rows_only s off;
    service_is = service_only s off;
    verdict_is = λ c len tag st. answer_verdict (offer c len tag st) s ∙ verdict_only s off c len tag st;
  },
)
