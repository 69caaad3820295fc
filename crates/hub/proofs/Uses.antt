-- HOW A STATEMENT OF THE RULES IS HAD OF THE CODE, on six of them: of one call by `holds_as_of_the_rules`, of any calls by `follows_the_rules` and `told_as_in_the_run`.
use Prim.Native.Nat.{ℕ, ◌+◌, ◌≤◌, ◌<◌}
use native.Mathlib.Omega.{arith}
use mathlib.Core.Path.{◌≡◌, refl, sym, ap, ◌∙◌, subst, transport}
use mathlib.Core.Bool.{Bool, true, false, true≢false}
use mathlib.Core.Logic.{◌↔◌}
use mathlib.Core.List.{List, [], ◌∷◌, ◌++◌}
use mathlib.Core.Option.{Option, none}
use lib.ListN.{length}
use Rattle.rules.specs.declared.Link.{Link}
use Rattle.rules.specs.declared.Connection.{Connection}
use Rattle.rules.specs.Limits.{clock_end}
use Rattle.rules.specs.Model.{State, Call, admit, offer, close, Answer, fresh, figures}
use Rattle.rules.specs.Admission.{stands, joining, windowed}
use Rattle.rules.specs.Service.{suits, of}
use Rattle.rules.specs.SoundState.{Sound}
use Rattle.rules.specs.Calls.{eligibility_now, refused_number, settle, answer}
use Rattle.rules.specs.Runs.{History, logged, run, bound_of, allowed, KeepsItsWord}
use Rattle.rules.specs.Promises.{AcceptsAt, LowestFree, LeftBy}
use Rattle.rules.proofs.Verdicts.{admit_done, short_refused}
use Rattle.rules.proofs.LevelTest.{test_holds, holds_test}
use Rattle.rules.proofs.Results.{answer_verdict, runs_are_sound, finer_test_says, demand_3_first, demand_3_second, closing_frees, lowest_number_is_given, verdicts_of_an_offer}
use Rattle.faces.specs.Promises as F
use Rattle.faces.specs.Promises.{Account}
use Rattle.line.specs.declared.Told as line
use Rattle.state.specs.View.{Hub, Tables, zero_tables, view, hub_of, written, sound_hub}
use Rattle.state.specs.Told.{Told, told_of}
use Rattle.state.specs.Does.{tells, leaves, Does}
use Rattle.hub.proofs.Results.{the_hub_keeps_to_the_rules}

-- the rules' answer, read off what a call told and the tables that it left; the account of any calls, and the state that it stands for
abbrev answer_read : Told → Tables → Answer
answer_read =
    F.answer_read Sound answer refused_number logged run History.now view hub_of written sound_hub (hub_of fresh) zero_tables tells leaves told_of line.Told.verdict line.Told.number line.Told.short line.Told.departed line.Told.kept

abbrev calls : List Call → Account History Hub
calls =
    F.calls Sound answer refused_number logged run History.now view hub_of written sound_hub (hub_of fresh) zero_tables tells leaves told_of line.Told.verdict line.Told.number line.Told.short line.Told.departed line.Told.kept

abbrev state_of : Account History Hub → State
state_of g = view g.kept g.tables

-- ---- one call

-- what a call told and the tables that it left are what its contract says
holds : (k : Call) (P : State → Answer → Type 0) → ((s : State) → Sound s → P s (answer k s)) → (h : Hub) (before : Tables) (told : Told) (after : Tables)
    → Does k h before told after → sound_hub h before ≡ true → P (view h before) (answer_read told after)
holds k P rule h before told after D e =
    transport (λ i. P (view h before) (answer_read (sym D.answers i) (sym D.tables i))) (the_hub_keeps_to_the_rules.holds_as_of_the_rules k P rule h before e)

-- `ClosingFrees`, of the verdicts of a close
close_is_refused_of_the_code : (c : ℕ) (h : Hub) (before : Tables) (told : Told) (after : Tables) → Does (close c) h before told after → sound_hub h before ≡ true
    → (h.link.levels ≡ 0 → ⊥)
    → (told.verdict ≡ 10 ↔ stands (view h before) c ≡ false)
    × (told.verdict ≡ 16 ↔ ((stands (view h before) c ≡ true) × (1 ≤ length (of c (view h before).held))))
close_is_refused_of_the_code c =
    holds (close c)
    (λ s a. (s.link.levels ≡ 0 → ⊥) → (a.verdict ≡ 10 ↔ stands s c ≡ false) × (a.verdict ≡ 16 ↔ ((stands s c ≡ true) × (1 ≤ length (of c s.held)))))
    (λ s S n. ((closing_frees s c S n).gets_10, (closing_frees s c S n).gets_16))

-- `VerdictsOfAnOffer`, of verdict 10
ten_exactly_of_the_code : (c len tag : ℕ) (st : Option ℕ) (h : Hub) (before : Tables) (told : Told) (after : Tables) → Does (offer c len tag st) h before told after
    → sound_hub h before ≡ true → (h.link.levels ≡ 0 → ⊥)
    → told.verdict ≡ 10 ↔ ((stands (view h before) c ≡ true) × (suits (figures (view h before) c) st ≡ true) → ⊥)
ten_exactly_of_the_code c len tag st =
    holds (offer c len tag st)
    (λ s a. (s.link.levels ≡ 0 → ⊥) → a.verdict ≡ 10 ↔ ((stands s c ≡ true) × (suits (figures s c) st ≡ true) → ⊥))
    (λ s S n. (verdicts_of_an_offer s c len tag st S n).ten)

-- `LowestNumberIsGiven`, which asks for verdict 0 in place of a sound hub: on any other the verdict is 1
lowest_number_is_given_of_the_code : (x : Connection) (h : Hub) (before : Tables) (told : Told) (after : Tables) → Does (admit x) h before told after
    → told.verdict ≡ 0 → LowestFree (view h before) x told.number (view told.kept after)
lowest_number_is_given_of_the_code x h before told after D z = go (sound_hub h before) refl
  where
    go : (b : Bool) → sound_hub h before ≡ b → LowestFree (view h before) x told.number (view told.kept after)
    go true e = holds (admit x) (λ s a. a.verdict ≡ 0 → LowestFree s x a.number a.next) (λ s S. lowest_number_is_given x s) h before told after D e z
    go false e = absurd (omega (arith, z, ap (λ (r : Told). r.verdict) D.answers ∙ (the_hub_keeps_to_the_rules.verdict_1_exactly (admit x) h before).1 e))

-- `FinerTestSays`, of admissions on a link with windows: taken only if what document 02 writes holds of every level with the newcomer counted, refused with 8 only if not
abbrev AllAccept : Link → List Connection → Type 0
AllAccept l cs = (m : ℕ) → 1 ≤ m → m ≤ l.levels → AcceptsAt l cs m

finer_test : (x : Connection) (s : State) → windowed s.link ≡ true
    → ((answer (admit x) s).verdict ≡ 0 → AllAccept s.link (joining s.connections x))
    × ((answer (admit x) s).verdict ≡ 8 → AllAccept s.link (joining s.connections x) → ⊥)
finer_test x s own = (
  λ z m low high. (finer_test_says l cs m own).0 (test_holds l cs (admit_done s x (sym (answer_verdict (admit x) s) ∙ z)).tests_hold m low high),
  λ z f.
      true≢false
      (sym (holds_test l cs (λ m low high. (finer_test_says l cs m own).1 (f m low high))) ∙ (short_refused s x (sym (answer_verdict (admit x) s) ∙ z)).fails),
)
  where
    l : Link
    l = s.link

    cs : List Connection
    cs = joining s.connections x

finer_test_of_the_code : (x : Connection) (h : Hub) (before : Tables) (told : Told) (after : Tables) → Does (admit x) h before told after → sound_hub h before ≡ true
    → windowed h.link ≡ true
    → (told.verdict ≡ 0 → AllAccept h.link (joining (view h before).connections x))
    × (told.verdict ≡ 8 → AllAccept h.link (joining (view h before).connections x) → ⊥)
finer_test_of_the_code x =
    holds (admit x)
    (λ s a. windowed s.link ≡ true
    → (a.verdict ≡ 0 → AllAccept s.link (joining s.connections x)) × (a.verdict ≡ 8 → AllAccept s.link (joining s.connections x) → ⊥))
    (λ s S. finer_test x s)

-- ---- any calls

-- the account of the rules' run
abbrev account_of : History → Account History Hub
account_of h = record { history = h; kept = hub_of h.now; tables = written h.now }

account_is : (ks : List Call) → calls ks ≡ account_of (run ks)
account_is ks i =
    let f = the_hub_keeps_to_the_rules.follows_the_rules ks in
    record { history = f.0 i; kept = f.1 i; tables = f.2 i }

-- the state that the caller keeps is the run's
state_is : (ks : List Call) → state_of (calls ks) ≡ (run ks).now
state_is ks = ap state_of (account_is ks) ∙ the_hub_keeps_to_the_rules.written_reads_back (run ks).now (runs_are_sound ks)

-- an answer to a further call that the contract allows, read so, is the rules'
told_is : (ks : List Call) (k : Call) (told : Told) (after : Tables) → Does k (calls ks).kept (calls ks).tables told after → answer_read told after ≡ answer k (run ks).now
told_is ks k told after D = (λ i. answer_read (D.answers i) (D.tables i)) ∙ the_hub_keeps_to_the_rules.told_as_in_the_run ks k

-- `Demand3First`, of the caller's account: any calls `earlier`, an offer of c that is accepted, any calls `later`. Once the clock has got there the packet is among the
-- departures, with a finish no later than the eligibility that its answer gave plus the bound of c's owner at the offer
module _ (earlier later : List Call) (c len tag : ℕ) (st : Option ℕ) where
  abbrev all : List Call
  all = earlier ++ offer c len tag st ∷ later

  -- in the account g of the calls before it and G of all, with the state s at the offer and its eligibility n; and with its answer a
  abbrev InTime : Account History Hub → Account History Hub → State → ℕ → Type 0
  InTime g G s n =
      n + bound_of s c ≤ G.kept.clock
      → LeftBy G.history.departed c (length (of c g.history.accepted)) (record { connection = c; len = len; tag = tag; arrival = g.kept.clock; eligibility = n }) (n + bound_of s c)

  abbrev IfAccepted : Account History Hub → Account History Hub → State → Answer → Type 0
  IfAccepted g G s a = a.verdict ≡ 0 → InTime g G s a.number

  in_the_run : IfAccepted (account_of (run earlier)) (account_of (run all)) (run earlier).now (answer (offer c len tag st) (run earlier).now)
  in_the_run z = subst (InTime (account_of (run earlier)) (account_of (run all)) s) (sym number_is) (demand_3_first earlier later c len tag st z)
    where
      s : State
      s = (run earlier).now

      number_is : (answer (offer c len tag st) s).number ≡ eligibility_now s c st
      number_is = ap (λ (v : ℕ). (settle (offer c len tag st) s v).number) (sym (answer_verdict (offer c len tag st) s) ∙ z)

  demand_3_first_of_the_code : (told : Told) (after : Tables) → Does (offer c len tag st) (calls earlier).kept (calls earlier).tables told after
      → told.verdict ≡ 0
      → told.number + bound_of (state_of (calls earlier)) c ≤ (calls all).kept.clock
      → LeftBy (calls all).history.departed c (length (of c (calls earlier).history.accepted))
      (record { connection = c; len = len; tag = tag; arrival = (calls earlier).kept.clock; eligibility = told.number })
      (told.number + bound_of (state_of (calls earlier)) c)
  demand_3_first_of_the_code told after D =
      transport (sym (λ i. IfAccepted (account_is earlier i) (account_is all i) (state_is earlier i) (told_is earlier (offer c len tag st) told after D i))) in_the_run

-- `Demand3Second`, but for the departure: what an offer of allowed length is told where c has kept its word, with this offer. Never 12; while the clock runs it is
-- accepted, eligible on arrival
demand_3_second_of_the_code : (earlier : List Call) (c len tag : ℕ) (told : Told) (after : Tables) → Does (offer c len tag none) (calls earlier).kept (calls earlier).tables told after
    → KeepsItsWord c (earlier ++ offer c len tag none ∷ [])
    → allowed (state_of (calls earlier)) c len none ≡ true
    → (told.verdict ≡ 12 → ⊥) × ((calls earlier).kept.clock < clock_end → (told.verdict ≡ 0) × (told.number ≡ (calls earlier).kept.clock))
demand_3_second_of_the_code earlier c len tag told after D word =
    transport (sym (λ i. Accepted (account_is earlier i) (state_is earlier i) (told_is earlier (offer c len tag none) told after D i)))
    (λ good. let kept = demand_3_second earlier [] c len tag word good in (kept.never_for_room, λ runs. (kept.accepted runs, kept.eligible runs)))
  where
    Accepted : Account History Hub → State → Answer → Type 0
    Accepted g s a =
        allowed s c len none ≡ true → (a.verdict ≡ 12 → ⊥) × (g.kept.clock < clock_end → (a.verdict ≡ 0) × (a.number ≡ g.kept.clock))
