-- The examples computed without the test of a sound state, which need not be asked of a sound one, and with the numbers freed in one go over the lists.
use Prim.Native.Nat.{ℕ, zero, suc}
use native.Mathlib.Omega.{arith}
use mathlib.Core.Path.{◌≡◌, refl, ap, ◌∙◌}
use mathlib.Core.Bool.{Bool, true, false, cond, not, ◌&&◌}
use mathlib.Core.Logic.{⊎_elim}
use mathlib.Core.List.{List, [], ◌∷◌, ◌++◌, map}
use mathlib.Core.Option.{Option, none, some}
use lib.Dec.{eqb}
use lib.ListN.{length, get_or, replicate, length-set, length-replicate}
use Rattle.rules.specs.Words.{tabulate, first_number, push}
use Rattle.rules.specs.Limits.{max_connections}
use Rattle.rules.specs.Model.{Connection, Past, State, Call, link, admit, offer, notice, close, tick, Answer, no_connection, no_past, fresh, with_connections, with_closed}
use Rattle.rules.specs.Admission.{charge_time}
use Rattle.rules.specs.Service.{ticked, charge_over, expired, swept, cleared}
use Rattle.rules.proofs.Doings.{swept_pasts, swept_marks}
use Rattle.rules.specs.SoundState.{Sound}
use Rattle.rules.specs.SoundTest.{sound}
use Rattle.rules.specs.Calls.{causes, heard, verdicts, done, refused_number, settle, answer}
use Rattle.rules.proofs.Doings.{accepted}
use Rattle.rules.proofs.Doings.{marked, refused}
use Rattle.rules.specs.Runs.{Departure, History, departure_of, own_departures, logged, after, run_from, nothing_yet, run, Exchange, exchange, exchanges}
use Rattle.rules.proofs.RunWords.{departing}
use Rattle.rules.proofs.RunWords.{leaving}
use Rattle.rules.proofs.RunWords.{while_owned, own_departures_from, exchanges_from}
use Rattle.rules.specs.Examples.{Seen, Case, sums_at, reservations_at, seen}
use Rattle.rules.specs.WorkedLimits.{Outcome, Trial, outcome}
use Rattle.rules.proofs.Lists.{All}
use Rattle.rules.proofs.Sums.{same, cond_is}
use Rattle.rules.proofs.Line.{tick_leaves}
use Rattle.rules.proofs.SoundKept.{kept}
use Rattle.rules.proofs.Every.{fresh_invariant, invariant}
use Rattle.rules.proofs.SoundExact.{exact}

-- ---- the numbers freed in one go

abbrev pub sweep : {A : Type 0} → A → ℕ → ℕ → List A → List Past → List Bool → List A
sweep d time t [] hs bs = []
sweep d time t (x ∷ xs) [] bs = []
sweep d time t (x ∷ xs) (h ∷ hs) [] = []
sweep d time t (x ∷ xs) (h ∷ hs) (b ∷ bs) = cond (b && charge_over time t h) d x ∷ sweep d time t xs hs bs

sweep_is : {A : Type 0} (d : A) (time t n : ℕ) (xs : List A) (hs : List Past) (bs : List Bool) → length xs ≡ n → length hs ≡ n → length bs ≡ n
    → tabulate n (λ c. cond (get_or bs c false && charge_over time t (get_or hs c no_past)) d (get_or xs c d)) ≡ sweep d time t xs hs bs
sweep_is d time t zero [] hs bs e f g = refl
sweep_is d time t zero (x ∷ xs) hs bs e f g = absurd (omega arith)
sweep_is d time t (suc n) [] hs bs e f g = absurd (omega arith)
sweep_is d time t (suc n) (x ∷ xs) [] bs e f g = absurd (omega arith)
sweep_is d time t (suc n) (x ∷ xs) (h ∷ hs) [] e f g = absurd (omega arith)
sweep_is {A} d time t (suc n) (x ∷ xs) (h ∷ hs) (b ∷ bs) e f g =
    ap (λ (l : List A). cond (b && charge_over time t h) d x ∷ l) (sweep_is d time t n xs hs bs (omega arith) (omega arith) (omega arith))

-- one entry for each number
pub record Numbered (s : State) : Type 0 where
  pub connections : length s.connections ≡ max_connections
  pub pasts : length s.pasts ≡ max_connections
  pub closed : length s.closed ≡ max_connections

abbrev pub quick_swept : State → State
quick_swept s =
    let time = charge_time s.link in
    with_closed
    (with_connections s (sweep no_connection time s.clock s.connections s.pasts s.closed) (sweep no_past time s.clock s.pasts s.pasts s.closed))
    (sweep false time s.clock s.closed s.pasts s.closed)

swept_is : (s : State) → Numbered s → swept s ≡ quick_swept s
unfolding expired cleared
swept_is s N =
    ap (λ (cs : List Connection). with_closed (with_connections s cs (swept_pasts s)) (swept_marks s))
    (sweep_is no_connection (charge_time s.link) s.clock max_connections s.connections s.pasts s.closed N.connections N.pasts N.closed)
    ∙ ap (λ (hs : List Past). with_closed (with_connections s (quick_swept s).connections hs) (swept_marks s))
    (sweep_is no_past (charge_time s.link) s.clock max_connections s.pasts s.pasts s.closed N.pasts N.pasts N.closed)
    ∙ ap (λ (bs : List Bool). with_closed (with_connections s (quick_swept s).connections (quick_swept s).pasts) bs)
    (sweep_is false (charge_time s.link) s.clock max_connections s.closed s.pasts s.closed N.closed N.pasts N.closed)

sound_numbered : (s : State) → Sound s → Numbered s
sound_numbered s S =
    ⊎_elim
    (λ z. record {
      connections = ap (λ (r : State). length r.connections) (S.with_no_link z) ∙ length-replicate max_connections no_connection;
      pasts = ap (λ (r : State). length r.pasts) (S.with_no_link z) ∙ length-replicate max_connections no_past;
      closed = ap (λ (r : State). length r.closed) (S.with_no_link z) ∙ length-replicate max_connections false;
    })
    (λ n. record { connections = (S.with_one n).orderly.numbers; pasts = (S.with_one n).orderly.one_past_each; closed = (S.with_one n).orderly.one_mark_each })
    (same s.link.levels 0)

marked_numbered : (s : State) (c : ℕ) → Numbered s → Numbered (marked s c)
marked_numbered s c N = record { connections = N.connections; pasts = N.pasts; closed = length-set s.closed c true ∙ N.closed }

ticked_numbered : (s : State) → Numbered s → Numbered (ticked s).next
ticked_numbered s N =
    let l = tick_leaves s in
    record {
      connections = ap (λ (cs : List Connection). length cs) l.connections ∙ N.connections;
      pasts = ap (λ (hs : List Past). length hs) l.pasts ∙ N.pasts;
      closed = ap (λ (bs : List Bool). length bs) l.closed ∙ N.closed;
    }

-- ---- the answer

-- the answer `a` with the state behind it given
abbrev pub then : Answer → State → Answer
then a s = record { verdict = a.verdict; number = a.number; short = a.short; departed = a.departed; next = s }

abbrev pub quick_done : Call → State → Answer
quick_done (link l) s = done (link l) s
quick_done (admit x) s = done (admit x) s
quick_done (offer c len tag st) s = done (offer c len tag st) s
quick_done (notice len tag) s = done (notice len tag) s
quick_done (close c) s = accepted 0 (quick_swept (marked s c))
quick_done tick s = then (ticked s) (quick_swept (ticked s).next)

abbrev pub quick_settle : Call → State → ℕ → Answer
quick_settle k s zero = quick_done k s
quick_settle k s (suc v) = refused k s (suc v)

abbrev pub quick_answer : Call → State → Answer
quick_answer k s = quick_settle k s (first_number (causes k s))

done_is : (k : Call) (s : State) → Numbered s → done k s ≡ quick_done k s
done_is (link l) s N = refl
done_is (admit x) s N = refl
done_is (offer c len tag st) s N = refl
done_is (notice len tag) s N = refl
done_is (close c) s N = ap (accepted 0) (swept_is (marked s c) (marked_numbered s c N))
done_is tick s N = ap (then (ticked s)) (swept_is (ticked s).next (ticked_numbered s N))

settle_is : (k : Call) (s : State) → Numbered s → (v : ℕ) → settle k s v ≡ quick_settle k s v
settle_is k s N zero = done_is k s N
settle_is k s N (suc v) = refl

pub quick_is : (k : Call) (s : State) → sound s ≡ true → answer k s ≡ quick_answer k s
unfolding verdicts
quick_is k s e =
    ap (settle k s) (cond_is 1 (first_number (causes k s)) (ap not e)) ∙ settle_is k s (sound_numbered s ((exact s).0 e)) (first_number (causes k s))

-- ---- a run

abbrev pub quick_from : History → List Call → History
quick_from h [] = h
quick_from h (k ∷ ks) = quick_from (logged h k (quick_answer k h.now)) ks

pub quick_run : (ks : List Call) (h : History) → Sound h.now → run_from h ks ≡ quick_from h ks
quick_run [] h S = refl
quick_run (k ∷ ks) h S =
    quick_run ks (after h k) (kept k h.now S) ∙ ap (λ (a : Answer). quick_from (logged h k a) ks) (quick_is k h.now ((exact h.now).1 S))

pub fresh_sound : Sound fresh
fresh_sound = fresh_invariant.sound

-- ---- what is seen of a call

unfoldable pub quick_seen : Case → Seen
quick_seen x =
    let s = (quick_from nothing_yet x.before).now in
    record {
      verdict = (quick_answer x.call s).verdict;
      number = (quick_answer x.call s).number;
      short = (quick_answer x.call s).short;
      sums = sums_at s x.call;
      reservations = reservations_at s x.call;
      finishes = map (λ (d : Departure). d.finish) (quick_from nothing_yet (x.before ++ x.call ∷ replicate x.ticks tick)).departed;
    }

-- what is seen by an answer, a state before it and a history after it
abbrev look : Call → Answer → State → History → Seen
look k a s h = record {
  verdict = a.verdict;
  number = a.number;
  short = a.short;
  sums = sums_at s k;
  reservations = reservations_at s k;
  finishes = map (λ (d : Departure). d.finish) h.departed;
}

pub quick_same : (x : Case) → seen x ≡ quick_seen x
unfolding seen quick_seen
quick_same x =
    ap (λ (h : History). look x.call (answer x.call (run x.before).now) (run x.before).now h)
    (quick_run (x.before ++ x.call ∷ replicate x.ticks tick) nothing_yet fresh_sound)
    ∙ ap (λ (a : Answer). look x.call a (run x.before).now (quick_from nothing_yet (x.before ++ x.call ∷ replicate x.ticks tick)))
    (quick_is x.call (run x.before).now ((exact (run x.before).now).1 (invariant x.before).sound))
    ∙ ap (λ (h : History). look x.call (quick_answer x.call h.now) h.now (quick_from nothing_yet (x.before ++ x.call ∷ replicate x.ticks tick)))
    (quick_run x.before nothing_yet fresh_sound)

pub quick_all : (xs : List Case) → map seen xs ≡ map quick_seen xs
quick_all [] = refl
quick_all (x ∷ xs) = ap (λ (y : Seen). y ∷ map seen xs) (quick_same x) ∙ ap (λ (ys : List Seen). quick_seen x ∷ ys) (quick_all xs)

-- ---- what a connection asks and is told

-- the exchange of an offer that gets the answer a
abbrev exchanged : ℕ → State → ℕ → ℕ → Option ℕ → Answer → Exchange
exchanged c s len tag st a = record { asked = record { at = s.clock; len = len; tag = tag; stamp = st }; verdict = a.verdict; eligibility = a.number }

abbrev pub quick_exchange : ℕ → State → Call → Option Exchange
quick_exchange c s (link l) = none
quick_exchange c s (admit x) = none
quick_exchange c s (offer d len tag st) = cond (eqb d c && heard s c st) (some (exchanged c s len tag st (quick_answer (offer d len tag st) s))) none
quick_exchange c s (notice len tag) = none
quick_exchange c s (close d) = none
quick_exchange c s tick = none

exchange_is : (c : ℕ) (s : State) (k : Call) → sound s ≡ true → exchange c s k ≡ quick_exchange c s k
exchange_is c s (link l) e = refl
exchange_is c s (admit x) e = refl
exchange_is c s (offer d len tag st) e = ap (λ (a : Answer). cond (eqb d c && heard s c st) (some (exchanged c s len tag st a)) none) (quick_is (offer d len tag st) s e)
exchange_is c s (notice len tag) e = refl
exchange_is c s (close d) e = refl
exchange_is c s tick e = refl

abbrev pub quick_exchanges_from : ℕ → History → List Exchange → List Call → List Exchange
quick_exchanges_from c h es [] = es
quick_exchanges_from c h es (k ∷ ks) =
    let r = logged h k (quick_answer k h.now) in
    quick_exchanges_from c r (while_owned r.now c (push es (quick_exchange c h.now k))) ks

exchanges_are : (c : ℕ) (h : History) (es : List Exchange) (ks : List Call) → Sound h.now → exchanges_from c h es ks ≡ quick_exchanges_from c h es ks
exchanges_are c h es [] S = refl
exchanges_are c h es (k ∷ ks) S =
    exchanges_are c (after h k) (while_owned (after h k).now c (push es (exchange c h.now k))) ks (kept k h.now S)
    ∙ ap (λ (o : Option Exchange). quick_exchanges_from c (after h k) (while_owned (after h k).now c (push es o)) ks) (exchange_is c h.now k ((exact h.now).1 S))
    ∙ ap (λ (a : Answer). quick_exchanges_from c (logged h k a) (while_owned a.next c (push es (quick_exchange c h.now k))) ks) (quick_is k h.now ((exact h.now).1 S))

pub quick_exchanges : (c : ℕ) (ks : List Call) → exchanges c ks ≡ quick_exchanges_from c nothing_yet [] ks
quick_exchanges c ks = exchanges_are c nothing_yet [] ks fresh_sound

-- ---- what leaves of a connection

abbrev pub quick_departures_from : ℕ → History → List Departure → List Call → List Departure
quick_departures_from c h ds [] = ds
quick_departures_from c h ds (k ∷ ks) =
    let a = quick_answer k h.now in
    quick_departures_from c (logged h k a) (while_owned a.next c (push ds (departure_of c (leaving h.now a.departed)))) ks

departures_are : (c : ℕ) (h : History) (ds : List Departure) (ks : List Call) → Sound h.now → own_departures_from c h ds ks ≡ quick_departures_from c h ds ks
departures_are c h ds [] S = refl
departures_are c h ds (k ∷ ks) S =
    departures_are c (after h k) (while_owned (after h k).now c (push ds (departing c h.now k))) ks (kept k h.now S)
    ∙ ap (λ (a : Answer). quick_departures_from c (logged h k a) (while_owned a.next c (push ds (departure_of c (leaving h.now a.departed)))) ks)
    (quick_is k h.now ((exact h.now).1 S))

pub quick_departures : (c : ℕ) (ks : List Call) → own_departures c ks ≡ quick_departures_from c nothing_yet [] ks
quick_departures c ks = departures_are c nothing_yet [] ks fresh_sound

-- the state after a run
pub quick_now : (ks : List Call) → (run ks).now ≡ (quick_from nothing_yet ks).now
quick_now ks = ap (λ (h : History). h.now) (quick_run ks nothing_yet fresh_sound)

-- ---- a call on a state that is made by hand

abbrev only_now : State → History
only_now s = record { accepted = []; departed = []; present = []; now = s }

-- what comes of it, by the answer and the history behind it
abbrev comes : Answer → History → Outcome
comes a h = record { verdict = a.verdict; number = a.number; departed = map (λ (d : Departure). (d.what.connection, d.what.tag)) h.departed }

unfoldable pub quick_outcome : Trial → Outcome
quick_outcome x = comes (quick_answer x.call x.on) (quick_from (only_now x.on) (x.call ∷ replicate x.ticks tick))

quick_of : (x : Trial) → sound x.on ≡ true → outcome x ≡ quick_outcome x
unfolding outcome quick_outcome
quick_of x e =
    ap (λ (a : Answer). comes a (run_from (only_now x.on) (x.call ∷ replicate x.ticks tick))) (quick_is x.call x.on e)
    ∙ ap (comes (quick_answer x.call x.on)) (quick_run (x.call ∷ replicate x.ticks tick) (only_now x.on) ((exact x.on).0 e))

-- on sound states
pub quick_outcomes : (xs : List Trial) → All (λ x. sound x.on ≡ true) xs → map outcome xs ≡ map quick_outcome xs
quick_outcomes [] k = refl
quick_outcomes (x ∷ xs) k = ap (λ (y : Outcome). y ∷ map outcome xs) (quick_of x k.0) ∙ ap (λ (ys : List Outcome). quick_outcome x ∷ ys) (quick_outcomes xs k.1)

-- on a state that is not sound a call is refused with 1
abbrev pub refused_outcome : Trial → Outcome
refused_outcome x = record { verdict = 1; number = refused_number x.call; departed = [] }

refused_of : (x : Trial) → sound x.on ≡ false → x.ticks ≡ 0 → outcome x ≡ refused_outcome x
unfolding verdicts outcome
refused_of x e z =
    ap (λ (n : ℕ). comes (answer x.call x.on) (run_from (only_now x.on) (x.call ∷ replicate n tick))) z
    ∙ ap (λ (v : ℕ). comes (settle x.call x.on v) (logged (only_now x.on) x.call (settle x.call x.on v))) (cond_is 1 (first_number (causes x.call x.on)) (ap not e))

pub refused_outcomes : (xs : List Trial) → All (λ x. (sound x.on ≡ false) × (x.ticks ≡ 0)) xs → map outcome xs ≡ map refused_outcome xs
refused_outcomes [] k = refl
refused_outcomes (x ∷ xs) k = ap (λ (y : Outcome). y ∷ map outcome xs) (refused_of x k.0.0 k.0.1) ∙ ap (λ (ys : List Outcome). refused_outcome x ∷ ys) (refused_outcomes xs k.1)
