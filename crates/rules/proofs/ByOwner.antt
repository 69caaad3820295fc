-- Conservation from a moment on at which nothing of a number waits, and so for each owner of a number (document 02, R-8).
use Prim.Native.Nat.{ℕ}
use native.Mathlib.Omega.{arith}
use mathlib.Core.Path.{◌≡◌, refl, sym, ap, ◌∙◌, subst}
use mathlib.Core.Bool.{false, true≢false}
use mathlib.Core.List.{List, [], ◌∷◌, ◌++◌, map, append-nil, append_assoc}
use lib.ListN.{length, drop}
use Rattle.rules.specs.Model.{Connection, Packet, Call, admit}
use Rattle.rules.specs.Admission.{owned, free_number}
use Rattle.rules.specs.Service.{of}
use Rattle.rules.specs.SoundState.{Orderly}
use Rattle.rules.specs.Calls.{verdict, settle, answer}
use Rattle.rules.specs.Runs.{Departure, History, after, run_from, nothing_yet, run, departures, in_hub}
use Rattle.rules.proofs.RunWords.{taken, leaving}
use Rattle.rules.proofs.Lists.{all_map}
use Rattle.rules.proofs.Rows.{of_append, map_append}
use Rattle.rules.proofs.Notices.{of_none}
use Rattle.rules.proofs.Standing.{level_free, free_is}
use Rattle.rules.proofs.Verdicts.{AdmitDone, admit_done}
use Rattle.rules.proofs.Invariant.{whats}
use Rattle.rules.proofs.Every.{invariant}
use Rattle.rules.proofs.InTime.{conserved_lists, departures_append, held_waits}
use Rattle.rules.proofs.Through.{push_is}
use Rattle.rules.proofs.Keeper.{run_append}

-- from one moment on: what was accepted of number c since = what departed since, followed by what waits
abbrev pub ConservedSince : List Call → List Call → ℕ → Type 0
ConservedSince earlier later c =
    drop (length (of c (run earlier).accepted)) (of c (run (earlier ++ later)).accepted)
    ≡ map (λ d. d.what) (drop (length (departures c (run earlier).departed)) (departures c (run (earlier ++ later)).departed))
    ++ of c (in_hub (run (earlier ++ later)).now)

accepted_grows : (ks : List Call) (h : History) → (more : List Packet) × ((run_from h ks).accepted ≡ h.accepted ++ more)
accepted_grows [] h = ([], sym (append-nil h.accepted))
accepted_grows (k ∷ ks) h =
    let a = push_is h.accepted (taken k h.now (answer k h.now)) in
    let b = accepted_grows ks (after h k) in
    (a.0 ++ b.0, b.1 ∙ ap (λ (l : List Packet). l ++ b.0) a.1 ∙ append_assoc h.accepted a.0 b.0)

departed_grows : (ks : List Call) (h : History) → (more : List Departure) × ((run_from h ks).departed ≡ h.departed ++ more)
departed_grows [] h = ([], sym (append-nil h.departed))
departed_grows (k ∷ ks) h =
    let a = push_is h.departed (leaving h.now (answer k h.now).departed) in
    let b = departed_grows ks (after h k) in
    (a.0 ++ b.0, b.1 ∙ ap (λ (l : List Departure). l ++ b.0) a.1 ∙ append_assoc h.departed a.0 b.0)

drop_front : {A : Type 0} (xs ys : List A) → drop (length xs) (xs ++ ys) ≡ ys
drop_front [] ys = refl
drop_front (x ∷ xs) ys = drop_front xs ys

-- it holds from any moment on at which nothing of number c waits
pub since : (earlier later : List Call) (c : ℕ) → of c (in_hub (run earlier).now) ≡ [] → ConservedSince earlier later c
since earlier later c none_waits =
    ap (drop (length (of c acc))) all
    ∙ drop_front (of c acc) (of c a.0)
    ∙ sym (drop_front (of c acc) (of c a.0))
    ∙ ap (drop (length (of c acc))) whole
    ∙ drop_front (of c acc) (whats (departures c d.0) ++ rest)
    ∙ ap (λ (ds : List Departure). whats ds ++ rest) (sym (ap (drop (length (departures c gone))) gone_all ∙ drop_front (departures c gone) (departures c d.0)))
  where
    acc : List Packet
    acc = (run earlier).accepted

    gone : List Departure
    gone = (run earlier).departed

    rest : List Packet
    rest = of c (in_hub (run (earlier ++ later)).now)

    a : (more : List Packet) × ((run_from (run earlier) later).accepted ≡ (run earlier).accepted ++ more)
    a = accepted_grows later (run earlier)

    d : (more : List Departure) × ((run_from (run earlier) later).departed ≡ (run earlier).departed ++ more)
    d = departed_grows later (run earlier)

    all : of c (run (earlier ++ later)).accepted ≡ of c acc ++ of c a.0
    all = ap (λ (h : History). of c h.accepted) (run_append earlier later nothing_yet) ∙ ap (of c) a.1 ∙ of_append c acc a.0

    gone_all : departures c (run (earlier ++ later)).departed ≡ departures c gone ++ departures c d.0
    gone_all = ap (λ (h : History). departures c h.departed) (run_append earlier later nothing_yet) ∙ ap (departures c) d.1 ∙ departures_append c gone d.0

    -- nothing waited then, so all that was accepted had left
    all_left : of c acc ≡ whats (departures c gone)
    all_left = conserved_lists (run earlier) (invariant earlier) c ∙ ap (λ (l : List Packet). whats (departures c gone) ++ l) none_waits ∙ append-nil (whats (departures c gone))

    whole : of c acc ++ of c a.0 ≡ of c acc ++ (whats (departures c d.0) ++ rest)
    whole =
        sym all
        ∙ conserved_lists (run (earlier ++ later)) (invariant (earlier ++ later)) c
        ∙ ap (λ (ds : List Departure). whats ds ++ rest) gone_all
        ∙ ap (λ (ps : List Packet). ps ++ rest) (map_append (λ (d : Departure). d.what) (departures c gone) (departures c d.0))
        ∙ append_assoc (whats (departures c gone)) (whats (departures c d.0)) rest
        ∙ ap (λ (ps : List Packet). ps ++ (whats (departures c d.0) ++ rest)) (sym all_left)

-- a number that is given has no packet
pub by_owner : (earlier later : List Call) (x : Connection) → verdict (admit x) (run earlier).now ≡ 0
    → ConservedSince earlier (admit x ∷ later) (answer (admit x) (run earlier).now).number
by_owner earlier later x v =
    subst (ConservedSince earlier (admit x ∷ later)) (sym (ap (λ (w : ℕ). (settle (admit x) (run earlier).now w).number) v))
    (since earlier (admit x ∷ later) (free_number (run earlier).now.connections) (held_waits (run earlier) (free_number (run earlier).now.connections) (λ z. omega (arith, D.free)) ∙ none_held))
  where
    D : AdmitDone (run earlier).now x
    D = admit_done (run earlier).now x v

    O : Orderly (run earlier).now
    O = ((invariant earlier).sound.with_one (admit_done (run earlier).now x v).set).orderly

    was_free : owned (run earlier).now.connections (free_number (run earlier).now.connections) ≡ false
    was_free = level_free (run earlier).now.connections (free_number (run earlier).now.connections) (free_is (run earlier).now.connections (omega (arith, O.numbers, D.free)))

    none_held : of (free_number (run earlier).now.connections) (run earlier).now.held ≡ []
    none_held =
        of_none (free_number (run earlier).now.connections) (run earlier).now.held
        (all_map (λ p f e. true≢false (sym f.owner ∙ ap (owned (run earlier).now.connections) e ∙ was_free)) (run earlier).now.held O.fit)
