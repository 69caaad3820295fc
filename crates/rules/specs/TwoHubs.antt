-- TWO HUBS IN A ROW (document 02, R-9): statements over two runs of the rules, to be read alone; they are proved in proofs/TwoHubs under their names in small
-- letters. Hub 1 gets the calls `ks` from fresh; hub 2 the calls `earlier`, then one offer, then `later`. Both count the same ticks. What leaves hub 1 on
-- connection c is offered to hub 2 on connection c2, with its eligibility at hub 1 as its stamp.
use Rattle.std.specs.Prelude.{ℕ, ◌+◌, ◌≤◌, ◌≡◌, true, false, ◌⊎◌, List, [], ◌∷◌, ◌++◌}
use Rattle.std.proofs.Math.Option.{Option, some}
use Rattle.std.proofs.Math.ListN.{get_elem?}
use Rattle.rules.specs.Model.{State, Call, offer, figures}
use Rattle.rules.specs.Admission.{stamped}
use Rattle.rules.specs.Service.{early_at}
use Rattle.rules.specs.Calls.{heard, answer}
use Rattle.rules.specs.Runs.{Departure, run, own_departures, bound_of, asked_of, KeepsItsWord, Asked}
use Rattle.rules.specs.Promises.{KeptPromise}

-- the connections fit: c2 is of the second kind, with the gap and the size of c, and its allowance is the bound of c plus the delay of the line between the hubs.
-- c may be of either kind, so a row may be longer than two. Its packets do not go early: it is of the second kind, or the stand-by queue of hub 1 is off (document
-- 02, R-11); else a packet may come to hub 2 before its stamp, and gets 17
pub record Follows (first second : State) (c c2 delay : ℕ) : Type 0 where
  pub never_early : early_at first c ≡ false
  pub second_kind : stamped (figures second c2) ≡ true
  pub same_gap : (figures second c2).gap ≡ (figures first c).gap
  pub same_size : (figures second c2).size ≡ (figures first c).size
  pub allowance : (figures second c2).allowance ≡ bound_of first c + delay

-- an offer q that departure d is carried to: not before it has left, and at most the delay later; with its length and its tag, and its eligibility as the stamp
pub record Carried (delay : ℕ) (d : Departure) (q : Asked) : Type 0 where
  pub after_finish : d.finish ≤ q.at
  pub within_delay : q.at ≤ d.finish + delay
  pub same_len : q.len ≡ d.what.len
  pub same_tag : q.tag ≡ d.what.tag
  pub stamp : q.stamp ≡ some d.what.eligibility

-- the offers are, in order, departures; not every departure need be offered
abbrev pub Carries : ℕ → List Departure → List Asked → Type 0
Carries delay ds [] = Unit {0}
Carries delay [] (q ∷ qs) = ⊥
Carries delay (d ∷ ds) (q ∷ qs) = (Carried delay d q × Carries delay ds qs) ⊎ Carries delay ds (q ∷ qs)

-- the offer at hand is a departure d of c at hub 1. It does not get 17, and its promise is kept: it does not get 12; while the clock runs it is accepted, eligible at its eligibility at hub 1 plus
-- the bound of hub 1 and the delay, and has left hub 2 by that plus the bound of hub 2 (not before that plus its length: `NoFinishBefore`). If c is of the first kind and keeps its word at hub 1,
-- its arrival there stands for its eligibility there
pub record PassedOn (ks earlier later : List Call) (c c2 delay len tag : ℕ) (st : Option ℕ) (d : Departure) : Type 0 where
  pub place : ℕ
  pub is_departure : get_elem? (own_departures c ks) place ≡ some d
  pub carried : Carried delay d (record { at = (run earlier).now.clock; len = len; tag = tag; stamp = st })
  pub never_17 : (answer (offer c2 len tag st) (run earlier).now).verdict ≡ 17 → ⊥
  pub kept : KeptPromise earlier later c2 len tag st (d.what.eligibility + (bound_of (run ks).now c + delay))
  pub since_arrival : stamped (figures (run ks).now c) ≡ false → KeepsItsWord c ks → KeptPromise earlier later c2 len tag st (d.what.arrival + (bound_of (run ks).now c + delay))

-- any two runs, and an offer to c2 in the second; all that c2 has been offered, this offer with it, are departures of c in the first, in order
abbrev pub TwoHubsInARow : Type 0
TwoHubsInARow =
    (ks earlier later : List Call) (c c2 delay len tag : ℕ) (st : Option ℕ)
    → Follows (run ks).now (run earlier).now c c2 delay
    → heard (run earlier).now c2 st ≡ true
    → Carries delay (own_departures c ks) (asked_of c2 (earlier ++ offer c2 len tag st ∷ []))
    → (d : Departure) × PassedOn ks earlier later c c2 delay len tag st d
