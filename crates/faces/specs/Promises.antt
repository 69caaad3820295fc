-- WHAT IS PROMISED OF THE PUBLIC FUNCTIONS, whatever the discipline: one record, whose fields are the promises. `hub` and `framed_hub` say it of theirs (specs/Promises.antt of each).
-- Proved in proofs/Results.
use Rattle.std.specs.Prelude.{ℕ, ◌≡◌, Bool, true, false, ◌↔◌, List, [], Option}
use Rattle.std.proofs.Math.Option.{none}
use Rattle.rules.specs.declared.Packet.{Packet}
use Rattle.rules.specs.declared.Short.{Short}
use Rattle.rules.specs.Model.{Outcome}
use Rattle.tables.specs.Options.{option_in}
use Rattle.tables.specs.Lent.{Tables}
use Rattle.tables.specs.Calls.{DoesBy, calls_from}

-- a caller's account of some calls: their history, each answer logged as the rules log theirs, and what the caller keeps between the calls
pub record Account (History Kept : Type 0) : Type 0 where
  pub history : History
  pub kept : Kept
  pub tables : Tables

-- what it is said of, in this order. The rules: a sound state, the answer to a call, the number of a refusal, a history with an answer added, the run of any calls and the state that it left.
-- The tie: the state that what is kept and the tables stand for, what of a state is kept and what is written to the tables, the soundness test, what a caller starts with.
-- The code: what a call tells and the tables that it leaves (the contract of every public function is `DoesBy` these two), an answer of the rules as it is told, and the parts of what is told
module _ {Call Kept Told State History : Type 0} (Sound : State → Type 0) (answer : Call → State → Outcome State) (refused_number : Call → ℕ)
    (logged : History → Call → Outcome State → History) (run : List Call → History) (now : History → State)
    (view : Kept → Tables → State) (kept_of : State → Kept) (written : State → Tables) (sound : Kept → Tables → Bool) (fresh : Kept) (zero_tables : Tables)
    (tells : Call → Kept → Tables → Told) (leaves : Call → Kept → Tables → Tables) (told_of : Outcome State → Told)
    (verdict number : Told → ℕ) (short : Told → Short) (departed : Told → Option Packet) (kept : Told → Kept) where
  -- the rules' answer, read off what a call told and the tables that it left
  abbrev pub answer_read : Told → Tables → Outcome State
  answer_read told after = record { verdict = verdict told; number = number told; short = short told; departed = option_in (departed told); next = view (kept told) after }

  -- .. of the call k, handed what is kept between the calls, h, and the tables t
  abbrev pub says : Call → Kept → Tables → Outcome State
  says k h t = answer_read (tells k h t) (leaves k h t)

  -- a call on what the last one left
  abbrev pub call : Account History Kept → Call → Account History Kept
  call g k = record {
    history = logged g.history k (says k g.kept g.tables);
    kept = kept (tells k g.kept g.tables);
    tables = leaves k g.kept g.tables;
  }

  -- any calls, each given what the last one left: first of all nothing logged, the fresh hub and tables of zeros
  abbrev pub calls : List Call → Account History Kept
  calls ks = calls_from call (record { history = run []; kept = fresh; tables = zero_tables }) ks

  pub record KeepsToTheRules : Type 1 where
    -- document 01, "What the hub's answers must settle": any two answers and tables that a contract allows are equal
    pub one_outcome : (k : Call) (h : Kept) (before : Tables) (told told' : Told) (after after' : Tables)
        → DoesBy tells leaves k h before told after → DoesBy tells leaves k h before told' after' → (told ≡ told') × (after ≡ after')
    -- the soundness test is exact: it holds where the state is sound and the tables are what is written of it, everything unused zero, and nowhere else
    pub test_is_exact : (h : Kept) (t : Tables) → sound h t ≡ true ↔ (Sound (view h t) × (t ≡ written (view h t)))
    -- a sound state that is written is read back
    pub written_reads_back : (s : State) → Sound s → view (kept_of s) (written s) ≡ s
    -- demand 1: a refused call changes nothing that the caller lent or handed in, gives the number of a refusal, and no packet leaves
    pub refusals_change_nothing : (k : Call) (h : Kept) (t : Tables) → ((says k h t).verdict ≡ 0 → ⊥)
        → (kept (tells k h t) ≡ h) × (leaves k h t ≡ t) × ((says k h t).number ≡ refused_number k) × ((says k h t).departed ≡ none)
    -- verdict 1 is given exactly where what is handed in is not sound
    pub verdict_1_exactly : (k : Call) (h : Kept) (t : Tables) → (says k h t).verdict ≡ 1 ↔ sound h t ≡ false
    -- a call on what is sound leaves what is sound: a run that has tested once need not test again
    pub sound_is_kept : (k : Call) (h : Kept) (t : Tables) → sound h t ≡ true → sound (kept (tells k h t)) (leaves k h t) ≡ true
    -- demand 2: where it is sound, what is told is the rules' answer, as the code tells it, and it is read as the rules' answer
    pub answers_as_the_rules : (k : Call) (h : Kept) (t : Tables) → sound h t ≡ true
        → (tells k h t ≡ told_of (answer k (view h t))) × (says k h t ≡ answer k (view h t))
    -- so whatever the rules say of a call on every sound state holds of the code's answer
    pub holds_as_of_the_rules : (k : Call) (P : State → Outcome State → Type 0) → ((s : State) → Sound s → P s (answer k s))
        → (h : Kept) (t : Tables) → sound h t ≡ true → P (view h t) (says k h t)
    -- for any calls the history that the caller has logged is the rules' run, and what it keeps is what is written of the run's state
    pub follows_the_rules : (ks : List Call)
        → ((calls ks).history ≡ run ks) × ((calls ks).kept ≡ kept_of (now (run ks))) × ((calls ks).tables ≡ written (now (run ks)))
    -- .. and what a further call is told is the rules' answer to it in the state of their run. With both whatever the rules say of a run, of what is accepted, departs and is
    -- told in it, holds of the caller's calls
    pub told_as_in_the_run : (ks : List Call) (k : Call) → says k (calls ks).kept (calls ks).tables ≡ answer k (now (run ks))
