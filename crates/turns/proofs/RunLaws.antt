-- What all turns from the start did.
use Prim.Native.Nat.{ℕ, ◌≤◌}
use native.Mathlib.Omega.{arith}
use mathlib.Core.Path.{◌≡◌, refl, sym, ap, ◌∙◌}
use mathlib.Core.Bool.{Bool, true, false, cond}
use mathlib.Core.List.{List, [], ◌∷◌, ◌++◌, append_assoc, append-nil}
use mathlib.Core.Option.{none, some}
use Rattle.std.specs.Prelude.{Option, Some, None, is_some, Result, Ok, Err}
use lib.Dec.{eqb}
use lib.ListN.{length, take, drop}
use Rattle.rules.proofs.Tests.{never}
use Rattle.tables.specs.Lent.{Tables}
use Rattle.state.specs.View.{zero_tables}
use Rattle.steps.specs.declared.Phase.TheVariants.{Finished}
use Rattle.steps.specs.declared.Cursor.{Cursor}
use Rattle.steps.specs.declared.Status.{Status}
use Rattle.steps.specs.declared.Status.TheVariants.{GoOn, MoreBytes, MoreRoom, NotSound, Done}
use Rattle.answer_log.specs.Bad.{bad_at}
use Rattle.answers.specs.Answers.{longest_answer}
use Rattle.replay.specs.Sessions.{Session}
use Rattle.replay.specs.Sessions.Session.{start}
use Rattle.replay.proofs.Results.{every_session}
use Rattle.turns.specs.declared.End.{End}
use Rattle.turns.specs.declared.End.TheVariants.{Whole, Malformed, ReadFailed, NotTaken}
use Rattle.streams.specs.declared.ReadError.{ReadError}
use Rattle.turns.specs.declared.Turn.{Turn}
use Rattle.turns.specs.Turns.{EndsLog, given_by, has_failed, heard, reads, after_steps, first_turn, Turned}
use Rattle.turns.specs.Runs.{Turns}
use Rattle.turns.specs.Runs.Turns.{none as no_turn, turn}
use Rattle.turns.proofs.TurnLaws.{where_reads, where_stays, ends_log, ends_status, turn_finishes, turn_keeps}

-- ---- the loop

pub is_none : {A : Type 0} (o : Option A) → is_some o ≡ false → o ≡ None
is_none None e = refl
is_none (Some x) e = never (sym e)

pub not_none : {A : Type 0} (o : Option A) → is_some o ≡ true → o ≡ None → ⊥
not_none None e f = never e
not_none (Some x) e f = never cc

pub some_is : {A : Type 0} {o : Option A} (x y : A) → o ≡ Some x → x ≡ y → o ≡ Some y
some_is x y e f = rw (e, f)

-- r is the last of some turns, which left these tables and this window
pub record Made (r : Turn) (t : Tables) (w : List ℕ) : Type 0 where
  pub given : List ℕ
  pub wrote : List ℕ
  pub turns : Turns given wrote r t w

pub made_none : (t : Tables) → t ≡ zero_tables → Made first_turn t []
made_none t e = rw e (record { given = []; wrote = []; turns = no_turn })

pub made_more : (v : Turn) (t : Tables) (w : List ℕ) → Made v t w → v.end ≡ None → (o : List ℕ) → longest_answer ≤ length o → (r : Turn) (t2 : Tables) (o2 w2 : List ℕ)
    → Turned v.cursor t w v.last o r t2 o2 w2 → Made r t2 w2
made_more v t w M e o l r t2 o2 w2 T =
    record { given = M.given ++ T.follows.got; wrote = M.wrote ++ take T.answer.wrote o2; turns = turn M.turns e o l r t2 o2 w2 T }

-- ---- whatever comes behind what was given, all turns are a session on it

nothing : (l : List ℕ) → length l ≡ 0 → l ≡ []
nothing [] e = refl
nothing (x ∷ l) e = absurd (omega arith)

module _ {c : Cursor} {t : Tables} {w : List ℕ} {last : Bool} {o : List ℕ} {r : Turn} {t2 : Tables} {o2 w2 : List ℕ} (T : Turned c t w last o r t2 o2 w2) where
  -- once the input has ended nothing more is read
  pub ended_then : (u : List ℕ) → (r.last ≡ true → u ≡ []) → last ≡ true → T.follows.got ++ u ≡ []
  ended_then u g e = go (reads r.taken T.answer.status) refl
    where
      go : (b : Bool) → reads r.taken T.answer.status ≡ b → T.follows.got ++ u ≡ []
      go true f = never (sym (where_reads T.follows f).0 ∙ e)
      go false f =
          let n : T.follows.got ≡ [] = nothing T.follows.got (T.follows.count ∙ ap given_by (where_stays T.follows f).0) in
          let l : r.last ≡ true = (where_stays T.follows f).1 ∙ e in
          rw (n, g l)

pub going : {given wrote : List ℕ} {v : Turn} {t : Tables} {w : List ℕ} → Turns given wrote v t w
    → (u : List ℕ) → (v.last ≡ true → u ≡ []) → Session (given ++ u) wrote v.cursor t w u
going no_turn u g = start
going (turn {given} {wrote} {v} {t} {w} S e o l r t2 o2 w2 T) u g =
    let h = ended_then T u g in
    rw (append_assoc) (turn_keeps (given ++ (T.follows.got ++ u)) wrote v.cursor t w (T.follows.got ++ u) (going S (T.follows.got ++ u) h) v.last h o r t2 o2 w2 T u refl)

-- ---- what the end of a turn says of its calls

not_failed : (i : Bool) (e : Option End) → ends_log e ≡ false → cond i (Some Whole) (Some Malformed) ≡ e → ⊥
not_failed true e f g = never (sym f ∙ ap ends_log (sym g))
not_failed false e f g = never (sym f ∙ ap ends_log (sym g))

never_fails : (z : Option (Result ℕ ReadError)) → heard z ≡ Some NotTaken → ⊥
never_fails None e = never cc
never_fails (Some (Ok n)) e = never cc
never_fails (Some (Err n)) e = never cc

-- the steps were not refused, so a write was
after_written : (b : Bool) (k : Status) (i : Bool) → (k ≡ MoreRoom → ⊥) → (k ≡ NotSound → ⊥) → after_steps b k i ≡ Some NotTaken → b ≡ false
after_written false k i m n e = refl
after_written true GoOn i m n e = never cc
after_written true MoreBytes i m n e = never cc
after_written true MoreRoom i m n e = absurd (m refl)
after_written true NotSound i m n e = absurd (n refl)
after_written true Done i m n e = absurd (not_failed i (Some NotTaken) refl e)

after_read : (b : Bool) (k : Status) (i : Bool) → after_steps b k i ≡ Some ReadFailed → ⊥
after_read false k i e = never cc
after_read true GoOn i e = never cc
after_read true MoreBytes i e = never cc
after_read true MoreRoom i e = never cc
after_read true NotSound i e = never cc
after_read true Done i e = absurd (not_failed i (Some ReadFailed) refl e)

fails_heard : (z : Option (Result ℕ ReadError)) → heard z ≡ Some ReadFailed → has_failed z ≡ true
fails_heard None e = never cc
fails_heard (Some (Ok n)) e = never cc
fails_heard (Some (Err n)) e = refl

module _ {c : Cursor} {t : Tables} {w : List ℕ} {last : Bool} {o : List ℕ} {r : Turn} {t2 : Tables} {o2 w2 : List ℕ} (T : Turned c t w last o r t2 o2 w2) where
  abbrev emptied : Bool
  emptied = eqb (length (drop T.answer.used w)) 0

  pub fails_written : (T.answer.status ≡ MoreRoom → ⊥) → (T.answer.status ≡ NotSound → ⊥) → r.end ≡ Some NotTaken → r.taken ≡ false
  fails_written m n e = go (reads r.taken T.answer.status) refl
    where
      go : (d : Bool) → reads r.taken T.answer.status ≡ d → r.taken ≡ false
      go true f = absurd (never_fails r.read (sym (where_reads T.follows f).2 ∙ e))
      go false f = after_written r.taken T.answer.status emptied m n (sym (where_stays T.follows f).2 ∙ e)

  pub fails_read : r.end ≡ Some ReadFailed → has_failed r.read ≡ true
  fails_read e = go (reads r.taken T.answer.status) refl
    where
      go : (d : Bool) → reads r.taken T.answer.status ≡ d → has_failed r.read ≡ true
      go true f = fails_heard r.read (sym (where_reads T.follows f).2 ∙ e)
      go false f = absurd (after_read r.taken T.answer.status emptied (sym (where_stays T.follows f).2 ∙ e))

-- which of the two it says
whole_emptied : (i : Bool) → cond i (Some Whole) (Some Malformed) ≡ Some Whole → i ≡ true
whole_emptied true e = refl
whole_emptied false e = never cc

malformed_left : (i : Bool) → cond i (Some Whole) (Some Malformed) ≡ Some Malformed → i ≡ false
malformed_left true e = never cc
malformed_left false e = refl

-- a turn that ends the log reads nothing, and says Whole where the window is used up
module _ {c : Cursor} {t : Tables} {w : List ℕ} {last : Bool} {o : List ℕ} {r : Turn} {t2 : Tables} {o2 w2 : List ℕ} (T : Turned c t w last o r t2 o2 w2)
    (b : r.taken ≡ true) (k : T.answer.status ≡ Done) where
  same_window : w2 ≡ drop T.answer.used w
  same_window =
      let z : r.read ≡ None = (where_stays T.follows (rw (b, k))).0 in
      T.follows.rest ∙ rw (nothing T.follows.got (T.follows.count ∙ ap given_by z)) (append-nil (drop T.answer.used w))

  says : r.end ≡ cond (eqb (length w2) 0) (Some Whole) (Some Malformed)
  says = (where_stays T.follows (rw (b, k))).2 ∙ rw (b, k, same_window)

  pub says_whole : r.end ≡ Some Whole → eqb (length w2) 0 ≡ true
  says_whole e = whole_emptied (eqb (length w2) 0) (sym says ∙ e)

  pub says_malformed : r.end ≡ Some Malformed → eqb (length w2) 0 ≡ false
  says_malformed e = malformed_left (eqb (length w2) 0) (sym says ∙ e)

-- what all turns tell, where the last one ends the log
pub ended_tells : {given wrote : List ℕ} {v : Turn} {t : Tables} {w : List ℕ} (S : Turns given wrote v t w) (d : v.end ≡ None) (o : List ℕ) (l : longest_answer ≤ length o)
    (r : Turn) (t2 : Tables) (o2 w2 : List ℕ) (T : Turned v.cursor t w v.last o r t2 o2 w2) (then : List ℕ) → (r.last ≡ true → then ≡ []) → EndsLog r.end
    → ((r.end ≡ Some Whole → eqb (length w2) 0 ≡ true) × (r.end ≡ Some Malformed → eqb (length w2) 0 ≡ false))
    × ((bad_at ((given ++ T.follows.got) ++ then) ≡ cond (eqb (length w2) 0) none (some r.cursor.at)) × (length w2 ≡ 0 → then ≡ []))
ended_tells {given} {wrote} {v} {t} {w} S d o l r t2 o2 w2 T then g e =
    let h = ended_then T then g in
    let Q = going S (T.follows.got ++ then) h in
    let k = ends_status (given ++ (T.follows.got ++ then)) wrote v.cursor t w (T.follows.got ++ then) Q v.last h o r t2 o2 w2 T e in
    let f = turn_finishes (given ++ (T.follows.got ++ then)) wrote v.cursor t w (T.follows.got ++ then) Q v.last h o r t2 o2 w2 T e in
    let p : r.cursor.phase ≡ Finished = ap (λ (x : Cursor). x.phase) T.follows.cursor ∙ f in (
      (says_whole T k.0 k.1, says_malformed T k.0 k.1),
      (every_session ((given ++ T.follows.got) ++ then) _ r.cursor t2 w2 then (going (turn S d o l r t2 o2 w2 T) then g)).tells_the_malformed p,
    )
