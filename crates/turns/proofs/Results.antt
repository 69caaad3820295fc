-- THE PROOFS of the statements in specs/Promises, each under its name in small letters.
use Prim.Native.Nat.{ℕ, ◌/◌, ◌^◌, ◌<◌, ◌≤◌}
use native.Mathlib.Omega.{arith}
use mathlib.Core.Path.{◌≡◌, refl, sym, ◌∙◌}
use mathlib.Core.Bool.{Bool, true, false}
use mathlib.Core.List.{List, [], ◌∷◌, ◌++◌, append_assoc}
use mathlib.Core.Logic.{inl, inr, ⊎_elim}
use mathlib.Core.Option.{none as no_offset, some}
use Rattle.std.specs.Prelude.{Some}
use lib.ListN.{length}
use borrow.Author.Tests.{eqb-true}
use Rattle.rules.proofs.Tests.{never}
use Rattle.tables.specs.Lent.{Tables}
use Rattle.answers.specs.Answers.{longest_answer}
use Rattle.answer_log.specs.Log.{log}
use Rattle.answer_log.specs.Bad.{bad_at}
use Rattle.replay.specs.Promises.{AtAnyTime}
use Rattle.replay.proofs.Results.{every_session}
use Rattle.turns.specs.declared.End.TheVariants.{Whole, Malformed, ReadFailed, NotTaken}
use Rattle.turns.specs.declared.Turn.{Turn}
use Rattle.turns.specs.Turns.{EndsLog, has_failed, first_turn, turns_left}
use Rattle.turns.specs.Runs.{Turns}
use Rattle.turns.specs.Runs.Turns.{none, turn}
use Rattle.turns.specs.Promises.{AllTurns}
use Rattle.turns.proofs.TurnLaws.{turn_ends}
use Rattle.turns.proofs.RunLaws.{ended_then, going, fails_written, fails_read, ended_tells}

module _ {given wrote : List ℕ} {v : Turn} {t : Tables} {w : List ℕ} (S : Turns given wrote v t w) (then : List ℕ) (g : v.last ≡ true → then ≡ []) where
  -- all turns are a session on what was given and what would come behind it
  so_far : AtAnyTime (given ++ then) wrote v.cursor t w then
  so_far = every_session (given ++ then) wrote v.cursor t w then (going S then g)

writes_it : {given wrote : List ℕ} {v : Turn} {t : Tables} {w : List ℕ} → Turns given wrote v t w → (then : List ℕ) → (v.last ≡ true → then ≡ []) → EndsLog v.end
    → wrote ≡ log (given ++ then)
writes_it none then g e = ⊎_elim (λ d. never cc) (λ d. never cc) e
writes_it (turn {given} {wrote} {v} {t} {w} S d o l r t2 o2 w2 T) then g e =
    let h = ended_then T then g in
    rw append_assoc (turn_ends (given ++ (T.follows.got ++ then)) wrote v.cursor t w (T.follows.got ++ then) (going S (T.follows.got ++ then) h) v.last h o r t2 o2 w2 T e)

tells_it : {given wrote : List ℕ} {v : Turn} {t : Tables} {w : List ℕ} → Turns given wrote v t w → (then : List ℕ) → (v.last ≡ true → then ≡ [])
    → (v.end ≡ Some Whole → bad_at (given ++ then) ≡ no_offset) × (v.end ≡ Some Malformed → bad_at (given ++ then) ≡ some v.cursor.at)
tells_it none then g = (λ e. never cc, λ e. never cc)
tells_it (turn S d o l r t2 o2 w2 T) then g =
    let k = ended_tells S d o l r t2 o2 w2 T then g in (
      λ e. let m = k (inl e) in m.1.0 ∙ rw (m.0.0 e),
      λ e. let m = k (inr e) in m.1.0 ∙ rw (m.0.1 e),
    )

ends_whole : {given wrote : List ℕ} {v : Turn} {t : Tables} {w : List ℕ} → Turns given wrote v t w → v.end ≡ Some Whole → v.last ≡ true
ends_whole none e = never cc
ends_whole (turn S d o l r t2 o2 w2 T) e = go r.last refl
  where
    go : (b : Bool) → r.last ≡ b → r.last ≡ true
    go true f = f
    go false f =
        let m = ended_tells S d o l r t2 o2 w2 T (0 ∷ []) (λ z. never (sym f ∙ z)) (inl e) in
        let n : ◌≡◌ {A = List ℕ} (0 ∷ []) [] = m.1.1 (eqb-true _ _ (m.0.0 e)) in
        never cc

ends_so : {given wrote : List ℕ} {v : Turn} {t : Tables} {w : List ℕ} → Turns given wrote v t w
    → (v.end ≡ Some NotTaken → v.taken ≡ false) × (v.end ≡ Some ReadFailed → has_failed v.read ≡ true)
ends_so none = (λ e. never cc, λ e. never cc)
ends_so (turn {given} {wrote} {v} {t} {w} S d o l r t2 o2 w2 T) =
    let n = ((so_far S [] (λ _. refl)).answers (length o / longest_answer) v.last (λ _. refl) o T.answer t2 o2 T.pumps).never_refused l in
    (λ e. fails_written T n.0 n.1 e, λ e. fails_read T e)

pub all_turns : AllTurns
all_turns given wrote then v t w S g =
    record {
      the_program_writes_the_log = writes_it S then g;
      it_tells_the_malformed = tells_it S then g;
      whole_at_the_end = ends_whole S;
      it_writes_nothing_else = (so_far S then g).writes_nothing_else;
      it_ends_for_no_other_reason = ends_so S;
      a_read_has_room = λ o r t2 o2 w2 T. ((so_far S [] (λ _. refl)).answers (length o / longest_answer) v.last (λ _. refl) o T.answer t2 o2 T.pumps).asks_when_short;
    }

-- the bound on the turns that are left, before the first of them, with a buffer of at most 65,536 bytes
pub so_many_turns : (n : ℕ) → n ≤ 65_536 → turns_left n first_turn.cursor first_turn.from first_turn.to first_turn.last < 2 ^ 41
so_many_turns n h = omega arith
