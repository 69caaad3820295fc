-- THE PROOFS of the statements in specs/Promises, each under its name in small letters.
use Prim.Native.Nat.{ℕ, ◌<◌, ◌≤◌}
use native.Mathlib.Omega.{arith}
use mathlib.Core.Path.{◌≡◌, refl, sym, ap, ◌∙◌, subst}
use mathlib.Core.Bool.{Bool, true, false, cond}
use mathlib.Core.Logic.{◌⊎◌, inl, inr, ◌↔◌}
use mathlib.Core.List.{List, [], ◌++◌}
use lib.Dec.{eqb}
use lib.ListN.{length, take, drop, length-drop, take-append-drop}
use borrow.Author.Tests.{eqb-true, eqb-false, eq-eqb}
use Rattle.rules.proofs.Tests.{never}
use Rattle.std.specs.Prelude.{Option, Some, None, Ok}
use Rattle.tables.specs.Lent.{Tables}
use Rattle.answer_log.specs.Log.{log}
use Rattle.answer_log.specs.Bad.{EndsWith}
use Rattle.replay.proofs.Results.{ends_with_its_er}
use Rattle.turns.specs.declared.End.TheVariants.{ReadFailed, NotTaken}
use Rattle.turns.specs.Turns.{has_failed, EndsLog}
use Rattle.turns.specs.Promises.{AfterAnyTurn}
use Rattle.turns.proofs.Results.{all_turns}
use Rattle.checker.specs.declared.Finding.{Finding}
use Rattle.checker.specs.declared.Finding.TheVariants.{Accepted, Differs, TooLong, EndsEarly, TraceFailed, LogFailed}
use Rattle.checker.specs.declared.Check.{Check}
use Rattle.checker.specs.Judgement.{common, Judged}
use Rattle.checker.specs.Checks.{Checks}
use Rattle.checker.specs.Promises.{Decided, HasEnded, AtItsEnd, AllMoves}
use Rattle.checker.proofs.CommonLaws.{common_le, common_itself, common_all, common_is, common_one}
use Rattle.checker.proofs.JudgementLaws.{Judgement, judgement, apart_there, early_there, long_there, same_there}
use Rattle.checker.proofs.CheckLaws.{turns_of, all_taken, Met, met_of, Known, known}

-- ---- of any two byte lists

-- what a finding says of n, the length of the longest common beginning of x and y
abbrev Says : ℕ → List ℕ → List ℕ → Finding → Type 0
Says n x y Accepted = (n ≡ length x) × (n ≡ length y)
Says n x y Differs = (n < length x) × (n < length y)
Says n x y TooLong = (n < length x) × (n ≡ length y)
Says n x y EndsEarly = (n ≡ length x) × (n < length y)
Says n x y TraceFailed = ⊥
Says n x y LogFailed = ⊥

less : (n m : ℕ) → n ≤ m → eqb n m ≡ false → n < m
less n m i f = let d = eqb-false n m f in omega (arith, d)

judgement_says : (x y : List ℕ) → Says (common x y) x y (judgement x y).finding
unfolding judgement
judgement_says x y = go (common x y) (common_le x y).0 (common_le x y).1 (eqb (common x y) (length x)) refl (eqb (common x y) (length y)) refl
  where
    go : (n : ℕ) → n ≤ length x → n ≤ length y → (b : Bool) → eqb n (length x) ≡ b → (d : Bool) → eqb n (length y) ≡ d
        → Says n x y (cond b (cond d Accepted EndsEarly) (cond d TooLong Differs))
    go n h k true f true g = (eqb-true n (length x) f, eqb-true n (length y) g)
    go n h k true f false g = (eqb-true n (length x) f, less n (length y) k g)
    go n h k false f true g = (less n (length x) h f, eqb-true n (length y) g)
    go n h k false f false g = (less n (length x) h f, less n (length y) k g)

-- .. where it is known
says : (x y : List ℕ) (f : Finding) → (judgement x y).finding ≡ f → Says (common x y) x y f
says x y f e = subst (Says (common x y) x y) e (judgement_says x y)

accepts : (x y : List ℕ) → (judgement x y).finding ≡ Accepted ↔ x ≡ y
unfolding judgement
accepts x y = (
  λ e. let s = says x y Accepted e in common_all x y s.0 s.1,
  λ e. rw (e, common_itself y, eq-eqb (length y) (length y) refl),
)

judged : (x y : List ℕ) → Judged (judgement x y).finding (judgement x y).offset x y
unfolding judgement
judged x y =
    record {
      accepts_exactly = accepts x y;
      offset_is_the_longest_common_beginning = common_is x y;
      one_offset = λ n C. common_one n x y C;
      differs = λ e. says x y Differs e;
      too_long = λ e. says x y TooLong e;
      ends_early = λ e. says x y EndsEarly e;
    }

judged_as : (j : Judgement) (x y : List ℕ) → j ≡ judgement x y → Judged j.finding j.offset x y
judged_as j x y e = subst (λ (k : Judgement). Judged k.finding k.offset x y) (sym e) (judged x y)

-- ---- of the checker

abbrev is_decided : Finding → Bool
is_decided Accepted = true
is_decided Differs = true
is_decided TooLong = true
is_decided EndsEarly = true
is_decided TraceFailed = false
is_decided LogFailed = false

not_decided : (f : Finding) → is_decided f ≡ false → Decided f → ⊥
not_decided f e (inl d) = never (sym e ∙ ap is_decided d)
not_decided f e (inr (inl d)) = never (sym e ∙ ap is_decided d)
not_decided f e (inr (inr (inl d))) = never (sym e ∙ ap is_decided d)
not_decided f e (inr (inr (inr d))) = never (sym e ∙ ap is_decided d)

-- what the rules give goes on from what was written
goes_on : (wrote l : List ℕ) → take (length wrote) l ≡ wrote → l ≡ wrote ++ drop (length wrote) l
goes_on wrote l e = sym (take-append-drop (length wrote) l) ∙ ap (λ x. x ++ drop (length wrote) l) e

none_left : (wrote l : List ℕ) → wrote ≡ l → length (drop (length wrote) l) ≡ 0
none_left wrote l e = rw (length-drop (length wrote) l, e) (omega arith)

empty : {l : List ℕ} → l ≡ [] → length l ≡ 0
empty e = ap length e

module _ (given then came more wrote : List ℕ) (r : Check) (t : Tables) (w e l : List ℕ) (J : Checks given came wrote r t w e l) (over : r.finding ≡ None → ⊥)
    (g : r.turn.last ≡ true → then ≡ []) (m : (f : Finding) → r.finding ≡ Some f → HasEnded f → more ≡ []) where
  abbrev rules : List ℕ
  rules = log (given ++ then)

  abbrev M : Met came wrote r.at e l
  M = met_of J

  abbrev rest : List ℕ
  rest = drop (length wrote) rules

  -- what holds after the last turn of the replay
  so_far : AfterAnyTurn (given ++ then) wrote r.turn t w
  so_far = all_turns given wrote then r.turn t w (turns_of J) g

  -- the judgement of the two lists, told by what was met
  abbrev JudgedThere : Finding → Type 0
  JudgedThere f = record { finding = f; offset = length M.both } ≡ judgement ((M.both ++ l) ++ more) ((M.both ++ e) ++ rest)

  told : (f : Finding) → JudgedThere f → record { finding = f; offset = r.at } ≡ judgement (came ++ more) rules
  told f j =
      let p : (M.both ++ l) ++ more ≡ came ++ more = ap (λ x. x ++ more) (sym M.log) in
      let q : (M.both ++ e) ++ rest ≡ rules = ap (λ x. x ++ rest) (sym M.rules) ∙ sym (goes_on wrote rules so_far.it_writes_nothing_else) in
      let k = subst (λ x. record { finding = f; offset = length M.both } ≡ judgement x ((M.both ++ e) ++ rest)) p j in
      let h = subst (λ y. record { finding = f; offset = length M.both } ≡ judgement (came ++ more) y) q k in
      rw (← M.count) h

  known_as : (f : Finding) → r.finding ≡ Some f → Known (Some f) r e l
  known_as f i = subst (λ (x : Option Finding). Known x r e l) i (known J)

  -- the rules give nothing more
  given_all : EndsLog r.turn.end → length rest ≡ 0
  given_all i = none_left wrote rules (so_far.the_program_writes_the_log i)

  judges : (f : Finding) → r.finding ≡ Some f → Decided f → record { finding = f; offset = r.at } ≡ judgement (came ++ more) rules
  judges Accepted i d =
      let k = known_as Accepted i in
      told Accepted (same_there M.both l e more rest k.0 (given_all k.2) k.1 (empty (m Accepted i (inl refl))))
  judges Differs i d = let k = known_as Differs i in told Differs (apart_there M.both l e more rest k.2 k.1 k.0)
  judges TooLong i d = let k = known_as TooLong i in told TooLong (long_there M.both l e more rest k.0 (given_all k.2) k.1)
  judges EndsEarly i d = let k = known_as EndsEarly i in told EndsEarly (early_there M.both l e more rest k.1 (empty (m EndsEarly i (inr refl))) k.0)
  judges TraceFailed i d = absurd (not_decided TraceFailed refl d)
  judges LogFailed i d = absurd (not_decided LogFailed refl d)

  the_judgement : (f : Finding) → r.finding ≡ Some f → Decided f → Judged f r.at (came ++ more) rules
  the_judgement f i d = judged_as (record { finding = f; offset = r.at }) (came ++ more) rules (judges f i d)

  read_to_its_end : (f : Finding) → r.finding ≡ Some f → HasEnded f → r.read ≡ Some (Ok 0)
  read_to_its_end f i (inl d) = (known_as Accepted (i ∙ ap (λ (x : Finding). Some x) d)).3
  read_to_its_end f i (inr d) = (known_as EndsEarly (i ∙ ap (λ (x : Finding). Some x) d)).2

  failed : (r.turn.end ≡ Some ReadFailed) ⊎ (r.turn.end ≡ Some NotTaken) → has_failed r.turn.read ≡ true
  failed (inl i) = so_far.it_ends_for_no_other_reason.1 i
  failed (inr i) = never (sym (so_far.it_ends_for_no_other_reason.0 i) ∙ all_taken J)

  reason : (f : Finding) → r.finding ≡ Some f → Decided f ⊎ (((f ≡ TraceFailed) × (has_failed r.turn.read ≡ true)) ⊎ ((f ≡ LogFailed) × (has_failed r.read ≡ true)))
  reason Accepted i = inl (inl refl)
  reason Differs i = inl (inr (inl refl))
  reason TooLong i = inl (inr (inr (inl refl)))
  reason EndsEarly i = inl (inr (inr (inr refl)))
  reason TraceFailed i = inr (inl (refl, failed (known_as TraceFailed i)))
  reason LogFailed i = inr (inr (refl, known_as LogFailed i))

  found_so : (o : Option Finding) → r.finding ≡ o
      → (f : Finding) × (r.finding ≡ Some f) × (Decided f ⊎ (((f ≡ TraceFailed) × (has_failed r.turn.read ≡ true)) ⊎ ((f ≡ LogFailed) × (has_failed r.read ≡ true))))
  found_so None i = absurd (over i)
  found_so (Some f) i = (f, i, reason f i)

  at_its_end : AtItsEnd (given ++ then) (came ++ more) r
  at_its_end =
      record {
        the_checker_judges = the_judgement;
        a_damaged_trace_has_its_ER = λ offset b i. subst (EndsWith _) (sym ((the_judgement Accepted i (inl refl)).accepts_exactly.0 refl)) (ends_with_its_er (given ++ then) offset b);
        ended_as_read = read_to_its_end;
        they_end_for_no_other_reason = found_so r.finding refl;
      }

pub all_moves : AllMoves
all_moves given then came more wrote r t w e l J over g m = at_its_end given then came more wrote r t w e l J over g m
