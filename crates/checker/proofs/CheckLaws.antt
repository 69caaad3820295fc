-- What all moves of the checker did: they are turns of the replay, what was met, and what is known where something is found.
use Prim.Native.Nat.{ℕ, ◌+◌, ◌-◌, ◌<◌}
use native.Mathlib.Omega.{arith}
use mathlib.Core.Path.{◌≡◌, refl, sym, ap, ◌∙◌, subst}
use mathlib.Core.Bool.{Bool, true, false, cond, ◌&&◌}
use mathlib.Core.Logic.{◌⊎◌}
use mathlib.Core.List.{List, [], ◌∷◌, ◌++◌, append_assoc, append-nil}
use lib.Dec.{ltb}
use Rattle.std.specs.Prelude.{Option, Some, None, Result, Ok, Err}
use Rattle.streams.specs.declared.ReadError.{ReadError}
use lib.ListN.{length, take, drop, length-append, length-drop, take-append-drop}
use lib.Seq.{length-take-le}
use borrow.Author.Tests.{ltb-true, ltb-false, eq-eqb}
use Rattle.rules.proofs.Tests.{never, and_true}
use Rattle.tables.specs.Lent.{Tables}
use Rattle.turns.specs.declared.End.TheVariants.{ReadFailed, NotTaken}
use Rattle.turns.specs.declared.Turn.{Turn}
use Rattle.turns.specs.Turns.{has_failed, EndsLog}
use Rattle.turns.specs.Runs.{Turns}
use Rattle.turns.specs.Runs.Turns.{none as no_turn, turn}
use Rattle.checker.specs.declared.Finding.{Finding}
use Rattle.checker.specs.declared.Finding.TheVariants.{Accepted, Differs, TooLong, EndsEarly, TraceFailed, LogFailed}
use Rattle.checker.specs.declared.Check.{Check}
use Rattle.checker.specs.Judgement.{common}
use Rattle.checker.specs.Checks.{Move, Fetched, without_more, with_more, Compares, Closes, Checks}
use Rattle.checker.specs.Checks.Move.{compares, steps, closes, fails}
use Rattle.checker.specs.Checks.Checks.{none, move}
use Rattle.checker.proofs.CommonLaws.{common_le, common_is, common_from}

-- ---- they are turns of the replay

pub turns_of : {given came wrote : List ℕ} {c : Check} {t : Tables} {w e l : List ℕ} → Checks given came wrote c t w e l → Turns given wrote c.turn t w
turns_of none = no_turn
turns_of (move {given} {came} {wrote} S o (compares h r e2 l2 C)) = rw (append-nil given, append-nil wrote, C.turn) (turns_of S)
turns_of (move S o (steps n g p k r t2 w2 o2 Q)) = turn (turns_of S) g p k r.turn t2 o2 w2 Q.turned
turns_of (move {given} {came} {wrote} S o (closes n g r l2 C)) = rw (append-nil given, append-nil wrote, C.turn) (turns_of S)
turns_of (move {given} {came} {wrote} S o (fails n g)) = rw (append-nil given, append-nil wrote) (turns_of S)

-- all that the steps wrote is taken
pub all_taken : {given came wrote : List ℕ} {c : Check} {t : Tables} {w e l : List ℕ} → Checks given came wrote c t w e l → c.turn.taken ≡ true
all_taken none = refl
all_taken (move S o (compares h r e2 l2 C)) = ap (λ (v : Turn). v.taken) C.turn ∙ all_taken S
all_taken (move S o (steps n g p k r t2 w2 o2 Q)) = Q.taken
all_taken (move S o (closes n g r l2 C)) = ap (λ (v : Turn). v.taken) C.turn ∙ all_taken S
all_taken (move S o (fails n g)) = all_taken S

-- ---- what was met

-- the log so far and what was written so far begin with the same n bytes, behind which come l and e
pub record Met (came wrote : List ℕ) (n : ℕ) (e l : List ℕ) : Type 0 where
  pub both : List ℕ
  pub count : length both ≡ n
  pub log : came ≡ both ++ l
  pub rules : wrote ≡ both ++ e

pub none_behind : (xs l : List ℕ) → length l ≡ 0 → xs ++ l ≡ xs
none_behind xs [] e = append-nil xs
none_behind xs (x ∷ l) e = absurd (omega arith)

-- more comes of the log, of which k bytes are met
met_some : (came wrote : List ℕ) (n : ℕ) (e l got : List ℕ) → Met came wrote n e l → (k : ℕ) → k ≡ common (l ++ got) e
    → Met (came ++ got) (wrote ++ []) (n + k) (drop k e) (drop k (l ++ got))
met_some came wrote n e l got M k h =
    let c = common_is (l ++ got) e in
    let i : take k (l ++ got) ≡ take k e = rw h c.alike in
    let b = common_le (l ++ got) e in
    record {
      both = M.both ++ take k e;
      count = simp length-append (rw (M.count, length-take-le k e (omega (arith, h, b.1))));
      log = rw (M.log, append_assoc M.both l got, append_assoc M.both (take k e) (drop k (l ++ got)), ← i) (rw (take-append-drop k (l ++ got)));
      rules = rw (append-nil, append_assoc M.both (take k e) (drop k e), take-append-drop k e) M.rules;
    }

-- all was met, and more is written
met_new : (came wrote : List ℕ) (n : ℕ) (e l new : List ℕ) → Met came wrote n e l → length e ≡ 0 → (n2 : ℕ) → n2 ≡ n → Met (came ++ []) (wrote ++ new) n2 new l
met_new came wrote n e l new M h n2 f =
    let d : wrote ≡ M.both = M.rules ∙ none_behind M.both e h in
    record { both = M.both; count = M.count ∙ sym f; log = rw append-nil M.log; rules = ap (λ x. x ++ new) d }

-- more comes of the log, where all was met
met_end : (came wrote : List ℕ) (n : ℕ) (e l got l2 : List ℕ) → Met came wrote n e l → l2 ≡ l ++ got → (n2 : ℕ) → n2 ≡ n → Met (came ++ got) (wrote ++ []) n2 e l2
met_end came wrote n e l got l2 M h n2 f =
    record { both = M.both; count = M.count ∙ sym f; log = rw (M.log, h) (append_assoc M.both l got); rules = rw append-nil M.rules }

pub met_of : {given came wrote : List ℕ} {c : Check} {t : Tables} {w e l : List ℕ} → Checks given came wrote c t w e l → Met came wrote c.at e l
met_of none = record { both = []; count = refl; log = refl; rules = refl }
met_of (move {given} {came} {wrote} {c} {t} {w} {e} {l} S o (compares h r e2 l2 C)) =
    let f : C.came ≡ l ++ C.fetched.got = C.fetched.rest in
    let M = met_some came wrote c.at e l C.fetched.got (met_of S) (common C.came e) (ap (λ x. common x e) f) in
    rw (C.at, C.expected, C.rest) (subst (λ (x : List ℕ). Met (came ++ C.fetched.got) (wrote ++ []) (c.at + common C.came e) (drop (common C.came e) e) (drop (common C.came e) x)) (sym f) M)
met_of (move {given} {came} {wrote} {c} {t} {w} {e} {l} S o (steps n g p k r t2 w2 o2 Q)) =
    met_new came wrote c.at e l (take Q.turned.answer.wrote o2) (met_of S) n r.at (ap (λ (x : Check). x.at) Q.check)
met_of (move {given} {came} {wrote} {c} {t} {w} {e} {l} S o (closes n g r l2 C)) =
    met_end came wrote c.at e l C.fetched.got l2 (met_of S) C.fetched.rest r.at C.at
met_of (move {given} {came} {wrote} {c} {t} {w} {e} {l} S o (fails n g)) = met_end came wrote c.at e l [] l (met_of S) (sym (append-nil l)) c.at refl

-- ---- what is known where something is found

abbrev pub Known : Option Finding → Check → List ℕ → List ℕ → Type 0
Known None r e l = Unit
Known (Some Accepted) r e l = (length e ≡ 0) × (length l ≡ 0) × EndsLog r.turn.end × (r.read ≡ Some (Ok 0))
Known (Some Differs) r e l = (0 < length e) × (0 < length l) × (common l e ≡ 0)
Known (Some TooLong) r e l = (length e ≡ 0) × (0 < length l) × EndsLog r.turn.end
Known (Some EndsEarly) r e l = (0 < length e) × (length l ≡ 0) × (r.read ≡ Some (Ok 0))
Known (Some TraceFailed) r e l = (r.turn.end ≡ Some ReadFailed) ⊎ (r.turn.end ≡ Some NotTaken)
Known (Some LogFailed) r e l = has_failed r.read ≡ true

-- nothing came: a read that did not fail told the end
ended : (l : List ℕ) (z : Option (Result ℕ ReadError)) (l2 : List ℕ) → Fetched l z l2 → length l2 ≡ 0 → has_failed z ≡ false → z ≡ Some (Ok 0)
ended l None l2 F n e = let h = simp length-append at (ap length F.rest) in never (F.where_empty ∙ eq-eqb (length l) 0 (omega (arith, h)))
ended l (Some (Ok k)) l2 F n e =
    let h = simp length-append at (ap length F.rest) in
    let i : k ≡ 0 = omega (arith, h, F.count) in
    rw i
ended l (Some (Err k)) l2 F n e = never (sym e)

module _ (c : Check) (e l : List ℕ) (r : Check) (e2 l2 : List ℕ) (h : 0 < length e) (C : Compares c e l r e2 l2) where
  left_e : length e2 ≡ length e - common C.came e
  left_e = ap length C.expected ∙ length-drop (common C.came e) e

  left_l : length l2 ≡ length C.came - common C.came e
  left_l = ap length C.rest ∙ length-drop (common C.came e) C.came

  -- what is left of both has nothing in common
  parted : common l2 e2 ≡ 0
  parted =
      let b = common_le C.came e in
      let i = common_is C.came e in
      let d = common_from (common C.came e) C.came e b.0 b.1 i.alike in
      rw (C.expected, C.rest) (omega (arith, d))

  pub known_compared : Known r.finding r e2 l2
  known_compared = subst (λ (f : Option Finding). Known f r e2 l2) (sym C.finding) (go (ltb 0 (length C.came)) refl)
    where
      some_came : (b : Bool) → (ltb 0 (length e2) && ltb 0 (length l2)) ≡ b → Known (cond b (Some Differs) None) r e2 l2
      some_came true f = let p = and_true (ltb 0 (length e2)) (ltb 0 (length l2)) f in (ltb-true 0 (length e2) p.0, ltb-true 0 (length l2) p.1, parted)
      some_came false f = tt

      none_came : length C.came ≡ 0 → (b : Bool) → has_failed r.read ≡ b → Known (Some (cond b LogFailed EndsEarly)) r e2 l2
      none_came n true f = f
      none_came n false f =
          let b = common_le C.came e in
          (omega (arith, left_e, b), omega (arith, left_l), ended l r.read C.came C.fetched n f)

      go : (b : Bool) → ltb 0 (length C.came) ≡ b → Known (cond b (with_more (length e2) (length l2)) (Some (without_more r.read))) r e2 l2
      go true f = some_came (ltb 0 (length e2) && ltb 0 (length l2)) refl
      go false f = none_came (let n = ltb-false 0 (length C.came) f in omega arith) (has_failed r.read) refl

module _ (c : Check) (e l : List ℕ) (r : Check) (l2 : List ℕ) (n : length e ≡ 0) (g : EndsLog c.turn.end) (C : Closes c l r l2) where
  ends : EndsLog r.turn.end
  ends = subst (λ (v : Turn). EndsLog v.end) (sym C.turn) g

  pub known_closed : Known r.finding r e l2
  known_closed = subst (λ (f : Option Finding). Known f r e l2) (sym C.finding) (go (ltb 0 (length l2)) refl (has_failed r.read) refl)
    where
      go : (b : Bool) → ltb 0 (length l2) ≡ b → (d : Bool) → has_failed r.read ≡ d → Known (Some (cond b TooLong (cond d LogFailed Accepted))) r e l2
      go true f d h = (n, ltb-true 0 (length l2) f, ends)
      go false f true h = h
      go false f false h = let m : length l2 ≡ 0 = (let k = ltb-false 0 (length l2) f in omega arith) in (n, m, ends, ended l r.read l2 C.fetched m h)

known_on : (r : Check) (e l : List ℕ) → r.finding ≡ None → Known r.finding r e l
known_on r e l o = subst (λ (f : Option Finding). Known f r e l) (sym o) tt

known_moved : (c : Check) (t : Tables) (w e l : List ℕ) {given came wrote : List ℕ} {r : Check} {t2 : Tables} {w2 e2 l2 : List ℕ}
    → Move c t w e l given came wrote r t2 w2 e2 l2 → Known r.finding r e2 l2
known_moved c t w e l (compares h r e2 l2 C) = known_compared c e l r e2 l2 h C
known_moved c t w e l (steps n g p k r t2 w2 o2 Q) =
    known_on r (take Q.turned.answer.wrote o2) l (ap (λ (x : Check). x.finding) Q.check)
known_moved c t w e l (closes n g r l2 C) = known_closed c e l r l2 n g C
known_moved c t w e l (fails n g) = g

pub known : {given came wrote : List ℕ} {c : Check} {t : Tables} {w e l : List ℕ} → Checks given came wrote c t w e l → Known c.finding c e l
known none = tt
known (move {given} {came} {wrote} {c} {t} {w} {e} {l} S o M) = known_moved c t w e l M
