-- A move of the checker, from what its calls ensure: what it is, and that it leaves less to do.
use Prim.Native.Nat.{ℕ, suc, ◌-◌, ◌/◌, ◌<◌, ◌≤◌}
use native.Mathlib.Omega.{arith}
use mathlib.Core.Path.{◌≡◌, refl, sym, ap, ◌∙◌, subst}
use mathlib.Core.Bool.{Bool, true, false, cond, ◌&&◌}
use mathlib.Core.Logic.{◌⊎◌}
use mathlib.Core.List.{List, [], ◌++◌}
use lib.Dec.{ltb}
use Rattle.std.specs.Prelude.{Option, Some, None, Result, is_some}
use Rattle.streams.specs.declared.ReadError.{ReadError}
use lib.ListN.{length, take, length-drop}
use borrow.Author.Tests.{ltb-true, ltb-false}
use Rattle.rules.proofs.Tests.{never, and_cases}
use Rattle.state.specs.View.{zero_tables}
use Rattle.tables.specs.Lent.{Tables}
use Rattle.answers.specs.Answers.{longest_answer}
use Rattle.turns.specs.declared.End.{End}
use Rattle.turns.specs.declared.End.TheVariants.{ReadFailed, NotTaken}
use Rattle.turns.specs.declared.Turn.{Turn}
use Rattle.replay.specs.Sessions.{Steps}
use Rattle.steps.specs.declared.Stepped.{Stepped}
use Rattle.turns.specs.Turns.{EndsLog, turns_left, window, Right, Better, Followed}
use Rattle.turns.proofs.TurnLaws.{turned}
use Rattle.turns.proofs.Results.{so_many_turns}
use Rattle.checker.specs.declared.Finding.{Finding}
use Rattle.checker.specs.declared.Finding.TheVariants.{Differs}
use Rattle.checker.specs.declared.Check.{Check}
use Rattle.checker.specs.Judgement.{common}
use Rattle.checker.specs.Checks.{Inside, without_more, with_more, Compares, StepsOn, Closes, failed, Advances, first_check, Checks, Judges}
use Rattle.checker.specs.Checks.Checks.{none, move}
use Rattle.checker.specs.Checks.Move.{compares, steps, closes, fails}
use Rattle.checker.proofs.CommonLaws.{common_le}
use Rattle.checker.specs.Bounds.{left, Fit, Nearer}

-- ---- what it is

-- after a turn v of the replay, which wrote n bytes
abbrev stepped : Check → Turn → ℕ → Check
stepped c v n = record { turn = v; met = 0; wrote = n; from = c.from; to = c.to; read = None; at = c.at; finding = None }

-- a call of `pump` that answered a, and what follows it, where all is taken
pub steps_on : (c : Check) (t : Tables) (w o : List ℕ) (a : Stepped) (v : Turn) (t2 : Tables) (w2 o2 : List ℕ) → Steps (length o / longest_answer) c.turn.cursor t w c.turn.last o a t2 o2
    → Followed a w c.turn.last v w2 → v.taken ≡ true → StepsOn c t w o (stepped c v a.wrote) t2 w2 o2
unfolding turned
steps_on c t w o a v t2 w2 o2 P F T = record { turned = turned c.turn.cursor t w c.turn.last o a t2 o2 w2 v P F; taken = T; check = refl }

module _ (c : Check) (t : Tables) (w e l : List ℕ) where
  pub by_comparing : (r : Check) (w2 e2 l2 : List ℕ) → 0 < length e → Compares c e l r e2 l2 → w2 ≡ w → Advances c t w e l r t w2 e2 l2
  by_comparing r w2 e2 l2 h C f = rw f (record { given = []; came = C.fetched.got; wrote = []; move = compares h r e2 l2 C })

  pub by_closing : (r : Check) (w2 e2 l2 : List ℕ) → length e ≡ 0 → EndsLog c.turn.end → Closes c l r l2 → w2 ≡ w → e2 ≡ e → Advances c t w e l r t w2 e2 l2
  by_closing r w2 e2 l2 n g C f h = rw (f, h) (record { given = []; came = C.fetched.got; wrote = []; move = closes n g r l2 C })

  pub by_failing : length e ≡ 0 → (c.turn.end ≡ Some ReadFailed) ⊎ (c.turn.end ≡ Some NotTaken) → Advances c t w e l (failed c) t w e l
  by_failing n g = record { given = []; came = []; wrote = []; move = fails n g }

first_bytes : (b : List ℕ) (n : ℕ) → window b 0 n ≡ take n b
first_bytes b n = let e : n - 0 ≡ n = omega arith in rw e

-- with the log's buffer b
pub by_steps : (c : Check) (t : Tables) (w e b o : List ℕ) (r : Check) (t2 : Tables) (w2 o2 : List ℕ) → length e ≡ 0 → c.turn.end ≡ None → longest_answer ≤ length o
    → StepsOn c t w o r t2 w2 o2
    → Advances c t w e (window b c.from c.to) r t2 w2 (window o2 r.met r.wrote) (window b r.from r.to)
by_steps c t w e b o r t2 w2 o2 n g k S =
    let n2 : ℕ = S.turned.answer.wrote in
    let p : window o2 r.met r.wrote ≡ take n2 o2 = ap (λ (x : Check). window o2 x.met x.wrote) S.check ∙ first_bytes o2 n2 in
    let q : window b r.from r.to ≡ window b c.from c.to = ap (λ (x : Check). window b x.from x.to) S.check in
    rw (p, q) (record { given = S.turned.follows.got; came = []; wrote = take n2 o2; move = steps n g o k r t2 w2 o2 S })

-- ---- it leaves less to do

-- after the end nothing follows
pub end_on : (c : Check) (l : List ℕ) (r : Check) (l2 : List ℕ) → Closes c l r l2 → r.finding ≡ None → ⊥
end_on c l r l2 C o = found (sym C.finding ∙ o)
  where
    found : {f : Finding} → Some f ≡ None → ⊥
    found e = never cc

not_both : (b : Bool) → cond b (Some Differs) None ≡ None → b ≡ false
not_both true f = never cc
not_both false f = refl

-- bytes came, and one of the two is used up
pub on_met : (came e : List ℕ) (z : Option (Result ℕ ReadError)) (m n : ℕ) → 0 < length e → m ≡ length e - common came e → n ≡ length came - common came e
    → cond (ltb 0 (length came)) (with_more m n) (Some (without_more z)) ≡ None → 0 < common came e
on_met came e z m n h p q f = go (ltb 0 (length came)) refl f
  where
    go : (b : Bool) → ltb 0 (length came) ≡ b → cond b (with_more m n) (Some (without_more z)) ≡ None → 0 < common came e
    go true g d =
        let i = ltb-true 0 (length came) g in
        and_cases (ltb 0 m) (ltb 0 n) (not_both (ltb 0 m && ltb 0 n) d)
        (λ x. let y = ltb-false 0 m x in omega arith)
        (λ _ x. let y = ltb-false 0 n x in omega arith)
    go false g d = never cc

module _ (N M K : ℕ) (c : Check) (F : Fit N M K c) where
  pub compares_nearer : (r : Check) (e l e2 l2 : List ℕ) → length e ≡ c.wrote - c.met → length e2 ≡ r.wrote - r.met → 0 < length e → Compares c e l r e2 l2
      → Inside M r.met r.wrote → Inside K r.from r.to → r.finding ≡ None → Nearer N M K c r
  compares_nearer r e l e2 l2 p q h C I L o =
      let m : length e2 ≡ length e - common C.came e = ap length C.expected ∙ length-drop _ e in
      let n : length l2 ≡ length C.came - common C.came e = ap length C.rest ∙ length-drop _ C.came in
      let b = common_le C.came e in
      let k = on_met C.came e r.read (length e2) (length l2) h m n (sym C.finding ∙ o) in
      let t : left N r.turn ≡ left N c.turn = ap (left N) C.turn in
      record {
        fit = record {
          trace = λ g. subst (λ (v : Turn). Right N v.cursor v.from v.to) (sym C.turn) (F.trace (ap (λ (v : Turn). v.end) (sym C.turn) ∙ g));
          room = F.room;
          expected = I;
          log = L;
          offset = rw t (omega (arith, F.offset, C.at, m, k, p, q));
        };
        less = rw t (omega (arith, m, k, p, q));
      }

  -- what is left after a turn v of the replay
  left_less : (v : Turn) → c.turn.end ≡ None → (v.end ≡ None → Better N c.turn.cursor c.turn.from c.turn.to c.turn.last v)
      → left N v < left N c.turn
  left_less v g B = rw g (go v.end refl)
    where
      go : (e : Option End) → v.end ≡ e
          → cond (is_some e) 0 (suc (turns_left N v.cursor v.from v.to v.last)) < suc (turns_left N c.turn.cursor c.turn.from c.turn.to c.turn.last)
      go None f = omega (arith, (B f).less)
      go (Some e) f = omega arith

  pub steps_nearer : (t : Tables) (w o : List ℕ) (r : Check) (t2 : Tables) (w2 o2 : List ℕ) → c.turn.end ≡ None → StepsOn c t w o r t2 w2 o2
      → r.wrote ≤ M → (r.turn.end ≡ None → Better N c.turn.cursor c.turn.from c.turn.to c.turn.last r.turn)
      → Nearer N M K c r
  steps_nearer t w o r t2 w2 o2 g S h B =
      let k = left_less r.turn g B in
      let m = rw S.check at h in
      let n : Nearer N M K c (stepped c r.turn S.turned.answer.wrote) =
      record {
        fit = record {
          trace = λ f. (B f).right;
          room = F.room;
          expected = record { room = F.expected.room; order = omega arith; inside = m };
          log = F.log;
          offset = omega (arith, F.offset, F.room.1, k, m);
        };
        less = omega (arith, F.room.1, k, m);
      } in
      subst (Nearer N M K c) (sym S.check) n

pub first_fit : (N M K : ℕ) → N ≤ 65536 → longest_answer ≤ M → M ≤ 65536 → 0 < K → Fit N M K first_check
first_fit N M K n l m k =
    record {
      trace = λ _. record { order = omega arith; inside = omega arith; place = omega arith };
      room = (l, m);
      expected = record { room = omega arith; order = omega arith; inside = omega arith };
      log = record { room = k; order = omega arith; inside = omega arith };
      offset = omega (arith, so_many_turns N n);
    }

-- ---- all moves

-- some moves ended here
pub record Made (c : Check) (t : Tables) (w e l : List ℕ) : Type 0 where
  pub given : List ℕ
  pub came : List ℕ
  pub wrote : List ℕ
  pub checks : Checks given came wrote c t w e l

pub made_none : (t : Tables) → t ≡ zero_tables → Made first_check t [] [] []
made_none t e = rw e (record { given = []; came = []; wrote = []; checks = none })

pub made_more : (c : Check) (t : Tables) (w e l : List ℕ) → Made c t w e l → c.finding ≡ None → (r : Check) (t2 : Tables) (w2 e2 l2 : List ℕ)
    → Advances c t w e l r t2 w2 e2 l2 → Made r t2 w2 e2 l2
made_more c t w e l M o r t2 w2 e2 l2 A =
    record { given = M.given ++ A.given; came = M.came ++ A.came; wrote = M.wrote ++ A.wrote; checks = move M.checks o A.move }

pub made_judges : (r : Check) (t : Tables) (w e l : List ℕ) → Made r t w e l → (r.finding ≡ None → ⊥) → Judges r
made_judges r t w e l M o =
    record { trace = M.given; found = M.came; wrote = M.wrote; tables = t; window = w; expected = e; log_window = l; checks = M.checks; over = o }
