-- What one turn of a program's loop needs: the measure, the window, what follows it, and that it goes on with a session.
use Prim.Native.Nat.{ℕ, zero, suc, ◌+◌, ◌-◌, ◌/◌, ◌<◌, ◌≤◌}
use native.Mathlib.Omega.{arith}
use mathlib.Core.Path.{◌≡◌, refl, sym, ap, ◌∙◌, subst}
use mathlib.Core.Bool.{Bool, true, false, cond}
use mathlib.Core.List.{List, [], ◌∷◌, ◌++◌, append-nil}
use mathlib.Core.Logic.{inl, inr}
use Rattle.std.specs.Prelude.{Option, Some, None, Result, Ok, Err}
use lib.ListN.{length, take, drop, length-drop}
use lib.Seq.{length-take-le, take-append-add, take-nil, drop-drop}
use lib.Dec.{eqb}
use borrow.Author.Tests.{le-ltb, eq-eqb, ne_eqb, eqb-true, eqb-false}
use Rattle.rules.proofs.Tests.{never}
use Rattle.std.specs.Io.{ReadsAtMost}
use Rattle.streams.specs.declared.ReadError.{ReadError}
use Rattle.tables.specs.Lent.{Tables}
use Rattle.steps.specs.declared.Phase.TheVariants.{Finished}
use Rattle.steps.specs.declared.Cursor.{Cursor}
use Rattle.steps.specs.declared.Stepped.{Stepped}
use Rattle.steps.specs.declared.Status.{Status}
use Rattle.steps.specs.declared.Status.TheVariants.{GoOn, MoreBytes, MoreRoom, NotSound, Done}
use Rattle.answers.specs.Answers.{longest_answer}
use Rattle.answer_log.specs.Log.{trace_limit, log}
use Rattle.steps.specs.Steps.{work}
use Rattle.replay.proofs.FactLaws.{Facts}
use Rattle.fields.proofs.PartLaws.{part_back}
use Rattle.replay.specs.Slides.{slide_length, slid}
use Rattle.replay.specs.Sessions.{Steps, Session}
use Rattle.replay.specs.Sessions.Session.{more, call}
use Rattle.replay.proofs.SlideLaws.{take_slid}
use Rattle.replay.proofs.Results.{every_session}
use Rattle.turns.specs.declared.End.{End}
use Rattle.turns.specs.declared.End.TheVariants.{Whole, Malformed, ReadFailed, NotTaken}
use Rattle.turns.specs.declared.Turn.{Turn}
use Rattle.turns.specs.Turns.{EndsLog, given_by, is_end, heard, reads, after_steps, read_turn, still_turn, Right, Better, window, Refilled, Followed, Onward, Turned}

pub slide_len : (from to n : ℕ) → from ≤ to → to ≤ n → slide_length from to n ≡ to - from
slide_len from to n h k = rw (le-ltb to from h, le-ltb n to k)

pub length_window : (b : List ℕ) (from to : ℕ) → from ≤ to → to ≤ length b → length (window b from to) ≡ to - from
length_window b from to h k = length-take-le (to - from) (drop from b) (simp length-drop (omega arith))

-- the arithmetic of the measure, over plain numbers: w is the work, a the place, l the trace-limit and the buffer
none_less : (w a n l : ℕ) → w + (l - (a + (n - 0))) + 0 < w + (l - (a + n)) + 1
none_less w a n l = let e : n - 0 ≡ n = omega arith in rw e (omega arith)

some_less : (w a n g l : ℕ) → 0 < g → a + (n + g) ≤ l → w + (l - (a + (n + g - 0))) + 1 < w + (l - (a + n)) + 1
some_less w a n g l p q = let e : n + g - 0 ≡ n + g = omega arith in rw e (omega arith)

go_less : (w v a b l k from to u : ℕ) → b ≡ a + u → v < w → u ≤ to - from → from ≤ to → v + (l - (b + (to - (from + u)))) + k < w + (l - (a + (to - from))) + k
go_less w v a b l k from to u d p q h = let e : b + (to - (from + u)) ≡ a + (to - from) = omega arith in rw e (omega arith)

more_less : (x w v a b l from to u : ℕ) → b ≡ a + u → v ≤ w → u ≤ to - from → from ≤ to → x < v + (l - (b + (to - (from + u)))) + 1 → x < w + (l - (a + (to - from))) + 1
more_less x w v a b l from to u d p q h m = let e : b + (to - (from + u)) ≡ a + (to - from) = omega arith in let n = rw e at m in omega arith

-- ---- what a read answers

pub given_fits : (z : Result ℕ ReadError) (room : List ℕ) → ReadsAtMost z room → given_by (Some z) ≤ length room
given_fits (Ok k) room h = h.0
given_fits (Err e) room h = omega arith

pub reads_only : (b : Bool) (k : Status) → reads b k ≡ true → (b ≡ true) × (k ≡ MoreBytes)
reads_only b GoOn e = never e
reads_only b MoreBytes e = (e, refl)
reads_only b MoreRoom e = never e
reads_only b NotSound e = never e
reads_only b Done e = never e

not_reads : (b : Bool) (k : Status) → reads b k ≡ false → b ≡ true → k ≡ MoreBytes → ⊥
not_reads b k e f g = never (sym e ∙ rw (f, g))

-- where no read follows the next turn, some step was made
not_on : (e : Bool) → cond e (Some Whole) (Some Malformed) ≡ None → ⊥
not_on true f = never cc
not_on false f = never cc

goes : (b : Bool) (k : Status) (e : Bool) → reads b k ≡ false → after_steps b k e ≡ None → k ≡ GoOn
goes false k e r f = never cc
goes true GoOn e r f = refl
goes true MoreBytes e r f = never (sym r)
goes true MoreRoom e r f = never cc
goes true NotSound e r f = never cc
goes true Done e r f = absurd (not_on e f)

module _ (N : ℕ) (c : Cursor) (from to : ℕ) (R : Right N c from to) where
  pub refill_better : (n : ℕ) (z : Result ℕ ReadError) → n ≡ to - from → n + given_by (Some z) ≤ N → heard (Some z) ≡ None → Better N c from to false (read_turn c n z)
  refill_better n (Ok zero) e q o =
      let k : n + 0 ≡ n = omega arith in
      record {
        right = record { order = omega arith; inside = q; place = R.place };
        less = rw (k, ← e) (none_less (work c.at c.phase) c.at n (trace_limit + N));
      }
  refill_better n (Ok (suc g)) e q o =
      record {
        right = record { order = omega arith; inside = q; place = R.place };
        less = rw (ne_eqb (suc g) 0 (omega arith), ← e) (some_less (work c.at c.phase) c.at n (suc g) (trace_limit + N) (omega arith) (omega (arith, R.place)));
      }
  refill_better n (Err g) e q o = never cc

  module _ (last : Bool) (r : ℕ) (a : Stepped) (F : Facts c (to - from) last r a) where
    pub wanted : Right N a.cursor (from + a.used) to
    wanted = record { order = omega (arith, R.order, F.used); inside = R.inside; place = F.within R.place }

    pub still_better : (b i : Bool) → reads b a.status ≡ false → after_steps b a.status i ≡ None → Better N c from to last (still_turn a from to last b i)
    still_better b i e o =
        record {
          right = wanted;
          less = go_less (work c.at c.phase) (work a.cursor.at a.cursor.phase) c.at a.cursor.at (trace_limit + N) (cond last 0 1) from to a.used F.place (F.less (goes b a.status i e o)) F.used R.order;
        }

    pub asked_better : (b : Bool) (v : Turn) → reads b a.status ≡ true → Better N a.cursor (from + a.used) to false v → Better N c from to last v
    asked_better b v e B =
        record {
          right = B.right;
          less = rw (F.wants (reads_only b a.status e).1) (more_less _ (work c.at c.phase) (work a.cursor.at a.cursor.phase) c.at a.cursor.at (trace_limit + N) from to a.used F.place F.never_more F.used R.order B.less);
        }

-- ---- the window

-- the window after u bytes of it were used
drop_take : (u k : ℕ) (l : List ℕ) → drop u (take k l) ≡ take (k - u) (drop u l)
drop_take zero k l = let e : k - 0 ≡ k = omega arith in rw e
drop_take (suc u) zero l = let e : 0 - suc u ≡ 0 = omega arith in rw e
drop_take (suc u) (suc k) [] = sym (take-nil (suc k - suc u))
drop_take (suc u) (suc k) (a ∷ l) = let e : suc k - suc u ≡ k - u = omega arith in rw e (drop_take u k l)

pub window_drop : (b : List ℕ) (from to u : ℕ) → from ≤ to → window b (from + u) to ≡ drop u (window b from to)
window_drop b from to u h =
    let e : to - (from + u) ≡ to - from - u = omega arith in
    rw (e, drop_take u (to - from) (drop from b), drop-drop)

-- the window is used up where nothing of it is left
pub used_up : (b : List ℕ) (from to u : ℕ) → from ≤ to → to ≤ length b → u ≤ to - from → eqb (from + u) to ≡ eqb (length (drop u (window b from to))) 0
used_up b from to u h k l =
    let d : length (drop u (window b from to)) ≡ to - from - u = simp length-drop (rw (length_window b from to h k)) in
    rw d (go (eqb (from + u) to) refl)
  where
    go : (t : Bool) → eqb (from + u) to ≡ t → t ≡ eqb (to - from - u) 0
    go true e = let n : from + u ≡ to = eqb-true _ _ e in sym (eq-eqb (to - from - u) 0 (omega arith))
    go false e = let n : from + u ≡ to → ⊥ = eqb-false _ _ e in sym (ne_eqb (to - from - u) 0 (λ z. n (omega arith)))

-- the buffer b after its window went to the front, and ys were read behind it
pub refilled : (b : List ℕ) (from to : ℕ) (ys : List ℕ) (g : ℕ) → from ≤ to → to ≤ length b →
    window (take (to - from) (slid b from (to - from)) ++ ys) 0 (to - from + g) ≡ window b from to ++ take g ys
refilled b from to ys g h k =
    let e : to - from + g - 0 ≡ to - from + g = omega arith in
    let d : length (window b from to) ≡ to - from = length_window b from to h k in
    rw (e, take_slid b from (to - from) (omega arith))
    (ap (λ i. take (i + g) (window b from to ++ ys)) (sym d) ∙ take-append-add (window b from to) ys g)

module _ (b S ys : List ℕ) (from to n : ℕ) (h : from ≤ to) (k : to ≤ length b) (e : n ≡ to - from) (f : S ≡ slid b from n) where
  behind : (g : ℕ) → window (take n S ++ (ys ++ drop (length S - n) (drop n S))) 0 (n + g) ≡ window b from to ++ take g ys
  behind g = rw (part_back n S ys ys refl, f, e) (refilled b from to ys g h k)

  pub refill_reads : (c : Cursor) (z : Result ℕ ReadError) → given_by (Some z) ≤ length ys
      → Refilled c (window b from to) (read_turn c n z) (window (take n S ++ (ys ++ drop (length S - n) (drop n S))) 0 (n + given_by (Some z)))
  refill_reads c z l =
      record { answer = z; turn = ap (λ i. read_turn c i z) (e ∙ sym (length_window b from to h k)); got = take (given_by (Some z)) ys; count = length-take-le (given_by (Some z)) ys l; rest = behind (given_by (Some z)) }

-- ---- what follows the steps, from what its calls ensure

some_none : {z : Result ℕ ReadError} → Some z ≡ None → ⊥
some_none e = never cc

module _ (a : Stepped) (w : List ℕ) (last : Bool) (w2 : List ℕ) (b : Bool) where
  pub followed_still : (from to : ℕ) (i : Bool) → reads b a.status ≡ false → i ≡ eqb (length (drop a.used w)) 0 → w2 ≡ drop a.used w
      → Followed a w last (still_turn a from to last b i) w2
  followed_still from to i e h f =
      record {
        cursor = refl;
        got = [];
        count = refl;
        rest = f ∙ sym (append-nil (drop a.used w));
        where_read = λ g m. absurd (not_reads b a.status e g m);
        where_not = λ _. (refl, refl, ap (after_steps b a.status) h);
      }

  pub followed_read : (v : Turn) → reads b a.status ≡ true → (a.status ≡ MoreBytes → last ≡ false) → Refilled a.cursor (drop a.used w) v w2
      → Followed a w last v w2
  followed_read v e wants F =
      let k = reads_only b a.status e in
      record {
        cursor = ap (λ (x : Turn). x.cursor) F.turn;
        got = F.got;
        count = F.count;
        rest = F.rest;
        where_read = λ _ _. (
          wants k.1,
          ap (λ (x : Turn). x.last) F.turn ∙ ap is_end (sym (ap (λ (x : Turn). x.read) F.turn)),
          ap (λ (x : Turn). x.end) F.turn ∙ ap heard (sym (ap (λ (x : Turn). x.read) F.turn)),
          λ n. absurd (some_none (sym (ap (λ (x : Turn). x.read) F.turn) ∙ n)),
        );
        where_not = λ n. absurd (n (ap (λ (x : Turn). x.taken) F.turn) k.1);
      }

-- .. and the other way
module _ {a : Stepped} {w : List ℕ} {last : Bool} {v : Turn} {w2 : List ℕ} (F : Followed a w last v w2) where
  pub where_reads : reads v.taken a.status ≡ true → (last ≡ false) × (v.last ≡ is_end v.read) × (v.end ≡ heard v.read) × (v.read ≡ None → ⊥)
  where_reads e = let k = reads_only v.taken a.status e in F.where_read k.0 k.1

  pub where_stays : reads v.taken a.status ≡ false → (v.read ≡ None) × (v.last ≡ last) × (v.end ≡ after_steps v.taken a.status (eqb (length (drop a.used w)) 0))
  where_stays e = F.where_not (not_reads v.taken a.status e)

-- ---- a turn: a call of `pump`, and what follows it

module _ (c : Cursor) (t : Tables) (w : List ℕ) (last : Bool) (o : List ℕ) (a : Stepped) (t2 : Tables) (o2 w2 : List ℕ) (v : Turn) where
  unfoldable pub turned : Steps (length o / longest_answer) c t w last o a t2 o2 → Followed a w last v w2 → Turned c t w last o v t2 o2 w2
  turned P F = record { answer = a; pumps = P; follows = F }

-- .. that is followed by another leaves less to do
pub turn_better : (N : ℕ) (c : Cursor) (from to : ℕ) → Right N c from to → (last : Bool) (r : ℕ) (a : Stepped) → Facts c (to - from) last r a → (b : Bool) (v : Turn)
    → Onward N a from to last b v → v.end ≡ None → Better N c from to last v
turn_better N c from to R last r a F b v O o = go (reads b a.status) refl
  where
    go : (d : Bool) → reads b a.status ≡ d → Better N c from to last v
    go true e = asked_better N c from to R last r a F b v e (O.where_read e o)
    go false e =
        let s = O.where_not e in
        subst (Better N c from to last) (sym s)
        (still_better N c from to R last r a F b (eqb (from + a.used) to) e (ap (λ (x : Turn). x.end) (sym s) ∙ o))

-- what the end of a turn says of its calls
abbrev pub ends_log : Option End → Bool
ends_log None = false
ends_log (Some Whole) = true
ends_log (Some Malformed) = true
ends_log (Some ReadFailed) = false
ends_log (Some NotTaken) = false

ends_it : (e : Option End) → EndsLog e → ends_log e ≡ true
ends_it e (inl f) = ap ends_log f
ends_it e (inr f) = ap ends_log f

heard_ends : (z : Option (Result ℕ ReadError)) → ends_log (heard z) ≡ true → ⊥
heard_ends None e = never e
heard_ends (Some (Ok n)) e = never e
heard_ends (Some (Err n)) e = never e

after_ends : (b : Bool) (k : Status) (i : Bool) → ends_log (after_steps b k i) ≡ true → (b ≡ true) × (k ≡ Done)
after_ends false k i e = never e
after_ends true GoOn i e = never e
after_ends true MoreBytes i e = never e
after_ends true MoreRoom i e = never e
after_ends true NotSound i e = never e
after_ends true Done i e = (refl, refl)

-- ---- a turn goes on with the session

module _ (trace wrote : List ℕ) (c : Cursor) (t : Tables) (w unread : List ℕ) (S : Session trace wrote c t w unread) (last : Bool) (g : last ≡ true → unread ≡ [])
    (o : List ℕ) (v : Turn) (t2 : Tables) (o2 w2 : List ℕ) (T : Turned c t w last o v t2 o2 w2) where
  pub turn_keeps : (then : List ℕ) → unread ≡ T.follows.got ++ then → Session trace (wrote ++ take T.answer.wrote o2) v.cursor t2 w2 then
  turn_keeps then e =
      let P = call (length o / longest_answer) last g o T.answer t2 o2 T.pumps S in
      let Q = more T.follows.got then (subst (λ l. Session trace (wrote ++ take T.answer.wrote o2) T.answer.cursor t2 (drop T.answer.used w) l) e P) in
      rw (T.follows.cursor, T.follows.rest) Q

  pub ends_status : EndsLog v.end → (v.taken ≡ true) × (T.answer.status ≡ Done)
  ends_status e = go (reads v.taken T.answer.status) refl
    where
      go : (d : Bool) → reads v.taken T.answer.status ≡ d → (v.taken ≡ true) × (T.answer.status ≡ Done)
      go true f = absurd (heard_ends v.read (ap ends_log (sym (where_reads T.follows f).2) ∙ ends_it v.end e))
      go false f =
          after_ends v.taken T.answer.status (eqb (length (drop T.answer.used w)) 0)
          (ap ends_log (sym (where_stays T.follows f).2) ∙ ends_it v.end e)

  -- the log ended: the cursor is finished
  pub turn_finishes : EndsLog v.end → T.answer.cursor.phase ≡ Finished
  turn_finishes e = ((every_session trace wrote c t w unread S).answers (length o / longest_answer) last g o T.answer t2 o2 T.pumps).done_is_finished (ends_status e).1

  pub turn_ends : EndsLog v.end → wrote ++ take T.answer.wrote o2 ≡ log trace
  turn_ends e =
      (every_session trace _ T.answer.cursor t2 (drop T.answer.used w) unread (call (length o / longest_answer) last g o T.answer t2 o2 T.pumps S)
      ).writes_the_log (turn_finishes e)
