-- The log of a `TK` tick by tick, and of a trace record by record: the number of records allowed makes no difference once it is that of the bytes.
use Prim.Native.Nat.{ℕ, zero, suc, ◌+◌, ◌-◌, ◌<◌, ◌≤◌}
use native.Mathlib.Omega.{arith}
use mathlib.Core.Path.{◌≡◌, refl, sym, ap, ◌∙◌}
use mathlib.Core.Bool.{Bool, true, false, cond}
use mathlib.Core.List.{List, [], ◌∷◌, ◌++◌}
use lib.Dec.{eqb}
use lib.ListN.{length, drop, length-drop}
use borrow.Author.Tests.{eq-eqb, ne_eqb}
use Rattle.either_line.specs.Line.{Line, tick, respond}
use Rattle.answers.specs.declared.Reply.TheVariants.{Ticked}
use Rattle.answers.specs.Answers.{answer_bytes}
use Rattle.answer_log.specs.Log.{Asked, one_call, some_ticks, unread, call_log, asked_within, asked_log, read_at, tick_log, ticks_run, asks_read, taken}
use Rattle.answer_log.proofs.ReadLaws.{read_lies}

-- what the records of bs ask, which starts at offset `at`
abbrev pub asked_from : ℕ → List ℕ → List (Asked × ℕ)
asked_from at bs = asked_within (length bs) at bs

-- the log of bs, which starts at offset `at`, from the line s
abbrev pub log_from : ℕ → Line → List ℕ → List ℕ
log_from at s bs = asked_log s (asked_from at bs)

-- ---- ticks

-- what they write, and the line after them
abbrev pub ticks_log : ℕ → ℕ → Line → List ℕ
ticks_log asked left s = (ticks_run asked left s).0

abbrev pub ticks_end : ℕ → ℕ → Line → Line
ticks_end asked left s = (ticks_run asked left s).1

module _ (left : ℕ) (s : Line) where
  -- one that is done: its departure, and then the rest
  module _ (e : (respond tick s).verdict ≡ 0) where
    done_run : (asked : ℕ) → ticks_run asked (suc left) s ≡ (tick_log (respond tick s) ++ (ticks_run asked left (respond tick s).next).0, (ticks_run asked left (respond tick s).next).1)
    unfolding ticks_run
    done_run asked = rw (eq-eqb (respond tick s).verdict 0 e)

    pub done_log : (asked : ℕ) → ticks_log asked (suc left) s ≡ tick_log (respond tick s) ++ ticks_log asked left (respond tick s).next
    done_log asked = ap (λ (x : List ℕ × Line). x.0) (done_run asked)

    pub done_end : (asked : ℕ) → ticks_end asked (suc left) s ≡ ticks_end asked left (respond tick s).next
    done_end asked = ap (λ (x : List ℕ × Line). x.1) (done_run asked)

  -- one that is refused: the `TA`
  module _ (n : (respond tick s).verdict ≡ 0 → ⊥) where
    refused_run : (asked : ℕ) → ticks_run asked (suc left) s ≡ (answer_bytes (Ticked (respond tick s).verdict (asked - suc left)), (respond tick s).next)
    unfolding ticks_run
    refused_run asked = rw (ne_eqb (respond tick s).verdict 0 n)

    pub refused_log : (asked : ℕ) → ticks_log asked (suc left) s ≡ answer_bytes (Ticked (respond tick s).verdict (asked - suc left))
    refused_log asked = ap (λ (x : List ℕ × Line). x.0) (refused_run asked)

    pub refused_end : (asked : ℕ) → ticks_end asked (suc left) s ≡ (respond tick s).next
    refused_end asked = ap (λ (x : List ℕ × Line). x.1) (refused_run asked)

-- ---- records

-- the records up to the first malformed one, with it: no other counts
abbrev pub counting : List (Asked × ℕ) → List (Asked × ℕ)
counting [] = []
counting ((one_call c, at) ∷ rest) = (one_call c, at) ∷ counting rest
counting ((some_ticks n, at) ∷ rest) = (some_ticks n, at) ∷ counting rest
counting ((unread, at) ∷ rest) = (unread, at) ∷ []

log_counting : (s : Line) (l : List (Asked × ℕ)) → asked_log s l ≡ asked_log s (counting l)
log_counting s [] = refl
log_counting s ((one_call c, at) ∷ rest) = ap (λ k. call_log c (respond c s) ++ k) (log_counting (respond c s).next rest)
log_counting s ((some_ticks n, at) ∷ rest) = ap (λ k. ticks_log n n s ++ k) (log_counting (ticks_end n n s) rest)
log_counting s ((unread, at) ∷ rest) = refl

one_more : (q : Asked) (k at : ℕ) (l m : List (Asked × ℕ)) → (k ≡ 0 → q ≡ unread) → (0 < k → counting l ≡ counting m)
    → counting ((q, at) ∷ l) ≡ counting ((q, at) ∷ m)
one_more q zero at l m none f = rw (none refl)
one_more (one_call c) (suc k) at l m none f = ap (λ rest. (one_call c, at) ∷ rest) (f (omega arith))
one_more (some_ticks n) (suc k) at l m none f = ap (λ rest. (some_ticks n, at) ∷ rest) (f (omega arith))
one_more unread (suc k) at l m none f = refl

where_any : (b : Bool) (l m : List (Asked × ℕ)) → counting l ≡ counting m → counting (cond b [] l) ≡ counting (cond b [] m)
where_any true l m e = refl
where_any false l m e = e

enough : (f g at : ℕ) (bs : List ℕ) → length bs ≤ f → length bs ≤ g → counting (asked_within f at bs) ≡ counting (asked_within g at bs)
unfolding asked_within
enough zero zero at bs h k = refl
enough zero (suc g) at bs h k = rw (eq-eqb (length bs) 0 (omega arith))
enough (suc f) zero at bs h k = rw (eq-eqb (length bs) 0 (omega arith))
enough (suc f) (suc g) at bs h k =
    let lies = read_lies at bs in
    let more : ℕ → List (Asked × ℕ) = λ i. asked_within i (at + taken (read_at at bs)) (drop (taken (read_at at bs)) bs) in
    where_any (eqb (length bs) 0) ((asks_read (read_at at bs), at) ∷ more f) ((asks_read (read_at at bs), at) ∷ more g)
    (one_more (asks_read (read_at at bs)) (taken (read_at at bs)) at (more f) (more g) (λ z. ap asks_read (lies.no_byte z))
    (λ p. enough f g (at + taken (read_at at bs)) (drop (taken (read_at at bs)) bs) (simp length-drop (omega (arith, lies.fits))) (simp length-drop (omega (arith, lies.fits)))))

-- the first record, and those behind it
abbrev pub asked_behind : ℕ → List ℕ → List (Asked × ℕ)
asked_behind at bs = (asks_read (read_at at bs), at) ∷ asked_from (at + taken (read_at at bs)) (drop (taken (read_at at bs)) bs)

pub record_by_record : (at : ℕ) (bs : List ℕ) → 0 < length bs → counting (asked_from at bs) ≡ counting (asked_behind at bs)
unfolding asked_within
record_by_record at bs h =
    let lies = read_lies at bs in
    enough (length bs) (suc (length bs)) at bs (omega arith) (omega arith)
    ∙ rw (ne_eqb (length bs) 0 (omega arith))
    (one_more (asks_read (read_at at bs)) (taken (read_at at bs)) at (asked_within (length bs) (at + taken (read_at at bs)) (drop (taken (read_at at bs)) bs))
    (asked_from (at + taken (read_at at bs)) (drop (taken (read_at at bs)) bs)) (λ z. ap asks_read (lies.no_byte z))
    (λ p. enough (length bs) (length (drop (taken (read_at at bs)) bs)) (at + taken (read_at at bs)) (drop (taken (read_at at bs)) bs) (simp length-drop (omega (arith, lies.fits))) (omega arith)))

pub none_asked : (at : ℕ) (bs : List ℕ) → length bs ≡ 0 → asked_from at bs ≡ []
unfolding asked_within
none_asked at bs e = rw e

pub log_of_none : (at : ℕ) (s : Line) (bs : List ℕ) → length bs ≡ 0 → log_from at s bs ≡ []
log_of_none at s bs e = ap (asked_log s) (none_asked at bs e)

pub log_of_some : (at : ℕ) (s : Line) (bs : List ℕ) → 0 < length bs → log_from at s bs ≡ asked_log s (asked_behind at bs)
log_of_some at s bs h = log_counting s (asked_from at bs) ∙ ap (asked_log s) (record_by_record at bs h) ∙ sym (log_counting s (asked_behind at bs))
