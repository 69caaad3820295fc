-- What a caller notes of a sequence of calls is what the rules' run of the requests that the calls are gives: one call, many ticks, any calls.
use Prim.Native.Nat.{ℕ, suc, ◌+◌}
use native.Mathlib.Omega.{arith}
use mathlib.Core.Path.{◌≡◌, refl, sym, ap, ◌∙◌, subst}
use mathlib.Core.Bool.{Bool, true, false, cond, true≢false}
use mathlib.Core.Logic.{inl, inr}
use mathlib.Core.List.{List, [], ◌∷◌, ◌++◌, append-nil}
use mathlib.Core.Option.{Option, none, some}
use lib.Dec.{eqb}
use lib.ListN.{replicate}
use borrow.Author.Tests.{eqb-true, eqb-false}
use Rattle.rules.specs.declared.Packet.{Packet}
use Rattle.rules.specs.Words.{All, push}
use Rattle.rules.specs.Runs.{Departure}
use Rattle.rules.proofs.Sums.{cond_is}
use Rattle.either_line.specs.Line.{Line, Request, link_levels, link_frames, admit_level, admit_share, offer, notice, close, tick, Reply, SoundLine, respond, clock_of, fresh_line}
use Rattle.either_line.proofs.Names.{LineHistory, taken, leaving, after, run_from, nothing_yet}
use Rattle.either_line.proofs.Results.{refusals_change_nothing, sound_is_kept}
use Rattle.tables.specs.Lent.{Tables}
use Rattle.tables.specs.Places.{is_some, no_packet, table_of}
use Rattle.tables.specs.Options.{option_of}
use Rattle.std.specs.Prelude as code
use Rattle.connections.specs.Members.{written_rows}
use Rattle.tables.specs.Calls.{calls_from}
use Rattle.both.specs.View.{view, kept_of, written}
use Rattle.both.specs.Replied.{replied_of, refusal}
use Rattle.both.proofs.WrittenLaws.{written_reads_back}
use Rattle.board.specs.Numbers.{kept_in, numbers_of, sound_lent}
use Rattle.board.specs.Ticks.{run_ticks}
use Rattle.board.specs.Calls.{Call, reply, refused_by, Spoken, spoken_of, departure_numbers}
use Rattle.board.specs.Does.{rules_tell, tells, leaves}
use Rattle.board.specs.Sequence.{Notes, line_of, accepted_in, departure_in, call, calls, requests_from}
use Rattle.board.specs.Promises.{FromTheHeader}
use Rattle.board.proofs.NumberLaws.{read_again, lent_sound}
use Rattle.board.proofs.TickLaws.{many, many_verdict, as_reply, run_is}
use Rattle.board.proofs.ReplyLaws.{EightLine, over_many, sound_next, eights_next, is_tick, no_departure, clock_on}

-- what is noted of a run of the rules
abbrev pub notes_of : LineHistory → Notes
notes_of h = record { accepted = h.accepted; departed = h.departed; kept = numbers_of (kept_of h.now); tables = written h.now }

-- ---- a sound line

-- a sound line written to four tables is read again, and they are sound
module _ (s : Line) (S : SoundLine s) (E : EightLine s) where
  pub read : view (kept_in (numbers_of (kept_of s))) (written s) ≡ s
  read = ap (λ k. view k (written s)) (read_again (kept_of s) E) ∙ (written_reads_back s S).0

  pub still_sound : sound_lent (numbers_of (kept_of s)) (written s) ≡ true
  still_sound = lent_sound (kept_of s) (written s) E (written_reads_back s S).1

-- ---- departures

-- a departure with its finish, if there is one
abbrev dated : Option Packet → ℕ → Option Departure
dated none finish = none
dated (some p) finish = some (record { what = p; finish = finish })

-- the departure that is read off the numbers of an answer
abbrev departure_told : Reply → Option Departure
departure_told a = departure_in (departure_numbers (replied_of a))

departs : (a : Reply) → departure_told a ≡ dated a.departed (clock_of a.next)
departs a = go a.departed (clock_of a.next)
  where
    go : (o : Option Packet) (finish : ℕ)
        → departure_in
        (cond (code.is_some (option_of o)) 1 0 ∷ (code.unwrap_or (option_of o) no_packet).connection ∷ (code.unwrap_or (option_of o) no_packet).len ∷ (code.unwrap_or (option_of o) no_packet).tag ∷ (code.unwrap_or (option_of o) no_packet).arrival ∷ (code.unwrap_or (option_of o) no_packet).eligibility
        ∷ cond (code.is_some (option_of o)) finish 0 ∷ [])
        ≡ dated o finish
    go none finish = refl
    go (some p) finish = refl

-- with a tick that is done it is the rules' departure
tick_left : (s : Line) → (respond tick s).verdict ≡ 0 → dated (respond tick s).departed (clock_of (respond tick s).next) ≡ leaving s (respond tick s).departed
tick_left s e = go (respond tick s).departed (clock_on s e)
  where
    go : (o : Option Packet) → clock_of (respond tick s).next ≡ clock_of s + 1 → dated o (clock_of (respond tick s).next) ≡ leaving s o
    go none f = refl
    go (some p) f = ap (λ (x : ℕ). some (record { what = p; finish = x })) f

none_of : (o : Option Packet) → is_some o ≡ false → o ≡ none
none_of none e = refl
none_of (some p) e = absurd (true≢false e)

-- ---- many ticks are as many ticks

abbrev at : List Packet → List Departure → Line → LineHistory
at acc gone s = record { accepted = acc; departed = gone; now = s }

ticks_run : (n : ℕ) (s : Line) (acc : List Packet) (gone : List Departure)
    → run_from (at acc gone s) (replicate (many n s).done tick) ≡ at acc (push gone (dated (many n s).departed (clock_of (many n s).next))) (many n s).next
ticks_run =
    over_many (λ s m. (acc : List Packet) (gone : List Departure) → run_from (at acc gone s) (replicate m.done tick) ≡ at acc (push gone (dated m.departed (clock_of m.next))) m.next)
    (λ s acc gone. refl)
    (λ s e f acc gone. ap (λ (o : Option Departure). at acc (push gone o) (respond tick s).next) (sym (tick_left s e)))
    (λ s m e f ih acc gone.
    let q : 1 + m.done ≡ suc m.done = omega arith in
    ap (λ (j : ℕ). run_from (at acc gone s) (replicate j tick)) q
    ∙ ap (λ (o : Option Packet). run_from (at acc (push gone (leaving s o)) (respond tick s).next) (replicate m.done tick)) (none_of (respond tick s).departed f)
    ∙ ih acc gone)

-- ---- one call

-- the requests that a call is
abbrev pub requests_of : Call → Line → List Request
requests_of k s = requests_from s (k ∷ [])

module _ (h : LineHistory) (S : SoundLine h.now) (E : EightLine h.now) where
  abbrev s : Line
  s = h.now

  pub same_tells : (k : Call) → tells k (numbers_of (kept_of s)) (written s) ≡ rules_tell k s
  unfolding tells
  same_tells k =
      cond_is _ (spoken_of k (refusal (kept_in (numbers_of (kept_of s))) 1 (refused_by k)) (numbers_of (kept_of s))) (still_sound s S E)
      ∙ ap (rules_tell k) (read s S E)

  same_leaves : (k : Call) → leaves k (numbers_of (kept_of s)) (written s) ≡ written (reply k s).next
  unfolding leaves
  same_leaves k = cond_is _ (written s) (still_sound s S E) ∙ ap (λ (x : Line). written (reply k x).next) (read s S E)

  -- what is noted of a call on the line z, told a, that leaves the tables t
  abbrev noted_of : Call → Line → Spoken → Tables → Notes
  noted_of k z a t = record {
    accepted = push h.accepted (accepted_in k z a);
    departed = push h.departed (departure_in a.departure);
    kept = a.line;
    tables = t;
  }

  call_is : (k : Call) → call (notes_of h) k ≡ noted_of k s (rules_tell k s) (written (reply k s).next)
  call_is k =
      ap (λ (a : Spoken). noted_of k (line_of (notes_of h)) a (leaves k (numbers_of (kept_of s)) (written s))) (same_tells k)
      ∙ ap (noted_of k (line_of (notes_of h)) (rules_tell k s)) (same_leaves k)
      ∙ ap (λ (z : Line). noted_of k z (rules_tell k s) (written (reply k s).next)) (read s S E)

  abbrev noted : List Packet → Option Departure → Line → Notes
  noted acc o z = record { accepted = acc; departed = push h.departed o; kept = numbers_of (kept_of z); tables = written z }

  -- no tick: nothing departs
  quietly : (r : Request) → (respond r s).departed ≡ none → noted (push h.accepted (taken r s (respond r s))) none (respond r s).next ≡ notes_of (after h r)
  quietly r e = ap (λ (o : Option Packet). noted (push h.accepted (taken r s (respond r s))) (leaving s o) (respond r s).next) (sym e)

  ticking : (respond tick s).verdict ≡ 0 → noted h.accepted (departure_told (respond tick s)) (respond tick s).next ≡ notes_of (after h tick)
  ticking e = ap (λ (o : Option Departure). noted h.accepted o (respond tick s).next) (departs (respond tick s) ∙ tick_left s e)

  refused_tick : ((respond tick s).verdict ≡ 0 → ⊥) → noted h.accepted (departure_told (respond tick s)) (respond tick s).next ≡ notes_of (after h tick)
  refused_tick z =
      let e = (refusals_change_nothing tick s z).1 in
      ap (λ (o : Option Departure). noted h.accepted o (respond tick s).next)
      (departs (respond tick s) ∙ ap (λ (o : Option Packet). dated o (clock_of (respond tick s).next)) e ∙ sym (ap (leaving s) e))

  one_tick : noted h.accepted (departure_told (respond tick s)) (respond tick s).next ≡ notes_of (after h tick)
  one_tick = go (eqb (respond tick s).verdict 0) refl
    where
      go : (b : Bool) → eqb (respond tick s).verdict 0 ≡ b → noted h.accepted (departure_told (respond tick s)) (respond tick s).next ≡ notes_of (after h tick)
      go true e = ticking (eqb-true _ 0 e)
      go false e = refused_tick (eqb-false _ 0 e)

  many_ticking : (n : ℕ) → noted h.accepted (departure_told (run_ticks n s)) (run_ticks n s).next ≡ notes_of (run_from h (requests_of (inr n) s))
  many_ticking n =
      subst (λ (a : Reply). noted h.accepted (departure_told a) a.next ≡ notes_of (run_from h (replicate a.number tick))) (sym (run_is n s))
      (ap (λ (o : Option Departure). noted h.accepted o (many n s).next) (departs (as_reply (many_verdict n s) (many n s)))
      ∙ ap notes_of (sym (ticks_run n s h.accepted h.departed)))
      ∙ ap (λ (l : List Request). notes_of (run_from h l)) (sym (append-nil (replicate (run_ticks n s).number tick)))

  -- a request that is no tick
  quiet_call : (r : Request) → is_tick r ≡ false
      → noted_of (inl r) s (rules_tell (inl r) s) (written (respond r s).next) ≡ noted (push h.accepted (taken r s (respond r s))) none (respond r s).next
      → call (notes_of h) (inl r) ≡ notes_of (after h r)
  quiet_call r i e = call_is (inl r) ∙ e ∙ quietly r (no_departure s r i)

  follows_one : (k : Call) → call (notes_of h) k ≡ notes_of (run_from h (requests_of k s))
  follows_one (inl (link_levels l)) = quiet_call (link_levels l) refl refl
  follows_one (inl (link_frames l)) = quiet_call (link_frames l) refl refl
  follows_one (inl (admit_level x)) = quiet_call (admit_level x) refl refl
  follows_one (inl (admit_share x)) = quiet_call (admit_share x) refl refl
  follows_one (inl (offer c len tag st)) = quiet_call (offer c len tag st) refl refl
  follows_one (inl (notice len tag)) = quiet_call (notice len tag) refl refl
  follows_one (inl (close c)) = quiet_call (close c) refl refl
  follows_one (inl tick) = call_is (inl tick) ∙ one_tick
  follows_one (inr n) = call_is (inr n) ∙ many_ticking n

  then_now : (k : Call) → (run_from h (requests_of k s)).now ≡ (reply k s).next
  then_now (inl r) = refl
  then_now (inr n) =
      ap (λ (l : List Request). (run_from h l).now) (append-nil (replicate (run_ticks n s).number tick))
      ∙ subst (λ (a : Reply). (run_from h (replicate a.number tick)).now ≡ a.next) (sym (run_is n s))
      (ap (λ (g : LineHistory). g.now) (ticks_run n s h.accepted h.departed))

-- ---- any calls

pub first_requests : (k : Call) (ks : List Call) (s : Line) → requests_from s (k ∷ ks) ≡ requests_of k s ++ requests_from (reply k s).next ks
first_requests (inl r) ks s = refl
first_requests (inr n) ks s = ap (λ (l : List Request). l ++ requests_from (run_ticks n s).next ks) (sym (append-nil (replicate (run_ticks n s).number tick)))

run_append : (as_first bs : List Request) (h : LineHistory) → run_from h (as_first ++ bs) ≡ run_from (run_from h as_first) bs
run_append [] bs h = refl
run_append (r ∷ rs) bs h = run_append rs bs (after h r)

pub follows_from : (ks : List Call) (h : LineHistory) → All FromTheHeader ks → SoundLine h.now → EightLine h.now
    → calls_from call (notes_of h) ks ≡ notes_of (run_from h (requests_from h.now ks))
follows_from [] h F S E = refl
follows_from (k ∷ ks) h F S E =
    let H = run_from h (requests_of k h.now) in
    let e = then_now h S E k in
    ap (λ (g : Notes). calls_from call g ks) (follows_one h S E k)
    ∙ follows_from ks H F.1 (subst SoundLine (sym e) (sound_next k h.now S)) (subst EightLine (sym e) (eights_next k h.now F.0 E))
    ∙ ap (λ (x : Line). notes_of (run_from H (requests_from x ks))) e
    ∙ ap notes_of (sym (run_append (requests_of k h.now) (requests_from (reply k h.now).next ks) h))
    ∙ ap (λ (l : List Request). notes_of (run_from h l)) (sym (first_requests k ks h.now))

pub blank_is : calls [] ≡ notes_of nothing_yet
unfolding written_rows table_of
blank_is = refl

-- the line of a run of calls has eights
pub eights_from : (ks : List Call) (h : LineHistory) → All FromTheHeader ks → SoundLine h.now → EightLine h.now
    → EightLine (run_from h (requests_from h.now ks)).now
eights_from [] h F S E = E
eights_from (k ∷ ks) h F S E =
    let e = then_now h S E k in
    let next = eights_next k h.now F.0 E in
    subst (λ (l : List Request). EightLine (run_from h l).now) (sym (first_requests k ks h.now))
    (subst (λ (g : LineHistory). EightLine g.now) (sym (run_append (requests_of k h.now) (requests_from (reply k h.now).next ks) h))
    (subst (λ (x : Line). EightLine (run_from (run_from h (requests_of k h.now)) (requests_from x ks)).now) e
    (eights_from ks (run_from h (requests_of k h.now)) F.1 (subst SoundLine (sym e) (sound_next k h.now S)) (subst EightLine (sym e) next))))

pub runs_well : (rs : List Request) (h : LineHistory) → SoundLine h.now → SoundLine (run_from h rs).now
runs_well [] h S = S
runs_well (r ∷ rs) h S = runs_well rs (after h r) (sound_is_kept r h.now S)

pub fresh_eights : EightLine fresh_line
fresh_eights = record { bounds = refl; windows = refl }
