-- THE PROOF of the statements in specs/Promises: `from_c`, at the end.
use Prim.Native.Nat.{ℕ, ◌+◌, ◌≤◌, ◌<◌}
use native.Mathlib.Omega.{arith}
use mathlib.Core.Path.{◌≡◌, refl, sym, ap, ◌∙◌, subst}
use mathlib.Core.Bool.{Bool, true, false, true≢false}
use mathlib.Core.Logic.{◌↔◌, inl, ⊎_elim}
use mathlib.Core.List.{List, [], ◌∷◌, ◌++◌, append_assoc, filter_map}
use mathlib.Core.Option.{Option, none, some}
use lib.ListN.{length, get_elem?}
use Rattle.rules.specs.declared.Packet.{Packet}
use Rattle.rules.specs.Model.{Call as LevelCall, offer as level_offer}
use Rattle.rules.specs.Words.{All}
use Rattle.rules.specs.Limits.{notice_number}
use Rattle.rules.specs.Service.{of}
use Rattle.rules.specs.Calls.{settle as level_settle, answer as level_answer, eligibility_now}
use Rattle.rules.specs.Runs.{History as LevelHistory, run as level_run, departures, bound_of}
use Rattle.rules.specs.Promises.{LeftBy}
use Rattle.rules.proofs.Sums.{cond_is, cond_ind}
use Rattle.rules.proofs.Tests.{not_true_false}
use Rattle.rules.proofs.Results.{answer_verdict, demand_3_first}
use Rattle.frames.specs.Service.{next_frame, leaves_by}
use Rattle.frames.specs.Runs.{run as frame_run}
use Rattle.frames.proofs.Names.{History as FrameHistory}
use Rattle.frames.proofs.Results.{every_run as every_frame_run}
use Rattle.either_line.specs.Line.{Line, Request, offer, Reply, by_levels, levels_set, frames_set, SoundLine, clock_of, respond, fresh_line, run}
use Rattle.either_line.proofs.Names.{LineHistory, nothing_yet, and_then, calls_step, level_call, level_calls, frame_calls, of_levels, of_frames}
use Rattle.either_line.proofs.Results.{fresh_is_sound, one_discipline, first_link_decides, told_by_its_discipline}
use Rattle.tables.specs.Lent.{Tables}
use Rattle.tables.proofs.CallLaws.{same_outcome}
use Rattle.tables.specs.Calls.{calls_from}
use Rattle.both.specs.View.{has_frames, view, kept_of, written}
use Rattle.both.proofs.Views.{of_levels as levels_view, of_frames as frames_view}
use Rattle.both.specs.Replied.{refusal}
use Rattle.both.proofs.SoundLaws.{is_sound, tables_kept, kept_back}
use Rattle.board.specs.Numbers.{kept_in, numbers_of, sound_lent}
use Rattle.board.specs.Calls.{Call, reply, refused_by, Spoken, spoken_of}
use Rattle.board.specs.Does.{rules_tell, tells, leaves, Does}
use Rattle.board.specs.Sequence.{Notes, line_of, number_in, call, calls, requests_from}
use Rattle.board.specs.Promises.{FromTheHeader, OfACall, OfCalls, FromC}
use Rattle.board.proofs.NumberLaws.{Eights, line_back, sound_long, sound_kept_in}
use Rattle.board.proofs.DoesLaws.{verdict_of, line_left, told_as, left_as}
use Rattle.board.proofs.ReplyLaws.{EightLine, refusal_stays, sound_next, not_verdict_1, eights_next}
use Rattle.board.proofs.FollowLaws.{notes_of, read, still_sound, requests_of, first_requests, same_tells, blank_is, follows_from, eights_from, runs_well, fresh_eights}

-- ---- what sound tables stand for

module _ (l : List ℕ) (t : Tables) (ok : sound_lent l t ≡ true) where
  abbrev here : Line
  here = view (kept_in l) t

  here_sound : SoundLine here
  here_sound = is_sound (kept_in l) t (sound_kept_in l t ok)

  -- what is written of it are the tables
  line_kept : numbers_of (kept_of here) ≡ l
  line_kept = ap numbers_of (sym (kept_back (kept_in l) t (sound_kept_in l t ok))) ∙ line_back l (sound_long l t ok)

  here_eights : EightLine here
  here_eights = subst Eights (kept_back (kept_in l) t (sound_kept_in l t ok)) (record { bounds = refl; windows = refl })

-- ---- the test is exact

-- whatever the numbers, the line that they stand for has eights
eights_in : (l : List ℕ) (t : Tables) → EightLine (view (kept_in l) t)
eights_in l t = cond_ind EightLine (has_frames (kept_in l)) {x = frames_view (kept_in l) t} {y = levels_view (kept_in l) t}
    (λ _. record { bounds = refl; windows = refl }) (λ _. record { bounds = refl; windows = refl })

exact : (l : List ℕ) (t : Tables) → sound_lent l t ≡ true ↔ ((l ≡ numbers_of (kept_of (view (kept_in l) t))) × (t ≡ written (view (kept_in l) t)) × SoundLine (view (kept_in l) t))
exact l t = (
  λ ok. (sym (line_kept l t ok), tables_kept (kept_in l) t (sound_kept_in l t ok), here_sound l t ok),
  λ w. ap (λ (x : List ℕ). sound_lent x t) w.0 ∙ ap (sound_lent (numbers_of (kept_of (view (kept_in l) t)))) w.1 ∙ still_sound (view (kept_in l) t) w.2 (eights_in l t),
)

-- ---- a call

module _ (k : Call) (l : List ℕ) (t : Tables) (told : Spoken) (u : Tables) (D : Does k l t told u) where
  module _ (off : sound_lent l t ≡ false) where
    unsound_told : told ≡ spoken_of k (refusal (kept_in l) 1 (refused_by k)) l
    unfolding tells
    unsound_told = D.answers ∙ cond_is _ _ off

    unsound_left : u ≡ t
    unfolding leaves
    unsound_left = D.tables ∙ cond_is _ _ off

  module _ (ok : sound_lent l t ≡ true) where
    verdict_is : told.verdict ≡ (reply k (here l t ok)).verdict
    verdict_is = ap (λ (x : Spoken). x.verdict) (told_as k l t ok told u D) ∙ verdict_of k _ _

    line_is : told.line ≡ numbers_of (kept_of (reply k (here l t ok)).next)
    line_is = ap (λ (x : Spoken). x.line) (told_as k l t ok told u D) ∙ line_left k _ _

  changes_nothing : (told.verdict ≡ 0 → ⊥) → (told.line ≡ l) × (u ≡ t)
  changes_nothing n = go (sound_lent l t) refl
    where
      go : (b : Bool) → sound_lent l t ≡ b → (told.line ≡ l) × (u ≡ t)
      go true ok =
          let e = refusal_stays k (here l t ok) (λ z. n (verdict_is ok ∙ z)) in (
            line_is ok ∙ ap (λ (s : Line). numbers_of (kept_of s)) e ∙ line_kept l t ok,
            left_as k l t ok told u D ∙ ap written e ∙ sym (tables_kept (kept_in l) t (sound_kept_in l t ok)),
          )
      go false off = (ap (λ (x : Spoken). x.line) (unsound_told off) ∙ line_left k _ _, unsound_left off)

  stays_sound : FromTheHeader k → sound_lent l t ≡ true → sound_lent told.line u ≡ true
  stays_sound F ok =
      let S = sound_next k (here l t ok) (here_sound l t ok) in
      let E = eights_next k (here l t ok) F (here_eights l t ok) in
      ap (λ (x : List ℕ). sound_lent x u) (line_is ok)
      ∙ ap (sound_lent (numbers_of (kept_of (reply k (here l t ok)).next))) (left_as k l t ok told u D)
      ∙ still_sound (reply k (here l t ok)).next S E

  of_a_call : OfACall k l t told u
  of_a_call = record {
    one_outcome = λ told' u' D'. same_outcome tells leaves k l t told told' u u' D D';
    refusals_change_nothing = changes_nothing;
    verdict_1_exactly = (
      λ z. not_true_false (sound_lent l t) (λ ok. not_verdict_1 k (here l t ok) (here_sound l t ok) (sym (verdict_is ok) ∙ z)),
      λ off. ap (λ (x : Spoken). x.verdict) (unsound_told off) ∙ verdict_of k _ _,
    );
    sound_is_kept = stays_sound;
  }

-- ---- any calls

follows : (ks : List Call) → All FromTheHeader ks → calls ks ≡ notes_of (run (requests_from fresh_line ks))
follows ks F = ap (λ (g : Notes). calls_from call g ks) blank_is ∙ follows_from ks nothing_yet F fresh_is_sound fresh_eights

abbrev rs : List Call → List Request
rs ks = requests_from fresh_line ks

module _ (ks : List Call) (F : All FromTheHeader ks) where
  run_sound : SoundLine (run (rs ks)).now
  run_sound = runs_well (rs ks) nothing_yet fresh_is_sound

  run_eights : EightLine (run (rs ks)).now
  run_eights = eights_from ks nothing_yet F fresh_is_sound fresh_eights

  same_line : line_of (calls ks) ≡ (run (rs ks)).now
  same_line = ap line_of (follows ks F) ∙ read (run (rs ks)).now run_sound run_eights

  told_in_the_run : (k : Call) → tells k (calls ks).kept (calls ks).tables ≡ rules_tell k (run (rs ks)).now
  told_in_the_run k = ap (λ (g : Notes). tells k g.kept g.tables) (follows ks F) ∙ same_tells (run (rs ks)) run_sound run_eights k

-- ---- calls behind others

-- the line that some calls leave
abbrev line_behind : Line → List Call → Line
line_behind s [] = s
line_behind s (k ∷ ks) = line_behind (reply k s).next ks

requests_append : (ks ms : List Call) (s : Line) → requests_from s (ks ++ ms) ≡ requests_from s ks ++ requests_from (line_behind s ks) ms
requests_append [] ms s = refl
requests_append (k ∷ ks) ms s =
    first_requests k (ks ++ ms) s
    ∙ ap (λ (l : List Request). requests_of k s ++ l) (requests_append ks ms (reply k s).next)
    ∙ sym (append_assoc (requests_of k s) (requests_from (reply k s).next ks) (requests_from (line_behind (reply k s).next ks) ms))
    ∙ ap (λ (l : List Request). l ++ requests_from (line_behind (reply k s).next ks) ms) (sym (first_requests k ks s))

headers_append : (ks ms : List Call) → All FromTheHeader ks → All FromTheHeader ms → All FromTheHeader (ks ++ ms)
headers_append [] ms F G = G
headers_append (k ∷ ks) ms F G = (F.0, headers_append ks ms F.1 G)

levels_append : (qs ps : List Request) → level_calls (qs ++ ps) ≡ level_calls qs ++ level_calls ps
unfolding filter_map
levels_append [] ps = refl
levels_append (q ∷ qs) ps =
    calls_step level_call q (qs ++ ps)
    ∙ go (level_call q) (levels_append qs ps)
    ∙ ap (λ (l : List LevelCall). l ++ level_calls ps) (sym (calls_step level_call q qs))
  where
    go : (o : Option LevelCall) → level_calls (qs ++ ps) ≡ level_calls qs ++ level_calls ps → and_then o (level_calls (qs ++ ps)) ≡ and_then o (level_calls qs) ++ level_calls ps
    go none ih = ih
    go (some j) ih = ap (λ (l : List LevelCall). j ∷ l) ih

-- a link of levels stays
still_levels : (ks ms : List Call) → All FromTheHeader ks → All FromTheHeader ms → levels_set (line_of (calls ks)) ≡ true → levels_set (line_of (calls (ks ++ ms))) ≡ true
still_levels ks ms F G set =
    ap levels_set (same_line (ks ++ ms) (headers_append ks ms F G))
    ∙ ap (λ (l : List Request). levels_set (run l).now) (requests_append ks ms fresh_line)
    ∙ (first_link_decides (rs ks) (requests_from (line_behind fresh_line ks) ms)).0 (ap levels_set (sym (same_line ks F)) ∙ set)

-- ---- the run of the discipline of levels

abbrev js : List Call → List LevelCall
js ks = level_calls (rs ks)

module _ (ks : List Call) (F : All FromTheHeader ks) (set : levels_set (line_of (calls ks)) ≡ true) where
  unframed_run : frames_set (run (rs ks)).now ≡ false
  unframed_run =
      not_true_false (frames_set (run (rs ks)).now)
      (λ f. (run_sound ks F).never_both (ap levels_set (sym (same_line ks F)) ∙ set) f)

  level_history : run (rs ks) ≡ of_levels (level_run (js ks))
  level_history = ⊎_elim (λ e. e.1) (λ e. absurd (true≢false (sym e.0 ∙ unframed_run))) (one_discipline (rs ks))

  level_line : line_of (calls ks) ≡ (of_levels (level_run (js ks))).now
  level_line = same_line ks F ∙ ap (λ (h : LineHistory). h.now) level_history

  level_notes : calls ks ≡ notes_of (of_levels (level_run (js ks)))
  level_notes = follows ks F ∙ ap notes_of level_history

  same_clock : clock_of (line_of (calls ks)) ≡ (level_run (js ks)).now.clock
  same_clock = ap clock_of level_line

  same_bound : (c : ℕ) → bound_of (line_of (calls ks)).levels c ≡ bound_of (level_run (js ks)).now c
  same_bound c = ap (λ (s : Line). bound_of s.levels c) level_line

  -- what an offer is told is the rules' answer
  module _ (c len tag : ℕ) (st : Option ℕ) where
    abbrev told : Spoken
    told = tells (inl (offer c len tag st)) (calls ks).kept (calls ks).tables

    as_levels : respond (offer c len tag st) (run (rs ks)).now ≡ by_levels (run (rs ks)).now (level_answer (level_offer c len tag st) (level_run (js ks)).now)
    as_levels = ((told_by_its_discipline (rs ks)).0 unframed_run).known (offer c len tag st) (level_offer c len tag st) refl

    answered : (told.verdict ≡ (level_answer (level_offer c len tag st) (level_run (js ks)).now).verdict) × (number_in told ≡ (level_answer (level_offer c len tag st) (level_run (js ks)).now).number)
    answered = let e = told_in_the_run ks F (inl (offer c len tag st)) in (
      ap (λ (a : Spoken). a.verdict) e ∙ ap (λ (a : Reply). a.verdict) as_levels,
      ap number_in e ∙ ap (λ (a : Reply). a.number) as_levels,
    )

-- ---- demand 3

module _ (earlier later : List Call) (F : All FromTheHeader earlier) (G : All FromTheHeader later) (c len tag : ℕ) (st : Option ℕ) (set : levels_set (line_of (calls earlier)) ≡ true) where
  abbrev rest : List Call
  rest = inl (offer c len tag st) ∷ later

  abbrev all : List Call
  all = earlier ++ rest

  abbrev behind : List LevelCall
  behind = level_calls (requests_from (respond (offer c len tag st) (line_behind fresh_line earlier)).next later)

  parted : js all ≡ js earlier ++ level_offer c len tag st ∷ behind
  parted =
      ap level_calls (requests_append earlier rest fresh_line)
      ∙ levels_append (rs earlier) (requests_from (line_behind fresh_line earlier) rest)
      ∙ ap (λ (l : List LevelCall). js earlier ++ l) (calls_step level_call (offer c len tag st) (requests_from (respond (offer c len tag st) (line_behind fresh_line earlier)).next later))

  rest_named : All FromTheHeader rest
  rest_named = (no_link, G)
    where
      no_link : FromTheHeader (inl (offer c len tag st))
      no_link l e = let z : ◌≡◌ {A = ℕ} 0 1 = cc in absurd (omega arith)

  all_named : All FromTheHeader all
  all_named = headers_append earlier rest F rest_named

  all_set : levels_set (line_of (calls all)) ≡ true
  all_set = still_levels earlier rest F rest_named set

  abbrev history : LevelHistory
  history = level_run (js earlier ++ level_offer c len tag st ∷ behind)

  -- the packet that is offered, and that it has left within the bound, as the caller notes it
  abbrev packet : ℕ → ℕ → Packet
  packet arrival e = record { connection = c; len = len; tag = tag; arrival = arrival; eligibility = e }

  abbrev Left : ℕ → Type 0
  Left e =
      e + bound_of (line_of (calls earlier)).levels c ≤ clock_of (line_of (calls all))
      → LeftBy (calls all).departed c (length (of c (calls earlier).accepted)) (packet (clock_of (line_of (calls earlier))) e) (e + bound_of (line_of (calls earlier)).levels c)

  -- it has, where it has in the rules' run
  has_left : (e : ℕ)
      → (e + bound_of (level_run (js earlier)).now c ≤ history.now.clock
      → LeftBy history.departed c (length (of c (level_run (js earlier)).accepted)) (packet (level_run (js earlier)).now.clock e) (e + bound_of (level_run (js earlier)).now c))
      → Left e
  has_left e leaves over =
      let clock_is : clock_of (line_of (calls all)) ≡ history.now.clock = same_clock all all_named all_set ∙ ap (λ (l : List LevelCall). (level_run l).now.clock) parted in
      let q = leaves (omega (arith, over, clock_is, same_bound earlier F set c)) in
      record {
        finish = q.finish;
        is_departure =
            ap (λ (g : Notes). get_elem? (departures c g.departed) (length (of c (calls earlier).accepted))) (level_notes all all_named all_set)
            ∙ ap (λ (l : List LevelCall). get_elem? (departures c (level_run l).departed) (length (of c (calls earlier).accepted))) parted
            ∙ ap (λ (g : Notes). get_elem? (departures c history.departed) (length (of c g.accepted))) (level_notes earlier F set)
            ∙ q.is_departure
            ∙ ap (λ (t : ℕ). some (record { what = packet t e; finish = q.finish })) (sym (same_clock earlier F set));
        in_time = omega (arith, q.in_time, same_bound earlier F set c);
      }

  left_in_time : (told earlier F set c len tag st).verdict ≡ 0 → Left (number_in (told earlier F set c len tag st))
  left_in_time z =
      let s = (level_run (js earlier)).now in
      let it = level_offer c len tag st in
      let a = answered earlier F set c len tag st in
      let v : (level_answer it s).verdict ≡ 0 = sym a.0 ∙ z in
      let n : number_in (told earlier F set c len tag st) ≡ eligibility_now s c st = a.1 ∙ ap (λ (w : ℕ). (level_settle it s w).number) (sym (answer_verdict it s) ∙ v) in
      subst Left (sym n) (has_left (eligibility_now s c st) (demand_3_first (js earlier) behind c len tag st v))

-- ---- a line with frames

module _ (ks : List Call) (F : All FromTheHeader ks) (f : frames_set (line_of (calls ks)) ≡ true) where
  abbrev frame_history : FrameHistory
  frame_history = frame_run (frame_calls (rs ks))

  as_frames : run (rs ks) ≡ of_frames frame_history
  as_frames = ⊎_elim (λ e. absurd (true≢false (sym f ∙ ap frames_set (same_line ks F) ∙ e.0))) (λ e. e.1) (one_discipline (rs ks))

  frame_line : line_of (calls ks) ≡ (of_frames frame_history).now
  frame_line = same_line ks F ∙ ap (λ (h : LineHistory). h.now) as_frames

  same_frame : (line_of (calls ks)).frames.link.frame ≡ frame_history.now.link.frame
  same_frame = ap (λ (s : Line). s.frames.link.frame) frame_line

  frame_clock : clock_of (line_of (calls ks)) ≡ frame_history.now.clock
  frame_clock =
      cond_is (line_of (calls ks)).frames.clock (line_of (calls ks)).levels.clock f
      ∙ ap (λ (s : Line). s.frames.clock) frame_line

  frame_notes : calls ks ≡ notes_of (of_frames frame_history)
  frame_notes = follows ks F ∙ ap notes_of as_frames

  module _ (c i : ℕ) (p : Packet) (n : c ≡ notice_number → ⊥) (at : get_elem? (of c (calls ks).accepted) i ≡ some p)
      (over : leaves_by (line_of (calls ks)).frames.link.frame p.arrival ≤ clock_of (line_of (calls ks))) where
    left_by_then : (N : LeftBy (calls ks).departed c i p (leaves_by (line_of (calls ks)).frames.link.frame p.arrival))
        × (next_frame (line_of (calls ks)).frames.link.frame p.arrival < N.finish)
    left_by_then =
        let q =
        (every_frame_run (frame_calls (rs ks))).left_by_the_next_end c i p n (ap (λ (g : Notes). get_elem? (of c g.accepted) i) (sym frame_notes) ∙ at)
        (subst (λ (t : ℕ). leaves_by frame_history.now.link.frame p.arrival ≤ t) frame_clock (subst (λ (x : ℕ). leaves_by x p.arrival ≤ clock_of (line_of (calls ks))) same_frame over)) in (
          record {
            finish = q.0.finish;
            is_departure = ap (λ (g : Notes). get_elem? (departures c g.departed) i) frame_notes ∙ q.0.is_departure;
            in_time = subst (λ (x : ℕ). q.0.finish ≤ leaves_by x p.arrival) (sym same_frame) q.0.in_time;
          },
          subst (λ (x : ℕ). next_frame x p.arrival < q.0.finish) (sym same_frame) q.1,
        )

-- ---- all of them

of_calls : (ks : List Call) → All FromTheHeader ks → OfCalls ks
of_calls ks F = record {
  follows_the_rules = follows ks F;
  told_as_in_the_run = told_in_the_run ks F;
  demand_3_first = λ later c len tag st G set. left_in_time ks later F G c len tag st set;
  left_by_the_next_end = λ c i p f n at over. left_by_then ks F f c i p n at over;
}

pub from_c : FromC
from_c = record { line_is_written_back = line_back; test_is_exact = exact; a_call = of_a_call; any_calls = of_calls }
