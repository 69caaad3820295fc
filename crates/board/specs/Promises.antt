-- THE STATEMENTS of the hub from C, apart from their proof, which is `from_c` in proofs/Results.
use Rattle.std.specs.Prelude.{ℕ, ◌+◌, ◌≤◌, ◌<◌, ◌≡◌, true, false, ◌↔◌, List, ◌∷◌, ◌++◌, length}
use Rattle.std.proofs.Common.{inl}
use Rattle.std.proofs.Math.Option.{Option, some}
use Rattle.std.proofs.Math.ListN.{get_elem?}
use Rattle.rules.specs.declared.Link.{Link}
use Rattle.rules.specs.declared.Packet.{Packet}
use Rattle.rules.specs.Words.{All}
use Rattle.rules.specs.Limits.{notice_number}
use Rattle.rules.specs.Service.{of}
use Rattle.rules.specs.Runs.{bound_of}
use Rattle.frames.specs.Service.{next_frame, leaves_by}
use Rattle.either_line.specs.Line.{link_levels, offer, levels_set, frames_set, SoundLine, clock_of, fresh_line, run}
use Rattle.tables.specs.Lent.{Tables}
use Rattle.rules.specs.Promises.{LeftBy}
use Rattle.named.specs.Named.{link_named}
use Rattle.both.specs.View.{view, kept_of, written}
use Rattle.board.specs.Numbers.{line_length, kept_in, numbers_of, sound_lent}
use Rattle.board.specs.Calls.{Call, Spoken}
use Rattle.board.specs.Does.{rules_tell, tells, Does}
use Rattle.board.specs.Sequence.{line_of, number_in, calls, requests_from}

-- a call as the contracts name it: the link that it asks for, if it asks for one of levels, is named by numbers, and so has eight bounds and eight windows
abbrev pub FromTheHeader : Call → Type 0
FromTheHeader k = (l : Link) → k ≡ inl (link_levels l) → (xs : List ℕ) × (l ≡ link_named xs)

-- ---- a call that its contract allows to tell `told` and to leave the tables `after`

pub record OfACall (k : Call) (line : List ℕ) (before : Tables) (told : Spoken) (after : Tables) : Type 0 where
  -- document 01, "What the hub's answers must settle": it allows nothing else
  pub one_outcome : (told' : Spoken) (after' : Tables) → Does k line before told' after' → (told ≡ told') × (after ≡ after')
  -- demand 1: a refused call changes no number of any table
  pub refusals_change_nothing : (told.verdict ≡ 0 → ⊥) → (told.line ≡ line) × (after ≡ before)
  -- verdict 1 is given exactly where the tables are not sound
  pub verdict_1_exactly : told.verdict ≡ 1 ↔ sound_lent line before ≡ false
  -- a call on sound tables leaves sound ones: a caller that has tested once need not test again
  pub sound_is_kept : FromTheHeader k → sound_lent line before ≡ true → sound_lent told.line after ≡ true

-- ---- any calls ks, from four tables of zeros, each lent what the last one left

pub record OfCalls (ks : List Call) : Type 0 where
  -- what the caller notes is the rules' run of the requests that the calls are
  pub follows_the_rules : let h = run (requests_from fresh_line ks) in
      calls ks ≡ record { accepted = h.accepted; departed = h.departed; kept = numbers_of (kept_of h.now); tables = written h.now }
  -- .. and what a further call is told is what the rules reply to it behind that run. With both, whatever the rules say of a run holds of the caller's calls and answers
  pub told_as_in_the_run : (k : Call) → tells k (calls ks).kept (calls ks).tables ≡ rules_tell k (run (requests_from fresh_line ks)).now
  -- What follows is said of the calls, of the answers that the caller has noted and of what the four tables stand for: no run of the rules is named.
  -- demand 3, where a link of levels is set: an offer of c that is accepted, and any calls `later`. The packet has left by its eligibility plus its level's bound, once the clock
  -- has got there, whatever the other connections and the notices do; the bound is the one of c's owner at the offer (document 02, R-8)
  pub demand_3_first : (later : List Call) (c len tag : ℕ) (st : Option ℕ)
      → All FromTheHeader later
      → levels_set (line_of (calls ks)) ≡ true
      → let told = tells (inl (offer c len tag st)) (calls ks).kept (calls ks).tables in
      let deadline = number_in told + bound_of (line_of (calls ks)).levels c in
      let then = calls (ks ++ inl (offer c len tag st) ∷ later) in
      told.verdict ≡ 0
      → deadline ≤ clock_of (line_of then)
      → LeftBy then.departed c (length (of c (calls ks).accepted))
      (record { connection = c; len = len; tag = tag; arrival = clock_of (line_of (calls ks)); eligibility = number_in told }) deadline
  -- document 02, R-13, where a link of frames is set: each accepted packet has left by the end of the frame after its arrival frame, once the clock has got there, and not before
  -- the frame in which it is eligible
  pub left_by_the_next_end : (c i : ℕ) (p : Packet)
      → frames_set (line_of (calls ks)) ≡ true
      → (c ≡ notice_number → ⊥)
      → get_elem? (of c (calls ks).accepted) i ≡ some p
      → let frame = (line_of (calls ks)).frames.link.frame in
      leaves_by frame p.arrival ≤ clock_of (line_of (calls ks))
      → (N : LeftBy (calls ks).departed c i p (leaves_by frame p.arrival)) × (next_frame frame p.arrival < N.finish)

-- ---- all of them

pub record FromC : Type 0 where
  -- a line's table, read and written back, is itself
  pub line_is_written_back : (line : List ℕ) → length line ≡ line_length → numbers_of (kept_in line) ≡ line
  -- the test is exact: true where the line that the four tables stand for is sound, and they are what is written of it; the line's table has its length then
  pub test_is_exact : (line : List ℕ) (t : Tables)
      → let s = view (kept_in line) t in sound_lent line t ≡ true ↔ ((line ≡ numbers_of (kept_of s)) × (t ≡ written s) × SoundLine s)
  -- whatever a contract allows
  pub a_call : (k : Call) (line : List ℕ) (before : Tables) (told : Spoken) (after : Tables) → Does k line before told after → OfACall k line before told after
  -- whatever calls are made
  pub any_calls : (ks : List Call) → All FromTheHeader ks → OfCalls ks
