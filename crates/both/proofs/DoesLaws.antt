-- How a refusal, and an answer of the discipline that is set, meet the contract.
use Prim.Native.Nat.{ℕ}
use mathlib.Core.Path.{◌≡◌, refl, sym, ap, ◌∙◌}
use mathlib.Core.Bool.{Bool, true, false, not}
use mathlib.Core.Option.{some}
use lib.Dec.{eqb}
use borrow.Author.Tests.{eqb-true, eqb-false, ne_eqb, not-true, not-false}
use Rattle.rules.specs.declared.Link.{Link}
use Rattle.rules.specs.declared.Connection.{Connection}
use Rattle.rules.specs.Limits.{no_connection_number}
use Rattle.rules.specs.Model.{Call as LevelCall, Answer as LevelAnswer, fresh as level_fresh}
use Rattle.rules.specs.Calls.{answer as level_answer}
use Rattle.rules.proofs.Tests.{never}
use Rattle.rules.proofs.Sums.{cond_is, cond_ind}
use Rattle.frames.specs.declared.Framing.{Framing}
use Rattle.frames.specs.declared.Share.{Share}
use Rattle.frames.specs.Model.{State as FrameState, Call as FrameCall, link as frame_link, offer as frame_offer, Answer as FrameAnswer, fresh as FrameFresh}
use Rattle.frames.specs.Calls.{answer as frame_answer}
use Rattle.frames.proofs.Every.{fresh_invariant as frame_fresh_invariant}
use Rattle.either_line.specs.Line.{Line, Request, link_levels, link_frames, admit_level, admit_share, offer, close, Reply, by_levels, by_frames, refuse, refused_number, respond}
use Rattle.either_line.proofs.Replies as R
use Rattle.either_line.proofs.Replies.{levels_told, link_told, frames_told}
use Rattle.either_line.proofs.Histories.{frame_stays}
use Rattle.either_line.proofs.Results.{test_is_exact}
use Rattle.either_line.proofs.Names.{level_call, frame_call}
use Rattle.tables.specs.Lent.{Tables}
use Rattle.tables.specs.Places.{table_of}
use Rattle.tables.proofs.CallLaws as C
use Rattle.connections.specs.Members.{written_rows}
use Rattle.std.specs.Prelude as code
use Rattle.tables.specs.Options.{option_in}
use Rattle.shares.specs.Shares.{written_shares}
use Rattle.state.specs.View.{Hub}
use Rattle.state.specs.Told.{Told}
use Rattle.state.specs.View.{zero_tables, view as level_view, written as level_written}
use Rattle.state.specs.Told.{told_of}
use Rattle.state.specs.Does.{Does as LevelDoes}
use Rattle.state.proofs.SoundLaws.{is_sound as level_is_sound, tables_kept as level_kept}
use Rattle.state.proofs.DoesLaws.{told_as as level_told_as, left_as as level_left_as}
use Rattle.framed_state.specs.View.{Frames}
use Rattle.framed_state.specs.Said.{Said}
use Rattle.framed_state.specs.View.{frames_of, sound_frames, view as frame_view, written as frame_written}
use Rattle.framed_state.specs.Said.{said_of}
use Rattle.framed_state.specs.Does.{Does as FrameDoes}
use Rattle.framed_state.proofs.SoundLaws.{is_sound as frame_is_sound}
use Rattle.framed_state.proofs.WrittenLaws.{written_sound}
use Rattle.framed_state.proofs.DoesLaws.{said_as, left_as as frame_left_as}
use Rattle.both.specs.declared.Kept.{Kept}
use Rattle.both.specs.Replied.{Replied}
use Rattle.both.specs.View.{has_frames, framed, view, unframed, written, members_framed, sound_kept}
use Rattle.both.proofs.Views.{of_levels, of_frames}
use Rattle.both.specs.Replied.{replied_of, refusal, of_told, of_said}
use Rattle.both.specs.Does.{tells, leaves, Does}
use Rattle.both.proofs.TablesLaws.{tables_back}
use Rattle.both.proofs.SoundLaws.{seen_framed, seen_level, line_framed, hub_fresh, shares_inside, frames_sound, framed_line, frames_fresh, hub_sound, level_line, line_linked, linked_alone, sound_view, tables_kept, kept_back}

module _ (k : Request) (h : Kept) (t : Tables) where
  ruled : C.Ruled tells leaves k h t (sound_kept h t) (replied_of (respond k (view h t))) (refusal h 1 (refused_number k)) (written (respond k (view h t)).next)
  unfolding tells leaves
  ruled = record { tells_is = refl; leaves_is = refl }

module _ (k : Request) (h : Kept) (t : Tables) (ok : sound_kept h t ≡ true) where
  -- the rules' reply, written back
  answers_as : (a : Reply) (r : Replied) (u : Tables) → respond k (view h t) ≡ a → r ≡ replied_of a → u ≡ written a.next → Does k h t r u
  answers_as a r u e f g = C.answers_as (ruled k h t) ok r u (f ∙ ap replied_of (sym e)) (g ∙ ap (λ (x : Reply). written x.next) (sym e))

  -- a refusal
  pub refuses : (v n : ℕ) (r : Replied) → respond k (view h t) ≡ refuse (view h t) v n → r ≡ refusal h v n → Does k h t r t
  refuses v n r e f = answers_as (refuse (view h t) v n) r t e (f ∙ ap (λ (x : Kept). refusal x v n) (kept_back h t ok)) (tables_kept h t ok)

  -- the discipline of levels answers
  module _ (n : has_frames h ≡ false) (j : LevelCall) (c : level_call k ≡ some j) (a : Told) (u : Tables) (D : LevelDoes j h.hub t a u) where
    abbrev A : LevelAnswer
    A = level_answer j (level_view h.hub t)

    pub by_told : (r : Replied) → r ≡ of_told h a → Does k h t r u
    by_told r e =
        answers_as (by_levels (of_levels h t) A) r u
        (ap (respond k) (seen_level h t n) ∙ levels_told (of_levels h t) ((test_is_exact (of_levels h t)).1 (level_line h t ok n)) refl k j c)
        (e
        ∙ ap (of_told h) (level_told_as j h.hub t (hub_sound h t ok n) a u D)
        ∙ ap (λ (x : Frames). of_told (record { hub = h.hub; frames = x }) (told_of A)) (frames_fresh h t ok n))
        (level_left_as j h.hub t (hub_sound h t ok n) a u D)

  -- the discipline of frames does
  module _ (f : has_frames h ≡ true) (j : FrameCall) (c : frame_call k ≡ some j) (a : Said) (v : Tables) (D : FrameDoes j h.frames (framed t) a v) where
    abbrev B : FrameAnswer
    B = frame_answer j (frame_view h.frames (framed t))

    still_set : not (eqb B.next.link.frame 0) ≡ true
    still_set = ap not (ne_eqb B.next.link.frame 0 (frame_stays j (frame_view h.frames (framed t)) (eqb-false _ 0 (not-true _ f))))

    pub by_said : (r : Replied) (u : Tables) → r ≡ of_said h a → u ≡ unframed v → Does k h t r u
    by_said r u e g =
        answers_as (by_frames (of_frames h t) B) r u
        (ap (respond k) (seen_framed h t f) ∙ frames_told (of_frames h t) ((test_is_exact (of_frames h t)).1 (framed_line h t ok f)) f refl k j c)
        (e
        ∙ ap (of_said h) (said_as j h.frames (framed t) (frames_sound h t ok f) a v D)
        ∙ ap (λ (x : Hub). of_said (record { hub = x; frames = h.frames }) (said_of B)) (hub_fresh h t ok f))
        (g
        ∙ ap unframed (frame_left_as j h.frames (framed t) (frames_sound h t ok f) a v D)
        ∙ sym (cond_is (unframed (frame_written B.next)) (level_written level_fresh) still_set))

-- an offer without a stamp is a call of the discipline of frames
pub unstamped : (c len tag : ℕ) (o : code.Option ℕ) → code.is_some o ≡ false → frame_call (offer c len tag (option_in o)) ≡ some (frame_offer c len tag)
unstamped c len tag (code.Some st) e = never (sym e)
unstamped c len tag code.None e = refl

-- ---- what the discipline that is set does not know

module _ (h : Kept) (t : Tables) (ok : sound_kept h t ≡ true) where
  module _ (f : has_frames h ≡ true) where
    levels_fresh : (view h t).levels ≡ level_fresh
    levels_fresh = ap (λ (s : Line). s.levels) (seen_framed h t f)

    pub levels_refused : (l : Link) (r : Replied) → r ≡ refusal h 3 0 → Does (link_levels l) h t r t
    levels_refused l r e = refuses (link_levels l) h t ok 3 0 r (R.levels_refused (view h t) (sound_view h t ok) (line_framed h t f) l) e

    pub level_refused : (x : Connection) (r : Replied) → r ≡ refusal h 2 no_connection_number → Does (admit_level x) h t r t
    level_refused x r e = refuses (admit_level x) h t ok 2 no_connection_number r (R.level_refused (view h t) (sound_view h t ok) levels_fresh x) e

    pub stamp_refused : (c len tag : ℕ) (o : code.Option ℕ) → code.is_some o ≡ true → (r : Replied) → r ≡ refusal h 2 0 → Does (offer c len tag (option_in o)) h t r t
    stamp_refused c len tag (code.Some st) i r e = refuses (offer c len tag (some st)) h t ok 2 0 r (R.stamp_refused (view h t) (sound_view h t ok) levels_fresh c len tag st) e
    stamp_refused c len tag code.None i r e = never i

    pub close_refused : (c : ℕ) (r : Replied) → r ≡ refusal h 2 0 → Does (close c) h t r t
    close_refused c r e = refuses (close c) h t ok 2 0 r (R.close_refused (view h t) (sound_view h t ok) levels_fresh c) e

  pub frames_refused : (h.hub.link.levels ≡ 0 → ⊥) → (l : Framing) (r : Replied) → r ≡ refusal h 3 0 → Does (link_frames l) h t r t
  frames_refused set l r e =
      refuses (link_frames l) h t ok 3 0 r (R.frames_refused (view h t) (sound_view h t ok) (line_linked h t ok (linked_alone h t ok set) set) l) e

  pub share_refused : has_frames h ≡ false → (x : Share) (r : Replied) → r ≡ refusal h 2 no_connection_number → Does (admit_share x) h t r t
  share_refused n x r e =
      refuses (admit_share x) h t ok 2 no_connection_number r
      (R.share_refused (view h t) (sound_view h t ok) (ap (λ (s : Line). s.frames) (seen_level h t n)) x) e

-- ---- no link is set

-- the tables of the fresh state are zeros, in both disciplines
zeros_written : level_written level_fresh ≡ zero_tables
unfolding written_rows table_of
zeros_written = refl

zeros_framed : framed zero_tables ≡ frame_written FrameFresh
unfolding written_shares table_of
zeros_framed = refl

zeros_inside : members_framed zero_tables.members ≡ true
unfolding members_framed
zeros_inside = refl

module _ (h : Kept) (t : Tables) (ok : sound_kept h t ≡ true) (n : has_frames h ≡ false) (z : h.hub.link.levels ≡ 0) where
  all_zeros : t ≡ zero_tables
  all_zeros =
      level_kept h.hub t (hub_sound h t ok n)
      ∙ ap level_written ((level_is_sound h.hub t (hub_sound h t ok n)).with_no_link z)
      ∙ zeros_written

  -- the frames can be linked
  pub frames_ready : sound_frames h.frames (framed t) ≡ true
  frames_ready =
      ap (λ (x : Frames). sound_frames x (framed t)) (frames_fresh h t ok n)
      ∙ ap (λ (x : Tables). sound_frames (frames_of FrameFresh) (framed x)) all_zeros
      ∙ ap (sound_frames (frames_of FrameFresh)) zeros_framed
      ∙ written_sound FrameFresh frame_fresh_invariant.sound

  frames_none : frame_view h.frames (framed t) ≡ FrameFresh
  frames_none = (frame_is_sound h.frames (framed t) frames_ready).with_no_link (eqb-true _ 0 (not-false _ n))

  pub first_link : (l : Framing) (a : Said) → FrameDoes (frame_link l) h.frames (framed t) a (framed t) → (r : Replied) → r ≡ of_said h a → Does (link_frames l) h t r t
  first_link l a D r e =
      answers_as (link_frames l) h t ok (by_frames (of_levels h t) B) r t
      (ap (respond (link_frames l)) (seen_level h t n)
      ∙ link_told (of_levels h t) ((test_is_exact (of_levels h t)).1 (level_line h t ok n)) (ap (λ (x : ℕ). not (eqb x 0)) z) l)
      (e ∙ ap (of_said h) (said_as (frame_link l) h.frames (framed t) frames_ready a (framed t) D) ∙ ap (λ (s : FrameState). of_said h (said_of (frame_answer (frame_link l) s))) frames_none)
      (cond_ind (λ x. t ≡ x) (not (eqb B.next.link.frame 0)) (λ _. set) (λ _. level_kept h.hub t (hub_sound h t ok n)))
    where
      B : FrameAnswer
      B = frame_answer (frame_link l) FrameFresh

      set : t ≡ unframed (frame_written B.next)
      set =
          sym (tables_back t (ap (λ (x : Tables). members_framed x.members) all_zeros ∙ zeros_inside))
          ∙ ap unframed (frame_left_as (frame_link l) h.frames (framed t) frames_ready a (framed t) D)
          ∙ ap (λ (s : FrameState). unframed (frame_written (frame_answer (frame_link l) s).next)) frames_none

-- ---- no link of levels is set

module _ (h : Kept) (t : Tables) (ok : sound_kept h t ≡ true) (z : h.hub.link.levels ≡ 0) where
  pub frames_able : sound_frames h.frames (framed t) ≡ true
  frames_able = go (has_frames h) refl
    where
      go : (b : Bool) → has_frames h ≡ b → sound_frames h.frames (framed t) ≡ true
      go true f = frames_sound h t ok f
      go false n = frames_ready h t ok n z

  pub frames_linked : (l : Framing) (a : Said) → FrameDoes (frame_link l) h.frames (framed t) a (framed t) → (r : Replied) → r ≡ of_said h a → Does (link_frames l) h t r t
  frames_linked l a D r e = go (has_frames h) refl
    where
      go : (b : Bool) → has_frames h ≡ b → Does (link_frames l) h t r t
      go true f = by_said (link_frames l) h t ok f (frame_link l) refl a (framed t) D r t e (sym (tables_back t (shares_inside h t ok f)))
      go false n = first_link h t ok n z l a D r e

-- ---- of a request on a sound line: the reply and the tables are the rules'

module _ (k : Request) (h : Kept) (t : Tables) (ok : sound_kept h t ≡ true) (r : Replied) (u : Tables) (D : Does k h t r u) where
  pub told_as : r ≡ replied_of (respond k (view h t))
  told_as = C.told_as (ruled k h t) ok r u D

  pub left_as : u ≡ written (respond k (view h t)).next
  left_as = C.left_as (ruled k h t) ok r u D
