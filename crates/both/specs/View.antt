-- THE TIE: the line that a `Kept` and its three tables stand for, and a line written back. The tables are those of the discipline that is set; the other is fresh and has none.
-- Document 02, R-13; docs/RULES.md, R-13, "One line, one discipline".
use Rattle.std.specs.Prelude.{ℕ, ◌-◌, Bool, cond, not, ◌&&◌, ◌||◌, List, ◌++◌, eqb, length, take, drop, replicate}
use Rattle.rules.specs.Model.{fresh as level_fresh}
use Rattle.rules.specs.SoundTest.{all_zero}
use Rattle.frames.specs.Model.{fresh as FrameFresh}
use Rattle.either_line.specs.Line.{Line, frames_set}
use Rattle.limits.specs.Zeros.{zeros}
pub use Rattle.tables.specs.Lent.{Tables, tables}
use Rattle.connections.specs.Members.{members_length}
use Rattle.shares.specs.Shares.{shares_length}
use Rattle.state.specs.View.{Hub}
use Rattle.state.specs.View.{sound_hub, hub_of, view as level_view, written as level_written}
pub use Rattle.state.specs.View.{zero_tables}
use Rattle.framed_state.specs.View.{Frames}
use Rattle.framed_state.specs.View.{sound_frames, frames_of, view as frame_view, written as frame_written}
use Rattle.both.specs.declared.Kept.{Kept}

-- which discipline reads the tables: frames where their link is set
abbrev pub has_frames : Kept → Bool
has_frames h = not (eqb h.frames.link.frame 0)

-- a link is set, of either
abbrev pub has_link : Kept → Bool
has_link h = not (eqb h.hub.link.levels 0) || has_frames h

-- ---- the tables of a line with frames: the table of shares stands in the first numbers of the table of connections, zeros are behind it

abbrev pub framed : Tables → Tables
framed t = tables (take shares_length t.members) t.places t.notices

abbrev pub unframed : Tables → Tables
unframed t = tables (t.members ++ replicate (members_length - shares_length) 0) t.places t.notices

-- ---- the line that they stand for

abbrev pub view : Kept → Tables → Line
view h t =
    cond (has_frames h)
    (record { levels = level_fresh; frames = frame_view h.frames (framed t) })
    (record { levels = level_view h.hub t; frames = FrameFresh })

-- the clock of the discipline that is set
abbrev pub kept_clock : Kept → ℕ
kept_clock h = cond (has_frames h) h.frames.clock h.hub.clock

-- ---- a line written back: the part that no table holds, and the tables

abbrev pub kept_of : Line → Kept
kept_of s = record { hub = hub_of s.levels; frames = frames_of s.frames }

abbrev pub written : Line → Tables
written s = cond (frames_set s) (unframed (frame_written s.frames)) (level_written s.levels)

-- ---- a sound line, of a `Kept` and its tables as they are handed in

-- everything is zero, as in a fresh hub and in fresh frames
unfoldable pub unused_hub : Hub → Bool
unused_hub h =
    eqb h.link.levels 0
    && (all_zero h.link && (eqb h.clock 0 && (eqb h.wire.serving 0 && (eqb h.wire.to_go 0 && eqb h.wire.silent 0))))

unfoldable pub unused_frames : Frames → Bool
unused_frames h =
    eqb h.link.frame 0
    && (eqb h.link.largest 0
    && (eqb h.link.silence 0 && (eqb h.clock 0 && (eqb h.wire.serving 0 && (eqb h.wire.to_go 0 && eqb h.wire.silent 0)))))

-- the table of connections has its length, and zeros behind the table of shares
unfoldable pub members_framed : List ℕ → Bool
members_framed members = eqb (length members) members_length && zeros (drop shares_length members)

unfoldable pub sound_kept : Kept → Tables → Bool
sound_kept h t =
    cond (has_frames h)
    (unused_hub h.hub && (members_framed t.members && sound_frames h.frames (framed t)))
    (unused_frames h.frames && sound_hub h.hub t)
