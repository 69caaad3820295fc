-- THE LINE'S TABLE: what a caller in C keeps of a line beside its tables of connections, places and notices, as 31 numbers; all are zero when it is fresh.
-- Document 01, "Link, connections, places"; document 02, R-13; include/mtredovim.h.
use Rattle.std.specs.Prelude.{ℕ, Bool, ◌&&◌, List, [], ◌∷◌, ◌++◌, eqb, length, get_or}
use Rattle.line.specs.Wires.{on_wire}
use Rattle.state.specs.View.{Hub}
use Rattle.framed_state.specs.View.{Frames}
use Rattle.tables.specs.Lent.{Tables}
use Rattle.both.specs.declared.Kept.{Kept}
use Rattle.both.specs.View.{sound_kept}
use Rattle.named.specs.Named.{eight_from, link_named}

abbrev pub line_length : ℕ
line_length = 31

-- the hub of levels, in 24 numbers: levels, S, the silence, the setting of the stand-by queue, the bounds, the windows; clock, who is in service, units to go, silence to run
abbrev pub hub_in : List ℕ → Hub
hub_in l = record { link = link_named l; clock = get_or l 20 0; wire = on_wire (get_or l 21 0) (get_or l 22 0) (get_or l 23 0) }

-- the frames, in the 7 behind them: T, S, the silence; clock, who is in service, units to go, silence to run
abbrev pub frames_in : List ℕ → Frames
frames_in l = record { link = record { frame = get_or l 24 0; largest = get_or l 25 0; silence = get_or l 26 0 }; clock = get_or l 27 0; wire = on_wire (get_or l 28 0) (get_or l 29 0) (get_or l 30 0) }

abbrev pub kept_in : List ℕ → Kept
kept_in l = record { hub = hub_in l; frames = frames_in l }

-- the same numbers of a `Kept`
abbrev pub numbers_of : Kept → List ℕ
numbers_of h =
    h.hub.link.levels ∷ h.hub.link.largest ∷ h.hub.link.silence ∷ h.hub.link.early
    ∷ (eight_from 0 h.hub.link.bounds ++ (eight_from 0 h.hub.link.windows
    ++ (h.hub.clock ∷ h.hub.wire.serving ∷ h.hub.wire.to_go ∷ h.hub.wire.silent
    ∷ h.frames.link.frame ∷ h.frames.link.largest ∷ h.frames.link.silence
    ∷ h.frames.clock ∷ h.frames.wire.serving ∷ h.frames.wire.to_go ∷ h.frames.wire.silent ∷ [])))

-- document 01, "A sound state", of the four tables as they are lent: a line's table of another length is not sound
unfoldable pub sound_lent : List ℕ → Tables → Bool
sound_lent line t = eqb (length line) line_length && sound_kept (kept_in line) t
