-- Names for parts of the view of a `Kept` and its tables.
use Prim.Native.Nat.{ℕ, ◌-◌}
use Rattle.rules.specs.Model.{fresh as level_fresh}
use Rattle.frames.specs.Model.{fresh as FrameFresh}
use Rattle.either_line.specs.Line.{Line}
use Rattle.tables.specs.Lent.{Tables}
use Rattle.connections.specs.Members.{members_length}
use Rattle.shares.specs.Shares.{shares_length}
use Rattle.state.specs.View.{view as level_view}
use Rattle.framed_state.specs.View.{view as frame_view}
use Rattle.both.specs.declared.Kept.{Kept}
use Rattle.both.specs.View.{framed}

abbrev pub behind_shares : ℕ
behind_shares = members_length - shares_length

abbrev pub of_levels : Kept → Tables → Line
of_levels h t = record { levels = level_view h.hub t; frames = FrameFresh }

abbrev pub of_frames : Kept → Tables → Line
of_frames h t = record { levels = level_fresh; frames = frame_view h.frames (framed t) }
