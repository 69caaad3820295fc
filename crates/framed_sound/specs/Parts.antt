-- Parts of the test for which the rules have no name of their own. docs/RULES.md, R-13.
use Rattle.std.specs.Prelude.{ℕ, ◌≤◌, ◌<◌, Bool, false, ◌&&◌, List, leb, eqb, length}
use Rattle.rules.specs.Limits.{max_largest, max_silence}
use Rattle.rules.specs.SoundLine.{wire_sound}
use Rattle.frames.specs.declared.Framing.{Framing}
use Rattle.frames.specs.Model.{State, nth, wire}
use Rattle.frames.specs.SoundTest.{admissions_sound, rows_sound, in_turn_sound}
use Rattle.tables.specs.Places.{rows, row_at}
use Rattle.shares.specs.Shares.{shares_in}
use Rattle.line_tests.specs.Counts.{Countable}
use Rattle.framed_state.specs.View.{Frames}

-- with no link set, everything is zero: the rest of the link, the connections that stand, the clock, the packets and notices that there are, the line
abbrev pub unused : Frames → ℕ → ℕ → ℕ → Bool
unused h standing held waiting =
    (eqb h.link.largest 0 && eqb h.link.silence 0)
    && (eqb standing 0
    && (eqb h.clock 0 && (eqb held 0 && (eqb waiting 0 && (eqb h.wire.serving 0 && (eqb h.wire.to_go 0 && eqb h.wire.silent 0))))))

-- with one, the clauses of the rules
abbrev pub linked_sound : State → Bool
linked_sound s =
    admissions_sound s && (rows_sound s && (wire_sound (λ _. false) s.link.largest s.link.silence s.clock (wire s) && in_turn_sound s))

-- ---- the units that each connection has used can be counted: its rows can, and no packet is too long, nor the silence

pub record Measured (l : Framing) (places : List ℕ) : Type 0 where
  pub countable : Countable places
  pub sized : (k : ℕ) → k < length (rows places) → (row_at places k).len ≤ max_largest
  pub short_silence : l.silence ≤ max_silence

-- ---- what is asked of number c, of which n packets are held and m units are used

abbrev pub share_with : List ℕ → ℕ → ℕ → ℕ → Bool
share_with t n m c = leb n (nth (shares_in t) c).places && leb m (nth (shares_in t) c).units
