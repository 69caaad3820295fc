-- Parts of the test for which the rules have no name of their own. Document 01, "A sound state".
use Rattle.std.specs.Prelude.{ℕ, Bool, ◌&&◌, List, eqb}
use Rattle.rules.specs.Model.{State}
use Rattle.rules.specs.SoundTest.{all_zero, admissions_sound, rows_sound, notices_sound, line_sound}
use Rattle.limits.specs.Zeros.{zeros}
use Rattle.state.specs.View.{Hub}

-- with no link set, everything is zero: the rest of the link, the clock, the table of connections, the packets and notices that there are, the line
abbrev pub unused : Hub → List ℕ → ℕ → ℕ → Bool
unused h members held waiting =
    all_zero h.link
    && eqb h.clock 0
    && (zeros members && eqb held 0 && eqb waiting 0)
    && (eqb h.wire.serving 0 && eqb h.wire.to_go 0 && eqb h.wire.silent 0)

-- with one, the clauses of the rules
abbrev pub linked_sound : State → Bool
linked_sound s = admissions_sound s && (rows_sound s && (notices_sound s && line_sound s))
