-- The sound state as a test that computes. It need not be believed: `EveryCall` (Promises, `test_is_exact`) says that it is true exactly of a sound state.
use Rattle.std.specs.Prelude.{ℕ, Bool, true, false, cond, ◌&&◌, ◌||◌, List, [], ◌∷◌, leb, eqb, length}
use Rattle.rules.specs.declared.Packet.{Packet}
use Rattle.rules.specs.Words.{within, every, each}
use Rattle.rules.specs.Limits.{max_connections, max_reserved, clock_end, notice_number}
use Rattle.rules.specs.Service.{of}
use Rattle.rules.specs.SoundLine.{wire_sound}
use Rattle.frames.specs.Model.{Framing, Share, State, wire, figures}
use Rattle.frames.specs.Admission.{framing_within, share_within, stands, frame_sum, all_places}
use Rattle.frames.specs.Service.{next_frame, used}

unfoldable pub nothing_used : State → Bool
nothing_used s =
    (eqb s.link.largest 0 && eqb s.link.silence 0)
    && (eqb (length s.connections) 0
    && (eqb s.clock 0
    && (eqb (length s.held) 0 && (eqb (length s.notices) 0 && (eqb s.serving 0 && (eqb s.to_go 0 && eqb s.silent 0))))))

unfoldable pub admissions_sound : State → Bool
admissions_sound s =
    framing_within s.link
    && (leb (length s.connections) max_connections
    && (every (length s.connections) (λ c. share_within (figures s c))
    && (leb (frame_sum s.link s.connections) s.link.frame && leb (all_places s.connections) max_reserved)))

abbrev pub row_sound : Framing → List Share → ℕ → Packet → Bool
row_sound l cs t p =
    stands cs p.connection
    && (within 1 l.largest p.len && (leb p.arrival t && eqb p.eligibility (next_frame l.frame p.arrival)))

-- one pass: no eligibility is below the one before it, the first not below `low`
abbrev pub never_falls : ℕ → List Packet → Bool
never_falls low [] = true
never_falls low (p ∷ ps) = leb low p.eligibility && never_falls p.eligibility ps

abbrev pub share_sound : State → ℕ → Bool
share_sound s c = leb (length (of c s.held)) (figures s c).places && leb (used s.link s.clock c s.held) (figures s c).units

unfoldable pub rows_sound : State → Bool
rows_sound s =
    leb s.clock clock_end
    && (each (row_sound s.link s.connections s.clock) s.held
    && (never_falls 0 s.held && every (length s.connections) (share_sound s)))

abbrev pub heads : ℕ → List Packet → Bool
heads c [] = false
heads c (p ∷ ps) = eqb p.connection c

unfoldable pub in_turn_sound : State → Bool
in_turn_sound s = eqb s.to_go 0 || (eqb s.serving notice_number || heads s.serving s.held)

unfoldable pub sound : State → Bool
sound s =
    cond (eqb s.link.frame 0)
    (nothing_used s)
    (admissions_sound s && (rows_sound s && (wire_sound (λ _. false) s.link.largest s.link.silence s.clock (wire s) && in_turn_sound s)))
