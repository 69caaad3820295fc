-- What document 02, R-11, amends, as it is where the stand-by queue is off: `WithoutStandBy` (Before) holds it against the rules.
use Rattle.std.specs.Prelude.{ℕ, zero, suc, ◌≤◌, ◌<◌, ◌≡◌, Bool, not, ◌&&◌, List, [], ◌∷◌, leb, eqb, length}
use Rattle.std.proofs.Math.Option.{Option, none, some}
use Rattle.rules.specs.Words.{within, All}
use Rattle.rules.specs.Limits.{max_levels, max_largest, max_silence, clock_end, notice_number, max_remembered}
use Rattle.rules.specs.Model.{Link, Connection, Past, Packet, Notice, State, past, figures}
use Rattle.rules.specs.Admission.{rising, cost, windows_within, burst, stamped, reservation}
use Rattle.rules.specs.Service.{nth_before, remember_all, Spaced, of, first, untimely_by, chosen}
use Rattle.rules.specs.SoundState.{in_order, departed_of, NearBy}
use Rattle.rules.specs.SoundTest.{sound}
use Rattle.rules.specs.Calls.{heard}

-- ---- the limits of a link

abbrev pub only_link_within : Link → Bool
only_link_within l =
    within 1 max_levels l.levels
    && (within 1 max_largest l.largest && (leb l.silence max_silence && (rising (cost l l.largest) l.levels l.bounds && windows_within l)))

-- ---- what an idle line takes

abbrev pub only_takes : Option Packet → List Notice → ℕ × ℕ
only_takes (some p) ns = (p.connection, p.len)
only_takes none [] = (0, 0)
only_takes none (n ∷ ns) = (notice_number, n.len)

abbrev pub only_start : State → ℕ → ℕ → ℕ × ℕ
only_start s zero zero = only_takes (chosen s) s.notices
only_start s zero (suc q) = (s.serving, 0)
only_start s (suc u) q = (s.serving, suc u)

-- ---- the rows of one connection in a sound state, and a packet in service

abbrev pub OnlyBeyond : Connection → ℕ → List ℕ → List ℕ → Type 0
OnlyBeyond c t h [] = Unit {0}
OnlyBeyond c t h (e ∷ es) = (t < e → NearBy c t h e (stamped c) (nth_before (burst c) h)) × OnlyBeyond c t (e ∷ h) es

pub record OnlyQueue (c : Connection) (t : ℕ) (h : Past) (es : List ℕ) : Type 0 where
  pub few : length h ≤ max_remembered
  pub last_rows : remember_all (departed_of h es) es ≡ h
  pub rise : Spaced c (in_order (departed_of h es) es)
  pub left_eligible : All (λ e. e ≤ t) (departed_of h es)
  pub beyond : OnlyBeyond c t (departed_of h es) es

pub record OnlyInService (held : List Packet) (serving to_go t : ℕ) : Type 0 where
  pub it : Packet
  pub is_first : first serving held ≡ some it
  pub eligible : it.eligibility ≤ t
  pub some_to_go : 1 ≤ to_go
  pub to_go_le : to_go ≤ it.len

-- ---- the verdicts of an offer

abbrev pub only_verdicts : ℕ → ℕ → Option ℕ → State → List (ℕ × Bool)
only_verdicts c len st s =
    (1, not (sound s))
    ∷ (2, eqb s.link.levels 0)
    ∷ (10, not (heard s c st))
    ∷ (11, not (within 1 (figures s c).size len))
    ∷ (12, leb (reservation s.link (figures s c)) (length (of c s.held)))
    ∷ (13, leb clock_end s.clock)
    ∷ (17, untimely_by (figures s c) (past s c) s.clock st) ∷ []
