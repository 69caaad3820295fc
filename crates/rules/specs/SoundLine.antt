-- `WireSound` (SoundState) as a test: a sound line with what waits for it, whatever the discipline.
use Rattle.std.specs.Prelude.{ℕ, ◌+◌, ◌≡◌, Bool, cond, ◌&&◌, leb, eqb, length}
use Rattle.rules.specs.Words.{within, each}
use Rattle.rules.specs.Limits.{max_notices, notice_number}
use Rattle.rules.specs.Model.{Notice, first_notice}
use Rattle.rules.specs.Service.{first, Wire}
pub use Rattle.rules.specs.SoundState.{Waits, WireSound}
use Rattle.rules.specs.SoundState.{InServiceOf, NoticeInServiceOf}
use Rattle.rules.specs.SoundTest.{serves, serves_notice}

-- the three cases of its `line`
abbrev pub WireIdle : Wire → Type 0
WireIdle w = (w.to_go ≡ 0) × (w.serving ≡ 0)

abbrev pub PacketOn : (ℕ → Bool) → ℕ → Wire → Type 0
PacketOn may t w = InServiceOf (may w.serving) w.held w.serving w.to_go t

abbrev pub NoticeOn : Wire → Type 0
NoticeOn w = NoticeInServiceOf w.notices w.serving w.to_go

-- the ticks for which a line with the silence q is still taken: by what is in service and the silence after it, or by the rest of a silence
unfoldable pub wire_left : ℕ → Wire → ℕ
wire_left q w = cond (eqb w.to_go 0) w.silent (w.to_go + q)

abbrev pub waits : ℕ → ℕ → Notice → Bool
waits largest t n = within 1 largest n.len && leb n.arrival t

abbrev pub busy_line : (ℕ → Bool) → ℕ → Wire → Bool
busy_line may t w =
    cond (eqb w.serving notice_number)
    (serves_notice (first_notice w.notices) w.to_go)
    (serves (may w.serving) (first w.serving w.held) w.to_go t)

unfoldable pub wire_sound : (ℕ → Bool) → ℕ → ℕ → ℕ → Wire → Bool
wire_sound may largest q t w =
    (leb (length w.notices) max_notices && each (waits largest t) w.notices)
    && cond (eqb w.to_go 0) (eqb w.serving 0 && leb w.silent q) (eqb w.silent 0 && busy_line may t w)
