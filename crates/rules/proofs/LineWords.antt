-- The line of a hub, in words that proofs use: each is a clause of `WireSound` (specs/SoundState) of the hub's own line.
use Rattle.rules.specs.Model.{State}
use Rattle.rules.specs.Service.{early_at, wire}
use Rattle.rules.specs.SoundLine.{WireIdle, PacketOn, NoticeOn}
use mathlib.Core.Logic.{◌⊎◌}

abbrev pub Idle : State → Type 0
Idle s = WireIdle (wire s)

abbrev pub InService : State → Type 0
InService s = PacketOn (early_at s) s.clock (wire s)

abbrev pub NoticeInService : State → Type 0
NoticeInService s = NoticeOn (wire s)

-- something is in service
abbrev pub Serves : State → Type 0
Serves s = InService s ⊎ NoticeInService s
