-- Who may come in: the limits, the sum of all units and the sum of all places. Document 02, R-13.
use Rattle.std.specs.Prelude.{ℕ, ◌+◌, Bool, ◌&&◌, List, leb, ltb, length}
use Rattle.rules.specs.Words.{within, sum}
use Rattle.rules.specs.Limits.{max_largest, max_silence}
use Rattle.frames.specs.Limits.{max_frame, max_units, max_places}
use Rattle.frames.specs.Model.{Framing, Share, nth}

-- what a packet of a length takes of the line, in ticks, and of its connection's units: "silence counts for each packet against r"
unfoldable pub cost : Framing → ℕ → ℕ
cost l len = len + l.silence

-- T from 1 to its limit, S from 1 to its own, a silence up to its own, S with its silence at most T
unfoldable pub framing_within : Framing → Bool
framing_within l =
    within 1 max_frame l.frame && (within 1 max_largest l.largest && (leb l.silence max_silence && leb (cost l l.largest) l.frame))

-- r and p, each from 1 to its limit
unfoldable pub share_within : Share → Bool
share_within x = within 1 max_units x.units && within 1 max_places x.places

-- numbered from 0 in order of acceptance: whether number c stands
unfoldable pub stands : List Share → ℕ → Bool
stands cs c = ltb c (length cs)

-- "the sum of all r plus S and its silence"
unfoldable pub frame_sum : Framing → List Share → ℕ
frame_sum l cs = sum (length cs) (λ c. (nth cs c).units) + cost l l.largest

-- "the sum of all p"
abbrev pub all_places : List Share → ℕ
all_places cs = sum (length cs) (λ c. (nth cs c).places)
