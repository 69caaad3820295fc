-- What the numbers of a trace record name: the link of an `LK`, of an `LE` and of an `LW`, the connection of a `CN` and of a `CS`; the framing
-- of an `LF`, the share of a `CF`. Document 01, "Trace and answer records".
use Rattle.std.specs.Prelude.{ℕ, ◌+◌, List, get_or}
use Rattle.rules.specs.declared.Link.{Link}
use Rattle.rules.specs.declared.Connection.{Connection}
use Rattle.frames.specs.declared.Framing.{Framing}
use Rattle.frames.specs.declared.Share.{Share}
use Rattle.rules.specs.Limits.{max_levels}
use Rattle.rules.specs.Words.{tabulate}

-- eight numbers from the k-th on, 0 past the last one: the bounds, or the windows, of a link
abbrev pub eight_from : ℕ → List ℕ → List ℕ
eight_from k xs = tabulate max_levels (λ i. get_or xs (k + i) 0)

-- n, S, the silence (document 02, R-4), the setting (R-11), the eight bounds and the eight windows (R-12): of an `LW` all, of an `LE` without windows, and of an `LK`, whose
-- stand-by queue is off, with 0 for the setting. A number past the last is 0
abbrev pub link_named : List ℕ → Link
link_named xs = record { levels = get_or xs 0 0; largest = get_or xs 1 0; silence = get_or xs 2 0; early = get_or xs 3 0; bounds = eight_from 4 xs; windows = eight_from 12 xs }

-- T, S and the silence (document 02, R-13)
abbrev pub framing_named : List ℕ → Framing
framing_named xs = record { frame = get_or xs 0 0; largest = get_or xs 1 0; silence = get_or xs 2 0 }

-- level, gap, size, the window and the average gap (document 02, R-6): regulated by its gap, kind 0, with no allowance (R-9)
abbrev pub connection_named : List ℕ → Connection
connection_named xs = record { level = get_or xs 0 0; gap = get_or xs 1 0; size = get_or xs 2 0; window = get_or xs 3 0; average = get_or xs 4 0; kind = 0; allowance = 0 }

-- level, gap, size and the allowance (document 02, R-9): regulated by stamps, kind 1, with no average
abbrev pub stamped_named : List ℕ → Connection
stamped_named xs = record { level = get_or xs 0 0; gap = get_or xs 1 0; size = get_or xs 2 0; window = 0; average = 0; kind = 1; allowance = get_or xs 3 0 }

-- r and p (document 02, R-13)
abbrev pub share_named : List ℕ → Share
share_named xs = record { units = get_or xs 0 0; places = get_or xs 1 0 }
