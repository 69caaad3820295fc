-- How the code runs many ticks: stretch by stretch, quiet ticks at once, else one tick. Document 01, "One tick".
use Rattle.std.specs.Prelude.{ℕ, ◌+◌, min, ◌≡◌, cond, eqb}
use Rattle.std.proofs.Math.Option.{none}
use Rattle.rules.specs.Model.{no_short}
use Rattle.either_line.specs.Line.{Line, tick, Reply, respond}
use Rattle.tables.specs.Lent.{Tables}
use Rattle.both.specs.declared.Kept.{Kept}
use Rattle.both.specs.View.{written}
use Rattle.both.specs.Replied.{Replied, replied_of, refusal}
use Rattle.both.specs.Quiet.{passed, quiet_ticks}

-- as many as are counted in 16 bits
abbrev pub most_at_once : ℕ
most_at_once = 65_535

-- of `left` ticks those that are passed over at once
abbrev pub quiet_of : ℕ → Line → ℕ
quiet_of left s = quiet_ticks (min left most_at_once) s

-- a tick as a stretch: `number` counts it where it is done
abbrev pub counted : Reply → Reply
counted a = record { verdict = a.verdict; number = cond (eqb a.verdict 0) 1 0; short = a.short; departed = a.departed; next = a.next }

abbrev pub quiet_stretch : ℕ → Line → Reply
quiet_stretch k s = record { verdict = 0; number = k; short = no_short; departed = none; next = passed s k }

unfoldable pub stretch : ℕ → Line → Reply
stretch left s = cond (eqb (quiet_of left s) 0) (counted (respond tick s)) (quiet_stretch (quiet_of left s) s)

-- ---- as the code has them

-- a reply is told, and the tables are what is written of the line that it leaves
abbrev pub Gives : Reply → Replied → Tables → Type 0
Gives a told after = (told ≡ replied_of a) × (after ≡ written a.next)

-- no packet has departed: the verdict, the ticks done, what is kept
abbrev pub undeparted : ℕ → ℕ → Kept → Replied
undeparted verdict done h = refusal h verdict done

-- the last stretch behind `done` ticks: a tick that is refused then is not told
abbrev pub last_of : Replied → ℕ → Replied
last_of r done = record {
  verdict = cond (eqb done 0) r.verdict 0;
  number = done + r.number;
  short = no_short;
  departed = r.departed;
  kept = r.kept;
}

abbrev pub counted_told : Replied → Replied
counted_told r = record { verdict = r.verdict; number = cond (eqb r.verdict 0) 1 0; short = r.short; departed = r.departed; kept = r.kept }
