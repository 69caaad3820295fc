-- What a call answers and what is kept after it, whatever the discipline. Document 01, "Verdict numbers" and "One tick", step 3.
use Rattle.std.specs.Prelude.{ℕ, ◌+◌, None}
use Rattle.rules.specs.Model.{no_short, Outcome}
use Rattle.tables.specs.Options.{option_of}
use Rattle.line.specs.declared.Hub.{Hub}
use Rattle.line.specs.declared.Told.{Told}
use Rattle.line.specs.declared.Sent.{Sent}

-- an answer of the rules, as the code gives it: of the state the part that no table holds
abbrev pub told_by : {State H : Type 0} → (State → H) → Outcome State → Told H
told_by kept_of a = record { verdict = a.verdict; number = a.number; short = a.short; departed = option_of a.departed; kept = kept_of a.next }

-- no packet leaves, and what is kept is h
abbrev pub refusal : {H : Type 0} → H → ℕ → ℕ → Told H
refusal h verdict number = record { verdict = verdict; number = number; short = no_short; departed = None; kept = h }

-- "the clock becomes t + 1. The answer is the departed packet or nothing"
abbrev pub passed_on : {L : Type 0} → Hub L → Sent → Told (Hub L)
passed_on h x = record {
  verdict = 0;
  number = 0;
  short = no_short;
  departed = x.departed;
  kept = record { link = h.link; clock = h.clock + 1; wire = x.wire };
}

-- the same answer, with k kept
abbrev pub told_keeping : {H K : Type 0} → Told H → K → Told K
told_keeping a k = record { verdict = a.verdict; number = a.number; short = a.short; departed = a.departed; kept = k }
