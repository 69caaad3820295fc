-- THE STATEMENT of the hub, apart from its proof: it is proved in proofs/Results under the same name in small letters.
use Rattle.rules.specs.Model.{fresh}
use Rattle.rules.specs.SoundState.{Sound}
use Rattle.rules.specs.Calls.{refused_number, answer}
use Rattle.rules.specs.Runs.{History, logged, run}
use Rattle.faces.specs.Promises.{KeepsToTheRules}
use Rattle.line.specs.declared.Told as line
use Rattle.state.specs.View.{zero_tables, view, hub_of, written, sound_hub}
use Rattle.state.specs.Told.{told_of}
use Rattle.state.specs.Does.{tells, leaves}

-- the public functions keep to the rules (crates/faces/specs/Promises.antt, where each field is explained): `one_outcome`, `test_is_exact`, `written_reads_back` and `sound_is_kept` of any call;
-- demand 1 is `refusals_change_nothing` and `verdict_1_exactly`, demand 2 `answers_as_the_rules`. Whatever the rules promise (crates/rules/specs/Promises.antt) of one call holds of the code by
-- `holds_as_of_the_rules`, and of any calls, demand 3 among it, by `follows_the_rules` and `told_as_in_the_run`
abbrev pub TheHubKeepsToTheRules : Type 1
TheHubKeepsToTheRules =
    KeepsToTheRules Sound answer refused_number logged run History.now
    view hub_of written sound_hub (hub_of fresh) zero_tables
    tells leaves told_of line.Told.verdict line.Told.number line.Told.short line.Told.departed line.Told.kept
