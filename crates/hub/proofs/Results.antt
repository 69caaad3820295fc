-- THE PROOF of the statement in specs/Promises, under its name in small letters.
use mathlib.Core.Path.{◌≡◌, refl}
use Rattle.rules.specs.Model.{fresh}
use Rattle.rules.specs.Runs.{History, logged, run_from, run, nothing_yet}
use Rattle.rules.proofs.Every.{fresh_invariant}
use Rattle.tables.specs.Places.{table_of}
use Rattle.connections.specs.Members.{written_rows}
use Rattle.faces.proofs.Results as F
use Rattle.state.specs.View.{zero_tables, written}
use Rattle.state.proofs.DoesLaws.{levels}
use Rattle.hub.specs.Promises.{TheHubKeepsToTheRules}

zeros_written : zero_tables ≡ written fresh
unfolding written_rows table_of
zeros_written = refl

abbrev runs : F.Runs levels
runs = record {
  History = History;
  logged = logged;
  now = History.now;
  run_from = run_from;
  start = nothing_yet;
  run = run;
  zero_tables = zero_tables;
  run_none = λ h. refl;
  run_more = λ h k ks. refl;
  run_is = λ ks. refl;
  now_logged = λ h k a. refl;
  start_sound = fresh_invariant.sound;
  zeros_written = zeros_written;
}

pub the_hub_keeps_to_the_rules : TheHubKeepsToTheRules
the_hub_keeps_to_the_rules = F.keeps_to_the_rules levels runs
