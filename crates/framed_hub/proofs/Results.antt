-- THE PROOF of the statement in specs/Promises, under its name in small letters.
use mathlib.Core.Path.{◌≡◌, refl}
use Rattle.frames.specs.Model.{fresh}
use Rattle.frames.specs.Runs.{run}
use Rattle.frames.proofs.Names.{History, logged, run_from, nothing_yet}
use Rattle.frames.proofs.Every.{fresh_invariant}
use Rattle.tables.specs.Places.{table_of}
use Rattle.shares.specs.Shares.{written_shares}
use Rattle.faces.proofs.Results as F
use Rattle.framed_state.specs.View.{zero_tables, written}
use Rattle.framed_state.proofs.DoesLaws.{frames}
use Rattle.framed_hub.specs.Promises.{TheFramedHubKeepsToTheRules}

zeros_written : zero_tables ≡ written fresh
unfolding written_shares table_of
zeros_written = refl

abbrev runs : F.Runs frames
runs = record {
  History = History;
  logged = logged;
  now = λ h. h.now;
  run_from = run_from;
  start = nothing_yet;
  run = run;
  zero_tables = zero_tables;
  run_none = λ h. refl;
  run_more = λ h k ks. refl;
  run_is = λ ks. refl;
  now_logged = λ h k a. refl;
  start_sound = fresh_invariant.sound;
  zeros_written = zeros_written;
}

pub the_framed_hub_keeps_to_the_rules : TheFramedHubKeepsToTheRules
the_framed_hub_keeps_to_the_rules = F.keeps_to_the_rules frames runs
