-- The laws of the discipline of levels, as the shared proofs ask for them; how a refusal and a call done meet the contract.
use mathlib.Core.Path.{refl}
use Rattle.std.specs.Prelude.{None}
use Rattle.rules.specs.Model.{State, Call}
use Rattle.rules.specs.SoundState.{Sound}
use Rattle.rules.specs.Calls.{verdict, refused_number, refused_short, settle, answer}
use Rattle.rules.proofs.SoundKept.{kept}
use Rattle.rules.proofs.Results.{refusals_change_nothing, verdict_1_exactly}
use Rattle.tables.proofs.CallLaws.{Ruled}
use Rattle.faces.proofs.Discipline.{Discipline}
use Rattle.faces.proofs.CallLaws as C
use Rattle.faces.proofs.Results.{option_back}
use Rattle.state.specs.View.{Hub, Tables, view, hub_of, written, sound_hub}
use Rattle.state.specs.Told.{Told, told_of, refusal}
use Rattle.state.specs.Does.{tells, leaves}
use Rattle.state.proofs.WrittenLaws.{writable, read_written, written_sound}
use Rattle.state.proofs.SoundLaws.{is_sound, tables_kept}

pub ruled : (k : Call) (h : Hub) (t : Tables)
    → Ruled tells leaves k h t (sound_hub h t) (told_of (answer k (view h t))) (refusal h 1 (refused_number k)) (written (answer k (view h t)).next)
unfolding tells leaves
ruled k h t = record { tells_is = refl; leaves_is = refl }

abbrev pub levels : Discipline
levels = record {
  State = State;
  Call = Call;
  Sound = Sound;
  answer = answer;
  refused_number = refused_number;
  Kept = Hub;
  Told = Told;
  verdict = λ r. r.verdict;
  number = λ r. r.number;
  short = λ r. r.short;
  departed = λ r. r.departed;
  kept = λ r. r.kept;
  view = view;
  kept_of = hub_of;
  written = written;
  sound = sound_hub;
  told_of = told_of;
  refusal = refusal;
  tells = tells;
  leaves = leaves;
  ruled = ruled;
  told_back = λ a. (refl, refl, refl, option_back a.departed);
  kept_told = λ a. refl;
  kept_back = λ h t. refl;
  refused_as = λ h v n. (refl, refl, refl, refl);
  is_sound = is_sound;
  tables_kept = tables_kept;
  read_written = λ s S. read_written s (writable s S);
  written_sound = written_sound;
  next_sound = kept;
  never_1 = λ k s S z. (verdict_1_exactly k s).0 z S;
  refuses = refusals_change_nothing;
}

abbrev pub settled : C.Settled levels
settled = record {
  rule = verdict;
  settle = settle;
  refusal_short = λ h verdict number short. record { verdict = verdict; number = number; short = short; departed = None; kept = h };
  refused_short = refused_short;
  answer_is = λ k s. refl;
  told_is = λ k h t w. refl;
  next_is = λ k s w. refl;
}

pub refuses_unsound : C.RefusesUnsound levels
refuses_unsound = C.refuses_unsound levels

pub refuses : C.Refuses levels settled
refuses = C.refuses levels settled

pub acts : C.Acts levels settled
acts = C.acts levels settled

pub told_as : C.ToldAs levels
told_as = C.told_as levels

pub left_as : C.LeftAs levels
left_as = C.left_as levels
