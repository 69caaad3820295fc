-- The laws of the discipline of frames, as the shared proofs ask for them; how a refusal and a call done meet the contract.
use mathlib.Core.Path.{refl}
use Rattle.std.specs.Prelude.{None}
use Rattle.frames.specs.Model.{State, Call}
use Rattle.frames.specs.SoundState.{Sound}
use Rattle.frames.specs.Calls.{verdict, refused_number, refused_short, settle, answer}
use Rattle.frames.proofs.SoundKept.{kept}
use Rattle.frames.proofs.Results.{refusals_change_nothing, verdict_1_exactly}
use Rattle.tables.proofs.CallLaws.{Ruled}
use Rattle.faces.proofs.Discipline.{Discipline}
use Rattle.faces.proofs.CallLaws as C
use Rattle.faces.proofs.Results.{option_back}
use Rattle.framed_state.specs.View.{Frames, Tables, view, frames_of, written, sound_frames}
use Rattle.framed_state.specs.Said.{Said, said_of, refusal}
use Rattle.framed_state.specs.Does.{tells, leaves}
use Rattle.framed_state.proofs.WrittenLaws.{writable, read_written, written_sound}
use Rattle.framed_state.proofs.SoundLaws.{is_sound, tables_kept}

pub ruled : (k : Call) (h : Frames) (t : Tables)
    → Ruled tells leaves k h t (sound_frames h t) (said_of (answer k (view h t))) (refusal h 1 (refused_number k)) (written (answer k (view h t)).next)
unfolding tells leaves
ruled k h t = record { tells_is = refl; leaves_is = refl }

abbrev pub frames : Discipline
frames = record {
  State = State;
  Call = Call;
  Sound = Sound;
  answer = answer;
  refused_number = refused_number;
  Kept = Frames;
  Told = Said;
  verdict = λ r. r.verdict;
  number = λ r. r.number;
  short = λ r. r.short;
  departed = λ r. r.departed;
  kept = λ r. r.kept;
  view = view;
  kept_of = frames_of;
  written = written;
  sound = sound_frames;
  told_of = said_of;
  refusal = refusal;
  tells = tells;
  leaves = leaves;
  ruled = ruled;
  told_back = λ a. (refl, refl, refl, option_back a.departed);
  kept_told = λ a. refl;
  kept_back = λ h t. refl;
  refused_as = λ h v n. (refl, refl, refl, refl);
  is_sound = is_sound;
  tables_kept = tables_kept;
  read_written = λ s S. read_written s (writable s S);
  written_sound = written_sound;
  next_sound = kept;
  never_1 = λ k s S z. (verdict_1_exactly k s).0 z S;
  refuses = refusals_change_nothing;
}

abbrev pub settled : C.Settled frames
settled = record {
  rule = verdict;
  settle = settle;
  refusal_short = λ h verdict number short. record { verdict = verdict; number = number; short = short; departed = None; kept = h };
  refused_short = refused_short;
  answer_is = λ k s. refl;
  told_is = λ k h t w. refl;
  next_is = λ k s w. refl;
}

pub refuses_unsound : C.RefusesUnsound frames
refuses_unsound = C.refuses_unsound frames

pub refuses : C.Refuses frames settled
refuses = C.refuses frames settled

pub acts : C.Acts frames settled
acts = C.acts frames settled

pub said_as : C.ToldAs frames
said_as = C.told_as frames

pub left_as : C.LeftAs frames
left_as = C.left_as frames
