use mathlib.Core.Path.{refl}
use borrow.Author.Rules.{rules}
use Rattle.mtredovim.proofs.main.Goals as goal

pub replay_all-v-requires : goal.replay_all-v-requires
replay_all-v-requires c = record { notices_value = refl; longest_record_in_bounds = search rules; longest_answer_in_bounds = search rules }
