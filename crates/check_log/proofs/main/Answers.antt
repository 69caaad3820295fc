use mathlib.Core.Path.{refl}
use borrow.Author.Rules.{rules}
use Rattle.check_log.proofs.main.Goals as goal

pub check_all-c-requires : goal.check_all-c-requires
check_all-c-requires c = record { notices_value = refl; longest_record_in_bounds = (search rules, search rules); longest_answer_in_bounds = (search rules, search rules); log_nonzero = search rules }
