-- The laws that specs/Laws of the crate `fields` states, of answers.
use native.Mathlib.Omega.{arith}
use Rattle.fields.specs.Laws.{Lawful}
use Rattle.fields.proofs.FormatLaws.{kinds_written, apart}
use Rattle.fields.proofs.WindowLaws.{kinds_same}
use Rattle.answers.specs.Answers.{answer_layout, answer_kinds, answer_table, longest_answer}
use Rattle.answers.proofs.AnswerLaws.{answer_back, answers_fair, answer_length, answers_within}

pub answers_lawful : Lawful answer_kinds answer_layout longest_answer answer_table
answers_lawful =
    record {
      reads_back = answer_back;
      writes_back = kinds_written answer_layout answer_kinds answers_fair;
      tells_apart = apart answer_kinds answer_layout answer_back;
      has_length = answer_length;
      looks_no_further = λ bs rest h. kinds_same longest_answer bs rest h answer_kinds (omega arith) answers_within;
    }
