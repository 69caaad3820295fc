-- The laws that specs/Laws of the crate `fields` states, of traces.
use native.Mathlib.Omega.{arith}
use Rattle.fields.specs.Laws.{Lawful}
use Rattle.fields.proofs.FormatLaws.{kinds_written, apart}
use Rattle.fields.proofs.WindowLaws.{kinds_same}
use Rattle.traces.specs.Trace.{trace_layout, trace_kinds, trace_table, longest_record}
use Rattle.traces.proofs.TraceLaws.{trace_back, trace_fair, trace_length, trace_within}

pub trace_lawful : Lawful trace_kinds trace_layout longest_record trace_table
trace_lawful =
    record {
      reads_back = trace_back;
      writes_back = kinds_written trace_layout trace_kinds trace_fair;
      tells_apart = apart trace_kinds trace_layout trace_back;
      has_length = trace_length;
      looks_no_further = λ bs rest h. kinds_same longest_record bs rest h trace_kinds (omega arith) trace_within;
    }
