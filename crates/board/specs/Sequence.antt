-- A sequence of calls from C, each lent what the last one left, and what a caller reads off the numbers of the answers.
use Rattle.std.specs.Prelude.{ℕ, cond, List, [], ◌∷◌, ◌++◌, eqb, get_or, replicate}
use Rattle.std.proofs.Common.{inl, inr}
use Rattle.std.proofs.Math.Option.{Option, none, some}
use Rattle.rules.specs.declared.Packet.{Packet}
use Rattle.rules.specs.Words.{push}
use Rattle.rules.specs.Runs.{Departure, taken}
use Rattle.either_line.specs.Line.{Line, Request, tick, form, respond, clock_of}
use Rattle.tables.specs.Calls.{calls_from}
use Rattle.both.specs.View.{Tables, zero_tables, view}
use Rattle.board.specs.Numbers.{line_length, kept_in}
use Rattle.board.specs.Ticks.{run_ticks}
use Rattle.board.specs.Calls.{Call, Spoken}
use Rattle.board.specs.Does.{tells, leaves}

-- a caller's notes: the packets that were accepted, notices among them, and the departures, each read off the answers; and what the caller keeps between the calls, the line's table and the others
pub record Notes : Type 0 where
  pub accepted : List Packet
  pub departed : List Departure
  pub kept : List ℕ
  pub tables : Tables

-- the line that the caller's tables stand for
abbrev pub line_of : Notes → Line
line_of g = view (kept_in g.kept) g.tables

-- the first number of an answer, behind the verdict
abbrev pub number_in : Spoken → ℕ
number_in a = get_or a.numbers 0 0

-- the packet that an answer says was accepted on the line s: the one that the rules take at this verdict and this number
abbrev pub accepted_in : Call → Line → Spoken → Option Packet
accepted_in (inl k) s a = taken (clock_of s) a.verdict (number_in a) (form k).2
accepted_in (inr n) s a = none

-- the departure that its numbers tell, if they tell one
abbrev pub departure_in : List ℕ → Option Departure
departure_in d =
    cond (eqb (get_or d 0 0) 0) none
    (some (record { what = record { connection = get_or d 1 0; len = get_or d 2 0; tag = get_or d 3 0; arrival = get_or d 4 0; eligibility = get_or d 5 0 }; finish = get_or d 6 0 }))

-- a call on what the last one left: `Does` leaves these numbers and these tables, and no others
abbrev pub call : Notes → Call → Notes
call g k =
    let a = tells k g.kept g.tables in
    record {
      accepted = push g.accepted (accepted_in k (line_of g) a);
      departed = push g.departed (departure_in a.departure);
      kept = a.line;
      tables = leaves k g.kept g.tables;
    }

-- from four tables of zeros
abbrev pub calls : List Call → Notes
calls ks = calls_from call (record { accepted = []; departed = []; kept = replicate line_length 0; tables = zero_tables }) ks

-- the requests that the calls are, on the line s: many ticks are as many ticks as were done
abbrev pub requests_from : Line → List Call → List Request
requests_from s [] = []
requests_from s (inl k ∷ ks) = k ∷ requests_from (respond k s).next ks
requests_from s (inr n ∷ ks) = replicate (run_ticks n s).number tick ++ requests_from (run_ticks n s).next ks
