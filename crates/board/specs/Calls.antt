-- THE CALLS FROM C and what each is told: the verdict, and the numbers that are lent for the answer. include/mtredovim.h has a function for each.
use Rattle.std.specs.Prelude.{ℕ, cond, ◌⊎◌, List, [], ◌∷◌, is_some, unwrap_or}
use Rattle.std.proofs.Common.{inl, inr}
use Rattle.either_line.specs.Line.{Line, Request, link_levels, link_frames, admit_level, admit_share, offer, notice, close, tick, Reply, respond, refused_number}
use Rattle.tables.specs.Places.{no_packet}
use Rattle.both.specs.Replied.{Replied}
use Rattle.both.specs.View.{kept_clock}
use Rattle.board.specs.Ticks.{run_ticks}

-- a request of a line with either discipline, or so many ticks
abbrev pub Call : Type 0
Call = Request ⊎ ℕ

-- what the rules reply to it
abbrev pub reply : Call → Line → Reply
reply (inl k) s = respond k s
reply (inr n) s = run_ticks n s

-- the number of a refusal
abbrev pub refused_by : Call → ℕ
refused_by (inl k) = refused_number k
refused_by (inr n) = 0

-- what a call tells: the verdict; what is written to the numbers that are lent for the answer, and to those that are lent for a departure; the line's table as it is left
pub record Spoken : Type 0 where
  pub verdict : ℕ
  pub numbers : List ℕ
  pub departure : List ℕ
  pub line : List ℕ

abbrev pub spoken : ℕ → List ℕ → List ℕ → List ℕ → Spoken
spoken verdict numbers departure line = record { verdict = verdict; numbers = numbers; departure = departure; line = line }

-- whether a packet departed; its connection, length, tag, arrival, eligibility and finish, which is the clock then: all 0 where none did
abbrev pub departure_numbers : Replied → List ℕ
departure_numbers r =
    let p = unwrap_or r.departed no_packet in
    cond (is_some r.departed) 1 0 ∷ p.connection ∷ p.len ∷ p.tag ∷ p.arrival ∷ p.eligibility
    ∷ cond (is_some r.departed) (kept_clock r.kept) 0 ∷ []

-- the connection's number, and with verdict 8 the level that is short and its units
abbrev pub admission_numbers : Replied → List ℕ
admission_numbers r = r.number ∷ r.short.level ∷ r.short.units ∷ []

-- .. of a reply, by the call
abbrev pub spoken_of : Call → Replied → List ℕ → Spoken
spoken_of (inl (link_levels l)) r line = spoken r.verdict [] [] line
spoken_of (inl (link_frames l)) r line = spoken r.verdict [] [] line
spoken_of (inl (admit_level x)) r line = spoken r.verdict (admission_numbers r) [] line
spoken_of (inl (admit_share x)) r line = spoken r.verdict (admission_numbers r) [] line
spoken_of (inl (offer c len tag st)) r line = spoken r.verdict (r.number ∷ []) [] line
spoken_of (inl (notice len tag)) r line = spoken r.verdict (r.number ∷ []) [] line
spoken_of (inl (close c)) r line = spoken r.verdict [] [] line
spoken_of (inl tick) r line = spoken r.verdict [] (departure_numbers r) line
spoken_of (inr n) r line = spoken r.verdict (r.number ∷ []) (departure_numbers r) line
