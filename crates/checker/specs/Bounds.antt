-- The moves end, and the offset fits its 64 bits.
use Rattle.std.specs.Prelude.{ℕ, suc, ◌+◌, ◌-◌, ◌*◌, ◌^◌, ◌<◌, ◌≤◌, ◌≡◌, cond, None, is_some}
use Rattle.answers.specs.Answers.{longest_answer}
use Rattle.turns.specs.declared.Turn.{Turn}
use Rattle.turns.specs.Turns.{turns_left, Right}
use Rattle.checker.specs.declared.Check.{Check}
use Rattle.checker.specs.Checks.{Inside}

-- a bound on the turns of the replay that follow a turn, with n bytes in the trace's buffer
abbrev pub left : ℕ → Turn → ℕ
left n v = cond (is_some v.end) 0 (suc (turns_left n v.cursor v.from v.to v.last))

-- all is as it must be, with n bytes in the trace's buffer, m in the room and k in the log's buffer
pub record Fit (n m k : ℕ) (c : Check) : Type 0 where
  pub trace : c.turn.end ≡ None → Right n c.turn.cursor c.turn.from c.turn.to
  pub room : (longest_answer ≤ m) × (m ≤ 65536)
  pub expected : Inside m c.met c.wrote
  pub log : Inside k c.from c.to
  pub offset : c.at + (c.wrote - c.met) + 65536 * left n c.turn < 2 ^ 64

-- a move that is followed by another leaves less to do
pub record Nearer (n m k : ℕ) (c r : Check) : Type 0 where
  pub fit : Fit n m k r
  pub less : (r.wrote - r.met) + 65537 * left n r.turn < (c.wrote - c.met) + 65537 * left n c.turn
