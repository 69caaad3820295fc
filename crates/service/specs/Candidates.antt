-- The choice as one pass upward: the best packet so far, and the next one of the rows; and who may send early. Document 01, "One tick", step 1; document 02, R-11.
use Rattle.std.specs.Prelude.{ℕ, ◌+◌, ◌*◌, ◌≤◌, ◌<◌, ◌≡◌, Bool, true, cond, List, leb, length}
use Rattle.std.proofs.Math.Option.{Option, none, some}
use Rattle.rules.specs.declared.Link.{Link}
use Rattle.rules.specs.declared.Packet.{Packet}
use Rattle.rules.specs.Model.{nth}
use Rattle.rules.specs.Admission.{goes_early}
use Rattle.rules.specs.Service.{better, takes}
use Rattle.tables.specs.Places.{row_at}
use Rattle.tables.specs.Notices.{notices_in}
use Rattle.connections.specs.Members.{connections_in}
use Rattle.tables.specs.Options.{option_in}
use Rattle.std.specs.Prelude as code
use Rattle.service.specs.declared.Lead.{Lead}

-- the level of connection c, by the table of connections
abbrev pub level_in : List ℕ → ℕ → ℕ
level_in cs c = (nth (connections_in cs) c).level

-- whether its packets may go early, by the link and that table
abbrev pub early_in : Link → List ℕ → ℕ → Bool
early_in l cs c = goes_early l (nth (connections_in cs) c)

-- with d in the place of o, the packet that stands by, the line takes the same
abbrev pub StandsIn : code.Option Packet → List ℕ → Option Packet → code.Option Packet → Type 0
StandsIn chosen q o d = ◌≡◌ {A = ℕ × ℕ} (takes (option_in chosen) (notices_in q) (option_in d)) (takes (option_in chosen) (notices_in q) o)

-- p among "held packets with eligibility at most t"
abbrev pub candidate : ℕ → Packet → Option Packet
candidate t p = cond (leb p.eligibility t) (some p) none

-- of two candidates, the first one offered earlier, the one that goes first
abbrev pub leader : (ℕ → ℕ) → Option Packet → Option Packet → Option Packet
leader level none o = o
leader level (some p) o = better level p o

-- ---- the best row so far, by its place

-- the packet that is named, if one is
abbrev pub named : List ℕ → code.Option Lead → Option Packet
named t code.None = none
named t (code.Some l) = some (row_at t l.place)

-- .. whose level and eligibility are as they are noted
pub record LeadIs (cs t : List ℕ) (l : Lead) : Type 0 where
  pub inside : 5 * l.place + 5 ≤ length t
  pub level : l.level ≡ level_in cs (row_at t l.place).connection
  pub eligibility : l.eligibility ≡ (row_at t l.place).eligibility

abbrev pub Leads : List ℕ → List ℕ → code.Option Lead → Type 0
Leads cs t o = (l : Lead) → o ≡ code.Some l → LeadIs cs t l

-- what is named once row i, which was offered later, is taken in
abbrev pub LeadsWith : List ℕ → List ℕ → ℕ → code.Option Lead → ℕ → code.Option Lead → Type 0
LeadsWith cs t clock l i r = (named t r ≡ leader (level_in cs) (named t l) (candidate clock (row_at t i))) × Leads cs t r

-- of the rows from row i on, those before row r are not eligible
abbrev pub NotEligible : List ℕ → ℕ → ℕ → ℕ → Type 0
NotEligible t clock i r = (j : ℕ) → i ≤ j → j < r → clock < (row_at t j).eligibility
