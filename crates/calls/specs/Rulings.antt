-- What the code decides of a call's table of verdicts, and in which parts. Document 01, "Verdict numbers"; document 02, R-2, R-8, R-9 and R-11.
use Rattle.std.specs.Prelude.{ℕ, ◌+◌, Bool, not, ◌&&◌, List, [], ◌∷◌, leb, ltb, eqb, get_or}
use Rattle.std.proofs.Math.Option.{Option}
use Rattle.rules.specs.declared.Link.{Link}
use Rattle.rules.specs.declared.Connection.{Connection}
use Rattle.rules.specs.Limits.{max_connections}
use Rattle.rules.specs.Model.{nth, no_past}
use Rattle.rules.specs.Admission.{level_within, figures_within, stand_by_on, distance}
use Rattle.rules.specs.Service.{eligibility_by}
use Rattle.connections.specs.Members.{connections_in, pasts_in}

-- the rows of an admission's table that need no sum, where c is the lowest free number
abbrev pub early_admit : Link → ℕ → Connection → List (ℕ × Bool)
early_admit l c x = (2, eqb l.levels 0) ∷ (5, not (level_within l x)) ∷ (6, not (figures_within l x)) ∷ (7, leb max_connections c) ∷ []

-- the test of 18 at number c of a table of connections: the rules' `too_far`
abbrev pub too_far_in : Link → List ℕ → ℕ → ℕ → Option ℕ → Bool
too_far_in l t c clock st =
    stand_by_on l && ltb (clock + distance l (nth (connections_in t) c)) (eligibility_by (nth (connections_in t) c) (get_or (pasts_in t) c no_past) clock st)
