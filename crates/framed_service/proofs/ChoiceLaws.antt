-- Laws of the choice, which is the first row or none, and of the tick with it.
use Prim.Native.Nat.{ℕ, ◌≤◌, ◌<◌}
use native.Mathlib.Omega.{arith}
use mathlib.Core.Path.{◌≡◌, sym, ap, ◌∙◌, subst}
use mathlib.Core.List.{List, [], ◌∷◌}
use mathlib.Core.Option.{none, some}
use lib.Dec.{leb}
use lib.ListN.{length, drop}
use borrow.Author.Tests.{le-leb}
use Rattle.std.specs.Prelude as code
use Rattle.std.specs.Prelude.{Some, None}
use Rattle.rules.specs.declared.Packet.{Packet}
use Rattle.rules.specs.Words.{All, Pairs}
use Rattle.rules.specs.Limits.{notice_number}
use Rattle.rules.specs.Service.{begun, sends, wire_tick, sent}
use Rattle.rules.proofs.Lists.{all_map}
use Rattle.rules.proofs.Sums.{cond_is, cond_ind}
use Rattle.frames.specs.Service.{first_eligible}
use Rattle.frames.proofs.SoundTick.{none_eligible}
use Rattle.tables.specs.Places.{rows, row_at}
use Rattle.tables.specs.Options.{option_of}
use Rattle.tables.proofs.PlacesLaws.{rows_from}
use Rattle.line.specs.declared.Wire.{Wire}
use Rattle.line.specs.declared.Sent.{Sent}
use Rattle.line.specs.Wires.{line_in, wire_of, Leaves, InPlace}
use Rattle.line.proofs.LineLaws.{Held, here, behind, in_place_then}
use Rattle.framed_service.specs.Ready.{Ready}
use Rattle.frames.proofs.Names.{NotAfter}

-- ---- the choice

module _ (clock : ℕ) (t : List ℕ) where
  module _ (l : 0 < length (rows t)) (p : Packet) (is : p ≡ row_at t 0) where
    abbrev rest : List Packet
    rest = drop 1 (rows t)

    rows_are : p ∷ rest ≡ rows t
    rows_are = ap (λ (q : Packet). q ∷ rest) is ∙ sym (rows_from t 0 l)

    as_rows : (d : code.Option Packet) → d ≡ option_of (first_eligible clock (p ∷ rest)) → d ≡ option_of (first_eligible clock (rows t))
    as_rows d e = e ∙ ap (λ (ps : List Packet). option_of (first_eligible clock ps)) rows_are

    pub first_row : p.eligibility ≤ clock → Some p ≡ option_of (first_eligible clock (rows t))
    first_row h = as_rows (Some p) (ap option_of (sym (cond_is (some p) (first_eligible clock rest) (le-leb p.eligibility clock h))))

    -- those behind it are no earlier
    pub no_row_yet : clock < p.eligibility → Pairs NotAfter (rows t) → None ≡ option_of (first_eligible clock (rows t))
    no_row_yet h k =
        let later = all_map (λ q a. omega (arith, h)) rest (subst (Pairs NotAfter) (sym rows_are) k).0 in
        as_rows None (ap option_of (sym (none_eligible clock (p ∷ rest) (h, later))))

-- ---- the tick

chosen_held : (t : ℕ) (ps : List Packet) → All (λ p. p.connection ≡ notice_number → ⊥) ps → Held ps (first_eligible t ps)
chosen_held t [] a = tt
chosen_held t (q ∷ ps) a =
    cond_ind (Held (q ∷ ps)) (leb q.eligibility t) {x = some q} {y = first_eligible t ps} (λ _. here q ps a.0)
    (λ _. behind q ps (first_eligible t ps) (chosen_held t ps a.1))

module _ (w : Wire) (clock : ℕ) (t q : List ℕ) (v : Wire) (e : v ≡ wire_of (begun (first_eligible clock (rows t)) none (line_in w t q))) where
  pub ready_then : Ready w t q → InPlace v t q
  ready_then r = in_place_then w (first_eligible clock (rows t)) none t q r.in_place (chosen_held clock (rows t) r.others) tt v e

  pub ticks : (silence : ℕ) (x : Sent) (s n : List ℕ) → Leaves (sends silence sent (line_in v t q) v.to_go) x s n
      → Leaves (wire_tick silence sent (first_eligible clock (rows t)) none (line_in w t q)) x s n
  ticks silence x s n k = subst (λ (u : Wire). Leaves (sends silence sent (line_in u t q) u.to_go) x s n) e k
