-- Laws of the pass over the rows that counts what one connection has taken.
use Prim.Native.Nat.{ℕ, ◌+◌, ◌*◌, ◌≤◌, ◌<◌}
use native.Mathlib.Omega.{arith}
use native.Mathlib.Numerals.{add-one}
use mathlib.Core.Path.{◌≡◌, refl, sym, ap, ◌∙◌, subst}
use mathlib.Core.Bool.{Bool, true, false, cond}
use mathlib.Core.List.{List, ◌∷◌}
use lib.Dec.{eqb}
use lib.ListN.{length, drop}
use Rattle.rules.specs.declared.Packet.{Packet}
use Rattle.rules.specs.Words.{total}
use Rattle.rules.specs.Service.{of}
use Rattle.rules.proofs.Lists.{all_at}
use Rattle.frames.specs.declared.Framing.{Framing}
use Rattle.frames.specs.Service.{newly, used}
use Rattle.frames.specs.SoundState.{Fits}
use Rattle.frames.proofs.Figures.{framing_facts, stands_below}
use Rattle.frames.proofs.Results.{rows_fit}
use Rattle.causes.proofs.CauseLaws.{one_more, bit_le}
use Rattle.tables.specs.Places.{rows, row_at, no_packet}
use Rattle.tables.proofs.PlacesLaws.{row_is, rows_from}
use Rattle.shares.specs.Shares.{shares_in}
use Rattle.framed_state.specs.View.{Frames, Tables, view, sound_frames}
use Rattle.framed_state.proofs.SoundLaws.{is_sound, linked}
use Rattle.framed_sound.specs.Parts.{Measured}
use Rattle.framed_sound.proofs.TallyLaws.{newly_most, cost_here}

-- ---- the rows of a sound line can be counted

pub measured : (h : Frames) (t : Tables) → sound_frames h t ≡ true → (h.link.frame ≡ 0 → ⊥) → Measured h.link t.places
measured h t ok n = record {
  countable = record {
    few_rows = rows_fit (view h t) (is_sound h t ok);
    known = λ k i. omega (arith, (linked h t ok n).few, stands_below (shares_in t.members) _ (fits k i).standing);
  };
  sized = λ k i. omega (arith, (fits k i).len_le, (framing_facts h.link (linked h t ok n).link_in).largest_max);
  short_silence = (framing_facts h.link (linked h t ok n).link_in).silence_max;
}
  where
    fits : (k : ℕ) → k < length (rows t.places) → Fits h.link (shares_in t.members) (row_at t.places k)
    fits k i =
        subst (Fits h.link (shares_in t.members)) (row_is t.places k i)
        (all_at (Fits h.link (shares_in t.members)) (rows t.places) k no_packet i (linked h t ok n).fit)

-- ---- what the rows of a connection weigh, row by row

module _ (w : Packet → ℕ) (c : ℕ) where
  weighs_more : (l : List Packet) (p : Packet) (ps : List Packet) → l ≡ p ∷ ps → total w (of c l) ≡ cond (eqb p.connection c) (w p) 0 + total w (of c ps)
  weighs_more l p ps e = ap (λ (q : List Packet). total w (of c q)) e ∙ go (eqb p.connection c)
    where
      go : (b : Bool) → total w (cond b (p ∷ of c ps) (of c ps)) ≡ cond b (w p) 0 + total w (of c ps)
      go true = refl
      go false = omega arith

-- ---- the pass: before row i it has counted n packets of connection c and `units` of its units

pub record Pass (l : Framing) (t : ℕ) (places : List ℕ) (c i n units : ℕ) : Type 0 where
  pub few : n ≤ i
  pub light : units ≤ 2112 * i
  pub counts : n + length (of c (drop i (rows places))) ≡ length (of c (rows places))
  pub weighs : units + used l t c (drop i (rows places)) ≡ used l t c (rows places)

module _ (l : Framing) (t : ℕ) (places : List ℕ) (c : ℕ) where
  module _ (K : Measured l places) (i : ℕ) (h : i < length (rows places)) (p : Packet) (is : p ≡ row_at places i) where
    pub units_le : (m : ℕ) → m ≡ cond (eqb p.connection c) (newly l t p) 0 → m ≤ 2112
    units_le m u = omega (arith, u, go (eqb p.connection c))
      where
        go : (b : Bool) → cond b (newly l t p) 0 ≤ 2112
        go true = omega (arith, newly_most l t p, cost_here places i h l K is)
        go false = omega arith

    next : drop i (rows places) ≡ p ∷ drop (i + 1) (rows places)
    next = rows_from places i h ∙ (λ j. sym is j ∷ drop (sym (add-one i) j) (rows places))

    pub pass_more : (n units one m : ℕ) → one ≡ cond (eqb p.connection c) 1 0 → m ≡ cond (eqb p.connection c) (newly l t p) 0
        → Pass l t places c i n units → Pass l t places c (i + 1) (n + one) (units + m)
    pass_more n units one m o u P = record {
      few = omega (arith, P.few, o, bit_le p.connection c);
      light = omega (arith, P.light, units_le m u);
      counts = omega (arith, P.counts, o, one_more c _ p _ next);
      weighs = omega (arith, P.weighs, u, weighs_more (newly l t) c _ p _ next);
    }
