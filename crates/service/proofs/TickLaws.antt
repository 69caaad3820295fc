-- Laws of the three steps of a tick, between the hub with its places table and the state that they stand for. Those of the line stand in `line`.
use Prim.Native.Nat.{ℕ, ◌<◌}
use native.Mathlib.Omega.{arith}
use mathlib.Core.Path.{◌≡◌, refl, sym, ap, ◌∙◌, subst}
use mathlib.Core.Bool.{Bool, true}
use mathlib.Core.List.{List, [], ◌∷◌, map}
use mathlib.Core.Option.{Option, none, some}
use lib.Dec.{leb}
use lib.ListN.{length}
use Rattle.rules.specs.declared.Packet.{Packet}
use Rattle.rules.specs.Words.{All}
use Rattle.rules.specs.Limits.{notice_number}
use Rattle.rules.specs.Model.{Answer}
use Rattle.rules.specs.Service.{goes_first, better, choice, first_early, takes, Wire as Line, begun, sends, sent, wire, moves_on, ticked}
use Rattle.rules.proofs.HubTick.{started_state}
use Rattle.rules.proofs.Sums.{cond_ind}
use Rattle.rules.proofs.WireLaws.{told_by}
use Rattle.tables.specs.Places.{rows}
use Rattle.tables.specs.Notices.{notice_of, notices_in}
use Rattle.line.specs.declared.Wire.{Wire}
use Rattle.tables.specs.Options.{option_in, option_of}
use Rattle.std.specs.Prelude as code
use Rattle.tables.proofs.OptionLaws.{read_back}
use Rattle.line.specs.Told.{passed_on}
use Rattle.line.specs.declared.Sent.{Sent}
use Rattle.line.specs.Wires.{line_in, wire_of, takes_up, idle, Leaves, InPlace}
use Rattle.line.proofs.LineLaws.{takes_next, Held, here, behind, in_place_then}
use Rattle.state.specs.View.{Hub, tables, view}
use Rattle.state.specs.Told.{Told}
use Rattle.service.specs.Candidates.{level_in, early_in, StandsIn}
use Rattle.service.specs.Gives.{begun_wire, Gives}
use Rattle.service.specs.Ready.{Ready}

-- ---- step 1: what stands by, where the line would take it

module _ (c : code.Option Packet) (q : List ℕ) (o : Option Packet) (d : code.Option Packet) where
  -- a packet is chosen
  pub behind_chosen : (p : Packet) → c ≡ code.Some p → StandsIn c q o d
  behind_chosen p f =
      subst
      (λ (x : code.Option Packet). ◌≡◌ {A = ℕ × ℕ} (takes (option_in x) (notices_in q) (option_in d)) (takes (option_in x) (notices_in q) o))
      (sym f) refl

  -- a notice waits
  pub behind_notice : 0 < length (rows q) → StandsIn c q o d
  behind_notice l = go (option_in c) (rows q) l
    where
      go : (x : Option Packet) (ps : List Packet) → 0 < length ps → ◌≡◌ {A = ℕ × ℕ} (takes x (map notice_of ps) (option_in d)) (takes x (map notice_of ps) o)
      go (some p) ps k = refl
      go none [] k = absurd (omega arith)
      go none (p ∷ ps) k = refl

  -- else it is looked for
  pub looked_for : d ≡ option_of o → StandsIn c q o d
  looked_for e = ap (λ (x : Option Packet). takes (option_in c) (notices_in q) x) (read_back o d e)

-- what an idle line begins with them
pub begins_with : (h : Hub) (cs t q : List ℕ) (c d : code.Option Packet) (v : Wire) → idle h.wire ≡ true → c ≡ option_of (choice (level_in cs) h.clock (rows t))
    → StandsIn c q (first_early (early_in h.link cs) (rows t)) d → v ≡ wire_of (begun (option_in c) (option_in d) (line_in h.wire t q))
    → v ≡ begun_wire (view h (tables cs t q))
begins_with h cs t q c d v i e s k =
    let o = choice (level_in cs) h.clock (rows t) in
    let b = first_early (early_in h.link cs) (rows t) in
    k ∙ sym (takes_next h.wire (option_in c) (option_in d) t q i)
    ∙ ap takes_up (s ∙ ap (λ (x : Option Packet). takes x (notices_in q) b) (read_back o c e))
    ∙ takes_next h.wire o b t q i

-- ---- what the next steps need is there after step 1

module _ (level : ℕ → ℕ) (t : ℕ) where
  choice_held : (ps : List Packet) → All (λ p. p.connection ≡ notice_number → ⊥) ps → Held ps (choice level t ps)
  choice_held [] a = tt
  choice_held (q ∷ ps) a =
      cond_ind (Held (q ∷ ps)) (leb q.eligibility t) {x = better level q (choice level t ps)} {y = choice level t ps}
      (λ _. taken (choice level t ps) (choice_held ps a.1))
      (λ _. behind q ps (choice level t ps) (choice_held ps a.1))
    where
      taken : (o : Option Packet) → Held ps o → Held (q ∷ ps) (better level q o)
      taken none k = here q ps a.0
      taken (some p) k = cond_ind (Held (q ∷ ps)) (goes_first level q p) {x = some q} {y = some p} (λ _. here q ps a.0) (λ _. behind q ps (some p) k)

early_held : (may : ℕ → Bool) (ps : List Packet) → All (λ p. p.connection ≡ notice_number → ⊥) ps → Held ps (first_early may ps)
early_held may [] a = tt
early_held may (q ∷ ps) a =
    cond_ind (Held (q ∷ ps)) (may q.connection) {x = some q} {y = first_early may ps} (λ _. here q ps a.0) (λ _. behind q ps (first_early may ps) (early_held may ps a.1))

pub ready_then : (h : Hub) (cs t q : List ℕ) → Ready h t q → (v : Wire) → v ≡ begun_wire (view h (tables cs t q)) → InPlace v t q
ready_then h cs t q r v e =
    let o = choice (level_in cs) h.clock (rows t) in
    let b = first_early (early_in h.link cs) (rows t) in
    in_place_then h.wire o b t q r.in_place (choice_held (level_in cs) h.clock (rows t) r.others) (early_held (early_in h.link cs) (rows t) r.others) v e

-- ---- a whole tick

-- what the line gives, with the clock moved on
gives : (h : Hub) (cs t q : List ℕ) (o : Option Packet) (l : Line) (x : Sent) (s n : List ℕ) → Leaves (sent o l) x s n → Gives (moves_on (started_state (view h (tables cs t q))) o l) (passed_on h x) s n
gives h cs t q o l x s n k = (ap (λ (y : Sent). passed_on h y) k.0, k.1, k.2)

pub ticks : (h : Hub) (cs t q : List ℕ) (v : Wire) (x : Sent) (r : Told) (s n : List ℕ) → v ≡ begun_wire (view h (tables cs t q))
    → Leaves (sends h.link.silence sent (line_in v t q) v.to_go) x s n → r ≡ passed_on h x → Gives (ticked (view h (tables cs t q))) r s n
ticks h cs t q v x r s n e k i =
    let g = started_state (view h (tables cs t q)) in
    let a = sends h.link.silence sent (wire g) g.to_go in
    let l : Leaves a x s n = subst (λ (w : Wire). Leaves (sends h.link.silence sent (line_in w t q) w.to_go) x s n) e k in
    subst (λ (d : Told). Gives (ticked (view h (tables cs t q))) d s n) (sym i)
    (subst (λ (y : Answer). Gives y (passed_on h x) s n) (sym (told_by h.link.silence (moves_on g) (wire g) g.to_go)) (gives h cs t q a.departed a.wire x s n l))
