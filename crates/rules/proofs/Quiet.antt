-- A quiet tick: nothing starts, nothing departs and no number is freed.
use Prim.Native.Nat.{ℕ, zero, suc, ◌+◌, ◌-◌, ◌<◌}
use native.Mathlib.Omega.{arith}
use mathlib.Core.Path.{◌≡◌, refl, sym, ap, ◌∙◌}
use mathlib.Core.Bool.{Bool, true, false, cond, not}
use mathlib.Core.List.{List, [], ◌∷◌}
use mathlib.Core.Option.{none}
use lib.ListN.{length, get_or}
use borrow.Author.Tests.{ne_eqb, lt-leb}
use Rattle.rules.specs.Words.{tabulate}
use Rattle.rules.specs.Limits.{max_connections, clock_end}
use Rattle.rules.specs.Model.{Connection, Past, State, tick, no_connection, no_past, past, figures, closed_at, with_connections, with_closed, with_clock, with_line}
use Rattle.rules.specs.Admission.{charge_time}
use Rattle.rules.specs.Service.{chosen, early_at, stand_by, QuietWire, wire, charge_over, moves_on, ticked, expired, swept, cleared}
use Rattle.rules.proofs.Doings.{sweeping}
use Rattle.rules.proofs.HubTick.{tick_answer}
use Rattle.rules.specs.SoundState.{Orderly, Sound}
use Rattle.rules.specs.Calls.{verdicts, verdict, settle, answer}
use Rattle.rules.proofs.Sums.{cond_is}
use Rattle.rules.proofs.Rows.{nil_of}
use Rattle.rules.proofs.WireLaws.{quiet_tick}
use Rattle.rules.proofs.Standing.{open_unexpired, charged_unexpired}
use Rattle.rules.proofs.SoundTick.{own_line, picks}
use Rattle.rules.proofs.SoundExact.{exact}

-- the line is quiet: `QuietWire` (Service) with the packet that stands by
abbrev pub QuietLine : State → Type 0
QuietLine s = QuietWire s.clock (stand_by s) (wire s)

-- no charge ends with the tick
abbrev pub NobodyFreed : State → Type 0
NobodyFreed s = (c : ℕ) → c < max_connections → closed_at s c ≡ true → charge_over (charge_time s.link) (s.clock + 1) (past s c) ≡ false

-- the state one tick later
abbrev pub passed_by : State → State
passed_by s = with_line (with_clock s (s.clock + 1)) s.serving (s.to_go - 1) (s.silent - 1)

-- ---- where no number expires none is freed

tabulate_same : {A : Type 0} (n : ℕ) (f : ℕ → A) (xs : List A) (d : A) → length xs ≡ n → ((c : ℕ) → c < n → f c ≡ get_or xs c d) → tabulate n f ≡ xs
tabulate_same zero f xs d e h = sym (nil_of xs e)
tabulate_same (suc n) f [] d e h = absurd (omega arith)
tabulate_same (suc n) f (x ∷ xs) d e h =
    let i : f 0 ≡ x = h 0 (omega arith) in
    let r : tabulate n (λ j. f (suc j)) ≡ xs = tabulate_same n (λ j. f (suc j)) xs d (omega arith) (λ c l. h (suc c) (omega arith)) in
    cc

same_state : (s : State) (cs : List Connection) (hs : List Past) (ms : List Bool) → cs ≡ s.connections → hs ≡ s.pasts → ms ≡ s.closed
    → with_closed (with_connections s cs hs) ms ≡ s
same_state s cs hs ms e f g = rw (e, f, g) refl

pub nothing_swept : (s : State) → length s.connections ≡ max_connections → length s.pasts ≡ max_connections → length s.closed ≡ max_connections
    → ((c : ℕ) → c < max_connections → expired s c ≡ false) → swept s ≡ s
unfolding cleared
nothing_swept s a b d h =
    same_state s _ _ _
    (tabulate_same max_connections (λ c. cond (expired s c) no_connection (figures s c)) s.connections no_connection a (λ c l. cond_is no_connection (figures s c) (h c l)))
    (tabulate_same max_connections (λ c. cond (expired s c) no_past (past s c)) s.pasts no_past b (λ c l. cond_is no_past (past s c) (h c l)))
    (tabulate_same max_connections (λ c. cond (expired s c) false (closed_at s c)) s.closed false d (λ c l. cond_is false (closed_at s c) (h c l)))

-- ---- the whole tick

module _ (s : State) (S : Orderly s) where
  quiet_unit : QuietLine s → ticked s ≡ tick_answer none (passed_by s)
  quiet_unit = quiet_tick (early_at s) s.link.largest s.link.silence s.clock (wire s) (own_line s S) (chosen s) (stand_by s) (picks s S) (moves_on s)

  swept_passed : NobodyFreed s → swept (passed_by s) ≡ passed_by s
  swept_passed f = nothing_swept (passed_by s) S.numbers S.one_past_each S.one_mark_each (λ c l. go c l (closed_at s c) refl)
    where
      go : (c : ℕ) → c < max_connections → (b : Bool) → closed_at s c ≡ b → expired (passed_by s) c ≡ false
      go c l true k = charged_unexpired (passed_by s) c (f c l k)
      go c l false k = open_unexpired (passed_by s) c k

  verdict_0 : Sound s → (s.link.levels ≡ 0 → ⊥) → s.clock < clock_end → verdict tick s ≡ 0
  unfolding verdicts
  verdict_0 T n r = rw (ap not ((exact s).1 T), ne_eqb s.link.levels 0 n, lt-leb clock_end s.clock r) refl

pub quiet_passes : (s : State) → Sound s → (s.link.levels ≡ 0 → ⊥) → s.clock < clock_end → QuietLine s → NobodyFreed s → answer tick s ≡ tick_answer none (passed_by s)
quiet_passes s T n r q f =
    let S = (T.with_one n).orderly in
    ap (settle tick s) (verdict_0 s S T n r)
    ∙ ap sweeping (quiet_unit s S q)
    ∙ ap (tick_answer none) (swept_passed s S f)
