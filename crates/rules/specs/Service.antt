-- When a packet may go, which goes next, and one tick of the line. Document 01, "Eligibility" and "One tick"; document 02, R-1, R-4, R-6, R-8, R-9, R-11 and R-13.
use Rattle.std.specs.Prelude.{ℕ, zero, suc, ◌+◌, ◌-◌, ◌≤◌, ◌<◌, max, ◌≡◌, Bool, true, false, cond, not, ◌&&◌, ◌||◌, ◌⊎◌, List, [], ◌∷◌, map, leb, ltb, eqb, take}
use Rattle.std.proofs.Math.Option.{Option, none, some}
use Rattle.std.proofs.Math.ListN.{get_elem?}
use Rattle.rules.specs.Words.{tabulate, All}
use Rattle.rules.specs.Limits.{max_connections, notice_number, max_remembered}
use Rattle.rules.specs.Model.{Connection, Past, Packet, Notice, State, Answer, done_with, no_connection, no_past, past, figures, closed_at, notice_packet, with_connections, with_closed, with_clock, with_held, with_notices, with_line}
use Rattle.rules.specs.Admission.{burst, charge_time, stamped, goes_early}

-- ---- "Eligibility"

-- behind the eligibilities in h, newest first: that of the packet that came n before, n from 1
abbrev pub nth_before : ℕ → Past → Option ℕ
nth_before zero h = none
nth_before (suc n) h = get_elem? h n

-- x ticks after that one; 0 where there is none
abbrev pub ticks_after : ℕ → Option ℕ → ℕ
ticks_after x none = 0
ticks_after x (some e) = e + x

-- the earliest tick that both rules allow behind those in h: X after the packet before and I after the n-th before (document 02, R-6)
unfoldable pub earliest : Connection → Past → ℕ
earliest c h = max (ticks_after c.gap (nth_before 1 h)) (ticks_after c.window (nth_before (burst c) h))

-- a packet is eligible on arrival, or at the earliest tick that the rules allow where that is later
unfoldable pub next_eligibility : Connection → Past → ℕ → ℕ
next_eligibility c h now = max now (earliest c h)

-- an offer suits a connection's kind: it brings a stamp exactly where the connection is of the second kind (document 02, R-9)
abbrev pub suits : Connection → Option ℕ → Bool
suits c none = not (stamped c)
suits c (some stamp) = stamped c

-- the eligibility of an offer: "that stamp plus a", where it brings one
abbrev pub eligibility_by : Connection → Past → ℕ → Option ℕ → ℕ
eligibility_by c h now none = next_eligibility c h now
eligibility_by c h now (some stamp) = stamp + c.allowance

-- "verdict 17: the stamp is later than the present tick, the sum is before the present tick, or it is less than X after the last eligibility", which a first
-- packet does not have
unfoldable pub untimely : Connection → Past → ℕ → ℕ → Bool
untimely c h now stamp = ltb now stamp || (ltb (stamp + c.allowance) now || ltb (stamp + c.allowance) (ticks_after c.gap (nth_before 1 h)))

-- .. of an offer without a stamp there is nothing to ask
abbrev pub untimely_by : Connection → Past → ℕ → Option ℕ → Bool
untimely_by c h now none = false
untimely_by c h now (some stamp) = untimely c h now stamp

-- what is remembered once a packet with the eligibility e is accepted
unfoldable pub remember : Past → ℕ → Past
remember h e = take max_remembered (e ∷ h)

-- .. and once these are, in order
abbrev pub remember_all : Past → List ℕ → Past
remember_all h [] = h
remember_all h (e ∷ es) = remember_all (remember h e) es

-- the spacing that this gives a connection's eligibilities, in order: none is earlier than the rules allow behind all those before it. h: those that
-- came before the first, newest first
abbrev pub SpacedBehind : Connection → List ℕ → List ℕ → Type 0
SpacedBehind c h [] = Unit {0}
SpacedBehind c h (e ∷ es) = (earliest c h ≤ e) × SpacedBehind c (e ∷ h) es

unfoldable pub Spaced : Connection → List ℕ → Type 0
Spaced c es = SpacedBehind c [] es

-- ---- packets by connection

-- the packets of connection c, in order
abbrev pub of : ℕ → List Packet → List Packet
of c [] = []
of c (p ∷ ps) = cond (eqb p.connection c) (p ∷ of c ps) (of c ps)

-- their eligibilities
abbrev pub eligibilities : ℕ → List Packet → List ℕ
eligibilities c ps = map (λ p. p.eligibility) (of c ps)

-- the first of them
abbrev pub first : ℕ → List Packet → Option Packet
first c [] = none
first c (p ∷ ps) = cond (eqb p.connection c) (some p) (first c ps)

-- the packets with that one removed: the later rows move up
abbrev pub without : ℕ → List Packet → List Packet
without c [] = []
without c (p ∷ ps) = cond (eqb p.connection c) ps (p ∷ without c ps)

-- ---- "One tick", step 1: the choice

-- of p, offered earlier, and q: p goes first at a lower level number, or at the same with an eligibility no later
abbrev pub goes_first : (ℕ → ℕ) → Packet → Packet → Bool
goes_first level p q =
    ltb (level p.connection) (level q.connection)
    || (eqb (level p.connection) (level q.connection) && leb p.eligibility q.eligibility)

abbrev pub better : (ℕ → ℕ) → Packet → Option Packet → Option Packet
better level p none = some p
better level p (some q) = cond (goes_first level p q) (some p) (some q)

-- among the packets with eligibility at most t: lowest level number, then earliest eligibility, then earliest offered
abbrev pub choice : (ℕ → ℕ) → ℕ → List Packet → Option Packet
choice level t [] = none
choice level t (p ∷ ps) = cond (leb p.eligibility t) (better level p (choice level t ps)) (choice level t ps)

abbrev pub chosen : State → Option Packet
chosen s = choice (λ c. (figures s c).level) s.clock s.held

-- the packet that stands by: "the first offered held packet of the gap-regulated connections", where the queue is on (document 02, R-11)
abbrev pub first_early : (ℕ → Bool) → List Packet → Option Packet
first_early may [] = none
first_early may (p ∷ ps) = cond (may p.connection) (some p) (first_early may ps)

-- whether number c's packets may go early
abbrev pub early_at : State → ℕ → Bool
early_at s c = goes_early s.link (figures s c)

abbrev pub stand_by : State → Option Packet
stand_by s = first_early (early_at s) s.held

-- ---- the line and what waits for it, whatever the discipline: what is next, and what is made of a tick, is left open (document 02, R-13)

-- `held` and `notices` in the order offered; the packet in service is the first held one of connection `serving`, or the first notice where that is their number; `to_go`
-- its units to go, 0 while nothing is in service; `silent` the silence still to run, in ticks
pub record Wire : Type 0 where
  pub held : List Packet
  pub notices : List Notice
  pub serving : ℕ
  pub to_go : ℕ
  pub silent : ℕ

-- with something in service, and with nothing
abbrev pub on_line : Wire → ℕ → ℕ → Wire
on_line w serving to_go = record { held = w.held; notices = w.notices; serving = serving; to_go = to_go; silent = w.silent }

abbrev pub free_line : List Packet → List Notice → ℕ → Wire
free_line held notices silent = record { held = held; notices = notices; serving = 0; to_go = 0; silent = silent }

-- the line takes a packet whole: the chosen one; where no held one is eligible the first notice, "in the order offered"; where none waits the packet that stands
-- by (document 02, R-11); where there is none it stays idle
abbrev pub takes : Option Packet → List Notice → Option Packet → ℕ × ℕ
takes (some p) ns o = (p.connection, p.len)
takes none (n ∷ ns) o = (notice_number, n.len)
takes none [] (some p) = (p.connection, p.len)
takes none [] none = (0, 0)

-- "One tick", 1. an idle line takes what is next, o chosen and b standing by; nothing interrupts what is in service, and nothing starts before the silence has run.
-- Given the units to go and the silence: the line then
abbrev pub begins : Option Packet → Option Packet → Wire → ℕ → ℕ → ℕ × ℕ
begins o b w zero zero = takes o w.notices b
begins o b w zero (suc q) = (w.serving, 0)
begins o b w (suc u) q = (w.serving, suc u)

abbrev pub begun : Option Packet → Option Packet → Wire → Wire
begun o b w = let l = begins o b w w.to_go w.silent in on_line w l.0 l.1

-- 2. a unit of what is in service goes; with its last unit it departs, its row is removed, and the link's silence q is still to run. Where nothing is in
-- service a tick of the silence runs, if one is left. `tell`: what is made of it, given the packet that departs, if one does, and the line then
module _ {A : Type 0} (q : ℕ) (tell : Option Packet → Wire → A) where
  abbrev pub packet_leaves : Wire → A
  packet_leaves w = tell (first w.serving w.held) (free_line (without w.serving w.held) w.notices q)

  abbrev pub notice_leaves : Wire → List Notice → A
  notice_leaves w [] = tell none (free_line w.held [] q)
  notice_leaves w (n ∷ ns) = tell (some (notice_packet n)) (free_line w.held ns q)

  abbrev pub sends : Wire → ℕ → A
  sends w zero = tell none (free_line w.held w.notices (w.silent - 1))
  sends w (suc zero) = cond (eqb w.serving notice_number) (notice_leaves w w.notices) (packet_leaves w)
  sends w (suc (suc u)) = tell none (on_line w w.serving (suc u))

  -- both
  abbrev pub wire_tick : Option Packet → Option Packet → Wire → A
  wire_tick o b w = sends (begun o b w) (begun o b w).to_go

-- the line is quiet at the tick t, with b standing by: more than a unit is to go; or a silence runs; or nothing is in service, no notice waits, no held packet is
-- eligible and none stands by
abbrev pub QuietWire : ℕ → Option Packet → Wire → Type 0
QuietWire t b w =
    (2 ≤ w.to_go)
    ⊎ (((w.to_go ≡ 0) × (1 ≤ w.silent))
    ⊎ ((w.to_go ≡ 0) × (w.silent ≡ 0) × (w.notices ≡ []) × All (λ p. t < p.eligibility) w.held × (b ≡ none)))

-- the line k ticks on, where nothing starts and nothing departs in them: what is in service, if anything is, has k units fewer to go, and a silence k ticks
abbrev pub passed_wire : Wire → ℕ → Wire
passed_wire w k = record { held = w.held; notices = w.notices; serving = w.serving; to_go = w.to_go - k; silent = w.silent - k }

-- what step 2 gives, by itself
pub record Sent : Type 0 where
  pub departed : Option Packet
  pub wire : Wire

abbrev pub sent : Option Packet → Wire → Sent
sent o w = record { departed = o; wire = w }

-- ---- "One tick" of the hub: a tick of that line, with the hub's own choice and the packet that stands by

abbrev pub wire : State → Wire
wire s = record { held = s.held; notices = s.notices; serving = s.serving; to_go = s.to_go; silent = s.silent }

-- 1. the line once it has taken what is next, if it was idle
abbrev pub started : State → Wire
started s = begun (chosen s) (stand_by s) (wire s)

-- 3. the clock moves on; the packet that departs is told, if one does
abbrev pub moves_on : State → Option Packet → Wire → Answer
moves_on s o w =
    done_with 0 o (with_line (with_notices (with_held (with_clock s (s.clock + 1)) w.held) w.notices) w.serving w.to_go w.silent)

-- all three
abbrev pub ticked : State → Answer
ticked s = wire_tick s.link.silence (moves_on s) (chosen s) (stand_by s) (wire s)

-- ---- closed connections (document 02, R-8)

-- the charge is over: nothing was ever sent, or the clock t has reached the last eligibility plus its time (`charge_time`)
abbrev pub charge_over : ℕ → ℕ → Past → Bool
charge_over time t [] = true
charge_over time t (e ∷ h) = leb (e + time) t

-- number c is closed and its charge is over
unfoldable pub expired : State → ℕ → Bool
expired s c = closed_at s c && charge_over (charge_time s.link) s.clock (past s c)

-- every such number is freed: nothing is left of its owner, neither its figures nor its memory nor its mark
unfoldable pub cleared : {A : Type 0} → State → A → (ℕ → A) → List A
cleared s blank at = tabulate max_connections (λ c. cond (expired s c) blank (at c))

abbrev pub swept : State → State
swept s = with_closed (with_connections s (cleared s no_connection (figures s)) (cleared s no_past (past s))) (cleared s false (closed_at s))
