-- A tick keeps the invariant.
use Prim.Native.Nat.{ℕ, suc, ◌+◌, ◌-◌, ◌≤◌, ◌<◌}
use native.Mathlib.Omega.{arith}
use native.Mathlib.Nat.{eq-zero-or-pos, le_refl}
use mathlib.Core.Path.{◌≡◌, refl, sym, ap, ◌∙◌, subst}
use mathlib.Core.Logic.{◌⊎◌, inl, inr, ⊎_elim}
use mathlib.Core.List.{List, [], ◌∷◌, ◌++◌, map}
use mathlib.Core.Option.{Option, none, some}
use Rattle.rules.specs.Words.{push}
use Rattle.rules.specs.Limits.{notice_number}
use Rattle.rules.specs.Model.{Packet, Notice, State, Answer, notice_packet}
use Rattle.rules.specs.Admission.{cost}
use Rattle.rules.specs.Service.{of, first, without, early_at, on_line, Sent, ticked}
use Rattle.rules.proofs.HubTick.{later, line_left}
use Rattle.rules.specs.SoundState.{Waits, Orderly}
use Rattle.rules.specs.SoundLine.{NoticeOn}
use Rattle.rules.specs.Runs.{Departure, History, in_hub, bound_of}
use Rattle.rules.proofs.RunWords.{leaving}
use Rattle.rules.proofs.Lists.{All, all_map, all_sub, Sub, sub_refl, total_sub}
use Rattle.rules.proofs.Rows.{first_all, first_append, sub_without, moved, map_append}
use Rattle.rules.proofs.Notices.{first_notice_is, first_none, without_append, first_behind, without_behind}
use Rattle.rules.proofs.Standing.{owned_below}
use Rattle.rules.proofs.WireLaws.{left_after}
use Rattle.rules.proofs.Line.{left_is, cost_is}
use Rattle.rules.proofs.SoundTick.{rows_sized, ready, ready_sound, after_tick, tick_is, tick_cases}
use Rattle.rules.proofs.Busy.{due, demand, NoticeOnLine, Line, Facts, Regular, fit_held, Busy, spare, held_spare}
use Rattle.rules.proofs.BusyTick.{wired, tick_busy, restart, advance}
use Rattle.rules.proofs.Invariant.{whats, Steady, Invariant, facts_of, some_window}

-- what departs, if anything does: a notice, or it is in time
abbrev pub InTime : State → Option Packet → Type 0
InTime s none = Unit {0}
InTime s (some p) = (p.connection ≡ notice_number) ⊎ (s.clock + 1 ≤ p.eligibility + bound_of s p.connection)

module _ (h : History) (I : Invariant h) (S : Orderly h.now) where
  open h use {now as s, accepted as all, departed as gone, present as acc}

  F : Facts s.link s.connections
  F = facts_of s I.sound

  -- no held packet bears the notices' number
  no_notices : All (λ p. p.connection ≡ notice_number → ⊥) s.held
  no_notices = all_map (λ p f e. omega (arith, S.numbers, owned_below s.connections p.connection f.owner)) s.held S.fit

  -- every held packet still has time in this tick
  in_time_still : All (λ p. s.clock + 2 ≤ p.eligibility + bound_of s p.connection) s.held
  in_time_still = held_spare s acc F I.steady.regular I.steady.line I.steady.busy I.steady.punctual

  -- ---- steps 2 and 3

  -- the packets `held`, a part of those before, the notices and the line as given, a tick later
  next : (held : List Packet) (ns : List Notice) (serving to_go silent : ℕ) (ds : List Departure)
      → Sub held s.held
      → Sub held acc
      → Line (later s held ns serving to_go silent)
      → (1 ≤ s.link.levels → line_left (later s held ns serving to_go silent) < cost s.link s.link.largest)
      → ((m x : ℕ) → 1 ≤ m → m ≤ s.link.levels → (demand s m x s.clock ≡ 0) ⊎ Busy (later s held ns serving to_go silent) acc m x s.clock)
      → ((c : ℕ) → of c all ≡ of c (whats ds) ++ of c (held ++ map notice_packet ns))
      → Steady all ds acc (later s held ns serving to_go silent)
  next held ns serving to_go silent ds sub part line below busy cons =
      let R : Regular (later s held ns serving to_go silent) acc
      = record { fit = I.steady.regular.fit; spaced = I.steady.regular.spaced; remembered = I.steady.regular.remembered; part = part } in
      record {
        regular = R;
        line = line;
        busy = λ m x low high.
            advance (later s held ns serving to_go silent) acc m x s.clock refl part
            (⊎_elim
            (λ z.
            restart (later s held ns serving to_go silent) acc m x s.clock (fit_held (later s held ns serving to_go silent) acc R)
            (omega (arith, total_sub (due s.link s.connections m x s.clock) sub))
            (below (omega arith))
            (some_window s I.sound m low high))
            (λ B. B)
            (busy m x low high));
        punctual = all_map (λ p k. omega arith) held (all_sub (λ p. s.clock + 2 ≤ p.eligibility + bound_of s p.connection) sub in_time_still);
        conserved = cons;
      }

  -- a key with something due stays busy
  tick_level : (m x : ℕ) → 1 ≤ m → m ≤ s.link.levels → (demand s m x s.clock ≡ 0) ⊎ Busy (wired s (after_tick s S).wire) acc m x s.clock
  tick_level m x low high =
      ⊎_elim (λ z. inl z)
      (λ pos.
      let B = I.steady.busy m x low high in
      inr (tick_busy s S m x pos acc B (spare s acc m x low high F I.steady.regular I.steady.line B pos)))
      (eq-zero-or-pos (demand s m x s.clock))

  -- less is left than the largest packet costs
  tick_below : 1 ≤ s.link.levels → line_left (wired s (after_tick s S).wire) < cost s.link s.link.largest
  tick_below low =
      omega (
        arith,
        left_is (wired s (after_tick s S).wire),
        cost_is s.link s.link.largest,
        left_after (early_at s) s.link.largest s.link.silence s.clock (ready s S) (ready_sound s S) (rows_sized s S) (omega (arith, F.some_largest low, cost_is s.link s.link.largest)),
      )

  -- the history a tick later, by what the tick sends off and leaves
  abbrev KeptWith : Sent → Type 0
  KeptWith x = Steady all (push gone (leaving s x.departed)) acc (wired s x.wire)

  abbrev left : Packet → Departure
  left p = record { what = p; finish = s.clock + 1 }

  -- what departs moves from what waits to what has gone
  goes : (c w : ℕ) (p : Packet) → first w (in_hub s) ≡ some p → of c all ≡ of c (whats (gone ++ left p ∷ [])) ++ of c (without w (in_hub s))
  goes c w p e =
      I.steady.conserved c
      ∙ moved c w (whats gone) (in_hub s) p e
      ∙ ap (λ (l : List Packet). of c l ++ of c (without w (in_hub s))) (sym (map_append (λ (d : Departure). d.what) gone (left p ∷ [])))

  -- the first notice departs
  first_goes : (c : ℕ) (n : Notice) (ns : List Notice) → s.notices ≡ n ∷ ns → of c all ≡ of c (whats (gone ++ left (notice_packet n) ∷ [])) ++ of c (s.held ++ map notice_packet ns)
  first_goes c n ns e =
      let a = first_none notice_number s.held no_notices in
      goes c notice_number (notice_packet n)
      (first_behind notice_number s.held (map notice_packet s.notices) a ∙ ap (λ (l : List Notice). first notice_number (map notice_packet l)) e)
      ∙ ap (λ (l : List Packet). of c (whats (gone ++ left (notice_packet n) ∷ [])) ++ of c l)
      (without_behind notice_number s.held (map notice_packet s.notices) a
      ∙ ap (λ (l : List Notice). s.held ++ without notice_number (map notice_packet l)) e)

  -- a notice that stays in service
  still_on_line : (u : ℕ) → (ready s S).to_go ≡ suc (suc u) → NoticeOn (ready s S) → NoticeOnLine (wired s (on_line (ready s S) (ready s S).serving (suc u)))
  still_on_line u e r = record {
    in_service = record { it = r.it; is_first = r.is_first; is_notice = r.is_notice; some_to_go = omega arith; to_go_le = omega (arith, r.to_go_le) };
    short =
        let n = first_notice_is s.notices r.it r.is_first in
        (subst (All (Waits s.link.largest s.clock)) n.1 S.line.notices_fit).0.len_le;
    alone = ap (λ (c : ℕ). first c s.held) r.is_notice ∙ first_none notice_number s.held no_notices;
  }

  -- given that, and which keys stay busy
  abbrev IfBusy : Sent → Type 0
  IfBusy x =
      (1 ≤ s.link.levels → line_left (wired s x.wire) < cost s.link s.link.largest)
      → ((m y : ℕ) → 1 ≤ m → m ≤ s.link.levels → (demand s m y s.clock ≡ 0) ⊎ Busy (wired s x.wire) acc m y s.clock)
      → KeptWith x

  tick_keeps : IfBusy (after_tick s S)
  tick_keeps =
      tick_cases s S IfBusy
      (λ below busy.
      next s.held s.notices 0 0 (s.silent - 1) gone (sub_refl s.held) I.steady.regular.part (inl (refl, omega (arith, S.line.silent_le))) below busy I.steady.conserved)
      (λ r below busy.
      let w = (ready s S).serving in
      next (without w s.held) s.notices 0 0 s.link.silence (gone ++ left r.it ∷ [])
      (sub_without w (sub_refl s.held)) (sub_without w I.steady.regular.part) (inl (refl, le_refl s.link.silence)) below busy
      (λ c.
      goes c w r.it (first_append w s.held (map notice_packet s.notices) r.it r.is_first)
      ∙ ap (λ (l : List Packet). of c (whats (gone ++ left r.it ∷ [])) ++ of c l) (without_append w s.held (map notice_packet s.notices) r.it r.is_first)))
      (λ n ns e below busy.
      next s.held ns 0 0 s.link.silence (gone ++ left (notice_packet n) ∷ [])
      (sub_refl s.held) I.steady.regular.part (inl (refl, le_refl s.link.silence)) below busy (λ c. first_goes c n ns e))
      (λ u e k below busy.
      next s.held s.notices (ready s S).serving (suc u) s.silent gone (sub_refl s.held) I.steady.regular.part
      (inr
      (⊎_elim
      (λ r. inl (record { it = r.it; is_first = r.is_first; eligible = λ off. omega (arith, r.eligible off); some_to_go = omega arith; to_go_le = omega (arith, r.to_go_le) }))
      (λ r. inr (still_on_line u e r))
      k))
      below busy I.steady.conserved)

  pub ticked_keeps : Steady all (push gone (leaving s (ticked s).departed)) acc (ticked s).next
  ticked_keeps = subst (λ (a : Answer). Steady all (push gone (leaving s a.departed)) acc a.next) (sym (tick_is s S)) (tick_keeps tick_below tick_level)

  -- what departs is a notice, or in time

  pub ticked_in_time : InTime s (ticked s).departed
  ticked_in_time =
      subst (λ (a : Answer). InTime s a.departed) (sym (tick_is s S))
      (tick_cases s S (λ x. InTime s x.departed) tt
      (λ r.
      inr (omega (arith, first_all (ready s S).serving (λ p. s.clock + 2 ≤ p.eligibility + bound_of s p.connection) s.held r.it r.is_first in_time_still)))
      (λ n ns e. inl refl)
      (λ u e k. tt))
