-- A tick keeps the invariant.
use Prim.Native.Nat.{ℕ, ◌+◌, ◌≤◌, ◌<◌}
use native.Mathlib.Omega.{arith}
use native.Mathlib.Nat.{eq-zero-or-pos}
use mathlib.Core.Path.{◌≡◌, refl, sym, ap, ◌∙◌, subst}
use mathlib.Core.Bool.{true, false, not}
use mathlib.Core.Logic.{◌⊎◌, inl, inr, ⊎_elim}
use mathlib.Core.List.{List, [], ◌∷◌, ◌++◌, map, append_assoc}
use mathlib.Core.Option.{none, some}
use lib.Dec.{eqb}
use lib.ListN.{length}
use borrow.Author.Tests.{ne_eqb}
use Rattle.rules.specs.declared.Packet.{Packet}
use Rattle.rules.specs.declared.Notice.{Notice}
use Rattle.rules.specs.Words.{All, push, total}
use Rattle.rules.specs.Limits.{notice_number}
use Rattle.rules.specs.Model.{notice_packet}
use Rattle.rules.specs.Service.{of, first, without, Wire, free_line, sends, Sent, sent}
use Rattle.rules.specs.SoundLine.{wire_left, PacketOn}
use Rattle.rules.specs.Runs.{Departure}
use Rattle.rules.proofs.Lists.{all_map, all_zip, all_snoc, all_sub, Sub, total_le, total_eq, total_none, total_sub, filter_snoc_off}
use Rattle.rules.proofs.Sums.{split, sum_le, upto_le}
use Rattle.rules.proofs.Rows.{first_all, first_of, first_append, moved, map_append}
use Rattle.rules.proofs.Notices.{first_none, without_append, first_behind, without_behind}
use Rattle.rules.proofs.Invariant.{whats}
use Rattle.frames.specs.Model.{wire, figures, with_wire}
use Rattle.frames.specs.Service.{next_frame, newly, used}
use Rattle.frames.specs.SoundState.{Dated, SoundWithLink, Sound}
use Rattle.frames.proofs.FrameLaws.{leaves_by_is, next_after, ends_this_frame, step}
use Rattle.frames.proofs.RowLaws.{filter_snoc_on, total_sorted}
use Rattle.rules.proofs.WireLaws.{Picks, RowFits, packet_number, sent_cases, sent_sound, left_after, carried, begun_work, sent_work}
use Rattle.frames.proofs.Figures.{newly_yes, sum_is}
use Rattle.frames.proofs.SoundTick.{facts, below, rows_sized, picks, ready, ready_sound, ready_in_turn, heads_first}
use Rattle.frames.proofs.Invariant.{due, demand, frame_end, LevelOnTime, Invariant, due_yes, due_no, none_due, carried_le, carried_eq}
use Rattle.frames.proofs.Names.{all_units, History, leaving, in_hub, of_connections}
use Rattle.frames.proofs.Names.{chosen}

module _ (h : History) (I : Invariant h) (S : SoundWithLink h.now) where
  open h use {now as s, accepted as all, departed as gone}

  abbrev T : ℕ
  T = s.link.frame

  abbrev q : ℕ
  q = s.link.silence

  abbrev t : ℕ
  t = s.clock

  abbrev d : Packet → ℕ
  d = due s.link s.clock

  -- what a tick leaves
  abbrev x : Sent
  x = sends s.link.silence sent (ready s S) (ready s S).to_go

  abbrev w' : Wire
  w' = x.wire

  pos : 0 < T
  pos = (facts s S).some_frame

  part : Sub w'.held s.held
  part = (sent_sound (λ _. false) s.link.largest q t (ready s S) (ready_sound s S) (rows_sized s S)).1

  -- a row that is not eligible yet is so at the end of this frame
  at_end : All (λ p. t < p.eligibility → p.eligibility ≡ frame_end s) s.held
  at_end = all_map one s.held S.dated
    where
      one : (p : Packet) → Dated T t p → t < p.eligibility → p.eligibility ≡ next_frame T t
      one p f l = f.next_start ∙ ends_this_frame T pos p.arrival t f.arrived (omega (arith, f.next_start))

  abbrev d' : Packet → ℕ
  d' = due s.link (s.clock + 1)

  abbrev WorkLater : Type 0
  WorkLater = 0 < total d' w'.held → total d' w'.held + wire_left q w' + (t + 1) + 1 ≤ next_frame T (t + 1) + carried d' w'

  abbrev RecentLater : Type 0
  RecentLater = All (λ p. next_frame T (t + 1) ≤ p.eligibility + T) w'.held

  abbrev InFrame : Type 0
  InFrame = (t + 1 < next_frame T t) × (next_frame T (t + 1) ≡ next_frame T t)

  abbrev IntoNext : Type 0
  IntoNext = (t + 1 ≡ next_frame T t) × (next_frame T (t + 1) ≡ next_frame T t + T)

  still_recent : InFrame → RecentLater
  still_recent k = all_sub (λ p. next_frame T (t + 1) ≤ p.eligibility + T) part (all_map (λ p r. omega (arith, k.1)) s.held I.recent)

  -- ---- nothing was eligible: the rest of the frame is the notices'

  module _ (none_was : All (λ p. t < p.eligibility) s.held) where
    all_at_end : All (λ p. p.eligibility ≡ next_frame T t) w'.held
    all_at_end = all_sub (λ p. p.eligibility ≡ next_frame T t) part (all_zip (λ p f l. f l) s.held at_end none_was)

    quiet_in_frame : InFrame → RecentLater × WorkLater
    quiet_in_frame k = (
      still_recent k,
      λ more. absurd (omega (arith, total_none d' w'.held (all_map (λ p e. due_no s.link (t + 1) p (omega (arith, k.0))) w'.held all_at_end))),
    )

    -- .. and at its end all rows become eligible: their cost is what the connections have used, at most all r
    new_work : total d' w'.held ≤ all_units s.connections
    new_work =
        omega (
          arith,
          total_sub d' part,
          total_le d' (newly s.link t) s.held (all_map (λ p l. omega (arith, newly_yes s.link t p l, upto_le p.eligibility (t + 1) (p.len + q))) s.held none_was),
          total_sorted (newly s.link t) (length s.connections) s.held (below s S),
          sum_le (length s.connections) {f = λ c. used s.link t c s.held} {g = λ c. (figures s c).units} (λ c l. S.use_le c l),
        )

    quiet_into_next : IntoNext → RecentLater × WorkLater
    quiet_into_next k = (
      all_map (λ p e. omega (arith, k.1)) w'.held all_at_end,
      λ more.
          omega (
            arith,
            k.0,
            k.1,
            new_work,
            left_after (λ _. false) s.link.largest q t (ready s S) (ready_sound s S) (rows_sized s S) (facts s S).some_largest,
            S.units_le,
            sum_is s.link s.connections,
          ),
    )

  -- ---- something is eligible: the tick lemma

  module _ (some_due : 0 < demand s) where
    full : (p : Packet) → chosen s ≡ some p → d p ≡ p.len + q
    full p e = due_yes s.link t p (subst (Picks t s.held) e (picks s S)).0

    picked : chosen s ≡ none → ⊥
    picked e = omega (arith, total_none d s.held (all_map (λ p l. due_no s.link t p l) s.held (subst (Picks t s.held) e (picks s S))))

    sized : (p : Packet) → chosen s ≡ some p → (first p.connection s.held ≡ some p) × (1 ≤ p.len)
    sized p e =
        let k : (p.eligibility ≤ t) × (first p.connection s.held ≡ some p) = subst (Picks t s.held) e (picks s S) in
        (k.1, (first_all p.connection (RowFits s.link.largest) s.held p k.1 (rows_sized s S)).1)

    one_less : total d w'.held + wire_left q w' + (t + 1) + 1 ≤ frame_end s + carried d w'
    one_less =
        let a = begun_work (λ _. false) s.link.largest q t d (wire s) (chosen s) none full picked sized in
        omega (arith, a.1, sent_work (λ _. false) s.link.largest q t d (ready s S) (ready_sound s S) (rows_sized s S) a.0, I.work some_due)

    -- so there is a tick to spare: the frame does not end
    busy_in_frame : InFrame
    busy_in_frame = ⊎_elim (λ k. k) (λ k. absurd (omega (arith, k.0, one_less, carried_le d w'))) (step T pos t)

    -- and no row becomes eligible
    same_due : All (λ p. d' p ≡ d p) w'.held
    same_due = all_sub (λ p. d' p ≡ d p) part (all_map one s.held at_end)
      where
        one : (p : Packet) → (t < p.eligibility → p.eligibility ≡ frame_end s) → d' p ≡ d p
        one p f = go (split p.eligibility t)
          where
            go : (p.eligibility ≤ t) ⊎ (t < p.eligibility) → d' p ≡ d p
            go (inl k) = omega (arith, due_yes s.link t p k, due_yes s.link (t + 1) p (omega arith))
            go (inr k) = omega (arith, due_no s.link t p k, due_no s.link (t + 1) p (omega (arith, f k, busy_in_frame.0)))

    busy_later : RecentLater × WorkLater
    busy_later = (
      still_recent busy_in_frame,
      λ more. omega (arith, one_less, busy_in_frame.1, total_eq d' d w'.held same_due, carried_eq d' d w' same_due),
    )

  time_later : RecentLater × WorkLater
  time_later =
      ⊎_elim
      (λ z.
      let n = none_due s.link t s.link.largest s.held (rows_sized s S) z in
      ⊎_elim (quiet_in_frame n) (quiet_into_next n) (step T pos t))
      busy_later
      (eq-zero-or-pos (demand s))

  -- ---- what departs

  abbrev left : Packet → Departure
  left p = record { what = p; finish = t + 1 }

  -- what departs moves from what waits to what has gone
  goes : (c w : ℕ) (p : Packet) → first w (in_hub s) ≡ some p → of c all ≡ of c (whats (gone ++ left p ∷ [])) ++ of c (without w (in_hub s))
  goes c w p e =
      I.conserved c
      ∙ moved c w (whats gone) (in_hub s) p e
      ∙ ap (λ (l : List Packet). of c l ++ of c (without w (in_hub s))) (sym (map_append (λ (d : Departure). d.what) gone (left p ∷ [])))

  abbrev Gone : Sent → Type 0
  Gone y =
      ((c : ℕ) → of c all ≡ of c (whats (push gone (leaving s y.departed))) ++ of c (y.wire.held ++ map notice_packet y.wire.notices))
      × All (LevelOnTime T (t + 1)) (push gone (leaving s y.departed))
      × (of_connections all ≡ of_connections (whats (push gone (leaving s y.departed))) ++ y.wire.held)

  later_on_time : All (LevelOnTime T (t + 1)) gone
  later_on_time =
      all_map (λ d k n. record { next_start = (k n).next_start; not_early = (k n).not_early; in_time = (k n).in_time; past = omega (arith, (k n).past) }) gone I.on_time

  -- a packet of a connection that departs is the first row of all
  packet_offered : (r : PacketOn (λ _. false) t (ready s S)) → of_connections all ≡ of_connections (whats (gone ++ left r.it ∷ [])) ++ without (ready s S).serving s.held
  packet_offered r =
      let c₀ = (ready s S).serving in
      let away = packet_number (λ _. false) s.link.largest q t (ready s S) (ready_sound s S) (rows_sized s S) r in
      let own : not (eqb r.it.connection notice_number) ≡ true
      = ap not (ne_eqb r.it.connection notice_number (λ e. away (sym (first_of c₀ s.held r.it r.is_first) ∙ e))) in
      I.offered
      ∙ ap (λ (l : List Packet). of_connections (whats gone) ++ l) (heads_first c₀ s.held r.it (ready_in_turn s S r.some_to_go away) r.is_first)
      ∙ sym (append_assoc (of_connections (whats gone)) (r.it ∷ []) (without c₀ s.held))
      ∙ ap (λ (l : List Packet). l ++ without c₀ s.held)
      (sym (filter_snoc_on (λ p. not (eqb p.connection notice_number)) (whats gone) r.it own)
      ∙ ap of_connections (sym (map_append (λ (d : Departure). d.what) gone (left r.it ∷ []))))

  notice_offered : (n : Notice) → of_connections all ≡ of_connections (whats (gone ++ left (notice_packet n) ∷ [])) ++ s.held
  notice_offered n =
      I.offered
      ∙ ap (λ (l : List Packet). l ++ s.held)
      (sym (filter_snoc_off (λ p. not (eqb p.connection notice_number)) (whats gone) (notice_packet n) refl)
      ∙ ap of_connections (sym (map_append (λ (d : Departure). d.what) gone (left (notice_packet n) ∷ []))))

  packet_gone : (r : PacketOn (λ _. false) t (ready s S)) → Gone (record { departed = some r.it; wire = free_line (without (ready s S).serving s.held) s.notices q })
  packet_gone r =
      let c₀ = (ready s S).serving in (
        λ c.
            goes c c₀ r.it (first_append c₀ s.held (map notice_packet s.notices) r.it r.is_first)
            ∙ ap (λ (l : List Packet). of c (whats (gone ++ left r.it ∷ [])) ++ of c l) (without_append c₀ s.held (map notice_packet s.notices) r.it r.is_first),
        all_snoc (LevelOnTime T (t + 1)) gone (left r.it) later_on_time (λ _.
            let f : Dated T t r.it = first_all c₀ (Dated T t) s.held r.it r.is_first S.dated in
            let k : frame_end s ≤ r.it.eligibility + T = first_all c₀ (λ p. frame_end s ≤ p.eligibility + T) s.held r.it r.is_first I.recent in
            record {
              next_start = f.next_start;
              not_early = omega (arith, r.eligible refl);
              in_time = omega (arith, leaves_by_is T r.it.arrival, f.next_start, next_after T pos t);
              past = omega arith;
            }),
        packet_offered r,
      )

  notice_gone : (n : Notice) (ns : List Notice) → s.notices ≡ n ∷ ns → Gone (record { departed = some (notice_packet n); wire = free_line s.held ns q })
  notice_gone n ns e = (first_goes, all_snoc (LevelOnTime T (t + 1)) gone (left (notice_packet n)) later_on_time (λ away. absurd (away refl)), notice_offered n)
    where
      alone : first notice_number s.held ≡ none
      alone = first_none notice_number s.held (all_map (λ p f. f.0) s.held (rows_sized s S))

      here : first notice_number (in_hub s) ≡ some (notice_packet n)
      here = first_behind notice_number s.held (map notice_packet s.notices) alone ∙ ap (λ (l : List Notice). first notice_number (map notice_packet l)) e

      first_goes : (c : ℕ) → of c all ≡ of c (whats (gone ++ left (notice_packet n) ∷ [])) ++ of c (s.held ++ map notice_packet ns)
      first_goes c =
          goes c notice_number (notice_packet n) here
          ∙ ap (λ (l : List Packet). of c (whats (gone ++ left (notice_packet n) ∷ [])) ++ of c l)
          (without_behind notice_number s.held (map notice_packet s.notices) alone
          ∙ ap (λ (l : List Notice). s.held ++ without notice_number (map notice_packet l)) e)

  all_gone : Gone x
  all_gone =
      sent_cases (λ _. false) s.link.largest q t (ready s S) (ready_sound s S) (rows_sized s S) sent Gone
      (λ e. (I.conserved, later_on_time, I.offered))
      (λ r e. packet_gone r)
      (λ r ns i e. notice_gone r.it ns i)
      (λ u e k. (I.conserved, later_on_time, I.offered))

  pub ticked_keeps : Sound (with_wire s (t + 1) w') → Invariant (record { accepted = all; departed = push gone (leaving s x.departed); now = with_wire s (t + 1) w' })
  ticked_keeps sound_then = record { sound = sound_then; recent = time_later.0; work = time_later.1; conserved = all_gone.0; offered = all_gone.2; on_time = all_gone.1 }
