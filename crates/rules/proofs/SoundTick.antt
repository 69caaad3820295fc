-- A tick on a sound state leaves a sound one.
use Prim.Native.Nat.{ℕ, suc, ◌+◌, ◌-◌, ◌≤◌, ◌<◌}
use native.Mathlib.Omega.{arith}
use mathlib.Core.Path.{◌≡◌, refl, sym, ap, ◌∙◌, subst}
use mathlib.Core.Bool.{Bool, true, false}
use mathlib.Core.Logic.{◌⊎◌, inl, inr, ⊎_elim}
use mathlib.Core.List.{List, ◌∷◌, map}
use mathlib.Core.Option.{Option, none, some}
use lib.ListN.{length}
use Rattle.rules.specs.Limits.{clock_end, max_notices, notice_number}
use Rattle.rules.specs.Model.{Packet, Notice, State, Answer, past, figures, notice_packet, with_line}
use Rattle.rules.specs.Admission.{owned, ahead}
use Rattle.rules.specs.Service.{of, eligibilities, first, without, chosen, early_at, stand_by, Wire, on_line, free_line, begun, sends, Sent, sent, wire, moves_on, ticked}
use Rattle.rules.proofs.Doings.{level_of}
use Rattle.rules.proofs.HubTick.{later}
use Rattle.rules.specs.SoundState.{Fits, Dated, Queue, Waits, InServiceOf, Orderly}
use Rattle.rules.proofs.LineWords.{Idle, InService, Serves}
use Rattle.rules.specs.SoundLine.{PacketOn, NoticeOn, WireSound}
use Rattle.rules.proofs.Lists.{All, all_map, all_sub, Pairs, Sub, sub_refl}
use Rattle.rules.proofs.Sums.{same}
use Rattle.rules.proofs.Rows.{nil_of, first_all, first_of, sub_without, of_first, of_other, pairs_by_connection}
use Rattle.rules.proofs.WireLaws.{told_by, Picks, ByNow, RowFits, begun_sound, sent_cases}
use Rattle.rules.proofs.Standing.{owned_below}
use Rattle.rules.proofs.Figures.{ConnectionFacts, connection_facts, off_ahead}
use Rattle.rules.proofs.Line.{stands_by}
use Rattle.rules.proofs.Queue.{Regulated, regulated_of, queue_rises, queue_chained, chained_queue, chained_later, chained_tail}
use Rattle.rules.proofs.Choice.{Rising, Chosen, chosen_law}

-- a packet in service is so in another state where it may go early if it might before
pub served_on : {a b : Bool} {held : List Packet} {w u t : ℕ} → (b ≡ false → a ≡ false) → InServiceOf a held w u t → InServiceOf b held w u t
served_on f r = record { it = r.it; is_first = r.is_first; eligible = λ e. r.eligible (f e); some_to_go = r.some_to_go; to_go_le = r.to_go_le }

-- its connection has an owner
pub serving_owned : (s : State) → All (Fits s.connections) s.held → InService s → owned s.connections s.serving ≡ true
serving_owned s F r =
    subst (λ (c : ℕ). owned s.connections c ≡ true) (first_of s.serving s.held r.it r.is_first)
    (first_all s.serving (Fits s.connections) s.held r.it r.is_first F).owner

module _ (s : State) (S : Orderly s) where
  -- a packet in service bears no notice's number
  pub no_notice : (w u q : ℕ) → InService (with_line s w u q) → w ≡ notice_number → ⊥
  no_notice w u q r e =
      omega (
        arith,
        S.numbers,
        first_of w s.held r.it r.is_first,
        owned_below s.connections r.it.connection (first_all w (Fits s.connections) s.held r.it r.is_first S.fit).owner,
      )

  pub facts : (c : ℕ) → owned s.connections c ≡ true → ConnectionFacts s.link (figures s c)
  facts c l = connection_facts s.link (figures s c) (S.levels_in c l) (S.figures_in c l)

  pub regulated : (c : ℕ) → owned s.connections c ≡ true → Regulated (figures s c)
  regulated c l = regulated_of s.link (figures s c) (facts c l)

  -- each connection's rows rise, so no row overtakes one of its own connection
  pub rows_rise : Pairs Rising s.held
  rows_rise =
      pairs_by_connection (λ c. owned s.connections c ≡ true) (λ a b. a < b) s.held (all_map (λ p f. f.owner) s.held S.fit)
      (λ c l. queue_rises (figures s c) (ahead s.link (figures s c)) s.clock (past s c) (eligibilities c s.held) (facts c l).some_gap (S.queue c l))

  pub choice_holds : Chosen (level_of s) s.clock s.held (chosen s)
  choice_holds = chosen_law (level_of s) s.clock s.held rows_rise

  -- ---- the hub's line, as both disciplines have it

  pub rows_sized : All (RowFits s.link.largest) s.held
  rows_sized =
      all_map
      (λ p f. (λ e. omega (arith, S.numbers, owned_below s.connections p.connection f.owner), f.some_len, omega (arith, f.len_le, (facts p.connection f.owner).size_le)))
      s.held S.fit

  pub own_line : WireSound (early_at s) s.link.largest s.link.silence s.clock (wire s)
  own_line = S.line

  pub picks : Picks s.clock s.held (chosen s)
  picks = go (chosen s) choice_holds
    where
      go : (o : Option Packet) → Chosen (level_of s) s.clock s.held o → Picks s.clock s.held o
      go none k = k
      go (some p) k = (k.0, k.2)

  stands_ready : ByNow (early_at s) s.held (stand_by s)
  stands_ready = go (stand_by s) refl
    where
      go : (b : Option Packet) → stand_by s ≡ b → ByNow (early_at s) s.held b
      go none e = tt
      go (some p) e = stands_by s p e

  -- after step 1
  abbrev pub ready : Wire
  ready = begun (chosen s) (stand_by s) (wire s)

  pub ready_sound : WireSound (early_at s) s.link.largest s.link.silence s.clock ready
  ready_sound = begun_sound (early_at s) s.link.largest s.link.silence s.clock (wire s) own_line rows_sized (chosen s) (stand_by s) picks stands_ready

  -- what a tick sends off, and the line it leaves
  abbrev pub after_tick : Sent
  after_tick = sends s.link.silence sent ready ready.to_go

  pub tick_is : ticked s ≡ moves_on s after_tick.departed after_tick.wire
  tick_is = told_by s.link.silence (moves_on s) ready ready.to_go

  -- the four things that it can be
  pub tick_cases : (Q : Sent → Type 0)
      → Q (sent none (free_line s.held s.notices (s.silent - 1)))
      → ((r : PacketOn (early_at s) s.clock ready) → Q (sent (some r.it) (free_line (without ready.serving s.held) s.notices s.link.silence)))
      → ((n : Notice) (ns : List Notice) → s.notices ≡ n ∷ ns → Q (sent (some (notice_packet n)) (free_line s.held ns s.link.silence)))
      → ((u : ℕ) → ready.to_go ≡ suc (suc u) → PacketOn (early_at s) s.clock ready ⊎ NoticeOn ready → Q (sent none (on_line ready ready.serving (suc u))))
      → Q after_tick
  tick_cases Q idle packet notice unit =
      sent_cases (early_at s) s.link.largest s.link.silence s.clock ready ready_sound rows_sized sent Q (λ _. idle) (λ r _. packet r) (λ r ns i _. notice r.it ns i) unit

  module _ (running : s.clock < clock_end) where
    -- some of the rows and of the notices, a tick later
    sound_later : (held : List Packet) (ns : List Notice) (serving to_go silent : ℕ)
        → Sub held s.held
        → ((c : ℕ) → length (of c held) ≤ length (of c s.held))
        → ((c : ℕ) → owned s.connections c ≡ true → Queue (figures s c) (ahead s.link (figures s c)) s.clock (past s c) (eligibilities c held))
        → length ns ≤ max_notices
        → All (Waits s.link.largest s.clock) ns
        → Idle (later s held ns serving to_go silent) ⊎ Serves (later s held ns serving to_go silent)
        → silent ≤ s.link.silence
        → (1 ≤ to_go → silent ≡ 0)
        → Orderly (later s held ns serving to_go silent)
    sound_later held ns serving to_go silent sub fewer queue few fit line quiet alone = record {
      link_in = S.link_in;
      levels_in = S.levels_in;
      figures_in = S.figures_in;
      numbers = S.numbers;
      one_past_each = S.one_past_each;
      one_mark_each = S.one_mark_each;
      free_blank = λ c l o. let f = S.free_blank c l o in (f.0, f.1, f.2);
      tested = S.tested;
      reserved_le = S.reserved_le;
      clock_le = omega (arith, running);
      fit = all_sub (Fits s.connections) sub S.fit;
      dated = all_sub (Dated (s.clock + 1)) sub (all_map (λ p d. record { arrived = omega (arith, d.arrived); not_before = d.not_before }) s.held S.dated);
      room = λ c l. omega (arith, fewer c, S.room c l);
      queue = λ c l.
          chained_queue (figures s c) (regulated c l) (ahead s.link (figures s c)) (s.clock + 1) (past s c) (eligibilities c held)
          (chained_later (figures s c) (ahead s.link (figures s c)) s.clock (past s c) (eligibilities c held) (queue_chained (figures s c) (regulated c l) (ahead s.link (figures s c)) s.clock (past s c) (eligibilities c held) (queue c l)));
      line = record {
        few_notices = few;
        notices_fit = all_map (λ n f. record { some_len = f.some_len; len_le = f.len_le; arrived = omega (arith, f.arrived) }) ns fit;
        line = line;
        silent_le = quiet;
        silent_alone = alone;
      };
      closed_empty = λ c k. nil_of (of c held) (omega (arith, fewer c, ap length (S.closed_empty c k)));
    }

    -- the packet in service has sent its last unit
    sound_departed : (w u : ℕ) → InServiceOf (early_at s w) s.held w u s.clock → Orderly (later s (without w s.held) s.notices 0 0 s.link.silence)
    sound_departed w u r =
        sound_later (without w s.held) s.notices 0 0 s.link.silence (sub_without w (sub_refl s.held)) (λ c. fewer c (same w c)) (λ c l. shorter c l (same w c))
        S.line.few_notices S.line.notices_fit (inl (refl, refl)) (omega arith) (λ n. absurd (omega arith))
      where
        shorter : (c : ℕ) → owned s.connections c ≡ true → (w ≡ c) ⊎ (w ≡ c → ⊥) → Queue (figures s c) (ahead s.link (figures s c)) s.clock (past s c) (eligibilities c (without w s.held))
        shorter c l (inl e) =
            subst (λ (d : ℕ). Queue (figures s c) (ahead s.link (figures s c)) s.clock (past s c) (eligibilities c (without d s.held))) (sym e)
            (chained_queue (figures s c) (regulated c l) (ahead s.link (figures s c)) s.clock (past s c) (eligibilities c (without c s.held))
            (chained_tail (figures s c) (ahead s.link (figures s c)) s.clock (past s c) r.it.eligibility (eligibilities c (without c s.held))
            (λ off. r.eligible (ap (early_at s) e ∙ off_ahead s.link (figures s c) off))
            (queue_chained (figures s c) (regulated c l) (ahead s.link (figures s c)) s.clock (past s c) (r.it.eligibility ∷ eligibilities c (without c s.held))
            (subst (λ (ps : List Packet). Queue (figures s c) (ahead s.link (figures s c)) s.clock (past s c) (map (λ p. p.eligibility) ps))
            (of_first c s.held r.it (ap (λ (d : ℕ). first d s.held) (sym e) ∙ r.is_first)) (S.queue c l)))))
        shorter c l (inr e) = rw (of_other w c s.held e) (S.queue c l)

        fewer : (c : ℕ) → (w ≡ c) ⊎ (w ≡ c → ⊥) → length (of c (without w s.held)) ≤ length (of c s.held)
        fewer c (inl e) =
            subst (λ (d : ℕ). length (of d (without w s.held)) ≤ length (of d s.held)) e
            (omega (arith, ap length (of_first w s.held r.it r.is_first)))
        fewer c (inr e) = omega (arith, ap length (of_other w c s.held e))

    -- the first notice has
    sound_notice_gone : (n : Notice) (ns : List Notice) → s.notices ≡ n ∷ ns → Orderly (later s s.held ns 0 0 s.link.silence)
    sound_notice_gone n ns e =
        sound_later s.held ns 0 0 s.link.silence (sub_refl s.held) (λ c. omega arith) S.queue
        (omega (arith, S.line.few_notices, ap length e))
        (subst (All (Waits s.link.largest s.clock)) e S.line.notices_fit).1
        (inl (refl, refl)) (omega arith) (λ n. absurd (omega arith))

    -- something else than a last unit goes, or nothing
    sound_on : (w u q : ℕ) → Idle (later s s.held s.notices w u q) ⊎ Serves (later s s.held s.notices w u q)
        → q ≤ s.link.silence → (1 ≤ u → q ≡ 0)
        → Orderly (later s s.held s.notices w u q)
    sound_on w u q line quiet alone = sound_later s.held s.notices w u q (sub_refl s.held) (λ c. omega arith) S.queue S.line.few_notices S.line.notices_fit line quiet alone

    pub sound_ticked : Orderly (ticked s).next
    sound_ticked =
        subst (λ (a : Answer). Orderly a.next) (sym tick_is)
        (tick_cases (λ x. Orderly (moves_on s x.departed x.wire).next)
        (sound_on 0 0 (s.silent - 1) (inl (refl, refl)) (omega (arith, S.line.silent_le)) (λ n. absurd (omega arith)))
        (λ r. sound_departed ready.serving ready.to_go r)
        sound_notice_gone
        (λ u e k.
        sound_on ready.serving (suc u) s.silent
        (inr
        (⊎_elim
        (λ r. inl (record { it = r.it; is_first = r.is_first; eligible = λ off. omega (arith, r.eligible off); some_to_go = omega arith; to_go_le = omega (arith, r.to_go_le) }))
        (λ r. inr (record { it = r.it; is_first = r.is_first; is_notice = r.is_notice; some_to_go = omega arith; to_go_le = omega (arith, r.to_go_le) }))
        k))
        S.line.silent_le (λ n. ready_sound.silent_alone (omega arith))))
