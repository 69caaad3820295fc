-- A call on a sound state, reachable or not, leaves a sound one.
use Prim.Native.Nat.{ℕ, ◌*◌, ◌≤◌, ◌<◌}
use native.Mathlib.Omega.{arith}
use mathlib.Core.Path.{◌≡◌, refl, sym, ap, ◌∙◌, subst}
use mathlib.Core.Bool.{true, false, true≢false}
use mathlib.Core.Logic.{◌⊎◌, inl, inr, ⊎_elim}
use mathlib.Core.List.{List, [], ◌∷◌, ◌++◌}
use mathlib.Core.Option.{Option}
use lib.ListN.{length, length-append, length-replicate, get_or-replicate, get_or-eq_default}
use lib.Seq.{get_or-set_other}
use Rattle.rules.specs.Model.{Link, Connection, no_connection, no_past, Notice, State, Call, link, admit, offer, notice, close, tick, fresh, nth, past, figures, closed_at, first_notice}
use Rattle.rules.specs.Admission.{link_within, level_within, figures_within, owned, free_number, joining, bound, count, cost, span, reservation, goes_early, ahead}
use Rattle.rules.specs.Service.{remember, of, eligibilities, early_at, ticked, expired, swept}
use Rattle.rules.specs.SoundState.{Queue, Waits, Orderly, SoundWithLink, Sound}
use Rattle.rules.proofs.Doings.{FreeNumber}
use Rattle.rules.proofs.LineWords.{NoticeInService}
use Rattle.rules.specs.Calls.{verdict, eligibility_now, done, answer}
use Rattle.rules.proofs.Doings.{placed}
use Rattle.rules.proofs.Doings.{linked, joined, noted, marked}
use Rattle.rules.proofs.Lists.{all_map, all_snoc}
use Rattle.rules.specs.Words.{upto, sum}
use Rattle.rules.specs.Limits.{max_connections}
use Rattle.rules.proofs.Sums.{split, same, sum_eq, sum_zero, upto_le}
use Rattle.rules.proofs.Tests.{never}
use Rattle.rules.proofs.Count.{count_none}
use Rattle.rules.proofs.Notices.{first_notice_is, of_none}
use Rattle.rules.proofs.Standing.{level_free, free_level, owned_same, stands_open, free_is, length_joining, nth_new, nth_old, nth_other, nth_joined, fits_old, open_unexpired, expired_same}
use Rattle.rules.proofs.LevelTest.{test_holds}
use Rattle.rules.proofs.Figures.{link_facts, connection_facts, cost_largest, limit_some, sum_is, reservation_is}
use Rattle.rules.proofs.Queue.{regulated_of, chained_queue, chained_new}
use Rattle.rules.proofs.Verdicts.{settled, link_done, AdmitDone, admit_done, OfferDone, offer_done, NoticeDone, notice_done, close_done, tick_done}
use Rattle.rules.proofs.Line.{tick_leaves}
use Rattle.rules.proofs.SoundTick.{served_on, serving_owned, sound_ticked}
use Rattle.rules.proofs.SoundOffer.{sound_placed}
use Rattle.rules.proofs.SoundSwept.{sound_swept, orderly_marked}

pub linked_sound : (s : State) → (s.link.levels ≡ 0 → ⊥) → SoundWithLink s → Sound s
linked_sound s n S = record { with_no_link = λ z. absurd (n z); with_one = λ _. S }

-- ---- an admission

-- whose packets may go early, of an older connection
pub early_joined : (s : State) (x : Connection) → free_number s.connections < length s.connections → (c : ℕ) → owned s.connections c ≡ true → early_at (joined s x) c ≡ early_at s c
early_joined s x room c o = ap (goes_early s.link) (nth_old s.connections x room c o)

module _ (s : State) (T : SoundWithLink s) (x : Connection) (D : AdmitDone s x) where
  S : Orderly s
  S = T.orderly

  room_left : free_number s.connections < length s.connections
  room_left = omega (arith, S.numbers, D.free)

  was_free : owned s.connections (free_number s.connections) ≡ false
  was_free = level_free s.connections (free_number s.connections) (free_is s.connections room_left)

  new_past : past s (free_number s.connections) ≡ no_past
  new_past = (S.free_blank (free_number s.connections) D.free was_free).1

  no_rows : of (free_number s.connections) s.held ≡ []
  no_rows = of_none (free_number s.connections) s.held (all_map (λ p f e. true≢false (sym f.owner ∙ ap (owned s.connections) e ∙ was_free)) s.held S.fit)

  orderly_joined : Orderly (joined s x)
  unfolding S
  orderly_joined = record {
    link_in = S.link_in;
    levels_in = nth_joined s.connections x room_left (λ _ c. level_within s.link c ≡ true) S.levels_in D.level_in;
    figures_in = nth_joined s.connections x room_left (λ _ c. figures_within s.link c ≡ true) S.figures_in D.figures_in;
    numbers = length_joining s.connections x room_left ∙ S.numbers;
    one_past_each = S.one_past_each;
    one_mark_each = S.one_mark_each;
    free_blank = λ c l o. blank c l o (same c (free_number s.connections));
    tested = test_holds s.link (joining s.connections x) D.tests_hold;
    reserved_le = D.reserved_le;
    clock_le = S.clock_le;
    fit = all_map (fits_old s.connections x room_left) s.held S.fit;
    dated = S.dated;
    room = nth_joined s.connections x room_left (λ c f. length (of c s.held) ≤ reservation s.link f) S.room (rw no_rows (omega arith));
    queue =
        nth_joined s.connections x room_left (λ c f. Queue f (ahead s.link f) s.clock (past s c) (eligibilities c s.held)) S.queue
        (rw (no_rows, new_past) (chained_queue x (regulated_of s.link x (connection_facts s.link x D.level_in D.figures_in)) (ahead s.link x) s.clock no_past [] (chained_new x (ahead s.link x) s.clock)));
    line = record {
      few_notices = S.line.few_notices;
      notices_fit = S.line.notices_fit;
      line = ⊎_elim (λ z. inl z) (λ k. inr (⊎_elim (λ r. inl (served_on (λ e. sym (early_joined s x room_left s.serving (serving_owned s S.fit r)) ∙ e) r)) (λ n. inr n) k)) S.line.line;
      silent_le = S.line.silent_le;
      silent_alone = S.line.silent_alone;
    };
    closed_empty = S.closed_empty;
  }
    where
      blank : (c : ℕ) → c < max_connections → owned (joining s.connections x) c ≡ false → (c ≡ free_number s.connections) ⊎ (c ≡ free_number s.connections → ⊥) → FreeNumber (joined s x) c
      blank c l o (inl e) =
          absurd
          (omega (
            arith,
            ap (λ (j : ℕ). (nth (joining s.connections x) j).level) e,
            free_level (joining s.connections x) c o,
            ap (λ (y : Connection). y.level) (nth_new s.connections x room_left),
            (connection_facts s.link x D.level_in D.figures_in).low_level,
          ))
      blank c l o (inr e) =
          let k = nth_other s.connections x room_left c e in
          let f = T.orderly.free_blank c l (sym (owned_same s.connections (joining s.connections x) c k) ∙ o) in
          (k ∙ f.0, f.1, f.2)

  sound_joined : SoundWithLink (joined s x)
  unfolding expired
  sound_joined = record { orderly = orderly_joined; charged = T.charged }

-- ---- an offer: it leaves the closed ones alone

sound_offered : (s : State) (T : SoundWithLink s) (c len tag : ℕ) (st : Option ℕ) (D : OfferDone s c len st) → SoundWithLink (placed s c len tag st)
sound_offered s T c len tag st D = record { orderly = sound_placed s T.orderly c len tag st D; charged = λ d l. go d l (same c d) }
  where
    go : (d : ℕ) → d < max_connections → (c ≡ d) ⊎ (c ≡ d → ⊥) → expired (placed s c len tag st) d ≡ false
    go d l (inl e) = open_unexpired (placed s c len tag st) d (ap (closed_at s) (sym e) ∙ stands_open s c D.standing)
    go d l (inr e) = same_past d l (get_or-set_other s.pasts c d (remember (past s c) (eligibility_now s c st)) no_past (λ i. e (sym i)))
      where
        same_past : (d : ℕ) → d < max_connections → past (placed s c len tag st) d ≡ past s d → expired (placed s c len tag st) d ≡ false
        same_past d l k = expired_same s (placed s c len tag st) d refl refl refl k ∙ T.charged d l

-- ---- a notice

module _ (s : State) (T : SoundWithLink s) (len tag : ℕ) (D : NoticeDone s len) where
  abbrev W : Orderly s
  W = T.orderly

  new : Notice
  new = record { len = len; tag = tag; arrival = s.clock }

  -- the first notice stays the first
  still_first : NoticeInService s → NoticeInService (noted s len tag)
  still_first r = record {
    it = r.it;
    is_first =
        let k = first_notice_is s.notices r.it r.is_first in
        ap (λ (ns : List Notice). first_notice (ns ++ record { len = len; tag = tag; arrival = s.clock } ∷ [])) k.1;
    is_notice = r.is_notice;
    some_to_go = r.some_to_go;
    to_go_le = r.to_go_le;
  }

  orderly_noted : Orderly (noted s len tag)
  unfolding new
  orderly_noted = record {
    link_in = W.link_in;
    levels_in = W.levels_in;
    figures_in = W.figures_in;
    numbers = W.numbers;
    one_past_each = W.one_past_each;
    one_mark_each = W.one_mark_each;
    free_blank = λ c l o. let f = W.free_blank c l o in (f.0, f.1, f.2);
    tested = W.tested;
    reserved_le = W.reserved_le;
    clock_le = W.clock_le;
    fit = W.fit;
    dated = W.dated;
    room = W.room;
    queue = W.queue;
    line = record {
      few_notices = omega (arith, D.room, length-append s.notices (new ∷ []));
      notices_fit = all_snoc (Waits s.link.largest s.clock) s.notices new W.line.notices_fit (record { some_len = D.some_len; len_le = D.len_le; arrived = omega arith });
      line = ⊎_elim (λ z. inl z) (λ k. inr (⊎_elim (λ r. inl r) (λ r. inr (still_first r)) k)) W.line.line;
      silent_le = W.line.silent_le;
      silent_alone = W.line.silent_alone;
    };
    closed_empty = W.closed_empty;
  }

  sound_noted : SoundWithLink (noted s len tag)
  unfolding expired
  sound_noted = record { orderly = orderly_noted; charged = T.charged }

-- ---- a link

-- on the fresh hub every number is free
pub fresh_figures : (c : ℕ) → figures fresh c ≡ no_connection
fresh_figures c =
    ⊎_elim (λ l. get_or-eq_default fresh.connections no_connection {n = c} (omega (arith, length-replicate max_connections no_connection)))
    (λ l. get_or-replicate max_connections c no_connection no_connection l) (split max_connections c)

pub fresh_free : (c : ℕ) → owned fresh.connections c ≡ false
fresh_free c = level_free fresh.connections c (ap (λ (x : Connection). x.level) (fresh_figures c))

pub fresh_past : (c : ℕ) → past fresh c ≡ no_past
fresh_past c =
    ⊎_elim (λ l. get_or-eq_default fresh.pasts no_past {n = c} (omega (arith, length-replicate max_connections no_past)))
    (λ l. get_or-replicate max_connections c no_past no_past l) (split max_connections c)

pub fresh_open : (c : ℕ) → closed_at fresh c ≡ false
fresh_open c =
    ⊎_elim (λ l. get_or-eq_default fresh.closed false {n = c} (omega (arith, length-replicate max_connections false)))
    (λ l. get_or-replicate max_connections c false false l) (split max_connections c)

nobody : {P : Type 0} (c : ℕ) → owned fresh.connections c ≡ true → P
nobody c o = never (sym (fresh_free c) ∙ o)

sum_fresh : (f : Connection → ℕ) → f no_connection ≡ 0 → sum (length fresh.connections) (λ c. f (nth fresh.connections c)) ≡ 0
sum_fresh f z =
    sum_eq (length fresh.connections) {f = λ c. f (nth fresh.connections c)} {g = λ _. 0} (λ c l. ap f (fresh_figures c) ∙ z)
    ∙ sum_zero (length fresh.connections)

share_fresh : (l : Link) (m w : ℕ) → upto 0 m (count no_connection w * cost l 0) ≡ 0
share_fresh l m w = omega (arith, upto_le 0 m (count no_connection w * cost l 0), ap (λ (k : ℕ). k * cost l 0) (count_none w))

orderly_first : (l : Link) → link_within l ≡ true → Orderly (linked fresh l)
orderly_first l ok = record {
  link_in = ok;
  levels_in = λ c o. nobody c o;
  figures_in = λ c o. nobody c o;
  numbers = length-replicate max_connections no_connection;
  one_past_each = length-replicate max_connections no_past;
  one_mark_each = length-replicate max_connections false;
  free_blank = λ c k o. (fresh_figures c, fresh_past c, fresh_open c);
  tested = λ m low high i k.
      omega (
        arith,
        sum_is l fresh.connections m i,
        sum_fresh (λ x. upto x.level m (count x (span l m i x.level) * cost l x.size)) (share_fresh l m (span l m i 0)),
        cost_largest l ok m low high,
        limit_some l ok m i low high,
      );
  reserved_le = omega (arith, sum_fresh (reservation l) (reservation_is l no_connection ∙ count_none (bound l 0)));
  clock_le = omega arith;
  fit = tt;
  dated = tt;
  room = λ c o. nobody c o;
  queue = λ c o. nobody c o;
  line = record {
    few_notices = omega arith;
    notices_fit = tt;
    line = inl (refl, refl);
    silent_le = omega arith;
    silent_alone = λ n. refl;
  };
  closed_empty = λ c k. refl;
}

sound_first : (l : Link) → link_within l ≡ true → SoundWithLink (linked fresh l)
sound_first l ok = record { orderly = orderly_first l ok; charged = λ c k. open_unexpired (linked fresh l) c (fresh_open c) }

-- ---- every call

pub done_sound : (k : Call) (s : State) → Sound s → verdict k s ≡ 0 → Sound (done k s).next
done_sound (link l) s S e =
    let d = link_done s l e in
    subst (λ (r : State). Sound (linked r l)) (sym (S.with_no_link d.unset))
    (linked_sound (linked fresh l) (λ z. omega (arith, (link_facts l d.link_in).some_level)) (sound_first l d.link_in))
done_sound (admit x) s S e = let d = admit_done s x e in linked_sound (joined s x) d.set (sound_joined s (S.with_one d.set) x d)
done_sound (offer c len tag st) s S e = let d = offer_done s c len tag st e in linked_sound (done (offer c len tag st) s).next d.set (sound_offered s (S.with_one d.set) c len tag st d)
done_sound (notice len tag) s S e = let d = notice_done s len tag e in linked_sound (noted s len tag) d.set (sound_noted s (S.with_one d.set) len tag d)
done_sound (close c) s S e =
    let d = close_done s c e in
    let O = (S.with_one d.set).orderly in
    linked_sound (swept (marked s c)) d.set (sound_swept (marked s c) (orderly_marked s O c d.standing d.empty))
done_sound tick s S e = let d = tick_done s e in after_tick d.set (sound_swept (ticked s).next (sound_ticked s (S.with_one d.set).orderly d.running))
  where
    after_tick : (s.link.levels ≡ 0 → ⊥) → SoundWithLink (done tick s).next → Sound (done tick s).next
    after_tick n T = linked_sound (done tick s).next (λ z. n (sym (ap (λ (l : Link). l.levels) (tick_leaves s).link) ∙ z)) T

pub kept : (k : Call) (s : State) → Sound s → Sound (answer k s).next
kept k s S = settled (λ a. Sound a.next) k s (verdict k s) (done_sound k s S) (λ _. S)
