-- No packet is held when its time is over, so by conservation it has left.
use Prim.Native.Nat.{ℕ, zero, suc, ◌+◌, ◌≤◌, ◌<◌}
use native.Mathlib.Omega.{arith}
use mathlib.Core.Path.{◌≡◌, refl, sym, ap, ◌∙◌, subst}
use mathlib.Core.Bool.{Bool, true, false, cond}
use mathlib.Core.Logic.{◌⊎◌, inl, inr, ⊎_elim}
use mathlib.Core.List.{List, [], ◌∷◌, ◌++◌, map, append-nil}
use mathlib.Core.Option.{some}
use lib.Dec.{eqb}
use lib.ListN.{get_elem?}
use borrow.Author.Tests.{eqb-true}
use Rattle.rules.specs.declared.Packet.{Packet}
use Rattle.rules.specs.Words.{All}
use Rattle.rules.specs.Limits.{notice_number}
use Rattle.rules.specs.Model.{notice_packet}
use Rattle.rules.specs.Service.{of}
use Rattle.rules.specs.Runs.{Departure, departures}
use Rattle.rules.proofs.Lists.{all_zip, all_sub}
use Rattle.rules.proofs.Sums.{same}
use Rattle.rules.proofs.Rows.{none_some, some_inj, of_append}
use Rattle.rules.proofs.Notices.{of_notices}
use Rattle.rules.proofs.Invariant.{whats}
use Rattle.rules.proofs.InTime.{whats_departures}
use Rattle.frames.specs.Model.{State}
use Rattle.frames.specs.Service.{next_frame, leaves_by}
use Rattle.frames.specs.SoundState.{Dated, SoundWithLink}
use Rattle.rules.specs.Promises.{LeftBy}
use Rattle.frames.proofs.FrameLaws.{leaves_by_is, next_after}
use Rattle.frames.proofs.RowLaws.{sub_all}
use Rattle.frames.proofs.SoundTick.{facts}
use Rattle.frames.proofs.Invariant.{frame_end, OnTime, LevelOnTime, Invariant}
use Rattle.frames.proofs.Names.{History, in_hub}

-- ---- finding in a list

module _ {A : Type 0} (P : A → Type 0) where
  find_all : (xs : List A) (i : ℕ) (x : A) → All P xs → get_elem? xs i ≡ some x → P x
  find_all [] i x h e = absurd (none_some e)
  find_all (y ∷ ys) zero x h e = subst P (some_inj e) h.0
  find_all (y ∷ ys) (suc i) x h e = find_all ys i x h.1 e

  find_append : (xs ys : List A) (i : ℕ) (x : A) → All P ys → get_elem? (xs ++ ys) i ≡ some x → (get_elem? xs i ≡ some x) ⊎ P x
  find_append [] ys i x h e = inr (find_all ys i x h e)
  find_append (y ∷ xs) ys zero x h e = inl e
  find_append (y ∷ xs) ys (suc i) x h e = find_append xs ys i x h e

find_map : {A B : Type 0} (f : A → B) (xs : List A) (i : ℕ) (b : B) → get_elem? (map f xs) i ≡ some b → (a : A) × (get_elem? xs i ≡ some a) × (f a ≡ b)
find_map f [] i b e = absurd (none_some e)
find_map f (x ∷ xs) zero b e = (x, refl, some_inj e)
find_map f (x ∷ xs) (suc i) b e = find_map f xs i b e

all_departures : (c : ℕ) (P : Departure → Type 0) (ds : List Departure) → All P ds → All (λ d. (d.what.connection ≡ c) × P d) (departures c ds)
all_departures c P [] h = tt
all_departures c P (d ∷ ds) h = go (eqb d.what.connection c) refl (all_departures c P ds h.1)
  where
    go : (t : Bool) → eqb d.what.connection c ≡ t → All (λ d. (d.what.connection ≡ c) × P d) (departures c ds)
        → All (λ d. (d.what.connection ≡ c) × P d) (cond t (d ∷ departures c ds) (departures c ds))
    go true e k = ((eqb-true d.what.connection c e, h.0), k)
    go false e k = k

-- for each number, what was accepted is what has left and then what waits, in order
pub conserved_lists : (h : History) → Invariant h → (c : ℕ) → of c h.accepted ≡ whats (departures c h.departed) ++ of c (in_hub h.now)
conserved_lists h I c = I.conserved c ∙ ap (λ (l : List Packet). l ++ of c (in_hub h.now)) (whats_departures c h.departed)

-- of a connection only held packets wait
pub held_waits : (s : State) (c : ℕ) → (c ≡ notice_number → ⊥) → of c (in_hub s) ≡ of c s.held
held_waits s c n =
    of_append c s.held (map notice_packet s.notices)
    ∙ ap (λ (l : List Packet). of c s.held ++ l) (of_notices c s.notices n)
    ∙ append-nil (of c s.held)

module _ (h : History) (I : Invariant h) where
  open h use {now as s, accepted as all, departed as gone}

  -- no packet is held until its time is over
  held_in_time : All (λ q. s.clock < leaves_by s.link.frame q.arrival) s.held
  held_in_time =
      ⊎_elim
      (λ z. subst (All (λ q. s.clock < leaves_by s.link.frame q.arrival)) (sym (ap (λ (r : State). r.held) (I.sound.with_no_link z))) tt)
      (λ n. linked (I.sound.with_one n))
      (same s.link.frame 0)
    where
      linked : SoundWithLink s → All (λ q. s.clock < leaves_by s.link.frame q.arrival) s.held
      linked S = all_zip one s.held S.dated I.recent
        where
          one : (q : Packet) → Dated s.link.frame s.clock q → frame_end s ≤ q.eligibility + s.link.frame → s.clock < leaves_by s.link.frame q.arrival
          one q f r = omega (arith, leaves_by_is s.link.frame q.arrival, f.next_start, next_after s.link.frame (facts s S).some_frame s.clock)

  pub left_in_time : (c i : ℕ) (p : Packet) → (c ≡ notice_number → ⊥) → get_elem? (of c all) i ≡ some p
      → leaves_by s.link.frame p.arrival ≤ s.clock
      → (L : LeftBy gone c i p (leaves_by s.link.frame p.arrival)) × (next_frame s.link.frame p.arrival < L.finish)
  left_in_time c i p level is over =
      ⊎_elim left (λ l. absurd (omega arith))
      (find_append (λ q. s.clock < leaves_by s.link.frame q.arrival) (whats (departures c gone)) (of c s.held) i p
      (all_sub (λ q. s.clock < leaves_by s.link.frame q.arrival) (sub_all c s.held) held_in_time)
      (subst (λ (l : List Packet). get_elem? l i ≡ some p)
      (conserved_lists h I c ∙ ap (λ (l : List Packet). whats (departures c gone) ++ l) (held_waits s c level)) is))
    where
      left : get_elem? (whats (departures c gone)) i ≡ some p
          → (L : LeftBy gone c i p (leaves_by s.link.frame p.arrival)) × (next_frame s.link.frame p.arrival < L.finish)
      left k =
          let m = find_map (λ (d : Departure). d.what) (departures c gone) i p k in
          let o =
          find_all (λ d. (d.what.connection ≡ c) × LevelOnTime s.link.frame s.clock d) (departures c gone) i m.0
          (all_departures c (LevelOnTime s.link.frame s.clock) gone I.on_time) m.1 in
          let t : OnTime s.link.frame s.clock m.0 = o.1 (λ e. level (sym o.0 ∙ e)) in (
            record {
              finish = m.0.finish;
              is_departure = m.1 ∙ ap (λ (q : Packet). some (record { what = q; finish = m.0.finish })) m.2;
              in_time = omega (arith, t.in_time, ap (λ (q : Packet). leaves_by s.link.frame q.arrival) m.2);
            },
            omega (arith, t.not_early, t.next_start, ap (λ (q : Packet). next_frame s.link.frame q.arrival) m.2),
          )
