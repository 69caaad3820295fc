-- How a refusal and each call done meet the contract, on a sound hub.
use Prim.Native.Nat.{ℕ, zero, suc, ◌+◌, ◌*◌, ◌-◌, ◌≤◌, ◌<◌}
use mathlib.Core.Logic.{⊎_elim}
use native.Mathlib.Omega.{arith}
use mathlib.Core.Path.{◌≡◌, refl, sym, ap, ◌∙◌, subst}
use mathlib.Core.Bool.{Bool, true, false}
use mathlib.Core.List.{List, [], ◌∷◌, ◌++◌}
use mathlib.Core.Option.{Option, none, some}
use lib.ListN.{length, get_or, set, length-append, length-set, get_or-eq_default}
use lib.Seq.{get_or-set_same, get_or-set_other}
use Rattle.rules.specs.declared.Link.{Link}
use Rattle.rules.specs.declared.Connection.{Connection}
use Rattle.rules.specs.declared.Short.{Short}
use Rattle.rules.specs.Words.{All}
use Rattle.rules.specs.Limits.{max_connections, clock_end, beyond_32_bits}
use Rattle.rules.specs.Model.{Past, State, Call, link, admit, offer, notice, close, tick, no_short, no_connection, no_past, past, figures, closed_at}
use Rattle.rules.specs.Admission.{owned, free_number, joining, charge_time}
use Rattle.rules.specs.Service.{eligibility_by, untimely_by, remember, ticked, charge_over, expired}
use Rattle.rules.proofs.Doings.{swept_connections, swept_pasts, swept_marks}
use Rattle.rules.proofs.Doings.{FreeNumber}
use Rattle.rules.specs.Calls.{verdict, refused_number, refused_short, eligibility_now}
use Rattle.rules.proofs.Doings.{placed}
use Rattle.rules.proofs.Doings.{marked}
use Rattle.rules.proofs.Lists.{list_eq}
use Rattle.rules.proofs.Sums.{split, same}
use Rattle.rules.proofs.Tests.{never}
use Rattle.rules.proofs.Figures.{link_facts, connection_facts, window_charged, charge_le, cost_pos}
use Rattle.rules.proofs.Standing.{level_free, stands_open, stands_below, free_is, charged_unexpired, unexpired_charged, expired_same, swept_length, swept_pasts_length, swept_marks_length, kept_figures, kept_past, kept_closed, freed_figures, freed_past, freed_closed, connections_stay, pasts_stay, marks_stay}
use Rattle.rules.proofs.Closing.{expired_yes}
use Rattle.rules.proofs.Line.{tick_leaves}
use Rattle.rules.proofs.Bounds.{rows_fit_places, eligibilities_fit_32, charges_fit_32}
use Rattle.rules.proofs.Stamps.{in_time_of}
use Rattle.rules.proofs.SoundKept.{done_sound}
use Rattle.rules.proofs.Verdicts.{tick_done, admit_done, OfferDone, offer_done, CloseDone, close_done}
use Rattle.tables.specs.Places.{places_length, rows, written_places}
use Rattle.connections.specs.declared.Member.{Member}
use Rattle.connections.specs.Members.{member_in, connections_in, pasts_in, closed_in, used_by, used_in, first_in, written_members}
use Rattle.connections.specs.Rows.{connection_of, past_of, last_of, written_table}
use Rattle.connections.specs.Closing.{ClosedInOrder, Swept}
use Rattle.connections.proofs.MemberLaws.{connections_length, pasts_length, closed_length}
use Rattle.connections.proofs.WrittenLaws.{members_rows, used_is, first_is}
use Rattle.connections.proofs.OwnerLaws.{first_same}
use Rattle.connections.proofs.SweepLaws.{swept_as_is}
use Rattle.connections.proofs.RegulatorLaws.{MemberFacts, member_facts}
use Rattle.state.specs.View.{Hub, Tables, tables, view, sound_hub}
use Rattle.state.specs.Told.{Told, refusal}
use Rattle.state.specs.Does.{Does}
use Rattle.state.proofs.SoundLaws as S
use Rattle.std.specs.Prelude.{None}
use Rattle.state.proofs.SoundLaws.{shapes, formed_tables, is_sound, members_kept, places_kept, notices_kept, tables_kept, others, figures_in_limits}
use Rattle.state.proofs.DoesLaws.{refuses, acts}
use Rattle.service.specs.Ready.{Ready}
use Rattle.service.specs.Gives.{Gives}
use Rattle.service.proofs.ReadyLaws.{ready}
use Rattle.causes.specs.declared.refusals.Refusal.{Refusal}
use Rattle.causes.specs.Refusals.{number_of, short_of}
use Rattle.causes.specs.Notices.{Takes}
use Rattle.causes.proofs.RefusalLaws.{some_number}
use Rattle.std.specs.Prelude.{Ok, Err}

module _ (h : Hub) (t : Tables) (ok : sound_hub h t ≡ true) where
  -- ---- a call that is refused as its verdict says

  pub refused : (k : Call) (why : Refusal) (v n : ℕ) (r : Told) → number_of why ≡ verdict k (view h t) → v ≡ number_of why → refused_short k (view h t) v ≡ no_short
      → n ≡ refused_number k → r ≡ refusal h v n → Does k h t r t
  refused k why v n r e i q f g =
      refuses k h t ok v (v - 1) n r (sym (i ∙ e)) (omega (arith, i, some_number why)) f
      (g ∙ ap (λ (u : Short). record { verdict = v; number = n; short = u; departed = None; kept = h }) (sym q))

  -- ---- a link

  pub linked : (l : Link) (r : Told) (g : Hub) → verdict (link l) (view h t) ≡ 0
      → g ≡ record { link = l; clock = h.clock; wire = h.wire } → r ≡ refusal g 0 0 → Does (link l) h t r t
  linked l r g e f i = acts (link l) h t ok r t e (i ∙ ap (λ (k : Hub). refusal k 0 0) f) (tables_kept h t ok)

  -- ---- a tick

  pub ready_to_tick : (h.link.levels ≡ 0 → ⊥) → h.clock < clock_end → Ready h t.places t.notices
  ready_to_tick n r =
      let f = shapes t (formed_tables h t ok) in
      ready h t.members t.places t.notices f.places_shape f.notices_shape (others h t ok n) (S.linked h t ok n).line.line r

  -- what is closed has an owner that has sent
  module _ (n : h.link.levels ≡ 0 → ⊥) where
    some_time : 1 ≤ charge_time h.link
    some_time =
        let f = link_facts h.link (S.linked h t ok n).link_in in
        let m : h.link.levels ≤ h.link.levels = omega arith in
        omega (arith, f.largest_le _ f.some_level m, (f.window_in _ f.some_level m).0, window_charged h.link f _ f.some_level m, cost_pos h.link h.link.largest f.some_largest)

    pub time_fits : charge_time h.link < beyond_32_bits
    time_fits = omega (arith, charge_le h.link (S.linked h t ok n).link_in)

    closed_below : (c : ℕ) → closed_at (view h t) c ≡ true → c < max_connections
    closed_below c e =
        ⊎_elim (λ l. never (sym (get_or-eq_default (closed_in t.members) false {n = c} (omega (arith, closed_length t.members))) ∙ e)) (λ l. l) (split max_connections c)

    sent : (c : ℕ) → closed_at (view h t) c ≡ true → 1 ≤ length (past (view h t) c)
    sent c e = go (past (view h t) c) (unexpired_charged (view h t) c (S.charged h t ok n c (closed_below c e)) e)
      where
        go : (q : Past) → charge_over (charge_time h.link) h.clock q ≡ false → 1 ≤ length q
        go [] x = never (sym x)
        go (a ∷ q) x = omega arith

    pub last_fits : (c : ℕ) → last_of (past (view h t) c) + 1 < beyond_32_bits
    last_fits c = go (past (view h t) c) (charges_fit_32 (view h t) (is_sound h t ok) c)
      where
        go : (q : Past) → All (λ e. e + charge_time h.link < beyond_32_bits) q → last_of q + 1 < beyond_32_bits
        go [] x = omega arith
        go (a ∷ q) x = omega (arith, x.0, some_time)

    pub closed_order : ClosedInOrder t.members
    closed_order = record { closed_owned = has_owner; closed_sent = sent; closed_fits = λ c e. last_fits c }
      where
        has_owner : (c : ℕ) → closed_at (view h t) c ≡ true → owned (connections_in t.members) c ≡ true
        has_owner c e = go (owned (connections_in t.members) c) refl
          where
            go : (b : Bool) → owned (connections_in t.members) c ≡ b → owned (connections_in t.members) c ≡ true
            go true o = o
            go false o = never (sym ((S.linked h t ok n).free_blank c (closed_below c e) o).2 ∙ e)

  pub tick_acts : (r : Told) (m p n : List ℕ) (b : ℕ) → verdict tick (view h t) ≡ 0 → Gives (ticked (view h t)) r p n
      → b ≡ charge_time h.link → Swept t.members b r.kept.clock m → Does tick h t r (tables m p n)
  tick_acts r m p n b e g f w =
      let l = tick_leaves (view h t) in
      let k = w (ticked (view h t)).next
      (record {
        connections_are = l.connections;
        pasts_are = l.pasts;
        marks_are = l.closed;
        time_is = ap charge_time l.link ∙ sym f;
        clock_is = sym (ap (λ (d : Told). d.kept.clock) g.0);
      }) in
      acts tick h t ok r (tables m p n) e g.0 (λ i. tables (k i) (g.1 i) (g.2 i))

  -- nobody is closed, so that nobody is freed
  pub tick_frees_nobody : (r : Told) (p n : List ℕ) → verdict tick (view h t) ≡ 0 → Gives (ticked (view h t)) r p n → first_in t.members ≡ 0 → Does tick h t r (tables t.members p n)
  tick_frees_nobody r p n e g z =
      tick_acts r t.members p n (charge_time h.link) e g refl
      (swept_as_is t.members (shapes t (formed_tables h t ok)).members_shape (charge_time h.link) r.kept.clock (closed_order (tick_done (view h t) e).set) (λ l. absurd (omega arith)))

-- ---- an admission

pub admit_room : (h : Hub) (t : Tables) (x : Connection) (c : ℕ) → verdict (admit x) (view h t) ≡ 0 → c ≡ free_number (connections_in t.members) → c < max_connections
admit_room h t x c e f = omega (arith, (admit_done (view h t) x e).free)

module _ (h : Hub) (t : Tables) (ok : sound_hub h t ≡ true) (x : Connection) where
  -- refused, with what the refusal says
  pub admit_refuses : (why : Refusal) (v : ℕ) (u : Short) (r : Told) → number_of why ≡ verdict (admit x) (view h t)
      → short_of why ≡ refused_short (admit x) (view h t) (number_of why) → v ≡ number_of why → u ≡ short_of why → r ≡ refusal h v 255
      → Does (admit x) h t (record r { short = u }) t
  admit_refuses why v u r e f i j g =
      refuses (admit x) h t ok v (v - 1) 255 _ (sym (i ∙ e)) (omega (arith, i, some_number why)) refl
      (λ k. record (g k) { short = (j ∙ f ∙ ap (refused_short (admit x) (view h t)) (sym i)) k })

  -- done: the newcomer at the lowest free number, of which nothing is left
  pub admit_acts : (r : Told) (c : ℕ) (m : List ℕ) → verdict (admit x) (view h t) ≡ 0 → c ≡ free_number (connections_in t.members) → r ≡ refusal h 0 c
      → m ≡ written_members (joining (connections_in t.members) x) (pasts_in t.members) (closed_in t.members)
      → Does (admit x) h t r (tables m t.places t.notices)
  admit_acts r c m e f g i =
      acts (admit x) h t ok r (tables m t.places t.notices) e (g ∙ ap (refusal h 0) f) (λ k. tables (i k) (places_kept h t ok k) (notices_kept h t ok k))

  pub admit_blank : verdict (admit x) (view h t) ≡ 0 → (c : ℕ) → c ≡ free_number (connections_in t.members) → FreeNumber (view h t) c
  admit_blank e c f =
      let D = admit_done (view h t) x e in
      let l : free_number (connections_in t.members) < length (connections_in t.members) = omega (arith, D.free, connections_length t.members) in
      subst (FreeNumber (view h t)) (sym f)
      ((S.linked h t ok D.set).free_blank _ D.free (level_free (connections_in t.members) _ (free_is (connections_in t.members) l)))

  pub admit_level : verdict (admit x) (view h t) ≡ 0 → 1 ≤ x.level
  admit_level e = let D = admit_done (view h t) x e in (connection_facts h.link x D.level_in D.figures_in).low_level

-- ---- an offer

module _ (h : Hub) (t : Tables) (ok : sound_hub h t ≡ true) (c len tag : ℕ) (st : Option ℕ) (good : verdict (offer c len tag st) (view h t) ≡ 0) where
  did : OfferDone (view h t) c len st
  did = offer_done (view h t) c len tag st good

  pub offer_below : c < max_connections
  offer_below = omega (arith, stands_below (view h t) c did.standing, connections_length t.members)

  -- the places are enough for one more
  pub offer_room : 5 * length (rows t.places) + 5 ≤ places_length
  offer_room =
      omega (
        arith,
        rows_fit_places (placed (view h t) c len tag st) (done_sound (offer c len tag st) (view h t) (is_sound h t ok) good),
        length-append (rows t.places) (record { connection = c; len = len; tag = tag; arrival = h.clock; eligibility = eligibility_now (view h t) c st } ∷ []),
      )

  -- the eligibility of the row read
  pub offer_reads : (m : Member) → m ≡ member_in t.members c → MemberFacts t.members c m
  offer_reads m e = member_facts h.link t.members c m (members_rows t.members (shapes t (formed_tables h t ok)).members_shape) offer_below (figures_in_limits h t ok did.set) e

  pub offer_eligibility : (m : Member) (e : ℕ) → m ≡ member_in t.members c → e ≡ eligibility_by (connection_of m) (past_of m) h.clock st → e ≡ eligibility_now (view h t) c st
  offer_eligibility m e i j =
      j
      ∙ ap (λ (x : Connection). eligibility_by x (past_of m) h.clock st) (offer_reads m i).figures
      ∙ ap (λ (y : Past). eligibility_by (figures (view h t) c) y h.clock st) (offer_reads m i).past

  -- a stamp in time is not later than the clock
  pub offer_fits : eligibility_now (view h t) c st < beyond_32_bits
  offer_fits = go st did.in_time
    where
      go : (o : Option ℕ) → untimely_by (figures (view h t) c) (past (view h t) c) h.clock o ≡ false → eligibility_now (view h t) c o < beyond_32_bits
      go none e = ((eligibilities_fit_32 (view h t) (is_sound h t ok)).1 c).1
      go (some stamp) e = ((eligibilities_fit_32 (view h t) (is_sound h t ok)).1 c).2 stamp (in_time_of (figures (view h t) c) (past (view h t) c) h.clock stamp e).not_later

  pub offer_acts : (r : Told) (e : ℕ) (m p : List ℕ) → e ≡ eligibility_now (view h t) c st → r ≡ refusal h 0 e
      → m ≡ written_table (connections_in t.members) (set (pasts_in t.members) c (remember (past (view h t) c) e)) (closed_in t.members) (used_in t.members) (first_in t.members)
      → p ≡ written_places (rows t.places ++ record { connection = c; len = len; tag = tag; arrival = h.clock; eligibility = e } ∷ [])
      → Does (offer c len tag st) h t r (tables m p t.notices)
  offer_acts r e m p i j k l =
      let f = (shapes t (formed_tables h t ok)).members_shape in
      let hs : ℕ → List Past = λ u. set (pasts_in t.members) c (remember (past (view h t) c) u) in
      let m' = k
      ∙ ap (λ (u : ℕ). written_table (connections_in t.members) (hs u) (closed_in t.members) (used_in t.members) (first_in t.members)) i
      ∙ ap (λ (u : ℕ). written_table (connections_in t.members) (hs (eligibility_now (view h t) c st)) (closed_in t.members) u (first_in t.members)) (used_is t.members f)
      ∙ ap (written_table (connections_in t.members) (hs (eligibility_now (view h t) c st)) (closed_in t.members) (used_by (connections_in t.members)))
      (first_is t.members f ∙ sym (first_same (pasts_in t.members) (closed_in t.members) c (remember (past (view h t) c) (eligibility_now (view h t) c st)) (stands_open (view h t) c did.standing))) in
      let p' = l ∙ ap (λ (u : ℕ). written_places (rows t.places ++ record { connection = c; len = len; tag = tag; arrival = h.clock; eligibility = u } ∷ [])) i in
      acts (offer c len tag st) h t ok r (tables m p t.notices) good (j ∙ ap (refusal h 0) i) (λ n. tables (m' n) (p' n) (notices_kept h t ok n))

-- ---- a notice: refused or done, by its verdict

module _ (h : Hub) (t : Tables) (ok : sound_hub h t ≡ true) where
  pub notice_done : (len tag v : ℕ) → v ≡ verdict (notice len tag) (view h t) → (e : ℕ) (q : List ℕ) (r : Told)
      → Takes v h.clock len tag t.notices (Ok e) q → r ≡ refusal h 0 e → Does (notice len tag) h t r (tables t.members t.places q)
  notice_done len tag zero i e q r k j =
      acts (notice len tag) h t ok r (tables t.members t.places q) (sym i) (j ∙ ap (refusal h 0) k.1)
      (λ n. tables (members_kept h t ok n) (places_kept h t ok n) (k.2 n))
  notice_done len tag (suc v) i e q r k j = let no : ◌≡◌ {A = ℕ} 0 (suc v) = k.0 in absurd (omega arith)

  pub notice_refused : (len tag : ℕ) (why : Refusal) (v : ℕ) (q : List ℕ) (r : Told) → number_of why ≡ verdict (notice len tag) (view h t)
      → (w : ℕ) → Takes w h.clock len tag t.notices (Err why) q → v ≡ number_of why → r ≡ refusal h v 0 → Does (notice len tag) h t r (tables t.members t.places q)
  notice_refused len tag why v q r e zero k i j = absurd (some_number why k.0)
  notice_refused len tag why v q r e (suc w) k i j =
      subst (λ (u : List ℕ). Does (notice len tag) h t r (tables t.members t.places u)) (sym k.2) (refused h t ok (notice len tag) why v 0 r e i refl refl j)

-- ---- a close

module _ (h : Hub) (t : Tables) (ok : sound_hub h t ≡ true) (c : ℕ) (good : verdict (close c) (view h t) ≡ 0) where
  closing : CloseDone (view h t) c
  closing = close_done (view h t) c good

  pub close_below : c < max_connections
  close_below = omega (arith, stands_below (view h t) c closing.standing, connections_length t.members)

  pub close_open : closed_at (view h t) c ≡ false
  close_open = stands_open (view h t) c closing.standing

  pub close_fits : last_of (past (view h t) c) + 1 < beyond_32_bits
  close_fits = last_fits h t ok closing.set c

  pub close_reads : (m : Member) → m ≡ member_in t.members c → MemberFacts t.members c m
  close_reads m e = member_facts h.link t.members c m (members_rows t.members (shapes t (formed_tables h t ok)).members_shape) close_below (figures_in_limits h t ok closing.set) e

  -- nobody but c can be freed by it
  abbrev s : State
  s = view h t

  abbrev r : State
  r = marked (view h t) c

  others_stay : (i : ℕ) → i < max_connections → (i ≡ c → ⊥) → expired r i ≡ false
  others_stay i l n =
      expired_same s r i (get_or-set_other s.closed c i true false (λ e. n e)) refl refl refl ∙ S.charged h t ok closing.set i l

  marked_now : closed_at r c ≡ true
  marked_now = get_or-set_same s.closed c true false (omega (arith, close_below, closed_length t.members))

  long : length r.closed ≡ max_connections
  long = length-set s.closed c true ∙ closed_length t.members

  pub close_time : charge_time h.link < beyond_32_bits
  close_time = time_fits h t ok closing.set

  -- whether its charge is over, by the row read
  pub close_over : (m : Member) (time : ℕ) (b : Bool) → m ≡ member_in t.members c → time ≡ charge_time h.link → b ≡ charge_over time h.clock (past_of m)
      → charge_over (charge_time h.link) h.clock (past s c) ≡ b
  close_over m time b e f g =
      ap (charge_over (charge_time h.link) h.clock) (sym (close_reads m e).past) ∙ ap (λ (k : ℕ). charge_over k h.clock (past_of m)) (sym f) ∙ sym g

  -- its charge is not over: it is charged
  pub close_charges : (d : Told) (m : List ℕ) → charge_over (charge_time h.link) h.clock (past s c) ≡ false → d ≡ refusal h 0 0
      → m ≡ written_members (connections_in t.members) (pasts_in t.members) (set (closed_in t.members) c true)
      → Does (close c) h t d (tables m t.places t.notices)
  close_charges d m e f g =
      let a = connections_stay r (connections_length t.members) (pasts_length t.members) long none in
      let b = pasts_stay r (connections_length t.members) (pasts_length t.members) long none in
      let k = marks_stay r (connections_length t.members) (pasts_length t.members) long none in
      acts (close c) h t ok d (tables m t.places t.notices) good f
      (λ i. tables ((g ∙ (λ j. written_members (sym a j) (sym b j) (sym k j))) i) (places_kept h t ok i) (notices_kept h t ok i))
    where
      none : (i : ℕ) → i < max_connections → expired r i ≡ false
      none i l = ⊎_elim (λ q. subst (λ (j : ℕ). expired r j ≡ false) (sym q) (charged_unexpired r c e)) (others_stay i l) (same i c)

  -- its charge is over: it is freed
  pub close_frees : (d : Told) (m : List ℕ) → charge_over (charge_time h.link) h.clock (past s c) ≡ true → d ≡ refusal h 0 0
      → m ≡ written_members (set (connections_in t.members) c no_connection) (set (pasts_in t.members) c no_past) (closed_in t.members)
      → Does (close c) h t d (tables m t.places t.notices)
  close_frees d m e f g =
      let a = freed_list (swept_connections r) no_connection (connections_in t.members) no_connection (swept_length r) (connections_length t.members) (λ l. freed_figures r c l gone) (λ i l n. kept_figures r i l (others_stay i l n)) in
      let b = freed_list (swept_pasts r) no_past (pasts_in t.members) no_past (swept_pasts_length r) (pasts_length t.members) (λ l. freed_past r c l gone) (λ i l n. kept_past r i l (others_stay i l n)) in
      let k = freed_list (swept_marks r) false (closed_in t.members) false (swept_marks_length r) (closed_length t.members) (λ l. freed_closed r c l gone) (λ i l n. kept_closed r i l (others_stay i l n) ∙ get_or-set_other s.closed c i true false (λ q. n q)) in
      acts (close c) h t ok d (tables m t.places t.notices) good f
      (λ i. tables ((g ∙ (λ j. written_members (sym a j) (sym b j) (same_marks j)) ∙ ap (written_members (swept_connections r) (swept_pasts r)) (sym k)) i) (places_kept h t ok i) (notices_kept h t ok i))
    where
      gone : expired r c ≡ true
      gone = expired_yes r c marked_now e

      -- a list of all numbers that has x at c, and else what another has
      freed_list : {A : Type 0} (xs : List A) (x : A) (ys : List A) (d : A) → length xs ≡ max_connections → length ys ≡ max_connections
          → (c < max_connections → get_or xs c d ≡ x) → ((i : ℕ) → i < max_connections → (i ≡ c → ⊥) → get_or xs i d ≡ get_or ys i d) → xs ≡ set ys c x
      freed_list xs x ys d lx ly here there =
          list_eq xs (set ys c x) d (lx ∙ sym (length-set ys c x ∙ ly))
          (λ i l.
          ⊎_elim
          (λ q. ap (λ (j : ℕ). get_or xs j d) q ∙ here close_below ∙ sym (ap (λ (j : ℕ). get_or (set ys c x) j d) q ∙ get_or-set_same ys c x d (omega (arith, close_below, ly))))
          (λ n. there i (omega (arith, lx)) n ∙ sym (get_or-set_other ys c i x d (λ q. n q)))
          (same i c))

      same_marks : closed_in t.members ≡ set (closed_in t.members) c false
      same_marks =
          list_eq (closed_in t.members) (set (closed_in t.members) c false) false (sym (length-set (closed_in t.members) c false))
          (λ i l.
          ⊎_elim
          (λ q. ap (λ (j : ℕ). get_or (closed_in t.members) j false) q ∙ close_open ∙ sym (ap (λ (j : ℕ). get_or (set (closed_in t.members) c false) j false) q ∙ get_or-set_same (closed_in t.members) c false false (omega (arith, close_below, closed_length t.members))))
          (λ n. sym (get_or-set_other (closed_in t.members) c i false false (λ q. n q)))
          (same i c))
