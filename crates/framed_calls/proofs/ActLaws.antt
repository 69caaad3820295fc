-- How a refusal and each call done meet the contract, on a sound `Frames`.
use Prim.Native.Nat.{ℕ, zero, suc, ◌+◌, ◌*◌, ◌-◌, ◌≤◌, ◌<◌}
use native.Mathlib.Omega.{arith}
use mathlib.Core.Path.{◌≡◌, refl, sym, ap, ◌∙◌, subst}
use mathlib.Core.Bool.{true}
use mathlib.Core.List.{List, [], ◌∷◌, ◌++◌}
use lib.ListN.{length, length-append}
use Rattle.std.specs.Prelude.{Ok, Err, None}
use Rattle.rules.specs.declared.Short.{Short}
use Rattle.rules.specs.Limits.{max_connections, beyond_32_bits}
use Rattle.rules.specs.Model.{no_short}
use Rattle.frames.specs.declared.Framing.{Framing}
use Rattle.frames.specs.declared.Share.{Share}
use Rattle.frames.specs.Model.{Call, link, admit, offer, notice}
use Rattle.frames.specs.Calls.{verdict, refused_number, refused_short, eligibility_now}
use Rattle.frames.proofs.Figures.{framing_facts}
use Rattle.frames.proofs.Verdicts.{admit_done, offer_done}
use Rattle.frames.proofs.SoundKept.{done_sound}
use Rattle.frames.proofs.Results.{rows_fit, eligibilities_fit}
use Rattle.causes.specs.declared.refusals.Refusal.{Refusal}
use Rattle.causes.specs.Refusals.{number_of, short_of}
use Rattle.causes.specs.Notices.{Takes}
use Rattle.causes.proofs.RefusalLaws.{some_number}
use Rattle.tables.specs.Places.{places_length, rows, written_places}
use Rattle.shares.specs.Shares.{shares_in, written_shares}
use Rattle.framed_state.specs.View.{Frames, Tables, tables, view, sound_frames}
use Rattle.framed_state.specs.Said.{Said, refusal}
use Rattle.framed_state.specs.Does.{Does}
use Rattle.framed_state.proofs.SoundLaws as S
use Rattle.framed_state.proofs.SoundLaws.{is_sound, shares_kept, places_kept, notices_kept, tables_kept}
use Rattle.framed_state.proofs.DoesLaws.{refuses, acts}
use Rattle.frames.proofs.Names.{packet, placed}

module _ (h : Frames) (t : Tables) (ok : sound_frames h t ≡ true) where
  -- ---- a call that is refused as its verdict says

  pub refused : (k : Call) (why : Refusal) (v n : ℕ) (r : Said) → number_of why ≡ verdict k (view h t) → v ≡ number_of why → refused_short k (view h t) v ≡ no_short
      → n ≡ refused_number k → r ≡ refusal h v n → Does k h t r t
  refused k why v n r e i q f g =
      refuses k h t ok v (v - 1) n r (sym (i ∙ e)) (omega (arith, i, some_number why)) f
      (g ∙ ap (λ (u : Short). record { verdict = v; number = n; short = u; departed = None; kept = h }) (sym q))

  -- ---- a link

  pub linked : (l : Framing) (r : Said) (g : Frames) → verdict (link l) (view h t) ≡ 0
      → g ≡ record { link = l; clock = h.clock; wire = h.wire } → r ≡ refusal g 0 0 → Does (link l) h t r t
  linked l r g e f i = acts (link l) h t ok r t e (i ∙ ap (λ (k : Frames). refusal k 0 0) f) (tables_kept h t ok)

  -- ---- an admission

  module _ (x : Share) where
    -- refused, with what the refusal says
    pub admit_refuses : (why : Refusal) (v : ℕ) (u : Short) (r : Said) → number_of why ≡ verdict (admit x) (view h t)
        → short_of why ≡ refused_short (admit x) (view h t) (number_of why) → v ≡ number_of why → u ≡ short_of why → r ≡ refusal h v 255
        → Does (admit x) h t (record r { short = u }) t
    admit_refuses why v u r e f i j g =
        refuses (admit x) h t ok v (v - 1) 255 _ (sym (i ∙ e)) (omega (arith, i, some_number why)) refl
        (λ k. record (g k) { short = (j ∙ f ∙ ap (refused_short (admit x) (view h t)) (sym i)) k })

    pub admit_few : (n : ℕ) → verdict (admit x) (view h t) ≡ 0 → n ≡ length (shares_in t.members) → n < max_connections
    admit_few n e f = omega (arith, (admit_done (view h t) x e).few)

    -- done: the newcomer behind those who stand
    pub admit_acts : (r : Said) (n : ℕ) (m : List ℕ) → verdict (admit x) (view h t) ≡ 0 → n ≡ length (shares_in t.members) → r ≡ refusal h 0 n
        → m ≡ written_shares (shares_in t.members ++ x ∷ []) → Does (admit x) h t r (tables m t.places t.notices)
    admit_acts r n m e f g i =
        acts (admit x) h t ok r (tables m t.places t.notices) e (g ∙ ap (refusal h 0) f) (λ k. tables (i k) (places_kept h t ok k) (notices_kept h t ok k))

  -- ---- an offer

  module _ (c len tag : ℕ) (good : verdict (offer c len tag) (view h t) ≡ 0) where
    pub offer_frame : 1 ≤ h.link.frame
    offer_frame = (framing_facts h.link (S.linked h t ok (offer_done (view h t) c len tag good).set).link_in).some_frame

    pub offer_fits : eligibility_now (view h t) < beyond_32_bits
    offer_fits = (eligibilities_fit (view h t) (is_sound h t ok)).1

    -- the places are enough for one more
    pub offer_room : 5 * length (rows t.places) + 5 ≤ places_length
    offer_room =
        omega (
          arith,
          rows_fit (placed (view h t) c len tag) (done_sound (offer c len tag) (view h t) (is_sound h t ok) good),
          length-append (rows t.places) (packet (view h t) c len tag ∷ []),
        )

    pub offer_acts : (r : Said) (e : ℕ) (p : List ℕ) → e ≡ eligibility_now (view h t) → r ≡ refusal h 0 e
        → p ≡ written_places (rows t.places ++ record { connection = c; len = len; tag = tag; arrival = h.clock; eligibility = e } ∷ [])
        → Does (offer c len tag) h t r (tables t.members p t.notices)
    offer_acts r e p i j l =
        let k = l ∙ ap (λ (u : ℕ). written_places (rows t.places ++ record { connection = c; len = len; tag = tag; arrival = h.clock; eligibility = u } ∷ [])) i in
        acts (offer c len tag) h t ok r (tables t.members p t.notices) good (j ∙ ap (refusal h 0) i) (λ n. tables (shares_kept h t ok n) (k n) (notices_kept h t ok n))

  -- ---- a notice: refused or done, by its verdict

  pub notice_done : (len tag v : ℕ) → v ≡ verdict (notice len tag) (view h t) → (e : ℕ) (q : List ℕ) (r : Said)
      → Takes v h.clock len tag t.notices (Ok e) q → r ≡ refusal h 0 e → Does (notice len tag) h t r (tables t.members t.places q)
  notice_done len tag zero i e q r k j =
      acts (notice len tag) h t ok r (tables t.members t.places q) (sym i) (j ∙ ap (refusal h 0) k.1)
      (λ n. tables (shares_kept h t ok n) (places_kept h t ok n) (k.2 n))
  notice_done len tag (suc v) i e q r k j = let no : ◌≡◌ {A = ℕ} 0 (suc v) = k.0 in absurd (omega arith)

  pub notice_refused : (len tag : ℕ) (why : Refusal) (v : ℕ) (q : List ℕ) (r : Said) → number_of why ≡ verdict (notice len tag) (view h t)
      → (w : ℕ) → Takes w h.clock len tag t.notices (Err why) q → v ≡ number_of why → r ≡ refusal h v 0 → Does (notice len tag) h t r (tables t.members t.places q)
  notice_refused len tag why v q r e zero k i j = absurd (some_number why k.0)
  notice_refused len tag why v q r e (suc w) k i j =
      subst (λ (u : List ℕ). Does (notice len tag) h t r (tables t.members t.places u)) (sym k.2) (refused (notice len tag) why v 0 r e i refl refl j)
