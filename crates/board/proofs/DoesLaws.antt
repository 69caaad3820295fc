-- How an answer meets the contract of a call from C: where the tables are not sound, and where they are, by what `both` replies.
use Prim.Native.Nat.{ℕ, ◌<◌}
use native.Mathlib.Omega.{arith}
use mathlib.Core.Path.{◌≡◌, refl, sym, ap, ◌∙◌}
use mathlib.Core.Bool.{Bool, true, false}
use mathlib.Core.Logic.{inl, inr}
use mathlib.Core.List.{List}
use Rattle.rules.specs.Limits.{beyond_32_bits}
use Rattle.either_line.specs.Line.{Request, link_levels, link_frames, admit_level, admit_share, offer, notice, close, tick, Reply, respond}
use Rattle.either_line.proofs.Results.{answers_fit}
use Rattle.tables.specs.Lent.{Tables}
use Rattle.tables.proofs.CallLaws as C
use Rattle.both.specs.declared.Kept.{Kept}
use Rattle.both.specs.View.{view, written, sound_kept}
use Rattle.both.specs.Replied.{Replied, replied_of, refusal}
use Rattle.both.specs.Does.{Does as BothDoes}
use Rattle.both.proofs.SoundLaws.{is_sound}
use Rattle.both.proofs.DoesLaws as B
use Rattle.board.specs.Numbers.{kept_in, numbers_of, sound_lent}
use Rattle.board.specs.Calls.{Call, reply, refused_by, Spoken, spoken, spoken_of}
use Rattle.board.specs.Ticks.{run_ticks}
use Rattle.board.specs.Does.{rules_tell, tells, leaves, Does}
use Rattle.board.proofs.NumberLaws.{sound_kept_in}

-- what is read of sound tables is sound
pub kept_sound : (l : List ℕ) (t : Tables) → sound_lent l t ≡ true → (h : Kept) → h ≡ kept_in l → sound_kept h t ≡ true
kept_sound l t ok h e = ap (λ (x : Kept). sound_kept x t) e ∙ sound_kept_in l t ok

-- the units that an admission is told fit 32 bits
pub units_fit : (j : Request) (h : Kept) (t : Tables) → sound_kept h t ≡ true → (r : Replied) (u : Tables) → BothDoes j h t r u → r.short.units < beyond_32_bits
units_fit j h t ok r u D = omega (arith, (answers_fit j (view h t) (is_sound h t ok)).units, ap (λ (x : Replied). x.short.units) (B.told_as j h t ok r u D))

-- what a call tells of a reply, part by part
parts : (k : Call) (r : Replied) (l : List ℕ) → spoken_of k r l ≡ spoken r.verdict (spoken_of k r l).numbers (spoken_of k r l).departure l
parts (inl (link_levels x)) r l = refl
parts (inl (link_frames x)) r l = refl
parts (inl (admit_level x)) r l = refl
parts (inl (admit_share x)) r l = refl
parts (inl (offer c len tag st)) r l = refl
parts (inl (notice len tag)) r l = refl
parts (inl (close c)) r l = refl
parts (inl tick) r l = refl
parts (inr n) r l = refl

pub verdict_of : (k : Call) (r : Replied) (l : List ℕ) → (spoken_of k r l).verdict ≡ r.verdict
verdict_of k r l = ap (λ (a : Spoken). a.verdict) (parts k r l)

pub line_left : (k : Call) (r : Replied) (l : List ℕ) → (spoken_of k r l).line ≡ l
line_left k r l = ap (λ (a : Spoken). a.line) (parts k r l)

module _ (k : Call) (l : List ℕ) (t : Tables) where
  ruled : C.Ruled tells leaves k l t (sound_lent l t) (rules_tell k (view (kept_in l) t)) (spoken_of k (refusal (kept_in l) 1 (refused_by k)) l)
      (written (reply k (view (kept_in l) t)).next)
  unfolding tells leaves
  ruled = record { tells_is = refl; leaves_is = refl }

  -- not sound
  pub refuses : (b : Bool) → b ≡ sound_lent l t → b ≡ false → Does k l t (spoken_of k (refusal (kept_in l) 1 (refused_by k)) l) t
  refuses b e f = C.refuses_unsound ruled (sym e ∙ f) _ refl

  module _ (ok : sound_lent l t ≡ true) where
    -- sound: the reply, written back
    pub answers : (r : Replied) (u : Tables) (ns ds l' : List ℕ)
        → r ≡ replied_of (reply k (view (kept_in l) t))
        → u ≡ written (reply k (view (kept_in l) t)).next
        → ns ≡ (spoken_of k r l').numbers
        → ds ≡ (spoken_of k r l').departure
        → l' ≡ numbers_of r.kept
        → Does k l t (spoken r.verdict ns ds l') u
    answers r u ns ds l' e f i d g =
        C.answers_as ruled ok (spoken r.verdict ns ds l') u
        (ap (λ (x : List ℕ). spoken r.verdict x ds l') i
        ∙ ap (λ (x : List ℕ). spoken r.verdict (spoken_of k r l').numbers x l') d
        ∙ sym (parts k r l')
        ∙ ap (spoken_of k r) g
        ∙ ap (λ (x : Replied). spoken_of k x (numbers_of x.kept)) e) f

    -- a request, as `both` answers it
    pub does : (j : Request) → k ≡ inl j → (h : Kept) → h ≡ kept_in l → (r : Replied) (u : Tables) → BothDoes j h t r u
        → (ns ds l' : List ℕ) → ns ≡ (spoken_of k r l').numbers → ds ≡ (spoken_of k r l').departure → l' ≡ numbers_of r.kept
        → Does k l t (spoken r.verdict ns ds l') u
    does j a h e r u D ns ds l' i d g =
        let s = kept_sound l t ok h e in
        let q : respond j (view h t) ≡ reply k (view (kept_in l) t) =
        ap (λ (x : Kept). respond j (view x t)) e ∙ ap (λ (x : Call). reply x (view (kept_in l) t)) (sym a) in
        answers r u ns ds l' (B.told_as j h t s r u D ∙ ap replied_of q) (B.left_as j h t s r u D ∙ ap (λ (x : Reply). written x.next) q) i d g

    -- many ticks
    pub does_ticks : (n : ℕ) → k ≡ inr n → (h : Kept) → h ≡ kept_in l → (r : Replied) (u : Tables)
        → (r ≡ replied_of (run_ticks n (view h t))) × (u ≡ written (run_ticks n (view h t)).next)
        → (ns ds l' : List ℕ) → ns ≡ (spoken_of k r l').numbers → ds ≡ (spoken_of k r l').departure → l' ≡ numbers_of r.kept
        → Does k l t (spoken r.verdict ns ds l') u
    does_ticks n a h e r u D ns ds l' i d g =
        let q : run_ticks n (view h t) ≡ reply k (view (kept_in l) t) =
        ap (λ (x : Kept). run_ticks n (view x t)) e ∙ ap (λ (x : Call). reply x (view (kept_in l) t)) (sym a) in
        answers r u ns ds l' (D.0 ∙ ap replied_of q) (D.1 ∙ ap (λ (x : Reply). written x.next) q) i d g

    -- .. and no other
    module _ (told : Spoken) (u : Tables) (D : Does k l t told u) where
      pub told_as : told ≡ rules_tell k (view (kept_in l) t)
      told_as = C.told_as ruled ok told u D

      pub left_as : u ≡ written (reply k (view (kept_in l) t)).next
      left_as = C.left_as ruled ok told u D
