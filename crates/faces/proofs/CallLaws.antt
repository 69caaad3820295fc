-- How a refusal and a call done meet the contract, and what an answer is that meets it, for any discipline.
use Prim.Native.Nat.{ℕ, suc}
use mathlib.Core.Path.{◌≡◌, sym, ap, ◌∙◌}
use mathlib.Core.Bool.{Bool, true, not}
use borrow.Author.Tests.{not-true}
use Rattle.rules.specs.declared.Short.{Short}
use Rattle.rules.specs.Model.{Outcome}
use Rattle.tables.specs.Lent.{Tables}
use Rattle.tables.specs.Calls.{DoesBy}
use Rattle.tables.proofs.CallLaws as C
use Rattle.faces.proofs.Discipline.{Discipline}

-- how a discipline's rules settle a call by its verdict, and what is told of a refusal
pub record Settled (D : Discipline) : Type 0 where
  pub rule : D.Call → D.State → ℕ
  pub settle : D.Call → D.State → ℕ → Outcome D.State
  pub refusal_short : D.Kept → ℕ → ℕ → Short → D.Told
  pub refused_short : D.Call → D.State → ℕ → Short
  pub answer_is : (k : D.Call) (s : D.State) → D.answer k s ≡ settle k s (rule k s)
  pub told_is : (k : D.Call) (h : D.Kept) (t : Tables) (w : ℕ)
      → D.told_of (settle k (D.view h t) (suc w)) ≡ refusal_short h (suc w) (D.refused_number k) (refused_short k (D.view h t) (suc w))
  pub next_is : (k : D.Call) (s : D.State) (w : ℕ) → (settle k s (suc w)).next ≡ s

module _ (D : Discipline) where
  open D use {State, Call, answer, refused_number, Kept, Told, view, written, sound, told_of, refusal, tells, leaves, ruled, tables_kept}

  abbrev pub Does : Call → Kept → Tables → Told → Tables → Type 0
  Does k h before told after = DoesBy tells leaves k h before told after

  -- the test b has said that it is not sound: number 1, and nothing changes
  abbrev pub RefusesUnsound : Type 0
  RefusesUnsound = (k : Call) (h : Kept) (t : Tables) (b : Bool) → b ≡ sound h t → not b ≡ true → (r : Told) → r ≡ refusal h 1 (refused_number k) → Does k h t r t

  pub refuses_unsound : RefusesUnsound
  refuses_unsound k h t b e f r g = C.refuses_unsound (ruled k h t) (sym e ∙ not-true b f) r g

  -- sound: the rules' answer, written back, and no other
  abbrev pub ToldAs : Type 0
  ToldAs = (k : Call) (h : Kept) (t : Tables) → sound h t ≡ true → (r : Told) (u : Tables) → Does k h t r u → r ≡ told_of (answer k (view h t))

  pub told_as : ToldAs
  told_as k h t ok r u E = C.told_as (ruled k h t) ok r u E

  abbrev pub LeftAs : Type 0
  LeftAs = (k : Call) (h : Kept) (t : Tables) → sound h t ≡ true → (r : Told) (u : Tables) → Does k h t r u → u ≡ written (answer k (view h t)).next

  pub left_as : LeftAs
  left_as k h t ok r u E = C.left_as (ruled k h t) ok r u E

  module _ (S : Settled D) where
    open S use {rule, settle, refusal_short, refused_short, answer_is, told_is, next_is}

    by_verdict : (k : Call) (h : Kept) (t : Tables) → sound h t ≡ true → (v : ℕ) → rule k (view h t) ≡ v → (r : Told) (u : Tables)
        → r ≡ told_of (settle k (view h t) v) → u ≡ written (settle k (view h t) v).next → Does k h t r u
    by_verdict k h t ok v e r u a b =
        let same : settle k (view h t) v ≡ answer k (view h t) = ap (settle k (view h t)) (sym e) ∙ sym (answer_is k (view h t)) in
        C.answers_as (ruled k h t) ok r u (a ∙ ap told_of same) (b ∙ ap (λ (x : Outcome State). written x.next) same)

    -- a refusal: the rules leave the state, and writing what was read gives the tables back
    abbrev pub Refuses : Type 0
    Refuses =
        (k : Call) (h : Kept) (t : Tables) → sound h t ≡ true → (v w n : ℕ) (r : Told) → rule k (view h t) ≡ v → v ≡ suc w → n ≡ refused_number k
        → r ≡ refusal_short h v n (refused_short k (view h t) v) → Does k h t r t

    pub refuses : Refuses
    refuses k h t ok v w n r e f g i =
        by_verdict k h t ok (suc w) (e ∙ f) r t
        (i
        ∙ ap (λ (u : ℕ). refusal_short h u n (refused_short k (view h t) u)) f
        ∙ ap (λ (m : ℕ). refusal_short h (suc w) m (refused_short k (view h t) (suc w))) g
        ∙ sym (told_is k h t w))
        (tables_kept h t ok ∙ ap written (sym (next_is k (view h t) w)))

    -- a call done
    abbrev pub Acts : Type 0
    Acts =
        (k : Call) (h : Kept) (t : Tables) → sound h t ≡ true → (r : Told) (u : Tables) → rule k (view h t) ≡ 0
        → r ≡ told_of (settle k (view h t) 0) → u ≡ written (settle k (view h t) 0).next → Does k h t r u

    pub acts : Acts
    acts k h t ok r u e = by_verdict k h t ok 0 e r u
