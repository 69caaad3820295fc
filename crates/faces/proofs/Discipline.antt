-- What the proofs ask of a discipline: its rules, its code's contract, the tie of the two, and the laws of these.
use Prim.Native.Nat.{ℕ}
use mathlib.Core.Path.{◌≡◌}
use mathlib.Core.Bool.{Bool, true}
use mathlib.Core.Option.{none}
use Rattle.std.specs.Prelude.{Option, None}
use Rattle.tables.specs.Options.{option_in}
use Rattle.rules.specs.declared.Packet.{Packet}
use Rattle.rules.specs.declared.Short.{Short}
use Rattle.rules.specs.Model.{Outcome}
use Rattle.tables.specs.Lent.{Tables}
use Rattle.tables.proofs.CallLaws.{Ruled}

pub record Discipline : Type 1 where
  -- the rules
  pub State : Type 0
  pub Call : Type 0
  pub Sound : State → Type 0
  pub answer : Call → State → Outcome State
  pub refused_number : Call → ℕ
  -- what is kept between the calls and what a call tells
  pub Kept : Type 0
  pub Told : Type 0
  pub verdict : Told → ℕ
  pub number : Told → ℕ
  pub short : Told → Short
  pub departed : Told → Option Packet
  pub kept : Told → Kept
  -- the tie
  pub view : Kept → Tables → State
  pub kept_of : State → Kept
  pub written : State → Tables
  pub sound : Kept → Tables → Bool
  pub told_of : Outcome State → Told
  pub refusal : Kept → ℕ → ℕ → Told
  -- the contract
  pub tells : Call → Kept → Tables → Told
  pub leaves : Call → Kept → Tables → Tables
  pub ruled : (k : Call) (h : Kept) (t : Tables)
      → Ruled tells leaves k h t (sound h t) (told_of (answer k (view h t))) (refusal h 1 (refused_number k)) (written (answer k (view h t)).next)
  -- laws of what is told
  pub told_back : (a : Outcome State)
      → (verdict (told_of a) ≡ a.verdict)
      × (number (told_of a) ≡ a.number)
      × (short (told_of a) ≡ a.short)
      × (option_in (departed (told_of a)) ≡ a.departed)
  pub kept_told : (a : Outcome State) → kept (told_of a) ≡ kept_of a.next
  pub kept_back : (h : Kept) (t : Tables) → h ≡ kept_of (view h t)
  pub refused_as : (h : Kept) (v n : ℕ) → (verdict (refusal h v n) ≡ v) × (kept (refusal h v n) ≡ h) × (number (refusal h v n) ≡ n) × (departed (refusal h v n) ≡ None)
  -- laws of the tie
  pub is_sound : (h : Kept) (t : Tables) → sound h t ≡ true → Sound (view h t)
  pub tables_kept : (h : Kept) (t : Tables) → sound h t ≡ true → t ≡ written (view h t)
  pub read_written : (s : State) → Sound s → view (kept_of s) (written s) ≡ s
  pub written_sound : (s : State) → Sound s → sound (kept_of s) (written s) ≡ true
  -- laws of the rules
  pub next_sound : (k : Call) (s : State) → Sound s → Sound (answer k s).next
  pub never_1 : (k : Call) (s : State) → Sound s → (answer k s).verdict ≡ 1 → ⊥
  pub refuses : (k : Call) (s : State) → ((answer k s).verdict ≡ 0 → ⊥)
      → ((answer k s).next ≡ s) × ((answer k s).departed ≡ none) × ((answer k s).number ≡ refused_number k)
