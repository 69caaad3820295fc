-- Laws of a whole tick, between a `Frames` with its tables and the state that they stand for.
use Prim.Native.Nat.{ℕ}
use mathlib.Core.Path.{◌≡◌, refl, sym, ap, ◌∙◌}
use mathlib.Core.Bool.{true}
use mathlib.Core.List.{List}
use mathlib.Core.Option.{Option, none}
use Rattle.rules.specs.declared.Packet.{Packet}
use Rattle.rules.specs.Service.{Wire as Line, wire_tick, sent}
use Rattle.frames.specs.Model.{tick, Answer, wire}
use Rattle.frames.specs.Service.{moves_on}
use Rattle.frames.specs.Calls.{verdict}
use Rattle.line.specs.declared.Sent.{Sent}
use Rattle.line.specs.Told.{passed_on}
use Rattle.line.specs.Wires.{line_in, sent_of, Leaves}
use Rattle.framed_state.specs.View.{Frames, Tables, tables, view, written, sound_frames}
use Rattle.framed_state.specs.Said.{Said, said_of}
use Rattle.framed_state.specs.Does.{Does}
use Rattle.framed_state.proofs.SoundLaws.{shares_kept}
use Rattle.framed_state.proofs.DoesLaws.{acts}
use Rattle.frames.proofs.Names.{chosen, ticked_is}

module _ (h : Frames) (t : Tables) where
  -- what the line gives, with the clock moved on
  gives : (o : Option Packet) (l : Line) → passed_on h (sent_of o l) ≡ said_of (moves_on (view h t) o l)
  gives o l = refl

  pub tick_acts : sound_frames h t ≡ true → verdict tick (view h t) ≡ 0 → (x : Sent) (r : Said) (p n : List ℕ)
      → Leaves (wire_tick h.link.silence sent (chosen (view h t)) none (line_in h.wire t.places t.notices)) x p n → r ≡ passed_on h x
      → Does tick h t r (tables t.members p n)
  tick_acts ok e x r p n k f =
      let a = wire_tick h.link.silence sent (chosen (view h t)) none (wire (view h t)) in
      let left : tables t.members p n ≡ written (moves_on (view h t) a.departed a.wire).next = λ i. tables (shares_kept h t ok i) (k.1 i) (k.2 i) in
      acts tick h t ok r (tables t.members p n) e
      (f ∙ ap (λ (y : Sent). passed_on h y) k.0 ∙ gives a.departed a.wire ∙ ap said_of (sym (ticked_is (view h t))))
      (left ∙ ap (λ (x : Answer). written x.next) (sym (ticked_is (view h t))))
