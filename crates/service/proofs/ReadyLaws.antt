-- A tick's needs can be met: formed tables and a sound line, before the clock's end, are ready for it.
use Prim.Native.Nat.{ℕ, ◌<◌}
use mathlib.Core.Path.{◌≡◌}
use mathlib.Core.Bool.{true}
use mathlib.Core.List.{List}
use mathlib.Core.Logic.{◌⊎◌}
use Rattle.rules.specs.Limits.{clock_end, notice_number}
use Rattle.rules.specs.Words.{All}
use Rattle.rules.specs.Service.{early_at}
use Rattle.rules.proofs.LineWords.{Idle, InService, NoticeInService}
use Rattle.tables.specs.Table.{formed}
use Rattle.tables.specs.Places.{rows, packet_width, places_length}
use Rattle.tables.specs.Notices.{notices_formed}
use Rattle.line.proofs.LineLaws.{in_place_of}
use Rattle.state.specs.View.{Hub, tables, view}
use Rattle.service.specs.Ready.{Ready}

module _ (h : Hub) (cs t q : List ℕ) where
  pub ready : formed packet_width places_length t ≡ true → notices_formed q ≡ true
      → All (λ p. p.connection ≡ notice_number → ⊥) (rows t)
      → Idle (view h (tables cs t q)) ⊎ (InService (view h (tables cs t q)) ⊎ NoticeInService (view h (tables cs t q)))
      → h.clock < clock_end → Ready h t q
  ready p n o l c = record { others = o; time = c; in_place = in_place_of (early_at (view h (tables cs t q))) h.clock h.wire t q o p n l }
