-- What a record asks, as the code has it.
use Rattle.either_line.specs.Line.{link_levels, link_frames, admit_level, admit_share, offer, notice, close}
use Rattle.tables.specs.Options.{option_in}
use Rattle.answer_log.specs.Log.{Asked, one_call, some_ticks}
use Rattle.steps.specs.declared.asking.Wanted.{Wanted}
use Rattle.steps.specs.declared.asking.Wanted.TheVariants.{ToLink, ToFrame, ToAdmit, ToShare, ToClose, ToOffer, ToNotice, ToTick}

-- what is asked
abbrev pub asks_as : Wanted → Asked
asks_as (ToLink l) = one_call (link_levels l)
asks_as (ToFrame l) = one_call (link_frames l)
asks_as (ToAdmit x) = one_call (admit_level x)
asks_as (ToShare x) = one_call (admit_share x)
asks_as (ToClose c) = one_call (close c)
asks_as (ToOffer p) = one_call (offer p.connection p.len p.tag (option_in p.stamp))
asks_as (ToNotice len tag) = one_call (notice len tag)
asks_as (ToTick n) = some_ticks n
