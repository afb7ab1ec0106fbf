-- What a line answers that is told what a visitor is told between two parts.
use Rattle.std.specs.Prelude.{List, Result}
use Rattle.gob_num.specs.declared.memory.Memory.{Memory}
use Rattle.gob_types.specs.Table.{Table}
use Rattle.gob_walk.specs.Event.{Event}
use Rattle.gob_plain.specs.declared.line.Line.{Line}
use Rattle.gob_plain.specs.declared.style.Style.{Style}
use Rattle.gob_plain.specs.declared.visitor.VisitorPlace.TheVariants as place
use Rattle.gob_plain.specs.PlainEvents.{SaysEvents}
use Rattle.gob_plain.specs.PutsTokens.{PutsSome}

abbrev pub TellsTokens : Style → Table → Line → Line → List Event → Result (Unit {0}) Memory → Type 0
TellsTokens style T old new es r = PutsSome r old new (λ ts. SaysEvents style T place.Free es ts place.Free)
