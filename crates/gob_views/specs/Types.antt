-- What the run that writes the types of a stream answers, and what it has written then. (docs/FORMAT.md, Types as
-- source; The program: this project's own.)
use Rattle.std.specs.Prelude.{ℕ, List, [], Option, Result, Ok, Err}
use Rattle.std.specs.Io.KnownBytes.{Appends}
use Rattle.gob_types.specs.Table.{Table}
use Rattle.gob_types.specs.declared.id.TypeId.{TypeId}
use Rattle.gob_source.specs.Program.{go_program}
use Rattle.gob_source.specs.Registered.{Naming}
use Rattle.gob_source.specs.Source.{named_source}
use Rattle.gob_stream.specs.Bounds.{Bounds}
use Rattle.gob_stream.specs.Reading.{SomeTaken}
use Rattle.gob_filled.specs.Stream.{FilledItem}
use Rattle.gob_go.specs.Ids.{defined_ids}
use Rattle.gob_go.specs.Reading.{LeadsBehind}
use Rattle.gob_tool.specs.declared.fault.ToolFault.{ToolFault}
use Rattle.gob_tool.specs.declared.fault.ToolFault.TheVariants as fault
use Rattle.gob_tool.specs.Showing.{AppendsPrefix}
use Rattle.gob_views.specs.Gathering.{registered_names, value_types}
use Rattle.gob_views.specs.declared.types.SourceForm.{SourceForm}
use Rattle.gob_views.specs.declared.types.SourceForm.TheVariants as form
use Rattle.gob_tool.specs.RunningGo.{BeginsGo, EndsWholeGo, IsRefusedGo}

-- a file of this form, of these types with their names, and for values of these
abbrev pub source_text : SourceForm → Table → (ids : List TypeId) → List Naming → (values : List TypeId) → List ℕ
source_text form.Types T ids names values = named_source T ids names
source_text form.Program T ids names values = go_program T ids names values

-- this holds of the file of the types that the items define, by all types where those bytes lead that were read, with
-- the names under which values of them fill interfaces, and for the types of the items' values
pub record OfSource (form : SourceForm) (L : Bounds) (bytes : List ℕ) (now : Option (List ℕ)) (P : List ℕ → Type 0)
    (items : List FilledItem) : Type 0 where
  pub types : Table
  pub known : SomeTaken bytes now (λ came. LeadsBehind L came items types)
  pub holds : P (source_text form types (defined_ids items) (registered_names items) (value_types items))

-- over an input with these bytes left and an output with the old bytes: the source of the types that it defines went
-- out, and nothing else, or where it is refused that of those of the items before; after a failed write a prefix of it,
-- and after a failed read or without memory nothing
abbrev pub TypesAnswers : SourceForm → Bounds → (bytes : List ℕ) → (now old new : Option (List ℕ))
    → Result (Unit {0}) ToolFault → Type 0
TypesAnswers form L bytes now old new (Ok _) = EndsWholeGo L bytes now (OfSource form L bytes now (Appends old new))
TypesAnswers form L bytes now old new (Err (fault.Refused R)) =
    IsRefusedGo L bytes R (OfSource form L bytes now (Appends old new))
TypesAnswers form L bytes now old new (Err fault.Write) =
    BeginsGo L bytes (OfSource form L bytes now (AppendsPrefix old new))
TypesAnswers form L bytes now old new (Err fault.Read) = Appends old new []
TypesAnswers form L bytes now old new (Err fault.Memory) = Appends old new []
TypesAnswers form L bytes now old new (Err (fault.Wanted R)) = ⊥
TypesAnswers form L bytes now old new (Err fault.NoWantedType) = ⊥
TypesAnswers form L bytes now old new (Err (fault.Clash path reason)) = ⊥
TypesAnswers form L bytes now old new (Err (fault.LeftOut path number)) = ⊥
