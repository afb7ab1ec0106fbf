-- The front that the definitions of a stream are.
use Rattle.std.proofs.Common.{◌≡◌, ◌∙◌, ℕ, List, [], length, refl, subst, Option, Some, Result, Ok, Err, IfOk}
use Rattle.gob_stream.specs.Bounds.{Bounds}
use Rattle.gob_filled.specs.Outcome.{profile}
use Rattle.gob_tool.specs.Answering.{EndsWhole}
use Rattle.gob_tool.specs.declared.fault.ToolFault.{ToolFault}
use Rattle.gob_split.specs.Definitions.{AppendsDefinitions}
use Rattle.gob_salvage.specs.Running.{IsOf}
use Rattle.gob_salvage.specs.declared.keeping.Salvaged.{Salvaged}
use Rattle.gob_salvage.proofs.StreamsLaws.{salvaged_whole}
use Rattle.gob.specs.Salvaging.{IsFrontOf}

front_so : (L : Bounds) (bytes defining : List ℕ) (now : Option (List ℕ)) (front : Salvaged)
    → EndsWhole profile L bytes now (AppendsDefinitions L [] defining) → IsOf L defining front
    → IsFrontOf L bytes front
front_so L bytes defining now front e kept =
    let is = subst (λ (d : List ℕ). IsOf L d front) e.holds.appended kept in
    record {
      items = e.items;
      table = e.table;
      stream = e.stream;
      defining = e.holds.defining;
      are = e.holds.are;
      kept = is;
      all = λ few room. let all = salvaged_whole (e.holds.are L refl refl few room) is in (all.0, all.1);
    }

pub front_if : (L : Bounds) (bytes defining : List ℕ) (now : Option (List ℕ)) (res : Result Salvaged ToolFault)
    → EndsWhole profile L bytes now (AppendsDefinitions L [] defining) → IfOk res (IsOf L defining)
    → IfOk res (IsFrontOf L bytes)
front_if L bytes defining now (Ok front) e h = front_so L bytes defining now front e h
front_if L bytes defining now (Err f) e h = tt
