-- So many steps stand there.
use Rattle.std.proofs.Common.{◌≡◌, ◌++◌, [], take, string_bytes}
use Rattle.std.specs.List.{flat_map}
use Rattle.gob_explain.specs.Names.{step_text}
use Rattle.gob_explain.proofs.text.labels.path_text.Given as goal

abbrev pub invariant-loop-step : goal.invariant-loop-step
invariant-loop-step g l =
    string_bytes l.text ≡ [] ++ flat_map (step_text (g.S.Shapes.table l.fn.shapes)) (take l.step-index l.path)
