-- The texts of the items that were passed stand there.
use Rattle.std.proofs.Common.{◌≡◌, ℕ, ◌+◌, ◌-◌, ◌<◌, List, Option, true, false}
use Rattle.gob_types.specs.Defined.{types}
use Rattle.gob_stream.specs.Calls.ReaderOf.{HasReadBy, session_of}
use Rattle.gob_stream.specs.Stepping.{StandsBy}
use Rattle.gob_tool.specs.Machine.Texts.{AppendsTexts}
use Rattle.gob_tool.specs.Texts.{IsTextBy}
use Rattle.gob_tool.proofs.texts.pass_texts.Given as goal

abbrev pub invariant-items : goal.invariant-items
invariant-items g l =
    let d = g.S.Steps.stepping in
    (d.limits (session_of l.reader) ≡ d.limits (session_of l.fn.reader))
    × StandsBy d (session_of l.reader)
    × (l.passed ≡ true → d.taken (session_of l.fn.reader) < d.taken (session_of l.reader))
    × (l.passed ≡ false → (l.reader ≡ l.fn.reader) × (l.gathered.items ≡ l.fn.gathered.items))
    × ((read now : Option (List ℕ)) (given : List g.S.Steps.Told) → HasReadBy d l.fn.reader read now given
    → AppendsTexts d (IsTextBy d (g.M.TextSteps.of_item l.texts) (g.M.TextSteps.of_value l.texts)) l.fn.reader l.reader
    read now given l.fn.gathered.items l.gathered.items)
    × g.M.TextSteps.fits l.texts l.kept (types (d.table (session_of l.reader)))

abbrev pub decreases-items : goal.decreases-items
decreases-items g l =
    let d = g.S.Steps.stepping in
    (d.limits (session_of l.reader)).stream + 9 - d.taken (session_of l.reader)
