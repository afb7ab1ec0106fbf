use Rattle.std.proofs.Common.{rules, ◌≡◌, [], refl}
use Rattle.gob_go.specs.declared.filled.Filled.{out-roll-Filled}
use Rattle.gob_tool.proofs.Profile.FormLaws.{unfilled_means}
use Rattle.gob_tool.proofs.go.whole_form.unfilled.Goals as goal

pub returns : goal.returns
returns c =
    let none : c.new.result.items ≡ [] = search rules in
    λ T v sp. unfilled_means (simp (out-roll-Filled) refl) (simp (out-roll-Filled) none) sp
