use Rattle.std.proofs.Common.{◌≡◌, ◌∷◌, ◌++◌, [], length, refl, ap, arith}
use Rattle.gob_go_source.specs.Grammar.{one_name, more_names}
use Rattle.gob_go_source.proofs.descent.read_names.Goals as goal

pub commas-init : goal.commas-init
commas-init c =
    let items : c.push.new.self.items ≡ c.in_ok-first.first ∷ [] = grind arith in
    rw items (one_name c.in_ok-first.ensures)

pub commas-preserved : goal.commas-preserved
commas-preserved c =
    let items : c.push-in-commas.new.self.items ≡ c.commas.names.items ++ c.in_ok-name.name ∷ [] = grind arith in
    rw items (more_names c.commas.invariant (c.commas-test.ensures.taken refl) c.in_ok-name.ensures)

pub commas-smaller : goal.commas-smaller
commas-smaller c =
    omega (arith, ap length (c.commas-test.ensures.taken refl), ap length c.in_ok-name.ensures)
