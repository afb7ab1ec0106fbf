use Rattle.std.proofs.Common.{◌≡◌, ◌∙◌, ◌++◌, ◌∷◌, [], length-append, refl, sym, arith, rules}
use Rattle.gob_value.proofs.PublicLaws.{view-Fields, view-Many, view-Pairs}
use Rattle.gob_make.specs.Zero.{of_array, of_map, of_slice, of_struct, of_type}
use Rattle.gob_make.proofs.ZeroLaws.{all_zeros, no_zero_yet, one_more_zero, zero_as}
use Rattle.gob_make.proofs.zero.+zeros.Goals as goal

pub fill-zeros-init : goal.fill-zeros-init
fill-zeros-init g t c = record {
  goes = no_zero_yet (g.S.Shapes.table c.args.table.now) c.args.id c.args.elements.now.items;
  within = c.requires;
  same = record { tokens = refl; lenient = refl };
}

pub fill-zeros-preserved : goal.fill-zeros-preserved
fill-zeros-preserved g t c =
    let T = g.S.Shapes.table c.args.table.now in
    let ys = c.zeros.elements.items in
    let y = c.in_ok-zero.zero in
    let items : c.push.new.self.items ≡ ys ++ y ∷ [] = grind arith in
    let more = length-append ys (y ∷ []) in
    let test = c.zeros-test.true in
    record {
      goes = rw items (one_more_zero T c.args.id c.args.elements.now.items ys y c.zeros.invariant.goes
          c.in_ok-zero.ensures.zero);
      within = rw items (omega (arith, more, test));
      same = record {
        tokens = c.in_ok-zero.ensures.same.tokens ∙ c.zeros.invariant.same.tokens;
        lenient = c.in_ok-zero.ensures.same.lenient ∙ c.zeros.invariant.same.lenient;
      };
    }

pub fill-returns-clause-filled : goal.fill-returns-clause-filled
fill-returns-clause-filled g t c =
    let test = c.zeros-test.false in
    let within = c.zeros.invariant.within in
    all_zeros (g.S.Shapes.table c.args.table.now) c.args.id c.args.elements.now.items c.zeros.elements.items
    c.args.count c.zeros.invariant.goes (omega (arith, test, within))

pub zero_value-returns-in-Basic-clause-zero : goal.zero_value-returns-in-Basic-clause-zero
zero_value-returns-in-Basic-clause-zero g t c =
    of_type (sym c.in-Some.ensures) (rw c.in-Basic.is (c.zero_of.ensures (g.S.Shapes.table c.args.table.now)))

pub zero_value-returns-in_ok-fill-in-Array-clause-zero : goal.zero_value-returns-in_ok-fill-in-Array-clause-zero
zero_value-returns-in_ok-fill-in-Array-clause-zero g t c =
    let T = g.S.Shapes.table c.args.table.now in
    let none : c.new-elements.result.items ≡ [] = search rules in
    let filled = rw none at c.in_ok-fill-in-Array.ensures.filled in
    rw (view-Many c.fill.new.elements) (zero_as _ _ _ _ _ (sym c.in-Some.ensures) c.in-Array.is (of_array filled))

pub zero_value-returns-in-Slice-clause-zero : goal.zero_value-returns-in-Slice-clause-zero
zero_value-returns-in-Slice-clause-zero g t c =
    let none : c.new.result.items ≡ [] = search rules in
    rw (view-Many c.new.result, none) (zero_as _ _ _ _ _ (sym c.in-Some.ensures) c.in-Slice.is of_slice)

pub zero_value-returns-in-Map-clause-zero : goal.zero_value-returns-in-Map-clause-zero
zero_value-returns-in-Map-clause-zero g t c =
    let none : c.new-in-Map.result.items ≡ [] = search rules in
    rw (view-Pairs c.new-in-Map.result, none) (zero_as _ _ _ _ _ (sym c.in-Some.ensures) c.in-Map.is of_map)

pub zero_value-returns-in-Struct-clause-zero : goal.zero_value-returns-in-Struct-clause-zero
zero_value-returns-in-Struct-clause-zero g t c =
    let none : c.new-in-Struct.result.items ≡ [] = search rules in
    rw (view-Fields c.new-in-Struct.result, none) (zero_as _ _ _ _ _ (sym c.in-Some.ensures) c.in-Struct.is of_struct)
