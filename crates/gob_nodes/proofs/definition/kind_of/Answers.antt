use Rattle.std.proofs.Common.{arith, sym, subst}
use Rattle.gob_types.specs.declared.kind.Kind.TheVariants as kind
use Rattle.gob_nodes.specs.Shapes.{NamesKind, names_struct}
use Rattle.gob_nodes.proofs.ShapeLaws.{array_named, map_named, opaque_named, slice_named}
use Rattle.gob_nodes.proofs.definition.kind_of.Goals as goal

pub returns-in_ok-type_of-in-13-len1-clause-says : goal.returns-in_ok-type_of-in-13-len1-clause-says
returns-in_ok-type_of-in-13-len1-clause-says c =
    let m = c.in-13-len1 in
    array_named c.args.behind.now _ (omega (arith, m.len_at_least, m.len_below)) m.is-0
    c.in_ok-type_of-in-13-len1.ensures.says

pub returns-in_ok-type_of-in-9-len1-clause-says : goal.returns-in_ok-type_of-in-9-len1-clause-says
returns-in_ok-type_of-in-9-len1-clause-says c =
    let m = c.in-9-len1 in
    slice_named c.args.behind.now _ (omega (arith, m.len_at_least, m.len_below)) m.is-0
    c.in_ok-type_of-in-9-len1.ensures.says

pub returns-in_ok-type_of-in-10-len2-2-clause-says : goal.returns-in_ok-type_of-in-10-len2-2-clause-says
returns-in_ok-type_of-in-10-len2-2-clause-says c =
    let m = c.in-10-len2 in
    map_named c.args.behind.now _ _ (omega (arith, m.len_at_least, m.len_below)) m.is-0
    c.in_ok-type_of-in-10-len2.ensures.says c.in_ok-type_of-in-10-len2-2.ensures.says

pub returns-in_ok-fields_of-in-11-default-clause-says : goal.returns-in_ok-fields_of-in-11-default-clause-says
returns-in_ok-fields_of-in-11-default-clause-says c =
    subst (λ fs. NamesKind c.args.given.now.bytes.now c.args.first c.args.behind.now (kind.Struct fs))
    (sym c.new.ensures)
    (names_struct c.in-11-default.is-0 c.in_ok-fields_of-in-11-default.ensures.says)

pub returns-in_ok-marshal_of-in-12-empty-clause-says : goal.returns-in_ok-marshal_of-in-12-empty-clause-says
returns-in_ok-marshal_of-in-12-empty-clause-says c =
    opaque_named c.args.behind.now c.in-12-empty.len_below c.in-12-empty.is-0
    c.in_ok-marshal_of-in-12-empty.ensures.says
