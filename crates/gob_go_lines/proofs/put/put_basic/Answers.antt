use Rattle.std.proofs.Common.{◌≡◌, ◌∙◌, ℕ, List, ◌++◌, ap, arith, subst, sym}
use Rattle.std.proofs.lemmas.Result.{on_ok_weaker}
use Rattle.gob_types.specs.Defined.{types}
use Rattle.gob_value.specs.View.{view}
use Rattle.gob_value.specs.Tree.{Tree}
use Rattle.gob_json.specs.Json.{no_type}
use Rattle.gob_go_lines.proofs.LeafLaws.{each_byte, leaf_said, leaf_put}
use Rattle.gob_go_lines.proofs.KindLaws.{fault_puts}
use Rattle.gob_go_lines.proofs.put.put_basic.Goals as goal

pub returns-clause-says : goal.returns-clause-says
returns-clause-says c =
    let T = types c.args.table.now in
    let value = c.in_ok-value.value in
    let o = each_byte c.put_leaf.new.out.items c.type_inv.out in
    leaf_said T c.args.id c.put_leaf.result (view value) c.args.tokens.now c.read_basic.new.tokens c.args.out.now.items
    c.put_leaf.new.out.items c.requires o (c.in_ok-value.ensures.read T no_type) c.put_leaf.ensures.ok

pub returns-in_err-value-clause-whole : goal.returns-in_err-value-clause-whole
returns-in_err-value-clause-whole c = λ v j b rest spelled holds is said.
    fault_puts c.from_residual.result c.in_err-value.field-0.0 c.read_basic.new.tokens rest c.args.out.now.items
    c.args.out.now.items b c.from_residual.ensures.1
    (c.in_err-value.ensures.whole (types c.args.table.now) no_type v j b rest spelled holds is said)

pub returns-clause-whole : goal.returns-clause-whole
returns-clause-whole c = λ v j b rest spelled holds is said.
    let it = c.in_ok-value.ensures.whole (types c.args.table.now) no_type v j b rest spelled holds is said in
    leaf_put (types c.args.table.now) c.args.id c.put_leaf.result (view c.in_ok-value.value) c.read_basic.new.tokens
    rest c.args.out.now.items
    c.put_leaf.new.out.items c.requires spelled it.0 it.1 c.put_leaf.ensures.ok c.put_leaf.ensures.memory
