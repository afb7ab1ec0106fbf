use Rattle.gob_nodes.specs.Says.{leaf_at}
use Rattle.gob_nodes.proofs.PutLaws.{fault_puts, leaf_none, leaf_put, leaf_there}
use Rattle.gob_nodes.proofs.part.put_leaf.Goals as goal

pub returns-clause-says : goal.returns-clause-says
returns-clause-says c =
    let put = c.in_ok-put_content.ensures.says in
    record {
      bytes = put.bytes;
      says = leaf_at c.in_ok-node.ensures.there put.spelled;
      appended = put.appended;
    }

pub returns-clause-whole : goal.returns-clause-whole
returns-clause-whole c = λ b to h.
    leaf_put c.args.out.now.items c.put_content.new.out.items c.in_ok-node.ensures.there
    c.in_ok-put_content.ensures.says
    h

pub returns-in_err-put_content-clause-whole : goal.returns-in_err-put_content-clause-whole
returns-in_err-put_content-clause-whole c = λ b to h.
    fault_puts c.from_residual-in_err-put_content.result c.in_err-put_content.field-0.0 c.args.places.now to
    c.args.out.now.items c.put_content.new.out.items b c.from_residual-in_err-put_content.ensures.1
    (λ w. leaf_none c.in_ok-node.ensures.there (c.in_err-put_content.ensures.none w) h)

pub returns-in_err-node-clause-whole : goal.returns-in_err-node-clause-whole
returns-in_err-node-clause-whole c = λ b to h.
    fault_puts c.from_residual.result c.in_err-node.field-0.0 c.args.places.now to
    c.args.out.now.items c.args.out.now.items b c.from_residual.ensures.1
    (λ w. leaf_there c.in_err-node.ensures.none h)
