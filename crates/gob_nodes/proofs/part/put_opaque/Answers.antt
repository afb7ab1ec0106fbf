use Rattle.gob_nodes.specs.Says.{opaque_at}
use Rattle.gob_nodes.proofs.PutLaws.{fault_puts, opaque_none, opaque_put, opaque_there}
use Rattle.gob_nodes.proofs.part.put_opaque.Goals as goal

pub returns-clause-says : goal.returns-clause-says
returns-clause-says c =
    let put = c.in_ok-put_given.ensures.says in
    record {
      bytes = put.bytes;
      says = opaque_at c.in_ok-node.ensures.there c.in_ok-node.ensures.kind put.spelled.0 put.spelled.1;
      appended = put.appended;
    }

pub returns-clause-whole : goal.returns-clause-whole
returns-clause-whole c = λ b to h.
    opaque_put c.args.out.now.items c.put_given.new.out.items c.in_ok-node.ensures.there c.in_ok-put_given.ensures.says
    h

pub returns-in_err-put_given-clause-whole : goal.returns-in_err-put_given-clause-whole
returns-in_err-put_given-clause-whole c = λ b to h.
    fault_puts c.from_residual-in_err-put_given.result c.in_err-put_given.field-0.0 c.args.places.now to
    c.args.out.now.items c.put_given.new.out.items b c.from_residual-in_err-put_given.ensures.1
    (λ w. opaque_none c.in_ok-node.ensures.there (c.in_err-put_given.ensures.none w) h)

pub returns-in_err-node-clause-whole : goal.returns-in_err-node-clause-whole
returns-in_err-node-clause-whole c = λ b to h.
    fault_puts c.from_residual.result c.in_err-node.field-0.0 c.args.places.now to
    c.args.out.now.items c.args.out.now.items b c.from_residual.ensures.1
    (λ w. opaque_there c.in_err-node.ensures.none h)
