use Rattle.std.proofs.Common.{rules, arith, sym, subst, ◌≡◌, ◌++◌, ◌∷◌, ◌+◌, [], drop}
use Rattle.std.proofs.lemmas.List.{drop_more}
use Rattle.gob_types.specs.declared.kind.Field.{Field}
use Rattle.gob_nodes.proofs.FieldLaws.{NamesOn, a_field, all_are, all_named, none_named, nothing_left, one_named}
use Rattle.gob_nodes.proofs.PutLaws.{fault_reads}
use Rattle.gob_nodes.proofs.definition.fields_of.Goals as goal

pub fields-init : goal.fields-init
fields-init c =
    let none : c.new-fields.result.items ≡ [] = search rules in
    record {
      on = subst (λ l. NamesOn c.args.given.now.bytes.now c.args.nodes.now c.args.nodes.now l) (sym none)
          (none_named c.args.given.now.bytes.now c.args.nodes.now);
    }

pub fields-preserved : goal.fields-preserved
fields-preserved c =
    let f : Field = record { name = c.in_ok-name.name; id = c.in_ok-id.id } in
    let put : c.push.new.self.items ≡ c.fields.fields.items ++ f ∷ [] = search rules in
    let next = drop_more c.args.nodes.now c.fields.place _ (omega arith) in
    record {
      on = subst (λ l. NamesOn c.args.given.now.bytes.now c.args.nodes.now
          (drop (c.fields.place + 1) c.args.nodes.now) l) (sym put)
          (one_named _ f c.fields.invariant.on next c.in_ok-id.ensures.says c.in_ok-name.ensures.has
          c.in_ok-name.ensures.are);
    }

pub returns-clause-says : goal.returns-clause-says
returns-clause-says c = all_named c.fields.invariant.on (nothing_left c.args.nodes.now c.fields.place (omega arith))

pub returns-clause-whole : goal.returns-clause-whole
returns-clause-whole c = λ fields h.
    all_are c.fields.invariant.on (nothing_left c.args.nodes.now c.fields.place (omega arith)) h

pub returns-in_err-id-clause-whole : goal.returns-in_err-id-clause-whole
returns-in_err-id-clause-whole c = λ fields h.
    let next = drop_more c.args.nodes.now c.fields.place _ (omega arith) in
    let x = a_field c.fields.invariant.on next h in
    fault_reads c.from_residual.result c.in_err-id.field-0.0 fields c.from_residual.ensures.1
    (λ w. c.in_err-id.ensures.none x.0.id x.1)

pub returns-in_err-name-clause-whole : goal.returns-in_err-name-clause-whole
returns-in_err-name-clause-whole c = λ fields h.
    let next = drop_more c.args.nodes.now c.fields.place _ (omega arith) in
    let x = a_field c.fields.invariant.on next h in
    fault_reads c.from_residual-in_err-name.result c.in_err-name.field-0.0 fields
    c.from_residual-in_err-name.ensures.1 (λ w. c.in_err-name.ensures.none w x.2)
