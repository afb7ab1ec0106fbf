-- What a map finds is the first field of the name.
use Rattle.std.proofs.Common.{◌∙◌}
use Rattle.gob_make.specs.Names.{KnowsNames}
use Rattle.gob_make.proofs.NameLaws.{found_named, none_named}
use Rattle.gob_make.proofs.names.FieldNames.find.Goals as goal

pub returns-in-Some-clause-found : goal.returns-in-Some-clause-found
returns-in-Some-clause-found c =
    let known : KnowsNames c.args.self.now.types.now 0 c.in-Some.numbers =
    c.args.self.now.known c.in-Some.numbers c.in-Some.is in
    found_named c.args.self.now.types.now c.args.name.now c.copied.result
    (c.copied.ensures ∙ c.get.ensures.value ∙ known.each c.args.name.now)

pub returns-in-Some-clause-none : goal.returns-in-Some-clause-none
returns-in-Some-clause-none c =
    let known : KnowsNames c.args.self.now.types.now 0 c.in-Some.numbers =
    c.args.self.now.known c.in-Some.numbers c.in-Some.is in
    none_named c.args.self.now.types.now c.args.name.now c.copied.result
    (c.copied.ensures ∙ c.get.ensures.value ∙ known.each c.args.name.now)

pub returns-clause-found : goal.returns-clause-found
returns-clause-found c =
    found_named c.args.self.now.types.now c.args.name.now c.copied-found.result
    (c.copied-found.ensures ∙ c.get-2.ensures.value ∙ c.in_ok-numbers.ensures.each c.args.name.now)

pub returns-clause-none : goal.returns-clause-none
returns-clause-none c =
    none_named c.args.self.now.types.now c.args.name.now c.copied-found.result
    (c.copied-found.ensures ∙ c.get-2.ensures.value ∙ c.in_ok-numbers.ensures.each c.args.name.now)
