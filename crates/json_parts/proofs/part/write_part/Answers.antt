-- An element as it is, a pair under its names.
use Rattle.std.proofs.Common.{◌∷◌, subst, sym}
use Rattle.std.specs.Prelude.{OnOk}
use Rattle.json.specs.Reads.{token_of}
use Rattle.json_parts.specs.Parts.{HasLeft}
use Rattle.json_parts.proofs.PartLaws.{IsPartOf, element_written, pair_written}
use Rattle.json_parts.proofs.part.write_part.Goals as goal

pub returns-in-Elements-clause-part : goal.returns-in-Elements-clause-part
returns-in-Elements-clause-part c = λ left h.
    let out = c.args.out.now.tokens in
    let written = c.copy_value.new.out.tokens in
    let new = c.copy_value.new.reader in
    subst (λ f. HasLeft f (token_of c.args.first ∷ c.args.reader.now) left
    → OnOk c.copy_value.result (IsPartOf f out written new left)) (sym c.in-Elements.is)
    (element_written c.copy_value.result out written new c.requires.begins c.copy_value.ensures.copied) h

pub returns-in-Pairs-clause-part : goal.returns-in-Pairs-clause-part
returns-in-Pairs-clause-part c = λ left h.
    let out = c.args.out.now.tokens in
    let written = c.write_pair.new.out.tokens in
    let new = c.write_pair.new.reader in
    subst (λ f. HasLeft f (token_of c.args.first ∷ c.args.reader.now) left
    → OnOk c.write_pair.result (IsPartOf f out written new left)) (sym c.in-Pairs.is)
    (pair_written c.write_pair.result out written new c.requires.begins c.write_pair.ensures.item) h
