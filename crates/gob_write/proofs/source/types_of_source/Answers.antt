-- What is read of the text, and the definitions of its types.
use Rattle.std.proofs.Common.{List, ap, refl, subst, ◌∙◌}
use Rattle.std.specs.Option.{option_copied}
use Rattle.gob_go_source.specs.declared.go_type.Declaration.{Declaration}
use Rattle.gob_words.specs.Words.{text_of}
use Rattle.gob_write.specs.Source.{Asks, defines_each}
use Rattle.gob_write.proofs.source.types_of_source.Goals as goal

pub returns : goal.returns
returns c = record {
  source = c.in_ok-source.source;
  name = option_copied c.name_in-name.result;
  given = c.in-Ok.found.definitions.items;
  says = c.in_ok-source.ensures;
  asked = subst (λ (ds : List Declaration). Asks ds (text_of c.args.named) (option_copied c.name_in-name.result))
      c.deref.ensures.value c.name_in-name.ensures;
  are = c.in-Ok.ensures.types;
  definitions = c.in_ok-definitions.ensures ∙ ap defines_each c.deref-2.ensures.value;
  leniency = refl;
}
