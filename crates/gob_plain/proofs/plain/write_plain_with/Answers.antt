-- The value is what the tape's root shows: a map that is an array in the style, or any other.
use Rattle.std.proofs.Common.{◌∙◌, Option, None, ap, subst, sym}
use Rattle.std.proofs.lemmas.Result.{on_ok_weaker}
use Rattle.gob_json.specs.Json.{element_type, key_type}
use Rattle.gob_tape.specs.Seeing.{Gives, parts_of}
use Rattle.gob_types.specs.Defined.{types}
use Rattle.gob_types.specs.Table.{shape_of}
use Rattle.gob_value.specs.Tree.{Pairs}
use Rattle.gob_plain.specs.Filled.{SaysListed, SaysPairsIn, nils_listed, nils_of_pairs_in}
use Rattle.gob_plain.specs.WritesPlain.{AreBehind, Shows}
use Rattle.gob_plain.proofs.ListedLaws.{listed_is, said_as_ever}
use Rattle.gob_plain.proofs.SomeLaws.{some_weaker}
use Rattle.gob_plain.proofs.plain.write_plain_with.Goals as goal

pub returns-then-not-is_listed-clause-said : goal.returns-then-not-is_listed-clause-said
returns-then-not-is_listed-clause-said g c =
    let style = c.args.style in
    let T = types c.args.table.now in
    let t = c.args.id in
    let N = g.N.NilTexts.says c.args.nils.now in record {
      written = record {
        before = c.write_part.ensures.said.written.before;
        each = λ v m.
            let shows : Shows c.root-value.result v = (None, c.root-value.ensures v m) in
            let ever = c.if-not-is_listed.ensures v shows in
            some_weaker (λ ts p. (p.0, said_as_ever N style T t v p.0 ever p.1, p.2))
            (c.write_part.ensures.said.written.each v shows);
      };
      passed = λ v m.
          let shows : Shows c.root-value.result v = (None, c.root-value.ensures v m) in
          let ever = c.if-not-is_listed.ensures v shows in
          on_ok_weaker c.write_part.result
          (λ b. subst (λ n. AreBehind n N (g.N.NilTexts.says c.write_part.new.nils))
          (ap (λ (o : Option Pairs). nils_listed o style T t v) (sym ever)) b)
          (c.write_part.ensures.said.passed v shows);
    }

pub returns-clause-said : goal.returns-clause-said
returns-clause-said g c =
    let style = c.args.style in
    let T = types c.args.table.now in
    let t = c.args.id in
    let types = c.entry_types.ensures in
    let N = g.N.NilTexts.says c.args.nils.now in record {
      written = record {
        before = c.write_pairs.ensures.said.written.before;
        each = λ v m.
            let shows : Shows c.root-value.result v = (None, c.root-value.ensures v m) in
            let l = c.if-not-is_listed.ensures v shows in
            some_weaker
            (λ ts p. (
              p.0,
              subst (λ (o : Option Pairs). SaysListed o N style T t v p.0) (sym (listed_is style l))
                  (subst (λ k. SaysPairsIn N style T k (element_type (shape_of T t)) l.0 p.0) types.key
                  (subst (λ e. SaysPairsIn N style T c.entry_types.result.key e l.0 p.0) types.element p.1)),
              p.2,
            ))
            (c.write_pairs.ensures.said.written.each l.0
            (subst (λ v. Gives c.children.result (parts_of v)) l.1 (c.children.ensures.parts shows.0 v shows.1)));
      };
      passed = λ v m.
          let shows : Shows c.root-value.result v = (None, c.root-value.ensures v m) in
          let l = c.if-not-is_listed.ensures v shows in
          on_ok_weaker c.write_pairs.result
          (λ b. subst (λ n. AreBehind n N (g.N.NilTexts.says c.write_pairs.new.nils))
          (ap (λ k. nils_of_pairs_in style T k c.entry_types.result.element l.0) types.key
          ∙ ap (λ e. nils_of_pairs_in style T (key_type (shape_of T t)) e l.0) types.element
          ∙ ap (λ (o : Option Pairs). nils_listed o style T t v) (sym (listed_is style l))) b)
          (c.write_pairs.ensures.said.passed l.0
          (subst (λ v. Gives c.children.result (parts_of v)) l.1 (c.children.ensures.parts shows.0 v shows.1)));
    }
