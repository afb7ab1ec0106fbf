use Rattle.std.proofs.Common.{length, below_more, refl, sym, ◌∙◌}
use Rattle.std.proofs.lemmas.Bool.{both_ways}
use Rattle.std.proofs.lemmas.Option.{slice_get_read}
use Rattle.std.specs.Cmp.Lexicographic.{bytes_decides}
use Rattle.gob_all.proofs.LookUpLaws.{not_named}
use Rattle.gob_all.proofs.look_ups.number_in.Goals as goal

pub returns-then-eq : goal.returns-then-eq
returns-then-eq c =
    let fields = c.args.fields.now in
    let same = (bytes_decides c.as_bytes.result.now c.args.name.now).0 (sym c.eq.ensures ∙ c.if-eq.true) in
    record {
      named = record {
        type = c.index-fields-number.result;
        there = slice_get_read fields (length fields) c.loop-number.number c.index-fields-number.result refl
            c.loop-number-test.true c.index-fields-number.is;
        named = sym c.as_bytes.ensures ∙ same;
      };
      first = c.loop-number.invariant;
    }

pub loop-number-preserved : goal.loop-number-preserved
loop-number-preserved c =
    let fields = c.args.fields.now in
    let there = slice_get_read fields (length fields) c.loop-number.number c.index-fields-number.result refl
    c.loop-number-test.true c.index-fields-number.is in
    let tests = bytes_decides c.as_bytes.result.now c.args.name.now in
    below_more _ _ c.loop-number.invariant
    (not_named there (λ same. both_ways c.eq.result c.if-eq.false
    (c.eq.ensures ∙ tests.1 (c.as_bytes.ensures ∙ same))))
