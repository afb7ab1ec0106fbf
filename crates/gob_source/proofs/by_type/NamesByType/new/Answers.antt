-- Name by name more is known.
use Rattle.std.proofs.Common.{List, arith, sym, subst, take}
use Rattle.gob_source.specs.Places.{CountsNames, KnowsNamings}
use Rattle.gob_source.specs.Registered.{Naming, naming, namings}
use Rattle.gob_source.proofs.RegisteredLaws.{counted_more, few_taken, named_more, namings_more}
use Rattle.gob_source.proofs.by_type.NamesByType.new.Goals as goal

pub put_naming-requires : goal.put_naming-requires
put_naming-requires c =
    let t = c.index-all-index.result.id in
    let few = few_taken t c.args.all.now c.loop-index.index c.loop-index-test.true in
    omega (arith, few, c.loop-index.invariant.counted.each t)

pub loop-index-preserved : goal.loop-index-preserved
loop-index-preserved c =
    let i = c.loop-index.index in
    let all = c.args.all.now in
    let r = c.index-all-index.result in
    let before = namings (take i all) in
    let more = namings_more all i r c.index-all-index.is c.loop-index-test.true in
    let puts = c.in_ok-put_naming.ensures in
    let counts = c.loop-index.counts.entries in
    let names = c.loop-index.names.entries in
    let counts2 = c.put_naming.new.counts.entries in
    let names2 = c.put_naming.new.names.entries in
    let i_ = c.loop-index.invariant in
    record {
      counted =
          subst (λ (ps : List Naming). CountsNames ps counts2) (sym more)
          (counted_more before (naming r) counts counts2 names names2 puts i_.counted);
      known =
          subst (λ (ps : List Naming). KnowsNamings ps names2) (sym more)
          (named_more before (naming r) counts counts2 names names2 puts i_.counted i_.known);
    }
