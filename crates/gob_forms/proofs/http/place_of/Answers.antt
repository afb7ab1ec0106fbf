-- What stands there is compared with the text.
use Rattle.std.proofs.Common.{sym, ◌∙◌, arith, below_more}
use Rattle.std.proofs.lemmas.Bool.{true≢false}
use Rattle.gob_forms.proofs.TextLaws.{stands_at}
use Rattle.gob_forms.proofs.http.place_of.Goals as goal

pub returns-then-starts_with-clause-first : goal.returns-then-starts_with-clause-first
returns-then-starts_with-clause-first c = record {
  near = omega arith;
  stands = (stands_at c.args.what.now c.args.bytes.now c.loop-place.place c.starts_with.result
      c.starts_with.ensures.value).0 c.if-starts_with.true;
  first = c.loop-place.invariant;
}

pub loop-place-preserved : goal.loop-place-preserved
loop-place-preserved c = below_more _ _ c.loop-place.invariant (λ s. true≢false
    (sym ((stands_at c.args.what.now c.args.bytes.now c.loop-place.place c.starts_with.result
    c.starts_with.ensures.value).1 s) ∙ c.if-starts_with.false))

pub returns-clause-none : goal.returns-clause-none
returns-clause-none c = λ _ place s. let near = s.near in c.loop-place.invariant place (omega arith) s.stands
