use Rattle.std.proofs.Common.{rules, ◌≡◌, ◌∙◌, sym, ap, subst, ◌+◌, ◌%◌, ◌^◌, ◌+ℤ◌, FitsSigned, to_z, of_z}
use Rattle.std.proofs.lemmas.Int.{wraps, int_wrap_fits}
use Rattle.std.specs.Int.{int_wrap, w64}
use Rattle.gob_value.specs.Tree.{many}
use Rattle.gob_read.proofs.PublicLaws.{signed_is}
use Rattle.gob_tape.specs.Seeing.{Gives, GivesNext, elements}
use Rattle.gob_tape_tests.proofs.SumLaws.{sum_begun, sum_on, sum_end, int_added, nothing_added}
use Rattle.gob_tape_tests.proofs.sums.sum_of_ints.Goals as goal

pub loop-child-init : goal.loop-child-init
loop-child-init c =
    let same = c.into_iter-child-iterator.ensures.into_iter_gives in
    let parts = c.children-child-items.ensures.parts in record {
      next = tt;
      finite = tt;
      summed = λ f vs s. sum_begun vs (subst (λ p. Gives p (elements vs)) (sym same) (parts f (many vs) s));
    }

pub loop-child-preserved-in-Int : goal.loop-child-preserved-in-Int
loop-child-preserved-in-Int c =
    let number = c.numbers.result in
    let i = c.to_signed-sum.result in
    let bits = c.loop-child.sum-bits in
    let wrapped : to_z w64 ((bits + of_z w64 i) % 2 ^ 64) ≡ int_wrap w64 (to_z w64 bits +ℤ i) = search (rules, wraps) in
    record {
      next = tt;
      finite = tt;
      summed = λ f vs s.
          sum_on (c.loop-child.invariant.summed f vs s)
          (λ xs h. subst (λ p. GivesNext c.next.new.self xs p) c.in-Some.is (c.next.ensures.steps.next xs h))
          (λ f v s. wrapped ∙ ap (λ i. int_wrap w64 (to_z w64 c.loop-child.sum-bits +ℤ i))
          (int_added v c.kind.result number i c.in-Int.is (c.kind.ensures f v s) (c.numbers.ensures f v s)
          (signed_is number.0 i (search rules) c.to_signed-sum.ensures)));
    }

pub loop-child-preserved : goal.loop-child-preserved
loop-child-preserved c = record {
  next = tt;
  finite = tt;
  summed = λ f vs s.
      sum_on (c.loop-child.invariant.summed f vs s)
      (λ xs h. subst (λ p. GivesNext c.next.new.self xs p) c.in-Some.is (c.next.ensures.steps.next xs h))
      (λ f v s.
      nothing_added v c.kind.result (to_z w64 c.loop-child.sum-bits) (search rules) c.in_default.not-Int
      (c.kind.ensures f v s));
}

pub returns : goal.returns
returns c = λ f vs s.
    let fits : FitsSigned w64 (to_z w64 c.loop-child.sum-bits) = search rules in
    sym (int_wrap_fits w64 (to_z w64 c.loop-child.sum-bits) fits)
    ∙ sum_end (c.loop-child.invariant.summed f vs s)
    (λ xs h. subst (λ p. GivesNext c.next.new.self xs p) c.in-None.is (c.next.ensures.steps.next xs h))
