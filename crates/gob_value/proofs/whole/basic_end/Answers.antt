use Rattle.std.proofs.Common.{inl, inr, arith}
use Rattle.gob_value.proofs.WholeSteps.{if_some, seen, both, int_begins, uint_begins, float_begins, complex_begins}
use Rattle.gob_value.proofs.WholeSteps.{bool_begins, nil_begins, bytes_begin, text_begins}
use Rattle.gob_value.proofs.whole.basic_end.Goals as goal

pub returns-in-Int : goal.returns-in-Int
returns-in-Int c = elim c.in-Int.is [
  | inl e ↦ rw e (if_some c.number_end.result (λ end s T tidy. seen s.1 (int_begins T tidy s.0))
      c.number_end.ensures.stands)
  | inr f ↦ elim f [
    | inl e ↦ rw e (if_some c.number_end.result (λ end s T tidy. seen s.1 (uint_begins T tidy s.0))
        c.number_end.ensures.stands)
    | inr e ↦ rw e (if_some c.number_end.result (λ end s T tidy. seen s.1 (float_begins T tidy s.0))
        c.number_end.ensures.stands)
  ]
]

pub returns-in-Bytes : goal.returns-in-Bytes
returns-in-Bytes c = elim c.in-Bytes.is [
  | inl e ↦ rw e (if_some c.raw_end.result (λ end s T tidy. seen s (bytes_begin T tidy)) c.raw_end.ensures)
  | inr e ↦ rw e (if_some c.raw_end.result (λ end s T tidy. seen s (text_begins T tidy)) c.raw_end.ensures)
]

pub returns-else-n-gt1 : goal.returns-else-n-gt1
returns-else-n-gt1 c =
    λ T tidy. rw c.in-Bool.is (seen c.in_ok-n-in-Bool.ensures.stands (bool_begins T tidy _ (omega arith)))

pub returns-else-n-gt0 : goal.returns-else-n-gt0
returns-else-n-gt0 c =
    λ T tidy. rw c.in-Interface.is (seen c.in_ok-n-in-Interface.ensures.stands (nil_begins T tidy _ (omega arith)))

pub returns-in_ok-behind-in-Complex : goal.returns-in_ok-behind-in-Complex
returns-in_ok-behind-in-Complex c =
    let first = c.in_ok-behind-in-Complex.ensures.stands in
    rw c.in-Complex.is (if_some c.number_end-in-Complex-2.result
    (λ end s T tidy. both first.1 s.1 (complex_begins T tidy first.0 s.0)) c.number_end-in-Complex-2.ensures.stands)
