-- Each value begins with a number, and its text is that of what the number means.
use Rattle.std.proofs.Common.{arith, rules, [], ◌∷◌}
use Rattle.gob_value.proofs.WholeSteps.{int_begins, uint_begins, float_begins, complex_begins, bool_begins, nil_begins}
use Rattle.gob_value.proofs.WholeSteps.{bytes_begin, text_begins}
use Rattle.gob_value.specs.Tree as Value
use Rattle.gob_walk.specs.Event.{leaf}
use Rattle.gob_walk.specs.Told.{Reaches, as_stop}
use Rattle.gob_walk.proofs.EndLaws.{end_of_both, end_of_raw, end_seen}
use Rattle.gob_walk.proofs.StandingLaws.{number_first, bool_small, nil_zero, bytes_parts, text_parts, these_begin}
use Rattle.gob_walk.proofs.StandingLaws.{bytes_enough, bytes_found, second_number}
use Rattle.gob_walk.proofs.AnswerLaws.{reached, end_as}
use Rattle.gob_walk.proofs.TellLaws.{bool_sent, int_sent, uint_sent, float_sent, complex_sent}
use Rattle.gob_walk.proofs.TellLaws.{nil_sent}
use Rattle.gob_walk.proofs.TellLaws.{bytes_sent, text_sent}
use Rattle.gob_walk.proofs.basic.walk_basic.Goals as goal

pub returns-in_default-clause-sent : goal.returns-in_default-clause-sent
returns-in_default-clause-sent g c = λ T t v rest b.
    let n = number_first b in absurd (c.number_at.ensures.none c.in_default.is n.0 n.1 n.2)

pub returns-then-number-gt1-clause-sent : goal.returns-then-number-gt1-clause-sent
returns-then-number-gt1-clause-sent g c = rw c.in-Bool.is (λ T t v rest b.
    let n = bool_small c.args.body.now c.args.at c.in-Some.behind c.in-Some.ensures.found b in
    absurd (omega (arith, n)))

pub returns-then-number-gt0-clause-sent : goal.returns-then-number-gt0-clause-sent
returns-then-number-gt0-clause-sent g c = rw c.in-Interface.is (λ T t v rest b.
    let n = nil_zero c.args.body.now c.args.at c.in-Some.behind c.in-Some.ensures.found b in absurd (omega (arith, n)))

pub returns-in_default-bytes_at-clause-sent : goal.returns-in_default-bytes_at-clause-sent
returns-in_default-bytes_at-clause-sent g c = rw c.in-Bytes.is (λ T t v rest b.
    absurd (bytes_enough c.args.body.now c.args.at c.in-Some.behind c.in-Some.ensures.stands.inside
    c.in-Some.ensures.found
    (these_begin (bytes_parts b.spelled) b.whole) (c.bytes_at.ensures.none c.in_default-bytes_at.is)))

pub returns-in_default-bytes_at-2-clause-sent : goal.returns-in_default-bytes_at-2-clause-sent
returns-in_default-bytes_at-2-clause-sent g c = rw c.in-Str.is (λ T t v rest b.
    absurd (bytes_enough c.args.body.now c.args.at c.in-Some.behind c.in-Some.ensures.stands.inside
    c.in-Some.ensures.found
    (these_begin (text_parts b.spelled) b.whole) (c.bytes_at-in-Str.ensures.none c.in_default-bytes_at-2.is)))

pub returns-in_default-number_at-clause-sent : goal.returns-in_default-number_at-clause-sent
returns-in_default-number_at-clause-sent g c = rw c.in-Complex.is (λ T t v rest b.
    let n = second_number c.args.body.now c.args.at c.in-Some.behind c.in-Some.ensures.found b in
    absurd (c.number_at-in-Complex.ensures.none c.in_default-number_at.is n.0 rest n.1))

pub returns-else-number-gt1-clause-sent : goal.returns-else-number-gt1-clause-sent
returns-else-number-gt1-clause-sent g c = rw c.in-Bool.is (λ T t v rest b.
    bool_sent (Reaches g.V.Visitor.tells) t c.args.body.now c.args.at c.in-Some.behind (as_stop c.truth.result)
    c.closed.result
    c.closed.ensures c.in-Some.number c.in-Some.ensures.found (reached g.V.Visitor.tells c.truth.result
    c.truth.ensures) b)

pub returns-else-number-gt1-clause-stands : goal.returns-else-number-gt1-clause-stands
returns-else-number-gt1-clause-stands g c = rw c.in-Bool.is (end_as _ c.in-Some.behind (as_stop c.truth.result)
    c.closed.result c.closed.ensures
    (λ T. end_seen c.in-Some.ensures.stands (bool_begins T _ c.in-Some.number (omega arith))))

pub returns-in-Int-clause-sent : goal.returns-in-Int-clause-sent
returns-in-Int-clause-sent g c =
    let put : g.V.Visitor.tells c.args.out.now c.int.new.self (leaf (Value.int c.to_signed.result) ∷ [])
    c.int.result =
    search rules in
    rw c.in-Int.is (λ T t v rest b.
    int_sent (Reaches g.V.Visitor.tells) t c.args.body.now c.args.at c.in-Some.behind (as_stop c.int.result)
    c.closed-in-Int.result c.closed-in-Int.ensures c.in-Some.number c.to_signed.result c.in-Some.ensures.found
    c.to_signed.ensures (reached g.V.Visitor.tells c.int.result put) b)

pub returns-in-Int-clause-stands : goal.returns-in-Int-clause-stands
returns-in-Int-clause-stands g c = rw c.in-Int.is (end_as _ c.in-Some.behind (as_stop c.int.result)
    c.closed-in-Int.result c.closed-in-Int.ensures
    (λ T. end_seen c.in-Some.ensures.stands (int_begins T _ c.in-Some.number)))

pub returns-in-Uint-clause-sent : goal.returns-in-Uint-clause-sent
returns-in-Uint-clause-sent g c = rw c.in-Uint.is (λ T t v rest b.
    uint_sent (Reaches g.V.Visitor.tells) t c.args.body.now c.args.at c.in-Some.behind (as_stop c.uint.result)
    c.closed-in-Uint.result
    c.closed-in-Uint.ensures c.in-Some.number c.in-Some.ensures.found (reached g.V.Visitor.tells c.uint.result
    c.uint.ensures) b)

pub returns-in-Uint-clause-stands : goal.returns-in-Uint-clause-stands
returns-in-Uint-clause-stands g c = rw c.in-Uint.is (end_as _ c.in-Some.behind (as_stop c.uint.result)
    c.closed-in-Uint.result c.closed-in-Uint.ensures
    (λ T. end_seen c.in-Some.ensures.stands (uint_begins T _ c.in-Some.number)))

pub returns-in-Float-clause-sent : goal.returns-in-Float-clause-sent
returns-in-Float-clause-sent g c = rw c.in-Float.is (λ T t v rest b.
    float_sent (Reaches g.V.Visitor.tells) t c.args.body.now c.args.at c.in-Some.behind (as_stop c.float.result)
    c.closed-in-Float.result
    c.closed-in-Float.ensures c.in-Some.number c.to_pattern.result c.in-Some.ensures.found c.to_pattern.ensures
    (reached g.V.Visitor.tells c.float.result c.float.ensures) b)

pub returns-in-Float-clause-stands : goal.returns-in-Float-clause-stands
returns-in-Float-clause-stands g c = rw c.in-Float.is (end_as _ c.in-Some.behind (as_stop c.float.result)
    c.closed-in-Float.result c.closed-in-Float.ensures
    (λ T. end_seen c.in-Some.ensures.stands (float_begins T _ c.in-Some.number)))

pub returns-in-Some-bytes_at-clause-sent : goal.returns-in-Some-bytes_at-clause-sent
returns-in-Some-bytes_at-clause-sent g c = rw c.in-Bytes.is (λ T t v rest b.
    bytes_sent (Reaches g.V.Visitor.tells) t c.args.body.now c.args.at c.in-Some-bytes_at.end (as_stop c.bytes.result)
    c.closed-in-Bytes.result
    c.closed-in-Bytes.ensures c.in-Some-bytes_at.bytes.now
    (bytes_found c.args.body.now c.args.at c.in-Some.behind c.in-Some.ensures.found c.in-Some-bytes_at.ensures.bytes
    c.in-Some-bytes_at.ensures.end) (reached g.V.Visitor.tells c.bytes.result c.bytes.ensures) b)

pub returns-in-Some-bytes_at-clause-stands : goal.returns-in-Some-bytes_at-clause-stands
returns-in-Some-bytes_at-clause-stands g c =
    rw c.in-Bytes.is (end_as _ c.in-Some-bytes_at.end (as_stop c.bytes.result) c.closed-in-Bytes.result
    c.closed-in-Bytes.ensures
    (λ T. end_seen (end_of_raw c.in-Some.ensures.stands c.in-Some-bytes_at.ensures.enough
    c.in-Some-bytes_at.ensures.end) (bytes_begin T _)))

pub returns-in-Some-bytes_at-2-clause-sent : goal.returns-in-Some-bytes_at-2-clause-sent
returns-in-Some-bytes_at-2-clause-sent g c = rw c.in-Str.is (λ T t v rest b.
    text_sent (Reaches g.V.Visitor.tells) t c.args.body.now c.args.at c.in-Some-bytes_at-2.end
    (as_stop c.text.result) c.closed-in-Str.result
    c.closed-in-Str.ensures c.in-Some-bytes_at-2.bytes.now
    (bytes_found c.args.body.now c.args.at c.in-Some.behind c.in-Some.ensures.found c.in-Some-bytes_at-2.ensures.bytes
    c.in-Some-bytes_at-2.ensures.end) (reached g.V.Visitor.tells c.text.result c.text.ensures) b)

pub returns-in-Some-bytes_at-2-clause-stands : goal.returns-in-Some-bytes_at-2-clause-stands
returns-in-Some-bytes_at-2-clause-stands g c =
    rw c.in-Str.is (end_as _ c.in-Some-bytes_at-2.end (as_stop c.text.result) c.closed-in-Str.result
    c.closed-in-Str.ensures
    (λ T. end_seen (end_of_raw c.in-Some.ensures.stands c.in-Some-bytes_at-2.ensures.enough
    c.in-Some-bytes_at-2.ensures.end) (text_begins T _)))

pub returns-in-Some-number_at-clause-sent : goal.returns-in-Some-number_at-clause-sent
returns-in-Some-number_at-clause-sent g c = rw c.in-Complex.is (λ T t v rest b.
    complex_sent (Reaches g.V.Visitor.tells) t c.args.body.now c.args.at c.in-Some-number_at.end
    (as_stop c.complex.result) c.closed-in-Complex.result
    c.closed-in-Complex.ensures c.in-Some.number c.in-Some-number_at.imaginary c.to_pattern-in-Complex.result
    c.to_pattern-in-Complex-2.result
    c.in-Some.behind c.in-Some.ensures.found c.in-Some-number_at.ensures.found c.to_pattern-in-Complex.ensures
    c.to_pattern-in-Complex-2.ensures (reached g.V.Visitor.tells c.complex.result c.complex.ensures) b)

pub returns-in-Some-number_at-clause-stands : goal.returns-in-Some-number_at-clause-stands
returns-in-Some-number_at-clause-stands g c =
    rw c.in-Complex.is (end_as _ c.in-Some-number_at.end (as_stop c.complex.result) c.closed-in-Complex.result
    c.closed-in-Complex.ensures
    (λ T. end_of_both c.in-Some.ensures.stands c.in-Some-number_at.ensures.stands
    (complex_begins T _ c.in-Some.number c.in-Some-number_at.imaginary)))

pub returns-else-number-gt0-clause-sent : goal.returns-else-number-gt0-clause-sent
returns-else-number-gt0-clause-sent g c = rw c.in-Interface.is (λ T t v rest b.
    nil_sent (Reaches g.V.Visitor.tells) t c.args.body.now c.args.at c.in-Some.behind (as_stop c.nil.result)
    c.closed-in-Interface.result
    c.closed-in-Interface.ensures c.in-Some.number c.in-Some.ensures.found (reached g.V.Visitor.tells c.nil.result
    c.nil.ensures) b)

pub returns-else-number-gt0-clause-stands : goal.returns-else-number-gt0-clause-stands
returns-else-number-gt0-clause-stands g c = rw c.in-Interface.is (end_as _ c.in-Some.behind (as_stop c.nil.result)
    c.closed-in-Interface.result c.closed-in-Interface.ensures
    (λ T. end_seen c.in-Some.ensures.stands (nil_begins T _ c.in-Some.number (omega arith))))
