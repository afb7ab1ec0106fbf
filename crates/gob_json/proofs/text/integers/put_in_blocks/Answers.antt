-- Int by int the text is made, and goes out in blocks.
use Rattle.std.proofs.Common.{rules, ◌≡◌, ◌≤◌, ◌+◌, ◌-◌, ◌++◌, ◌∙◌, ap, append_assoc, arith, drop, false, nat_lt, refl}
use Rattle.std.proofs.Common.{subst, take}
use native.Mathlib.Nat.{sub-zero}
use Rattle.std.proofs.lemmas.Result.{IfOk-from_err}
use Rattle.serde_json.specs.Written.{comma_if, compact_text, items_text}
use Rattle.gob_types.specs.declared.kind.Kind.TheVariants as kind
use Rattle.gob_types.specs.declared.basic.Basic.TheVariants as basic
use Rattle.gob_value.proofs.WholeSteps.{basic_element, int_begins, none_stand}
use Rattle.gob_json.specs.Json.{elements_json, integer_json}
use Rattle.gob_walk.specs.Standing.{HoldsKind}
use Rattle.gob_walk.specs.Told.{Reaches, as_stop}
use Rattle.gob_walk.proofs.PublicLaws.{end_as, end_found, end_of_both, later_on, reached, reached_both, reached_prefix}
use Rattle.gob_walk.proofs.PublicLaws.{sent_failed, stopped, took, value_as}
use Rattle.gob_json.proofs.IntLaws.{ElementsWait, all_wait, int_here, next_waits, waiting_ended, waiting_failed}
use Rattle.gob_json.proofs.IntLaws.{waiting_first, waiting_gone}
use Rattle.gob_json.proofs.text.integers.put_in_blocks.Goals.{then-len+in_ok-put, else-len}
use Rattle.gob_json.proofs.text.integers.put_in_blocks.Goals as goal

pub integers-init : goal.integers-init
integers-init g c = record {
  inside = c.requires.place;
  held = omega arith;
  stands = λ T e is end s. rw sub-zero at s;
  left = λ T e limit vs rest is b counted.
      let all : c.args.count - 0 ≡ c.args.count = omega arith in
      rw all (all_wait (Reaches g.O.TextOut.puts) (reached_both g.O.TextOut.puts g.met.O.TextOut.joined)
      (reached_prefix g.O.TextOut.puts g.met.O.TextOut.cut) b counted);
}

pub returns-in_err-put-clause-sent : goal.returns-in_err-put-clause-sent
returns-in_err-put-clause-sent g c = λ T e limit vs rest is b counted.
    sent_failed (Reaches g.O.TextOut.puts) c.from_residual.result c.from_residual.ensures.1
    (waiting_failed (Reaches g.O.TextOut.puts) (reached_both g.O.TextOut.puts g.met.O.TextOut.joined)
    (reached_prefix g.O.TextOut.puts g.met.O.TextOut.cut)
    (c.integers.invariant.left T e limit vs rest is b counted) (stopped g.O.TextOut.puts c.in_err-put.ensures))

pub returns-in_err-put-clause-stands : goal.returns-in_err-put-clause-stands
returns-in_err-put-clause-stands g c = IfOk-from_err c.from_residual.result _ c.from_residual.ensures.0

pub returns-in_default-clause-sent : goal.returns-in_default-clause-sent
returns-in_default-clause-sent g c = λ T e limit vs rest is b counted.
    let n = waiting_first (Reaches g.O.TextOut.puts) (reached_both g.O.TextOut.puts g.met.O.TextOut.joined)
    (reached_prefix g.O.TextOut.puts g.met.O.TextOut.cut)
    (c.integers.invariant.left T e limit vs rest is b counted) is (omega arith) in
    absurd (c.number_at.ensures.none c.in_default.is n.0 n.1 n.2)

pub integers-preserved : goal.integers-preserved
integers-preserved g c = record {
  inside = c.in-Some.ensures.stands.inside;
  held =
      let fits : c.if-len.len + 22 ≤ g.row.BLOCK = elim c.if-len.branch [
        | then-len+in_ok-put w ↦ rw w.len-is c.requires.room
        | else-len w ↦ rw w.len-is (omega (arith, w.if-len.false, c.requires.room))
      ] in
      omega (arith, c.comma_at-behind.ensures.end, c.integer_at-len.ensures.end, fits);
  stands = λ T e is end s. c.integers.invariant.stands T e is end (end_of_both c.in-Some.ensures.stands s
      (λ x y z p q. basic_element T false e is.shape (kind.Basic basic.Int) _ _ is.found is.same (omega arith) x y z
      (int_begins T false c.in-Some.number x y p) q));
  left = λ T e limit vs rest is b counted.
      let before = (c.integers.invariant.left T e limit vs rest is b counted) in
      let left : ElementsWait (Reaches g.O.TextOut.puts) T e limit (c.args.count - c.integers.index)
      (nat_lt 0 c.integers.index) c.args.out.now
      c.if-len.out (take c.if-len.len c.integers.block) (drop c.integers.at c.args.body.now) rest
      (items_text false (elements_json T e vs)) =
      elim c.if-len.branch [
        | then-len+in_ok-put w ↦
            rw w.out-is (rw w.len-is (waiting_gone (Reaches g.O.TextOut.puts)
            (reached_both g.O.TextOut.puts g.met.O.TextOut.joined)
            (reached_prefix g.O.TextOut.puts g.met.O.TextOut.cut)
            before (took g.O.TextOut.puts w.in_ok-put.ensures)))
        | else-len w ↦ rw w.out-is (rw w.len-is before)
      ] in
      let json = compact_text (integer_json c.to_signed.result) in
      let separator = comma_if (nat_lt 0 c.integers.index) in
      let waits = take c.if-len.len c.integers.block in
      let digits : take c.integer_at-len.result c.integer_at-len.new.block
      ≡ take c.comma_at-behind.result c.comma_at-behind.new.block ++ json = search rules in
      let text = digits ∙ ap (λ l. l ++ json) c.comma_at-behind.ensures.text ∙ append_assoc waits separator json in
      let next = next_waits (Reaches g.O.TextOut.puts) (reached_both g.O.TextOut.puts g.met.O.TextOut.joined)
      (reached_prefix g.O.TextOut.puts g.met.O.TextOut.cut) left (omega arith) (λ v r p.
      let here = int_here e c.args.body.now c.integers.at c.in-Some.end c.in-Some.number
      c.to_signed.result c.in-Some.ensures.found c.to_signed.ensures
      (subst (λ k. HoldsKind T k v (drop c.integers.at c.args.body.now) r) is.same (value_as is.shape is.found p)) in
      (here.0, text ∙ ap (λ l. waits ++ (separator ++ l)) here.1)) in
      let fewer : c.args.count - (c.integers.index + 1) ≡ c.args.count - c.integers.index - 1 = omega arith in
      rw fewer (rw (later_on c.integers.index) next);
}

pub returns-in_err-put-2-clause-sent : goal.returns-in_err-put-2-clause-sent
returns-in_err-put-2-clause-sent g c = λ T e limit vs rest is b counted.
    sent_failed (Reaches g.O.TextOut.puts) c.from_residual-in_err-put-2.result c.from_residual-in_err-put-2.ensures.1
    (waiting_failed (Reaches g.O.TextOut.puts) (reached_both g.O.TextOut.puts g.met.O.TextOut.joined)
    (reached_prefix g.O.TextOut.puts g.met.O.TextOut.cut)
    (c.integers.invariant.left T e limit vs rest is b counted) (stopped g.O.TextOut.puts c.in_err-put-2.ensures))

pub returns-in_err-put-2-clause-stands : goal.returns-in_err-put-2-clause-stands
returns-in_err-put-2-clause-stands g c =
    IfOk-from_err c.from_residual-in_err-put-2.result _ c.from_residual-in_err-put-2.ensures.0

pub returns-clause-sent : goal.returns-clause-sent
returns-clause-sent g c = λ T e limit vs rest is b counted.
    waiting_ended (Reaches g.O.TextOut.puts) (reached_both g.O.TextOut.puts g.met.O.TextOut.joined)
    (reached_prefix g.O.TextOut.puts g.met.O.TextOut.cut) (c.integers.invariant.left T e limit vs rest is b counted)
    c.integers.at (as_stop c.put_mark.result) c.closed.result c.closed.ensures refl (omega arith)
    (took g.O.TextOut.puts c.in_ok-put-2.ensures) (reached g.O.TextOut.puts c.put_mark.result c.put_mark.ensures)

pub returns-clause-stands : goal.returns-clause-stands
returns-clause-stands g c = end_as _ c.integers.at (as_stop c.put_mark.result) c.closed.result c.closed.ensures
    (λ T e is. c.integers.invariant.stands T e is c.integers.at
    (end_found (none_stand T false e _ _ _ _ (omega arith) c.integers.invariant.inside)))
