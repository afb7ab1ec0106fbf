use Rattle.std.proofs.Common.{arith, ◌+◌, ◌<◌, ◌∷◌, drop, get_or, length, refl, sym, subst}
use Rattle.std.proofs.lemmas.List.{drop_all, get_or_default}
use Rattle.std.proofs.lemmas.Result.{on_ok_weaker}
use Rattle.gob_types.specs.Defined.{types}
use Rattle.gob_go.proofs.IdLaws.{item_left}
use Rattle.gob_handed.proofs.FillingLaws.{AreLeft, one_put, all_put, value_put, held_put}
use Rattle.gob_handed.proofs.flat.+flat.Goals as goal

pub push_filling-returns : goal.push_filling-returns
push_filling-returns t c =
    on_ok_weaker c.push_value.result (λ put w m. held_put c.in_ok-hold.ensures.nodes c.in_ok-hold.ensures.pool
    (rw c.deref.ensures.value at c.in_ok-push_name.ensures.nodes)
    (rw c.deref.ensures.value at c.in_ok-push_name.ensures.pool) (put w m)) c.push_value.ensures

pub push_fillings-fillings-preserved : goal.push_fillings-fillings-preserved
push_fillings-fillings-preserved t c = λ type b fs g a.
    let T = types c.args.table.now in
    let at = c.fillings.place in
    let l = c.fillings.invariant type b fs g a in
    let rest = item_left c.args.fillings.now at c.index-fillings-place.result c.index-fillings-place.is
    c.fillings-test.true in
    let gap = get_or c.args.gaps.now at 0 in
    let within : at < length c.args.gaps.now = omega (arith, c.if-place-gaps.false) in
    let gaps = item_left c.args.gaps.now at gap (get_or_default c.args.gaps.now at 0 gap within) within in
    let old = c.args.out.now in
    let now = c.fillings.out in
    let so : AreLeft T type b c.args.first c.fillings.next (c.index-fillings-place.result
    ∷ drop (at + 1) c.args.fillings.now) (gap ∷ drop (at + 1) c.args.gaps.now) fs old.nodes.items
    old.pool.items now.nodes.items now.pool.items =
    subst (λ gs. AreLeft T type b c.args.first c.fillings.next (c.index-fillings-place.result
    ∷ drop (at + 1) c.args.fillings.now) gs fs old.nodes.items old.pool.items now.nodes.items now.pool.items) gaps
    (subst (λ r. AreLeft T type b c.args.first c.fillings.next r (drop at c.args.gaps.now) fs old.nodes.items
    old.pool.items now.nodes.items now.pool.items) rest l) in
    subst (λ n. AreLeft T type b c.args.first n (drop (at + 1) c.args.fillings.now) (drop (at + 1) c.args.gaps.now) fs
    old.nodes.items old.pool.items c.push_filling.new.out.nodes.items c.push_filling.new.out.pool.items)
    (sym c.in-Some-checked_add.ensures.1) (one_put so c.in-Some.ensures.1 c.in_ok-push_filling.ensures)

pub push_fillings-returns : goal.push_fillings-returns
push_fillings-returns t c = λ type b fs g a.
    let old = c.args.out.now in
    let now = c.fillings.out in
    all_put (subst (λ r. AreLeft (types c.args.table.now) type b c.args.first c.fillings.next r
    (drop c.fillings.place c.args.gaps.now) fs old.nodes.items old.pool.items now.nodes.items now.pool.items)
    (drop_all c.fillings.place c.args.fillings.now c.fillings-test.false) (c.fillings.invariant type b fs g a))

pub push_value-tape_of-requires : goal.push_value-tape_of-requires
push_value-tape_of-requires t c = c.if-not-kept.ensures.0 refl

pub push_value-gaps_of-requires : goal.push_value-gaps_of-requires
push_value-gaps_of-requires t c = c.if-not-kept.ensures.0 refl

pub push_value-returns : goal.push_value-returns
push_value-returns t c =
    on_ok_weaker c.push_fillings.result (λ put w m. value_put (rw c.deref.ensures.value at c.in_ok-tape.ensures)
    (rw c.deref-3.ensures.value at (rw c.deref-2.ensures.value at c.in_ok-gaps.ensures))
    (omega (arith, c.len-first.ensures, c.args.out.now.nodes.ok.0))
    c.in_ok-push_tape.ensures.nodes c.in_ok-push_tape.ensures.pool
    (rw c.deref-4.ensures.value at (rw c.deref-5.ensures.value at put)) m) c.push_fillings.ensures
