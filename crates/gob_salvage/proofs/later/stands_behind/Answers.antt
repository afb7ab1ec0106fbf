use Rattle.std.proofs.Common.{◌∙◌, List, ap, arith, length, length-drop, subst, sym, true≢false, ℕ}
use Rattle.std.proofs.lemmas.List.{take_rest}
use Rattle.gob_types.specs.Defined.{Defined, types}
use Rattle.gob_stream.specs.Bounds.{within_trees}
use Rattle.gob_salvage.specs.Fronts.{AreDefined}
use Rattle.gob_salvage.proofs.LaterLaws.{reads_behind, reads_front, stands_there}
use Rattle.gob_salvage.proofs.later.stands_behind.Goals as goal
use Rattle.gob_salvage.proofs.later.stands_behind.Goals.{then-is_whole, else-is_whole}

pub definitions-init : goal.definitions-init
definitions-init c = record {
  read = reads_front c.args.piece.now c.in_ok-session.ensures.read;
  within = omega arith;
  some = omega arith;
  limits = c.in_ok-session.ensures.limits;
}

pub definitions-preserved : goal.definitions-preserved
definitions-preserved c =
    let i = c.definitions.invariant in let w = i.within in let n = i.some in
    let some = c.in-Ok.ensures.used.0 in let few = c.in-Ok.ensures.used.1 in
    record {
      read = reads_behind c.args.front.now c.args.piece.now c.definitions.at c.in-Ok.used i.read c.in-Ok.ensures.read
          c.in-Ok.ensures.between;
      within = omega (
        arith,
        ap length (take_rest c.args.piece.now c.definitions.at),
        length-drop c.definitions.at c.args.piece.now,
      );
      some = omega arith;
      limits = c.in-Ok.ensures.limits ∙ i.limits;
    }

pub returns-then-is_none : goal.returns-then-is_none
returns-then-is_none c = λ is.
    let i = c.definitions.invariant in let n = i.some in let room = c.if-front-piece.false in
    let stream = c.stream.ensures.stream in
    let e = c.are_enough-is_enough.ensures in let enough = c.stands_if.ensures is in let some = e.some enough in
    stands_there c.args.front.now c.args.piece.now c.args.group.now.ids.keys i.read
    (ap (λ L. within_trees L) i.limits) i.within (omega arith)
    (subst (λ (t : Defined). AreDefined (types t) c.args.group.now.ids.keys) c.table.ensures (e.all enough))
    (omega arith)

pub returns-in-Err-Refused-take_item : goal.returns-in-Err-Refused-take_item
returns-in-Err-Refused-take_item c = λ is.
    let i = c.definitions.invariant in let n = i.some in let room = c.if-front-piece.false in
    let stream = c.stream.ensures.stream in
    let e = c.are_enough-is_enough.ensures in
    let enough = c.standing_of-in-Err-Refused-take_item.ensures is in let some = e.some enough in
    stands_there c.args.front.now c.args.piece.now c.args.group.now.ids.keys i.read
    (ap (λ L. within_trees L) i.limits) i.within (omega arith)
    (subst (λ (t : Defined). AreDefined (types t) c.args.group.now.ids.keys) c.table.ensures (e.all enough))
    (omega arith)

pub returns-in-Ok-take_item : goal.returns-in-Ok-take_item
returns-in-Ok-take_item c = λ is.
    let i = c.definitions.invariant in let room = c.if-front-piece.false in let stream = c.stream.ensures.stream in
    let front = c.args.front.now in let piece = c.args.piece.now in let at = c.definitions.at in
    let t = c.in-Ok-take_item.ensures in let some = t.used.0 in let few = t.used.1 in let within = i.within in
    let rest = ap length (take_rest piece at) in let size = length-drop at piece in
    let there = stands_there front piece c.args.group.now.ids.keys
    (reads_behind front piece at c.in-Ok-take_item.field-0 i.read t.read t.between)
    (ap (λ L. within_trees L) (t.limits ∙ i.limits)) (omega arith) (omega arith) in
    let defined = λ (d : AreDefined (types c.table-in-Ok-take_item.result.now) c.as_slice.result.now).
    subst (λ (t : Defined). AreDefined (types t) c.args.group.now.ids.keys) c.table-in-Ok-take_item.ensures
    (subst (λ (ids : List ℕ). AreDefined (types c.table-in-Ok-take_item.result.now) ids) c.as_slice.ensures.keys d) in
    let both = c.stands_if-in-Ok-take_item.ensures is in
    elim c.if-is_whole.branch [
      | then-is_whole w ↦ there (defined (c.are_defined-is_whole.ensures w.if-is_whole.true)) (omega arith)
      | else-is_whole w ↦ absurd (true≢false (sym both ∙ w.stands_if-is ∙ w.if-is_whole.false))
    ]
