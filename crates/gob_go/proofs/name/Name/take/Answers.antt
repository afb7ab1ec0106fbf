use Rattle.std.proofs.Common.{refl, arith}
use Rattle.std.proofs.lemmas.List.{length-take}
use Rattle.std.proofs.lemmas.Result.{err_from_is_err_and}
use Rattle.gob_go.specs.Machine.Stages.{no_memory_for_part}
use Rattle.gob_go.specs.declared.level.HeldFront.{HeldFront}
use Rattle.gob_go.proofs.NameSteps.{name_at, name_place, name_takes, name_changes, name_more}
use Rattle.gob_go.proofs.NameSteps.{name_whole, name_short, name_types}
use Rattle.gob_go.proofs.name.Name.take.Goals as goal

pub room-room-requires : goal.room-room-requires
room-room-requires c = let n = name_at c.requires.is in let room = n.room in omega arith

pub slice_bounds-extend_from_slice-end : goal.slice_bounds-extend_from_slice-end
slice_bounds-extend_from_slice-end c =
    let t = name_takes c.args.piece.now (name_at c.requires.is) c.room-room.ensures c.min-used.ensures in
    let within = t.within in omega (arith, length-take c.min-used.result c.args.piece.now)

pub returns-then-is_err : goal.returns-then-is_err
returns-then-is_err c = λ d w. record {
  each = λ T offset z h o. no_memory_for_part (name_types c.args.piece.now h);
  some = λ l. tt;
}

pub returns-in_err-goes_on : goal.returns-in_err-goes_on
returns-in_err-goes_on c = λ d w.
    let p = err_from_is_err_and c.from_residual.result c.from_residual.ensures.1 in
    let t = name_takes c.args.piece.now (name_at c.requires.is) c.room-room.ensures c.min-used.ensures in
    let held : HeldFront = record {
      name = c.extend_from_slice.new.self;
      definitions = c.args.levels.now.innermost.held.definitions;
    } in
    let change = name_changes c.args.levels.now held (rw c.if-is_err.ensures.negation at
    c.extend_from_slice.ensures.items) refl in
    rw (p.1, p.2) (record {
      each = λ T offset z h o. name_short c.in_err-goes_on.field-0.0 h t (name_place w h)
          change c.behind-behind.ensures.taken
          c.in_err-goes_on.ensures;
      some = λ l. tt;
    })

pub returns-then-left-gt0 : goal.returns-then-left-gt0
returns-then-left-gt0 c = λ d w.
    let t = name_takes c.args.piece.now (name_at c.requires.is) c.room-room.ensures c.min-used.ensures in
    let held : HeldFront = record {
      name = c.extend_from_slice.new.self;
      definitions = c.args.levels.now.innermost.held.definitions;
    } in
    let change = name_changes c.args.levels.now held (rw c.if-is_err.ensures.negation at
    c.extend_from_slice.ensures.items) refl in
    rw c.more.ensures (record {
      each = λ T offset z h o. name_more h t (name_place w h)
          change
          (omega (arith, c.in_ok-goes_on.ensures, c.behind-behind.ensures.taken)) (omega arith);
      some = t.some;
    })

pub returns : goal.returns
returns c = λ d w.
    let t = name_takes c.args.piece.now (name_at c.requires.is) c.room-room.ensures c.min-used.ensures in
    let held : HeldFront = record {
      name = c.extend_from_slice.new.self;
      definitions = c.args.levels.now.innermost.held.definitions;
    } in
    let change = name_changes c.args.levels.now held (rw c.if-is_err.ensures.negation at
    c.extend_from_slice.ensures.items) refl in
    rw c.more-2.ensures (record {
      each = λ T offset z h o. name_whole h t (name_place w h)
          change (omega arith) c.behind-behind.ensures.taken
          c.in_ok-goes_on.ensures c.new-number.ensures;
      some = t.some;
    })
