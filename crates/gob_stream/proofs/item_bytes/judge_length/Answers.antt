use Rattle.std.proofs.Common.{◌<◌, ◌+◌, ◌≤◌, ◌++◌, length, arith, length-append}
use Rattle.gob_num.proofs.PublicLaws.{unsigned_length}
use Rattle.gob_stream.specs.WriterRefusal.{item_too_long, stream_too_long}
use Rattle.gob_stream.proofs.item_bytes.judge_length.Goals as goal

pub returns-then-size-item-clause-err : goal.returns-then-size-item-clause-err
returns-then-size-item-clause-err c = item_too_long (omega (arith, length-append c.args.first.now c.args.rest.now))

pub returns-then-count-room-clause-err : goal.returns-then-count-room-clause-err
returns-then-count-room-clause-err c =
    let count = c.args.count.now in
    let body = c.args.first.now ++ c.args.rest.now in
    let size = length-append c.args.first.now c.args.rest.now in
    let within : length body ≤ c.args.limits.now.item = omega (arith, size) in
    let past : c.args.limits.now.stream < c.args.offset + length (count ++ body) =
    omega (arith, size, length-append count body) in
    stream_too_long {c = count} within c.requires past

pub returns-clause-end : goal.returns-clause-end
returns-clause-end c =
    let size = length-append c.args.first.now c.args.rest.now in
    let most = c.stream.ensures.limits.stream in
    omega (arith, size, length-append c.args.count.now (c.args.first.now ++ c.args.rest.now), c.stream.ensures.stream)

pub returns-clause-ok : goal.returns-clause-ok
returns-clause-ok c =
    let size = length-append c.args.first.now c.args.rest.now in
    let some = unsigned_length c.requires in
    record {
      item = omega (arith, size);
      stream = omega (arith, size, some.0, length-append c.args.count.now (c.args.first.now ++ c.args.rest.now));
    }
