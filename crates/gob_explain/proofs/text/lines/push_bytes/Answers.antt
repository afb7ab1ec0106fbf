-- A byte behind those before it.
use Rattle.std.proofs.Common.{string_bytes}
use Rattle.gob_explain.proofs.ColumnLaws.{bytes_begin, bytes_more}
use Rattle.gob_explain.proofs.text.lines.push_bytes.Goals as goal

pub bytes-init : goal.bytes-init
bytes-init c =
    let text = rw c.laid_out.ensures at c.in_ok-write.ensures.bytes in
    bytes_begin (string_bytes c.args.out.now) (string_bytes c.write.new.self) c.args.offset c.args.bytes.now text

pub bytes-preserved : goal.bytes-preserved
bytes-preserved c =
    let text = rw (c.laid_out-in-bytes.ensures, c.in_radix.ensures) at c.in_ok-write-2.ensures.bytes in
    bytes_more (string_bytes c.args.out.now) (string_bytes c.bytes.out)
    (string_bytes c.write-in-bytes.new.self) c.args.offset c.bytes.byte-index c.args.bytes.now c.bytes-test.true
    c.bytes.invariant text
