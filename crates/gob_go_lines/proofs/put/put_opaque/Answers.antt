use Rattle.std.proofs.Common.{◌≡◌, ◌∙◌, ℕ, List, ◌++◌, ap, arith, sym, subst}
use Rattle.std.specs.Prelude.{OnOk}
use Rattle.gob_num.specs.Spelled.{Appends}
use Rattle.gob_num.specs.Unsigned.{AreBytes}
use Rattle.gob_value.specs.Written.{WrittenBytes}
use Rattle.gob_lines.proofs.UniqueLaws.{are_bytes}
use Rattle.gob_go_lines.proofs.KindLaws.{fault_puts}
use Rattle.gob_go_lines.proofs.LeafLaws.{opaque_put, opaque_said}
use Rattle.gob_go_lines.proofs.put.put_opaque.Goals as goal

pub returns-clause-says : goal.returns-clause-says
returns-clause-says c =
    let s = c.in_ok-bytes.bytes.items in
    let put = subst (λ x. OnOk c.put_bytes.result
    (Appends (WrittenBytes x) c.args.out.now.items c.put_bytes.new.out.items)) c.deref.ensures.value
    c.put_bytes.ensures.ok
    in
    opaque_said c.put_bytes.result s c.args.tokens.now c.read_opaque.new.tokens c.args.out.now.items
    c.put_bytes.new.out.items (subst AreBytes c.deref.ensures.value c.put_bytes.ensures.holds)
    c.in_ok-bytes.ensures.read put

pub returns-in_err-bytes-clause-whole : goal.returns-in_err-bytes-clause-whole
returns-in_err-bytes-clause-whole c = λ s n rest o p said.
    fault_puts c.from_residual.result c.in_err-bytes.field-0.0 c.read_opaque.new.tokens rest c.args.out.now.items
    c.args.out.now.items (n ++ s) c.from_residual.ensures.1 (c.in_err-bytes.ensures.whole s rest (are_bytes s o) said)

pub returns-clause-whole : goal.returns-clause-whole
returns-clause-whole c = λ s n rest o p said.
    let it = c.in_ok-bytes.ensures.whole s rest (are_bytes s o) said in
    opaque_put c.put_bytes.result c.deref.result.now s n c.read_opaque.new.tokens rest c.args.out.now.items
    c.put_bytes.new.out.items p (c.deref.ensures.value ∙ it.0) it.1 c.put_bytes.ensures.ok c.put_bytes.ensures.memory
