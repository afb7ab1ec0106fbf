-- Each is the zero of its type.
use Rattle.std.proofs.Common.{[], rules, ap, pos, false, ◌∙◌, ◌≡◌, subst, sym}
use Rattle.gob_types.specs.declared.kind.Kind.TheVariants as kind
use Rattle.gob_types.specs.declared.basic.Basic.TheVariants as basic
use Rattle.gob_value.specs.Tree.{Tree}
use Rattle.gob_value.proofs.PublicLaws.{view-Bytes, view-Str}
use Rattle.gob_make.proofs.ViewLaws.{view-Bool, view-Complex, view-Float, view-Int, view-Nil, view-Uint}
use Rattle.gob_make.specs.Zero.{IsZeroAs, of_bool, of_bytes, of_complex, of_float, of_int, of_interface, of_text}
use Rattle.gob_make.specs.Zero.{of_uint}
use Rattle.gob_make.proofs.zero.zero_of.Goals as goal

pub returns-in-Bool : goal.returns-in-Bool
returns-in-Bool c = λ T.
    rw c.in-Bool.is (subst (λ v. IsZeroAs T (kind.Basic basic.Bool) v) (sym (view-Bool false)) of_bool)

pub returns-in-Int : goal.returns-in-Int
returns-in-Int c = λ T.
    rw c.in-Int.is (subst (λ v. IsZeroAs T (kind.Basic basic.Int) v) (sym (view-Int (pos 0))) of_int)

pub returns-in-Uint : goal.returns-in-Uint
returns-in-Uint c = λ T.
    rw c.in-Uint.is (subst (λ v. IsZeroAs T (kind.Basic basic.Uint) v) (sym (view-Uint 0)) of_uint)

pub returns-in-Float : goal.returns-in-Float
returns-in-Float c = λ T.
    rw c.in-Float.is (subst (λ v. IsZeroAs T (kind.Basic basic.Float) v) (sym (view-Float 0)) of_float)

pub returns-in-Complex : goal.returns-in-Complex
returns-in-Complex c = λ T.
    rw c.in-Complex.is (subst (λ v. IsZeroAs T (kind.Basic basic.Complex) v) (sym (view-Complex 0 0)) of_complex)

pub returns-in-Interface : goal.returns-in-Interface
returns-in-Interface c = λ T.
    rw c.in-Interface.is (subst (λ v. IsZeroAs T (kind.Basic basic.Interface) v) (sym (view-Nil)) of_interface)

pub returns-in-Bytes : goal.returns-in-Bytes
returns-in-Bytes c = λ T.
    let none : c.new.result.items ≡ [] = search rules in
    let is = view-Bytes c.new.result ∙ ap Tree.bytes none in
    rw c.in-Bytes.is (subst (λ v. IsZeroAs T (kind.Basic basic.Bytes) v) (sym is) of_bytes)

pub returns-in-Str : goal.returns-in-Str
returns-in-Str c = λ T.
    let none : c.new-in-Str.result.items ≡ [] = search rules in
    let is = view-Str c.new-in-Str.result ∙ ap Tree.text none in
    rw c.in-Str.is (subst (λ v. IsZeroAs T (kind.Basic basic.Str) v) (sym is) of_text)
