use Rattle.std.proofs.Common.{◌∙◌, ap, arith, subst, sym, w64}
use Rattle.std.proofs.lemmas.Int.{to_z-of_z}
use Rattle.gob_value.specs.declared.value.Value.{Int}
use Rattle.gob_value.specs.View.{view}
use Rattle.gob_value.proofs.ViewLaws.{view-Bool, view-Bytes, view-Complex, view-Float, view-Int, view-Nil, view-Str}
use Rattle.gob_value.proofs.ViewLaws.{view-Uint}
use Rattle.gob_lines.specs.Numbers.{IsBasicJson, ReadsSome}
use Rattle.gob_lines.specs.Reads.{IsWrong}
use Rattle.gob_lines.proofs.NumberLaws.{int_basic, shown_basic, uint_basic}
use Rattle.gob_lines.proofs.PartLaws.{int_it, no_int, uint_it, no_uint, float_it, no_float, bytes_it, no_bytes}
use Rattle.gob_lines.proofs.PartLaws.{str_it, no_str, complex_value_it, no_complex, stands_shown}
use Rattle.gob_lines.proofs.WholeLaws.{fault_reads}
use Rattle.gob_lines.proofs.leaf.read_basic.Goals as goal

pub returns-in_err-read_int-in-Int-clause-whole : goal.returns-in_err-read_int-in-Int-clause-whole
returns-in_err-read_int-in-Int-clause-whole c = λ T t v j b rest spelled holds is said.
    let at = rw c.in-Int.is at spelled in
    fault_reads view c.from_residual-in_err-read_int-in-Int.result c.in_err-read_int-in-Int.field-0.0
    c.read_int.new.tokens v rest
    c.from_residual-in_err-read_int-in-Int.ensures.1
    (λ w. no_int t c.args.tokens.now rest (c.in_err-read_int-in-Int.ensures.none w) at is said)

pub returns-in_ok-read_int-in-Int-clause-whole : goal.returns-in_ok-read_int-in-Int-clause-whole
returns-in_ok-read_int-in-Int-clause-whole c = λ T t v j b rest spelled holds is said.
    let at = rw c.in-Int.is at spelled in
    let r = int_it t c.in_ok-read_int-in-Int.field-0 c.args.tokens.now c.read_int.new.tokens rest
    c.in_ok-read_int-in-Int.ensures.fits c.in_ok-read_int-in-Int.ensures.ok.is
    c.in_ok-read_int-in-Int.ensures.ok.reads at is said in
    let i = c.in_ok-read_int-in-Int.field-0 in (
      ap (λ k. view (Int k)) (to_z-of_z w64 i c.in_ok-read_int-in-Int.ensures.fits) ∙ view-Int i ∙ r.0,
      r.1,
    )

pub returns-in_err-read_uint-in-Uint-clause-whole : goal.returns-in_err-read_uint-in-Uint-clause-whole
returns-in_err-read_uint-in-Uint-clause-whole c = λ T t v j b rest spelled holds is said.
    let at = rw c.in-Uint.is at spelled in
    fault_reads view c.from_residual-in_err-read_uint-in-Uint.result c.in_err-read_uint-in-Uint.field-0.0
    c.read_uint.new.tokens v rest
    c.from_residual-in_err-read_uint-in-Uint.ensures.1
    (λ w. no_uint t c.args.tokens.now rest (c.in_err-read_uint-in-Uint.ensures.none w) at is said)

pub returns-in_ok-read_uint-in-Uint-clause-whole : goal.returns-in_ok-read_uint-in-Uint-clause-whole
returns-in_ok-read_uint-in-Uint-clause-whole c = λ T t v j b rest spelled holds is said.
    let at = rw c.in-Uint.is at spelled in
    let r = uint_it t c.in_ok-read_uint-in-Uint.field-0 c.args.tokens.now c.read_uint.new.tokens rest
    c.in_ok-read_uint-in-Uint.ensures.fits c.in_ok-read_uint-in-Uint.ensures.ok.is
    c.in_ok-read_uint-in-Uint.ensures.ok.reads at is said in
    (view-Uint c.in_ok-read_uint-in-Uint.field-0 ∙ r.0, r.1)

pub returns-in_err-read_pattern-in-Float-clause-whole : goal.returns-in_err-read_pattern-in-Float-clause-whole
returns-in_err-read_pattern-in-Float-clause-whole c = λ T t v j b rest spelled holds is said.
    let at = rw c.in-Float.is at spelled in
    let shown = stands_shown c.args.tokens.now rest (λ h. grind (arith, h)) (λ h. grind (arith, h)) at is said in
    fault_reads view c.from_residual-in_err-read_pattern-in-Float.result c.in_err-read_pattern-in-Float.field-0.0
    c.read_pattern.new.tokens v rest
    c.from_residual-in_err-read_pattern-in-Float.ensures.1
    (λ w. no_float t c.args.tokens.now rest (c.in_err-read_pattern-in-Float.ensures.none w) at shown)

pub returns-in_ok-read_pattern-in-Float-clause-whole : goal.returns-in_ok-read_pattern-in-Float-clause-whole
returns-in_ok-read_pattern-in-Float-clause-whole c = λ T t v j b rest spelled holds is said.
    let at = rw c.in-Float.is at spelled in
    let shown = stands_shown c.args.tokens.now rest (λ h. grind (arith, h)) (λ h. grind (arith, h)) at is said in
    let r = float_it t c.in_ok-read_pattern-in-Float.field-0 c.args.tokens.now c.read_pattern.new.tokens rest
    c.in_ok-read_pattern-in-Float.ensures.fits
    c.in_ok-read_pattern-in-Float.ensures.ok at shown in
    (view-Float c.in_ok-read_pattern-in-Float.field-0 ∙ r.0, r.1)

pub returns-in_err-read_hex-in-Bytes-clause-whole : goal.returns-in_err-read_hex-in-Bytes-clause-whole
returns-in_err-read_hex-in-Bytes-clause-whole c = λ T t v j b rest spelled holds is said.
    let at = rw c.in-Bytes.is at spelled in
    let shown = stands_shown c.args.tokens.now rest (λ h. grind (arith, h)) (λ h. grind (arith, h)) at is said in
    fault_reads view c.from_residual-in_err-read_hex-in-Bytes.result c.in_err-read_hex-in-Bytes.field-0.0
    c.read_hex.new.tokens v rest
    c.from_residual-in_err-read_hex-in-Bytes.ensures.1
    (λ w. no_bytes t c.args.tokens.now rest (c.in_err-read_hex-in-Bytes.ensures.none w) at holds shown)

pub returns-in_ok-read_hex-in-Bytes-clause-whole : goal.returns-in_ok-read_hex-in-Bytes-clause-whole
returns-in_ok-read_hex-in-Bytes-clause-whole c = λ T t v j b rest spelled holds is said.
    let at = rw c.in-Bytes.is at spelled in
    let shown = stands_shown c.args.tokens.now rest (λ h. grind (arith, h)) (λ h. grind (arith, h)) at is said in
    let r = bytes_it t c.in_ok-read_hex-in-Bytes.field-0.items c.args.tokens.now c.read_hex.new.tokens rest
    c.in_ok-read_hex-in-Bytes.ensures.only at holds shown in
    (view-Bytes c.in_ok-read_hex-in-Bytes.field-0 ∙ r.0, r.1)

pub returns-in_err-read_text-in-Str-clause-whole : goal.returns-in_err-read_text-in-Str-clause-whole
returns-in_err-read_text-in-Str-clause-whole c = λ T t v j b rest spelled holds is said.
    let at = rw c.in-Str.is at spelled in
    let shown = stands_shown c.args.tokens.now rest (λ h. grind (arith, h)) (λ h. grind (arith, h)) at is said in
    let fault = c.in_err-read_text-in-Str.field-0.0 in
    fault_reads view c.from_residual-in_err-read_text-in-Str.result fault c.read_text.new.tokens v rest
    c.from_residual-in_err-read_text-in-Str.ensures.1
    (no_str {f = ¬ IsWrong fault} t c.args.tokens.now rest c.in_err-read_text-in-Str.ensures.whole at holds shown)

pub returns-in_ok-read_text-in-Str-clause-whole : goal.returns-in_ok-read_text-in-Str-clause-whole
returns-in_ok-read_text-in-Str-clause-whole c = λ T t v j b rest spelled holds is said.
    let at = rw c.in-Str.is at spelled in
    let shown = stands_shown c.args.tokens.now rest (λ h. grind (arith, h)) (λ h. grind (arith, h)) at is said in
    let r = str_it t c.in_ok-read_text-in-Str.field-0.items c.args.tokens.now c.read_text.new.tokens rest
    c.in_ok-read_text-in-Str.ensures.whole at holds shown in
    (view-Str c.in_ok-read_text-in-Str.field-0 ∙ r.0, r.1)

pub returns-in_err-real-in-Complex-clause-whole : goal.returns-in_err-real-in-Complex-clause-whole
returns-in_err-real-in-Complex-clause-whole c = λ T t v j b rest spelled holds is said.
    let at = rw c.in-Complex.is at spelled in
    let shown = stands_shown c.args.tokens.now rest (λ h. grind (arith, h)) (λ h. grind (arith, h)) at is said in
    let fault = c.in_err-real-in-Complex.field-0.0 in
    fault_reads view c.from_residual-in_err-real-in-Complex.result fault c.read_complex.new.tokens v rest
    c.from_residual-in_err-real-in-Complex.ensures.1
    (no_complex {f = ¬ IsWrong fault} t c.args.tokens.now rest c.in_err-real-in-Complex.ensures.whole at shown)

pub returns-in_ok-real-in-Complex-clause-whole : goal.returns-in_ok-real-in-Complex-clause-whole
returns-in_ok-real-in-Complex-clause-whole c = λ T t v j b rest spelled holds is said.
    let at = rw c.in-Complex.is at spelled in
    let shown = stands_shown c.args.tokens.now rest (λ h. grind (arith, h)) (λ h. grind (arith, h)) at is said in
    let real = c.in_ok-real-in-Complex.real in
    let imaginary = c.in_ok-real-in-Complex.imaginary in
    let r = complex_value_it t real imaginary c.args.tokens.now c.read_complex.new.tokens rest
    c.in_ok-real-in-Complex.ensures.whole at shown in
    (view-Complex real imaginary ∙ r.0, r.1)

pub returns-in_ok-read_bool-in-Bool-clause-read : goal.returns-in_ok-read_bool-in-Bool-clause-read
returns-in_ok-read_bool-in-Bool-clause-read c = λ T t.
    shown_basic T t _ (rw (view-Bool c.in_ok-read_bool-in-Bool.field-0) c.in_ok-read_bool-in-Bool.ensures.ok)

pub returns-in_ok-read_int-in-Int-clause-read : goal.returns-in_ok-read_int-in-Int-clause-read
returns-in_ok-read_int-in-Int-clause-read c = λ T t.
    let i = c.in_ok-read_int-in-Int.field-0 in
    subst (λ v. ReadsSome (IsBasicJson T t v) c.args.tokens.now c.read_int.new.tokens)
    (sym (ap (λ k. view (Int k)) (to_z-of_z w64 i c.in_ok-read_int-in-Int.ensures.fits) ∙ view-Int i))
    (int_basic c.in_ok-read_int-in-Int.ensures.ok)

pub returns-in_ok-read_uint-in-Uint-clause-read : goal.returns-in_ok-read_uint-in-Uint-clause-read
returns-in_ok-read_uint-in-Uint-clause-read c = λ T t.
    subst (λ v. ReadsSome (IsBasicJson T t v) c.args.tokens.now c.read_uint.new.tokens)
    (sym (view-Uint c.in_ok-read_uint-in-Uint.field-0)) (uint_basic c.in_ok-read_uint-in-Uint.ensures.ok)

pub returns-in_ok-read_pattern-in-Float-clause-read : goal.returns-in_ok-read_pattern-in-Float-clause-read
returns-in_ok-read_pattern-in-Float-clause-read c = λ T t.
    shown_basic T t _ (rw (view-Float c.in_ok-read_pattern-in-Float.field-0) c.in_ok-read_pattern-in-Float.ensures.ok)

pub returns-in_ok-read_hex-in-Bytes-clause-read : goal.returns-in_ok-read_hex-in-Bytes-clause-read
returns-in_ok-read_hex-in-Bytes-clause-read c = λ T t.
    shown_basic T t _ (rw (view-Bytes c.in_ok-read_hex-in-Bytes.field-0) c.in_ok-read_hex-in-Bytes.ensures.ok)

pub returns-in_ok-read_text-in-Str-clause-read : goal.returns-in_ok-read_text-in-Str-clause-read
returns-in_ok-read_text-in-Str-clause-read c = λ T t.
    shown_basic T t _ (rw (view-Str c.in_ok-read_text-in-Str.field-0) c.in_ok-read_text-in-Str.ensures.read)

pub returns-in_ok-real-in-Complex-clause-read : goal.returns-in_ok-real-in-Complex-clause-read
returns-in_ok-real-in-Complex-clause-read c = λ T t.
    shown_basic T t _ (rw (view-Complex c.in_ok-real-in-Complex.real c.in_ok-real-in-Complex.imaginary)
    c.in_ok-real-in-Complex.ensures.read)

pub returns-in_ok-read_nil-in-Interface-clause-read : goal.returns-in_ok-read_nil-in-Interface-clause-read
returns-in_ok-read_nil-in-Interface-clause-read c = λ T t.
    shown_basic T t _ (rw view-Nil c.in_ok-read_nil-in-Interface.ensures.ok)
