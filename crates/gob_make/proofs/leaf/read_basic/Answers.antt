use Rattle.std.proofs.Common.{◌∙◌, ap, sym, subst, w64}
use Rattle.std.proofs.lemmas.Int.{to_z-of_z}
use Rattle.gob_types.specs.declared.basic.Basic.TheVariants as basic
use Rattle.gob_value.specs.Tree.{Tree}
use Rattle.gob_value.proofs.PublicLaws.{view-Bytes, view-Str}
use Rattle.gob_make.proofs.SaidLaws.{weaker}
use Rattle.gob_make.proofs.ViewLaws.{view-Bool, view-Float, view-Int, view-Uint}
use Rattle.gob_make.specs.Leaf.{ReadsBasic}
use Rattle.gob_make.specs.Leaf as leaf
use Rattle.gob_make.proofs.leaf.read_basic.Goals as goal

pub returns-in_ok-read_bool-in-Bool-clause-read : goal.returns-in_ok-read_bool-in-Bool-clause-read
returns-in_ok-read_bool-in-Bool-clause-read c =
    let v = c.in_ok-read_bool-in-Bool.field-0 in
    rw (c.in-Bool.is, view-Bool v) (weaker (λ j e. subst (λ k. ReadsBasic basic.Bool k (Tree.bool v)) (sym e)
    leaf.of_bool) c.in_ok-read_bool-in-Bool.ensures.read)

pub returns-in_ok-read_int-in-Int-clause-read : goal.returns-in_ok-read_int-in-Int-clause-read
returns-in_ok-read_int-in-Int-clause-read c =
    let v = c.in_ok-read_int-in-Int.field-0 in
    let fits = c.in_ok-read_int-in-Int.ensures.fits in
    let is = view-Int _ ∙ ap Tree.int (to_z-of_z w64 v fits) in
    rw (c.in-Int.is, is) (weaker (λ j e. subst (λ k. ReadsBasic basic.Int k (Tree.int v)) (sym e)
    (leaf.of_int fits)) c.in_ok-read_int-in-Int.ensures.read)

pub returns-in_ok-read_uint-in-Uint-clause-read : goal.returns-in_ok-read_uint-in-Uint-clause-read
returns-in_ok-read_uint-in-Uint-clause-read c =
    let v = c.in_ok-read_uint-in-Uint.field-0 in
    rw (c.in-Uint.is, view-Uint v) (weaker (λ j e. subst (λ k. ReadsBasic basic.Uint k (Tree.uint v)) (sym e)
    (leaf.of_uint c.in_ok-read_uint-in-Uint.ensures.fits)) c.in_ok-read_uint-in-Uint.ensures.read)

pub returns-in_ok-read_float-in-Float-clause-read : goal.returns-in_ok-read_float-in-Float-clause-read
returns-in_ok-read_float-in-Float-clause-read c =
    let v = c.in_ok-read_float-in-Float.field-0 in
    rw (c.in-Float.is, view-Float v) (weaker (λ j r. leaf.of_float r) c.in_ok-read_float-in-Float.ensures.read)

pub returns-in_ok-read_bytes-in-Bytes-clause-read : goal.returns-in_ok-read_bytes-in-Bytes-clause-read
returns-in_ok-read_bytes-in-Bytes-clause-read c =
    let v = c.in_ok-read_bytes-in-Bytes.field-0 in
    rw (c.in-Bytes.is, view-Bytes v) (weaker (λ j r. leaf.of_bytes r) c.in_ok-read_bytes-in-Bytes.ensures.read)

pub returns-in_ok-read_text-in-Str-clause-read : goal.returns-in_ok-read_text-in-Str-clause-read
returns-in_ok-read_text-in-Str-clause-read c =
    let v = c.in_ok-read_text-in-Str.field-0 in
    rw (c.in-Str.is, view-Str v) (weaker (λ j e. subst (λ k. ReadsBasic basic.Str k (Tree.text v.items)) (sym e)
    leaf.of_text) c.in_ok-read_text-in-Str.ensures.read)
