use Rattle.std.proofs.Common.{arith, refl}
use Rattle.gob_types.specs.declared.basic.Basic.TheVariants as basic
use Rattle.gob_read.specs.Machine.Kinds.{is_bytes, is_text, of_bool, of_int, of_uint, of_float, of_nil}
use Rattle.gob_read.proofs.Machine.FirstSteps.{can_begin_as, begins_as, as_scalar, as_raw, no_first, second_placed}
use Rattle.gob_read.proofs.state.State.take_basic.Goals as goal

pub returns-then-n-gt1 : goal.returns-then-n-gt1
returns-then-n-gt1 g c = no_first basic.Bool c.in-Bool.is (record { not_allowed = λ a. omega arith; reason_is = refl })

pub take_scalar-requires : goal.take_scalar-requires
take_scalar-requires g c = can_begin_as (as_scalar basic.Bool c.in-Bool.is (of_bool (omega arith))) c.requires

pub take_scalar-requires-in-Int : goal.take_scalar-requires-in-Int
take_scalar-requires-in-Int g c = can_begin_as (as_scalar basic.Int c.in-Int.is of_int) c.requires

pub take_scalar-requires-in-Uint : goal.take_scalar-requires-in-Uint
take_scalar-requires-in-Uint g c = can_begin_as (as_scalar basic.Uint c.in-Uint.is of_uint) c.requires

pub take_scalar-requires-in-Float : goal.take_scalar-requires-in-Float
take_scalar-requires-in-Float g c = can_begin_as (as_scalar basic.Float c.in-Float.is (of_float c.to_pattern.ensures))
    c.requires

pub take_byte_count-requires : goal.take_byte_count-requires
take_byte_count-requires g c = can_begin_as (as_raw basic.Bytes c.in-Bytes.is is_bytes) c.requires

pub take_byte_count-requires-in-Str : goal.take_byte_count-requires-in-Str
take_byte_count-requires-in-Str g c = can_begin_as (as_raw basic.Str c.in-Str.is is_text) c.requires

pub take_scalar-requires-in-Interface : goal.take_scalar-requires-in-Interface
take_scalar-requires-in-Interface g c =
    can_begin_as (as_scalar basic.Interface c.in-Interface.is (of_nil (omega arith))) c.requires

pub returns-in_ok-take_scalar-in-Bool : goal.returns-in_ok-take_scalar-in-Bool
returns-in_ok-take_scalar-in-Bool g c = begins_as (as_scalar basic.Bool c.in-Bool.is (of_bool (omega arith)))
    c.in_ok-take_scalar-in-Bool.ensures

pub returns-in_ok-take_scalar-in-Int : goal.returns-in_ok-take_scalar-in-Int
returns-in_ok-take_scalar-in-Int g c = begins_as (as_scalar basic.Int c.in-Int.is of_int)
    c.in_ok-take_scalar-in-Int.ensures

pub returns-in_ok-take_scalar-in-Uint : goal.returns-in_ok-take_scalar-in-Uint
returns-in_ok-take_scalar-in-Uint g c = begins_as (as_scalar basic.Uint c.in-Uint.is of_uint)
    c.in_ok-take_scalar-in-Uint.ensures

pub returns-in_ok-take_scalar-in-Float : goal.returns-in_ok-take_scalar-in-Float
returns-in_ok-take_scalar-in-Float g c = begins_as (as_scalar basic.Float c.in-Float.is (of_float c.to_pattern.ensures))
    c.in_ok-take_scalar-in-Float.ensures

pub returns-in_ok-take_byte_count-in-Bytes : goal.returns-in_ok-take_byte_count-in-Bytes
returns-in_ok-take_byte_count-in-Bytes g c = begins_as (as_raw basic.Bytes c.in-Bytes.is is_bytes)
    c.in_ok-take_byte_count-in-Bytes.ensures

pub returns-in_ok-take_byte_count-in-Str : goal.returns-in_ok-take_byte_count-in-Str
returns-in_ok-take_byte_count-in-Str g c = begins_as (as_raw basic.Str c.in-Str.is is_text)
    c.in_ok-take_byte_count-in-Str.ensures

pub returns-in-Complex : goal.returns-in-Complex
returns-in-Complex g c = record { each = second_placed refl refl refl c.in-Complex.is c.to_pattern-in-Complex.ensures }

pub returns-in_ok-take_scalar-in-Interface : goal.returns-in_ok-take_scalar-in-Interface
returns-in_ok-take_scalar-in-Interface g c =
    begins_as (as_scalar basic.Interface c.in-Interface.is (of_nil (omega arith)))
    c.in_ok-take_scalar-in-Interface.ensures
