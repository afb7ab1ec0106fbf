use Rattle.std.proofs.Common.{◌≡◌, ◌⊎◌, inl, inr, ℕ, refl}
use Rattle.gob_types.specs.declared.basic.Basic.{Basic}
use Rattle.gob_types.specs.declared.basic.Basic.TheVariants as basic
use Rattle.gob_types.specs.declared.kind.Kind.TheVariants as kind
use Rattle.gob_read.specs.Event.{number}
use Rattle.gob_read.specs.WellFormed.{a_number}
use Rattle.gob_read.specs.Machine.Kinds.{IsScalar, of_int, of_uint, of_float, is_bytes, is_text}
use Rattle.gob_read.specs.Machine.BasicParts.{told_nothing, told_number}
use Rattle.gob_read.proofs.Machine.ToldLaws.{begins_in}
use Rattle.gob_read.proofs.Machine.FirstSteps.{as_scalar, as_raw, can_start, numbers}
use Rattle.gob_read.proofs.state.State.tell_basic.Goals as goal

-- the part of an int or a uint
whole_number : {n : ℕ} {b : Basic} → (b ≡ basic.Int) ⊎ (b ≡ basic.Uint) → IsScalar (kind.Basic b) n b n
whole_number is = elim is [
  | inl z ↦ as_scalar basic.Int z of_int _ refl
  | inr z ↦ as_scalar basic.Uint z of_uint _ refl
]

pub number-requires : goal.number-requires
number-requires g c = can_start (number c.args.basic c.args.n 0) refl c.requires.begins
    (a_number (begins_in c.args.self.now.stack) (numbers (whole_number c.in-Int.is)))

pub number-requires-in-Float : goal.number-requires-in-Float
number-requires-in-Float g c =
    can_start (number c.args.basic c.to_pattern.result 0) refl c.requires.begins
    (a_number (begins_in c.args.self.now.stack)
    (numbers (as_scalar basic.Float c.in-Float.is (of_float c.to_pattern.ensures) _ refl)))

pub returns-in_ok-number-in-Int : goal.returns-in_ok-number-in-Int
returns-in_ok-number-in-Int g c = told_number refl (whole_number c.in-Int.is) c.in_ok-number-in-Int.ensures
    (record { stack = refl; expected = refl })

pub returns-in_ok-number-in-Float : goal.returns-in_ok-number-in-Float
returns-in_ok-number-in-Float g c =
    told_number refl (as_scalar basic.Float c.in-Float.is (of_float c.to_pattern.ensures) _ refl)
    c.in_ok-number-in-Float.ensures (record { stack = refl; expected = refl })

pub tell_bytes-requires-clause-told : goal.tell_bytes-requires-clause-told
tell_bytes-requires-clause-told g c = as_raw basic.Bytes c.in-Bytes.is is_bytes _ refl

pub tell_bytes-requires-in-Str-clause-told : goal.tell_bytes-requires-in-Str-clause-told
tell_bytes-requires-in-Str-clause-told g c = as_raw basic.Str c.in-Str.is is_text _ refl

pub returns-in-Bool : goal.returns-in-Bool
returns-in-Bool g c = told_nothing refl
