-- The place of each refusal is honest.
use Rattle.gob_stream.specs.declared.fault.Refusal.{Refusal}
use Rattle.gob_stream.specs.Bounds.{Bounds}
use Rattle.gob_filled.specs.Stream.{FilledItem}
use Rattle.gob_filled.proofs.Honest.{value_honest, definition_honest}
use Rattle.gob_filled.proofs.WholeHonest.{whole_honest}
use Rattle.std.proofs.Common.{ℕ, List}
use Rattle.gob_go.specs.Honest.{IsHonest}

pub always_honest : (L : Bounds) (bytes : List ℕ) (items : List FilledItem) (R : Refusal) → IsHonest L bytes items R
always_honest L bytes items R = record {
  value = λ T U lv around w S h p k. value_honest h.stream h.stands p k;
  whole = λ T U lv around w S h p k. whole_honest h.stream h.stands p k;
  definition = λ T U levels next w q a z m n h p e sg l. definition_honest h.stream h.stands p e sg l;
}
