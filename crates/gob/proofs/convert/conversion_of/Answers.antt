-- There are as many renames as words, and the word at fault is one of these.
use Rattle.std.proofs.Common.{◌∙◌, ap, arith, length, map, subst}
use Rattle.gob_rename.specs.Words.{IsWordsFault}
use Rattle.gob.proofs.ConvertLaws.{as_many_renames, is_word}
use Rattle.gob.proofs.convert.conversion_of.Goals as goal

pub invariant_of-result : goal.invariant_of-result
invariant_of-result c = record {
  as_many = as_many_renames c.deref.result.now c.in-Ok.ensures ∙ ap length c.deref.ensures.value;
}

pub index-requires : goal.index-requires
index-requires c =
    let words = c.deref.result.now in
    omega (
      arith,
      is_word words c.in-Err-Word.number c.in-Err-Word.fault
          (subst (λ e. IsWordsFault (map (λ word. word.now) words) e) c.in-Err-Word.field-0-is c.in-Err-Word.ensures),
      c.deref.ensures.len,
    )
