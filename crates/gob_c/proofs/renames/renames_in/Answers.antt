-- The words say the renames, or one of them says none.
use Rattle.std.proofs.Common.{arith, subst}
use Rattle.gob_rename.specs.Words.{IsWordsFault}
use Rattle.gob_c.proofs.RenameLaws.{asks, is_word, says_none, texts}
use Rattle.gob_c.proofs.renames.renames_in.Goals as goal

pub returns-in-Ok : goal.returns-in-Ok
returns-in-Ok c =
    asks c.args.bytes.now c.in_ok-text.text.now c.in_ok-words.words.items c.deref.result.now c.in-Ok.renames.items
    c.in_ok-text.ensures c.deref.ensures.value c.in_ok-words.ensures c.in-Ok.ensures

pub index-requires : goal.index-requires
index-requires c =
    let words = c.deref.result.now in
    omega (
      arith,
      is_word words c.in-Err-Word.number c.in-Err-Word.fault
          (subst (λ e. IsWordsFault (texts words) e) c.in-Err-Word.field-0-is c.in-Err-Word.ensures),
      c.deref.ensures.len,
    )

pub returns : goal.returns
returns c =
    let words = c.deref.result.now in
    says_none c.args.bytes.now c.in_ok-text.text.now c.in_ok-words.words.items words c.in-Err-Word.number
    c.in-Err-Word.fault c.in_ok-text.ensures c.deref.ensures.value c.in_ok-words.ensures
    (subst (λ e. IsWordsFault (texts words) e) c.in-Err-Word.field-0-is c.in-Err-Word.ensures)
