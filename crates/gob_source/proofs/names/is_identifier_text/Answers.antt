-- A character is read in each turn, and at the end there is none left.
use Rattle.std.proofs.Common.{◌∙◌, ap, if◌then◌else◌, map-id, not, sym, ◌&&◌}
use Rattle.std.proofs.lemmas.Iterator.{YieldsList-from_chars}
use Rattle.std.proofs.lemmas.Iterator.Consumers.{YieldsList-end}
use Rattle.gob_source.specs.Names.{is_identifier_text, is_letter, is_letter_or_digit}
use Rattle.gob_source.proofs.IdentifierLaws.{empty_more, identifier_more, is_empty}
use Rattle.gob_source.proofs.names.is_identifier_text.Goals as goal

pub loop-character-preserved : goal.loop-character-preserved
loop-character-preserved c =
    let read = c.loop-character.yielded in
    let x = c.in-Some.character in
    record {
      begun = sym (empty_more read x);
      fits =
          c.fits_behind-fits.ensures
          ∙ ap (λ b. if b then c.loop-character.fits && is_letter_or_digit x else is_letter x)
          c.loop-character.invariant.begun
          ∙ ap (λ b. if not (is_empty read) then b && is_letter_or_digit x else is_letter x)
          c.loop-character.invariant.fits
          ∙ sym (identifier_more read x);
    }

pub returns : goal.returns
returns c =
    let all = YieldsList-end (YieldsList-from_chars c.args.text.now c.utf8.text cc) c.loop-character.yielded _
    c.loop-character.yielded_by _ _ c.in-None.is c.next.ensures.steps in
    c.loop-character.invariant.fits ∙ ap is_identifier_text (sym (map-id c.loop-character.yielded) ∙ all.0)
