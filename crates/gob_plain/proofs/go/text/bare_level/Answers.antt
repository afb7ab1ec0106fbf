-- The text of the value is its level.
use Rattle.std.proofs.Common.{◌∙◌, ap, subst, sym}
use Rattle.json.specs.Lex.{tokens}
use Rattle.gob_types.specs.Defined.{types}
use Rattle.gob_value.specs.Tree.{Tree}
use Rattle.gob_value.specs.Top.{SpellsTop}
use Rattle.gob_tape.specs.Meaning.{Means}
use Rattle.gob_plain.proofs.HeldPlainLaws.{BareText, bare_said}
use Rattle.gob_plain.proofs.LevelLaws.{bare_says}
use Rattle.gob_plain.proofs.go.text.bare_level.Goals as goal

pub returns-clause-said : goal.returns-clause-said
returns-clause-said c = λ tagged w h.
    let T = types c.args.table.now in
    let text = c.of.ensures.text ∙ c.shrink_to_fit.ensures.bytes in
    bare_said {value = c.args.value.now} c.of.result
    (subst (λ b. (v : Tree) → SpellsTop T c.args.id v b → Means c.in_ok-tape.tape v) c.deref.ensures.value
    c.in_ok-tape.ensures)
    c.requires.bare (c.of.ensures.held ∙ c.new.ensures.items)
    (subst (BareText c.args.style T c.args.id c.in_ok-tape.tape) (sym text) c.in_ok-text.ensures) tagged w h

pub returns-clause-some : goal.returns-clause-some
returns-clause-some c =
    let text = c.of.ensures.text ∙ c.shrink_to_fit.ensures.bytes in
    let some = c.depth-depth.ensures.some in
    let s = c.in_ok-text.ensures some.value some.means in
    (s.0, bare_says (c.of.ensures.held ∙ c.new.ensures.items) (ap tokens text ∙ s.3))
