-- One of those that are kept.
use Rattle.std.proofs.Common.{ap, arith, length, refl, sym, ◌∙◌}
use Rattle.std.proofs.lemmas.Option.{slice_get_read}
use Rattle.gob_json.specs.Machine.Piece.{piece_text}
use Rattle.gob_json.proofs.text.heads.Heads.get.Goals as goal

pub returns : goal.returns
returns c = λ types field are there.
    let heads = c.args.self.now.heads in
    let head = c.index-self-number.result in
    let read = slice_get_read heads (length heads) c.args.number head refl (omega arith) c.index-self-number.is in
    ap piece_text (sym c.index-self-number.is) ∙ are c.args.number head field (omega (arith, c.if-number-self.false))
    read there
