-- What waits goes out, and then the text.
use Rattle.std.proofs.Common.{ℕ, List, Ok, ◌∙◌, subst}
use Rattle.gob_json.specs.Machine.Piece.{piece_text}
use Rattle.gob_json.proofs.GatheredLaws.{put_through}
use Rattle.gob_json.proofs.text.gathered.GatheredTextOut.put.Goals as goal

pub returns : goal.returns
returns g c = (
  c.in_ok-flush.ensures.same,
  put_through g.O.TextOut.puts g.met.O.TextOut.joined (piece_text c.args.self.now.waiting)
      (piece_text c.keep-2.new.self) c.args.text.now
      c.put.result (subst (λ (t : List ℕ). g.O.TextOut.puts c.args.self.now.out.now c.flush.new.self.out.now t (Ok tt))
      (c.keep.ensures.full c.if-keep.false) c.in_ok-flush.ensures.put)
      (c.keep-2.ensures.full c.if-keep-2.false ∙ c.in_ok-flush.ensures.empty) c.put.ensures,
)
