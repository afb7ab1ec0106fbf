-- There is room, and then the text goes the way of any other.
use Rattle.std.proofs.Common.{ℕ, List, ◌++◌, ◌∙◌, subst}
use Rattle.serde_json.specs.Written.{compact_text}
use Rattle.gob_json.specs.Json.{text_json}
use Rattle.gob_json.specs.Machine.Piece.{piece_text}
use Rattle.gob_json.specs.Machine.Gathered.{Gathers}
use Rattle.gob_json.proofs.GatheredLaws.{gathered_behind, gathered_on, gathered_failed}
use Rattle.gob_json.proofs.text.gathered.GatheredPartOut.put_text.Goals as goal

pub returns : goal.returns
returns g c =
    let text = compact_text (text_json c.args.text.now) in
    let new = c.put_text-2.new.out in (
      c.put_text-2.ensures.0 ∙ c.in_ok-make_room.ensures.same,
      gathered_behind g.O.TextOut.puts g.met.O.TextOut.joined c.args.self.now.out.now c.make_room.new.self.out.now
          new.out.now
          (piece_text c.args.self.now.waiting) (piece_text c.make_room.new.self.waiting)
          (piece_text new.waiting) text c.put_text-2.result c.in_ok-make_room.ensures.put
          (subst (λ (l : List ℕ). Gathers g.O.TextOut.puts c.make_room.new.self.out.now new.out.now (l ++ text)
          (piece_text new.waiting) c.put_text-2.result)
          (c.add_text.ensures.same c.if-add_text.false) c.put_text-2.ensures.1),
    )

pub returns-then-add_text : goal.returns-then-add_text
returns-then-add_text g c = (
  c.in_ok-make_room.ensures.same,
  gathered_on g.O.TextOut.puts _ c.in_ok-make_room.ensures.put (c.add_text.ensures.added c.if-add_text.true),
)

pub returns-in_err-make_room : goal.returns-in_err-make_room
returns-in_err-make_room g c = (
  c.in_err-make_room.ensures.same,
  gathered_failed g.O.TextOut.puts g.met.O.TextOut.cut _ _ _ _ _ c.from_residual.result c.from_residual.ensures.1
      c.in_err-make_room.ensures.put,
)

pub returns-then-text-gt-SHORT : goal.returns-then-text-gt-SHORT
returns-then-text-gt-SHORT g c = c.put_text.ensures
