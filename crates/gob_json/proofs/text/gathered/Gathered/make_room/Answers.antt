-- What waits goes out.
use Rattle.gob_json.specs.Machine.Piece.{piece_text}
use Rattle.gob_json.proofs.GatheredLaws.{flushed}
use Rattle.gob_json.proofs.text.gathered.Gathered.make_room.Goals as goal

pub returns-clause-put : goal.returns-clause-put
returns-clause-put g c =
    flushed g.O.TextOut.puts (piece_text c.args.self.now.waiting) (piece_text c.flush.new.self.waiting) c.flush.result
    c.flush.ensures.put c.flush.ensures.empty
