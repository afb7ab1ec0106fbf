-- One event has its text.
use Rattle.std.proofs.Common.{refl, rules}
use Rattle.serde_json.specs.Written.{compact_text}
use Rattle.gob_value.specs.Tree as Value
use Rattle.gob_json.specs.Json.{integer_json}
use Rattle.gob_walk.specs.Event as event
use Rattle.gob_json.proofs.EventLaws.{told_one}
use Rattle.gob_json.proofs.text.exact.ExactVisitor.int.Goals as goal

pub returns : goal.returns
returns g c =
    let put : g.O.TextOut.puts c.args.self.now.out.now c.put_integer.new.self (compact_text
    (integer_json c.args.number))
    c.put_integer.result = search rules in
    (refl, told_one g.O.TextOut.puts (event.leaf (Value.int c.args.number)) put)
