use Rattle.std.proofs.Common.{◌∙◌, ap, Some}
use Rattle.gob_convert.proofs.ConvertingLaws.{last_put_ready}
use Rattle.gob_convert.proofs.run.convert_item.Goals as goal

pub put-requires-clause-ready : goal.put-requires-clause-ready
put-requires-clause-ready c =
    last_put_ready c.args.item (c.in-Some-Put.is ∙ ap (λ x. Some x) c.in-Some-Put.field-0-is) c.requires.last
