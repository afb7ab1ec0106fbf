use Rattle.gob_read.proofs.Machine.FrameLaws.{over_list, over_map, list_on, map_on, key_on, fields_on}
use Rattle.gob_read.proofs.frame.Frame.next.Goals as goal

pub returns-then-left-eq0 : goal.returns-then-left-eq0
returns-then-left-eq0 c = over_list c.in-Many.left c.in-Many.is c.if-left-eq0.true

pub returns-else-left-eq0 : goal.returns-else-left-eq0
returns-else-left-eq0 c = list_on c.in-Many.left c.in-Many.is c.if-left-eq0.false

pub returns-in-Key : goal.returns-in-Key
returns-in-Key c = key_on c.in-Key.is

pub returns-then-left-eq0-2 : goal.returns-then-left-eq0-2
returns-then-left-eq0-2 c = over_map c.in-Elem.left c.in-Elem.is c.if-left-eq0-2.true

pub returns-else-left-eq0-2 : goal.returns-else-left-eq0-2
returns-else-left-eq0-2 c = map_on c.in-Elem.left c.in-Elem.is c.if-left-eq0-2.false

pub returns-in-Fields : goal.returns-in-Fields
returns-in-Fields c = fields_on c.in-Fields.is
