-- The item is one of the stream.
use Rattle.gob_tool.proofs.Profile.FormLaws.{item_of}
use Rattle.gob_tool.proofs.go.rewrite.TidyFormsItemTextsGoSession.push_item.Goals as goal

pub push_hoisted-requires-clause-of_stream : goal.push_hoisted-requires-clause-of_stream
push_hoisted-requires-clause-of_stream c = item_of c.requires.of_stream

pub push_tidied-requires-clause-of_stream : goal.push_tidied-requires-clause-of_stream
push_tidied-requires-clause-of_stream c = item_of c.requires.of_stream
