-- No part is next behind the text, and where its bracket closes.
use Rattle.json.specs.Reads.{token_of}
use Rattle.json_parts.specs.Copying.{parts_ended, text_ended}
use Rattle.json_parts.proofs.copy.next_begin.Goals as goal

pub returns-in_default-clause-value : goal.returns-in_default-clause-value
returns-in_default-clause-value c = text_ended c.in_default.ensures.value.0 c.in_default.ensures.value.1

pub returns-then-is_end-clause-value : goal.returns-then-is_end-clause-value
returns-then-is_end-clause-value c = parts_ended (token_of c.in-Some.token) c.if-is_end.ensures c.in-Some.ensures.value
