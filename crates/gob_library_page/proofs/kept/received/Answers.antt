use Rattle.gob_library_page.proofs.kept.received.Goals as goal

pub match_types-requires-clause-stream_ready : goal.match_types-requires-clause-stream_ready
match_types-requires-clause-stream_ready c = c.kept.ensures.0 c.if-not-kept.false

pub match_types-requires-clause-wanted_ready : goal.match_types-requires-clause-wanted_ready
match_types-requires-clause-wanted_ready c = c.kept-else-not-kept.ensures.0 c.if-not-kept-2.false
