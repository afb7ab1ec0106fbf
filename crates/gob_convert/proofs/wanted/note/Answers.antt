use Rattle.gob_convert.proofs.WantedLaws.{definition_noted}
use Rattle.gob_convert.proofs.wanted.note.Goals as goal

pub returns-in_ok-define-in-None-Define-clause-noted : goal.returns-in_ok-define-in-None-Define-clause-noted
returns-in_ok-define-in-None-Define-clause-noted c = λ T i m.
    definition_noted c.args.known c.args.item.now i c.in-None-Define.is-0 c.in-None-Define.is-1 m
    (λ items h. c.in_ok-define-in-None-Define.ensures.defined items c.in-None-Define.described-1 c.in-None-Define.is-1
    h)
