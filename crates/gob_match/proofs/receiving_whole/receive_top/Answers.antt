use Rattle.gob_value.proofs.PublicLaws.{seen}
use Rattle.gob_match.proofs.WholeReceived.{if_some, struct_top, top_behind}
use Rattle.gob_match.proofs.receiving_whole.receive_top.Goals as goal

pub returns-in-Fields : goal.returns-in-Fields
returns-in-Fields g c =
    if_some c.receive_typed.result (λ end s. seen s (λ x y q. struct_top c.in-Fields.is c.conversion_of.ensures q))
    c.receive_typed.ensures

pub returns : goal.returns
returns g c =
    if_some c.receive_typed-2.result (λ end s. top_behind c.args.body.now end c.in_default.not-Fields
    c.conversion_of.ensures c.in_ok-put_tag.ensures (c.is_tagged.ensures c.if-not-is_tagged.false) s)
    c.receive_typed-2.ensures
