use Rattle.std.proofs.Common.{refl, true≢false, sym, ◌∙◌}
use Rattle.std.proofs.lemmas.Result.{on_ok_weaker}
use Rattle.gob_views.proofs.PartStreamLaws.{rest_all, rest_none}
use Rattle.gob_views.proofs.part_stream.push_parts_whole.Goals as goal

pub returns : goal.returns
returns c = λ each has.
    let s = c.in_ok-push_groups.ensures each has in
    on_ok_weaker c.push_parts_alone.result
    (λ lines. record {
      made = s.0;
      some = s.1;
      rest = rest_all _ _ _ _ _ _ _ _ _ _ c.args.is_whole c.if-not-is_whole.false
          c.if-left-eq0.false s.2 c.rest.ensures lines;
    }) c.push_parts_alone.ensures
