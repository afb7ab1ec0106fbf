use Rattle.std.proofs.Common.{ap, sym, ◌∙◌}
use Rattle.std.specs.Prelude.{Some}
use Rattle.gob_c.specs.Calls.{CheckFeedTold}
use Rattle.gob_c.proofs.HeldLaws.{goes_on}
use Rattle.gob_c.proofs.CountsLaws.{says_so, tells_so}
use Rattle.gob_c.proofs.in_pieces.gob_raw_check_feed.Goals as goal

pub returns : goal.returns
returns c =
    goes_on (λ old new. CheckFeedTold old new c.args.piece.now c.of.result c.of-2.result)
    (c.taken-boxed.ensures ∙ ap Some (sym c.deref_mut.ensures.value)) c.give.ensures (record {
      answer = c.feed-ended.result;
      says = says_so c.feed-ended.result c.of.ensures c.of-2.ensures;
      tells = tells_so _ _ c.deref.ensures c.of.ensures c.tally-tally.ensures;
      so = c.feed-ended.ensures;
    })
