use Rattle.std.proofs.Common.{subst, sym}
use Rattle.std.proofs.lemmas.Result.{on_ok_weaker}
use Rattle.gob_types.specs.Defined.{types}
use Rattle.gob_stream.specs.Item.{StreamItem}
use Rattle.gob_tool.specs.Machine.Rewritten.{IsLastOfStream, IsTidyItem}
use Rattle.gob_tool.proofs.TidiedLaws.{definition_meant, given_last, value_meant}
use Rattle.gob_tool.proofs.tidied.push_tidied.Goals as goal

pub push_tidy_definition-requires-clause-of_stream : goal.push_tidy_definition-requires-clause-of_stream
push_tidy_definition-requires-clause-of_stream c =
    let x = given_last c.requires.of_stream in
    subst (λ (i : StreamItem). IsLastOfStream (types c.args.table.now) i)
    (sym (definition_meant x.means c.in-Define.is))
    x.last

pub push_tidy_value-pushed-requires-clause-of_stream : goal.push_tidy_value-pushed-requires-clause-of_stream
push_tidy_value-pushed-requires-clause-of_stream c =
    let x = given_last c.requires.of_stream in
    let o = value_meant x.means c.in-Put.is in (
      o.value,
      o.means,
      subst (λ (i : StreamItem). IsLastOfStream (types c.args.table.now) i) (sym o.same) x.last,
    )

pub returns-in-Define : goal.returns-in-Define
returns-in-Define c = on_ok_weaker c.push_tidy_definition.result (λ tidy i m last.
    subst (λ (i : StreamItem). IsTidyItem (types c.args.table.now) i c.push_tidy_definition.new.text.items)
    (definition_meant m c.in-Define.is) tidy) c.push_tidy_definition.ensures

pub returns-in-Put : goal.returns-in-Put
returns-in-Put c = on_ok_weaker c.push_tidy_value-pushed.result (λ tidy i m last.
    let o = value_meant m c.in-Put.is in
    subst (λ (i : StreamItem). IsTidyItem (types c.args.table.now) i c.push_tidy_value-pushed.new.text.items) o.same
    (tidy o.value o.means
    (subst (λ (i : StreamItem). IsLastOfStream (types c.args.table.now) i) (sym o.same) last)))
    c.push_tidy_value-pushed.ensures
