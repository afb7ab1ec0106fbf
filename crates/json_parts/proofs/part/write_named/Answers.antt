-- From item to item what is written, and what is left, are all of them.
use Rattle.std.proofs.Common.{◌∙◌, List, [], ◌∷◌, ◌++◌, ap, append_assoc, arith, codes, length, rules}
use Rattle.json.specs.Token.{Token}
use Rattle.json.specs.Tree.{members_tokens}
use Rattle.json_parts.specs.Parts.{named}
use Rattle.std.proofs.lemmas.Result.{on_ok_weaker}
use Rattle.json_parts.proofs.PartLaws.{named_end, named_on}
use Rattle.json_parts.proofs.part.write_named.Goals as goal

pub items-init : goal.items-init
items-init c = (
  search rules,
  record {
    before = c.in_ok-begin_object.ensures.room.0;
    shorter = omega arith;
    named = λ js rest e. record {
      left = js;
      read = e;
      written = ap (λ (l : List Token). l ++ members_tokens (named (codes "key") js)) c.in_ok-begin_object.ensures.ok
          ∙ append_assoc c.args.out.now.tokens (Token.begin_object ∷ []) (members_tokens (named (codes "key") js));
    };
  },
)

pub items-preserved : goal.items-preserved
items-preserved c =
    let i = c.items.invariant.1 in
    let less = ap length c.in-Some.ensures.value in (
      search rules,
      record {
        before = c.in_ok-copy_value.ensures.before ∙ c.in_ok-key.ensures.room.0 ∙ i.before;
        shorter = omega (arith, c.in_ok-copy_value.ensures.no_longer, i.shorter, less);
        named = λ js rest e.
            named_on (i.named js rest e) c.in-Some.ensures.value c.in-Some.ensures.begins c.in_ok-key.ensures.ok
            c.in_ok-copy_value.ensures.copied;
      },
    )

pub returns-clause-items : goal.returns-clause-items
returns-clause-items c = λ js rest e.
    let named = c.items.invariant.1.named js rest e in
    on_ok_weaker c.end_object.result (λ made. named_end named c.in_default.ensures.value made) c.end_object.ensures.ok
