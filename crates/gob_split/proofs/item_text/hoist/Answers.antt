use Rattle.std.proofs.Common.{rules, ◌≡◌, ◌∙◌, ◌++◌, ◌∷◌, [], List, ap, arith, subst, sym, None, Option, IsSome}
use Rattle.std.proofs.lemmas.Result.{on_ok_weaker}
use Rattle.gob_go.specs.declared.item.GoItem.{GoItem}
use Rattle.gob_go.specs.declared.item.GoItem.TheVariants as item
use Rattle.gob_go_writer.specs.Hoisting.{IsHoisted}
use Rattle.gob_split.proofs.TextLaws.{apart_spelled, apart_text, no_none, some_made}
use Rattle.gob_split.proofs.item_text.hoist.Goals as goal

pub unreachable-requires : goal.unreachable-requires
unreachable-requires c =
    let empty : c.new-items.result.items ≡ [] = search rules in
    let h = subst (λ (l : List GoItem). IsHoisted (item.Put c.args.id c.args.value) l c.hoist_item.new.out.items) empty
    c.in_ok-hoist_item.ensures in
    let some = some_made c.requires.of_stream h in
    let none : c.pop.result ≡ None = search rules in
    no_none GoItem (subst (λ (o : Option GoItem). IsSome o) none
    (c.pop.ensures.variant.1 (omega (arith, some, c.hoist_item.new.out.ok))))

pub write_apart-written-requires-clause-definitions : goal.write_apart-written-requires-clause-definitions
write_apart-written-requires-clause-definitions c =
    let empty : c.new-items.result.items ≡ [] = search rules in
    let h = subst (λ (l : List GoItem). IsHoisted (item.Put c.args.id c.args.value) l c.hoist_item.new.out.items) empty
    c.in_ok-hoist_item.ensures in
    (apart_spelled c.requires.of_stream c.requires.short h (c.in-Some.ensures.items
    ∙ ap (λ (l : List GoItem). l ++ c.in-Some.value ∷ []) (sym c.deref.ensures.value))).definitions

pub write_apart-written-requires-clause-value : goal.write_apart-written-requires-clause-value
write_apart-written-requires-clause-value c =
    let empty : c.new-items.result.items ≡ [] = search rules in
    let h = subst (λ (l : List GoItem). IsHoisted (item.Put c.args.id c.args.value) l c.hoist_item.new.out.items) empty
    c.in_ok-hoist_item.ensures in
    (apart_spelled c.requires.of_stream c.requires.short h (c.in-Some.ensures.items
    ∙ ap (λ (l : List GoItem). l ++ c.in-Some.value ∷ []) (sym c.deref.ensures.value))).value

pub returns : goal.returns
returns c =
    let empty : c.new-items.result.items ≡ [] = search rules in
    let h = subst (λ (l : List GoItem). IsHoisted (item.Put c.args.id c.args.value) l c.hoist_item.new.out.items) empty
    c.in_ok-hoist_item.ensures in
    on_ok_weaker c.write_apart-written.result (λ made. apart_text c.requires.short h (c.in-Some.ensures.items
    ∙ ap (λ (l : List GoItem). l ++ c.in-Some.value ∷ []) (sym c.deref.ensures.value)) made)
    c.write_apart-written.ensures
