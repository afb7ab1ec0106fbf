use Rattle.std.proofs.Common.{rules, ◌≡◌, ◌∙◌, ◌++◌, [], List, ap, subst, sym, ℕ}
use Rattle.std.proofs.lemmas.Result.{on_ok_weaker}
use Rattle.gob_go.specs.declared.item.GoItem.{GoItem}
use Rattle.gob_go_writer.specs.Hoisting.{IsHoisted}
use Rattle.gob_tool.proofs.Profile.FormLaws.{hoisted_given, hoisted_written}
use Rattle.gob_tool.proofs.go.forms.hoist_and_write.Goals as goal

pub write_items-requires : goal.write_items-requires
write_items-requires c =
    let empty : c.new-items.result.items ≡ [] = search rules in
    hoisted_given (subst (λ (l : List GoItem). IsHoisted c.args.item [] l) (sym c.deref.ensures.value)
    (subst (λ (l : List GoItem). IsHoisted c.args.item l c.hoist_item.new.out.items) empty
    c.in_ok-hoist_item.ensures)) c.requires

pub returns : goal.returns
returns c =
    let empty : c.new-items.result.items ≡ [] = search rules in
    let cleared : c.clear.new.self.items ≡ [] = search rules in
    on_ok_weaker c.write_items.result (λ written. hoisted_written
    (subst (λ (l : List GoItem). IsHoisted c.args.item [] l) (sym c.deref.ensures.value)
    (subst (λ (l : List GoItem). IsHoisted c.args.item l c.hoist_item.new.out.items) empty
    c.in_ok-hoist_item.ensures)) (λ bytes are. written bytes are ∙ ap (λ (l : List ℕ). l ++ bytes) cleared))
    c.write_items.ensures
