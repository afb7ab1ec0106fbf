-- The names are those that are written, or that of the type.
use Rattle.std.proofs.Common.{◌≡◌, ◌∙◌, ◌∷◌, ◌++◌, [], List, ℕ, ap, arith, rules, subst, sym}
use Rattle.std.proofs.lemmas.List.{take_all}
use Rattle.std.specs.Borrow.{Bor}
use Rattle.gob_go_types.specs.Fields.{SendsNames, embedded, exported, written}
use Rattle.gob_go_types.proofs.fields.exported_names.Goals as goal

none_front : (xs ys zs : List (Bor (List ℕ))) → xs ≡ [] → ys ≡ xs ++ zs → zs ≡ ys
none_front xs ys zs e f = sym (f ∙ ap (λ l. l ++ zs) e)

pub returns-then-embedded : goal.returns-then-embedded
returns-then-embedded c =
    subst (λ (ws : List (Bor (List ℕ))). SendsNames c.args.code.now.source.now c.args.line.now ws)
    (none_front c.new-names.result.items c.push_exported.new.names.items (exported (c.in_ok-name.name ∷ []))
    (search rules) c.in_ok-push_exported.ensures)
    (embedded (search rules) c.in_ok-name.ensures)

pub returns : goal.returns
returns c =
    subst (λ (ws : List (Bor (List ℕ))). SendsNames c.args.code.now.source.now c.args.line.now ws)
    (ap exported (sym (take_all c.loop-name.name-index c.args.line.now.names.items (grind arith)))
    ∙ sym c.loop-name.invariant)
    (written (search rules))
