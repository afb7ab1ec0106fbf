-- Sessions of the format can be counted with.
use Rattle.std.proofs.Common.{◌≡◌, ℕ, ◌≤◌, List, [], ◌∷◌, ◌++◌, length, arith, ap, sym, subst, refl, ◌∙◌}
use Rattle.std.proofs.Common.{append-nil, length-append}
use Rattle.gob_types.specs.Base.{base_table}
use Rattle.gob_types.specs.Table.{Table}
use Rattle.gob_types.specs.declared.id.TypeId.{TypeId}
use Rattle.gob_value.specs.Tree.{Tree}
use Rattle.gob_value.specs.declared.value.Value.{Value}
use Rattle.gob_read.specs.Building.{Building}
use Rattle.gob_stream.specs.Body.{Body, definition, value}
use Rattle.gob_stream.specs.Bounds.{Bounds, no_deeper}
use Rattle.gob_stream.specs.Calls.Session.{limits_of, types_of}
use Rattle.gob_stream.specs.Item.{ItemMeans, StreamItem, means_definition, means_value, puts}
use Rattle.gob_stream.specs.Stream.{AreItems, Stream, no_more, and_then, counted}
use Rattle.gob_stream.specs.StrictStepping.{strict_stepping}
use Rattle.gob_stream.specs.declared.item.Item as declared
use Rattle.gob_stream.specs.declared.item.Item.TheVariants as variant
use Rattle.gob_stream.proofs.PublicLaws.{one_prefix}
use Rattle.gob_stream.proofs.Reader.UnderWayLaws.{count_begins_here}
use Rattle.gob_counted.specs.Apart.{IsCountable, IsDefinition, ValuesIn, a_value, no_values}

body_grows : {base : Table} {L : Bounds} {T U : Table} {i : StreamItem} {d : List ℕ} → Body base L T i d U
    → length T ≤ length U
body_grows {T = T} (definition {id = id} {s = s} p l x n q k) = omega (arith, length-append T ((id, s) ∷ []))
body_grows (value p l n k) = omega arith

items_grow : {base : Table} {L : Bounds} {T U : Table} {offset : ℕ} {items : List StreamItem} {b : List ℕ}
    → AreItems base L T offset items b U → length T ≤ length U
items_grow no_more = omega arith
items_grow (and_then (counted u l s p) e r) =
    let one = body_grows p in
    let rest = items_grow r in
    omega (arith, one, rest)

module _ {X O : Type 0} {most : ℕ} (building : Building X O most) where
  no_definition : {t : TypeId} {v : Tree} → ¬ IsDefinition (strict_stepping building) (puts t v)
  no_definition def_ = let is = def_.is in cc

  values : {base : Table} {L : Bounds} {T U : Table} {offset : ℕ} {items : List StreamItem} {b : List ℕ}
      → AreItems base L T offset items b U → length U ≤ length T
      → ValuesIn (strict_stepping building) items (length items)
  values no_more same = no_values
  values {T = T} (and_then (counted u l s (definition {id = id} {s = shape} p g x n q k)) e r) same =
      let grow = items_grow r in
      absurd (omega (arith, grow, same, length-append T ((id, shape) ∷ [])))
  values (and_then (counted u l s (value p g n k)) e r) same = a_value no_definition (values r same) (omega arith)

  pub strict_is_countable : IsCountable (strict_stepping building)
  strict_is_countable = record {
    one_stream = λ L items b c x y T U p q e. let one = one_prefix x y p q e in (one.prefix, one.table);
    are_values = λ L T offset items bytes a. values a (omega arith);
    whole = λ s items bytes a between.
        let none = count_begins_here a between.stage refl in
        subst (λ b. Stream base_table (no_deeper most (limits_of s)) items b (types_of s))
        (sym (a.whole ∙ ap (λ y. a.prefix ++ y) none ∙ append-nil a.prefix)) a.stream;
  }

  -- an item that was handed out tells what it is
  pub definition_told : {id : TypeId} {described : Value} {given : declared.Item O} {told : StreamItem}
      → given ≡ variant.Define id described → ItemMeans building.means given told
      → IsDefinition (strict_stepping building) told
  definition_told e (means_definition {id = id} {described = described}) = record
      { id = id; description = _; is = refl }
  definition_told e (means_value m) = absurd (cc)

  pub value_told : {id : TypeId} {value : O} {given : declared.Item O} {told : StreamItem}
      → given ≡ variant.Put id value → ItemMeans building.means given told
      → ¬ IsDefinition (strict_stepping building) told
  value_told e means_definition = absurd (cc)
  value_told e (means_value m) = no_definition
