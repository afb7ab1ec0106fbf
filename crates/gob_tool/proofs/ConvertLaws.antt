-- The texts of received values, behind definitions, are a stream.
use Rattle.std.proofs.Common.{◌≡◌, ℕ, ℤ, ◌+◌, ◌≤◌, ◌∙◌, arith, List, [], ◌∷◌, ◌++◌, length, Some, ap, sym, subst, refl}
use Rattle.std.proofs.Common.{append_assoc, length-append}
use Rattle.gob_types.specs.declared.id.TypeId.{TypeId}
use Rattle.gob_types.specs.Base.{base_table}
use Rattle.gob_types.specs.Table.{Table}
use Rattle.gob_types.proofs.PublicLaws.{Keeps}
use Rattle.gob_value.specs.Tree.{Tree}
use Rattle.gob_value.proofs.PublicLaws.{spells_on, top_back}
use Rattle.gob_match.proofs.ReceiveLaws.{no_deeper}
use Rattle.gob_stream.specs.Body.{Body, MayPut, definition as of_definition, value as of_value}
use Rattle.gob_stream.specs.Bounds.{Bounds}
use Rattle.gob_stream.specs.Item.{StreamItem, defines, puts}
use Rattle.gob_stream.specs.Outcome.{BeginsWithStream}
use Rattle.gob_stream.specs.Stream.{IsItem, counted, AreItems, Stream, no_more, and_then}
use Rattle.gob_stream.proofs.Stream.StreamLaws.{items_behind}
use Rattle.gob_tool.specs.Converting.{ArePutsReceived, no_item as no_put, definition as no_put_of, value as put_of}
use Rattle.gob_tool.specs.Converting.{HasConverted, as_long_as, in_front}
use Rattle.gob_tool.specs.Taking.{first_type}
use Rattle.gob_tool.specs.Machine.Received.{AreReceivedIn, no_item, definition, value, AreSpelled, none_spelled}
use Rattle.gob_tool.specs.Machine.Received.{spelled}
use Rattle.gob_tool.specs.Machine.Rewritten.{IsNumbered, SpellsItem, spells_definition, spells_value}
use Rattle.gob_tool.specs.declared.received_form.ReceivedForm.TheVariants as form
use Rattle.gob_tool.proofs.LinesStay.{body_keeps, keeps_itself, keeps_on, stream_keeps}

-- ---- an item
-- the text of a type number and a content is the item of the body that they make
numbered : {M : Bounds} {T V : Table} {i : StreamItem} {number : ℤ} {b text : List ℕ} (low : ℕ)
    (h : IsNumbered number b text) → Body base_table M T i (h.before.name ++ b) V → length text ≤ M.item
    → low + length text ≤ M.stream → IsItem base_table M T low i text V
numbered {M = M} {T = T} {V = V} {i = i} {b = b} {text = text} low h body short fits =
    let whole = h.whole ∙ ap (λ (z : List ℕ). z ++ b) h.before.whole
    ∙ append_assoc h.before.count h.before.name b in
    let size = length-append h.before.count (h.before.name ++ b) in
    subst (λ (z : List ℕ). IsItem base_table M T low i z V) (sym whole)
    (counted h.before.counts (omega (arith, ap length whole, size, short)) (omega (arith, ap length whole, fits)) body)

-- the definitions in front of a value of the type u, one of U
record FrontStands (M : Bounds) (T U : Table) (u : TypeId) (low : ℕ) (front : List StreamItem) (text : List ℕ) : Type
    0 where
  table : Table
  stands : AreItems base_table M T low front text table
  may : MayPut table u
  keeps : Keeps table U

-- what is received of the items, by the types of W
record ValuesStand (M : Bounds) (T U W : Table) (u : TypeId) (low : ℕ) (items : List StreamItem) (text : List ℕ) : Type
    0 where
  received : List StreamItem
  are : ArePutsReceived T U u items received
  stands : AreItems base_table M W low received text W

module _ {L M : Bounds} (deep_as : M.depth ≡ L.depth) (types_as : M.types ≡ L.types) where
  definition_stands : {T V : Table} {id : TypeId} {v : Tree} {offset : ℕ} {bytes text : List ℕ} (low : ℕ)
      → Keeps base_table T → IsItem base_table L T offset (defines id v) bytes V
      → SpellsItem base_table (defines id v) text → length text ≤ M.item → low + length text ≤ M.stream
      → IsItem base_table M T low (defines id v) text V
  definition_stands low base (counted u l s (of_definition may deep describes e n k)) (spells_definition e' spells h)
      short fits =
      numbered low h (of_definition (record { own = may.own; new = may.new; room = omega (arith, may.room, types_as) })
      (omega (arith, deep, deep_as)) describes e' h.before.names (spells_on base spells)) short fits

  -- ---- the definitions in front of the first value
  front_stands : {T V : Table} {u : TypeId} {offset : ℕ} {items : List StreamItem} {bytes text : List ℕ} (low : ℕ)
      → Keeps base_table T → AreItems base_table L T offset items bytes V → first_type items ≡ Some u
      → AreSpelled (in_front items) text → length text ≤ M.item → low + length text ≤ M.stream
      → FrontStands M T V u low (in_front items) text
  front_stands low base no_more first q short fits = absurd (cc first)
  front_stands low base (and_then (counted x l s (of_definition may deep d y n k)) e r) first
      (spelled {text = text} {more = more} p ps) short fits =
      let size = length-append text more in
      let item = definition_stands low base (counted x l s (of_definition may deep d y n k)) p
      (omega (arith, size, short)) (omega (arith, size, fits)) in
      let rest = front_stands (low + length text) (keeps_on base (body_keeps (of_definition may deep d y n k))) r first
      ps (omega (arith, size, short)) (omega (arith, size, fits)) in
      record { table = rest.table; stands = and_then item refl rest.stands; may = rest.may; keeps = rest.keeps }
  front_stands {T = T} {u = u} low base (and_then (counted x l s (of_value {t = t} may deep n k)) e r) first
      none_spelled
      short fits =
      let same : t ≡ u = cc in
      record { table = T; stands = no_more; may = subst (λ (t : TypeId). MayPut T t) same may; keeps = stream_keeps r }

  -- ---- the values behind them
  values_stand : {S T U V W : Table} {u : TypeId} {offset : ℕ} {items : List StreamItem} {bytes text : List ℕ}
      (low : ℕ) → MayPut W u → Keeps W U → AreItems base_table L S offset items bytes V
      → AreReceivedIn form.Item T U u items text → length text ≤ M.item → low + length text ≤ M.stream
      → ValuesStand M T U W u low items text
  values_stand low may keeps no_more no_item short fits = record { received = []; are = no_put; stands = no_more }
  values_stand low may keeps (and_then (counted x l s (of_definition m d y z n k)) e r) (definition h) short fits =
      let rest = values_stand low may keeps r h short fits in
      record { received = rest.received; are = no_put_of rest.are; stands = rest.stands }
  values_stand {u = u} low may keeps (and_then (counted x l s (of_value m deep n k)) e r)
      (value {w = w} {text = text} said match receives (spells_value spells h) hs) short fits =
      let size = length-append said text in
      let less = no_deeper receives in
      let item = numbered low h (of_value may (omega (arith, deep, less, deep_as)) h.before.names
      (top_back keeps may.ready spells)) (omega (arith, size, short)) (omega (arith, size, fits)) in
      let rest = values_stand (low + length said) may keeps r hs (omega (arith, size, short))
      (omega (arith, size, fits)) in
      record {
        received = puts u w ∷ rest.received;
        are = put_of match receives rest.are;
        stands = and_then item refl rest.stands;
      }

-- ---- both
pub has_converted : {L : Bounds} {wanted bytes definitions text : List ℕ} {T U : Table} {u : TypeId}
    {given items : List StreamItem} {P : List ℕ → Type 0} → Stream base_table L given wanted U
    → first_type given ≡ Some u → AreSpelled (in_front given) definitions
    → BeginsWithStream base_table L bytes items → AreReceivedIn form.Item T U u items text → P (definitions ++ text)
    → HasConverted L (in_front given) U u P T items
has_converted {L = L} {definitions = definitions} {text = text} s first front b values holds =
    let size = length-append definitions text in
    let M : Bounds = as_long_as (definitions ++ text) L in
    let f = front_stands {L = L} {M = M} refl refl 0 (keeps_itself base_table) s first front (omega (arith, size))
    (omega (arith, size)) in
    let v = values_stand {L = L} {M = M} refl refl (length definitions) f.may f.keeps b.stream values
    (omega (arith, size)) (omega (arith, size)) in
    record {
      received = v.received;
      are = v.are;
      bytes = definitions ++ text;
      table = f.table;
      stream = items_behind f.stands (omega arith) v.stands;
      holds = holds;
    }
