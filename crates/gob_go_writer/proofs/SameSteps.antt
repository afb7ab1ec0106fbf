-- Whether two that are kept stand for the same, part by part.
use Rattle.std.proofs.Common.{◌≡◌, ℕ, ◌+◌, ◌<◌, List, [], ◌∷◌, length, drop, get_or, arith, refl, sym, ap, subst}
use Rattle.std.proofs.Common.{◌∙◌, ◌++◌, suc}
use Rattle.gob_num.specs.Spelled.{Appends}
use Rattle.gob_types.specs.declared.id.TypeId.{TypeId}
use Rattle.gob_types.specs.Table.{Table}
use Rattle.gob_types.specs.Base.{wire_type}
use Rattle.gob_value.specs.Spelling.{Spells}
use Rattle.gob_value.specs.Top.{SpellsTop}
use Rattle.gob_value.specs.Tree.{Tree}
use Rattle.gob_value.specs.View.{view}
use Rattle.gob_value.specs.declared.value.Value.{Value}
use Rattle.gob_value.proofs.PublicLaws.{one_spelling, one_top, same_spelling}
use Rattle.gob_filled.specs.Filled.{Definitions, no_definitions, definition, Fillings, no_filling, filling}
use Rattle.gob_filled.specs.Filled as spelled
use Rattle.gob_filled.specs.Stream.{FilledItem, defining, putting}
use Rattle.gob_go.specs.Meaning.{IsFilled, is_filled, AreFillings, no_fillings, filling_then, definitions_of}
use Rattle.gob_go.specs.Meaning.{ItemMeans, means_definition, means_value}
use Rattle.gob_go.specs.declared.filled.Definition.{Definition}
use Rattle.gob_go.specs.declared.filled.Filled.{Filled, out-Filled}
use Rattle.gob_go.specs.declared.filled.Filling.{Filling, out-Filling}
use Rattle.gob_go.specs.declared.item.GoItem.{GoItem}
use Rattle.gob_go.specs.declared.item.GoItem.TheVariants as item
use Rattle.gob_go_writer.specs.Machine.Alike.{AllFillAlike, AllFillAs, AreAlikeDescribed, AreDefinedAlike}
use Rattle.gob_go_writer.specs.Machine.Alike.{AreFilledAlike, FillAlike, FillingsDescribed, FillsAs}
use Rattle.gob_go_writer.specs.Machine.Alike.{ValueDescribed}
use Rattle.gob_go.proofs.IdLaws.{item_left}
use Rattle.gob_go_writer.proofs.ValueSteps.{FirstFilling, first_filling}

-- ---- definitions

pub record DefinitionsSo (T : Table) (given due : List Definition) (i : ℕ) : Type 0 where
  pub onward : definitions_of (drop i given) ≡ definitions_of (drop i due) → definitions_of given ≡ definitions_of due
  pub left : AreDefinedAlike T given due → AreDefinedAlike T (drop i given) (drop i due)

pub no_definition_yet : (T : Table) (given due : List Definition) → DefinitionsSo T given due 0
no_definition_yet T given due = record { onward = λ e. e; left = λ h. h }

pub record HeadDefined (T : Table) (a b : Definition) (given due : List Definition) : Type 0 where
  pub id : a.id ≡ b.id
  pub described : AreAlikeDescribed T (view a.described) (view b.described)
  pub others : AreDefinedAlike T given due

head_defined : {T : Table} (a b : Definition) (given due : List Definition)
    → AreDefinedAlike T (a ∷ given) (b ∷ due) → HeadDefined T a b given due
head_defined a b given due h =
    let e : definition a.id (view a.described) (definitions_of given)
    ≡ definition b.id (view b.described) (definitions_of due) = h.same in
    record {
      id = cc;
      described = record { described = h.described.0; same = cc };
      others = record { described = h.described.1; same = cc };
    }

-- those at this place
pub defined_there : {T : Table} (given due : List Definition) (i : ℕ) (a b : Definition) → a ≡ get_or given i a
    → b ≡ get_or due i b → i < length given → length given ≡ length due → DefinitionsSo T given due i
    → AreDefinedAlike T given due → HeadDefined T a b (drop (i + 1) given) (drop (i + 1) due)
defined_there {T = T} given due i a b p q l n s h =
    head_defined a b (drop (i + 1) given) (drop (i + 1) due)
    (subst (λ l. AreDefinedAlike T (a ∷ drop (i + 1) given) l) (item_left due i b q (omega arith))
    (subst (λ l. AreDefinedAlike T l (drop i due)) (item_left given i a p l) (s.left h)))

-- they are alike
pub defined_on : {T : Table} (given due : List Definition) (i : ℕ) (a b : Definition) → a ≡ get_or given i a
    → b ≡ get_or due i b → i < length given → length given ≡ length due → a.id ≡ b.id
    → view a.described ≡ view b.described → DefinitionsSo T given due i → DefinitionsSo T given due (i + 1)
defined_on given due i a b p q l n one same s = record {
  onward = λ e.
      let first : definitions_of (drop i given)
      ≡ definition a.id (view a.described) (definitions_of (drop (i + 1) given)) =
      ap definitions_of (item_left given i a p l) in
      let second : definitions_of (drop i due)
      ≡ definition b.id (view b.described) (definitions_of (drop (i + 1) due)) =
      ap definitions_of (item_left due i b q (omega arith)) in
      s.onward (cc);
  left = λ h. (defined_there given due i a b p q l n s h).others;
}

pub all_defined : {T : Table} {given due : List Definition} {i : ℕ} → drop i given ≡ [] → drop i due ≡ []
    → DefinitionsSo T given due i → definitions_of given ≡ definitions_of due
all_defined p q s = s.onward (ap definitions_of p ∙ sym (ap definitions_of q))

pub as_many : (given due : List Definition) → definitions_of given ≡ definitions_of due → length given ≡ length due
as_many [] [] e = refl
as_many [] (b ∷ due) e = absurd (cc)
as_many (a ∷ given) [] e = absurd (cc)
as_many (a ∷ given) (b ∷ due) e = ap (λ n. suc n) (as_many given due (let f :
    definition a.id (view a.described) (definitions_of given)
    ≡ definition b.id (view b.described) (definitions_of due) = e in cc))

-- ---- descriptions

-- spelled behind nothing
alone : {P : List ℕ → Type 0} {x b : List ℕ} → x ≡ [] → (a : Appends P x b) → b ≡ a.bytes
alone e a = a.appended ∙ ap (λ l. l ++ a.bytes) e

pub same_described : {T : Table} {v w : Tree} {x y b c : List ℕ} → x ≡ [] → y ≡ []
    → Appends (Spells T wire_type v) x b → Appends (Spells T wire_type w) y c → b ≡ c → v ≡ w
same_described p q a d e =
    let same : a.bytes ≡ d.bytes = sym (alone p a) ∙ e ∙ alone q d in
    (same_spelling [] [] a.spelled d.spelled (ap (λ (l : List ℕ). l ++ []) same)).value

pub same_spelled : {T : Table} {v w : Tree} {x y b c : List ℕ} → x ≡ [] → y ≡ []
    → Appends (Spells T wire_type v) x b → Appends (Spells T wire_type w) y c → v ≡ w → b ≡ c
same_spelled {T = T} p q a d e =
    let one : a.bytes ≡ d.bytes =
    one_spelling a.spelled (subst (λ v. Spells T wire_type v d.bytes) (sym e) d.spelled) in
    alone p a ∙ one ∙ sym (alone q d)

-- ---- what fills a nil

-- the first ones, and the others
pub record HeadAlike (T : Table) (given due : Filling) (all others : List Filling) : Type 0 where
  pub place : (out-Filling given).place ≡ (out-Filling due).place
  pub name : (out-Filling given).name.items ≡ (out-Filling due).name.items
  pub id : (out-Filling given).id ≡ (out-Filling due).id
  pub definitions : AreDefinedAlike T (out-Filling given).definitions.items (out-Filling due).definitions.items
  pub value : AreFilledAlike T (out-Filling given).value (out-Filling due).value
  pub rest : AllFillAlike T all others

-- what a filling is
record OneFilling (k l : ℕ) (s r : List ℕ) (ds es : Definitions) (t u : TypeId) (v w : spelled.Filled)
    (fs gs : Fillings) : Type 0 where
  pub place : k ≡ l
  pub name : s ≡ r
  pub definitions : ds ≡ es
  pub type : t ≡ u
  pub value : v ≡ w
  pub others : fs ≡ gs

one_filling : {k l : ℕ} {s r : List ℕ} {ds es : Definitions} {t u : TypeId} {v w : spelled.Filled} {fs gs : Fillings}
    → filling k s ds t v fs ≡ filling l r es u w gs → OneFilling k l s r ds es t u v w fs gs
one_filling e = record { place = cc; name = cc; definitions = cc; type = cc; value = cc; others = cc }

pub head_alike : {T : Table} (given due : Filling) (all others : List Filling)
    → AllFillAlike T (given ∷ all) (due ∷ others) → HeadAlike T given due all others
head_alike {T = T} given due all others h =
    let a : FirstFilling h.now given all h.fillings = first_filling h.given_are in
    let b : FirstFilling h.now due others h.fillings = first_filling h.due_are in
    let one = one_filling (sym a.is ∙ b.is) in
    let described = subst (λ fs. FillingsDescribed T fs) a.is h.described in
    record {
      place = one.place;
      name = one.name;
      id = one.type;
      definitions = record { described = described.0; same = one.definitions };
      value = record {
        now = h.now;
        type = (out-Filling given).id;
        value = a.value;
        given_is = a.means;
        due_is = subst (λ t. IsFilled h.now t (out-Filling due).value a.value) (sym one.type)
            (subst (λ w. IsFilled h.now (out-Filling due).id (out-Filling due).value w) (sym one.value) b.means);
        described = described.1.0;
      };
      rest = record {
        now = h.now;
        fillings = a.others;
        given_are = a.others_mean;
        due_are = subst (λ fs. AreFillings h.now others fs) (sym one.others) b.others_mean;
        described = described.1.1;
      };
    }

-- the first ones alone
pub one_alike : {T : Table} (given due : Filling) (all others : List Filling)
    → AllFillAlike T (given ∷ all) (due ∷ others) → FillAlike T given due
one_alike {T = T} given due all others h =
    let a : FirstFilling h.now given all h.fillings = first_filling h.given_are in
    let b : FirstFilling h.now due others h.fillings = first_filling h.due_are in
    let one = one_filling (sym a.is ∙ b.is) in
    let described = subst (λ fs. FillingsDescribed T fs) a.is h.described in
    record {
      now = h.now;
      fillings = filling (out-Filling given).place (out-Filling given).name.items
          (definitions_of (out-Filling given).definitions.items) (out-Filling given).id a.value no_filling;
      given_are = filling_then a.means no_fillings;
      due_are = subst (λ fs. AreFillings h.now (due ∷ []) fs) (same_head one) (filling_then b.means no_fillings);
      described = (described.0, (described.1.0, tt));
    }
  where
    same_head : {k l : ℕ} {s r : List ℕ} {ds es : Definitions} {t u : TypeId} {v w : spelled.Filled} {fs gs : Fillings}
        → OneFilling k l s r ds es t u v w fs gs → filling l r es u w no_filling ≡ filling k s ds t v no_filling
    same_head o = cc

-- two that fill alike fill as one another
pub fills_as : {given due : Filling} → (out-Filling given).place ≡ (out-Filling due).place
    → (out-Filling given).name.items ≡ (out-Filling due).name.items → (out-Filling given).id ≡ (out-Filling due).id
    → definitions_of (out-Filling given).definitions.items ≡ definitions_of (out-Filling due).definitions.items
    → ((T : Table) (t : TypeId) (w : spelled.Filled) → IsFilled T t (out-Filling given).value w
    → IsFilled T t (out-Filling due).value w)
    → FillsAs given due
fills_as {given = given} {due = due} place name id defs same all others rest T fs h =
    let a : FirstFilling T given all fs = first_filling h in
    let means : IsFilled T (out-Filling due).id (out-Filling due).value a.value =
    subst (λ t. IsFilled T t (out-Filling due).value a.value) id (same T (out-Filling given).id a.value a.means) in
    let there : AreFillings T (due ∷ others) (filling (out-Filling due).place (out-Filling due).name.items
    (definitions_of (out-Filling due).definitions.items) (out-Filling due).id a.value a.others) =
    filling_then means (rest T a.others a.others_mean) in
    subst (λ fs. AreFillings T (due ∷ others) fs) (alike place name id defs ∙ sym a.is) there
  where
    alike : {p q : ℕ} {s r : List ℕ} {t u : TypeId} {ds es : Definitions} {w : spelled.Filled} {gs : Fillings} → p ≡ q
        → s ≡ r → t ≡ u → ds ≡ es → filling q r es u w gs ≡ filling p s ds t w gs
    alike e f g h = cc

pub record FillingsSo (T : Table) (given due : List Filling) (i : ℕ) : Type 0 where
  pub onward : AllFillAs (drop i given) (drop i due) → AllFillAs given due
  pub left : AllFillAlike T given due → AllFillAlike T (drop i given) (drop i due)

pub no_filling_yet : (T : Table) (given due : List Filling) → FillingsSo T given due 0
no_filling_yet T given due = record { onward = λ e. e; left = λ h. h }

pub alike_there : {T : Table} (given due : List Filling) (i : ℕ) (a b : Filling) → a ≡ get_or given i a
    → b ≡ get_or due i b → i < length given → length given ≡ length due → FillingsSo T given due i
    → AllFillAlike T given due → AllFillAlike T (a ∷ drop (i + 1) given) (b ∷ drop (i + 1) due)
alike_there {T = T} given due i a b p q l n s h =
    subst (λ l. AllFillAlike T (a ∷ drop (i + 1) given) l) (item_left due i b q (omega arith))
    (subst (λ l. AllFillAlike T l (drop i due)) (item_left given i a p l) (s.left h))

pub filled_on : {T : Table} (given due : List Filling) (i : ℕ) (a b : Filling) → a ≡ get_or given i a
    → b ≡ get_or due i b → i < length given → length given ≡ length due → FillsAs a b → FillingsSo T given due i
    → FillingsSo T given due (i + 1)
filled_on given due i a b p q l n f s = record {
  onward = λ rest. s.onward (subst (λ l. AllFillAs l (drop i due)) (sym (item_left given i a p l))
      (subst (λ l. AllFillAs (a ∷ drop (i + 1) given) l) (sym (item_left due i b q (omega arith)))
      (f (drop (i + 1) given) (drop (i + 1) due) rest)));
  left = λ h. (head_alike a b _ _ (alike_there given due i a b p q l n s h)).rest;
}

none_as : AllFillAs [] []
none_as T fs h = h

pub all_filled : {T : Table} {given due : List Filling} {i : ℕ} → drop i given ≡ [] → drop i due ≡ []
    → FillingsSo T given due i → AllFillAs given due
all_filled {given = given} {due = due} {i = i} p q s =
    s.onward (subst (λ l. AllFillAs l (drop i due)) (sym p) (subst (λ l. AllFillAs [] l) (sym q) none_as))

-- ---- values

pub record ValueAlike (T : Table) (given due : Filled) : Type 0 where
  pub skeleton : (out-Filled given).skeleton.items ≡ (out-Filled due).skeleton.items
  pub fillings : AllFillAlike T (out-Filled given).fillings.items (out-Filled due).fillings.items

pub value_alike : {T : Table} {given due : Filled} → AreFilledAlike T given due → ValueAlike T given due
value_alike {T = T} {given = given} {due = due} h = by h.given_is h.due_is h.described
  where
    by : {now : Table} {t : TypeId} {w : spelled.Filled} → IsFilled now t given w → IsFilled now t due w
        → ValueDescribed T w → ValueAlike T given due
    by {now = now} (is_filled {fs = fs} top means) (is_filled top' means') described = record {
      skeleton = one_top top top';
      fillings = record {
        now = now;
        fillings = fs;
        given_are = means;
        due_are = means';
        described = described;
      };
    }

many : {T : Table} {all : List Filling} {fs gs : Fillings} {others : List Filling} → AreFillings T all fs
    → AreFillings T others gs → fs ≡ gs → length all ≡ length others
many no_fillings no_fillings e = refl
many no_fillings (filling_then m ms) e = absurd (cc)
many (filling_then m ms) no_fillings e = absurd (cc)
many (filling_then m ms) (filling_then n ns) e = ap (λ n. suc n) (many ms ns (one_filling e).others)

pub as_many_fillings : {T : Table} {given due : List Filling} → AllFillAlike T given due → length given ≡ length due
as_many_fillings h = many h.given_are h.due_are refl

pub filled_as : {given due : Filled} → (out-Filled given).skeleton.items ≡ (out-Filled due).skeleton.items
    → AllFillAs (out-Filled given).fillings.items (out-Filled due).fillings.items → (T : Table) (t : TypeId)
    (w : spelled.Filled) → IsFilled T t given w → IsFilled T t due w
filled_as e f T t w (is_filled {v = v} {fs = fs} top means) =
    is_filled (subst (λ b. SpellsTop T t v b) e top) (f T fs means)

-- ---- items

pub defines_as : {given due : GoItem} {id other : TypeId} {described also : Value} → given ≡ item.Define id described
    → due ≡ item.Define other also → id ≡ other → view described ≡ view also → (T : Table) (i : FilledItem)
    → ItemMeans T given i → ItemMeans T due i
defines_as {given = given} {due = due} {id = id} {other = other} {described = described} {also = also} p q e f T i m =
    subst (λ g. ItemMeans T g i) (sym q) (by (subst (λ g. ItemMeans T g i) p m) e f)
  where
    both : {t u : TypeId} {v w : Tree} → t ≡ u → v ≡ w → defining u w ≡ defining t v
    both e f = cc

    by : {i : FilledItem} → ItemMeans T (item.Define id described) i → id ≡ other → view described ≡ view also
        → ItemMeans T (item.Define other also) i
    by means_definition e f = subst (λ i. ItemMeans T (item.Define other also) i) (both e f) means_definition

pub puts_as : {given due : GoItem} {id other : TypeId} {value also : Filled} → given ≡ item.Put id value
    → due ≡ item.Put other also → id ≡ other
    → ((T : Table) (t : TypeId) (w : spelled.Filled) → IsFilled T t value w → IsFilled T t also w)
    → (T : Table) (i : FilledItem) → ItemMeans T given i → ItemMeans T due i
puts_as {id = id} {other = other} {value = value} {also = also} p q e f T i m =
    subst (λ g. ItemMeans T g i) (sym q) (by (subst (λ g. ItemMeans T g i) p m) e)
  where
    by : {i : FilledItem} → ItemMeans T (item.Put id value) i → id ≡ other → ItemMeans T (item.Put other also) i
    by (means_value {w = w} k) e = subst (λ t. ItemMeans T (item.Put other also) (putting t w)) (sym e)
        (means_value (f T other w (subst (λ t. IsFilled T t value w) e k)))
