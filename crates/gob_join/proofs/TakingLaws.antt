-- What is written of an item that is taken in, step by step.
use Rattle.std.proofs.Common.{◌≡◌, ℕ, ◌+◌, ◌^◌, ◌<◌, ◌⊎◌, inl, inr, List, [], ◌∷◌, ◌++◌, length, Some, Contains, arith}
use Rattle.std.proofs.Common.{refl, sym, subst, ap, ◌∙◌, append_assoc, Bool, cond, eq-eqb, None, take}
use Rattle.std.proofs.lemmas.List.{append-nil, take_more}
use Rattle.std.proofs.lemmas.List.Elements.{Contains-append_cases}
use Rattle.std.specs.Prelude.{get_or}
use Rattle.gob_types.specs.Base.{base_table}
use Rattle.gob_types.specs.Definable.{IsDefinable}
use Rattle.gob_types.specs.declared.id.TypeId.{TypeId}
use Rattle.gob_types.specs.declared.kind.Field.{Field}
use Rattle.gob_types.specs.declared.kind.Kind.{Kind}
use Rattle.gob_types.specs.declared.kind.Shape.{Shape}
use Rattle.gob_types.specs.Table.{Table, shape_of}
use Rattle.gob_types.proofs.PublicLaws.{Keeps, shape_of-append_new, some_injective}
use Rattle.gob_value.specs.Described.{described}
use Rattle.gob_value.specs.Loose.{DescribesLoosely}
use Rattle.gob_value.specs.Tree.{Tree}
use Rattle.gob_value.specs.View.{view}
use Rattle.gob_value.specs.declared.value.Value.{Value}
use Rattle.gob_value.proofs.DescribedLaws.{describes}
use Rattle.gob_value.proofs.PublicLaws.{same_top, top_on}
use Rattle.gob_stream.specs.Bounds.{Bounds}
use Rattle.gob_filled.specs.Definition.{defines}
use Rattle.gob_filled.specs.Filled.{Fillings, filled}
use Rattle.gob_filled.specs.Filled as spelled
use Rattle.gob_filled.specs.Stream.{FilledItem, defining, putting, IsFilledItem, of_definition}
use Rattle.gob_filled.specs.Stream as stream
use Rattle.gob_filled.proofs.Prefix.{one_loosely}
use Rattle.gob_filled.proofs.Refused.{definition_keeps}
use Rattle.gob_filled.proofs.Strict.{filled_keeps}
use Rattle.gob_go.specs.Meaning.{AreFillings, no_fillings, filling_then, IsFilled, is_filled, ItemMeans}
use Rattle.gob_go.specs.Meaning.{means_definition, means_value}
use Rattle.gob_go.specs.declared.filled.Filled.{Filled, out-Filled}
use Rattle.gob_go.specs.declared.filled.Filling.{Filling}
use Rattle.gob_go.specs.declared.item.GoItem.{GoItem}
use Rattle.gob_go.specs.declared.item.GoItem.TheVariants as item
use Rattle.gob_go.proofs.MeaningLaws.{filled_on}
use Rattle.gob_go_writer.specs.Calls.Writer.{HasPut, PutsItem, types_of}
use Rattle.gob_go_writer.specs.Item.{IsGrown}
use Rattle.gob_go_writer.specs.declared.writer.GoWriter.{GoWriter}
use Rattle.gob_join.specs.Renaming.{AreRenamed, no_items, items_then, AreRenamedFields, no_field, field_then, Extends}
use Rattle.gob_join.specs.Renaming.{IsRenamedField, IsRenamedItem, of_item, IsRenamedKind, IsRenamedShape, IsRenaming}
use Rattle.gob_join.specs.Renaming.{NewId, StandsFor, among, values_of}
use Rattle.gob_join.specs.Renaming as renamed
use Rattle.gob_join.specs.Machine.Numbered.{NumbersSome}
use Rattle.gob_join.specs.Machine.Renamed.{HaveRenamed, RenamesKept}
use Rattle.gob_join.specs.Machine.Taking.{Defines, PutsShape, Settles, Stands, TakesValue}
use Rattle.gob_join.specs.Taking.{IsFilledFrom, TakesHeld, TakesItem, WritesOn}
use Rattle.gob_join.proofs.NumberLaws.{only_one}
use Rattle.gob_join.proofs.ValueLaws.{HasRenamed, has_renamed}

-- ---- what stays where more ids stand for others, and tables grow

fields_stay : {R S : NewId} {fs gs : List Field} → Extends R S → AreRenamedFields R fs gs → AreRenamedFields S fs gs
fields_stay x no_field = no_field
fields_stay x (field_then h hs) =
    field_then (record { name = h.name; type = x.kept _ _ h.type }) (fields_stay x hs)

kind_stays : {R S : NewId} {k l : Kind} → Extends R S → IsRenamedKind R k l → IsRenamedKind S k l
kind_stays x renamed.of_basic = renamed.of_basic
kind_stays x renamed.of_opaque = renamed.of_opaque
kind_stays x (renamed.of_slice e) = renamed.of_slice (x.kept _ _ e)
kind_stays x (renamed.of_array e) = renamed.of_array (x.kept _ _ e)
kind_stays x (renamed.of_struct fs) = renamed.of_struct (fields_stay x fs)
kind_stays x (renamed.of_map d e) = renamed.of_map (x.kept _ _ d) (x.kept _ _ e)

pub stands_on : {R S : NewId} {T T' U U' : Table} {t u : TypeId} → Extends R S → IsGrown T T' → IsGrown U U'
    → StandsFor R T U t u → StandsFor S T' U' t u
stands_on x k g s = record {
  shape = s.shape;
  new = s.new;
  found = k _ _ s.found;
  stands = g _ _ s.stands;
  renamed = record { name = s.renamed.name; kind = kind_stays x s.renamed.kind };
}

pub all_extend : {R : NewId} → Extends R R
all_extend = record { kept = λ t u e. e }

pub extend_on : {R S Q : NewId} → Extends R S → Extends S Q → Extends R Q
extend_on x y = record { kept = λ t u e. y.kept t u (x.kept t u e) }

pub none_grown : (T : Table) → IsGrown T T
none_grown T = λ t s e. e

pub renaming_on : {R : NewId} {T T' U U' : Table} → IsGrown T T' → IsGrown U U' → IsRenaming R T U
    → IsRenaming R T' U'
renaming_on k g r = record { each = λ t u e. stands_on all_extend k g (r.each t u e) }

-- no id stands for another
pub none_stands : {pairs : List (TypeId × TypeId)} {T U : Table} → pairs ≡ [] → IsRenaming (among pairs) T U
none_stands {T = T} {U = U} e =
    subst (λ pairs. IsRenaming (among pairs) T U) (sym e) (record { each = λ t u f. none f })
  where
    none : {A : Type 0} {u : TypeId} → None ≡ Some u → A
    none f = absurd (cc f)

-- ---- items one behind another

pub none_written : {w : GoWriter} {items : List FilledItem} {bytes : List ℕ} (old : List ℕ) → HasPut w items bytes
    → WritesOn w w items bytes old old []
none_written {w = w} {items = items} {bytes = bytes} old h = record {
  spelled = [];
  text = sym (append-nil old);
  put = subst (λ is. HasPut w is (bytes ++ [])) (sym (append-nil items))
      (subst (λ b. HasPut w items b) (sym (append-nil bytes)) h);
  grown = λ t s e. e;
}

pub written_on : {w w' w'' : GoWriter} {items more others : List FilledItem} {bytes old mid new : List ℕ}
    → (a : WritesOn w w' items bytes old mid more)
    → WritesOn w' w'' (items ++ more) (bytes ++ a.spelled) mid new others
    → WritesOn w w'' items bytes old new (more ++ others)
written_on {w'' = w''} {items = items} {more = more} {others = others} {bytes = bytes} {old = old} a b = record {
  spelled = a.spelled ++ b.spelled;
  text = b.text ∙ ap (λ l. l ++ b.spelled) a.text ∙ append_assoc old a.spelled b.spelled;
  put = subst (λ is. HasPut w'' is (bytes ++ (a.spelled ++ b.spelled))) (append_assoc items more others)
      (subst (λ l. HasPut w'' ((items ++ more) ++ others) l) (append_assoc bytes a.spelled b.spelled) b.put);
  grown = λ t s e. b.grown t s (a.grown t s e);
}

pub item_keeps : {base : Table} {L : Bounds} {T U : Table} {offset : ℕ} {i : FilledItem} {b : List ℕ}
    → IsFilledItem base L T offset i b U → Keeps T U
item_keeps (of_definition n l s d) = definition_keeps d
item_keeps (stream.of_value may s k c) = filled_keeps k

pub item_written : {w w' : GoWriter} {items : List FilledItem} {bytes old new : List ℕ} {kept : GoItem}
    → (p : PutsItem w w' items bytes kept old new) → WritesOn w w' items bytes old new (p.item ∷ [])
item_written p = record {
  spelled = p.more;
  text = p.out;
  put = p.written;
  grown = λ t s e. (item_keeps p.is).shape t s e;
}

-- ---- what is kept stands for one value

mutual
  filled_once : {T : Table} {t : TypeId} {kept : Filled} {v w : spelled.Filled} → IsFilled T t kept v
      → IsFilled T t kept w → v ≡ w
  filled_once (is_filled p f) (is_filled q g) = two (same_top [] [] p q refl).value (fillings_once f g)
    where
      two : {v w : Tree} {fs gs : Fillings} → v ≡ w → fs ≡ gs → filled v fs ≡ filled w gs
      two e f = cc

  fillings_once : {T : Table} {kept : List Filling} {fs gs : Fillings} → AreFillings T kept fs
      → AreFillings T kept gs → fs ≡ gs
  fillings_once no_fillings no_fillings = refl
  fillings_once (filling_then p f) (filling_then q g) =
      let e = filled_once p q in let h = fillings_once f g in cc

-- the item that was put is the one that was kept
value_is : {w w' : GoWriter} {items : List FilledItem} {bytes old new : List ℕ} {u : TypeId} {made : Filled}
    {given : GoItem} {x : spelled.Filled} → given ≡ item.Put u made → IsFilled (types_of w) u made x
    → (p : PutsItem w w' items bytes given old new) → p.item ≡ putting u x
value_is {w = w} {w' = w'} {u = u} {made = made} {x = x} g means p =
    by (subst (λ g. ItemMeans (types_of w') g p.item) g p.means)
  where
    grown : Keeps (types_of w) (types_of w')
    grown = record { shape = (item_written p).grown }

    by : {i : FilledItem} → ItemMeans (types_of w') (item.Put u made) i → i ≡ putting u x
    by (means_value m) = ap (λ x. putting u x) (filled_once m (filled_on grown means))

-- a value, renamed, was put
pub value_put : {w w' : GoWriter} {items : List FilledItem} {bytes old new : List ℕ} {R : NewId} {id u : TypeId}
    {kept made : Filled} {given : GoItem} → given ≡ item.Put u made → R id ≡ Some u → RenamesKept R kept made
    → PutsItem w w' items bytes given old new → TakesValue w w' items bytes old new R id kept
value_put {w = w} {R = R} {id = id} {u = u} {made = made} g e k p = λ T v r h.
    let a : HasRenamed R (types_of w) u made v = has_renamed k r e h in
    record {
      made = p.item;
      on = item_written p;
      renamed = subst (λ i. IsRenamedItem R (putting id v) i) (sym (value_is g a.means p)) (of_item e a.renamed);
    }

-- ---- definitions

last_shape : (t : TypeId) (s : Shape) → shape_of ((t, s) ∷ []) t ≡ Some s
last_shape t s = ap (λ (b : Bool). cond b (Some s) None) (eq-eqb t.0 t.0 refl)

defined_shape : {base : Table} {L : Bounds} {T U : Table} {offset : ℕ} {id : TypeId} {v : Tree} {b : List ℕ} {s : Shape}
    → IsDefinable s → (id.0 < 2 ^ 63 → v ≡ described id s) → IsFilledItem base L T offset (defining id v) b U
    → shape_of U id ≡ Some s
defined_shape {T = T} {s = s} d f (of_definition n l t (defines {id = id} {s = r} may dp de i sg sp)) =
    let low = may.own.1 in
    let due : DescribesLoosely id (described id s) s =
    record { said = id; describes = describes id s d; allowed = inl refl } in
    shape_of-append_new T ((id, r) ∷ []) id may.new ∙ last_shape id r
    ∙ ap Some (one_loosely de due (f (omega (arith, low))))

-- the definition of a type was put
pub shape_put : {w w' : GoWriter} {items : List FilledItem} {bytes old new : List ℕ} {id : TypeId} {s : Shape}
    {value : Value} {given : GoItem} → given ≡ item.Define id value → IsDefinable s
    → (id.0 < 2 ^ 63 → view value ≡ described id s) → PutsItem w w' items bytes given old new
    → PutsShape w w' items bytes old new id s
shape_put {w = w} {w' = w'} {items = items} {bytes = bytes} {old = old} {new = new} {id = id} {s = s} {value = value}
    g d e p = by (item_written p) (subst (λ g. ItemMeans (types_of w') g p.item) g p.means) p.is
  where
    by : {L : Bounds} {offset : ℕ} {i : FilledItem} {b : List ℕ} → WritesOn w w' items bytes old new (i ∷ [])
        → ItemMeans (types_of w') (item.Define id value) i
        → IsFilledItem base_table L (types_of w) offset i b (types_of w') → PutsShape w w' items bytes old new id s
    by on means_definition is = record { description = view value; on = on; stands = defined_shape d e is }

-- a type that the joined stream has
pub type_there : {w : GoWriter} {items : List FilledItem} {bytes : List ℕ} {T : Table} {R : NewId} {t u : TypeId}
    {s r : Shape} (old : List ℕ) → HasPut w items bytes → R t ≡ Some u → shape_of T t ≡ Some s
    → shape_of (types_of w) u ≡ Some r → IsRenamedShape R s r
    → Defines w w items bytes old old T R (λ o. o ≡ t)
type_there {w = w} {T = T} {R = R} {t = t} {u = u} {s = s} {r = r} old h e f g n = record {
  more = [];
  on = none_written old h;
  plain = refl;
  each = λ o is. subst (λ o. Stands R T (types_of w) o) (sym is)
      (u, e, record { shape = s; new = r; found = f; stands = g; renamed = n });
}

-- and one that was defined
pub type_put : {w w' : GoWriter} {items : List FilledItem} {bytes old new : List ℕ} {T : Table} {R : NewId}
    {t u : TypeId} {s r : Shape} → R t ≡ Some u → shape_of T t ≡ Some s → IsRenamedShape R s r
    → PutsShape w w' items bytes old new u r → Defines w w' items bytes old new T R (λ o. o ≡ t)
type_put {w' = w'} {T = T} {R = R} {t = t} {u = u} {s = s} {r = r} e f n p = record {
  more = defining u p.description ∷ [];
  on = p.on;
  plain = refl;
  each = λ o is. subst (λ o. Stands R T (types_of w') o) (sym is)
      (u, e, record { shape = s; new = r; found = f; stands = p.stands; renamed = n });
}

pub values_append : (is js : List FilledItem) → values_of (is ++ js) ≡ values_of is ++ values_of js
values_append [] js = refl
values_append (defining t v ∷ is) js = values_append is js
values_append (putting t w ∷ is) js = ap (λ l. putting t w ∷ l) (values_append is js)

-- several
pub none_defined : {w : GoWriter} {items : List FilledItem} {bytes : List ℕ} {T : Table} {R : NewId}
    {Is : TypeId → Type 0} (old : List ℕ) → HasPut w items bytes → ((t : TypeId) → Is t → ⊥)
    → Defines w w items bytes old old T R Is
none_defined old h none =
    record { more = []; on = none_written old h; plain = refl; each = λ t is. absurd (none t is) }

pub more_defined : {w w' w'' : GoWriter} {items : List FilledItem} {bytes old mid new : List ℕ} {T : Table} {R : NewId}
    {Is Are Or : TypeId → Type 0} → ((t : TypeId) → Or t → Is t ⊎ Are t)
    → (a : Defines w w' items bytes old mid T R Is)
    → Defines w' w'' (items ++ a.more) (bytes ++ a.on.spelled) mid new T R Are
    → Defines w w'' items bytes old new T R Or
more_defined {w'' = w''} {T = T} {R = R} {Is = Is} {Are = Are} or a b = record {
  more = a.more ++ b.more;
  on = written_on a.on b.on;
  plain = values_append a.more b.more ∙ ap (λ l. l ++ values_of b.more) a.plain ∙ b.plain;
  each = λ t is. by t (or t is);
}
  where
    by : (t : TypeId) → Is t ⊎ Are t → Stands R T (types_of w'') t
    by t (inl is) = let s = a.each t is in (s.0, s.1, stands_on all_extend (none_grown T) b.on.grown s.2)
    by t (inr is) = b.each t is

-- of fewer types
pub some_defined : {w w' : GoWriter} {items : List FilledItem} {bytes old new : List ℕ} {T : Table} {R : NewId}
    {Is Or : TypeId → Type 0} → ((t : TypeId) → Or t → Is t) → Defines w w' items bytes old new T R Is
    → Defines w w' items bytes old new T R Or
some_defined or d = record { more = d.more; on = d.on; plain = d.plain; each = λ t is. d.each t (or t is) }

-- the types up to one, and that one
pub one_more_type : (ids : List TypeId) (k : ℕ) (t x : TypeId) → k < length ids → Contains (take (k + 1) ids) t
    → Contains (take k ids) t ⊎ (t ≡ get_or ids k x)
one_more_type ids k t x l h = by (Contains-append_cases (take k ids) (get_or ids k x ∷ []) t
    (subst (λ l. Contains l t) (take_more ids k x l) h))
  where
    by : Contains (take k ids) t ⊎ Contains (get_or ids k x ∷ []) t → Contains (take k ids) t ⊎ (t ≡ get_or ids k x)
    by (inl h) = inl h
    by (inr h) = inr (sym (only_one h))

pub no_type : (t : TypeId) → Contains [] t → ⊥
no_type t (k, l, e) = omega (arith, l)

-- ---- items

pub all_settled : {w w' : GoWriter} {items : List FilledItem} {bytes old new : List ℕ} {T : Table} {R R' : NewId}
    {ids : List TypeId} → IsRenaming R T (types_of w) → NumbersSome ids R R'
    → Defines w w' items bytes old new T R' (Contains ids) → Settles w w' items bytes old new T R R'
all_settled {w' = w'} {T = T} {R = R} {R' = R'} {ids = ids} r n d = record {
  more = d.more;
  on = d.on;
  plain = d.plain;
  renaming = record { each = λ t u e. by t u e (n.only t u e) };
  extends = n.extends;
}
  where
    by : (t u : TypeId) → R' t ≡ Some u → (R t ≡ Some u) ⊎ Contains ids t → StandsFor R' T (types_of w') t u
    by t u e (inl f) = stands_on n.extends (none_grown T) d.on.grown (r.each t u f)
    by t u e (inr h) =
        let s = d.each t h in
        subst (λ u. StandsFor R' T (types_of w') t u) (some_injective (sym s.1 ∙ e)) s.2

pub nothing_settled : {w : GoWriter} {items : List FilledItem} {bytes : List ℕ} {T : Table} {R : NewId} (old : List ℕ)
    → HasPut w items bytes → IsRenaming R T (types_of w) → Settles w w items bytes old old T R R
nothing_settled old h r =
    record { more = []; on = none_written old h; plain = refl; renaming = r; extends = all_extend }

-- a definition writes nothing
pub definition_taken : {w : GoWriter} {items : List FilledItem} {bytes : List ℕ} {T : Table} {R : NewId} {id : TypeId}
    {value : Value} {given : GoItem} {i : FilledItem} (old : List ℕ) → given ≡ item.Define id value
    → HasPut w items bytes → IsRenaming R T (types_of w) → ItemMeans T given i
    → TakesItem w w items bytes old old T R R i
definition_taken {w = w} {items = items} {bytes = bytes} {T = T} {R = R} {id = id} {value = value} {i = i} old g h r m =
    by (subst (λ g. ItemMeans T g i) g m)
  where
    by : {i : FilledItem} → ItemMeans T (item.Define id value) i → TakesItem w w items bytes old old T R R i
    by means_definition = record {
      more = [];
      on = none_written old h;
      renaming = r;
      extends = all_extend;
      values = no_items;
    }

-- a value does, behind definitions
pub value_taken : {w w' w'' : GoWriter} {items : List FilledItem} {bytes old mid new : List ℕ} {T : Table}
    {R R' : NewId} {id : TypeId} {value : Filled} {given : GoItem} {i : FilledItem} → given ≡ item.Put id value
    → (s : Settles w w' items bytes old mid T R R') → ItemMeans T given i
    → TakesValue w' w'' (items ++ s.more) (bytes ++ s.on.spelled) mid new R' id value
    → TakesItem w w'' items bytes old new T R R' i
value_taken {w = w} {w'' = w''} {items = items} {bytes = bytes} {old = old} {new = new} {T = T} {R = R} {R' = R'}
    {id = id} {value = value} {i = i} g s m v = by (subst (λ g. ItemMeans T g i) g m)
  where
    by : {i : FilledItem} → ItemMeans T (item.Put id value) i → TakesItem w w'' items bytes old new T R R' i
    by (means_value {w = x} h) =
        let p = v T x s.renaming h in
        record {
          more = s.more ++ p.made ∷ [];
          on = written_on s.on p.on;
          renaming = renaming_on (none_grown T) p.on.grown s.renaming;
          extends = s.extends;
          values = subst (λ l. AreRenamed R' (putting id x ∷ []) l)
              (sym (values_append s.more (p.made ∷ []) ∙ ap (λ l. l ++ values_of (p.made ∷ [])) s.plain))
              (one p.renamed);
        }
      where
        one : {i j : FilledItem} → IsRenamedItem R' i j → AreRenamed R' (i ∷ []) (values_of (j ∷ []))
        one (of_item e f) = items_then (of_item e f) no_items

-- so does one of a type of the joined stream, where what fills its nils is renamed
pub held_taken : {w w' w'' : GoWriter} {items : List FilledItem} {bytes old mid new : List ℕ} {T : Table}
    {R R' : NewId} {id : TypeId} {kept made : Filled} {given : GoItem} {v : Tree} {fs : Fillings}
    → given ≡ item.Put id made → RenamesKept R' kept made → IsFilledFrom (types_of w) T id kept v fs
    → (s : Settles w w' items bytes old mid T R R')
    → PutsItem w' w'' (items ++ s.more) (bytes ++ s.on.spelled) given mid new
    → TakesHeld w w'' items bytes old new T R R' id v fs
held_taken {w = w} {w' = w'} {T = T} {R' = R'} {id = id} {made = made} {v = v} {fs = fs} g k h s p = record {
  more = s.more ++ p.item ∷ [];
  on = written_on s.on (item_written p);
  renaming = renaming_on (none_grown T) (item_written p).grown s.renaming;
  extends = s.extends;
  fillings = a.fillings;
  renamed = a.renamed;
  values = values_append s.more (p.item ∷ []) ∙ ap (λ l. l ++ values_of (p.item ∷ [])) s.plain
      ∙ ap (λ i. values_of (i ∷ [])) (value_is g means p);
}
  where
    grown : Keeps (types_of w) (types_of w')
    grown = record { shape = s.on.grown }

    a : HaveRenamed R' (types_of w') (out-Filled made).fillings.items fs
    a = k.fillings T (types_of w') fs s.renaming h.mean

    means : IsFilled (types_of w') id made (filled v a.fillings)
    means = is_filled (rw k.skeleton (top_on grown h.spelled)) a.mean
