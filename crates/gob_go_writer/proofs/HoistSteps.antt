-- What is hoisted of an item, part by part.
use Rattle.std.proofs.Common.{◌≡◌, ℕ, ◌+◌, List, [], ◌∷◌, ◌++◌, length, sym, ap, subst, ◌∙◌, append_assoc, arith}
use Rattle.std.proofs.lemmas.List.{append-nil}
use Rattle.gob_types.specs.Table.{Table}
use Rattle.gob_types.specs.declared.id.TypeId.{TypeId}
use Rattle.gob_value.specs.declared.value.Value.{Value}
use Rattle.gob_filled.specs.Filled.{Definitions, Fillings, no_filling, filling}
use Rattle.gob_filled.specs.Filled as spelled
use Rattle.gob_filled.specs.Stream.{FilledItem}
use Rattle.gob_go.specs.Meaning.{AreFillings, no_fillings, filling_then, IsFilled, is_filled, ItemsMean, mean_none}
use Rattle.gob_go.specs.Meaning.{mean_more, ItemMeans, means_definition, means_value, definitions_of}
use Rattle.gob_go.specs.declared.filled.Definition.{Definition}
use Rattle.gob_go.specs.declared.filled.Filled.{Filled, out-Filled}
use Rattle.gob_go.specs.declared.filled.Filling.{Filling, out-Filling}
use Rattle.gob_go.specs.declared.item.GoItem.{GoItem}
use Rattle.gob_go.specs.declared.item.GoItem.TheVariants as item
use Rattle.gob_go_writer.specs.Hoisting.{defining_items, inner_items, filling_items, without_definitions}
use Rattle.gob_go_writer.specs.Hoisting.{fillings_without, hoisted, IsHoisted}
use Rattle.gob_go_writer.specs.Machine.Hoisted.{Defines, Hoists, FillWithout, HoistsFilling}
use Rattle.gob_go_writer.proofs.ValueSteps.{FirstFilling, first_filling}

-- what is left behind the next one
pub one_gone : {A : Type 0} {x : A} {xs ys : List A} {n m : ℕ} → n ≡ length xs → xs ≡ x ∷ ys → m + 1 ≡ n
    → m ≡ length ys
one_gone was is gone = let short = ap length is in omega arith

-- items behind others
mean_append : {T : Table} {a b : List GoItem} {is js : List FilledItem} → ItemsMean T a is → ItemsMean T b js
    → ItemsMean T (a ++ b) (is ++ js)
mean_append mean_none n = n
mean_append (mean_more m ms) n = mean_more m (mean_append ms n)

mean_at : {T : Table} {a : List GoItem} {is js : List FilledItem} → is ≡ js → ItemsMean T a is → ItemsMean T a js
mean_at {T = T} {a = a} e m = subst (λ is. ItemsMean T a is) e m

-- ---- definitions

-- those so far, and those that are left
pub record DefinesSo (whole left : List Definition) (old new : List GoItem) : Type 0 where
  pub given : List GoItem
  pub appended : new ≡ old ++ given
  pub completes : (rest : List GoItem) (T : Table) → ItemsMean T rest (defining_items (definitions_of left))
      → ItemsMean T (given ++ rest) (defining_items (definitions_of whole))

pub none_defined : (whole : List Definition) {old : List GoItem} → DefinesSo whole whole old old
none_defined whole {old = old} = record { given = []; appended = sym (append-nil old); completes = λ rest T m. m }

pub one_defined : {whole left others : List Definition} {old mid new : List GoItem} (d : Definition)
    → DefinesSo whole left old mid → left ≡ d ∷ others → new ≡ mid ++ item.Define d.id d.described ∷ []
    → DefinesSo whole others old new
one_defined {whole = whole} {left = left} {others = others} {old = old} d s e n =
    let one = item.Define d.id d.described ∷ [] in
    record {
      given = s.given ++ one;
      appended = n ∙ ap (λ l. l ++ one) s.appended ∙ append_assoc old s.given one;
      completes = λ rest T m. subst (λ l. ItemsMean T l (defining_items (definitions_of whole)))
          (sym (append_assoc s.given one rest))
          (s.completes (item.Define d.id d.described ∷ rest) T
          (mean_at (sym (ap (λ l. defining_items (definitions_of l)) e)) (mean_more means_definition m)));
    }

pub all_defined : {whole left : List Definition} {old new : List GoItem} → DefinesSo whole left old new
    → length left ≡ 0 → Defines whole old new
all_defined {whole = whole} {left = left} s e = record {
  given = s.given;
  appended = s.appended;
  mean = λ T. subst (λ l. ItemsMean T l (defining_items (definitions_of whole))) (append-nil s.given)
      (s.completes [] T (nothing left e));
}
  where
    nothing : {T : Table} (l : List Definition) → length l ≡ 0 → ItemsMean T [] (defining_items (definitions_of l))
    nothing [] e = mean_none
    nothing (x ∷ l) e = absurd (omega arith)

-- ---- what fills nils

-- a filling in front of others
in_front : {T : Table} {p : ℕ} {s : List ℕ} {ds : Definitions} {u : TypeId} {w : spelled.Filled} {fs : Fillings}
    {m : Filling} {made : List Filling} → AreFillings T (m ∷ []) (filling p s ds u w no_filling) → AreFillings T made fs
    → AreFillings T (m ∷ made) (filling p s ds u w fs)
in_front {T = T} {p = p} {s = s} {ds = ds} {u = u} {w = w} {fs = fs} {m = m} {made = made} h k =
    let a : FirstFilling T m [] (filling p s ds u w no_filling) = first_filling h in
    subst (λ fs. AreFillings T (m ∷ made) fs) (alike (sym a.is)) (filling_then a.means k)
  where
    alike : {p q : ℕ} {s r : List ℕ} {ds es : Definitions} {t u : TypeId} {v w : spelled.Filled} {gs hs : Fillings}
        → filling p s ds t v hs ≡ filling q r es u w no_filling → filling p s ds t v gs ≡ filling q r es u w gs
    alike e = cc

fill_more : {f m : Filling} {all made : List Filling} {a b : List GoItem} → FillWithout (f ∷ []) (m ∷ []) a
    → FillWithout all made b → FillWithout (f ∷ all) (m ∷ made) (a ++ b)
fill_more {f = f} {m = m} {all = all} {made = made} {a = a} {b = b} one more = record {
  made_are = λ T fs h.
      let k : FirstFilling T f all fs = first_filling h in
      subst (λ fs. AreFillings T (m ∷ made) (fillings_without fs)) (sym k.is)
      (in_front (one.made_are T _ (filling_then k.means no_fillings)) (more.made_are T k.others k.others_mean));
  mean = λ T fs h.
      let k : FirstFilling T f all fs = first_filling h in
      let ds = defining_items (definitions_of (out-Filling f).definitions.items) in
      mean_at (ap (λ is. (ds ++ is) ++ filling_items k.others) (append-nil (inner_items k.value))
      ∙ append_assoc ds (inner_items k.value) (filling_items k.others) ∙ sym (ap filling_items k.is))
      (mean_append (one.mean T _ (filling_then k.means no_fillings)) (more.mean T k.others k.others_mean));
}

-- of those so far, and those that are left
pub record FillSo (whole left made : List Filling) (old new : List GoItem) : Type 0 where
  pub given : List GoItem
  pub appended : new ≡ old ++ given
  pub completes : (others : List Filling) (rest : List GoItem) → FillWithout left others rest
      → FillWithout whole (made ++ others) (given ++ rest)

pub one_filled : {whole left others made made' : List Filling} {old mid new : List GoItem} {f : Filling} (m : Filling)
    → FillSo whole left made old mid → left ≡ f ∷ others → HoistsFilling f m mid new → made' ≡ made ++ m ∷ []
    → FillSo whole others made' old new
one_filled {whole = whole} {made = made} {old = old} m s e h n = record {
  given = s.given ++ h.given;
  appended = h.appended ∙ ap (λ l. l ++ h.given) s.appended ∙ append_assoc old s.given h.given;
  completes = λ others rest w.
      subst (λ l. FillWithout whole (l ++ others) ((s.given ++ h.given) ++ rest)) (sym n)
      (subst (λ l. FillWithout whole l ((s.given ++ h.given) ++ rest)) (sym (append_assoc made (m ∷ []) others))
      (subst (λ l. FillWithout whole (made ++ (m ∷ others)) l) (sym (append_assoc s.given h.given rest))
      (s.completes (m ∷ others) (h.given ++ rest)
      (subst (λ l. FillWithout l (m ∷ others) (h.given ++ rest)) (sym e) (fill_more h.without w)))));
}

pub all_filled : {whole left made : List Filling} {old new : List GoItem} (s : FillSo whole left made old new)
    → length left ≡ 0 → FillWithout whole made s.given
all_filled {whole = whole} {left = left} {made = made} s e =
    subst (λ l. FillWithout whole l s.given) (append-nil made)
    (subst (λ l. FillWithout whole (made ++ []) l) (append-nil s.given) (s.completes [] [] (nothing left e)))
  where
    none : {T : Table} {fs : Fillings} → AreFillings T [] fs → AreFillings T [] (fillings_without fs)
    none no_fillings = no_fillings

    none_mean : {T : Table} {fs : Fillings} → AreFillings T [] fs → ItemsMean T [] (filling_items fs)
    none_mean no_fillings = mean_none

    nothing : (l : List Filling) → length l ≡ 0 → FillWithout l [] []
    nothing [] e = record { made_are = λ T fs h. none h; mean = λ T fs h. none_mean h }
    nothing (x ∷ l) e = absurd (omega arith)

-- ---- the parts together

pub value_hoisted : {kept made : Filled} {left fillings : List Filling} {old new : List GoItem}
    → (s : FillSo (out-Filled kept).fillings.items left fillings old new) → length left ≡ 0
    → (out-Filled made).skeleton.items ≡ (out-Filled kept).skeleton.items
    → (out-Filled made).fillings.items ≡ fillings → Hoists kept made old new
value_hoisted {kept = kept} {made = made} s e skeleton are =
    let w = all_filled s e in
    record {
      given = s.given;
      appended = s.appended;
      made_is = λ T t v h. made_so T h;
      mean = λ T t v h. mean_so T h;
    }
  where
    made_so : (T : Table) {t : TypeId} {w : spelled.Filled} → IsFilled T t kept w
        → IsFilled T t made (without_definitions w)
    made_so T (is_filled top fl) = is_filled (rw skeleton top)
        (rw are ((all_filled s e).made_are T _ fl))

    mean_so : (T : Table) {t : TypeId} {w : spelled.Filled} → IsFilled T t kept w → ItemsMean T s.given (inner_items w)
    mean_so T (is_filled top fl) = (all_filled s e).mean T _ fl

pub filling_hoisted : {kept made : Filling} {old mid new : List GoItem}
    → Defines (out-Filling kept).definitions.items old mid
    → Hoists (out-Filling kept).value (out-Filling made).value mid new
    → (out-Filling made).place ≡ (out-Filling kept).place
    → (out-Filling made).name.items ≡ (out-Filling kept).name.items → (out-Filling made).id ≡ (out-Filling kept).id
    → (out-Filling made).definitions.items ≡ [] → HoistsFilling kept made old new
filling_hoisted {kept = kept} {made = made} {old = old} d h place name id none = record {
  given = d.given ++ h.given;
  appended = h.appended ∙ ap (λ l. l ++ h.given) d.appended ∙ append_assoc old d.given h.given;
  without = record { made_are = λ T fs k. made_so T k; mean = λ T fs k. mean_so T k };
}
  where
    made_so : (T : Table) {fs : Fillings} → AreFillings T (kept ∷ []) fs
        → AreFillings T (made ∷ []) (fillings_without fs)
    made_so T (filling_then {w = w} m no_fillings) =
        subst (λ fs. AreFillings T (made ∷ []) fs) (alike place name id (ap definitions_of none))
        (filling_then (subst (λ t. IsFilled T t (out-Filling made).value (without_definitions w)) (sym id)
        (h.made_is T (out-Filling kept).id w m)) no_fillings)
      where
        alike : {p q : ℕ} {s r : List ℕ} {ds es : Definitions} {t u : TypeId} {w : spelled.Filled} {gs : Fillings}
            → p ≡ q → s ≡ r → t ≡ u → ds ≡ es → filling p s ds t w gs ≡ filling q r es u w gs
        alike e f g h = cc

    mean_so : (T : Table) {fs : Fillings} → AreFillings T (kept ∷ []) fs
        → ItemsMean T (d.given ++ h.given) (filling_items fs)
    mean_so T (filling_then {w = w} m no_fillings) =
        mean_append (d.mean T) (mean_at (sym (append-nil (inner_items w))) (h.mean T _ _ m))

pub definition_hoisted : {kept : GoItem} {id : TypeId} {described : Value} {old new : List GoItem}
    → kept ≡ item.Define id described → new ≡ old ++ item.Define id described ∷ [] → IsHoisted kept old new
definition_hoisted {kept = kept} {id = id} {described = described} e n = record {
  given = item.Define id described ∷ [];
  appended = n;
  mean = λ T i m. by T (subst (λ k. ItemMeans T k i) e m);
}
  where
    by : (T : Table) {i : FilledItem} → ItemMeans T (item.Define id described) i
        → ItemsMean T (item.Define id described ∷ []) (hoisted i)
    by T means_definition = mean_more means_definition mean_none

pub put_hoisted : {kept : GoItem} {id : TypeId} {value made : Filled} {old mid new : List GoItem}
    → kept ≡ item.Put id value → Hoists value made old mid → new ≡ mid ++ item.Put id made ∷ []
    → IsHoisted kept old new
put_hoisted {kept = kept} {id = id} {value = value} {made = made} {old = old} e h n = record {
  given = h.given ++ item.Put id made ∷ [];
  appended = n ∙ ap (λ l. l ++ item.Put id made ∷ []) h.appended ∙ append_assoc old h.given (item.Put id made ∷ []);
  mean = λ T i m. by T (subst (λ k. ItemMeans T k i) e m);
}
  where
    by : (T : Table) {i : FilledItem} → ItemMeans T (item.Put id value) i
        → ItemsMean T (h.given ++ item.Put id made ∷ []) (hoisted i)
    by T (means_value m) = mean_append (h.mean T _ _ m) (mean_more (means_value (h.made_is T _ _ m)) mean_none)
