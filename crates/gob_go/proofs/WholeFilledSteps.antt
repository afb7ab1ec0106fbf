-- Values with fillings that stand whole at a place of a body, from their parts.
use Rattle.std.proofs.Common.{◌≡◌, ℕ, suc, pos, ◌+◌, ◌-◌, ◌<◌, ◌≤◌, List, [], ◌∷◌, ◌++◌, length, Some}
use Rattle.std.proofs.Common.{take, drop, arith, refl, sym, ap, ◌∙◌, subst, append_assoc, length-append, length-drop}
use Rattle.std.proofs.Common.{zero-add, get_or}
use Rattle.std.specs.Prelude.{slice_get}
use Rattle.std.proofs.Math.Seq.{drop-length}
use Rattle.std.proofs.lemmas.List.{append-nil, drop-drop, drop_more, length-take-le, take-append-drop}
use Rattle.gob_num.specs.Unsigned.{IsUnsigned, AreBytes, short}
use Rattle.gob_num.specs.Signed.{IsSigned}
use Rattle.gob_num.proofs.PublicLaws.{bytes-append, bytes_prefix, bytes_rest}
use Rattle.gob_types.specs.declared.id.TypeId.{TypeId}
use Rattle.gob_types.specs.declared.basic.Basic.TheVariants as basic
use Rattle.gob_types.specs.declared.kind.Field.{Field}
use Rattle.gob_types.specs.declared.kind.Kind.{Kind}
use Rattle.gob_types.specs.declared.kind.Kind.TheVariants as kind
use Rattle.gob_types.specs.declared.kind.Shape.{Shape}
use Rattle.gob_types.specs.Table.{Table, shape_of}
use Rattle.gob_value.specs.Tree.{Tree, Trees, no_tree, tree, no_pair, pair, no_field, field, depth, trees_depth}
use Rattle.gob_value.specs.Tree.{tree_count}
use Rattle.gob_value.specs.Tree as Value
use Rattle.gob_value.specs.Spelling.{Spells, SpellsAs, SpellsEach, of_type, of_nil, of_slice, of_array, of_map}
use Rattle.gob_value.specs.Spelling.{of_struct, no_element, element, no_entry, entry, end_of_fields, next_field}
use Rattle.gob_value.specs.Top.{IsStruct, at_once, tagged}
use Rattle.gob_value.specs.WholeParts.{HasElements}
use Rattle.gob_value.specs.Machine.Begins.{HoldsBetween, BeginsThisNumber}
use Rattle.gob_value.proofs.PublicLaws.{whole_of_two}
use Rattle.gob_read.specs.Expected.{a_number, nil}
use Rattle.gob_read.specs.Expects.{Enters, ExpectsTop, no_fields, first, in_itself, in_part, in_struct, behind_tag}
use Rattle.gob_read.specs.Expects as expects
use Rattle.gob_read.proofs.Grammar.Inside.{each_more, pairs_more, run_more}
use Rattle.gob_stream.specs.Body.{MayPut}
use Rattle.gob_stream.specs.Bounds.{Bounds}
use Rattle.gob_filled.specs.Filled.{Filled, filled, Fillings, no_filling, filling, no_definitions, Fills, as_it_stands}
use Rattle.gob_filled.specs.Filled.{next_filled, none_defined, last_segment, SpellsFilled, with_fillings}
use Rattle.gob_go.specs.Whole.{IsFilledWhole}
use Rattle.gob_go.specs.Machine.WholeFilled.{IsOfKind, LeadsToNils}
use Rattle.gob_go.specs.Machine.WholeFilled.{Filler, BeginsFilled, BeginsFilledEach}
use Rattle.gob_go.specs.Machine.WholeFilled.{BeginsFilledPairs, BeginsFilledFields, BeginsFilledTop}

-- ---- what stands as it is
-- bytes in front of what is left, in which no nil is filled
pub as_they_stand : {base : Table} {L : Bounds} {T U X : Table} {t : TypeId} {most : ℕ} {left ls : List ℕ}
    {fs : Fillings} (p b : List ℕ) → AreBytes b → Fills base L T t most U (p ++ b) left fs ls X
    → Fills base L T t most U p (b ++ left) fs (b ++ ls) X
as_they_stand {left = left} p b o (as_it_stands r) = as_it_stands (bytes-append b left o r)
as_they_stand {base = base} {L = L} {T = T} {U = U} {X = X} {t = t} {most = most} p b o
    (next_filled {W = W} {u = u} {d = d} {left = left} {s = s} {a = a} {e = e} {n = n} {f = f} {ms = ms} {ds = ds}
    {v = v} {fs = fs} c oc ex l os q defs may i vs g more) =
    let at : (p ++ b) ++ c ≡ p ++ (b ++ c) = append_assoc p b c in
    let behind : (p ++ b) ++ (c ++ 0 ∷ []) ≡ p ++ ((b ++ c) ++ 0 ∷ []) =
    append_assoc p b (c ++ 0 ∷ []) ∙ ap (λ x. p ++ x) (sym (append_assoc b c (0 ∷ []))) in
    let inner = (a ++ (s ++ (e ++ (n ++ f)))) ++ ms in
    let all : Fills base L T t most U p ((b ++ c) ++ 0 ∷ left) (filling (length (p ++ (b ++ c))) s ds u v fs)
    ((b ++ c) ++ inner) X =
    next_filled (b ++ c) (bytes-append b c o oc) (subst (λ x. ExpectsTop T t x (a_number nil) d) at ex) l os q defs may
    i vs g (subst (λ x. Fills base L T t most W x left fs ms X) behind more) in
    subst (λ x. Fills base L T t most U p x (filling (length ((p ++ b) ++ c)) s ds u v fs) (b ++ (c ++ inner)) X)
    (append_assoc b c (0 ∷ left))
    (subst (λ x. Fills base L T t most U p ((b ++ c) ++ 0 ∷ left) (filling (length x) s ds u v fs)
    (b ++ (c ++ inner)) X) (sym at)
    (subst (λ x. Fills base L T t most U p ((b ++ c) ++ 0 ∷ left) (filling (length (p ++ (b ++ c))) s ds u v fs) x X)
    (append_assoc b c inner) all))

-- a part, and what follows it
pub joined : {base : Table} {L : Bounds} {T : Table} {t : TypeId} {most : ℕ} (p b c m n left ls : List ℕ)
    (fs gs : Fillings) (fill : Filler)
    → ((left ls : List ℕ) (fs : Fillings) → Fills base L T t most T (p ++ b) left fs ls T
    → Fills base L T t most T p (b ++ left) (fill p fs) (m ++ ls) T)
    → (Fills base L T t most T ((p ++ b) ++ c) left fs ls T
    → Fills base L T t most T (p ++ b) (c ++ left) gs (n ++ ls) T)
    → Fills base L T t most T (p ++ (b ++ c)) left fs ls T
    → Fills base L T t most T p ((b ++ c) ++ left) (fill p gs) ((m ++ n) ++ ls) T
joined {base = base} {L = L} {T = T} {t = t} {most = most} p b c m n left ls fs gs fill one others f =
    let behind = others (subst (λ x. Fills base L T t most T x left fs ls T) (sym (append_assoc p b c)) f) in
    let all = one (c ++ left) (n ++ ls) gs behind in
    subst (λ x. Fills base L T t most T p x (fill p gs) ((m ++ n) ++ ls) T) (sym (append_assoc b c left))
    (subst (λ x. Fills base L T t most T p (b ++ (c ++ left)) (fill p gs) x T) (sym (append_assoc m n ls)) all)

-- where a part leads to another
pub enters : {T : Table} {t u v : TypeId} {s : Shape} (around : ℕ) (p c : List ℕ) → LeadsToNils T t p u around
    → shape_of T u ≡ Some s → Enters T s.kind c v → LeadsToNils T t (p ++ c) v (around + 1)
enters {T = T} {t = t} around p c leads f n = λ q d x.
    let deep : around + suc d ≡ around + 1 + d = omega arith in
    subst (λ l. ExpectsTop T t l (a_number nil) (around + 1 + d)) (sym (append_assoc p c q))
    (subst (λ e. ExpectsTop T t (p ++ (c ++ q)) (a_number nil) e) deep (leads (c ++ q) (suc d) (in_part f n x)))

pub enters_kind : {T : Table} {t u v : TypeId} {k : Kind} (around : ℕ) (p c : List ℕ) → LeadsToNils T t p u around
    → IsOfKind T u k → Enters T k c v → LeadsToNils T t (p ++ c) v (around + 1)
enters_kind {T = T} {v = v} around p c leads (s, f, e) n =
    enters around p c leads f (subst (λ k. Enters T k c v) (sym e) n)

pub spelled_as : {T : Table} {u : TypeId} {k : Kind} {v : Tree} {b : List ℕ} → IsOfKind T u k → SpellsAs T k v b
    → Spells T u v b
spelled_as {T = T} {v = v} {b = b} (s, f, e) p = of_type f (subst (λ k. SpellsAs T k v b) (sym e) p)

-- ---- values without fillings
-- one element is a value
record OnlyOne (T : Table) (e : TypeId) (vs : Trees) (b : List ℕ) : Type 0 where
  pub value : Tree
  pub spelled : Spells T e value b
  pub deep : depth value ≤ trees_depth vs

only_one : {T : Table} {e : TypeId} {vs : Trees} {b : List ℕ} → SpellsEach T e vs b → tree_count vs ≡ 1
    → OnlyOne T e vs b
only_one no_element e = absurd (cc)
only_one {T = T} {e = e} (element {v = v} {b = b} p no_element) one =
    record { value = v; spelled = subst (Spells T e v) (sym (append-nil b)) p; deep = omega arith }
only_one (element p (element q r)) one = absurd (omega arith)

-- the bytes that a look at the front of the rest of a body found
found_bytes : (body : List ℕ) (at end : ℕ) → drop at body ≡ take end (drop at body) ++ drop (at + end) body
found_bytes body at end =
    sym (take-append-drop end (drop at body)) ∙ ap (λ r. take end (drop at body) ++ r) (drop-drop end at body)

module _ {T : Table} where
  pub leaf_begins : {u : TypeId} {body : List ℕ} {at end : ℕ} (limit : ℕ) → 0 < limit → at ≤ length body
      → HasElements T u 1 1 (drop at body) end → HoldsBetween (BeginsFilled T u limit) body at (at + end)
  leaf_begins {body = body} {at = at} {end = end} limit some l h =
      let one = only_one h.spelled h.counted in
      record {
        order = omega arith;
        inside = omega (arith, h.inside, length-drop at body);
        begins = record {
          value = one.value;
          skeleton = take end (drop at body);
          bytes = take end (drop at body);
          fill = λ p fs. fs;
          spelled = one.spelled;
          within = omega (arith, one.deep, h.within);
          whole = found_bytes body at end;
          fills = λ o base L t p left ls fs around most leads deep f. as_they_stand p (take end (drop at body)) o f;
        };
      }

  pub leaves_begin : {e : TypeId} {body : List ℕ} {limit count at end : ℕ} → at ≤ length body
      → HasElements T e limit count (drop at body) end
      → HoldsBetween (BeginsFilledEach T e limit count) body at (at + end)
  leaves_begin {body = body} {at = at} {end = end} l h =
      record {
        order = omega arith;
        inside = omega (arith, h.inside, length-drop at body);
        begins = record {
          values = h.values;
          skeleton = take end (drop at body);
          bytes = take end (drop at body);
          fill = λ p fs. fs;
          spelled = h.spelled;
          within = h.within;
          counted = h.counted;
          whole = found_bytes body at end;
          fills = λ o base L t p q left ls fs around most all before leads sp n deep f.
              as_they_stand (p ++ q) (take end (drop at body)) o f;
        };
      }

  -- ---- parts
  pub no_elements_begin : (e : TypeId) (limit n : ℕ) (body : List ℕ) (at : ℕ) → n ≡ 0 → at ≤ length body
      → HoldsBetween (BeginsFilledEach T e limit n) body at at
  no_elements_begin e limit n body at none l =
      record {
        order = omega arith;
        inside = l;
        begins = record {
          values = no_tree;
          skeleton = [];
          bytes = [];
          fill = λ p fs. fs;
          spelled = no_element;
          within = omega arith;
          counted = sym none;
          whole = refl;
          fills = λ o base L t p q left ls fs around most all before leads sp n deep f. as_they_stand (p ++ q) [] o f;
        };
      }

  unfoldable pub element_begins : (e : TypeId) (limit n m : ℕ) → n ≡ m + 1 → (x y z : List ℕ)
      → BeginsFilled T e limit x y
      → BeginsFilledEach T e limit m y z → BeginsFilledEach T e limit n x z
  element_begins e limit n m more x y z h k =
      let v = h.within in
      let w = k.within in
      record {
        values = tree h.value k.values;
        skeleton = h.skeleton ++ k.skeleton;
        bytes = h.bytes ++ k.bytes;
        fill = λ p fs. h.fill p (k.fill (p ++ h.skeleton) fs);
        spelled = element h.spelled k.spelled;
        within = omega arith;
        counted = ap (λ k. k + 1) k.counted ∙ sym more;
        whole = whole_of_two h.bytes k.bytes z h.whole k.whole;
        fills = λ o base L t p q left ls fs around most all before leads sp count deep f.
            let longer = each_more sp h.spelled in
            let up = longer.count in
            let at : (p ++ q) ++ h.skeleton ≡ p ++ (q ++ h.skeleton) = append_assoc p q h.skeleton in
            joined (p ++ q) h.skeleton k.skeleton h.bytes k.bytes left ls fs (k.fill ((p ++ q) ++ h.skeleton) fs) h.fill
            (λ left ls fs f. h.fills (bytes_prefix h.bytes k.bytes o) base L t (p ++ q) left ls fs around most
            (leads before q sp (omega arith)) deep f)
            (λ f. subst (λ x. Fills base L T t most T x (k.skeleton ++ left) (k.fill x fs) (k.bytes ++ ls) T) (sym at)
            (k.fills (bytes_rest h.bytes k.bytes o) base L t p (q ++ h.skeleton) left ls fs around most all
            longer.trees leads longer.spelled (omega arith) deep
            (subst (λ x. Fills base L T t most T (x ++ k.skeleton) left fs ls T) at f)))
            f;
      }

  pub no_pairs_begin : (k e : TypeId) (limit n : ℕ) (body : List ℕ) (at : ℕ) → n ≡ 0 → at ≤ length body
      → HoldsBetween (BeginsFilledPairs T k e limit n) body at at
  no_pairs_begin k e limit n body at none l =
      record {
        order = omega arith;
        inside = l;
        begins = record {
          pairs = no_pair;
          skeleton = [];
          bytes = [];
          fill = λ p fs. fs;
          spelled = no_entry;
          within = omega arith;
          counted = sym none;
          whole = refl;
          fills = λ o base L t p q left ls fs around most all before keys values sp n deep f.
              as_they_stand (p ++ q) [] o f;
        };
      }

  unfoldable pub pair_begins : (k e : TypeId) (limit n m : ℕ) → n ≡ m + 1 → (x a y z : List ℕ)
      → BeginsFilled T k limit x a
      → BeginsFilled T e limit a y → BeginsFilledPairs T k e limit m y z → BeginsFilledPairs T k e limit n x z
  pair_begins key e limit n m more x a y z g h k =
      let u = g.within in
      let v = h.within in
      let w = k.within in
      record {
        pairs = pair g.value h.value k.pairs;
        skeleton = g.skeleton ++ (h.skeleton ++ k.skeleton);
        bytes = g.bytes ++ (h.bytes ++ k.bytes);
        fill = λ p fs. g.fill p (h.fill (p ++ g.skeleton) (k.fill ((p ++ g.skeleton) ++ h.skeleton) fs));
        spelled = entry g.spelled h.spelled k.spelled;
        within = omega arith;
        counted = ap (λ k. k + 1) k.counted ∙ sym more;
        whole = whole_of_two g.bytes (h.bytes ++ k.bytes) z g.whole (whole_of_two h.bytes k.bytes z h.whole k.whole);
        fills = λ o base L t p q left ls fs around most all before keys values sp count deep f.
            let longer = pairs_more sp g.spelled h.spelled in
            let up = longer.count in
            let inner = bytes_rest g.bytes (h.bytes ++ k.bytes) o in
            let r = (p ++ q) ++ g.skeleton in
            let key_at : r ≡ p ++ (q ++ g.skeleton) = append_assoc p q g.skeleton in
            let at : r ++ h.skeleton ≡ p ++ (q ++ (g.skeleton ++ h.skeleton)) =
            append_assoc (p ++ q) g.skeleton h.skeleton ∙ append_assoc p q (g.skeleton ++ h.skeleton) in
            joined (p ++ q) g.skeleton (h.skeleton ++ k.skeleton) g.bytes (h.bytes ++ k.bytes) left ls fs
            (h.fill r (k.fill (r ++ h.skeleton) fs)) g.fill
            (λ left ls fs f. g.fills (bytes_prefix g.bytes (h.bytes ++ k.bytes) o) base L t (p ++ q) left ls fs around
            most (keys before q sp (omega arith)) deep f)
            (λ f. joined r h.skeleton k.skeleton h.bytes k.bytes left ls fs (k.fill (r ++ h.skeleton) fs) h.fill
            (λ left ls fs f. h.fills (bytes_prefix h.bytes k.bytes inner) base L t r left ls fs around most
            (subst (λ x. LeadsToNils T t x e around) (sym key_at)
            (values before g.value q g.skeleton sp (omega arith) g.spelled)) deep f)
            (λ f. subst (λ x. Fills base L T t most T x (k.skeleton ++ left) (k.fill x fs) (k.bytes ++ ls) T) (sym at)
            (k.fills (bytes_rest h.bytes k.bytes inner) base L t p (q ++ (g.skeleton ++ h.skeleton)) left ls fs around
            most all longer.pairs keys values longer.spelled (omega arith) deep
            (subst (λ x. Fills base L T t most T (x ++ k.skeleton) left fs ls T) at f)))
            f)
            f;
      }

  unfoldable pub fields_end_here : (types : List Field) (next limit n : ℕ) → n ≡ 0 → (x y : List ℕ)
      → BeginsThisNumber n x y
      → BeginsFilledFields T types next limit x y
  fields_end_here types next limit n none x y h =
      record {
        fields = no_field;
        skeleton = h.bytes;
        bytes = h.bytes;
        fill = λ p fs. fs;
        spelled = end_of_fields (subst (λ k. IsUnsigned k h.bytes) none h.spelled);
        within = omega arith;
        whole = h.whole;
        fills = λ o base L t p q left ls fs around most leads run deep f. as_they_stand (p ++ q) h.bytes o f;
      }

  unfoldable pub field_begins : (types : List Field) (next limit delta number : ℕ) (e : Field) → 0 < delta
      → number + 1 ≡ next + delta → slice_get types number ≡ Some e
      → (x a y z : List ℕ) → BeginsThisNumber delta x a → BeginsFilled T e.id limit a y
      → BeginsFilledFields T types (number + 1) limit y z → BeginsFilledFields T types next limit x z
  field_begins types next limit delta number e some is here x a y z g h k =
      let v = h.within in
      let w = k.within in
      let up : delta ≡ number + 1 - next = omega arith in
      let order : next ≤ number = omega arith in
      let spelled = subst (λ k. IsUnsigned k g.bytes) up g.spelled in
      record {
        fields = field number h.value k.fields;
        skeleton = g.bytes ++ (h.skeleton ++ k.skeleton);
        bytes = g.bytes ++ (h.bytes ++ k.bytes);
        fill = λ p fs. h.fill (p ++ g.bytes) (k.fill ((p ++ g.bytes) ++ h.skeleton) fs);
        spelled = next_field order here spelled h.spelled k.spelled;
        within = omega arith;
        whole = whole_of_two g.bytes (h.bytes ++ k.bytes) z g.whole (whole_of_two h.bytes k.bytes z h.whole k.whole);
        fills = λ o base L t p q left ls fs around most leads run deep f.
            let inner = bytes_rest g.bytes (h.bytes ++ k.bytes) o in
            let r = (p ++ q) ++ g.bytes in
            let delta_at : r ≡ p ++ (q ++ g.bytes) = append_assoc p q g.bytes in
            let at : r ++ h.skeleton ≡ p ++ (q ++ (g.bytes ++ h.skeleton)) =
            append_assoc (p ++ q) g.bytes h.skeleton ∙ append_assoc p q (g.bytes ++ h.skeleton) in
            joined (p ++ q) g.bytes (h.skeleton ++ k.skeleton) g.bytes (h.bytes ++ k.bytes) left ls fs
            (h.fill r (k.fill (r ++ h.skeleton) fs)) (λ p fs. fs)
            (λ left ls fs f. as_they_stand (p ++ q) g.bytes (bytes_prefix g.bytes (h.bytes ++ k.bytes) o) f)
            (λ f. joined r h.skeleton k.skeleton h.bytes k.bytes left ls fs (k.fill (r ++ h.skeleton) fs) h.fill
            (λ left ls fs f. h.fills (bytes_prefix h.bytes k.bytes inner) base L t r left ls fs around most
            (subst (λ x. LeadsToNils T t x e.id around) (sym delta_at)
            (leads next number e q g.bytes run order here spelled)) deep f)
            (λ f. subst (λ x. Fills base L T t most T x (k.skeleton ++ left) (k.fill x fs) (k.bytes ++ ls) T) (sym at)
            (k.fills (bytes_rest h.bytes k.bytes inner) base L t p (q ++ (g.bytes ++ h.skeleton)) left ls fs around
            most leads (run_more run order here spelled h.spelled) deep
            (subst (λ x. Fills base L T t most T (x ++ k.skeleton) left fs ls T) at f)))
            f)
            f;
      }

  -- ---- values with parts
  -- parts behind a count
  pub behind_count : {base : Table} {L : Bounds} {t : TypeId} {most : ℕ} (p c b m left ls : List ℕ) (fs : Fillings)
      (fill : Filler) → AreBytes c
      → (Fills base L T t most T (((p ++ c) ++ []) ++ b) left fs ls T
      → Fills base L T t most T ((p ++ c) ++ []) (b ++ left) (fill ((p ++ c) ++ []) fs) (m ++ ls) T)
      → Fills base L T t most T (p ++ (c ++ b)) left fs ls T
      → Fills base L T t most T p ((c ++ b) ++ left) (fill ((p ++ c) ++ []) fs) ((c ++ m) ++ ls) T
  behind_count {base = base} {L = L} {t = t} {most = most} p c b m left ls fs fill o parts f =
      let same : (p ++ c) ++ [] ≡ p ++ c = append-nil (p ++ c) in
      joined p c b c m left ls fs (fill ((p ++ c) ++ []) fs) (λ p fs. fs)
      (λ left ls fs f. as_they_stand p c o f)
      (λ f. subst (λ x. Fills base L T t most T x (b ++ left) (fill ((p ++ c) ++ []) fs) (m ++ ls) T) same
      (parts (subst (λ x. Fills base L T t most T (x ++ b) left fs ls T) (sym same) f)))
      f

  unfoldable pub slice_begins : (u e : TypeId) (limit n : ℕ) → IsOfKind T u (kind.Slice e) → 0 < limit →
      (x y z : List ℕ)
      → BeginsThisNumber n x y → BeginsFilledEach T e (limit - 1) n y z → BeginsFilled T u limit x z
  slice_begins u e limit n is some x y z g h =
      let w = h.within in
      record {
        value = Value.many h.values;
        skeleton = g.bytes ++ h.skeleton;
        bytes = g.bytes ++ h.bytes;
        fill = λ p fs. h.fill ((p ++ g.bytes) ++ []) fs;
        spelled =
            spelled_as is (of_slice (subst (λ k. IsUnsigned k g.bytes) (sym h.counted) g.spelled) h.spelled);
        within = omega arith;
        whole = whole_of_two g.bytes h.bytes z g.whole h.whole;
        fills = λ o base L t p left ls fs around most leads deep f.
            let c = g.bytes in
            behind_count p c h.skeleton h.bytes left ls fs h.fill (bytes_prefix c h.bytes o)
            (h.fills (bytes_rest c h.bytes o) base L t (p ++ c) [] left ls fs (around + 1) most n no_tree
            (λ vs q sp less. subst (λ x. LeadsToNils T t x e (around + 1)) (sym (append_assoc p c q))
            (enters_kind around p (c ++ q) leads is (expects.slice_element g.spelled sp less)))
            no_element (zero-add n) (omega arith)) f;
      }

  unfoldable pub array_begins : (u e : TypeId) (limit n m : ℕ) → IsOfKind T u (kind.Array e m) → 0 < limit → n ≡ m
      → (x y z : List ℕ) → BeginsThisNumber n x y → BeginsFilledEach T e (limit - 1) n y z → BeginsFilled T u limit x z
  array_begins u e limit n m is some same x y z g h =
      let w = h.within in
      let spelled = subst (λ k. IsUnsigned k g.bytes) same g.spelled in
      record {
        value = Value.many h.values;
        skeleton = g.bytes ++ h.skeleton;
        bytes = g.bytes ++ h.bytes;
        fill = λ p fs. h.fill ((p ++ g.bytes) ++ []) fs;
        spelled = spelled_as is (of_array (h.counted ∙ same) spelled h.spelled);
        within = omega arith;
        whole = whole_of_two g.bytes h.bytes z g.whole h.whole;
        fills = λ o base L t p left ls fs around most leads deep f.
            let c = g.bytes in
            behind_count p c h.skeleton h.bytes left ls fs h.fill (bytes_prefix c h.bytes o)
            (h.fills (bytes_rest c h.bytes o) base L t (p ++ c) [] left ls fs (around + 1) most m no_tree
            (λ vs q sp less. subst (λ x. LeadsToNils T t x e (around + 1)) (sym (append_assoc p c q))
            (enters_kind around p (c ++ q) leads is (expects.array_element spelled sp less)))
            no_element (zero-add n ∙ same) (omega arith)) f;
      }

  unfoldable pub map_begins : (u k e : TypeId) (limit n : ℕ) → IsOfKind T u (kind.Map k e) → 0 < limit →
      (x y z : List ℕ)
      → BeginsThisNumber n x y → BeginsFilledPairs T k e (limit - 1) n y z → BeginsFilled T u limit x z
  map_begins u key e limit n is some x y z g h =
      let w = h.within in
      record {
        value = Value.pairs h.pairs;
        skeleton = g.bytes ++ h.skeleton;
        bytes = g.bytes ++ h.bytes;
        fill = λ p fs. h.fill ((p ++ g.bytes) ++ []) fs;
        spelled = spelled_as is (of_map (subst (λ k. IsUnsigned k g.bytes) (sym h.counted) g.spelled) h.spelled);
        within = omega arith;
        whole = whole_of_two g.bytes h.bytes z g.whole h.whole;
        fills = λ o base L t p left ls fs around most leads deep f.
            let c = g.bytes in
            behind_count p c h.skeleton h.bytes left ls fs h.fill (bytes_prefix c h.bytes o)
            (h.fills (bytes_rest c h.bytes o) base L t (p ++ c) [] left ls fs (around + 1) most n no_pair
            (λ ps q sp less. subst (λ x. LeadsToNils T t x key (around + 1)) (sym (append_assoc p c q))
            (enters_kind around p (c ++ q) leads is (expects.next_key g.spelled sp less)))
            (λ ps y q a sp less one. subst (λ x. LeadsToNils T t x e (around + 1)) (sym (append_assoc p c (q ++ a)))
            (enters_kind around p (c ++ (q ++ a)) leads is (expects.next_value g.spelled sp less one)))
            no_entry (zero-add n) (omega arith)) f;
      }

  unfoldable pub struct_begins : (u : TypeId) (types : List Field) (limit : ℕ) → IsOfKind T u (kind.Struct types)
      → 0 < limit
      → (x y : List ℕ) → BeginsFilledFields T types 0 (limit - 1) x y → BeginsFilled T u limit x y
  struct_begins u types limit is some x y h =
      let w = h.within in
      record {
        value = Value.fields h.fields;
        skeleton = h.skeleton;
        bytes = h.bytes;
        fill = λ p fs. h.fill (p ++ []) fs;
        spelled = spelled_as is (of_struct h.spelled);
        within = omega arith;
        whole = h.whole;
        fills = λ o base L t p left ls fs around most leads deep f.
            let same : p ++ [] ≡ p = append-nil p in
            subst (λ x. Fills base L T t most T x (h.skeleton ++ left) (h.fill (p ++ []) fs) (h.bytes ++ ls) T) same
            (h.fills o base L t p [] left ls fs (around + 1) most
            (λ next f e a b run order here spelled. enters_kind around p (a ++ b) leads is
            (expects.next_field run order here spelled))
            no_fields (omega arith)
            (subst (λ x. Fills base L T t most T (x ++ h.skeleton) left fs ls T) (sym same) f));
      }

  -- ---- what an interface holds
  unfoldable pub held_begins : (u held : TypeId) (limit : ℕ) (a s n c w : List ℕ) → IsOfKind T u
      (kind.Basic basic.Interface)
      → 0 < length s → IsUnsigned (length s) a → MayPut T held → IsSigned (pos held.0) n → IsUnsigned (length w) c
      → (v : Filled) → (AreBytes w → (base : Table) (L : Bounds) → SpellsFilled base L T held limit v w T)
      → (x z : List ℕ) → x ≡ (a ++ (s ++ (n ++ (c ++ w)))) ++ z → BeginsFilled T u (limit + 1) x z
  held_begins u held limit a s n c w is some size may named counted v spelled x z whole =
      record {
        value = Value.nil;
        skeleton = 0 ∷ [];
        bytes = a ++ (s ++ (n ++ (c ++ w)));
        fill = λ p fs. filling (length (p ++ [])) s no_definitions held v fs;
        spelled = spelled_as is (of_nil (short (omega arith)));
        within = omega arith;
        whole = whole;
        fills = λ o base L t p left ls fs around most leads deep f.
            let behind = bytes_rest a (s ++ (n ++ (c ++ w))) o in
            let inner = bytes_rest c w (bytes_rest n (c ++ w) (bytes_rest s (n ++ (c ++ w)) behind)) in
            let left_over : limit ≡ most - (around + 1) = omega arith in
            next_filled [] tt (leads [] 1 (in_itself is.1 (subst (λ k. expects.ExpectsAt T k [] (a_number nil))
            (sym is.2) first))) some (bytes_prefix s (n ++ (c ++ w)) behind) size none_defined may named
            (subst (λ l. SpellsFilled base L T held l v w T) left_over (spelled inner base L))
            (last_segment w inner counted) f;
      }

  pub interface_begins : {u held : TypeId} {body : List ℕ} {size number count at name named counted inner last end : ℕ}
      (limit : ℕ) → IsOfKind T u (kind.Basic basic.Interface) → MayPut T held
      → HoldsBetween (BeginsThisNumber size) body at name → 0 < size → named ≡ name + size → named ≤ length body
      → HoldsBetween (BeginsThisNumber number) body named counted
      → ((bytes : List ℕ) → IsUnsigned number bytes → IsSigned (pos held.0) bytes)
      → HoldsBetween (BeginsThisNumber count) body counted inner → last ≡ inner + count → end ≡ last
      → HoldsBetween (BeginsFilledTop T held limit) body inner end
      → HoldsBetween (BeginsFilled T u (limit + 1)) body at end
  interface_begins {u = u} {held = held} {body = body} {size = size} {count = count} {at = at} {name = name}
      {named = named} {counted = counted} {inner = inner} {end = end} limit is may p some after within q types r full
      last h =
      let s = take size (drop name body) in
      let a = p.begins in
      let n = q.begins in
      let c = r.begins in
      let w = h.begins in
      let z = drop end body in
      let size_is : length s ≡ size = length-take-le size (drop name body) (omega (arith, length-drop name body)) in
      let name_is : drop name body ≡ s ++ drop named body =
      found_bytes body name size ∙ ap (λ k. s ++ drop k body) (sym after) in
      let whole : length (drop inner body) ≡ length w.bytes + length z =
      ap length w.whole ∙ length-append w.bytes z in
      let count_is : length w.bytes ≡ count =
      omega (arith, whole, h.inside, length-drop inner body, length-drop end body) in
      record {
        order = omega (arith, p.order, q.order, r.order, h.order);
        inside = h.inside;
        begins = held_begins u held limit a.bytes s n.bytes c.bytes w.bytes is (omega (arith, size_is))
            (subst (λ k. IsUnsigned k a.bytes) (sym size_is) a.spelled) may (types n.bytes n.spelled)
            (subst (λ k. IsUnsigned k c.bytes) (sym count_is) c.spelled) w.value w.spelled (drop at body) z
            (whole_of_two a.bytes (s ++ (n.bytes ++ (c.bytes ++ w.bytes))) z a.whole
            (whole_of_two s (n.bytes ++ (c.bytes ++ w.bytes)) z name_is
            (whole_of_two n.bytes (c.bytes ++ w.bytes) z n.whole (whole_of_two c.bytes w.bytes z c.whole w.whole))));
      }

  -- ---- behind a tag or without one
  pub struct_top_fills : {base : Table} {L : Bounds} {t : TypeId} {limit : ℕ} (b m : List ℕ) (fs : Fillings)
      → Fills base L T t limit T [] (b ++ []) fs (m ++ []) T → Fills base L T t limit T [] b fs m T
  struct_top_fills {base = base} {L = L} {t = t} {limit = limit} b m fs f =
      subst (λ x. Fills base L T t limit T [] x fs m T) (append-nil b)
      (subst (λ x. Fills base L T t limit T [] (b ++ []) fs x T) (append-nil m) f)

  unfoldable pub struct_top : {t : TypeId} {s : Shape} {limit : ℕ} → shape_of T t ≡ Some s → IsStruct s.kind →
      (x y : List ℕ)
      → BeginsFilled T t limit x y → BeginsFilledTop T t limit x y
  struct_top {t = t} {limit = limit} found is x y h = record {
    value = filled h.value (h.fill [] no_filling);
    bytes = h.bytes;
    whole = h.whole;
    spelled = λ o base L. with_fillings (at_once found is h.spelled) h.within
        (struct_top_fills h.skeleton h.bytes (h.fill [] no_filling)
        (h.fills o base L t [] [] [] no_filling 0 limit
        (λ q d x. subst (λ e. ExpectsTop T t q (a_number nil) e) (sym (zero-add d)) (in_struct found is x))
        (sym (zero-add limit)) (as_it_stands tt)));
  }

  unfoldable pub tagged_top : {t : TypeId} {s : Shape} {limit : ℕ} → shape_of T t ≡ Some s → ¬ IsStruct s.kind →
      (x y : List ℕ)
      → BeginsFilled T t limit x y → BeginsFilledTop T t limit (0 ∷ x) y
  tagged_top {t = t} {limit = limit} found isnt x y h = record {
    value = filled h.value (h.fill (0 ∷ []) no_filling);
    bytes = 0 ∷ h.bytes;
    whole = ap (λ r. 0 ∷ r) h.whole;
    spelled = λ o base L. with_fillings (tagged found isnt h.spelled) h.within
        (struct_top_fills (0 ∷ h.skeleton) (0 ∷ h.bytes) (h.fill (0 ∷ []) no_filling)
        (as_they_stand [] (0 ∷ []) (o.0, tt)
        (h.fills o.1 base L t (0 ∷ []) [] [] no_filling 0 limit
        (λ q d x. subst (λ e. ExpectsTop T t (0 ∷ q) (a_number nil) e) (sym (zero-add d)) (behind_tag found isnt x))
        (sym (zero-add limit)) (as_it_stands tt))));
  }

no_struct : (k : Kind) → ((fields : List Field) → ¬ (k ≡ kind.Struct fields)) → ¬ IsStruct k
no_struct (kind.Struct fields) n = λ i. n fields refl
no_struct _ n = λ i. i

pub behind_a_tag : {T : Table} {t : TypeId} {s : Shape} {limit : ℕ} (body : List ℕ) (at end : ℕ)
    → shape_of T t ≡ Some s → ((fields : List Field) → ¬ (s.kind ≡ kind.Struct fields)) → at < length body
    → get_or body at 0 ≡ 0 → HoldsBetween (BeginsFilled T t limit) body (at + 1) end
    → HoldsBetween (BeginsFilledTop T t limit) body at end
behind_a_tag {T = T} {t = t} {s = s} {limit = limit} body at end found other some tag p =
    let front : drop at body ≡ 0 ∷ drop (at + 1) body =
    drop_more body at 0 some ∙ ap (λ b. b ∷ drop (at + 1) body) tag in
    record {
      order = omega (arith, p.order);
      inside = p.inside;
      begins = subst (λ x. BeginsFilledTop T t limit x (drop end body)) (sym front)
          (tagged_top found (no_struct s.kind other) (drop (at + 1) body) (drop end body) p.begins);
    }

-- a value that stands from the first byte up to the end
pub top_whole : {T : Table} {t : TypeId} {limit : ℕ} {body : List ℕ} (end : ℕ) → end ≡ length body → AreBytes body
    → HoldsBetween (BeginsFilledTop T t limit) body 0 end → IsFilledWhole T t limit body
top_whole {T = T} {t = t} {limit = limit} {body = body} end last o p =
    let b = p.begins in
    let none : drop end body ≡ [] = ap (λ n. drop n body) last ∙ drop-length body in
    let all : body ≡ b.bytes = b.whole ∙ ap (λ r. b.bytes ++ r) none ∙ append-nil b.bytes in
    record {
      value = b.value;
      spelled = λ base L. subst (λ x. SpellsFilled base L T t limit b.value x T) (sym all)
          (b.spelled (subst AreBytes all o) base L);
    }
