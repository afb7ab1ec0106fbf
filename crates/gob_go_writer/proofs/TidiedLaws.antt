-- What is kept of a value whose skeleton and fillings were tidied stands for its tidy form.
use Rattle.std.proofs.Common.{◌≡◌, ◌∙◌, ℕ, suc, ◌+◌, ◌≤◌, List, [], ◌∷◌, length, Some, arith, refl, sym, ap, subst}
use Rattle.std.specs.Prelude.{slice_get}
use Rattle.gob_num.specs.Unsigned.{AreBytes}
use Rattle.gob_types.specs.declared.id.TypeId.{TypeId}
use Rattle.gob_types.specs.Table.{Table}
use Rattle.gob_types.proofs.PublicLaws.{some_injective}
use Rattle.gob_value.specs.Tidy.{Tidies}
use Rattle.gob_value.specs.Top.{SpellsTop}
use Rattle.gob_value.proofs.PublicLaws.{same_top}
use Rattle.gob_tidy.specs.SameNil.{IsSameNil, MovesNils}
use Rattle.gob_filled.specs.Filled.{Definitions, Fillings, no_filling, filling}
use Rattle.gob_filled.specs.Filled as spelled
use Rattle.gob_filled.specs.Stream.{FilledItem, defining, putting}
use Rattle.gob_go.specs.Meaning.{IsFilled, is_filled, AreFillings, no_fillings, filling_then, definitions_of, ItemMeans}
use Rattle.gob_go.specs.Meaning.{means_definition, means_value}
use Rattle.gob_go.specs.declared.filled.Filled.{Filled, out-Filled}
use Rattle.gob_go.specs.declared.filled.Filling.{Filling, out-Filling}
use Rattle.gob_go.specs.declared.item.GoItem.{GoItem}
use Rattle.gob_go.specs.declared.item.GoItem.TheVariants as item
use Rattle.gob_value.specs.declared.value.Value.{Value}
use Rattle.gob_value.specs.View.{view}
use Rattle.gob_go_writer.specs.TidyItem.{TidiesFilled, tidies_filled, TidiesFillings, tidies_none, tidies_filling}
use Rattle.gob_go_writer.specs.TidyItem.{BecomesTidy, IsTidyForm, tidies_definition, tidies_value}
use Rattle.gob_go_writer.specs.Machine.Each.{HoldsOfEach}
use Rattle.gob_go_writer.specs.Machine.Places.{AreCloser, last_closer, then_closer, places_in}
use Rattle.gob_go_writer.specs.Machine.Tidied.{AreTidied, IsDescriptionTidied, IsFillingTidied, IsSkeletonTidied}
use Rattle.gob_go_writer.specs.Machine.Tidied.{IsTidiedAt, IsTidyOf, IsValueTidied, MovesClosely, none_left, then_moved}
use Rattle.gob_go_writer.specs.Machine.Tidied.{TidiesClosely, tidies_closely}
use Rattle.gob_go_writer.proofs.AgainLaws.{value_fits}
use Rattle.gob_go_writer.proofs.DescriptionLaws.{definition_fits, definitions_moved}
use Rattle.gob_go_writer.proofs.EachLaws.{first_holds}
use Rattle.gob_go_writer.specs.declared.tidy.skeleton.Skeleton.{Skeleton}

-- ---- with no word on lengths

mutual
  tidies_plainly : {T : Table} {t : TypeId} {v w : spelled.Filled} → TidiesClosely T t v w → TidiesFilled T t v w
  tidies_plainly (tidies_closely sb sc oc ti m) = tidies_filled sb sc ti (moves_plainly m)

  moves_plainly : {T : Table} {t : TypeId} {b c : List ℕ} {from to : ℕ} {fs gs : Fillings}
      → MovesClosely T t b c from to fs gs → TidiesFillings T t b c fs gs
  moves_plainly (none_left l m) = tidies_none
  moves_plainly (then_moved l m same ds are ti ms) = tidies_filling same ds (tidies_plainly ti) (moves_plainly ms)

-- ---- fillings

filling_alike : {p q : ℕ} {s r : List ℕ} {ds : Definitions} {t u : TypeId} {w : spelled.Filled} {gs : Fillings}
    → p ≡ q → s ≡ r → t ≡ u → filling p s ds t w gs ≡ filling q r ds u w gs
filling_alike e f g = cc

-- what the tidied fillings stand for
record FillingsMoved (T : Table) (t : TypeId) (b c : List ℕ) (from to : ℕ) (fs : Fillings) (news : List Filling) : Type
    0 where
  fillings : Fillings
  moves : MovesClosely T t b c from to fs fillings
  means : AreFillings T news fillings

-- the first nil's filling is tidied for it, and the others for the other nils
place_first : {T : Table} {q : ℕ} {qs : List ℕ} {old new : Filling} → IsTidiedAt T (q ∷ qs) 0 old new
    → IsFillingTidied T q old new
place_first {T = T} {old = old} {new = new} h =
    subst (λ p. IsFillingTidied T p old new) (sym (some_injective h.there)) h.tidied

place_others : {T : Table} {q : ℕ} {qs : List ℕ} {olds news : List Filling}
    → HoldsOfEach (λ number. IsTidiedAt T (q ∷ qs) (suc number)) olds news → AreTidied T qs olds news
place_others a = record {
  all = a.all;
  each = λ number f there. let h = a.each number f there in record {
    element = h.element;
    is = h.is;
    holds = let k = h.holds in record { place = k.place; there = k.there; tidied = k.tidied };
  };
}

-- one of them, and those behind it
one_moved : {T : Table} {t : TypeId} {b c : List ℕ} {from to q : ℕ} {old new : Filling} {news : List Filling}
    {w : spelled.Filled} {fs : Fillings} → to ≤ q → q + from ≤ (out-Filling old).place + to
    → IsSameNil T t b c (out-Filling old).place q → IsFillingTidied T q old new
    → IsFilled T (out-Filling old).id (out-Filling old).value w
    → FillingsMoved T t b c ((out-Filling old).place + 1) (q + 1) fs news
    → FillingsMoved T t b c from to (filling (out-Filling old).place (out-Filling old).name.items
    (definitions_of (out-Filling old).definitions.items) (out-Filling old).id w fs) (new ∷ news)
one_moved {T = T} {t = t} {b = b} {c = c} {from = from} {to = to} {q = q} {old = old} {new = new} {w = w} {fs = fs}
    low near same tidied m r =
    let h = tidied.value w m in
    let d = definitions_moved (out-Filling old).definitions.items (out-Filling new).definitions.items tidied.definitions
    in
    let all = filling (out-Filling new).place (out-Filling new).name.items
    (definitions_of (out-Filling new).definitions.items) (out-Filling new).id h.form r.fillings in
    record {
      fillings = all;
      moves = subst (MovesClosely T t b c from to (filling (out-Filling old).place (out-Filling old).name.items
          (definitions_of (out-Filling old).definitions.items) (out-Filling old).id w fs))
          (filling_alike (sym tidied.place_is) (ap (λ n. n.items) (sym tidied.name)) (sym tidied.type))
          (then_moved low near same d.tidies d.are h.tidies r.moves);
      means = filling_then (subst (λ id. IsFilled T id (out-Filling new).value h.form) (sym tidied.type) h.means)
          r.means;
    }

no_more : (news : List Filling) → length news ≡ 0 → news ≡ []
no_more [] e = refl
no_more (f ∷ news) e = absurd (omega arith)

fillings_moved : {T : Table} {t : TypeId} {b c : List ℕ} {from to : ℕ} {olds : List Filling} {fs : Fillings}
    (places : List ℕ) (news : List Filling) → AreFillings T olds fs
    → AreCloser (length b) (length c) from to (places_in olds) places
    → ((i p q : ℕ) → slice_get (places_in olds) i ≡ Some p → slice_get places i ≡ Some q → IsSameNil T t b c p q)
    → AreTidied T places olds news → FillingsMoved T t b c from to fs news
fillings_moved {T = T} places news no_fillings (last_closer l m) same a = record {
  fillings = no_filling;
  moves = none_left l m;
  means = subst (λ l. AreFillings T l no_filling) (sym (no_more news a.all)) no_fillings;
}
fillings_moved {T = T} {t = t} {b = b} {c = c} {from = from} {to = to} places news
    (filling_then {kept = old} {all = olds} {w = w} {fs = fs} m ms) (then_closer {q = q} {qs = qs} low near cs) same a =
    let h = first_holds news a in
    subst (FillingsMoved T t b c from to (filling (out-Filling old).place (out-Filling old).name.items
    (definitions_of (out-Filling old).definitions.items) (out-Filling old).id w fs)) (sym h.whole)
    (one_moved low near (same 0 (out-Filling old).place q refl refl) (place_first h.holds) m
    (fillings_moved {from = (out-Filling old).place + 1} {to = q + 1} qs h.others ms cs
    (λ i p r x y. same (suc i) p r x y) (place_others h.others_hold)))

-- ---- values

pub value_tidied : {T : Table} {t : TypeId} {old new : Filled} (form : Skeleton)
    → IsSkeletonTidied T t (out-Filled old).skeleton.items (out-Filled old).fillings.items form
    → AreTidied T form.places.items (out-Filled old).fillings.items (out-Filled new).fillings.items
    → (out-Filled new).skeleton.items ≡ form.bytes.items → IsValueTidied T t old new
value_tidied {T = T} {t = t} {old = old} {new = new} form k a e = λ value m. by value m
  where
    by : (value : spelled.Filled) → IsFilled T t old value → IsTidyOf T t value new
    by _ (is_filled {v = v} {fs = fs} top means) =
        let w = k.moves.whole in
        let same : v ≡ w.value = (same_top [] [] top w.spelled refl).value in
        let h = fillings_moved form.places.items (out-Filled new).fillings.items means k.closer k.moves.each a in
        record {
          form = spelled.filled w.form h.fillings;
          tidies = tidies_closely top w.form_spelled k.are_bytes (subst (λ v. Tidies T t v w.form) (sym same) w.tidies)
              h.moves;
          means = is_filled (subst (SpellsTop T t w.form) (sym e) w.form_spelled) h.means;
        }

-- ---- items

pub put_becomes : {now : Table} {id : TypeId} {old new : Filled} → IsValueTidied now id old new
    → BecomesTidy now (item.Put id old) (item.Put id new)
put_becomes {now = now} {id = id} {old = old} {new = new} h = λ i m. by i m
  where
    by : (i : FilledItem) → ItemMeans now (item.Put id old) i → IsTidyForm now i (item.Put id new)
    by _ (means_value {w = w} m) =
        let t = h w m in
        record {
          form = putting id t.form;
          tidies = tidies_value (tidies_plainly t.tidies);
          means = means_value t.means;
          fits = λ L before behind offset lower bytes is grown low. value_fits t.tidies is grown low;
        }

pub definition_becomes : {now : Table} {id : TypeId} {old new : Value} → IsDescriptionTidied now (view old) (view new)
    → BecomesTidy now (item.Define id old) (item.Define id new)
definition_becomes {now = now} {id = id} {old = old} {new = new} h = λ i m. by i m
  where
    by : (i : FilledItem) → ItemMeans now (item.Define id old) i → IsTidyForm now i (item.Define id new)
    by _ means_definition = record {
      form = defining id (view new);
      tidies = tidies_definition h.tidies;
      means = means_definition;
      fits = λ L before behind offset lower bytes is grown low. definition_fits h is grown low;
    }

-- where the item is such a one
pub put_at : {now : Table} {id : TypeId} {old new : Filled} {given : GoItem} → given ≡ item.Put id old
    → IsValueTidied now id old new → BecomesTidy now given (item.Put id new)
put_at {now = now} {id = id} {new = new} is h =
    subst (λ (i : GoItem). BecomesTidy now i (item.Put id new)) (sym is) (put_becomes h)

pub definition_at : {now : Table} {id : TypeId} {old new : Value} {given : GoItem} → given ≡ item.Define id old
    → IsDescriptionTidied now (view old) (view new) → BecomesTidy now given (item.Define id new)
definition_at {now = now} {id = id} {new = new} is h =
    subst (λ (i : GoItem). BecomesTidy now i (item.Define id new)) (sym is) (definition_becomes h)

-- ---- skeletons

pub skeleton_tidied : {T : Table} {id : TypeId} {skeleton nils n m p b : List ℕ} {fillings : List Filling}
    {form : Skeleton} → nils ≡ places_in fillings → n ≡ nils
    → MovesNils T id 1000 skeleton form.bytes.items n form.places.items → m ≡ nils → p ≡ form.places.items
    → b ≡ form.bytes.items → AreCloser (length skeleton) (length b) 0 0 m p → AreBytes b
    → IsSkeletonTidied T id skeleton fillings form
skeleton_tidied {T = T} {id = id} {skeleton = skeleton} {m = m} {b = b} {form = form} e f moves g h k
    closer o = record {
      moves = subst (λ n. MovesNils T id 1000 skeleton form.bytes.items n form.places.items) (f ∙ e) moves;
      closer = subst (λ n. AreCloser (length skeleton) (length form.bytes.items) 0 0 n form.places.items) (g ∙ e)
          (subst (λ b. AreCloser (length skeleton) (length b) 0 0 m form.places.items) k
          (subst (λ p. AreCloser (length skeleton) (length b) 0 0 m p) h closer));
      are_bytes = subst AreBytes k o;
    }

-- ---- what is kept

pub value_becomes : {T : Table} {t : TypeId} {old new : Filled} {s places : List ℕ} {olds others news : List Filling}
    (form : Skeleton) → s ≡ (out-Filled old).skeleton.items → olds ≡ (out-Filled old).fillings.items
    → places ≡ form.places.items → others ≡ (out-Filled old).fillings.items → IsSkeletonTidied T t s olds form
    → AreTidied T places others news → (out-Filled new).skeleton.items ≡ form.bytes.items
    → (out-Filled new).fillings.items ≡ news → IsValueTidied T t old new
value_becomes {T = T} {t = t} {old = old} {s = s} {others = others} {news = news} form e f g h
    k a i j = value_tidied form
    (subst (λ s. IsSkeletonTidied T t s (out-Filled old).fillings.items form) e
    (subst (λ olds. IsSkeletonTidied T t s olds form) f k))
    (subst (AreTidied T form.places.items (out-Filled old).fillings.items) (sym j)
    (subst (λ olds. AreTidied T form.places.items olds news) h
    (subst (λ places. AreTidied T places others news) g a))) i
