-- Part by part a visitor is told of what is read.
use Rattle.std.proofs.Common.{◌≡◌, ℕ, ◌+◌, ◌-◌, ◌<◌, ◌≤◌, List, [], ◌∷◌, ◌++◌, Bool, true, false, refl, sym, ap, ◌∙◌}
use Rattle.std.proofs.Common.{arith, Some, Result, Ok, Err, IfOk, drop, length, subst, nat_lt, get_or, suc}
use Rattle.std.proofs.Common.{take, pos, length-drop, OnOk}
use Rattle.std.proofs.lemmas.List.{drop_more, drop-drop, length-take-le, take-append-drop}
use Rattle.gob_num.specs.Signed.{IsSigned}
use Rattle.gob_stream.specs.Body.{MayPut}
use Rattle.gob_num.specs.Unsigned.{IsUnsigned}
use Rattle.gob_types.specs.declared.id.TypeId.{TypeId}
use Rattle.gob_types.specs.declared.basic.Basic.{Basic}
use Rattle.gob_types.specs.declared.basic.Basic.TheVariants as basic
use Rattle.gob_types.specs.declared.kind.Marshal.{Marshal}
use Rattle.gob_types.specs.declared.kind.Field.{Field}
use Rattle.gob_types.specs.declared.kind.Kind.{Kind}
use Rattle.gob_types.specs.declared.kind.Kind.TheVariants as kind
use Rattle.gob_types.specs.declared.kind.Shape.{Shape}
use Rattle.gob_types.specs.Table.{Table, shape_of}
use Rattle.gob_value.specs.Top.{IsStruct}
use Rattle.gob_value.specs.Tree.{Tree, Trees, tree_count}
use Rattle.gob_value.specs.Spelling.{SpellsAs, of_type}
use Rattle.gob_value.specs.Machine.Begins.{BeginsKind, BeginsEach, BeginsThisNumber, HoldsBetween}
use Rattle.gob_value.proofs.PublicLaws.{whole_of_two}
use Rattle.gob_go.specs.Machine.WholeFilled.{IsOfKind}
use Rattle.std.specs.Result.{result_and}
use Rattle.gob_walk.specs.Event.{Event, value_told, elements_told, element, list_ends, entry, between, entry_ends}
use Rattle.gob_walk.specs.Event.{map_ends}
use Rattle.gob_walk.specs.Standing.{EndsAt, HoldsKind, HoldsValue, BeginsElements}
use Rattle.gob_walk.specs.Standing as standing
use Rattle.gob_walk.specs.Told.{Reaches, Sends, as_stop}
use Rattle.gob_walk.specs.declared.walk_end.WalkEnd.{WalkEnd}
use Rattle.gob_walk.proofs.PublicLaws.{later_on}
use Rattle.gob_filled_walk.specs.HeldEvent.{HeldEvent, told, all_told, HasHeard}
use Rattle.gob_filled_walk.specs.Reads.{Reads, ReadsEach, ReadsEntries, reads_unfilled, unfilled_elements, no_more}
use Rattle.gob_filled_walk.specs.Reads.{and_element, no_entry_more, and_entry, BeginsHeld}

-- the end that is given behind what was told last
pub ok_so : {E : Type 0} (P : ℕ → Type 0) (end : ℕ) (r : Result (Unit {0}) E) (q : Result ℕ (WalkEnd E))
    → q ≡ result_and (as_stop r) (Ok end) → (r ≡ Ok tt → P end) → IfOk q P
ok_so {E = E} P end r q e f = subst (λ q. IfOk q P) (sym e) (so r f)
  where
    so : (r : Result (Unit {0}) E) → (r ≡ Ok tt → P end) → IfOk (result_and (as_stop r) (Ok end)) P
    so (Ok u) f = f refl
    so (Err x) f = tt

-- what is known of an answer, where it is well
pub on_ok : {E : Type 0} (P : Result (Unit {0}) E → Type 0) (r : Result (Unit {0}) E) → P r → OnOk r (P (Ok tt))
on_ok P (Ok u) p = p
on_ok P (Err e) p = tt

pub ok_more : {E P Q : Type 0} (r : Result (Unit {0}) E) → (P → Q) → OnOk r P → OnOk r Q
ok_more (Ok u) f p = f p
ok_more (Err e) f p = tt

pub each_next : {T : Table} {e : TypeId} {limit count index : ℕ} {later : Bool} {es fs : List HeldEvent}
    {piece mid rest : List ℕ} → index < count → Reads T e limit es piece mid
    → ReadsEach T e limit (count - (index + 1)) (nat_lt 0 (index + 1)) fs mid rest
    → ReadsEach T e limit (count - index) later (told (element later) ∷ (es ++ fs)) piece rest
each_next {T = T} {e = e} {limit = limit} {count = count} {index = index} {later = later} {es = es} {fs = fs}
    {piece = piece} {mid = mid} {rest = rest} less one others =
    let left : (count - (index + 1)) + 1 ≡ count - index = omega arith in
    subst (λ n. ReadsEach T e limit n later (told (element later) ∷ (es ++ fs)) piece rest) left
    (and_element one (subst (λ b. ReadsEach T e limit (count - (index + 1)) b fs mid rest) (later_on index) others))

pub each_end : {T : Table} {e : TypeId} {limit count : ℕ} {later : Bool} {piece : List ℕ} → count ≡ 0
    → ReadsEach T e limit count later (told list_ends ∷ []) piece piece
each_end {T = T} {e = e} {limit = limit} {later = later} {piece = piece} none =
    subst (λ n. ReadsEach T e limit n later (told list_ends ∷ []) piece piece) (sym none) no_more

pub entries_next : {T : Table} {k e : TypeId} {limit count index : ℕ} {later : Bool} {ks es fs : List HeldEvent}
    {piece behind mid rest : List ℕ} → index < count → Reads T k limit ks piece behind → Reads T e limit es behind mid
    → ReadsEntries T k e limit (count - (index + 1)) (nat_lt 0 (index + 1)) fs mid rest
    → ReadsEntries T k e limit (count - index) later
    (told (entry k later) ∷ ((ks ++ told (between k) ∷ (es ++ told (entry_ends k) ∷ [])) ++ fs)) piece rest
entries_next {T = T} {k = k} {e = e} {limit = limit} {count = count} {index = index} {later = later} {ks = ks} {es = es}
    {fs = fs} {piece = piece} {mid = mid} {rest = rest} less key one others =
    let left : (count - (index + 1)) + 1 ≡ count - index = omega arith in
    subst (λ n. ReadsEntries T k e limit n later
    (told (entry k later) ∷ ((ks ++ told (between k) ∷ (es ++ told (entry_ends k) ∷ [])) ++ fs)) piece rest) left
    (and_entry key one
    (subst (λ b. ReadsEntries T k e limit (count - (index + 1)) b fs mid rest) (later_on index) others))

pub entries_end : {T : Table} {k e : TypeId} {limit count : ℕ} {later : Bool} {piece : List ℕ} → count ≡ 0
    → ReadsEntries T k e limit count later (told (map_ends k) ∷ []) piece piece
entries_end {T = T} {k = k} {e = e} {limit = limit} {later = later} {piece = piece} none =
    subst (λ n. ReadsEntries T k e limit n later (told (map_ends k) ∷ []) piece piece) (sym none) no_entry_more

module _ {O E : Type 0} (tells : O → O → List Event → Result (Unit {0}) E → Type 0)
    (hears : O → O → List HeldEvent → Type 0)
    (any : (a b : O) (es : List Event) → tells a b es (Ok tt) → hears a b (all_told es)) where
  -- a value without parts
  pub leaf_heard : (T : Table) {k : Kind} (t : TypeId) {limit : ℕ} (at : ℕ) {old new : O} {body : List ℕ}
      (q : Result ℕ (WalkEnd E)) → IsOfKind T t k → 0 < limit
      → ((v : Tree) (rest : List ℕ) → HoldsKind T k v (drop at body) rest
      → Sends (Reaches tells) old new (value_told T t v) body rest q)
      → IfOk q (λ end. EndsAt false (BeginsKind T false k 1) body at end)
      → IfOk q (λ end. HasHeard hears (Reads T t limit) old new body at end)
  leaf_heard T {k = k} t at {old = old} {new = new} {body = body} (Ok end) (s, found, is) some sent here =
      let b = (here.stands refl).begins in
      let stands : HoldsKind T k b.value (drop at body) (drop end body) =
      record { bytes = b.bytes; spelled = b.spelled; whole = b.whole } in
      let sends = sent b.value (drop end body) stands in
      record {
        events = all_told (value_told T t b.value);
        inside = here.inside;
        reads = reads_unfilled (record {
          bytes = b.bytes;
          spelled = of_type found (subst (λ k. SpellsAs T k b.value b.bytes) (sym is) b.spelled);
          within = omega (arith, b.within);
          whole = b.whole;
        });
        heard = any old new (value_told T t b.value) sends.put.answers;
      }
  leaf_heard T t at (Err e) is some sent stands = tt

  -- so many ints, and the end of their list
  pub ints_heard : (T : Table) (e : TypeId) {limit count : ℕ} (at : ℕ) {old new : O} {body : List ℕ}
      (q : Result ℕ (WalkEnd E)) → 0 < limit
      → ((vs : Trees) (rest : List ℕ) → BeginsElements T e limit vs (drop at body) rest → tree_count vs ≡ count
      → Sends (Reaches tells) old new (elements_told false T e vs) body rest q)
      → IfOk q (λ end. EndsAt false (BeginsEach T false e 1 count) body at end)
      → IfOk q (λ end. HasHeard hears (ReadsEach T e limit count false) old new body at end)
  ints_heard T e {limit = limit} at {old = old} {new = new} {body = body} (Ok end) some sent here =
      let b = (here.stands refl).begins in
      let stands : BeginsElements T e limit b.values (drop at body) (drop end body) = record {
        bytes = b.bytes;
        spelled = b.spelled;
        within = omega (arith, b.within);
        whole = b.whole;
      } in
      let sends = sent b.values (drop end body) stands b.counted in
      record {
        events = all_told (elements_told false T e b.values);
        inside = here.inside;
        reads = unfilled_elements stands b.counted;
        heard = any old new (elements_told false T e b.values) sends.put.answers;
      }
  ints_heard T e at (Err f) some sent stands = tt

pub no_struct : (k : Kind) → ((fields : List Field) → k ≡ kind.Struct fields → ⊥) → ¬ IsStruct k
no_struct (kind.Struct fields) none p = none fields refl
no_struct (kind.Basic b) none p = p
no_struct (kind.Opaque m) none p = p
no_struct (kind.Slice e) none p = p
no_struct (kind.Array e n) none p = p
no_struct (kind.Map k e) none p = p

-- the tag
pub tag_first : (body : List ℕ) (at : ℕ) → at < length body → get_or body at 0 ≡ 0
    → drop at body ≡ 0 ∷ drop (at + 1) body
tag_first body at inside zero = drop_more body at 0 inside ∙ ap (λ n. n ∷ drop (at + 1) body) zero

-- what stands before a value in an interface
pub held_stands : {T : Table} {held : TypeId} (body : List ℕ)
    {at size named typed number counted count begin end : ℕ} {name : List ℕ}
    → HoldsBetween (BeginsThisNumber size) body at named → 0 < size → name ≡ take size (drop named body)
    → typed ≡ named + size → named + size ≤ length body → HoldsBetween (BeginsThisNumber number) body typed counted
    → ((bytes : List ℕ) → IsUnsigned number bytes → IsSigned (pos held.0) bytes) → MayPut T held
    → HoldsBetween (BeginsThisNumber count) body counted begin → end ≡ begin + count
    → BeginsHeld T name held (end - begin) (drop at body) (drop begin body)
held_stands body {size = size} {named = named} {typed = typed} {count = count} {begin = begin} {end = end} {name = name}
    p some is up enough q type may r last =
    let a = p.begins in
    let n = q.begins in
    let c = r.begins in
    let z = drop begin body in
    let size_is : length name ≡ size = ap length is ∙ length-take-le size (drop named body)
    (omega (arith, enough, length-drop named body)) in
    let name_is : drop named body ≡ name ++ drop typed body = sym (take-append-drop size (drop named body))
    ∙ ap (λ l. l ++ drop size (drop named body)) (sym is)
    ∙ ap (λ l. name ++ l) (drop-drop size named body ∙ ap (λ k. drop k body) (sym up)) in
    let count_is : count ≡ end - begin = omega (arith, last) in
    record {
      name_count = a.bytes;
      number = n.bytes;
      count = c.bytes;
      some = omega (arith, size_is, some);
      named = subst (λ k. IsUnsigned k a.bytes) (sym size_is) a.spelled;
      may = may;
      typed = type n.bytes n.spelled;
      counted = subst (λ k. IsUnsigned k c.bytes) count_is c.spelled;
      whole = whole_of_two a.bytes (name ++ (n.bytes ++ c.bytes)) z a.whole
          (whole_of_two name (n.bytes ++ c.bytes) z name_is (whole_of_two n.bytes c.bytes z n.whole c.whole));
    }
