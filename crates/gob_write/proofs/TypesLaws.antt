-- How a stream is read for its types, and how one of them is found by its name.
use Rattle.std.proofs.Common.{◌≡◌, ◌≢◌, ℕ, suc, ◌+◌, ◌-◌, ◌<◌, arith, List, [], ◌∷◌, ◌++◌, length}
use Rattle.std.proofs.Common.{get_or, drop}
use Rattle.std.proofs.Common.{Bool, Option, Some, None, Result, Ok, Err, ◌∙◌, ap, sym, subst, refl}
use Rattle.std.proofs.Common.{append-nil}
use Rattle.std.proofs.Math.Seq.{drop-cons}
use Rattle.std.specs.Result.{IsErrAnd}
use Rattle.gob_types.specs.Table.{Table}
use Rattle.gob_types.specs.declared.id.TypeId.{TypeId}
use Rattle.gob_read.specs.Calls.Builders.{tree_building}
use Rattle.gob_value.specs.declared.value.Value.{Value}
use Rattle.gob_stream.specs.Bounds.{Bounds, within_trees}
use Rattle.gob_stream.specs.Calls.Reader.{EndsWith, GivesItems, gives_none, gives_one, Stops}
use Rattle.gob_stream.specs.Calls.Reader.{session_of}
use Rattle.gob_stream.specs.Calls.ReaderOf.{HasReadBy}
use Rattle.gob_stream.specs.declared.reader_of.ReaderOf.{ReaderOf}
use Rattle.gob_stream.specs.Stepping.{StandsBy, Stepping}
use Rattle.gob_stream.specs.Item.{StreamItem, ItemMeans, defines, item_view, means_definition, means_value, puts}
use Rattle.gob_stream.specs.Reading.{CountsReads}
use Rattle.gob_stream.specs.declared.fault.Fault.{Fault}
use Rattle.gob_stream.specs.declared.fault.Fault.TheVariants as reading
use Rattle.gob_stream.specs.declared.item.Item as declared
use Rattle.gob_write.specs.Making.{definitions_of}
use Rattle.gob_write.specs.Types.{FindsNamed, finds_here, finds_further, finds_none, Names, ReadsDefinitions}
use Rattle.gob_write.specs.Types.{ReadsTypes, IsWanted, CountsTypesReads, basic_types, defined_in, first_type}
use Rattle.gob_write.specs.Types.{ids_of, nameable, or_else, types_fault}
use Rattle.gob_write.specs.declared.types.Definition.{Definition}
use Rattle.gob_write.specs.declared.types.Types.{Types}
use Rattle.gob_write.specs.declared.types.TypesFault.TheVariants as fault

-- ---- the items, one by one
defined_append : (items others : List StreamItem) → defined_in (items ++ others)
    ≡ defined_in items ++ defined_in others
defined_append [] others = refl
defined_append (defines id v ∷ items) others = ap (λ l. defines id v ∷ l) (defined_append items others)
defined_append (puts id v ∷ items) others = defined_append items others

first_append : (items others : List StreamItem) → first_type (items ++ others)
    ≡ or_else (first_type items) (first_type others)
first_append [] others = refl
first_append (defines id v ∷ items) others = first_append items others
first_append (puts id v ∷ items) others = refl

meant : {g : declared.Item Value} {i : StreamItem} → ItemMeans tree_building.means g i → item_view g ≡ i
meant means_definition = refl
meant (means_value {id = id} m) = ap (λ v. puts id v) m

-- ---- from step to step
-- these items were read, their definitions are kept, and the type of the first value is known
pub record ReadsSo (P : List StreamItem → Type 0) (first : Option TypeId)
    (ds : List Definition) : Type 0 where
  pub given : List StreamItem
  pub has : P given
  pub is : first ≡ first_type given
  pub are : definitions_of ds ≡ defined_in given

pub reads_first : (P : List StreamItem → Type 0) (ds : List Definition) → ds ≡ [] → P []
    → ReadsSo P None ds
reads_first P ds empty has = record { given = []; has = has; is = refl; are = ap definitions_of empty }

-- a step that gave an item
pub reads_item : {P : List StreamItem → Type 0} (Q : List StreamItem → Type 0) {first found : Option TypeId}
    {ds more : List Definition} {o : Option (declared.Item Value)} {items : List StreamItem} (g : declared.Item Value)
    (p : ReadsSo P first ds) → GivesItems tree_building.means o items → o ≡ Some g → Q (p.given ++ items)
    → found ≡ or_else first (first_type (item_view g ∷ []))
    → definitions_of more ≡ definitions_of ds ++ defined_in (item_view g ∷ []) → ReadsSo Q found more
reads_item Q g p gives_none given has is are = absurd (cc given)
reads_item Q {first = first} {ds = ds} g p (gives_one {given = h} {i = i} m) given has is are =
    let same : h ≡ g = cc in
    let item : item_view g ≡ i = ap item_view (sym same) ∙ meant m in
    record {
      given = p.given ++ i ∷ [];
      has = has;
      is = is ∙ ap (λ j. or_else first (first_type (j ∷ []))) item
          ∙ ap (λ o. or_else o (first_type (i ∷ []))) p.is ∙ sym (first_append p.given (i ∷ []));
      are = are ∙ ap (λ j. definitions_of ds ++ defined_in (j ∷ [])) item
          ∙ ap (λ l. l ++ defined_in (i ∷ [])) p.are ∙ sym (defined_append p.given (i ∷ []));
    }

-- a step that gave none
pub reads_on : {P : List StreamItem → Type 0} (Q : List StreamItem → Type 0) {first : Option TypeId}
    {ds : List Definition} {o : Option (declared.Item Value)} {items : List StreamItem} (p : ReadsSo P first ds)
    → GivesItems tree_building.means o items → o ≡ None → Q (p.given ++ items) → ReadsSo Q first ds
reads_on Q p gives_none given has =
    record { given = p.given; has = subst Q (append-nil p.given) has; is = p.is; are = p.are }
reads_on Q p (gives_one m) given has = absurd (cc given)

-- it comes nearer to where the stream ends at the latest
pub steps_fall : {X I Told : Type 0} (d : Stepping X I Told) {r' : ReaderOf X I} {read now : Option (List ℕ)}
    {items : List Told} → StandsBy d (session_of r') → (r : ReaderOf X I) (before : ℕ)
    → d.limits (session_of r') ≡ d.limits (session_of r) → HasReadBy d r' read now items
    → before < d.taken (session_of r')
    → (d.limits (session_of r')).stream + 9 - d.taken (session_of r') < (d.limits (session_of r)).stream + 9 - before
steps_fall d {items = items} stands r before same h onward =
    let few = stands.few items h.taken h.gave in
    let stream = ap (λ (L : Bounds). L.stream) same in
    omega (arith, few.1, onward, stream)

-- ---- the ends
pub at_error : {A E : Type 0} (P : Result A E → Type 0) (r : Result A E) (f : E) → IsErrAnd r (λ e. e ≡ f) → P (Err f)
    → P r
at_error P (Ok u) f e h = absurd e
at_error P (Err g) f e h = subst (λ f. P (Err f)) (sym e) h

pub reading_stops : (L M : Bounds) (T U : Table) (items : List StreamItem) (bytes : List ℕ) (now : Option (List ℕ))
    (e : Fault) (ds : List Definition) → L ≡ M → Stops (within_trees L) T items bytes now e
    → ReadsDefinitions (within_trees M) bytes now U ds (Err e)
reading_stops L M T U items bytes now e ds same s =
    subst (λ (L : Bounds). ReadsDefinitions (within_trees L) bytes now U ds (Err e)) same (at e s)
  where
    at : (e : Fault) → Stops (within_trees L) T items bytes now e
        → ReadsDefinitions (within_trees L) bytes now U ds (Err e)
    at (reading.Refused R) s = (items, s.outcome)
    at reading.Read s = record { bytes = s.bytes; taken = s.taken; holds = (items, s.holds.gives) }
    at reading.Memory s = tt
    at reading.Failed s = absurd s

pub reading_ends : {P : List StreamItem → Type 0} (L M : Bounds) (T U : Table) (taken : ℕ)
    (bytes : List ℕ) (now : Option (List ℕ)) {first : Option TypeId} {ds : List Definition} → L ≡ M → U ≡ T
    → (p : ReadsSo P first ds) → EndsWith (within_trees L) T taken p.given bytes now
    → ReadsDefinitions (within_trees M) bytes now U ds (Ok first)
reading_ends L M T U taken bytes now {first = first} {ds = ds} same table p e =
    subst (λ (L : Bounds). ReadsDefinitions (within_trees L) bytes now U ds (Ok first)) same (record {
      items = p.given;
      table = T;
      stream = e.stream;
      end = e.end;
      holds = (table, p.are, p.is);
    })

-- ---- what is counted
pub counts_on : (A B : Type 0) (old mid new : ℕ) (e : Fault) → mid ≡ old → CountsReads {A = A} mid new (Err e)
    → CountsReads {A = B} old new (Err e)
counts_on A B old mid new (reading.Refused R) same h = h ∙ same
counts_on A B old mid new reading.Read same h = subst (λ n. CountsReads {A = B} n new (Err reading.Read)) same h
counts_on A B old mid new reading.Memory same h = h ∙ same
counts_on A B old mid new reading.Failed same h = h ∙ same

pub counts_unread : (B : Type 0) (old new : ℕ) (e : Fault) → new ≡ old → e ≢ reading.Read
    → CountsReads {A = B} old new (Err e)
counts_unread B old new (reading.Refused R) same other = same
counts_unread B old new reading.Read same other = absurd (other refl)
counts_unread B old new reading.Memory same other = same
counts_unread B old new reading.Failed same other = same

pub types_counted : (A B : Type 0) (old new : ℕ) (e : Fault) → CountsReads {A = A} old new (Err e)
    → CountsTypesReads {A = B} old new (Err (types_fault e))
types_counted A B old new (reading.Refused R) h = h
types_counted A B old new reading.Read h = h.0
types_counted A B old new reading.Memory h = h
types_counted A B old new reading.Failed h = h

-- ---- the types that the call answers
pub types_stop : (L : Bounds) (bytes : List ℕ) (now : Option (List ℕ)) (U : Table) (ds : List Definition) (e : Fault)
    (named : Option (List ℕ)) (lenient : Bool) → ReadsDefinitions L bytes now U ds (Err e)
    → ReadsTypes L bytes now named lenient (Err (types_fault e))
types_stop L bytes now U ds (reading.Refused R) named lenient h = h
types_stop L bytes now U ds reading.Read named lenient h = h
types_stop L bytes now U ds reading.Memory named lenient h = tt
types_stop L bytes now U ds reading.Failed named lenient h = tt

-- the ids that the items define are those of the definitions
nameable_ids : (ds : List Definition) (items : List StreamItem) → definitions_of ds ≡ defined_in items
    → nameable items ≡ ids_of ds ++ basic_types
nameable_ids [] [] e = refl
nameable_ids (d ∷ ds) [] e = absurd (cc e)
nameable_ids ds (puts id v ∷ items) e = nameable_ids ds items e
nameable_ids [] (defines id v ∷ items) e = absurd (cc e)
nameable_ids (d ∷ ds) (defines id v ∷ items) e =
    let same : d.id ≡ id = cc in
    let rest : definitions_of ds ≡ defined_in items = cc in
    ap (λ i. i ∷ nameable items) (sym same) ∙ ap (λ l. d.id ∷ l) (nameable_ids ds items rest)

-- what is wanted, as the call finds it: a type that the word names, or the first one
pub data FindsSo (U : Table) (ds : List Definition) (first : Option TypeId) : Option (List ℕ) → Option TypeId → Type
    0 where
  so_first : FindsSo U ds first None first
  so_named : {word : List ℕ} {found : Option TypeId} → FindsNamed U word (ids_of ds ++ basic_types) found
      → FindsSo U ds first (Some word) found

is_wanted : {U T : Table} {ds : List Definition} {first : Option TypeId} {named : Option (List ℕ)}
    {found : Option TypeId} (items : List StreamItem) → FindsSo U ds first named found → U ≡ T
    → definitions_of ds ≡ defined_in items → first ≡ first_type items → IsWanted named T items found
is_wanted items so_first same are is = is
is_wanted {U = U} {ds = ds} items (so_named {word = word} {found = found} f) same are is =
    subst (λ (V : Table). FindsNamed V word (nameable items) found) same
    (subst (λ (ids : List TypeId). FindsNamed U word ids found) (sym (nameable_ids ds items are)) f)

-- as the word names one, or the first value has one
pub so_by_name : {U : Table} {ds : List Definition} {first wanted found : Option TypeId} {text : Option (List ℕ)}
    (word : List ℕ) (V : Table) (es : List Definition) → text ≡ Some word → V ≡ U → es ≡ ds → wanted ≡ found
    → FindsNamed V word (ids_of es ++ basic_types) found → FindsSo U ds first text wanted
so_by_name word V es e same are is f =
    rw (e, sym same, sym are, is) (so_named f)

pub so_by_value : {U : Table} {ds : List Definition} {first wanted : Option TypeId} {text : Option (List ℕ)}
    → text ≡ None → wanted ≡ first → FindsSo U ds first text wanted
so_by_value {U = U} {ds = ds} e is = rw (e, is) so_first

pub types_found : {L : Bounds} {bytes : List ℕ} {now : Option (List ℕ)} {U : Table} (types : Types)
    {first : Option TypeId} {named : Option (List ℕ)} {lenient : Bool} {found : Option TypeId}
    → ReadsDefinitions L bytes now U types.definitions.items (Ok first)
    → FindsSo U types.definitions.items first named found → found ≡ Some types.id → types.lenient ≡ lenient
    → ReadsTypes L bytes now named lenient (Ok types)
types_found types {named = named} h f is lenient = record {
  items = h.items;
  table = h.table;
  stream = h.stream;
  end = h.end;
  holds = record {
    definitions = h.holds.1;
    wanted = subst (IsWanted named h.table h.items) is (is_wanted h.items f h.holds.0 h.holds.1 h.holds.2);
    as_asked = lenient;
  };
}

pub no_type_found : {L : Bounds} {bytes : List ℕ} {now : Option (List ℕ)} {U : Table} {ds : List Definition}
    {first : Option TypeId} {named : Option (List ℕ)} (lenient : Bool) {found : Option TypeId}
    → ReadsDefinitions L bytes now U ds (Ok first) → FindsSo U ds first named found → found ≡ None
    → ReadsTypes L bytes now named lenient (Err fault.NoType)
no_type_found {named = named} lenient h f is = record {
  items = h.items;
  table = h.table;
  stream = h.stream;
  end = h.end;
  holds = subst (IsWanted named h.table h.items) is (is_wanted h.items f h.holds.0 h.holds.1 h.holds.2);
}

-- ---- a type by its name
pub finds_front : {T : Table} {word : List ℕ} {id : TypeId} (ids others : List TypeId)
    → FindsNamed T word ids (Some id) → FindsNamed T word (ids ++ others) (Some id)
finds_front [] others f = elim f [ ]
finds_front (id ∷ ids) others (finds_here n) = finds_here n
finds_front (id ∷ ids) others (finds_further n f) = finds_further n (finds_front ids others f)

pub finds_behind : {T : Table} {word : List ℕ} {found : Option TypeId} (ids others : List TypeId)
    → FindsNamed T word ids None → FindsNamed T word others found → FindsNamed T word (ids ++ others) found
finds_behind [] others finds_none g = g
finds_behind (id ∷ ids) others (finds_further n f) g = finds_further n (finds_behind ids others f g)

-- the first ones are not named: what is found among the others is found among all
pub record NoneBefore (T : Table) (word : List ℕ) (all others : List TypeId) : Type 0 where
  pub found : (found : Option TypeId) → FindsNamed T word others found → FindsNamed T word all found

pub none_before : (T : Table) (word : List ℕ) (all : List TypeId) → NoneBefore T word all all
none_before T word all = record { found = λ found f. f }

pub one_passed : {T : Table} {word : List ℕ} {all : List TypeId} {id : TypeId} {others : List TypeId}
    → NoneBefore T word all (id ∷ others) → ¬ Names T word id → NoneBefore T word all others
one_passed none other = record { found = λ found f. none.found found (finds_further other f) }

pub one_found : {T : Table} {word : List ℕ} {all : List TypeId} {id : TypeId} {others : List TypeId}
    → NoneBefore T word all (id ∷ others) → Names T word id → FindsNamed T word all (Some id)
one_found {id = id} none named = none.found (Some id) (finds_here named)

pub none_found : {T : Table} {word : List ℕ} {all : List TypeId} → NoneBefore T word all []
    → FindsNamed T word all None
none_found none = none.found None finds_none

-- the ids from this place on
pub ids_from : (ds : List Definition) (n : ℕ) (d : Definition) → d ≡ get_or ds n d → n < length ds
    → ids_of (drop n ds) ≡ d.id ∷ ids_of (drop (n + 1) ds)
ids_from ds n d is within =
    let next : suc n ≡ n + 1 = omega arith in
    ap ids_of (drop-cons ds n d within) ∙ ap (λ (e : Definition). e.id ∷ ids_of (drop (suc n) ds)) (sym is)
    ∙ ap (λ k. d.id ∷ ids_of (drop k ds)) next

-- or among these
pub from_place : (ids : List TypeId) (n : ℕ) (other : TypeId) → n < length ids
    → drop n ids ≡ get_or ids n other ∷ drop (n + 1) ids
from_place ids n other within =
    let next : suc n ≡ n + 1 = omega arith in
    drop-cons ids n other within ∙ ap (λ k. get_or ids n other ∷ drop k ids) next
