-- What writing an item leaves of a writer, and what it answers.
use Rattle.std.proofs.Common.{◌≡◌, ℕ, inl, inr, List, [], ◌++◌, length, take, Some, Result, Ok, Err, sym}
use Rattle.std.proofs.Common.{true, false, ap, subst, ◌∙◌, arith, take_all, refl}
use Rattle.std.proofs.lemmas.List.{take-append-le}
use Rattle.std.specs.Prelude.{IsErr, IsErrAnd}
use Rattle.std.specs.Result.{is_err}
use Rattle.gob_num.specs.Unsigned.{AreBytes}
use Rattle.gob_types.specs.Base.{base_table}
use Rattle.gob_types.specs.Definable.{IsDefinable}
use Rattle.gob_types.specs.Table.{Table}
use Rattle.gob_types.specs.declared.id.TypeId.{TypeId}
use Rattle.gob_types.specs.declared.kind.Shape.{Shape}
use Rattle.gob_types.specs.declared.reason.Reason.TheVariants as reason
use Rattle.gob_value.specs.Described.{described}
use Rattle.gob_stream.specs.Bounds.{Bounds}
use Rattle.gob_stream.specs.WriterRefusal.{RefusesType}
use Rattle.gob_stream.specs.declared.fault.WriteFault.{WriteFault}
use Rattle.gob_stream.specs.declared.fault.WriteFault.TheVariants as writing
use Rattle.gob_tape.specs.declared.flat.FlatNode.{FlatNode}
use Rattle.gob_filled.specs.Filled.{SpellsFilled}
use Rattle.gob_filled.specs.Stream.{FilledItem, defining, putting}
use Rattle.gob_filled_writer.specs.Writing.{WriteAnswers, WroteItem}
use Rattle.gob_go.specs.Whole.{IsFilledWhole}
use Rattle.gob_nodes.specs.Calls.{PutsValue}
use Rattle.gob_nodes.specs.Nodes.{IsWrong}
use Rattle.gob_nodes.specs.Says.{SaysValue}
use Rattle.gob_nodes.specs.Shapes.{SaysShape}
use Rattle.gob_nodes.specs.declared.fault.NodesFault.{NodesFault}
use Rattle.gob_nodes.specs.declared.fault.NodesFault.TheVariants as given
use Rattle.gob_item_writer.specs.Faults.{of_nodes, of_writing}
use Rattle.gob_item_writer.specs.Writing.{DefineAnswers, IsAsBefore, IsOfType, LacksMemory, PutAnswers, WritesItem}
use Rattle.gob_item_writer.specs.Writing.{StaysFailed, WritesNothing}
use Rattle.gob_item_writer.specs.Writing.{SaysTooMuch, WroteNext, WroteValue, limits_of, long_bytes, long_names}
use Rattle.gob_item_writer.specs.Writing.{refused_shape, refused_value, waiting, wrong_type}
use Rattle.gob_item_writer.specs.declared.fault.ItemFault.{ItemFault}
use Rattle.gob_item_writer.specs.declared.writer.ItemWriter.{ItemWriter}

-- what stands behind what waited is left out
cut : (old new more : List ℕ) → new ≡ old ++ more → take (length old) new ≡ old
cut old new more e = ap (λ (b : List ℕ). take (length old) b) e ∙ take-append-le (length old) old more (omega arith)
    ∙ take_all (length old) old (omega arith)

whole : (old new : List ℕ) → new ≡ old → take (length old) new ≡ old
whole old new e = ap (λ (b : List ℕ). take (length old) b) e ∙ take_all (length old) old (omega arith)

-- where the item isn't written, what stands behind what waited is left out
pub item_refused : (w w' : ItemWriter) (items : List FilledItem) (bytes : List ℕ) (T : Table) (i : FilledItem)
    (new : List ℕ) (f : WriteFault) → w'.limits ≡ w.limits → waiting w' ≡ take (length (waiting w)) new
    → WriteAnswers (limits_of w) w.stream w'.stream items bytes T i (Some (waiting w)) (Some new) (Err f)
    → WritesItem w w' items bytes T i (Err f)
item_refused w w' items bytes T i new (writing.Refused r) kept left (refused, rest) =
    (refused, record { stream = rest.0; limits = kept; waits = left ∙ whole (waiting w) new rest.1 })
item_refused w w' items bytes T i new writing.Write kept left (wrote, failed) =
    record { waits = left ∙ cut (waiting w) new wrote.prefix wrote.out; state = inr failed }
item_refused w w' items bytes T i new writing.Memory kept left (same, out) =
    record { waits = left ∙ whole (waiting w) new out; state = inl same }
item_refused w w' items bytes T i new writing.Failed kept left wrote = absurd wrote

-- whatever answer it is that isn't a success
pub item_cut : (w w' : ItemWriter) (items : List FilledItem) (bytes : List ℕ) (T : Table) (i : FilledItem)
    (old new : List ℕ) (n : ℕ) (r : Result (Unit {0}) WriteFault) → is_err r ≡ true → w'.limits ≡ w.limits
    → old ≡ waiting w → n ≡ length (waiting w) → waiting w' ≡ take n new
    → WriteAnswers (limits_of w) w.stream w'.stream items bytes T i (Some old) (Some new) r
    → WritesItem w w' items bytes T i r
item_cut w w' items bytes T i old new n (Ok u) failed kept was count left wrote = cc
item_cut w w' items bytes T i old new n (Err f) failed kept was count left wrote =
    item_refused w w' items bytes T i new f kept (left ∙ ap (λ (m : ℕ). take m new) count)
    (subst (λ (b : List ℕ). WriteAnswers (limits_of w) w.stream w'.stream items bytes T i (Some b) (Some new) (Err f))
    was wrote)

-- where it is written, it waits
pub item_kept : (w w' : ItemWriter) (items : List FilledItem) (bytes : List ℕ) (T : Table) (i : FilledItem)
    (old new : List ℕ) (r : Result (Unit {0}) WriteFault) → is_err r ≡ false → w'.limits ≡ w.limits → old ≡ waiting w
    → new ≡ waiting w' → WriteAnswers (limits_of w) w.stream w'.stream items bytes T i (Some old) (Some new) r
    → WritesItem w w' items bytes T i r
item_kept w w' items bytes T i old new (Err f) sound kept was is wrote = cc
item_kept w w' items bytes T i old new (Ok u) sound kept was is wrote = record {
  item = subst (λ (b : List ℕ). WroteItem (limits_of w) w.stream w'.stream items bytes T i (Some b)
      (Some (waiting w'))) was
      (subst (λ (b : List ℕ). WroteItem (limits_of w) w.stream w'.stream items bytes T i (Some old) (Some b)) is wrote);
  limits = kept;
}

-- ---- by a writer that writes no more

pub writes_nothing : (w w' : ItemWriter) (old new out : List ℕ) (n : ℕ) (r : Result (Unit {0}) WriteFault)
    → r ≡ Err writing.Failed → w'.stream ≡ w.stream → w'.limits ≡ w.limits → old ≡ waiting w → new ≡ old → out ≡ new
    → n ≡ length (waiting w) → waiting w' ≡ take n out → WritesNothing w w' r
writes_nothing w w' old new out n r failed same kept was is into count left =
    let there : out ≡ waiting w = into ∙ is ∙ was in
    record {
      failed = failed;
      same = record {
        stream = same;
        limits = kept;
        waits = left ∙ ap (λ (m : ℕ). take m out) count ∙ whole (waiting w) out there;
      };
    }

pub not_failed : (r : Result (Unit {0}) WriteFault) (P : Type 0) → is_err r ≡ false → r ≡ Err writing.Failed → P
not_failed (Ok u) P sound is = cc
not_failed (Err f) P sound is = cc

-- and so no item is answered
pub item_fails : (w w' : ItemWriter) (f : WriteFault) (answer : Result (Unit {0}) ItemFault) → IsErr answer
    → WritesNothing w w' (Err f) → StaysFailed w w' answer
item_fails w w' f answer err none = record { failed = err; same = none.same }

pub no_item : (w w' : ItemWriter) (u : Unit {0}) (P : Type 0) → WritesNothing w w' (Ok u) → P
no_item w w' u P none = let impossible = none.failed in cc

pub stays_so : (w : ItemWriter) (answer : Result (Unit {0}) ItemFault) → IsErr answer → StaysFailed w w answer
stays_so w answer err = record { failed = err; same = record { stream = refl; limits = refl; waits = refl } }

-- ---- as what an item is answered

pub shape_put : (w w' : ItemWriter) (items : List FilledItem) (bytes : List ℕ) (T : Table) (id : TypeId)
    (nodes : List FlatNode) (pool : List ℕ) (s : Shape) (f : WriteFault) → SaysShape pool nodes s
    → WritesItem w w' items bytes T (defining id (described id s)) (Err f)
    → DefineAnswers w w' items bytes T id nodes pool (Err (of_writing f))
shape_put w w' items bytes T id nodes pool s (writing.Refused r) says (refused, same) = refused_shape s says refused
    same
shape_put w w' items bytes T id nodes pool s writing.Write says lacks = lacks
shape_put w w' items bytes T id nodes pool s writing.Memory says lacks = lacks
shape_put w w' items bytes T id nodes pool s writing.Failed says none = absurd none

-- the bytes are those that the nodes say, and are a value
pub record SaysWhole (T : Table) (nodes : List FlatNode) (pool : List ℕ) (id : TypeId) (limit : ℕ) (body : List ℕ)
    : Type 0 where
  pub says : SaysValue T nodes pool id limit body
  pub filled : IsFilledWhole T id limit body

-- that were put into an empty vector
pub says_whole : (T U : Table) (nodes : List FlatNode) (pool : List ℕ) (id : TypeId) (limit depth : ℕ)
    (start end body : List ℕ) → U ≡ T → depth ≡ limit → start ≡ [] → body ≡ end
    → PutsValue (SaysValue U nodes pool id depth) start end
    → PutsValue (λ b. AreBytes b → IsFilledWhole U id depth b) start end → AreBytes body
    → SaysWhole T nodes pool id limit body
says_whole T U nodes pool id limit depth start end body table deep empty same says whole are =
    let said : says.bytes ≡ body = sym (same ∙ says.appended ∙ ap (λ (b : List ℕ). b ++ says.bytes) empty) in
    let spelled : whole.bytes ≡ body = sym (same ∙ whole.appended ∙ ap (λ (b : List ℕ). b ++ whole.bytes) empty) in
    record {
      says = subst (λ (b : List ℕ). SaysValue T nodes pool id limit b) said
          (subst (λ (n : ℕ). SaysValue T nodes pool id n says.bytes) deep
          (subst (λ (V : Table). SaysValue V nodes pool id depth says.bytes) table says.says));
      filled = subst (λ (b : List ℕ). IsFilledWhole T id limit b) spelled
          (subst (λ (n : ℕ). IsFilledWhole T id n whole.bytes) deep
          (subst (λ (V : Table). IsFilledWhole V id depth whole.bytes) table
          (whole.says (subst AreBytes (sym spelled) are))));
    }

-- they spell this under any limits
pub spells : {T : Table} {nodes : List FlatNode} {pool : List ℕ} {id : TypeId} {limit : ℕ} {body : List ℕ} (L : Bounds)
    → (s : SaysWhole T nodes pool id limit body) → SpellsFilled base_table L T id limit s.filled.value body T
spells L s = s.filled.spelled base_table L

pub value_put : (w w' : ItemWriter) (items : List FilledItem) (bytes : List ℕ) (T : Table) (id : TypeId)
    (nodes : List FlatNode) (pool body : List ℕ) (f : WriteFault)
    → (s : SaysWhole T nodes pool id (limits_of w).depth body)
    → WritesItem w w' items bytes T (putting id s.filled.value) (Err f)
    → PutAnswers w w' items bytes T id nodes pool (Err (of_writing f))
value_put w w' items bytes T id nodes pool body (writing.Refused r) s (refused, same) =
    refused_value body s.filled.value s.says (spells (limits_of w) s) refused same
value_put w w' items bytes T id nodes pool body writing.Write s lacks = lacks
value_put w w' items bytes T id nodes pool body writing.Memory s lacks = lacks
value_put w w' items bytes T id nodes pool body writing.Failed s none = absurd none

pub value_written : (w w' : ItemWriter) (items : List FilledItem) (bytes : List ℕ) (T : Table) (id : TypeId)
    (nodes : List FlatNode) (pool body : List ℕ) (s : SaysWhole T nodes pool id (limits_of w).depth body)
    → WroteNext w w' items bytes T (putting id s.filled.value) → WroteValue w w' items bytes T id nodes pool
value_written w w' items bytes T id nodes pool body s wrote = record {
  body = body;
  says = s.says;
  value = s.filled.value;
  spelled = spells (limits_of w) s;
  wrote = wrote;
}

pub as_it_was : (w : ItemWriter) → IsAsBefore w w
as_it_was w = record { stream = refl; limits = refl; waits = refl }

pub lacks_as_it_was : (w : ItemWriter) → LacksMemory w w
lacks_as_it_was w = record { waits = refl; state = inl refl }

-- values of the type may not come
pub type_refused : (w : ItemWriter) (items : List FilledItem) (bytes : List ℕ) (T U : Table) (id : TypeId)
    (nodes : List FlatNode) (pool : List ℕ) (f : WriteFault) → U ≡ T → IsOfType U id f
    → PutAnswers w w items bytes T id nodes pool (Err (of_writing f))
type_refused w items bytes T U id nodes pool (writing.Refused r) same h =
    wrong_type (subst (λ (V : Table). RefusesType V id r) same h) (as_it_was w)
type_refused w items bytes T U id nodes pool writing.Memory same h = lacks_as_it_was w
type_refused w items bytes T U id nodes pool writing.Write same h = absurd h
type_refused w items bytes T U id nodes pool writing.Failed same h = absurd h

-- the nodes say no value
pub nodes_refused : (w : ItemWriter) (items : List FilledItem) (bytes : List ℕ) (T U : Table) (id : TypeId) (depth : ℕ)
    (nodes : List FlatNode) (pool : List ℕ) (f : NodesFault) → U ≡ T → depth ≡ (limits_of w).depth
    → ((b : List ℕ) → SaysValue U nodes pool id depth b → ¬ IsWrong f)
    → PutAnswers w w items bytes T id nodes pool (Err (of_nodes f))
nodes_refused w items bytes T U id depth nodes pool (given.Wrong node) table deep none = (
  λ b says.
      none b (subst (λ (n : ℕ). SaysValue U nodes pool id n b) (sym deep)
      (subst (λ (V : Table). SaysValue V nodes pool id (limits_of w).depth b) (sym table) says)) tt,
  as_it_was w,
)
nodes_refused w items bytes T U id depth nodes pool given.Memory table deep none = lacks_as_it_was w

pub shape_refused : (w : ItemWriter) (items : List FilledItem) (bytes : List ℕ) (T : Table) (id : TypeId)
    (nodes : List FlatNode) (pool : List ℕ) (f : NodesFault)
    → (IsWrong f → (s : Shape) → SaysShape pool nodes s → ¬ IsDefinable s)
    → DefineAnswers w w items bytes T id nodes pool (Err (of_nodes f))
shape_refused w items bytes T id nodes pool (given.Wrong node) none = (none tt, as_it_was w)
shape_refused w items bytes T id nodes pool given.Memory none = lacks_as_it_was w

-- they say too many bytes
pub names_too_long : (w : ItemWriter) (items : List FilledItem) (bytes : List ℕ) (T : Table) (id : TypeId)
    (nodes : List FlatNode) (pool : List ℕ) (f : WriteFault) → f ≡ writing.Refused reason.ItemTooLong
    → SaysTooMuch w true nodes → DefineAnswers w w items bytes T id nodes pool (Err (of_writing f))
names_too_long w items bytes T id nodes pool f is much =
    subst (λ g. DefineAnswers w w items bytes T id nodes pool (Err (of_writing g))) (sym is)
    (long_names refl much (as_it_was w))

pub bytes_too_long : (w : ItemWriter) (items : List FilledItem) (bytes : List ℕ) (T : Table) (id : TypeId)
    (nodes : List FlatNode) (pool : List ℕ) (f : WriteFault) → f ≡ writing.Refused reason.ItemTooLong
    → SaysTooMuch w false nodes → PutAnswers w w items bytes T id nodes pool (Err (of_writing f))
bytes_too_long w items bytes T id nodes pool f is much =
    subst (λ g. PutAnswers w w items bytes T id nodes pool (Err (of_writing g))) (sym is)
    (long_bytes refl much (as_it_was w))

-- the answer is this one
pub answers_so : {F : Type 0} (P : Result (Unit {0}) F → Type 0) (r : Result (Unit {0}) F) (f : F)
    → IsErrAnd r (λ x. x ≡ f) → P (Err f) → P r
answers_so P (Ok u) f is h = absurd is
answers_so P (Err x) f is h = subst (λ y. P (Err y)) (sym is) h
