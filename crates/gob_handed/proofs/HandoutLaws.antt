-- What is handed out of an item.
use Rattle.std.proofs.Common.{◌≡◌, ℕ, arith, List, [], ◌∷◌, ◌++◌, length, map, take, ap, sym, subst, refl, ◌∙◌}
use Rattle.std.proofs.Common.{append_assoc, append-nil}
use Rattle.std.proofs.Math.Seq.{take-append_seam}
use Rattle.gob_types.specs.Table.{Table}
use Rattle.gob_types.specs.declared.id.TypeId.{TypeId}
use Rattle.gob_value.specs.Tree.{Tree}
use Rattle.gob_value.specs.Top.{SpellsTop}
use Rattle.gob_value.specs.declared.value.Value.{Value}
use Rattle.gob_tape.specs.Flat.{Flat}
use Rattle.gob_tape.specs.FlatNodes.{flat}
use Rattle.gob_tape.specs.Meaning.{Means}
use Rattle.gob_stream.specs.Item.{StreamItem, ItemMeans, means_definition, means_value}
use Rattle.gob_stream.specs.Reading.{Given}
use Rattle.gob_stream.specs.declared.item.Item as strict
use Rattle.gob_stream.specs.declared.item.Item.TheVariants as item
use Rattle.gob_filled.specs.Filled as spelled
use Rattle.gob_filled.specs.Filled.{no_filling}
use Rattle.gob_filled.specs.Stream.{FilledItem, putting}
use Rattle.gob_go.specs.Meaning as go
use Rattle.gob_go.specs.Meaning.{IsFilled, is_filled, AreFillings, no_fillings}
use Rattle.gob_go.specs.declared.filled.Filled.{Filled, out-Filled}
use Rattle.gob_go.specs.declared.filled.Filling.{Filling}
use Rattle.gob_go.specs.declared.item.GoItem.{GoItem}
use Rattle.gob_go.specs.declared.item.GoItem.TheVariants as given
use Rattle.gob_handed.specs.Handed.{content_bytes, content_kind, content_nodes}
use Rattle.gob_go.specs.Ids.{inner_ids}
use Rattle.gob_handed.specs.Machine.Putting.{Extends}
use Rattle.gob_handed.specs.Unfolded.{AreGoHandouts, AreHandouts, definition_handouts, handout, of_definition}
use Rattle.gob_handed.specs.Unfolded.{of_go_definition, of_go_value, of_value}
use Rattle.gob_handed.specs.ValueNodes.{AreNodesOf, behind, puts_none, puts_value}
use Rattle.gob_handed.specs.declared.handout.Content.{Content}
use Rattle.gob_handed.specs.declared.handout.Content.TheVariants as content
use Rattle.gob_handed.specs.declared.handout.Handout.{Handout}
use Rattle.gob_handed.specs.declared.handout.Span.{Span}
use Rattle.gob_handed.proofs.EverLaws.{all_as_they_were}

-- ---- of the documented format
pub defined : (means : Flat → Tree → Type 0) {it : strict.Item Flat} {id : TypeId} {described : Value} {span : Span}
    {old new : List Handout}
    → it ≡ item.Define id described → new ≡ old ++ handout id span content.Definition ∷ []
    → Given old new (λ us. (i : StreamItem) → ItemMeans means it i → AreHandouts means i span us)
defined means {id = id} {described = described} {span = span} is e = record {
  given = handout id span content.Definition ∷ [];
  appended = e;
  holds = λ i m. by (subst (λ g. ItemMeans means g i) is m);
}
  where
    by : {i : StreamItem} → ItemMeans means (item.Define id described) i
        → AreHandouts means i span (handout id span content.Definition ∷ [])
    by means_definition = of_definition

pub valued : (means : Flat → Tree → Type 0) {it : strict.Item Flat} {id : TypeId} {tape : Flat} {span : Span}
    {old new : List Handout}
    → it ≡ item.Put id tape → new ≡ old ++ handout id span (content.Tape tape) ∷ []
    → Given old new (λ us. (i : StreamItem) → ItemMeans means it i → AreHandouts means i span us)
valued means {id = id} {tape = tape} {span = span} is e = record {
  given = handout id span (content.Tape tape) ∷ [];
  appended = e;
  holds = λ i m. by (subst (λ g. ItemMeans means g i) is m);
}
  where
    by : {i : StreamItem} → ItemMeans means (item.Put id tape) i
        → AreHandouts means i span (handout id span (content.Tape tape) ∷ [])
    by (means_value m) = of_value m

-- ---- of what Go's encoder writes
pub go_defined : (T : Table) {it : GoItem} {id : TypeId} {described : Value} {span : Span} {old new : List Handout}
    → it ≡ given.Define id described → new ≡ old ++ handout id span content.Definition ∷ []
    → Given old new (λ us. (i : FilledItem) → go.ItemMeans T it i → AreGoHandouts T i span us)
go_defined T {id = id} {described = described} {span = span} is e = record {
  given = handout id span content.Definition ∷ [];
  appended = e;
  holds = λ i m. by (subst (λ g. go.ItemMeans T g i) is m);
}
  where
    by : {i : FilledItem} → go.ItemMeans T (given.Define id described) i
        → AreGoHandouts T i span (handout id span content.Definition ∷ [])
    by go.means_definition = of_go_definition

pub go_valued : (T : Table) {it : GoItem} {id : TypeId} {kept : Filled} {span : Span} {old new : List Handout}
    → it ≡ given.Put id kept
    → Given old new (λ us. (w : spelled.Filled) → IsFilled T id kept w → AreGoHandouts T (putting id w) span us)
    → Given old new (λ us. (i : FilledItem) → go.ItemMeans T it i → AreGoHandouts T i span us)
go_valued T {id = id} {kept = kept} {span = span} is g = record {
  given = g.given;
  appended = g.appended;
  holds = λ i m. by (subst (λ x. go.ItemMeans T x i) is m);
}
  where
    by : {i : FilledItem} → go.ItemMeans T (given.Put id kept) i → AreGoHandouts T i span g.given
    by (go.means_value {w = w} f) = g.holds w f

-- a value behind the definitions that stand in it
pub put_so : (T : Table) {id : TypeId} {kept : Filled} {span : Span} (c : Content) {ids : List TypeId}
    {old mid new : List Handout} → mid ≡ old ++ definition_handouts span ids → new ≡ mid ++ handout id span c ∷ []
    → ((w : spelled.Filled) → IsFilled T id kept w → ids ≡ inner_ids w) → content_kind c ≡ 2
    → ((w : spelled.Filled) → IsFilled T id kept w → AreNodesOf T id w (content_nodes T id c) (content_bytes T id c))
    → Given old new (λ us. (w : spelled.Filled) → IsFilled T id kept w → AreGoHandouts T (putting id w) span us)
put_so T {id = id} {span = span} c {ids = ids} {old = old} m n are two nodes = record {
  given = definition_handouts span ids ++ handout id span c ∷ [];
  appended = n ∙ ap (λ (l : List Handout). l ++ handout id span c ∷ []) m
      ∙ append_assoc old (definition_handouts span ids) (handout id span c ∷ []);
  holds = λ w f. subst (λ (l : List TypeId). AreGoHandouts T (putting id w) span
      (definition_handouts span l ++ handout id span c ∷ [])) (sym (are w f)) (of_go_value c two (nodes w f));
}

-- what is kept without fillings stands for a value that holds nothing
pub record Unfilled (T : Table) (id : TypeId) (kept : Filled) (w : spelled.Filled) : Type 0 where
  pub value : Tree
  pub spells : SpellsTop T id value (out-Filled kept).skeleton.items
  pub is : w ≡ spelled.filled value no_filling

pub unfilled : {T : Table} {id : TypeId} {kept : Filled} {fillings : List Filling} {w : spelled.Filled}
    → fillings ≡ (out-Filled kept).fillings.items → length fillings ≡ 0 → IsFilled T id kept w → Unfilled T id kept w
unfilled {T = T} {fillings = fillings} is none (is_filled {v = v} {fs = fs} s a) = record {
  value = v;
  spells = s;
  is = ap (λ f. spelled.filled v f)
      (none_left fillings fs none (subst (λ (l : List Filling). AreFillings T l fs) (sym is) a));
}
  where
    none_left : (l : List Filling) (gs : spelled.Fillings) → length l ≡ 0 → AreFillings T l gs → gs ≡ no_filling
    none_left [] gs e no_fillings = refl
    none_left (f ∷ l) gs e b = absurd (omega (arith, e))

-- the nodes of a value that holds nothing
pub tape_so : (T : Table) {id : TypeId} {kept : Filled} {tape : Flat} {fillings : List Filling}
    → fillings ≡ (out-Filled kept).fillings.items → length fillings ≡ 0
    → ((v : Tree) → SpellsTop T id v (out-Filled kept).skeleton.items → Means tape v) → (w : spelled.Filled)
    → IsFilled T id kept w → AreNodesOf T id w (map flat tape.nodes) tape.pool
tape_so T {id = id} {tape = tape} is none means w f =
    let u = unfilled is none f in
    let put : AreNodesOf T id (spelled.filled u.value no_filling) (map (behind 0) (map flat tape.nodes)) tape.pool =
    puts_value u.spells (means u.value u.spells) puts_none in
    subst (λ x. AreNodesOf T id x (map flat tape.nodes) tape.pool) (sym u.is)
    (subst (λ l. AreNodesOf T id (spelled.filled u.value no_filling) l tape.pool)
    (all_as_they_were (map flat tape.nodes)) put)

-- ---- what was appended
pub extends_none : {A : Type 0} (l : List A) → Extends l l
extends_none l = record { more = []; is = sym (append-nil l) }

pub extends_on : {A : Type 0} {a b c : List A} → Extends a b → Extends b c → Extends a c
extends_on {a = a} p q = record {
  more = p.more ++ q.more;
  is = q.is ∙ ap (λ l. l ++ q.more) p.is ∙ append_assoc a p.more q.more;
}

pub cut_back : {A : Type 0} {a b c : List A} {n : ℕ} → Extends a b → n ≡ length a → c ≡ take n b → c ≡ a
cut_back {a = a} {b = b} p n is =
    is ∙ ap (λ k. take k b) n ∙ ap (λ l. take (length a) l) p.is ∙ take-append_seam a p.more
