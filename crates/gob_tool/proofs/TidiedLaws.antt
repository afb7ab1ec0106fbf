-- What is made of an item of a stream is its tidy form.
use Rattle.std.proofs.Common.{◌≡◌, ℕ, ℤ, pos, negsuc, ◌+◌, ◌<◌, ◌≤◌, ◌^◌, arith, List, [], ◌∷◌, ◌++◌, ◌∙◌, ap, sym}
use Rattle.std.proofs.Common.{subst, refl, length, length-append, Option, Some, None}
use Rattle.std.proofs.Common.{Result, Ok, Err, OnOk, OnErr, IfErr}
use Rattle.std.specs.Io.KnownBytes as known
use Rattle.std.specs.Result.{IsErrAnd}
use Rattle.std.proofs.lemmas.Int.{ints}
use Rattle.gob_num.specs.Signed.{IsSigned}
use Rattle.gob_num.specs.Spelled.{Appends}
use Rattle.gob_num.specs.Unsigned.{IsUnsigned}
use Rattle.gob_num.proofs.PublicLaws.{signed_fits, signed_unique}
use Rattle.gob_types.specs.declared.id.TypeId.{TypeId}
use Rattle.gob_types.specs.declared.kind.Shape.{Shape}
use Rattle.gob_types.specs.Base.{base_table, wire_type}
use Rattle.gob_types.specs.Defined.{Defined, types}
use Rattle.gob_types.specs.Table.{Table}
use Rattle.gob_types.proofs.PublicLaws.{Keeps}
use Rattle.gob_value.specs.declared.value.Value.{Value}
use Rattle.gob_value.specs.Fits.{Fits}
use Rattle.gob_value.specs.Spelling.{Spells}
use Rattle.gob_value.specs.Tidy.{Tidies}
use Rattle.gob_value.specs.Top.{HasStructs, IsStruct, SpellsTop, at_once, tagged}
use Rattle.gob_value.specs.Tree.{Tree, depth}
use Rattle.gob_value.specs.View.{view}
use Rattle.gob_value.specs.Whole.{IsTidyWhole}
use Rattle.gob_value.specs.Within.{FitsWithin}
use Rattle.gob_value.proofs.PublicLaws.{spells_on, tidy_form}
use Rattle.gob_stream.specs.Body.{definition, value}
use Rattle.gob_stream.specs.Bounds.{Bounds, deepest, greatest_depth, no_deeper}
use Rattle.gob_stream.specs.Calls.Reader.{StreamReader, session_of, waits_in}
use Rattle.gob_stream.specs.Calls.Session.{HasBodyNext, IsBetweenItems, limits_of, table_of}
use Rattle.gob_stream.specs.Calls.Writing.{SentPrefix}
use Rattle.gob_stream.specs.Item.{StreamItem, defines, puts, ItemMeans, means_definition, means_value}
use Rattle.gob_stream.specs.Stream.{IsItem, counted}
use Rattle.gob_stream.specs.StrictStepping.{strict_stepping}
use Rattle.gob_stream.specs.declared.fault.WriteFault.{WriteFault}
use Rattle.gob_stream.specs.declared.fault.WriteFault.TheVariants as write
use Rattle.gob_stream.specs.declared.item.Item as declared
use Rattle.gob_stream.specs.declared.item.Item.TheVariants as variant
use Rattle.gob_tape.specs.Calls.Builder.{tape_building}
use Rattle.gob_tape.specs.Meaning.{Means, MeansFitting}
use Rattle.gob_tape.specs.declared.tape.Tape.{Tape}
use Rattle.gob_tape.specs.declared.tape_builder.TapeBuilder.{TapeBuilder}
use Rattle.gob_tidy.specs.TidiedWhole.{TidiesWhole}
use Rattle.gob_tool.specs.Machine.Rewritten.{IsHead, IsLastOfStream, IsNumbered, IsTidyItem, IsTidyText}
use Rattle.gob_tool.specs.Machine.Rewritten.{spells_definition}
use Rattle.gob_tool.specs.Machine.Rewritten.{SendsNumbered, SendsTidy, is_tidy_of_value, spells_value}
use Rattle.gob_tool.specs.Sending.{Sends}
use Rattle.gob_tool.specs.Texts.{IsGiven, IsWholeText, of_unfilled}
use Rattle.gob_tool.proofs.LinesStay.{body_keeps, stream_keeps}
use Rattle.gob_tool.proofs.RewriteLaws.{is_last}
use Rattle.gob_tool.proofs.ShowLaws.{next_whole}
use Rattle.gob_tool.proofs.TidyStays.{description_depth}

-- ---- what stands before the content of an item
pub head_made : {number : ℤ} {count : ℕ} {content old first none counted head : List ℕ} → old ≡ []
    → Appends (IsSigned number) old first → count ≡ length first + length content → none ≡ []
    → Appends (IsUnsigned count) none counted → Appends (IsSigned number) counted head → IsHead number content head
head_made {content = content} empty a size clear u b =
    let name : a.bytes ≡ b.bytes = signed_unique a.spelled b.spelled in
    let first = a.appended ∙ ap (λ (l : List ℕ). l ++ a.bytes) empty in
    record {
      count = u.bytes;
      name = b.bytes;
      counts = subst (λ (n : ℕ). IsUnsigned n u.bytes)
          (omega (arith, size, ap length first, ap length name, length-append b.bytes content)) u.spelled;
      names = b.spelled;
      whole = b.appended ∙ ap (λ (l : List ℕ). l ++ b.bytes) (u.appended ∙ ap (λ (l : List ℕ). l ++ u.bytes) clear);
    }

-- the content, by its tag
pub struct_spelled : {T : Table} {id : TypeId} {v : Tree} {content out bytes : List ℕ} {tape : Tape}
    → HasStructs T id → content ≡ []
    → ((T : Table) (t : TypeId) (v : Tree) (b : List ℕ) → Means tape v → Spells T t v b → out ≡ content ++ b)
    → Means tape v → SpellsTop T id v bytes → out ≡ bytes
struct_spelled {T = T} {id = id} {v = v} h empty spells m (at_once {b = b} e s p) =
    spells T id v b m p ∙ ap (λ (l : List ℕ). l ++ b) empty
struct_spelled {T = T} h empty spells m (tagged {s = r} e s p) =
    let shape = h.shape in
    let found = h.found in
    let same : shape ≡ r = cc in
    absurd (s (subst (λ (x : Shape). IsStruct x.kind) same h.struct))

pub tagged_spelled : {T : Table} {id : TypeId} {v : Tree} {content out bytes : List ℕ} {tape : Tape}
    → ¬ HasStructs T id → content ≡ 0 ∷ []
    → ((T : Table) (t : TypeId) (v : Tree) (b : List ℕ) → Means tape v → Spells T t v b → out ≡ content ++ b)
    → Means tape v → SpellsTop T id v bytes → out ≡ bytes
tagged_spelled none tag spells m (at_once {s = r} e s p) =
    absurd (none (record { shape = r; found = e; struct = s }))
tagged_spelled {T = T} {id = id} {v = v} none tag spells m (tagged {b = b} e s p) =
    spells T id v b m p ∙ ap (λ (l : List ℕ). l ++ b) tag

-- ---- what was handed out
pub record Given (T : Table) (given : declared.Item Tape) : Type 0 where
  pub item : StreamItem
  pub means : ItemMeans tape_building.means given item
  pub last : IsLastOfStream T item

pub given_last : {T : Table} {given : declared.Item Tape} → IsGiven (strict_stepping tape_building) T given
    → Given T given
given_last g = record {
  item = g.item;
  means = g.means;
  last = subst (λ (T : Table). IsLastOfStream T g.item) g.types (is_last g.items g.read.stream);
}

pub definition_meant : {g : declared.Item Tape} {i : StreamItem} {id : TypeId} {d : Value}
    → ItemMeans tape_building.means g i → g ≡ variant.Define id d → defines id (view d) ≡ i
definition_meant means_definition e = cc
definition_meant (means_value m) e = absurd (cc e)

pub record IsOfValue (tape : Tape) (id : TypeId) (i : StreamItem) : Type 0 where
  pub value : Tree
  pub means : Means tape value
  pub same : puts id value ≡ i

pub value_meant : {g : declared.Item Tape} {i : StreamItem} {id : TypeId} {tape : Tape}
    → ItemMeans tape_building.means g i → g ≡ variant.Put id tape → IsOfValue tape id i
value_meant means_definition e = absurd (cc e)
value_meant (means_value {id = t} {out = out} {v = v} m) e =
    let tapes : out ≡ _ = cc in
    let ids : t ≡ _ = cc in
    record {
      value = v;
      means = subst (λ (x : Tape). Means x v) tapes m;
      same = ap (λ (t : TypeId). puts t v) (sym ids);
    }

-- ---- a definition
-- it has a type's own id, below which a number stands for it, and a description that is no deeper than trees
pub record IsDescribed (T : Table) (id : TypeId) (v : Tree) : Type 0 where
  pub small : id.0 < 2 ^ 63
  pub below : ℕ
  pub id_is : id.0 ≡ below + 1
  pub fits : Fits T wire_type v
  pub shallow : depth v ≤ greatest_depth

pub described_last : {T : Table} {id : TypeId} {v : Tree} → IsLastOfStream T (defines id v) → IsDescribed T id v
described_last {id = id} {v = v} s = by (stream_keeps s.earlier) s.counted
  where
    by : {L : Bounds} {T U : Table} {offset : ℕ} {b : List ℕ} → Keeps base_table T
        → IsItem base_table L T offset (defines id v) b U → IsDescribed U id v
    by base (counted u l s (definition {n = n} {b = b} may deep describes e names spelled)) =
        let flat = description_depth base spelled in
        let own = may.own in
        record {
          small = omega (arith, own);
          below = n;
          id_is = e;
          fits = record {
            bytes = b;
            spelled = spells_on (body_keeps (definition may deep describes e names spelled)) spelled;
          };
          shallow = omega (arith, flat);
        }

pub form_shallow : {T : Table} {t : TypeId} {limit : ℕ} {w : Tree} → limit ≤ greatest_depth → FitsWithin T t limit w
    → FitsWithin T t greatest_depth w
form_shallow less f = record { bytes = f.bytes; spelled = f.spelled; within = omega (arith, f.within, less) }

pub numbered_as : {m n : ℤ} {b c text : List ℕ} → m ≡ n → c ≡ b → IsNumbered m c text → IsNumbered n b text
numbered_as {m = m} {b = b} {text = text} same is h = subst (λ (n : ℤ). IsNumbered n b text) same
    (subst (λ (c : List ℕ). IsNumbered m c text) is h)

pub tidy_definition : {T : Table} {id : TypeId} {v w : Tree} {b c text : List ℕ} (number : ℤ) (d : IsDescribed T id v)
    → number ≡ negsuc d.below → Tidies T wire_type v w → Spells T wire_type w b → c ≡ b → IsNumbered number c text
    → IsTidyItem T (defines id v) text
tidy_definition {w = w} number d same p spells is h =
    record { form = w; tidies = p; spelled = spells_definition d.id_is spells (numbered_as same is h) }

-- ---- a value
pub record IsSent (T : Table) (id : TypeId) (v : Tree) : Type 0 where
  pub small : id.0 < 2 ^ 63
  pub bytes : List ℕ
  pub spelled : SpellsTop T id v bytes

pub number_small : {n : ℕ} {b : List ℕ} → IsSigned (pos n) b → n < 2 ^ 63
number_small s = let f = signed_fits s in omega (arith, ints, f)

pub value_last : {T : Table} {id : TypeId} {v : Tree} → IsLastOfStream T (puts id v) → IsSent T id v
value_last {id = id} {v = v} s = by s.counted
  where
    by : {L : Bounds} {T U : Table} {offset : ℕ} {b : List ℕ} → IsItem base_table L T offset (puts id v) b U
        → IsSent U id v
    by (counted u l s (value {b = b} may deep names spelled)) =
        record { small = number_small names; bytes = b; spelled = spelled }

pub top_fits : {T : Table} {t : TypeId} {v : Tree} {b : List ℕ} → SpellsTop T t v b → Fits T t v
top_fits (at_once e s p) = record { bytes = _; spelled = p }
top_fits (tagged e s p) = record { bytes = _; spelled = p }

pub tape_fits : {T : Table} {id : TypeId} {v : Tree} {tape : Tape} → Means tape v → IsSent T id v
    → MeansFitting T id tape
tape_fits {v = v} m s = record { value = v; means = m; fits = top_fits s.spelled }

-- the form that the tape means has a spelling behind its tag
pub record IsFormOf (T : Table) (id : TypeId) (v : Tree) (tidied : Tape) : Type 0 where
  pub form : Tree
  pub tidies : Tidies T id v form
  pub means : Means tidied form
  pub bytes : List ℕ
  pub spelled : SpellsTop T id form bytes

pub form_of : {T : Table} {id : TypeId} {v : Tree} {tape tidied : Tape} → Means tape v → IsSent T id v
    → ((v w : Tree) → Means tape v → Tidies T id v w → Means tidied w)
    → ((v w : Tree) → Means tape v → Means tidied w → FitsWithin T id (depth v) w) → IsFormOf T id v tidied
form_of {T = T} {id = id} {v = v} {tidied = tidied} m s makes fits = by s.spelled
  where
    by : {b : List ℕ} → SpellsTop T id v b → IsFormOf T id v tidied
    by (at_once e k p) =
        let f = tidy_form p in
        let means = makes v f.tidy m f.tidies in
        let fit = fits v f.tidy m means in
        record {
          form = f.tidy;
          tidies = f.tidies;
          means = means;
          bytes = fit.bytes;
          spelled = at_once e k fit.spelled;
        }
    by (tagged e k p) =
        let f = tidy_form p in
        let means = makes v f.tidy m f.tidies in
        let fit = fits v f.tidy m means in
        record {
          form = f.tidy;
          tidies = f.tidies;
          means = means;
          bytes = 0 ∷ fit.bytes;
          spelled = tagged e k fit.spelled;
        }

pub tidy_value : {T : Table} {id : TypeId} {v w : Tree} {b c text : List ℕ} (number : ℤ) → number ≡ pos id.0
    → Tidies T id v w → SpellsTop T id w b → c ≡ b → IsNumbered number c text → IsTidyItem T (puts id v) text
tidy_value {w = w} number same p spells is h =
    record { form = w; tidies = p; spelled = spells_value spells (numbered_as same is h) }

-- of bytes that stand whole
pub tidy_as_it_stands : {T : Table} {id : TypeId} {limit : ℕ} {body text : List ℕ} (number : ℤ) → number ≡ pos id.0
    → IsTidyWhole T id limit body → IsNumbered number body text → IsTidyText T id limit body text
tidy_as_it_stands number same w h = record {
  value = w.value;
  spelled = w.spelled;
  within = w.within;
  is = tidy_value number same w.tidied w.spelled refl h;
}

pub tidied_text : {T : Table} {id : TypeId} {limit : ℕ} {body tidied c text : List ℕ} (number : ℤ)
    → number ≡ pos id.0 → TidiesWhole T id limit body tidied → c ≡ tidied → IsNumbered number c text
    → IsTidyText T id limit body text
tidied_text number same w is h = record {
  value = w.value;
  spelled = w.spelled;
  within = w.within;
  is = tidy_value number same w.tidies w.form_spelled is h;
}

-- ---- an item that waits as a whole
pub waits_tidied : {r : StreamReader TapeBuilder Tape} {id : TypeId} {limit used : ℕ} {body text : List ℕ} (d : Defined)
    → limit ≡ (no_deeper deepest (limits_of (session_of r))).depth → d ≡ table_of (session_of r)
    → IsBetweenItems (session_of r) → HasBodyNext (session_of r) id body used (waits_in r)
    → IsTidyText (types d) id limit body text
    → IsWholeText (strict_stepping tape_building) is_tidy_of_value r used text
waits_tidied {r = r} {id = id} {limit = limit} {used = used} {body = body} {text = text} d deep table between next t =
    by (subst (λ (d : Defined). IsTidyText (types d) id limit body text) table t)
  where
    by : IsTidyText (types (table_of (session_of r))) id limit body text
        → IsWholeText (strict_stepping tape_building) is_tidy_of_value r used text
    by t = record {
      told = puts id t.value;
      item = next_whole (omega (arith, deep)) between next
          (record { value = t.value; spelled = t.spelled; within = t.within });
      is = of_unfilled t.is;
    }

-- ---- what was sent
pub sends_so : (old new : Option (List ℕ)) (text : List ℕ) (r : Result (Unit {0}) WriteFault)
    → OnOk r (known.Appends old new text) → OnErr r (SentPrefix text old new) → IfErr r (λ e. e ≡ write.Write)
    → Sends old new text r
sends_so old new text (Ok u) all prefix fault = all
sends_so old new text (Err e) all prefix fault = (fault, prefix)

pub sent_at : {old new : Option (List ℕ)} {text : List ℕ} (r : Result (Unit {0}) WriteFault) (e : WriteFault)
    → IsErrAnd r (λ x. x ≡ e) → Sends old new text (Err e) → Sends old new text r
sent_at (Ok u) e is h = absurd is
sent_at {old = old} {new = new} {text = text} (Err x) e is h =
    subst (λ (x : WriteFault). Sends old new text (Err x)) (sym is) h

pub sends_tidy : {T : Table} {id : TypeId} {limit : ℕ} {body content : List ℕ} {number : ℤ} (failures failures' : ℕ)
    (old new : Option (List ℕ)) (r : Option (Result (Unit {0}) WriteFault))
    → ((text : List ℕ) → IsNumbered number content text → IsTidyText T id limit body text)
    → SendsNumbered number content failures failures' old new r
    → SendsTidy T id limit body failures failures' old new r
sends_tidy failures failures' old new None f h = h
sends_tidy failures failures' old new (Some sent) f h = (h.0, f h.0 h.1, h.2, h.3)
