-- What lines say whose interfaces hold nothing are items of the format.
use Rattle.std.proofs.Common.{◌≡◌, ℕ, ◌+◌, ◌≤◌, List, [], ◌∷◌, ◌++◌, length, Option, Some, Result, Ok, Err}
use Rattle.std.proofs.Common.{refl, sym, ap, subst, ◌∙◌, inl, inr, arith, codes}
use Rattle.std.specs.Prelude.{false}
use Rattle.std.proofs.lemmas.Int.{ints}
use Rattle.json.specs.Lex.{tokens}
use Rattle.json.specs.Token.{Token}
use Rattle.serde_json.specs.Data.{Data, null, object, member, no_members}
use Rattle.gob_num.specs.Unsigned.{AreBytes, IsUnsigned}
use Rattle.gob_num.proofs.PublicLaws.{bytes-append, bytes_rest, signed_unsigned, unsigned_bytes}
use Rattle.gob_num.proofs.PublicLaws.{signed_fits}
use Rattle.gob_types.specs.Base.{base_table}
use Rattle.gob_types.specs.Definable.{IsDefinable}
use Rattle.gob_types.specs.Ready.{IsReady}
use Rattle.gob_types.specs.Table.{Table}
use Rattle.gob_types.specs.declared.id.TypeId.{TypeId}
use Rattle.gob_types.specs.declared.kind.Shape.{Shape}
use Rattle.gob_types.specs.declared.reason.Reason.{Reason}
use Rattle.gob_value.specs.Described.{described}
use Rattle.gob_value.specs.Description.{Describes, Said, said}
use Rattle.gob_value.specs.Loose.{DescribesLoosely}
use Rattle.gob_value.specs.Tree.{Tree}
use Rattle.gob_value.proofs.DescribedLaws.{describes}
use Rattle.gob_value.proofs.BytesLaws.{spelled_bytes, top_bytes}
use Rattle.gob_json.specs.Json.{id_json, put_json}
use Rattle.gob_json_writer.specs.FilledJson.{FilledShows, FillingsShow, filled_shows, none_left, then_shown}
use Rattle.gob_json_writer.specs.NilsJson.{put_json_with}
use Rattle.gob_json_writer.proofs.NilsLaws.{nulls, value_nulls}
use Rattle.gob_stream.specs.Body.{Body, definition, value}
use Rattle.gob_stream.specs.Bounds.{Bounds}
use Rattle.gob_stream.specs.Item.{StreamItem, defines, puts}
use Rattle.gob_stream.specs.Items.{AreItemsOf, no_more}
use Rattle.gob_stream.specs.Stream.{IsItem, counted}
use Rattle.gob_stream.specs.WriterRefusal.{RefusesItem, refused_body}
use Rattle.gob_stream.specs.WriterRefusal as strict
use Rattle.gob_stream.proofs.Stream.StreamLaws.{one_more}
use Rattle.gob_filled.specs.Definition as own
use Rattle.gob_filled.specs.Filled.{Filled, filled, Fillings, SpellsFilled, as_it_stands, cut, next_filled, no_filling}
use Rattle.gob_filled.specs.Filled.{with_fillings}
use Rattle.gob_filled.specs.Stream.{AreCounted, FilledItem, IsFilledItem, defining, last_counted, next_counted}
use Rattle.gob_filled.specs.Stream.{of_definition, of_value, putting}
use Rattle.gob_filled_walk.proofs.ShiftLaws.{value_shifts}
use Rattle.gob_filled_writer.specs.Heads.{RefusesBytes}
use Rattle.gob_filled_writer.specs.Writing.{RefusesFilledItem, refused_bytes, refused_definition, refused_type}
use Rattle.gob_lines.specs.Complete.{SaysDefinition}
use Rattle.gob_lines.specs.Definition.{IsDefinitionJson}
use Rattle.gob_lines.specs.Numbers.{IsWithTexts, ReadsSome, natural_number}
use Rattle.gob_lines.specs.Reads.{Reads}
use Rattle.gob_lines.proofs.ShapeLaws.{shape_readable}
use Rattle.gob_go_lines.specs.Lines.{HoldsNothing, SaysPut}
use Rattle.gob_go_lines.proofs.UnfilledLaws.{top_says}
use Rattle.gob_write.specs.Lines.{first_line}
use Rattle.gob_go_lines.proofs.TextsLaws.{natural_texts, texts_of, top_texts, typed_texts}
use Rattle.gob_write.specs.Exact.{RefusesExactLine, SaysExactItem, SaysNoItem, exact_lines, refuses_item, refuses_type}
use Rattle.gob_write.specs.Exact.{says_shape, says_value}
use Rattle.gob_write.specs.Grammar.{CutsNext, RefusesNext, RunAnswers, SayItems, SaysNoneNext, WroteItems}
use Rattle.gob_write.specs.Grammar.{WrotePrefixOf, say_item_more, say_none, say_nothing_more}
use Rattle.gob_write.specs.Shown.{RefusesFilledLine, SaysFilledItem, SaysNeither, filled_lines, refuses_filled}
use Rattle.gob_write.specs.Shown.{refuses_unready, says_definition, says_filled}
use Rattle.gob_write.specs.declared.fault.LinesFault.{LinesFault}
use Rattle.gob_write.specs.declared.fault.LinesFault.TheVariants as fault

-- the item without what fills its nils
abbrev pub unfilled : FilledItem → StreamItem
unfilled (defining id v) = defines id v
unfilled (putting id (filled v fs)) = puts id v

-- ---- what a line says

no_nil_filled : {T : Table} {t : TypeId} {b : List ℕ} {from : ℕ} {fs : Fillings} {N : ℕ → Data} → fs ≡ no_filling
    → FillingsShow T t b from 0 fs N → (n : ℕ) → N n ≡ null
no_nil_filled e (none_left nothing) n = nothing n (omega arith)
no_nil_filled e (then_shown after within part low gap shows is more) n = absurd (cc (e))

-- nils that show nothing show null
put_nulls : (T : Table) (id : TypeId) (v : Tree) (N : ℕ → Data) → ((n : ℕ) → N n ≡ null)
    → put_json_with N T id v ≡ put_json T id v
put_nulls T id v N nothing =
    ap (λ d. object (member (codes "type") (id_json id) (member (codes "value") d no_members)))
    (value_shifts T id v N nulls 0 0 (record { each = λ k l. nothing (0 + k) }) ∙ value_nulls T id 0 v)

value_said : {T : Table} {id : TypeId} {w : Filled} {tree : Tree} {N : ℕ → Data} {json : Data} (line : List ℕ)
    → HoldsNothing w → IsReady T id → FilledShows T id w tree N → IsWithTexts json (put_json_with N T id tree)
    → Reads json (tokens line) [] → SaysExactItem T line (unfilled (putting id w))
value_said {T = T} {id = id} {json = json} line none ready (filled_shows {v = v} {N = N} top shows) written reads =
    says_value ready (record {
      json = json;
      is = subst (λ d. IsWithTexts json d) (put_nulls T id v N (no_nil_filled none shows)) written;
      reads = reads;
    })

item_said : {T : Table} {limit : ℕ} (line : List ℕ) {i : FilledItem} → SaysFilledItem T false limit line i
    → SaysExactItem T line (unfilled i)
item_said line (says_definition s d reads) = says_shape s d reads
item_said line (says_filled ready told) =
    value_said line (told.holds refl) ready told.shows told.written told.reads

-- ---- how it is spelled

some_injective : {a b : Said} → Some a ≡ Some b → a ≡ b
some_injective e = cc (e)

-- the description that a writer makes says its own id
describes_it : {id : TypeId} {s r : Shape} → IsDefinable s → DescribesLoosely id (described id s) r
    → Describes id (described id s) r
describes_it {id = id} {s = s} d loose =
    let made = describes id s d in
    let it = loose.describes in
    record {
      what = it.what;
      says = it.says;
      same_id = ap (λ (w : Said). w.id) (some_injective (sym it.says ∙ made.says)) ∙ made.same_id;
      name = it.name;
      kind = it.kind;
    }

-- letters that are bytes are one segment
record IsCounted (L : Bounds) (most offset : ℕ) (letters bytes : List ℕ) : Type 0 where
  count : List ℕ
  counts : IsUnsigned (length letters) count
  short : length letters ≤ most
  within : offset + length (count ++ letters) ≤ L.stream
  whole : bytes ≡ count ++ letters

one_segment : {L : Bounds} {most offset : ℕ} {letters bytes : List ℕ} → AreBytes letters
    → AreCounted L most offset letters bytes → IsCounted L most offset letters bytes
one_segment o (last_counted {c = c} s p counts short within) =
    record { count = c; counts = counts; short = short; within = within; whole = refl }
one_segment o (next_counted {ls = ls} s p counts short within next more) =
    let past = bytes_rest s (cut ∷ ls) o in absurd (omega (arith, past.0))

definition_is : {L : Bounds} {T U : Table} {offset : ℕ} {id : TypeId} {s : Shape} {b : List ℕ} → IsDefinable s
    → IsFilledItem base_table L T offset (defining id (described id s)) b U
    → IsItem base_table L T offset (defines id (described id s)) b U
definition_is d (of_definition count item stream (own.defines may deep loose number signed spelled)) =
    counted count item stream (definition may deep (describes_it d loose) number signed spelled)

value_is : {L : Bounds} {T U : Table} {offset : ℕ} {id : TypeId} {w : Filled} {b : List ℕ} → HoldsNothing w
    → IsFilledItem base_table L T offset (putting id w) b U
    → IsItem base_table L T offset (unfilled (putting id w)) b U
value_is {L = L} {T = T} {offset = offset} {id = id} none (of_value {a = a} may signed
    (with_fillings {v = v} {ls = ls} top deep (as_it_stands bytes)) segments) =
    let one = one_segment (bytes-append a ls (unsigned_bytes (signed_unsigned signed).1) bytes) segments in
    subst (λ b. IsItem base_table L T offset (puts id v) b T) (sym one.whole)
    (counted one.counts one.short one.within (value may deep signed top))
value_is none (of_value may signed (with_fillings top deep (next_filled c o ex l os u ds m i vs g fl)) segments) =
    absurd (cc (none))

item_is : {L : Bounds} {T U : Table} {offset limit : ℕ} (line : List ℕ) {i : FilledItem} {b : List ℕ}
    → SaysFilledItem T false limit line i → IsFilledItem base_table L T offset i b U
    → IsItem base_table L T offset (unfilled i) b U
item_is line (says_definition s d reads) is = definition_is d is
item_is line (says_filled ready told) is = value_is (told.holds refl) is

-- ---- why it isn't written

value_refused : {L : Bounds} {T : Table} {offset : ℕ} {id : TypeId} {w : Filled} {r : Reason} → HoldsNothing w
    → RefusesFilledItem L T offset (putting id w) r
    → RefusesItem base_table L T offset (unfilled (putting id w)) r
value_refused {w = filled v fs} none (refused_type why) = strict.refused_type why
value_refused none (refused_bytes may (with_fillings top deep (as_it_stands bytes)) refuses) =
    refused_body (value may deep refuses.numbered top) refuses.refused
value_refused none (refused_bytes may (with_fillings top deep (next_filled c o ex l os u ds m i vs g fl)) refuses) =
    absurd (cc (none))

item_refused : {L : Bounds} {T : Table} {offset limit : ℕ} (line : List ℕ) {i : FilledItem} {r : Reason}
    → SaysFilledItem T false limit line i → RefusesFilledItem L T offset i r
    → RefusesItem base_table L T offset (unfilled i) r
item_refused line (says_definition s d reads) (refused_definition why) = why
item_refused line (says_filled ready told) why = value_refused (told.holds refl) why

line_refused : {L : Bounds} {T : Table} {offset : ℕ} {r : Reason} (line : List ℕ)
    → RefusesFilledLine false L T offset line r → RefusesExactLine L T offset line r
line_refused line (refuses_filled says why) = refuses_item (item_said line says) (item_refused line says why)
line_refused line (refuses_unready id tells why) = refuses_type id tells why

-- ---- what the lines say

record ExactlySaid (L : Bounds) (lines : List (List ℕ)) (out : List ℕ) (T : Table) : Type 0 where
  items : List StreamItem
  say : SayItems (exact_lines L) lines items out T
  stream : AreItemsOf (IsItem base_table L) base_table 0 items out T

all_said : {L : Bounds} {lines : List (List ℕ)} {items : List FilledItem} {out : List ℕ} {T : Table}
    → SayItems (filled_lines false L) lines items out T → ExactlySaid L lines out T
all_said say_none = record { items = []; say = say_none; stream = no_more }
all_said (say_nothing_more line said none) =
    let r = all_said said in
    record { items = r.items; say = say_nothing_more line r.say none; stream = r.stream }
all_said {L = L} (say_item_more line {i = i} said says is) =
    let r = all_said said in
    let here = item_is {L = L} line says is in
    record {
      items = r.items ++ unfilled i ∷ [];
      say = say_item_more line r.say (item_said line says) here;
      stream = one_more r.stream (omega arith) here;
    }

-- what was written, and what else holds
exactly : {L : Bounds} {most : ℕ} {bytes : List ℕ} {old mid : Option (List ℕ)}
    {P Q : ℕ → Table → List ℕ → List ℕ → Type 0}
    → ((n : ℕ) (T : Table) (out rest : List ℕ) → P n T out rest → Q n T out rest)
    → WroteItems (filled_lines false L) most bytes old mid P → WroteItems (exact_lines L) most bytes old mid Q
exactly f h =
    let r = all_said h.say in
    record {
      lines = h.lines;
      rest = h.rest;
      items = r.items;
      out = h.out;
      table = h.table;
      cut = h.cut;
      say = r.say;
      stream = r.stream;
      sent = h.sent;
      holds = f _ _ _ _ h.holds;
    }

-- ---- where a line says nothing

-- an item that goes on the stream can be read
definition_readable : {L : Bounds} {T U : Table} {id : TypeId} {s : Shape} {d : List ℕ} (ts : List Token) → AreBytes d
    → IsDefinable s → ReadsSome (IsDefinitionJson id s) ts [] → Body base_table L T (defines id (described id s)) d U
    → SaysDefinition ts id s
definition_readable {id = id} {s = s} ts bytes definable reads (definition {a = a} {b = b} may deep d n number p) =
    let told = shape_readable id s definable ((spelled_bytes p).0 (bytes_rest a b bytes)) in
    record {
      definable = definable;
      readable = told.0;
      name = told.1;
      number = omega (arith, may.own.1);
      said = reads;
    }

value_readable : {L : Bounds} {T U : Table} {id : TypeId} {v : Tree} {d : List ℕ} {json : Data} (ts : List Token)
    → AreBytes d → IsReady T id → IsWithTexts json (put_json T id v) → Reads json ts []
    → Body base_table L T (puts id v) d U → (body : List ℕ) × SaysPut T false L.depth ts id body
value_readable {T = T} {id = id} {v = v} ts bytes ready written reads (value {a = a} {b = b} may deep number top) =
    let outer = texts_of written in
    let typed = typed_texts outer.each in
    let fits = signed_fits number in (
      b,
      record {
        ready = ready;
        small = omega (arith, ints);
        number = typed.first;
        typed = natural_texts natural_number typed.typed;
        json = typed.second;
        says = top_texts (top_says top ((top_bytes top).0 (bytes_rest a b bytes)) deep) typed.says;
        said = subst (λ j. Reads j ts []) (outer.whole ∙ ap object typed.is) reads;
      },
    )

says_nothing : {L : Bounds} {T U : Table} {offset : ℕ} (line : List ℕ) {i : StreamItem} {b : List ℕ}
    → SaysNeither T false L.depth line → AreBytes b → SaysExactItem T line i → IsItem base_table L T offset i b U → ⊥
says_nothing {L = L} line neither bytes (says_shape {id = id} s d reads)
    (counted {c = c} {d = e} count item stream body) =
    neither.definition id s (definition_readable {L = L} (tokens line) (bytes_rest c e bytes) d reads body)
says_nothing {L = L} line neither bytes (says_value {id = id} ready reads)
    (counted {c = c} {d = e} count item stream body) =
    let r = value_readable {L = L} (tokens line) (bytes_rest c e bytes) ready reads.is reads.reads body in
    neither.value id r.0 r.1

-- ---- how the run ends

cut_exactly : {L : Bounds} {mid new : Option (List ℕ)} (n : ℕ) (T : Table) (out rest : List ℕ)
    → CutsNext (filled_lines false L) mid new n T out rest → CutsNext (exact_lines L) mid new n T out rest
cut_exactly n T out rest (inl keeps) = inl keeps
cut_exactly {L = L} n T out rest (inr some) = inr (record {
  item = unfilled some.item;
  says = item_said (first_line rest) some.says;
  prefix = some.prefix;
  rest = some.rest;
  table = some.table;
  is = item_is {L = L} (first_line rest) some.says some.is;
  out = some.out;
})

pub exact_answers : (L : Bounds) (most : ℕ) (bytes : List ℕ) (old new : Option (List ℕ))
    (r : Result (Unit {0}) LinesFault) → RunAnswers (filled_lines false L) most bytes old new r
    → RunAnswers (exact_lines L) most bytes old new r
exact_answers L most bytes old new (Ok u) h = exactly (λ n T out rest p. p) h
exact_answers L most bytes old new (Err (fault.Wrong m column path due)) h =
    exactly (λ n T out rest p. (
      p.0,
      p.1,
      λ text i b U bytes says is.
          says_nothing (first_line rest) (p.2 text) bytes says is,
    )) h
exact_answers L most bytes old new (Err (fault.Refused m r)) h =
    exactly (λ n T out rest p. (p.0, p.1, line_refused (first_line rest) p.2)) h
exact_answers L most bytes old new (Err (fault.TooLong m limit)) h = (h.0, exactly (λ n T out rest p. p) h.1)
exact_answers L most bytes old new (Err fault.Read) h = exactly (λ n T out rest p. p) h
exact_answers L most bytes old new (Err fault.Memory) h = exactly (λ n T out rest p. p) h
exact_answers L most bytes old new (Err fault.Write) h = (h.0, exactly cut_exactly h.1)
