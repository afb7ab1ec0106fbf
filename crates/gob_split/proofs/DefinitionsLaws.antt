-- The definitions of a stream are a stream, and how the run that takes them goes on and ends.
use Rattle.std.proofs.Common.{◌≡◌, ◌∙◌, ℕ, ◌+◌, ◌≤◌, List, [], ◌∷◌, ◌++◌, length, arith, refl, sym, ap, subst}
use Rattle.std.proofs.Common.{append_assoc, length-append, Option, Some, Result, Ok, Err}
use Rattle.std.proofs.lemmas.List.{append-nil}
use Rattle.gob_types.specs.Base.{base_table}
use Rattle.gob_types.specs.Table.{Table}
use Rattle.gob_types.specs.declared.id.TypeId.{TypeId}
use Rattle.gob_value.specs.Tree.{Tree}
use Rattle.gob_stream.specs.Bounds.{Bounds, greatest_depth, within_trees}
use Rattle.gob_stream.specs.Calls.ReaderOf.{StopsBy, StopsIn}
use Rattle.gob_stream.specs.Grammar.{BeginsIn}
use Rattle.gob_stream.specs.Stepping.{StandsBy}
use Rattle.gob_stream.specs.declared.fault.Fault.{Fault}
use Rattle.gob_filled.specs.Definition.{Defines, defines}
use Rattle.gob_filled.specs.Filled.{Definitions, no_definitions, definition, Filled, filled, Fillings, no_filling}
use Rattle.gob_filled.specs.Filled.{filling}
use Rattle.gob_filled.specs.Outcome.{profile}
use Rattle.gob_filled.specs.Stream.{AreFilledItems, FilledItem, FilledStream, and_then, defining, no_more}
use Rattle.gob_filled.specs.Stream.{of_definition, of_value, putting}
use Rattle.gob_go.specs.Calls.Reader.{EndsWith, GoReader, HasReadFrom, session_of}
use Rattle.gob_go.specs.Calls.Session.{limits_of}
use Rattle.gob_go.specs.GoStepping.{go_stepping}
use Rattle.gob_go.specs.Machine.SessionState.{SessionState}
use Rattle.gob_go.proofs.ItemsLaws.{last_of, one_reading}
use Rattle.gob_go.proofs.WholeSteps.{more_behind}
use Rattle.gob_go_writer.specs.Hoisting.{defining_items, filling_items, inner_items}
use Rattle.gob_tool.specs.Answering.{RunAnswersIn}
use Rattle.gob_tool.specs.Fault.{reading_fault}
use Rattle.gob_tool.specs.declared.fault.ToolFault.{ToolFault}
use Rattle.gob_tool.specs.declared.fault.ToolFault.TheVariants as fault
use Rattle.gob_tool.proofs.TextLaws.{runs_begun, shown_stops, shown_whole}
use Rattle.gob_split.proofs.CutterLaws.{definitions_more}
use Rattle.gob_split.proofs.PartLaws.{among_more}
use Rattle.gob_split.proofs.RunLaws.{texts_more, texts_under}
use Rattle.gob_split.specs.Definitions.{AppendsDefinitions, DefinitionsAnswers, IsStreamOfDefinitions}
use Rattle.gob_split.specs.Laws.{definitions_among}
use Rattle.gob_split.specs.Machine.Defining.{AppendsSo, HasAppended}
use Rattle.gob_split.specs.Machine.Items.{TakesText, text_in}
use Rattle.gob_split.specs.Split.{definitions_of}
use Rattle.gob_split.specs.Text.{HaveTexts, IsTextOf, Text, definitions_in, no_texts, text_bytes, texts_then}
use Rattle.gob_split.specs.declared.item_text.ItemText.{ItemText}

-- ---- what comes of an item before its value are definitions
abbrev AllDefine : List FilledItem → Type 0
AllDefine [] = Unit {0}
AllDefine (defining id v ∷ items) = AllDefine items
AllDefine (putting t w ∷ items) = ⊥

define_both : (items others : List FilledItem) → AllDefine items → AllDefine others → AllDefine (items ++ others)
define_both [] others a b = b
define_both (defining id v ∷ items) others a b = define_both items others a b
define_both (putting t w ∷ items) others a b = absurd a

definitions_define : (ds : Definitions) → AllDefine (defining_items ds)
definitions_define no_definitions = tt
definitions_define (definition id v ds) = definitions_define ds

mutual
  inner_define : (w : Filled) → AllDefine (inner_items w)
  inner_define (filled v fs) = fillings_define fs

  fillings_define : (fs : Fillings) → AllDefine (filling_items fs)
  fillings_define no_filling = tt
  fillings_define (filling place s ds u w fs) =
      define_both (defining_items ds) (inner_items w ++ filling_items fs) (definitions_define ds)
      (define_both (inner_items w) (filling_items fs) (inner_define w) (fillings_define fs))

all_define : (i : FilledItem) → AllDefine (definitions_in i)
all_define (defining id v) = tt
all_define (putting t w) = inner_define w

-- ---- definitions under other limits
moved : {L : Bounds} (M : Bounds) {T U : Table} {id : TypeId} {v : Tree} {b : List ℕ} → M.depth ≡ L.depth
    → M.types ≡ L.types → Defines base_table L T id v b U → Defines base_table M T id v b U
moved M d t (defines may de ds i s k) = defines
    (record { own = may.own; new = may.new; room = let room = may.room in omega arith }) (omega arith) ds i s k

narrowed : {L : Bounds} (M : Bounds) {T U : Table} {offset : ℕ} {items : List FilledItem} {b : List ℕ}
    → M.depth ≡ L.depth → M.types ≡ L.types → AllDefine items → length b ≤ M.item → offset + length b ≤ M.stream
    → AreFilledItems base_table L T offset items b U → AreFilledItems base_table M T offset items b U
narrowed M d t all few room no_more = no_more
narrowed M d t all few room (and_then {c = rest} (of_definition {c = c} {d = body} u l s def) n ps) =
    let whole = length-append (c ++ body) rest in
    let parts = length-append c body in
    and_then (of_definition u (omega (arith, few, whole, parts)) (omega (arith, room, whole)) (moved M d t def)) n
    (narrowed M d t all (omega (arith, few, whole)) (omega (arith, room, whole, n)) ps)
narrowed M d t all few room (and_then (of_value may sg sp cs) n ps) = absurd all

-- ---- those of a stream are a stream
at_least : (n m : ℕ) → m ≤ n + m
at_least n m = omega arith

as_much : (n : ℕ) → n ≤ n
as_much n = omega arith

-- limits that allow so many bytes
abbrev wide : Bounds → ℕ → Bounds
wide M n = record M { item = n; stream = n }

pub definitions_stream : {L : Bounds} {bytes front : List ℕ} {items : List FilledItem} {texts : List Text} {T : Table}
    (M : Bounds) (rest : List ℕ) → L.depth ≤ greatest_depth → M.depth ≡ L.depth → M.types ≡ L.types
    → HaveTexts L bytes items texts → length (definitions_of texts) ≤ M.item
    → length (definitions_of texts) ≤ M.stream → FilledStream base_table L items front T → bytes ≡ front ++ rest
    → FilledStream base_table M (definitions_among items) (definitions_of texts) T
definitions_stream M rest depth same types no_texts few room no_more whole = no_more
definitions_stream {L = L} {front = front} {T = T} M rest depth same types
    (texts_then {items = items} {texts = texts} i t h b is) few room stream whole =
    let l = last_of items stream in
    let table = (one_reading b.rest rest b.stream stream (sym b.whole ∙ whole)).table in
    let text : IsTextOf T i t = subst (λ T. IsTextOf T i t) table is in
    let known = length (definitions_of texts) in
    let more = length (text_bytes t) in
    let all = ap length (definitions_more texts t) in
    let both = length-append (definitions_of texts) t.definitions in
    let before : FilledStream base_table M (definitions_among items) (definitions_of texts) l.table =
    definitions_stream {front = l.before} {T = l.table} M (l.bytes ++ rest) depth same types h
    (omega (arith, few, all, both)) (omega (arith, room, all, both)) l.items_are
    (whole ∙ ap (λ (f : List ℕ). f ++ rest) l.whole ∙ append_assoc l.before l.bytes rest) in
    let a = text L l.table (0 + length l.before) l.bytes depth l.item (wide M (known + more)) known same types
    (at_least known more) (as_much (known + more)) in
    let next : AreFilledItems base_table M l.table (length (definitions_of texts)) (definitions_in i) t.definitions T =
    narrowed M refl refl (all_define i) (omega (arith, few, all, both)) (omega (arith, room, all, both))
    a.definitions_are in
    subst (λ (l : List FilledItem). FilledStream base_table M l (definitions_of (texts ++ t ∷ [])) T)
    (sym (among_more items i))
    (subst (λ (b : List ℕ). FilledStream base_table M (definitions_among items ++ definitions_in i) b T)
    (sym (definitions_more texts t)) (more_behind before (omega arith) next))

-- ---- from item to item
module _ {r r' : GoReader} {read now next : Option (List ℕ)} {old mid : List ℕ} (s : AppendsSo r read now old mid)
    (stands : StandsBy go_stepping (session_of r'))
    (same : limits_of (session_of r') ≡ limits_of (session_of r)) where
  -- nothing was appended
  pub appends_still : HasReadFrom r' read next s.given → AppendsSo r' read next old mid
  appends_still h = record {
    given = s.given;
    has = h;
    stands = stands;
    out = λ bytes known.
        let o = s.out bytes known in
        record { texts = o.texts; are = texts_under (sym same) o.are; appended = o.appended };
  }

  pub appends_turn : {q : GoReader} {new : List ℕ} {x : ItemText} → TakesText q r' read next s.given x
      → new ≡ mid ++ (text_in x).definitions → AppendsSo r' read next old new
  appends_turn {new = new} {x = x} t appends = record {
    given = s.given ++ t.item ∷ [];
    has = t.after;
    stands = stands;
    out = λ bytes known.
        let o = s.out bytes known in
        let d = (text_in x).definitions in
        record {
          texts = o.texts ++ text_in x ∷ [];
          are = texts_more stands same t bytes known o.are;
          appended = appends ∙ ap (λ (l : List ℕ). l ++ d) o.appended
              ∙ append_assoc old (definitions_of o.texts) d
              ∙ ap (λ (l : List ℕ). old ++ l) (sym (definitions_more o.texts (text_in x)));
        };
  }

-- nothing was given yet
pub appends_first : {r : GoReader} (read : Option (List ℕ)) (old : List ℕ) → StandsBy go_stepping (session_of r)
    → HasReadFrom r read read [] → AppendsSo r read read old old
appends_first read old stands has = record {
  given = [];
  has = has;
  stands = stands;
  out = λ bytes known. record { texts = []; are = no_texts; appended = sym (append-nil old) };
}

-- ---- the ends
-- what was appended, by the texts of the items
record OfTexts (L : Bounds) (bytes old new : List ℕ) (T : Table) (items : List FilledItem) : Type 0 where
  texts : List Text
  are : HaveTexts L bytes items texts
  appended : new ≡ old ++ definitions_of texts

of_texts : {r : GoReader} {bytes old new : List ℕ} {given : List FilledItem} (T : Table)
    → HasAppended r bytes given old new → OfTexts (within_trees (limits_of (session_of r))) bytes old new T given
of_texts T h = record { texts = h.texts; are = h.are; appended = h.appended }

appends_so : {L : Bounds} {bytes old new : List ℕ} → L.depth ≤ greatest_depth → (T : Table) (items : List FilledItem)
    (b : BeginsIn profile L bytes items) → OfTexts L bytes old new T items
    → AppendsDefinitions L old new b.table items
appends_so depth T items b o = record {
  defining = definitions_of o.texts;
  appended = o.appended;
  are = λ M same types few room. definitions_stream M b.rest depth same types o.are few room b.stream b.whole;
}

answers_so : (L : Bounds) (bytes : List ℕ) (now : Option (List ℕ)) (old new : List ℕ)
    (r : Result (Unit {0}) ToolFault) → RunAnswersIn profile L bytes now (AppendsDefinitions L old new) (λ T items. ⊥) r
    → DefinitionsAnswers L bytes now old new r
answers_so L bytes now old new (Ok u) h = h
answers_so L bytes now old new (Err (fault.Refused R)) h = h
answers_so L bytes now old new (Err fault.Read) h = tt
answers_so L bytes now old new (Err fault.Memory) h = tt
answers_so L bytes now old new (Err fault.Write) h = h.holds
answers_so L bytes now old new (Err (fault.Wanted R)) h = h
answers_so L bytes now old new (Err fault.NoWantedType) h = h
answers_so L bytes now old new (Err (fault.Clash path reason)) h = h
answers_so L bytes now old new (Err (fault.LeftOut path number)) h = h

answers_by : (L : Bounds) (bytes : List ℕ) (now : Option (List ℕ)) (old new : List ℕ)
    (r : Result (Unit {0}) ToolFault) → L.depth ≤ greatest_depth
    → RunAnswersIn profile L bytes now (OfTexts L bytes old new) (λ T items. ⊥) r
    → DefinitionsAnswers L bytes now old new r
answers_by L bytes now old new r depth h =
    answers_so L bytes now old new r
    (runs_begun profile L bytes now (OfTexts L bytes old new) (AppendsDefinitions L old new) (λ T items. ⊥)
    (λ T items. ⊥) r h (appends_so depth) (λ T items b none. none))

-- a read stopped it
pub appends_stops : {r : GoReader} {read now : Option (List ℕ)} {old new : List ℕ}
    (s : AppendsSo r read now old new) (L : Bounds) (q : SessionState) (T : Table) (next : Option (List ℕ)) (e : Fault)
    → limits_of q ≡ L → limits_of (session_of r) ≡ L → (within_trees L).depth ≤ greatest_depth
    → StopsBy go_stepping q T read next s.given e → (bytes : List ℕ) → read ≡ Some bytes
    → DefinitionsAnswers (within_trees L) bytes next old new (Err (reading_fault e))
appends_stops {old = old} {new = new} s L q T next e at same depth stops bytes known =
    let o = of_texts T (s.out bytes known) in
    let M = within_trees L in
    answers_by M bytes next old new (Err (reading_fault e)) depth
    (shown_stops profile M T s.given bytes next (OfTexts M bytes old new) (λ T items. ⊥) e
    (subst (λ (L : Bounds). StopsIn profile (within_trees L) T s.given bytes next e) at (stops bytes known))
    (subst (λ (L : Bounds). OfTexts (within_trees L) bytes old new T s.given) same o))

pub appends_whole : {r : GoReader} {read now : Option (List ℕ)} {old new : List ℕ}
    (s : AppendsSo r read now old new) (L : Bounds) {T : Table} {taken : ℕ} {next : Option (List ℕ)}
    → limits_of (session_of r) ≡ L → (within_trees L).depth ≤ greatest_depth → (bytes : List ℕ)
    → EndsWith (within_trees (limits_of (session_of r))) T taken s.given bytes next → read ≡ Some bytes
    → DefinitionsAnswers (within_trees L) bytes next old new (Ok tt)
appends_whole {r = r} {old = old} {new = new} s L {T = T} {next = next} same depth bytes e known =
    answers_by (within_trees L) bytes next old new (Ok tt) depth
    (subst (λ (L : Bounds). RunAnswersIn profile (within_trees L) bytes next (OfTexts (within_trees L) bytes old new)
    (λ T items. ⊥) (Ok tt)) same
    (shown_whole profile (OfTexts (within_trees (limits_of (session_of r))) bytes old new) e
    (of_texts T (s.out bytes known))))
