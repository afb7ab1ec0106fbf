-- The tidy forms of the items of a stream are a stream.
use Rattle.std.proofs.Common.{ℕ, ◌≤◌, ◌∙◌, arith, List, [], ◌∷◌, ◌++◌, length, Option, Result, ap, sym, subst, refl}
use Rattle.std.proofs.Common.{append_assoc, length-append}
use Rattle.std.specs.Io.KnownBytes.{Appends}
use Rattle.gob_types.specs.Base.{base_table}
use Rattle.gob_types.specs.Table.{Table}
use Rattle.gob_value.specs.Tidy.{Tidies}
use Rattle.gob_value.specs.Tree.{Tree}
use Rattle.gob_stream.specs.Bounds.{Bounds}
use Rattle.gob_stream.specs.Item.{StreamItem}
use Rattle.gob_stream.specs.Outcome.{BeginsWithStream, strict}
use Rattle.gob_stream.specs.Stream.{IsItem, Stream, and_then, no_more}
use Rattle.gob_stream.proofs.PublicLaws.{one_more, one_prefix}
use Rattle.gob_tool.specs.Answering.{AppendsPrefix}
use Rattle.gob_tool.specs.Machine.Rewritten.{IsLastOfStream, IsTidied, IsTidyItem}
use Rattle.gob_tool.specs.Rewriting.{AreItemsTidied, no_item, and_item, HasTidyStream, RewriteAnswers}
use Rattle.gob_tool.specs.Rewriting.{content, content_type, with_content}
use Rattle.gob_tool.specs.Texts.{HaveTexts, no_texts, texts_then, from_item, from_value, OfTexts, TextsAnswersIn}
use Rattle.gob_tool.specs.declared.fault.ToolFault.{ToolFault}
use Rattle.gob_tool.proofs.LinesStay.{stream_keeps}
use Rattle.gob_tool.proofs.ReaderRuns.{last_item}
use Rattle.gob_tool.proofs.ShowLaws.{same_behind}
use Rattle.gob_tool.proofs.TextLaws.{runs_begun, value_text}
use Rattle.gob_tool.proofs.TidyStays.{form_stands, tidies_on}

-- ---- the last item
pub is_last : {L : Bounds} {T : Table} {i : StreamItem} {b : List ℕ} (items : List StreamItem)
    → Stream base_table L (items ++ i ∷ []) b T → IsLastOfStream T i
is_last {L = L} items s =
    let l = last_item items s in
    record {
      limits = L;
      items = items;
      prefix = l.prefix;
      before = l.table;
      earlier = l.first;
      bytes = l.bytes;
      counted = l.counted;
    }

tidy_item : {L : Bounds} {T : Table} {i : StreamItem} {b text : List ℕ} (items : List StreamItem)
    → Stream base_table L (items ++ i ∷ []) b T → IsTidied T i text → IsTidyItem T i text
tidy_item items s (from_item {i = i} m f) = f i m (is_last items s)
tidy_item items s (from_value is) = value_text IsTidyItem is

-- ---- from item to item
keeps_to : {L : Bounds} {T V : Table} {o : ℕ} {i : StreamItem} {b : List ℕ} {items others : List StreamItem}
    → IsItem base_table L T o i b V → AreItemsTidied T items others → AreItemsTidied V items others
keeps_to q no_item = no_item
keeps_to q (and_item p ps) = and_item (tidies_on (stream_keeps (and_then q refl no_more)) p) (keeps_to q ps)

tidied_more : {T : Table} {items others : List StreamItem} {v : Tree} (i : StreamItem) → AreItemsTidied T items others
    → Tidies T (content_type i) (content i) v → AreItemsTidied T (items ++ i ∷ []) (others ++ with_content i v ∷ [])
tidied_more i no_item p = and_item p no_item
tidied_more i (and_item q qs) p = and_item q (tidied_more i qs p)

-- the texts of the items are a stream that is no longer
record TidyStream (L : Bounds) (bytes : List ℕ) (items : List StreamItem) (text : List ℕ) : Type 0 where
  begins : BeginsWithStream base_table L bytes items
  tidy : List StreamItem
  tidied : AreItemsTidied begins.table items tidy
  stream : Stream base_table L tidy text begins.table
  no_longer : length text ≤ length begins.prefix

stream_on : {L : Bounds} {bytes text more : List ℕ} {items : List StreamItem} {i : StreamItem}
    → TidyStream L bytes items text → (b : BeginsWithStream base_table L bytes (items ++ i ∷ []))
    → IsTidyItem b.table i more → TidyStream L bytes (items ++ i ∷ []) (text ++ more)
stream_on {L = L} {text = text} {more = more} {items = items} {i = i} s b tidy =
    let g = s.begins in
    let l = last_item items b.stream in
    let one = one_prefix (l.bytes ++ b.rest) g.rest l.first g.stream
    (sym (append_assoc l.prefix l.bytes b.rest) ∙ ap (λ (z : List ℕ). z ++ b.rest) (sym l.whole) ∙ sym b.whole
    ∙ g.whole) in
    let here = subst (λ (T : Table). IsItem base_table L T (length g.prefix) i l.bytes b.table) one.table
    (subst (λ (z : List ℕ). IsItem base_table L l.table (length z) i l.bytes b.table) one.prefix l.counted) in
    let f = form_stands (length text) (stream_keeps g.stream) here tidy s.no_longer in
    record {
      begins = b;
      tidy = s.tidy ++ with_content i f.form ∷ [];
      tidied = tidied_more i (keeps_to here s.tidied) f.tidies;
      stream = one_more s.stream (omega arith) f.counted;
      no_longer = omega (
        arith,
        s.no_longer,
        f.no_longer,
        ap length l.whole,
        ap length one.prefix,
        length-append text more,
        length-append l.prefix l.bytes,
      );
    }

texts_stream : {L : Bounds} {bytes text : List ℕ} {items : List StreamItem}
    → HaveTexts strict IsTidied L bytes items text → TidyStream L bytes items text
texts_stream {bytes = bytes} no_texts = record {
  begins = record { prefix = []; rest = bytes; table = base_table; stream = no_more; whole = refl };
  tidy = [];
  tidied = no_item;
  stream = no_more;
  no_longer = omega arith;
}
texts_stream (texts_then {items = items} i more h b m) = stream_on (texts_stream h) b (tidy_item items b.stream m)

-- ---- the ends
of_stream : {L : Bounds} {bytes : List ℕ} {P : List ℕ → Type 0} (items : List StreamItem)
    (b : BeginsWithStream base_table L bytes items) → OfTexts strict IsTidied L bytes P items
    → HasTidyStream L b.table items P
of_stream {L = L} {P = P} items b o =
    let s = texts_stream o.texts in
    let g = s.begins in
    subst (λ (T : Table). HasTidyStream L T items P) (same_behind g b)
    (record { tidy = s.tidy; tidied = s.tidied; bytes = o.text; stream = s.stream; holds = o.holds })

pub rewritten_so : (L : Bounds) (bytes : List ℕ) (now old new : Option (List ℕ)) (r : Result (Unit {0}) ToolFault)
    → TextsAnswersIn strict IsTidied L bytes now old new r → RewriteAnswers L bytes now old new r
rewritten_so L bytes now old new r h =
    runs_begun strict L bytes now (λ T items. OfTexts strict IsTidied L bytes (Appends old new) items)
    (λ T items. HasTidyStream L T items (Appends old new))
    (λ T items. OfTexts strict IsTidied L bytes (AppendsPrefix old new) items)
    (λ T items. HasTidyStream L T items (AppendsPrefix old new)) r h (λ T items b o. of_stream items b o)
    (λ T items b o. of_stream items b o)
