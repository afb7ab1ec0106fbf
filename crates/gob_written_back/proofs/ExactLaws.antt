-- Lines of items of the format say items of the profile, so these lines too say one stream.
use Rattle.std.proofs.Common.{◌≡◌, Bool, true, ℕ, List, [], ◌∷◌, ◌++◌, refl, sym, ap, subst, ◌∙◌}
use Rattle.gob_num.specs.Unsigned.{AreBytes}
use Rattle.gob_num.proofs.PublicLaws.{bytes_prefix, bytes_rest}
use Rattle.gob_types.specs.Base.{base_table}
use Rattle.gob_types.specs.Table.{Table}
use Rattle.gob_stream.specs.Body.{value}
use Rattle.gob_stream.specs.Bounds.{Bounds}
use Rattle.gob_stream.specs.Item.{StreamItem, defines, puts}
use Rattle.gob_stream.specs.Stream.{IsItem, counted}
use Rattle.gob_filled.specs.Filled.{filled, no_filling}
use Rattle.gob_filled.specs.OutcomeLaws.{unfilled_item}
use Rattle.gob_filled.specs.Stream.{FilledItem, defining, putting}
use Rattle.gob_filled.proofs.Contained.{item_stays}
use Rattle.gob_filled.proofs.Strict.{contained}
use Rattle.gob_filled_walk.specs.FilledLine.{defines_nothing, none_defines}
use Rattle.gob_json_writer.specs.FilledJson.{filled_shows, none_left}
use Rattle.gob_json_writer.proofs.NilsLaws.{nulls, put_nulls}
use Rattle.gob_lines.specs.Numbers.{IsWithTexts}
use Rattle.gob_lines.specs.Laws.{HaveFewFields}
use Rattle.gob_write.specs.Exact.{SaysExactItem, exact_lines, says_shape, says_value}
use Rattle.gob_write.specs.Grammar.{SayItems, say_item_more, say_none, say_nothing_more}
use Rattle.gob_write.specs.Shown.{SaysFilledItem, filled_lines, says_definition, says_filled}
use Rattle.gob_written_back.proofs.OnceLaws.{stream_once}

abbrev pub unfilled_items : List StreamItem → List FilledItem
unfilled_items [] = []
unfilled_items (i ∷ items) = unfilled_item i ∷ unfilled_items items

abbrev as_item : FilledItem → StreamItem
as_item (defining id v) = defines id v
as_item (putting id (filled v fs)) = puts id v

abbrev as_items : List FilledItem → List StreamItem
as_items [] = []
as_items (i ∷ items) = as_item i ∷ as_items items

item_again : (i : StreamItem) → as_item (unfilled_item i) ≡ i
item_again (defines id v) = refl
item_again (puts id v) = refl

items_again : (items : List StreamItem) → as_items (unfilled_items items) ≡ items
items_again [] = refl
items_again (i ∷ items) =
    ap (λ j. j ∷ as_items (unfilled_items items)) (item_again i) ∙ ap (λ l. i ∷ l) (items_again items)

one_more_unfilled : (items : List StreamItem) (i : StreamItem)
    → unfilled_items (items ++ i ∷ []) ≡ unfilled_items items ++ unfilled_item i ∷ []
one_more_unfilled [] i = refl
one_more_unfilled (j ∷ items) i = ap (λ l. unfilled_item j ∷ l) (one_more_unfilled items i)

item_said : {H : Bool} {L : Bounds} {T U : Table} {offset : ℕ} {i : StreamItem} {b : List ℕ} (line : List ℕ)
    → AreBytes b → SaysExactItem T line i → IsItem base_table L T offset i b U
    → SaysFilledItem T H L.depth line (unfilled_item i)
item_said line o (says_shape s d reads) one = says_definition s d reads
item_said {T = T} line o (says_value {id = id} {v = v} ready read)
    (counted {c = c} count item stream (value {a = a} {b = b} may deep number top)) =
    says_filled ready (record {
      value = filled v no_filling;
      spelled = λ base L. contained top (bytes_rest a b (bytes_rest c (a ++ b) o)) deep;
      defines = defines_nothing none_defines;
      holds = λ e. refl;
      tree = v;
      nils = nulls;
      shows = filled_shows top (none_left (λ n l. refl));
      json = read.json;
      written = subst (λ d. IsWithTexts read.json d) (sym (put_nulls T id v)) read.is;
      reads = read.reads;
    })

pub lines_said : {H : Bool} {L : Bounds} {lines : List (List ℕ)} {items : List StreamItem} {b : List ℕ} {T : Table}
    → AreBytes b → SayItems (exact_lines L) lines items b T
    → SayItems (filled_lines H L) lines (unfilled_items items) b T
lines_said o say_none = say_none
lines_said o (say_nothing_more line s none) = say_nothing_more line (lines_said o s) none
lines_said {H = H} {L = L} o
    (say_item_more {lines = lines} line {items = items} {i = i} {b = b} {c = c} {U = U} s says item) =
    let here = bytes_rest b c o in
    subst (λ l. SayItems (filled_lines H L) (lines ++ line ∷ []) l (b ++ c) U) (sym (one_more_unfilled items i))
    (say_item_more line (lines_said (bytes_prefix b c o) s) (item_said line here says item) (item_stays here item))

pub exact_once : {L : Bounds} {lines : List (List ℕ)} {items others : List StreamItem} {b c : List ℕ} {T U : Table}
    → HaveFewFields T → AreBytes b → AreBytes c → SayItems (exact_lines L) lines items b T
    → SayItems (exact_lines L) lines others c U → (items ≡ others) × (b ≡ c)
exact_once {L = L} {items = items} {others = others} few p q s t =
    let r = stream_once {H = true} {L = L} refl few p q (lines_said p s) (lines_said q t) in
    (sym (items_again items) ∙ ap as_items r.same_items ∙ items_again others, r.same_bytes)
