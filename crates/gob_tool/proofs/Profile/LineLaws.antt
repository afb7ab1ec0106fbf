-- The lines of the definitions that a value holds, filling by filling.
use Rattle.std.proofs.Common.{◌≡◌, ℕ, ◌+◌, ◌<◌, List, [], ◌∷◌, ◌++◌, length, drop, get_or}
use Rattle.std.proofs.Common.{◌∙◌, ap, sym, subst, refl, append_assoc, append-nil}
use Rattle.json.specs.Print.{print}
use Rattle.json.specs.Token.{Token}
use Rattle.json.specs.Tree.{json_tokens}
use Rattle.serde_json.specs.Data.{Data}
use Rattle.serde_json.specs.Written.{compact_text, outline}
use Rattle.serde_json.proofs.Texts.{print-outline}
use Rattle.gob_types.specs.Table.{Table}
use Rattle.gob_types.specs.declared.id.TypeId.{TypeId}
use Rattle.gob_value.specs.Tree.{Tree}
use Rattle.gob_value.specs.View.{view}
use Rattle.gob_stream.specs.Item.{defines, puts}
use Rattle.gob_filled.specs.Filled.{Fillings, no_filling}
use Rattle.gob_filled.specs.Filled as spelled
use Rattle.gob_value.specs.declared.value.Value.{Value}
use Rattle.gob_filled.specs.Stream.{FilledItem}
use Rattle.gob_go.specs.Meaning.{IsFilled, is_filled, AreFillings, no_fillings, filling_then, definitions_of}
use Rattle.gob_go.specs.Meaning.{ItemMeans, means_definition}
use Rattle.gob_go.specs.declared.item.GoItem.{GoItem}
use Rattle.gob_go.specs.declared.item.GoItem.TheVariants as item
use Rattle.gob_go.specs.declared.filled.Definition.{Definition}
use Rattle.gob_go.specs.declared.filled.Filled.{Filled, out-Filled}
use Rattle.gob_go.specs.declared.filled.Filling.{Filling, out-Filling}
use Rattle.gob_tool.specs.Line.{line}
use Rattle.gob_json_writer.specs.FilledJson.{FilledShows}
use Rattle.gob_json_writer.proofs.ShownLaws.{shows_as_ever}
use Rattle.gob_go.proofs.IdLaws.{item_left}
use Rattle.gob_tool.specs.LineGo.{definition_lines, filling_lines, inner_lines, value_line}
use Rattle.gob_tool.specs.Machine.LinesGo.{LinesGiven, ShowsInLines}

-- ---- definitions
pub definition_made : {new : List ℕ} (T : Table) (old mid : List ℕ) (ds : List Definition) (i : ℕ) (d : Definition)
    → d ≡ get_or ds i d → i < length ds
    → old ++ definition_lines T (definitions_of ds)
    ≡ mid ++ definition_lines T (definitions_of (drop i ds))
    → ((v : Tree) → new ≡ mid ++ line T (defines d.id v))
    → old ++ definition_lines T (definitions_of ds) ≡ new ++ definition_lines T (definitions_of (drop (i + 1) ds))
definition_made {new = new} T old mid ds i d is within so made =
    let rest = definition_lines T (definitions_of (drop (i + 1) ds)) in
    let one = line T (defines d.id (view d.described)) in
    so ∙ ap (λ (l : List Definition). mid ++ definition_lines T (definitions_of l)) (item_left ds i d is within)
    ∙ sym (append_assoc mid one rest) ∙ ap (λ (l : List ℕ). l ++ rest) (sym (made (view d.described)))

pub definitions_made : {new : List ℕ} (T : Table) (old : List ℕ) (ds : List Definition) (i : ℕ) → drop i ds ≡ []
    → old ++ definition_lines T (definitions_of ds) ≡ new ++ definition_lines T (definitions_of (drop i ds))
    → new ≡ old ++ definition_lines T (definitions_of ds)
definitions_made {new = new} T old ds i none so =
    sym (so ∙ ap (λ (l : List Definition). new ++ definition_lines T (definitions_of l)) none ∙ append-nil new)

-- ---- fillings
-- so much of the lines of the fillings stands, and those of the others from this number on are left
pub record IsMade (T : Table) (kept : Filled) (fs : Fillings) (number : ℕ) (old new : List ℕ) : Type 0 where
  pub rest : Fillings
  pub left : AreFillings T (drop number (out-Filled kept).fillings.items) rest
  pub so : old ++ filling_lines T fs ≡ new ++ filling_lines T rest

one_more : {T : Table} {f : Filling} {fs : List Filling} {all : Fillings} {new : List ℕ} (mid : List ℕ)
    → AreFillings T (f ∷ fs) all
    → ((w : spelled.Filled) → IsFilled T (out-Filling f).id (out-Filling f).value w
    → new ≡ mid ++ (definition_lines T (definitions_of (out-Filling f).definitions.items) ++ inner_lines T w))
    → (others : Fillings) × AreFillings T fs others × (mid ++ filling_lines T all ≡ new ++ filling_lines T others)
one_more {T = T} {f = f} mid (filling_then {w = w} {fs = others} m ms) made =
    let ds = definition_lines T (definitions_of (out-Filling f).definitions.items) in
    let rest = filling_lines T others in (
      others,
      ms,
      ap (λ (l : List ℕ). mid ++ l) (sym (append_assoc ds (inner_lines T w) rest))
          ∙ sym (append_assoc mid (ds ++ inner_lines T w) rest) ∙ ap (λ (l : List ℕ). l ++ rest) (sym (made w m)),
    )

pub filling_made : {T : Table} {kept : Filled} {fs : Fillings} {number : ℕ} {old mid new : List ℕ} {xs : List Filling}
    (f : Filling) → xs ≡ (out-Filled kept).fillings.items → f ≡ get_or xs number f → number < length xs
    → IsMade T kept fs number old mid
    → ((w : spelled.Filled) → IsFilled T (out-Filling f).id (out-Filling f).value w
    → new ≡ mid ++ (definition_lines T (definitions_of (out-Filling f).definitions.items) ++ inner_lines T w))
    → IsMade T kept fs (number + 1) old new
filling_made {T = T} {kept = kept} {number = number} {mid = mid} {xs = xs} f same is within m made =
    let left = ap (λ (l : List Filling). drop number l) (sym same) ∙ item_left xs number f is within in
    let n = one_more mid (subst (λ (l : List Filling). AreFillings T l m.rest) left m.left) made in
    record {
      rest = n.0;
      left = subst (λ (l : List Filling). AreFillings T (drop (number + 1) l) n.0) same n.1;
      so = m.so ∙ n.2;
    }

no_others : {T : Table} {fs : Fillings} → AreFillings T [] fs → fs ≡ no_filling
no_others no_fillings = refl

all_made : {T : Table} {kept : Filled} {fs : Fillings} {number : ℕ} {old new : List ℕ} {xs : List Filling}
    → xs ≡ (out-Filled kept).fillings.items → drop number xs ≡ [] → IsMade T kept fs number old new
    → new ≡ old ++ filling_lines T fs
all_made {T = T} {number = number} {new = new} same none m =
    let left = ap (λ (l : List Filling). drop number l) (sym same) ∙ none in
    let e = no_others (subst (λ (l : List Filling). AreFillings T l m.rest) left m.left) in
    sym (m.so ∙ ap (λ (fs : Fillings). new ++ filling_lines T fs) e ∙ append-nil new)

pub inner_made : {T : Table} {kept : Filled} {t : TypeId} {w : spelled.Filled} {number : ℕ} {old new : List ℕ}
    {xs : List Filling} → xs ≡ (out-Filled kept).fillings.items → drop number xs ≡ []
    → ((fs : Fillings) → AreFillings T (out-Filled kept).fillings.items fs → IsMade T kept fs number old new)
    → IsFilled T t kept w → new ≡ old ++ inner_lines T w
inner_made same none m (is_filled {fs = fs} top a) = all_made same none (m fs a)

-- ---- a line
-- what a writer held, the text of the JSON that was written, and a line feed
pub line_printed : {before : List ℕ} {tokens : List Token} (d : Data) (held : List ℕ) {old new : List ℕ} → held ≡ before
    ++ print tokens
    → before ≡ old → tokens ≡ json_tokens (outline d) → new ≡ held ++ 10 ∷ []
    → new ≡ old ++ (compact_text d ++ 10 ∷ [])
line_printed {before = before} {tokens = tokens} d held {old = old} whole same written pushed =
    pushed ∙ ap (λ (l : List ℕ). l ++ 10 ∷ []) (whole ∙ ap (λ (b : List ℕ). b ++ print tokens) same
    ∙ ap (λ (ts : List Token). old ++ print ts) written ∙ ap (λ (l : List ℕ). old ++ l) (print-outline d))
    ∙ append_assoc old (compact_text d) (10 ∷ [])

-- the lines of a value in which nothing is held are the one that it has in the format
pub line_unfilled : {T : Table} {t : TypeId} {v other : Tree} {N : ℕ → Data}
    → FilledShows T t (spelled.filled v no_filling) other N
    → inner_lines T (spelled.filled v no_filling) ++ value_line T t other N ≡ line T (puts t v)
line_unfilled shows = ap (λ j. compact_text j ++ 10 ∷ []) (shows_as_ever shows).1

-- ---- an item that was given
pub definition_given : {old new : List ℕ} (T : Table) (given : GoItem) (id : TypeId) (described : Value)
    → given ≡ item.Define id described → old ≡ [] → ((v : Tree) → new ≡ old ++ line T (defines id v))
    → LinesGiven T given new
definition_given {old = old} {new = new} T given id described e none made =
    subst (λ o. LinesGiven T o new) (sym e) (λ i m. by m)
  where
    by : {i : FilledItem} → ItemMeans T (item.Define id described) i → ShowsInLines T i new
    by means_definition = made (view described)
        ∙ ap (λ (l : List ℕ). l ++ line T (defines id (view described))) none
