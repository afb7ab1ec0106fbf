-- Lines say one stream.
use Rattle.std.proofs.Common.{◌≡◌, Bool, ℕ, List, [], ◌∷◌, ◌++◌, length, refl, sym, ap, subst, ◌∙◌, arith}
use Rattle.std.proofs.Common.{codes}
use Rattle.std.proofs.Common.{pos, negsuc, sum}
use Rattle.std.proofs.lemmas.Int.{ints}
use Rattle.json.specs.Lex.{tokens}
use Rattle.json.specs.Token.{Token}
use Rattle.serde_json.specs.Data.{object}
use Rattle.gob_num.specs.Signed.{IsSigned}
use Rattle.gob_num.specs.Unsigned.{AreBytes, IsUnsigned}
use Rattle.gob_num.proofs.PublicLaws.{bytes-append, bytes_prefix, bytes_rest, signed_fits, signed_unique}
use Rattle.gob_num.proofs.PublicLaws.{signed_unsigned, unsigned_bytes, unsigned_unique}
use Rattle.gob_types.specs.Base.{base_table}
use Rattle.gob_types.specs.declared.id.TypeId.{TypeId}
use Rattle.gob_types.specs.declared.kind.Shape.{Shape}
use Rattle.gob_types.specs.Definable.{IsDefinable}
use Rattle.gob_types.specs.Table.{Table}
use Rattle.gob_value.specs.Described.{described}
use Rattle.gob_value.proofs.BytesLaws.{spelled_bytes}
use Rattle.gob_value.proofs.UniqueLaws.{one_spelling}
use Rattle.gob_stream.specs.Bounds.{Bounds}
use Rattle.gob_filled.specs.Definition.{defines}
use Rattle.gob_filled.specs.Filled.{cut}
use Rattle.gob_filled.specs.Stream.{AreCounted, FilledItem, IsFilledItem, defining, last_counted, next_counted}
use Rattle.gob_filled.specs.Stream.{of_definition, of_value}
use Rattle.gob_filled.proofs.Items.{one_filled_item}
use Rattle.gob_go.proofs.ItemsLaws.{grown_keeps, item_grown}
use Rattle.gob_lines.specs.Definition.{IsDefinitionJson}
use Rattle.gob_lines.specs.DefinitionLaws.{IsDescribed}
use Rattle.gob_lines.specs.Laws.{HaveFewFields}
use Rattle.gob_lines.specs.Numbers.{ReadsSome}
use Rattle.gob_lines.proofs.ShapeLaws.{definition_once}
use Rattle.gob_lines.proofs.UniqueLaws.{J, behind, first, text_of}
use Rattle.gob_go_lines.specs.Lines.{TellsFilled}
use Rattle.gob_go_lines.proofs.BytesLaws.{top_bytes}
use Rattle.gob_go_lines.proofs.OnceLaws.{put_once}
use Rattle.gob_go_lines.proofs.TextsLaws.{texts_of, typed_texts}
use Rattle.gob_go_lines.proofs.ToldLaws.{spelled_says}
use Rattle.gob_write.specs.Grammar.{SayItems, say_item_more, say_none, say_nothing_more}
use Rattle.gob_write.specs.Shown.{SaysFilledItem, filled_lines, says_definition, says_filled}
use Rattle.gob_written_back.proofs.SayLaws.{few_before}

-- ---- a line says one item

-- an item of a definition describes it in bytes
is_described : {L : Bounds} {T U : Table} {offset : ℕ} {id : TypeId} {s : Shape} {b : List ℕ} → AreBytes b
    → IsDefinable s → IsFilledItem base_table L T offset (defining id (described id s)) b U → IsDescribed id s
is_described bytes definable
    (of_definition {c = c} {d = d} count item stream (defines {a = a} {b = b} may deep loose n number p)) = record {
      definable = definable;
      bytes = (spelled_bytes p).0 (bytes_rest a b (bytes_rest c d bytes));
      small = omega (arith, may.own.1);
    }

joined : {a b c d : List ℕ} → a ≡ b → c ≡ d → a ++ c ≡ b ++ d
joined {b = b} {c = c} p q = ap (λ (l : List ℕ). l ++ c) p ∙ ap (λ (l : List ℕ). b ++ l) q

-- an item has one spelling
definition_bytes : {L : Bounds} {T U V : Table} {offset : ℕ} {id : TypeId} {b c : List ℕ} (s : Shape)
    → IsFilledItem base_table L T offset (defining id (described id s)) b U
    → IsFilledItem base_table L T offset (defining id (described id s)) c V → b ≡ c
definition_bytes s (of_definition {c = c} count item stream (defines {n = n} {a = a} may deep loose number signed p))
    (of_definition {c = e} count' item' stream' (defines {n = m} {a = d} may' deep' loose' number' signed' p')) =
    let one : m ≡ n = omega (arith, number, number') in
    let body = joined (signed_unique signed (subst (λ k. IsSigned (negsuc k) d) one signed')) (one_spelling p p') in
    joined (unsigned_unique count (subst (λ l. IsUnsigned (length l) e) (sym body) count')) body

-- letters that are bytes are one segment
counted_once : {L : Bounds} {most offset : ℕ} {s f g : List ℕ} → AreBytes s → AreCounted L most offset s f
    → AreCounted L most offset s g → f ≡ g
counted_once o (last_counted {c = c} s p q l m) (last_counted r p' q' l' m') = joined (unsigned_unique q q') refl
counted_once o (next_counted {ls = ls} s p q l m n more) g = absurd (omega (arith, (bytes_rest s (cut ∷ ls) o).0))
counted_once o f (next_counted {ls = ls} s p q l m n more) = absurd (omega (arith, (bytes_rest s (cut ∷ ls) o).0))

-- the key of the first member
definition_key : {ts : List Token} {id : TypeId} {s : Shape} → ReadsSome (IsDefinitionJson id s) ts []
    → text_of (first (behind ts)) ≡ codes "define"
definition_key reads =
    ap (λ l. text_of (first (behind l))) (reads.reads ∙ ap (λ d. J d ++ []) reads.is.is)

value_key : {T : Table} {H : Bool} {id : TypeId} {limit : ℕ} {body : List ℕ} {ts : List Token}
    → TellsFilled T H id limit body ts [] → text_of (first (behind ts)) ≡ codes "type"
value_key told =
    let outer = texts_of told.written in
    let inside = typed_texts outer.each in
    ap (λ l. text_of (first (behind l))) (told.reads ∙ ap (λ d. J d ++ []) (outer.whole ∙ ap object inside.is))

bytes_once : {H : Bool} {L : Bounds} {T U V : Table} {offset : ℕ} (line : List ℕ) {i j : FilledItem} {b c : List ℕ}
    → HaveFewFields T → AreBytes b → AreBytes c → SaysFilledItem T H L.depth line i
    → SaysFilledItem T H L.depth line j → IsFilledItem base_table L T offset i b U
    → IsFilledItem base_table L T offset j c V → b ≡ c
bytes_once {L = L} {T = T} {V = V} {offset = offset} line {c = c} few o u (says_definition {id = id} s d reads)
    (says_definition {id = other} r e reads') one two =
    let same = definition_once [] [] (is_described o d one) (is_described u e two) reads reads' in
    let items = ap (λ (t : TypeId). defining t (described t r)) (sym same.0)
    ∙ ap (λ (q : Shape). defining id (described id q)) (sym same.1) in
    definition_bytes s one (subst (λ i. IsFilledItem base_table L T offset i c V) items two)
bytes_once {L = L} {offset = offset} line few o u (says_filled ready told) (says_filled ready' told')
    (of_value {a = a} {ls = ls} {f = f} may number spelled counted)
    (of_value {t = t} {a = d} {ls = ms} {f = g} may' number' spelled' counted') =
    let f' = signed_fits number in
    let g' = signed_fits number' in
    let p = (spelled_says ready (omega (arith, ints)) told spelled).1 in
    let q = (spelled_says ready' (omega (arith, ints)) told' spelled').1 in
    let same = put_once few p q in
    let numbers = signed_unique number (subst (λ (i : TypeId). IsSigned (pos i.0) d) (sym same.0) number') in
    let letters : a ++ ls ≡ d ++ ms = joined numbers same.1 in
    counted_once (bytes-append a ls (unsigned_bytes (signed_unsigned number).1) (top_bytes p.says)) counted
    (subst (λ l. AreCounted L L.item offset l g) (sym letters) counted')
bytes_once line few o u (says_definition s d reads) (says_filled ready told) one two =
    absurd (omega (arith, ap sum (sym (definition_key reads) ∙ value_key told)))
bytes_once line few o u (says_filled ready told) (says_definition s d reads) one two =
    absurd (omega (arith, ap sum (sym (definition_key reads) ∙ value_key told)))

-- ---- of each item behind the items before it

-- the last of two lists, and those before it
snoc_none : {A : Type 0} (xs : List A) (x : A) → [] ≡ xs ++ x ∷ [] → ⊥
snoc_none [] x e = grind (arith, e)
snoc_none (y ∷ xs) x e = grind (arith, e)

abbrev first_or : {A : Type 0} → A → List A → A
first_or a [] = a
first_or a (x ∷ xs) = x

abbrev tail_of : {A : Type 0} → List A → List A
tail_of [] = []
tail_of (x ∷ xs) = xs

snoc_once : {A : Type 0} (xs ys : List A) (x y : A) → xs ++ x ∷ [] ≡ ys ++ y ∷ [] → (xs ≡ ys) × (x ≡ y)
snoc_once [] [] x y e = (refl, ap (first_or x) e)
snoc_once [] (w ∷ ys) x y e = absurd (snoc_none ys y (ap tail_of e))
snoc_once (z ∷ xs) [] x y e = absurd (snoc_none xs x (sym (ap tail_of e)))
snoc_once {A = A} (z ∷ xs) (w ∷ ys) x y e =
    let r = snoc_once xs ys x y (ap tail_of e) in
    (ap (λ (a : A). a ∷ xs) (ap (first_or z) e) ∙ ap (λ (l : List A). w ∷ l) r.0, r.1)

pub record SaidOnce (items others : List FilledItem) (b c : List ℕ) (T U : Table) : Type 0 where
  pub same_items : items ≡ others
  pub same_bytes : b ≡ c
  pub same_table : T ≡ U

one_more_once : {H : Bool} {L : Bounds} {items others : List FilledItem} {i j : FilledItem} {b c d e : List ℕ}
    {T U V W : Table} (line : List ℕ) → SaidOnce items others b c T U → HaveFewFields T → AreBytes d → AreBytes e
    → SaysFilledItem T H L.depth line i → SaysFilledItem U H L.depth line j
    → IsFilledItem base_table L T (length b) i d V → IsFilledItem base_table L U (length c) j e W
    → SaidOnce (items ++ i ∷ []) (others ++ j ∷ []) (b ++ d) (c ++ e) V W
one_more_once {H = H} {L = L} {others = others} {i = i} {j = j} {b = b} {e = e} {T = T} {U = U} {W = W} line r few p q
    says said one two =
    let here = subst (λ (K : Table). SaysFilledItem K H L.depth line j) (sym r.same_table) said in
    let there = subst (λ (K : Table). IsFilledItem base_table L K (length b) j e W) (sym r.same_table)
    (subst (λ (l : List ℕ). IsFilledItem base_table L U (length l) j e W) (sym r.same_bytes) two) in
    let same = bytes_once line few p q says here one there in
    let item = one_filled_item [] [] one there (ap (λ l. l ++ []) same) in
    record {
      same_items = ap (λ (l : List FilledItem). l ++ i ∷ []) r.same_items
          ∙ ap (λ (k : FilledItem). others ++ k ∷ []) item.0;
      same_bytes = joined r.same_bytes same;
      same_table = item.2;
    }

says_something : {T : Table} {H : Bool} {limit : ℕ} (line : List ℕ) {i : FilledItem}
    → SaysFilledItem T H limit line i → tokens line ≡ [] → ⊥
says_something line (says_filled ready told) none =
    omega (arith, ap sum (sym (ap (λ l. text_of (first (behind l))) none) ∙ value_key told))
says_something line (says_definition s d reads) none =
    omega (arith, ap sum (sym (ap (λ l. text_of (first (behind l))) none) ∙ definition_key reads))

pub stream_once : {H : Bool} {L : Bounds} {lines texts : List (List ℕ)} {items others : List FilledItem}
    {b c : List ℕ} {T U : Table} → lines ≡ texts → HaveFewFields T → AreBytes b → AreBytes c
    → SayItems (filled_lines H L) lines items b T → SayItems (filled_lines H L) texts others c U
    → SaidOnce items others b c T U
stream_once e few p q say_none say_none = record { same_items = refl; same_bytes = refl; same_table = refl }
stream_once e few p q say_none (say_nothing_more {lines = texts} line s none) = absurd (snoc_none texts line e)
stream_once e few p q say_none (say_item_more {lines = texts} line s says item) = absurd (snoc_none texts line e)
stream_once e few p q (say_nothing_more {lines = lines} line s none) say_none = absurd (snoc_none lines line (sym e))
stream_once e few p q (say_item_more {lines = lines} line s says item) say_none =
    absurd (snoc_none lines line (sym e))
stream_once e few p q (say_nothing_more {lines = lines} line s none) (say_nothing_more {lines = texts} text t not) =
    stream_once (snoc_once lines texts line text e).0 few p q s t
stream_once e few p q (say_nothing_more {lines = lines} line s none) (say_item_more {lines = texts} text t says item) =
    absurd (says_something text says (ap tokens (sym (snoc_once lines texts line text e).1) ∙ none))
stream_once e few p q (say_item_more {lines = lines} line s says item) (say_nothing_more {lines = texts} text t none) =
    absurd (says_something line says (ap tokens (snoc_once lines texts line text e).1 ∙ none))
stream_once {H = H} {L = L} e few p q (say_item_more {lines = lines} line {b = b} {c = c} s says item)
    (say_item_more {lines = texts} text {i = k} {b = d} {c = f} {T = T} t said other) =
    let same = snoc_once lines texts line text e in
    let few_then = few_before (grown_keeps (item_grown item)) few in
    let before = stream_once same.0 few_then (bytes_prefix b c p) (bytes_prefix d f q) s t in
    one_more_once line before few_then (bytes_rest b c p) (bytes_rest d f q) says
    (subst (λ (l : List ℕ). SaysFilledItem T H L.depth l k) (sym same.1) said) item other
