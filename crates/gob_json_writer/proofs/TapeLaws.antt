-- What is written of the parts that the children of a view give, and what is left to be written.
use Rattle.std.proofs.Common.{◌≡◌, ◌≢◌, ℕ, ℤ, pos, negsuc, ◌+◌, ◌*◌, ◌/◌, ◌%◌, ◌<◌, ◌≤◌, List, [], ◌∷◌, ◌++◌}
use Rattle.std.proofs.Common.{Option, Some, None, Bool, true, false, not, arith, refl, sym, ap, ◌∙◌, subst}
use Rattle.std.proofs.Common.{append_assoc, Result, Ok}
use Rattle.std.specs.Prelude.{◌==◌, if◌then◌else◌, slice_get, OnOk, codes, decimal}
use Rattle.std.specs.Fmt.{signed_decimal}
use Rattle.json.specs.Token.{Token}
use Rattle.json.specs.Tree.{json_tokens, items_tokens}
use Rattle.json.specs.Written.{Written}
use Rattle.serde_json.specs.Data.{Data, array, Items, no_items, item}
use Rattle.serde_json.specs.Written.{outline, items_outline}
use Rattle.gob_types.specs.declared.id.TypeId.{TypeId}
use Rattle.gob_types.specs.declared.kind.Field.{Field}
use Rattle.gob_types.specs.Table.{Table}
use Rattle.gob_value.specs.Tree.{Tree, Trees, no_tree, tree, Pairs, no_pair, pair, Fields, no_field, field}
use Rattle.gob_value.specs.Tree as Value
use Rattle.gob_value.specs.Spelling.{truth}
use Rattle.gob_read.specs.Leaf.{signed_of}
use Rattle.gob_tape.specs.declared.kind.ValueKind.{ValueKind}
use Rattle.gob_tape.specs.declared.kind.ValueKind.TheVariants as kind
use Rattle.gob_tape.specs.declared.view.View.{View}
use Rattle.gob_tape.specs.declared.view.Children.{Children}
use Rattle.gob_tape.specs.Meaning.{Means}
use Rattle.gob_tape.specs.Seeing.{kind_of, numbers_of, bytes_of, unsigned_of, elements, alternating, present}
use Rattle.gob_tape.specs.Seeing.{Sees, Gives, GivesNext, gives_one, GivesPart, TakesNodes}
use Rattle.gob_tape.specs.Seeing.{takes_some, nodes_from, nodes_left}
use Rattle.gob_read.specs.Weight.{part_count, parts_of_all, parts_of_pairs, parts_of_fields}
use Rattle.gob_json.specs.Json.{value_json}
use Rattle.gob_json_writer.specs.Nils.{HeldShows, holds_none, holds, WritesOn}
use Rattle.gob_json_writer.specs.declared.held.Held.{Held}
use Rattle.gob_json_writer.specs.NilsJson.{value_json_with, elements_json_with, pairs_json_with, fields_json_with}
use Rattle.gob_json_writer.specs.NilsJson.{interface_front}
use Rattle.gob_json.specs.Json.{triple_json, natural_json, integer_json, text_json, field_name, field_type}
use Rattle.gob_json_writer.specs.TapeJson.{leaf_json, Shows}
use Rattle.gob_json_writer.specs.WritesJson.{WritesTokens, WritesJson}
use Rattle.gob_json_writer.proofs.WrittenLaws.{IsLeft, left_begun, left_on, left_end, both_written, on_ok_of}

-- ---- parts without parts

signed_even : (n : ℕ) → signed_of (2 * n) ≡ pos n
signed_even n =
    let even : 2 * n % 2 ≡ 0 = omega arith in
    let half : 2 * n / 2 ≡ n = omega arith in
    ap (λ r. if r == 0 then pos (2 * n / 2) else negsuc (2 * n / 2)) even ∙ ap pos half

signed_odd : (n : ℕ) → signed_of (2 * n + 1) ≡ negsuc n
signed_odd n =
    let odd : (2 * n + 1) % 2 ≡ 1 = omega arith in
    let half : (2 * n + 1) / 2 ≡ n = omega arith in
    ap (λ r. if r == 0 then pos ((2 * n + 1) / 2) else negsuc ((2 * n + 1) / 2)) odd ∙ ap negsuc half

pub signed_unsigned : (i : ℤ) → signed_of (unsigned_of i) ≡ i
signed_unsigned (pos n) = signed_even n
signed_unsigned (negsuc n) = signed_odd n

truth_shown : (x : Bool) → (truth x == 1) ≡ x
truth_shown true = refl
truth_shown false = refl

leaf_shown : (T : Table) (t : TypeId) (v : Tree) → (kind_of v ≢ kind.Many) → (kind_of v ≢ kind.Pairs)
    → (kind_of v ≢ kind.Fields)
    → leaf_json (kind_of v) (numbers_of v).0 (numbers_of v).1 (bytes_of v) ≡ value_json T t v
leaf_shown T t (Value.bool x) m p f = ap Rattle.serde_json.specs.Data.boolean (truth_shown x)
leaf_shown T t (Value.int i) m p f = ap integer_json (signed_unsigned i)
leaf_shown T t (Value.many vs) m p f = absurd (m refl)
leaf_shown T t (Value.pairs ps) m p f = absurd (p refl)
leaf_shown T t (Value.fields fs) m p f = absurd (f refl)
leaf_shown T t _ m p f = refl

-- what a view shows of a part without parts
pub leaf_seen : (T : Table) (t : TypeId) (v : Tree) (k : ValueKind) (n : ℕ × ℕ) (s : List ℕ) → k ≡ kind_of v
    → n ≡ numbers_of v → s ≡ bytes_of v
    → (k ≢ kind.Many) → (k ≢ kind.Pairs) → (k ≢ kind.Fields) → leaf_json k n.0 n.1 s ≡ value_json T t v
leaf_seen T t v k n s e q r m p f =
    ap (λ k. leaf_json k n.0 n.1 s) e ∙ ap (λ n. leaf_json (kind_of v) n.0 n.1 s) q ∙ ap
    (λ s. leaf_json (kind_of v) (numbers_of v).0 (numbers_of v).1 s) r
    ∙ leaf_shown T t v (λ h. m (e ∙ h)) (λ h. p (e ∙ h)) (λ h. f (e ∙ h))

leaf_alone : (N : ℕ → Data) (T : Table) (t : TypeId) (n : ℕ) (v : Tree) → (kind_of v ≢ kind.Many)
    → (kind_of v ≢ kind.Pairs) → (kind_of v ≢ kind.Fields) → (kind_of v ≢ kind.Nil)
    → (value_json T t v ≡ value_json_with N T t n v) × (part_count v ≡ 1)
leaf_alone N T t n Value.nil m p f z = absurd (z refl)
leaf_alone N T t n (Value.many vs) m p f z = absurd (m refl)
leaf_alone N T t n (Value.pairs ps) m p f z = absurd (p refl)
leaf_alone N T t n (Value.fields fs) m p f z = absurd (f refl)
leaf_alone N T t n _ m p f z = (refl, refl)

-- nothing stands in a part without parts that is no nil
pub leaf_holds_none : (N : ℕ → Data) (T : Table) (t : TypeId) (n : ℕ) (v : Tree) (k : ValueKind) → k ≡ kind_of v
    → (k ≢ kind.Many) → (k ≢ kind.Pairs) → (k ≢ kind.Fields) → (k ≢ kind.Nil)
    → (value_json T t v ≡ value_json_with N T t n v) × (part_count v ≡ 1)
leaf_holds_none N T t n v k e m p f z =
    leaf_alone N T t n v (λ h. m (e ∙ h)) (λ h. p (e ∙ h)) (λ h. f (e ∙ h)) (λ h. z (e ∙ h))

-- ---- which value has parts of which kind

-- the value is made of parts
pub record IsMadeOf {P : Type 0} (made : P → Tree) (v : Tree) : Type 0 where
  pub parts : P
  pub is : v ≡ made parts

-- what a value that is seen as this kind is made of, if it has parts
abbrev Made : Tree → ValueKind → Type 0
Made v kind.Many = IsMadeOf Value.many v
Made v kind.Pairs = IsMadeOf Value.pairs v
Made v kind.Fields = IsMadeOf Value.fields v
Made v kind.Nil = v ≡ Value.nil
Made v _ = Unit {0}

made : (v : Tree) → Made v (kind_of v)
made (Value.many vs) = record { parts = vs; is = refl }
made (Value.pairs ps) = record { parts = ps; is = refl }
made (Value.fields fs) = record { parts = fs; is = refl }
made Value.nil = refl
made _ = tt

pub as_many : (v : Tree) → kind.Many ≡ kind_of v → IsMadeOf Value.many v
as_many v e = subst (Made v) (sym e) (made v)

pub as_pairs : (v : Tree) → kind.Pairs ≡ kind_of v → IsMadeOf Value.pairs v
as_pairs v e = subst (Made v) (sym e) (made v)

pub as_fields : (v : Tree) → kind.Fields ≡ kind_of v → IsMadeOf Value.fields v
as_fields v e = subst (Made v) (sym e) (made v)

pub as_nil : (v : Tree) → kind.Nil ≡ kind_of v → v ≡ Value.nil
as_nil v e = subst (Made v) (sym e) (made v)

-- ---- the next part

abbrev pub NextIs : Children → Option View → Children → Type 0
NextIs old part new = (xs : List (Option ℕ × Tree)) → Gives old xs → GivesNext new xs part

pub next_is : {old new : Children} {given part : Option View} → GivesPart old given new → given ≡ part
    → NextIs old part new
next_is {new = new} p e = λ xs h. subst (λ p. GivesNext new xs p) e (p.next xs h)

pub fewer_left : {old new : Children} {given : Option View} {part : View} → GivesPart old given new → given ≡ Some part
    → nodes_left new < nodes_left old
fewer_left {old = old} {new = new} {part = part} p e = by (subst (λ p. TakesNodes old new p) e p.nodes)
  where
    by : TakesNodes old new (Some part) → nodes_left new < nodes_left old
    by (takes_some a b) = b

-- a part has no more nodes than were left
pub within_left : {old new : Children} {given : Option View} {part : View} → GivesPart old given new
    → given ≡ Some part → nodes_from part ≤ nodes_left old
within_left {old = old} {new = new} {part = part} p e = by (subst (λ p. TakesNodes old new p) e p.nodes)
  where
    by : TakesNodes old new (Some part) → nodes_from part ≤ nodes_left old
    by (takes_some a b) = a

-- no more nodes are left than a loop began with
pub none_fewer : {parts others : Children} → others ≡ parts → nodes_left others ≤ nodes_left parts
none_fewer e = let f = ap nodes_left e in omega arith

pub still_fewer : {old new : Children} {given : Option View} {part : View} {n : ℕ} → GivesPart old given new
    → given ≡ Some part → nodes_left old ≤ n → nodes_left new ≤ n
still_fewer p e h = let f = fewer_left p e in omega arith

-- ---- parts that are written one behind another, where their nils show what N has from a number on

-- the number of the next part, up to that behind the last, and what nils show there
pub record Stands (to : (ℕ → Data) → ℕ → Type 0) (N : ℕ → Data) (number count end : ℕ) : Type 0 where
  pub shown : to N number
  pub ends : number + count ≡ end

end_shown : {to : (ℕ → Data) → ℕ → Type 0} {N : ℕ → Data} {number end : ℕ} → Stands to N number 0 end → to N end
end_shown {to = to} {N = N} {number = number} {end = end} s =
    let same : number ≡ end = let k = s.ends in omega arith in
    subst (to N) same s.shown

-- ---- elements

-- these elements are to come, and with what is written of them the tokens are all
pub record ElementsLeft (N : ℕ → Data) (T : Table) (e : TypeId) (shown : (ℕ → Data) → ℕ → Type 0) (parts : Children)
    (old now : Written) (end : ℕ) (all : List Token) : Type 0 where
  pub rest : Trees
  pub number : ℕ
  pub gives : Gives parts (elements rest)
  pub stands : Stands shown N number (parts_of_all rest) end
  pub left : IsLeft old now (items_tokens (items_outline (elements_json_with N T e number rest))) all

pub elements_begun : {E : Type 0} {u : Unit {0}} {N : ℕ → Data} {T : Table} {e : TypeId}
    {shown : (ℕ → Data) → ℕ → Type 0} {parts : Children} {old now : Written} (n : ℕ) (vs : Trees)
    → WritesTokens {E = E} (Ok u) old now (Token.begin_array ∷ []) → Gives parts (elements vs) → shown N n
    → ElementsLeft N T e shown parts old now (n + parts_of_all vs)
    (json_tokens (outline (array (elements_json_with N T e n vs))))
elements_begun n vs w g s = record {
  rest = vs;
  number = n;
  gives = g;
  stands = record { shown = s; ends = refl };
  left = left_begun _ w;
}

pub elements_on : {E : Type 0} {u : Unit {0}} {N : ℕ → Data} {T : Table} {e : TypeId}
    {shown after : (ℕ → Data) → ℕ → Type 0} {parts others : Children} {part : View} {old now new : Written} {end : ℕ}
    {all : List Token}
    → ElementsLeft N T e shown parts old now end all → NextIs parts (Some part) others
    → WritesOn {E = E} (Ok u) now new (Shows part) shown after part_count (λ N n. value_json_with N T e n)
    → ElementsLeft N T e after others old new end all
elements_on {N = N} {T = T} {e = e} {shown = shown} {after = after} {others = others} {part = part} {old = old}
    {now = now} {new = new} {end = end} {all = all} l n w = by l.number l.rest l.stands l.left (n _ l.gives)
  where
    by : (m : ℕ) (vs : Trees) → Stands shown N m (parts_of_all vs) end
        → IsLeft old now (items_tokens (items_outline (elements_json_with N T e m vs))) all
        → GivesNext others (elements vs) (Some part) → ElementsLeft N T e after others old new end all
    by m no_tree s q h = elim h [ ]
    by m (tree v vs) s q (gives_one p g) =
        let written = w.each v N m (None, p) s.shown in record {
          rest = vs;
          number = m + part_count v;
          gives = g;
          stands = record { shown = written.1; ends = let k = s.ends in omega arith };
          left = left_on _ q written.0;
        }

pub elements_end : {E : Type 0} {r : Result (Unit {0}) E} {N : ℕ → Data} {T : Table} {e : TypeId}
    {shown : (ℕ → Data) → ℕ → Type 0} {parts others : Children} {old now new : Written} {end : ℕ} {all : List Token}
    → ElementsLeft N T e shown parts old now end all → NextIs parts None others
    → WritesTokens r now new (Token.end_array ∷ [])
    → WritesTokens r old new all × OnOk r (shown N end)
elements_end {r = r} {N = N} {T = T} {e = e} {shown = shown} {others = others} {old = old} {now = now} {new = new}
    {end = end} {all = all} l n w = by l.number l.rest l.stands l.left (n _ l.gives)
  where
    by : (m : ℕ) (vs : Trees) → Stands shown N m (parts_of_all vs) end
        → IsLeft old now (items_tokens (items_outline (elements_json_with N T e m vs))) all
        → GivesNext others (elements vs) None → WritesTokens r old new all × OnOk r (shown N end)
    by m no_tree s q h = (left_end q w, on_ok_of r (end_shown s))
    by m (tree v vs) s q h = elim h [ ]

-- ---- fields

pub record FieldsLeft (N : ℕ → Data) (T : Table) (types : List Field) (shown : (ℕ → Data) → ℕ → Type 0)
    (parts : Children) (old now : Written) (end : ℕ) (all : List Token) : Type 0 where
  pub rest : Fields
  pub number : ℕ
  pub gives : Gives parts (present rest)
  pub stands : Stands shown N number (parts_of_fields rest) end
  pub left : IsLeft old now (items_tokens (items_outline (fields_json_with N T types number rest))) all

-- the number, the name and the value of a field
abbrev pub field_json : Table → List Field → ℕ → Tree → Data
field_json T types f v = triple_json (natural_json f) (text_json (field_name (slice_get types f)))
    (value_json T (field_type (slice_get types f)) v)

abbrev pub field_json_with : (ℕ → Data) → Table → List Field → ℕ → ℕ → Tree → Data
field_json_with N T types n f v = triple_json (natural_json f) (text_json (field_name (slice_get types f)))
    (value_json_with N T (field_type (slice_get types f)) n v)

pub fields_begun : {E : Type 0} {u : Unit {0}} {N : ℕ → Data} {T : Table} {types : List Field}
    {shown : (ℕ → Data) → ℕ → Type 0} {parts : Children} {old now : Written} (n : ℕ) (fs : Fields)
    → WritesTokens {E = E} (Ok u) old now (Token.begin_array ∷ []) → Gives parts (present fs) → shown N n
    → FieldsLeft N T types shown parts old now (n + parts_of_fields fs)
    (json_tokens (outline (array (fields_json_with N T types n fs))))
fields_begun n fs w g s = record {
  rest = fs;
  number = n;
  gives = g;
  stands = record { shown = s; ends = refl };
  left = left_begun _ w;
}

-- a field of this number was written
pub record WritesField (E : Type 0) (u : Unit {0}) (N : ℕ → Data) (T : Table) (types : List Field)
    (shown after : (ℕ → Data) → ℕ → Type 0) (part : View) (now new : Written) : Type 0 where
  pub each : (f n : ℕ) (v : Tree) → Sees part (Some f) v → shown N n
      → WritesTokens {E = E} (Ok u) now new (json_tokens (outline (field_json_with N T types n f v)))
      × after N (n + part_count v)

pub fields_on : {E : Type 0} {u : Unit {0}} {N : ℕ → Data} {T : Table} {types : List Field}
    {shown after : (ℕ → Data) → ℕ → Type 0} {parts others : Children} {part : View} {old now new : Written} {end : ℕ}
    {all : List Token}
    → FieldsLeft N T types shown parts old now end all → NextIs parts (Some part) others
    → WritesField E u N T types shown after part now new → FieldsLeft N T types after others old new end all
fields_on {N = N} {T = T} {types = types} {shown = shown} {after = after} {others = others} {part = part} {old = old}
    {now = now} {new = new} {end = end} {all = all} l n w = by l.number l.rest l.stands l.left (n _ l.gives)
  where
    by : (m : ℕ) (fs : Fields) → Stands shown N m (parts_of_fields fs) end
        → IsLeft old now (items_tokens (items_outline (fields_json_with N T types m fs))) all
        → GivesNext others (present fs) (Some part) → FieldsLeft N T types after others old new end all
    by m no_field s q h = elim h [ ]
    by m (field f v fs) s q (gives_one p g) =
        let written = w.each f m v p s.shown in record {
          rest = fs;
          number = m + part_count v;
          gives = g;
          stands = record { shown = written.1; ends = let k = s.ends in omega arith };
          left = left_on _ q written.0;
        }

pub fields_end : {E : Type 0} {r : Result (Unit {0}) E} {N : ℕ → Data} {T : Table} {types : List Field}
    {shown : (ℕ → Data) → ℕ → Type 0} {parts others : Children} {old now new : Written} {end : ℕ} {all : List Token}
    → FieldsLeft N T types shown parts old now end all → NextIs parts None others
    → WritesTokens r now new (Token.end_array ∷ [])
    → WritesTokens r old new all × OnOk r (shown N end)
fields_end {r = r} {N = N} {T = T} {types = types} {shown = shown} {others = others} {old = old} {now = now}
    {new = new} {end = end} {all = all} l n w = by l.number l.rest l.stands l.left (n _ l.gives)
  where
    by : (m : ℕ) (fs : Fields) → Stands shown N m (parts_of_fields fs) end
        → IsLeft old now (items_tokens (items_outline (fields_json_with N T types m fs))) all
        → GivesNext others (present fs) None → WritesTokens r old new all × OnOk r (shown N end)
    by m no_field s q h = (left_end q w, on_ok_of r (end_shown s))
    by m (field f v fs) s q h = elim h [ ]

-- ---- entries

-- the element of a key that was written, and then these entries, are to come; or these entries
pub data EntriesLeft (N : ℕ → Data) (T : Table) (k e : TypeId) (shown : (ℕ → Data) → ℕ → Type 0) (parts : Children)
    (old now : Written) (end : ℕ) (all : List Token) : Bool → Type 0 where
  key_next : (n : ℕ) (ps : Pairs) → Gives parts (alternating ps) → Stands shown N n (parts_of_pairs ps) end
      → IsLeft old now (items_tokens (items_outline (pairs_json_with N T k e n ps))) all
      → EntriesLeft N T k e shown parts old now end all true
  element_next : (n : ℕ) (v : Tree) (ps : Pairs) → Gives parts ((None, v) ∷ alternating ps)
      → Stands shown N n (part_count v + parts_of_pairs ps) end
      → IsLeft old now ((json_tokens (outline (value_json_with N T e n v)) ++ Token.end_array ∷ [])
      ++ items_tokens (items_outline (pairs_json_with N T k e (n + part_count v) ps))) all
      → EntriesLeft N T k e shown parts old now end all false

pub entries_begun : {E : Type 0} {u : Unit {0}} {N : ℕ → Data} {T : Table} {k e : TypeId}
    {shown : (ℕ → Data) → ℕ → Type 0} {parts : Children} {old now : Written} (n : ℕ) (ps : Pairs)
    → WritesTokens {E = E} (Ok u) old now (Token.begin_array ∷ []) → Gives parts (alternating ps) → shown N n
    → EntriesLeft N T k e shown parts old now (n + parts_of_pairs ps)
    (json_tokens (outline (array (pairs_json_with N T k e n ps)))) true
entries_begun n ps w g s = key_next n ps g (record { shown = s; ends = refl }) (left_begun _ w)

module _ {E : Type 0} {u : Unit {0}} {N : ℕ → Data} {T : Table} {k e : TypeId}
    {shown after : (ℕ → Data) → ℕ → Type 0} {parts others : Children} {part : View} {old now mid new : Written}
    {end : ℕ} {all : List Token} where
  key_on : EntriesLeft N T k e shown parts old now end all true → NextIs parts (Some part) others
      → WritesTokens {E = E} (Ok u) now mid (Token.begin_array ∷ [])
      → WritesOn {E = E} (Ok u) mid new (Shows part) shown after part_count (λ N n. value_json_with N T k n)
      → EntriesLeft N T k e after others old new end all false
  key_on (key_next n ps g s q) next b w = by ps s q (next _ g)
    where
      by : (ps : Pairs) → Stands shown N n (parts_of_pairs ps) end
          → IsLeft old now (items_tokens (items_outline (pairs_json_with N T k e n ps))) all
          → GivesNext others (alternating ps) (Some part) → EntriesLeft N T k e after others old new end all false
      by no_pair s q h = elim h [ ]
      by (pair x v ps) s q (gives_one p g) =
          let m = n + part_count x in
          let key = json_tokens (outline (value_json_with N T k n x)) in
          let element = json_tokens (outline (value_json_with N T e m v)) ++ Token.end_array ∷ [] in
          let rest = items_tokens (items_outline (pairs_json_with N T k e (m + part_count v) ps)) in
          let same = ap (λ (l : List Token). Token.begin_array ∷ l) (append_assoc key element rest) in
          let written = w.each x N n (None, p) s.shown in
          element_next m v ps g (record { shown = written.1; ends = let a = s.ends in omega arith })
          (left_on (element ++ rest) (subst (λ l. IsLeft old now l all) same q) (both_written b written.0))

  element_on : EntriesLeft N T k e shown parts old now end all false → NextIs parts (Some part) others
      → WritesOn {E = E} (Ok u) now mid (Shows part) shown after part_count (λ N n. value_json_with N T e n)
      → WritesTokens {E = E} (Ok u) mid new (Token.end_array ∷ [])
      → EntriesLeft N T k e after others old new end all true
  element_on (element_next n v ps g s q) next w d = by (next _ g)
    where
      by : GivesNext others ((None, v) ∷ alternating ps) (Some part)
          → EntriesLeft N T k e after others old new end all true
      by (gives_one p h) =
          let written = w.each v N n (None, p) s.shown in
          key_next (n + part_count v) ps h (record { shown = written.1; ends = let a = s.ends in omega arith })
          (left_on _ q (both_written written.0 d))

  -- a key, and an element, was written
  pub key_turn : {is_key : Bool} {out : Written} → out ≡ new → is_key ≡ true
      → EntriesLeft N T k e shown parts old now end all is_key → NextIs parts (Some part) others
      → WritesTokens {E = E} (Ok u) now mid (Token.begin_array ∷ [])
      → WritesOn {E = E} (Ok u) mid new (Shows part) shown after part_count (λ N n. value_json_with N T k n)
      → EntriesLeft N T k e after others old out end all (not is_key)
  key_turn {is_key = is_key} is h l n b w =
      subst (λ o. EntriesLeft N T k e after others old o end all (not is_key)) (sym is)
      (subst (λ x. EntriesLeft N T k e after others old new end all (not x)) (sym h)
      (key_on (subst (λ x. EntriesLeft N T k e shown parts old now end all x) h l) n b w))

  pub element_turn : {is_key : Bool} {out : Written} → out ≡ new → is_key ≡ false
      → EntriesLeft N T k e shown parts old now end all is_key → NextIs parts (Some part) others
      → WritesOn {E = E} (Ok u) now mid (Shows part) shown after part_count (λ N n. value_json_with N T e n)
      → WritesTokens {E = E} (Ok u) mid new (Token.end_array ∷ [])
      → EntriesLeft N T k e after others old out end all (not is_key)
  element_turn {is_key = is_key} is h l n w d =
      subst (λ o. EntriesLeft N T k e after others old o end all (not is_key)) (sym is)
      (subst (λ x. EntriesLeft N T k e after others old new end all (not x)) (sym h)
      (element_on (subst (λ x. EntriesLeft N T k e shown parts old now end all x) h l) n w d))

pub entries_end : {E : Type 0} {r : Result (Unit {0}) E} {N : ℕ → Data} {T : Table} {k e : TypeId}
    {shown : (ℕ → Data) → ℕ → Type 0} {parts others : Children} {old now new : Written} {end : ℕ} {all : List Token}
    {is_key : Bool}
    → EntriesLeft N T k e shown parts old now end all is_key → NextIs parts None others
    → WritesTokens r now new (Token.end_array ∷ [])
    → WritesTokens r old new all × OnOk r (shown N end)
entries_end {r = r} {N = N} {T = T} {k = k} {e = e} {shown = shown} {others = others} {old = old} {now = now}
    {new = new} {end = end} {all = all} (key_next n ps g s q) next w = by ps s q (next _ g)
  where
    by : (ps : Pairs) → Stands shown N n (parts_of_pairs ps) end
        → IsLeft old now (items_tokens (items_outline (pairs_json_with N T k e n ps))) all
        → GivesNext others (alternating ps) None → WritesTokens r old new all × OnOk r (shown N end)
    by no_pair s q h = (left_end q w, on_ok_of r (end_shown s))
    by (pair x v ps) s q h = elim h [ ]
entries_end {r = r} {N = N} {shown = shown} {others = others} {old = old} {new = new} {end = end} {all = all}
    (element_next n v ps g s q) next w = by (next _ g)
  where
    by : GivesNext others ((None, v) ∷ alternating ps) None → WritesTokens r old new all × OnOk r (shown N end)
    by h = elim h [ ]

-- ---- what an interface holds

front_then : (name value : List Token) (k n l e : Token)
    → (name ++ (k ∷ (n ∷ (l ∷ [])))) ++ (value ++ (e ∷ (e ∷ [])))
    ≡ (name ++ (k ∷ (n ∷ (l ∷ (value ++ e ∷ []))))) ++ e ∷ []
front_then name value k n l e =
    append_assoc name (k ∷ (n ∷ (l ∷ []))) (value ++ (e ∷ (e ∷ [])))
    ∙ ap (λ (x : List Token). name ++ (k ∷ (n ∷ (l ∷ x)))) (sym (append_assoc value (e ∷ []) (e ∷ [])))
    ∙ sym (append_assoc name (k ∷ (n ∷ (l ∷ (value ++ e ∷ [])))) (e ∷ []))

pub null_written : {E X : Type 0} {r : Result (Unit {0}) E} {shows : Table → X → (ℕ → Data) → ℕ → Type 0}
    {T : Table} {old new : Written} {json : Data}
    → HeldShows shows T None json → WritesTokens r old new (Token.null ∷ []) → WritesJson r old new json
null_written holds_none w = w

-- behind the name and the id of the type the value was written
pub held_written : {E X : Type 0} {r : Result (Unit {0}) E} {u : Unit {0}}
    {shows : Table → X → (ℕ → Data) → ℕ → Type 0} {T : Table} {old mid before behind new : Written} {held : Held X}
    {json : Data}
    → HeldShows shows T (Some held) json
    → WritesTokens {E = E} (Ok u) old mid (interface_front held.name.items held.id)
    → ((v : Tree) (N : ℕ → Data) → Means held.tape v → shows T held.nils N 0
    → WritesJson {E = E} (Ok u) mid before (value_json_with N T held.id 0 v))
    → WritesTokens {E = E} (Ok u) before behind (Token.end_object ∷ [])
    → WritesTokens r behind new (Token.end_object ∷ [])
    → WritesJson r old new json
held_written {r = r} {T = T} {old = old} {new = new} (holds {v = v} {N = N} held m s) front value one other =
    let name = json_tokens (outline (text_json held.name.items)) in
    let inner = json_tokens (outline (value_json_with N T held.id 0 v)) in
    let same = ap (λ (x : List Token). Token.begin_object ∷ (Token.key (codes "interface") ∷ (Token.begin_object
    ∷ (Token.key (codes "name") ∷ x))))
    (front_then name inner (Token.key (codes "type")) (Token.number (decimal held.id.0))
    (Token.key (codes "value")) Token.end_object) in
    subst (WritesTokens r old new) same
    (both_written front (both_written (value v N m s) (both_written one other)))

-- the token of a signed number
pub integer_token : (i : ℤ) → Token.number (signed_decimal i) ∷ [] ≡ json_tokens (outline (integer_json i))
integer_token (pos n) = refl
integer_token (negsuc n) = refl
