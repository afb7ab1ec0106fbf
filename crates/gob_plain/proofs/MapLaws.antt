-- Whether a map is an object depends on its keys alone, and they keep their names where zeros are put back.
use Rattle.std.proofs.Common.{◌≡◌, ◌≢◌, ◌∙◌, ℕ, List, [], ◌∷◌, Bool, true, false, not, ◌&&◌, ◌||◌, refl, ap}
use Rattle.std.specs.Prelude.{◌==◌, if◌then◌else◌}
use Rattle.std.specs.Str.{is_utf8}
use Rattle.gob_types.specs.declared.id.TypeId.{TypeId}
use Rattle.gob_types.specs.Table.{Table}
use Rattle.gob_value.specs.Tree.{Tree, Pairs, no_pair, pair}
use Rattle.gob_value.specs.Tree as Value
use Rattle.gob_tape.specs.declared.kind.ValueKind.TheVariants as kind
use Rattle.gob_tape.specs.Seeing.{bytes_of, kind_of}
use Rattle.gob_plain.specs.declared.style.Style.{Style}
use Rattle.gob_plain.specs.Filled.{filled, pairs_filled, shown_pairs}
use Rattle.gob_plain.specs.Plain.{all_differ, are_bare, are_named, are_utf8, gives_names, has_parts, is_nil, key_names}
use Rattle.gob_plain.specs.Plain.{key_text, may_be_named, text_bytes}
use Rattle.gob_plain.specs.Machine.Naming.{nil_kind, parts_kind}

-- ---- by kinds

pub nil_by_kind : (v : Tree) → nil_kind (kind_of v) ≡ is_nil v
nil_by_kind (Value.bool b) = refl
nil_by_kind (Value.int i) = refl
nil_by_kind (Value.uint n) = refl
nil_by_kind (Value.float p) = refl
nil_by_kind (Value.complex p q) = refl
nil_by_kind (Value.bytes b) = refl
nil_by_kind (Value.text b) = refl
nil_by_kind Value.nil = refl
nil_by_kind (Value.many vs) = refl
nil_by_kind (Value.pairs ps) = refl
nil_by_kind (Value.fields fs) = refl
nil_by_kind (Value.opaque b) = refl

pub parts_by_kind : (v : Tree) → parts_kind (kind_of v) ≡ has_parts v
parts_by_kind (Value.bool b) = refl
parts_by_kind (Value.int i) = refl
parts_by_kind (Value.uint n) = refl
parts_by_kind (Value.float p) = refl
parts_by_kind (Value.complex p q) = refl
parts_by_kind (Value.bytes b) = refl
parts_by_kind (Value.text b) = refl
parts_by_kind Value.nil = refl
parts_by_kind (Value.many vs) = refl
parts_by_kind (Value.pairs ps) = refl
parts_by_kind (Value.fields fs) = refl
parts_by_kind (Value.opaque b) = refl

-- ---- with zeros

-- what is told of a value by its kind and its bytes
pub record IsAlike (v w : Tree) : Type 0 where
  pub name : key_text v ≡ key_text w
  pub bytes : text_bytes v ≡ text_bytes w
  pub nil : is_nil v ≡ is_nil w
  pub parts : has_parts v ≡ has_parts w

pub filled_alike : (T : Table) (t : TypeId) (v : Tree) → IsAlike (filled T t v) v
filled_alike T t (Value.bool b) = record { name = refl; bytes = refl; nil = refl; parts = refl }
filled_alike T t (Value.int i) = record { name = refl; bytes = refl; nil = refl; parts = refl }
filled_alike T t (Value.uint n) = record { name = refl; bytes = refl; nil = refl; parts = refl }
filled_alike T t (Value.float p) = record { name = refl; bytes = refl; nil = refl; parts = refl }
filled_alike T t (Value.complex p q) = record { name = refl; bytes = refl; nil = refl; parts = refl }
filled_alike T t (Value.bytes b) = record { name = refl; bytes = refl; nil = refl; parts = refl }
filled_alike T t (Value.text b) = record { name = refl; bytes = refl; nil = refl; parts = refl }
filled_alike T t Value.nil = record { name = refl; bytes = refl; nil = refl; parts = refl }
filled_alike T t (Value.many vs) = record { name = refl; bytes = refl; nil = refl; parts = refl }
filled_alike T t (Value.pairs ps) = record { name = refl; bytes = refl; nil = refl; parts = refl }
filled_alike T t (Value.fields fs) = record { name = refl; bytes = refl; nil = refl; parts = refl }
filled_alike T t (Value.opaque b) = record { name = refl; bytes = refl; nil = refl; parts = refl }

utf8_filled : (T : Table) (k e : TypeId) (ps : Pairs) → are_utf8 (pairs_filled T k e ps) ≡ are_utf8 ps
utf8_filled T k e no_pair = refl
utf8_filled T k e (pair x v ps) =
    ap (λ b. is_utf8 b && are_utf8 (pairs_filled T k e ps)) (filled_alike T k x).bytes
    ∙ ap (λ b. is_utf8 (text_bytes x) && b) (utf8_filled T k e ps)

names_filled : (T : Table) (k e : TypeId) (ps : Pairs) → key_names (pairs_filled T k e ps) ≡ key_names ps
names_filled T k e no_pair = refl
names_filled T k e (pair x v ps) =
    ap (λ (s : List ℕ). s ∷ key_names (pairs_filled T k e ps)) (filled_alike T k x).name
    ∙ ap (λ l. key_text x ∷ l) (names_filled T k e ps)

bare_filled : (T : Table) (k e : TypeId) (ps : Pairs) → are_bare (pairs_filled T k e ps) ≡ are_bare ps
bare_filled T k e no_pair = refl
bare_filled T k e (pair x v ps) =
    let rest = are_bare (pairs_filled T k e ps) in
    ap (λ b. b && (not (has_parts (filled T e v)) && rest)) (filled_alike T k x).nil
    ∙ ap (λ b. is_nil x && (not b && rest)) (filled_alike T e v).parts
    ∙ ap (λ b. is_nil x && (not (has_parts v) && b)) (bare_filled T k e ps)

pub named_filled : (T : Table) (k e : TypeId) (ps : Pairs) → are_named k (pairs_filled T k e ps) ≡ are_named k ps
named_filled T k e ps =
    ap (λ b. gives_names k && (b || all_differ (key_names (pairs_filled T k e ps)))) (utf8_filled T k e ps)
    ∙ ap (λ l. gives_names k && (are_utf8 ps || all_differ l)) (names_filled T k e ps)

held_filled : (T : Table) (k e : TypeId) (ps : Pairs)
    → may_be_named k (pairs_filled T k e ps) ≡ may_be_named k ps
held_filled T k e ps = ap (λ b. (k.0 == 8) && b) (bare_filled T k e ps)

pub named_shown : (style : Style) (T : Table) (k e : TypeId) (ps : Pairs)
    → are_named k (shown_pairs style T k e ps) ≡ are_named k ps
named_shown style T k e ps = by style.zeros
  where
    by : (z : Bool) → are_named k (if z then pairs_filled T k e ps else ps) ≡ are_named k ps
    by true = named_filled T k e ps
    by false = refl

pub held_shown : (style : Style) (T : Table) (k e : TypeId) (ps : Pairs)
    → may_be_named k (shown_pairs style T k e ps) ≡ may_be_named k ps
held_shown style T k e ps = by style.zeros
  where
    by : (z : Bool) → may_be_named k (if z then pairs_filled T k e ps else ps) ≡ may_be_named k ps
    by true = held_filled T k e ps
    by false = refl

-- ---- texts by their kind

pub text_by_kind : (v : Tree) → kind.Str ≡ kind_of v → bytes_of v ≡ text_bytes v
text_by_kind (Value.text b) e = refl
text_by_kind Value.nil e = refl
text_by_kind (Value.bool b) e = refl
text_by_kind (Value.int i) e = refl
text_by_kind (Value.uint n) e = refl
text_by_kind (Value.float p) e = refl
text_by_kind (Value.complex p q) e = refl
text_by_kind (Value.bytes b) e = cc
text_by_kind (Value.many vs) e = refl
text_by_kind (Value.pairs ps) e = refl
text_by_kind (Value.fields fs) e = refl
text_by_kind (Value.opaque b) e = cc

pub no_text_by_kind : (v : Tree) → (kind_of v ≢ kind.Str) → text_bytes v ≡ []
no_text_by_kind (Value.text b) n = absurd (n refl)
no_text_by_kind Value.nil n = refl
no_text_by_kind (Value.bool b) n = refl
no_text_by_kind (Value.int i) n = refl
no_text_by_kind (Value.uint x) n = refl
no_text_by_kind (Value.float p) n = refl
no_text_by_kind (Value.complex p q) n = refl
no_text_by_kind (Value.bytes b) n = refl
no_text_by_kind (Value.many vs) n = refl
no_text_by_kind (Value.pairs ps) n = refl
no_text_by_kind (Value.fields fs) n = refl
no_text_by_kind (Value.opaque b) n = refl
