-- Keys of maps: those of the types string, int and uint give names, and those of interfaces are nil.
use Rattle.std.proofs.Common.{◌≡◌, ◌∙◌, ◌==◌, ◌||◌, ◌++◌, ◌⊎◌, ℕ, ℤ, List, [], Bool, true, false}
use Rattle.std.proofs.Common.{cond, codes}
use Rattle.std.proofs.Common.{Some, ap, arith, inl, inr, not, refl, sym, subst, true≢false}
use Rattle.std.specs.Prelude.{⊤}
use Rattle.std.specs.Str.{is_utf8}
use Rattle.std.proofs.lemmas.Bool.{eqb-true}
use Rattle.std.proofs.lemmas.Str.{IsUtf8-from_ascii, is_utf8-from_IsUtf8}
use Rattle.hex.specs.Hex.{encode_lower}
use Rattle.json.specs.Json.{Json}
use Rattle.serde_json.specs.Written.{outline}
use Rattle.gob_types.specs.Base.{base_table}
use Rattle.gob_types.specs.declared.basic.Basic.{Basic}
use Rattle.gob_types.specs.declared.basic.Basic.TheVariants as basic
use Rattle.gob_types.specs.declared.id.TypeId.{TypeId}
use Rattle.gob_types.specs.declared.kind.Kind.{Kind}
use Rattle.gob_types.specs.declared.kind.Kind.TheVariants as kind
use Rattle.gob_types.specs.declared.kind.Shape.{Shape}
use Rattle.gob_types.specs.Defined.{IsTable}
use Rattle.gob_types.specs.Table.{Table, basic_of, shape_of}
use Rattle.gob_types.proofs.PublicLaws.{some_injective}
use Rattle.gob_value.specs.Tree.{Tree}
use Rattle.gob_value.specs.Tree as Value
use Rattle.gob_json.specs.Json.{text_json, value_json}
use Rattle.gob_plain.specs.OpaqueText.{Takes, content_of}
use Rattle.gob_plain.specs.Plain.{Says, gives_names, key_text, text_bytes}
use Rattle.gob_make.specs.Leaf.{ReadsBasic, ReadsKey}
use Rattle.gob_make.specs.Leaf as leaf
use Rattle.gob_make.specs.Plain.{ReadsAs, ReadsPlain}
use Rattle.gob_make.specs.Plain as plain
use Rattle.gob_make.specs.Zero.{IsZeroAs, IsZeroOf}
use Rattle.gob_make.specs.Zero as zero
use Rattle.gob_made_back.specs.Alike.{IsKeyNamed, is_object, name_of}
use Rattle.gob_made_back.specs.Alike as alike
use Rattle.gob_made_back.proofs.LeafLaws.{integer_shown}

-- what opaque values are taken for where nothing is said of them
abbrev pub guessed : Takes
guessed t s = content_of false s

-- ---- which values keys are

-- a text or a whole number
pub data GivesName : Tree → Type 0 where
  a_text : {b : List ℕ} → GivesName (Value.text b)
  an_int : {i : ℤ} → GivesName (Value.int i)
  an_uint : {n : ℕ} → GivesName (Value.uint n)

-- as a key of this kind a value gives a name, is nil, or is any
abbrev FitsKey : Kind → Tree → Type 0
FitsKey (kind.Basic basic.Str) x = GivesName x
FitsKey (kind.Basic basic.Int) x = GivesName x
FitsKey (kind.Basic basic.Uint) x = GivesName x
FitsKey (kind.Basic basic.Interface) x = x ≡ Value.nil
FitsKey _ x = ⊤

zero_fits : {T : Table} {k : Kind} {x : Tree} → IsZeroAs T k x → FitsKey k x
zero_fits zero.of_bool = tt
zero_fits zero.of_int = an_int
zero_fits zero.of_uint = an_uint
zero_fits zero.of_float = tt
zero_fits zero.of_bytes = tt
zero_fits zero.of_text = a_text
zero_fits zero.of_complex = tt
zero_fits zero.of_interface = refl
zero_fits zero.of_slice = tt
zero_fits zero.of_map = tt
zero_fits zero.of_struct = tt
zero_fits (zero.of_array f) = tt

basic_fits : {b : Basic} {j : Json} {x : Tree} → ReadsBasic b j x → FitsKey (kind.Basic b) x
basic_fits leaf.of_bool = tt
basic_fits (leaf.of_int fits) = an_int
basic_fits (leaf.of_uint small) = an_uint
basic_fits (leaf.of_float r) = tt
basic_fits (leaf.of_complex r q) = tt
basic_fits (leaf.of_bytes s) = tt
basic_fits leaf.of_text = a_text

as_fits : {lenient : Bool} {T : Table} {s : Shape} {j : Json} {x : Tree} → ReadsAs lenient T s j x → FitsKey s.kind x
as_fits {x = x} (plain.of_basic is r) = subst (λ k. FitsKey k x) (sym is) (basic_fits r)
as_fits {x = x} (plain.of_opaque is r) = subst (λ k. FitsKey k x) (sym is) tt
as_fits {x = x} (plain.of_slice is r) = subst (λ k. FitsKey k x) (sym is) tt
as_fits {x = x} (plain.of_array is r f) = subst (λ k. FitsKey k x) (sym is) tt
as_fits {x = x} (plain.of_pairs is r) = subst (λ k. FitsKey k x) (sym is) tt
as_fits {x = x} (plain.of_entries is r) = subst (λ k. FitsKey k x) (sym is) tt
as_fits {x = x} (plain.of_struct is r k) = subst (λ l. FitsKey l x) (sym is) tt

shape_fits : {T : Table} {t : TypeId} {x : Tree} (s : Shape) → shape_of T t ≡ Some s → IsZeroOf T t x
    → FitsKey s.kind x
shape_fits {x = x} s has (zero.of_type there z) =
    subst (λ (r : Shape). FitsKey r.kind x) (some_injective (sym there ∙ has)) (zero_fits z)

plain_fits : {lenient : Bool} {T : Table} {t : TypeId} {j : Json} {x : Tree} (s : Shape) → shape_of T t ≡ Some s
    → ReadsPlain lenient T t j x → FitsKey s.kind x
plain_fits s has (plain.of_null z) = shape_fits s has z
plain_fits {x = x} s has (plain.of_type there r) =
    subst (λ (r : Shape). FitsKey r.kind x) (some_injective (sym there ∙ has)) (as_fits r)

-- ---- by the ids of the base table

abbrev id_at : ℕ → TypeId
id_at n = record { 0 = n }

-- what holds of the base table with any definitions behind it holds of a table
based : (T : Table) → IsTable T → (P : Table → Type 0) → ((more : Table) → P (base_table ++ more)) → P T
based T known P h = subst P (sym known.behind_base) (h known.definitions)

-- the key of a map's entry, by the type of the keys
pub record IsKey (t : TypeId) (x : Tree) : Type 0 where
  pub named : gives_names t ≡ true → GivesName x
  pub nil : (t.0 == 8) ≡ true → x ≡ Value.nil

-- one of the three types that give names
abbrev IsNamingId : ℕ → Type 0
IsNamingId n = (n ≡ 6) ⊎ ((n ≡ 2) ⊎ (n ≡ 3))

naming_id : (n : ℕ) (a b c : Bool) → (n == 6) ≡ a → (n == 2) ≡ b → (n == 3) ≡ c → (a || (b || c)) ≡ true
    → IsNamingId n
naming_id n true b c p q r e = inl (eqb-true n 6 p)
naming_id n false true c p q r e = inr (inl (eqb-true n 2 q))
naming_id n false false true p q r e = inr (inr (eqb-true n 3 r))
naming_id n false false false p q r e = absurd (true≢false (sym e))

-- what is read at a type of the base table fits its kind
fits_at : {lenient : Bool} {T : Table} {t : TypeId} {j : Json} {x : Tree} (n : ℕ) (s : Shape) → IsTable T → t.0 ≡ n
    → ((more : Table) → shape_of (base_table ++ more) (id_at n) ≡ Some s) → ReadsPlain lenient T t j x
    → FitsKey s.kind x
fits_at {T = T} n s known is there r =
    plain_fits s (ap (λ m. shape_of T (id_at m)) is ∙ based T known (λ U. shape_of U (id_at n) ≡ Some s) there) r

pub plain_key : {lenient : Bool} {T : Table} {t : TypeId} {j : Json} {x : Tree} → IsTable T → ReadsPlain lenient T t j x
    → IsKey t x
plain_key {t = t} {x = x} known r = record {
  named = λ e. elim (naming_id t.0 _ _ _ refl refl refl e) [
    | inl is ↦ fits_at 6 (record { name = codes "string"; kind = kind.Basic basic.Str }) known is (λ more. refl) r
    | inr (inl is) ↦ fits_at 2 (record { name = codes "int"; kind = kind.Basic basic.Int }) known is (λ more. refl) r
    | inr (inr is) ↦ fits_at 3 (record { name = codes "uint"; kind = kind.Basic basic.Uint }) known is (λ more. refl) r
  ];
  nil = λ e. fits_at 8 (record { name = codes "interface"; kind = kind.Basic basic.Interface }) known
      (eqb-true t.0 8 e) (λ more. refl) r;
}

-- a basic type that isn't interface has another id
not_interface : (T : Table) (t : TypeId) (b : Basic) → IsTable T → basic_of T t ≡ Some b
    → (basic.Interface ≡ b → ⊥) → (t.0 == 8) ≡ true → ⊥
not_interface T t b known is other e =
    other (some_injective (sym (based T known (λ U. basic_of U (id_at 8) ≡ Some basic.Interface) (λ more. refl))
    ∙ sym (ap (λ m. basic_of T (id_at m)) (eqb-true t.0 8 e)) ∙ is))

pub named_key : {T : Table} {t : TypeId} {name : List ℕ} {x : Tree} → IsTable T → ReadsKey T t name x → IsKey t x
named_key {T = T} {t = t} known (leaf.of_text is) = record {
  named = λ e. a_text;
  nil = λ e. absurd (not_interface T t basic.Str known is (λ f. cc) e);
}
named_key {T = T} {t = t} known (leaf.of_int is fits) = record {
  named = λ e. an_int;
  nil = λ e. absurd (not_interface T t basic.Int known is (λ f. cc) e);
}
named_key {T = T} {t = t} known (leaf.of_uint is small) = record {
  named = λ e. an_uint;
  nil = λ e. absurd (not_interface T t basic.Uint known is (λ f. cc) e);
}

-- ---- the JSON of a key

-- it is printed as in the lines of a stream
pub key_says : {x : Tree} (T : Table) (t : TypeId) → GivesName x → Says guessed T t x (outline (value_json T t x))
key_says T t a_text = refl
key_says T t an_int = refl
key_says T t an_uint = refl

pub key_said : {x : Tree} (T : Table) (t : TypeId) (k : Json) → GivesName x → Says guessed T t x k
    → k ≡ outline (value_json T t x)
key_said T t k a_text s = s
key_said T t k an_int s = s
key_said T t k an_uint s = s

-- that JSON has the name, and tells whether it is UTF-8
pub name_is : {x : Tree} (T : Table) (t : TypeId) → GivesName x → name_of (outline (value_json T t x)) ≡ key_text x
name_is T t (a_text {b = b}) = by (is_utf8 b) refl
  where
    by : (u : Bool) → is_utf8 b ≡ u
        → name_of (outline (text_json b)) ≡ cond (is_utf8 b) b (codes "0x" ++ encode_lower b)
    by true e = rw e refl
    by false e = rw e refl
name_is T t (an_int {i = i}) = ap name_of (integer_shown i)
name_is T t an_uint = refl

pub empty_utf8 : is_utf8 [] ≡ true
empty_utf8 = is_utf8-from_IsUtf8 [] (IsUtf8-from_ascii [] (λ i. omega arith))

pub utf8_is : {x : Tree} (T : Table) (t : TypeId) → GivesName x
    → not (is_object (outline (value_json T t x))) ≡ is_utf8 (text_bytes x)
utf8_is T t (a_text {b = b}) = by (is_utf8 b) refl
  where
    by : (u : Bool) → is_utf8 b ≡ u → not (is_object (outline (text_json b))) ≡ is_utf8 b
    by true e = rw e refl
    by false e = rw e refl
utf8_is T t (an_int {i = i}) = ap (λ j. not (is_object j)) (integer_shown i) ∙ sym empty_utf8
utf8_is T t an_uint = sym empty_utf8

-- the JSON of a key that a name says
pub key_json : {T : Table} {t : TypeId} {name : List ℕ} {x : Tree} → ReadsKey T t name x
    → IsKeyNamed T t name (outline (value_json T t x))
key_json (leaf.of_text is) = alike.a_text is
key_json {T = T} {t = t} {name = name} (leaf.of_int {i = i} is fits) =
    subst (λ (k : Json). IsKeyNamed T t name k) (sym (integer_shown i)) (alike.an_int is)
key_json (leaf.of_uint is small) = alike.an_uint is
