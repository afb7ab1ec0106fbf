-- A value has one spelling at a type.
use Rattle.std.proofs.Common.{◌≡◌, ℕ, List, ◌∷◌, ◌++◌, refl, sym, ap, ◌∙◌, subst}
use Rattle.gob_num.proofs.PublicLaws.{unsigned_unique, signed_unique, pattern_unique}
use Rattle.gob_types.specs.declared.id.TypeId.{TypeId}
use Rattle.gob_types.specs.declared.kind.Shape.{Shape}
use Rattle.gob_types.specs.Table.{Table}
use Rattle.gob_types.proofs.PublicLaws.{some_injective}
use Rattle.gob_value.specs.Tree.{Tree, Trees, Pairs, Fields}
use Rattle.gob_value.specs.Spelling.{Spells}
use Rattle.gob_value.specs.Top.{IsStruct, SpellsTop, at_once, tagged}
use Rattle.gob_value.specs.Written.{WrittenBytes, counted, Written, of_bool, of_int, of_uint, of_float, of_complex}
use Rattle.gob_value.specs.Written.{of_nil, of_bytes, of_text, of_opaque, of_many, of_pairs, of_fields, WrittenEach}
use Rattle.gob_value.specs.Written.{no_element, element, WrittenPairs, no_entry, entry, WrittenFields, end_of_fields}
use Rattle.gob_value.specs.Written.{next_field}
use Rattle.gob_value.proofs.WrittenLaws.{spells_written}

both : {a b c d : List ℕ} → a ≡ c → b ≡ d → a ++ b ≡ c ++ d
both e f = cc

bytes_once : {s b c : List ℕ} → WrittenBytes s b → WrittenBytes s c → b ≡ c
bytes_once (counted p) (counted q) = both (unsigned_unique p q) refl

-- there is one way to write a value
mutual
  pub written_once : {v : Tree} {b c : List ℕ} → Written v b → Written v c → b ≡ c
  written_once (of_bool p) (of_bool q) = unsigned_unique p q
  written_once (of_int p) (of_int q) = signed_unique p q
  written_once (of_uint p) (of_uint q) = unsigned_unique p q
  written_once (of_float p) (of_float q) = pattern_unique p q
  written_once (of_complex p r) (of_complex q s) = both (pattern_unique p q) (pattern_unique r s)
  written_once (of_nil p) (of_nil q) = unsigned_unique p q
  written_once (of_bytes p) (of_bytes q) = bytes_once p q
  written_once (of_text p) (of_text q) = bytes_once p q
  written_once (of_opaque p) (of_opaque q) = bytes_once p q
  written_once (of_many p ps) (of_many q qs) = both (unsigned_unique p q) (each_once ps qs)
  written_once (of_pairs p ps) (of_pairs q qs) = both (unsigned_unique p q) (pairs_once ps qs)
  written_once (of_fields ps) (of_fields qs) = fields_once ps qs

  each_once : {vs : Trees} {b c : List ℕ} → WrittenEach vs b → WrittenEach vs c → b ≡ c
  each_once no_element no_element = refl
  each_once (element p ps) (element q qs) = both (written_once p q) (each_once ps qs)

  pairs_once : {es : Pairs} {b c : List ℕ} → WrittenPairs es b → WrittenPairs es c → b ≡ c
  pairs_once no_entry no_entry = refl
  pairs_once (entry p r ps) (entry q s qs) = both (written_once p q) (both (written_once r s) (pairs_once ps qs))

  fields_once : {next : ℕ} {fs : Fields} {b c : List ℕ} → WrittenFields next fs b → WrittenFields next fs c → b ≡ c
  fields_once (end_of_fields p) (end_of_fields q) = unsigned_unique p q
  fields_once (next_field l p r ps) (next_field m q s qs) = both (unsigned_unique p q)
      (both (written_once r s) (fields_once ps qs))

pub one_spelling : {T : Table} {t : TypeId} {v : Tree} {b c : List ℕ} → Spells T t v b → Spells T t v c → b ≡ c
one_spelling p q = written_once (spells_written p) (spells_written q)

pub one_top : {T : Table} {t : TypeId} {v : Tree} {b c : List ℕ} → SpellsTop T t v b → SpellsTop T t v c → b ≡ c
one_top (at_once e i p) (at_once f j q) = one_spelling p q
one_top (at_once e i p) (tagged f n q) = absurd (n
    (subst (λ (s : Shape). IsStruct s.kind) (some_injective (sym e ∙ f)) i))
one_top (tagged e n p) (at_once f j q) = absurd (n
    (subst (λ (s : Shape). IsStruct s.kind) (some_injective (sym f ∙ e)) j))
one_top (tagged e n p) (tagged f m q) = ap (λ (l : List ℕ). 0 ∷ l) (one_spelling p q)
