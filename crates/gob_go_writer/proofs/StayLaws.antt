-- The tidy form of a value is its tidy form by fewer types too, where these spell the value. They spell the form as
-- well, in bytes where the value is spelled in bytes.
use Rattle.std.proofs.Common.{◌∙◌, ℕ, List, ◌++◌, sym, subst}
use Rattle.gob_num.specs.Unsigned.{AreBytes}
use Rattle.gob_num.proofs.PublicLaws.{bytes-append, bytes_prefix, bytes_rest, unsigned_bytes}
use Rattle.gob_types.specs.declared.id.TypeId.{TypeId}
use Rattle.gob_types.specs.declared.kind.Field.{Field}
use Rattle.gob_types.specs.declared.kind.Kind.{Kind}
use Rattle.gob_types.specs.declared.kind.Shape.{Shape}
use Rattle.gob_types.specs.Table.{Table}
use Rattle.gob_types.proofs.PublicLaws.{Keeps, some_injective}
use Rattle.gob_value.specs.Spelling as spelling
use Rattle.gob_value.specs.Spelling.{Spells, SpellsAs, SpellsEach, SpellsPairs, SpellsFields}
use Rattle.gob_value.specs.Tidy.{IsDropped, Tidies, of_type, TidiesAs, of_basic, of_opaque, of_slice, of_array, of_map}
use Rattle.gob_value.specs.Tidy.{of_struct, TidiesEach, no_element, element, TidiesPairs, no_entry, entry, TidiesFields}
use Rattle.gob_value.specs.Tidy.{no_more, dropped, kept}
use Rattle.gob_value.specs.Tree.{Tree, Trees, Pairs, Fields}
use Rattle.gob_value.proofs.PublicLaws.{written_once}
use Rattle.gob_value.proofs.TidyLaws.{same_shape}
use Rattle.gob_value.proofs.WrittenLaws.{as_written}

-- the second value is the tidy form of the first, and the second bytes spell it
pub record StaysTidy {V : Type 0} (Form : V → V → Type 0) (Spelling : V → List ℕ → Type 0) (v w : V) (b c : List ℕ)
    : Type 0 where
  pub tidies : Form v w
  pub spells : Spelling w c
  pub are_bytes : AreBytes b → AreBytes c

-- a value without parts is spelled once
leaf_stays : {T N : Table} {k : Kind} {v : Tree} {b c : List ℕ} → TidiesAs T k v v → SpellsAs T k v b
    → SpellsAs N k v c → StaysTidy (TidiesAs T k) (SpellsAs T k) v v b c
leaf_stays {T = T} {k = k} {v = v} ti p q =
    let same = written_once (as_written p) (as_written q) in
    record { tidies = ti; spells = subst (SpellsAs T k v) same p; are_bytes = λ o. subst AreBytes same o }

mutual
  pub stays_tidy : {T N : Table} {t : TypeId} {v w : Tree} {b c : List ℕ} → Keeps T N → Spells T t v b → Tidies N t v w
      → Spells N t w c → StaysTidy (Tidies T t) (Spells T t) v w b c
  stays_tidy {N = N} {v = v} {w = w} {c = c} keep (spelling.of_type e p) (of_type f ti) (spelling.of_type g q) =
      let here = keep.shape _ _ e in
      let r = stays_tidy_as keep p
      (subst (λ (s : Shape). TidiesAs N s.kind v w) (some_injective (sym f ∙ here)) ti)
      (subst (λ (s : Shape). SpellsAs N s.kind w c) (some_injective (sym g ∙ here)) q) in
      record { tidies = of_type e r.tidies; spells = spelling.of_type e r.spells; are_bytes = r.are_bytes }

  stays_tidy_as : {T N : Table} {k : Kind} {v w : Tree} {b c : List ℕ} → Keeps T N → SpellsAs T k v b → TidiesAs N k v w
      → SpellsAs N k w c → StaysTidy (TidiesAs T k) (SpellsAs T k) v w b c
  stays_tidy_as keep p (of_basic n) q = leaf_stays (of_basic n) p q
  stays_tidy_as keep p (of_opaque n) q = leaf_stays (of_opaque n) p q
  stays_tidy_as keep (spelling.of_slice {c = c} {b = b} n ps) (of_slice ts) (spelling.of_slice {c = d} {b = e} m qs) =
      let r = each_stays keep ps ts qs in
      record {
        tidies = of_slice r.tidies;
        spells = spelling.of_slice m r.spells;
        are_bytes = λ o. bytes-append d e (unsigned_bytes m) (r.are_bytes (bytes_rest c b o));
      }
  stays_tidy_as keep (spelling.of_array {c = c} {b = b} all n ps) (of_array ts)
      (spelling.of_array {c = d} {b = e} some m qs) =
      let r = each_stays keep ps ts qs in
      record {
        tidies = of_array r.tidies;
        spells = spelling.of_array some m r.spells;
        are_bytes = λ o. bytes-append d e (unsigned_bytes m) (r.are_bytes (bytes_rest c b o));
      }
  stays_tidy_as keep (spelling.of_map {c = c} {b = b} n ps) (of_map ts) (spelling.of_map {c = d} {b = e} m qs) =
      let r = pairs_stay keep ps ts qs in
      record {
        tidies = of_map r.tidies;
        spells = spelling.of_map m r.spells;
        are_bytes = λ o. bytes-append d e (unsigned_bytes m) (r.are_bytes (bytes_rest c b o));
      }
  stays_tidy_as keep (spelling.of_struct ps) (of_struct ts) (spelling.of_struct qs) =
      let r = fields_stay keep ps ts qs in
      record { tidies = of_struct r.tidies; spells = spelling.of_struct r.spells; are_bytes = r.are_bytes }

  each_stays : {T N : Table} {e : TypeId} {vs ws : Trees} {b c : List ℕ} → Keeps T N → SpellsEach T e vs b
      → TidiesEach N e vs ws → SpellsEach N e ws c → StaysTidy (TidiesEach T e) (SpellsEach T e) vs ws b c
  each_stays keep spelling.no_element no_element spelling.no_element =
      record { tidies = no_element; spells = spelling.no_element; are_bytes = λ o. o }
  each_stays keep (spelling.element {b = a} {c = b} p ps) (element t ts) (spelling.element {b = c} {c = d} q qs) =
      let r = stays_tidy keep p t q in let rs = each_stays keep ps ts qs in
      record {
        tidies = element r.tidies rs.tidies;
        spells = spelling.element r.spells rs.spells;
        are_bytes = λ o. bytes-append c d (r.are_bytes (bytes_prefix a b o)) (rs.are_bytes (bytes_rest a b o));
      }

  pairs_stay : {T N : Table} {k e : TypeId} {vs ws : Pairs} {b c : List ℕ} → Keeps T N → SpellsPairs T k e vs b
      → TidiesPairs N k e vs ws → SpellsPairs N k e ws c → StaysTidy (TidiesPairs T k e) (SpellsPairs T k e) vs ws b c
  pairs_stay keep spelling.no_entry no_entry spelling.no_entry =
      record { tidies = no_entry; spells = spelling.no_entry; are_bytes = λ o. o }
  pairs_stay keep (spelling.entry {a = a} {b = b} {c = c} p o ps) (entry t u ts)
      (spelling.entry {a = d} {b = e} {c = f} q r qs) =
      let x = stays_tidy keep p t q in let y = stays_tidy keep o u r in let z = pairs_stay keep ps ts qs in
      record {
        tidies = entry x.tidies y.tidies z.tidies;
        spells = spelling.entry x.spells y.spells z.spells;
        are_bytes = λ all. let rest = bytes_rest a (b ++ c) all in
            bytes-append d (e ++ f) (x.are_bytes (bytes_prefix a (b ++ c) all))
            (bytes-append e f (y.are_bytes (bytes_prefix b c rest)) (z.are_bytes (bytes_rest b c rest)));
      }

  -- in the form the next field may have any number from a lower one on
  fields_stay : {T N : Table} {types : List Field} {next low : ℕ} {vs ws : Fields} {b c : List ℕ} → Keeps T N
      → SpellsFields T types next vs b → TidiesFields N types vs ws → SpellsFields N types low ws c
      → StaysTidy (TidiesFields T types) (SpellsFields T types low) vs ws b c
  fields_stay keep (spelling.end_of_fields p) no_more (spelling.end_of_fields q) =
      record { tidies = no_more; spells = spelling.end_of_fields q; are_bytes = λ o. unsigned_bytes q }
  fields_stay {N = N} {types = types} keep
      (spelling.next_field {f = f} {v = v} {a = a} {b = b} {c = c} l m p (spelling.of_type x y) ps)
      (dropped at e d ts) qs =
      let rest = fields_stay keep ps ts qs in
      let one = same_shape N types f m at (keep.shape _ _ x) e in
      record {
        tidies = dropped m x (subst (λ (s : Shape). IsDropped s.kind v) one d) rest.tidies;
        spells = rest.spells;
        are_bytes = λ o. rest.are_bytes (bytes_rest b c (bytes_rest a (b ++ c) o));
      }
  fields_stay {N = N} {types = types} keep
      (spelling.next_field {f = f} {v = v} {a = a} {b = b} {c = c} l m p (spelling.of_type x y) ps)
      (kept {w = w} at e n t ts)
      (spelling.next_field {a = d} {b = g} {c = h} k o q (spelling.of_type z r) qs) =
      let here = keep.shape _ _ x in
      let one = same_shape N types f m at here e in
      let first = stays_tidy_as keep y (subst (λ (s : Shape). TidiesAs N s.kind v w) one t)
      (subst (λ (s : Shape). SpellsAs N s.kind w g) (same_shape N types f m o here z) r) in
      let rest = fields_stay keep ps ts qs in
      record {
        tidies = kept m x (subst (λ (s : Shape). ¬ IsDropped s.kind v) one n) first.tidies rest.tidies;
        spells = spelling.next_field k m q (spelling.of_type x first.spells) rest.spells;
        are_bytes = λ all. let behind = bytes_rest a (b ++ c) all in
            bytes-append d (g ++ h) (unsigned_bytes q)
            (bytes-append g h (first.are_bytes (bytes_prefix b c behind)) (rest.are_bytes (bytes_rest b c behind)));
      }
