-- Items of values of a type that leads to no interface: nothing fills them.
use Rattle.std.proofs.Common.{◌≡◌, ℕ, suc, pos, negsuc, ◌+◌, ◌≤◌, List, [], ◌∷◌, ◌++◌, length, inl, inr, Bool, Some}
use Rattle.std.proofs.Common.{arith, refl, sym, ap, ◌∙◌, subst, append_assoc, length-append}
use Rattle.gob_num.specs.Unsigned.{AreBytes, IsUnsigned}
use Rattle.gob_num.specs.Signed.{IsSigned}
use Rattle.gob_num.proofs.PublicLaws.{bytes_rest, signed_prefix, unsigned_prefix}
use Rattle.gob_types.specs.Base.{base_table}
use Rattle.gob_types.specs.Ready.{Names, onward}
use Rattle.gob_types.specs.Table.{Table, shape_of}
use Rattle.gob_types.specs.declared.basic.Basic.TheVariants as basic
use Rattle.gob_types.specs.declared.id.TypeId.{TypeId}
use Rattle.gob_types.specs.declared.kind.Kind.{Kind}
use Rattle.gob_types.specs.declared.kind.Kind.TheVariants as kind
use Rattle.gob_types.specs.declared.kind.Shape.{Shape}
use Rattle.gob_types.proofs.PublicLaws.{reaches_itself}
use Rattle.gob_value.specs.Top.{SpellsTop}
use Rattle.gob_value.specs.Tree.{Tree, depth}
use Rattle.gob_read.specs.Expected.{Expected, a_number, first_allowed, nil}
use Rattle.gob_read.specs.Expects.{Enters, Expects, ExpectsAt, ExpectsTop}
use Rattle.gob_read.specs.Expects as expects
use Rattle.gob_read.proofs.Grammar.Prefixes.{same_end}
use Rattle.gob_stream.specs.Body.{MayPut}
use Rattle.gob_stream.specs.Bounds.{Bounds}
use Rattle.gob_stream.proofs.PublicLaws.{same_id}
use Rattle.gob_filled.specs.Definition.{Defines, defines}
use Rattle.gob_filled.specs.Filled.{Filled, filled, no_filling}
use Rattle.gob_filled.specs.Standing.{IsWholeItem, Level, Next, Stands, in_filling, in_value, new_level}
use Rattle.gob_filled.specs.Standing as standing
use Rattle.gob_filled.specs.Stream.{FilledItem, IsFilledItem, last_counted, of_definition, of_value, putting}
use Rattle.gob_filled.proofs.Complete.{stands_so}
use Rattle.gob_filled.proofs.Items.{one_filled_item}
use Rattle.gob_filled.proofs.Strict.{contained}
use Rattle.gob_go.specs.Machine.HasRead.{PartHasRead, StageHasRead}
use Rattle.gob_go.specs.Machine.HasRead as read
use Rattle.gob_go.specs.declared.levels.Levels.{Levels}
use Rattle.gob_go.specs.declared.part.PutPart.{PutPart}
use Rattle.gob_go.specs.declared.stage.Stage.{Stage}
use Rattle.gob_views.specs.Machine.PartStream.{IsBare, IsInterface}

-- ---- no nil comes
bare_on : {T : Table} {t u : TypeId} {s : Shape} → IsBare T t → shape_of T t ≡ Some s → Names s.kind u → IsBare T u
bare_on b known names w r h there =
    b w r (record { steps = suc h.steps; leads = onward known names h.leads }) there

entered : {T : Table} {k : Kind} {q : List ℕ} {u : TypeId} → Enters T k q u → Names k u
entered (expects.slice_element c s l) = refl
entered (expects.array_element c s l) = refl
entered (expects.next_key c s l) = inl refl
entered (expects.next_value c s l k) = inr refl
entered (expects.next_field {f = f} {e = e} r l there c) =
    record { number = f; field = e; there = there; type = refl }

nil_kind : (k : Kind) → a_number (first_allowed k) ≡ a_number nil → IsInterface k
nil_kind (kind.Basic basic.Bool) e = cc
nil_kind (kind.Basic basic.Int) e = cc
nil_kind (kind.Basic basic.Uint) e = cc
nil_kind (kind.Basic basic.Float) e = cc
nil_kind (kind.Basic basic.Bytes) e = cc
nil_kind (kind.Basic basic.Str) e = cc
nil_kind (kind.Basic basic.Complex) e = cc
nil_kind (kind.Basic basic.Interface) e = refl
nil_kind (kind.Array u n) e = cc
nil_kind (kind.Slice u) e = cc
nil_kind (kind.Struct fs) e = cc
nil_kind (kind.Map u w) e = cc
nil_kind (kind.Opaque m) e = cc

nil_at : {T : Table} {k : Kind} {p : List ℕ} {w : Expected} → ExpectsAt T k p w → w ≡ a_number nil → IsInterface k
nil_at (expects.first {k = k}) e = nil_kind k e
nil_at (expects.second h) e = absurd (cc)
nil_at (expects.byte_content l h) e = absurd (cc)
nil_at (expects.text_content l h) e = absurd (cc)
nil_at (expects.opaque_content l h) e = absurd (cc)
nil_at (expects.next_delta l h) e = absurd (cc)

no_nil : {T : Table} {t : TypeId} {p : List ℕ} {w : Expected} {d : ℕ} → IsBare T t → Expects T t p w d
    → w ≡ a_number nil → ⊥
no_nil {t = t} b (expects.in_itself {s = s} known at) e = b t s reaches_itself known (nil_at at e)
no_nil b (expects.in_part known enters h) e = no_nil (bare_on b known (entered enters)) h e

pub no_nil_top : {T : Table} {t : TypeId} {p : List ℕ} {w : Expected} {d : ℕ} → IsBare T t → ExpectsTop T t p w d
    → w ≡ a_number nil → ⊥
no_nil_top b (expects.in_struct known is h) e = no_nil b h e
no_nil_top b (expects.at_tag known is) e = absurd (cc)
no_nil_top b (expects.behind_tag known is h) e = no_nil b h e

-- ---- in the item

pos_injective : {m n : ℕ} → pos m ≡ pos n → m ≡ n
pos_injective e = cc

pos_negsuc : {m n : ℕ} {A : Type 0} → pos m ≡ negsuc n → A
pos_negsuc e = cc

-- it stands in the value itself, behind the count and the number of the type
pub record OnlyLevel (L : Bounds) (T : Table) (offset : ℕ) (t : TypeId) (m : ℕ) (item number z : List ℕ) (U : Table)
    (levels : List Level) (next : Next) : Type 0 where
  pub table : U ≡ T
  pub end : ℕ
  pub level : levels ≡ new_level T t L.depth end ∷ []
  pub next_is : next ≡ in_value
  pub front : z ≡ item ++ number
  pub ends : end ≡ offset + length item + m
  pub within : m ≤ L.item
  pub in_stream : end ≤ L.stream

one_level : {lv around : Level} {levels : List Level} {other : Level} → lv ∷ (around ∷ levels) ≡ other ∷ [] → ⊥
one_level e = cc

head_is : {lv other : Level} {levels : List Level} → lv ∷ levels ≡ other ∷ [] → lv ≡ other
head_is e = cc

no_filling_next : {d : ℕ} → in_filling d ≡ in_value → ⊥
no_filling_next e = cc

both_are : {a b c d : List ℕ} → a ≡ c → b ≡ d → a ++ b ≡ c ++ d
both_are e f = cc

module _ {base : Table} {L : Bounds} {T : Table} {offset : ℕ} {t : TypeId} {m : ℕ} {item number : List ℕ}
    (bare : IsBare T t) (counts : IsUnsigned m item) (names : IsSigned (pos t.0) number) where
  pub bare_stands : {z : List ℕ} {U : Table} {levels : List Level} {next : Next} {left : ℕ} (x rest : List ℕ)
      → Stands base L T offset z U levels next left → z ++ x ≡ item ++ (number ++ rest)
      → OnlyLevel L T offset t m item number z U levels next
  bare_stands x rest (standing.at_value {t = s} {m = n} {end = end} {c = c} {a = a} u l e k sg f may z) h =
      let count = unsigned_prefix (a ++ x) (number ++ rest) u counts (sym (append_assoc c a x) ∙ h) in
      let name = signed_prefix x rest sg names count.rest in
      let one : s ≡ t = same_id (pos_injective name.value) in
      let many : n ≡ m = count.value in
      let same : c ≡ item = count.bytes in
      record {
        table = refl;
        end = end;
        level = ap (λ (s : TypeId). new_level T s L.depth end ∷ []) one;
        next_is = refl;
        front = both_are same name.bytes;
        ends = omega (arith, e, many, ap length same);
        within = omega (arith, l, many);
        in_stream = k;
      }
  bare_stands x rest (standing.behind_name {z = z} {a = a} {lv = lv} {d = d} c s p ex l sh some u f) h =
      let o = bare_stands ((c ++ (a ++ s)) ++ x) rest p (sym (append_assoc z (c ++ (a ++ s)) x) ∙ h) in
      let there = subst (λ (lv : Level). ExpectsTop lv.table lv.type (lv.done ++ c) (a_number nil) d)
      (head_is o.level) ex in
      absurd (no_nil_top bare there refl)
  bare_stands x rest (standing.behind_definition {z = z} {b = b} {c = c} p d e n) h =
      let o = bare_stands ((b ++ c) ++ x) rest p (sym (append_assoc z (b ++ c) x) ∙ h) in
      absurd (no_filling_next o.next_is)
  bare_stands x rest (standing.at_inner {z = z} {n = n} {c = c} p may i u e l) h =
      let o = bare_stands ((n ++ c) ++ x) rest p (sym (append_assoc z (n ++ c) x) ∙ h) in
      absurd (no_filling_next o.next_is)
  bare_stands x rest (standing.behind_inner {z = z} b p sp l e) h =
      let o = bare_stands (b ++ x) rest p (sym (append_assoc z b x) ∙ h) in
      absurd (one_level o.level)

-- ---- the whole item

pub record BareItem (L : Bounds) (T U : Table) (t : TypeId) (i : FilledItem) (item number y rest more : List ℕ) : Type
    0 where
  pub value : Tree
  pub body : List ℕ
  pub is : i ≡ putting t (filled value no_filling)
  pub spelled : SpellsTop T t value body
  pub within : depth value ≤ L.depth
  pub bytes : y ≡ item ++ (number ++ body)
  pub behind : rest ≡ body ++ more
  pub table : U ≡ T

not_defined : {base : Table} {L : Bounds} {T U : Table} {id t : TypeId} {v : Tree} {d number : List ℕ} {A : Type 0}
    (x rest : List ℕ) → Defines base L T id v d U → IsSigned (pos t.0) number → d ++ x ≡ number ++ rest → A
not_defined x rest (defines {a = a} {b = b} may de ds i sg sp) names e =
    pos_negsuc (sym (signed_prefix (b ++ x) rest sg names (sym (append_assoc a b x) ∙ e)).value)

module _ {base : Table} {L : Bounds} {T U : Table} {offset : ℕ} {t : TypeId} {m : ℕ} {item number : List ℕ}
    (bare : IsBare T t) (counts : IsUnsigned m item) (names : IsSigned (pos t.0) number) (may : MayPut T t) where
  whole : {y : List ℕ} {s : TypeId} {w : Filled} (rest more : List ℕ) → AreBytes y
      → IsFilledItem base L T offset (putting s w) y U → IsWholeItem base L T offset y U
      → y ++ more ≡ item ++ (number ++ rest) → BareItem L T U t (putting s w) item number y rest more
  whole {y = y} rest more are k i h =
      let o = bare_stands {base = base} {L = L} {offset = offset} bare counts names (i.rest ++ more) rest i.stands
      (sym (append_assoc i.before i.rest more) ∙ ap (λ (l : List ℕ). l ++ more) (sym i.whole) ∙ h) in
      let lv : i.level ≡ new_level T t L.depth o.end = head_is o.level in
      let spelled : SpellsTop T t i.value i.rest =
      subst (λ (lv : Level). SpellsTop lv.table lv.type i.value (lv.done ++ i.rest)) lv i.spelled in
      let deep : depth i.value ≤ L.depth = subst (λ (lv : Level). depth i.value ≤ lv.limit) lv i.not_deep in
      let bytes : y ≡ item ++ (number ++ i.rest) =
      i.whole ∙ ap (λ (l : List ℕ). l ++ i.rest) o.front ∙ append_assoc item number i.rest in
      let end : offset + length (i.before ++ i.rest) ≡ o.end =
      i.ends ∙ ap (λ (lv : Level). lv.end) lv in
      let size : length (number ++ i.rest) ≡ m =
      omega (
        arith,
        end,
        o.ends,
        ap length o.front,
        length-append item number,
        length-append i.before i.rest,
        length-append number i.rest,
      ) in
      let own = bytes_rest item (number ++ i.rest) (subst AreBytes bytes are) in
      let strict : IsFilledItem base L T offset (putting t (filled i.value no_filling)) (item ++ (number ++ i.rest)) T =
      of_value may names (contained spelled (bytes_rest number i.rest own) deep)
      (last_counted (number ++ i.rest) own (subst (λ (n : ℕ). IsUnsigned n item) (sym size) counts)
      (omega (arith, size, o.within))
      (omega (arith, o.in_stream, o.ends, size, length-append item (number ++ i.rest)))) in
      let one = one_filled_item [] [] k strict (ap (λ (l : List ℕ). l ++ []) bytes) in
      record {
        value = i.value;
        body = i.rest;
        is = one.0;
        spelled = spelled;
        within = deep;
        bytes = bytes;
        behind = same_end number rest (i.rest ++ more) (same_end item (number ++ rest) (number ++ (i.rest ++ more))
            (sym h ∙ ap (λ (l : List ℕ). l ++ more) bytes ∙ regroup_all item number i.rest more));
        table = one.2;
      }
    where
      regroup_all : (a b c d : List ℕ) → (a ++ (b ++ c)) ++ d ≡ a ++ (b ++ (c ++ d))
      regroup_all a b c d = simp append_assoc

  pub bare_item : {y : List ℕ} {i : FilledItem} (rest more : List ℕ) → AreBytes y
      → IsFilledItem base L T offset i y U → y ++ more ≡ item ++ (number ++ rest)
      → BareItem L T U t i item number y rest more
  bare_item rest more are (of_definition {c = c} {d = d} n l s p) h =
      let count = unsigned_prefix (d ++ more) (number ++ rest) n counts (sym (append_assoc c d more) ∙ h) in
      not_defined more rest p names count.rest
  bare_item rest more are (of_value may sg k cs) h =
      whole rest more are (of_value may sg k cs) (stands_so (of_value may sg k cs)) h

-- ---- where a reader stands within it

module _ {L : Bounds} {T : Table} {offset : ℕ} {t : TypeId} {m : ℕ} {item number : List ℕ}
    (bare : IsBare T t) (counts : IsUnsigned m item) (names : IsSigned (pos t.0) number) where
  there : {z y : List ℕ} {U : Table} {levels : List Level} {next : Next} {left : ℕ} (x rest w : List ℕ)
      → Stands base_table L T offset z U levels next left → y ≡ z ++ w → y ++ x ≡ item ++ (number ++ rest)
      → OnlyLevel L T offset t m item number z U levels next
  there {z = z} x rest w p e h =
      bare_stands {base = base_table} {L = L} {offset = offset} bare counts names (w ++ x) rest p
      (sym (append_assoc z w x) ∙ ap (λ (l : List ℕ). l ++ x) (sym e) ∙ h)

  part_bare : {keep : Bool} {U : Table} {levels : Levels} {part : PutPart} {y : List ℕ} (x rest : List ℕ)
      → PartHasRead keep L T offset U levels part y → y ++ x ≡ item ++ (number ++ rest) → U ≡ T
  part_bare x rest (read.in_skeleton c p o w os) h = (there x rest c p refl h).table
  part_bare x rest (read.in_name_length c a p o w os n e) h = (there x rest (c ++ a) p refl h).table
  part_bare x rest (read.in_name c a s p o w os e u k l f n d q) h = (there x rest (c ++ (a ++ s)) p refl h).table
  part_bare x rest (read.in_held_number a p o w os l n) h = (there x rest a p refl h).table
  part_bare x rest (read.in_held_description a y p o w os l n) h = (there x rest (a ++ y) p refl h).table
  part_bare x rest (read.in_next_count {b = b} q p o d e w os l n) h =
      absurd (no_filling_next (there x rest (b ++ q) p refl h).next_is)
  part_bare x rest (read.in_inner_count {n = n} q p o may i w os l k) h = (there x rest (n ++ q) p refl h).table

  pub stage_bare : {keep : Bool} {U : Table} {expects : Stage} {y : List ℕ} (x rest : List ℕ)
      → StageHasRead keep L T offset U expects y → y ++ x ≡ item ++ (number ++ rest) → U ≡ T
  stage_bare x rest (read.in_count q same n) h = same
  stage_bare x rest (read.in_type_number a same n k) h = same
  stage_bare x rest (read.in_definition a y same n d) h = same
  stage_bare x rest (read.in_put p) h = part_bare x rest p h
