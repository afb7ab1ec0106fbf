-- The fields of a struct, named by nodes one after another.
use Rattle.std.proofs.Common.{◌≡◌, ◌≤◌, ℕ, drop, length, List, [], ◌∷◌, ◌++◌, ap, refl, sym, subst, ◌∙◌, append_assoc}
use Rattle.std.proofs.Common.{append-nil}
use Rattle.std.proofs.lemmas.List.{drop_all}
use Rattle.gob_types.specs.declared.id.TypeId.{TypeId}
use Rattle.gob_types.specs.declared.kind.Field.{Field}
use Rattle.gob_tape.specs.declared.flat.FlatNode.{FlatNode}
use Rattle.gob_nodes.specs.Nodes.{HasBytes, bytes_of}
use Rattle.gob_nodes.specs.Shapes.{NamesFields, NamesType, field_then, no_field}

-- these fields go on to all, and all goes on them
pub record NamesOn (pool : List ℕ) (all left : List FlatNode) (fields : List Field) : Type 0 where
  pub says : (more : List Field) → NamesFields pool left more → NamesFields pool all (fields ++ more)
  pub leaves : (fs : List Field) → NamesFields pool all fs
      → (more : List Field) × NamesFields pool left more × (fs ≡ fields ++ more)

pub none_named : (pool : List ℕ) (all : List FlatNode) → NamesOn pool all all []
none_named pool all = record { says = λ more h. h; leaves = λ fs h. (fs, h, refl) }

abbrev field_of : List ℕ → TypeId → Field
field_of name id = record { name = name; id = id }

type_once : {n : FlatNode} {f g : Field} (pool : List ℕ) → NamesType n f.id → f.name ≡ bytes_of pool n
    → NamesType n g.id → g.name ≡ bytes_of pool n → f ≡ g
type_once {f = f} {g = g} pool p q r s =
    ap (λ n. field_of n f.id) (q ∙ sym s) ∙ ap (λ i. field_of g.name i) (p.is ∙ sym r.is)

next_named : {pool : List ℕ} {n : FlatNode} {ns : List FlatNode} {f : Field} {fs : List Field} → NamesType n f.id
    → f.name ≡ bytes_of pool n → NamesFields pool (n ∷ ns) fs
    → (more : List Field) × NamesFields pool ns more × (fs ≡ f ∷ more)
next_named {pool = pool} p q (field_then {fs = fs} r has s h) =
    (fs, h, ap (λ g. g ∷ fs) (type_once pool r s p q))

pub one_named : {pool : List ℕ} {all left ns : List FlatNode} {fields : List Field} (n : FlatNode) (f : Field)
    → NamesOn pool all left fields → left ≡ n ∷ ns → NamesType n f.id → HasBytes pool n → f.name ≡ bytes_of pool n
    → NamesOn pool all ns (fields ++ f ∷ [])
one_named {pool = pool} {all = all} {fields = fields} n f h is typed has named = record {
  says = λ more k. subst (λ l. NamesFields pool all l) (sym (append_assoc fields (f ∷ []) more))
      (h.says (f ∷ more) (subst (λ l. NamesFields pool l (f ∷ more)) (sym is) (field_then typed has named k)));
  leaves = λ fs k.
      let left = h.leaves fs k in
      let next = next_named typed named (subst (λ l. NamesFields pool l left.0) is left.1) in
      (next.0, next.1, left.2 ∙ ap (λ l. fields ++ l) next.2 ∙ sym (append_assoc fields (f ∷ []) next.0));
}

none_left : {pool : List ℕ} {fs : List Field} → NamesFields pool [] fs → fs ≡ []
none_left no_field = refl

pub all_named : {pool : List ℕ} {all left : List FlatNode} {fields : List Field} → NamesOn pool all left fields
    → left ≡ [] → NamesFields pool all fields
all_named {pool = pool} {all = all} {fields = fields} h is =
    subst (λ l. NamesFields pool all l) (append-nil fields)
    (h.says [] (subst (λ l. NamesFields pool l []) (sym is) no_field))

pub all_are : {pool : List ℕ} {all left : List FlatNode} {fields fs : List Field} → NamesOn pool all left fields
    → left ≡ [] → NamesFields pool all fs → fields ≡ fs
all_are {pool = pool} {fields = fields} h is k =
    let left = h.leaves _ k in
    let none = none_left (subst (λ l. NamesFields pool l left.0) is left.1) in
    sym (left.2 ∙ ap (λ l. fields ++ l) none ∙ append-nil fields)

first_field : {pool : List ℕ} {n : FlatNode} {ns : List FlatNode} {fs : List Field} → NamesFields pool (n ∷ ns) fs
    → (f : Field) × NamesType n f.id × HasBytes pool n
first_field (field_then {f = f} r has s h) = (f, r, has)

-- where one node is left at least, it names a field
pub a_field : {pool : List ℕ} {all left ns : List FlatNode} {fields fs : List Field} {n : FlatNode}
    → NamesOn pool all left fields → left ≡ n ∷ ns → NamesFields pool all fs
    → (f : Field) × NamesType n f.id × HasBytes pool n
a_field {pool = pool} h is k =
    let left = h.leaves _ k in first_field (subst (λ l. NamesFields pool l left.0) is left.1)

-- behind the last node none is left
pub nothing_left : (l : List FlatNode) (i : ℕ) → length l ≤ i → drop i l ≡ []
nothing_left l i low = drop_all i l low
