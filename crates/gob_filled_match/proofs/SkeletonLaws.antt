-- The bytes of a value, and its tree.
use Rattle.std.proofs.Common.{◌≡◌, ◌∙◌, ◌++◌, ◌∷◌, [], ℕ, ◌≤◌, List, ap, arith, length, subst, sym, take}
use Rattle.std.proofs.lemmas.List.{length-take-le, take_all}
use Rattle.gob_num.specs.Spelled.{Appends}
use Rattle.gob_types.specs.declared.id.TypeId.{TypeId}
use Rattle.gob_types.specs.Table.{Table}
use Rattle.gob_value.specs.declared.value.Value.{Value}
use Rattle.gob_value.specs.Spelling.{Spells, of_type}
use Rattle.gob_value.specs.Top.{HasStructs, SpellsTop, at_once, tagged}
use Rattle.gob_value.specs.Tree.{Tree}
use Rattle.gob_value.specs.View.{view}
use Rattle.gob_read.specs.Calls.Builders.{tree_building}
use Rattle.gob_read.specs.Calls.Reader.{IsMade}

-- a tree that is made of as many bytes as the body has is that of the value that the body spells
pub made_tree : {T : Table} {t : TypeId} {limit used : ℕ} {body : List ℕ} {value : Value} → used ≤ length body
    → IsMade T t limit (length body) tree_building.means value (take used body) → SpellsTop T t (view value) body
made_tree {T = T} {t = t} {used = used} {body = body} within m =
    let count = length-take-le used body within in
    let all : take used body ≡ body = take_all used body (omega (arith, m.all, count)) in
    subst (λ v. SpellsTop T t v body) (sym m.meant) (subst (λ z. SpellsTop T t m.value z) all m.spelled)

-- what was put behind no byte, or behind the tag
pub spelled_struct : {T : Table} {t : TypeId} {v : Tree} {front out : List ℕ} → HasStructs T t → front ≡ []
    → Appends (Spells T t v) front out → SpellsTop T t v out
spelled_struct {T = T} {t = t} {v = v} h empty a =
    subst (SpellsTop T t v) (sym (a.appended ∙ ap (λ (l : List ℕ). l ++ a.bytes) empty))
    (at_once h.found h.struct a.spelled)

pub spelled_tagged : {T : Table} {t : TypeId} {v : Tree} {front out : List ℕ} → ¬ HasStructs T t → front ≡ 0 ∷ []
    → Appends (Spells T t v) front out → SpellsTop T t v out
spelled_tagged {T = T} {t = t} {v = v} none tag a =
    subst (SpellsTop T t v) (sym (a.appended ∙ ap (λ (l : List ℕ). l ++ a.bytes) tag)) (by a.spelled)
  where
    by : {b : List ℕ} → Spells T t v b → SpellsTop T t v (0 ∷ b)
    by (of_type {s = s} e p) = tagged e (λ i. none (record { shape = s; found = e; struct = i })) (of_type e p)
