-- The line of a value.
use Rattle.std.proofs.Common.{◌≡◌, ◌≤◌, List, ℕ, [], ◌∷◌, ◌++◌, arith, sym, ap, ◌∙◌, append_assoc}
use Rattle.json.specs.Print.{escape_byte}
use Rattle.serde_json.specs.Written.{compact_text}
use Rattle.gob_types.specs.declared.id.TypeId.{TypeId}
use Rattle.gob_types.specs.Table.{Table}
use Rattle.gob_value.specs.Tree.{Tree, depth}
use Rattle.gob_value.specs.Top.{SpellsTop}
use Rattle.gob_value.specs.Whole.{IsWhole}
use Rattle.gob_json.specs.Json.{value_json, put_json}
use Rattle.gob_json.specs.TextWhole.{LineOfWhole, head_text}

pub line_text : (T : Table) (t : TypeId) (v : Tree)
    → (head_text t ++ compact_text (value_json T t v)) ++ 125 ∷ 10 ∷ [] ≡ compact_text (put_json T t v) ++ 10 ∷ []
unfolding escape_byte
line_text T t v = simp append_assoc

pub line_parts : (T : Table) (t : TypeId) (v : Tree)
    → head_text t ++ (compact_text (value_json T t v) ++ 125 ∷ 10 ∷ []) ≡ compact_text (put_json T t v) ++ 10 ∷ []
line_parts T t v = sym (append_assoc (head_text t) (compact_text (value_json T t v)) (125 ∷ 10 ∷ [])) ∙ line_text T t v

-- the line of the value that was found
pub line_appended : {T : Table} {t : TypeId} {most limit : ℕ} {body old new : List ℕ} → most ≤ limit
    → IsWhole T t most body
    → ((v : Tree) → SpellsTop T t v body → depth v ≤ most → new ≡ old ++ (compact_text (put_json T t v) ++ 10 ∷ []))
    → LineOfWhole T t limit body old new
line_appended shallow w put =
    let deep = w.within in
    record { value = w.value; spelled = w.spelled; within = omega arith; text = put w.value w.spelled w.within }

-- a line that was made where nothing was, and was then copied behind others
pub line_copied : {T : Table} {t : TypeId} {limit : ℕ} {body none line copy old new : List ℕ}
    → LineOfWhole T t limit body none line → none ≡ [] → copy ≡ line → new ≡ old ++ copy
    → LineOfWhole T t limit body old new
line_copied {T = T} {t = t} {old = old} p empty same e = record {
  value = p.value;
  spelled = p.spelled;
  within = p.within;
  text = e ∙ ap (λ l. old ++ l) (same ∙ p.text ∙ ap (λ l. l ++ (compact_text (put_json T t p.value) ++ 10 ∷ [])) empty);
}
