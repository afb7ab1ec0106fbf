-- Values without parts, as they are put.
use Rattle.std.proofs.Common.{◌≡◌, ◌∙◌, Bool, ℕ, suc, ◌<◌, List, [], ◌∷◌, ◌++◌, length, get_or, arith, Result, Ok, Err}
use Rattle.std.proofs.Common.{Some, ap, sym, subst}
use Rattle.std.specs.Prelude.{IfErr, OnOk}
use Rattle.json.specs.Token.{Token}
use Rattle.gob_num.specs.Spelled.{Appends}
use Rattle.gob_num.specs.Unsigned.{AreBytes, IsUnsigned}
use Rattle.gob_num.proofs.PublicLaws.{bytes_rest, unsigned_unique}
use Rattle.gob_types.specs.declared.id.TypeId.{TypeId}
use Rattle.gob_types.specs.declared.basic.Basic.{Basic}
use Rattle.gob_types.specs.declared.kind.Kind.{Kind}
use Rattle.gob_types.specs.declared.kind.Kind.TheVariants as kind
use Rattle.gob_types.specs.declared.kind.Marshal.{Marshal}
use Rattle.gob_types.specs.declared.kind.Shape.{Shape}
use Rattle.gob_types.specs.Table.{Table, shape_of}
use Rattle.gob_types.proofs.PublicLaws.{some_injective}
use Rattle.gob_value.specs.Bytes.{HoldsBytes}
use Rattle.gob_value.specs.Spelling.{Spells, of_type, SpellsAs}
use Rattle.gob_value.specs.Tree.{Tree}
use Rattle.gob_value.specs.Written.{WrittenBytes}
use Rattle.gob_value.proofs.BytesLaws.{spelled_bytes}
use Rattle.gob_value.proofs.PublicLaws.{one_spelling}
use Rattle.gob_go.specs.Machine.WholeFilled.{IsOfKind}
use Rattle.gob_go.proofs.WholeFilledSteps.{spelled_as}
use Rattle.gob_json.specs.Json.{no_type, opaque_json}
use Rattle.gob_lines.specs.Numbers.{IsBasicJson, ReadsSome}
use Rattle.gob_lines.specs.Reads.{IsWrong, Reads}
use Rattle.gob_lines.specs.declared.fault.LineFault.{LineFault}
use Rattle.gob_go_lines.specs.Says.{Says, SaysAs, of_basic, of_opaque}
use Rattle.gob_go_lines.specs.Lines.{PutsIt, PutsSaid}
use Rattle.gob_go_lines.proofs.HeldLaws.{count_of}
use Rattle.gob_go_lines.proofs.KindLaws.{kind_said}

kind_spelled : {T : Table} {t : TypeId} {k : Kind} {v : Tree} {b : List ℕ} → IsOfKind T t k → Spells T t v b
    → SpellsAs T k v b
kind_spelled {T = T} {v = v} {b = b} is (of_type f p) =
    subst (λ (j : Kind). SpellsAs T j v b) (ap (λ (r : Shape). r.kind) (some_injective (sym f ∙ is.1)) ∙ is.2) p

pub leaf_said : {k : Basic} (T : Table) (t : TypeId) (r : Result (Unit {0}) LineFault) (v : Tree)
    (old new : List Token) (before after : List ℕ) → IsOfKind T t (kind.Basic k) → AreBytes after
    → ReadsSome (IsBasicJson T no_type v) old new → OnOk r (Appends (Spells T t v) before after)
    → OnOk r ((H : Bool) (limit : ℕ) → PutsSaid (SaysAs T H (kind.Basic k) limit) old new before after)
leaf_said T t (Ok u) v old new before after is o read put = λ H limit. record {
  json = read.json;
  bytes = put.bytes;
  says = of_basic (kind_spelled is put.spelled)
      ((spelled_bytes put.spelled).0 (bytes_rest before put.bytes (subst AreBytes put.appended o))) read.is;
  reads = read.reads;
  appended = put.appended;
}
leaf_said T t (Err e) v old new before after is o read put = tt

pub leaf_put : {k : Basic} {w : Tree} {b : List ℕ} (T : Table) (t : TypeId) (r : Result (Unit {0}) LineFault) (v : Tree)
    (new rest : List Token) (before after : List ℕ) → IsOfKind T t (kind.Basic k) → SpellsAs T (kind.Basic k) w b
    → v ≡ w → new ≡ rest → OnOk r (Appends (Spells T t v) before after) → IfErr r (λ f. ¬ IsWrong f)
    → PutsIt r new rest before after b
leaf_put {b = b} T t (Ok u) v new rest before after is spelled same left put none =
    let one = one_spelling put.spelled (subst (λ x. Spells T t x b) (sym same) (spelled_as is spelled)) in
    (left, put.appended ∙ ap (λ l. before ++ l) one)
leaf_put T t (Err e) v new rest before after is spelled same left put none = none

pub opaque_said : (r : Result (Unit {0}) LineFault) (s : List ℕ) (old new : List Token) (before after : List ℕ)
    → AreBytes s → Reads (opaque_json s) old new → OnOk r (Appends (WrittenBytes s) before after)
    → OnOk r ((T : Table) (H : Bool) (m : Marshal) (limit : ℕ)
    → PutsSaid (SaysAs T H (kind.Opaque m) limit) old new before after)
opaque_said (Ok u) s old new before after o reads put = λ T H m limit.
    let c = count_of put.spelled in
    record {
      json = opaque_json s;
      bytes = c.count ++ s;
      says = of_opaque s o c.counts;
      reads = reads;
      appended = put.appended ∙ ap (λ l. before ++ l) c.whole;
    }
opaque_said (Err e) s old new before after o reads put = tt

pub opaque_put : (r : Result (Unit {0}) LineFault) (s t c : List ℕ) (new rest : List Token) (before after : List ℕ)
    → IsUnsigned (length t) c → s ≡ t → new ≡ rest → OnOk r (Appends (WrittenBytes s) before after)
    → IfErr r (λ f. ¬ IsWrong f) → PutsIt r new rest before after (c ++ t)
opaque_put (Ok u) s t c new rest before after p same left put none =
    let k = count_of put.spelled in
    let one = unsigned_unique (subst (λ x. IsUnsigned (length x) k.count) same k.counts) p in (
      left,
      put.appended ∙ ap (λ l. before ++ l) (k.whole ∙ ap (λ l. l ++ s) one ∙ ap (λ l. c ++ l) same),
    )
opaque_put (Err e) s t c new rest before after p same left put none = none

-- of a type of the kind
pub opaque_kind : {s : Shape} {m : Marshal} {limit : ℕ} (T : Table) (H : Bool) (t : TypeId)
    (r : Result (Unit {0}) LineFault) (old new : List Token) (before after : List ℕ) → shape_of T t ≡ Some s
    → s.kind ≡ kind.Opaque m → 0 < limit
    → OnOk r ((U : Table) (H : Bool) (m : Marshal) (limit : ℕ)
    → PutsSaid (SaysAs U H (kind.Opaque m) limit) old new before after)
    → OnOk r (PutsSaid (Says T H t limit) old new before after)
opaque_kind {m = m} {limit = limit} T H t (Ok u) old new before after found is some put =
    kind_said T H t (Ok u) old new before after found is some (put T H m limit)
opaque_kind T H t (Err e) old new before after found is some put = tt

pub basic_kind : {s : Shape} {k : Basic} {limit : ℕ} (T : Table) (H : Bool) (t : TypeId)
    (r : Result (Unit {0}) LineFault) (old new : List Token) (before after : List ℕ) → shape_of T t ≡ Some s
    → s.kind ≡ kind.Basic k → 0 < limit
    → OnOk r ((H : Bool) (limit : ℕ) → PutsSaid (SaysAs T H (kind.Basic k) limit) old new before after)
    → OnOk r (PutsSaid (Says T H t limit) old new before after)
basic_kind {limit = limit} T H t (Ok u) old new before after found is some put =
    kind_said T H t (Ok u) old new before after found is some (put H limit)
basic_kind T H t (Err e) old new before after found is some put = tt

-- each item of a vector of bytes is one
pub each_byte : (s : List ℕ) → ((i d : ℕ) → i < length s → get_or s i d < 256) → AreBytes s
each_byte [] h = tt
each_byte (b ∷ s) h = (h 0 0 (omega arith), each_byte s (λ i d l. h (suc i) d (omega (arith, l))))
