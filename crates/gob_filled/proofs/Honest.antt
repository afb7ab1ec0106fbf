-- The place of a refusal is honest.
use Rattle.std.proofs.Common.{◌≡◌, ℕ, negsuc, ◌+◌, ◌-◌, ◌≤◌, List, [], ◌∷◌, ◌++◌, length, take, arith, sym, ap}
use Rattle.std.proofs.Common.{◌∙◌}
use Rattle.std.proofs.Common.{subst}
use Rattle.gob_num.specs.Signed.{IsSigned}
use Rattle.gob_types.specs.declared.id.TypeId.{TypeId}
use Rattle.gob_types.specs.declared.reason.Reason.{Reason}
use Rattle.gob_types.specs.declared.reason.Reason.TheVariants as reason
use Rattle.gob_types.specs.Base.{base_table, wire_type}
use Rattle.gob_types.specs.Defined.{IsTable}
use Rattle.gob_types.specs.Ready.{IsReady}
use Rattle.gob_types.specs.Table.{Table}
use Rattle.gob_types.proofs.PublicLaws.{base_is_table, table-push}
use Rattle.gob_value.specs.Tree.{Tree}
use Rattle.gob_read.specs.Honest.{IsHonestBody}
use Rattle.gob_read.specs.Laws.{IsOfNumber}
use Rattle.gob_read.specs.Refusal as body
use Rattle.gob_read.proofs.PublicLaws.{append_nil, first_honest, table_counted}
use Rattle.gob_stream.specs.declared.fault.Refusal.{Refusal}
use Rattle.gob_stream.specs.Bounds.{Bounds}
use Rattle.gob_stream.specs.Honest.{of_definition, from}
use Rattle.gob_stream.specs.Refusing.{RefusesBody}
use Rattle.gob_stream.proofs.Stream.DefinableLaws.{definable}
use Rattle.gob_stream.proofs.Reader.HonestLaws.{nothing_said, body_refused_honestly}
use Rattle.gob_filled.specs.Definition.{Defines, defines}
use Rattle.gob_filled.specs.Filled.{Definitions, Filled, Fillings, AreDefined, none_defined, one_defined, SpellsFilled}
use Rattle.gob_filled.specs.Filled.{with_fillings, Fills, as_it_stands, next_filled}
use Rattle.gob_filled.specs.Stream as streams
use Rattle.gob_filled.specs.Stream.{FilledItem, IsFilledItem, of_value, AreFilledItems, FilledStream}
use Rattle.gob_filled.specs.Standing.{Level, Next, in_value, Stands, at_value, behind_name}
use Rattle.gob_filled.specs.Standing.{behind_definition}
use Rattle.gob_filled.specs.Standing.{at_inner, behind_inner}
use Rattle.gob_filled.specs.Outcome.{RefusesAt, in_skeleton, short_name}
use Rattle.gob_filled.specs.Honest.{IsCountedFrom}

-- ---- the tables behind definitions, values and items

definition_table : {L : Bounds} {T U : Table} {id : TypeId} {v : Tree} {b : List ℕ} → Defines base_table L T id v b U
    → IsTable T → IsTable U
definition_table (defines {id = id} {s = s} {b = b} may de d i sg sp) h =
    table-push id s h may.own (definable (record { bytes = b; spelled = sp }) d.describes) may.new

definitions_table : {L : Bounds} {T U : Table} {ds : Definitions} {b : List ℕ} → AreDefined base_table L T ds b U
    → IsTable T
    → IsTable U
definitions_table none_defined h = h
definitions_table (one_defined o d ds) h = definitions_table ds (definition_table d h)

mutual
  value_table : {L : Bounds} {T U : Table} {t : TypeId} {limit : ℕ} {v : Filled} {b : List ℕ}
      → SpellsFilled base_table L T t limit v b U → IsTable T → IsTable U
  value_table (with_fillings sp de fl) h = fills_table fl h

  fills_table : {L : Bounds} {T U V : Table} {t : TypeId} {limit : ℕ} {done left ls : List ℕ} {fs : Fillings}
      → Fills base_table L T t limit U done left fs ls V → IsTable U → IsTable V
  fills_table (as_it_stands o) h = h
  fills_table (next_filled c oc ex l o u ds may i vs g fl) h =
      fills_table fl (value_table vs (definitions_table ds h))

pub items_table : {L : Bounds} {T U : Table} {offset : ℕ} {list : List FilledItem} {b : List ℕ}
    → AreFilledItems base_table L T offset list b U → IsTable T → IsTable U
items_table streams.no_more h = h
items_table (streams.and_then (streams.of_definition n l s d) e is) h = items_table is (definition_table d h)
items_table (streams.and_then (of_value may sg k cs) e is) h = items_table is (value_table k h)

-- ---- the tables of levels

pub record IsOfTable (lv : Level) : Type 0 where
  pub is_table : IsTable lv.table
  pub ready : IsReady lv.table lv.type

pub data AreOfTables : List Level → Type 0 where
  no_level : AreOfTables []
  and_level : {lv : Level} {levels : List Level} → IsOfTable lv → AreOfTables levels → AreOfTables (lv ∷ levels)

innermost : {lv : Level} {levels : List Level} → AreOfTables (lv ∷ levels) → IsOfTable lv
innermost (and_level p ps) = p

around_it : {lv : Level} {levels : List Level} → AreOfTables (lv ∷ levels) → AreOfTables levels
around_it (and_level p ps) = ps

pub levels_tables : {L : Bounds} {T : Table} {offset : ℕ} {z : List ℕ} {U : Table} {levels : List Level} {next : Next}
    {left : ℕ} → Stands base_table L T offset z U levels next left → IsTable T → IsTable U × AreOfTables levels
levels_tables (at_value u l e s sg short may k) h =
    (h, and_level (record { is_table = h; ready = may.ready }) no_level)
levels_tables (behind_name c s p ex dl sh some u fit) h =
    let k = levels_tables p h in let i = innermost k.1 in
    (k.0, and_level (record { is_table = i.is_table; ready = i.ready }) (around_it k.1))
levels_tables (behind_definition p def e k) h =
    let k = levels_tables p h in let i = innermost k.1 in
    (definition_table def k.0, and_level (record { is_table = i.is_table; ready = i.ready }) (around_it k.1))
levels_tables (at_inner p may sg u e l) h =
    let k = levels_tables p h in (k.0, and_level (record { is_table = k.0; ready = may.ready }) k.1)
levels_tables (behind_inner b p sp de e) h =
    let k = levels_tables p h in let i = innermost (around_it k.1) in
    (k.0, and_level (record { is_table = i.is_table; ready = i.ready }) (around_it (around_it k.1)))

-- ---- what is refused

same_refusal : {S R : body.Refusal} → S.place ≡ R.place → S.seen ≡ R.seen → S.reason ≡ R.reason → S ≡ R
same_refusal {S = S} {R = R} e f g =
    let make : ℕ → ℕ → Reason → body.Refusal = λ p s r. record { place = p; seen = s; reason = r } in
    ap (λ p. make p S.seen S.reason) e ∙ ap (λ s. make R.place s S.reason) f ∙ ap (make R.place R.seen) g

short_not_deep : reason.Short ≡ reason.TooDeep → ⊥
short_not_deep e = cc

at_honest : {L : Bounds} {at : ℕ} {U : Table} {w : List ℕ} {lv : Level} {levels : List Level} {left : ℕ} {R : Refusal}
    {S : body.Refusal} → IsOfTable lv → RefusesAt base_table L at U w (lv ∷ levels) in_value left R
    → IsCountedFrom (length lv.done) at R S → IsHonestBody lv.table lv.type lv.limit (lv.done ++ take (lv.end - at) w) S
at_honest {at = at} {w = w} {lv = lv} {S = S} p (in_skeleton {S = Q} h n pl se re) k =
    let place = k.place in let seen = k.seen in
    let same : Q ≡ S = same_refusal (omega arith) (omega arith) (sym re ∙ k.reason) in
    subst (IsHonestBody lv.table lv.type lv.limit (lv.done ++ take (lv.end - at) w)) same
    (first_honest (table_counted p.is_table) p.ready h)
at_honest p (short_name c r ex dl sh eq u full few) k =
    nothing_said (λ i. subst (λ r. IsOfNumber r) (sym k.reason) i) (λ e. short_not_deep (k.reason ∙ e))

pub value_honest : {L : Bounds} {items : List FilledItem} {f y w : List ℕ} {T U : Table} {lv : Level}
    {levels : List Level} {left at : ℕ} {R : Refusal} {S : body.Refusal} → FilledStream base_table L items f T
    → Stands base_table L T (length f) y U (lv ∷ levels) in_value left
    → RefusesAt base_table L at U w (lv ∷ levels) in_value left R → IsCountedFrom (length lv.done) at R S
    → IsHonestBody lv.table lv.type lv.limit (lv.done ++ take (lv.end - at) w) S
value_honest s p h k = at_honest (innermost (levels_tables p (items_table s base_is_table)).1) h k

pub definition_honest : {L : Bounds} {items : List FilledItem} {f y q a z : List ℕ} {T U : Table}
    {levels : List Level} {next : Next} {left at m n : ℕ} {R : Refusal} → FilledStream base_table L items f T
    → Stands base_table L T (length f) y U levels next left → RefusesBody base_table L U at m q R → q ≡ a ++ z
    → IsSigned (negsuc n) a → at + length a ≤ R.place → IsHonestBody U wire_type L.depth z (from (at + length a) R)
definition_honest {q = q} s p h e sg l =
    body_refused_honestly [] (levels_tables p (items_table s base_is_table)).0 h (append_nil q ∙ e) (of_definition sg) l
