-- An item isn't written for one reason, and what isn't written has no bytes.
use Rattle.std.proofs.Common.{◌≡◌, ℕ, pos, negsuc, ◌+◌, ◌≤◌, inl, inr, List, ◌++◌, length, Some, None, refl, sym, ap}
use Rattle.std.proofs.Common.{subst, ◌∙◌, arith}
use Rattle.gob_num.proofs.PublicLaws.{unsigned_unique, signed_unique}
use Rattle.gob_num.specs.Unsigned.{IsUnsigned}
use Rattle.gob_types.specs.declared.id.TypeId.{TypeId}
use Rattle.gob_types.specs.declared.kind.Field.{Field}
use Rattle.gob_types.specs.declared.kind.Kind.{Kind}
use Rattle.gob_types.specs.declared.reason.Reason.{Reason}
use Rattle.gob_types.specs.declared.reason.Reason.TheVariants as reason
use Rattle.gob_types.specs.Table.{Table}
use Rattle.gob_types.specs.Base.{id}
use Rattle.gob_value.specs.Tree.{Tree, depth}
use Rattle.gob_value.specs.Top.{SpellsTop, at_once, tagged}
use Rattle.gob_value.specs.Fits.{Fits}
use Rattle.gob_value.specs.Description.{Said, SaidKind, SaidField, said, GivesKind, gives_array, gives_slice}
use Rattle.gob_value.specs.Description.{gives_struct, gives_map, gives_opaque, GivesFields, no_more, and_field}
use Rattle.gob_value.specs.Description.{HasBadField, this_field, later_field, HasBadReference, HasBadLength, Describes}
use Rattle.gob_value.specs.Description.{Misdescribes, kind_count, wrong_id, bad_reference, bad_length}
use Rattle.gob_value.proofs.PublicLaws.{one_spelling, one_top}
use Rattle.gob_stream.specs.Bounds.{Bounds}
use Rattle.gob_stream.specs.Item.{StreamItem, defines, puts}
use Rattle.gob_stream.specs.Body.{Body, definition, value, MayDefine, MayPut}
use Rattle.gob_stream.specs.Stream.{IsItem, counted}
use Rattle.gob_stream.specs.WriterRefusal.{RefusesId, reserved, defined_twice, too_many, RefusesType, private_type}
use Rattle.gob_stream.specs.WriterRefusal.{undefined, bottomless, RefusesValue, too_deep, does_not_fit}
use Rattle.gob_stream.specs.WriterRefusal.{WriterRefusesBody, item_too_long, stream_too_long, RefusesItem, refused_id}
use Rattle.gob_stream.specs.WriterRefusal.{refused_description, described_wrongly, refused_type, refused_value}
use Rattle.gob_stream.specs.WriterRefusal.{refused_body}

-- ---- an item has one body, and one spelling with its count

pub one_body : {base : Table} {L : Bounds} {T U V : Table} {i : StreamItem} {d e : List ℕ} → Body base L T i d U
    → Body base L T i e V → d ≡ e
one_body (definition {n = n} {a = a} {b = b} may h p q s v) (definition {n = m} {a = c} {b = d} may' h' p' q' s' v') =
    let same : m ≡ n = omega (arith, q, q') in
    let number = signed_unique s (rw same at s') in
    let spelled = one_spelling v v' in
    rw (number, spelled) refl
one_body (value {a = a} {b = b} may h s v) (value {a = c} {b = d} may' h' s' v') = rw (signed_unique s s', one_top v v')
    refl

pub one_counted : {base : Table} {L : Bounds} {T U V : Table} {o : ℕ} {i : StreamItem} {b c : List ℕ}
    → IsItem base L T o i b U → IsItem base L T o i c V → b ≡ c
one_counted (counted {c = a} {d = b} p q r body) (counted {c = c} {d = d} p' q' r' body') =
    let same = one_body body body' in
    rw (unsigned_unique p (rw (← same) at p'), same) refl

-- ---- demands that are met leave no reason

pub id_met : {base : Table} {L : Bounds} {T : Table} {t : TypeId} {r : Reason} → RefusesId base L T t r
    → MayDefine base L T t → ⊥
id_met (reserved not_own) may = not_own may.own
id_met (defined_twice own old) may = old may.new
id_met (too_many own new full) may = full may.room

pub type_met : {T : Table} {t : TypeId} {r : Reason} → RefusesType T t r → MayPut T t → ⊥
type_met (private_type is) may = may.public is
type_met (undefined public reached not_there least) may = not_there (may.ready _ reached).0
type_met (bottomless public all reached endless least) may = endless (may.ready _ reached).1

value_met : {L : Bounds} {T : Table} {t : TypeId} {v : Tree} {r : Reason} → RefusesValue L T t v r → depth v ≤ L.depth
    → Fits T t v → ⊥
value_met (too_deep deep) within fits = omega (arith, deep, within)
value_met (does_not_fit shallow no_fit) within fits = no_fit fits

good_fields : {fs : List SaidField} {gs : List Field} → GivesFields fs gs → HasBadField fs → ⊥
good_fields no_more bad = elim bad [ ]
good_fields (and_field {g = g} name refers rest) (this_field bad) = bad g.id refers
good_fields (and_field name refers rest) (later_field bad) = good_fields rest bad

good_references : {s : SaidKind} {k : Kind} → GivesKind s k → HasBadReference s → ⊥
good_references (gives_array {elem = e} refers len) bad = bad e refers
good_references (gives_slice {elem = e} refers) bad = bad e refers
good_references (gives_struct fields) bad = good_fields fields bad
good_references (gives_map {key = k} {elem = e} key elem) (inl bad) = bad k key
good_references (gives_map {key = k} {elem = e} key elem) (inr bad) = bad e elem
good_references gives_opaque bad = bad

good_length : {s : SaidKind} {k : Kind} → GivesKind s k → HasBadLength s → ⊥
good_length (gives_array {l = pos n} refers len) bad = bad
good_length (gives_array {l = negsuc n} refers len) bad = cc
good_length (gives_slice refers) bad = bad
good_length (gives_struct fields) bad = bad
good_length (gives_map key elem) bad = bad
good_length gives_opaque bad = bad

one_said : (v : Tree) {what what' : Said} → said v ≡ Some what → said v ≡ Some what' → what ≡ what'
one_said v {what = what} {what' = what'} p q = let e : Some what ≡ Some what' = sym p ∙ q in cc

pub description_met : {t : TypeId} {v : Tree} {s : _} {r : Reason} → Misdescribes t v r → Describes t v s → ⊥
description_met (kind_count none) d = absurd (let e : None ≡ Some d.what = sym none ∙ d.says in cc)
description_met {v = v} (wrong_id says other) d = other (ap (λ w. w.id) (one_said v says d.says) ∙ d.same_id)
description_met {v = v} (bad_reference says same bad) d =
    good_references d.kind (subst (λ w. HasBadReference w.kind) (one_said v says d.says) bad)
description_met {v = v} (bad_length says same good bad) d =
    good_length d.kind (subst (λ w. HasBadLength w.kind) (one_said v says d.says) bad)

top_fits : {T : Table} {t : TypeId} {v : Tree} {b : List ℕ} → SpellsTop T t v b → Fits T t v
top_fits (at_once found struct spelled) = record { bytes = _; spelled = spelled }
top_fits (tagged found struct spelled) = record { bytes = _; spelled = spelled }

body_met : {L : Bounds} {offset : ℕ} {c d : List ℕ} {r : Reason} → WriterRefusesBody L offset d r
    → IsUnsigned (length d) c → length d ≤ L.item → offset + length (c ++ d) ≤ L.stream → ⊥
body_met (item_too_long long) spelled item stream = omega (arith, long, item)
body_met (stream_too_long {c = b} item' spelled' long) spelled item stream = let same = unsigned_unique spelled' spelled
    in let long' = rw same at long in omega (arith, long', stream)

-- ---- what is refused isn't written

pub not_counted : {base : Table} {L : Bounds} {T U : Table} {o : ℕ} {i : StreamItem} {r : Reason} {b : List ℕ}
    → RefusesItem base L T o i r → IsItem base L T o i b U → ⊥
not_counted (refused_id bad) (counted p q r (definition may within says is number spelled)) = id_met bad may
not_counted (refused_description may bad) (counted p q r (definition {b = b} may' within says is number spelled)) =
    value_met bad within (record { bytes = b; spelled = spelled })
not_counted (described_wrongly may within fits bad) (counted p q r (definition may' within' says is number spelled)) =
    description_met bad says
not_counted (refused_type bad) (counted p q r (value may within number spelled)) = type_met bad may
not_counted (refused_value may bad) (counted p q r (value may' within number spelled)) =
    value_met bad within (top_fits spelled)
not_counted (refused_body body bad) (counted p q r body') = let same = one_body body body' in
    body_met (rw same at bad) p q r

-- ---- one reason

pub one_id : {base : Table} {L : Bounds} {T : Table} {t : TypeId} {r s : Reason} → RefusesId base L T t r
    → RefusesId base L T t s → r ≡ s
one_id (reserved p) (reserved q) = refl
one_id (reserved p) (defined_twice own old) = absurd (p own)
one_id (reserved p) (too_many own new full) = absurd (p own)
one_id (defined_twice own old) (reserved q) = absurd (q own)
one_id (defined_twice own old) (defined_twice own' old') = refl
one_id (defined_twice own old) (too_many own' new full) = absurd (old new)
one_id (too_many own new full) (reserved q) = absurd (q own)
one_id (too_many own new full) (defined_twice own' old) = absurd (old new)
one_id (too_many own new full) (too_many own' new' full') = refl

same_id : {t u : TypeId} → t.0 ≤ u.0 → u.0 ≤ t.0 → t ≡ u
same_id {t = t} {u = u} p q = let same : t.0 ≡ u.0 = omega (arith, p, q) in ap id same

pub one_type : {T : Table} {t : TypeId} {r s : Reason} → RefusesType T t r → RefusesType T t s → r ≡ s
one_type (private_type p) (private_type q) = refl
one_type (private_type p) (undefined public reached bad least) = absurd (public p)
one_type (private_type p) (bottomless public all reached bad least) = absurd (public p)
one_type (undefined public reached bad least) (private_type q) = absurd (public q)
one_type (undefined public reached bad least) (undefined public' reached' bad' least') =
    ap (λ u. reason.UndefinedType u) (same_id (least _ reached' bad') (least' _ reached bad))
one_type (undefined public reached bad least) (bottomless public' all reached' bad' least') =
    absurd (bad (all _ reached))
one_type (bottomless public all reached bad least) (private_type q) = absurd (public q)
one_type (bottomless public all reached bad least) (undefined public' reached' bad' least') =
    absurd (bad' (all _ reached'))
one_type (bottomless public all reached bad least) (bottomless public' all' reached' bad' least') =
    ap (λ u. reason.Bottomless u) (same_id (least _ reached' bad') (least' _ reached bad))

one_value : {L : Bounds} {T : Table} {t : TypeId} {v : Tree} {r s : Reason} → RefusesValue L T t v r
    → RefusesValue L T t v s → r ≡ s
one_value (too_deep deep) (too_deep deep') = refl
one_value (too_deep deep) (does_not_fit shallow bad) = absurd (omega (arith, deep, shallow))
one_value (does_not_fit shallow bad) (too_deep deep) = absurd (omega (arith, deep, shallow))
one_value (does_not_fit shallow bad) (does_not_fit shallow' bad') = refl

-- what is said there, where a kind is
says_none : (v : Tree) {what : Said} → said v ≡ None → said v ≡ Some what → ⊥
says_none v {what = what} p q = let e : None ≡ Some what = sym p ∙ q in cc

pub one_description : {t : TypeId} {v : Tree} {r s : Reason} → Misdescribes t v r → Misdescribes t v s → r ≡ s
one_description (kind_count p) (kind_count q) = refl
one_description {v = v} (kind_count p) (wrong_id says bad) = absurd (says_none v p says)
one_description {v = v} (kind_count p) (bad_reference says same bad) = absurd (says_none v p says)
one_description {v = v} (kind_count p) (bad_length says same good bad) = absurd (says_none v p says)
one_description {v = v} (wrong_id says bad) (kind_count q) = absurd (says_none v q says)
one_description (wrong_id says bad) (wrong_id says' bad') = refl
one_description {v = v} (wrong_id says bad) (bad_reference says' same bad') =
    absurd (bad (ap (λ w. w.id) (one_said v says says') ∙ same))
one_description {v = v} (wrong_id says bad) (bad_length says' same good bad') =
    absurd (bad (ap (λ w. w.id) (one_said v says says') ∙ same))
one_description {v = v} (bad_reference says same bad) (kind_count q) = absurd (says_none v q says)
one_description {v = v} (bad_reference says same bad) (wrong_id says' bad') =
    absurd (bad' (ap (λ w. w.id) (one_said v says' says) ∙ same))
one_description (bad_reference says same bad) (bad_reference says' same' bad') = refl
one_description {v = v} (bad_reference says same bad) (bad_length says' same' good bad') =
    absurd (good (subst (λ w. HasBadReference w.kind) (one_said v says says') bad))
one_description {v = v} (bad_length says same good bad) (kind_count q) = absurd (says_none v q says)
one_description {v = v} (bad_length says same good bad) (wrong_id says' bad') =
    absurd (bad' (ap (λ w. w.id) (one_said v says' says) ∙ same))
one_description {v = v} (bad_length says same good bad) (bad_reference says' same' bad') =
    absurd (good (subst (λ w. HasBadReference w.kind) (one_said v says' says) bad'))
one_description (bad_length says same good bad) (bad_length says' same' good' bad') = refl

one_length : {L : Bounds} {offset : ℕ} {d : List ℕ} {r s : Reason} → WriterRefusesBody L offset d r
    → WriterRefusesBody L offset d s → r ≡ s
one_length (item_too_long long) (item_too_long long') = refl
one_length (item_too_long long) (stream_too_long item spelled past) = absurd (omega (arith, long, item))
one_length (stream_too_long item spelled past) (item_too_long long) = absurd (omega (arith, long, item))
one_length (stream_too_long item spelled past) (stream_too_long item' spelled' past') = refl

-- why a definition isn't written, once it has a body
definition_met : {base : Table} {L : Bounds} {T U : Table} {o : ℕ} {t : TypeId} {v : Tree} {d : List ℕ} {r s : Reason}
    → Body base L T (defines t v) d U
    → WriterRefusesBody L o d r → RefusesItem base L T o (defines t v) s → r ≡ s
definition_met (definition may within says is number spelled) bad (refused_id bad') = absurd (id_met bad' may)
definition_met (definition {b = b} may within says is number spelled) bad (refused_description may' bad') =
    absurd (value_met bad' within (record { bytes = b; spelled = spelled }))
definition_met (definition may within says is number spelled) bad (described_wrongly may' within' fits bad') =
    absurd (description_met bad' says)
definition_met body bad (refused_body body' bad') = let same = one_body body' body in one_length bad (rw same at bad')

-- where the body of a value is whole, writer and item are refused for one reason
value_body_met : {base : Table} {L : Bounds} {T U : Table} {o : ℕ} {t : TypeId} {v : Tree} {d : List ℕ} {r s : Reason}
    → Body base L T (puts t v) d U
    → WriterRefusesBody L o d r → RefusesItem base L T o (puts t v) s → r ≡ s
value_body_met (value may within number spelled) bad (refused_type bad') = absurd (type_met bad' may)
value_body_met (value may within number spelled) bad (refused_value may' bad') =
    absurd (value_met bad' within (top_fits spelled))
value_body_met body bad (refused_body body' bad') = let same = one_body body' body in one_length bad (rw same at bad')

pub one_reason : {base : Table} {L : Bounds} {T : Table} {o : ℕ} {i : StreamItem} {r s : Reason}
    → RefusesItem base L T o i r → RefusesItem base L T o i s → r ≡ s
one_reason (refused_id bad) (refused_id bad') = one_id bad bad'
one_reason (refused_id bad) (refused_description may bad') = absurd (id_met bad may)
one_reason (refused_id bad) (described_wrongly may within fits bad') = absurd (id_met bad may)
one_reason (refused_description may bad) (refused_id bad') = absurd (id_met bad' may)
one_reason (refused_description may bad) (refused_description may' bad') = one_value bad bad'
one_reason (refused_description may bad) (described_wrongly may' within fits bad') = absurd (value_met bad within fits)
one_reason (described_wrongly may within fits bad) (refused_id bad') = absurd (id_met bad' may)
one_reason (described_wrongly may within fits bad) (refused_description may' bad') = absurd (value_met bad' within fits)
one_reason (described_wrongly may within fits bad) (described_wrongly may' within' fits' bad') =
    one_description bad bad'
one_reason (refused_type bad) (refused_type bad') = one_type bad bad'
one_reason (refused_type bad) (refused_value may bad') = absurd (type_met bad may)
one_reason (refused_value may bad) (refused_type bad') = absurd (type_met bad' may)
one_reason (refused_value may bad) (refused_value may' bad') = one_value bad bad'
one_reason {i = defines t v} (refused_body body bad) other = definition_met body bad other
one_reason {i = puts t v} (refused_body body bad) other = value_body_met body bad other
one_reason {i = defines t v} other (refused_body body bad) = sym (definition_met body bad other)
one_reason {i = puts t v} other (refused_body body bad) = sym (value_body_met body bad other)
