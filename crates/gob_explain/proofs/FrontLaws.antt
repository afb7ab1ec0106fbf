-- Where something is expected, rows lead there, and one list of them.
use Rattle.std.proofs.Common.{◌≡◌, ℕ, suc, List, [], ◌∷◌, ◌++◌, refl, sym, ap, ◌∙◌, subst, append_assoc, arith}
use Rattle.std.proofs.lemmas.Option.{slice_get_within}
use Rattle.gob_num.specs.Unsigned.{short}
use Rattle.gob_types.specs.declared.id.TypeId.{TypeId}
use Rattle.gob_types.specs.declared.kind.Field.{Field}
use Rattle.gob_types.specs.declared.kind.Kind.{Kind}
use Rattle.gob_types.specs.declared.kind.Kind.TheVariants as kind
use Rattle.gob_types.specs.Table.{Table}
use Rattle.gob_value.specs.Tree as Value
use Rattle.gob_value.specs.Spelling as spelling
use Rattle.gob_read.specs.Expected.{Expected}
use Rattle.gob_read.specs.Expects.{FieldsRun, no_fields, field_then, Enters, ExpectsAt, Expects, ExpectsTop}
use Rattle.gob_read.specs.Expects as expects
use Rattle.gob_read.proofs.Grammar.Inside.{InsideTop, inside_struct, inside_behind_tag, outermost, inside_more_top}
use Rattle.gob_read.proofs.Grammar.Inside.{inside_expects_top, run_more}
use Rattle.gob_explain.specs.Rows.{Row, row, leaf, size, elements, entries, names, tag}
use Rattle.gob_explain.specs.Laws.{Stands, EachStands, Leads}
use Rattle.gob_explain.proofs.RowLaws.{append_nil, joined_append, both, explained, explained_each, explained_pairs}
use Rattle.gob_explain.proofs.PlaceLaws.{At, first_at, stand_append, stand, each_stand, pairs_stand, delta_at}
use Rattle.gob_explain.proofs.PlaceLaws.{pattern_number}

-- rows that lead on
pub leads_on : (T : Table) (t : TypeId) (q b c : List ℕ) → Leads T t q b → Leads T t (q ++ b) c → Leads T t q (b ++ c)
leads_on T t q b c f g = (
  f.0 ++ g.0,
  stand_append T t q f.0 g.0 f.1 (subst (λ l. EachStands T t l g.0) (ap (λ l. q ++ l) (sym f.2)) g.1),
  joined_append f.0 g.0 ∙ both f.2 g.2,
)

pub one_row : (T : Table) (t : TypeId) (q : List ℕ) (r : Row) → Stands T t q r → Leads T t q r.bytes
one_row T t q r s = (r ∷ [], (s, tt), append_nil r.bytes)

-- whole fields
run_leads : {T : Table} {t : TypeId} {types : List Field} {p b c : List ℕ} {d begin start next : ℕ}
    → At T t (kind.Struct types) p d → begin ≡ 0
    → FieldsRun T types begin start b → FieldsRun T types start next c → Leads T t (p ++ b) c
run_leads a e run no_fields = ([], tt, refl)
run_leads {T = T} {t = t} {types = types} {p = p} {b = b} {d = d} {start = start} a e run
    (field_then {f = f} {e = field} {v = v} {a = n} {b = s} {c = c} l at q r more) =
    let within = slice_get_within types f field at in
    let from = subst (λ k. FieldsRun T types k start b) e run in
    let inside = a.enters (b ++ n) field.id (expects.next_field from l at q) in
    let x = explained T (suc d) field.id v s r in
    let number : Leads T t (p ++ b) n = one_row T t (p ++ b) (row d (names f field.name) n) (
      _,
      delta_at a e run,
      (
        _,
        q,
        omega arith,
      ),
    ) in
    let value : Leads T t ((p ++ b) ++ n) s =
    subst (λ l. Leads T t l s) (sym (append_assoc p b n)) (x.0, stand inside refl x.1, x.2) in
    leads_on T t (p ++ b) n (s ++ c) number
    (leads_on T t ((p ++ b) ++ n) s c value
    (subst (λ l. Leads T t l c)
    (ap (λ l. p ++ l) (sym (append_assoc b n s)) ∙ sym (append_assoc p (b ++ n) s) ∙ ap (λ l. l ++ s) (sym
    (append_assoc p b n)))
    (run_leads a e (run_more run l at q r) more)))

-- the part that is under way, up to what it expects itself
at_leads : {T : Table} {t : TypeId} {k : Kind} {p q : List ℕ} {d : ℕ} {w : Expected} → At T t k p d
    → ExpectsAt T k q w → Leads T t p q
at_leads a expects.first = ([], tt, refl)
at_leads {T = T} {t = t} {p = p} {d = d} a (expects.second {p = n} {b = b} q) =
    one_row T t p (row d (leaf (Value.float n)) b) (_, first_at a, pattern_number q)
at_leads {T = T} {t = t} {p = p} {d = d} a (expects.byte_content {n = n} {b = b} l q) =
    one_row T t p (row d (size n) b) (_, first_at a, (_, q, tt))
at_leads {T = T} {t = t} {p = p} {d = d} a (expects.text_content {n = n} {b = b} l q) =
    one_row T t p (row d (size n) b) (_, first_at a, (_, q, tt))
at_leads {T = T} {t = t} {p = p} {d = d} a (expects.opaque_content {n = n} {b = b} l q) =
    one_row T t p (row d (size n) b) (_, first_at a, (_, q, tt))
at_leads {T = T} {t = t} {p = p} a (expects.next_delta {b = b} l run) =
    subst (λ l. Leads T t l b) (append_nil p) (run_leads a refl no_fields run)

-- up to the part in it that is under way
enters_leads : {T : Table} {t u : TypeId} {k : Kind} {p q : List ℕ} {d : ℕ} → At T t k p d → Enters T k q u
    → Leads T t p q
enters_leads {T = T} {t = t} {p = p} {d = d} a (expects.slice_element {n = n} {c = c} {b = b} q qs l) =
    let x = explained_each (suc d) qs in
    leads_on T t p c b (one_row T t p (row d (elements n) c) (_, first_at a, (_, q, tt))) (
      x.0,
      subst (λ l. EachStands T t (p ++ l) x.0) (append_nil c)
          (each_stand p c n (λ vs b qs l. a.enters (c ++ b) _ (expects.slice_element q qs l)) spelling.no_element
          (omega arith) refl x.1),
      x.2,
    )
enters_leads {T = T} {t = t} {p = p} {d = d} a (expects.array_element {n = n} {c = c} {b = b} q qs l) =
    let x = explained_each (suc d) qs in
    leads_on T t p c b (one_row T t p (row d (elements n) c) (_, first_at a, (_, q, refl))) (
      x.0,
      subst (λ l. EachStands T t (p ++ l) x.0) (append_nil c)
          (each_stand p c n (λ vs b qs l. a.enters (c ++ b) _ (expects.array_element q qs l)) spelling.no_element
          (omega arith) refl x.1),
      x.2,
    )
enters_leads {T = T} {t = t} {p = p} {d = d} a (expects.next_key {n = n} {c = c} {b = b} q qs l) =
    let x = explained_pairs (suc d) qs in
    leads_on T t p c b (one_row T t p (row d (entries n) c) (_, first_at a, (_, q, tt))) (
      x.0,
      subst (λ l. EachStands T t (p ++ l) x.0) (append_nil c)
          (pairs_stand p c n (λ es b qs l. a.enters (c ++ b) _ (expects.next_key q qs l))
          (λ es x b k qs r l. a.enters (c ++ (b ++ k)) _ (expects.next_value q qs l r)) spelling.no_entry (omega
          arith) refl x.1),
      x.2,
    )
enters_leads {T = T} {t = t} {p = p} {d = d} a (expects.next_value {k = k} {n = n} {x = key} {c = c} {b = b} {a = s} q
    qs l r) =
    let x = explained_pairs (suc d) qs in
    let y = explained T (suc d) k key s r in
    let before : Leads T t (p ++ c) b = (
      x.0,
      subst (λ l. EachStands T t (p ++ l) x.0) (append_nil c)
          (pairs_stand p c n (λ es b qs l. a.enters (c ++ b) _ (expects.next_key q qs l))
          (λ es x b k qs r l. a.enters (c ++ (b ++ k)) _ (expects.next_value q qs l r)) spelling.no_entry (omega
          arith) refl x.1),
      x.2,
    ) in
    let inside = a.enters (c ++ b) k (expects.next_key q qs l) in
    leads_on T t p c (b ++ s) (one_row T t p (row d (entries n) c) (_, first_at a, (_, q, tt)))
    (leads_on T t (p ++ c) b s before
    (subst (λ l. Leads T t l s) (sym (append_assoc p c b)) (y.0, stand inside refl y.1, y.2)))
enters_leads {T = T} {t = t} {p = p} {d = d} a (expects.next_field {types = types} {f = f} {e = field} {a = b} {b = n}
    run l at q) =
    let within = slice_get_within types f field at in
    let before : Leads T t p b = subst (λ l. Leads T t l b) (append_nil p) (run_leads a refl no_fields run) in
    leads_on T t p b n before (one_row T t (p ++ b) (row d (names f field.name) n) (
      _,
      delta_at a refl run,
      (
        _,
        q,
        omega arith,
      ),
    ))

-- a part, up to what is expected
leads : {T : Table} {t u : TypeId} {q p : List ℕ} {c d : ℕ} {w : Expected} → InsideTop T t q u c → Expects T u p w d
    → Leads T t q p
leads i (expects.in_itself f a) =
    at_leads (record { expects = λ q w b. inside_expects_top i f b; enters = λ q u n. inside_more_top i f n }) a
leads {T = T} {t = t} {q = q} i (expects.in_part {p = p} {q = s} f n a) =
    leads_on T t q s p
    (enters_leads (record { expects = λ q w b. inside_expects_top i f b; enters = λ q u n. inside_more_top i f n }) n)
    (leads (inside_more_top i f n) a)

pub leads_top : (T : Table) (t : TypeId) (p : List ℕ) (w : Expected) (d : ℕ) → ExpectsTop T t p w d → Leads T t [] p
leads_top T t p w d (expects.in_struct f i a) = leads (inside_struct f i outermost) a
leads_top T t p w d (expects.at_tag f n) = ([], tt, refl)
leads_top T t _ w d (expects.behind_tag {p = p} f n a) =
    leads_on T t [] (0 ∷ []) p (one_row T t [] (row 0 tag (0 ∷ [])) (
      _,
      expects.at_tag f n,
      (
        0,
        short (omega arith),
        refl,
      ),
    ))
    (leads (inside_behind_tag f n outermost) a)
