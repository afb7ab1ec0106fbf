-- Rows lead as far as anything is expected.
use Rattle.std.proofs.Common.{◌≡◌, ℕ, ◌+◌, ◌-◌, ◌<◌, ◌≤◌, ◌⊎◌, List, [], ◌∷◌, ◌++◌, length, take, drop}
use Rattle.std.proofs.Common.{inl, inr, refl, sym, ap, ◌∙◌, subst, arith}
use Rattle.std.proofs.lemmas.List.{length-drop}
use Rattle.std.proofs.Common.{length-append}
use Rattle.gob_num.specs.Unsigned.{IsUnsigned}
use Rattle.gob_num.proofs.PublicLaws.{append_split, unsigned_prefix}
use Rattle.gob_types.specs.Ready.{IsReady}
use Rattle.gob_types.specs.declared.id.TypeId.{TypeId}
use Rattle.gob_types.specs.Table.{Table}
use Rattle.gob_read.specs.Expected.{Allowed, Allows, Expected, a_number, any, array_count, delta, nil, raw, tag}
use Rattle.gob_read.specs.Expected.{truth_value}
use Rattle.gob_read.specs.Expects.{ExpectsTop}
use Rattle.gob_read.proofs.Grammar.Compare.{expects_once}
use Rattle.gob_explain.specs.declared.row.Row.{Row}
use Rattle.gob_explain.specs.Body.{begins_value}
use Rattle.gob_explain.specs.Open.{Open, a_value}
use Rattle.gob_explain.specs.Rows as spec
use Rattle.gob_explain.specs.Rows.{joined}
use Rattle.gob_explain.specs.Laws.{Answers, EachStands}
use Rattle.gob_explain.specs.Reach.{HasNoneTooDeep}
use Rattle.gob_explain.specs.Walk.{Awaits, Ends, NoneStands, RowsLead, Steps, StopsAt, between, opened}
use Rattle.gob_explain.specs.Walk as walk
use Rattle.gob_explain.proofs.BetweenLaws.{between_length, between_rest, take_between}
use Rattle.gob_explain.proofs.FrontLaws.{leads_top}
use Rattle.gob_explain.proofs.OneWayLaws.{answers_once, row_some}
use Rattle.gob_explain.proofs.TakesLaws.{comes_expects}

-- rows over all the bytes from a place on
record Leads (T : Table) (t : TypeId) (body : List ℕ) (at : ℕ) : Type 0 where
  pub rows : List spec.Row
  pub stand : EachStands T t (take at body) rows
  pub all : joined rows ≡ drop at body

-- where the bytes up to the place are a skeleton
abbrev AtPlace : TypeId → List ℕ → ℕ → List Open → Type 0
AtPlace t body at opens = opens ≡ a_value t 0 (take at body) ∷ []

-- a row stands there, and the others stand behind it
passed : (T : Table) (t : TypeId) (body : List ℕ) (at end : ℕ) (w : Expected) (d : ℕ) → at < end → end ≤ length body
    → ExpectsTop T t (take at body) w d → Answers w (between at end body) → Leads T t body at → Leads T t body end
passed T t body at end w d order inside here answers lead = go lead.rows lead.stand lead.all
  where
    go : (ss : List spec.Row) → EachStands T t (take at body) ss → joined ss ≡ drop at body → Leads T t body end
    go [] stand all =
        let none : 0 ≡ length (drop at body) = ap length all in
        absurd (omega (arith, length-drop at body))
    go (s ∷ ss) stand all =
        let same = expects_once stand.0.1 here in
        let cut = answers_once w s.bytes (between at end body) (joined ss) (drop end body)
        (subst (λ w. Answers w s.bytes) same.0 stand.0.2) answers
        (all ∙ sym (between_rest body at end (omega arith))) in
        record {
          rows = ss;
          stand = subst (λ q. EachStands T t q ss)
              (ap (λ b. take at body ++ b) cut.0 ∙ take_between body at end (omega arith)) stand.1;
          all = cut.1;
        }

-- no filling begins there
no_filling : (T : Table) (t : TypeId) (body : List ℕ) (at end n d : ℕ) → at < end → end ≤ length body
    → ExpectsTop T t (take at body) (a_number nil) d → IsUnsigned n (between at end body) → 0 < n
    → ¬ Leads T t body at
no_filling T t body at end n d order inside here u l lead = go lead.rows lead.stand lead.all
  where
    go : (ss : List spec.Row) → EachStands T t (take at body) ss → ¬ (joined ss ≡ drop at body)
    go [] stand all =
        let none : 0 ≡ length (drop at body) = ap length all in
        absurd (omega (arith, length-drop at body))
    go (s ∷ ss) stand all =
        let same = expects_once stand.0.1 here in
        let zero = subst (λ w. Answers w s.bytes) same.0 stand.0.2 in
        let one = (unsigned_prefix (joined ss) (drop end body) zero.1 u
        (all ∙ sym (between_rest body at end (omega arith)))).value in
        absurd (omega (arith, one, zero.2))

-- some stand behind those that were told
record Followed (T : Table) (t : TypeId) (body : List ℕ) (place : ℕ) (last : List Open) : Type 0 where
  pub leads : Leads T t body place
  pub there : AtPlace t body place last

step : (T : Table) (t : TypeId) (body : List ℕ) (r : Row) {opens next : List Open} → r.begin < r.end
    → r.end ≤ length body → AtPlace t body r.begin opens → Steps T opens r (between r.begin r.end body) next
    → Leads T t body r.begin → Followed T t body r.end next
step T t body r order inside e (walk.in_value {t = u} {base = base} {d = d} {p = p} {w = w} {outer = outer} c deep
    answers tells) lead =
    let is_type : u ≡ t = cc in
    let is_base : base ≡ 0 = cc in
    let is_front : p ≡ take r.begin body = cc in
    let is_outer : outer ≡ [] = cc in
    let here : ExpectsTop T t (take r.begin body) w d =
    subst (λ p. ExpectsTop T t p w d) is_front (subst (λ u. ExpectsTop T u p w d) is_type (comes_expects c)) in
    let up : p ++ between r.begin r.end body ≡ take r.end body =
    ap (λ p. p ++ between r.begin r.end body) is_front ∙ take_between body r.begin r.end (omega arith) in
    record {
      leads = passed T t body r.begin r.end w d order inside here answers lead;
      there = cc;
    }
step T t body r order inside e (walk.of_filling {t = u} {d = d} {p = p} c deep up q l) lead =
    let is_type : u ≡ t = cc in
    let is_front : p ≡ take r.begin body = cc in
    let here : ExpectsTop T t (take r.begin body) (a_number nil) d =
    subst (λ p. ExpectsTop T t p (a_number nil) d) is_front
    (subst (λ u. ExpectsTop T u p (a_number nil) d) is_type (comes_expects c)) in
    absurd (no_filling T t body r.begin r.end r.number d order inside here q l lead)
step T t body r order inside e (walk.of_name is n l) lead = cc
step T t body r order inside e (walk.of_definition is q s) lead = cc
step T t body r order inside e (walk.of_type is q s) lead = cc
step T t body r order inside e (walk.of_segment is q) lead = cc
step T t body r order inside e (walk.of_count is q) lead = cc

no_end : {T : Table} {t : TypeId} {p : List ℕ} {opens next : List Open} → opens ≡ a_value t 0 p ∷ []
    → ¬ Ends T opens next
no_end e (walk.description_ends s) = cc
no_end e (walk.filling_ends s) = cc

follow : (T : Table) (t : TypeId) (body : List ℕ) {opens last : List Open} {at place : ℕ} {rs : List Row}
    → AtPlace t body at opens → RowsLead T body opens at rs last place → Leads T t body at
    → Followed T t body place last
follow T t body e walk.no_row l = record { leads = l; there = e }
follow T t body e (walk.row_then r order inside s more) l =
    let one = step T t body r order inside e s l in follow T t body one.there more one.leads
follow T t body e (walk.end_then ends more) l = absurd (no_end e ends)

-- what comes next there, and that what is allowed of it in the format is allowed
record AwaitsTop (T : Table) (t : TypeId) (p : List ℕ) (w : Expected) (d : ℕ) : Type 0 where
  pub strict : Expected
  pub expects : ExpectsTop T t p strict d
  pub answers : (b : List ℕ) → Answers strict b → Answers w b

pub opens_more : (a : Allowed) (n : ℕ) → Allows a n → Allows (opened a) n
opens_more any n h = h
opens_more tag n h = h
opens_more truth_value n h = h
opens_more (array_count len) n h = h
opens_more (delta most) n h = h
opens_more nil n h = tt

at_top : {T : Table} {t : TypeId} {p : List ℕ} {opens : List Open} {w : Expected} {d : ℕ}
    → opens ≡ a_value t 0 p ∷ [] → Awaits T opens w d → AwaitsTop T t p w d
at_top {T = T} {t = t} {p = p} e (walk.awaits_number {t = u} {base = base} {d = d} {p = q} {a = a} x) =
    let is_type : u ≡ t = cc in
    let is_base : base ≡ 0 = cc in
    let is_front : q ≡ p = cc in
    let deep : d ≡ base + d = omega arith in
    record {
      strict = a_number a;
      expects = subst (λ d. ExpectsTop T t p (a_number a) d) deep (subst (λ q. ExpectsTop T t q (a_number a) d) is_front
          (subst (λ u. ExpectsTop T u q (a_number a) d) is_type x));
      answers = λ b h. (h.0, h.1, opens_more a h.0 h.2);
    }
at_top {T = T} {t = t} {p = p} e (walk.awaits_raw {t = u} {base = base} {d = d} {n = n} {p = q} x) =
    let is_type : u ≡ t = cc in
    let is_base : base ≡ 0 = cc in
    let is_front : q ≡ p = cc in
    let deep : d ≡ base + d = omega arith in
    record {
      strict = raw n;
      expects = subst (λ d. ExpectsTop T t p (raw n) d) deep (subst (λ q. ExpectsTop T t q (raw n) d) is_front
          (subst (λ u. ExpectsTop T u q (raw n) d) is_type x));
      answers = λ b h. h;
    }
at_top e walk.awaits_name = cc
at_top e walk.awaits_type_number = cc
at_top e walk.awaits_segment = cc
at_top e walk.awaits_count = cc

pub has_bytes : (b : List ℕ) → ¬ (b ≡ []) → 0 < length b
has_bytes [] n = absurd (n refl)
has_bytes (x ∷ b) n = omega arith

-- behind a row there is more of the bytes
more_there : (T : Table) (t : TypeId) (body : List ℕ) (place : ℕ) (s : spec.Row) (ss : List spec.Row)
    → place ≤ length body → EachStands T t (take place body) (s ∷ ss) → joined (s ∷ ss) ≡ drop place body
    → (0 < length s.bytes) × (place + length s.bytes ≤ length body)
more_there T t body place s ss inside stand all =
    let some = has_bytes s.bytes (row_some stand.0.0 stand.0.1 stand.0.2) in
    let count : length s.bytes + length (joined ss) ≡ length body - place =
    sym (length-append s.bytes (joined ss)) ∙ ap length all ∙ length-drop place body in
    (some, omega arith)

-- where nothing can stand, nothing is left
stops_last : (T : Table) (t : TypeId) (body : List ℕ) (most place : ℕ) {last : List Open} → place ≤ length body
    → AtPlace t body place last → NoneStands T body most last place → HasNoneTooDeep T t body most
    → (ss : List spec.Row) → EachStands T t (take place body) ss → joined ss ≡ drop place body → place ≡ length body
stops_last T t body most place inside e stop none [] stand all =
    let left : 0 ≡ length (drop place body) = ap length all in omega (arith, length-drop place body)
stops_last T t body most place inside e (walk.not_there aw no_more) none (s ∷ ss) stand all =
    let top = at_top e aw in
    let same = expects_once stand.0.1 top.expects in
    let there = more_there T t body place s ss inside stand all in
    let size = between_length body place (place + length s.bytes) (omega arith) there.1 in
    let cut = append_split s.bytes (between place (place + length s.bytes) body) (joined ss)
    (drop (place + length s.bytes) body) (omega arith)
    (all ∙ sym (between_rest body place (place + length s.bytes) (omega arith))) in
    let answers = subst (λ b. Answers top.strict b) cut.0 (subst (λ w. Answers w s.bytes) same.0 stand.0.2) in
    absurd (no_more (place + length s.bytes) (omega arith) there.1 (top.answers _ answers))
stops_last T t body most place inside e (walk.too_deep {d = d} aw deep) none (s ∷ ss) stand all =
    let top = at_top e aw in
    let there = more_there T t body place s ss inside stand all in
    absurd (omega (arith, there.0, there.1, none place (omega arith) top.strict d top.expects))

-- where rows of a type that is ready stop, none can stand
none_there : (T : Table) (t : TypeId) (body : List ℕ) (most place : ℕ) {last : List Open} → IsReady T t
    → AtPlace t body place last → StopsAt T body most last place → NoneStands T body most last place
none_there T t body most place r e (walk.none_stands none) = none
none_there T t body most place r e (walk.not_ready {t = u} n) =
    let is : u ≡ t = cc in absurd (n (subst (λ u. IsReady T u) (sym is) r))

lead_inside : {T : Table} {body : List ℕ} {opens last : List Open} {at place : ℕ} {rs : List Row}
    → RowsLead T body opens at rs last place → at ≤ length body → place ≤ length body
lead_inside walk.no_row l = l
lead_inside (walk.row_then r order inside s more) l = lead_inside more inside
lead_inside (walk.end_then ends more) l = lead_inside more l

pub reaches : (T : Table) (t : TypeId) (body : List ℕ) (most place : ℕ) (rs : List Row) (opens : List Open)
    (w : Expected) (d : ℕ) → RowsLead T body (begins_value t) 0 rs opens place
    → NoneStands T body most opens place ⊎ (IsReady T t × StopsAt T body most opens place) → ExpectsTop T t body w d
    → HasNoneTooDeep T t body most → place ≡ length body
reaches T t body most place rs opens w d lead stop e none =
    let all = leads_top T t body w d e in
    let last = follow T t body refl lead (record { rows = all.0; stand = all.1; all = all.2 }) in
    let here : NoneStands T body most opens place = elim stop [
      | inl stands ↦ stands
      | inr stops ↦ none_there T t body most place stops.0 last.there stops.1
    ] in
    stops_last T t body most place (lead_inside lead (omega arith)) last.there here none last.leads.rows
    last.leads.stand last.leads.all
