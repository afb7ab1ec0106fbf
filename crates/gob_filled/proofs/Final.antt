-- Where bytes are refused, nothing more stands, and one refusal is given of one standing.
use Rattle.std.proofs.Common.{◌≡◌, ℕ, ◌+◌, ◌-◌, ◌≤◌, List, [], ◌∷◌, ◌++◌, length, take, arith, refl, sym, ap, ◌∙◌}
use Rattle.std.proofs.Common.{subst, append_assoc, length-append}
use Rattle.gob_num.specs.Unsigned.{IsUnsigned}
use Rattle.gob_num.proofs.PublicLaws.{unsigned_prefix, signed_prefix, bad_head_none, not_minimal_none}
use Rattle.gob_num.proofs.PublicLaws.{bad_head_not_padded, prefix_not_bad_head, prefix_not_padded}
use Rattle.gob_types.specs.declared.reason.Reason.TheVariants as reason
use Rattle.gob_types.specs.Table.{Table}
use Rattle.gob_read.specs.Refusal as body
use Rattle.gob_read.specs.Refusal.{Refused}
use Rattle.gob_read.proofs.PublicLaws.{only_extra, given_once, not_allowed_first, prefix_not_number, append_nil}
use Rattle.gob_read.proofs.Grammar.Compare.{whole_meets_top, unmet_once}
use Rattle.gob_read.proofs.Grammar.Firsts.{not_allowed_not_met}
use Rattle.gob_read.proofs.Grammar.Prefixes.{same_end}
use Rattle.gob_stream.specs.declared.fault.Refusal.{Refusal}
use Rattle.gob_stream.specs.Bounds.{Bounds}
use Rattle.gob_stream.specs.Refusing.{RefusesCount, refuses}
use Rattle.gob_stream.proofs.Stream.RefusingLaws.{count_not, next_once as strict_once, body_once, HasWireStruct}
use Rattle.gob_stream.specs.Outcome as strict
use Rattle.gob_stream.proofs.Stream.ShownLaws.{take_past}
use Rattle.gob_filled.specs.Definition.{Defines}
use Rattle.gob_filled.specs.Standing.{Level, Next, IsNextCount, of_item, within}
use Rattle.gob_filled.specs.Outcome.{RefusesInner, bad_head, not_minimal, short, too_long, RefusesNextCount, RefusesAt}
use Rattle.gob_filled.specs.Outcome.{in_skeleton, short_name, as_in_an_item, inner_count, next_count}
use Rattle.gob_filled.proofs.Prefix.{unmet, further, same_definition, not_defined}
use Rattle.gob_filled.proofs.OneWay.{State, state, bytes_of, Onto, here, first, goes_on, Step, by_name, by_definition}
use Rattle.gob_filled.proofs.OneWay.{by_type, by_end}

-- so many bytes from the front of what is there are the whole of it
take_all : (p x : List ℕ) (m : ℕ) → m ≡ length p → take m (p ++ x) ≡ p
take_all p x m e = take_past p x m (omega arith) ∙ ap (λ k. p ++ take k x) (let n : m - length p ≡ 0 = omega arith in n)
    ∙ append_nil p

prefix : (p x w : List ℕ) (m : ℕ) → p ++ x ≡ w → length p ≤ m → take m w ≡ p ++ take (m - length p) x
prefix p x w m e l = ap (λ w. take m w) (sym e) ∙ take_past p x m l

pub whole : (p x w : List ℕ) (m : ℕ) → p ++ x ≡ w → m ≡ length p → take m w ≡ p
whole p x w m e l = ap (λ w. take m w) (sym e) ∙ take_all p x m l

-- a count that fits isn't refused
fits : {at end m : ℕ} {q c : List ℕ} {R : Refusal} (x : List ℕ) → RefusesInner at end q R → IsUnsigned m c → q ≡ c ++ x
    → at + length c + m ≤ end → ⊥
fits {q = q} x (bad_head h) u e l = bad_head_none q h [] x u (append_nil q ∙ e)
fits {q = q} x (not_minimal h) u e l = not_minimal_none q h [] x u (append_nil q ∙ e)
fits x (short k h) u e l = prefix_not_number x h u e
fits x (too_long r e' u' f) u e l = let p = unsigned_prefix r x u' u (sym e' ∙ e) in let v = p.value in
    let n = ap length p.bytes in omega arith

next_fits : {L : Bounds} {left at end left' : ℕ} {q c : List ℕ} (R : Refusal) (levels : List Level) (x : List ℕ)
    → RefusesNextCount L left at levels q R → IsNextCount L at left levels c end left' → q ≡ c ++ x → ⊥
next_fits {L = L} {left = left} R [] x h (of_item u l e s k) f =
    count_not {L = record L { item = left }} x h u f l (omega arith)
next_fits {at = at} {c = c} R (around ∷ levels) x h (within {m = m} u e l) f =
    fits (take (around.end - at - length c) x) h u (ap (λ q. take (around.end - at) q) f
    ∙ take_past c x (around.end - at) (omega arith)) (omega arith)

grouped : (done c a s x : List ℕ) → done ++ ((c ++ (a ++ s)) ++ x) ≡ (done ++ c) ++ (a ++ (s ++ x))
grouped done c a s x = simp append_assoc

apart : (c a s x : List ℕ) → (c ++ (a ++ s)) ++ x ≡ c ++ (a ++ (s ++ x))
apart c a s x = simp append_assoc

is_interface : {S R : body.Refusal} → S ≡ R → R.reason ≡ reason.InterfaceValue → S.reason ≡ reason.InterfaceValue
is_interface e f = ap (λ (R : body.Refusal). R.reason) e ∙ f

-- no step goes on where the bytes are refused
pub stuck : {base : Table} {L : Bounds} {offset at left : ℕ} {U : Table} {w p z : List ℕ} {levels : List Level}
    {next : Next} {R : Refusal} {S : State} (x : List ℕ) → at ≡ offset + length z
    → RefusesAt base L at U w levels next left R → Step base L offset (state z U levels next left) p S → p ++ x ≡ w → ⊥
stuck {at = at} {w = w} {z = z} x k (in_skeleton {lv = lv} h n pl se re) (by_name {a = a} c s ex dl sh some u fit) e =
    let short : length (c ++ (a ++ s)) ≤ lv.end - at = omega (arith, length-append z (c ++ (a ++ s))) in
    let rest = take (lv.end - at - length (c ++ (a ++ s))) x in
    let there = ap (λ (l : List ℕ). lv.done ++ l) (prefix (c ++ (a ++ s)) x w (lv.end - at) e short)
    ∙ grouped lv.done c a s rest in
    n (is_interface (given_once h (not_allowed_first (s ++ rest) ex dl sh there u (λ e. omega arith))) refl)
stuck {at = at} {w = w} {z = z} x k (in_skeleton {lv = lv} {S = S} h n pl se re) (by_end b sp de ends) e =
    let size : lv.end - at ≡ length b = omega (arith, length-append z b) in
    let there = ap (λ (l : List ℕ). lv.done ++ l) (whole b x w (lv.end - at) e size)
    ∙ sym (append_nil (lv.done ++ b)) in
    let r =
    only_extra [] sp de (subst (λ y. Refused lv.table lv.type lv.limit (length lv.done + (lv.end - at)) y S) there
    h.refused) in
    let less = r.1 in omega (arith, length-append lv.done b)
stuck {at = at} {w = w} {z = z} x k (short_name {lv = lv} {n = n} {a = a} c r ex dl sh eq u full few)
    (by_name {a = a'} c' s ex' dl' sh' some u' fit) e =
    let short : length (c' ++ (a' ++ s)) ≤ lv.end - at = omega (arith, length-append z (c' ++ (a' ++ s))) in
    let rest = take (lv.end - at - length (c' ++ (a' ++ s))) x in
    let there : c ++ (a ++ r) ≡ c' ++ (a' ++ (s ++ rest)) = sym eq ∙ prefix (c' ++ (a' ++ s)) x w (lv.end - at) e short
    ∙ apart c' a' s rest in
    let one = unmet_once (a ++ r) (a' ++ (s ++ rest)) ex ex' (further lv.done c (a ++ r)
    ∙ ap (λ (l : List ℕ). lv.done ++ l) there ∙ sym (further lv.done c' (a' ++ (s ++ rest))))
    (not_allowed_not_met r u (λ e. omega arith)) (unmet s (s ++ rest) some u') in
    let name = unsigned_prefix r (s ++ rest) u u' one.rest in
    let v = name.value in let l = ap length name.rest in omega (arith, length-append s rest)
stuck {at = at} {w = w} {z = z} x k (short_name {lv = lv} {a = a} c r ex dl sh eq u full few) (by_end b sp de ends) e =
    let size : lv.end - at ≡ length b = omega (arith, length-append z b) in
    let there : c ++ (a ++ r) ≡ b = sym eq ∙ whole b x w (lv.end - at) e size in
    not_allowed_not_met r u (λ e. omega arith) (whole_meets_top (a ++ r) [] sp ex
    (further lv.done c (a ++ r) ∙ ap (λ (l : List ℕ). lv.done ++ l) there ∙ sym (append_nil (lv.done ++ b))))
stuck {base = base} {L = L} {at = at} {U = U} {w = w} {z = z} x k (as_in_an_item {lv = lv} h ns)
    (by_definition {b = b} {c = c} {V = V} {id = id} {v = v} def ends q) e =
    let size : lv.end - at ≡ length b = omega (arith, length-append z b) in
    let there = whole b (c ++ x) w (lv.end - at) (sym (append_assoc b c x) ∙ e) size in
    ns.no_definition id v V (ap length there ∙ sym size) (subst (λ y. Defines base L U id v y V) (sym there) def)
stuck {at = at} {w = w} {z = z} x k (as_in_an_item {lv = lv} h ns)
    (by_type {n = n} {c = c} {u = u} may sg count f l) e =
    let short : length n ≤ lv.end - at = omega (arith, length-append z (n ++ c), length-append n c) in
    ns.no_type u n (take (lv.end - at - length n) (c ++ x)) (prefix n (c ++ x) w (lv.end - at)
    (sym (append_assoc n c x) ∙ e) short) sg may
stuck {at = at} {w = w} {z = z} x k (inner_count {lv = lv} {n = n} {q = q} eq sg may h)
    (by_definition {b = b} {c = c} def ends i) e =
    let size : lv.end - at ≡ length b = omega (arith, length-append z b) in
    not_defined q [] def sg (sym eq ∙ whole b (c ++ x) w (lv.end - at) (sym (append_assoc b c x) ∙ e) size
    ∙ sym (append_nil b))
stuck {offset = offset} {at = at} {w = w} {z = z} x k (inner_count {lv = lv} {n = n} {q = q} eq sg may h)
    (by_type {n = n'} {c = c} {m = m} may' sg' count f l) e =
    let short : length (n' ++ c) ≤ lv.end - at = omega (arith, length-append z (n' ++ c)) in
    let rest = take (lv.end - at - length (n' ++ c)) x in
    let number = signed_prefix q (c ++ rest) sg sg' (sym eq ∙ prefix (n' ++ c) x w (lv.end - at) e short
    ∙ append_assoc n' c rest) in
    let same = ap length number.bytes in
    fits rest h count number.rest (omega (arith, length-append z (n' ++ c), length-append n' c))
stuck {R = R} x k (next_count {levels = levels} q eq def ends h) (by_definition {b = b} {c = c} def' ends' i) e =
    let one = same_definition q (c ++ x) def def' (sym eq ∙ sym e ∙ append_assoc b c x) in
    next_fits R levels x h i one.rest
stuck x k (next_count q eq def ends h) (by_type {n = n} {c = c} may sg count f l) e =
    not_defined (c ++ x) q def sg (sym (append_assoc n c x) ∙ e ∙ eq)

-- ---- one refusal

inner_once : {at end : ℕ} {q : List ℕ} {R S : Refusal} → RefusesInner at end q R → RefusesInner at end q S → R ≡ S
inner_once (bad_head h) (bad_head k) = refl
inner_once {q = q} (bad_head h) (not_minimal k) = absurd (bad_head_not_padded q h k)
inner_once (bad_head h) (short e k) = absurd (prefix_not_bad_head k h)
inner_once {q = q} (bad_head h) (too_long r e u l) = absurd (bad_head_none q h [] r u (append_nil q ∙ e))
inner_once {q = q} (not_minimal h) (bad_head k) = absurd (bad_head_not_padded q k h)
inner_once (not_minimal h) (not_minimal k) = refl
inner_once (not_minimal h) (short e k) = absurd (prefix_not_padded k h)
inner_once {q = q} (not_minimal h) (too_long r e u l) = absurd (not_minimal_none q h [] r u (append_nil q ∙ e))
inner_once (short e k) (bad_head h) = absurd (prefix_not_bad_head k h)
inner_once (short e k) (not_minimal h) = absurd (prefix_not_padded k h)
inner_once (short e k) (short f l) = refl
inner_once (short e k) (too_long r f u l) = absurd (prefix_not_number r k u f)
inner_once {q = q} (too_long r e u l) (bad_head h) = absurd (bad_head_none q h [] r u (append_nil q ∙ e))
inner_once {q = q} (too_long r e u l) (not_minimal h) = absurd (not_minimal_none q h [] r u (append_nil q ∙ e))
inner_once (too_long r e u l) (short f k) = absurd (prefix_not_number r k u e)
inner_once {at = at} (too_long r e u l) (too_long x f v k) = ap
    (λ (c : List ℕ). refuses at (at + length c) reason.ItemTooLong) (unsigned_prefix r x u v (sym e ∙ f)).bytes

same_refusal : {R S : Refusal} → R.place ≡ S.place → R.seen ≡ S.seen → R.reason ≡ S.reason → R ≡ S
same_refusal {R = R} {S = S} e f g =
    ap (λ (p : ℕ). refuses p R.seen R.reason) e ∙ ap (λ (s : ℕ). refuses S.place s R.reason) f
    ∙ ap (λ (r : _). refuses S.place S.seen r) g

next_once : {U : Table} (base : Table) (L : Bounds) (left at : ℕ) (q : List ℕ) → HasWireStruct U
    → (R S : Refusal) (levels : List Level) → RefusesNextCount L left at levels q R
    → RefusesNextCount L left at levels q S → R ≡ S
next_once {U = U} base L left at q wire R S [] h k = strict_once wire (counted base U h) (counted base U k)
  where
    counted : {L : Bounds} {at : ℕ} {q : List ℕ} {R : Refusal} (base U : Table) → RefusesCount L at q R
        → strict.RefusesNext base L U at q R
    counted base U h = strict.refused_count h
next_once base L left at q wire R S (around ∷ levels) h k = inner_once h k

pub once : {base : Table} {L : Bounds} {at left : ℕ} {U : Table} {w : List ℕ} {levels : List Level} {next : Next}
    {R S : Refusal} → HasWireStruct U → RefusesAt base L at U w levels next left R
    → RefusesAt base L at U w levels next left S → R ≡ S
once wire (in_skeleton h n pl se re) (in_skeleton h' n' pl' se' re') =
    let same = given_once h h' in
    let p = ap (λ (R : body.Refusal). R.place) same in let s = ap (λ (R : body.Refusal). R.seen) same in
    same_refusal (omega arith) (omega arith) (re ∙ ap (λ (R : body.Refusal). R.reason) same ∙ sym re')
once wire (in_skeleton {lv = lv} h n pl se re) (short_name {a = a} c r ex dl sh eq u full few) =
    absurd
    (n
    (is_interface
    (given_once h (not_allowed_first r ex dl sh (ap (λ (l : List ℕ). lv.done ++ l) eq
    ∙ sym (further lv.done c (a ++ r))) u (λ e. omega arith))) refl))
once wire (short_name {lv = lv} {a = a} c r ex dl sh eq u full few) (in_skeleton h n pl se re) =
    absurd
    (n
    (is_interface
    (given_once h (not_allowed_first r ex dl sh (ap (λ (l : List ℕ). lv.done ++ l) eq
    ∙ sym (further lv.done c (a ++ r))) u (λ e. omega arith))) refl))
once wire (short_name c r ex dl sh eq u full few) (short_name c' r' ex' dl' sh' eq' u' full' few') = refl
once wire (as_in_an_item h ns) (as_in_an_item h' ns') = body_once wire h h'
once wire (as_in_an_item h ns) (inner_count {u = u} {n = n} {q = q} eq sg may k) = absurd (ns.no_type u n q eq sg may)
once {base = base} {L = L} {at = at} {U = U} {w = w} wire (as_in_an_item {lv = lv} h ns)
    (next_count {V = V} {id = id} {v = v} {b = b} q eq def ends k) =
    let there = whole b q w (lv.end - at) (sym eq) (omega arith) in
    absurd (ns.no_definition id v V (ap length there ∙ omega arith)
    (subst (λ y. Defines base L U id v y V) (sym there) def))
once wire (inner_count {u = u} {n = n} {q = q} eq sg may k) (as_in_an_item h ns) = absurd (ns.no_type u n q eq sg may)
once {at = at} wire (inner_count {n = n} {q = q} {R = R} eq sg may h)
    (inner_count {lv = lv} {n = n'} {q = q'} {R = S} eq' sg' may' h') =
    let number = signed_prefix q q' sg sg' (sym eq ∙ eq') in
    inner_once h (subst (λ q. RefusesInner (at + length n) lv.end q S) (sym number.rest)
    (subst (λ (n : List ℕ). RefusesInner (at + length n) lv.end q' S) (sym number.bytes) h'))
once {at = at} {w = w} wire (inner_count {lv = lv} {n = n} {q = q} eq sg may h) (next_count {b = b} q' eq' def ends k) =
    not_defined q [] def sg (sym eq ∙ whole b q' w (lv.end - at) (sym eq') (omega arith) ∙ sym (append_nil b))
once {base = base} {L = L} {at = at} {U = U} {w = w} wire (next_count {V = V} {id = id} {v = v} {b = b} q eq def ends k)
    (as_in_an_item {lv = lv} h ns) =
    let there = whole b q w (lv.end - at) (sym eq) (omega arith) in
    absurd (ns.no_definition id v V (ap length there ∙ omega arith)
    (subst (λ y. Defines base L U id v y V) (sym there) def))
once {at = at} {w = w} wire (next_count {b = b} q' eq' def ends k) (inner_count {lv = lv} {n = n} {q = q} eq sg may h) =
    not_defined q [] def sg (sym eq ∙ whole b q' w (lv.end - at) (sym eq') (omega arith) ∙ sym (append_nil b))
once {base = base} {L = L} wire (next_count {lv = lv} {levels = levels} {left = left} {R = R} q eq def ends h)
    (next_count {R = S} q' eq' def' ends' h') =
    let one = same_definition q q' def def' (sym eq ∙ eq') in
    next_once base L left lv.end q wire R S levels h (subst (λ q. RefusesNextCount L left lv.end levels q S)
    (sym one.rest) h')

-- a refused standing leads nowhere
pub rests : {base : Table} {L : Bounds} {offset at left : ℕ} {U : Table} {w z : List ℕ} {levels : List Level}
    {next : Next} {R : Refusal} {S : State} (x : List ℕ) → at ≡ offset + length z
    → RefusesAt base L at U w levels next left R → Onto base L offset (state z U levels next left) S
    → z ++ w ≡ bytes_of S ++ x → state z U levels next left ≡ S
rests x k h here e = refl
rests {w = w} {z = z} x k h (first {p = p} s f o) e =
    let m = goes_on o in
    absurd
    (stuck (m.0 ++ x) k h s
    (sym (same_end z w (p ++ (m.0 ++ x)) (e ∙ ap (λ (l : List ℕ). l ++ x) (m.1 ∙ ap (λ (l : List ℕ). l ++ m.0) f)
    ∙ apart3 z p m.0 x))))
  where
    apart3 : (z p m x : List ℕ) → ((z ++ p) ++ m) ++ x ≡ z ++ (p ++ (m ++ x))
    apart3 z p m x = simp append_assoc
