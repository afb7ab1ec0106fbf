-- Bytes have one outcome.
use Rattle.std.proofs.Common.{◌≡◌, ◌≢◌, ℕ, List, [], ◌∷◌, ◌++◌, length, arith, refl, sym, ap, ◌∙◌, subst, append_assoc}
use Rattle.std.proofs.Common.{length-append}
use Rattle.std.proofs.lemmas.List.{append-nil}
use Rattle.gob_num.specs.Unsigned.{IsUnsigned, IsBadHead, IsNotMinimal}
use Rattle.gob_num.proofs.PublicLaws.{unsigned_length}
use Rattle.gob_types.specs.declared.reason.Reason.TheVariants as reason
use Rattle.gob_types.specs.Base.{base_table, wire_type}
use Rattle.gob_types.specs.Table.{Table}
use Rattle.gob_types.proofs.PublicLaws.{shape_of-append}
use Rattle.gob_stream.specs.declared.fault.Refusal.{Refusal}
use Rattle.gob_stream.specs.Bounds.{Bounds}
use Rattle.gob_stream.specs.Item.{StreamItem}
use Rattle.gob_stream.specs.Body.{Body, definition, value}
use Rattle.gob_stream.specs.Stream.{IsItem, counted, AreItems, no_more, and_then, Stream}
use Rattle.gob_stream.specs.Refusing.{refuses, RefusesCount, item_too_long, stream_too_long}
use Rattle.gob_stream.specs.Refusing as refusing
use Rattle.gob_stream.specs.Outcome.{RefusesNext, refused_count, refused_body, Ending, refused, EndsSo, at_the_end}
use Rattle.gob_stream.specs.Outcome.{next_refused, within_an_item, Outcome}
use Rattle.gob_stream.proofs.Stream.StreamLaws.{counted_prefix, NoNext, gives_items, give_one_list}
use Rattle.gob_stream.proofs.Stream.RefusingLaws.{HasWireStruct, next_not, next_once}

-- ---- descriptions stay structs
pub base_wire : HasWireStruct base_table
base_wire = record { shape = _; there = refl; struct = tt }

body_wire : {base : Table} {L : Bounds} {T U : Table} {i : StreamItem} {d : List ℕ} → Body base L T i d U
    → HasWireStruct T → HasWireStruct U
body_wire {T = T} (definition {id = id} {s = s} p l x n q k) w =
    record { shape = w.shape; there = shape_of-append T ((id, s) ∷ []) wire_type w.shape w.there; struct = w.struct }
body_wire (value p l q k) w = w

continues_wire : {base : Table} {L : Bounds} {T U : Table} {o : ℕ} {items : List StreamItem} {b : List ℕ}
    → AreItems base L T o items b U → HasWireStruct T → HasWireStruct U
continues_wire no_more w = w
continues_wire (and_then (counted u l s p) e r) w = continues_wire r (body_wire p w)

pub stream_wire : {L : Bounds} {U : Table} {items : List StreamItem} {b : List ℕ} → Stream base_table L items b U
    → HasWireStruct U
stream_wire p = continues_wire p base_wire

-- ---- what is refused
pub refused_no_item : (L : Bounds) (items : List StreamItem) (prefix z : List ℕ) (T : Table) (R : Refusal)
    → Stream base_table L items prefix T → RefusesNext base_table L T (length prefix) z R
    → (i : StreamItem) (b y : List ℕ) (U : Table) → IsItem base_table L T (length prefix) i b U → ¬ (z ≡ b ++ y)
refused_no_item L items prefix z T R p r i b y U q e = next_not y (stream_wire p) r q e

pub no_next : {L : Bounds} {T : Table} {items : List StreamItem} {prefix z : List ℕ} {R : Refusal}
    → Stream base_table L items prefix T → RefusesNext base_table L T (length prefix) z R
    → NoNext base_table L T (length prefix) z
no_next p r = λ i U b y q e. next_not y (stream_wire p) r q e

-- a stream and what is refused behind it
pub outcome_refused : {L : Bounds} {T : Table} {items : List StreamItem} {prefix bytes : List ℕ} {R : Refusal}
    (z : List ℕ) → bytes ≡ prefix ++ z → Stream base_table L items prefix T
    → RefusesNext base_table L T (length prefix) z
    R
    → Outcome base_table L bytes items (refused R)
outcome_refused {L = L} {items = items} {R = R} z e p r =
    subst (λ bytes. Outcome base_table L bytes items (refused R)) (sym e)
    (record { gives = gives_items z p (no_next p r); ends = next_refused z p refl r })

-- a stream behind which the next item has begun
pub outcome_within : {L : Bounds} {T : Table} {items : List StreamItem} {prefix bytes : List ℕ} (z : List ℕ)
    → bytes ≡ prefix ++ z → Stream base_table L items prefix T → z ≢ []
    → NoNext base_table L T (length prefix) z → ((R : Refusal) → ¬ RefusesNext base_table L T (length prefix) z R)
    → Outcome base_table L bytes items (refused (refuses (length bytes) (length bytes) reason.Ended))
outcome_within {L = L} {items = items} z e p n none r =
    subst (λ bytes. Outcome base_table L bytes items (refused (refuses (length bytes) (length bytes) reason.Ended)))
    (sym e) (record { gives = gives_items z p none; ends = within_an_item z p refl n r })

-- ---- one prefix
pub record OnePrefix (T U : Table) (b c x y : List ℕ) : Type 0 where
  pub table : T ≡ U
  pub prefix : b ≡ c
  pub rest : x ≡ y

regroup : (b p x c q y : List ℕ) → (b ++ p) ++ x ≡ (c ++ q) ++ y → b ++ (p ++ x) ≡ c ++ (q ++ y)
regroup b p x c q y e = sym (append_assoc b p x) ∙ e ∙ append_assoc c q y

pub one_prefix : {base : Table} {L : Bounds} {T U V : Table} {offset : ℕ} {items : List StreamItem} {b c : List ℕ}
    (x y : List ℕ)
    → AreItems base L T offset items b U → AreItems base L T offset items c V → b ++ x ≡ c ++ y → OnePrefix U V b c x y
one_prefix x y no_more no_more e = record { table = refl; prefix = refl; rest = e }
one_prefix {base = base} {L = L} {V = V} x y (and_then {U = U} {next = m} {items = items} {b = a} {c = b} p e r)
    (and_then {U = W} {next = n} {b = c} {c = d} q f s) h =
    let one = counted_prefix (b ++ x) (d ++ y) p q (regroup a b x c d y h) in
    let lengths : length a ≡ length c = ap length one.bytes in
    let offsets : n ≡ m = omega arith in
    let s' = subst (λ (U : Table). AreItems base L U m items d V) (sym one.table)
    (subst (λ n. AreItems base L W n items d V) offsets s) in
    let rest = one_prefix x y r s' one.rest in
    let ea : a ≡ c = one.bytes in let eb : b ≡ d = rest.prefix in
    record { table = rest.table; prefix = cc; rest = rest.rest }

-- ---- one ending
pub moved : {L : Bounds} {T U : Table} {f g x y : List ℕ} {R : Refusal} → OnePrefix T U f g x y
    → RefusesNext base_table L T (length f) x R → RefusesNext base_table L U (length g) y R
moved {L = L} {T = T} {U = U} {f = f} {g = g} {x = x} {R = R} o p =
    let p' = subst (λ (T : Table). RefusesNext base_table L T (length f) x R) o.table p in
    let p'' = subst (λ g. RefusesNext base_table L U (length g) x R) o.prefix p' in
    subst (λ z. RefusesNext base_table L U (length g) z R) o.rest p''

-- no bytes show nothing
no_number : {n : ℕ} {c : List ℕ} (r : List ℕ) → IsUnsigned n c → [] ≡ c ++ r → ⊥
no_number {c = c} r u e = let l = (unsigned_length u).0 in let k = ap length e in
    absurd (omega (arith, length-append c r))

count_shown : {L : Bounds} {offset : ℕ} {z : List ℕ} {R : Refusal} → RefusesCount L offset z R → z ≡ [] → ⊥
count_shown (refusing.RefusesCount.bad_head h) e = subst IsBadHead e h
count_shown (refusing.RefusesCount.not_minimal h) e = subst IsNotMinimal e h
count_shown (item_too_long r e u l) f = no_number r u (sym f ∙ e)
count_shown (stream_too_long r e u l k) f = no_number r u (sym f ∙ e)

nothing_refused : {L : Bounds} {T : Table} {offset : ℕ} {z : List ℕ} {R : Refusal}
    → RefusesNext base_table L T offset z R → z ≡ [] → ⊥
nothing_refused (refused_count p) f = count_shown p f
nothing_refused (refused_body r e u l k p) f = no_number r u (sym f ∙ e)

ending_once : {L : Bounds} {bytes : List ℕ} {items : List StreamItem} {e f : Ending} → EndsSo base_table L bytes items e
    → EndsSo base_table L bytes items f → e ≡ f
ending_once (at_the_end p) (at_the_end q) = refl
ending_once {L = L} {bytes = bytes} (at_the_end p) (next_refused z q e r) =
    let o = one_prefix [] z p q (append-nil bytes ∙ e) in absurd (nothing_refused r (sym o.rest))
ending_once {bytes = bytes} (at_the_end p) (within_an_item z q e n r) = let o = one_prefix [] z p q (append-nil bytes
    ∙ e) in absurd (n (sym o.rest))
ending_once {L = L} {bytes = bytes} (next_refused z q e r) (at_the_end p) =
    let o = one_prefix [] z p q (append-nil bytes ∙ e) in absurd (nothing_refused r (sym o.rest))
ending_once (next_refused z p e r) (next_refused y q f s) =
    ap (λ R. refused R) (next_once (stream_wire q) (moved (one_prefix z y p q (sym e ∙ f)) r) s)
ending_once (next_refused z p e r) (within_an_item y q f n s) = absurd (s _ (moved (one_prefix z y p q (sym e ∙ f)) r))
ending_once {bytes = bytes} (within_an_item z q e n r) (at_the_end p) = let o = one_prefix [] z p q (append-nil bytes
    ∙ e) in absurd (n (sym o.rest))
ending_once (within_an_item y q f n s) (next_refused z p e r) = absurd (s _ (moved (one_prefix z y p q (sym e ∙ f)) r))
ending_once (within_an_item z p e n r) (within_an_item y q f m s) = refl

pub outcome_once : (L : Bounds) (bytes : List ℕ) (items others : List StreamItem) (e f : Ending)
    → Outcome base_table L bytes items e → Outcome base_table L bytes others f → (items ≡ others) × (e ≡ f)
outcome_once L bytes items others e f p q =
    let same = give_one_list base_table L bytes items others p.gives q.gives in
    (same, ending_once (subst (λ (l : List StreamItem). EndsSo base_table L bytes l e) same p.ends) q.ends)
