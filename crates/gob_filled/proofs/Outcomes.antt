-- Any bytes have one outcome, where values may be filled.
use Rattle.std.proofs.Common.{◌≡◌, ℕ, ◌+◌, List, [], ◌∷◌, ◌++◌, length, arith, refl, sym, ap, ◌∙◌, subst, length-append}
use Rattle.gob_num.specs.Unsigned.{IsUnsigned, IsBadHead, IsNotMinimal}
use Rattle.gob_num.proofs.PublicLaws.{unsigned_length, regroup}
use Rattle.gob_types.specs.Base.{base_table, wire_type}
use Rattle.gob_types.specs.Table.{Table}
use Rattle.gob_types.proofs.PublicLaws.{Keeps}
use Rattle.gob_value.specs.Top.{HasStructs}
use Rattle.gob_read.proofs.PublicLaws.{append_nil}
use Rattle.gob_read.proofs.Grammar.Prefixes.{same_end}
use Rattle.gob_stream.specs.declared.fault.Refusal.{Refusal}
use Rattle.gob_stream.specs.Bounds.{Bounds}
use Rattle.gob_stream.specs.Refusing.{RefusesCount}
use Rattle.gob_stream.specs.Refusing as counts
use Rattle.gob_stream.proofs.Stream.OutcomeLaws.{base_wire}
use Rattle.gob_filled.specs.Stream.{FilledItem, IsFilledItem, of_definition, of_value, AreFilledItems, no_more}
use Rattle.gob_filled.specs.Stream.{and_then, FilledStream}
use Rattle.gob_filled.specs.Outcome.{RefusesFilled, refused_count, refused_body, refused_value, Ending, refused}
use Rattle.gob_filled.specs.Outcome.{EndsFilled, at_the_end, next_refused, within_an_item, FilledOutcome}
use Rattle.gob_filled.proofs.Strict.{filled_keeps}
use Rattle.gob_filled.proofs.Items.{one_filled_item}
use Rattle.gob_filled.proofs.Complete.{stands_so}
use Rattle.gob_filled.proofs.Refused.{refused_once, item_not_refused, definition_not_refused, definition_keeps, in_turn}
use Rattle.gob_filled.proofs.Refused.{begins}

pub no_item : {base : Table} {L : Bounds} {T U : Table} {offset : ℕ} {i : FilledItem} {b : List ℕ} {R : Refusal}
    (y : List ℕ) → IsFilledItem base L T offset i b U → RefusesFilled base L T offset (b ++ y) R → ⊥
no_item y (of_definition n l s d) h = definition_not_refused y (of_definition n l s d) h
no_item y (of_value may sg k cs) h = item_not_refused y (stands_so (of_value may sg k cs)) h

item_keeps : {base : Table} {L : Bounds} {T U : Table} {offset : ℕ} {i : FilledItem} {b : List ℕ}
    → IsFilledItem base L T offset i b U → Keeps T U
item_keeps (of_definition n l s d) = definition_keeps d
item_keeps (of_value may sg k cs) = filled_keeps k

items_keep : {base : Table} {L : Bounds} {T U : Table} {offset : ℕ} {items : List FilledItem} {b : List ℕ}
    → AreFilledItems base L T offset items b U → Keeps T U
items_keep no_more = record { shape = λ t s e. e }
items_keep (and_then i n is) = in_turn (item_keeps i) (items_keep is)

wire : {L : Bounds} {U : Table} {items : List FilledItem} {b : List ℕ} → FilledStream base_table L items b U
    → HasStructs U wire_type
wire s = record {
  shape = base_wire.shape;
  found = (items_keep s).shape wire_type base_wire.shape base_wire.there;
  struct = base_wire.struct;
}

-- lists of one length that the same bytes begin with are one
record OneList (items others : List FilledItem) (b c x y : List ℕ) (U V : Table) : Type 0 where
  pub items_are : items ≡ others
  pub bytes : b ≡ c
  pub rest : x ≡ y
  pub table : U ≡ V

one_list : {base : Table} {L : Bounds} {T U V : Table} {offset : ℕ} {items others : List FilledItem} {b c : List ℕ}
    (x y : List ℕ) → AreFilledItems base L T offset items b U
    → AreFilledItems base L T offset others c V → length items ≡ length others → b ++ x ≡ c ++ y
    → OneList items others b c x y U V
one_list x y no_more no_more n e = record { items_are = refl; bytes = refl; rest = e; table = refl }
one_list x y no_more (and_then i k is) n e = absurd (omega arith)
one_list x y (and_then i k is) no_more n e = absurd (omega arith)
one_list {base = base} {L = L} {V = V} {offset = offset} x y (and_then {next = next} {items = items} {b = b}
    {c = p} i k is) (and_then {U = U} {next = next'} {items = others} {b = c} {c = q} j k' js) n e =
    let grouped = regroup b p x c q y e in
    let one = one_filled_item (p ++ x) (q ++ y) i j grouped in
    let eb : b ≡ c = one.1 in
    let places : next' ≡ next = k' ∙ ap (λ (b : List ℕ). offset + length b) (sym eb) ∙ sym k in
    let rest = one_list x y is (subst (λ T. AreFilledItems base L T next others q V) (sym one.2)
    (subst (λ n. AreFilledItems base L U n others q V) places js)) (omega arith)
    (same_end b (p ++ x) (q ++ y) (grouped ∙ ap (λ (b : List ℕ). b ++ (q ++ y)) (sym eb))) in
    record { items_are = two one.0 rest.items_are; bytes = both eb rest.bytes; rest = rest.rest; table = rest.table }
  where
    two : {i j : FilledItem} {is js : List FilledItem} → i ≡ j → is ≡ js → i ∷ is ≡ j ∷ js
    two e f = cc

    both : {a b c d : List ℕ} → a ≡ c → b ≡ d → a ++ b ≡ c ++ d
    both e f = cc

some : {n : ℕ} {c : List ℕ} {A : Type 0} (r : List ℕ) → IsUnsigned n c → [] ≡ c ++ r → A
some {c = c} r u e = absurd (let l = (unsigned_length u).0 in let z = ap length e in omega (arith, length-append c r))

-- no bytes are refused
no_bytes : {base : Table} {L : Bounds} {T : Table} {offset : ℕ} {z : List ℕ} {R : Refusal} → z ≡ []
    → RefusesFilled base L T offset z R → ⊥
no_bytes e (refused_count h) = by h e
  where
    by : {L : Bounds} {offset : ℕ} {z : List ℕ} {R : Refusal} → RefusesCount L offset z R → z ≡ [] → ⊥
    by (counts.RefusesCount.bad_head h) e = subst (λ z. IsBadHead z) e h
    by (counts.RefusesCount.not_minimal h) e = subst (λ z. IsNotMinimal z) e h
    by (counts.RefusesCount.item_too_long r f u l) e = some r u (sym e ∙ f)
    by (counts.RefusesCount.stream_too_long r f u l k) e = some r u (sym e ∙ f)
no_bytes e (refused_body r f u l s k ns) = some r u (sym e ∙ f)
no_bytes {z = z} e (refused_value {w = w} f p h) = let b = begins w z p f in
    some (b.number ++ b.rest) b.counts (sym e ∙ b.whole)

one_ending : {L : Bounds} {bytes : List ℕ} {items : List FilledItem} {e f : Ending}
    → EndsFilled base_table L bytes items e → EndsFilled base_table L bytes items f → e ≡ f
one_ending (at_the_end s) (at_the_end r) = refl
one_ending {bytes = bytes} (at_the_end s) (next_refused {f = f} z r w h) = let o =
    one_list [] z s r refl (append_nil bytes ∙ w) in absurd (no_bytes (sym o.rest) h)
one_ending {bytes = bytes} (at_the_end s) (within_an_item {f = f} z r w n h) = let o =
    one_list [] z s r refl (append_nil bytes ∙ w) in absurd (n (sym o.rest))
one_ending {bytes = bytes} (next_refused {f = f} z r w h) (at_the_end s) = let o =
    one_list [] z s r refl (append_nil bytes ∙ w) in absurd (no_bytes (sym o.rest) h)
one_ending {L = L} (next_refused {f = f} {T = T} z r w h) (next_refused {f = g} {T = U} {R = S} y s v k) =
    let o = one_list z y r s refl (sym w ∙ v) in
    ap refused (refused_once (wire r) h (subst (λ z. RefusesFilled base_table L T (length f) z S) (sym o.rest)
    (subst (λ T. RefusesFilled base_table L T (length f) y S) (sym o.table)
    (subst (λ (f : List ℕ). RefusesFilled base_table L U (length f) y S) (sym o.bytes) k))))
one_ending {L = L} (next_refused {f = f} {T = T} {R = R} z r w h) (within_an_item {f = g} {T = U} y s v n k) =
    let o = one_list y z s r refl (sym v ∙ w) in
    absurd
    (k R (subst (λ z. RefusesFilled base_table L U (length g) z R) (sym o.rest)
    (subst (λ T. RefusesFilled base_table L T (length g) z R) (sym o.table)
    (subst (λ (f : List ℕ). RefusesFilled base_table L T (length f) z R) (sym o.bytes) h))))
one_ending {bytes = bytes} (within_an_item {f = f} z r w n h) (at_the_end s) = let o =
    one_list [] z s r refl (append_nil bytes ∙ w) in absurd (n (sym o.rest))
one_ending {L = L} (within_an_item {f = g} {T = U} y s v n k) (next_refused {f = f} {T = T} {R = R} z r w h) =
    let o = one_list y z s r refl (sym v ∙ w) in
    absurd
    (k R (subst (λ z. RefusesFilled base_table L U (length g) z R) (sym o.rest)
    (subst (λ T. RefusesFilled base_table L T (length g) z R) (sym o.table)
    (subst (λ (f : List ℕ). RefusesFilled base_table L T (length f) z R) (sym o.bytes) h))))
one_ending (within_an_item z r w n h) (within_an_item y s v m k) = refl

pub one_outcome : {L : Bounds} {bytes : List ℕ} {items others : List FilledItem} {e f : Ending}
    → FilledOutcome base_table L bytes items e → FilledOutcome base_table L bytes others f
    → (items ≡ others) × (e ≡ f)
one_outcome {L = L} {bytes = bytes} {items = items} {f = f} a b =
    let p = a.gives.begins in let q = b.gives.begins in
    let l = a.gives.longest _ q in let k = b.gives.longest _ p in
    let o = one_list p.rest q.rest p.stream q.stream (omega arith) (sym p.whole ∙ q.whole) in
    (o.items_are, one_ending a.ends (subst (λ items. EndsFilled base_table L bytes items f) (sym o.items_are) b.ends))
