-- What a writer has written after a call.
use Rattle.std.proofs.Common.{◌≡◌, ℕ, ℤ, pos, negsuc, ◌+◌, ◌-◌, List, [], ◌∷◌, ◌++◌, length, true, Option, Result}
use Rattle.std.proofs.Common.{Ok, Err, refl, sym, ap, subst, ◌∙◌, arith, inl, append_assoc, append-nil, length-append}
use Rattle.std.proofs.KnownBytes.{Keeps-refl}
use Rattle.gob_num.specs.Signed.{IsSigned}
use Rattle.gob_num.specs.Spelled.{Appends}
use Rattle.gob_num.specs.Unsigned.{IsUnsigned}
use Rattle.gob_types.specs.Base.{base_table}
use Rattle.gob_types.specs.Defined.{types}
use Rattle.gob_types.specs.Denial.{IsDenial}
use Rattle.gob_types.specs.Table.{Table}
use Rattle.gob_types.specs.declared.denial.Denial.{Denial}
use Rattle.gob_types.specs.declared.denial.Denial.TheVariants as denial
use Rattle.gob_types.specs.declared.id.TypeId.{TypeId}
use Rattle.gob_types.specs.declared.kind.Shape.{Shape}
use Rattle.gob_types.specs.declared.reason.Reason.{Reason}
use Rattle.gob_value.specs.Described.{described}
use Rattle.gob_value.specs.Loose.{DescribesLoosely}
use Rattle.gob_value.proofs.DescribedLaws.{describes}
use Rattle.gob_stream.specs.Body.{MayPut, definition}
use Rattle.gob_stream.specs.Bounds.{Bounds, within_trees}
use Rattle.gob_stream.specs.Item.{defines}
use Rattle.gob_stream.specs.Machine.Denial.{write_fault}
use Rattle.gob_stream.specs.WriterRefusal.{RefusesItem, item_too_long, refused_body, stream_too_long}
use Rattle.gob_stream.specs.declared.fault.WriteFault.{WriteFault}
use Rattle.gob_filled.specs.Definition as filled
use Rattle.gob_filled.specs.Filled.{Filled, SpellsFilled}
use Rattle.gob_filled.specs.Stream.{FilledItem, defining, putting, AreFilledItems, FilledStream, IsFilledItem}
use Rattle.gob_filled.specs.Stream.{last_counted, of_definition, of_value, and_then, no_more}
use Rattle.gob_filled_writer.specs.Heads.{BeginsItem, IsDescribedAs, RefusesBytes, RefusesLength}
use Rattle.gob_filled_writer.specs.Heads.{long_item, long_stream}
use Rattle.gob_filled_writer.specs.Writing.{HasWritten, RefusesFilledItem, SendAnswers, WriteAnswers, refused_bytes}
use Rattle.gob_filled_writer.specs.declared.writer.FilledWriter.{FilledWriter}

-- ---- items

-- an item behind others
one_more : {L : Bounds} {T U V : Table} {offset next : ℕ} {items : List FilledItem} {i : FilledItem} {b c : List ℕ}
    → AreFilledItems base_table L T offset items b U → next ≡ offset + length b → IsFilledItem base_table L U next i c V
    → AreFilledItems base_table L T offset (items ++ i ∷ []) (b ++ c) V
one_more {L = L} {V = V} {next = next} {i = i} {c = c} (no_more {T = T} {offset = offset}) e h =
    subst (λ b. AreFilledItems base_table L T offset (i ∷ []) b V) (append-nil c)
    (and_then (subst (λ n. IsFilledItem base_table L T n i c V) (omega arith) h) refl no_more)
one_more {L = L} {T = T} {V = V} {offset = offset} {items = items} {i = i} {c = d} (and_then {i = j} {items = js}
    {b = b} {c = c} k n is) e h =
    subst (λ l. AreFilledItems base_table L T offset (j ∷ (js ++ i ∷ [])) l V) (sym (append_assoc b c d))
    (and_then k n (one_more is (omega (arith, length-append b c)) h))

-- the count and the number, and behind them the rest
in_front : {L : Bounds} {offset : ℕ} {number : ℤ} {rest head : List ℕ} (h : BeginsItem L offset number rest head)
    → h.count ++ (h.spelled ++ rest) ≡ head ++ rest
in_front {rest = rest} h = sym (ap (λ l. l ++ rest) h.whole ∙ append_assoc h.count h.spelled rest)

-- the item of a value whose bytes stand behind the head
pub value_item : {L : Bounds} {T : Table} {id : TypeId} {w : Filled} {offset : ℕ} {number : ℤ} {rest head : List ℕ}
    → MayPut T id → SpellsFilled base_table L T id L.depth w rest T → number ≡ pos id.0
    → BeginsItem L offset number rest head
    → IsFilledItem base_table L T offset (putting id w) (head ++ rest) T
value_item {L = L} {T = T} {id = id} {w = w} {offset = offset} {rest = rest} may spelled same h =
    subst (λ b. IsFilledItem base_table L T offset (putting id w) b T) (in_front h)
    (of_value may (subst (λ i. IsSigned i h.spelled) same h.numbered) spelled
    (last_counted (h.spelled ++ rest) h.bytes h.counted h.item h.stream))

-- the limits don't admit it
pub value_refused : {L : Bounds} {T : Table} {id : TypeId} {w : Filled} {offset : ℕ} {number : ℤ} {rest : List ℕ}
    {r : Reason} → MayPut T id → SpellsFilled base_table L T id L.depth w rest T → number ≡ pos id.0
    → RefusesBytes L offset number rest r → RefusesFilledItem L T offset (putting id w) r
value_refused {L = L} {offset = offset} {rest = rest} {r = r} may spelled same h =
    refused_bytes may spelled (subst (λ i. RefusesBytes L offset i rest r) same h)

-- the number of a defined type is above 0
own_number : {L : Bounds} {T : Table} {id : TypeId} {s : Shape} {rest : List ℕ} → IsDescribedAs L T id s rest
    → id.0 ≡ id.0 - 1 + 1
own_number d = omega (arith, d.may.own.0)

-- and of a definition whose description does
pub definition_item : {L : Bounds} {T : Table} {id : TypeId} {s : Shape} {offset : ℕ} {number : ℤ}
    {rest head : List ℕ} → IsDescribedAs L T id s rest → number ≡ negsuc (id.0 - 1)
    → BeginsItem L offset number rest head
    → IsFilledItem base_table L T offset (defining id (described id s)) (head ++ rest) (T ++ (id, s) ∷ [])
definition_item {L = L} {T = T} {id = id} {s = s} {offset = offset} d same h =
    let loose : DescribesLoosely id (described id s) s =
    record { said = id; describes = describes id s d.definable; allowed = inl refl } in
    subst (λ b. IsFilledItem base_table L T offset (defining id (described id s)) b (T ++ (id, s) ∷ [])) (in_front h)
    (of_definition h.counted h.item h.stream
    (filled.defines d.may d.within loose (own_number d) (subst (λ i. IsSigned i h.spelled) same h.numbered) d.spelled))

-- the limits don't admit it
pub definition_refused : {L : Bounds} {T : Table} {id : TypeId} {s : Shape} {offset : ℕ} {number : ℤ}
    {rest : List ℕ} {r : Reason} → IsDescribedAs L T id s rest → number ≡ negsuc (id.0 - 1)
    → RefusesBytes L offset number rest r
    → RefusesItem base_table L T offset (defines id (described id s)) r
definition_refused {id = id} {s = s} d same h =
    refused_body (definition d.may d.within (describes id s d.definable) (own_number d)
    (subst (λ i. IsSigned i h.spelled) same h.numbered) d.spelled) h.refused

-- what was appended to nothing
pub alone : {P : List ℕ → Type 0} {old new : List ℕ} → old ≡ [] → Appends P old new → P new
alone {P = P} none a = subst P (sym (a.appended ∙ ap (λ l. l ++ a.bytes) none)) a.spelled

-- what is too long for the limits
pub length_refused : {L : Bounds} {offset n size : ℕ} {number : ℤ} (rest spelled count : List ℕ) {r : Reason}
    → IsSigned number spelled → IsUnsigned size count → size ≡ length (spelled ++ rest) → n ≡ length count
    → RefusesLength L offset n size r → RefusesBytes L offset number rest r
length_refused rest spelled count numbered counted same long (long_item more) = record {
  spelled = spelled;
  numbered = numbered;
  refused = item_too_long (omega (arith, same, more));
}
length_refused rest spelled count numbered counted same long (long_stream fits past) = record {
  spelled = spelled;
  numbered = numbered;
  refused = stream_too_long {c = count} (omega (arith, same, fits)) (subst (λ k. IsUnsigned k count) same counted)
      (omega (arith, same, long, past, length-append count (spelled ++ rest)));
}

-- ---- what is answered

-- nothing went out
pub denied : (L : Bounds) (w : FilledWriter) (items : List FilledItem) (bytes : List ℕ) (T : Table) (i : FilledItem)
    (out : Option (List ℕ)) (d : Denial) → IsDenial (RefusesFilledItem L T (length bytes) i) d
    → WriteAnswers L w w items bytes T i out out (Err (write_fault d))
denied L w items bytes T i out (denial.Refused r) refused = (refused, (refl, Keeps-refl out))
denied L w items bytes T i out denial.Memory refused = (refl, Keeps-refl out)

-- the writer knows the types behind the item
pub record IsReadied (w ready : FilledWriter) (U : Table) : Type 0 where
  pub limits : ready.limits ≡ w.limits
  pub most : ready.types.most ≡ w.types.most
  pub table : types ready.types ≡ U
  pub offset : ready.offset ≡ w.offset

-- the bytes of the item went out, or a prefix of them
pub sent : (w ready w' : FilledWriter) (all : List ℕ) (items : List FilledItem) (bytes : List ℕ) (T U : Table)
    (i : FilledItem) (old new : Option (List ℕ)) (r : Result (Unit {0}) WriteFault) → HasWritten w items bytes T
    → IsReadied w ready U → IsFilledItem base_table (within_trees w.limits) T (length bytes) i all U
    → SendAnswers ready w' all old new r → WriteAnswers (within_trees w.limits) w w' items bytes T i old new r
sent w ready w' all items bytes T U i old new (Ok u) h k item s =
    let limits = ap (λ (v : FilledWriter). v.limits) s.1 ∙ k.limits in
    record {
      more = all;
      table = U;
      item = item;
      out = s.0;
      limits = limits;
      written = record {
        stream = subst (λ (L : Bounds). FilledStream base_table (within_trees L) (items ++ i ∷ []) (bytes ++ all) U)
            (sym limits) (one_more h.stream (omega arith) item);
        table = ap (λ (v : FilledWriter). types v.types) s.1 ∙ k.table;
        room = ap (λ (v : FilledWriter). v.types.most) s.1 ∙ k.most ∙ h.room
            ∙ sym (ap (λ (L : Bounds). L.types) limits);
        offset = ap (λ (v : FilledWriter). v.offset) s.1 ∙ ap (λ o. o + length all) (k.offset ∙ h.offset)
            ∙ sym (length-append bytes all);
        sound = ap (λ (v : FilledWriter). v.failed) s.1;
      };
    }
sent w ready w' all items bytes T U i old new (Err f) h k item s =
    let L = within_trees w.limits in
    subst (λ g. WriteAnswers L w w' items bytes T i old new (Err g)) (sym s.2) (
      record {
        prefix = s.0.prefix;
        rest = s.0.rest;
        table = U;
        item = subst (λ b. IsFilledItem base_table L T (length bytes) i b U) s.0.whole item;
        out = s.0.out;
      },
      ap (λ (v : FilledWriter). v.failed) s.1,
    )

-- no writer that failed has written items
pub failed_wrote : {A : Type 0} {w : FilledWriter} {items : List FilledItem} {bytes : List ℕ} {T : Table}
    → w.failed ≡ true → HasWritten w items bytes T → A
failed_wrote failed written = let sound = written.sound in absurd (cc)
