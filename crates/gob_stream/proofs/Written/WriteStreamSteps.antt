-- Writing one item after another.
use Rattle.std.proofs.Common.{◌≡◌, ℕ, ◌+◌, suc, ◌<◌, ◌≤◌, List, [], ◌∷◌, ◌++◌, length, get_or, take, drop, Option, Some}
use Rattle.std.proofs.Common.{Ok, Err, refl, sym, ap, subst, ◌∙◌, arith, take_all, take-append-drop, length-append}
use Rattle.std.specs.Prelude.{slice_get}
use Rattle.std.proofs.lemmas.List.{take_more, length-map}
use Rattle.std.proofs.Math.Seq.{drop-cons}
use Rattle.std.proofs.lemmas.Option.{slice_get-map, slice_get_read, slice_get_within, get_or_from_slice_get}
use Rattle.std.specs.Io.KnownBytes.{Appends}
use Rattle.std.proofs.KnownBytes.{Appends-nil, Appends-trans, Appends-kept}
use Rattle.gob_types.specs.Table.{Table}
use Rattle.gob_types.specs.Base.{base_table}
use Rattle.gob_value.specs.declared.value.Value.{Value}
use Rattle.gob_stream.specs.declared.item.Item as declared
use Rattle.gob_stream.specs.declared.fault.WriteFault.{WriteFault}
use Rattle.gob_stream.specs.declared.fault.WriteFault.TheVariants as fault
use Rattle.gob_stream.specs.Machine.WriterState.{WriterState}
use Rattle.gob_stream.specs.Bounds.{Bounds}
use Rattle.gob_stream.specs.Item.{StreamItem, item_view, item_views}
use Rattle.gob_stream.specs.Stream.{Stream, HasStream, AreItems, no_more, and_then}
use Rattle.gob_stream.specs.WriterRefusal.{RefusesItem}
use Rattle.gob_types.specs.declared.reason.Reason.{Reason}
use Rattle.gob_stream.specs.Calls.Writing.{HasWritten, IsNew, WritesNext, Leaves, StoppedAt, WritesStream}
use Rattle.gob_stream.proofs.Stream.StreamLaws.{counted_prefix}
use Rattle.gob_stream.proofs.Stream.RefusalLaws.{one_counted, not_counted}

pub refused_ends : {base : Table} {M : Bounds} {T U V : Table} {o next : ℕ} {before : List StreamItem}
    (after : List StreamItem) {i : StreamItem} {b c : List ℕ} {r : Reason}
    → AreItems base M T o before b U → next ≡ o + length b → RefusesItem base M U next i r
    → AreItems base M T o (before ++ i ∷ after) c V → ⊥
refused_ends {base = base} {M = M} {T = T} after {i = i} {r = r} no_more e refused (and_then first e' rest) =
    not_counted (subst (λ n. RefusesItem base M T n i r) (omega (arith, e)) refused) first
refused_ends {base = base} {M = M} {V = V} {before = j ∷ before} after {i = i}
    (and_then {next = m} {b = x} {c = y} first e rest) e' refused (and_then {U = U'} {next = m'} {b = x'} {c = z} first'
    e'' rest') =
    let bytes : x ≡ x' = one_counted first first' in
    let one = counted_prefix [] [] first first' (ap (λ l. l ++ []) bytes) in
    let lengths : length x ≡ length x' = ap length bytes in
    let here : m' ≡ m = omega (arith, e, e'', lengths) in
    let there = subst (λ n. AreItems base M U' n (before ++ i ∷ after) z V) here rest' in
    refused_ends after rest (omega (arith, length-append x y, e, e')) refused
    (subst (λ W. AreItems base M W m (before ++ i ∷ after) z V) (sym one.table) there)

-- a writer under these limits has written so many of the items, and nothing else went out
pub record WroteSome (L : Bounds) (items : List StreamItem) (n : ℕ) (w : WriterState) (old new : Option (List ℕ)) : Type
    0 where
  pub bytes : List ℕ
  pub table : Table
  pub written : HasWritten w (take n items) bytes table
  pub limits : w.limits ≡ L
  pub out : Appends old new bytes

pub item_at : (items : List (declared.Item Value)) (n : ℕ) (item : declared.Item Value) → item ≡ get_or items n item
    → n < length items → slice_get (item_views items) n ≡ Some (item_view item)
item_at items n item is within = slice_get-map item_view items n
    ∙ rw (slice_get_read items (length items) n item refl within is) refl

one_longer : (items : List StreamItem) (n : ℕ) (i : StreamItem) → slice_get items n ≡ Some i
    → take (n + 1) items ≡ take n items ++ i ∷ []
one_longer items n i at = take_more items n i (slice_get_within items n i at)
    ∙ ap (λ j. take n items ++ j ∷ []) (get_or_from_slice_get items n i i at)

pub wrote_none : (L : Bounds) (items : List StreamItem) (w : WriterState) (old : Option (List ℕ)) → IsNew w L
    → WroteSome L items 0 w old old
wrote_none L items w old new = record {
  bytes = [];
  table = base_table;
  written = new.nothing;
  limits = new.limits;
  out = Appends-nil old;
}

pub wrote_more : (L M : Bounds) (items : List StreamItem) (n : ℕ) (w w' : WriterState) (old mid new : Option (List ℕ))
    (i : StreamItem) (u : Unit {0})
    → WroteSome L items n w old mid → slice_get items n ≡ Some i → WritesNext M w w' i mid new (Ok u)
    → WroteSome L items (n + 1) w' old new
wrote_more L M items n w w' old mid new i u wrote at writes =
    let next = writes (take n items) wrote.bytes wrote.table wrote.written in
    record {
      bytes = wrote.bytes ++ next.more;
      table = next.table;
      written = subst (λ done. HasWritten w' done (wrote.bytes ++ next.more) next.table) (sym (one_longer items n i at))
          next.written;
      limits = next.limits ∙ wrote.limits;
      out = Appends-trans old mid new wrote.bytes next.more wrote.out next.out;
    }

split_at : (items : List StreamItem) (n : ℕ) (i : StreamItem) → slice_get items n ≡ Some i → items ≡ take n items
    ++ i ∷ drop (suc n) items
split_at items n i at =
    sym (take-append-drop n items) ∙ ap (λ l. take n items ++ l) (drop-cons items n i (slice_get_within items n i at)
    ∙ ap (λ j. j ∷ drop (suc n) items) (get_or_from_slice_get items n i i at))

-- no stream goes on past an item that is refused behind the items before it
no_stream : {M : Bounds} (items : List StreamItem) (n : ℕ) (i : StreamItem) {bytes : List ℕ} {T : Table} {r : Reason}
    → slice_get items n ≡ Some i
    → Stream base_table M (take n items) bytes T → RefusesItem base_table M T (length bytes) i r
    → ¬ HasStream base_table M items
no_stream {M = M} items n i at before refused has =
    refused_ends (drop (suc n) items) before (omega arith) refused
    (subst (λ l. Stream base_table M l has.bytes has.table) (split_at items n i at) has.stream)

pub stopped : (L M : Bounds) (items : List StreamItem) (n : ℕ) (w w' : WriterState) (old mid new : Option (List ℕ))
    (i : StreamItem) (f : WriteFault)
    → M ≡ L → WroteSome L items n w old mid → slice_get items n ≡ Some i → WritesNext M w w' i mid new (Err f)
    → Leaves w w' mid new (Err f) → StoppedAt L items n old new f
stopped L M items n w w' old mid new i (fault.Refused r) same wrote at writes leaves =
    let next = writes (take n items) wrote.bytes wrote.table wrote.written in
    record {
      bytes = wrote.bytes;
      table = wrote.table;
      item = i;
      before = rw wrote.limits at wrote.written.stream;
      out = Appends-kept old mid new wrote.bytes wrote.out leaves.1;
      at = at;
      refused = rw same at next;
      none = no_stream items n i at (rw wrote.limits at wrote.written.stream) (rw same at next);
    }
stopped L M items n w w' old mid new i fault.Write same wrote at writes leaves =
    let next = writes (take n items) wrote.bytes wrote.table wrote.written in
    record {
      bytes = wrote.bytes;
      prefix = next.prefix;
      rest = next.rest;
      table = wrote.table;
      last = next.table;
      item = i;
      before = rw wrote.limits at wrote.written.stream;
      out = Appends-trans old mid new wrote.bytes next.prefix wrote.out next.out;
      at = at;
      counted = rw same at next.item;
    }
stopped L M items n w w' old mid new i fault.Memory same wrote at writes leaves =
    let within : n ≤ length items = omega (arith, slice_get_within items n i at) in
    record {
      within = within;
      bytes = wrote.bytes;
      table = wrote.table;
      before =
          rw wrote.limits at wrote.written.stream;
      out = Appends-kept old mid new wrote.bytes wrote.out leaves.1;
    }
stopped L M items n w w' old mid new i fault.Failed same wrote at writes leaves =
    absurd (writes (take n items) wrote.bytes wrote.table wrote.written)

pub wrote_all : (L : Bounds) (items : List (declared.Item Value)) (n : ℕ) (w : WriterState) (old new : Option (List ℕ))
    (u : Unit {0})
    → WroteSome L (item_views items) n w old new → length items ≤ n → WritesStream L (item_views items) old new (Ok u)
wrote_all L items n w old new u wrote past =
    let all : take n (item_views items) ≡ item_views items =
    take_all n (item_views items) (omega (arith, length-map items item_view)) in
    (wrote.bytes, wrote.table, rw (all, wrote.limits) at wrote.written.stream, wrote.out)
