-- What a reader of a stream has taken, in bytes: how a call goes on from those that were taken before it.
use Rattle.std.proofs.Common.{◌≡◌, ℕ, ◌+◌, ◌≤◌, arith, List, [], ◌∷◌, ◌++◌, length, Some}
use Rattle.std.proofs.Common.{◌∙◌, ap, sym, subst, refl, append_assoc, append-nil, length-append}
use Rattle.gob_types.specs.Base.{base_table}
use Rattle.gob_types.specs.Table.{Table}
use Rattle.gob_read.specs.Building.{Building}
use Rattle.gob_stream.specs.Bounds.{Bounds}
use Rattle.gob_stream.specs.Calls.Session.{HasRead, limits_of}
use Rattle.gob_stream.specs.Item.{StreamItem}
use Rattle.gob_stream.specs.Stream.{AreItems, IsItem, Stream, and_then, no_more}
use Rattle.gob_stream.specs.Calls.Reader.{HasReadFrom}
use Rattle.gob_stream.specs.Calls.Reader.{most_ahead, room_in, session_of}
use Rattle.gob_stream.specs.Calls.Reader.{waits_in}
use Rattle.gob_stream.specs.Calls.Reader.{StreamReader}

-- ---- a stream and what follows it
record Splits (L : Bounds) (T : Table) (offset : ℕ) (items others : List StreamItem) (b : List ℕ) (V : Table) : Type
    0 where
  prefix : List ℕ
  rest : List ℕ
  table : Table
  first : AreItems base_table L T offset items prefix table
  later : AreItems base_table L table (offset + length prefix) others rest V
  whole : b ≡ prefix ++ rest

split : {L : Bounds} {T V : Table} {b : List ℕ} {offset : ℕ} (items others : List StreamItem)
    → AreItems base_table L T offset (items ++ others) b V → Splits L T offset items others b V
split {L = L} {T = T} {V = V} {b = b} {offset = offset} [] others p =
    let at : offset ≡ offset + 0 = omega arith in
    record {
      prefix = [];
      rest = b;
      table = T;
      first = no_more;
      later = subst (λ (n : ℕ). AreItems base_table L T n others b V) at p;
      whole = refl;
    }
split {L = L} {V = V} {offset = offset} (i ∷ items) others (and_then {next = next} {b = a} q e r) =
    let s = split items others r in
    let at : next + length s.prefix ≡ offset + length (a ++ s.prefix) = omega (arith, length-append a s.prefix) in
    record {
      prefix = a ++ s.prefix;
      rest = s.rest;
      table = s.table;
      first = and_then q e s.first;
      later = subst (λ (n : ℕ). AreItems base_table L s.table n others s.rest V) at s.later;
      whole = ap (λ (l : List ℕ). a ++ l) s.whole ∙ sym (append_assoc a s.prefix s.rest);
    }

-- one item that follows
pub record Follows (L : Bounds) (T : Table) (o : ℕ) (i : StreamItem) (rest : List ℕ) (U : Table) : Type 0 where
  pub bytes : List ℕ
  pub counted : IsItem base_table L T o i bytes U
  pub whole : rest ≡ bytes

pub follows : {L : Bounds} {T U : Table} {o : ℕ} {i : StreamItem} {items : List StreamItem} {rest : List ℕ}
    → AreItems base_table L T o (i ∷ items) rest U → items ≡ [] → Follows L T o i rest U
follows {L = L} {T = T} {o = o} {i = i} (and_then {b = b} q f r) e =
    let done = nothing_more r e in
    record {
      bytes = b;
      counted = subst (λ (U : Table). IsItem base_table L T o i b U) done.0 q;
      whole =
          ap (λ (l : List ℕ). b ++ l) done.1 ∙ append-nil b;
    }
  where
    nothing_more : {V W : Table} {next : ℕ} {items : List StreamItem} {c : List ℕ}
        → AreItems base_table L V next items c W
        → items ≡ [] → (V ≡ W) × (c ≡ [])
    nothing_more no_more e = (refl, refl)
    nothing_more (and_then q f r) e = absurd (cc e)

-- the last item of a stream, and those before it
pub record LastItem (L : Bounds) (items : List StreamItem) (i : StreamItem) (b : List ℕ) (V : Table) : Type 0 where
  pub prefix : List ℕ
  pub bytes : List ℕ
  pub table : Table
  pub first : Stream base_table L items prefix table
  pub counted : IsItem base_table L table (length prefix) i bytes V
  pub whole : b ≡ prefix ++ bytes

pub last_item : {L : Bounds} {V : Table} {i : StreamItem} {b : List ℕ} (items : List StreamItem)
    → Stream base_table L (items ++ i ∷ []) b V → LastItem L items i b V
last_item {L = L} {V = V} {i = i} items p =
    let s = split items (i ∷ []) p in
    let f = follows s.later refl in
    record {
      prefix = s.prefix;
      bytes = f.bytes;
      table = s.table;
      first = s.first;
      counted = subst (λ (n : ℕ). IsItem base_table L s.table n i f.bytes V) (omega arith) f.counted;
      whole = s.whole ∙ ap (λ (l : List ℕ). s.prefix ++ l) f.whole;
    }

module _ {X O : Type 0} {most : ℕ} (building : Building X O most) where
  -- an input of just those bytes that were read
  pub read_alone : {r : StreamReader X O} {items : List StreamItem} {taken : List ℕ}
      → HasRead building (session_of r) items taken
      → room_in r ≤ most_ahead (limits_of (session_of r))
      → HasReadFrom building r (Some (taken ++ waits_in r)) (Some []) items
  read_alone {r = r} {taken = taken} a room = record
      { taken = taken; input = sym (append-nil (taken ++ waits_in r)); gave = a; end = λ e. refl; room = room }
