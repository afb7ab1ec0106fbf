-- Where a reader stands it stays when the table grows.
use Rattle.std.proofs.Common.{ℕ, List, Option, Some, None}
use Rattle.gob_types.specs.declared.id.TypeId.{TypeId}
use Rattle.gob_types.specs.declared.kind.Field.{Field}
use Rattle.gob_types.specs.declared.kind.Kind.{Kind}
use Rattle.gob_types.specs.Table.{Table, Extends}
use Rattle.gob_types.proofs.PublicLaws.{Keeps, extends_keeps, ready_on}
use Rattle.gob_value.specs.Tree.{Trees, Pairs, Fields}
use Rattle.gob_value.proofs.PublicLaws.{spells_on}
use Rattle.gob_read.specs.Event.{Event}
use Rattle.gob_read.specs.Machine.Kinds.{HasKind}
use Rattle.gob_read.specs.Machine.OpenPath.{EachTold, none_told, one_told, PairsTold, no_pair_told, pair_told}
use Rattle.gob_read.specs.Machine.OpenPath.{FieldsTold, no_field_told, field_told, OpenPath, at_once, behind_tag}
use Rattle.gob_read.specs.Machine.OpenPath.{in_list, at_key, at_value, in_field, OpenStruct, open_struct, AtNext}
use Rattle.gob_read.specs.Machine.OpenPath.{at_tag, at_part, at_second, at_delta, at_raw}
use Rattle.gob_read.specs.Machine.Running.{IsReached}
use Rattle.gob_read.specs.Calls.Reader.{HasReadSoFar, nothing_taken, taken_so_far, RunHasRead, ReaderHasRead}
use Rattle.gob_read.specs.Calls.Reader.{IsUsableReader}
use Rattle.gob_read.specs.declared.frame.Frame.{Frame}
use Rattle.gob_read.specs.declared.next.Next.{Next}
use Rattle.gob_read.specs.declared.run.Run.{Run}
use Rattle.gob_read.proofs.Grammar.Stay.{shallow_grown}

has_on : {T U : Table} {u : TypeId} {k : Kind} → Keeps T U → HasKind T u k → HasKind U u k
has_on s h = record { shape = h.shape; there = s.shape _ _ h.there; kind = h.kind }

each_told_on : {T U : Table} {e : TypeId} {vs : Trees} {b : List ℕ} {us : List Event} → Keeps T U → EachTold T e vs b us
    → EachTold U e vs b us
each_told_on s none_told = none_told
each_told_on s (one_told p t r) = one_told (spells_on s p) t (each_told_on s r)

pairs_told_on : {T U : Table} {k e : TypeId} {ps : Pairs} {b : List ℕ} {us : List Event} → Keeps T U
    → PairsTold T k e ps b us → PairsTold U k e ps b us
pairs_told_on s no_pair_told = no_pair_told
pairs_told_on s (pair_told p t q o r) = pair_told (spells_on s p) t (spells_on s q) o (pairs_told_on s r)

fields_told_on : {T U : Table} {types : List Field} {start next : ℕ} {fs : Fields} {b : List ℕ} {us : List Event}
    → Keeps T U → FieldsTold T types start next fs b us → FieldsTold U types start next fs b us
fields_told_on s no_field_told = no_field_told
fields_told_on s (field_told l g n p t r) = field_told l g n (spells_on s p) t (fields_told_on s r)

within_on : {T U : Table} {t u : TypeId} {fs : List Frame} {p : List ℕ} {us : List Event} → Keeps T U
    → OpenPath T t fs p us u → OpenPath U t fs p us u
within_on s (at_once e i) = at_once (s.shape _ _ e) i
within_on s (behind_tag e i) = behind_tag (s.shape _ _ e) i
within_on s (in_list w h l n r m) = in_list (within_on s w) (has_on s h) l n (each_told_on s r) m
within_on s (at_key w h n r m) = at_key (within_on s w) (has_on s h) n (pairs_told_on s r) m
within_on s (at_value w h n r m p t) = at_value (within_on s w) (has_on s h) n (pairs_told_on s r) m (spells_on s p) t
within_on s (in_field w h r l m g n) = in_field (within_on s w) (has_on s h) (fields_told_on s r) l m g n

open_on : {T U : Table} {t u : TypeId} {fs : List Frame} {types : List Field} {next : ℕ} {p : List ℕ} {us : List Event}
    → Keeps T U → OpenStruct T t fs u types next p us → OpenStruct U t fs u types next p us
open_on s (open_struct w h r) = open_struct (within_on s w) (has_on s h) (fields_told_on s r)

place_on : {T U : Table} {t : TypeId} {fs : List Frame} {a : Next} {p r : List ℕ} {us : List Event} → Keeps T U
    → AtNext T t fs a p r us → AtNext U t fs a p r us
place_on s (at_tag e i) = at_tag (s.shape _ _ e) i
place_on s (at_part w) = at_part (within_on s w)
place_on s (at_second w h n) = at_second (within_on s w) (has_on s h) n
place_on s (at_delta o l) = at_delta (open_on s o) l
place_on s (at_raw w h k n t e l) = at_raw (within_on s w) (has_on s h) k n t e l

reached_on : {T U : Table} {t : TypeId} {X O : Type 0} {received : X → List Event → Type 0} {run : Run X O} {z : List ℕ}
    → Keeps T U → IsReached T t received run z → IsReached U t received run z
reached_on s h = record {
  ready = ready_on s h.ready;
  before = h.before;
  under_way = h.under_way;
  placed = record { us = h.placed.us; at = place_on s h.placed.at; told = h.placed.told };
  whole = h.whole;
  number_is = h.number_is;
  start_is = h.start_is;
  taken_is = h.taken_is;
  shallow = shallow_grown s h.ready h.shallow;
  judged = h.judged;
}

taken_on : {T U : Table} {t : TypeId} {X O : Type 0} {received : X → List Event → Type 0} {run : Run X O} {z : List ℕ}
    → Keeps T U → HasReadSoFar T t received run z → HasReadSoFar U t received run z
taken_on s (nothing_taken n) = nothing_taken (record {
  ready = ready_on s n.ready;
  expected = n.expected;
  stack = n.stack;
  told = n.told;
  number_is = n.number_is;
  start_is = n.start_is;
  taken_is = n.taken_is;
})
taken_on s (taken_so_far h) = taken_so_far (reached_on s h)

after_on : {T U : Table} {t : TypeId} {limit announced : ℕ} {X O : Type 0} {received : X → List Event → Type 0}
    {run : Run X O} {z : List ℕ} → Keeps T U → RunHasRead T t limit announced received run z
    → RunHasRead U t limit announced received run z
after_on s a = record {
  so_far = taken_on s a.so_far;
  depth_is = a.depth_is;
  length_is = a.length_is;
  within =
      a.within;
}

pub stands_on : {T U : Table} (t : TypeId) (limit announced : ℕ) {X O : Type 0} (received : X → List Event → Type 0)
    (z : List ℕ) (o : Option (Run X O)) → Extends T U → ReaderHasRead T t limit announced received o z
    → ReaderHasRead U t limit announced received o z
stands_on t limit announced received z None e h = h
stands_on t limit announced received z (Some run) e h = after_on (extends_keeps e) h

pub usable_on : {T U : Table} {X O : Type 0} (received : X → List Event → Type 0) (o : Option (Run X O)) → Extends T U
    → IsUsableReader T received o → IsUsableReader U received o
usable_on received None e h = h
usable_on received (Some run) e h = record {
  type = h.type;
  limit = h.limit;
  announced = h.announced;
  bytes = h.bytes;
  after = after_on (extends_keeps e) h.after;
}
