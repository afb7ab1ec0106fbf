-- A step of a reader over the front of a piece.
use Rattle.std.proofs.Common.{◌≡◌, ℕ, ◌+◌, ◌<◌, ◌≤◌, List, [], ◌++◌, length, take, Option, None, IfSome, Result, Ok}
use Rattle.std.proofs.Common.{Err, arith, refl, sym, ap, ◌∙◌, subst, append_assoc, length-append}
use Rattle.std.proofs.lemmas.List.{append-nil, length-take}
use Rattle.gob_num.specs.Unsigned.{IsUnsignedPrefix}
use Rattle.gob_num.proofs.PublicLaws.{begins_prefix, unsigned_length}
use Rattle.gob_types.specs.Base.{base_table}
use Rattle.gob_types.specs.Defined.{Defined, types}
use Rattle.gob_types.specs.Table.{Table}
use Rattle.gob_read.specs.Building.{Building}
use Rattle.gob_stream.specs.declared.fault.Fault.{Fault}
use Rattle.gob_stream.specs.declared.fault.Fault.TheVariants as fault
use Rattle.gob_stream.specs.declared.item.Item as declared
use Rattle.gob_stream.specs.declared.stage.Stage.{Stage}
use Rattle.gob_stream.specs.Machine.Stages.{count_at}
use Rattle.gob_stream.specs.declared.stage.Stepped.{Stepped}
use Rattle.gob_stream.specs.Machine.SessionState.{SessionState}
use Rattle.gob_stream.specs.Bounds.{Bounds, no_deeper}
use Rattle.gob_stream.specs.Item.{StreamItem}
use Rattle.gob_stream.specs.Body.{Body, definition, value}
use Rattle.gob_stream.specs.Stream.{IsItem, counted, AreItems, no_more, and_then, Stream}
use Rattle.gob_stream.specs.Machine.HasRead.{StageHasRead, in_count, in_type_number, in_value, in_description}
use Rattle.gob_stream.specs.Machine.HasRead.{HasRead, HasReadOn, IsUsable, stands_after}
use Rattle.gob_stream.specs.Machine.Between.{IsBetween}
use Rattle.gob_stream.specs.Machine.ReadParts.{IsWithinItem, StepsOn, goes_on, gives, refuses_it, no_memory}
use Rattle.gob_stream.specs.Machine.ReadParts.{StageTakesOn, StageAnswers, bytes_wanted, AdvancesOver, over_some}
use Rattle.gob_stream.specs.Machine.ReadParts.{over_item, StepAnswers}
use Rattle.gob_stream.proofs.Stream.StreamLaws.{one_more}
use Rattle.gob_stream.proofs.Reader.ValueSteps.{lies}
use Rattle.gob_stream.proofs.Reader.UnderWayLaws.{after_refused}

-- ---- what a stream leaves behind it
record Grown (T U : Table) : Type 0 where
  more : Table
  grown : U ≡ T ++ more

body_grows : {L : Bounds} {T U : Table} {i : StreamItem} {d : List ℕ} → Body base_table L T i d U → Grown T U
body_grows (definition p l s x n q) = record { more = _; grown = refl }
body_grows {T = T} (value p l n q) = record { more = []; grown = sym (append-nil T) }

grows : {L : Bounds} {T U : Table} {offset : ℕ} {items : List StreamItem} {b : List ℕ}
    → AreItems base_table L T offset items b U → Grown T U
grows {T = T} no_more = record { more = []; grown = sym (append-nil T) }
grows {T = T} (and_then (counted u l s p) e r) =
    let first = body_grows p in let rest = grows r in
    record {
      more = first.more ++ rest.more;
      grown = rest.grown ∙ ap (λ T. T ++ rest.more) first.grown
          ∙ append_assoc T first.more rest.more;
    }

pub ends_within : {L : Bounds} {T U : Table} {offset : ℕ} {items : List StreamItem} {b : List ℕ}
    → AreItems base_table L T offset items b U → offset ≤ L.stream → offset + length b ≤ L.stream
ends_within no_more l = omega arith
ends_within (and_then {b = b} {c = c} (counted u k s p) e r) l = let n = ends_within r (omega arith) in
    omega (arith, length-append b c)

pub item_of : {X O : Type 0} {most : ℕ} {building : Building X O most} {s : SessionState X O} {items : List StreamItem}
    {bytes : List ℕ} → HasRead building s items bytes
    → IsWithinItem building (no_deeper most s.limits) s.types s.taken s.stage
item_of a =
    let t = a.taken in let g = grows a.stream in
    record {
      offset = length a.prefix;
      bytes = a.under_way;
      in_item = a.stage;
      taken_is = omega (arith, ap length a.whole, length-append a.prefix a.under_way);
      within = (let n = ends_within a.stream (omega arith) in omega arith);
      known = record { base = record { more = g.more; grown = g.grown }; most = a.room };
    }

-- ---- the bytes of an item end within the limit, but for a count's
pub in_bound : {X O : Type 0} {most : ℕ} {building : Building X O most} {L : Bounds} {T : Table} {offset : ℕ}
    {expects : Stage X O} {z : List ℕ} → StageHasRead building L T offset expects z
    → offset ≤ L.stream → offset + length z ≤ L.stream + 9
in_bound (in_count {number = number} f) l = let n = (unsigned_length f.spelled).1 in
    omega (arith, length-append number f.rest)
in_bound (in_type_number {c = c} {number = number} k f w) l = let s = k.stream in omega (arith, length-append c number)
in_bound (in_value {c = c} {a = a} {z = z} k s r p b) l =
    let lie = lies k r in let n = lie.size_is in let w = lie.within in let room = b.viable.room in let s = k.stream in
    omega (arith, length-append c (a ++ z), length-append a z)
in_bound (in_description {c = c} {a = a} {z = z} k n s r p b) l =
    let lie = lies k r in let n = lie.size_is in let w = lie.within in let room = b.viable.room in let s = k.stream in
    omega (arith, length-append c (a ++ z), length-append a z)

pub step_bound : {X O : Type 0} {most : ℕ} {building : Building X O most} {L : Bounds} {d d' : Defined}
    {offset taken : ℕ} {stepped : Stepped X O} (z piece : List ℕ) → offset ≤ L.stream
    → taken ≡ offset + length z
    → StepsOn building L d offset z piece d' (Ok stepped) → taken + stepped.used ≤ L.stream + 9
step_bound z piece l t (goes_on {used = used} e k s) = let n = in_bound s l in
    omega (arith, length-append z (take used piece), length-take used piece)
step_bound z piece l t (gives {used = used} e k q w m) = let n = item_ends q in
    omega (arith, length-append z (take used piece), length-take used piece)
  where
    item_ends : {L : Bounds} {T U : Table} {offset : ℕ} {i : StreamItem} {b : List ℕ}
        → IsItem base_table L T offset i b U → offset + length b ≤ L.stream
    item_ends (counted u k s p) = s

-- behind an item no byte of the next one was taken
pub step_between : {X O : Type 0} {most : ℕ} {building : Building X O most} {L : Bounds} {d d' : Defined}
    {offset taken : ℕ} {stepped : Stepped X O} (K : Bounds) (now : Defined) (z piece : List ℕ)
    → taken ≡ offset + length z
    → StepsOn building L d offset z piece d' (Ok stepped)
    → IfSome stepped.item
    (λ _. IsBetween {X = X} {O = O} (record {
      limits = K;
      types = now;
      taken = taken + stepped.used;
      stage =
          stepped.stage;
    }))
step_between K now z piece t (goes_on e k s) = tt
step_between {taken = taken} K now z piece t (gives {used = used} {next = next} e k q w n) =
    let here : next ≡ taken + used = omega (arith, length-append z (take used piece), length-take used piece) in
    record { number = []; stage = ap (λ n. count_at n []) here }

-- ---- the reader moves on
no_bytes : IsUnsignedPrefix []
no_bytes = begins_prefix {bytes = []} tt

-- the reader that has moved on so
abbrev pub moved : {X O : Type 0} → SessionState X O → Defined → Stepped X O → SessionState X O
moved s d stepped = record { limits = s.limits; types = d; taken = s.taken + stepped.used; stage = stepped.stage }

pub advanced : {X O : Type 0} {most : ℕ} {building : Building X O most} {s : SessionState X O} {d : Defined}
    {items : List StreamItem} {bytes piece : List ℕ} {stepped : Stepped X O} (a : HasRead building s items bytes)
    → StepsOn building (no_deeper most s.limits) s.types (length a.prefix) a.under_way piece d (Ok stepped)
    → 0 < stepped.used
    → AdvancesOver building (moved s d stepped) items bytes piece stepped.used stepped.item
advanced {most = most} {building = building} {s = s} {d = d} {items = items} {bytes = bytes} {piece =
    piece} a (goes_on {expects = expects} {used = used} e k st) some =
    let t = a.taken in let same = ap types e in
    over_some (λ more. some) k (record {
      prefix = a.prefix;
      under_way = a.under_way ++ take used piece;
      whole = ap (λ l. l ++ take used piece) a.whole ∙ append_assoc a.prefix a.under_way (take used piece);
      stream = subst (λ (T : Table). Stream base_table (no_deeper most s.limits) items a.prefix T) (sym same) a.stream;
      stage = subst (λ (T : Table). StageHasRead building (no_deeper most s.limits) T (length a.prefix) expects
          (a.under_way ++ take used piece)) (sym same) st;
      taken = omega (arith, length-append bytes (take used piece), length-take used piece);
      room = ap (λ d. d.most) e ∙ a.room;
    })
advanced {most = most} {building = building} {s = s} {d = d} {bytes = bytes} {piece =
    piece} a (gives {used = used} {next = next} m k q w n) some =
    let t = a.taken in
    let all = a.prefix ++ (a.under_way ++ take used piece) in
    let here : next ≡ length (a.prefix ++ (a.under_way ++ take used piece)) =
    omega (arith, length-append a.prefix (a.under_way ++ take used piece)) in
    let behind : StageHasRead building (no_deeper most s.limits) (types d) (length all)
    (count_at (length all) []) [] = in_count no_bytes in
    over_item some k w (record {
      prefix = all;
      under_way = [];
      whole = ap (λ l. l ++ take used piece) a.whole ∙ append_assoc a.prefix a.under_way (take used piece)
          ∙ sym (append-nil all);
      stream = one_more a.stream (omega arith) q;
      stage = subst (λ n. StageHasRead building (no_deeper most s.limits) (types d) (length all)
          (count_at n []) []) (sym here) behind;
      taken = omega (arith, length-append bytes (take used piece), length-take used piece);
      room = m ∙ a.room;
    })

pub usable_on : {X O : Type 0} {most : ℕ} {building : Building X O most} {s s' : SessionState X O} {piece : List ℕ}
    {used : ℕ} {given : Option (declared.Item O)}
    → HasReadOn building s
    → ((items : List StreamItem) (bytes : List ℕ) → HasRead building s items bytes
    → AdvancesOver building s' items bytes piece used given) → IsUsable building s'
usable_on {building = building} {s' = s'} {piece = piece} a f =
    over (f a.items a.bytes a.after)
  where
    over : {used : ℕ} {given : Option (declared.Item _)} → AdvancesOver building s' a.items a.bytes
        piece used given → IsUsable building s'
    over (over_some p l b) = stands_after b
    over (over_item p l w b) = stands_after b

-- or stops
pub stopped_by : {X O : Type 0} {most : ℕ} {building : Building X O most} {s : SessionState X O}
    {items : List StreamItem} {bytes piece : List ℕ} {d : Defined} {f : Fault} (s' : SessionState X O)
    (a : HasRead building s items bytes)
    → StepsOn building (no_deeper most s.limits) s.types (length a.prefix) a.under_way piece
    d (Err f) → StepAnswers building s s' items bytes piece (Err f)
stopped_by {piece = piece} s' a (refuses_it e q n) = let r = after_refused piece a q in
    (record { outcome = r.0; shown = n }, r.1)
stopped_by s' a (no_memory e) = tt

pub stands_there : {X O : Type 0} {most : ℕ} {building : Building X O most} {L : Bounds} {T : Table} {offset : ℕ}
    {old now : Stage X O} {z : List ℕ} → now ≡ old → StageHasRead building L T offset old z
    → StageHasRead building L T offset now z
stands_there {building = building} {L = L} {T = T} {offset = offset} {z = z} e s =
    subst (λ st. StageHasRead building L T offset st z) (sym e) s

pub within_there : {X O : Type 0} {most : ℕ} {building : Building X O most} {L : Bounds} {d : Defined} {taken : ℕ}
    {old now : Stage X O} → now ≡ old → IsWithinItem building L d taken old
    → IsWithinItem building L d taken now
within_there {building = building} {L = L} {d = d} {taken = taken} e s =
    subst (λ st. IsWithinItem building L d taken st) (sym e) s

-- ---- what a step answers, by what was expected
module _ {X O : Type 0} {most : ℕ} {building : Building X O most} where
  -- behind some bytes of an item
  pub takes_on : {L : Bounds} {d d' : Defined} {taken offset : ℕ} {old now : Stage X O} {z piece : List ℕ}
      {result : Result (Stepped X O) Fault} → now ≡ old → StageAnswers building L d taken now piece d'
      result → StageHasRead building L (types d) offset old z
      → StageTakesOn building L d offset z piece (bytes_wanted now taken) d' result
  takes_on e r s = r.each _ _ (stands_there e s)

  -- one that stops leaves the types as they were
  pub stops_alike : {L : Bounds} {d d' : Defined} {offset : ℕ} {z piece : List ℕ} {f : Fault}
      → StepsOn building L d offset z piece d' (Err f) → d' ≡ d
  stops_alike (refuses_it e q n) = e
  stops_alike (no_memory e) = e

  -- no read failed
  pub never_read : {L : Bounds} {d d' : Defined} {offset : ℕ} {z piece : List ℕ} {f : Fault}
      → StepsOn building L d offset z piece d' (Err f) → f ≡ fault.Read → ⊥
  never_read (refuses_it e q n) is = cc
  never_read (no_memory e) is = cc

-- where the piece has no byte there is no step
pub over_nothing : {X O : Type 0} {most : ℕ} {building : Building X O most} {s : SessionState X O}
    {items : List StreamItem} {bytes piece : List ℕ} → length piece ≡ 0
    → HasRead building s items bytes
    → AdvancesOver building s items bytes piece 0 None
over_nothing {building = building} {s = s} {items = items} {bytes = bytes} none a =
    over_some (λ some. omega arith) (omega arith) (subst (λ b. HasRead building s items b)
    (sym (append-nil bytes)) a)
