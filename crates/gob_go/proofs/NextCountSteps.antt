-- Taking the bytes of the count of the segment behind a definition.
use Rattle.std.proofs.Common.{Bool}
use Rattle.std.proofs.Common.{◌≡◌, ◌≢◌, ℕ, suc, ◌+◌, ◌-◌, ◌<◌, ◌≤◌, List, [], ◌∷◌, ◌++◌, length}
use Rattle.std.proofs.Common.{take, drop, Some, None, Ok, Err, arith, refl, sym, ap, ◌∙◌, subst, append_assoc}
use Rattle.std.proofs.Common.{length-append}
use Rattle.std.proofs.lemmas.List.{length-take}
use Rattle.std.proofs.lemmas.Option.{none-some}
use Rattle.std.specs.Prelude.{slice_get}
use Rattle.gob_types.proofs.PublicLaws.{some_injective}
use Rattle.gob_num.specs.Unsigned.{IsUnsigned}
use Rattle.gob_types.specs.declared.id.TypeId.{TypeId}
use Rattle.gob_types.specs.declared.reason.Reason.TheVariants as reason
use Rattle.gob_types.specs.Base.{base_table}
use Rattle.gob_types.specs.Table.{Table}
use Rattle.gob_types.specs.Defined.{Defined, types}
use Rattle.gob_value.specs.Tree.{Tree}
use Rattle.gob_read.proofs.PublicLaws.{take_whole, take_and_drop, append_nil}
use Rattle.gob_stream.specs.declared.fault.Fault.{Fault}
use Rattle.gob_stream.specs.declared.fault.Fault.TheVariants as fault
use Rattle.gob_stream.specs.declared.fault.Refusal.{Refusal}
use Rattle.gob_stream.specs.declared.stage.Extent.{Extent}
use Rattle.gob_stream.specs.Bounds.{Bounds, greatest_stream}
use Rattle.gob_stream.specs.Refusing.{refuses, RefusesBody, RefusesCount}
use Rattle.gob_stream.specs.Refusing as refusing
use Rattle.gob_stream.proofs.Reader.CountSteps.{cut}
use Rattle.gob_stream.proofs.Reader.ValueSteps.{take_over}
use Rattle.gob_filled.specs.Definition.{Defines}
use Rattle.gob_filled.specs.Outcome.{NothingStands, RefusesNextCount, refused_value, next_count}
use Rattle.gob_filled.specs.Outcome as outcome
use Rattle.gob_filled.specs.Standing.{Level, in_filling, IsNextCount, Stands, behind_definition}
use Rattle.gob_filled.specs.Standing as standing
use Rattle.gob_go.specs.declared.level.Level as declared
use Rattle.gob_go.specs.declared.levels.Levels.{Levels}
use Rattle.gob_go.specs.declared.number.NumberStage.{NumberStage}
use Rattle.gob_go.specs.declared.number.NumberTaken.TheVariants as taken
use Rattle.gob_go.specs.declared.part.PutPart.TheVariants as part
use Rattle.gob_filled.specs.Opens.{Open}
use Rattle.gob_go.specs.Reading.{RefusesWith}
use Rattle.gob_go.specs.Machine.Levels.{LevelAtNil, HeldIs, AreOuter, none_outer, outer_then}
use Rattle.gob_go.specs.Machine.HasRead.{PartHasRead, in_held_number, in_next_count, NumberIs, OthersAre, end_around}
use Rattle.gob_go.specs.Machine.HasRead.{no_end}
use Rattle.gob_go.specs.Machine.Parts.{RefusesNumber, NumberAnswers, NumberIsWhole, GoesOn, SegmentRefused, above_item}
use Rattle.gob_go.specs.Machine.Parts.{above_stream}
use Rattle.gob_go.specs.Machine.Parts.{last_end, with_segment, ending_at, BeginsSegment, of_item, of_outer}
use Rattle.gob_go.specs.Machine.Parts.{item_refused, outer_refused, ItemHasRoom, LiesWithin, CountBegins}
use Rattle.gob_go.specs.Machine.Stages.{IsInPut, PartSteps, part_goes_on, part_refused}
use Rattle.gob_go.proofs.NameSteps.{no_number, nothing_in}
use Rattle.gob_go.proofs.NestedLaws.{AreNested, levels_nest}
use Rattle.gob_go.proofs.NumberStages.{AtNumber, at_number, number_goes_on, number_begins, WholeNumber, number_is_whole}
use Rattle.gob_go.proofs.NumberStages.{NumberFault, number_fault, fault_of_number}
use Rattle.gob_go.proofs.Refusals.{nothing_there, count_numbered, inner_numbered, number_shown}
use Rattle.gob_go.proofs.DefinitionSteps.{held_refused}

-- ---- where the segments around end

last_of : (outer : List declared.Level) (l : declared.Level) → last_end (outer ++ l ∷ []) ≡ l.end
last_of [] l = refl
last_of (k ∷ []) l = refl
last_of (k ∷ (m ∷ outer)) l = last_of (m ∷ outer) l

pub same_end : {keep : Bool} {U : Table} {outer : List declared.Level} {around : List Level} {os : List Open}
    → AreOuter keep U outer around os → last_end outer ≡ end_around around
same_end none_outer = refl
same_end (outer_then {l = l} {outer = outer} a h f k) = last_of outer l ∙ h.is.end

-- one value is open alone
data IsAlone : List Level → Type 0 where
  alone : IsAlone []

not_empty : (outer : List declared.Level) (l : declared.Level) → outer ++ l ∷ [] ≡ [] → ⊥
not_empty [] l e = cc
not_empty (k ∷ outer) l e = cc

is_alone : {keep : Bool} {U : Table} {outer : List declared.Level} {around : List Level} {os : List Open}
    → AreOuter keep U outer around os → outer ≡ [] → IsAlone around
is_alone none_outer e = alone
is_alone (outer_then {l = l} {outer = outer} a h f k) e = absurd (not_empty outer l e)

data HasAround : List Level → Type 0 where
  has_around : {lv : Level} {around : List Level} → HasAround (lv ∷ around)

is_within : {keep : Bool} {U : Table} {outer : List declared.Level} {around : List Level} {os : List Open}
    → AreOuter keep U outer around os → outer ≢ [] → HasAround around
is_within none_outer n = absurd (n refl)
is_within (outer_then a h f k) n = has_around

-- ---- the count

pub next_at_number : {keep : Bool} {L : Bounds} {d : Defined} {at : ℕ} {levels : Levels} {number : NumberStage}
    → IsInPut keep L d at levels (part.NextCount (record { number = number })) → AtNumber number at
next_at_number {keep = keep} w = from w.has_read w.taken_is
  where
    from : {L : Bounds} {T U : Table} {offset at : ℕ} {levels : Levels} {number : NumberStage} {z : List ℕ}
        → PartHasRead keep L T offset U levels (part.NextCount (record { number = number })) z → at ≡ offset + length z
        → AtNumber number at
    from (in_next_count {z = z} {b = b} q p said def_ e nil others held n) t =
        at_number n (omega (arith, length-append z (b ++ q), length-append z b, length-append b q))

pub next_more : {keep : Bool} {L : Bounds} {d : Defined} {T : Table} {offset : ℕ} {levels : Levels}
    {old new : NumberStage}
    {z : List ℕ}
    (piece : List ℕ) → PartHasRead keep L T offset (types d) levels (part.NextCount (record { number = old })) z
    → NumberAnswers old new piece (Ok taken.More) → new.rest ≡ old.rest
    → PartSteps keep L T offset d z piece levels d
    (Ok (record { used = length piece; next = Some (part.NextCount (record { number = new })) }))
next_more {keep = keep} {L = L} {d = d} {T = T} {offset = offset} {levels = levels} {new = new} piece
    (in_next_count {z = z} {b = b} q p said def_ e nil others held n) h r =
    let there : z ++ (b ++ (q ++ piece)) ≡ (z ++ (b ++ q)) ++ take (length piece) piece =
    sym (ap (λ p. (z ++ (b ++ q)) ++ p) (take_whole piece (length piece) (omega arith)) ∙ grouped z b q piece) in
    part_goes_on refl (omega arith)
    (subst (λ z. PartHasRead keep L T offset (types d) levels (part.NextCount (record { number = new })) z) there
    (in_next_count (q ++ piece) p said def_ e nil others held (number_goes_on piece n h r)))
  where
    grouped : (z b q x : List ℕ) → (z ++ (b ++ q)) ++ x ≡ z ++ (b ++ (q ++ x))
    grouped z b q x = simp append_assoc

spread : (z b q x : List ℕ) → (z ++ (b ++ q)) ++ x ≡ z ++ (b ++ (q ++ x))
spread z b q x = simp append_assoc

-- a segment of the item is refused behind the definition
pub next_refused : {L : Bounds} {T S U : Table} {offset left depth : ℕ} {z b y : List ℕ} {lv : Level}
    {around : List Level}
    {id : TypeId} {v : Tree} {R : Refusal} (q : List ℕ)
    → Stands base_table L T offset z S (lv ∷ around) (in_filling depth) left → Defines base_table L S id v b U
    → offset + length (z ++ b) ≡ lv.end → y ≡ z ++ (b ++ q) → RefusesNextCount L left lv.end around q R
    → R.reason ≢ reason.Ended → RefusesWith L T offset y R U
next_refused {z = z} {b = b} q p def_ e f r shown = record {
  refuses = refused_value f p (next_count q refl def_ (omega (arith, length-append z b)) r);
  table = refl;
  shown = shown;
}

numbered : {at : ℕ} {R : Refusal} (L : Bounds) (left : ℕ) (around : List Level) (y : List ℕ) → at + 9 < no_end
    → RefusesNumber at (end_around around) (take (end_around around - at) y) R
    → RefusesNextCount L left at around y R
numbered {at = at} L left [] y l r = count_numbered (no_end - at) l r
numbered L left (lv ∷ around) y l r = inner_numbered r

nested_within : {L : Bounds} (levels : List Level) (at : ℕ) {lv : Level} → AreNested L at (lv ∷ levels)
    → lv.end ≤ L.stream
nested_within [] at n = n.0.ends
nested_within (around ∷ levels) at n =
    let e = n.0.ends in let f = nested_within levels (at - 1) n.1 in omega arith

-- an open segment ends where the stream may end, at the latest
pub open_ends : {L : Bounds} {T U : Table} {offset left depth : ℕ} {z : List ℕ} {lv : Level} {around : List Level}
    → Stands base_table L T offset z U (lv ∷ around) (in_filling depth) left → lv.end ≤ L.stream
open_ends {offset = offset} {z = z} {around = around} p = nested_within around (offset + length z) (levels_nest p)

pub next_stops : {keep : Bool} {L : Bounds} {d : Defined} {T : Table} {offset : ℕ} {levels levels' : Levels}
    {old : NumberStage}
    {z : List ℕ} (piece : List ℕ) (new : NumberStage) (f : Fault) → L.stream ≤ greatest_stream
    → PartHasRead keep L T offset (types d) levels (part.NextCount (record { number = old })) z
    → NumberAnswers old new piece (Err f) → PartSteps keep L T offset d z piece levels' d (Err f)
next_stops {keep = keep} {L = L} {d = d} {T = T} {offset = offset} {levels' = levels'} piece new f most
    (in_next_count {z = z} {b = b} {lv = lv} {around = around} {left = left} q p said def_ e nil others held n) h =
    refused_by (fault_of_number piece new f n h)
  where
    refused_by : {f : Fault} → NumberFault lv.end (end_around around) (q ++ piece) f
        → PartSteps keep L T offset d (z ++ (b ++ q)) piece levels' d (Err f)
    refused_by (number_fault r) = part_refused (next_refused (q ++ piece) p def_ e (spread z b q piece)
        (numbered L left around (q ++ piece) (let l = open_ends p in omega arith) r) (number_shown r))

-- ---- a segment begins

segment_shown : {K : Bounds} {at left place count : ℕ} {R : Refusal} → SegmentRefused K at left place count R
    → R.reason ≢ reason.Ended
segment_shown (above_item l) e = cc
segment_shown (above_stream l k) e = cc

long_item : {offset m : ℕ} {c y : List ℕ} (L : Bounds) (r : List ℕ) → y ≡ c ++ r → IsUnsigned m c → L.item < m
    → RefusesCount L offset y (refuses offset (offset + length c) reason.ItemTooLong)
long_item L r e u l = refusing.item_too_long r e u l

long_stream : {offset m : ℕ} {c y : List ℕ} (L : Bounds) (r : List ℕ) → y ≡ c ++ r → IsUnsigned m c → m ≤ L.item
    → L.stream < offset + length c + m
    → RefusesCount L offset y (refuses offset (offset + length c) reason.StreamTooLong)
long_stream L r e u l k = refusing.stream_too_long r e u l k

of_count : {K : Bounds} {at left place count : ℕ} {c y : List ℕ} {R : Refusal} (L : Bounds) (r : List ℕ)
    → K.stream ≡ L.stream
    → IsUnsigned count c → y ≡ c ++ r → at ≡ place + length c → SegmentRefused K at left place count R
    → RefusesNextCount L left place [] y R
of_count {left = left} {place = place} {y = y} L r k u e a (above_item l) =
    rw a (long_item (record L { item = left }) r e u l)
of_count {left = left} {place = place} {y = y} L r k u e a (above_stream l s) =
    rw a (long_stream (record L { item = left }) r e u l (omega arith))

-- where what is there of the count is whole
record CountIs (number : NumberStage) (lv : Level) (around : List Level) (q piece : List ℕ)
    (count used behind : ℕ) : Type 0 where
  pub whole : WholeNumber lv.end (end_around around) q piece count used
  pub behind_is : behind ≡ lv.end + length (q ++ take used piece)
  pub place : number.rest.begin ≡ lv.end

count_is : {lv : Level} {around : List Level} {old : NumberStage} {at behind count used : ℕ} {q : List ℕ}
    (new : NumberStage) (piece : List ℕ) → NumberIs old lv.end (end_around around) q → AtNumber old at
    → NumberIsWhole old piece count used → new.rest ≡ old.rest → behind ≡ at + used
    → CountIs new lv around q piece count used behind
count_is {used = used} {q = q} new piece n t h r b =
    let w = number_is_whole n h in let l = w.within in let k = ap length n.bytes in
    let begins = n.begins in let at = t.taken_is in
    record {
      whole = w;
      behind_is = omega (arith, length-append q (take used piece), length-take used piece);
      place = ap (λ (x : Extent). x.begin) r ∙ n.begins;
    }

-- what a segment that begins is for the levels
record SegmentBegins (keep : Bool) (L : Bounds) (U : Table) (old new : Levels) (lv : Level) (around : List Level)
    (left : ℕ)
    (c : List ℕ) (behind : ℕ) (o : Open) (os : List Open) : Type 0 where
  pub end : ℕ
  pub left_then : ℕ
  pub counted : IsNextCount L lv.end left around c end left_then
  pub others : OthersAre keep U new around o os left_then
  pub innermost : new.innermost ≡ ending_at old.innermost end
  pub order : behind ≤ end

of_item_begins : {keep : Bool} {L : Bounds} {U : Table} {old : Levels} {lv : Level} {around : List Level}
    {left count behind : ℕ}
    {c : List ℕ} {o : Open} {os : List Open} → IsAlone around → IsUnsigned count c → behind ≡ lv.end + length c
    → OthersAre keep U old around o os left → count ≤ old.left → behind + count ≤ L.stream
    → SegmentBegins keep L U old (with_segment old (behind + count) (old.left - count)) lv around left c behind o os
of_item_begins {old = old} {count = count} {behind = behind} alone u b others l s =
    let k = others.left_is in
    record {
      end = behind + count;
      left_then = old.left - count;
      counted = standing.of_item u (omega arith) (omega arith) s (omega arith);
      others = record { fillings = others.fillings; outer = others.outer; left_is = refl };
      innermost = refl;
      order = omega arith;
    }

of_outer_begins : {keep : Bool} {L : Bounds} {U : Table} {old : Levels} {lv : Level} {around : List Level}
    {left count behind : ℕ}
    {c : List ℕ} {o : Open} {os : List Open} → HasAround around → IsUnsigned count c → behind ≡ lv.end + length c
    → OthersAre keep U old around o os left → behind + count ≤ last_end old.outer.items
    → SegmentBegins keep L U old (with_segment old (behind + count) old.left) lv around left c behind o os
of_outer_begins {old = old} {left = left} {count = count} {behind = behind} has_around u b others l =
    let e = same_end others.outer in
    record {
      end = behind + count;
      left_then = left;
      counted = standing.within u (omega arith) (omega arith);
      others = record { fillings = others.fillings; outer = others.outer; left_is = others.left_is };
      innermost = refl;
      order = omega arith;
    }

segment_begins : {keep : Bool} {K L : Bounds} {U : Table} {old : Levels} {lv : Level} {around : List Level}
    {left count place behind : ℕ} {new : Levels} {c : List ℕ} {o : Open} {os : List Open} {done : Unit {0}}
    → K.stream ≡ L.stream
    → IsUnsigned count c → behind ≡ lv.end + length c → OthersAre keep U old around o os left
    → BeginsSegment K behind place count old new (Ok done)
    → SegmentBegins keep L U old new lv around left c behind o os
segment_begins k u b others (of_item e l s) = of_item_begins (is_alone others.outer e) u b others l (omega arith)
segment_begins k u b others (of_outer n l) = of_outer_begins (is_within others.outer n) u b others l

ending : {keep : Bool} {U : Table} {l : declared.Level} {lv : Level} {d : ℕ} (end : ℕ) → LevelAtNil keep U l lv [] d
    → LevelAtNil keep U (ending_at l end) (record lv { end = end }) [] d
ending end h = record {
  announced = h.announced;
  is = record {
    id = h.is.id;
    depth = h.is.depth;
    end = refl;
    skeleton = h.is.skeleton;
    ready = h.is.ready;
    grown = h.is.grown;
    reads = h.is.reads;
    clear = h.is.clear;
  };
  at_nil = h.at_nil;
  expects = h.expects;
  not_deep = h.not_deep;
  shallow = h.shallow;
}

abbrev numbered_as : ℕ → ℕ → NumberStage
numbered_as begin end = record { rest = record { begin = begin; end = end }; number = [] }

behind_count : (z b q x : List ℕ) → (z ++ (b ++ (q ++ x))) ++ [] ≡ (z ++ (b ++ q)) ++ x
behind_count z b q x = append_nil (z ++ (b ++ (q ++ x))) ∙ sym (spread z b q x)

numbered_from : {a b m n : ℕ} → a ≡ b → m ≡ n → numbered_as a m ≡ numbered_as b n
numbered_from e f = cc

short_shown : reason.Short ≢ reason.Ended
short_shown e = cc

long_shown : reason.ItemTooLong ≢ reason.Ended
long_shown e = cc

-- behind a whole count comes a type number
pub next_whole : {keep : Bool} {K L : Bounds} {d : Defined} {T : Table} {offset at behind count used : ℕ}
    {levels levels' : Levels}
    {old first : NumberStage} {z : List ℕ} {done : Unit {0}} (new : NumberStage) (piece : List ℕ)
    → K.stream ≡ L.stream → AtNumber old at
    → PartHasRead keep L T offset (types d) levels (part.NextCount (record { number = old })) z
    → NumberIsWhole old piece count used → new.rest ≡ old.rest → behind ≡ at + used
    → BeginsSegment K behind new.rest.begin count levels levels' (Ok done) → behind < levels'.innermost.end
    → first ≡ record { rest = record { begin = behind; end = levels'.innermost.end }; number = [] }
    → PartSteps keep L T offset d z piece levels' d
    (Ok (record { used = used; next = Some (part.TypeNumber (record { number = first })) }))
next_whole {keep = keep} {L = L} {d = d} {T = T} {offset = offset} {behind = behind} {used = used}
    {levels' = levels'} {first = first}
    new piece same t
    (in_next_count {z = z} {b = b} {lv = lv} {around = around} {d = depth} {o = o} q p said def_ e nil others held n) h
    r bh s on f =
    let k = count_is {lv = lv} {around = around} new piece n t h r bh in
    let w = k.whole in
    let g = segment_begins {lv = lv} same w.spelled k.behind_is others s in
    let ends : levels'.innermost.end ≡ g.end = ap (λ (l : declared.Level). l.end) g.innermost in
    let now = behind_definition p def_ e g.counted in
    let at : behind ≡ offset + length (z ++ (b ++ (q ++ take used piece))) =
    let bi = k.behind_is in
    omega (
      arith,
      length-append z b,
      length-append z (b ++ (q ++ take used piece)),
      length-append b (q ++ take used piece),
    )
    in
    let number : NumberIs first (offset + length (z ++ (b ++ (q ++ take used piece)))) g.end [] =
    number_begins (f ∙ numbered_from at ends) (omega arith) in
    part_goes_on refl w.within
    (subst (λ z. PartHasRead keep L T offset (types d) levels' (part.TypeNumber (record { number = first })) z)
    (behind_count z b q (take used piece))
    (in_held_number [] now said
    (subst (λ l. LevelAtNil keep (types d) l (record lv { end = g.end }) [] depth) (sym g.innermost) (ending g.end nil))
    g.others (subst (λ (l : declared.Level). HeldIs l.held o) (sym g.innermost) held) number))

-- or none, where the segment is empty
pub next_empty : {keep : Bool} {K L : Bounds} {d : Defined} {T : Table} {offset at behind count used : ℕ}
    {levels levels' : Levels}
    {old : NumberStage} {z : List ℕ} {done : Unit {0}} (new : NumberStage) (piece : List ℕ) (f : Fault)
    → K.stream ≡ L.stream → AtNumber old at
    → PartHasRead keep L T offset (types d) levels (part.NextCount (record { number = old })) z
    → NumberIsWhole old piece count used → new.rest ≡ old.rest → behind ≡ at + used
    → BeginsSegment K behind new.rest.begin count levels levels' (Ok done)
    → GoesOn behind levels'.innermost.end (Err f) → PartSteps keep L T offset d z piece levels' d (Err f)
next_empty {L = L} {d = d} {T = T} {offset = offset} {behind = behind} {used = used} {levels' = levels'} new piece
    (fault.Refused R) same t
    (in_next_count {z = z} {b = b} {lv = lv} {around = around} q p said def_ e nil others held n) h r bh s on =
    let k = count_is {lv = lv} {around = around} new piece n t h r bh in
    let w = k.whole in
    let g = segment_begins {lv = lv} same w.spelled k.behind_is others s in
    let ends : levels'.innermost.end ≡ g.end = ap (λ (l : declared.Level). l.end) g.innermost in
    let now = behind_definition p def_ e g.counted in
    let y = z ++ (b ++ (q ++ take used piece)) in
    let at : behind ≡ offset + length y =
    let bi = k.behind_is in
    omega (
      arith,
      length-append z b,
      length-append z (b ++ (q ++ take used piece)),
      length-append b (q ++ take used piece),
    )
    in
    let stops = on.0 in
    let none : g.end - (offset + length y) ≡ 0 = omega arith in
    let there : levels'.innermost.end ≡ offset + length y = omega arith in
    let whole : (z ++ (b ++ q)) ++ piece ≡ y ++ drop used piece =
    ap (λ l. (z ++ (b ++ q)) ++ l) (sym (take_and_drop piece used))
    ∙ sym (append_assoc (z ++ (b ++ q)) (take used piece) (drop used piece))
    ∙ ap (λ l. l ++ drop used piece) (spread z b q (take used piece)) in
    let empty : RefusesBody base_table L (types d) (offset + length y) (g.end - (offset + length y))
    (take (g.end - (offset + length y)) (drop used piece))
    (refuses (offset + length y) (offset + length y) reason.Short) = rw none (nothing_in (offset + length y)) in
    let stands_not : NothingStands base_table L (types d) (g.end - (offset + length y))
    (take (g.end - (offset + length y)) (drop used piece)) = rw none (nothing_there no_number) in
    let refused = held_refused (drop used piece) now whole empty stands_not short_shown in
    rw (on.1, there) (part_refused refused)
next_empty new piece fault.Read same t h whole r bh s on = absurd on
next_empty new piece fault.Memory same t h whole r bh s on = absurd on
next_empty new piece fault.Failed same t h whole r bh s on = absurd on

-- a count that there is no room for
alone_refused : {K : Bounds} {left at behind place count : ℕ} {around : List Level} {c y : List ℕ} {R : Refusal}
    (L : Bounds) (held : ℕ) (r : List ℕ) → IsAlone around → K.stream ≡ L.stream → held ≡ left → place ≡ at
    → behind ≡ at + length c
    → IsUnsigned count c → y ≡ c ++ r → SegmentRefused K behind held place count R
    → RefusesNextCount L left at around y R
alone_refused {K = K} {left = left} {behind = behind} {place = place} {count = count} {R = R} L held r alone same l pl
    be u e s =
    of_count L r same u e be (subst (λ p. SegmentRefused K behind left p count R) pl
    (subst (λ left. SegmentRefused K behind left place count R) l s))

around_refused : {at behind place count : ℕ} {around : List Level} {c y : List ℕ} (L : Bounds) (left : ℕ)
    (r : List ℕ)
    → HasAround around → place ≡ at → behind ≡ at + length c → length c ≤ end_around around - at
    → IsUnsigned count c → y ≡ c ++ r → end_around around < behind + count
    → RefusesNextCount L left at around y (refuses place behind reason.ItemTooLong)
around_refused {at = at} {c = c} L left r (has_around {lv = lv}) pl be k u e l =
    rw (pl, be) (outcome.too_long (take (lv.end - at - length c) r)
    (ap (λ y. take (lv.end - at) y) e ∙ take_over c r (lv.end - at) k) u (omega arith))

pub next_judged : {keep : Bool} {K L : Bounds} {d : Defined} {T : Table} {offset at behind count used : ℕ}
    {levels levels' : Levels}
    {old : NumberStage} {z : List ℕ} {f : Fault} (levels'' : Levels) (new : NumberStage) (piece : List ℕ)
    → K.stream ≡ L.stream → AtNumber old at
    → PartHasRead keep L T offset (types d) levels (part.NextCount (record { number = old })) z
    → NumberIsWhole old piece count used → new.rest ≡ old.rest → behind ≡ at + used
    → BeginsSegment K behind new.rest.begin count levels levels' (Err f)
    → PartSteps keep L T offset d z piece levels'' d (Err f)
next_judged {L = L} {used = used} {levels = levels} levels'' new piece same t
    (in_next_count {z = z} {b = b} {lv = lv} {around = around} q p said def_ e nil others held n) h r bh
    (item_refused f s) =
    let k = count_is {lv = lv} {around = around} new piece n t h r bh in
    part_refused (next_refused (q ++ piece) p def_ e (spread z b q piece)
    (alone_refused L levels.left (drop used piece) (is_alone others.outer f) same others.left_is k.place k.behind_is
    k.whole.spelled (cut q piece used) s) (segment_shown s))
next_judged {L = L} {used = used} {levels = levels} levels'' new piece same t
    (in_next_count {z = z} {b = b} {lv = lv} {around = around} {left = left} q p said def_ e nil others held n) h r bh
    (outer_refused m l) =
    let k = count_is {lv = lv} {around = around} new piece n t h r bh in
    let ends = same_end others.outer in let room = k.whole.room in let w = k.whole.within in
    part_refused (next_refused (q ++ piece) p def_ e (spread z b q piece)
    (around_refused L left (drop used piece) (is_within others.outer m) k.place k.behind_is
    (omega (arith, length-append q (take used piece), length-take used piece)) k.whole.spelled (cut q piece used)
    (omega arith)) long_shown)

-- what the segments around leave room for
pub next_order : {keep : Bool} {L : Bounds} {d : Defined} {at behind count used : ℕ} {levels : Levels}
    {old : NumberStage}
    (piece : List ℕ) → IsInPut keep L d at levels (part.NextCount (record { number = old }))
    → NumberIsWhole old piece count used
    → behind ≡ at + used → behind ≤ last_end levels.outer.items
next_order {keep = keep} {L = L} {d = d} {at = at} {behind = behind} {levels = levels} {old = old} piece w h b =
    from w.has_read w.taken_is
  where
    from : {T : Table} {offset : ℕ} {z : List ℕ}
        → PartHasRead keep L T offset (types d) levels (part.NextCount (record { number = old })) z
        → at ≡ offset + length z → behind ≤ last_end levels.outer.items
    from (in_next_count {z = z} {b = c} q p said def_ e nil others held n) t =
        let ends = same_end others.outer in let room = (number_is_whole n h).room in
        omega (arith, length-append z (c ++ q), length-append z c, length-append c q)

-- ---- the innermost value's next segment

pub last_at : (ls : List declared.Level) (l : declared.Level) → Some l ≡ slice_get ls (length ls - 1)
    → l.end ≡ last_end ls
last_at [] l e = absurd (none-some _ (sym e))
last_at (k ∷ []) l e = ap (λ (l : declared.Level). l.end) (some_injective e)
last_at (k ∷ (m ∷ ls)) l e =
    let same : length (k ∷ (m ∷ ls)) - 1 ≡ suc (length (m ∷ ls) - 1) = omega arith in
    last_at (m ∷ ls) l (e ∙ ap (λ n. slice_get (k ∷ (m ∷ ls)) n) same)

pub none_at : (ls : List declared.Level) → None ≡ slice_get ls (length ls - 1) → no_end ≡ last_end ls
none_at [] e = refl
none_at (k ∷ []) e = absurd (none-some _ e)
none_at (k ∷ (m ∷ ls)) e =
    let same : length (k ∷ (m ∷ ls)) - 1 ≡ suc (length (m ∷ ls) - 1) = omega arith in
    none_at (m ∷ ls) (e ∙ ap (λ n. slice_get (k ∷ (m ∷ ls)) n) same)

pub item_fault : {K : Bounds} {at place count : ℕ} {old new : Levels} (f : Fault) → old.outer.items ≡ []
    → ItemHasRoom K at old.left place count (Err f) → BeginsSegment K at place count old new (Err f)
item_fault (fault.Refused R) e h = item_refused e h
item_fault fault.Read e h = absurd h
item_fault fault.Memory e h = absurd h
item_fault fault.Failed e h = absurd h

pub outer_fault : {K : Bounds} {at place count end : ℕ} {old new : Levels} (f : Fault) → old.outer.items ≢ []
    → end ≡ last_end old.outer.items → LiesWithin at end place count (Err f)
    → BeginsSegment K at place count old new (Err f)
outer_fault (fault.Refused R) n e h = rw h.1 (outer_refused n (let l = h.0 in omega arith))
outer_fault fault.Read n e h = absurd h
outer_fault fault.Memory n e h = absurd h
outer_fault fault.Failed n e h = absurd h

pub count_fault : {end : ℕ} (levels : Levels) (at : ℕ) (f : Fault) → end ≡ last_end levels.outer.items
    → GoesOn at end (Err f) → CountBegins levels at (Err f)
count_fault {end = end} levels at (fault.Refused R) e g =
    (g.0 ∙ e, g.1 ∙ ap (λ n. refuses n n reason.Short) (sym g.0))
count_fault levels at fault.Read e g = absurd g
count_fault levels at fault.Memory e g = absurd g
count_fault levels at fault.Failed e g = absurd g

-- a count ends where a number of 64 bits says, at the latest
around_ends : {L : Bounds} {T U : Table} {offset left depth : ℕ} {z : List ℕ} {lv : Level} (around : List Level)
    → Stands base_table L T offset z U (lv ∷ around) (in_filling depth) left → L.stream ≤ greatest_stream
    → end_around around ≤ no_end
around_ends [] p most = omega arith
around_ends {offset = offset} {z = z} (k ∷ around) p most =
    let e = nested_within around (offset + length z - 1) (levels_nest p).1 in omega arith

pub next_bounded : {keep : Bool} {L : Bounds} {d : Defined} {at : ℕ} {levels : Levels} {number : NumberStage}
    → IsInPut keep L d at levels (part.NextCount (record { number = number })) → L.stream ≤ greatest_stream
    → number.rest.end ≤ no_end
next_bounded {keep = keep} {L = L} {d = d} {levels = levels} {number = number} w most = from w.has_read
  where
    from : {T : Table} {offset : ℕ} {z : List ℕ}
        → PartHasRead keep L T offset (types d) levels (part.NextCount (record { number = number })) z
        → number.rest.end ≤ no_end
    from (in_next_count {around = around} q p said def_ e nil others held n) =
        let l = around_ends around p most in let ends = n.ends in omega arith

pub some_at : (ls : List declared.Level) (l : declared.Level) → Some l ≡ slice_get ls (length ls - 1) → ls ≢ []
some_at [] l e f = none-some _ (sym e)
some_at (k ∷ ls) l e f = cc
