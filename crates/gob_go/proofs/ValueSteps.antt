-- Taking bytes of the innermost skeleton, up to a nil or to the end of the value.
use Rattle.std.proofs.Common.{Bool}
use Rattle.std.proofs.Common.{◌≡◌, ℕ, zero, suc, ◌+◌, ◌<◌, ◌≤◌, ◌⊎◌, inl, inr, List, []}
use Rattle.std.proofs.Common.{◌++◌, length, take, drop, Some, Result, Ok, Err, arith, refl, sym, ap, ◌∙◌, subst}
use Rattle.std.proofs.Common.{append_assoc, length-append, length-drop}
use Rattle.std.proofs.lemmas.List.{length-take}
use Rattle.gob_num.specs.Unsigned.{AreBytes}
use Rattle.gob_num.proofs.PublicLaws.{bytes-append}
use Rattle.gob_types.specs.declared.id.TypeId.{TypeId}
use Rattle.gob_types.specs.Defined.{Defined, types}
use Rattle.gob_types.specs.Table.{Table}
use Rattle.gob_types.proofs.PublicLaws.{extends_keeps}
use Rattle.gob_value.specs.Top.{SpellsTop}
use Rattle.gob_value.specs.Tree.{Tree, many, pairs, fields}
use Rattle.gob_value.proofs.PublicLaws.{top_back}
use Rattle.gob_read.specs.Expected.{a_number, nil}
use Rattle.gob_read.specs.Expects.{ExpectsTop}
use Rattle.gob_read.specs.Viable.{IsViable}
use Rattle.gob_read.specs.Weight.{weight}
use Rattle.gob_read.specs.Calls.Builders.{skip_building}
use Rattle.gob_read.specs.Calls.UnderWay.{under_way, HasReadBody, FitsTable}
use Rattle.gob_read.specs.Calls.UpToNil.{NoNilBegun}
use Rattle.gob_read.proofs.Events.WeightLaws.{weight_within_top}
use Rattle.gob_read.proofs.Grammar.Stay.{stood_back, first_back, expects_top_back}
use Rattle.gob_read.proofs.PublicLaws.{append_nil, take_whole}
use Rattle.gob_stream.specs.declared.fault.Fault.{Fault}
use Rattle.gob_stream.specs.declared.fault.Fault.TheVariants as fault
use Rattle.gob_stream.specs.Bounds.{Bounds}
use Rattle.gob_filled.specs.Standing.{Level}
use Rattle.gob_filled.specs.Opens.{Open}
use Rattle.gob_go.specs.Reading.{HasTypesWithin, within_value}
use Rattle.gob_go.specs.declared.level.Level as declared
use Rattle.gob_go.specs.declared.level.Came.{Came}
use Rattle.gob_go.specs.declared.level.Came.TheVariants as came
use Rattle.gob_go.specs.declared.levels.Goes.{Goes}
use Rattle.gob_go.specs.declared.levels.Levels.{Levels}
use Rattle.gob_go.specs.declared.number.NumberStage.{NumberStage}
use Rattle.gob_go.specs.declared.part.PutPart.TheVariants as part
use Rattle.gob_go.specs.Machine.HasRead.{PartHasRead, in_skeleton, in_name_length, OthersAre, NumberIs}
use Rattle.gob_go.specs.declared.part.PartTaken.{PartTaken}
use Rattle.gob_go.specs.Machine.Levels.{LevelIs, BeginsOrStands, begins, stands}
use Rattle.gob_go.specs.Machine.Parts.{KeepsLevel, LevelAnswers, used_of}
use Rattle.gob_go.specs.Machine.Skeleton.{SkeletonGrows}
use Rattle.gob_go.specs.Machine.Stages.{ValueHasRead, in_value_at, ValueIsWhole, value_whole, PartSteps, part_goes_on}
use Rattle.gob_go.specs.Machine.Stages.{part_refused, no_memory_for_part, IsInPut, IsInValue, ValueAnswers}
use Rattle.gob_go.specs.Machine.Stages.{PartAnswers, IsBehindValue, EndAnswers, GoesSteps, behind_value}
use Rattle.gob_go.proofs.BeginPutSteps.{part_few}
use Rattle.gob_go.proofs.NameSteps.{length_behind, bytes_taken}
use Rattle.gob_go.proofs.NestedLaws.{levels_nest, within_stream}
use Rattle.gob_go.proofs.NilLaws.{nil_stands}
use Rattle.gob_go.proofs.NilSteps.{refuses_in_skeleton}
use Rattle.gob_go.proofs.NumberStages.{number_begins}
use Rattle.gob_go.proofs.PutSteps.{all_taken, part_behind, part_stopped_behind, goes_behind, goes_stopped}
use Rattle.gob_go.proofs.ReaderLaws.{fits, reads_on, read_once, read_within, announced_once}
use Rattle.gob_go.proofs.SkeletonLaws.{skeleton_as, skeleton_on}

-- ---- what taking asks

pub value_fits : {keep : Bool} {L : Bounds} {T : Table} {offset : ℕ} {U : Table} {levels : Levels} {z : List ℕ}
    → ValueHasRead keep L T offset U levels z → FitsTable skip_building U levels.innermost.reader
value_fits {U = U} {levels = levels} (in_value_at {lv = lv} c p said l k) =
    fits U lv.type lv.limit l.announced (lv.done ++ c) skip_building.received (under_way levels.innermost.reader)
    l.is.reads

pub value_clear : {keep : Bool} {L : Bounds} {T : Table} {offset : ℕ} {U : Table} {levels : Levels} {z : List ℕ}
    → ValueHasRead keep L T offset U levels z → NoNilBegun U levels.innermost.reader
value_clear (in_value_at c p said l k) = l.is.clear

pub value_order : {keep : Bool} {L : Bounds} {T : Table} {offset at : ℕ} {U : Table} {levels : Levels} {z : List ℕ}
    → ValueHasRead keep L T offset U levels z → at ≡ offset + length z
    → levels.innermost.skeleton.length ≤ at
value_order (in_value_at {z = z} {lv = lv} c p said l k) e =
    let n = (levels_nest p).0.done in
    omega (arith, l.is.skeleton.length_is, length-append lv.done c, length-append z c)

pub value_end : {keep : Bool} {L : Bounds} {T : Table} {offset at : ℕ} {U : Table} {levels : Levels} {z : List ℕ}
    → ValueHasRead keep L T offset U levels z → at ≡ offset + length z → at ≤ levels.innermost.end
value_end {U = U} {levels = levels} (in_value_at {lv = lv} c p said l k) e =
    let w = read_within U lv.type lv.limit l.announced (lv.done ++ c) skip_building.received
    (under_way levels.innermost.reader) l.is.reads in
    let r = l.rest in let d = l.is.end in omega arith

pub value_room : {keep : Bool} {L : Bounds} {T : Table} {offset at : ℕ} {U : Table} {levels : Levels} {z : List ℕ}
    → ValueHasRead keep L T offset U levels z → at ≡ offset + length z
    → (t : TypeId) (limit announced : ℕ) (y : List ℕ)
    → HasReadBody skip_building U t limit announced levels.innermost.reader y
    → at + announced ≡ levels.innermost.skeleton.length + levels.innermost.end
value_room {U = U} {levels = levels} (in_value_at {lv = lv} c p said l k) e t limit announced y h =
    let same = announced_once U U t lv.type limit lv.limit announced l.announced y (lv.done ++ c) skip_building.received
    (under_way levels.innermost.reader) h l.is.reads in
    let r = l.rest in let d = l.is.end in omega (arith, l.is.skeleton.length_is)

pub value_read : {keep : Bool} {L : Bounds} {T : Table} {offset : ℕ} {U : Table} {levels : Levels} {z : List ℕ}
    → ValueHasRead keep L T offset U levels z → (t : TypeId) (limit announced : ℕ) (y : List ℕ)
    → HasReadBody skip_building U t limit announced levels.innermost.reader y
    → length y ≡ levels.innermost.skeleton.length
value_read {U = U} {levels = levels} (in_value_at {lv = lv} c p said l k) t limit announced y h =
    read_once U U t lv.type limit lv.limit announced l.announced y (lv.done ++ c) skip_building.received
    (under_way levels.innermost.reader) h l.is.reads
    ∙ sym l.is.skeleton.length_is

-- what taking bytes of the innermost skeleton answered, with which nothing else of the levels has changed
pub record HasCome (keep : Bool) (U : Table) (at : ℕ) (levels levels' : Levels) (piece : List ℕ) (came : Came) : Type
    0 where
  pub answers : LevelAnswers keep U at levels.innermost levels'.innermost piece (Ok came)
  pub outer : levels'.outer ≡ levels.outer
  pub left : levels'.left ≡ levels.left

abbrev pub with_innermost : Levels → declared.Level → Levels
with_innermost levels l = record { innermost = l; outer = levels.outer; left = levels.left }

pub has_come : {keep : Bool} {t : Came} (U : Table) (at : ℕ) (levels : Levels) (l : declared.Level)
    (piece : List ℕ) (came : Came)
    → t ≡ came → LevelAnswers keep U at levels.innermost l piece (Ok t)
    → HasCome keep U at levels (with_innermost levels l) piece came
has_come {keep = keep} U at levels l piece came e h = record {
  answers = subst (λ t. LevelAnswers keep U at levels.innermost l piece (Ok t)) e h;
  outer = refl;
  left = refl;
}

-- ---- how much was taken

pub came_within : {keep : Bool} {L : Bounds} {T : Table} {offset at : ℕ} {U : Table} {levels levels' : Levels}
    {z piece : List ℕ}
    (came : Came) → ValueHasRead keep L T offset U levels z → HasCome keep U at levels levels' piece came
    → used_of piece came ≤ length piece
came_within came.ToEnd h r = omega arith
came_within (came.ToNil used) (in_value_at {lv = lv} c p said l k) r =
    (r.answers.3 lv.type lv.limit l.announced (lv.done ++ c) l.is.reads).0.within
came_within (came.PastValue used) (in_value_at {lv = lv} c p said l k) r =
    (r.answers.3 lv.type lv.limit l.announced (lv.done ++ c) l.is.reads).within

-- up to a nil, no further than the stream may go
pub nil_bound : {keep : Bool} {L : Bounds} {d : Defined} {at used : ℕ} {levels levels' : Levels} {piece : List ℕ}
    → IsInValue keep L d at levels → HasCome keep (types d) at levels levels' piece (came.ToNil used)
    → at + used ≤ L.stream
nil_bound {keep = keep} {L = L} {d = d} {at = at} {used = used} {levels = levels} {levels' = levels'}
    {piece = piece} w r =
    from w.has_read w.taken_is
  where
    from : {T : Table} {offset : ℕ} {z : List ℕ} → ValueHasRead keep L T offset (types d) levels z
        → at ≡ offset + length z → at + used ≤ L.stream
    from (in_value_at {z = z} {lv = lv} {around = around} c p said l k) e =
        let g = (r.answers.3 lv.type lv.limit l.announced (lv.done ++ c) l.is.reads).0 in
        let read = read_within (types d) lv.type lv.limit l.announced ((lv.done ++ c) ++ take used piece)
        skip_building.received (under_way levels'.innermost.reader) g.takes.after in
        let rest = l.rest in let within = g.within in let most = within_stream L around lv _ (levels_nest p) in
        omega (arith, length-append (lv.done ++ c) (take used piece), length-take used piece)

-- and up to its end
pub past_bound : {keep : Bool} {L : Bounds} {d : Defined} {at used : ℕ} {levels levels' : Levels} {piece : List ℕ}
    → IsInValue keep L d at levels → HasCome keep (types d) at levels levels' piece (came.PastValue used)
    → at + used ≤ L.stream
past_bound {keep = keep} {L = L} {d = d} {at = at} {used = used} {levels = levels} {piece = piece} w r = from
    w.has_read w.taken_is
  where
    from : {T : Table} {offset : ℕ} {z : List ℕ} → ValueHasRead keep L T offset (types d) levels z
        → at ≡ offset + length z → at + used ≤ L.stream
    from (in_value_at {z = z} {lv = lv} {around = around} c p said l k) e =
        let g = r.answers.3 lv.type lv.limit l.announced (lv.done ++ c) l.is.reads in
        let all = g.made.all in let rest = l.rest in let within = g.within in
        let most = within_stream L around lv _ (levels_nest p) in
        omega (arith, length-append (lv.done ++ c) (take used piece), length-take used piece)

-- a value has some bytes
some_weight : (v : Tree) → 0 < weight v
some_weight (many vs) = omega arith
some_weight (pairs ps) = omega arith
some_weight (fields fs) = omega arith
some_weight _ = omega arith

top_some : {T : Table} {t : TypeId} {v : Tree} {b : List ℕ} → SpellsTop T t v b → 0 < length b
top_some {v = v} s = let most = weight_within_top s in let some = some_weight v in omega arith

stood_room : {T : Table} {t : TypeId} {limit announced : ℕ} {z : List ℕ} → BeginsOrStands T t limit announced z
    → (z ≡ []) ⊎ (length z < announced)
stood_room begins = inl refl
stood_room (stands v) = inr v.room

pub past_some : {keep : Bool} {L : Bounds} {T : Table} {offset at used : ℕ} {U : Table} {levels levels' : Levels}
    {z piece : List ℕ}
    → ValueHasRead keep L T offset U levels z → HasCome keep U at levels levels' piece (came.PastValue used) → 0 < used
past_some {used = used} {piece = piece} (in_value_at {lv = lv} c p said l k) r =
    let g = r.answers.3 lv.type lv.limit l.announced (lv.done ++ c) l.is.reads in
    let some = top_some g.made.spelled in let all = g.made.all in
    elim (stood_room l.stood) [
      | inl e ↦ omega (
        arith,
        ap length e,
        length-append (lv.done ++ c) (take used piece),
        length-take used piece,
      )
      | inr s ↦ omega (arith, length-append (lv.done ++ c) (take used piece), length-take used piece)
    ]

pub some_behind : (used more : ℕ) (piece rest : List ℕ) → rest ≡ drop used piece → (0 < length rest → 0 < more)
    → 0 < length piece → 0 < used + more
some_behind zero more piece rest e f l = let n = f (omega (arith, ap length e, length-drop 0 piece)) in omega arith
some_behind (suc used) more piece rest e f l = omega arith

-- ---- where it stands then

-- the bytes that were taken of the stream are those before
pub value_place : {keep : Bool} {L : Bounds} {d : Defined} {T : Table} {offset at : ℕ} {levels : Levels} {z : List ℕ}
    → IsInValue keep L d at levels → ValueHasRead keep L T offset (types d) levels z → at ≡ offset + length z
value_place w (in_value_at {z = z} {lv = lv} c p said l k) =
    let there = value_room w.has_read w.taken_is lv.type lv.limit l.announced (lv.done ++ c) l.is.reads in
    let rest = l.rest in let ends = l.is.end in omega (arith, l.is.skeleton.length_is)

others_on : {keep : Bool} {U : Table} {around : List Level} {o : Open} {os : List Open} {left : ℕ}
    (levels levels' : Levels)
    → OthersAre keep U levels around o os left → levels'.innermost.fillings ≡ levels.innermost.fillings
    → levels'.outer ≡ levels.outer → levels'.left ≡ levels.left → OthersAre keep U levels' around o os left
others_on levels levels' k f e l =
    record { fillings = rw f k.fillings; outer = rw e k.outer; left_is = l ∙ k.left_is }

level_on : {keep : Bool} {U : Table} {lv : Level} {c : List ℕ} {n : ℕ} (x : List ℕ) (l l' : declared.Level)
    → LevelIs keep U l lv c n
    → KeepsLevel l l' → SkeletonGrows keep l.skeleton l'.skeleton x → NoNilBegun U l'.reader
    → HasReadBody skip_building U lv.type lv.limit n l'.reader ((lv.done ++ c) ++ x) → LevelIs keep U l' lv (c ++ x) n
level_on {U = U} {lv = lv} {c = c} {n = n} x l l' h k s clear reads = record {
  id = k.id ∙ h.id;
  depth = k.depth ∙ h.depth;
  end = k.end ∙ h.end;
  skeleton = skeleton_as (skeleton_on h.skeleton s) (append_assoc lv.done c x);
  ready = h.ready;
  grown = h.grown;
  reads = subst (λ y. HasReadBody skip_building U lv.type lv.limit n l'.reader y) (append_assoc lv.done c x) reads;
  clear = clear;
}

-- the whole piece was taken
pub value_more : {keep : Bool} {L : Bounds} {T : Table} {offset at : ℕ} {d : Defined} {z piece : List ℕ}
    {levels levels' : Levels}
    → ValueHasRead keep L T offset (types d) levels z → HasCome keep (types d) at levels levels' piece came.ToEnd
    → PartSteps keep L T offset d z piece levels' d (Ok (record { used = length piece; next = Some part.Value }))
value_more {keep = keep} {L = L} {T = T} {offset = offset} {d = d} {piece = piece} {levels = levels} {levels' = levels'}
    (in_value_at {z = z} {lv = lv} c p said l k) r =
    let U = types d in
    let keeps = r.answers.0 in
    let g = r.answers.3 lv.type lv.limit l.announced (lv.done ++ c) l.is.reads in
    let all : take (length piece) piece ≡ piece = take_whole piece (length piece) (omega arith) in
    part_goes_on refl (omega arith)
    (subst (λ y. PartHasRead keep L T offset U levels' part.Value ((z ++ c) ++ y)) (sym all)
    (subst (λ y. PartHasRead keep L T offset U levels' part.Value y) (sym (append_assoc z c piece))
    (in_skeleton (c ++ piece) p said (record {
      announced = l.announced;
      is = level_on piece levels.innermost levels'.innermost l.is keeps
          (subst (λ x. SkeletonGrows keep levels.innermost.skeleton levels'.innermost.skeleton x) all r.answers.2)
          r.answers.1 g.after;
      viable = stood_back (extends_keeps l.is.grown) l.is.ready
          (subst (λ y. IsViable U lv.type lv.limit l.announced y) (append_assoc lv.done c piece) g.viable);
      rest = let rest = l.rest in omega (
        arith,
        length-append z (c ++ piece),
        length-append z c,
        length-append c piece,
        length-append lv.done (c ++ piece),
        length-append lv.done c,
      );
    }) (others_on levels levels' k keeps.fillings r.outer r.left))))

abbrev numbered : (begin end : ℕ) → NumberStage
numbered begin end = record { rest = record { begin = begin; end = end }; number = [] }

-- before the first byte of a number
numbered_from : {a b m n : ℕ} {s : NumberStage} → s ≡ record { rest = record { begin = a; end = m }; number = [] }
    → a ≡ b → m ≡ n → b < n → NumberIs s b n []
numbered_from s e f l = number_begins (s ∙ at e f) l
  where
    at : {a b m n : ℕ} → a ≡ b → m ≡ n → numbered a m ≡ numbered b n
    at e f = cc

-- up to a nil, whose number comes next
pub value_nil : {keep : Bool} {L : Bounds} {T : Table} {offset at behind used : ℕ} {U : Table} {z piece : List ℕ}
    {number : NumberStage} {levels levels' : Levels} → ValueHasRead keep L T offset U levels z
    → HasCome keep U at levels levels' piece (came.ToNil used) → behind ≡ offset + length z + used
    → number ≡ record { rest = record { begin = behind; end = levels'.innermost.end }; number = [] }
    → PartHasRead keep L T offset U levels' (part.NameLength (record { number = number })) (z ++ take used piece)
value_nil {keep = keep} {L = L} {T = T} {offset = offset} {behind = behind} {used = used} {U = U} {piece = piece}
    {number = number}
    {levels = levels} {levels' = levels'} (in_value_at {z = z} {lv = lv} c p said l k) r b n =
    let keeps = r.answers.0 in
    let came = r.answers.3 lv.type lv.limit l.announced (lv.done ++ c) l.is.reads in
    let g = came.0 in
    let x = take used piece in
    let there = append_assoc lv.done c x in
    let viable = stood_back (extends_keeps l.is.grown) l.is.ready
    (subst (λ y. IsViable U lv.type lv.limit l.announced y) there g.takes.viable) in
    let expects = expects_top_back (extends_keeps l.is.grown) l.is.ready
    (subst (λ y. ExpectsTop U lv.type y (a_number nil) g.nil.depth) there g.nil.expects) in
    let shown = nil_stands viable expects in
    let room = viable.room in let rest = l.rest in let ends = l.is.end in
    let size = length-take used piece in let within = g.within in
    let place : offset + length (z ++ (c ++ x)) + l.announced ≡ length (lv.done ++ (c ++ x)) + lv.end = omega (
      arith,
      length-append z (c ++ x),
      length-append z c,
      length-append c x,
      length-append lv.done (c ++ x),
      length-append lv.done c,
    ) in
    let here : behind ≡ offset + length (z ++ (c ++ x)) =
    omega (arith, length-append z (c ++ x), length-append z c, length-append c x) in
    subst (λ y. PartHasRead keep L T offset U levels' (part.NameLength (record { number = number })) y)
    (ap (λ (y : List ℕ). z ++ y) (append_nil (c ++ x)) ∙ sym (append_assoc z c x))
    (in_name_length (c ++ x) [] p said (record {
      announced = l.announced;
      is = level_on x levels.innermost levels'.innermost l.is keeps r.answers.2 r.answers.1 g.takes.after;
      at_nil = came.1;
      expects = expects;
      not_deep = shown.0;
      shallow = shown.1;
    }) (others_on levels levels' k keeps.fillings r.outer r.left)
    (numbered_from n here (keeps.end ∙ ends) (omega arith)) place)

-- or to its end
pub value_past : {keep : Bool} {L : Bounds} {T : Table} {offset at used : ℕ} {U : Table} {z piece : List ℕ}
    {levels levels' : Levels}
    → ValueHasRead keep L T offset U levels z → HasCome keep U at levels levels' piece (came.PastValue used)
    → ValueIsWhole keep L T offset U levels' (z ++ take used piece)
value_past {keep = keep} {L = L} {T = T} {offset = offset} {used = used} {U = U} {piece = piece} {levels = levels}
    {levels' = levels'}
    (in_value_at {z = z} {lv = lv} c p said l k) r =
    let keeps = r.answers.0 in
    let g = r.answers.3 lv.type lv.limit l.announced (lv.done ++ c) l.is.reads in
    let x = take used piece in
    let there = append_assoc lv.done c x in
    let all = g.made.all in let rest = l.rest in
    subst (λ y. ValueIsWhole keep L T offset U levels' y) (sym (append_assoc z c x))
    (value_whole (c ++ x) p said
    (top_back (extends_keeps l.is.grown) l.is.ready (subst (λ y. SpellsTop U lv.type g.made.value y) there
    g.made.spelled)) g.made.not_deep
    (omega (
      arith,
      length-append z (c ++ x),
      length-append z c,
      length-append c x,
      length-append (lv.done ++ c) x,
      length-append lv.done c,
    )) l.is.ready l.is.grown (keeps.id ∙ l.is.id)
    (skeleton_as (skeleton_on l.is.skeleton r.answers.2) there)
    (others_on levels levels' k keeps.fillings r.outer r.left))

-- ---- what taking what comes next asks

pub nil_comes : {keep : Bool} {L : Bounds} {d : Defined} {at behind used : ℕ} {levels levels' : Levels} {piece : List ℕ}
    {number : NumberStage} → IsInValue keep L d at levels
    → HasCome keep (types d) at levels levels' piece (came.ToNil used)
    → AreBytes piece → behind ≡ at + used
    → number ≡ record { rest = record { begin = behind; end = levels'.innermost.end }; number = [] }
    → IsInPut keep L d behind levels' (part.NameLength (record { number = number }))
nil_comes {used = used} {piece = piece} w r o b n =
    let within = came_within (came.ToNil used) w.has_read r in let taken = w.taken_is in
    record {
      table = w.table;
      offset = w.offset;
      bytes = w.bytes ++ take used piece;
      are_bytes = bytes_taken w.bytes piece used (bytes-append w.bytes piece w.are_bytes o);
      has_read = value_nil w.has_read r (omega arith) n;
      taken_is = omega (arith, length-append w.bytes (take used piece), length-take used piece);
      within = w.within;
      known = w.known;
    }

pub value_behind : {keep : Bool} {L : Bounds} {d : Defined} {at behind used : ℕ} {levels levels' : Levels}
    {piece : List ℕ}
    → IsInValue keep L d at levels → HasCome keep (types d) at levels levels' piece (came.PastValue used) → behind
    ≡ at + used
    → IsBehindValue keep L d behind levels'
value_behind {used = used} {piece = piece} w r b =
    let within = came_within (came.PastValue used) w.has_read r in let taken = w.taken_is in
    record {
      table = w.table;
      offset = w.offset;
      bytes = w.bytes ++ take used piece;
      has_read = value_past w.has_read r;
      taken_is = omega (arith, length-append w.bytes (take used piece), length-take used piece);
      within = w.within;
      known = w.known;
    }

-- ---- what that answers

pub bytes_on : (z piece : List ℕ) (used : ℕ) {rest : List ℕ} → rest ≡ drop used piece → AreBytes (z ++ piece)
    → AreBytes ((z ++ take used piece) ++ rest)
bytes_on z piece used e o =
    subst (λ r. AreBytes ((z ++ take used piece) ++ r)) (sym e) (subst AreBytes (sym (all_taken z piece used)) o)

behind_nil : {keep : Bool} {L : Bounds} {T : Table} {offset at behind used : ℕ} {d : Defined} {z piece : List ℕ}
    {number : NumberStage} {levels levels' levels'' : Levels} {result : Result PartTaken Fault} (rest : List ℕ)
    → rest ≡ drop used piece → IsInValue keep L d at levels
    → HasCome keep (types d) at levels levels' piece (came.ToNil used)
    → behind ≡ at + used
    → number ≡ record { rest = record { begin = behind; end = levels'.innermost.end }; number = [] }
    → PartAnswers keep L d d levels' levels'' (part.NameLength (record { number = number })) rest result
    → ValueHasRead keep L T offset (types d) levels z → AreBytes (z ++ piece)
    → PartSteps keep L T offset d (z ++ take used piece) (drop used piece) levels'' d result
behind_nil {keep = keep} {L = L} {T = T} {offset = offset} {used = used} {d = d} {z = z} {piece = piece}
    {levels'' = levels''}
    {result = result} rest e w r b n answers h o =
    let place = value_place w h in
    subst (λ rest. PartSteps keep L T offset d (z ++ take used piece) rest levels'' d result) e
    (answers.each T offset (z ++ take used piece) (value_nil h r (omega arith) n) (bytes_on z piece used e o))

pub nil_further : {keep : Bool} {L : Bounds} {T : Table} {offset at behind used : ℕ} {d : Defined} {z piece : List ℕ}
    {number : NumberStage} {levels levels' levels'' : Levels} (taken : PartTaken) (rest : List ℕ)
    → rest ≡ drop used piece → IsInValue keep L d at levels
    → HasCome keep (types d) at levels levels' piece (came.ToNil used)
    → behind ≡ at + used
    → number ≡ record { rest = record { begin = behind; end = levels'.innermost.end }; number = [] }
    → PartAnswers keep L d d levels' levels'' (part.NameLength (record { number = number })) rest (Ok taken)
    → ValueHasRead keep L T offset (types d) levels z → AreBytes (z ++ piece)
    → PartSteps keep L T offset d z piece levels'' d (Ok (record { used = used + taken.used; next = taken.next }))
nil_further {used = used} taken rest e w r b n answers h o =
    part_behind used taken (behind_nil rest e w r b n answers h o) (came_within (came.ToNil used) h r)

pub nil_stops : {keep : Bool} {L : Bounds} {T : Table} {offset at behind used : ℕ} {d : Defined} {z piece : List ℕ}
    {number : NumberStage} {levels levels' levels'' : Levels} (f : Fault) (rest : List ℕ)
    → rest ≡ drop used piece → IsInValue keep L d at levels
    → HasCome keep (types d) at levels levels' piece (came.ToNil used)
    → behind ≡ at + used
    → number ≡ record { rest = record { begin = behind; end = levels'.innermost.end }; number = [] }
    → PartAnswers keep L d d levels' levels'' (part.NameLength (record { number = number })) rest (Err f)
    → ValueHasRead keep L T offset (types d) levels z → AreBytes (z ++ piece)
    → PartSteps keep L T offset d z piece levels'' d (Err f)
nil_stops {used = used} f rest e w r b n answers h o =
    part_stopped_behind used f (behind_nil rest e w r b n answers h o)

-- no more is taken than there is
pub nil_few : {keep : Bool} {L : Bounds} {at behind used : ℕ} {d : Defined} {piece : List ℕ} {number : NumberStage}
    {levels levels' levels'' : Levels} (taken : PartTaken) (rest : List ℕ)
    → rest ≡ drop used piece → IsInValue keep L d at levels
    → HasCome keep (types d) at levels levels' piece (came.ToNil used)
    → behind ≡ at + used
    → number ≡ record { rest = record { begin = behind; end = levels'.innermost.end }; number = [] }
    → PartAnswers keep L d d levels' levels'' (part.NameLength (record { number = number })) rest (Ok taken)
    → AreBytes piece → used + taken.used ≤ length piece
nil_few {piece = piece} taken rest e w r b n answers o =
    part_few (nil_further taken rest e w r b n answers w.has_read (bytes-append w.bytes piece w.are_bytes o))

past_ends : {keep : Bool} {L : Bounds} {T : Table} {offset at behind used : ℕ} {d : Defined} {z piece : List ℕ}
    {levels levels' levels'' : Levels} {result : Result Goes Fault}
    → IsInValue keep L d at levels → HasCome keep (types d) at levels levels' piece (came.PastValue used) → behind
    ≡ at + used
    → EndAnswers keep L d behind levels' levels'' result → ValueHasRead keep L T offset (types d) levels z
    → AreBytes (z ++ piece)
    → GoesSteps keep L T offset d (z ++ take used piece) levels'' result
past_ends {T = T} {offset = offset} {used = used} {z = z} {piece = piece} w r b answers h o =
    let place = value_place w h in
    answers T offset (z ++ take used piece)
    (b ∙ length_behind offset z piece place (came_within (came.PastValue used) h r)) (value_past h r)
    (bytes_taken z piece used o)

pub past_further : {keep : Bool} {L : Bounds} {T : Table} {offset at behind used : ℕ} {d : Defined} {z piece : List ℕ}
    {levels levels' levels'' : Levels} (goes : Goes)
    → IsInValue keep L d at levels → HasCome keep (types d) at levels levels' piece (came.PastValue used) → behind
    ≡ at + used
    → EndAnswers keep L d behind levels' levels'' (Ok goes) → ValueHasRead keep L T offset (types d) levels z
    → AreBytes (z ++ piece)
    → PartSteps keep L T offset d z piece levels'' d (Ok (record { used = used; next = behind_value goes }))
past_further {used = used} goes w r b answers h o =
    goes_behind goes (past_ends w r b answers h o) (came_within (came.PastValue used) h r)

value_types : {keep : Bool} {L : Bounds} {T : Table} {offset : ℕ} {U : Table} {levels : Levels} {z : List ℕ}
    (piece : List ℕ)
    → ValueHasRead keep L T offset U levels z → HasTypesWithin L T offset (z ++ piece) U
value_types piece (in_value_at {z = z} c p said l k) = within_value (c ++ piece) p (append_assoc z c piece)

pub past_stops : {keep : Bool} {L : Bounds} {T : Table} {offset at behind used : ℕ} {d : Defined} {z piece : List ℕ}
    {levels levels' levels'' : Levels} (f : Fault)
    → IsInValue keep L d at levels → HasCome keep (types d) at levels levels' piece (came.PastValue used) → behind
    ≡ at + used
    → EndAnswers keep L d behind levels' levels'' (Err f) → ValueHasRead keep L T offset (types d) levels z
    → AreBytes (z ++ piece) → PartSteps keep L T offset d z piece levels'' d (Err f)
past_stops {used = used} {piece = piece} f w r b answers h o =
    goes_stopped used f (past_ends w r b answers h o) (value_types piece h)

-- ---- where it stops

pub value_stops : {keep : Bool} {L : Bounds} {T : Table} {offset at : ℕ} {d : Defined} {z piece : List ℕ}
    (levels levels' : Levels)
    (f : Fault) → ValueHasRead keep L T offset (types d) levels z
    → LevelAnswers keep (types d) at levels.innermost levels'.innermost piece (Err f) → at ≡ offset + length z
    → PartSteps keep L T offset d z piece levels' d (Err f)
value_stops {d = d} {piece = piece} levels levels' (fault.Refused R) (in_value_at {z = z} {lv = lv} c p said l k) r a =
    let U = types d in
    let h = r lv.type lv.limit l.announced (lv.done ++ c) l.is.reads in
    let s = h.0 in let n = h.1 in
    let w = read_within U lv.type lv.limit l.announced (lv.done ++ c) skip_building.received
    (under_way levels.innermost.reader) l.is.reads in
    let rest = l.rest in let pl = s.place in let se = s.seen in let sk = l.is.skeleton.length_is in
    part_refused (refuses_in_skeleton c piece p rest (omega arith)
    (first_back (extends_keeps l.is.grown) l.is.ready s.is) (λ e. n (s.reason_is ∙ e)) (omega arith) (omega arith)
    s.reason_is)
value_stops {piece = piece} levels levels' fault.Memory h r a = no_memory_for_part (value_types piece h)
value_stops levels levels' fault.Read h r a = absurd r
value_stops {d = d} levels levels' fault.Failed (in_value_at {lv = lv} c p said l k) r a =
    absurd (reads_on (types d) lv.type lv.limit l.announced (lv.done ++ c) skip_building.received
    (under_way levels.innermost.reader) l.is.reads r)

-- ---- between steps, where something of it was read

pub value_of_part : {keep : Bool} {L : Bounds} {T : Table} {offset : ℕ} {U : Table} {levels : Levels} {z : List ℕ}
    → PartHasRead keep L T offset U levels part.Value z → ValueHasRead keep L T offset U levels z
value_of_part (in_skeleton c p said l k) =
    in_value_at c p said (record { announced = l.announced; is = l.is; stood = stands l.viable; rest = l.rest }) k

pub in_value_of : {keep : Bool} {L : Bounds} {d : Defined} {taken : ℕ} {levels : Levels}
    → IsInPut keep L d taken levels part.Value
    → IsInValue keep L d taken levels
in_value_of w = record {
  table = w.table;
  offset = w.offset;
  bytes = w.bytes;
  are_bytes = w.are_bytes;
  has_read = value_of_part w.has_read;
  taken_is = w.taken_is;
  within = w.within;
  known = w.known;
}

pub part_of_value : {keep : Bool} {L : Bounds} {d : Defined} {old new : Levels} {piece : List ℕ}
    {result : Result PartTaken Fault}
    → ValueAnswers keep L d old new piece result → PartAnswers keep L d d old new part.Value piece result
part_of_value v = record { each = λ T offset z h o. v.each T offset z (value_of_part h) o; some = v.some }
