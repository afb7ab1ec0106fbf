-- What becomes of a definition behind a name.
use Rattle.std.proofs.Common.{Bool}
use Rattle.std.proofs.Common.{◌≡◌, ◌≢◌, ℕ, ◌+◌, ◌-◌, ◌<◌, ◌≤◌, ◌⊎◌, inl, inr, IfOk, List, [], ◌∷◌, ◌++◌, length}
use Rattle.std.proofs.Common.{take, drop, Result, Ok, Err, arith, refl, sym, ap, ◌∙◌, subst, append_assoc}
use Rattle.std.proofs.Common.{length-append}
use Rattle.std.proofs.lemmas.List.{length-take}
use Rattle.gob_types.specs.declared.id.TypeId.{TypeId}
use Rattle.gob_types.specs.declared.reason.Reason.TheVariants as reason
use Rattle.gob_types.specs.Base.{base_table}
use Rattle.gob_types.specs.Table.{Table}
use Rattle.gob_types.specs.Defined.{Defined, types}
use Rattle.gob_value.specs.Tree.{Tree}
use Rattle.gob_value.specs.View.{view}
use Rattle.gob_read.proofs.PublicLaws.{take_whole, take_and_drop, append_nil}
use Rattle.gob_stream.specs.declared.fault.Fault.{Fault}
use Rattle.gob_stream.specs.declared.fault.Fault.TheVariants as fault
use Rattle.gob_stream.specs.declared.stage.Extent.{Extent}
use Rattle.gob_stream.specs.Bounds.{Bounds, greatest_stream}
use Rattle.gob_stream.specs.Refusing.{refuses}
use Rattle.gob_stream.specs.Machine.HasRead.{size}
use Rattle.gob_stream.specs.Machine.ReadParts.{HasWireType, AreTypes}
use Rattle.gob_filled.specs.Filled.{definition}
use Rattle.gob_filled.specs.Outcome.{RefusesNextCount}
use Rattle.gob_filled.specs.Outcome as outcome
use Rattle.gob_filled.specs.Standing.{Level, in_filling, Stands}
use Rattle.gob_num.proofs.PublicLaws.{begins_prefix}
use Rattle.gob_go.specs.Meaning.{definitions_of}
use Rattle.gob_filled.specs.Opens.{Open, opens, defined, and_definition}
use Rattle.gob_go.specs.Reading.{RefusesWith, HasTypesWithin, within_value}
use Rattle.gob_go.specs.Reading.{behind_definition as types_behind_definition}
use Rattle.gob_go.specs.declared.description.Described.{Described}
use Rattle.gob_go.specs.declared.description.Described.TheVariants as described
use Rattle.gob_go.specs.declared.description.DescriptionStage.{DescriptionStage}
use Rattle.gob_go.specs.declared.filled.Definition.{Definition}
use Rattle.gob_go.specs.declared.levels.Levels.{Levels}
use Rattle.gob_go.specs.declared.number.NumberStage.{NumberStage}
use Rattle.gob_go.specs.declared.part.PutPart.TheVariants as part
use Rattle.gob_go.specs.declared.part.PartTaken.{PartTaken}
use Rattle.gob_go.specs.Machine.HasRead.{PartHasRead, in_held_description, in_next_count, NumberIs, OthersAre, no_end}
use Rattle.gob_go.specs.Machine.HasRead as has_read
use Rattle.gob_go.specs.Machine.Levels.{LevelAtNil, HeldIs}
use Rattle.gob_go.specs.Machine.Parts.{ReadsDescription, description_goes_on, description_ends, used_of_described}
use Rattle.gob_go.specs.Machine.Parts.{AddsDefinition, HeldBehind, last_end}
use Rattle.gob_go.specs.Machine.Stages.{IsInPut, PartSteps, part_goes_on, part_refused, no_memory_for_part}
use Rattle.gob_go.proofs.NestedLaws.{levels_nest}
use Rattle.gob_go.proofs.NumberStages.{number_begins}
use Rattle.gob_go.proofs.DefinitionSteps.{Describing, describing, describes_on, whole_definition, DescriptionFault}
use Rattle.gob_go.proofs.DefinitionSteps.{refused_there, without_memory, description_fault, held_refused}
use Rattle.gob_go.proofs.DefinitionSteps.{ReadsSomewhere}
use Rattle.gob_go.proofs.DefinitionSteps.{description_under_way, admitted, EndsAt, ends_at, ReadyToTake}
use Rattle.gob_go.proofs.GrownLaws.{definition_extends, nil_grown, others_grown}
use Rattle.gob_go.proofs.NextCountSteps.{same_end, open_ends, next_refused}

-- ---- a definition is kept

more_definitions : (ds : List Definition) (k : Definition)
    → definitions_of (ds ++ k ∷ []) ≡ and_definition (definitions_of ds) k.id (view k.described)
more_definitions [] k = refl
more_definitions (d ∷ ds) k = ap (λ es. definition d.id (view d.described) es) (more_definitions ds k)

-- the level and those around it, behind a definition
nil_kept : {keep : Bool} {U : Table} {old new : Levels} {lv : Level} {d : ℕ} {kept : Definition}
    → AddsDefinition kept old new
    → LevelAtNil keep U old.innermost lv [] d → LevelAtNil keep U new.innermost lv [] d
nil_kept {U = U} {old = old} {new = new} {lv = lv} {d = d} k h =
    let reader = k.reader in record {
      announced = h.announced;
      is = record {
        id = k.id ∙ h.is.id;
        depth = k.depth ∙ h.is.depth;
        end = k.end ∙ h.is.end;
        skeleton = rw k.skeleton h.is.skeleton;
        ready = h.is.ready;
        grown = h.is.grown;
        reads = rw k.reader h.is.reads;
        clear = rw k.reader h.is.clear;
      };
      at_nil = rw k.reader h.at_nil;
      expects = h.expects;
      not_deep = h.not_deep;
      shallow = h.shallow;
    }

others_kept : {keep : Bool} {U : Table} {old new : Levels} {around : List Level} {o p : Open} {os : List Open}
    {left : ℕ}
    {kept : Definition} → AddsDefinition kept old new → p.fillings ≡ o.fillings → OthersAre keep U old around o os left
    → OthersAre keep U new around p os left
others_kept k f h = record {
  fillings = rw (k.fillings, f) h.fillings;
  outer = rw k.outer h.outer;
  left_is = k.left ∙ h.left_is;
}

abbrev numbered_as : ℕ → ℕ → NumberStage
numbered_as begin end = record { rest = record { begin = begin; end = end }; number = [] }

-- what was said of a value, with one definition more
abbrev with_definition : TypeId → Tree → Open → Open
with_definition id v o =
    record { fillings = o.fillings; name = o.name; definitions = and_definition o.definitions id v }

said_more : (id : TypeId) (v : Tree) {all : List Open} {o : Open} {os : List Open} → all ≡ o ∷ os
    → defined id v all ≡ with_definition id v o ∷ os
said_more id v e = ap (λ l. defined id v l) e

held_kept : {old new : Levels} {o : Open} (kept : Definition) → AddsDefinition kept old new
    → HeldIs old.innermost.held o
    → HeldIs new.innermost.held (with_definition kept.id (view kept.described) o)
held_kept {old = old} kept k h = record {
  name = ap (λ s. s.items) k.name ∙ h.name;
  definitions = ap definitions_of k.definitions
      ∙ more_definitions old.innermost.held.definitions.items kept
      ∙ ap (λ ds. and_definition ds kept.id (view kept.described)) h.definitions;
}

-- ---- what follows

spread : (z a y x : List ℕ) → (z ++ (a ++ y)) ++ x ≡ z ++ (a ++ (y ++ x))
spread z a y x = simp append_assoc

split_behind : (z a y piece : List ℕ) (used : ℕ)
    → (z ++ (a ++ y)) ++ piece ≡ z ++ ((a ++ (y ++ take used piece)) ++ drop used piece)
split_behind z a y piece used =
    spread z a y piece ∙ ap (λ l. z ++ (a ++ (y ++ l))) (sym (take_and_drop piece used))
    ∙ ap (λ l. z ++ l) (regrouped a y (take used piece) (drop used piece))
  where
    regrouped : (a y x r : List ℕ) → a ++ (y ++ (x ++ r)) ≡ (a ++ (y ++ x)) ++ r
    regrouped a y x r = sym (spread a y x r)

numbered_from : {a b m n : ℕ} → a ≡ b → m ≡ n → numbered_as a m ≡ numbered_as b n
numbered_from e f = cc

pub held_description_goes : {keep : Bool} {L : Bounds} {d d' : Defined} {T : Table} {offset left depth : ℕ}
    {levels levels' : Levels}
    {z a y : List ℕ} {lv : Level} {around : List Level} {o : Open} {os : List Open} {id : TypeId} {rest : Extent}
    {part_taken : PartTaken} (taken : ℕ) (said : Described) (piece : List ℕ) → HasWireType (types d)
    → (p : Stands base_table L T offset z (types d) (lv ∷ around) (in_filling depth) left) → opens p ≡ o ∷ os
    → LevelAtNil keep (types d) levels.innermost lv [] depth → OthersAre keep (types d) levels around o os left
    → HeldIs levels.innermost.held o → Describing L (types d) id rest (offset + length z) lv.end a
    → EndsAt taken rest said → ReadsDescription d id L.depth rest y piece d' (Ok said)
    → HeldBehind levels levels' taken (length piece) said (Ok part_taken)
    → PartSteps keep L T offset d (z ++ (a ++ y)) piece levels' d' (Ok part_taken)
held_description_goes {keep = keep} {L = L} {d = d} {d' = d'} {T = T} {offset = offset} {levels = levels}
    {levels' = levels'} {z = z}
    {a = a} {y = y} {part_taken = part_taken} taken (described.More description) piece w p said nil others held h at
    (description_goes_on s b) k =
    let now : PartHasRead keep L T offset (types d) levels (part.Description (record { description = description }))
    (z ++ (a ++ (y ++ piece))) = in_held_description a (y ++ piece) p said nil others held (describes_on h b) in
    let there : z ++ (a ++ (y ++ piece)) ≡ (z ++ (a ++ y)) ++ take (length piece) piece =
    sym (ap (λ l. (z ++ (a ++ y)) ++ l) (take_whole piece (length piece) (omega arith)) ∙ spread z a y piece) in
    rw k.1 (part_goes_on {used = length piece} (ap (λ (d : Defined). d.most) s) (omega arith)
    (subst (λ l. PartHasRead keep L T offset (types d') l (part.Description (record { description = description }))
    ((z ++ (a ++ y)) ++ take (length piece) piece)) (sym k.0)
    (subst (λ (d : Defined). PartHasRead keep L T offset (types d) levels
    (part.Description (record { description = description }))
    ((z ++ (a ++ y)) ++ take (length piece) piece)) (sym s)
    (subst (λ z. PartHasRead keep L T offset (types d) levels
    (part.Description (record { description = description })) z)
    there
    now))))
held_description_goes {keep = keep} {L = L} {d = d} {d' = d'} {T = T} {offset = offset} {levels = levels}
    {levels' = levels'} {z = z}
    {a = a} {y = y} {lv = lv} {around = around} {part_taken = part_taken} taken (described.Whole kept used) piece w p
    said nil others held h at (description_ends there given) k =
    let whole = whole_definition w h there given in
    let more = definition_extends given in
    let comes = k.1 in
    let all = whole.all in
    let ends : offset + length (z ++ (a ++ (y ++ take used piece))) ≡ lv.end =
    omega (arith, length-append z (a ++ (y ++ take used piece))) in
    let place : taken + used ≡ lv.end = let e = h.ends in omega arith in
    let around_end : last_end levels'.outer.items ≡ has_read.end_around around =
    ap (λ o. last_end o.items) k.0.outer ∙ same_end others.outer in
    let order = comes.begins.0 in
    let number : NumberIs comes.stage.number lv.end (has_read.end_around around) [] =
    number_begins (comes.begins.1 ∙ numbered_from place around_end) (omega arith) in
    let bytes : z ++ ((a ++ (y ++ take used piece)) ++ []) ≡ (z ++ (a ++ y)) ++ take used piece =
    ap (λ l. z ++ l) (append_nil (a ++ (y ++ take used piece))) ∙ sym (spread z a y (take used piece)) in
    rw comes.is (part_goes_on whole.most there.within
    (subst (λ z. PartHasRead keep L T offset (types d') levels' (part.NextCount comes.stage) z) bytes
    (in_next_count [] p (said_more kept.id (view kept.described) said) whole.defined ends
    (nil_kept k.0 (nil_grown more nil))
    (others_kept k.0 refl (others_grown more others)) (held_kept kept k.0 held) number)))

short_shown : reason.Short ≢ reason.Ended
short_shown e = cc

-- where the segment around ends, no count is left
nothing_left : (L : Bounds) (left : ℕ) (around : List Level) (at : ℕ) (q : List ℕ) → at ≡ has_read.end_around around
    → at < no_end → RefusesNextCount L left at around q (refuses at at reason.Short)
nothing_left L left [] at q e l = absurd (omega arith)
nothing_left L left (k ∷ around) at q e l =
    let none : k.end - at ≡ 0 = omega arith in
    rw none (rw (e) (outcome.RefusesInner.short (omega arith) (begins_prefix {bytes = []} tt)))

-- no count can follow
pub held_count_fails : {keep : Bool} {L : Bounds} {d d' : Defined} {T : Table} {offset left depth : ℕ}
    {levels levels' : Levels}
    {z a y : List ℕ} {lv : Level} {around : List Level} {o : Open} {os : List Open} {id : TypeId} {rest : Extent}
    (taken : ℕ) (said : Described) (piece : List ℕ) (f : Fault) → HasWireType (types d)
    → taken + used_of_described said < no_end
    → (p : Stands base_table L T offset z (types d) (lv ∷ around) (in_filling depth) left)
    → OthersAre keep (types d) levels around o os left
    → Describing L (types d) id rest (offset + length z) lv.end a
    → EndsAt taken rest said → ReadsDescription d id L.depth rest y piece d' (Ok said)
    → HeldBehind levels levels' taken (length piece) said (Err f)
    → PartSteps keep L T offset d (z ++ (a ++ y)) piece levels' d' (Err f)
held_count_fails taken (described.More description) piece f w fits p others h at (description_goes_on s b) k = absurd k
held_count_fails {L = L} {d = d} {d' = d'} {T = T} {offset = offset} {left = left} {levels' = levels'} {z = z} {a = a}
    {y = y}
    {lv = lv}
    {around = around} taken (described.Whole kept used) piece (fault.Refused R) w fits p others h at
    (description_ends there given) k =
    let whole = whole_definition w h there given in
    let all = whole.all in
    let ends : offset + length (z ++ (a ++ (y ++ take used piece))) ≡ lv.end =
    omega (arith, length-append z (a ++ (y ++ take used piece))) in
    let place : taken + used ≡ lv.end = let e = h.ends in omega arith in
    let around_end : last_end levels'.outer.items ≡ has_read.end_around around =
    ap (λ o. last_end o.items) k.0.outer ∙ same_end others.outer in
    let stops = k.1.0 in
    rw (k.1.1, place) (part_refused (next_refused (drop used piece) p whole.defined ends
    (split_behind z a y piece used)
    (nothing_left L left around lv.end (drop used piece) (omega arith) (omega arith)) short_shown))
held_count_fails {z = z} {a = a} {y = y} taken (described.Whole kept used) piece fault.Memory w fits p others h at
    (description_ends there given) k =
    let whole = whole_definition w h there given in
    no_memory_for_part (types_behind_definition (drop used piece) p whole.defined
    (split_behind z a y piece used))
held_count_fails taken (described.Whole kept used) piece fault.Read w fits p others h at r k = absurd k
held_count_fails taken (described.Whole kept used) piece fault.Failed w fits p others h at r k = absurd k

-- ---- where a reader stands in a description behind a name

pub held_ready : {keep : Bool} {L : Bounds} {d : Defined} {at : ℕ} {levels : Levels} {description : DescriptionStage}
    → IsInPut keep L d at levels (part.Description (record { description = description })) → ReadyToTake L d description
held_ready {keep = keep} w = ready w.known w.has_read
  where
    ready : {L : Bounds} {d : Defined} {T : Table} {offset : ℕ} {levels : Levels} {description : DescriptionStage}
        {z : List ℕ} → AreTypes L d
        → PartHasRead keep L T offset (types d) levels (part.Description (record { description = description })) z
        → ReadyToTake L d description
    ready known (in_held_description a y p said nil others held h) =
        record { has_read = description_under_way h; admits = admitted known h.may }

-- a description that fails is that of the segment behind the name
pub held_stopped : {keep : Bool} {L : Bounds} {d d' : Defined} {T : Table} {offset left depth : ℕ} {lv : Level}
    {around : List Level}
    {z y piece : List ℕ} {f : Fault} (levels' : Levels) (w : List ℕ)
    → Stands base_table L T offset z (types d) (lv ∷ around) (in_filling depth) left → y ++ piece ≡ z ++ w
    → DescriptionFault L d d' (offset + length z) lv.end w f → PartSteps keep L T offset d y piece levels' d' (Err f)
held_stopped {L = L} {T = T} {offset = offset} {y = y} {piece = piece} levels' w p e
    (refused_there {R = R} s b n shown) =
    part_refused (subst (λ (d : Defined). RefusesWith L T offset (y ++ piece) R (types d)) (sym s)
    (held_refused w p e b n shown))
held_stopped {L = L} {T = T} {offset = offset} {y = y} {piece = piece} levels' w p e (without_memory s) =
    no_memory_for_part (subst (λ (d : Defined). HasTypesWithin L T offset (y ++ piece) (types d)) (sym s)
    (within_value w p e))

pub held_failed : {keep : Bool} {L : Bounds} {d d' : Defined} {T : Table} {offset : ℕ} {levels : Levels}
    {z : List ℕ} {f : Fault}
    (levels' : Levels) (description : DescriptionStage) (piece : List ℕ) → HasWireType (types d)
    → PartHasRead keep L T offset (types d) levels (part.Description (record { description = description })) z
    → ReadsSomewhere d description piece d' (Err f) → PartSteps keep L T offset d z piece levels' d' (Err f)
held_failed {L = L} levels' description piece w (in_held_description {z = z} a y p said nil others held h) g =
    let room = h.read.viable.room in
    held_stopped levels' (a ++ (y ++ piece)) p (spread z a y piece)
    (description_fault piece w (describing h) (omega arith) (g L.depth y h.read.after))

pub held_ends : {keep : Bool} {L : Bounds} {d d' : Defined} {T : Table} {offset : ℕ} {levels : Levels} {z : List ℕ}
    {said : Described}
    (at : ℕ) (description : DescriptionStage) (piece : List ℕ) → at ≡ offset + length z
    → PartHasRead keep L T offset (types d) levels (part.Description (record { description = description })) z
    → ReadsSomewhere d description piece d' (Ok said) → EndsAt at description.rest said
held_ends {L = L} at description piece t (in_held_description {z = z} a y p said nil others held h) g =
    ends_at at piece (describing h) (omega (arith, length-append z (a ++ y))) (g L.depth y h.read.after)

pub held_went : {keep : Bool} {L : Bounds} {d d' : Defined} {T : Table} {offset : ℕ} {levels : Levels} {z : List ℕ}
    {said : Described}
    (at : ℕ) (levels' : Levels) (description : DescriptionStage) (piece : List ℕ) (result : Result PartTaken Fault)
    → HasWireType (types d) → EndsAt at description.rest said → at + used_of_described said < no_end
    → PartHasRead keep L T offset (types d) levels (part.Description (record { description = description })) z
    → ReadsSomewhere d description piece d' (Ok said) → HeldBehind levels levels' at (length piece) said result
    → PartSteps keep L T offset d z piece levels' d' result
held_went {L = L} {said = said} at levels' description piece (Ok part_taken) w e fits
    (in_held_description a y p opened nil others held h) g k =
    held_description_goes at said piece w p opened nil others held (describing h) e (g L.depth y h.read.after) k
held_went {L = L} {said = said} at levels' description piece (Err f) w e fits
    (in_held_description a y p opened nil others held h) g k =
    held_count_fails at said piece f w fits p others (describing h) e (g L.depth y h.read.after) k

-- the description ends within its segment, and that within the one around it
pub record FitsAround (levels : Levels) (behind : ℕ) : Type 0 where
  pub fits : behind < no_end
  pub order : behind ≤ last_end levels.outer.items

pub ends_around : {L : Bounds} {T U : Table} {offset left depth : ℕ} {z : List ℕ} {lv : Level} (around : List Level)
    → L.stream ≤ greatest_stream → Stands base_table L T offset z U (lv ∷ around) (in_filling depth) left
    → lv.end ≤ has_read.end_around around
ends_around [] most p = let e = open_ends p in omega arith
ends_around (k ∷ around) most p = (levels_nest p).0.ends

used_at : (at : ℕ) (rest : Extent) (said : Described) → EndsAt at rest said
    → (at + used_of_described said ≡ at) ⊎ (at + used_of_described said ≡ rest.end)
used_at at rest (described.More on) e = inl (omega arith)
used_at at rest (described.Whole kept used) e = inr e

pub held_fits : {keep : Bool} {L : Bounds} {d d' : Defined} {at : ℕ} {levels : Levels} (said : Described)
    (description : DescriptionStage)
    (piece : List ℕ) → L.stream ≤ greatest_stream
    → IsInPut keep L d at levels (part.Description (record { description = description }))
    → ReadsSomewhere d description piece d' (Ok said) → FitsAround levels (at + used_of_described said)
held_fits {keep = keep} {L = L} {d = d} {d' = d'} {at = at} {levels = levels} said description piece most w g =
    from w.has_read w.taken_is (held_ends at description piece w.taken_is w.has_read g)
  where
    from : {T : Table} {offset : ℕ} {z : List ℕ}
        → PartHasRead keep L T offset (types d) levels (part.Description (record { description = description })) z
        → at ≡ offset + length z → EndsAt at description.rest said → FitsAround levels (at + used_of_described said)
    from (in_held_description {z = z} {around = around} a y p opened nil others held h) t e =
        let room = h.read.viable.room in let b = h.begins in let n = h.ends in let o = h.order in
        let stream = open_ends p in let within = ends_around around most p in let same = same_end others.outer in
        let used = used_at at description.rest said e in
        record {
          fits = omega (arith, length-append z (a ++ y), length-append a y);
          order = omega (arith, length-append z (a ++ y), length-append a y);
        }

pub held_some : {keep : Bool} {L : Bounds} {d d' : Defined} {T : Table} {offset : ℕ} {levels : Levels} {z : List ℕ}
    (levels' : Levels) (at : ℕ) (said : Described) (description : DescriptionStage) (piece : List ℕ)
    (result : Result PartTaken Fault)
    → PartHasRead keep L T offset (types d) levels (part.Description (record { description = description })) z
    → ReadsSomewhere d description piece d' (Ok said) → HeldBehind levels levels' at (length piece) said result
    → 0 < length piece → IfOk result (λ taken. 0 < taken.used)
held_some levels' at said description piece (Err f) h g k l = tt
held_some {L = L} {d = d} {d' = d'} levels' at (described.More on) description piece (Ok t) h g k l = rw k.1 l
held_some {L = L} {d = d} {d' = d'} levels' at (described.Whole kept used) description piece (Ok t)
    (in_held_description a y p opened nil others held h) g k l =
    let n = some h.read.viable.room (g L.depth y h.read.after) in rw k.1.is n
  where
    some : {id : TypeId} {rest : Extent} → length y < size rest
        → ReadsDescription d id L.depth rest y piece d' (Ok (described.Whole kept used)) → 0 < used
    some l (description_ends there given) =
        let all = there.made.all in omega (arith, length-append y (take used piece), length-take used piece)
