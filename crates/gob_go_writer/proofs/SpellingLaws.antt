-- An item has one spelling, and that of an item of a stream is its bytes.
use Rattle.std.proofs.Common.{◌≡◌, ℕ, pos, negsuc, ◌+◌, ◌-◌, ◌<◌, ◌≤◌, List, [], ◌∷◌, ◌++◌, length, take, drop}
use Rattle.std.proofs.Common.{refl, sym, ap, subst, ◌∙◌, append_assoc, arith, length-append}
use Rattle.std.proofs.Math.Seq.{drop-append_seam, take-append_seam}
use Rattle.gob_num.specs.Unsigned.{IsUnsigned}
use Rattle.gob_num.specs.Signed.{IsSigned}
use Rattle.gob_num.proofs.PublicLaws.{signed_unique, unsigned_unique}
use Rattle.gob_types.specs.declared.id.TypeId.{TypeId}
use Rattle.gob_types.specs.Base.{base_table, wire_type}
use Rattle.gob_types.specs.Table.{Table}
use Rattle.gob_types.proofs.PublicLaws.{Keeps}
use Rattle.gob_value.specs.Spelling.{Spells}
use Rattle.gob_value.specs.Tree.{Tree}
use Rattle.gob_value.proofs.PublicLaws.{one_spelling, one_top, spells_on, top_on}
use Rattle.gob_stream.specs.Bounds.{Bounds, greatest_depth}
use Rattle.gob_filled.specs.Definition.{Defines, defines}
use Rattle.gob_filled.specs.Filled.{Definitions, Fillings, filling, AreDefined, none_defined, one_defined}
use Rattle.gob_filled.specs.Filled.{AreSegments, SpellsFilled, with_fillings, Fills, as_it_stands, next_filled}
use Rattle.gob_filled.specs.Filled as spelled
use Rattle.gob_filled.specs.Stream.{FilledItem, IsFilledItem}
use Rattle.gob_filled.specs.Stream as stream
use Rattle.gob_filled.proofs.Items.{segments_of}
use Rattle.gob_filled.proofs.Refused.{definition_keeps, in_turn}
use Rattle.gob_filled.proofs.Strict.{filled_keeps}
use Rattle.gob_filled.proofs.Unique.{one_framed}
use Rattle.gob_go.specs.Meaning.{IsFilled, is_filled, AreFillings, no_fillings, filling_then, definitions_of}
use Rattle.gob_go.specs.Meaning.{ItemMeans, means_definition, means_value}
use Rattle.gob_go.specs.declared.filled.Definition.{Definition}
use Rattle.gob_go.specs.declared.filled.Filled.{Filled, out-Filled}
use Rattle.gob_go.specs.declared.filled.Filling.{Filling, out-Filling}
use Rattle.gob_go.specs.declared.item.GoItem.{GoItem}
use Rattle.gob_go_writer.specs.Item.{IsGrown, IsItemOf}
use Rattle.gob_go_writer.specs.Spelling.{SpellsDefinition, SpellDefinitions, none_spelled, one_spelled, SpellsName}
use Rattle.gob_go_writer.specs.Spelling.{SpellsRest, SpellsFilling, fills, SpellsValue, IsSpelling}
use Rattle.gob_go_writer.specs.Spelling as spelling
use Rattle.gob_go_writer.proofs.PartSteps.{defs_keep}
use Rattle.gob_go_writer.proofs.ValueSteps.{fills_keep, grown_by}

joined : {a b c d : List ℕ} → a ≡ b → c ≡ d → a ++ c ≡ b ++ d
joined e f = cc

-- ---- one spelling

one_definition : {T : Table} {id : TypeId} {v : Tree} {b c : List ℕ} → SpellsDefinition T id v b
    → SpellsDefinition T id v c → b ≡ c
one_definition p q =
    let below : p.below ≡ q.below = omega (arith, p.id_is, q.id_is) in
    p.whole ∙ joined
    (signed_unique p.numbered (subst (λ n. IsSigned (negsuc n) q.number) (sym below) q.numbered))
    (one_spelling p.described q.described) ∙ sym q.whole

one_definitions : {T : Table} {ds : List Definition} {b c : List ℕ} → SpellDefinitions T ds b → SpellDefinitions T ds c
    → b ≡ c
one_definitions none_spelled none_spelled = refl
one_definitions (one_spelled p ps) (one_spelled q qs) =
    let first = one_definition p q in
    let others = one_definitions ps qs in
    cc

one_name : {name b c : List ℕ} → SpellsName name b → SpellsName name c → b ≡ c
one_name {name = name} p q = p.whole ∙ ap (λ a. a ++ name) (unsigned_unique p.counts q.counts) ∙ sym q.whole

mutual
  one_rest : {T : Table} {skeleton : List ℕ} {done : ℕ} {fs : List Filling} {b c : List ℕ}
      → SpellsRest T skeleton done fs b → SpellsRest T skeleton done fs c → b ≡ c
  one_rest spelling.as_it_stands spelling.as_it_stands = refl
  one_rest (spelling.next_filled low high h r) (spelling.next_filled low' high' k q) =
      joined refl (joined (one_filling h k) (one_rest r q))

  one_filling : {T : Table} {f : Filling} {b c : List ℕ} → SpellsFilling T f b → SpellsFilling T f c → b ≡ c
  one_filling (fills a d n v s) (fills a' d' n' v' s') =
      joined (one_name a a') (joined (one_definitions d d')
      (joined (signed_unique n n') (one_framed s s' (one_rest v v'))))

pub one_kept : {T : Table} {kept : GoItem} {b c : List ℕ} → IsSpelling T kept b → IsSpelling T kept c → b ≡ c
one_kept (spelling.of_definition {c = c} {ls = ls} d u) (spelling.of_definition {c = c'} {ls = ls'} d' u') =
    let same : ls ≡ ls' = one_definition d d' in
    joined (unsigned_unique u (subst (λ (l : List ℕ). IsUnsigned (length l) c') (sym same) u')) same
one_kept (spelling.of_value n v s) (spelling.of_value n' v' s') =
    one_framed s s' (joined (signed_unique n n') (one_rest v v'))

-- ---- the parts of an item of a stream

-- what spells a description under the one table spells it under the other
abbrev pub SharesDescriptions : (now here : Table) → Type 0
SharesDescriptions now here = (v : Tree) (b : List ℕ) → Spells now wire_type v b → Spells here wire_type v b

definition_spelled : {here now T V : Table} {L : Bounds} {id : TypeId} {v : Tree} {ls : List ℕ}
    → Defines base_table L T id v ls V → IsGrown V now → SharesDescriptions now here → L.depth ≤ greatest_depth
    → SpellsDefinition here id v ls
definition_spelled {here = here} {now = now} def grown shares shallow =
    by def (definition_keeps def) (record { shape = grown }) shallow
  where
    by : {T V : Table} {L : Bounds} {id : TypeId} {v : Tree} {ls : List ℕ} → Defines base_table L T id v ls V
        → Keeps T V → Keeps V now → L.depth ≤ greatest_depth → SpellsDefinition here id v ls
    by (defines {n = n} {v = v} {a = a} {b = b} may de d i s k) one two sh = record {
      below = n;
      number = a;
      description = b;
      id_is = i;
      small = omega (arith, may.own);
      numbered = s;
      described = shares v b (spells_on two (spells_on one k));
      shallow = omega arith;
      whole = refl;
    }

definitions_spelled : {here now T V : Table} {L : Bounds} {ls : List ℕ} (all : List Definition)
    → AreDefined base_table L T (definitions_of all) ls V → IsGrown V now → SharesDescriptions now here
    → L.depth ≤ greatest_depth → SpellDefinitions here all ls
definitions_spelled [] none_defined grown shares shallow = none_spelled
definitions_spelled {now = now} (d ∷ ds) (one_defined o def k) grown shares shallow =
    one_spelled (definition_spelled def (grown_by now (defs_keep k) grown) shares shallow)
    (definitions_spelled ds k grown shares shallow)

-- what is kept of the first of the fillings, and of the others
record KeptFilling (now : Table) (all : List Filling) (place : ℕ) (name : List ℕ) (ds : Definitions) (u : TypeId)
    (v : spelled.Filled) (fs : Fillings) : Type 0 where
  pub first : Filling
  pub others : List Filling
  pub all_are : first ∷ others ≡ all
  pub place_is : (out-Filling first).place ≡ place
  pub name_is : name ≡ (out-Filling first).name.items
  pub definitions_are : ds ≡ definitions_of (out-Filling first).definitions.items
  pub type_is : u ≡ (out-Filling first).id
  pub means : IsFilled now u (out-Filling first).value v
  pub others_mean : AreFillings now others fs

kept_filling : {now : Table} {all : List Filling} {place : ℕ} {name : List ℕ} {ds : Definitions} {u : TypeId}
    {v : spelled.Filled} {fs : Fillings} → AreFillings now all (filling place name ds u v fs)
    → KeptFilling now all place name ds u v fs
kept_filling (filling_then {kept = first} {all = others} m ms) = record {
  first = first;
  others = others;
  all_are = refl;
  place_is = refl;
  name_is = refl;
  definitions_are = refl;
  type_is = refl;
  means = m;
  others_mean = ms;
}

-- the bytes of a skeleton between two places
skipped : (front between rest skeleton : List ℕ) (done place : ℕ) → skeleton ≡ front ++ (between ++ rest)
    → done ≡ length front → place ≡ length front + length between → take (place - done) (drop done skeleton) ≡ between
skipped front between rest skeleton done place e d p =
    let so_many : place - done ≡ length between = omega arith in
    ap (λ s. take (place - done) (drop done s)) e
    ∙ ap (λ n. take (place - done) (drop n (front ++ (between ++ rest)))) d
    ∙ ap (λ s. take (place - done) s) (drop-append_seam front (between ++ rest))
    ∙ ap (λ n. take n (between ++ rest)) so_many ∙ take-append_seam between rest

-- a filling behind some bytes of the skeleton, and what is left behind it
then_rest : {here : Table} {f : Filling} {fs : List Filling} {held ms : List ℕ} (skeleton done c left : List ℕ)
    → skeleton ≡ done ++ (c ++ 0 ∷ left) → (out-Filling f).place ≡ length (done ++ c) → SpellsFilling here f held
    → SpellsRest here skeleton (length (done ++ (c ++ 0 ∷ []))) fs ms
    → SpellsRest here skeleton (length done) (f ∷ fs) (c ++ (held ++ ms))
then_rest {here = here} {f = f} {fs = fs} {held = held} {ms = ms} skeleton done c left e p h r =
    let place = (out-Filling f).place in
    let at : place ≡ length done + length c = p ∙ length-append done c in
    let next : length (done ++ (c ++ 0 ∷ [])) ≡ place + 1 =
    omega (arith, at, length-append done (c ++ 0 ∷ []), length-append c (0 ∷ [])) in
    let some : place < length skeleton =
    omega (arith, at, ap length e, length-append done (c ++ 0 ∷ left), length-append c (0 ∷ left)) in
    subst (λ b. SpellsRest here skeleton (length done) (f ∷ fs) (b ++ (held ++ ms)))
    (skipped done c (0 ∷ left) skeleton (length done) place e refl at)
    (spelling.next_filled (omega (arith, at)) some h (subst (λ n. SpellsRest here skeleton n fs ms) next r))

-- what fills a nil, by its parts
filled_by : {here : Table} {u : TypeId} {a s e n ls g : List ℕ} (f : Filling) → IsUnsigned (length s) a
    → s ≡ (out-Filling f).name.items → SpellDefinitions here (out-Filling f).definitions.items e
    → IsSigned (pos u.0) n → u ≡ (out-Filling f).id → SpellsValue here (out-Filling f).value ls → AreSegments ls g
    → SpellsFilling here f (a ++ (s ++ (e ++ (n ++ g))))
filled_by {here = here} {a = a} {s = s} {e = e} {n = n} {g = g} f u name ds i id v k =
    subst (SpellsFilling here f) (append_assoc a s (e ++ (n ++ g)))
    (fills (record {
      count = a;
      counts = subst (λ (l : List ℕ). IsUnsigned (length l) a) name u;
      whole = ap (λ l. a ++ l) name;
    }) ds (subst (λ (t : TypeId). IsSigned (pos t.0) n) id i) v k)

mutual
  value_spelled : {here now T V : Table} {L : Bounds} {t : TypeId} {limit : ℕ} {kept : Filled} {w : spelled.Filled}
      {ls : List ℕ} → SpellsFilled base_table L T t limit w ls V → IsFilled now t kept w → IsGrown V now
      → SharesDescriptions now here → L.depth ≤ greatest_depth → SpellsValue here kept ls
  value_spelled {kept = kept} (with_fillings {b = b} sp de fl) (is_filled top means) grown shares shallow =
      let keep = in_turn (fills_keep fl) (record { shape = grown }) in
      rest_spelled (out-Filled kept).skeleton.items fl (sym (one_top (top_on keep sp) top)) means grown shares shallow

  rest_spelled : {here now T U V : Table} {L : Bounds} {t : TypeId} {limit : ℕ} {done left ls : List ℕ}
      {all : List Filling} {fs : Fillings} (skeleton : List ℕ)
      → Fills base_table L T t limit U done left fs ls V → skeleton ≡ done ++ left → AreFillings now all fs
      → IsGrown V now → SharesDescriptions now here → L.depth ≤ greatest_depth
      → SpellsRest here skeleton (length done) all ls
  rest_spelled {here = here} {done = done} {left = left} skeleton (as_it_stands o) e no_fillings grown shares
      shallow =
      subst (λ l. SpellsRest here skeleton (length done) [] l) (ap (λ s. drop (length done) s) e
      ∙ drop-append_seam done left) spelling.as_it_stands
  rest_spelled {here = here} {now = now} {L = L} {done = done} skeleton
      (next_filled {U = A} {V = B} {left = left} {s = s} {a = a} {e = e} {n = n} {f = f} {ms = ms} c oc ex l o u ds may
      i vs g fl) eq means grown shares shallow =
      let k = kept_filling means in
      let behind = grown_by now (fills_keep fl) grown in
      let defined = subst (λ ds. AreDefined base_table L A ds e B) k.definitions_are ds in
      let definitions = definitions_spelled (out-Filling k.first).definitions.items defined
      (grown_by now (filled_keeps vs) behind) shares shallow in
      let held = filled_by k.first u k.name_is definitions i k.type_is
      (value_spelled vs k.means behind shares shallow) g in
      let whole = eq ∙ ap (λ l. done ++ l) (sym (append_assoc c (0 ∷ []) left))
      ∙ sym (append_assoc done (c ++ (0 ∷ [])) left) in
      subst (λ all. SpellsRest here skeleton (length done) all (c ++ ((a ++ (s ++ (e ++ (n ++ f)))) ++ ms))) k.all_are
      (then_rest skeleton done c left eq k.place_is held
      (rest_spelled skeleton fl whole k.others_mean grown shares shallow))

-- ---- items

pub item_spelled : {here now T U : Table} {L : Bounds} {offset : ℕ} {kept : GoItem} {i : FilledItem} {b : List ℕ}
    → IsFilledItem base_table L T offset i b U → ItemMeans now kept i → IsGrown U now → SharesDescriptions now here
    → L.depth ≤ greatest_depth → IsSpelling here kept b
item_spelled (stream.of_definition counts few short def) means_definition grown shares shallow =
    spelling.of_definition (definition_spelled def grown shares shallow) counts
item_spelled (stream.of_value may sg k cs) (means_value m) grown shares shallow =
    spelling.of_value sg (value_spelled k m grown shares shallow) (segments_of cs)

pub kept_spelled : {here : Table} {kept : GoItem} {b : List ℕ} → IsItemOf here kept b → IsSpelling here kept b
kept_spelled a = item_spelled a.is a.means a.grown (λ v b s. s) a.shallow
