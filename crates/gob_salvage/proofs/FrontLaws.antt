-- The definitions that stand in front of another stream are some of those that are in force.
use Rattle.std.proofs.Common.{◌≡◌, ◌⊎◌, inl, inr, ℕ, ◌+◌, ◌<◌, ◌≤◌, ◌==◌, Bool, true, false, List, [], ◌∷◌, ◌++◌}
use Rattle.std.proofs.Common.{take, drop, arith, refl, sym, ap, ◌∙◌, subst, append_assoc, length-append, length-drop}
use Rattle.std.proofs.Common.{Contains, None, Some, Ok, Option, cond, rules, tests, true≢false, ◌-◌, suc, length}
use Rattle.std.proofs.lemmas.Bool.Decides.{eqb_tells}
use Rattle.std.proofs.Math.Seq.{take-append_seam}
use Rattle.std.specs.Prelude.{ℤ, negsuc, unsigned_abs}
use Rattle.std.specs.List.{list_any}
use Rattle.gob_num.specs.Signed.{IsSigned}
use Rattle.gob_num.specs.Unsigned.{IsUnsigned}
use Rattle.gob_types.specs.declared.id.TypeId.{TypeId}
use Rattle.gob_types.specs.declared.kind.Shape.{Shape}
use Rattle.gob_types.specs.Base.{base_table}
use Rattle.gob_types.specs.Table.{Table, IsDefined, shape_of}
use Rattle.gob_types.proofs.PublicLaws.{shape_of-append, shape_of-append_new}
use Rattle.gob_value.specs.Tree.{Tree}
use Rattle.gob_value.proofs.PublicLaws.{spells_back, spells_on}
use Rattle.gob_stream.specs.Bounds.{Bounds}
use Rattle.gob_stream.proofs.Stream.WireLaws.{wire_ready}
use Rattle.gob_filled.specs.Definition.{Defines, defines}
use Rattle.gob_filled.specs.Stream.{FilledItem, defining, putting, IsFilledItem, of_definition, AreFilledItems}
use Rattle.gob_filled.specs.Stream.{FilledStream, no_more, and_then}
use Rattle.gob_filled.specs.Filled.{Definitions, no_definitions, definition, Filled, filled, Fillings, no_filling}
use Rattle.gob_filled.specs.Filled.{filling}
use Rattle.gob_go.proofs.ItemsLaws.{defines_grown, Grown, grown_keeps, grown_on, items_grown, one_more, one_reading}
use Rattle.gob_go.proofs.ItemsLaws.{same_grown}
use Rattle.gob_go_writer.specs.Hoisting.{defining_items, filling_items, inner_items}
use Rattle.gob_split.specs.Definitions.{DefinitionsAnswers}
use Rattle.gob_split.specs.Laws.{definitions_among}
use Rattle.gob_salvage.specs.Breaks.{SaysNoMore}
use Rattle.gob_salvage.specs.Evidence.{AllDefine, IsDefinition, IsFrame}
use Rattle.gob_salvage.specs.Fronts.{DefinesTypes, IsWithout}
use Rattle.gob_salvage.specs.Salvage.{Front, HasTypeAt}
use Rattle.gob_salvage.proofs.EvidenceLaws.{behind_here, frame_here, number_here}
use Rattle.gob_salvage.proofs.SalvageLaws.{item_some, same_items}

-- ---- tables that say the same
-- equal numbers are equal ids
same_number : {t u : TypeId} → (t.0 == u.0) ≡ true → t ≡ u
same_number {t = t} {u = u} e = by (eqb_tells t.0 u.0)
  where
    by : ((t.0 == u.0) ≡ true) × (t.0 ≡ u.0) ⊎ ((t.0 == u.0) ≡ false) × (t.0 ≡ u.0 → ⊥) → t ≡ u
    by (inl h) = ap (λ (n : ℕ). let v : TypeId = record { 0 = n } in v) h.1
    by (inr h) = absurd (true≢false (sym e ∙ h.0))

-- another one isn't found
missing_id : (t u : TypeId) (s : Shape) → (t.0 == u.0) ≡ false → shape_of ((t, s) ∷ []) u ≡ None
missing_id t u s e = ap (λ b. cond b (Some s) None) e

-- what the one table lacks the other lacks too
none_there : (U T : Table) (id : TypeId) → SaysNoMore U T → shape_of T id ≡ None → shape_of U id ≡ None
none_there U T id same none = by_case (shape_of U id) refl
  where
    by_case : (s : Option Shape) → shape_of U id ≡ s → shape_of U id ≡ None
    by_case None e = e
    by_case (Some s) e = absurd (let f = same id s e in cc)

-- with one entry more the other says it still
says_on : (U T : Table) (entry : TypeId × Shape) → SaysNoMore U T → SaysNoMore U (T ++ entry ∷ [])
says_on U T entry same id s e = shape_of-append T (entry ∷ []) id s (same id s e)

-- and where both have it
says_both : (U T : Table) (entry : TypeId × Shape) → SaysNoMore U T → shape_of T entry.0 ≡ None
    → SaysNoMore (U ++ entry ∷ []) (T ++ entry ∷ [])
says_both U T entry same none id s e = by_case (shape_of U id) refl
  where
    last : shape_of U id ≡ None → shape_of (T ++ entry ∷ []) id ≡ Some s
    last missing =
        let here : shape_of (entry ∷ []) id ≡ Some s = sym (shape_of-append_new U (entry ∷ []) id missing) ∙ e in
        by_id (entry.0.0 == id.0) refl here
      where
        by_id : (b : Bool) → (entry.0.0 == id.0) ≡ b → shape_of (entry ∷ []) id ≡ Some s
            → shape_of (T ++ entry ∷ []) id ≡ Some s
        by_id false is here = absurd (let none = missing_id entry.0 id entry.1 is in cc)
        by_id true is here =
            let same_id : entry.0 ≡ id = same_number is in
            shape_of-append_new T (entry ∷ []) id (subst (λ t. shape_of T t ≡ None) same_id none) ∙ here

    by_case : (r : Option Shape) → shape_of U id ≡ r → shape_of (T ++ entry ∷ []) id ≡ Some s
    by_case None missing = last missing
    by_case (Some r) there =
        let still = shape_of-append U (entry ∷ []) id r there in
        let same_shape : Some s ≡ Some r = sym e ∙ still in
        shape_of-append T (entry ∷ []) id s (same id s (there ∙ sym same_shape))

-- what one entry says
says_itself : (id : TypeId) (s : Shape) → shape_of ((id, s) ∷ []) id ≡ Some s
says_itself id s = search (rules, tests)

-- what is defined with one entry more was defined, or is that
was_defined : (T : Table) (entry : TypeId × Shape) (id : TypeId) → IsDefined (T ++ entry ∷ []) id
    → IsDefined T id ⊎ (entry.0 ≡ id)
was_defined T entry id is = by_case (shape_of T id) refl
  where
    last : (b : Bool) → (entry.0.0 == id.0) ≡ b → shape_of (entry ∷ []) id ≡ Some is.0
        → IsDefined T id ⊎ (entry.0 ≡ id)
    last true same here = inr (same_number same)
    last false same here = absurd (let none = missing_id entry.0 id entry.1 same in cc)

    by_case : (s : Option Shape) → shape_of T id ≡ s → IsDefined T id ⊎ (entry.0 ≡ id)
    by_case (Some s) there = inl (s, there)
    by_case None missing = last (entry.0.0 == id.0) refl (sym (shape_of-append_new T (entry ∷ []) id missing) ∙ is.1)

-- all are definitions, and one more
all_and_one : (id : TypeId) (v : Tree) (items : List FilledItem) → AllDefine items
    → AllDefine (items ++ defining id v ∷ [])
all_and_one id v [] only = (tt, tt)
all_and_one id v (i ∷ items) only = (only.0, all_and_one id v items only.1)

-- ---- a definition under fewer types
record DefinedToo (L : Bounds) (T U : Table) (id : TypeId) (v : Tree) (d : List ℕ) (V : Table) : Type 0 where
  shape : Shape
  grown : V ≡ T ++ (id, shape) ∷ []
  new : shape_of T id ≡ None
  there : Defines base_table L U id v d (U ++ (id, shape) ∷ [])

defined_too : {L : Bounds} {T U V : Table} {id : TypeId} {v : Tree} {d : List ℕ} → Grown base_table T
    → Grown base_table U → SaysNoMore U T → length U ≤ length T → Defines base_table L T id v d V
    → DefinedToo L T U id v d V
defined_too g h same few (defines {s = s} may de ds is sg sp) = record {
  shape = s;
  grown = refl;
  new = may.new;
  there = defines (record {
    own = may.own;
    new = none_there _ _ _ same may.new;
    room = let room = may.room in omega arith;
  }) de ds is sg (spells_on (grown_keeps h) (spells_back (grown_keeps g) wire_ready sp));
}

-- ---- those that are chosen so far
-- the definitions up to the place, without those of the ids; the types behind the place are those of the table
pub record HasChosen (L : Bounds) (T : Table) (definitions ids : List ℕ) (at : ℕ) (front : List ℕ) : Type 0 where
  pub first : Front L front
  pub now : Table
  pub grown : Grown base_table now
  pub offset : ℕ
  pub left : List FilledItem
  pub are : AreFilledItems base_table L now offset left (drop at definitions) T
  pub only : AllDefine left
  pub in_force : SaysNoMore first.types now
  pub fewer : length first.types ≤ length now
  pub but : (id : TypeId) → IsDefined now id → IsDefined first.types id ⊎ Contains ids id.0
  pub short : length front ≤ at
  pub within : at ≤ length definitions
  pub room : length definitions ≤ L.stream

pub none_chosen : {L : Bounds} {T : Table} {definitions ids front : List ℕ} → DefinesTypes L T definitions
    → front ≡ [] → HasChosen L T definitions ids 0 front
none_chosen {L = L} {T = T} {definitions = definitions} {ids = ids} d none =
    subst (λ (f : List ℕ). HasChosen L T definitions ids 0 f) (sym none) (record {
      first = record { items = []; types = base_table; stream = no_more; only = tt };
      now = base_table;
      grown = same_grown refl;
      offset = 0;
      left = d.items;
      are = d.stream;
      only = d.only;
      in_force = λ id s e. e;
      fewer = omega arith;
      but = λ id e. inl e;
      short = omega arith;
      within = omega arith;
      room = d.room;
    })

-- where no bytes are left the types are those behind
none_left : {L : Bounds} {now T : Table} {offset : ℕ} {left : List FilledItem} {z : List ℕ}
    → AreFilledItems base_table L now offset left z T → length z ≡ 0 → T ≡ now
none_left no_more none = refl
none_left (and_then {b = b} {c = c} j n is) none =
    absurd (let some = item_some j in omega (arith, length-append b c))

-- all are
pub all_chosen : {L : Bounds} {T : Table} {definitions ids front : List ℕ} {at : ℕ}
    → HasChosen L T definitions ids at front → length definitions ≤ at → IsWithout L T ids front
all_chosen {L = L} {T = T} {definitions = definitions} {ids = ids} {front = front} {at = at} h l =
    let same : T ≡ h.now = none_left h.are (omega (arith, length-drop at definitions)) in
    subst (λ (T : Table). IsWithout L T ids front) (sym same)
    (record { first = h.first; in_force = h.in_force; but = h.but })

-- ---- the next one
-- the definition that stands next, up to the end of its frame, whose number is that of the id
record NextDefinition (L : Bounds) (now T : Table) (definitions : List ℕ) (at end : ℕ) (number : ℤ) : Type 0 where
  id : TypeId
  tree : Tree
  below : ℕ
  piece : List ℕ
  head : List ℕ
  body : List ℕ
  behind : Table
  next : ℕ
  others : List FilledItem
  piece_is : piece ≡ head ++ body
  counts : IsUnsigned (length body) head
  short : length body ≤ L.item
  is : Defines base_table L now id tree body behind
  slice : take (end - at) (drop at definitions) ≡ piece
  ends : end ≡ at + length piece
  inside : end ≤ length definitions
  numbered : number ≡ negsuc below
  id_is : id.0 ≡ below + 1
  are : AreFilledItems base_table L behind next others (drop end definitions) T
  only : AllDefine others

defined_below : {L : Bounds} {T U : Table} {id : TypeId} {v : Tree} {d : List ℕ} → Defines base_table L T id v d U
    → (n : ℕ) × (id.0 ≡ n + 1) × (a : List ℕ) × (b : List ℕ) × (IsSigned (negsuc n) a) × (d ≡ a ++ b)
defined_below (defines {n = n} {a = a} {b = b} may de ds is sg sp) = (n, is, a, b, sg, refl)

next_definition : {L : Bounds} {now T : Table} {offset at end : ℕ} {number : ℤ} {z : List ℕ} (definitions : List ℕ)
    (left : List FilledItem) → AreFilledItems base_table L now offset left z T → AllDefine left
    → drop at definitions ≡ z → at < length definitions → IsFrame definitions at end
    → HasTypeAt definitions at number → NextDefinition L now T definitions at end number
next_definition {at = at} definitions [] no_more only e more f t =
    absurd (omega (arith, length-drop at definitions, ap length e))
next_definition definitions (putting t w ∷ left) (and_then j n is) only e more f h = absurd (only.0)
next_definition {L = L} {T = T} {at = at} {end = end} {number = number} definitions (defining id v ∷ left)
    (and_then {next = next} {c = z} (of_definition {c = c} {d = d} {U = U} u l s def) n is) only e more f h =
    let below = defined_below def in
    let a = below.2 in let b = below.3 in
    let whole : drop at definitions ≡ c ++ (d ++ z) = e ∙ append_assoc c d z in
    let ends : end ≡ at + length (c ++ d) = frame_here d z f whole u in
    let inside = f.inside in
    record {
      id = id;
      tree = v;
      below = below.0;
      piece = c ++ d;
      head = c;
      body = d;
      behind = U;
      next = next;
      others = left;
      piece_is = refl;
      counts = u;
      short = l;
      is = def;
      slice = ap (λ n. take n (drop at definitions)) (omega (arith, ends))
          ∙ ap (λ (l : List ℕ). take (length (c ++ d)) l) e ∙ take-append_seam (c ++ d) z;
      ends = ends;
      inside = inside;
      numbered = number_here (d ++ z) (b ++ z) h whole u
          (ap (λ (l : List ℕ). l ++ z) below.5 ∙ append_assoc a b z) below.4;
      id_is = below.1;
      are = subst (λ (l : List ℕ). AreFilledItems base_table L U next left l T)
          (sym (ap (λ n. drop n definitions) ends ∙ behind_here at definitions (c ++ d) z e)) is;
      only = only.1;
    }

-- the definition of this number was chosen, or not
pub data ChoosesOrNot (ids front : List ℕ) (front' piece : List ℕ) (number : ℤ) : Type 0 where
  not_chosen : Contains ids (unsigned_abs number) → front' ≡ front → ChoosesOrNot ids front front' piece number
  is_chosen : front' ≡ front ++ piece → ChoosesOrNot ids front front' piece number

-- a number that is found is one of them
pub listed : (n : ℕ) (test : ℕ → Bool) (keys : List ℕ) → list_any test keys ≡ true
    → ((k : ℕ) → test k ≡ true → n ≡ k) → Contains keys n
listed n test [] e same = absurd (cc)
listed n test (k ∷ keys) e same = by_case (test k) refl (λ f. listed n test keys f same)
  where
    by_case : (b : Bool) → test k ≡ b → (list_any test keys ≡ true → Contains keys n) → Contains (k ∷ keys) n
    by_case true is rest = (0, omega arith, sym (same k is))
    by_case false is rest = let c = rest (rw is at e) in (suc c.0, omega (arith, c.1), c.2)

-- what is behind the definition is in force there, and what is chosen says of that no more
skips : {L : Bounds} {T : Table} {definitions ids front : List ℕ} {at end : ℕ} {number : ℤ}
    → (h : HasChosen L T definitions ids at front) → (d : NextDefinition L h.now T definitions at end number)
    → DefinedToo L h.now h.first.types d.id d.tree d.body d.behind → Contains ids d.id.0 → at < end
    → HasChosen L T definitions ids end front
skips {ids = ids} h d too left_out further = record {
  first = h.first;
  now = d.behind;
  grown = grown_on h.grown (defines_grown d.is);
  offset = d.next;
  left = d.others;
  are = d.are;
  only = d.only;
  in_force = subst (λ (T : Table). SaysNoMore h.first.types T) (sym too.grown)
      (says_on _ _ (d.id, too.shape) h.in_force);
  fewer = let few = h.fewer in omega (arith, ap length too.grown, length-append h.now ((d.id, too.shape) ∷ []));
  but = λ id is. by_cases id (defined_before id (subst (λ (T : Table). IsDefined T id) too.grown is));
  short = let short = h.short in omega arith;
  within = d.inside;
  room = h.room;
}
  where
    defined_before : (id : TypeId) → IsDefined (h.now ++ (d.id, too.shape) ∷ []) id → IsDefined h.now id ⊎ (d.id ≡ id)
    defined_before id is = was_defined h.now (d.id, too.shape) id is

    by_cases : (id : TypeId) → IsDefined h.now id ⊎ (d.id ≡ id) → IsDefined h.first.types id ⊎ Contains ids id.0
    by_cases id (inl is) = h.but id is
    by_cases id (inr same) = inr (subst (λ (t : TypeId). Contains ids t.0) same left_out)

takes : {L : Bounds} {T : Table} {definitions ids front : List ℕ} {at end : ℕ} {number : ℤ}
    → (h : HasChosen L T definitions ids at front) → (d : NextDefinition L h.now T definitions at end number)
    → DefinedToo L h.now h.first.types d.id d.tree d.body d.behind → at < end
    → HasChosen L T definitions ids end (front ++ d.piece)
takes {L = L} {ids = ids} {front = front} h d too further =
    let size = length-append front d.piece in let short = h.short in let inside = d.inside in let room = h.room in
    let ends = d.ends in
    let item : IsFilledItem base_table L h.first.types (length front) (defining d.id d.tree) d.piece
    (h.first.types ++ (d.id, too.shape) ∷ []) = subst (λ (b : List ℕ). IsFilledItem base_table L h.first.types
    (length front) (defining d.id d.tree) b (h.first.types ++ (d.id, too.shape) ∷ [])) (sym d.piece_is)
    (of_definition d.counts d.short (omega (arith, ap length d.piece_is)) too.there) in
    record {
      first = record {
        items = h.first.items ++ defining d.id d.tree ∷ [];
        types = h.first.types ++ (d.id, too.shape) ∷ [];
        stream = one_more h.first.stream (omega arith) item;
        only = all_and_one d.id d.tree h.first.items h.first.only;
      };
      now = d.behind;
      grown = grown_on h.grown (defines_grown d.is);
      offset = d.next;
      left = d.others;
      are = d.are;
      only = d.only;
      in_force = subst (λ (T : Table). SaysNoMore (h.first.types ++ (d.id, too.shape) ∷ []) T) (sym too.grown)
          (says_both _ _ (d.id, too.shape) h.in_force too.new);
      fewer = let few = h.fewer in omega (
        arith,
        ap length too.grown,
        length-append h.now ((d.id, too.shape) ∷ []),
        length-append h.first.types ((d.id, too.shape) ∷ []),
      );
      but = λ id is. by_cases id (was_defined h.now (d.id, too.shape) id
          (subst (λ (T : Table). IsDefined T id) too.grown is));
      short = omega arith;
      within = d.inside;
      room = h.room;
    }
  where
    by_cases : (id : TypeId) → IsDefined h.now id ⊎ (d.id ≡ id)
        → IsDefined (h.first.types ++ (d.id, too.shape) ∷ []) id ⊎ Contains ids id.0
    by_cases id (inl is) = still id (h.but id is)
      where
        still : (id : TypeId) → IsDefined h.first.types id ⊎ Contains ids id.0
            → IsDefined (h.first.types ++ (d.id, too.shape) ∷ []) id ⊎ Contains ids id.0
        still id (inl s) = inl (s.0, shape_of-append h.first.types ((d.id, too.shape) ∷ []) id s.0 s.1)
        still id (inr c) = inr c
    by_cases id (inr same) = inl (
      too.shape,
      subst (λ (t : TypeId). shape_of (h.first.types ++ (d.id, too.shape) ∷ []) t
          ≡ Some too.shape) same (shape_of-append_new h.first.types ((d.id, too.shape) ∷ []) d.id
          (none_there _ _ _ h.in_force too.new) ∙ says_itself d.id too.shape),
    )

pub chosen_on : {L : Bounds} {T : Table} {definitions ids front front' : List ℕ} {at end : ℕ} {number : ℤ}
    → HasChosen L T definitions ids at front → at < length definitions → at < end → IsFrame definitions at end
    → HasTypeAt definitions at number
    → ChoosesOrNot ids front front' (take (end - at) (drop at definitions)) number
    → HasChosen L T definitions ids end front'
chosen_on {L = L} {T = T} {definitions = definitions} {ids = ids} {front = front} {at = at} {end = end} h more further f
    t how =
    let d = next_definition definitions h.left h.are h.only refl more f t in
    by_choice d (defined_too h.grown (items_grown h.first.stream) h.in_force h.fewer d.is) how
  where
    by_choice : {front' : List ℕ} {number : ℤ} → (d : NextDefinition L h.now T definitions at end number)
        → DefinedToo L h.now h.first.types d.id d.tree d.body d.behind
        → ChoosesOrNot ids front front' (take (end - at) (drop at definitions)) number
        → HasChosen L T definitions ids end front'
    by_choice {number = number} d too (not_chosen there same) =
        let abs : unsigned_abs number ≡ suc d.below = ap (λ i. unsigned_abs i) d.numbered in
        let id_is : unsigned_abs number ≡ d.id.0 = let id = d.id_is in omega arith in
        subst (λ (f : List ℕ). HasChosen L T definitions ids end f) (sym same)
        (skips h d too (subst (λ n. Contains ids n) id_is there) further)
    by_choice d too (is_chosen same) =
        subst (λ (f : List ℕ). HasChosen L T definitions ids end f)
        (sym (same ∙ ap (λ (l : List ℕ). front ++ l) d.slice)) (takes h d too further)

-- ---- the definitions of a stream
both_define : (items more : List FilledItem) → AllDefine items → AllDefine more → AllDefine (items ++ more)
both_define [] more only others = others
both_define (i ∷ items) more only others = (only.0, both_define items more only.1 others)

definitions_define : (ds : Definitions) → AllDefine (defining_items ds)
definitions_define no_definitions = tt
definitions_define (definition id v ds) = (tt, definitions_define ds)

mutual
  inner_define : (w : Filled) → AllDefine (inner_items w)
  inner_define (filled v fs) = fillings_define fs

  fillings_define : (fs : Fillings) → AllDefine (filling_items fs)
  fillings_define no_filling = tt
  fillings_define (filling place s ds u w fs) =
      both_define (defining_items ds) (inner_items w ++ filling_items fs) (definitions_define ds)
      (both_define (inner_items w) (filling_items fs) (inner_define w) (fillings_define fs))

among_define : (items : List FilledItem) → AllDefine (definitions_among items)
among_define [] = tt
among_define (defining id v ∷ items) = (tt, among_define items)
among_define (putting t w ∷ items) = both_define (inner_items w) (definitions_among items) (inner_define w)
    (among_define items)

pub defines_types : {L : Bounds} {T : Table} {items : List FilledItem} {stream old new : List ℕ}
    {now : Option (List ℕ)} → FilledStream base_table L items stream T
    → DefinitionsAnswers L stream now old new (Ok tt) → old ≡ [] → length new ≤ L.item → length new ≤ L.stream
    → DefinesTypes L T new
defines_types {L = L} {T = T} {stream = stream} {new = new} a e none small short =
    let same : e.items ≡ _ = same_items e.stream a refl in
    let again = subst (λ (i : List FilledItem). FilledStream base_table L i stream e.table) same e.stream in
    let table : e.table ≡ T = (one_reading [] [] again a refl).table in
    let is : new ≡ e.holds.defining = e.holds.appended ∙ ap (λ (o : List ℕ). o ++ e.holds.defining) none in
    record {
      items = definitions_among e.items;
      stream = subst (λ (d : List ℕ). FilledStream base_table L (definitions_among e.items) d T) (sym is)
          (subst (λ (U : Table). FilledStream base_table L (definitions_among e.items) e.holds.defining U) table
          (e.holds.are L refl refl (omega (arith, ap length is)) (omega (arith, ap length is))));
      only = among_define e.items;
      room = short;
    }
