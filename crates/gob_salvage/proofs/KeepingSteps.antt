-- What is kept, item by item, and what is left out.
use Rattle.std.proofs.Common.{◌≡◌, ℕ, ◌+◌, ◌-◌, ◌^◌, ◌<◌, ◌≤◌, List, [], ◌∷◌, ◌++◌, length, take, drop}
use Rattle.std.proofs.Common.{arith, refl, sym, ap, ◌∙◌, subst, append_assoc, length-append, length-drop}
use Rattle.std.proofs.Common.{drop_of_length-le, Option, None, Some, IfSome, Bool, true, false, ◌⊎◌, inl, inr}
use Rattle.std.specs.Prelude.{is_some}
use Rattle.std.specs.List.{AllByRecursion}
use Rattle.std.proofs.lemmas.List.{append-nil, drop-drop, length-take-le, take-append-drop, take_rest}
use Rattle.gob_types.specs.declared.reason.Reason.TheVariants as reason
use Rattle.gob_types.specs.Base.{base_table}
use Rattle.gob_types.specs.Defined.{IsTable, definition_count, types}
use Rattle.gob_types.specs.Table.{Table}
use Rattle.gob_stream.specs.Bounds.{Bounds, within_trees}
use Rattle.gob_stream.specs.Devices.{counts_up}
use Rattle.gob_stream.specs.Refusing.{refuses}
use Rattle.gob_stream.specs.declared.fault.Refusal.{Refusal}
use Rattle.gob_filled.specs.Outcome.{EndsFilled, Ending, at_the_end, next_refused, refused, within_an_item}
use Rattle.gob_filled.specs.Stream.{FilledItem, IsFilledItem, FilledStream, AreFilledItems, no_more, and_then}
use Rattle.gob_go.specs.Calls.Session.{HasRead, IsBetweenItems, ReadsItems, limits_of, table_of, types_of}
use Rattle.gob_go.specs.Machine.SessionState.{SessionState}
use Rattle.gob_stream.proofs.Reader.FeedingSteps.{rest_of}
use Rattle.gob_go.proofs.SessionAnswers.{table_between}
use Rattle.gob_go.proofs.ItemsLaws.{item_ends, item_grown, last_of, one_more, one_reading}
use Rattle.gob_salvage.specs.declared.gap.Gap.{Gap}
use Rattle.gob_salvage.specs.Begins.{BeginsAt, BeginsBehindThese}
use Rattle.gob_salvage.specs.Keeping.{BreaksIn, BreaksNow, from_nothing, GoesOn, HasKept, HasKeptWith}
use Rattle.gob_salvage.specs.Keeping.{IsKeeping, IsKeptOf, IsRefusedNext, KeepsMore, SalvagesFrom, Start}
use Rattle.gob_salvage.specs.Keeping.{started_with}
use Rattle.gob_salvage.specs.Breaks.{BeginsBehind, BreaksAt, IsTwice}
use Rattle.gob_salvage.specs.declared.later.Clash.{Clash}
use Rattle.gob_salvage.specs.declared.later.Later.{Later}
use Rattle.gob_salvage.specs.declared.keeping.Keeper.{Keeper}
use Rattle.gob_stream.specs.declared.values.Passed.{Passed}
use Rattle.gob_salvage.specs.Salvage.{Front, Salvages, nothing_is_left, keeps, leaves_out, NoItemNext}
use Rattle.gob_salvage.specs.Salvage.{IsDefinedAgain, IsRepeated, StandsIn, TellsRepeated}
use Rattle.gob_salvage.specs.Salvage.{RefusesHere, for_bytes, for_the_end, IsAlone, of_unknown_type, of_repeated}
use Rattle.gob_salvage.specs.Salvage.{Resumes, at_the_end, where_they_go_on, at_a_line_feed, behind_its_count}
use Rattle.gob_salvage.specs.Evidence.{AllDefine, GoOn, IsFrame}
use Rattle.gob_salvage.specs.Searching.{AreNoted, HasSpent, IsNextPlace, IsUnknown, NotesItemOf, NotesItemsOf}
use Rattle.gob_salvage.specs.Searching as searching
use Rattle.gob_salvage.specs.declared.search.Search.{Search}
use Rattle.gob_salvage.specs.Taking.{HasReadAll, NotesItem, OneMore, ReadsOne, RefusesNext, noted, nothing_new}
use Rattle.gob_salvage.proofs.EvidenceLaws.{frame_moved}
use Rattle.gob_salvage.proofs.PassingSteps.{between_still, none_passed, passed_items, passed_some}
use Rattle.gob_salvage.proofs.SalvageLaws.{item_moved, items_moved, kept_stream, same_items}
use Rattle.gob_salvage.proofs.TakingSteps.{between_stream, new_between}

-- ---- definitions that are said again
-- what stands in what is kept does so in more of it
stands_still : {b out : List ℕ} (x : List ℕ) → StandsIn b out → StandsIn b (out ++ x)
stands_still {b = b} x s = record {
  before = s.before;
  after = s.after ++ x;
  whole = ap (λ o. o ++ x) s.whole ∙ append_assoc s.before (b ++ s.after) x
      ∙ ap (λ o. s.before ++ o) (append_assoc b s.after x);
}

-- a piece of it does
pub stands_there : (bytes : List ℕ) (begin size : ℕ) (piece : List ℕ) → piece ≡ take size (drop begin bytes)
    → StandsIn piece bytes
stands_there bytes begin size piece e =
    let rest = drop begin bytes in record {
      before = take begin bytes;
      after = drop size rest;
      whole = sym (take-append-drop begin bytes) ∙ ap (λ z. take begin bytes ++ z)
          (sym (take-append-drop size rest) ∙ ap (λ y. y ++ drop size rest) (sym e));
    }

still_told : (bytes out x : List ℕ) (gaps : List Gap) → AllByRecursion (TellsRepeated bytes out) gaps
    → AllByRecursion (TellsRepeated bytes (out ++ x)) gaps
still_told bytes out x [] told = tt
still_told bytes out x (g ∷ gaps) told = (
  λ t. (let r = told.0 t in record {
    id = r.id;
    twice = r.twice;
    again = record {
      number = r.again.number;
      type_at = r.again.type_at;
      defines = r.again.defines;
      stands = stands_still x r.again.stands;
    };
  }),
  still_told bytes out x gaps told.1,
)

pub told_too : (bytes out : List ℕ) {g : Gap} (gaps : List Gap) → AllByRecursion (TellsRepeated bytes out) gaps
    → TellsRepeated bytes out g → AllByRecursion (TellsRepeated bytes out) (gaps ++ g ∷ [])
told_too bytes out [] told more = (more, tt)
told_too bytes out (h ∷ gaps) told more = (told.0, told_too bytes out gaps told.1 more)

-- ---- nothing yet
only_base : {L : Bounds} {b : List ℕ} {T : Table} → FilledStream base_table L [] b T → T ≡ base_table
only_base no_more = refl

pub keep_start : {s : SessionState} {L : Bounds} {out defs : List ℕ} {gaps : List Gap} {search : Search}
    (bytes : List ℕ) → HasRead s [] [] → within_trees (limits_of s) ≡ L → out ≡ [] → gaps ≡ [] → length bytes ≤ L.stream
    → L.stream < 2 ^ 64 → defs ≡ [] → within_trees search.limits ≡ L → AreNoted search.kept_types []
    → HasKept (from_nothing L) s bytes 0 0 0 out defs gaps true search
keep_start {s = s} {L = L} {out = out} {gaps = gaps} bytes a l none no_gaps small fits no_defs same known = record {
  items = [];
  own = [];
  read = [];
  has = a;
  between = new_between a;
  limits = l;
  read_is = refl;
  few_read = omega arith;
  defining = [];
  defines = subst (λ (d : List ℕ). FilledStream base_table L [] d (types_of s)) (sym no_defs)
      (subst (λ (T : Table). FilledStream base_table L [] [] T)
      (sym (only_base a.stream) ∙ table_between a (new_between a)) no_more);
  few_defs = omega (arith, ap length no_defs);
  few_out = omega (arith, ap length none);
  small = omega arith;
  fits = fits;
  counted = refl;
  few = omega arith;
  within = omega arith;
  repeated = subst (λ g. AllByRecursion (TellsRepeated bytes out) g) (sym no_gaps) tt;
  search_limits = same;
  noted = known;
  on = λ T more rest others h. record {
    more = more;
    rest = out ++ rest;
    items_are = refl;
    out_is = refl;
    salvages = subst (λ (o : List ℕ). Salvages L base_table [] true 0 0 bytes more (o ++ rest) (gaps ++ others) T)
        (sym none)
        (subst (λ (g : List Gap). Salvages L base_table [] true 0 0 bytes more rest (g ++ others) T) (sym no_gaps)
        (subst (λ (n : ℕ). Salvages L base_table [] true n 0 bytes more rest others T) (ap length none)
        (subst (λ (U : Table). Salvages L U [] true (length out) 0 bytes more rest others T)
        (sym (table_between a (new_between a)) ∙ only_base a.stream) h)));
  };
}

-- ---- all
pub record KeptAll (S : Start) (s : SessionState) (bytes : List ℕ) (count : ℕ) (out : List ℕ) (gaps : List Gap) : Type 0
  where
    pub items : List FilledItem
    pub salvages : SalvagesFrom S bytes items out gaps (types_of s)
    pub counted : count ≡ length items
    pub repeated : AllByRecursion (TellsRepeated bytes out) gaps

pub keep_end : {s : SessionState} {S : Start} {at session_read count : ℕ} {out defs : List ℕ} {gaps : List Gap}
    {in_step : Bool} {search : Search} (bytes : List ℕ)
    → HasKept S s bytes at session_read count out defs gaps in_step search → length bytes ≤ at
    → KeptAll S s bytes count out gaps
keep_end {s = s} {S = S} {at = at} {out = out} {gaps = gaps} {in_step = in_step} bytes h l =
    record {
      items = h.items;
      salvages = subst (λ (i : List FilledItem). SalvagesFrom S bytes i out gaps (types_of s)) (append-nil h.items)
          (subst (λ (o : List ℕ). SalvagesFrom S bytes (h.items ++ []) o gaps (types_of s)) (append-nil out)
          (subst (λ (g : List Gap). SalvagesFrom S bytes (h.items ++ []) (out ++ []) g (types_of s)) (append-nil gaps)
          (h.on (types_of s) [] [] []
          (subst (λ (z : List ℕ). Salvages S.limits (types_of s) h.items in_step (length out) at z [] [] []
          (types_of s))
          (sym (drop_of_length-le bytes l)) nothing_is_left))));
      counted = h.counted;
      repeated = h.repeated;
    }

-- ---- the front
-- where nothing is left out all is kept
none_left_out : {L : Bounds} {T V : Table} {kept offset : ℕ} {bytes out : List ℕ} {items : List FilledItem}
    {gaps : List Gap} {before : List FilledItem} {in_step : Bool}
    → Salvages L T before in_step kept offset bytes items out gaps V → gaps ≡ [] → out ≡ bytes
none_left_out nothing_is_left e = refl
none_left_out (keeps {b = b} i n o s) e = ap (λ (z : List ℕ). b ++ z) (none_left_out s e)
none_left_out (leaves_out d p n w r f l o s) e = absurd (cc)

-- all of the front is kept, and nothing yet of the bytes behind it
pub front_kept : {s : SessionState} {L : Bounds} {at read count : ℕ} {front out defs : List ℕ} {gaps : List Gap}
    {in_step : Bool} {search : Search} → HasKept (from_nothing L) s front at read count out defs gaps in_step search
    → length front ≤ at → gaps ≡ []
    → ((items : List FilledItem) → AreNoted search.kept_types items → AllDefine items)
    → (f : Front L front) × ((bytes : List ℕ) → length front + length bytes ≤ L.stream
    → HasKept (started_with f) s bytes 0 read count out defs gaps true search)
unfolding keep_end
front_kept {s = s} {L = L} {read = read} {front = front} {out = out} {defs = defs} {gaps = gaps} h l
    none only =
    let end = keep_end front h l in
    let is : out ≡ front = end.salvages.out_is ∙ none_left_out end.salvages.salvages none in
    let stream : FilledStream base_table L h.items front (types_of s) =
    subst (λ (o : List ℕ). FilledStream base_table L h.items o (types_of s))
    (sym end.salvages.out_is ∙ is)
    (subst (λ (i : List FilledItem). FilledStream base_table L i end.salvages.rest (types_of s))
    (sym end.salvages.items_are) (kept_stream end.salvages.salvages)) in
    let f : Front L front = record { items = h.items; types = types_of s; stream = stream; only = only h.items h.noted }
    in (
      f,
      λ bytes room. record {
        items = h.items;
        own = h.own;
        read = h.read;
        has = h.has;
        between = h.between;
        limits = h.limits;
        read_is = h.read_is;
        few_read = h.few_read;
        defining = h.defining;
        defines = h.defines;
        few_defs = h.few_defs;
        few_out = omega (arith, ap length is);
        small = room;
        fits = h.fits;
        counted = h.counted;
        few = let few = h.few in let within = h.within in omega arith;
        within = omega arith;
        repeated = subst (λ g. AllByRecursion (TellsRepeated bytes out) g) (sym none) tt;
        search_limits = h.search_limits;
        noted = h.noted;
        on = λ T more rest others k. record {
          more = more;
          rest = rest;
          items_are = refl;
          out_is = ap (λ (o : List ℕ). o ++ rest) is;
          salvages = subst (λ (g : List Gap). Salvages L (types_of s) h.items true (length front) 0 bytes more rest
              (g ++ others) T) (sym none)
              (subst (λ (o : List ℕ). Salvages L (types_of s) h.items true (length o) 0 bytes more rest others T) is
              k);
        };
      },
    )

-- the item that was read continues what was kept
continues : {s s' : SessionState} {items : List FilledItem} {out b : List ℕ} → (a : HasRead s items out)
    → IsBetweenItems s → (m : OneMore s' items (out ++ b)) → IsBetweenItems s' → limits_of s' ≡ limits_of s
    → IsFilledItem base_table (within_trees (limits_of s)) (types_of s) (length out) m.item b (types_of s')
continues {s = s} {s' = s'} {items = items} {out = out} {b = b} a between m between' limits =
    let L = within_trees (limits_of s) in
    let old = between_stream a between in
    let new = subst (λ (M : Bounds). FilledStream base_table (within_trees M) (items ++ m.item ∷ []) (out ++ b)
    (types_of s')) limits (between_stream m.after between') in
    let last = last_of items new in
    let one = one_reading b last.bytes old last.items_are last.whole in
    subst (λ (c : List ℕ). IsFilledItem base_table L (types_of s) (length out) m.item c (types_of s')) (sym one.rest)
    (subst (λ (c : List ℕ). IsFilledItem base_table L (types_of s) (length c) m.item last.bytes (types_of s'))
    (sym one.bytes)
    (subst (λ (T : Table). IsFilledItem base_table L T (length last.before) m.item last.bytes (types_of s'))
    (sym one.table)
    (subst (λ n. IsFilledItem base_table L last.table n m.item last.bytes (types_of s')) (omega arith) last.item)))

-- the types are the same where no definition came, else the item is noted
same_types : {L : Bounds} {T U : Table} {offset : ℕ} {i : FilledItem} {b : List ℕ} → IsTable T
    → IsFilledItem base_table L T offset i b U → definition_count U ≡ definition_count T → U ≡ T
same_types {T = T} k i e =
    let g = item_grown i in
    let base = length-append base_table k.definitions in
    let none : length g.more ≡ 0 = omega (arith, ap length g.grown, length-append T g.more, ap length k.behind_base) in
    g.grown ∙ ap (λ (m : Table). T ++ m) (no_more_types g.more none) ∙ append-nil T
  where
    no_more_types : (m : Table) → length m ≡ 0 → m ≡ []
    no_more_types [] e = refl
    no_more_types (x ∷ m) e = absurd (omega arith)

record Defining (L : Bounds) (T : Table) (defs : List ℕ) : Type 0 where
  items : List FilledItem
  stream : FilledStream base_table L items defs T

defines_on : {L : Bounds} {T U : Table} {before after offset : ℕ} {i : FilledItem} {b defs defs' : List ℕ}
    (items : List FilledItem) → IsTable T → before ≡ definition_count T → after ≡ definition_count U
    → IsFilledItem base_table L T offset i b U → FilledStream base_table L items defs T
    → length defs + length b ≤ L.stream → NotesItem before after defs defs' b → Defining L U defs'
defines_on {L = L} {T = T} {U = U} {defs = defs} items k p q i s l (nothing_new e same) =
    let types = same_types k i (sym q ∙ e ∙ p) in
    record {
      items = items;
      stream = subst (λ (d : List ℕ). FilledStream base_table L items d U) (sym same)
          (subst (λ (T : Table). FilledStream base_table L items defs T) (sym types) s);
    }
defines_on {L = L} {U = U} {i = i} {b = b} {defs = defs} items k p q h s l (noted e) = record {
  items = items ++ i ∷ [];
  stream = subst (λ (d : List ℕ). FilledStream base_table L (items ++ i ∷ []) d U) (sym e)
      (one_more s (omega arith) (item_moved (length defs) h l));
}

notes_few : {before after m : ℕ} {old new z : List ℕ} → NotesItem before after old new z → length old ≤ m
    → length new ≤ m + length z
notes_few (nothing_new e same) l = omega (arith, ap length same)
notes_few {old = old} {z = z} (noted e) l = omega (arith, ap length e, length-append old z)

pub keep_on : {s s' : SessionState} {S : Start} {at session_read count used before after : ℕ}
    {out out' defs defs' : List ℕ} {gaps : List Gap} {in_step : Bool} {search search' : Search} (bytes : List ℕ)
    → HasKept S s bytes at session_read count out defs gaps in_step search
    → ReadsOne s s' (take used (rest_of bytes at)) → IsBetweenItems s' → limits_of s' ≡ limits_of s → 0 < used
    → used ≤ length (rest_of bytes at) → out' ≡ out ++ take used (rest_of bytes at) → IsTable (types_of s)
    → before ≡ definition_count (types_of s) → after ≡ definition_count (types_of s')
    → NotesItem before after defs defs' (take used (rest_of bytes at)) → search'.limits ≡ search.limits
    → NotesItemOf (take used (rest_of bytes at)) search.kept_types search'.kept_types
    → HasKept S s' bytes (at + used) (session_read + used) (count + 1) out' defs' gaps true search'
keep_on {s = s} {s' = s'} {S = S} {at = at} {count = count} {used = used} {out = out} {out' = out'} {defs = defs}
    {gaps = gaps} {in_step = in_step} bytes h f between limits some few is table p q notes same known =
    let L = S.limits in
    let b = take used (rest_of bytes at) in
    let m = f h.own h.read h.has in
    let w = h.within in let n = h.few in let k = h.counted in let r = h.few_read in let o = h.few_out in
    let d = h.few_defs in let small = h.small in
    let size : length b ≡ used = length-take-le used (rest_of bytes at) few in
    let rest = ap length (take_rest bytes at) in
    let here : at + used ≤ length bytes = omega (arith, rest, length-drop at bytes) in
    let own = subst (λ (M : Bounds). IsFilledItem base_table M (types_of s) (length h.read) m.item b (types_of s'))
    h.limits (continues h.has h.between m between limits) in
    let there = item_moved (length out) own (omega arith) in
    let noted = defines_on h.defining table p q own h.defines (omega arith) notes in
    let all : b ++ drop (at + used) bytes ≡ drop at bytes =
    ap (λ (l : List ℕ). take used l ++ drop (at + used) bytes) (take_rest bytes at)
    ∙ ap (λ (l : List ℕ). take used (drop at bytes) ++ l) (sym (drop-drop used at bytes ∙ ap (λ n. drop n bytes)
    (omega arith)))
    ∙ take-append-drop used (drop at bytes) in
    let long : length out' ≡ length out + length b = ap length is ∙ length-append out b in
    record {
      items = h.items ++ m.item ∷ [];
      own = h.own ++ m.item ∷ [];
      read = h.read ++ b;
      has = m.after;
      between = between;
      limits = ap (λ M. within_trees M) limits ∙ h.limits;
      read_is = let l = h.read_is in omega (arith, length-append h.read b);
      few_read = omega (arith, length-append h.read b);
      defining = noted.items;
      defines = noted.stream;
      few_defs = let l = notes_few notes h.few_defs in omega arith;
      few_out = omega arith;
      small = h.small;
      fits = h.fits;
      counted = omega (arith, length-append h.items (m.item ∷ []));
      few = omega arith;
      within = here;
      repeated = subst (λ o. AllByRecursion (TellsRepeated bytes o) gaps) (sym is)
          (still_told bytes out b gaps h.repeated);
      search_limits = ap (λ M. within_trees M) same ∙ h.search_limits;
      noted = known L (types_of s) (types_of s') (length out) m.item there h.items h.noted;
      on = λ T more rest others k.
          subst (λ (i : List FilledItem). SalvagesFrom S bytes i (out' ++ rest) (gaps ++ others) T)
          (sym (append_assoc h.items (m.item ∷ []) more))
          (subst (λ (o : List ℕ). SalvagesFrom S bytes (h.items ++ m.item ∷ more) o (gaps ++ others)
          T)
          (sym (ap (λ (o : List ℕ). o ++ rest) is ∙ append_assoc out b rest))
          (h.on T (m.item ∷ more) (b ++ rest) others
          (subst (λ (z : List ℕ). Salvages L (types_of s) h.items in_step (length out) at z (m.item ∷ more)
          (b ++ rest) others
          T) all
          (keeps there long (omega arith) k))));
    }

-- where they are refused, some bytes are left out
none_next : {s : SessionState} {items : List FilledItem} {out z : List ℕ} {R : Refusal} → (a : HasRead s items out)
    → IsBetweenItems s → RefusesNext s z R → NoItemNext (within_trees (limits_of s)) (types_of s) (length out) z
none_next {items = items} {out = out} a between f i U b y h e =
    let l = (f items out a).gives.longest (items ++ i ∷ []) (record {
      prefix = out ++ b;
      rest = y;
      table = U;
      stream = one_more (between_stream a between) (omega arith) h;
      whole = ap (λ (l : List ℕ). out ++ l) e ∙ sym (append_assoc out b y);
    }) in
    omega (arith, length-append items (i ∷ []))

-- for a reason
refused_here : {L : Bounds} {T : Table} {items : List FilledItem} {out : List ℕ} {e : Ending} (z : List ℕ)
    (R : Refusal) → FilledStream base_table L items out T → EndsFilled base_table L (out ++ z) items e → e ≡ refused R
    → RefusesHere L T (length out) z R
refused_here z R s (at_the_end h) e = absurd (cc)
refused_here {L = L} {T = T} {out = out} z R s (next_refused {f = f} {T = U} {R = S} y h e r) is =
    let one = one_reading z y s h e in
    let same : S ≡ R = cc in
    subst (λ R. RefusesHere L T (length out) z R) same
    (subst (λ T. RefusesHere L T (length out) z S) (sym one.table)
    (subst (λ (o : List ℕ). RefusesHere L U (length o) z S) (sym one.bytes)
    (subst (λ (w : List ℕ). RefusesHere L U (length f) w S) (sym one.rest) (for_bytes r))))
refused_here {L = L} {T = T} {out = out} z R s (within_an_item {f = f} {T = U} y h e some none) is =
    let one = one_reading z y s h e in
    let here : RefusesHere L U (length f) y (refuses (length f + length y) (length f + length y) reason.Ended) =
    for_the_end some none in
    let moved = subst (λ T. RefusesHere L T (length out) z (refuses (length out + length z) (length out + length z)
    reason.Ended)) (sym one.table)
    (subst (λ (o : List ℕ). RefusesHere L U (length o) z (refuses (length o + length z) (length o + length z)
    reason.Ended)) (sym one.bytes)
    (subst (λ (w : List ℕ). RefusesHere L U (length f) w (refuses (length f + length w) (length f + length w)
    reason.Ended)) (sym one.rest) here)) in
    let there : refuses (length out + length z) (length out + length z) reason.Ended ≡ R =
    ap (λ n. refuses n n reason.Ended) (sym (length-append out z)) ∙ the_refusal is in
    subst (λ R. RefusesHere L T (length out) z R) there moved
  where
    the_refusal : {S R : Refusal} → refused S ≡ refused R → S ≡ R
    the_refusal e = cc

pub leave_on : {s s' : SessionState} {S : Start} {at session_read next count : ℕ} {out defs : List ℕ} {gaps : List Gap}
    {R : Refusal} {in_step still : Bool} {search search' : Search} (bytes : List ℕ) (g : Gap)
    → HasKept S s bytes at session_read count out defs gaps in_step search
    → RefusesNext s (drop at bytes) R → at < next → next ≤ length bytes → HasReadAll s' defs
    → within_trees (limits_of s') ≡ S.limits → g.begin ≡ at → g.end ≡ next → g.reason ≡ R.reason
    → g.place ≡ counts_up at (R.place - session_read) → TellsRepeated bytes out g → HasSpent search search'
    → ((items : List FilledItem) → AreNoted search.kept_types items → Resumes S.limits (types_of s') items in_step
    (take (next - at) (drop at bytes)) (drop next bytes) g still)
    → HasKept S s' bytes next (length defs) count out defs (gaps ++ g ∷ []) still search'
leave_on {s = s} {s' = s'} {S = S} {at = at} {session_read = session_read} {next = next} {count = count} {out = out}
    {defs = defs} {gaps = gaps} {R = R} {in_step = in_step} {still = still} {search = search} {search' = search'} bytes
    g h f some within r limits begins ends why place told spent resumes =
    let L = S.limits in
    let d = take (next - at) (drop at bytes) in
    let n = h.few in let k = h.counted in let w = h.within in let o = h.few_out in let q = h.few_read in
    let fd = h.few_defs in
    let size : length d ≡ next - at = length-take-le (next - at) (drop at bytes) (omega (arith, length-drop at bytes))
    in
    let all : d ++ drop next bytes ≡ drop at bytes =
    ap (λ (l : List ℕ). d ++ l) (sym (drop-drop (next - at) at bytes ∙ ap (λ n. drop n bytes) (omega arith)))
    ∙ take-append-drop (next - at) (drop at bytes) in
    let new = subst (λ (M : Bounds). FilledStream base_table M r.items defs (types_of s')) limits
    (between_stream r.has r.between) in
    let same : r.items ≡ h.defining = same_items new h.defines refl in
    let again = subst (λ (i : List FilledItem). FilledStream base_table L i defs (types_of s')) same new in
    let table : types_of s' ≡ types_of s = (one_reading [] [] again h.defines refl).table in
    let own = subst (λ (M : Bounds). NoItemNext M (types_of s) (length h.read) (d ++ drop next bytes)) h.limits
    (subst (λ (z : List ℕ). NoItemNext (within_trees (limits_of s)) (types_of s) (length h.read) z)
    (sym all) (none_next h.has h.between f)) in
    let here = refused_here (drop at bytes) R (between_stream h.has h.between) (f h.own h.read h.has).ends refl in
    let refuses = subst (λ (M : Bounds). RefusesHere M (types_of s) (length h.read) (d ++ drop next bytes) R) h.limits
    (subst (λ (z : List ℕ). RefusesHere (within_trees (limits_of s)) (types_of s) (length h.read) z R) (sym all) here)
    in
    record {
      items = h.items;
      own = r.items;
      read = defs;
      has = r.has;
      between = r.between;
      limits = limits;
      read_is = refl;
      few_read = h.few_defs;
      defining = h.defining;
      defines = again;
      few_defs = h.few_defs;
      few_out = omega arith;
      small = h.small;
      fits = h.fits;
      counted = h.counted;
      few = omega arith;
      within = within;
      repeated = told_too bytes out gaps h.repeated told;
      search_limits = ap (λ M. within_trees M) spent.limits ∙ h.search_limits;
      noted = subst (λ k. AreNoted k h.items) (sym spent.types) h.noted;
      on = λ T more rest others k.
          subst (λ (g : List Gap). SalvagesFrom S bytes (h.items ++ more) (out ++ rest) g T)
          (sym (append_assoc gaps (g ∷ []) others))
          (h.on T more rest (g ∷ others)
          (subst (λ (z : List ℕ). Salvages L (types_of s) h.items in_step (length out) at z more rest
          (g ∷ others) T) all
          (leaves_out d (omega arith)
          (λ i U b y p. own i U b y (item_moved (length h.read) p (let e = item_ends p in omega arith)))
          (record {
            behind = length h.read;
            few = h.few_read;
            refusal = R;
            refuses = refuses;
            reason_is = why;
            place_is = place ∙ ap (λ n. counts_up n (R.place - session_read)) (sym begins)
                ∙ ap (λ n. counts_up g.begin (R.place - n)) h.read_is;
          })
          (subst (λ (U : Table). Resumes L U h.items in_step d (drop next bytes) g still) table
          (resumes h.items h.noted))
          begins ends (omega arith)
          (subst (λ (U : Table). Salvages L U h.items still (length out) next
          (drop next bytes) more rest others T) table
          k))));
    }

-- ---- values that are passed
keeps_one : {L : Bounds} {T U V : Table} {kept next offset : ℕ} {i : FilledItem} {more : List FilledItem}
    {b : List ℕ} {gaps : List Gap} {in_step : Bool} (before : List FilledItem) (c z rest : List ℕ)
    → IsFilledItem base_table L T kept i b U → next ≡ kept + length b
    → Salvages L U (before ++ i ∷ []) true next (offset + length b) (c ++ z) more (c ++ rest) gaps V
    → Salvages L T before in_step kept offset ((b ++ c) ++ z) (i ∷ more) ((b ++ c) ++ rest) gaps V
keeps_one {L = L} {T = T} {V = V} {kept = kept} {offset = offset} {i = i} {more = more} {b = b} {gaps = gaps}
    {in_step = in_step} before c z rest h n S =
    subst (λ (l : List ℕ). Salvages L T before in_step kept offset l (i ∷ more) ((b ++ c) ++ rest) gaps V)
    (sym (append_assoc b c z))
    (subst (λ (l : List ℕ). Salvages L T before in_step kept offset (b ++ (c ++ z)) (i ∷ more) l gaps V)
    (sym (append_assoc b c rest)) (keeps {on = offset + length b} h n refl S))

keeps_all : {L : Bounds} {T U V : Table} {kept next offset on : ℕ} {items more : List FilledItem}
    {b z rest : List ℕ} {gaps : List Gap} (before : List FilledItem) → AreFilledItems base_table L T kept items b U
    → next ≡ kept + length b → on ≡ offset + length b
    → Salvages L U (before ++ items) true next on z more rest gaps V
    → Salvages L T before true kept offset (b ++ z) (items ++ more) (b ++ rest) gaps V
keeps_all {L = L} {V = V} {kept = kept} {next = next} {offset = offset} {on = on} {more = more} {z = z} {rest = rest}
    {gaps = gaps} before (no_more {T = T}) k o S =
    let at : on ≡ offset = omega arith in
    let behind : next ≡ kept = omega arith in
    subst (λ n. Salvages L T before true kept n z more rest gaps V) at
    (subst (λ n. Salvages L T before true n on z more rest gaps V) behind
    (subst (λ (l : List FilledItem). Salvages L T l true next on z more rest gaps V) (append-nil before) S))
keeps_all {L = L} {U = U} {V = V} {next = next} {on = on} {more = more} {z = z} {rest = rest} {gaps = gaps} before
    (and_then {i = i} {items = items} {b = b} {c = c} h n is) k o S =
    keeps_one before c z rest h n (keeps_all (before ++ i ∷ []) is (omega (arith, length-append b c))
    (omega (arith, length-append b c))
    (subst (λ (l : List FilledItem). Salvages L U l true next on z more rest gaps V)
    (sym (append_assoc before (i ∷ []) items)) S))

keeps_some : {L : Bounds} {T U V : Table} {kept next offset on : ℕ} {items more : List FilledItem}
    {b z rest : List ℕ} {gaps : List Gap} {in_step : Bool} (before : List FilledItem)
    → AreFilledItems base_table L T kept items b U → next ≡ kept + length b → on ≡ offset + length b
    → Salvages L U (before ++ items) true next on z more rest gaps V → 0 < length items
    → Salvages L T before in_step kept offset (b ++ z) (items ++ more) (b ++ rest) gaps V
keeps_some before no_more k o S some = absurd (omega arith)
keeps_some {L = L} {U = U} {V = V} {next = next} {on = on} {more = more} {z = z} {rest = rest} {gaps = gaps} before
    (and_then {i = i} {items = items} {b = b} {c = c} h n is) k o S some =
    keeps_one before c z rest h n (keeps_all (before ++ i ∷ []) is (omega (arith, length-append b c))
    (omega (arith, length-append b c))
    (subst (λ (l : List FilledItem). Salvages L U l true next on z more rest gaps V)
    (sym (append_assoc before (i ∷ []) items)) S))

pub pass_on : {s s' : SessionState} {S : Start} {at session_read count used more : ℕ} {out out' defs : List ℕ}
    {gaps : List Gap} {in_step : Bool} {search search' : Search} (bytes : List ℕ)
    → HasKept S s bytes at session_read count out defs gaps in_step search
    → ReadsItems s s' more used (rest_of bytes at)
    → IsBetweenItems s' → limits_of s' ≡ limits_of s → table_of s' ≡ table_of s
    → out' ≡ out ++ take used (rest_of bytes at) → 0 < more → search'.limits ≡ search.limits
    → NotesItemsOf (take used (rest_of bytes at)) search.kept_types search'.kept_types
    → HasKept S s' bytes (at + used) (session_read + used) (count + more) out' defs gaps true search'
pass_on {s = s} {s' = s'} {S = S} {at = at} {count = count} {used = used} {out = out} {out' = out'} {defs = defs}
    {gaps = gaps} {in_step = in_step} bytes h p between limits table is any same notes =
    let L = S.limits in
    let b = take used (rest_of bytes at) in
    let own = subst (λ (M : Bounds). AreFilledItems base_table M (types_of s) (length h.read) p.given b (types_of s'))
    h.limits (passed_items h.has h.between p between limits) in
    let w = h.within in let n = h.few in let k = h.counted in let q = p.within in let g = p.counted in
    let r = h.few_read in let o = h.few_out in let d = h.few_defs in let small = h.small in
    let some = passed_some h.has h.between p between limits in
    let size : length b ≡ used = length-take-le used (rest_of bytes at) p.within in
    let rest = ap length (take_rest bytes at) in
    let here : at + used ≤ length bytes = omega (arith, rest, length-drop at bytes) in
    let there = items_moved (length out) own (omega arith) in
    let all : b ++ drop (at + used) bytes ≡ drop at bytes =
    ap (λ (l : List ℕ). take used l ++ drop (at + used) bytes) (take_rest bytes at)
    ∙ ap (λ (l : List ℕ). take used (drop at bytes) ++ l) (sym (drop-drop used at bytes ∙ ap (λ n. drop n bytes)
    (omega arith)))
    ∙ take-append-drop used (drop at bytes) in
    let long : length out' ≡ length out + length b = ap length is ∙ length-append out b in
    record {
      items = h.items ++ p.given;
      own = h.own ++ p.given;
      read = h.read ++ b;
      has = p.passed h.own h.read h.has;
      between = between;
      limits = ap (λ M. within_trees M) limits ∙ h.limits;
      read_is = let l = h.read_is in omega (arith, length-append h.read b);
      few_read = omega (arith, length-append h.read b);
      defining = h.defining;
      defines = subst (λ (T : Table). FilledStream base_table L h.defining defs T) (sym (ap (λ d. types d) table))
          h.defines;
      few_defs = omega arith;
      few_out = omega arith;
      small = h.small;
      fits = h.fits;
      counted = omega (arith, length-append h.items p.given);
      few = omega arith;
      within = here;
      repeated = subst (λ o. AllByRecursion (TellsRepeated bytes o) gaps) (sym is)
          (still_told bytes out b gaps h.repeated);
      search_limits = ap (λ M. within_trees M) same ∙ h.search_limits;
      noted = notes L (types_of s) (length out) p.given
          (subst (λ (T : Table). AreFilledItems base_table L (types_of s) (length out) p.given b T)
          (ap (λ d. types d) table) there) h.items h.noted;
      on = λ T others rest gs k.
          subst (λ (i : List FilledItem). SalvagesFrom S bytes i (out' ++ rest) (gaps ++ gs) T)
          (sym (append_assoc h.items p.given others))
          (subst (λ (o : List ℕ). SalvagesFrom S bytes (h.items ++ (p.given ++ others)) o
          (gaps ++ gs)
          T)
          (sym (ap (λ (o : List ℕ). o ++ rest) is ∙ append_assoc out b rest))
          (h.on T (p.given ++ others) (b ++ rest) gs
          (subst (λ (z : List ℕ). Salvages L (types_of s) h.items in_step (length out) at z (p.given ++ others)
          (b ++ rest) gs
          T) all
          (keeps_some h.items there long (omega arith) k (omega (arith, p.counted))))));
    }

pub pass_few : {s s' : SessionState} {S : Start} {at session_read count used more : ℕ} {out defs : List ℕ}
    {gaps : List Gap} {in_step : Bool} {search : Search} (bytes : List ℕ)
    → HasKept S s bytes at session_read count out defs gaps in_step search
    → ReadsItems s s' more used (rest_of bytes at)
    → IsBetweenItems s' → limits_of s' ≡ limits_of s → (more ≤ used) × (at + used ≤ length bytes)
pass_few {at = at} bytes h p between limits =
    let q = p.within in let w = h.within in (
      passed_some h.has h.between p between limits,
      omega (arith, ap length (take_rest bytes at), length-drop at bytes),
    )

-- no value was passed
pub still_kept : {s s' : SessionState} {S : Start} {at session_read count used more : ℕ} {out defs : List ℕ}
    {gaps : List Gap} {in_step : Bool} {search : Search} (bytes piece : List ℕ)
    → HasKept S s bytes at session_read count out defs gaps in_step search → ReadsItems s s' more used piece → more ≡ 0
    → limits_of s' ≡ limits_of s → table_of s' ≡ table_of s
    → HasKept S s' bytes at session_read count out defs gaps in_step search
still_kept {s = s} {s' = s'} {S = S} {at = at} {out = out} {defs = defs} {gaps = gaps} {in_step = in_step} bytes piece h
    p e limits table =
    let L = S.limits in
    let b = none_passed piece p e h.has in
    record {
      items = h.items;
      own = h.own;
      read = h.read;
      has = b;
      between = between_still h.has h.between b limits;
      limits = ap (λ M. within_trees M) limits ∙ h.limits;
      read_is = h.read_is;
      few_read = h.few_read;
      defining = h.defining;
      defines = subst (λ (T : Table). FilledStream base_table L h.defining defs T) (sym (ap (λ d. types d) table))
          h.defines;
      few_defs = h.few_defs;
      few_out = h.few_out;
      small = h.small;
      fits = h.fits;
      counted = h.counted;
      few = h.few;
      within = h.within;
      repeated = h.repeated;
      search_limits = h.search_limits;
      noted = h.noted;
      on = λ T more rest others k. h.on T more rest others
          (subst (λ (U : Table). Salvages L U h.items in_step (length out) at (drop at bytes) more rest others T)
          (ap (λ d. types d) table) k);
    }

-- ---- what the keeper has
pub stands_so : {S : Start} {s s' : SessionState} {bytes out defs defs' : List ℕ} {at at' ahead ahead' count count' : ℕ}
    {gaps gaps' : List Gap} {step step' : Bool} {search search' : Search}
    → HasKept S s bytes at ahead count out defs gaps step search → s' ≡ s → at' ≡ at → ahead' ≡ ahead → count' ≡ count
    → defs' ≡ defs → gaps' ≡ gaps → step' ≡ step → search' ≡ search
    → HasKept S s' bytes at' ahead' count' out defs' gaps' step' search'
stands_so {S = S} {s = s} {bytes = bytes} {out = out} {defs = defs} {defs' = defs'} {at = at} {at' = at'}
    {ahead = ahead} {ahead' = ahead'} {count = count} {count' = count'} {gaps = gaps} {gaps' = gaps'} {step = step}
    {step' = step'} {search = search} {search' = search'} h session place before items defining left steps searches =
    subst (λ s. HasKept S s bytes at' ahead' count' out defs' gaps' step' search') (sym session)
    (subst (λ n. HasKept S s bytes n ahead' count' out defs' gaps' step' search') (sym place)
    (subst (λ n. HasKept S s bytes at n count' out defs' gaps' step' search') (sym before)
    (subst (λ n. HasKept S s bytes at ahead n out defs' gaps' step' search') (sym items)
    (subst (λ (d : List ℕ). HasKept S s bytes at ahead count out d gaps' step' search') (sym defining)
    (subst (λ (g : List Gap). HasKept S s bytes at ahead count out defs g step' search') (sym left)
    (subst (λ b. HasKept S s bytes at ahead count out defs gaps b search') (sym steps)
    (subst (λ k. HasKept S s bytes at ahead count out defs gaps step k) (sym searches) h)))))))

-- another stream that was found is found still, since nothing is left then
pub breaks_so : (S : Start) (j k : Keeper) (bytes : List ℕ) → j.at < length bytes → k.later ≡ j.later
    → BreaksIn S j bytes → BreaksIn S k bytes
breaks_so S j k bytes more later b = subst (λ (l : Option Later). IfSome l (BreaksNow S k bytes)) (sym later)
    (none_yet j.later b)
  where
    none_yet : (l : Option Later) → IfSome l (BreaksNow S j bytes) → IfSome l (BreaksNow S k bytes)
    none_yet None b = tt
    none_yet (Some l) b = let end = b.at_end in absurd (omega arith)

-- the definitions that were kept are those of the types that are in force
pub anew_so : {S : Start} {s s' : SessionState} {at session_read count : ℕ} {out defs : List ℕ} {gaps : List Gap}
    {in_step : Bool} {search : Search} (later : Option Later) (bytes : List ℕ)
    → HasKept S s bytes at session_read count out defs gaps in_step search → HasReadAll s' defs
    → within_trees (limits_of s') ≡ S.limits → within_trees search.limits ≡ S.limits
    → IfSome later (λ l. BeginsBehindThese (within_trees search.limits) defs l.front.items (drop l.at bytes))
    → IfSome later (λ l. BeginsBehind S.limits (types_of s') l.front.items (drop l.at bytes))
anew_so None bytes h read limits same found = tt
anew_so {S = S} {s' = s'} {defs = defs} (Some l) bytes h read limits same found =
    subst (λ (M : Bounds). BeginsBehind M (types_of s') l.front.items (drop l.at bytes)) same
    (found read.items (types_of s') (subst (λ (M : Bounds). FilledStream base_table M read.items defs (types_of s'))
    (limits ∙ sym same) (between_stream read.has read.between)))

-- a stream is found behind the items that are kept, and the last gap runs up to the end
pub breaks_there : (S : Start) (k' : Keeper) (alone known : Option ℕ) (clash : Option Clash) (later : Option Later)
    {at next : ℕ} (gaps : List Gap) (bytes : List ℕ) (g : Gap) → at < length bytes → IfSome later (BeginsAt clash)
    → IfSome later (λ l. BeginsBehind S.limits (types_of k'.session) l.front.items (drop l.at bytes))
    → IfSome clash (λ c. c.at ≡ at) → IfSome clash (λ _. IsTwice g.reason) → IfSome clash (λ _. alone ≡ None)
    → IfSome later (λ _. alone ≡ None → known ≡ Some (length bytes)) → IfSome known (λ e. next ≡ e)
    → k'.kept.gaps.items ≡ gaps ++ g ∷ [] → g.begin ≡ at → g.end ≡ next → k'.at ≡ next
    → IfSome later (BreaksNow S k' bytes)
breaks_there S k' alone known clash None gaps bytes g more b anew here twice none ends same is begins end stands = tt
breaks_there S k' alone known clash (Some l) {at = at} {next = next} gaps bytes g more b anew here twice none ends
    same is begins end stands =
    let place : b.item.at ≡ at = rw b.is at here in
    let last : next ≡ length bytes = rw (ends (rw b.is at none)) at same in
    record {
      at_end = omega arith;
      there = record {
        before = gaps;
        gap = g;
        gaps_are = is;
        twice = rw b.is at twice;
        to_end = end ∙ last;
        some = b.some;
        here = b.here ∙ place ∙ sym begins;
        inside = let p = b.here in omega arith;
        anew = anew;
      };
    }

-- ---- where items go on
-- what stands at a place stands at the front of the bytes from there on
pub front_frame : {bytes : List ℕ} {at next : ℕ} → IsFrame bytes at next → at < next → next ≤ length bytes
    → IsFrame (take (next - at) (drop at bytes) ++ drop next bytes) 0 (length (take (next - at) (drop at bytes)))
front_frame {bytes = bytes} {at = at} {next = next} f more within =
    let d = take (next - at) (drop at bytes) in
    let size : length d ≡ next - at = length-take-le (next - at) (drop at bytes) (omega (arith, length-drop at bytes))
    in
    let all : d ++ drop next bytes ≡ drop at bytes =
    ap (λ (l : List ℕ). d ++ l) (sym (drop-drop (next - at) at bytes ∙ ap (λ n. drop n bytes) (omega arith)))
    ∙ take-append-drop (next - at) (drop at bytes) in
    subst (λ (z : List ℕ). IsFrame z 0 (length d)) (sym all)
    (subst (λ n. IsFrame (drop at bytes) 0 n) (sym size) (frame_moved f))

pub found_there : {L : Bounds} {T : Table} {items : List FilledItem} {in_step : Bool} {bytes : List ℕ} {at next : ℕ}
    {g : Gap} → IsNextPlace L T items bytes at next → at < next → next ≤ length bytes
    → Resumes L T items in_step (take (next - at) (drop at bytes)) (drop next bytes) g false
found_there {bytes = bytes} (searching.at_the_end e) more within =
    at_the_end (drop_of_length-le bytes (omega arith))
found_there (searching.by_its_count f e) more within = at_a_line_feed (front_frame f more within) e
found_there (searching.by_evidence e) more within = where_they_go_on e

-- it is so under equal limits and types
pub next_so : {L M : Bounds} {T U : Table} {items : List FilledItem} {bytes : List ℕ} {at next : ℕ} → M ≡ L → T ≡ U
    → IsNextPlace M T items bytes at next → IsNextPlace L U items bytes at next
next_so {L = L} {T = T} {items = items} {bytes = bytes} {at = at} {next = next} e f p =
    subst (λ (T : Table). IsNextPlace L T items bytes at next) f
    (subst (λ (M : Bounds). IsNextPlace M T items bytes at next) e p)

pub resumes_there : {L : Bounds} {T : Table} {in_step : Bool} {bytes : List ℕ} {at next : ℕ} {g : Gap}
    {items : List FilledItem} (alone known : Option ℕ) (later : Option Later) → at < next → next ≤ length bytes
    → IfSome alone (λ e. known ≡ Some e) → IfSome later (λ _. alone ≡ None → known ≡ Some (length bytes))
    → (alone ≡ None → later ≡ None → known ≡ None) → IfSome known (λ e. next ≡ e)
    → (known ≡ None → IsNextPlace L T items bytes at next) → IfSome alone (λ _. in_step ≡ true)
    → IfSome alone (λ e. IsFrame bytes at e) → IfSome alone (λ _. IsUnknown g.reason)
    → Resumes L T items in_step (take (next - at) (drop at bytes)) (drop next bytes) g (is_some alone)
resumes_there {bytes = bytes} {at = at} {next = next} (Some e) known later more within is ends none same shown
    step frame why =
    let here : next ≡ e = rw is at same in
    behind_its_count step (front_frame (subst (λ n. IsFrame bytes at n) (sym here) frame) more within)
    (of_unknown_type why.is why.own)
resumes_there {bytes = bytes} {next = next} None known (Some n) more within is ends none same shown step frame why =
    let here : next ≡ length bytes = rw (ends refl) at same in
    at_the_end (drop_of_length-le bytes (omega arith))
resumes_there None known None more within is ends none same shown step frame why =
    found_there (shown (none refl refl)) more within

-- it goes on from wherever it stood at the same place
pub goes_from : {S : Start} {j k k' : Keeper} {bytes : List ℕ} → j.at < length bytes → j.at ≡ k.at
    → j.later ≡ k.later → GoesOn S k k' bytes → GoesOn S j k' bytes
goes_from {S = S} {j = j} {k = k} {bytes = bytes} more same later g = record {
  keeping = g.keeping;
  further = let f = g.further in omega arith;
  later = λ b. g.later (breaks_so S j k bytes more (sym later) b);
}

pub values_kept : {S : Start} {s : SessionState} {k k' : Keeper} {passed : Passed} {step : Bool} {search : Search}
    (bytes : List ℕ) → HasKept S s bytes k.at k.read k.kept.items k.kept.bytes.items k.defining.items
    k.kept.gaps.items step search → ReadsItems s k.session passed.items passed.used (rest_of bytes k.at)
    → IsBetweenItems k.session → limits_of k.session ≡ limits_of s → table_of k.session ≡ table_of s
    → 0 < passed.items → k.search.limits ≡ search.limits
    → NotesItemsOf (take passed.used (rest_of bytes k.at)) search.kept_types k.search.kept_types
    → KeepsMore k k' passed (take passed.used (rest_of bytes k.at)) → k.at < length bytes → GoesOn S k k' bytes
values_kept {S = S} {k = k} {k' = k'} bytes h p between limits table some same notes m left = record {
  keeping = stands_so (pass_on bytes h p between limits table m.bytes some same notes) m.session m.at m.read m.items
      (ap (λ v. v.items) m.defining) (ap (λ v. v.items) m.gaps) m.in_step m.search;
  further = let few = passed_some h.has h.between p between limits in let place = m.at in omega arith;
  later = breaks_so S k k' bytes left m.later;
}

pub item_kept : {S : Start} {s : SessionState} {k k' : Keeper} {passed : Passed} {before after : ℕ} {defs : List ℕ}
    {step : Bool} {search : Search} (bytes : List ℕ)
    → HasKept S s bytes k.at k.read k.kept.items k.kept.bytes.items defs k.kept.gaps.items step search
    → ReadsOne s k.session (take passed.used (rest_of bytes k.at)) → IsBetweenItems k.session
    → limits_of k.session ≡ limits_of s → 0 < passed.used → passed.used ≤ length (rest_of bytes k.at)
    → passed.items ≡ 1 → IsTable (types_of s) → before ≡ definition_count (types_of s)
    → after ≡ definition_count (types_of k.session)
    → NotesItem before after defs k.defining.items (take passed.used (rest_of bytes k.at))
    → k.search.limits ≡ search.limits
    → NotesItemOf (take passed.used (rest_of bytes k.at)) search.kept_types k.search.kept_types
    → KeepsMore k k' passed (take passed.used (rest_of bytes k.at)) → k.at < length bytes → GoesOn S k k' bytes
item_kept {S = S} {k = k} {k' = k'} bytes h f between limits some few one is p q notes same known m left = record {
  keeping = stands_so (keep_on bytes h f between limits some few m.bytes is p q notes same known) m.session m.at m.read
      (m.items ∙ ap (λ n. k.kept.items + n) one) (ap (λ v. v.items) m.defining) (ap (λ v. v.items) m.gaps) m.in_step
      m.search;
  further = let place = m.at in omega arith;
  later = breaks_so S k k' bytes left m.later;
}

pub gap_left : {S : Start} {k k' : Keeper} {next : ℕ} {R : Refusal} {still : Bool} (bytes : List ℕ) (g : Gap)
    → (h : IsRefusedNext S k bytes R) → k.at < next → next ≤ length bytes
    → HasReadAll k'.session k.defining.items → within_trees (limits_of k'.session) ≡ S.limits
    → k'.kept.gaps.items ≡ k.kept.gaps.items ++ g ∷ [] → g.begin ≡ k.at → g.end ≡ next → g.reason ≡ R.reason
    → g.place ≡ counts_up k.at (R.place - k.read) → TellsRepeated bytes k.kept.bytes.items g
    → HasSpent k.search k'.search → ((items : List FilledItem) → AreNoted k.search.kept_types items
    → Resumes S.limits (types_of k'.session) items k.in_step
    (take (next - k.at) (drop k.at bytes)) (drop next bytes) g still)
    → k'.in_step ≡ still → k'.at ≡ next → k'.read ≡ length k.defining.items
    → k'.kept.items ≡ k.kept.items → k'.kept.bytes ≡ k.kept.bytes → k'.defining ≡ k.defining
    → BreaksIn S k' bytes → GoesOn S k k' bytes
gap_left {S = S} {k' = k'} bytes g h some within read limits gaps begins ends why place told spent resumes step at
    session_read items out defining later =
    record {
      keeping = subst (λ (o : List ℕ). HasKept S k'.session bytes k'.at k'.read k'.kept.items o k'.defining.items
          k'.kept.gaps.items k'.in_step k'.search) (sym (ap (λ v. v.items) out))
          (stands_so (leave_on bytes g h.kept h.refused some within read limits begins ends why place told spent
          resumes)
          refl at session_read items (ap (λ v. v.items) defining) gaps step refl);
      further = omega arith;
      later = λ _. later;
    }

-- ---- at the end
-- where nothing is left out no other stream was found
pub no_later : (S : Start) (bytes : List ℕ) (k : Keeper) → BreaksIn S k bytes → k.kept.gaps.items ≡ [] → k.later ≡ None
no_later S bytes k b none = by_case k.later b
  where
    by_case : (later : Option Later) → IfSome later (BreaksNow S k bytes) → later ≡ None
    by_case None b = refl
    by_case (Some l) b = let there = b.there in
        absurd (omega (arith, ap length none, ap length there.gaps_are, length-append there.before (there.gap ∷ [])))

-- what is kept of all
pub kept_of : {L : Bounds} {front : List ℕ} {f : Front L front} {left : ℕ} (k : Keeper) (bytes : List ℕ)
    → IsKeeping (started_with f) k bytes → BreaksIn (started_with f) k bytes → length bytes ≤ k.at
    → IsKeptOf L front bytes (record { kept = k.kept; later = k.later; left = left })
kept_of {L = L} {front = front} {f = f} k bytes h b l =
    let end = keep_end bytes h l in
    record {
      salvage = record {
        first = f;
        items = end.items;
        table = types_of k.session;
        salvages = end.salvages;
        counted = end.counted;
        repeated = end.repeated;
      };
      later = by_case k.later b;
    }
  where
    by_case : (later : Option Later) → IfSome later (BreaksNow (started_with f) k bytes)
        → IfSome later (λ l. BreaksAt L (types_of k.session) l.at l.front.items k.kept.gaps.items bytes)
    by_case None b = tt
    by_case (Some l) b = b.there
