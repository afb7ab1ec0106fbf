-- How the counting of a stream goes on, and how it ends, over any session.
use mir.Val.{bool_byte}
use Rattle.std.proofs.Common.{◌≡◌, ℕ, ◌+◌, ◌-◌, ◌^◌, ◌≤◌, arith, List, [], ◌∷◌, ◌++◌, length, take, drop, min}
use Rattle.std.proofs.Common.{Bool, Result, Ok, Err, Option, Some, None, ◌∙◌, ap, sym, subst, refl, length-append}
use Rattle.std.proofs.Common.{append_assoc, append-nil, take-append-drop, IfOk, IfSome, MatchBool, true, false}
use Rattle.std.specs.Result.{IsErrAnd}
use Rattle.std.proofs.lemmas.List.{length-take-le}
use Rattle.gob_types.specs.Base.{base_table}
use Rattle.gob_types.specs.Defined.{types, definition_count}
use Rattle.gob_types.specs.Table.{Table}
use Rattle.gob_stream.specs.Bounds.{Bounds, AreLimits, deepest}
use Rattle.gob_stream.specs.Grammar.{OutcomeIn, StreamIn, refused}
use Rattle.gob_stream.specs.Items.{AreItemsOf, no_more, and_then}
use Rattle.gob_stream.specs.Stepping.{AdvancesBy, FinishAnswersBy, GivesItemsOf, ReadsItemsBy, StandsBy, StepAnswersBy}
use Rattle.gob_stream.specs.Stepping.{Stepping, gives_none, gives_one}
use Rattle.gob_stream.specs.declared.fault.Fault.{Fault}
use Rattle.gob_stream.specs.declared.fault.Fault.TheVariants as fault
use Rattle.gob_stream.specs.declared.session.Advance.{Advance}
use Rattle.gob_counted.specs.Apart.{IsCountable, IsDefinition, ValuesIn, a_definition, a_value, no_values}
use Rattle.gob_counted.specs.Calls.{ChecksBytes, CountsOn, EndsCounting, GoesOn, HasCounted, StepsCounting, Stops}
use Rattle.gob_counted.specs.Calls.{session_of, tally_of}
use Rattle.gob_counted.specs.Counting.{BeginsWithTally, IsTally}
use Rattle.gob_counted.specs.declared.counter.Counter.{Counter}
use Rattle.gob_counted.specs.declared.tally.Tally.{Tally}

-- ---- a stream in two
record InTwo {Told : Type 0} (is : Table → ℕ → Told → List ℕ → Table → Type 0) (T : Table) (offset : ℕ)
    (items more : List Told) (bytes : List ℕ) (V : Table) : Type 0 where
  prefix : List ℕ
  rest : List ℕ
  middle : Table
  whole : bytes ≡ prefix ++ rest
  first : AreItemsOf is T offset items prefix middle
  second : AreItemsOf is middle (offset + length prefix) more rest V

in_two : {Told : Type 0} {is : Table → ℕ → Told → List ℕ → Table → Type 0} {T V : Table} {offset : ℕ}
    (items more : List Told) {bytes : List ℕ} → AreItemsOf is T offset (items ++ more) bytes V
    → InTwo is T offset items more bytes V
in_two {is = is} {T = T} {V = V} {offset = offset} [] more {bytes = bytes} a = record {
  prefix = [];
  rest = bytes;
  middle = T;
  whole = refl;
  first = no_more;
  second = subst (λ n. AreItemsOf is T n more bytes V) (omega arith) a;
}
in_two {is = is} {V = V} {offset = offset} (i ∷ items) more (and_then {next = next} {b = b} {c = c} p e r) =
    let two = in_two items more r in
    record {
      prefix = b ++ two.prefix;
      rest = two.rest;
      middle = two.middle;
      whole = ap (λ l. b ++ l) two.whole ∙ sym (append_assoc b two.prefix two.rest);
      first = and_then p e two.first;
      second = subst (λ n. AreItemsOf is two.middle n more two.rest V)
          (omega (arith, e, length-append b two.prefix)) two.second;
    }

module _ {X I Told : Type 0} (d : Stepping X I Told) where
  -- ---- at first
  pub counts_first : (s : X) (tally : Tally) (L : Bounds) → IsCountable d → d.read s [] [] → d.taken s ≡ 0
      → d.limits s ≡ L → AreLimits deepest L → StandsBy d s
      → tally ≡ record { items = 0; types = 0; values = 0; bytes = 0 }
      → HasCounted d (record { session = s; tally = tally; taken = 0 }) [] []
  counts_first s tally L countable read none same allowed stands e = record {
    read = read;
    tallied = record {
      prefix = [];
      rest = [];
      whole = refl;
      is_theirs = record {
        table = base_table;
        stream = no_more;
        items_are = ap (λ (t : Tally). t.items) e;
        types_are = ap (λ (t : Tally). t.types) e ∙ omega arith;
        values_are = subst (λ (n : ℕ). ValuesIn d [] n) (sym (ap (λ (t : Tally). t.values) e)) no_values;
        bytes_are = ap (λ (t : Tally). t.bytes) e;
      };
    };
    taken_is = refl;
    came = none;
    stands = stands;
    allowed = subst (λ (L : Bounds). AreLimits deepest L) (sym same) allowed;
    countable = countable;
  }

  -- ---- values among items
  values_few : {items : List Told} {n : ℕ} → ValuesIn d items n → n ≤ length items
  values_few no_values = omega arith
  values_few (a_definition is r) = let few = values_few r in omega (arith, few)
  values_few (a_value not r e) = let few = values_few r in omega (arith, few, e)

  values_join : {items more : List Told} {n m k : ℕ} → ValuesIn d items n → ValuesIn d more m → k ≡ n + m
      → ValuesIn d (items ++ more) k
  values_join {more = more} no_values w e = subst (λ k. ValuesIn d more k) (omega (arith, e)) w
  values_join (a_definition is r) w e = a_definition is (values_join r w e)
  values_join {m = m} (a_value {n = n} not r f) w e = a_value not (values_join r w refl) (omega (arith, e, f))

  -- ---- values that stand whole
  -- the types stayed, so they are values
  whole_values : {s s' : X} {items : List Told} {bytes : List ℕ} (more : List Told) (z : List ℕ) → IsCountable d
      → StandsBy d s → StandsBy d s' → d.between s → d.between s' → d.table s' ≡ d.table s → d.limits s' ≡ d.limits s
      → d.read s items bytes → d.read s' (items ++ more) (bytes ++ z) → ValuesIn d more (length more)
  whole_values {s = s} {s' = s'} {items = items} {bytes = bytes} more z laws stands stands' between between' same_table
      same_limits r r' =
      let G = d.grammar in
      let L = d.within (d.limits s) in
      let all = subst (λ (M : Bounds). StreamIn G (d.within M) (items ++ more) (bytes ++ z)
      (d.behind s' (items ++ more) (bytes ++ z) r'))
      same_limits (laws.whole s' (items ++ more) (bytes ++ z) r' between') in
      let two = in_two items more all in
      let same = laws.one_stream L items two.prefix bytes two.rest z two.middle (d.behind s items bytes r) two.first
      (laws.whole s items bytes r between) (sym two.whole) in
      let stays : d.behind s' (items ++ more) (bytes ++ z) r' ≡ two.middle =
      stands'.settled (items ++ more) (bytes ++ z) r' between' ∙ ap (λ t. types t) same_table
      ∙ sym (stands.settled items bytes r between) ∙ sym same.1 in
      laws.are_values L two.middle (0 + length two.prefix) more two.rest
      (subst (λ U. AreItemsOf (G.is L) two.middle (0 + length two.prefix) more two.rest U) stays two.second)

  -- what was counted between two items
  pub record CountsSo (c c' : Counter X I) (s' : X) (used items values : ℕ) : Type 0 where
    pub session_is : session_of c' ≡ s'
    pub taken_is : c'.taken ≡ min (c.taken + used) (2 ^ 64 - 1)
    pub items_are : (tally_of c').items ≡ min ((tally_of c).items + items) (2 ^ 64 - 1)
    pub types_are : (tally_of c').types ≡ definition_count (types (d.table s'))
    pub values_are : (tally_of c').values ≡ min ((tally_of c).values + values) (2 ^ 64 - 1)
    pub bytes_are : (tally_of c').bytes ≡ c'.taken

  -- items that are whole with the bytes
  counts_items : {c c' : Counter X I} {s' : X} {used n k : ℕ} {items : List Told} {bytes : List ℕ}
      (more : List Told) (z : List ℕ) → CountsSo c c' s' used n k → length more ≡ n → ValuesIn d more k
      → length z ≡ used → d.taken s' ≡ d.taken (session_of c) + used → d.limits s' ≡ d.limits (session_of c)
      → StandsBy d s' → d.between s' → HasCounted d c items bytes → d.read s' (items ++ more) (bytes ++ z)
      → HasCounted d c' (items ++ more) (bytes ++ z)
  counts_items {c = c} {c' = c'} {s' = s'} {used = used} {n = n} {k = k} {items = items} {bytes = bytes} more z so
      n_is values z_is onward same_limits stands between h r =
      let few = stands.few (items ++ more) (bytes ++ z) r in
      let limit = ap (λ (L : Bounds). L.stream) same_limits in
      let most = h.allowed.stream in
      let were = h.tallied.is_theirs in
      let all = length-append items more in
      let came : length (bytes ++ z) ≡ length bytes + used = length-append bytes z ∙ ap (λ n. length bytes + n) z_is in
      let taken : d.taken s' ≡ length (bytes ++ z) = omega (arith, onward, h.came, came) in
      let here : c'.taken ≡ length (bytes ++ z) =
      omega (arith, so.taken_is, h.taken_is, few.1, limit, most, taken, came) in
      let joined = values_join {k = (tally_of c).values + k} were.values_are values refl in
      let bound = values_few joined in
      let sum : (tally_of c).values + k ≡ (tally_of c').values =
      omega (arith, so.values_are, bound, few.0, few.1, limit, most) in
      let P : X → Type 0 = λ s. d.read s (items ++ more) (bytes ++ z) in
      record {
        read = subst P (sym so.session_is) r;
        tallied = subst (λ s. BeginsWithTally d (d.within (d.limits s)) (items ++ more) (bytes ++ z) (tally_of c'))
            (sym so.session_is)
            (record {
              prefix = bytes ++ z;
              rest = [];
              whole = sym (append-nil (bytes ++ z));
              is_theirs = record {
                table = d.behind s' (items ++ more) (bytes ++ z) r;
                stream = h.countable.whole s' (items ++ more) (bytes ++ z) r between;
                items_are = omega (arith, so.items_are, were.items_are, all, n_is, few.0, few.1, limit, most);
                types_are = so.types_are
                    ∙ ap (λ T. definition_count T) (sym (stands.settled (items ++ more) (bytes ++ z) r between));
                values_are = subst (λ (n : ℕ). ValuesIn d (items ++ more) n) sum joined;
                bytes_are = so.bytes_are ∙ here;
              };
            });
        taken_is = here;
        came = ap (λ s. d.taken s) so.session_is ∙ taken;
        stands = subst (λ s. StandsBy d s) (sym so.session_is) stands;
        allowed = subst (λ (L : Bounds). AreLimits deepest L)
            (sym (ap (λ s. d.limits s) so.session_is ∙ same_limits)) h.allowed;
        countable = h.countable;
      }

  pub counts_passed : {c c' : Counter X I} {s' : X} {used n : ℕ} {items : List Told} {bytes piece : List ℕ}
      → ReadsItemsBy d (session_of c) s' n used piece → CountsSo c c' s' used n n
      → d.between (session_of c) → d.between s' → StandsBy d s' → d.taken s' ≡ d.taken (session_of c) + used
      → d.table s' ≡ d.table (session_of c) → d.limits s' ≡ d.limits (session_of c)
      → HasCounted d c items bytes → GoesOn d c' items (bytes ++ take used piece)
  counts_passed {used = used} {items = items} {bytes = bytes} {piece = piece} p so between between' stands onward
      same_table same_limits h =
      let r = p.passed items bytes h.read in
      let values = whole_values p.given (take used piece) h.countable h.stands stands between between' same_table
      same_limits h.read r in
      record {
        more = p.given;
        counted = counts_items p.given (take used piece) so (sym p.counted)
            (subst (λ (n : ℕ). ValuesIn d p.given n) (sym p.counted) values)
            (length-take-le used piece p.within) onward same_limits stands between' h r;
      }

  -- ---- bytes with which no item is whole
  goes_on_with : {c c' : Counter X I} {s' : X} {used : ℕ} {items : List Told} {bytes : List ℕ} (z : List ℕ)
      → session_of c' ≡ s'
      → c'.taken ≡ min (c.taken + used) (2 ^ 64 - 1) → tally_of c' ≡ tally_of c → length z ≡ used
      → d.taken s' ≡ d.taken (session_of c) + used → d.limits s' ≡ d.limits (session_of c) → StandsBy d s'
      → HasCounted d c items bytes → d.read s' items (bytes ++ z) → HasCounted d c' items (bytes ++ z)
  goes_on_with {c = c} {c' = c'} {s' = s'} {used = used} {items = items} {bytes = bytes} z session_is taken_is
      tally_is z_is onward same_limits stands h r =
      let few = stands.few items (bytes ++ z) r in
      let limit = ap (λ (L : Bounds). L.stream) same_limits in
      let most = h.allowed.stream in
      let came : length (bytes ++ z) ≡ length bytes + used = length-append bytes z ∙ ap (λ n. length bytes + n) z_is in
      let taken : d.taken s' ≡ length (bytes ++ z) = omega (arith, onward, h.came, came) in
      let P : X → Type 0 = λ s. d.read s items (bytes ++ z) in
      let same = ap (λ s. d.limits s) session_is ∙ same_limits in
      let t = h.tallied in
      record {
        read = subst P (sym session_is) r;
        tallied = record {
          prefix = t.prefix;
          rest = t.rest ++ z;
          whole = ap (λ l. l ++ z) t.whole ∙ append_assoc t.prefix t.rest z;
          is_theirs = subst (λ (L : Bounds). IsTally d (d.within L) items t.prefix (tally_of c')) (sym same)
              (subst (λ (a : Tally). IsTally d (d.within (d.limits (session_of c))) items t.prefix a)
              (sym tally_is) t.is_theirs);
        };
        taken_is = omega (arith, taken_is, h.taken_is, few.1, limit, most, taken, came);
        came = ap (λ s. d.taken s) session_is ∙ taken;
        stands = subst (λ s. StandsBy d s) (sym session_is) stands;
        allowed = subst (λ (L : Bounds). AreLimits deepest L) (sym same) h.allowed;
        countable = h.countable;
      }

  -- no item was passed
  no_items : (items : List Told) → length items ≡ 0 → items ≡ []
  no_items [] l = refl
  no_items (i ∷ items) l = absurd (omega arith)

  pub passed_none : {c c' : Counter X I} {s' : X} {used n : ℕ} {items : List Told} {bytes piece : List ℕ} → n ≡ 0
      → ReadsItemsBy d (session_of c) s' n used piece → session_of c' ≡ s' → c'.taken ≡ c.taken
      → tally_of c' ≡ tally_of c → StandsBy d s' → d.taken s' ≡ d.taken (session_of c) + used
      → d.limits s' ≡ d.limits (session_of c) → HasCounted d c items bytes
      → GoesOn d c' items (bytes ++ take 0 piece)
  passed_none {c = c} {c' = c'} {s' = s'} {used = used} {n = n} {items = items} {bytes = bytes} {piece = piece} none p
      session_is taken_is tally_is stands onward same_limits h =
      let unused : used ≡ 0 = p.none none in
      let r = p.passed items bytes h.read in
      let same : items ++ p.given ≡ items =
      ap (λ l. items ++ l) (no_items p.given (sym p.counted ∙ none)) ∙ append-nil items in
      let r' = subst (λ l. d.read s' l (bytes ++ take 0 piece)) same
      (subst (λ k. d.read s' (items ++ p.given) (bytes ++ take k piece)) unused r) in
      let few = stands.few items (bytes ++ take 0 piece) r' in
      let limit = ap (λ (L : Bounds). L.stream) same_limits in
      let most = h.allowed.stream in
      let sum : c'.taken ≡ min (c.taken + 0) (2 ^ 64 - 1) =
      omega (arith, taken_is, h.taken_is, h.came, onward, unused, few.1, limit, most) in
      let still = goes_on_with {used = 0} (take 0 piece) session_is sum tally_is (length-take-le 0 piece (omega arith))
      (onward ∙ ap (λ k. d.taken (session_of c) + k) unused) same_limits stands h r' in
      record {
        more = [];
        counted = subst (λ l. HasCounted d c' l (bytes ++ take 0 piece)) (sym (append-nil items)) still;
      }

  -- ---- a step
  pub at_some : {A P : Type 0} {o : Option A} {a : A} → o ≡ Some a → IfSome o (λ _. P) → P
  at_some {o = None} e p = absurd (cc)
  at_some {o = Some b} e p = p

  -- what the item is that is told to be a value, or not
  told_value : {i : Told} (b : Bool) → MatchBool b (¬ IsDefinition d i) (IsDefinition d i)
      → ValuesIn d (i ∷ []) (bool_byte b)
  told_value true not = a_value not no_values (omega arith)
  told_value false is = a_definition is no_values

  pub record IsOne (more : List Told) (b : Bool) : Type 0 where
    pub one : length more ≡ 1
    pub values : ValuesIn d more (bool_byte b)

  one_item : {given : I} {o : Option I} {T : Table} {more : List Told} (b : Bool) → o ≡ Some given
      → ((told : Told) → d.means T given told → MatchBool b (¬ IsDefinition d told) (IsDefinition d told))
      → GivesItemsOf (d.means T) o more → IsOne more b
  one_item b e tells gives_none = absurd (cc)
  one_item {given = given} {T = T} b e tells (gives_one {given = other} {i = i} m) =
      let same : other ≡ given = cc in
      record { one = refl; values = told_value b (tells i (subst (λ g. d.means T g i) same m)) }

  no_item : {o : Option I} {T : Table} {more : List Told} → o ≡ None → GivesItemsOf (d.means T) o more → more ≡ []
  no_item e gives_none = refl
  no_item e (gives_one m) = absurd (cc)

  pub steps_item : {c c' : Counter X I} {s' : X} {items : List Told} {bytes piece : List ℕ} {step : Advance I}
      {given : I} {k : ℕ} (b : Bool) → step.used ≤ length piece → step.item ≡ Some given
      → ((T : Table) (told : Told) → d.means T given told
      → MatchBool b (¬ IsDefinition d told) (IsDefinition d told)) → k ≡ bool_byte b
      → CountsSo c c' s' step.used 1 k → StandsBy d s' → d.between s' → d.limits s' ≡ d.limits (session_of c)
      → HasCounted d c items bytes → AdvancesBy d (session_of c) s' items bytes piece step
      → GoesOn d c' items (bytes ++ take step.used piece)
  steps_item {s' = s'} {piece = piece} {step = step} b within e tells k_is so stands between same_limits h a =
      let one = one_item b e (tells (types (d.table s'))) a.gives in
      record {
        more = a.more;
        counted = counts_items a.more (take step.used piece) so one.one
            (subst (λ (n : ℕ). ValuesIn d a.more n) (sym k_is) one.values) (length-take-le step.used piece within)
            a.onward same_limits stands between h a.after;
      }

  pub steps_none : {c c' : Counter X I} {s' : X} {items : List Told} {bytes piece : List ℕ} {step : Advance I}
      → step.used ≤ length piece → step.item ≡ None → session_of c' ≡ s'
      → c'.taken ≡ min (c.taken + step.used) (2 ^ 64 - 1) → tally_of c' ≡ tally_of c → StandsBy d s'
      → d.limits s' ≡ d.limits (session_of c) → HasCounted d c items bytes
      → AdvancesBy d (session_of c) s' items bytes piece step → GoesOn d c' items (bytes ++ take step.used piece)
  steps_none {c' = c'} {s' = s'} {items = items} {bytes = bytes} {piece = piece} {step = step} within e session_is
      taken_is tally_is stands same_limits h a =
      let none = no_item e a.gives in
      let r = subst (λ l. d.read s' l (bytes ++ take step.used piece))
      (ap (λ l. items ++ l) none ∙ append-nil items) a.after in
      let still = goes_on_with (take step.used piece) session_is taken_is tally_is
      (length-take-le step.used piece within) a.onward same_limits stands h r in
      record {
        more = [];
        counted = subst (λ l. HasCounted d c' l (bytes ++ take step.used piece)) (sym (append-nil items)) still;
      }

  -- the tally stays where a step is refused, or lacks memory
  still_tallied : {c : Counter X I} {items : List Told} {bytes : List ℕ} (piece : List ℕ) (tally : Tally)
      → tally ≡ tally_of c → HasCounted d c items bytes
      → BeginsWithTally d (d.within (d.limits (session_of c))) (items ++ []) (bytes ++ piece) tally
  still_tallied {c = c} {items = items} {bytes = bytes} piece tally e h =
      let t = h.tallied in
      let L = d.within (d.limits (session_of c)) in
      subst (λ l. BeginsWithTally d L l (bytes ++ piece) tally) (sym (append-nil items)) (record {
        prefix = t.prefix;
        rest = t.rest ++ piece;
        whole = ap (λ l. l ++ piece) t.whole ∙ append_assoc t.prefix t.rest piece;
        is_theirs = subst (λ (a : Tally). IsTally d L items t.prefix a) (sym e) t.is_theirs;
      })

  pub step_stops : {c : Counter X I} {items : List Told} {bytes : List ℕ} (T : Table) (s' : X) (piece : List ℕ)
      (tally : Tally) (e : Fault) → tally ≡ tally_of c → HasCounted d c items bytes
      → StepAnswersBy d T (session_of c) s' items bytes piece (Err e)
      → Stops d (d.limits (session_of c)) items (bytes ++ piece) tally e
  step_stops {c = c} {items = items} {bytes = bytes} T s' piece tally (fault.Refused R) same h f = record {
    more = [];
    shows = λ rest. subst (λ l. OutcomeIn d.grammar (d.within (d.limits (session_of c))) ((bytes ++ piece) ++ rest) l
        (refused R)) (sym (append-nil items)) (f.0 rest).outcome;
    tallied = still_tallied piece tally same h;
  }
  step_stops T s' piece tally fault.Read same h f = absurd f
  step_stops T s' piece tally fault.Memory same h f = record { more = []; tallied = still_tallied piece tally same h }
  step_stops T s' piece tally fault.Failed same h f = absurd f

  -- ---- from step to step
  goes_behind : {c : Counter X I} {bytes : List ℕ} (items more : List Told) → GoesOn d c (items ++ more) bytes
      → GoesOn d c items bytes
  goes_behind {c = c} {bytes = bytes} items more g = record {
    more = more ++ g.more;
    counted = subst (λ l. HasCounted d c l bytes) (append_assoc items more g.more) g.counted;
  }

  stops_behind : (L : Bounds) (items more : List Told) (bytes : List ℕ) (tally : Tally) (e : Fault)
      → Stops d L (items ++ more) bytes tally e → Stops d L items bytes tally e
  stops_behind L items more bytes tally (fault.Refused R) f = record {
    more = more ++ f.more;
    shows = λ rest. subst (λ l. OutcomeIn d.grammar (d.within L) (bytes ++ rest) l (refused R))
        (append_assoc items more f.more) (f.shows rest);
    tallied = subst (λ l. BeginsWithTally d (d.within L) l bytes tally) (append_assoc items more f.more) f.tallied;
  }
  stops_behind L items more bytes tally fault.Read f = f
  stops_behind L items more bytes tally fault.Memory f = record {
    more = more ++ f.more;
    tallied = subst (λ l. BeginsWithTally d (d.within L) l bytes tally) (append_assoc items more f.more) f.tallied;
  }
  stops_behind L items more bytes tally fault.Failed f = f

  -- what was answered behind items that were passed
  pub steps_behind : (c q c' : Counter X I) (items more : List Told) (bytes here piece : List ℕ) (r : Result ℕ Fault)
      → here ≡ bytes → d.limits (session_of q) ≡ d.limits (session_of c)
      → StepsCounting d q c' (items ++ more) here piece r → StepsCounting d c c' items bytes piece r
  steps_behind c q c' items more bytes here piece (Ok used) e same g =
      goes_behind items more (subst (λ b. GoesOn d c' (items ++ more) (b ++ take used piece)) e g)
  steps_behind c q c' items more bytes here piece (Err f) e same g =
      stops_behind (d.limits (session_of c)) items more (bytes ++ piece) (tally_of c') f
      (subst (λ (L : Bounds). Stops d L (items ++ more) (bytes ++ piece) (tally_of c') f) same
      (subst (λ b. Stops d (d.limits (session_of q)) (items ++ more) (b ++ piece) (tally_of c') f) e g))

  -- the front of the piece was taken, up to the rest
  pub record CountsUpTo (c : Counter X I) (items : List Told) (bytes piece rest : List ℕ) : Type 0 where
    pub prefix : List ℕ
    pub whole : piece ≡ prefix ++ rest
    pub on : GoesOn d c items (bytes ++ prefix)

  pub none_yet : {c : Counter X I} {items : List Told} (piece bytes : List ℕ) → HasCounted d c items bytes
      → CountsUpTo c items bytes piece piece
  none_yet {c = c} {items = items} piece bytes h = record {
    prefix = [];
    whole = refl;
    on = record {
      more = [];
      counted = subst (λ l. HasCounted d c (items ++ []) l) (sym (append-nil bytes))
          (subst (λ l. HasCounted d c l bytes) (sym (append-nil items)) h);
    };
  }

  pub up_to : {c c' : Counter X I} {items : List Told} {bytes piece rest later : List ℕ} (used : ℕ)
      → later ≡ drop used rest → (u : CountsUpTo c items bytes piece rest)
      → GoesOn d c' (items ++ u.on.more) ((bytes ++ u.prefix) ++ take used rest)
      → CountsUpTo c' items bytes piece later
  up_to {c' = c'} {items = items} {bytes = bytes} {rest = rest} used so u g = record {
    prefix = u.prefix ++ take used rest;
    whole = u.whole
        ∙ ap (λ (l : List ℕ). u.prefix ++ l)
        (sym (take-append-drop used rest) ∙ ap (λ (l : List ℕ). take used rest ++ l) (sym so))
        ∙ sym (append_assoc u.prefix (take used rest) _);
    on = goes_behind items u.on.more (subst (λ (l : List ℕ). GoesOn d c' (items ++ u.on.more) l)
        (append_assoc bytes u.prefix (take used rest)) g);
  }

  -- all of the piece was taken
  pub all_taken : {c : Counter X I} {items : List Told} {bytes piece rest : List ℕ} → length rest ≡ 0
      → CountsUpTo c items bytes piece rest → GoesOn d c items (bytes ++ piece)
  all_taken {c = c} {items = items} {bytes = bytes} {rest = []} none u =
      subst (λ (l : List ℕ). GoesOn d c items (bytes ++ l)) (sym (u.whole ∙ append-nil u.prefix)) u.on
  all_taken {rest = b ∷ rest} none u = absurd (omega (arith, none))

  -- or the rest of it stops the counter
  pub stops_piece : {c : Counter X I} {items : List Told} {bytes piece rest : List ℕ} (c' : Counter X I)
      (L M : Bounds) (e : Fault)
      → L ≡ M → (u : CountsUpTo c items bytes piece rest)
      → Stops d L (items ++ u.on.more) ((bytes ++ u.prefix) ++ rest) (tally_of c') e
      → Stops d M items (bytes ++ piece) (tally_of c') e
  stops_piece {items = items} {bytes = bytes} {piece = piece} {rest = rest} c' L M e same u f =
      subst (λ (L : Bounds). Stops d L items (bytes ++ piece) (tally_of c') e) same
      (stops_behind L items u.on.more (bytes ++ piece) (tally_of c') e
      (subst (λ (l : List ℕ). Stops d L (items ++ u.on.more) l (tally_of c') e)
      (append_assoc bytes u.prefix rest ∙ ap (λ (l : List ℕ). bytes ++ l) (sym u.whole)) f))

  -- ---- at the error that a `?` returns
  pub steps_at : (c c' : Counter X I) (items : List Told) (bytes piece : List ℕ) (r : Result ℕ Fault) (e : Fault)
      → IsErrAnd r (λ x. x ≡ e)
      → Stops d (d.limits (session_of c)) items (bytes ++ piece) (tally_of c') e
      → StepsCounting d c c' items bytes piece r
  steps_at c c' items bytes piece (Ok used) e is f = absurd is
  steps_at c c' items bytes piece (Err g) e is f =
      subst (λ e. Stops d (d.limits (session_of c)) items (bytes ++ piece) (tally_of c') e) (sym is) f

  pub counts_at : (c c' : Counter X I) (items : List Told) (bytes : List ℕ) (r : Result (Unit {0}) Fault) (e : Fault)
      → IsErrAnd r (λ x. x ≡ e) → Stops d (d.limits (session_of c)) items bytes (tally_of c') e
      → CountsOn d c c' items bytes r
  counts_at c c' items bytes (Ok u) e is f = absurd is
  counts_at c c' items bytes (Err g) e is f =
      subst (λ e. Stops d (d.limits (session_of c)) items bytes (tally_of c') e) (sym is) f

  -- ---- the end
  pub ends : {c : Counter X I} {items : List Told} {bytes : List ℕ} (T : Table) (s' : X)
      (r : Result (Unit {0}) Fault) → HasCounted d c items bytes
      → FinishAnswersBy d T (session_of c) s' items bytes r → EndsCounting d c items bytes r
  ends {c = c} {items = items} {bytes = bytes} T s' (Ok u) h f =
      let t = h.tallied in
      let L = d.within (d.limits (session_of c)) in
      let same = h.countable.one_stream L items t.prefix bytes t.rest [] t.is_theirs.table
      (types (d.table (session_of c))) t.is_theirs.stream f.0 (sym t.whole ∙ sym (append-nil bytes)) in
      subst (λ (b : List ℕ). IsTally d L items b (tally_of c)) same.0 t.is_theirs
  ends T s' (Err (fault.Refused R)) h f = f.0.outcome
  ends T s' (Err fault.Read) h f = f
  ends T s' (Err fault.Memory) h f = f
  ends T s' (Err fault.Failed) h f = f

  -- nothing changes where the session's end changes nothing
  pub unchanged : (c : Counter X I) (s' : X) (r : Result (Unit {0}) Fault) → IfOk r (λ _. s' ≡ session_of c)
      → IfOk r (λ _. record { session = s'; tally = c.tally; taken = c.taken } ≡ c)
  unchanged c s' (Ok u) same = ap (λ s. record { session = s; tally = c.tally; taken = c.taken }) same
  unchanged c s' (Err e) same = same

  -- ---- bytes that are held in memory
  check_stops : (L : Bounds) (bytes : List ℕ) (tally : Tally) (e : Fault) → Stops d L [] bytes tally e
      → ChecksBytes d L bytes tally (Err e)
  check_stops L bytes tally (fault.Refused R) f = (
    f.more,
    subst (λ (l : List ℕ). OutcomeIn d.grammar (d.within L) l f.more (refused R)) (append-nil bytes) (f.shows []),
    f.tallied,
  )
  check_stops L bytes tally fault.Read f = f
  check_stops L bytes tally fault.Memory f = tt
  check_stops L bytes tally fault.Failed f = f

  check_ends : (c : Counter X I) (items : List Told) (bytes : List ℕ) (r : Result (Unit {0}) Fault)
      → HasCounted d c items bytes → EndsCounting d c items bytes r
      → ChecksBytes d (d.limits (session_of c)) bytes (tally_of c) r
  check_ends c items bytes (Ok u) h f = (items, f)
  check_ends c items bytes (Err (fault.Refused R)) h f = (items, f, h.tallied)
  check_ends c items bytes (Err fault.Read) h f = f
  check_ends c items bytes (Err fault.Memory) h f = absurd f
  check_ends c items bytes (Err fault.Failed) h f = f

  pub checks_as : (L M : Bounds) (bytes : List ℕ) (a b : Tally) (r : Result (Unit {0}) Fault) → L ≡ M → a ≡ b
      → ChecksBytes d L bytes a r → ChecksBytes d M bytes b r
  checks_as L M bytes a b r same e f =
      subst (λ (t : Tally). ChecksBytes d M bytes t r) e (subst (λ (L : Bounds). ChecksBytes d L bytes a r) same f)

  -- the piece stopped the counter
  pub bytes_refused : (bytes : List ℕ) (c c' : Counter X I) (r : Result (Unit {0}) Fault) (e : Fault)
      → IsErrAnd r (λ x. x ≡ e) → CountsOn d c c' [] bytes (Err e)
      → ChecksBytes d (d.limits (session_of c)) bytes (tally_of c') r
  bytes_refused bytes c c' (Ok u) e is f = absurd is
  bytes_refused bytes c c' (Err g) e is f =
      subst (λ e. ChecksBytes d (d.limits (session_of c)) bytes (tally_of c') (Err e)) (sym is)
      (check_stops _ bytes (tally_of c') e f)

  -- or none did
  pub bytes_counted : (L : Bounds) (bytes : List ℕ) (c : Counter X I) (items : List Told) (tally : Tally)
      (r : Result (Unit {0}) Fault) → d.limits (session_of c) ≡ L → tally ≡ tally_of c → HasCounted d c items bytes
      → EndsCounting d c items bytes r → ChecksBytes d L bytes tally r
  bytes_counted L bytes c items tally r same e h f =
      checks_as _ L bytes (tally_of c) tally r same (sym e) (check_ends c items bytes r h f)
