-- How the definitions in front of the wanted stream's first value are put, and what is found there.
use Rattle.std.proofs.Common.{◌≡◌, ◌∙◌, ap, arith, refl, subst, sym, append_assoc, append-nil, ℕ, ◌<◌, length}
use Rattle.std.proofs.Common.{map}
use Rattle.std.proofs.Common.{List, [], ◌∷◌, ◌++◌, Option, None, Some, Result, Ok, Err, IfErr, IfOk}
use Rattle.std.proofs.Math.Seq.{drop-append_seam}
use Rattle.std.proofs.lemmas.List.{map-append}
use Rattle.std.specs.Prelude.{IfSome}
use Rattle.gob_types.specs.Base.{base_table}
use Rattle.gob_types.specs.Defined.{IsTable, types}
use Rattle.gob_types.specs.Ready.{IsReady}
use Rattle.gob_types.specs.Table.{Table}
use Rattle.gob_types.specs.declared.id.TypeId.{TypeId}
use Rattle.gob_types.specs.declared.kind.Shape.{Shape}
use Rattle.gob_value.specs.Top.{SpellsTop}
use Rattle.gob_value.specs.Tree.{Tree}
use Rattle.gob_value.specs.View.{view}
use Rattle.gob_value.specs.declared.value.Value.{Value}
use Rattle.gob_rename.specs.Fitting.{AllFit}
use Rattle.gob_rename.specs.Renaming.{ids_defined, renamed}
use Rattle.gob_rename.specs.declared.rename.Rename.{Rename}
use Rattle.gob_rename.proofs.PublicLaws.{ready_follows, renamed_back, renamed_on, top_follows}
use Rattle.gob_stream.specs.Bounds.{Bounds, within_trees}
use Rattle.gob_stream.specs.Calls.ReaderOf.{StopsBy}
use Rattle.gob_stream.specs.declared.fault.Fault.{Fault}
use Rattle.gob_stream.specs.declared.fault.Fault.TheVariants as reading
use Rattle.gob_stream.specs.declared.session.Advance.{Advance}
use Rattle.gob_filled.specs.Definition.{defines}
use Rattle.gob_filled.specs.Filled.{Filled}
use Rattle.gob_filled.specs.Stream.{FilledItem, defining, putting, FilledStream, AreFilledItems, IsFilledItem}
use Rattle.gob_filled.specs.Stream.{of_definition, of_value, no_more, and_then}
use Rattle.gob_go.specs.Calls.Reader.{EndsWith, GivesItems, GoReader, HasReadFrom, StepsOnFrom, gives_none, gives_one}
use Rattle.gob_go.specs.Calls.Reader.{session_of}
use Rattle.gob_go.specs.Calls.Session.{limits_of, types_of}
use Rattle.gob_go.specs.GoStepping.{go_stepping}
use Rattle.gob_go.specs.Meaning.{ItemMeans, means_definition}
use Rattle.gob_go.specs.declared.item.GoItem.{GoItem}
use Rattle.gob_go.specs.declared.item.GoItem.TheVariants as item
use Rattle.gob_go_writer.specs.Calls.Writer.{HasPut, PutsItem}
use Rattle.gob_go_writer.specs.Calls.Writer as writer
use Rattle.gob_join.proofs.JoiningLaws.{one_behind}
use Rattle.gob_tool.specs.Fault.{wanted_fault}
use Rattle.gob_tool.specs.declared.fault.ToolFault.TheVariants as fault
use Rattle.gob_convert.specs.Converting.{first_type, in_front}
use Rattle.gob_convert.specs.Running.{HasWanted, LacksWanted}
use Rattle.gob_convert.specs.declared.fault.ConvertFault.{ConvertFault}
use Rattle.gob_convert.specs.declared.fault.ConvertFault.TheVariants as stop
use Rattle.gob_convert.specs.declared.wanted.Front.{Front}
use Rattle.gob_convert.specs.declared.wanted.Target.{Target}
use Rattle.gob_convert.specs.Machine.Wanted.{FindsNone, FrontNext, FrontOn, FrontSo, FrontWhole, IsFound}
use Rattle.gob_convert.specs.Machine.Wanted.{IsFront, IsSomeFront}
use Rattle.gob_convert.specs.Machine.Wanted.{IsTarget, IsTargetStop, IsWantedStop, NotesItem, StopsPutting}

-- ---- definitions that are put
none_read : {L : Bounds} {T U : Table} {o : ℕ} {items : List FilledItem} {b : List ℕ}
    → AreFilledItems base_table L T o items b U → items ≡ [] → U ≡ T
none_read no_more e = refl
none_read (and_then i n is) e = absurd (cc e)

pub front_new : {f : Front} → HasPut f.writer [] f.bytes.items → f.ids.items ≡ [] → IsFront [] f
front_new h e = record {
  put = h;
  more = [];
  types_are = none_read h.whole.stream refl ∙ sym (append-nil base_table);
  ids_are = e;
}

one_defined : {base : Table} {L : Bounds} {T U : Table} {o : ℕ} {id : TypeId} {v : Tree} {b : List ℕ}
    → IsFilledItem base L T o (defining id v) b U → (s : Shape) × (U ≡ T ++ (id, s) ∷ [])
one_defined (of_definition n l t (defines {s = s} may deep de i sg sp)) = (s, refl)

pub front_then : {f f' : Front} {items : List FilledItem} {id : TypeId} {described : Value} {kept : GoItem}
    → kept ≡ item.Define id described → IsFront items f
    → PutsItem f.writer f'.writer items f.bytes.items kept f.bytes.items f'.bytes.items
    → f'.ids.items ≡ f.ids.items ++ id ∷ [] → IsFront (items ++ defining id (view described) ∷ []) f'
front_then {f = f} {f' = f'} {items = items} {id = id} {described = described} is h p e =
    by p.item (subst (λ k. ItemMeans (writer.types_of f'.writer) k p.item) is p.means) p.is p.written
  where
    by : (i : FilledItem) → ItemMeans (writer.types_of f'.writer) (item.Define id described) i
        → IsFilledItem base_table (within_trees (writer.limits_of f.writer)) (writer.types_of f.writer)
        (length f.bytes.items) i p.more (writer.types_of f'.writer)
        → HasPut f'.writer (items ++ i ∷ []) (f.bytes.items ++ p.more)
        → IsFront (items ++ defining id (view described) ∷ []) f'
    by i means_definition one put =
        let d = one_defined one in
        record {
          put = subst (λ b. HasPut f'.writer (items ++ defining id (view described) ∷ []) b) (sym p.out) put;
          more = h.more ++ (id, d.0) ∷ [];
          types_are = d.1 ∙ ap (λ (T : Table). T ++ (id, d.0) ∷ []) h.types_are
              ∙ append_assoc base_table h.more ((id, d.0) ∷ []);
          ids_are = e ∙ ap (λ (l : List TypeId). l ++ id ∷ []) h.ids_are
              ∙ sym (map-append (λ (entry : TypeId × Shape). entry.0) h.more ((id, d.0) ∷ []));
        }

pub front_ids : {f : Front} {items : List FilledItem} → IsFront items f
    → f.ids.items ≡ ids_defined (writer.types_of f.writer)
front_ids h = h.ids_are
    ∙ ap (λ (T : Table). map (λ entry. entry.0) T) (sym (drop-append_seam base_table h.more))
    ∙ ap (λ (T : Table). ids_defined T) (sym h.types_are)

-- ---- the first value
known_on : {t : TypeId} (given more : List FilledItem) → first_type given ≡ Some t
    → (first_type (given ++ more) ≡ Some t) × (in_front (given ++ more) ≡ in_front given)
known_on [] more e = absurd (cc e)
known_on (defining id v ∷ given) more e =
    let k = known_on given more e in (k.0, ap (λ l. defining id v ∷ l) k.1)
known_on (putting id w ∷ given) more e = (e, refl)

unknown_on : (given more : List FilledItem) → first_type given ≡ None
    → (first_type (given ++ more) ≡ first_type more) × (in_front (given ++ more) ≡ given ++ in_front more)
unknown_on [] more e = (refl, refl)
unknown_on (defining id v ∷ given) more e =
    let k = unknown_on given more e in (k.0, ap (λ l. defining id v ∷ l) k.1)
unknown_on (putting id w ∷ given) more e = absurd (cc e)

all_in_front : (given : List FilledItem) → first_type given ≡ None → in_front given ≡ given
all_in_front [] e = refl
all_in_front (defining id v ∷ given) e = ap (λ l. defining id v ∷ l) (all_in_front given e)
all_in_front (putting id w ∷ given) e = absurd (cc e)

-- items lead to the same types wherever they stand
same_behind : {L : Bounds} {T U V : Table} {o p : ℕ} {items all : List FilledItem} {b c : List ℕ}
    → AreFilledItems base_table L T o items b U → AreFilledItems base_table L T p all c V → all ≡ items → U ≡ V
same_behind no_more no_more e = refl
same_behind no_more (and_then a n is) e = absurd (cc e)
same_behind (and_then a n is) no_more e = absurd (cc e)
same_behind {L = L} {T = T} {U = Z} (and_then {next = n} {i = i} {items = is} {c = x} a u ks)
    (and_then {U = W} {offset = o} {i = j} {items = js} {b = y} b v ls) e =
    let first : j ≡ i = cc in
    let rest : js ≡ is = cc in
    let same = one_behind a (subst (λ k. IsFilledItem base_table L T o k y W) first b) in
    same_behind (subst (λ T. AreFilledItems base_table L T n is x Z) same ks) ls rest

-- the types in front of the last value, of which its own is ready
last_may : {L : Bounds} {T U : Table} {o : ℕ} {b : List ℕ} {t : TypeId} (w : Filled) (items : List FilledItem)
    → AreFilledItems base_table L T o (items ++ putting t w ∷ []) b U
    → (V : Table) × (c : List ℕ) × AreFilledItems base_table L T o items c V × IsReady V t
last_may {T = T} w [] (and_then (of_value may s k c) n rest) = (T, [], no_more, may.ready)
last_may w (i ∷ items) (and_then {b = a} x e rest) =
    let r = last_may w items rest in (r.0, a ++ r.1, and_then x e r.2, r.3)

pub first_ready : {f : Front} {L : Bounds} {U : Table} {b : List ℕ} {t : TypeId} (w : Filled) (given : List FilledItem)
    → first_type given ≡ None → IsFront (in_front given) f → writer.limits_of f.writer ≡ L
    → FilledStream base_table (within_trees L) (given ++ putting t w ∷ []) b U → IsReady (writer.types_of f.writer) t
first_ready {f = f} {L = L} {t = t} w given none h limits s =
    let r = last_may w given s in
    let mine = subst (λ (L : Bounds). FilledStream base_table (within_trees L) (in_front given) f.bytes.items
    (writer.types_of f.writer)) limits h.put.whole.stream in
    subst (λ T. IsReady T t) (same_behind r.2 mine (all_in_front given none)) r.3

-- a definition that was put
pub definition_noted : {f f' : Front} {T : Table} {id : TypeId} {described : Value} (known : Option TypeId)
    (kept : GoItem) (i : FilledItem) → known ≡ None → kept ≡ item.Define id described → ItemMeans T kept i
    → ((items : List FilledItem) → IsFront items f → IsFront (items ++ defining id (view described) ∷ []) f')
    → NotesItem known None i f f'
definition_noted {f = f} {f' = f'} {T = T} {id = id} {described = described} known kept i none is m put =
    subst (λ o. NotesItem o None i f f') (sym none) (by i (subst (λ k. ItemMeans T k i) is m))
  where
    by : (i : FilledItem) → ItemMeans T (item.Define id described) i → NotesItem None None i f f'
    by i means_definition = (refl, put)

put_finds : (L : Bounds) (bytes : List ℕ) (now : Option (List ℕ)) (e : ConvertFault) → StopsPutting e
    → FindsNone L bytes now e
put_finds L bytes now (stop.Misfits number why) s = s
put_finds L bytes now (stop.Full why) s = s
put_finds L bytes now (stop.Clash c) s = s
put_finds L bytes now (stop.Run (fault.Refused R)) s = s
put_finds L bytes now (stop.Run (fault.Wanted R)) s = absurd s
put_finds L bytes now (stop.Run fault.NoWantedType) s = absurd s
put_finds L bytes now (stop.Run (fault.Clash path why)) s = s
put_finds L bytes now (stop.Run (fault.LeftOut path number)) s = s
put_finds L bytes now (stop.Run fault.Read) s = absurd s
put_finds L bytes now (stop.Run fault.Write) s = s
put_finds L bytes now (stop.Run fault.Memory) s = s

-- ---- from item to item
pub front_start : {r : GoReader} {read : Option (List ℕ)} {f : Front} → HasReadFrom r read read [] → IsFront [] f
    → writer.limits_of f.writer ≡ limits_of (session_of r) → FrontSo r read read None f
front_start h p limits =
    record { given = []; has = h; first_is = refl; puts = p; ready = tt; limits = limits }

-- more was read
pub front_read : {r r' : GoReader} {read now next : Option (List ℕ)} {first : Option TypeId} {f : Front}
    (s : FrontSo r read now first f) → limits_of (session_of r') ≡ limits_of (session_of r)
    → HasReadFrom r' read next s.given → FrontSo r' read next first f
front_read s same h = record {
  given = s.given;
  has = h;
  first_is = s.first_is;
  puts = s.puts;
  ready = s.ready;
  limits = s.limits ∙ sym same;
}

module _ {r r' : GoReader} {read now : Option (List ℕ)} {f : Front} where
  -- nothing was given
  front_none : {first : Option TypeId} (s : FrontSo r read now first f)
      → limits_of (session_of r') ≡ limits_of (session_of r) → HasReadFrom r' read now (s.given ++ [])
      → FrontSo r' read now first f
  front_none s same h = front_read s same (subst (λ l. HasReadFrom r' read now l) (append-nil s.given) h)

  -- an item was
  front_item : {first' : Option TypeId} {f' : Front} (first : Option TypeId) (s : FrontSo r read now first f)
      → limits_of (session_of r') ≡ limits_of (session_of r) → (i : FilledItem)
      → HasReadFrom r' read now (s.given ++ i ∷ []) → NotesItem first first' i f f'
      → writer.limits_of f'.writer ≡ writer.limits_of f.writer → FrontSo r' read now first' f'
  front_item {first' = first'} {f' = f'} (Some t) s same i h n limits =
      let k = known_on s.given (i ∷ []) (sym s.first_is) in
      record {
        given = s.given ++ i ∷ [];
        has = h;
        first_is = n.0 ∙ sym k.0;
        puts = subst (λ l. IsFront l f') (sym k.1) (subst (λ f. IsFront (in_front s.given) f) (sym n.1) s.puts);
        ready = subst (λ o. IfSome o (IsReady (writer.types_of f'.writer))) (sym n.0)
            (subst (λ (f : Front). IsReady (writer.types_of f.writer) t) (sym n.1) s.ready);
        limits = limits ∙ s.limits ∙ sym same;
      }
  front_item {first' = first'} {f' = f'} None s same (putting t w) h n limits =
      let k = unknown_on s.given (putting t w ∷ []) (sym s.first_is) in
      record {
        given = s.given ++ putting t w ∷ [];
        has = h;
        first_is = n.0 ∙ sym k.0;
        puts = subst (λ l. IsFront l f') (all_in_front s.given (sym s.first_is) ∙ sym (append-nil s.given) ∙ sym k.1)
            (subst (λ f. IsFront (in_front s.given) f) (sym n.1) s.puts);
        ready = subst (λ o. IfSome o (IsReady (writer.types_of f'.writer))) (sym n.0)
            (subst (λ (f : Front). IsReady (writer.types_of f.writer) t) (sym n.1)
            (first_ready w s.given (sym s.first_is) s.puts (s.limits ∙ sym same) h.gave.stream));
        limits = limits ∙ s.limits ∙ sym same;
      }
  front_item {first' = first'} {f' = f'} None s same (defining id v) h n limits =
      let k = unknown_on s.given (defining id v ∷ []) (sym s.first_is) in
      record {
        given = s.given ++ defining id v ∷ [];
        has = h;
        first_is = n.0 ∙ sym k.0;
        puts = subst (λ l. IsFront l f') (ap (λ l. l ++ defining id v ∷ []) (all_in_front s.given (sym s.first_is))
            ∙ sym k.1) (n.1 (in_front s.given) s.puts);
        ready = subst (λ o. IfSome o (IsReady (writer.types_of f'.writer))) (sym n.0) tt;
        limits = limits ∙ s.limits ∙ sym same;
      }

  -- a step was taken that gave nothing
  pub front_step_none : {first : Option TypeId} {step : Advance GoItem} (s : FrontSo r read now first f)
      → limits_of (session_of r') ≡ limits_of (session_of r) → step.item ≡ None → 0 < step.used
      → StepsOnFrom r r' read now s.given step → FrontOn r r' read now first f
  front_step_none {first = first} {step = step} s same is some st = record {
    so = by (subst (λ o. GivesItems (types_of (session_of r')) o st.more) is st.gives) st.takes.after;
    onward = omega (arith, some, st.takes.onward);
  }
    where
      by : {more : List FilledItem} → GivesItems (types_of (session_of r')) None more
          → HasReadFrom r' read now (s.given ++ more) → FrontSo r' read now first f
      by gives_none h = front_none s same h

  -- or an item
  pub front_step : {first first' : Option TypeId} {f' : Front} {step : Advance GoItem} {kept : GoItem}
      (s : FrontSo r read now first f) → limits_of (session_of r') ≡ limits_of (session_of r)
      → step.item ≡ Some kept → 0 < step.used → StepsOnFrom r r' read now s.given step
      → ((T : Table) (i : FilledItem) → ItemMeans T kept i → NotesItem first first' i f f')
      → writer.limits_of f'.writer ≡ writer.limits_of f.writer → FrontOn r r' read now first' f'
  front_step {first = first} {first' = first'} {f' = f'} {step = step} {kept = kept} s same is some st n limits =
      record {
        so = by (subst (λ o. GivesItems (types_of (session_of r')) o st.more) is st.gives) st.takes.after;
        onward = omega (arith, some, st.takes.onward);
      }
    where
      by : {more : List FilledItem} → GivesItems (types_of (session_of r')) (Some kept) more
          → HasReadFrom r' read now (s.given ++ more) → FrontSo r' read now first' f'
      by (gives_one {i = i} m) h = front_item first s same i h (n (types_of (session_of r')) i m) limits

  -- what noting it answers
  pub front_noted : {first : Option TypeId} {step : Advance GoItem} {kept : GoItem} (f' : Front)
      (s : FrontSo r read now first f) → limits_of (session_of r') ≡ limits_of (session_of r)
      → step.item ≡ Some kept → 0 < step.used → StepsOnFrom r r' read now s.given step
      → (res : Result (Option TypeId) ConvertFault)
      → IfOk res (λ first'. (T : Table) (i : FilledItem) → ItemMeans T kept i → NotesItem first first' i f f')
      → IfErr res StopsPutting → writer.limits_of f'.writer ≡ writer.limits_of f.writer
      → FrontNext r r' read now f' res
  front_noted f' s same is some st (Ok first') n stop limits = front_step s same is some st n limits
  front_noted f' s same is some st (Err e) n stop limits = λ bytes known. put_finds _ bytes now e stop

-- ---- the ends
-- a read stopped it
pub front_stops : {L : Bounds} {read : Option (List ℕ)} (T : Table) (now : Option (List ℕ)) (given : List FilledItem)
    (r : GoReader) (e : Fault) → limits_of (session_of r) ≡ L → StopsBy go_stepping (session_of r) T read now given e
    → (bytes : List ℕ) → read ≡ Some bytes → LacksWanted (within_trees L) bytes now (wanted_fault e)
front_stops T now given r (reading.Refused R) same s bytes known =
    subst (λ (L : Bounds). LacksWanted (within_trees L) bytes now (fault.Wanted R)) same
    (given, (s bytes known).outcome)
front_stops T now given r reading.Read same s bytes known =
    let t = s bytes known in
    subst (λ (L : Bounds). LacksWanted (within_trees L) bytes now fault.Read) same
    (record { bytes = t.bytes; taken = t.taken; holds = (given, t.holds.gives) })
front_stops T now given r reading.Memory same s bytes known = tt
front_stops T now given r reading.Failed same s bytes known = tt

pub front_whole : {r : GoReader} {read now next : Option (List ℕ)} {first : Option TypeId} {f : Front} {T : Table}
    {taken : ℕ} {bytes : List ℕ} {L : Bounds} (s : FrontSo r read now first f) → limits_of (session_of r) ≡ L
    → EndsWith (within_trees (limits_of (session_of r))) T taken s.given bytes next
    → FrontWhole (within_trees L) bytes next first f
front_whole {T = T} {bytes = bytes} s same e = record {
  given = s.given;
  table = T;
  stream = subst (λ (L : Bounds). FilledStream base_table (within_trees L) s.given bytes T) same e.stream;
  end = e.end;
  first_is = s.first_is;
  puts = s.puts;
}

pub some_front : {r : GoReader} {read now : Option (List ℕ)} {first : Option TypeId} {f : Front}
    → FrontSo r read now first f → IsSomeFront first f
some_front s = record { items = in_front s.given; puts = s.puts; ready = s.ready }

-- ---- what was found
pub wanted_found : {L : Bounds} {bytes : List ℕ} {now : Option (List ℕ)} {first : Option TypeId} {id : TypeId}
    {f : Front} (P : List FilledItem → Table → TypeId → Type 0) (w : FrontWhole (within_trees L) bytes now first f)
    → first ≡ Some id → writer.limits_of f.writer ≡ L → P w.given (writer.types_of f.writer) id
    → HasWanted (within_trees L) bytes now P
wanted_found {id = id} {f = f} P w is same h = record {
  items = w.given;
  behind = w.table;
  stream = w.stream;
  end = w.end;
  front = f.bytes.items;
  table = writer.types_of f.writer;
  in_front = subst (λ (L : Bounds). FilledStream base_table (within_trees L) (in_front w.given) f.bytes.items
      (writer.types_of f.writer)) same w.puts.put.whole.stream;
  id = id;
  first = sym w.first_is ∙ is;
  holds = h;
}

pub none_wanted : {L : Bounds} {bytes : List ℕ} {now : Option (List ℕ)} {first : Option TypeId} {f : Front}
    → FrontWhole L bytes now first f → first ≡ None → LacksWanted L bytes now fault.NoWantedType
none_wanted w is = (w.given, w.table, w.stream, w.end, sym w.first_is ∙ is)

pub is_target : {f : Front} {first : Option TypeId} {id : TypeId} {t : Target} (rs : List Rename)
    → IsSomeFront first f → first ≡ Some id → IsTable (writer.types_of f.writer)
    → types t.table ≡ renamed rs (writer.types_of f.writer) → t.id ≡ id → IsTarget f t
is_target {f = f} {id = id} {t = t} rs s is known e at =
    let F = writer.types_of f.writer in
    let ready : IsReady F id = subst (λ o. IfSome o (IsReady F)) is s.ready in
    record {
      ready = subst (λ W. IsReady W t.id) (sym e)
          (ready_follows (renamed_on rs known) (renamed_back rs known) (subst (λ u. IsReady F u) (sym at) ready));
      fits = record {
        each = λ v b p. top_follows (renamed_back rs known) (subst (λ W. SpellsTop W t.id v b) e p);
      };
    }

pub is_found : {f : Front} {t : Target} {given : List FilledItem} (rs : List Rename) (T : Table)
    → T ≡ writer.types_of f.writer → AllFit rs T → types t.table ≡ renamed rs T → HasPut f.writer (in_front given)
    f.bytes.items → IsFound rs f t given (writer.types_of f.writer) t.id
is_found rs T here fit e put = record {
  fit = subst (λ T. AllFit rs T) here fit;
  types_are = e ∙ ap (λ T. renamed rs T) here;
  id = refl;
  put = put;
}

-- ---- what stops it
pub wanted_stops : (e : Fault) → IsWantedStop (stop.Run (wanted_fault e))
wanted_stops (reading.Refused R) = tt
wanted_stops reading.Read = tt
wanted_stops reading.Memory = tt
wanted_stops reading.Failed = tt

pub put_stops : (e : ConvertFault) → StopsPutting e → IsWantedStop e
put_stops (stop.Misfits number why) s = s
put_stops (stop.Full why) s = s
put_stops (stop.Clash c) s = s
put_stops (stop.Run (fault.Refused R)) s = s
put_stops (stop.Run (fault.Wanted R)) s = absurd s
put_stops (stop.Run fault.NoWantedType) s = absurd s
put_stops (stop.Run (fault.Clash path why)) s = s
put_stops (stop.Run (fault.LeftOut path number)) s = s
put_stops (stop.Run fault.Read) s = absurd s
put_stops (stop.Run fault.Write) s = s
put_stops (stop.Run fault.Memory) s = s

pub target_stops : (e : ConvertFault) → IsWantedStop e → IsTargetStop e
target_stops (stop.Misfits number why) s = tt
target_stops (stop.Full why) s = s
target_stops (stop.Clash c) s = s
target_stops (stop.Run f) s = s
