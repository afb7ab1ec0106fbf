-- How a stream is read for the type of its first value.
use Rattle.std.proofs.Common.{◌≡◌, ℕ, arith, List, [], ◌∷◌, ◌++◌, Option, Some, None, Result, Ok, Err}
use Rattle.std.proofs.Common.{◌∙◌, ◌<◌, ◌^◌, ap, sym, subst, refl, append_assoc, append-nil, IfSome}
use Rattle.std.specs.Io.KnownBytes.{Appends}
use Rattle.gob_types.specs.Base.{base_table}
use Rattle.gob_value.specs.View.{view}
use Rattle.gob_types.specs.declared.id.TypeId.{TypeId}
use Rattle.gob_types.specs.Ready.{IsReady}
use Rattle.gob_types.specs.Table.{Table}
use Rattle.gob_read.specs.Calls.Builders.{tree_building}
use Rattle.gob_value.specs.declared.value.Value.{Value}
use Rattle.gob_stream.specs.Bounds.{Bounds, within_trees}
use Rattle.gob_stream.specs.Calls.Session.{types_of}
use Rattle.gob_stream.specs.Devices.{counts_up}
use Rattle.gob_stream.specs.Item.{StreamItem, defines, item_view, puts}
use Rattle.gob_stream.specs.Stream.{Stream}
use Rattle.gob_stream.specs.declared.item.Item.TheVariants as variant
use Rattle.gob_stream.specs.Reading.{CountsReads}
use Rattle.gob_stream.specs.declared.fault.Fault.{Fault}
use Rattle.gob_stream.specs.declared.fault.Fault.TheVariants as reading
use Rattle.gob_stream.specs.declared.item.Item as declared
use Rattle.gob_stream.specs.declared.session.Advance.{Advance}
use Rattle.gob_stream.specs.Calls.Reader.{EndsWith, GivesItems, gives_none, gives_one, HasReadFrom, StepsOnFrom}
use Rattle.gob_stream.specs.Calls.Reader.{Stops, session_of}
use Rattle.gob_tool.specs.declared.fault.ToolFault.{ToolFault}
use Rattle.gob_tool.specs.declared.fault.ToolFault.TheVariants as fault
use Rattle.gob_tool.specs.Fault.{wanted_fault}
use Rattle.gob_tool.specs.Machine.Taken.{AreSent, CountsPiece, FindsSo, FirstIsReady, IsWantedOf, Notes, ReadsWanted}
use Rattle.gob_tool.specs.Machine.Taken.{defined}
use Rattle.gob_tool.specs.Machine.Taken.{first_type_of}
use Rattle.gob_tool.specs.Machine.Taken.{sent, views_given}
use Rattle.gob_tool.specs.Machine.Lines.{Trees}
use Rattle.gob_tool.specs.Converting.{in_front}
use Rattle.gob_tool.specs.Taking.{HasWanted, LacksWanted, Receiving, first_type, takes_behind}
use Rattle.gob_tool.specs.Showing.{AppendsPrefix}
use Rattle.gob_tool.specs.Machine.Received.{AreSpelled, FormAnswers, HasIn, none_spelled, spelled}
use Rattle.gob_tool.specs.Machine.Rewritten.{IsLastOfStream}
use Rattle.gob_tool.specs.declared.received_form.ReceivedForm.{ReceivedForm}
use Rattle.gob_tool.proofs.LinesStay.{keeps_itself}
use Rattle.gob_tool.proofs.ReceivedLaws.{stream_sent}
use Rattle.gob_tool.proofs.RewriteLaws.{is_last}
use Rattle.gob_tool.proofs.ShowLaws.{meant}
use Rattle.gob_tool.proofs.TakeRuns.{given_views, KnowsWanted}

first_append : (items others : List StreamItem) → first_type (items ++ others)
    ≡ first_type_of (first_type items) (first_type others)
first_append [] others = refl
first_append (defines id v ∷ items) others = first_append items others
first_append (puts id v ∷ items) others = refl

-- it is ready, and has a type number
first_sent : {T : Table} (items : List StreamItem) (id : TypeId) → AreSent T items → first_type items ≡ Some id
    → IsReady T id × (id.0 < 2 ^ 63)
first_sent [] id s e = absurd (cc e)
first_sent (defines i v ∷ items) id (defined s) e = first_sent items id s e
first_sent {T = T} (puts i v ∷ items) id (sent r n f s) e =
    let same : i ≡ id = cc in subst (λ (t : TypeId). IsReady T t × (t.0 < 2 ^ 63)) same (r, n)

pub first_ready : {r : Trees} {read now : Option (List ℕ)} {definitions : List ℕ} (T : Table) (first : Option TypeId)
    → T ≡ types_of (session_of r) → FindsSo r read now first definitions → FirstIsReady T (Ok first)
first_ready T None same p = tt
first_ready {r = r} T (Some id) same p =
    subst (λ (T : Table). IsReady T id × (id.0 < 2 ^ 63)) (sym same)
    (first_sent p.given id (stream_sent (omega arith) p.has.gave.stream (keeps_itself (types_of (session_of r))))
    (sym p.is))

-- ---- from step to step
pub finds_first : (r : Trees) (read : Option (List ℕ)) (definitions : List ℕ) → definitions ≡ []
    → HasReadFrom tree_building r read read [] → FindsSo r read read None definitions
finds_first r read definitions empty has =
    record { given = []; has = has; is = refl; are = subst (AreSpelled []) (sym empty) none_spelled }

-- ---- the definitions in front of the first value
-- behind a value none is, and else all are that stand in front of one of the others
front_known : (items others : List StreamItem) (id : TypeId) → first_type items ≡ Some id
    → in_front (items ++ others) ≡ in_front items
front_known [] others id e = absurd (cc e)
front_known (defines i v ∷ items) others id e = ap (λ l. defines i v ∷ l) (front_known items others id e)
front_known (puts i v ∷ items) others id e = refl

front_unknown : (items others : List StreamItem) → first_type items ≡ None
    → in_front (items ++ others) ≡ in_front items ++ in_front others
front_unknown [] others e = refl
front_unknown (defines i v ∷ items) others e = ap (λ l. defines i v ∷ l) (front_unknown items others e)
front_unknown (puts i v ∷ items) others e = absurd (cc e)

spelled_append : {items others : List StreamItem} {a b : List ℕ} → AreSpelled items a → AreSpelled others b
    → AreSpelled (items ++ others) (a ++ b)
spelled_append none_spelled q = q
spelled_append {others = others} {b = b} (spelled {i = i} {items = items} {text = text} {more = more} p ps) q =
    subst (AreSpelled (i ∷ items ++ others)) (sym (append_assoc text more b)) (spelled p (spelled_append ps q))

spelled_more : (given : List StreamItem) (known : Option TypeId) (o : Option (declared.Item Value)) {old new : List ℕ}
    → first_type given ≡ known → AreSpelled (in_front given) old → Notes known o old new
    → AreSpelled (in_front (given ++ views_given o)) new
spelled_more given (Some id) o {new = new} e p n =
    subst (λ l. AreSpelled l new) (sym (front_known given (views_given o) id e))
    (subst (AreSpelled (in_front given)) (sym n) p)
spelled_more given None None {new = new} e p n =
    subst (λ l. AreSpelled (in_front l) new) (sym (append-nil given)) (subst (AreSpelled (in_front given)) (sym n) p)
spelled_more given None (Some (variant.Define id described)) {new = new} e p n =
    let item = defines id (view described) in
    subst (λ l. AreSpelled l new) (sym (front_unknown given (item ∷ []) e))
    (subst (AreSpelled (in_front given ++ item ∷ [])) (sym n.appended)
    (spelled_append p (subst (AreSpelled (item ∷ [])) (append-nil n.bytes) (spelled n.spelled none_spelled))))
spelled_more given None (Some (variant.Put id value)) {new = new} e p n =
    subst (λ l. AreSpelled l new)
    (sym (front_unknown given (puts id (view value) ∷ []) e ∙ append-nil (in_front given)))
    (subst (AreSpelled (in_front given)) (sym n) p)

-- an item that was given is the last of a stream
pub step_last : {L : Bounds} {T U : Table} {bytes : List ℕ} {o : Option (declared.Item Value)} {more : List StreamItem}
    (given : List StreamItem) → GivesItems tree_building.means o more → Stream base_table L (given ++ more) bytes T
    → U ≡ T → IfSome o (λ g. IsLastOfStream U (item_view g))
step_last given gives_none s same = tt
step_last {L = L} {T = T} {bytes = bytes} given (gives_one {given = g} {i = i} m) s same =
    subst (λ U. IsLastOfStream U (item_view g)) (sym same)
    (is_last given (subst (λ i. Stream base_table L (given ++ i ∷ []) bytes T) (sym (meant m)) s))

pub finds_step : {r q r' : Trees} {read now next : Option (List ℕ)} {first found : Option TypeId}
    {definitions more : List ℕ} {step : Advance (declared.Item Value)}
    (p : FindsSo r read now first definitions) → StepsOnFrom tree_building q r' read next p.given step
    → found ≡ first_type_of first (first_type (views_given step.item)) → Notes first step.item definitions more
    → FindsSo r' read next found more
finds_step {first = first} {definitions = definitions} {more = more} {step = step} p t e n = record {
  given = p.given ++ t.more;
  has = t.takes.after;
  is = e ∙ ap (λ o. first_type_of o (first_type (views_given step.item))) p.is
      ∙ ap (λ l. first_type_of (first_type p.given) (first_type l)) (given_views t.gives)
      ∙ sym (first_append p.given t.more);
  are = subst (λ l. AreSpelled (in_front (p.given ++ l)) more) (given_views t.gives)
      (spelled_more p.given first step.item (sym p.is) p.are n);
}

-- ---- the ends
pub wanted_stops : (L M : Bounds) (T T' : Table) (items : List StreamItem) (bytes : List ℕ) (now : Option (List ℕ))
    (e : Fault)
    → L ≡ M → (definitions : List ℕ) → Stops (within_trees L) T items bytes now e
    → ReadsWanted (within_trees M) bytes now T' definitions (Err e)
wanted_stops L M T T' items bytes now e same definitions s =
    subst (λ (L : Bounds). LacksWanted (within_trees L) bytes now (wanted_fault e)) same (at e s)
  where
    at : (e : Fault) → Stops (within_trees L) T items bytes now e
        → LacksWanted (within_trees L) bytes now (wanted_fault e)
    at (reading.Refused R) s = (items, s.outcome)
    at reading.Read s = record { bytes = s.bytes; taken = s.taken; holds = (items, s.holds.gives) }
    at reading.Memory s = tt
    at reading.Failed s = absurd s

pub wanted_ends : (L M : Bounds) (T T' : Table) (taken : ℕ) (items : List StreamItem) (bytes : List ℕ)
    (now : Option (List ℕ))
    (first : Option TypeId) → L ≡ M → T' ≡ T → EndsWith (within_trees L) T taken items bytes now
    → first ≡ first_type items → {definitions : List ℕ} → AreSpelled (in_front items) definitions
    → ReadsWanted (within_trees M) bytes now T' definitions (Ok first)
wanted_ends L M T T' taken items bytes now None same table e is are =
    subst (λ (L : Bounds). LacksWanted (within_trees L) bytes now fault.NoWantedType) same (
      items,
      T,
      e.stream,
      e.end,
      sym is,
    )
wanted_ends L M T T' taken items bytes now (Some id) same table e is {definitions = definitions} are =
    subst (λ (L : Bounds). HasWanted (within_trees L) bytes now (IsWantedOf T' id definitions)) same (record {
      items = items;
      table = T;
      stream = e.stream;
      end = e.end;
      id = id;
      first = sym is;
      holds = (sym table, refl, are);
    })

-- ---- what is counted
pub piece_counts : (B : Type 0) (old mid new : ℕ) (e : Fault) → mid ≡ old → CountsReads {A = B} mid new (Err e)
    → CountsPiece {A = Option TypeId} old new (Err e)
piece_counts B old mid new (reading.Refused R) same h = h ∙ same
piece_counts B old mid new reading.Read same h = h.0 ∙ ap (λ n. counts_up n 1) same
piece_counts B old mid new reading.Memory same h = h ∙ same
piece_counts B old mid new reading.Failed same h = h ∙ same

pub step_counts : (old new : ℕ) (e : Fault) → new ≡ old → (e ≡ reading.Read → ⊥)
    → CountsPiece {A = Option TypeId} old new (Err e)
step_counts old new (reading.Refused R) same other = same
step_counts old new reading.Read same other = absurd (other refl)
step_counts old new reading.Memory same other = same
step_counts old new reading.Failed same other = same

-- ---- the run
pub found_wanted : (how : ReceivedForm) {L : Bounds} {wanted : List ℕ} {wanted_now : Option (List ℕ)} {V W : Table}
    {t : TypeId} {definitions bytes : List ℕ} {now old new : Option (List ℕ)} {r : Result (Unit {0}) ToolFault}
    → HasWanted L wanted wanted_now (IsWantedOf V t definitions) → W ≡ V
    → ((given : List StreamItem) → KnowsWanted L W t definitions given
    → Receiving L bytes now W t (HasIn how L given W t (Appends old new))
    (HasIn how L given W t (AppendsPrefix old new))
    r) → FormAnswers how L wanted bytes wanted_now now old new r
found_wanted how {L = L} {wanted = wanted} {W = W} {t = t} {bytes = bytes} {now = now} {old = old} {new = new} {r = r} h
    e behind = takes_behind (record {
      items = h.items;
      table = h.table;
      stream = h.stream;
      end = h.end;
      id = h.id;
      first = h.first;
      holds = subst (λ (u : TypeId). Receiving L bytes now h.table u (HasIn how L h.items h.table u (Appends old new))
          (HasIn how L h.items h.table u (AppendsPrefix old new)) r) (sym h.holds.1)
          (subst (λ (U : Table). Receiving L bytes now U t (HasIn how L h.items U t (Appends old new))
          (HasIn how L h.items U t (AppendsPrefix old new)) r) (e ∙ sym h.holds.0) (behind h.items (record {
            bytes = wanted;
            stream = subst (λ (U : Table). Stream base_table L h.items wanted U) (h.holds.0 ∙ sym e) h.stream;
            first = h.first ∙ ap (λ u. Some u) h.holds.1;
            front = h.holds.2;
          })));
    })
