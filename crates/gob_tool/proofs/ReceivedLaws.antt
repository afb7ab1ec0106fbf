-- What is received of the items of a stream stays the same when the table of the stream grows.
use Rattle.std.proofs.Common.{ℕ, ◌≤◌, List, ◌∷◌, ◌++◌, arith, sym, subst, append_assoc}
use Rattle.std.proofs.lemmas.Int.{ints}
use Rattle.gob_num.proofs.PublicLaws.{signed_fits}
use Rattle.gob_types.specs.declared.id.TypeId.{TypeId}
use Rattle.gob_types.specs.Ready.{IsReady}
use Rattle.gob_types.specs.Table.{Table}
use Rattle.gob_types.proofs.PublicLaws.{Keeps, ready_on}
use Rattle.gob_value.specs.Top.{SpellsTop, at_once, tagged}
use Rattle.gob_value.specs.Tree.{Tree, depth}
use Rattle.gob_value.specs.Within.{FitsWithin}
use Rattle.gob_value.proofs.PublicLaws.{spells_on}
use Rattle.gob_match.proofs.PublicLaws.{match_on, receives_on}
use Rattle.gob_stream.specs.Bounds.{Bounds}
use Rattle.gob_stream.specs.Item.{StreamItem, puts}
use Rattle.gob_stream.specs.Body.{definition as of_definition, value as of_value}
use Rattle.gob_stream.specs.Stream.{counted, AreItems, no_more, and_then}
use Rattle.gob_tool.specs.Machine.Taken.{AreSent, none_sent, defined, sent}
use Rattle.gob_tool.specs.Machine.Received.{AreReceivedIn, no_item, definition, value}
use Rattle.gob_tool.specs.Taking.{AreReceived, no_item as no_line, definition as no_line_of, value as line_of}
use Rattle.gob_tool.specs.declared.received_form.ReceivedForm.{ReceivedForm}
use Rattle.gob_tool.specs.declared.received_form.ReceivedForm.TheVariants as form
use Rattle.gob_tool.proofs.LinesStay.{stream_keeps, keeps_on}

-- ---- what was sent
spelled : {T : Table} {t : TypeId} {v : Tree} {b : List ℕ} → depth v ≤ 1000 → SpellsTop T t v b → FitsWithin T t 1000 v
spelled d (at_once e s p) = record { bytes = _; spelled = p; within = d }
spelled d (tagged e s p) = record { bytes = _; spelled = p; within = d }

fits_on : {T U : Table} {t : TypeId} {v : Tree} → Keeps T U → FitsWithin T t 1000 v → FitsWithin U t 1000 v
fits_on keeps f = record { bytes = f.bytes; spelled = spells_on keeps f.spelled; within = f.within }

-- each value of a stream is of a type that is ready, and fits it
pub stream_sent : {base : Table} {L : Bounds} {T V W : Table} {offset : ℕ} {items : List StreamItem} {b : List ℕ}
    → L.depth ≤ 1000 → AreItems base L T offset items b V → Keeps V W → AreSent W items
stream_sent deep no_more keeps = none_sent
stream_sent deep (and_then (counted u l s (of_definition p d x n q k)) e r) keeps = defined (stream_sent deep r keeps)
stream_sent deep (and_then (counted u l s (of_value p d n k)) e r) keeps =
    let on = keeps_on (stream_keeps r) keeps in
    let number = signed_fits n in
    sent (ready_on on p.ready) (omega (arith, ints, number)) (fits_on on (spelled (omega arith) k))
    (stream_sent deep r keeps)

-- ---- what is received
pub received_on : {how : ReceivedForm} {U : Table} {u : TypeId} (wanted : IsReady U u) {base : Table} {L : Bounds}
    {T V W : Table} {offset : ℕ} {items : List StreamItem} {b text : List ℕ} → AreItems base L T offset items b V
    → Keeps V W → AreReceivedIn how V U u items text → AreReceivedIn how W U u items text
received_on wanted no_more keeps no_item = no_item
received_on wanted (and_then (counted x l s (of_definition p d y n q k)) e r) keeps (definition h) = definition
    (received_on wanted r keeps h)
received_on wanted (and_then (counted x l s (of_value p d n k)) e r) keeps (value said m w is h) =
    value said (match_on keeps (ready_on (stream_keeps r) p.ready) wanted m) (receives_on keeps w) is
    (received_on wanted r keeps h)

-- one behind another
pub received_append : {how : ReceivedForm} {T U : Table} {u : TypeId} {items others : List StreamItem} {a b : List ℕ}
    → AreReceivedIn how T U u items a → AreReceivedIn how T U u others b
    → AreReceivedIn how T U u (items ++ others) (a ++ b)
received_append no_item q = q
received_append (definition p) q = definition (received_append p q)
received_append {how = how} {T = T} {U = U} {u = u} {others = others} {b = b} (value {t = t} {v = v} {items = items}
    {text = text} said m r is p) q =
    subst (λ (l : List ℕ). AreReceivedIn how T U u (puts t v ∷ (items ++ others)) l)
    (sym (append_assoc said text b)) (value said m r is (received_append p q))

-- as lines
pub lines_received : {T U : Table} {u : TypeId} {items : List StreamItem} {text : List ℕ}
    → AreReceivedIn form.Line T U u items text → AreReceived T U u items text
lines_received no_item = no_line
lines_received (definition h) = no_line_of (lines_received h)
lines_received {T = T} {U = U} {u = u} (value {t = t} {v = v} {items = items} {text = text} said m r is h) =
    subst (λ (l : List ℕ). AreReceived T U u (puts t v ∷ items) (l ++ text)) (sym is)
    (line_of m r (lines_received h))
