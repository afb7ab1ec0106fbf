-- Taking the bytes of a value or a description.
use Rattle.std.proofs.Common.{◌≡◌, ℕ, ◌-◌, ◌^◌, ◌<◌, ◌≤◌, List, [], ◌++◌, length, take, Some, None, Ok, Err, arith, sym}
use Rattle.std.proofs.Common.{subst, length-append}
use Rattle.std.proofs.lemmas.List.{length-take}
use Rattle.gob_types.specs.declared.id.TypeId.{TypeId}
use Rattle.gob_types.specs.Table.{Table}
use Rattle.gob_read.specs.Building.{Building}
use Rattle.gob_read.specs.Refusal as body
use Rattle.gob_read.specs.Refusal.{Refused, extra, too_deep, short_of, bad_head_at, not_minimal_at, not_allowed}
use Rattle.gob_read.specs.Calls.Reader.{ReaderHasRead, ReaderRefusesBody, Stops}
use Rattle.gob_read.specs.Calls.UnderWay.{under_way, HasEnded}
use Rattle.gob_read.specs.declared.stop.Stop.{Stop}
use Rattle.gob_read.specs.declared.stop.Stop.TheVariants as stop
use Rattle.gob_read.proofs.PublicLaws.{seen_within}
use Rattle.gob_read.specs.Calls.Reader.{ReaderGives}
use Rattle.gob_read.specs.declared.reader.BodyReader.{BodyReader}
use Rattle.gob_read.specs.declared.reader.Progress.{Progress}
use Rattle.gob_read.specs.declared.reader.Progress.TheVariants as progress
use Rattle.gob_stream.specs.declared.item.Item.TheVariants as item
use Rattle.gob_stream.specs.declared.stage.Stage.{Stage}
use Rattle.gob_stream.specs.declared.fault.Fault.{Fault}
use Rattle.gob_stream.specs.declared.stage.Extent.{Extent}
use Rattle.gob_stream.specs.Machine.Stages.{count_at, value_in}
use Rattle.gob_stream.specs.Machine.HasRead.{size}
use Rattle.gob_stream.specs.Machine.ReadParts.{IsBodyUnderWay, StopsWithin, fault_behind, ReadsValueIn, value_goes_on}
use Rattle.gob_stream.specs.Machine.ReadParts.{value_ends, value_refused, no_memory_for_value}

-- ---- what stands has taken no more than was announced
stood_within : (T : Table) (t : TypeId) (limit announced : ℕ) {X O : Type 0} {most : ℕ} (building : Building X O most)
    (reader : BodyReader X O) (z : List ℕ) → ReaderHasRead T t limit announced building.received (under_way reader) z
    → length z ≤ announced
stood_within T t limit announced building reader z =
    elim (under_way reader) as
    (λ run. ReaderHasRead T t limit announced building.received run z → length z ≤ announced) [
      | None ↦
          λ s. absurd s
      | Some run ↦ λ s. s.within
    ]

-- ---- a refusal is seen behind its place, and within the body
place_before : {T : Table} {t : TypeId} {limit announced : ℕ} {z : List ℕ} {R : body.Refusal}
    → Refused T t limit announced z R → R.place ≤ R.seen
place_before (extra r s e l) = omega arith
place_before (too_deep r a e l) = omega arith
place_before (short_of r a e n h) = omega arith
place_before (bad_head_at r a e h) = omega arith
place_before (not_minimal_at r a e h) = omega arith
place_before (not_allowed r a e u h) = omega arith

pub within_body : (z piece : List ℕ) (announced : ℕ) → length z ≤ announced
    → length (z ++ take (announced - length z) piece) ≤ announced
within_body z piece announced l = omega (
  arith,
  length-append z (take (announced - length z) piece),
  length-take (announced - length z) piece,
)

pub stops_within : {T : Table} {t : TypeId} {rest : Extent} {X O : Type 0} {most : ℕ} {building : Building X O most}
    (reader : BodyReader X O) (piece : List ℕ) (s : Stop) → IsBodyUnderWay T t rest building reader
    → rest.begin ≤ rest.end → rest.end < 2 ^ 64
    → Stops (under_way reader) (λ refusal. ReaderRefusesBody T building.received (under_way reader) piece refusal) s
    → StopsWithin rest.begin s
stops_within {T = T} {t = t} {rest = rest} {building = building} reader piece (stop.Refused place seen reason) u l n r =
    let first = r.each t u.limit (size rest) u.bytes u.after in
    let w = stood_within T t u.limit (size rest) building reader u.bytes u.after in
    let b = within_body u.bytes piece (size rest) w in
    let s = seen_within first.refused in
    let p = place_before first.refused in
    (omega arith, omega arith)
stops_within reader piece stop.Memory u l n r = tt
stops_within reader piece stop.Failed u l n r = tt

-- ---- why a value is stopped
pub not_ended : (T : Table) (t : TypeId) (limit announced : ℕ) {X O : Type 0} {most : ℕ} (building : Building X O most)
    (reader : BodyReader X O) (z : List ℕ) → ReaderHasRead T t limit announced building.received (under_way reader) z
    → HasEnded reader → ⊥
not_ended T t limit announced building reader z s e =
    subst (λ run. ReaderHasRead T t limit announced building.received run z) e s

pub value_stopped : {T : Table} {t : TypeId} {limit : ℕ} {rest : Extent} {X O : Type 0} {most : ℕ}
    {building : Building X O most} (reader : BodyReader X O) (z piece : List ℕ) (s : Stop) {f : Fault}
    → f ≡ fault_behind rest.begin s
    → Stops (under_way reader) (λ refusal. ReaderRefusesBody T building.received (under_way reader) piece refusal) s
    → ReaderHasRead T t limit (size rest) building.received (under_way reader) z → ReadsValueIn building T t limit rest
    z piece (Err f)
value_stopped {T = T} {t = t} {limit = limit} {rest = rest} {building = building} reader z piece
    (stop.Refused place seen reason) e r s =
    subst (λ f. ReadsValueIn building T t limit rest z piece (Err f)) (sym e)
    (value_refused (r.each t limit (size rest) z s))
value_stopped {T = T} {t = t} {limit = limit} {rest = rest} {building = building} reader z piece stop.Memory e r s =
    subst (λ f. ReadsValueIn building T t limit rest z piece (Err f)) (sym e) no_memory_for_value
value_stopped {T = T} {t = t} {limit = limit} {rest = rest} {building = building} reader z piece stop.Failed e r s =
    absurd (not_ended T t limit (size rest) building reader z s r)

pub value_more : {T : Table} {t : TypeId} {limit : ℕ} {rest : Extent} {X O : Type 0} {most : ℕ}
    {building : Building X O most} {p : Progress O} (reader : BodyReader X O) (z piece : List ℕ) → p ≡ progress.More
    → ReaderGives T t limit (size rest) building.received building.means (under_way reader) z piece p
    → ReadsValueIn building T t limit rest z piece
    (Ok (record { used = length piece; stage = value_in t rest reader; item = None }))
value_more {T = T} {t = t} {limit = limit} {rest = rest} {building = building} reader z piece e h =
    let g = subst (λ p. ReaderGives T t limit (size rest) building.received building.means (under_way reader) z piece p)
    e h in
    value_goes_on (record { after = g.after; viable = g.viable })

pub value_done : {T : Table} {t : TypeId} {limit : ℕ} {rest : Extent} {X O : Type 0} {most : ℕ}
    {building : Building X O most} {p : Progress O} {out : O} {used : ℕ} {st : Stage X O} (reader : BodyReader X O)
    (z piece : List ℕ)
    → p ≡ progress.Done out used
    → ReaderGives T t limit (size rest) building.received building.means (under_way reader) z piece p
    → st ≡ count_at rest.end []
    → ReadsValueIn building T t limit rest z piece
    (Ok (record { used = used; stage = st; item = Some (item.Put t out) }))
value_done {T = T} {t = t} {limit = limit} {rest = rest} {building = building} {out = out} {used = used} reader z
    piece e h f =
    let g = subst (λ p. ReaderGives T t limit (size rest) building.received building.means (under_way reader) z piece p)
    e h in
    subst (λ st. ReadsValueIn building T t limit rest z piece
    (Ok (record { used = used; stage = st; item = Some (item.Put t out) }))) (sym f) (value_ends g.within g.made)
