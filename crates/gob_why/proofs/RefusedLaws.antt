-- A refused item is there up to where it is explained.
use Rattle.std.proofs.Common.{◌≡◌, ℕ, ◌+◌, ◌-◌, ◌<◌, ◌≤◌, arith, List, [], ◌∷◌, ◌++◌, length, ap, sym, subst, ◌∙◌}
use Rattle.std.proofs.Common.{length-append}
use Rattle.std.proofs.lemmas.List.{take-append-le}
use Rattle.gob_num.proofs.PublicLaws.{unsigned_length}
use Rattle.gob_types.specs.Base.{base_table}
use Rattle.gob_types.specs.Table.{Table}
use Rattle.gob_types.specs.declared.id.TypeId.{TypeId}
use Rattle.gob_types.specs.declared.reason.Reason.{Reason}
use Rattle.gob_types.specs.declared.reason.Reason.TheVariants as reason
use Rattle.gob_read.specs.Refusal as body
use Rattle.gob_read.specs.Refusal.{Refused, bad_head_at, extra, not_allowed, not_minimal_at, short_of, too_deep}
use Rattle.gob_explain.specs.Items.{ShowsItem}
use Rattle.gob_stream.specs.Bounds.{Bounds}
use Rattle.gob_stream.specs.Refusing as refusing
use Rattle.gob_stream.specs.Refusing.{RefusesBody, RefusesCount, described_wrongly, item_too_long}
use Rattle.gob_stream.specs.Refusing.{refused_description, refused_id, refused_type, short, stream_too_long}
use Rattle.gob_stream.specs.declared.fault.Refusal.{Refusal}
use Rattle.gob_filled.specs.Outcome as filled
use Rattle.gob_filled.specs.Outcome.{EndsFilled, RefusesAt, RefusesFilled, RefusesInner, RefusesNextCount}
use Rattle.gob_filled.specs.Outcome.{as_in_an_item}
use Rattle.gob_filled.specs.Outcome.{in_skeleton, inner_count, next_count, next_refused, refused, refused_body}
use Rattle.gob_filled.specs.Outcome.{refused_count, short_name, too_long, within_an_item}
use Rattle.gob_filled.specs.Standing.{Level, Next, Stands, at_inner, at_value, behind_definition, behind_inner}
use Rattle.gob_filled.specs.Standing.{behind_name}
use Rattle.gob_filled.specs.Stream.{FilledItem, FilledStream}
use Rattle.gob_filled.proofs.Shown.{filled_there}
use Rattle.gob_go.proofs.ItemsLaws.{one_reading}
use Rattle.gob_why.specs.Explain.{IsRefusedText, explained_up_to, not_chosen, refused_so, up_to}
use Rattle.gob_why.specs.declared.explained.Explained.{Explained}

-- ---- the skeletons of open values are shorter than the bytes that lead there
abbrev AreShort : ℕ → List Level → Type 0
AreShort n [] = Unit {0}
AreShort n (lv ∷ levels) = (length lv.done < n) × AreShort (n - 1) levels

shorter : (levels : List Level) (n more : ℕ) → n ≤ more → AreShort n levels → AreShort more levels
shorter [] n more l s = tt
shorter (lv ∷ levels) n more l s =
    let d = s.0 in (omega arith, shorter levels (n - 1) (more - 1) (omega arith) s.1)

stand_short : {base : Table} {L : Bounds} {T : Table} {offset : ℕ} {z : List ℕ} {U : Table} {levels : List Level}
    {next : Next} {left : ℕ} → Stands base L T offset z U levels next left → AreShort (length z) levels
stand_short (at_value {c = c} {a = a} u l e s sg few may k) =
    let n = (unsigned_length u).0 in (omega (arith, length-append c a), tt)
stand_short (behind_name {z = z} {a = a} {lv = lv} {levels = levels} c s p ex dl sh some u fit) =
    let n = stand_short p in
    let d = n.0 in
    let size = length-append z (c ++ (a ++ s)) in
    let more = length-append c (a ++ s) in
    (omega (arith, length-append lv.done c), shorter levels _ _ (omega arith) n.1)
stand_short (behind_definition {z = z} {b = b} {c = c} {levels = levels} p def e k) =
    let n = stand_short p in
    let d = n.0 in
    let size = length-append z (b ++ c) in (omega arith, shorter levels _ _ (omega arith) n.1)
stand_short (at_inner {z = z} {n = b} {c = c} {levels = levels} p may sg u e l) =
    let n = stand_short p in
    let d = n.0 in
    let size = length-append z (b ++ c) in
    let more = length-append b c in
    let some = (unsigned_length u).0 in (omega arith, (omega arith, shorter levels _ _ (omega arith) n.1))
stand_short (behind_inner {z = z} {around = around} {levels = levels} b p sp de e) =
    let n = stand_short p in
    let d = n.1.0 in
    let size = length-append z b in
    (omega (arith, length-append around.done (0 ∷ [])), shorter levels _ _ (omega arith) n.1.1)

-- ---- a refusal is seen behind its place
in_body : {T : Table} {t : TypeId} {limit announced : ℕ} {z : List ℕ} {R : body.Refusal}
    → Refused T t limit announced z R → R.place ≤ R.seen
in_body (extra r s e l) = omega arith
in_body (too_deep r a e l) = omega arith
in_body (short_of r a e n h) = omega arith
in_body (bad_head_at r a e h) = omega arith
in_body (not_minimal_at r a e h) = omega arith
in_body (not_allowed r a e u h) = omega arith

record IsInOrder (offset : ℕ) (R : Refusal) : Type 0 where
  behind : offset ≤ R.place
  order : R.place ≤ R.seen

count_order : {L : Bounds} {offset : ℕ} {z : List ℕ} {R : Refusal} → RefusesCount L offset z R → IsInOrder offset R
count_order (refusing.RefusesCount.bad_head h) = record { behind = omega arith; order = omega arith }
count_order (refusing.RefusesCount.not_minimal h) = record { behind = omega arith; order = omega arith }
count_order (item_too_long r e u l) = record { behind = omega arith; order = omega arith }
count_order (stream_too_long r e u l k) = record { behind = omega arith; order = omega arith }

body_order : {base : Table} {L : Bounds} {T : Table} {offset m : ℕ} {y : List ℕ} {R : Refusal}
    → RefusesBody base L T offset m y R → IsInOrder offset R
body_order (refusing.RefusesBody.bad_head h) = record { behind = omega arith; order = omega arith }
body_order (refusing.RefusesBody.not_minimal h) = record { behind = omega arith; order = omega arith }
body_order (short l h) = record { behind = omega arith; order = omega arith }
body_order (refused_id z e n s q) = record { behind = omega arith; order = omega arith }
body_order (refused_type z e s q) = record { behind = omega arith; order = omega arith }
body_order (refusing.refused_value z e s p q) =
    let n = in_body q.refused in record { behind = omega arith; order = omega arith }
body_order (refused_description z e k s p q) =
    let n = in_body q.refused in record { behind = omega arith; order = omega arith }
body_order (described_wrongly {a = a} {z = z} e l n s p q d w) =
    let size = length-append a z in
    record { behind = omega arith; order = omega (arith, ap length e) }

inner_order : {at end : ℕ} {q : List ℕ} {R : Refusal} → RefusesInner at end q R → IsInOrder at R
inner_order (filled.RefusesInner.bad_head h) = record { behind = omega arith; order = omega arith }
inner_order (filled.RefusesInner.not_minimal h) = record { behind = omega arith; order = omega arith }
inner_order (filled.RefusesInner.short e h) = record { behind = omega arith; order = omega arith }
inner_order (too_long r e u l) = record { behind = omega arith; order = omega arith }

next_order : (L : Bounds) (left at : ℕ) (levels : List Level) (q : List ℕ) (R : Refusal)
    → RefusesNextCount L left at levels q R → IsInOrder at R
next_order L left at [] q R h = count_order h
next_order L left at (around ∷ levels) q R h = inner_order h

at_order : {base : Table} {L : Bounds} {T U : Table} {offset left : ℕ} {y w : List ℕ} {levels : List Level}
    {next : Next} {R : Refusal} → Stands base L T offset y U levels next left
    → RefusesAt base L (offset + length y) U w levels next left R → IsInOrder offset R
at_order p (in_skeleton h n pl se re) =
    let few = (stand_short p).0 in
    let order = in_body h.refused in
    record { behind = omega arith; order = omega arith }
at_order p (short_name {a = a} c r ex dl sh t u l k) =
    let some = (unsigned_length u).0 in
    record {
      behind = omega (arith, ap length t, length-append c (a ++ r), length-append a r);
      order = omega arith;
    }
at_order p (as_in_an_item q n) =
    let b = body_order q in record { behind = omega (arith, b.behind); order = b.order }
at_order p (inner_count t sg may q) =
    let b = inner_order q in record { behind = omega (arith, b.behind); order = b.order }
at_order {L = L} {R = R} p (next_count {lv = lv} {levels = levels} {left = left} x t def e q) =
    let b = next_order L left lv.end levels x R q in record { behind = omega (arith, b.behind); order = b.order }

filled_order : {base : Table} {L : Bounds} {T : Table} {offset : ℕ} {z : List ℕ} {R : Refusal}
    → RefusesFilled base L T offset z R → IsInOrder offset R
filled_order (refused_count q) = count_order q
filled_order (refused_body r e u l s q n) =
    let b = body_order q in record { behind = omega (arith, b.behind); order = b.order }
filled_order (filled.refused_value e p q) = at_order p q

-- ---- up to where it is explained
up_to_within : (r : Reason) (place seen low high : ℕ) → low ≤ place → place ≤ seen → seen ≤ high
    → (low ≤ up_to r place seen) × (up_to r place seen ≤ high)
up_to_within reason.KindCount place seen low high a b c = (omega arith, omega arith)
up_to_within reason.WrongId place seen low high a b c = (omega arith, omega arith)
up_to_within reason.BadReference place seen low high a b c = (omega arith, omega arith)
up_to_within reason.BadLength place seen low high a b c = (omega arith, omega arith)
up_to_within _ place seen low high a b c = (omega arith, omega arith)

-- the bytes end no sooner
pub explained_there : {L : Bounds} {bytes : List ℕ} {items : List FilledItem} {R : Refusal} {T : Table}
    (prefix item : List ℕ) → EndsFilled base_table L bytes items (refused R) → FilledStream base_table L items prefix T
    → bytes ≡ prefix ++ item → (length prefix ≤ explained_up_to R) × (explained_up_to R ≤ length bytes)
explained_there {R = R} prefix item (next_refused {f = f} z p e q) s whole =
    let one = one_reading z item p s (sym e ∙ whole) in
    let order = filled_order q in
    let seen = filled_there q in
    let size : length f ≡ length prefix = ap length one.bytes in
    up_to_within R.reason R.place R.seen _ _ (omega (arith, order.behind)) order.order
    (omega (arith, ap length e, length-append f z))
explained_there prefix item (within_an_item z p e m n) s whole =
    (omega (arith, ap length whole, length-append prefix item), omega arith)

-- ---- bytes that go on
pub refused_longer : (which : Explained) (T : Table) (offset : ℕ) (R : Refusal) (read rest last : List ℕ)
    → explained_up_to R - offset ≤ length read → IsRefusedText which T offset R read last
    → IsRefusedText which T offset R (read ++ rest) last
refused_longer which T offset R read rest last l (refused_so {text = text} words chosen shows) =
    refused_so words chosen (subst (λ (b : List ℕ). ShowsItem T offset b text)
    (sym (take-append-le (explained_up_to R - offset) read rest l)) shows)
refused_longer which T offset R read rest last l (not_chosen n) = not_chosen n
