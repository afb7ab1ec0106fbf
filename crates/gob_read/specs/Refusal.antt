-- Why a body is refused behind its type number: each reason, at its place, shown by so many bytes.
-- (docs/FORMAT.md, Refusals.)
use Rattle.std.specs.Prelude.{◌≡◌, ℕ, ◌+◌, ◌<◌, List, ◌++◌, length}
use Rattle.gob_num.specs.Unsigned.{IsUnsigned, IsBadHead, IsNotMinimal}
use Rattle.gob_types.specs.declared.id.TypeId.{TypeId}
use Rattle.gob_types.specs.declared.reason.Reason.{Reason}
use Rattle.gob_types.specs.declared.reason.Reason.TheVariants as reason
use Rattle.gob_types.specs.Table.{Table}
use Rattle.gob_value.specs.Tree.{Tree}
use Rattle.gob_value.specs.Top.{SpellsTop}
use Rattle.gob_read.specs.Expected.{Allowed, Expected, a_number, Allows, reason_of, EndsWithin}
use Rattle.gob_read.specs.Expects.{ExpectsTop}

-- place and seen count bytes from the first one behind the type number: where the first refused byte is, and how many
-- bytes show the refusal
pub record Refusal : Type 0 where
  pub place : ℕ
  pub seen : ℕ
  pub reason : Reason

-- z is what is there of a value of the type and its tag, of which so many bytes are announced and whose parts may be
-- no deeper than the limit
pub data Refused (T : Table) (t : TypeId) (limit announced : ℕ) (z : List ℕ) : Refusal → Type 0 where
  extra : {v : Tree} {f : List ℕ} (r : List ℕ) → SpellsTop T t v f → z ≡ f ++ r → length f < announced
      → Refused T t limit announced z (record { place = length f; seen = length f; reason = reason.Extra })
  too_deep : {p : List ℕ} (r : List ℕ) {w : Expected} {d : ℕ} → ExpectsTop T t p w d → z ≡ p ++ r → limit < d
      → Refused T t limit announced z (record { place = length p; seen = length p; reason = reason.TooDeep })
  short_of : {p : List ℕ} (r : List ℕ) {w : Expected} {d : ℕ} → ExpectsTop T t p w d → z ≡ p ++ r → length z ≡ announced
      → EndsWithin w r
      → Refused T t limit announced z (record { place = announced; seen = announced; reason = reason.Short })
  bad_head_at : {p : List ℕ} (r : List ℕ) {a : Allowed} {d : ℕ} → ExpectsTop T t p (a_number a) d → z ≡ p ++ r
      → IsBadHead r
      → Refused T t limit announced z (record { place = length p; seen = length p + 1; reason = reason.BadHead })
  not_minimal_at : {p : List ℕ} (r : List ℕ) {a : Allowed} {d : ℕ} → ExpectsTop T t p (a_number a) d → z ≡ p ++ r
      → IsNotMinimal r
      → Refused T t limit announced z (record { place = length p; seen = length p + 2; reason = reason.NotMinimal })
  not_allowed : {p c : List ℕ} (r : List ℕ) {a : Allowed} {d n : ℕ} → ExpectsTop T t p (a_number a) d → z ≡ p
      ++ (c ++ r) → IsUnsigned n c → ¬ Allows a n
      → Refused T t limit announced z (record { place = length p; seen = length p + length c; reason = reason_of a })
