-- What an adapter is still to give.
use Rattle.std.specs.Prelude.{◌≡◌, ℕ, zero, suc, ◌+◌, ◌-◌, ◌^◌, ◌<◌, ◌≤◌, ◌↔◌, List, [], ◌++◌, Bool, false, ◌&&◌}
use Rattle.std.specs.Prelude.{◌||◌, nat_lt, IsTrue, Option, Result, Ok, Err}
use Rattle.std.specs.Prelude.{if◌then◌else◌, length, min, option_map, take}
use Rattle.std.specs.Io.KnownBytes.{Consumes, IsAtEnd}
use Rattle.std.specs.IoError.{error_kind}
use Rattle.std.specs.declared.io.Error.{Error}
use Rattle.std.specs.declared.io.ErrorKind.TheVariants.{OutOfMemory}
use Rattle.gob_appended.specs.Cuts.{left_out_at}
use Rattle.gob_appended.specs.Known.{known}
use Rattle.gob_appended.specs.Left.{goes_on, part_of}
use Rattle.gob_appended.specs.Once.{Part, once, staying}
use Rattle.gob_appended.specs.Waiting.{waiting}
use Rattle.gob_appended.specs.declared.appended.Appended.{Appended}
use Rattle.gob_appended.specs.declared.places.Places.{Places}

-- the bytes that the reader below is still to give, where that is known: none once it has ended
abbrev pub ahead : {R : Type 0} → (R → Option (List ℕ)) → Appended R → Option (List ℕ)
ahead remaining s = if s.ended then option_map (λ _. []) (remaining s.reader) else remaining s.reader

-- what comes of the bytes that wait and of those
abbrev pub comes_of : List (List ℕ) → Part → List ℕ → Option (List ℕ) → Option (List ℕ)
comes_of ds p w bytes = option_map (λ ys. once ds p (w ++ ys)) bytes

-- the bytes that the adapter is still to give: those of its input without the definitions that are said again
abbrev pub to_give : {R : Type 0} → (R → Option (List ℕ)) → Appended R → Option (List ℕ)
to_give remaining s = comes_of (known s.known) (part_of s.left) (waiting s.waiting) (ahead remaining s)

-- nothing was read or given
pub record IsFresh {R : Type 0} (reader : R) (s : Appended R) : Type 0 where
  pub over : s.reader ≡ reader
  pub none_known : known s.known ≡ []
  pub none_waits : waiting s.waiting ≡ []
  pub begins : part_of s.left ≡ staying 0
  pub reads : s.ended ≡ false
  pub none_given : s.places.given ≡ 0
  pub none_left_out : s.places.left_out ≡ 0
  pub no_fault : s.lacks_memory ≡ false

-- something may be given, or all was
abbrev pub is_ready : {R : Type 0} → Appended R → Bool
is_ready s = goes_on (part_of s.left) && (s.ended || nat_lt 0 (length (waiting s.waiting)))

-- so many bytes were given, none only at the end or with no room
pub record Gives (old new : Option (List ℕ)) (buf : List ℕ) (count : ℕ) : Type 0 where
  pub bound : count ≤ length buf
  pub bytes : Consumes old new (take count buf)
  pub end : count ≡ 0 → 0 < length buf → IsAtEnd new

-- ---- offsets

-- the offset in the input of an offset among the bytes that were given: behind what was left out before it
abbrev pub place_among : Places → ℕ → ℕ
place_among p k = min (k + left_out_at p.left_out p.cuts.items k) (2 ^ 64 - 1)

abbrev pub place_in : {R : Type 0} → Appended R → ℕ → ℕ
place_in s k = place_among s.places k

-- how many bytes of the input end with the last of so many that were given
abbrev pub end_in : {R : Type 0} → Appended R → ℕ → ℕ
end_in s zero = 0
end_in s (suc last) = min (place_in s last + 1) (2 ^ 64 - 1)

-- ---- faults

-- whether the last read that failed did for want of memory, before and after one that was answered so
abbrev pub NotesMemory : {A : Type 0} → (was now : Bool) → Result A Error → Type 0
NotesMemory was now (Ok _) = now ≡ was
NotesMemory was now (Err error) = IsTrue now ↔ (error_kind error ≡ OutOfMemory)
