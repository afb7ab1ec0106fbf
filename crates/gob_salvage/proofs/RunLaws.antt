-- How the run ends.
use Rattle.std.proofs.Common.{◌≡◌, ℕ, ◌≤◌, List, [], ◌++◌, length, Option, None, Some, Result, Ok, Err, arith, sym, ap}
use Rattle.std.proofs.Common.{◌∙◌, refl, subst, append-nil, length-append}
use Rattle.std.specs.Io.KnownBytes.{Consumes, IsAtEnd, Keeps}
use Rattle.std.proofs.KnownBytes.{Appends-kept, Appends-nil}
use Rattle.gob_stream.specs.Bounds.{Bounds}
use Rattle.gob_tool.specs.declared.fault.ToolFault.{ToolFault}
use Rattle.gob_tool.specs.declared.fault.ToolFault.TheVariants as fault
use Rattle.gob_tool.specs.Ending.{CountsOnlyWrites, EndsRun, ends_so, flush_fails}
use Rattle.gob_tool.specs.Showing.{CountsReadFaults}
use Rattle.gob_tool.proofs.EndLaws.{all_kept, prefix_kept}
use Rattle.gob_salvage.specs.declared.keeping.Salvaged.{Salvaged}
use Rattle.gob_salvage.specs.Running.{CountsReading, SalvageAnswers, StopsReading}

-- ---- what was read
-- all of an input that has ended
pub whole_read : (old now : Option (List ℕ)) (all bytes : List ℕ) → Consumes old now all → IsAtEnd now
    → old ≡ Some bytes → (bytes ≡ all) × (now ≡ Some [])
whole_read None now all bytes c e is = absurd (cc)
whole_read (Some xs) None all bytes c e is = absurd c
whole_read (Some xs) (Some ys) all bytes c e is =
    let same : bytes ≡ xs = cc in
    (same ∙ c ∙ ap (λ (l : List ℕ). all ++ l) e ∙ append-nil all, ap (λ (l : List ℕ). Some l) e)

-- no more than there was
pub some_read : (old now : Option (List ℕ)) (some bytes : List ℕ) → Consumes old now some → old ≡ Some bytes
    → length some ≤ length bytes
some_read None now some bytes c is = absurd (cc)
some_read (Some xs) None some bytes c is = absurd c
some_read (Some xs) (Some ys) some bytes c is =
    let same : bytes ≡ some ++ ys = let e : bytes ≡ xs = cc in e ∙ c in omega (
      arith,
      ap length same,
      length-append
          some ys,
    )

-- ---- what is answered
-- where not all was read, nothing went out
pub unread : (L : Bounds) (bytes : List ℕ) (now out : Option (List ℕ)) (told : Option Salvaged) (most : ℕ)
    (f : ToolFault) → most ≡ L.stream → StopsReading most bytes f → SalvageAnswers L bytes now out out told (Err f)
unread L bytes now out told most (fault.Refused R) e h =
    let long = subst (λ n. StopsReading n bytes (fault.Refused R)) e h in
    (record { long = long.0; refusal = long.1 }, Appends-nil out)
unread L bytes now out told most fault.Read e h = Appends-nil out
unread L bytes now out told most fault.Memory e h = Appends-nil out
unread L bytes now out told most fault.Write e h = absurd h
unread L bytes now out told most (fault.Wanted R) e h = absurd h
unread L bytes now out told most fault.NoWantedType e h = absurd h
unread L bytes now out told most (fault.Clash path reason) e h = absurd h
unread L bytes now out told most (fault.LeftOut path number) e h = absurd h

-- and no write failed
pub reading_writes : (A : Type 0) (failures failures' out : ℕ) (f : ToolFault)
    → CountsReading {A = A} failures failures' (Err f) → CountsOnlyWrites {A = Unit {0}} out out (Err f)
reading_writes A failures failures' out (fault.Refused R) h = refl
reading_writes A failures failures' out fault.Read h = refl
reading_writes A failures failures' out fault.Memory h = refl
reading_writes A failures failures' out fault.Write h = absurd h
reading_writes A failures failures' out (fault.Wanted R) h = refl
reading_writes A failures failures' out fault.NoWantedType h = refl
reading_writes A failures failures' out (fault.Clash path reason) h = refl
reading_writes A failures failures' out (fault.LeftOut path number) h = refl

pub reading_reads : (A : Type 0) (failures failures' : ℕ) (f : ToolFault)
    → CountsReading {A = A} failures failures' (Err f) → CountsReadFaults failures failures' (Err f)
reading_reads A failures failures' (fault.Refused R) h = h
reading_reads A failures failures' fault.Read h = h
reading_reads A failures failures' fault.Memory h = h
reading_reads A failures failures' fault.Write h = absurd h
reading_reads A failures failures' (fault.Wanted R) h = h
reading_reads A failures failures' fault.NoWantedType h = h
reading_reads A failures failures' (fault.Clash path reason) h = h
reading_reads A failures failures' (fault.LeftOut path number) h = h

-- behind the flush
salvage_kept : (L : Bounds) (bytes : List ℕ) (now old mid new : Option (List ℕ)) (told : Option Salvaged)
    (res : Result (Unit {0}) ToolFault) → Keeps mid new → SalvageAnswers L bytes now old mid told res
    → SalvageAnswers L bytes now old new told res
salvage_kept L bytes now old mid new told (Ok u) k h = record {
  kept = h.kept;
  is = h.is;
  end = h.end;
  sent = Appends-kept old mid new h.kept.bytes.items h.sent k;
  tells = h.tells;
}
salvage_kept L bytes now old mid new told (Err (fault.Refused R)) k h = (h.0, Appends-kept old mid new [] h.1 k)
salvage_kept L bytes now old mid new told (Err fault.Write) k h = record {
  kept = h.kept;
  is = h.is;
  sent = prefix_kept old mid new h.kept.bytes.items h.sent k;
}
salvage_kept L bytes now old mid new told (Err fault.Read) k h = Appends-kept old mid new [] h k
salvage_kept L bytes now old mid new told (Err fault.Memory) k h = Appends-kept old mid new [] h k
salvage_kept L bytes now old mid new told (Err (fault.Wanted R)) k h = absurd h
salvage_kept L bytes now old mid new told (Err fault.NoWantedType) k h = absurd h
salvage_kept L bytes now old mid new told (Err (fault.Clash path reason)) k h = absurd h
salvage_kept L bytes now old mid new told (Err (fault.LeftOut path number)) k h = absurd h

-- where the flush fails, all that is kept is a prefix of it
flush_failed : (L : Bounds) (bytes : List ℕ) (now old mid new : Option (List ℕ)) (told : Option Salvaged)
    → Keeps mid new → SalvageAnswers L bytes now old mid told (Ok tt)
    → SalvageAnswers L bytes now old new told (Err fault.Write)
flush_failed L bytes now old mid new told k h = record {
  kept = h.kept;
  is = h.is;
  sent = all_kept old mid new h.kept.bytes.items h.sent k;
}

pub salvage_ended : (L : Bounds) (bytes : List ℕ) (now old mid new : Option (List ℕ)) (told : Option Salvaged)
    (answer result : Result (Unit {0}) ToolFault) → Keeps mid new → EndsRun answer result
    → SalvageAnswers L bytes now old mid told answer → SalvageAnswers L bytes now old new told result
salvage_ended L bytes now old mid new told answer result k (ends_so e) h =
    subst (λ r. SalvageAnswers L bytes now old new told r) (sym e) (salvage_kept L bytes now old mid new told answer k
    h)
salvage_ended L bytes now old mid new told answer result k (flush_fails o e) h =
    subst (λ r. SalvageAnswers L bytes now old new told r) (sym e)
    (flush_failed L bytes now old mid new told k (subst (λ r. SalvageAnswers L bytes now old mid told r) o h))
