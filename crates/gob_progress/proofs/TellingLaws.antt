-- What is told.
use Rattle.std.proofs.Common.{◌≡◌, ◌∙◌, sym, refl, ℕ, List, [], Option, Some, None, Result, Ok, Err}
use Rattle.std.proofs.Common.{append-nil, inl, inr}
use Rattle.std.specs.Io.KnownBytes.{Appends, Keeps, WriteAppends}
use Rattle.gob_progress.specs.Lines.{blank_line, progress_line}
use Rattle.gob_progress.specs.Telling.{IsTold, TellsOnce}

-- known bytes that stay grow by none
grow_by_none : (old new : Option (List ℕ)) → Keeps old new → Appends old new []
grow_by_none None new h = tt
grow_by_none (Some xs) None h = absurd h
grow_by_none (Some xs) (Some ys) h = h ∙ sym (append-nil xs)

pub keeps_itself : (known : Option (List ℕ)) → Keeps known known
keeps_itself None = tt
keeps_itself (Some xs) = refl

tells_none : (passed : ℕ) (total : Option ℕ) (old new : Option (List ℕ)) → Keeps old new
    → TellsOnce passed total old new
tells_none passed total old new h = (blank_line, 0, inr refl, grow_by_none old new h)

pub tells_nothing : (passed : ℕ) (total : Option ℕ) (known : Option (List ℕ)) → TellsOnce passed total known known
tells_nothing passed total known = tells_none passed total known known (keeps_itself known)

tells : {E : Type 0} (passed : ℕ) (total : Option ℕ) (old new : Option (List ℕ)) (r : Result ℕ E) (line : List ℕ)
    → IsTold passed total line → WriteAppends old new r line → TellsOnce passed total old new
tells passed total old new (Ok count) line is h = (line, count, is, h)
tells passed total old new (Err error) line is h = tells_none passed total old new h

pub tells_reached : {E : Type 0} (passed : ℕ) (total : Option ℕ) (millis : ℕ) (old new : Option (List ℕ))
    (r : Result ℕ E) (line : List ℕ) → line ≡ progress_line passed total millis → WriteAppends old new r line
    → TellsOnce passed total old new
tells_reached passed total millis old new r line e h = tells passed total old new r line (inl (millis, e)) h

pub tells_blank : {E : Type 0} (passed : ℕ) (total : Option ℕ) (old new : Option (List ℕ)) (r : Result ℕ E)
    (line : List ℕ) → line ≡ blank_line → WriteAppends old new r line → TellsOnce passed total old new
tells_blank passed total old new r line e h = tells passed total old new r line (inr e) h
