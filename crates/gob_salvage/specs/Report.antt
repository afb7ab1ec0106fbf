-- The lines that tell what was left out, and at last how much was kept. (docs/FORMAT.md, What is kept of damaged bytes:
-- this project's own.)
use Rattle.std.specs.Prelude.{ℕ, ◌-◌, ◌^◌, ◌==◌, Bool, true, if◌then◌else◌, List, [], ◌∷◌, ◌++◌, length}
use Rattle.std.specs.Prelude.{take, min, codes, Option, Some, None}
use Rattle.std.specs.Fmt.{decimal}
use Rattle.gob_types.specs.Reasons.{reason_text}
use Rattle.gob_types.specs.declared.id.TypeId.{TypeId}
use Rattle.gob_types.specs.declared.reason.Reason.{Reason}
use Rattle.gob_types.specs.declared.reason.Reason.TheVariants as reason
use Rattle.gob_salvage.specs.Salvage.{gap_length, left_out}
use Rattle.gob_salvage.specs.declared.gap.Gap.{Gap}
use Rattle.gob_salvage.specs.declared.keeping.Salvaged.{Salvaged}

-- ---- numbers of things
abbrev pub plural : ℕ → List ℕ
plural n = if n == 1 then [] else codes "s"

-- so many of a thing
abbrev pub count_text : ℕ → (thing : List ℕ) → List ℕ
count_text n thing = decimal n ++ (codes " " ++ (thing ++ plural n))

-- ---- one gap
-- the type that they define again, where they do so in the same way
abbrev pub repeated_by : (is_repeated : Bool) → Reason → Option TypeId
repeated_by true (reason.DefinedTwice id) = Some id
repeated_by _ _ = None

abbrev pub repeated_id : Gap → Option TypeId
repeated_id g = repeated_by g.is_repeated g.reason

-- why
abbrev pub why_or : Gap → Option TypeId → List ℕ
why_or g None = reason_text g.reason ++ (codes " at " ++ decimal g.place)
why_or g (Some id) = codes "type " ++ (decimal id.0 ++ codes " is defined again, in the same way")

abbrev pub why_text : Gap → List ℕ
why_text g = why_or g (repeated_id g)

-- how many bytes are left out, from the first to the last, and why
abbrev pub gap_text : Gap → List ℕ
gap_text g = codes "gob: left out " ++ (count_text (gap_length g) (codes "byte") ++ (codes ", " ++ (decimal g.begin
    ++ (codes " to " ++ (decimal (g.end - 1) ++ (codes ": "
    ++ (why_text g ++ 10 ∷ [])))))))

abbrev pub gap_texts : List Gap → List ℕ
gap_texts [] = []
gap_texts (g ∷ gaps) = gap_text g ++ gap_texts gaps

-- ---- all of them
-- how many are not told one by one
abbrev pub more_text : ℕ → List ℕ
more_text n = if n == 0 then [] else codes "gob: and " ++ (count_text n (codes "place") ++ (codes " more" ++ 10 ∷ []))

abbrev pub left_text : (gaps : List Gap) → List ℕ
left_text gaps =
    if length gaps == 0 then codes "nothing"
    else count_text (min (left_out gaps) (2 ^ 64 - 1)) (codes "byte") ++ (codes " in "
    ++ count_text (length gaps) (codes "place"))

-- how much was kept
abbrev pub amount_text : Salvaged → List ℕ
amount_text kept = count_text kept.items (codes "item") ++ (codes ", "
    ++ count_text (length kept.bytes.items) (codes "byte"))

-- and how much was left out
abbrev pub total_text : Salvaged → List ℕ
total_text kept = codes "gob: kept " ++ (amount_text kept ++ (codes "; left out " ++ left_text kept.gaps.items))

-- how `gob why` tells it
abbrev pub kept_text : Salvaged → List ℕ
kept_text kept =
    codes "kept: gob salvage keeps " ++ (amount_text kept ++ (codes ", and leaves out " ++ left_text kept.gaps.items))

-- the first twenty gaps, how many more there are, and the totals: all but the last line feed
abbrev pub report_text : Salvaged → List ℕ
report_text kept =
    gap_texts (take 20 kept.gaps.items) ++ (more_text (length kept.gaps.items - 20) ++ total_text kept)
