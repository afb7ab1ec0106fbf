-- Runs that wrote to an output in memory that was empty, and what is told of them.
use Rattle.std.proofs.Common.{◌≡◌, ◌∙◌, ◌==◌, ℕ, List, [], ◌∷◌, length, true, false, Option, Result, refl, sym, subst}
use Rattle.std.proofs.Common.{ap, arith, Bool, Some}
use Rattle.std.proofs.lemmas.Bool.Decides.{nat_tests}
use Rattle.std.proofs.lemmas.Str.{chars-nil}
use Rattle.std.specs.Str.{NonePass}
use Rattle.gob_stream.specs.Bounds.{AreLimits, Bounds, deepest, within_trees}
use Rattle.gob_left_out.specs.Tally.{TallyRow}
use Rattle.gob_rename.specs.declared.rename.Rename.{Rename}
use Rattle.gob_convert.specs.Running.{ConvertAnswers}
use Rattle.gob_convert.specs.declared.fault.ConvertFault.{ConvertFault}
use Rattle.gob_words.specs.Escaped.{is_obeyed}
use Rattle.gob_c.specs.Converting.{Converts, ConvertTold, IsWantedOfNamed, IsWantedOfStream, PutsConverted, Rooms}
use Rattle.gob_c.specs.Converting.{IsConverted, PutsMade, TellsLeftOut, told_of_run}
use Rattle.gob_c.specs.Converting.{is_converted, is_put, is_run, of_first, of_named}
use Rattle.gob_c.specs.Renames.{AsksRenames}
use Rattle.gob_c.specs.Streams.{PutsStream, PutsUnobeyed}
use Rattle.gob_c.specs.declared.in_memory.Converted.{Converted}
use Rattle.gob_c.specs.Texts.{put_in}
use Rattle.gob_c.specs.Writing.{named_by}
use Rattle.gob_c.specs.declared.streams.StreamTold.{StreamTold}

-- ---- what was written

pub written_so : (P : (old new : List ℕ) → Type 0) (old new made : List ℕ) → old ≡ [] → made ≡ new → P old new
    → P [] made
written_so P old new made empty is holds = subst (P []) (sym is) (subst (λ o. P o new) empty holds)

pub converts_so : (rs : List Rename) (all : Bool) (L : Bounds) (wanted bytes old new made : List ℕ)
    (wanted_now now : Option (List ℕ)) (told left : List TallyRow) (answer : Result (Unit {0}) ConvertFault) → old ≡ []
    → made ≡ new → told ≡ []
    → ConvertAnswers rs all L wanted bytes wanted_now now (Some old) (Some new) told left answer
    → Converts rs all L wanted bytes made left answer
converts_so rs all L wanted bytes old new made wanted_now now told left answer empty is untold holds = record {
  wanted_now = wanted_now;
  now = now;
  answers = written_so (λ o n. ConvertAnswers rs all L wanted bytes wanted_now now (Some o) (Some n) [] left answer) old
      new made empty is
      (subst (λ t. ConvertAnswers rs all L wanted bytes wanted_now now (Some old) (Some new) t left answer) untold
      holds);
}

-- ---- where nothing is said

nothing_put : (room : List ℕ) → room ≡ put_in [] room
nothing_put [] = refl
nothing_put (b ∷ bs) = refl

pub nothing_said : (room : List ℕ) → PutsUnobeyed room room 0
nothing_said room = record {
  words = [];
  unobeyed = subst (λ cs. NonePass is_obeyed cs) (sym chars-nil) tt;
  put = nothing_put room;
  counted = refl;
}

-- ---- the wanted type

-- without a name the stream itself has it
pub first_wanted : (bytes named : List ℕ) (b : Bool) → b ≡ (length named == 0) → b ≡ true
    → IsWantedOfStream bytes bytes (named_by named)
first_wanted bytes [] b is empty = of_first refl
first_wanted bytes (n ∷ ns) b is empty =
    let some : (length (n ∷ ns) == 0) ≡ false = grind (arith, nat_tests) in
    let both : true ≡ false = sym empty ∙ is ∙ some in cc

pub named_wanted : (bytes named wanted : List ℕ) (b : Bool) → b ≡ (length named == 0) → b ≡ false
    → IsWantedOfNamed bytes (named_by named) wanted → IsWantedOfStream bytes wanted (named_by named)
named_wanted bytes [] wanted b is some holds = let both : true ≡ false = sym is ∙ some in cc
named_wanted bytes (n ∷ ns) wanted b is some holds = of_named holds

-- ---- what is told

-- the stream is converted under the limits that are asked for, and as the bytes that are wanted
pub told_so : (L K : Bounds) (all : Bool) (renames : List ℕ) (P : List ℕ → Type 0) (bytes : List ℕ)
    (before after : Rooms) (wanted given : List ℕ) (told : StreamTold) → AreLimits deepest L → K ≡ L → given ≡ wanted
    → P wanted → PutsConverted all (within_trees K) renames given bytes before after told
    → ConvertTold L all renames P bytes before after told
told_so L K all renames P bytes before after wanted given told are same is holds puts =
    is_converted are wanted holds
    (subst (λ B. PutsConverted all (within_trees B) renames wanted bytes before after told) same
    (subst (λ w. PutsConverted all (within_trees K) renames w bytes before after told) is puts))

-- what was made is in its room, and the line of what was left out in its own
pub made_put : (stream : List ℕ) (tally : List TallyRow) (answer : Result (Unit {0}) ConvertFault)
    (room room' said said' left left' line front text : List ℕ) (count : ℕ) (told : StreamTold)
    → TellsLeftOut tally line → room' ≡ put_in front room → front ≡ stream → left' ≡ put_in text left → text ≡ line
    → PutsStream (told_of_run answer (length stream) count) said said' told → count ≡ length line
    → PutsMade stream tally answer (record { stream = room; said = said; left_out = left })
    (record { stream = room'; said = said'; left_out = left' }) told
made_put stream tally answer room room' said said' left left' line front text count told tells put is put_line line_is
    says counted =
    is_put line tells (put ∙ ap (λ t. put_in t room) is) (put_line ∙ ap (λ t. put_in t left) line_is)
    (subst (λ n. PutsStream (told_of_run answer (length stream) n) said said' told) counted says)

-- the run was by the renames that the words say
pub run_so : (rs given : List Rename) (all : Bool) (L : Bounds) (renames wanted bytes : List ℕ)
    (before after : Rooms) (made : Converted) (told : StreamTold) → given ≡ rs → AsksRenames renames rs
    → IsConverted given all L wanted bytes made
    → PutsMade made.stream.items made.left_out made.answer before after told
    → PutsConverted all L renames wanted bytes before after told
run_so rs given all L renames wanted bytes before after made told is ask converts puts =
    is_run rs ask made.stream.items made.left_out made.answer
    (subst (λ r. IsConverted r all L wanted bytes made) is converts) puts
