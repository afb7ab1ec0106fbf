-- The line that is told of a reading. (docs/FORMAT.md, The program: this project's own.)
use Rattle.std.specs.Prelude.{ℕ, ◌*◌, ◌/◌, ◌==◌, nat_le, if◌then◌else◌, List, ◌++◌, Option, Some, None, codes}
use Rattle.std.specs.Fmt.{decimal}

-- the whole megabytes of so many bytes
abbrev pub megabytes : ℕ → ℕ
megabytes bytes = bytes / 1000000

-- how many hundredths of all bytes were read, all where there are more
abbrev pub percent : (passed total : ℕ) → ℕ
percent passed total = if nat_le total passed then 100 else passed * 100 / total

-- how many megabytes a second
abbrev pub rate : (passed millis : ℕ) → ℕ
rate passed millis = if millis == 0 then 0 else passed / millis / 1000

-- these numbers, behind the megabytes that were read
abbrev pub numbers_behind : (all percent rate : ℕ) → List ℕ
numbers_behind all percent rate = codes " of " ++ (decimal all ++ (codes " MB, " ++ (decimal percent ++ (codes "%, "
    ++ (decimal rate ++ codes " MB/s    ")))))

-- what stands behind the megabytes that were read: of how many, where that is known, and how many a second
abbrev pub behind_read : (passed millis : ℕ) → (total : Option ℕ) → List ℕ
behind_read passed millis None = codes " MB, " ++ (decimal (rate passed millis) ++ codes " MB/s    ")
behind_read passed millis (Some total) =
    numbers_behind (megabytes total) (percent passed total) (rate passed millis)

-- so many bytes were read, of so many where that is known, in so many milliseconds
abbrev pub progress_line : (passed : ℕ) → (total : Option ℕ) → (millis : ℕ) → List ℕ
progress_line passed total millis =
    codes "\rgob: " ++ (decimal (megabytes passed) ++ behind_read passed millis total)

-- what stands in its place when it is gone
abbrev pub blank_line : List ℕ
blank_line = codes "\r                                                        \r"
