-- A path as it stands in a line. (docs/FORMAT.md, The program: this project's own.)
use Rattle.std.specs.Prelude.{ℕ, List, ◌++◌, ◌-◌, nat_le, if◌then◌else◌, length, take, drop, codes}

-- at most 200 characters as they are; of more the first 98, two dots between spaces, and the last 98
abbrev pub shortened_path : List ℕ → List ℕ
shortened_path t = if nat_le (length t) 200 then t else take 98 t ++ (codes " .. " ++ drop (length t - 98) t)
