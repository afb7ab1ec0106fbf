-- How deep the values may be of what is shown. (docs/FORMAT.md, The program: this project's own.)
use Rattle.std.specs.Prelude.{ℕ}

-- the greatest depth that can be allowed: that of a value which is written as plain JSON, and of one in which
-- interfaces hold others
abbrev pub greatest_view_depth : ℕ
greatest_view_depth = 1000
