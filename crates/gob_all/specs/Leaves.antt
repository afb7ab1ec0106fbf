-- What stands in a value without parts.
use Rattle.std.specs.Prelude.{ℕ, ℤ, Bool, List, Option, Some, None}
use Rattle.gob_value.specs.Tree.{Tree}

abbrev pub bool_in : Tree → Option Bool
bool_in (Tree.bool b) = Some b
bool_in _ = None

abbrev pub int_in : Tree → Option ℤ
int_in (Tree.int i) = Some i
int_in _ = None

abbrev pub uint_in : Tree → Option ℕ
uint_in (Tree.uint n) = Some n
uint_in _ = None

-- the 64 bits
abbrev pub float_in : Tree → Option ℕ
float_in (Tree.float p) = Some p
float_in _ = None

-- the bytes
abbrev pub text_in : Tree → Option (List ℕ)
text_in (Tree.text s) = Some s
text_in _ = None
