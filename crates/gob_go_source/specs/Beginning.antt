-- How source begins. (The Go Programming Language Specification, Source file organization; Comments; Tokens.)
use Rattle.std.specs.Prelude.{ℕ, List, [], ◌∷◌, Bool, ◌==◌, ◌||◌, if◌then◌else◌, codes, nat_eq}
use Rattle.std.specs.List.{starts_with}

abbrev pub is_space : ℕ → Bool
is_space b = (b == 32) || ((b == 9) || ((b == 10) || (b == 13)))

-- the text from its first byte on that is no white space
abbrev pub behind_space : List ℕ → List ℕ
behind_space [] = []
behind_space (b ∷ bs) = if is_space b then behind_space bs else b ∷ bs

abbrev pub starts : List ℕ → List ℕ → Bool
starts text word = starts_with nat_eq text word

-- a comment stands first, or a keyword that begins a declaration
abbrev pub starts_source : List ℕ → Bool
starts_source text = starts text (codes "package") || (starts text (codes "import") || (starts text (codes "type")
    || (starts text (codes "func") || (starts text (codes "//") || starts text (codes "/*")))))

-- behind white space it does
abbrev pub begins_as_source : List ℕ → Bool
begins_as_source text = starts_source (behind_space text)
