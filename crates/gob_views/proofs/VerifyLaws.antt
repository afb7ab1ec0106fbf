-- What a check answered is right of the file.
use Rattle.std.proofs.Common.{◌≡◌, ◌∙◌, ℕ, List, [], ◌++◌, Option, Some, Result, Ok, Err, ap, sym}
use Rattle.std.proofs.Common.{append_assoc, codes, encode_utf8_all}
use Rattle.std.proofs.lemmas.Str.{encodes-chars}
use Rattle.std.specs.Str.{IsUtf8, chars}
use Rattle.gob_stream.specs.Bounds.{Bounds}
use Rattle.gob_tool.specs.CheckingGo.{CheckGoAnswers}
use Rattle.gob_tool.specs.Checking.{is_accepted, is_cut, is_stopped}
use Rattle.gob_tool.specs.declared.fault.ToolFault.{ToolFault}
use Rattle.gob_words.specs.Escaped.{escaped_text}
use Rattle.gob_views.specs.Verify.{IsRightOf, IsSaid, told_of}

-- a check that wrote this line, over an output that was empty
pub right_of : (L : Bounds) (bytes : List ℕ) (now : Option (List ℕ)) (line said : List ℕ)
    (answer : Result (Unit {0}) ToolFault) → CheckGoAnswers L bytes now (Some []) (Some line) answer
    → IsSaid answer line said → IsRightOf L bytes now answer line
right_of L bytes now line said (Ok u) (is_accepted k) s =
    record { items = k.items; table = k.table; stream = k.stream; end = k.end; holds = k.holds }
right_of L bytes now line said (Err f) (is_cut k) s = absurd s
right_of L bytes now line said (Err f) (is_stopped k none) s = k

-- the line that is made of an escaped name
pub line_told : (name shown said start line mid : List ℕ) → IsUtf8 shown → chars shown ≡ escaped_text (chars name)
    → start ≡ shown → mid ≡ start ++ codes ": " → line ≡ mid ++ said → line ≡ told_of name said
line_told name shown said start line mid utf8 escaped begin colon all =
    let whole : shown ≡ encode_utf8_all (escaped_text (chars name)) =
    sym (encodes-chars shown utf8) ∙ ap encode_utf8_all escaped in
    all ∙ ap (λ (l : List ℕ). l ++ said) (colon ∙ ap (λ (l : List ℕ). l ++ codes ": ") (begin ∙ whole))
    ∙ append_assoc (encode_utf8_all (escaped_text (chars name))) (codes ": ") said
