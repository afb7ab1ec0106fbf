-- What the tokens of types and declarations say: these alone.
use Rattle.std.proofs.Common.{◌≡◌, ◌∙◌, ℕ, List, [], ◌∷◌, ◌++◌, Bool, true, false, refl, ap, sym, subst, append_assoc}
use Rattle.std.proofs.Common.{Some}
use Rattle.std.specs.Borrow.{Bor}
use Rattle.std.specs.Prelude.{IsTrue, slice_get}
use Rattle.gob_types.proofs.PublicLaws.{some_injective}
use Rattle.gob_go_source.specs.declared.go_type.Declaration.{Declaration}
use Rattle.gob_go_source.specs.declared.go_type.GoField.{GoField}
use Rattle.gob_go_source.specs.declared.go_type.GoType.{GoType}
use Rattle.gob_go_source.specs.declared.go_type.GoType.TheVariants as go
use Rattle.gob_go_source.specs.declared.token.Mark.{Mark}
use Rattle.gob_go_source.specs.declared.token.Mark.TheVariants as mark
use Rattle.gob_go_source.specs.declared.token.Note.{Note}
use Rattle.gob_go_source.specs.declared.token.Token.{Token}
use Rattle.gob_go_source.specs.declared.token.Token.TheVariants as token
use Rattle.gob_go_source.specs.Brackets.{behind_close}
use Rattle.gob_go_source.specs.Declarations.{Aliased, SaysDeclaration, SaysSource, SaysTop, behind_stop, declares_types}
use Rattle.gob_go_source.specs.Declarations.{is_passed}
use Rattle.gob_go_source.specs.Declarations.{more_said, names_package, nothing_said, one_type, passed_over}
use Rattle.gob_go_source.specs.Declarations.{says_declaration, some_types}
use Rattle.gob_go_source.specs.Grammar.{Says, says_name, says_qualified, says_pointer, in_parentheses, says_slice}
use Rattle.gob_go_source.specs.Grammar.{says_array, says_map, says_struct, says_interface, says_channel, says_function}
use Rattle.gob_go_source.specs.Grammar.{both_ways, only_sends, only_receives, SaysFields, no_fields, more_fields}
use Rattle.gob_go_source.specs.Grammar.{SaysField, says_field, closes, embeds, ends_name, FieldNames, names_stand}
use Rattle.gob_go_source.specs.Grammar.{none_stands, Stops, stopped, closed, SaysNames, one_name, more_names, Tagged}
use Rattle.gob_go_source.specs.Grammar.{untagged, tagged}
use Rattle.gob_source_back.proofs.Written.{Body, BodyStands, BodyTokens, at_array, at_map, fields_stand, fields_tokens}
use Rattle.gob_source_back.proofs.Written.{map_of, of_array, of_map, parts_stand, parts_tokens, AreDeclared, IsDeclared}
use Rattle.gob_source_back.proofs.Written.{Line, LineTokens, LinesStand, LinesTokens, StandsAt, Struct, StructTokens}
use Rattle.gob_source_back.proofs.Written.{StructsTokens, TypeTokens, Written, at_interface, at_pointer, at_slice}
use Rattle.gob_source_back.proofs.Written.{at_word, more_declared, more_structs, more_tokens, no_line, no_structs}
use Rattle.gob_source_back.proofs.Written.{no_tokens, none_declared, of_interface, of_pointer, of_slice, of_word}
use Rattle.gob_source_back.proofs.Written.{another_stands, another_tokens, at_qualified, is_another, of_qualified}
use Rattle.gob_source_back.proofs.Written.{one_line, passed_tokens}

append_none : {A : Type 0} (xs : List A) → xs ++ [] ≡ xs
append_none [] = refl
append_none (x ∷ xs) = ap (λ l. x ∷ l) (append_none xs)

-- ---- types

-- the type at the place is written so, and that is behind it
record IsRead (types : List GoType) (n : ℕ) (e : Written) (behind rest : List Token) : Type 0 where
  is : rest ≡ behind
  stands : StandsAt types n e

closes_key : {mid next : List Token} → mid ≡ token.Mark mark.CloseBracket ∷ next → (more : List Token)
    → mid ≡ token.Mark mark.Dot ∷ more → ⊥
closes_key e more f = cc

stops_type : {next : List Token} (more : List Token) → token.Mark mark.Stop ∷ next ≡ token.Mark mark.Dot ∷ more → ⊥
stops_type more f = cc

-- what is said of a type that begins so
record SaysWord (types : List GoType) (n : ℕ) (b : Bor (List ℕ)) (behind rest : List Token) : Type 0 where
  is : rest ≡ behind
  at : slice_get types n ≡ Some (go.Name b)

record SaysOne (types : List GoType) (n : ℕ) (next rest : List Token) (t : ℕ → GoType) : Type 0 where
  elem : ℕ
  at : slice_get types n ≡ Some (t elem)
  says : Says types elem next rest

record SaysQualified (types : List GoType) (n : ℕ) (a b : Bor (List ℕ)) (behind rest : List Token) : Type 0 where
  is : rest ≡ behind
  at : slice_get types n ≡ Some (go.Qualified a b)

record SaysPair (types : List GoType) (n : ℕ) (first rest : List Token) : Type 0 where
  key : ℕ
  elem : ℕ
  last : List Token
  next : List Token
  at : slice_get types n ≡ Some (go.Map key elem)
  says_key : Says types key first last
  close : last ≡ token.Mark mark.CloseBracket ∷ next
  says : Says types elem next rest

word_says : {types : List GoType} (n : ℕ) {old rest : List Token} (b : Bor (List ℕ)) (behind : List Token)
    → ((more : List Token) → behind ≡ token.Mark mark.Dot ∷ more → ⊥) → old ≡ token.Name b ∷ behind
    → Says types n old rest → SaysWord types n b behind rest
word_says n b behind end is (says_name {w = w} e f) =
    let same : w ≡ b = cc in
    record { is = cc; at = e ∙ ap (λ (x : Bor (List ℕ)). Some (go.Name x)) same }
word_says n b behind end is (says_qualified {next = next} e f g h) =
    let dot : behind ≡ token.Mark mark.Dot ∷ next = cc in absurd (end next dot)
word_says n b behind end is (says_pointer e f s) = cc
word_says n b behind end is (in_parentheses f s g) = cc
word_says n b behind end is (says_slice e f g s) = cc
word_says n b behind end is (says_array e f g h s) = cc
word_says n b behind end is (says_map e f g k h s) = cc
word_says n b behind end is (says_struct e f g fs h) = cc
word_says n b behind end is (says_interface e f g h) = cc
word_says n b behind end is (says_channel e (both_ways f) s) = cc
word_says n b behind end is (says_channel e (only_sends f g) s) = cc
word_says n b behind end is (says_channel e (only_receives f g) s) = cc
word_says n b behind end is (says_function e f g h r) = cc

qualified_says : {types : List GoType} (n : ℕ) {old rest : List Token} (a b : Bor (List ℕ)) (behind : List Token)
    → ((more : List Token) → rest ≡ token.Mark mark.Dot ∷ more → ⊥)
    → old ≡ token.Name a ∷ token.Mark mark.Dot ∷ token.Name b ∷ behind → Says types n old rest
    → SaysQualified types n a b behind rest
qualified_says n {rest = rest} a b behind over is (says_name e f) =
    let dot : rest ≡ token.Mark mark.Dot ∷ token.Name b ∷ behind = cc in absurd (over (token.Name b ∷ behind) dot)
qualified_says n a b behind over is (says_qualified {p = p} {w = w} e f g h) =
    let owner : p ≡ a = cc in
    let name : w ≡ b = cc in
    record {
      is = cc;
      at = e ∙ ap (λ (x : Bor (List ℕ)). Some (go.Qualified x w)) owner
          ∙ ap (λ (x : Bor (List ℕ)). Some (go.Qualified a x)) name;
    }
qualified_says n a b behind over is (says_pointer e f s) = cc
qualified_says n a b behind over is (in_parentheses f s g) = cc
qualified_says n a b behind over is (says_slice e f g s) = cc
qualified_says n a b behind over is (says_array e f g h s) = cc
qualified_says n a b behind over is (says_map e f g k h s) = cc
qualified_says n a b behind over is (says_struct e f g fs h) = cc
qualified_says n a b behind over is (says_interface e f g h) = cc
qualified_says n a b behind over is (says_channel e (both_ways f) s) = cc
qualified_says n a b behind over is (says_channel e (only_sends f g) s) = cc
qualified_says n a b behind over is (says_channel e (only_receives f g) s) = cc
qualified_says n a b behind over is (says_function e f g h r) = cc

pointer_says : {types : List GoType} (n : ℕ) {old rest : List Token} (next : List Token)
    → old ≡ token.Mark mark.Star ∷ next → Says types n old rest
    → SaysOne types n next rest (λ m. go.Pointer m)
pointer_says n next is (says_name e f) = cc
pointer_says n next is (says_qualified e f g h) = cc
pointer_says {types = types} n next is (says_pointer {e = m} {next = mid} {rest = rest} e f s) =
    let same : mid ≡ next = cc in
    record { elem = m; at = e; says = subst (λ (x : List Token). Says types m x rest) same s }
pointer_says n next is (in_parentheses f s g) = cc
pointer_says n next is (says_slice e f g s) = cc
pointer_says n next is (says_array e f g h s) = cc
pointer_says n next is (says_map e f g k h s) = cc
pointer_says n next is (says_struct e f g fs h) = cc
pointer_says n next is (says_interface e f g h) = cc
pointer_says n next is (says_channel e (both_ways f) s) = cc
pointer_says n next is (says_channel e (only_sends f g) s) = cc
pointer_says n next is (says_channel e (only_receives f g) s) = cc
pointer_says n next is (says_function e f g h r) = cc

slice_says : {types : List GoType} (n : ℕ) {old rest : List Token} (next : List Token)
    → old ≡ token.Mark mark.OpenBracket ∷ token.Mark mark.CloseBracket ∷ next → Says types n old rest
    → SaysOne types n next rest (λ m. go.Slice m)
slice_says n next is (says_name e f) = cc
slice_says n next is (says_qualified e f g h) = cc
slice_says n next is (says_pointer e f s) = cc
slice_says n next is (in_parentheses f s g) = cc
slice_says {types = types} n next is (says_slice {e = m} {elem = mid} {rest = rest} e f g s) =
    let same : mid ≡ next = cc in
    record { elem = m; at = e; says = subst (λ (x : List Token). Says types m x rest) same s }
slice_says n next is (says_array e f g h s) = cc
slice_says n next is (says_map e f g k h s) = cc
slice_says n next is (says_struct e f g fs h) = cc
slice_says n next is (says_interface e f g h) = cc
slice_says n next is (says_channel e (both_ways f) s) = cc
slice_says n next is (says_channel e (only_sends f g) s) = cc
slice_says n next is (says_channel e (only_receives f g) s) = cc
slice_says n next is (says_function e f g h r) = cc

array_says : {types : List GoType} (n : ℕ) {old rest : List Token} (length : ℕ) (next : List Token)
    → old ≡ token.Mark mark.OpenBracket ∷ token.Number length ∷ token.Mark mark.CloseBracket ∷ next
    → Says types n old rest → SaysOne types n next rest (λ m. go.Array length m)
array_says n length next is (says_name e f) = cc
array_says n length next is (says_qualified e f g h) = cc
array_says n length next is (says_pointer e f s) = cc
array_says n length next is (in_parentheses f s g) = cc
array_says n length next is (says_slice e f g s) = cc
array_says {types = types} n length next is
    (says_array {e = m} {length = found} {elem = mid} {rest = rest} e f g h s) =
    let same : mid ≡ next = cc in
    let one : found ≡ length = cc in
    record {
      elem = m;
      at = e ∙ ap (λ (l : ℕ). Some (go.Array l m)) one;
      says = subst (λ (x : List Token). Says types m x rest) same s;
    }
array_says n length next is (says_map e f g k h s) = cc
array_says n length next is (says_struct e f g fs h) = cc
array_says n length next is (says_interface e f g h) = cc
array_says n length next is (says_channel e (both_ways f) s) = cc
array_says n length next is (says_channel e (only_sends f g) s) = cc
array_says n length next is (says_channel e (only_receives f g) s) = cc
array_says n length next is (says_function e f g h r) = cc

map_says : {types : List GoType} (n : ℕ) {old rest : List Token} (first : List Token)
    → old ≡ token.Mark mark.Map ∷ token.Mark mark.OpenBracket ∷ first → Says types n old rest
    → SaysPair types n first rest
map_says n first is (says_name e f) = cc
map_says n first is (says_qualified e f g h) = cc
map_says n first is (says_pointer e f s) = cc
map_says n first is (in_parentheses f s g) = cc
map_says n first is (says_slice e f g s) = cc
map_says n first is (says_array e f g h s) = cc
map_says {types = types} n first is
    (says_map {k = j} {e = m} {key = key} {last = last} {elem = mid} {rest = rest} e f g k h s) =
    let same : key ≡ first = cc in
    record {
      key = j;
      elem = m;
      last = last;
      next = mid;
      at = e;
      says_key = subst (λ (x : List Token). Says types j x last) same k;
      close = h;
      says = s;
    }
map_says n first is (says_struct e f g fs h) = cc
map_says n first is (says_interface e f g h) = cc
map_says n first is (says_channel e (both_ways f) s) = cc
map_says n first is (says_channel e (only_sends f g) s) = cc
map_says n first is (says_channel e (only_receives f g) s) = cc
map_says n first is (says_function e f g h r) = cc

interface_says : {types : List GoType} (n : ℕ) {old rest : List Token} (behind : List Token)
    → old ≡ token.Mark mark.Interface ∷ token.Mark mark.OpenBrace ∷ token.Mark mark.CloseBrace ∷ behind
    → Says types n old rest → (rest ≡ behind) × (slice_get types n ≡ Some go.Interface)
interface_says n behind is (says_name e f) = cc
interface_says n behind is (says_qualified e f g h) = cc
interface_says n behind is (says_pointer e f s) = cc
interface_says n behind is (in_parentheses f s g) = cc
interface_says n behind is (says_slice e f g s) = cc
interface_says n behind is (says_array e f g h s) = cc
interface_says n behind is (says_map e f g k h s) = cc
interface_says n behind is (says_struct e f g fs h) = cc
interface_says n behind is (says_interface {last = last} e f g h) =
    let same : last ≡ token.Mark mark.CloseBrace ∷ behind = cc in
    (some_injective (sym h ∙ ap (behind_close 0) same), e)
interface_says n behind is (says_channel e (both_ways f) s) = cc
interface_says n behind is (says_channel e (only_sends f g) s) = cc
interface_says n behind is (says_channel e (only_receives f g) s) = cc
interface_says n behind is (says_function e f g h r) = cc

-- no dot stands behind the type
abbrev NoDot : List Token → Type 0
NoDot behind = (more : List Token) → behind ≡ token.Mark mark.Dot ∷ more → ⊥

read_type : {types : List GoType} (n : ℕ) {e : Written} {old behind rest : List Token} → TypeTokens e old behind
    → NoDot behind → NoDot rest → Says types n old rest → IsRead types n e behind rest
read_type n (of_word {b = b} {rest = behind} named is) end over s =
    let r = word_says n b behind end is s in record { is = r.is; stands = at_word r.at named }
read_type n (of_pointer {next = next} is t) end over s =
    let r = pointer_says n next is s in
    let x = read_type r.elem t end over r.says in record { is = x.is; stands = at_pointer r.at x.stands }
read_type n (of_slice {next = next} is t) end over s =
    let r = slice_says n next is s in
    let x = read_type r.elem t end over r.says in record { is = x.is; stands = at_slice r.at x.stands }
read_type n (of_interface {rest = behind} is) end over s =
    let r = interface_says n behind is s in record { is = r.0; stands = at_interface r.1 }
read_type n (of_array {m = m} {next = next} same is t) end over s =
    let r = array_says n m next is s in
    let x = read_type r.elem t end over r.says in record { is = x.is; stands = at_array r.at same x.stands }
read_type n (of_qualified {a = a} {b = b} {rest = behind} owned named is) end over s =
    let r = qualified_says n a b behind over is s in record { is = r.is; stands = at_qualified r.at owned named }
read_type {types = types} n (of_map {first = first} {mid = mid} {next = next} is k close t) end over
    s = with_key (map_says n first is s) (λ next m l shut a. read_type m k (closes_key close) (closes_key shut) a)
    (λ m a. read_type m t end over a)
  where
    with_key : {behind rest : List Token} {a e : Written} → SaysPair types n first rest
        → ((behind : List Token) (m : ℕ) (last : List Token) → last ≡ token.Mark mark.CloseBracket ∷ behind
        → Says types m first last → IsRead types m a mid last)
        → ((m : ℕ) → Says types m next rest → IsRead types m e behind rest)
        → IsRead types n (map_of a e) behind rest
    with_key {rest = rest} r key elem =
        let x = key r.next r.key r.last r.close r.says_key in
        let here = x.is in
        let shut = r.close in
        let there : r.next ≡ next = cc in
        let y = elem r.elem (subst (λ (l : List Token). Says types r.elem l rest) there r.says) in
        record { is = y.is; stands = at_map r.at x.stands y.stands }

-- no type begins with a sign of equality
no_equals_says : {types : List GoType} (n : ℕ) {old rest more : List Token} → old ≡ token.Mark mark.Equals ∷ more
    → Says types n old rest → ⊥
no_equals_says n is (says_name e f) = cc
no_equals_says n is (says_qualified e f g h) = cc
no_equals_says n is (says_pointer e f s) = cc
no_equals_says n is (in_parentheses f s g) = cc
no_equals_says n is (says_slice e f g s) = cc
no_equals_says n is (says_array e f g h s) = cc
no_equals_says n is (says_map e f g k h s) = cc
no_equals_says n is (says_struct e f g fs h) = cc
no_equals_says n is (says_interface e f g h) = cc
no_equals_says n is (says_channel e (both_ways f) s) = cc
no_equals_says n is (says_channel e (only_sends f g) s) = cc
no_equals_says n is (says_channel e (only_receives f g) s) = cc
no_equals_says n is (says_function e f g h r) = cc

-- ---- lines

-- a type begins with a token that ends no names
record Begins (old : List Token) : Type 0 where
  first : Token
  others : List Token
  is : old ≡ first ∷ others
  no_comma : token.Mark mark.Comma ≡ first → ⊥
  no_end : ends_name first ≡ false
  no_equals : token.Mark mark.Equals ≡ first → ⊥

type_begins : {e : Written} {old rest : List Token} → TypeTokens e old rest → Begins old
type_begins (of_word {b = b} {rest = rest} named is) =
    record {
      first = token.Name b;
      others = rest;
      is = is;
      no_comma = λ x. cc;
      no_end = refl;
      no_equals = λ x. cc;
    }
type_begins (of_qualified {a = a} {b = b} {rest = rest} owned named is) =
    record {
      first = token.Name a;
      others = token.Mark mark.Dot ∷ token.Name b ∷ rest;
      is = is;
      no_comma = λ x. cc;
      no_end = refl;
      no_equals = λ x. cc;
    }
type_begins (of_pointer {next = next} is t) =
    record {
      first = token.Mark mark.Star;
      others = next;
      is = is;
      no_comma = λ x. cc;
      no_end = refl;
      no_equals = λ x. cc;
    }
type_begins (of_slice {next = next} is t) =
    record {
      first = token.Mark mark.OpenBracket;
      others = token.Mark mark.CloseBracket ∷ next;
      is = is;
      no_comma = λ x. cc;
      no_end = refl;
      no_equals = λ x. cc;
    }
type_begins (of_interface {rest = rest} is) =
    record {
      first = token.Mark mark.Interface;
      others = token.Mark mark.OpenBrace ∷ token.Mark mark.CloseBrace ∷ rest;
      is = is;
      no_comma = λ x. cc;
      no_end = refl;
      no_equals = λ x. cc;
    }
type_begins (of_array {m = m} {next = next} same is t) =
    record {
      first = token.Mark mark.OpenBracket;
      others = token.Number m ∷ token.Mark mark.CloseBracket ∷ next;
      is = is;
      no_comma = λ x. cc;
      no_end = refl;
      no_equals = λ x. cc;
    }
type_begins (of_map {first = first} is k close t) =
    record {
      first = token.Mark mark.Map;
      others = token.Mark mark.OpenBracket ∷ first;
      is = is;
      no_comma = λ x. cc;
      no_end = refl;
      no_equals = λ x. cc;
    }

one_named : {ws : List (Bor (List ℕ))} {old rest : List Token} (b : Bor (List ℕ)) (t : Token) (more : List Token)
    → SaysNames ws old rest → old ≡ token.Name b ∷ t ∷ more → (token.Mark mark.Comma ≡ t → ⊥)
    → (ws ≡ b ∷ []) × (rest ≡ t ∷ more)
one_named b t more (one_name {w = w} f) is free =
    let same : w ≡ b = cc in (ap (λ (x : Bor (List ℕ)). x ∷ []) same, cc)
one_named b t more (more_names {mid = mid} {next = next} s f g) is free =
    let r = one_named b t more s is free in
    let known : mid ≡ t ∷ more = r.1 in
    let comma : token.Mark mark.Comma ≡ t = cc in
    absurd (free comma)

names_begin : {ws : List (Bor (List ℕ))} {old rest : List Token} → SaysNames ws old rest
    → (b : Bor (List ℕ)) × (more : List Token) × (old ≡ token.Name b ∷ more)
names_begin (one_name {w = w} {rest = rest} f) = (w, rest, f)
names_begin (more_names s f g) = names_begin s

embeds_name : {old : List Token} (b : Bor (List ℕ)) (t : Token) (more : List Token) → old ≡ token.Name b ∷ t ∷ more
    → ends_name t ≡ false → IsTrue (embeds old) → ⊥
embeds_name b t more is free h = let k = sym (ap embeds is ∙ free) ∙ h in cc

embeds_close : {old : List Token} (more : List Token) → old ≡ token.Mark mark.CloseBrace ∷ more → IsTrue (embeds old)
    → ⊥
embeds_close [] is h = let k = sym (ap embeds is) ∙ h in cc
embeds_close (t ∷ ts) is h = let k = sym (ap embeds is) ∙ h in cc

names_read : {ws : List (Bor (List ℕ))} {old rest : List Token} (b : Bor (List ℕ)) (t : Token) (more : List Token)
    → FieldNames ws old rest → old ≡ token.Name b ∷ t ∷ more → (token.Mark mark.Comma ≡ t → ⊥) → ends_name t ≡ false
    → (ws ≡ b ∷ []) × (rest ≡ t ∷ more)
names_read b t more (names_stand s) is free end = one_named b t more s is free
names_read b t more (none_stands h) is free end = absurd (embeds_name b t more is end h)

tags_none : {old rest more : List Token} → Tagged old rest → old ≡ token.Mark mark.Stop ∷ more → rest ≡ old
tags_none untagged is = refl
tags_none (tagged f) is = cc

stops_there : {old rest : List Token} (more : List Token) → Stops old rest → old ≡ token.Mark mark.Stop ∷ more
    → rest ≡ more
stops_there more (stopped f) is = cc
stops_there more (closed h) is = let k = sym (ap closes is) ∙ h in cc

-- what ends a line, or a declaration, begins with no dot
stops_dot : {old rest : List Token} → Stops old rest → NoDot old
stops_dot (stopped f) more is = cc
stops_dot (closed h) more is = let k = sym (ap closes is) ∙ h in cc

tags_dot : {old mid rest : List Token} → Tagged old mid → Stops mid rest → NoDot old
tags_dot untagged stop = stops_dot stop
tags_dot (tagged f) stop = λ more is. cc

-- the line of a struct is this one
record IsLine (types : List GoType) (f : GoField) (l : Line) (behind rest : List Token) : Type 0 where
  is : rest ≡ behind
  name : Bor (List ℕ)
  names : f.names.items ≡ name ∷ []
  named : name.now ≡ l.name
  stands : StandsAt types f.of l.type

read_line : {types : List GoType} {f : GoField} {l : Line} {old next rest : List Token} → LineTokens l old next
    → SaysField types f old rest → IsLine types f l next rest
read_line {types = types} {f = f} {next = next} line (says_field {next = typed} {typed = after} names s tag stop) =
    let begins = type_begins line.typed in
    let whole = line.is ∙ ap (λ (x : List Token). token.Name line.name ∷ x) begins.is in
    let r = names_read line.name begins.first begins.others names whole begins.no_comma begins.no_end in
    let at : typed ≡ line.next = r.1 ∙ sym begins.is in
    let t = read_type f.of line.typed stops_type (tags_dot tag stop)
    (subst (λ (x : List Token). Says types f.of x after) at s) in
    record {
      is = stops_there next stop (tags_none tag t.is ∙ t.is);
      name = line.name;
      names = r.0;
      named = line.named;
      stands = t.stands;
    }

-- lines from the first on
data LinesSaid (types : List GoType) : List GoField → (old rest : List Token) → Type 0 where
  none : {old : List Token} → LinesSaid types [] old old
  one : {f : GoField} {fs : List GoField} {old next rest : List Token} → SaysField types f old next
      → LinesSaid types fs next rest → LinesSaid types (f ∷ fs) old rest

lines_said : {types : List GoType} {fs : List GoField} {old mid rest : List Token} → SaysFields types fs old mid
    → (gs : List GoField) → LinesSaid types gs mid rest → LinesSaid types (fs ++ gs) old rest
lines_said no_fields gs l = l
lines_said {types = types} {old = old} {rest = rest} (more_fields {fs = fs} {f = f} s one_more) gs l =
    subst (λ (x : List GoField). LinesSaid types x old rest) (sym (append_assoc fs (f ∷ []) gs))
    (lines_said s (f ∷ gs) (one one_more l))

-- the lines are these, and that is behind the bracket that closes them
record AreLines (types : List GoType) (fs : List GoField) (ls : List Line) (behind rest : List Token) : Type 0 where
  is : rest ≡ behind
  stand : LinesStand types fs ls

read_lines : {types : List GoType} {fs : List GoField} {ls : List Line} {old last end : List Token}
    (behind rest : List Token) → LinesTokens ls old last → last ≡ token.Mark mark.CloseBrace ∷ behind
    → LinesSaid types fs old end → end ≡ token.Mark mark.CloseBrace ∷ rest → AreLines types fs ls behind rest
read_lines behind rest no_tokens close none shut = record { is = cc; stand = no_line }
read_lines behind rest no_tokens close (one (says_field (names_stand s) t tag stop) more) shut =
    let b = names_begin s in let k = b.2 in cc
read_lines behind rest no_tokens close (one (says_field (none_stands h) t tag stop) more) shut =
    absurd (embeds_close behind close h)
read_lines behind rest (more_tokens line toks) close none shut = let k = line.is in cc
read_lines {types = types} behind rest (more_tokens line toks) close (one {fs = fs} {rest = end} said more) shut =
    let first = read_line line said in
    let others = read_lines behind rest toks close (subst (λ (x : List Token). LinesSaid types fs x end) first.is more)
    shut in
    record { is = others.is; stand = one_line first.names first.named first.stands others.stand }

-- ---- structs

own_type : {old rest more : List Token} (b : Bool) (t : Token) → Aliased b old rest → old ≡ t ∷ more
    → (token.Mark mark.Equals ≡ t → ⊥) → (b ≡ false) × (rest ≡ old)
own_type true t e is free = let k : token.Mark mark.Equals ≡ t = cc in absurd (free k)
own_type false t e is free = (refl, e)

-- the type at the place is a struct of these lines
record IsReadStruct (types : List GoType) (n : ℕ) (ls : List Line) (behind rest : List Token) : Type 0 where
  is : rest ≡ behind
  found : _
  struct : slice_get types n ≡ Some (go.Struct found)
  stand : LinesStand types found.items ls

read_struct : {types : List GoType} (n : ℕ) {ls : List Line} {old first rest : List Token} (behind : List Token)
    → old ≡ token.Mark mark.Struct ∷ token.Mark mark.OpenBrace ∷ first
    → LinesTokens ls first (token.Mark mark.CloseBrace ∷ behind) → Says types n old rest
    → IsReadStruct types n ls behind rest
read_struct n behind is lines (says_name e f) = cc
read_struct n behind is lines (says_qualified e f g h) = cc
read_struct n behind is lines (says_pointer e f s) = cc
read_struct n behind is lines (in_parentheses f s g) = cc
read_struct n behind is lines (says_slice e f g s) = cc
read_struct n behind is lines (says_array e f g h s) = cc
read_struct n behind is lines (says_map e f g k h s) = cc
read_struct {types = types} n {ls = ls} {first = first} behind is lines
    (says_struct {fields = fields} {first = begun} {last = last} {rest = rest} e f g fs h) =
    let same : begun ≡ first = cc in
    let said = lines_said fs [] none in
    let found = read_lines behind rest lines refl
    (subst (λ (x : List Token). LinesSaid types (fields.items ++ []) x last) same said) h in
    record {
      is = found.is;
      found = fields;
      struct = e;
      stand = subst (λ (x : List GoField). LinesStand types x ls) (append_none fields.items) found.stand;
    }
read_struct n behind is lines (says_interface e f g h) = cc
read_struct n behind is lines (says_channel e (both_ways f) s) = cc
read_struct n behind is lines (says_channel e (only_sends f g) s) = cc
read_struct n behind is lines (says_channel e (only_receives f g) s) = cc
read_struct n behind is lines (says_function e f g h r) = cc

-- what is declared stands at the place, and is another name where it is to be one
record IsReadBody (types : List GoType) (n : ℕ) (b : Body) (alias : Bool) (behind rest : List Token) : Type 0 where
  is : rest ≡ token.Mark mark.Stop ∷ behind
  is_alias : alias ≡ is_another b
  stands : BodyStands types n b

read_body : {types : List GoType} (n : ℕ) {b : Body} {old begun behind rest : List Token} (alias : Bool)
    → BodyTokens b old behind → Aliased alias old begun → NoDot rest → Says types n begun rest
    → IsReadBody types n b alias behind rest
read_body {types = types} n {rest = rest} alias (fields_tokens {next = next} {rest = behind} is lines) aliased over s =
    let own = own_type alias (token.Mark mark.Struct) aliased is (λ x. cc) in
    let r = read_struct n (token.Mark mark.Stop ∷ behind) is lines
    (subst (λ (l : List Token). Says types n l rest) own.1 s) in
    record { is = r.is; is_alias = own.0; stands = fields_stand r.struct r.stand }
read_body {types = types} n {rest = rest} alias (parts_tokens t) aliased over s =
    let b = type_begins t in
    let own = own_type alias b.first aliased b.is b.no_equals in
    let r = read_type n t stops_type over (subst (λ (l : List Token). Says types n l rest) own.1 s) in
    record { is = r.is; is_alias = own.0; stands = parts_stand r.stands }
read_body n false (another_tokens is t) aliased over s = absurd (no_equals_says n (aliased ∙ is) s)
read_body {types = types} n {begun = begun} {rest = rest} true (another_tokens {next = next} is t) aliased over s =
    let same : begun ≡ next = cc in
    let r = read_type n t stops_type over (subst (λ (l : List Token). Says types n l rest) same s) in
    record { is = r.is; is_alias = refl; stands = another_stands r.stands }

-- the declarations are this one
record IsReadTop (types : List GoType) (x : Struct) (es : List Declaration) (behind rest : List Token) : Type 0 where
  is : rest ≡ behind
  declaration : Declaration
  one : es ≡ declaration ∷ []
  declared : IsDeclared types declaration x

read_declaration : {types : List GoType} {x : Struct} {note : Note} {d : Declaration} {old behind rest : List Token}
    (b : Bor (List ℕ)) (body : List Token) → note.marshal ≡ x.marshal → b.now ≡ x.name → old ≡ token.Name b ∷ body
    → BodyTokens x.body body behind → SaysDeclaration types note d old rest → IsReadTop types x (d ∷ []) behind rest
read_declaration {types = types} {d = d} {behind = behind} b body marshal named is tokens
    (says_declaration {next = next} {begun = begun} {typed = typed} noted f alias says stop) =
    let at : next ≡ body = cc in
    let found = read_body d.of d.is_alias tokens (subst (λ (l : List Token). Aliased d.is_alias l begun) at alias)
    (stops_dot stop) says in
    let name : d.name ≡ b = cc in
    record {
      is = stops_there behind stop found.is;
      declaration = d;
      one = refl;
      declared = record {
        named = ap (λ (y : Bor (List ℕ)). y.now) name ∙ named;
        noted = ap (λ (y : Note). y.marshal) noted ∙ marshal;
        is_alias = found.is_alias;
        body = found.stands;
      };
    }

read_top : {types : List GoType} {x : Struct} {es : List Declaration} {old behind rest : List Token}
    → StructTokens x old behind → SaysTop types es old rest → IsReadTop types x es behind rest
read_top {types = types} tokens (declares_types {note = note} {next = next} f (one_type {d = d} {rest = rest} s)) =
    let is = tokens.is in
    let same : note ≡ tokens.note = cc in
    let at : next ≡ token.Name tokens.name ∷ tokens.next = cc in
    read_declaration tokens.name tokens.next (ap (λ (y : Note). y.marshal) same ∙ tokens.noted) tokens.named at
    tokens.body s
read_top tokens (declares_types f (some_types g group h stop)) = let is = tokens.is in cc
read_top tokens (names_package f g stop) = let is = tokens.is in cc
read_top tokens (passed_over f passed stop) = let is = tokens.is in cc

-- ---- source

-- declarations from the first on
data TopsSaid (types : List GoType) : List Declaration → (old rest : List Token) → Type 0 where
  no_top : {old : List Token} → TopsSaid types [] old old
  one_top : {ds es whole : List Declaration} {old next rest : List Token} → SaysTop types es old next
      → TopsSaid types ds next rest → whole ≡ es ++ ds → TopsSaid types whole old rest

tops_said : {types : List GoType} {ds : List Declaration} {old mid rest : List Token} → SaysSource types ds old mid
    → (es : List Declaration) → TopsSaid types es mid rest → TopsSaid types (ds ++ es) old rest
tops_said nothing_said es t = t
tops_said {types = types} {old = old} {rest = rest} (more_said {ds = ds} {es = fs} s top) es t =
    subst (λ (x : List Declaration). TopsSaid types x old rest) (sym (append_assoc ds fs es))
    (tops_said s (fs ++ es) (one_top top t refl))

-- what is passed over declares nothing
passed_top : {types : List GoType} {es : List Declaration} {m : Mark} {old rest : List Token}
    (next behind : List Token) → old ≡ token.Mark m ∷ next → IsTrue (is_passed m) → behind_stop 0 next ≡ Some behind
    → SaysTop types es old rest → (es ≡ []) × (rest ≡ behind)
passed_top next behind is passed stop (declares_types f s) = cc
passed_top {m = m} next behind is passed stop (names_package f g s) =
    let same : m ≡ mark.Package = cc in
    let k = sym (ap is_passed same) ∙ passed in cc
passed_top next behind is passed stop (passed_over {next = other} f also found) =
    let same : other ≡ next = cc in (refl, some_injective (sym found ∙ ap (behind_stop 0) same ∙ stop))

read_tops : {types : List GoType} {ds : List Declaration} {xs : List Struct} {old rest : List Token}
    → StructsTokens xs old → TopsSaid types ds old rest → rest ≡ [] → AreDeclared types ds xs
read_tops no_structs no_top end = none_declared
read_tops no_structs (one_top (declares_types f s) more is) end = cc
read_tops no_structs (one_top (names_package f g s) more is) end = cc
read_tops no_structs (one_top (passed_over f g s) more is) end = cc
read_tops (more_structs tokens others) no_top end = let k = tokens.is in cc
read_tops (passed_tokens is passed stop others) no_top end = cc
read_tops {types = types} {xs = xs} (passed_tokens {next = next} {rest = behind} is passed stop others)
    (one_top {ds = ds} {rest = rest} top more whole) end =
    let found = passed_top next behind is passed stop top in
    let behind_it = read_tops others (subst (λ (x : List Token). TopsSaid types ds x rest) found.1 more) end in
    subst (λ (x : List Declaration). AreDeclared types x xs)
    (sym (whole ∙ ap (λ (y : List Declaration). y ++ ds) found.0)) behind_it
read_tops {types = types} {xs = xs} (more_structs tokens others) (one_top {ds = ds} {rest = rest} top more is) end =
    let found = read_top tokens top in
    let behind = read_tops others (subst (λ (x : List Token). TopsSaid types ds x rest) found.is more) end in
    subst (λ (x : List Declaration). AreDeclared types x xs)
    (sym (is ∙ ap (λ (y : List Declaration). y ++ ds) found.one))
    (more_declared found.declared behind)

package_top : {types : List GoType} {es : List Declaration} {old rest : List Token} (b : Bor (List ℕ))
    (behind : List Token) → old ≡ token.Mark mark.Package ∷ token.Name b ∷ token.Mark mark.Stop ∷ behind
    → SaysTop types es old rest → (es ≡ []) × (rest ≡ behind)
package_top b behind is (declares_types f s) = cc
package_top b behind is (names_package {end = end} f g stop) =
    let at : end ≡ token.Mark mark.Stop ∷ behind = cc in (refl, stops_there behind stop at)
package_top b behind is (passed_over {m = m} f passed stop) =
    let at : m ≡ mark.Package = cc in
    let k = sym (ap is_passed at) ∙ passed in cc

-- source of types declares them
pub source_declares : {types : List GoType} {ds : List Declaration} {xs : List Struct} {old : List Token}
    (b : Bor (List ℕ)) (behind : List Token)
    → old ≡ token.Mark mark.Package ∷ token.Name b ∷ token.Mark mark.Stop ∷ behind → StructsTokens xs behind
    → SaysSource types ds old [] → AreDeclared types ds xs
source_declares {types = types} {ds = ds} {xs = xs} {old = old} b behind is tokens s =
    subst (λ (x : List Declaration). AreDeclared types x xs) (append_none ds) (by (tops_said s [] no_top) refl)
  where
    by : {es : List Declaration} {rest : List Token} → TopsSaid types es old rest → rest ≡ [] → AreDeclared types es xs
    by no_top end = cc
    by (one_top {ds = fs} {rest = rest} top more whole) end =
        let found = package_top b behind is top in
        let others = read_tops tokens (subst (λ (x : List Token). TopsSaid types fs x rest) found.1 more) end in
        subst (λ (x : List Declaration). AreDeclared types x xs)
        (sym (whole ∙ ap (λ (y : List Declaration). y ++ fs) found.0)) others
