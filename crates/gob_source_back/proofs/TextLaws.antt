-- The tokens of texts that are written.
use Rattle.std.proofs.Common.{◌≡◌, ◌∙◌, ℕ, suc, ◌<◌, ◌^◌, List, [], ◌∷◌, ◌++◌, Bool, true, false, refl, ap, sym, subst}
use Rattle.std.proofs.Common.{append_assoc, append-nil, codes, decimal, drop, length, replicate, Some, None}
use Rattle.std.proofs.Common.{nat_eq}
use Rattle.std.specs.List.{starts_with}
use Rattle.gob_go_source.specs.Notes.{note_head, NoteOf, SaysNote, marshal_of, notes, notes_nothing, says_note}
use Rattle.gob_go_source.specs.Notes.{says_nothing}
use Rattle.gob_source_back.proofs.WordLaws.{quiet_front, number_front, are_digits, blank_front, comment_front}
use Rattle.gob_source_back.proofs.WordLaws.{comment_stays, digits_end, drop_spaces, line_front, marshal_said}
use Rattle.gob_source_back.proofs.WordLaws.{no_marshal, sign_front, word_text}
use Rattle.gob_source_back.proofs.Written.{AreQuiet, IsQuiet, remarks_text, more_quiet, none_quiet, notes_then}
use Rattle.gob_source_back.proofs.Written.{structs_then, Body, BodyHasWords, BodyTokens, array_of, body_then, fields}
use Rattle.gob_source_back.proofs.Written.{fields_tokens, map_of, of_array, of_map, parts, parts_tokens, HasWords}
use Rattle.gob_source_back.proofs.Written.{IsWordText, Line, LineTokens, LinesHaveWords, LinesTokens, Struct}
use Rattle.gob_source_back.proofs.Written.{StructTokens, StructsTokens, TypeTokens, Written, interface, lines_then}
use Rattle.gob_source_back.proofs.Written.{more_structs, more_tokens, more_words, no_structs, no_tokens, no_words}
use Rattle.gob_source_back.proofs.Written.{of_interface, of_pointer, of_slice, of_word, pointer, slice, struct_then}
use Rattle.gob_source_back.proofs.Written.{another, another_tokens, encoding, methods_then, of_qualified, qualified}
use Rattle.gob_source_back.proofs.Written.{type_then, word}
use Rattle.gob_types.proofs.PublicLaws.{some_injective}
use Rattle.gob_types.specs.declared.id.TypeId.{TypeId}
use Rattle.gob_types.specs.declared.kind.Marshal.{Marshal}
use Rattle.gob_types.specs.Table.{Table}
use Rattle.gob_source.specs.Source.{imports_text, marshal_text}
use Rattle.std.specs.Borrow.{Bor}
use Rattle.std.specs.Prelude.{Option}
use Rattle.gob_go_source.specs.declared.token.Mark.TheVariants as mark
use Rattle.gob_go_source.specs.declared.token.Note.{Note}
use Rattle.gob_go_source.specs.declared.token.Token.{Token}
use Rattle.gob_go_source.specs.declared.token.Token.TheVariants as token
use Rattle.gob_go_source.specs.Lexing.{Lexes, front, sign as sign_mark}
use Rattle.gob_go_source.specs.Scanning.{is_blank, is_word_byte}
use Rattle.gob_source_back.proofs.PassLaws.{imports_read, methods_read}
use Rattle.gob_source_back.proofs.ReadingLaws.{number_read, Reads, ReadsNoted, Takes, blank_read, drop_front}
use Rattle.gob_source_back.proofs.ReadingLaws.{keyword_read, line_passed, line_read, marshal_behind, reads_none}
use Rattle.gob_source_back.proofs.ReadingLaws.{reads_text, said_comment, sign_read, take_front, type_read, word_read}
use Rattle.gob_source_back.proofs.Named.{blank_piece, sign_piece}

-- ---- types

-- the tokens of a type stand first, and the others are read behind it
record ReadsType (e : Written) (text : List ℕ) (us : List Token) : Type 0 where
  next : List Token
  tokens : TypeTokens e us next
  reads : Reads true text next

sign : {ends : Bool} {us : List Token} (b : ℕ) (text : List ℕ)
    → front (b ∷ text) ≡ Some (record { piece = sign_piece; len = 1 }) → Reads ends (b ∷ text) us
    → Takes (token.Mark (sign_mark b)) text us
sign b text e r = sign_read (sign_mark b) e refl r

type_reads : (e : Written) {ends : Bool} {us : List Token} (c : ℕ) (rest : List ℕ) → is_word_byte c ≡ false → HasWords e
    → Reads ends (type_then e (c ∷ rest)) us → ReadsType e (c ∷ rest) us
type_reads (word w) c rest other words r =
    let t = word_read w c rest words (words.fronts c rest other) r in
    record { next = t.takes.more; tokens = of_word t.named t.takes.is; reads = t.takes.reads }
type_reads (pointer e) c rest other words r =
    let t = sign 42 (type_then e (c ∷ rest)) (sign_front 42 (type_then e (c ∷ rest)) refl refl refl) r in
    let u = type_reads e c rest other words t.reads in
    record { next = u.next; tokens = of_pointer t.is u.tokens; reads = u.reads }
type_reads (slice e) c rest other words r =
    let t = sign 91 (93 ∷ type_then e (c ∷ rest)) (sign_front 91 (93 ∷ type_then e (c ∷ rest)) refl refl refl) r in
    let v = sign 93 (type_then e (c ∷ rest)) (sign_front 93 (type_then e (c ∷ rest)) refl refl refl) t.reads in
    let u = type_reads e c rest other words v.reads in
    let is = t.is ∙ ap (λ (l : List Token). token.Mark mark.OpenBracket ∷ l) v.is in
    record { next = u.next; tokens = of_slice is u.tokens; reads = u.reads }
type_reads interface c rest other words r =
    let t = keyword_read 9 mark.Interface refl (λ n. refl) r in
    let v = sign 123 (codes "}" ++ c ∷ rest) (sign_front 123 (codes "}" ++ c ∷ rest) refl refl refl) t.reads in
    let u = sign 125 (c ∷ rest) (sign_front 125 (c ∷ rest) refl refl refl) v.reads in
    let is = t.is ∙ ap (λ (l : List Token). token.Mark mark.Interface ∷ l)
    (v.is ∙ ap (λ (l : List Token). token.Mark mark.OpenBrace ∷ l) u.is) in
    record { next = u.more; tokens = of_interface is; reads = u.reads }
type_reads (array_of n e) c rest other words r =
    let elem = type_then e (c ∷ rest) in
    let t = sign 91 (decimal n ++ 93 ∷ elem) (sign_front 91 (decimal n ++ 93 ∷ elem) refl refl refl) r in
    let l = number_read n 93 elem words.0 (number_front n elem words.0) t.reads in
    let v = sign 93 elem (sign_front 93 elem refl refl refl) l.takes.reads in
    let u = type_reads e c rest other words.1 v.reads in
    let is = t.is ∙ ap (λ (x : List Token). token.Mark mark.OpenBracket ∷ x)
    (l.takes.is ∙ ap (λ (x : List Token). token.Number l.number ∷ x) v.is) in
    record { next = u.next; tokens = of_array l.same is u.tokens; reads = u.reads }
type_reads (map_of k e) c rest other words r =
    let elem = type_then e (c ∷ rest) in
    let key = type_then k (93 ∷ elem) in
    let t = keyword_read 3 mark.Map refl (λ n. refl) r in
    let o = sign 91 key (sign_front 91 key refl refl refl) t.reads in
    let a = type_reads k 93 elem refl words.0 o.reads in
    let v = sign 93 elem (sign_front 93 elem refl refl refl) a.reads in
    let u = type_reads e c rest other words.1 v.reads in
    let is = t.is ∙ ap (λ (x : List Token). token.Mark mark.Map ∷ x) o.is in
    record { next = u.next; tokens = of_map is a.tokens v.is u.tokens; reads = u.reads }
type_reads (qualified p w) c rest other words r =
    let name = w ++ c ∷ rest in
    let a = word_read p 46 name words.0 (words.0.fronts 46 name refl) r in
    let d = sign 46 name (sign_front 46 name refl refl refl) a.takes.reads in
    let b = word_read w c rest words.1 (words.1.fronts c rest other) d.reads in
    let is = a.takes.is ∙ ap (λ (x : List Token). token.Name a.name ∷ x)
    (d.is ∙ ap (λ (x : List Token). token.Mark mark.Dot ∷ x) b.takes.is) in
    record { next = b.takes.more; tokens = of_qualified a.named b.named is; reads = b.takes.reads }

-- ---- lines

-- no type begins with white space
record BeginsText (text : List ℕ) : Type 0 where
  first : ℕ
  others : List ℕ
  is : text ≡ first ∷ others
  solid : is_blank first ≡ false

word_begins : (w rest : List ℕ) → IsWordText w → BeginsText (w ++ rest)
word_begins w rest words = record {
  first = words.first;
  others = words.others ++ rest;
  is = ap (λ (l : List ℕ). l ++ rest) words.begins;
  solid = words.solid;
}

type_begins : (e : Written) (rest : List ℕ) → HasWords e → BeginsText (type_then e rest)
type_begins (word w) rest words = word_begins w rest words
type_begins (pointer e) rest words = record { first = 42; others = type_then e rest; is = refl; solid = refl }
type_begins (slice e) rest words = record { first = 91; others = 93 ∷ type_then e rest; is = refl; solid = refl }
type_begins interface rest words =
    record { first = 105; others = codes "nterface{}" ++ rest; is = refl; solid = refl }
type_begins (array_of n e) rest words =
    record { first = 91; others = decimal n ++ (93 ∷ type_then e rest); is = refl; solid = refl }
type_begins (map_of k e) rest words =
    record { first = 109; others = codes "ap[" ++ type_then k (93 ∷ type_then e rest); is = refl; solid = refl }
type_begins (qualified p w) rest words = word_begins p (46 ∷ (w ++ rest)) words.0

tab_read : {ends : Bool} {us : List Token} (text : List ℕ) → BeginsText text → Reads ends (9 ∷ text) us
    → Reads ends text us
tab_read text b r =
    blank_read 1 (subst (λ (l : List ℕ). front (9 ∷ l) ≡ Some (record { piece = blank_piece; len = 1 })) (sym b.is)
    (blank_front 9 0 b.first b.others refl refl refl b.solid)) r

spaces_read : {ends : Bool} {us : List Token} (n : ℕ) (text : List ℕ) → BeginsText text
    → Reads ends (32 ∷ (replicate n 32 ++ text)) us → Reads ends text us
spaces_read {ends = ends} {us = us} n text b r =
    subst (λ (l : List ℕ). Reads ends l us) (drop_spaces n text)
    (blank_read (suc n) (subst (λ (l : List ℕ). front (32 ∷ (replicate n 32 ++ l))
    ≡ Some (record { piece = blank_piece; len = suc n })) (sym b.is)
    (blank_front 32 n b.first b.others refl refl refl b.solid)) r)

record ReadsLines (ls : List Line) (text : List ℕ) (us : List Token) : Type 0 where
  next : List Token
  tokens : LinesTokens ls us next
  reads : Reads false text next

lines_read : (ls : List Line) {us : List Token} (rest : List ℕ) → LinesHaveWords ls
    → Reads false (lines_then ls rest) us → ReadsLines ls rest us
lines_read [] {us = us} rest no_words r = record { next = us; tokens = no_tokens; reads = r }
lines_read (l ∷ ls) {us = us} rest (more_words named typed others) r =
    let tail = 10 ∷ lines_then ls rest in
    let type = replicate l.pad 32 ++ type_then l.type tail in
    let s = tab_read (l.name ++ (32 ∷ type)) (word_begins l.name (32 ∷ type) named) r in
    let n = word_read l.name 32 type named (named.fronts 32 type refl) s in
    let p = spaces_read l.pad (type_then l.type tail) (type_begins l.type tail typed) n.takes.reads in
    let t = type_reads l.type 10 (lines_then ls rest) refl typed p in
    let e = line_read (line_front (lines_then ls rest)) t.reads in
    let o = lines_read ls rest others e.reads in
    let line : LineTokens l us e.more = record {
      name = n.name;
      named = n.named;
      next = n.takes.more;
      is = n.takes.is;
      typed = subst (λ (x : List Token). TypeTokens l.type n.takes.more x) e.is t.tokens;
    } in
    record { next = o.next; tokens = more_tokens line o.tokens; reads = o.reads }

-- ---- structs

-- what a note says of digits and what stands behind them
note_says : (n : ℕ) → n < 2 ^ 64 → (m : Option Marshal) {o : Option Note} (note : Note) → note.marshal ≡ None
    → NoteOf (decimal n ++ encoding m) o → marshal_behind o note ≡ m
note_says n small None note said (notes {size = size} e number marshal) =
    marshal ∙ ap (λ (l : List ℕ). marshal_of (drop size l)) (append-nil (decimal n))
    ∙ no_marshal (decimal n) (are_digits n small) size
note_says n small None note said (notes_nothing none) = said
note_says n small (Some m) note said (notes {size = size} e number marshal) =
    let size_is : size ≡ length (decimal n) = some_injective (sym e ∙ digits_end m (decimal n) (are_digits n small)) in
    marshal ∙ ap (λ (k : ℕ). marshal_of (drop k (decimal n ++ marshal_text m))) size_is
    ∙ ap marshal_of (drop_front (decimal n) (marshal_text m)) ∙ marshal_said m
note_says n small (Some m) note said (notes_nothing none) =
    absurd (none (length (decimal n)) (digits_end m (decimal n) (are_digits n small)) n small
    (sym (take_front (decimal n) (marshal_text m))))

comment_says : (n : ℕ) → n < 2 ^ 64 → (m : Option Marshal) {o : Option Note} (note : Note) → note.marshal ≡ None
    → SaysNote (codes "// type " ++ (decimal n ++ encoding m)) o → marshal_behind o note ≡ m
comment_says n small m note said (says_note begins of) = note_says n small m note said of
comment_says n small m note said (says_nothing other) = absurd (other refl)

comment_read : {us : List Token} (n : ℕ) (m : Option Marshal) (rest : List ℕ) → n < 2 ^ 64
    → Reads false (codes "// type " ++ (decimal n ++ (encoding m ++ 10 ∷ rest))) us
    → ReadsNoted m false (10 ∷ rest) us
comment_read {us = us} n m rest small r =
    let said = decimal n ++ encoding m in
    let whole = codes "// type " ++ said in
    let front_is = comment_front said rest (comment_stays n small m) in
    let here = subst (λ (l : List ℕ). Reads false (codes "// type " ++ l) us)
    (sym (append_assoc (decimal n) (encoding m) (10 ∷ rest))) r in
    subst (λ (l : List ℕ). ReadsNoted m false l us) (drop_front whole (10 ∷ rest))
    (said_comment (length whole) front_is (λ o note none s. comment_says n small m note none
    (subst (λ (l : List ℕ). SaysNote l o) (take_front whole (10 ∷ rest)) s)) here)

quiet_says : {m : Option Marshal} (c : List ℕ) {o : Option Note} (note : Note) → note.marshal ≡ m
    → starts_with nat_eq c note_head ≡ false → SaysNote c o → marshal_behind o note ≡ m
quiet_says c note said other (says_note begins of) = let k = sym begins ∙ other in cc
quiet_says c note said other (says_nothing none) = said

quiet_read : {m : Option Marshal} {us : List Token} (c rest : List ℕ) → IsQuiet c
    → ReadsNoted m false (c ++ 10 ∷ rest) us → ReadsNoted m false (10 ∷ rest) us
quiet_read {m = m} {us = us} c rest q r =
    subst (λ (l : List ℕ). ReadsNoted m false l us) (drop_front c (10 ∷ rest))
    (said_comment (length c) (quiet_front c rest q) (λ o note said s. quiet_says c note said q.other
    (subst (λ (l : List ℕ). SaysNote l o) (take_front c (10 ∷ rest)) s)) r)

-- a line ends in front of comments, and in front of what is behind them
record EndsLine (text : List ℕ) : Type 0 where
  more : List ℕ
  is : text ≡ 10 ∷ more

notes_end : (cs : List (List ℕ)) (rest : List ℕ) → EndsLine (notes_then cs (10 ∷ rest))
notes_end [] rest = record { more = rest; is = refl }
notes_end (c ∷ cs) rest = record { more = c ++ notes_then cs (10 ∷ rest); is = refl }

notes_read : {cs : List (List ℕ)} → AreQuiet cs → {m : Option Marshal} {us : List Token} (rest : List ℕ)
    → ReadsNoted m false (notes_then cs (10 ∷ rest)) us → ReadsNoted m false (10 ∷ rest) us
notes_read none_quiet rest r = r
notes_read (more_quiet {c = c} {cs = cs} q more) {m = m} {us = us} rest r =
    let e = notes_end cs rest in
    let a = line_passed (line_front (c ++ notes_then cs (10 ∷ rest))) r in
    let b = quiet_read c e.more q (subst (λ (l : List ℕ). ReadsNoted m false (c ++ l) us) e.is a) in
    notes_read more rest (subst (λ (l : List ℕ). ReadsNoted m false l us) (sym e.is) b)

comments_read : {cs : List (List ℕ)} → AreQuiet cs → {us : List Token} → Reads false (remarks_text cs) us → us ≡ []
comments_read none_quiet r = reads_none r
comments_read (more_quiet {c = c} {cs = cs} q more) r =
    let a = line_passed (line_front (c ++ (10 ∷ remarks_text cs))) r in
    let b = quiet_read c (remarks_text cs) q a in
    comments_read more (line_passed (line_front (remarks_text cs)) b)

record ReadsBody (b : Body) (text : List ℕ) (us : List Token) : Type 0 where
  next : List Token
  tokens : BodyTokens b us next
  reads : Reads false text next

body_begins : (b : Body) (rest : List ℕ) → BodyHasWords b → BeginsText (body_then b rest)
body_begins (fields ls) rest words =
    record { first = 115; others = codes "truct {\n" ++ lines_then ls (codes "}\n" ++ rest); is = refl; solid = refl }
body_begins (parts e) rest words = type_begins e (10 ∷ rest) words
body_begins (another e) rest words =
    record { first = 61; others = codes " " ++ type_then e (10 ∷ rest); is = refl; solid = refl }

body_reads : {ends : Bool} {us : List Token} (b : Body) (rest : List ℕ) → BodyHasWords b
    → Reads ends (body_then b rest) us → ReadsBody b rest us
body_reads (fields ls) rest words r =
    let close = codes "}\n" ++ rest in
    let lines = lines_then ls close in
    let k = keyword_read 6 mark.Struct refl (λ n. refl) r in
    let q = blank_read 1 refl k.reads in
    let o = sign 123 (10 ∷ lines) (sign_front 123 (10 ∷ lines) refl refl refl) q in
    let i = line_passed (line_front lines) o.reads in
    let l = lines_read ls close words i in
    let e = sign 125 (10 ∷ rest) (sign_front 125 (10 ∷ rest) refl refl refl) l.reads in
    let f = line_read (line_front rest) e.reads in
    let closed = e.is ∙ ap (λ (x : List Token). token.Mark mark.CloseBrace ∷ x) f.is in
    record {
      next = f.more;
      tokens = fields_tokens (k.is ∙ ap (λ (x : List Token). token.Mark mark.Struct ∷ x) o.is)
          (subst (λ (x : List Token). LinesTokens ls o.more x) closed l.tokens);
      reads = f.reads;
    }
body_reads {us = us} (parts e) rest words r =
    let t = type_reads e 10 rest refl words r in
    let f = line_read (line_front rest) t.reads in
    record {
      next = f.more;
      tokens = parts_tokens (subst (λ (x : List Token). TypeTokens e us x) f.is t.tokens);
      reads = f.reads;
    }
body_reads (another e) rest words r =
    let type = type_then e (10 ∷ rest) in
    let k = sign 61 (32 ∷ type) (sign_front 61 (32 ∷ type) refl refl refl) r in
    let p = spaces_read 0 type (type_begins e (10 ∷ rest) words) k.reads in
    let t = type_reads e 10 rest refl words p in
    let f = line_read (line_front rest) t.reads in
    record {
      next = f.more;
      tokens = another_tokens k.is (subst (λ (x : List Token). TypeTokens e k.more x) f.is t.tokens);
      reads = f.reads;
    }

-- the tokens of a declaration stand first, and the others are read behind its methods
record ReadsStruct (d : Struct) (text : List ℕ) (us : List Token) : Type 0 where
  next : List Token
  tokens : StructTokens d us next
  reads : Reads false (methods_then d.methods d.name text) next

struct_read : {us : List Token} (d : Struct) (rest : List ℕ) → d.id < 2 ^ 64 → IsWordText d.name
    → BodyHasWords d.body → AreQuiet d.notes → Reads false (struct_then d rest) us → ReadsStruct d rest us
struct_read {us = us} d rest small named words quiet r =
    let methods = methods_then d.methods d.name rest in
    let body = body_then d.body methods in
    let line = codes "type " ++ (d.name ++ (32 ∷ body)) in
    let notes = notes_end d.notes line in
    let a = line_passed (line_front (codes "// type " ++ (decimal d.id ++ (encoding d.marshal
    ++ notes_then d.notes (10 ∷ line))))) r in
    let b = comment_read d.id d.marshal notes.more small
    (subst (λ (l : List ℕ). Reads false (codes "// type " ++ (decimal d.id ++ (encoding d.marshal ++ l))) us)
    notes.is a) in
    let q = notes_read quiet line (subst (λ (l : List ℕ). ReadsNoted d.marshal false l us) (sym notes.is) b) in
    let c = line_passed (line_front line) q in
    let t = type_read 4 refl (λ n. refl) c in
    let s = spaces_read 0 (d.name ++ (32 ∷ body)) (word_begins d.name (32 ∷ body) named) t.takes.reads in
    let n = word_read d.name 32 body named (named.fronts 32 body refl) s in
    let p = spaces_read 0 body (body_begins d.body methods words) n.takes.reads in
    let o = body_reads d.body methods words p in
    record {
      next = o.next;
      tokens = record {
        note = t.note;
        noted = t.noted;
        name = n.name;
        named = n.named;
        next = n.takes.more;
        is = t.takes.is ∙ ap (λ (x : List Token). token.Type t.note ∷ x) n.takes.is;
        body = o.tokens;
      };
      reads = o.reads;
    }

-- they have ids of streams, and words for names
pub data StructsHaveWords : List Struct → Type 0 where
  no_words_of : StructsHaveWords []
  words_of : {d : Struct} {ds : List Struct} → d.id < 2 ^ 64 → IsWordText d.name → BodyHasWords d.body
      → AreQuiet d.notes → StructsHaveWords ds → StructsHaveWords (d ∷ ds)

structs_read : {ds : List Struct} → StructsHaveWords ds → {us : List Token} (cs : List (List ℕ)) → AreQuiet cs
    → Reads false (structs_then ds (remarks_text cs)) us → StructsTokens ds us
structs_read no_words_of cs quiet r =
    subst (λ (x : List Token). StructsTokens [] x) (sym (comments_read quiet r)) no_structs
structs_read (words_of {d = d} {ds = ds} small named words noted others) cs quiet r =
    let rest = structs_then ds (remarks_text cs) in
    let one = struct_read d rest small named words noted r in
    more_structs one.tokens
    (methods_read d.methods d.name rest named (λ vs s. structs_read others cs quiet s) one.reads)

-- the tokens of a file
pub record FileTokens (ds : List Struct) (us : List Token) : Type 0 where
  pub name : Bor (List ℕ)
  pub behind : List Token
  pub is : us ≡ token.Mark mark.Package ∷ token.Name name ∷ token.Mark mark.Stop ∷ behind
  pub tokens : StructsTokens ds behind

pub file_read : {text : List ℕ} {us : List Token} {a : _} {os : List ℕ} (T : Table) (ts : List TypeId)
    (ds : List Struct) (cs : List (List ℕ)) → StructsHaveWords ds → AreQuiet cs
    → text ≡ codes "package types\n" ++ (imports_text T ts ++ structs_then ds (remarks_text cs))
    → Lexes text [] a us os → FileTokens ds us
file_read {us = us} T ts ds cs words quiet is l =
    let rest = structs_then ds (remarks_text cs) in
    let all = imports_text T ts ++ rest in
    let r = subst (λ (x : List ℕ). Reads false x us) is (reads_text l) in
    let p = keyword_read 7 mark.Package refl (λ n. refl) r in
    let b = blank_read 1 refl p.reads in
    let n = word_read (codes "types") 10 all types refl b in
    let e = line_read (line_front all) n.takes.reads in
    record {
      name = n.name;
      behind = e.more;
      is = p.is ∙ ap (λ (x : List Token). token.Mark mark.Package ∷ x)
          (n.takes.is ∙ ap (λ (x : List Token). token.Name n.name ∷ x) e.is);
      tokens = imports_read T ts rest (λ vs s. structs_read words cs quiet s) e.reads;
    }
  where
    types : IsWordText (codes "types")
    types = word_text 116 (codes "ypes") refl refl (λ n. refl)
