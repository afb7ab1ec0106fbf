-- Source read piece by piece, from its start to its end.
use Rattle.std.proofs.Common.{◌≡◌, ◌∙◌, ℕ, List, [], ◌∷◌, ◌++◌, Bool, true, false, refl, ap, sym, subst}
use Rattle.std.proofs.Common.{append_assoc, drop, length, take, Some, None, ◌&&◌, ◌<◌, ◌^◌, decimal}
use Rattle.std.specs.Borrow.{Bor}
use Rattle.std.specs.Option.{IsSomeAnd}
use Rattle.std.specs.Prelude.{Option, unwrap_or}
use Rattle.gob_types.proofs.PublicLaws.{some_injective}
use Rattle.gob_types.specs.declared.kind.Marshal.{Marshal}
use Rattle.gob_go_source.specs.declared.token.Mark.{Mark}
use Rattle.gob_go_source.specs.declared.token.Mark.TheVariants as mark
use Rattle.gob_go_source.specs.declared.token.Note.{Note}
use Rattle.gob_go_source.specs.declared.token.Token.{Token}
use Rattle.gob_go_source.specs.declared.token.Token.TheVariants as token
use Rattle.gob_go_source.specs.Lexing.{Gives, IsName, IsNumber, IsWord, Lexes, Noted, ahead_behind, ends_line, front}
use Rattle.gob_go_source.specs.Lexing.{has_line_end, keyword, nothing_ahead, nothing_lexed, one_more_piece, sign_of}
use Rattle.gob_go_source.specs.Lexing.{stop_if, tokens_of}
use Rattle.gob_go_source.specs.Notes.{SaysNote, no_note}
use Rattle.gob_source_back.proofs.Written.{IsWordText}
use Rattle.gob_source_back.proofs.Named.{Ahead, Front, blank_piece, comment_piece, line_piece, number_piece, sign_piece}
use Rattle.gob_source_back.proofs.Named.{text_piece, word_piece}

-- the text to its end is these tokens, where that is ahead
pub data Goes : Ahead → List ℕ → List Token → Type 0 where
  over : {a : Ahead} → Goes a [] []
  goes : {a : Ahead} {text : List ℕ} {us more : List Token} {f : Front} (o : Option Token) (noted : Option Note)
      → Some f ≡ front text → Gives a f.piece (take f.len text) o → Noted f.piece (take f.len text) noted
      → Goes (ahead_behind a o noted) (drop f.len text) more → us ≡ tokens_of o ++ more → Goes a text us

goes_from : {text rest : List ℕ} {a : Ahead} {ts : List Token} {os : List ℕ} → Lexes text rest a ts os
    → (us : List Token) → Goes a rest us → Goes nothing_ahead text (ts ++ us)
goes_from nothing_lexed us g = g
goes_from {text = text} (one_more_piece {rest = rest} {behind = behind} {a = a} {b = b} {ts = ts} {us = vs} o noted l e
    gives notes drops ahead is places) us g =
    let here = subst (λ (x : Ahead). Goes x behind us) ahead g in
    let there = subst (λ (x : List ℕ). Goes (ahead_behind a o noted) x us) drops here in
    let whole = goes_from l (tokens_of o ++ us) (goes o noted e gives notes there refl) in
    let joined = subst (λ (x : List Token). Goes nothing_ahead text x) (sym (append_assoc ts (tokens_of o) us)) whole in
    subst (λ (x : List Token). Goes nothing_ahead text (x ++ us)) (sym is) joined

-- the next piece, its token and what it says
pub record Next (a : Ahead) (text : List ℕ) (us : List Token) (f : Front) : Type 0 where
  pub token : Option Token
  pub noted : Option Note
  pub more : List Token
  pub gives : Gives a f.piece (take f.len text) token
  pub notes : Noted f.piece (take f.len text) noted
  pub behind : Goes (ahead_behind a token noted) (drop f.len text) more
  pub is : us ≡ tokens_of token ++ more

pub next : {a : Ahead} {text : List ℕ} {us : List Token} {f : Front} → front text ≡ Some f → Goes a text us
    → Next a text us f
next e over = cc
next {a = a} {text = text} {us = us} e (goes {more = more} o noted h gives notes behind is) =
    subst (λ (g : Front). Next a text us g) (some_injective (h ∙ e)) (record {
      token = o;
      noted = noted;
      more = more;
      gives = gives;
      notes = notes;
      behind = behind;
      is = is;
    })

-- that, where a token may end a line, and comments say that a type encodes itself so
pub record ReadsNoted (m : Option Marshal) (ends : Bool) (text : List ℕ) (us : List Token) : Type 0 where
  pub ahead : Ahead
  pub ends_is : ahead.ends ≡ ends
  pub noted : ahead.note.marshal ≡ m
  pub there : Goes ahead text us

-- and no comment says it
abbrev pub Reads : (ends : Bool) (text : List ℕ) (us : List Token) → Type 0
Reads ends text us = ReadsNoted None ends text us

pub reads_text : {text : List ℕ} {a : Ahead} {ts : List Token} {os : List ℕ} → Lexes text [] a ts os
    → Reads false text ts
reads_text {text = text} {ts = ts} l = record {
  ahead = nothing_ahead;
  ends_is = refl;
  noted = refl;
  there = subst (λ (x : List Token). Goes nothing_ahead text x) (append_none ts) (goes_from l [] over);
}
  where
    append_none : (xs : List Token) → xs ++ [] ≡ xs
    append_none [] = refl
    append_none (x ∷ xs) = ap (λ (l : List Token). x ∷ l) (append_none xs)

-- behind nothing there is no token
pub reads_none : {ends : Bool} {us : List Token} → Reads ends [] us → us ≡ []
reads_none r = by r.there
  where
    by : {a : Ahead} {us : List Token} → Goes a [] us → us ≡ []
    by over = refl
    by (goes o noted e gives notes behind is) = cc

-- ---- pieces without a token

-- how a type encodes itself that a comment may say it of, and the comments before it
abbrev pub marshal_behind : Option Note → Note → Option Marshal
marshal_behind o note = (unwrap_or o note).marshal

silent : (a : Ahead) {m : Option Marshal} {ends : Bool} {text : List ℕ} {us more : List Token} (o : Option Token)
    (noted : Option Note) → a.ends ≡ ends → marshal_behind noted a.note ≡ m → o ≡ None
    → Goes (ahead_behind a o noted) text more → us ≡ tokens_of o ++ more → ReadsNoted m ends text us
silent a (Some t) noted ends said none g is = cc
silent a {text = text} None noted ends said none g is = record {
  ahead = ahead_behind a None noted;
  ends_is = ends;
  noted = said;
  there = subst (λ (x : List Token). Goes (ahead_behind a None noted) text x) (sym is) g;
}

no_notes : {m : Option Marshal} (o : Option Note) (note : Note) → o ≡ None → note.marshal ≡ m
    → marshal_behind o note ≡ m
no_notes o note none said = ap (λ (x : Option Note). marshal_behind x note) none ∙ said

pub blank_read : {ends : Bool} {text : List ℕ} {us : List Token} (n : ℕ)
    → front text ≡ Some (record { piece = blank_piece; len = n }) → Reads ends text us → Reads ends (drop n text) us
blank_read n e r =
    let s = next e r.there in
    silent r.ahead s.token s.noted r.ends_is (no_notes s.noted r.ahead.note s.notes r.noted) s.gives s.behind s.is

-- a comment, behind which others and it say this
pub said_comment : {m k : Option Marshal} {text : List ℕ} {us : List Token} (n : ℕ)
    → front text ≡ Some (record { piece = comment_piece; len = n })
    → ((o : Option Note) (note : Note) → note.marshal ≡ m → SaysNote (take n text) o → marshal_behind o note ≡ k)
    → ReadsNoted m false text us → ReadsNoted k false (drop n text) us
said_comment {text = text} n e says r =
    let s = next e r.there in
    silent r.ahead s.token s.noted r.ends_is (says s.noted r.ahead.note r.noted s.notes)
    (s.gives ∙ ap (λ (b : Bool). stop_if (b && has_line_end (take n text))) r.ends_is) s.behind s.is

-- ---- pieces with a token

-- the tokens are this one and others, which are read behind it
pub record Takes (t : Token) (text : List ℕ) (us : List Token) : Type 0 where
  pub more : List Token
  pub is : us ≡ t ∷ more
  pub reads : Reads (ends_line t) text more

takes : (a : Ahead) {text : List ℕ} {us more : List Token} (t : Token) (o : Option Token) (noted : Option Note)
    → o ≡ Some t → Goes (ahead_behind a o noted) text more → us ≡ tokens_of o ++ more → Takes t text us
takes a t None noted e g is = cc
takes a {text = text} {us = us} {more = more} t (Some u) noted e g is =
    subst (λ (x : Token). Takes x text us) (some_injective e) (record {
      more = more;
      is = is;
      reads = record { ahead = record { ends = ends_line u; note = no_note }; ends_is = refl; noted = refl; there = g };
    })

pub sign_read : {ends : Bool} {text : List ℕ} {us : List Token} (m : Mark)
    → front text ≡ Some (record { piece = sign_piece; len = 1 }) → sign_of (take 1 text) ≡ m → Reads ends text us
    → Takes (token.Mark m) (drop 1 text) us
sign_read m e is r =
    let s = next e r.there in
    takes r.ahead (token.Mark m) s.token s.noted (s.gives ∙ ap (λ (x : Mark). Some (token.Mark x)) is) s.behind s.is

pub line_read : {text : List ℕ} {us : List Token} → front text ≡ Some (record { piece = line_piece; len = 1 })
    → Reads true text us → Takes (token.Mark mark.Stop) (drop 1 text) us
line_read e r =
    let s = next e r.there in
    takes r.ahead (token.Mark mark.Stop) s.token s.noted (s.gives ∙ ap stop_if r.ends_is) s.behind s.is

pub line_passed : {m : Option Marshal} {text : List ℕ} {us : List Token}
    → front text ≡ Some (record { piece = line_piece; len = 1 }) → ReadsNoted m false text us
    → ReadsNoted m false (drop 1 text) us
line_passed e r =
    let s = next e r.there in
    silent r.ahead s.token s.noted r.ends_is (no_notes s.noted r.ahead.note s.notes r.noted)
    (s.gives ∙ ap stop_if r.ends_is) s.behind s.is

-- a string
pub text_read : {ends : Bool} {text : List ℕ} {us : List Token} (n : ℕ)
    → front text ≡ Some (record { piece = text_piece; len = n }) → Reads ends text us
    → Takes token.Text (drop n text) us
text_read n e r = let s = next e r.there in takes r.ahead token.Text s.token s.noted s.gives s.behind s.is

-- ---- words

word_is : (o k : Option Token) (text : List ℕ) (t : Token) → k ≡ Some t → IsSomeAnd o (IsWord k text) → o ≡ Some t
word_is None k text t e h = absurd h
word_is (Some u) None text t e h = cc
word_is (Some u) (Some v) text t e h = ap (λ (x : Token). Some x) h ∙ e

pub keyword_read : {ends : Bool} {text : List ℕ} {us : List Token} (n : ℕ) (m : Mark)
    → front text ≡ Some (record { piece = word_piece; len = n })
    → ((note : Note) → keyword note (take n text) ≡ Some (token.Mark m)) → Reads ends text us
    → Takes (token.Mark m) (drop n text) us
keyword_read {text = text} n m e is r =
    let s = next e r.there in
    takes r.ahead (token.Mark m) s.token s.noted (word_is s.token (keyword r.ahead.note (take n text)) (take n text)
    (token.Mark m) (is r.ahead.note) s.gives) s.behind s.is

-- `type`, with what the comments before it say
pub record TakesType (m : Option Marshal) (text : List ℕ) (us : List Token) : Type 0 where
  pub note : Note
  pub noted : note.marshal ≡ m
  pub takes : Takes (token.Type note) text us

pub type_read : {m : Option Marshal} {ends : Bool} {text : List ℕ} {us : List Token} (n : ℕ)
    → front text ≡ Some (record { piece = word_piece; len = n })
    → ((note : Note) → keyword note (take n text) ≡ Some (token.Type note)) → ReadsNoted m ends text us
    → TakesType m (drop n text) us
type_read {text = text} n e is r =
    let s = next e r.there in record {
      note = r.ahead.note;
      noted = r.noted;
      takes = takes r.ahead (token.Type r.ahead.note) s.token s.noted
          (word_is s.token (keyword r.ahead.note (take n text)) (take n text) (token.Type r.ahead.note)
          (is r.ahead.note) s.gives) s.behind s.is;
    }

-- a name
pub record TakesName (w text : List ℕ) (us : List Token) : Type 0 where
  pub name : Bor (List ℕ)
  pub named : name.now ≡ w
  pub takes : Takes (token.Name name) text us

name_token : {w text : List ℕ} {us : List Token} (t : Token) → IsName w t → Takes t text us → TakesName w text us
name_token (token.Name b) e t = record { name = b; named = e; takes = t }
name_token (token.Number n) e t = absurd e
name_token token.Text e t = absurd e
name_token (token.Type n) e t = absurd e
name_token (token.Mark m) e t = absurd e

name_is : (a : Ahead) {text : List ℕ} {us more : List Token} (w : List ℕ) (k o : Option Token) (noted : Option Note)
    → k ≡ None → IsSomeAnd o (IsWord k w) → Goes (ahead_behind a o noted) text more → us ≡ tokens_of o ++ more
    → TakesName w text us
name_is a w k None noted e h g is = absurd h
name_is a w (Some k) (Some t) noted e h g is = cc
name_is a w None (Some t) noted e h g is = name_token t h (takes a t (Some t) noted refl g is)

pub take_front : (w rest : List ℕ) → take (length w) (w ++ rest) ≡ w
take_front [] rest = refl
take_front (c ∷ cs) rest = ap (λ (l : List ℕ). c ∷ l) (take_front cs rest)

pub drop_front : (w rest : List ℕ) → drop (length w) (w ++ rest) ≡ rest
drop_front [] rest = refl
drop_front (c ∷ cs) rest = drop_front cs rest

pub word_read : {ends : Bool} {us : List Token} (w : List ℕ) (c : ℕ) (rest : List ℕ) → IsWordText w
    → front (w ++ c ∷ rest) ≡ Some (record { piece = word_piece; len = length w }) → Reads ends (w ++ c ∷ rest) us
    → TakesName w (c ∷ rest) us
word_read {us = us} w c rest word e r =
    let s = next e r.there in
    let text = take_front w (c ∷ rest) in
    let k = ap (keyword r.ahead.note) text ∙ word.no_keyword r.ahead.note in
    let found = name_is r.ahead (take (length w) (w ++ c ∷ rest))
    (keyword r.ahead.note (take (length w) (w ++ c ∷ rest)))
    s.token s.noted k s.gives s.behind s.is in
    subst (λ (x : List ℕ). TakesName x (c ∷ rest) us) text
    (subst (λ (x : List ℕ). TakesName (take (length w) (w ++ c ∷ rest)) x us) (drop_front w (c ∷ rest)) found)

-- ---- numbers

-- a number whose decimal form is the text
pub record TakesNumber (w text : List ℕ) (us : List Token) : Type 0 where
  pub number : ℕ
  pub same : decimal number ≡ w
  pub takes : Takes (token.Number number) text us

number_token : {text : List ℕ} {us : List Token} (n : ℕ) (t : Token) → n < 2 ^ 64 → IsNumber (decimal n) t
    → Takes t text us → TakesNumber (decimal n) text us
number_token n (token.Number m) small e t = record { number = m; same = e; takes = t }
number_token n (token.Name b) small e t = absurd e
number_token n token.Text small e t = absurd e
number_token n (token.Type m) small e t = absurd e
number_token n (token.Mark mark.Other) small e t = absurd (e n small refl)
number_token n (token.Mark _) small e t = absurd e

number_is : (a : Ahead) {text : List ℕ} {us more : List Token} (n : ℕ) (o : Option Token) (noted : Option Note)
    → n < 2 ^ 64 → IsSomeAnd o (IsNumber (decimal n)) → Goes (ahead_behind a o noted) text more
    → us ≡ tokens_of o ++ more → TakesNumber (decimal n) text us
number_is a n None noted small h g is = absurd h
number_is a n (Some t) noted small h g is = number_token n t small h (takes a t (Some t) noted refl g is)

pub number_read : {ends : Bool} {us : List Token} (n c : ℕ) (rest : List ℕ) → n < 2 ^ 64
    → front (decimal n ++ c ∷ rest) ≡ Some (record { piece = number_piece; len = length (decimal n) })
    → Reads ends (decimal n ++ c ∷ rest) us → TakesNumber (decimal n) (c ∷ rest) us
number_read {us = us} n c rest small e r =
    let s = next e r.there in
    let text = take_front (decimal n) (c ∷ rest) in
    let gives = subst (λ (x : List ℕ). IsSomeAnd s.token (IsNumber x)) text s.gives in
    subst (λ (x : List ℕ). TakesNumber (decimal n) x us) (drop_front (decimal n) (c ∷ rest))
    (number_is r.ahead n s.token s.noted small gives s.behind s.is)
