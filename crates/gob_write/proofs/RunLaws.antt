-- Text by text the run goes on.
use Rattle.std.proofs.Common.{◌≡◌, ◌≢◌, ℕ, ◌+◌, ◌≤◌, List, [], ◌∷◌, ◌++◌, length, take, drop, Option, Some, Result, Ok}
use Rattle.std.proofs.Common.{Err, refl, sym, ap, subst, ◌∙◌, inl, inr, append_assoc}
use Rattle.std.specs.Prelude.{IsErrAnd}
use Rattle.std.specs.Io.KnownBytes.{Appends, Keeps}
use Rattle.std.proofs.KnownBytes.{Appends-trans, Appends-kept, Keeps-refl, Keeps-trans}
use Rattle.gob_types.specs.Base.{base_table}
use Rattle.gob_types.specs.Table.{Table}
use Rattle.gob_stream.specs.Bounds.{Bounds}
use Rattle.gob_stream.specs.Item.{StreamItem}
use Rattle.gob_stream.specs.Stream.{Stream}
use Rattle.gob_stream.specs.Calls.Waiting.{waiting}
use Rattle.gob_stream.specs.declared.waiting.Waiting.{Waiting}
use Rattle.gob_write.specs.Faults.{CountsReads, IsNoRead}
use Rattle.gob_write.specs.Lines.{AreLines, one_more, first_line, behind_line, IsLeft, Waits}
use Rattle.gob_write.specs.Place.{IsLineIn, IsPlaceIn, first_place, place_behind, place_from}
use Rattle.gob_write.specs.Texts.{AreTexts, NextText, WaitsText, behind_text, first_text, no_text, one_text_more}
use Rattle.gob_write.specs.Says.{HasWrittenTexts, RefusesText, Saying, TextAnswers, WroteSome, WroteText, wrote_nothing}
use Rattle.gob_write.specs.Says.{wrote_said}
use Rattle.gob_write.specs.Running.{SayStream, say_nothing, say_no_more, say_one_more, WroteTexts, IsWhole, IsPart}
use Rattle.gob_write.specs.Running.{IsLongText, IsWrongNext, RefusesNext, CutsNext, WriteTextsAnswers}
use Rattle.gob_write.specs.declared.fault.LinesFault.{LinesFault}
use Rattle.gob_write.specs.declared.fault.LinesFault.TheVariants as fault
use Rattle.gob_write.specs.declared.place.Place.{Place}
use Rattle.gob_write.specs.declared.writer.PlainWriter.{PlainWriter}
use Rattle.gob_write.proofs.LineLaws.{left_behind, some_left, line_length}
use Rattle.gob_write.proofs.PlaceLaws.{place_more}
use Rattle.gob_write.proofs.TextLaws.{text_left, text_length, text_some, text_whole}

-- some texts were read of the bytes, the next one begins at this place, and the writer has written what they say
pub record HasReadTexts (S : Saying) (most : ℕ) (w : PlainWriter) (waits : Waiting) (bytes : List ℕ)
    (left old now : Option (List ℕ)) (place : Place) : Type 0 where
  pub texts : List (List ℕ)
  pub front : List ℕ
  pub rest : List ℕ
  pub items : List StreamItem
  pub out : List ℕ
  pub table : Table
  pub whole : bytes ≡ front ++ rest
  pub cut : AreTexts most bytes texts rest
  pub say : SayStream S texts items out table
  pub written : HasWrittenTexts S w items out table
  pub sent : Appends old now out
  pub there : place ≡ place_behind front
  pub rest_left : IsLeft waits left rest

pub begun : (S : Saying) (most : ℕ) (w : PlainWriter) (waits : Waiting) (bytes : List ℕ)
    (left old now : Option (List ℕ)) (place : Place)
    → HasWrittenTexts S w S.items S.bytes S.table → Appends old now S.bytes → waiting waits ≡ [] → left ≡ Some bytes
    → place ≡ first_place → HasReadTexts S most w waits bytes left old now place
begun S most w waits bytes left old now place new sent none e first = record {
  texts = [];
  front = [];
  rest = bytes;
  items = S.items;
  out = S.bytes;
  table = S.table;
  whole = refl;
  cut = no_text;
  say = say_nothing;
  written = new;
  sent = sent;
  there = first;
  rest_left = record { unread = bytes; known = e; whole = ap (λ (l : List ℕ). l ++ bytes) (sym none) };
}

pub nothing_written : (S : Saying) (most : ℕ) (w : PlainWriter) (bytes : List ℕ) (old now : Option (List ℕ))
    → HasWrittenTexts S w S.items S.bytes S.table → Appends old now S.bytes → WroteTexts S most bytes old now IsPart
nothing_written S most w bytes old now new sent = record {
  texts = [];
  front = [];
  rest = bytes;
  items = S.items;
  out = S.bytes;
  table = S.table;
  whole = refl;
  cut = no_text;
  say = say_nothing;
  stream = subst (λ (M : Bounds). Stream base_table M S.items S.bytes S.table) new.limits new.written.stream;
  sent = sent;
  holds = tt;
}

-- what was written so far, and what else holds
pub so_far : {S : Saying} {most : ℕ} {w : PlainWriter} {waits : Waiting} {bytes : List ℕ}
    {left old now : Option (List ℕ)} {place : Place} (P : List ℕ → Table → List ℕ → List ℕ → Type 0)
    (h : HasReadTexts S most w waits bytes left old now place)
    → P h.front h.table h.out h.rest → WroteTexts S most bytes old now P
so_far {S = S} P h holds = record {
  texts = h.texts;
  front = h.front;
  rest = h.rest;
  items = h.items;
  out = h.out;
  table = h.table;
  whole = h.whole;
  cut = h.cut;
  say = h.say;
  stream = subst (λ (M : Bounds). Stream base_table M h.items h.out h.table) h.written.limits h.written.written.stream;
  sent = h.sent;
  holds = holds;
}

-- the output has these bytes still
abbrev pub kept_sent : {S : Saying} {most : ℕ} {w : PlainWriter} {waits : Waiting} {bytes : List ℕ}
    {left old now : Option (List ℕ)} {place : Place} (now' : Option (List ℕ)) → Keeps now now'
    → HasReadTexts S most w waits bytes left old now place → HasReadTexts S most w waits bytes left old now' place
kept_sent {old = old} {now = now} now' k h = record {
  texts = h.texts;
  front = h.front;
  rest = h.rest;
  items = h.items;
  out = h.out;
  table = h.table;
  whole = h.whole;
  cut = h.cut;
  say = h.say;
  written = h.written;
  sent = Appends-kept old now now' h.out h.sent k;
  there = h.there;
  rest_left = h.rest_left;
}

-- an answer that is this fault
pub err_result : (P : Result (Unit {0}) LinesFault → Type 0) (r : Result (Unit {0}) LinesFault) (f : LinesFault)
    → IsErrAnd r (λ e. e ≡ f) → P (Err f) → P r
err_result P (Ok u) f e p = absurd e
err_result P (Err g) f e p = subst (λ (h : LinesFault). P (Err h)) (sym e) p

-- ---- where the texts end

pub ended : {S : Saying} {most : ℕ} {w : PlainWriter} {waits : Waiting} {bytes : List ℕ}
    {left old now : Option (List ℕ)} {place : Place} (count : ℕ) (waits' : Waiting) (left' now' : Option (List ℕ))
    → Keeps now now'
    → HasReadTexts S most w waits bytes left old now place
    → ((b : List ℕ) → IsLeft waits left b → NextText most place.line b waits' left' (Ok count)) → count ≡ 0
    → WroteTexts S most bytes old now' IsWhole
ended count waits' left' now' k h next zero = so_far IsWhole (kept_sent now' k h) ((next h.rest h.rest_left).none zero)

-- or no text is had
pub unread_text : {S : Saying} {most : ℕ} {w : PlainWriter} {waits : Waiting} {bytes : List ℕ}
    {left old now : Option (List ℕ)} {place : Place} (f : LinesFault) (waits' : Waiting) (left' now' : Option (List ℕ))
    → Keeps now now'
    → HasReadTexts S most w waits bytes left old now place
    → ((b : List ℕ) → IsLeft waits left b → NextText most place.line b waits' left' (Err f))
    → WriteTextsAnswers S most bytes old now' (Err f)
unread_text (fault.TooLong m most) waits' left' now' k h next =
    let long = next h.rest h.rest_left in
    (long.1, so_far (IsLongText _ m) (kept_sent now' k h) (long.0 ∙ ap (λ (p : Place). p.line) h.there, long.2))
unread_text fault.Read waits' left' now' k h next = so_far IsPart (kept_sent now' k h) tt
unread_text fault.Memory waits' left' now' k h next = so_far IsPart (kept_sent now' k h) tt
unread_text {S = S} fault.Write waits' left' now' k h next =
    (now', so_far (CutsNext S now' now') (kept_sent now' k h) (inl (Keeps-refl now')))
unread_text (fault.Wrong m column path due) waits' left' now' k h next = absurd (next h.rest h.rest_left)
unread_text (fault.Refused m r) waits' left' now' k h next = absurd (next h.rest h.rest_left)

-- ---- behind one more text

cut_text : {most : ℕ} {bytes : List ℕ} {texts : List (List ℕ)} {rest : List ℕ} (text : List ℕ)
    → AreTexts most bytes texts rest → rest ≢ [] → text ≡ first_text rest → length text ≤ most
    → AreTexts most bytes (texts ++ text ∷ []) (behind_text rest)
cut_text {most = most} {bytes = bytes} {texts = texts} {rest = rest} text cut some is short =
    subst (λ (l : List ℕ). AreTexts most bytes (texts ++ l ∷ []) (behind_text rest)) (sym is)
    (one_text_more cut some (subst (λ (l : List ℕ). length l ≤ most) is short))

-- a text waits: the bytes of it, and that it is one
pub record IsTextRead (most : ℕ) (rest text : List ℕ) (waits' : Waiting) (left' : Option (List ℕ)) : Type 0 where
  pub some : rest ≢ []
  pub is : text ≡ first_text rest
  pub short : length text ≤ most
  pub whole : rest ≡ text ++ behind_text rest
  pub left : IsLeft waits' left' (behind_text rest)

text_read : {most count : ℕ} {rest : List ℕ} {waits waits' : Waiting} {left : Option (List ℕ)} (text : List ℕ)
    → WaitsText most rest waits left count → count ≢ 0 → text ≡ take count (waiting waits)
    → waiting waits' ≡ drop count (waiting waits) → IsTextRead most rest text waits' left
text_read text waits some is passed = record {
  some = text_some waits some;
  is = is ∙ waits.text;
  short = text_length waits is;
  whole = text_whole waits is;
  left = text_left waits passed;
}

with_text : {S : Saying} {most : ℕ} {w w' : PlainWriter} {waits waits' : Waiting} {bytes text : List ℕ}
    {left left' old now mid now' : Option (List ℕ)} {place place' : Place}
    (h : HasReadTexts S most w waits bytes left old now place)
    → Keeps now mid → IsTextRead most h.rest text waits' left' → place' ≡ place_from place text
    → WroteText S w' h.items h.out h.table text mid now' → HasReadTexts S most w' waits' bytes left' old now' place'
with_text {text = text} {old = old} {now = now} {mid = mid} {now' = now'} {place = place} h k read is
    (wrote_nothing none written keeps) =
    record {
      texts = h.texts ++ text ∷ [];
      front = h.front ++ text;
      rest = behind_text h.rest;
      items = h.items;
      out = h.out;
      table = h.table;
      whole = h.whole ∙ ap (λ (l : List ℕ). h.front ++ l) read.whole ∙ sym (append_assoc h.front text _);
      cut = cut_text text h.cut read.some read.is read.short;
      say = say_no_more text h.say none;
      written = written;
      sent = Appends-kept old mid now' h.out (Appends-kept old now mid h.out h.sent k) keeps;
      there = is ∙ place_more place h.front text h.there;
      rest_left = read.left;
    }
with_text {text = text} {old = old} {now = now} {mid = mid} {now' = now'} {place = place} h k read is
    (wrote_said wrote) =
    record {
      texts = h.texts ++ text ∷ [];
      front = h.front ++ text;
      rest = behind_text h.rest;
      items = h.items ++ wrote.item ∷ [];
      out = h.out ++ wrote.more;
      table = wrote.table;
      whole = h.whole ∙ ap (λ (l : List ℕ). h.front ++ l) read.whole ∙ sym (append_assoc h.front text _);
      cut = cut_text text h.cut read.some read.is read.short;
      say = say_one_more text h.say wrote.says wrote.is_item;
      written = wrote.written;
      sent = Appends-trans old mid now' h.out wrote.more (Appends-kept old now mid h.out h.sent k) wrote.out;
      there = is ∙ place_more place h.front text h.there;
      rest_left = read.left;
    }

pub one_text : {S : Saying} {most : ℕ} {w w' : PlainWriter} {waits waits' waits'' : Waiting} {bytes text : List ℕ}
    {left left' old now mid now' : Option (List ℕ)} {place : Place} (place' : Place) (count : ℕ)
    (h : HasReadTexts S most w waits bytes left old now place) → Keeps now mid
    → ((b : List ℕ) → IsLeft waits left b → NextText most place.line b waits' left' (Ok count)) → count ≢ 0
    → text ≡ take count (waiting waits') → waiting waits'' ≡ drop count (waiting waits')
    → place' ≡ place_from place text
    → ((items : List StreamItem) (out : List ℕ) (T : Table) → HasWrittenTexts S w items out T
    → WroteText S w' items out T text mid now') → HasReadTexts S most w' waits'' bytes left' old now' place'
one_text place' count h k next some is passed there wrote =
    with_text h k (text_read _ (next h.rest h.rest_left) some is passed) there
    (wrote h.items h.out h.table h.written)

-- ---- where a text stops the run

stops_there : {S : Saying} {most : ℕ} {w : PlainWriter} (w' : PlainWriter) {waits : Waiting} {bytes text : List ℕ}
    {left old mid : Option (List ℕ)} (now' : Option (List ℕ)) {place : Place} (f : LinesFault)
    (h : HasReadTexts S most w waits bytes left old mid place)
    → h.rest ≢ [] → text ≡ first_text h.rest
    → TextAnswers S w' h.items h.out h.table text place mid now' (Err f)
    → WriteTextsAnswers S most bytes old now' (Err f)
stops_there w' now' {place = place} (fault.Wrong m column path due) h some is answers =
    so_far (IsWrongNext m column) (kept_sent now' answers.1 h) (
      some,
      subst (λ (p : Place). IsPlaceIn p (first_text h.rest) m column) h.there
          (subst (λ (l : List ℕ). IsPlaceIn place l m column) is answers.0),
    )
stops_there {S = S} w' now' {place = place} (fault.Refused m r) h some is answers =
    so_far (RefusesNext S m r) (kept_sent now' answers.2 h) (
      some,
      subst (λ (p : Place). IsLineIn p (first_text h.rest) m) h.there
          (subst (λ (l : List ℕ). IsLineIn place l m) is answers.0),
      subst (λ (l : List ℕ). RefusesText S h.table (length h.out) l r) is answers.1,
    )
stops_there w' now' (fault.TooLong m most) h some is answers = absurd answers
stops_there w' now' fault.Read h some is answers = absurd answers
stops_there w' now' fault.Memory h some is answers = so_far IsPart (kept_sent now' answers h) tt
stops_there {S = S} w' {mid = mid} now' fault.Write h some is answers = (
  mid,
  so_far (CutsNext S mid now') h
      (inr (subst (λ (l : List ℕ). WroteSome S h.table (length h.out) l mid now') is answers)),
)

pub text_stops : {S : Saying} {most : ℕ} {w : PlainWriter} (w' : PlainWriter) {waits waits' : Waiting}
    {bytes text : List ℕ} {left left' old now : Option (List ℕ)} (mid now' : Option (List ℕ)) {place : Place}
    (count : ℕ) (f : LinesFault)
    (h : HasReadTexts S most w waits bytes left old now place) → Keeps now mid
    → ((b : List ℕ) → IsLeft waits left b → NextText most place.line b waits' left' (Ok count)) → count ≢ 0
    → text ≡ take count (waiting waits')
    → ((items : List StreamItem) (out : List ℕ) (T : Table) → HasWrittenTexts S w items out T
    → TextAnswers S w' items out T text place mid now' (Err f)) → WriteTextsAnswers S most bytes old now' (Err f)
text_stops w' mid now' count f h k next some is answers =
    let waits = next h.rest h.rest_left in
    stops_there w' now' f (kept_sent mid k h) (text_some waits some) (is ∙ waits.text)
    (answers h.items h.out h.table h.written)

-- ---- behind a flush

kept_texts : {S : Saying} {most : ℕ} {bytes : List ℕ} {old now : Option (List ℕ)}
    {P : List ℕ → Table → List ℕ → List ℕ → Type 0}
    (now' : Option (List ℕ)) → Keeps now now' → WroteTexts S most bytes old now P → WroteTexts S most bytes old now' P
kept_texts {old = old} {now = now} now' k h = record {
  texts = h.texts;
  front = h.front;
  rest = h.rest;
  items = h.items;
  out = h.out;
  table = h.table;
  whole = h.whole;
  cut = h.cut;
  say = h.say;
  stream = h.stream;
  sent = Appends-kept old now now' h.out h.sent k;
  holds = h.holds;
}

-- what holds of the texts, weakened
weaker : {S : Saying} {most : ℕ} {bytes : List ℕ} {old now : Option (List ℕ)}
    {P Q : List ℕ → Table → List ℕ → List ℕ → Type 0}
    → ((front : List ℕ) (T : Table) (out rest : List ℕ) → P front T out rest → Q front T out rest)
    → WroteTexts S most bytes old now P → WroteTexts S most bytes old now Q
weaker f h = record {
  texts = h.texts;
  front = h.front;
  rest = h.rest;
  items = h.items;
  out = h.out;
  table = h.table;
  whole = h.whole;
  cut = h.cut;
  say = h.say;
  stream = h.stream;
  sent = h.sent;
  holds = f _ _ _ _ h.holds;
}

cut_kept : (S : Saying) (mid now now' : Option (List ℕ)) → Keeps now now' → (front : List ℕ) (T : Table)
    (out rest : List ℕ) → CutsNext S mid now front T out rest → CutsNext S mid now' front T out rest
cut_kept S mid now now' k front T out rest (inl keeps) = inl (Keeps-trans mid now now' keeps k)
cut_kept S mid now now' k front T out rest (inr some) = inr (record {
  item = some.item;
  says = some.says;
  wrote = record {
    prefix = some.wrote.prefix;
    rest = some.wrote.rest;
    table = some.wrote.table;
    item = some.wrote.item;
    out = Appends-kept mid now now' some.wrote.prefix some.wrote.out k;
  };
})

-- a flush keeps what was written
pub flushed_answers : (S : Saying) (most : ℕ) (bytes : List ℕ) (old now now' : Option (List ℕ))
    (r : Result (Unit {0}) LinesFault) → Keeps now now' → WriteTextsAnswers S most bytes old now r
    → WriteTextsAnswers S most bytes old now' r
flushed_answers S most bytes old now now' (Ok u) k h = kept_texts now' k h
flushed_answers S most bytes old now now' (Err (fault.Wrong m column path due)) k h = kept_texts now' k h
flushed_answers S most bytes old now now' (Err (fault.Refused m r)) k h = kept_texts now' k h
flushed_answers S most bytes old now now' (Err (fault.TooLong m limit)) k h = (h.0, kept_texts now' k h.1)
flushed_answers S most bytes old now now' (Err fault.Read) k h = kept_texts now' k h
flushed_answers S most bytes old now now' (Err fault.Memory) k h = kept_texts now' k h
flushed_answers S most bytes old now now' (Err fault.Write) k h = (h.0, weaker (cut_kept S h.0 now now' k) h.1)

-- and one that fails behind all texts is a failed write
pub unflushed_answers : (S : Saying) (most : ℕ) (bytes : List ℕ) (old now now' : Option (List ℕ)) → Keeps now now'
    → WroteTexts S most bytes old now IsWhole → WriteTextsAnswers S most bytes old now' (Err fault.Write)
unflushed_answers S most bytes old now now' k h = (now, weaker (λ front T out rest all. inl k) h)

-- ---- of runs over lines

pub cut_more : {most : ℕ} {bytes : List ℕ} {lines : List (List ℕ)} {rest : List ℕ} (line : List ℕ)
    → AreLines most bytes lines rest → rest ≢ [] → line ≡ first_line rest → length line ≤ most
    → AreLines most bytes (lines ++ line ∷ []) (behind_line rest)
cut_more {most = most} {bytes = bytes} {lines = lines} {rest = rest} line cut some is short =
    subst (λ (l : List ℕ). AreLines most bytes (lines ++ l ∷ []) (behind_line rest)) (sym is)
    (one_more cut some (subst (λ (l : List ℕ). length l ≤ most) is short))

-- the line of this number waits: the bytes of it, and that it is one
pub record IsLineRead (most : ℕ) (rest line : List ℕ) (waits' : Waiting) (left' : Option (List ℕ)) : Type 0 where
  pub some : rest ≢ []
  pub is : line ≡ first_line rest
  pub short : length line ≤ most
  pub left : IsLeft waits' left' (behind_line rest)

pub line_read : {most count : ℕ} {rest : List ℕ} {waits waits' : Waiting} {left : Option (List ℕ)} (line : List ℕ)
    → Waits most rest waits left count → count ≢ 0 → line ≡ take count (waiting waits)
    → waiting waits' ≡ drop count (waiting waits) → IsLineRead most rest line waits' left
line_read line waits some is passed = record {
  some = some_left waits some;
  is = is ∙ waits.line;
  short = line_length waits is;
  left = left_behind waits passed;
}

-- ---- what is counted

counted : (failures failures' : ℕ) (f : LinesFault) → IsNoRead (Err f) → failures' ≡ failures
    → CountsReads {A = Unit {0}} failures failures' (Err f)
counted failures failures' fault.Read none same = absurd none
counted failures failures' fault.Write none same = same
counted failures failures' fault.Memory none same = same
counted failures failures' (fault.Wrong m column path due) none same = same
counted failures failures' (fault.Refused m r) none same = same
counted failures failures' (fault.TooLong m limit) none same = same

-- behind a fault that is none of a read, as many reads have failed as before
pub no_read_counted : (failures failures' : ℕ) (f : LinesFault) (r : Result (Unit {0}) LinesFault)
    → IsErrAnd r (λ e. e ≡ f) → IsNoRead (Err f) → failures' ≡ failures → CountsReads failures failures' r
no_read_counted failures failures' f (Ok u) is none same = absurd is
no_read_counted failures failures' f (Err e) is none same =
    subst (λ (k : LinesFault). CountsReads {A = Unit {0}} failures failures' (Err k)) (sym is)
    (counted failures failures' f none same)
